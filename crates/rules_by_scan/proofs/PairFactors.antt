-- SPDX-FileCopyrightText: 2026 The PPVM Authors
-- SPDX-License-Identifier: Apache-2.0

-- The factors of a pair with p between their two words: one, those of one left word, those of each left word. Assumes nothing.
use mathlib.Core.Path.{◌≡◌, refl, sym, ap, ap₂, ◌∙◌, subst}
use mathlib.Core.Bool.{Bool, true, false, cond}
use mathlib.Core.List.{List, [], ◌∷◌, ◌++◌, map, append-nil, append_assoc}
use Prim.Native.Nat.{ℕ, zero, suc, ◌+◌, ◌-◌, ◌*◌, ◌%◌, ◌≤◌, ◌<◌}
use native.Mathlib.Nat.{suc-mul}
use native.Mathlib.Omega.{arith}
use lib.Ieee.{Float, binary64, mul}
use lib.ListN.{length, take, drop}
use lib.Seq.{take-take, drop-drop}
use Rattle.word.specs.Product.{phase, product}
use Rattle.word.specs.Product as Words
use Rattle.word.specs.Flat.{words, word_lanes}
use Rattle.word.specs.declared.word.Word.{Word}
use Rattle.word.specs.declared.algebra.Phased.{Phased}
use Rattle.number.specs.Numbers.{Cx, mul_c, real_c, unit_c}
use Rattle.number.specs.Floats.{floats, float2}
use Rattle.gksl.specs.Rules.{gather_over}
use Rattle.gksl.specs.Words.{pauli}
use Rattle.sums.specs.Numbers.{complexes}
use Rattle.sums.specs.Sums.{rows}
use Rattle.std.specs.Prelude.{Option, Some, None}
use Rattle.model.specs.Terms.{Term, term_at, terms_in, terms_of}
use Rattle.model.proofs.TermLaws.{terms_none, terms_more}
use Rattle.model.specs.Tested.{width}
use Rattle.model.specs.declared.stored.Range.{Range}
use Rattle.rule_terms.specs.Adds.{folded, doubled, each_factor}
use Rattle.rule_terms.specs.Sums.{SumsRoom, TermsRoom, PutsAll}
use Rattle.rules_by_scan.proofs.GatherLaws.{terms_parted}
use Rattle.rule_terms.proofs.PutsLaws.{puts_none, puts_same, puts_room, puts_full, puts_more}

-- ---- one factor, from the product of the left word with p
unfoldable pub by_product : Bool → Phased → Term → Term
by_product double left f =
    let z : Cx floats = mul_c floats f.num (unit_c floats ((left.phase + phase left.word f.word) % 4)) in
    let w : Word = Words.mul left.word f.word in
    cond double (record { num = real_c floats (mul binary64 float2 z.re); word = w }) (record { num = z; word = w })

abbrev pub single : Bool → Phased → Term → List Term
single double left f = by_product double left f ∷ []

module _ (a p : Word) (left : Phased) (h : left ≡ product a p) where
  by_left : (double : Bool) (f : Term) → cond double (doubled p) (folded p) a f ≡ by_product double left f
  unfolding by_product folded doubled
  by_left true f = sym (ap (λ (k : Phased). by_product true k f) h)
  by_left false f = sym (ap (λ (k : Phased). by_product false k f) h)

  pub single_is : (double : Bool) (r f g : Term) → r ≡ cond double (doubled p) (folded p) a f → f ≡ g → r ∷ [] ≡ single double left g
  single_is double r f g e q = ap (λ (t : Term). t ∷ []) (e ∙ by_left double f ∙ ap (by_product double left) q)

  pub single_row : (double : Bool) (T : List Term) → gather_over floats pauli (single double left) T ≡ map (cond double (doubled p) (folded p) a) T
  unfolding gather_over
  single_row double [] = refl
  single_row double (f ∷ T) = ap₂ (λ (t : Term) (l : List Term). t ∷ l) (sym (by_left double f)) (single_row double T)

-- ---- a range of terms, its first ones and the rest
take_none : (n : ℕ) → ◌≡◌ {A = List Term} (take n []) []
take_none zero = refl
take_none (suc n) = refl

drop_take : (m k n : ℕ) (l : List Term) → k ≡ m + n → drop m (take k l) ≡ take n (drop m l)
drop_take zero k n l h = let e : k ≡ n = omega arith in ap (λ (i : ℕ). take i l) e
drop_take (suc m) zero n l h = absurd (omega arith)
drop_take (suc m) (suc k) n [] h = sym (take_none n)
drop_take (suc m) (suc k) n (t ∷ l) h = drop_take m k n l (omega arith)

module _ (lanes : List ℕ) (numbers : List Float) (s w e : ℕ) (h : s + w ≤ e) where
  abbrev R : List Term
  R = rows (words lanes) (complexes numbers)

  take_row : take w (terms_in lanes numbers s e) ≡ terms_in lanes numbers s (s + w)
  take_row =
      let d : w ≡ s + w - s = omega arith in
      take-take w (e - s) (drop s R) (omega arith) ∙ ap (λ (m : ℕ). take m (drop s R)) d

  drop_row : drop w (terms_in lanes numbers s e) ≡ terms_in lanes numbers (s + w) e
  drop_row =
      let d : e - s ≡ w + (e - (s + w)) = omega arith in
      drop_take w (e - s) (e - (s + w)) (drop s R) d ∙ ap (take (e - (s + w))) (drop-drop w s R)

-- ---- the factors of the left words before place i are put; the next factor stands at `place`
pub record FactorsState (p : Word) (f : Word → Term → Term) (left : Range) (w factors room len : ℕ) (lanes : List ℕ) (numbers : List Float) (lanes₀ : List ℕ) (sums₀ : List Float) (lanes' : List ℕ) (sums' : List Float) (count i place : ℕ) : Type 0 where
  pub high : i ≤ left.end
  pub fits : place + (left.end - i) * w ≡ factors + width left * w
  pub lanes_same : length lanes' ≡ length lanes₀
  pub sums_same : length sums' ≡ length sums₀
  pub done : List Term
  pub whole : done ++ each_factor p f w (terms_in lanes numbers i left.end) (terms_in lanes numbers place (factors + width left * w))
      ≡ each_factor p f w (terms_of lanes numbers left) (terms_in lanes numbers factors (factors + width left * w))
  pub puts : PutsAll room len done lanes₀ sums₀ lanes' sums' (Some count)

module _ (p : Word) (f : Word → Term → Term) (left : Range) (w factors room len : ℕ) (lanes : List ℕ) (numbers : List Float) (lanes₀ : List ℕ) (sums₀ : List Float) (s : SumsRoom room len lanes₀ sums₀) (h : TermsRoom left lanes numbers)
    (hf : (word_lanes * (factors + width left * w) ≤ length lanes) × (2 * (factors + width left * w) ≤ length numbers)) where
  abbrev last : ℕ
  last = factors + width left * w

  abbrev Total : List Term
  Total = each_factor p f w (terms_of lanes numbers left) (terms_in lanes numbers factors last)

  abbrev State : List ℕ → List Float → ℕ → ℕ → ℕ → Type 0
  State lanes' sums' count i place = FactorsState p f left w factors room len lanes numbers lanes₀ sums₀ lanes' sums' count i place

  pub factors_start : State lanes₀ sums₀ len left.start factors
  factors_start = record {
    high = h.order;
    fits = refl;
    lanes_same = refl;
    sums_same = refl;
    done = [];
    whole = refl;
    puts = puts_none room len lanes₀ sums₀ s;
  }

  module _ (lanes' : List ℕ) (sums' : List Float) (count i place : ℕ) (t : State lanes' sums' count i place) where
    pub factors_room : SumsRoom room count lanes' sums'
    factors_room = puts_room room len lanes₀ sums₀ s lanes' sums' t.done count (Some count) t.puts refl t.lanes_same t.sums_same

    pub factors_done : left.end ≤ i → PutsAll room len Total lanes₀ sums₀ lanes' sums' (Some count)
    unfolding each_factor
    factors_done k =
        let e : i ≡ left.end = omega (arith, t.high) in
        let none : terms_in lanes numbers i left.end ≡ [] = ap (λ (m : ℕ). terms_in lanes numbers m left.end) e ∙ terms_none lanes numbers left.end in
        puts_same room len lanes₀ sums₀ s lanes' sums' t.done Total (Some count)
        (sym (append-nil t.done) ∙ ap (λ (l : List Term). t.done ++ each_factor p f w l (terms_in lanes numbers place last)) (sym none) ∙ t.whole) t.puts

    module _ (k : i < left.end) where
      one_less : (left.end - i) * w ≡ (left.end - (i + 1)) * w + w
      one_less = let d : left.end - i ≡ suc (left.end - (i + 1)) = omega arith in ap (λ (x : ℕ). x * w) d ∙ suc-mul (left.end - (i + 1)) w

      row_ends : place + w ≤ last
      row_ends = omega (arith, t.fits, one_less)

      abbrev row : List Term
      row = map (f (term_at lanes numbers i).word) (terms_in lanes numbers place (place + w))

      abbrev rest : List Term
      rest = each_factor p f w (terms_in lanes numbers (i + 1) left.end) (terms_in lanes numbers (place + w) last)

      first_left : terms_in lanes numbers i left.end ≡ term_at lanes numbers i ∷ terms_in lanes numbers (i + 1) left.end
      first_left =
          terms_parted lanes numbers i (i + 1) left.end (omega arith) (omega arith)
          ∙ ap (λ (l : List Term). l ++ terms_in lanes numbers (i + 1) left.end)
          (terms_more lanes numbers i i (omega arith) (omega (arith, h.lanes_long)) (omega (arith, h.numbers_long)) ∙ ap (λ (l : List Term). l ++ (term_at lanes numbers i ∷ [])) (terms_none lanes numbers i))

      next_row : each_factor p f w (terms_in lanes numbers i left.end) (terms_in lanes numbers place last) ≡ row ++ rest
      unfolding each_factor
      next_row =
          ap (λ (l : List Term). each_factor p f w l (terms_in lanes numbers place last)) first_left
          ∙ ap₂ (λ (x y : List Term). map (f (term_at lanes numbers i).word) x ++ each_factor p f w (terms_in lanes numbers (i + 1) left.end) y)
          (take_row lanes numbers place w last row_ends) (drop_row lanes numbers place w last row_ends)

      -- the row of factors is inside the terms table
      pub factors_row : (place ≤ place + w) × (word_lanes * (place + w) ≤ length lanes) × (2 * (place + w) ≤ length numbers)
      factors_row = (omega arith, omega (arith, row_ends, hf.0), omega (arith, row_ends, hf.1))

      module _ (A : List Term) (e : A ≡ row) (lanes'' : List ℕ) (sums'' : List Float) (r : Option ℕ) (q : PutsAll room count A lanes' sums' lanes'' sums'' r) where
        next_puts : PutsAll room len (t.done ++ row) lanes₀ sums₀ lanes'' sums'' r
        next_puts =
            puts_same room len lanes₀ sums₀ s lanes'' sums'' (t.done ++ A) (t.done ++ row) r (ap (λ (l : List Term). t.done ++ l) e)
            (puts_more room len lanes₀ sums₀ s lanes' sums' t.done A count (Some count) t.puts refl lanes'' sums'' r q)

        next_whole : (t.done ++ row) ++ rest ≡ Total
        next_whole = append_assoc t.done row rest ∙ ap (λ (l : List Term). t.done ++ l) (sym next_row) ∙ t.whole

        pub factors_next : (m : ℕ) → r ≡ Some m → length lanes'' ≡ length lanes' → length sums'' ≡ length sums' → State lanes'' sums'' m (i + 1) (place + w)
        factors_next m g el es = record {
          high = omega arith;
          fits = omega (arith, t.fits, one_less);
          lanes_same = el ∙ t.lanes_same;
          sums_same = es ∙ t.sums_same;
          done = t.done ++ row;
          whole = next_whole;
          puts = subst (λ (x : Option ℕ). PutsAll room len (t.done ++ row) lanes₀ sums₀ lanes'' sums'' x) g next_puts;
        }

        pub factors_full : r ≡ None → PutsAll room len Total lanes₀ sums₀ lanes'' sums'' None
        factors_full g =
            puts_same room len lanes₀ sums₀ s lanes'' sums'' ((t.done ++ row) ++ rest) Total None next_whole
            (puts_full room len lanes₀ sums₀ s lanes'' sums'' (t.done ++ row) rest r next_puts g)
