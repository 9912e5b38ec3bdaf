-- SPDX-FileCopyrightText: 2026 The PPVM Authors
-- SPDX-License-Identifier: Apache-2.0

-- The items of a model taken one after another, each with what is put to the sums for it; and the ranges of a jump that
-- passed its test. Assumes nothing.
use mathlib.Core.Path.{◌≡◌, refl, sym, ap, ap₂, ◌∙◌, subst}
use mathlib.Core.Bool.{Bool, true, false, cond, ◌&&◌}
use mathlib.Core.List.{List, [], ◌∷◌, ◌++◌, map, append-nil, append_assoc}
use Prim.Native.Nat.{ℕ, zero, suc, ◌+◌, ◌-◌, ◌*◌, ◌%◌, ◌≤◌, ◌<◌}
use native.Mathlib.Omega.{arith}
use borrow.Author.Tests.{ltb-true, leb-true, not-false}
use lib.Dec.{ltb, leb}
use lib.Ieee.{Float, nan}
use lib.ListN.{length, get_or}
use Rattle.word.specs.Word.{identity}
use Rattle.word.specs.Flat.{words, word_lanes}
use Rattle.word.specs.Product.{phase}
use Rattle.word.specs.Product as Words
use Rattle.word.specs.Register.{share}
use Rattle.word.specs.declared.word.Word.{Word}
use Rattle.number.specs.Floats.{floats}
use Rattle.gksl.specs.Model.{RealTerm}
use Rattle.gksl.specs.Rules.{terms_over, clash_over, factored}
use Rattle.gksl.specs.Words.{pauli}
use Rattle.std.specs.Prelude.{Option, Some, None}
use Rattle.model.specs.Terms.{Term}
use Rattle.model.specs.Stored.{ModelTables, range, jump_at}
use Rattle.model.specs.Tested.{inside, width, bad_jump}
use Rattle.model.specs.declared.stored.Range.{Range}
use Rattle.model.specs.declared.stored.Jump.{Jump}
use Rattle.model.specs.declared.stored.Jump.TheVariants.{Pauli, General, Pair}
use Rattle.word.specs.Count.{up_to}
use Rattle.model.specs.Between.{model_tables}
use Rattle.rule_terms.specs.Adds.{real_at, jump_adds, gather_jumps}
use Rattle.rule_terms.specs.Sums.{SumsRoom, TermsRoom, PutsAll}
use Rattle.rule_terms.proofs.PutsLaws.{puts_nothing, puts_same, puts_room, puts_full, puts_more}

-- ---- the numbers from k on, parted
up_parted : (k m n : ℕ) → up_to k (m + n) ≡ up_to k m ++ up_to (k + m) n
unfolding up_to
up_parted k zero n =
    let e : k ≡ k + 0 = omega arith in
    let f : 0 + n ≡ n = omega arith in
    ap (up_to k) f ∙ ap (λ (i : ℕ). up_to i n) e
up_parted k (suc m) n =
    let e : suc m + n ≡ suc (m + n) = omega arith in
    let f : suc k + m ≡ k + suc m = omega arith in
    ap (up_to k) e ∙ ap (λ (l : List ℕ). k ∷ l) (up_parted (suc k) m n ∙ ap (λ (i : ℕ). up_to (suc k) m ++ up_to i n) f)

-- ---- what is gathered over some numbers
unfoldable pub each : (ℕ → List Term) → List ℕ → List Term
each g [] = []
each g (k ∷ K) = g k ++ each g K

each_append : (g : ℕ → List Term) (A B : List ℕ) → each g (A ++ B) ≡ each g A ++ each g B
unfolding each
each_append g [] B = refl
each_append g (k ∷ A) B = ap (λ (l : List Term). g k ++ l) (each_append g A B) ∙ sym (append_assoc (g k) (each g A) (each g B))

each_parted : (g : ℕ → List Term) (m n : ℕ) → m ≤ n → each g (up_to 0 n) ≡ each g (up_to 0 m) ++ each g (up_to m (n - m))
each_parted g m n h =
    let e : n ≡ m + (n - m) = omega arith in
    let f : 0 + m ≡ m = omega arith in
    ap (λ (i : ℕ). each g (up_to 0 i)) e ∙ ap (each g) (up_parted 0 m (n - m)) ∙ each_append g (up_to 0 m) (up_to (0 + m) (n - m))
    ∙ ap (λ (i : ℕ). each g (up_to 0 m) ++ each g (up_to i (n - m))) f

each_last : (g : ℕ → List Term) (j : ℕ) → each g (up_to 0 (j + 1)) ≡ each g (up_to 0 j) ++ g j
unfolding each up_to
each_last g j =
    let e : j + 1 - j ≡ 1 = omega arith in
    each_parted g j (j + 1) (omega arith) ∙ ap (λ (i : ℕ). each g (up_to 0 j) ++ each g (up_to j i)) e ∙ ap (λ (l : List Term). each g (up_to 0 j) ++ l) (append-nil (g j))

-- ---- the numbers before j are put
pub record EachState (g : ℕ → List Term) (all room len : ℕ) (lanes₀ : List ℕ) (sums₀ : List Float) (lanes' : List ℕ) (sums' : List Float) (count j : ℕ) : Type 0 where
  pub high : j ≤ all
  pub lanes_same : length lanes' ≡ length lanes₀
  pub sums_same : length sums' ≡ length sums₀
  pub puts : PutsAll room len (each g (up_to 0 j)) lanes₀ sums₀ lanes' sums' (Some count)

module _ (g : ℕ → List Term) (all room len : ℕ) (lanes₀ : List ℕ) (sums₀ : List Float) (s : SumsRoom room len lanes₀ sums₀) where
  abbrev State : List ℕ → List Float → ℕ → ℕ → Type 0
  State lanes' sums' count j = EachState g all room len lanes₀ sums₀ lanes' sums' count j

  pub each_start : State lanes₀ sums₀ len 0
  unfolding each up_to
  each_start = record {
    high = omega arith;
    lanes_same = refl;
    sums_same = refl;
    puts = puts_nothing room len lanes₀ sums₀ s (each g (up_to 0 0)) refl;
  }

  module _ (lanes' : List ℕ) (sums' : List Float) (count j : ℕ) (t : State lanes' sums' count j) where
    pub each_room : SumsRoom room count lanes' sums'
    each_room = puts_room room len lanes₀ sums₀ s lanes' sums' (each g (up_to 0 j)) count (Some count) t.puts refl t.lanes_same t.sums_same

    pub each_done : all ≤ j → PutsAll room len (each g (up_to 0 all)) lanes₀ sums₀ lanes' sums' (Some count)
    each_done k =
        let e : j ≡ all = omega (arith, t.high) in
        subst (λ (i : ℕ). PutsAll room len (each g (up_to 0 i)) lanes₀ sums₀ lanes' sums' (Some count)) e t.puts

    module _ (k : j < all) (A : List Term) (e : A ≡ g j) (lanes'' : List ℕ) (sums'' : List Float) (r : Option ℕ) (p : PutsAll room count A lanes' sums' lanes'' sums'' r) where
      next_puts : PutsAll room len (each g (up_to 0 (j + 1))) lanes₀ sums₀ lanes'' sums'' r
      next_puts =
          puts_same room len lanes₀ sums₀ s lanes'' sums'' (each g (up_to 0 j) ++ A) (each g (up_to 0 (j + 1))) r (ap (λ (l : List Term). each g (up_to 0 j) ++ l) e ∙ sym (each_last g j))
          (puts_more room len lanes₀ sums₀ s lanes' sums' (each g (up_to 0 j)) A count (Some count) t.puts refl lanes'' sums'' r p)

      pub each_next : (m : ℕ) → r ≡ Some m → length lanes'' ≡ length lanes' → length sums'' ≡ length sums' → State lanes'' sums'' m (j + 1)
      each_next m f el es = record {
        high = omega arith;
        lanes_same = el ∙ t.lanes_same;
        sums_same = es ∙ t.sums_same;
        puts = subst (λ (q : Option ℕ). PutsAll room len (each g (up_to 0 (j + 1))) lanes₀ sums₀ lanes'' sums'' q) f next_puts;
      }

      pub each_full : r ≡ None → PutsAll room len (each g (up_to 0 all)) lanes₀ sums₀ lanes'' sums'' None
      each_full f =
          let B : List Term = each g (up_to (j + 1) (all - (j + 1))) in
          puts_same room len lanes₀ sums₀ s lanes'' sums'' (each g (up_to 0 (j + 1)) ++ B) (each g (up_to 0 all)) None (sym (each_parted g (j + 1) all (omega arith)))
          (puts_full room len lanes₀ sums₀ s lanes'' sums'' (each g (up_to 0 (j + 1))) B r next_puts f)

-- ---- the Hamiltonian terms
abbrev first_adds : RealTerm floats pauli → Word → List Term
first_adds h p = cond (share h.word p) (factored floats pauli (phase h.word p % 4) h.num (Words.mul h.word p)) []

terms_first : (h : RealTerm floats pauli) (H : List (RealTerm floats pauli)) (p : Word) → terms_over floats pauli (h ∷ []) p ++ terms_over floats pauli H p ≡ terms_over floats pauli (h ∷ H) p
unfolding terms_over
terms_first h H p = ap (λ (l : List Term). l ++ terms_over floats pauli H p) (append-nil (first_adds h p))

abbrev pub real_adds : List ℕ → List Float → Word → ℕ → List Term
real_adds lanes coeffs p i = terms_over floats pauli (record { num = get_or coeffs i nan; word = get_or (words lanes) i identity } ∷ []) p

pub real_word : (lanes : List ℕ) (coeffs : List Float) (p : Word) (i : ℕ) (w : Word) → w ≡ get_or (words lanes) i identity
    → terms_over floats pauli (record { num = get_or coeffs i nan; word = w } ∷ []) p ≡ real_adds lanes coeffs p i
real_word lanes coeffs p i w e = ap (λ (v : Word). terms_over floats pauli (record { num = get_or coeffs i nan; word = v } ∷ []) p) e

pub reals_each : (t : ModelTables) (lanes : List ℕ) (coeffs : List Float) (p : Word) (K : List ℕ) → t.h_words ≡ lanes → t.h_coeffs ≡ coeffs
    → each (real_adds lanes coeffs p) K ≡ terms_over floats pauli (map (real_at t) K) p
unfolding each terms_over
reals_each t lanes coeffs p [] ew ec = refl
reals_each t lanes coeffs p (k ∷ K) ew ec =
    ap₂ (λ (a b : List Term). a ++ b) (ap₂ (λ (l : List ℕ) (x : List Float). real_adds l x p k) (sym ew) (sym ec)) (reals_each t lanes coeffs p K ew ec)
    ∙ terms_first (real_at t k) (map (real_at t) K) p

-- ---- the jumps; of the tables they need only that of terms
abbrev pub of_terms : List ℕ → List Float → ModelTables
of_terms lanes numbers = model_tables [] [] [] [] lanes numbers

module _ (p : Word) (t : ModelTables) (lanes : List ℕ) (numbers : List Float) (ew : t.t_words ≡ lanes) (en : t.t_numbers ≡ numbers) where
  pub pauli_adds : (j : Jump) (rate : Float) (term : ℕ) (w : Word) → j ≡ Pauli rate term → w ≡ get_or (words lanes) term identity
      → cond (share w p) (clash_over floats pauli (phase w p % 2) rate p) [] ≡ jump_adds p t j
  unfolding jump_adds
  pauli_adds j rate term w e h =
      ap (λ (v : Word). cond (share v p) (clash_over floats pauli (phase v p % 2) rate p) []) (h ∙ ap (λ (l : List ℕ). get_or (words l) term identity) (sym ew)) ∙ ap (jump_adds p t) (sym e)

  pub pair_adds : (j : Jump) (left right : Range) (factors : ℕ) (prod : Range) → j ≡ Pair left right factors prod → jump_adds p t j ≡ []
  unfolding jump_adds
  pair_adds j left right factors prod e = ap (jump_adds p t) e

  pub jump_same : (j : Jump) → jump_adds p (of_terms lanes numbers) j ≡ jump_adds p t j
  unfolding jump_adds
  jump_same (Pauli rate term) = rw ew refl
  jump_same (General rate terms prod) = rw (ew, en) refl
  jump_same (Pair left right factors prod) = refl

-- what is gathered from the entries, by two functions that agree
pub jumps_each : (f g : Jump → List Term) → ((j : Jump) → f j ≡ g j) → (jumps : List ℕ) (rates : List Float) (K : List ℕ)
    → each (λ k. f (jump_at jumps rates k)) K ≡ gather_jumps g (map (jump_at jumps rates) K)
unfolding each gather_jumps
jumps_each f g h jumps rates [] = refl
jumps_each f g h jumps rates (k ∷ K) = ap₂ (λ (a b : List Term). a ++ b) (h (jump_at jumps rates k)) (jumps_each f g h jumps rates K)

-- ---- a jump that passed its test
both : (a : Bool) {b : Bool} → (a && b) ≡ true → (a ≡ true) × (b ≡ true)
both true h = (refl, h)
both false h = let z : ◌≡◌ {A = ℕ} 0 1 = cc in absurd (omega arith)

module _ (places : ℕ) (lanes : List ℕ) (numbers : List Float) (hl : word_lanes * places ≤ length lanes) (hn : 2 * places ≤ length numbers) where
  range_room : (r : Range) → inside places r ≡ true → TermsRoom r lanes numbers
  range_room r h =
      let e = both (leb r.start r.end) h in
      let b : r.end ≤ places = leb-true r.end places e.1 in
      record { order = leb-true r.start r.end e.0; lanes_long = omega (arith, b, hl); numbers_long = omega (arith, b, hn) }

  pub pauli_room : (rate : Float) (term : ℕ) → bad_jump places (Pauli rate term) ≡ false → word_lanes * term + word_lanes ≤ length lanes
  unfolding bad_jump
  pauli_room rate term h = omega (arith, ltb-true term places (both (ltb term places) (not-false _ h)).0, hl)

  pub general_room : (rate : Float) (terms prod : Range) → bad_jump places (General rate terms prod) ≡ false → TermsRoom terms lanes numbers × TermsRoom prod lanes numbers
  unfolding bad_jump
  general_room rate terms prod h =
      let e = both (inside places terms) (not-false _ h) in
      (range_room terms e.0, range_room prod (both (inside places prod) e.1).0)

  pub pair_room : (left right : Range) (factors : ℕ) (prod : Range) → bad_jump places (Pair left right factors prod) ≡ false
      → TermsRoom left lanes numbers × TermsRoom right lanes numbers × TermsRoom (range factors (factors + width left * width right)) lanes numbers × TermsRoom prod lanes numbers
  unfolding bad_jump
  pair_room left right factors prod h =
      let e = both (inside places left) (not-false _ h) in
      let f = both (inside places right) e.1 in
      let g = both (inside places prod) f.1 in
      let b : factors + width left * width right ≤ places = leb-true (factors + width left * width right) places g.1 in
      (range_room left e.0, range_room right f.0, record { order = omega arith; lanes_long = omega (arith, b, hl); numbers_long = omega (arith, b, hn) }, range_room prod g.0)
