-- SPDX-FileCopyrightText: 2026 The PPVM Authors
-- SPDX-License-Identifier: Apache-2.0

-- The terms of a range of the terms table, taken one after another, each with what is put to the sums for it. Assumes nothing.
use mathlib.Core.Path.{◌≡◌, refl, sym, ap, ◌∙◌, subst}
use mathlib.Core.List.{List, [], ◌∷◌, ◌++◌, map, append-nil, append_assoc}
use Prim.Native.Nat.{ℕ, ◌+◌, ◌-◌, ◌≤◌, ◌<◌}
use native.Mathlib.Omega.{arith}
use lib.Ieee.{Float}
use lib.ListN.{length, take, drop}
use lib.Seq.{take-add, drop-drop}
use Rattle.word.specs.Flat.{words}
use Rattle.number.specs.Floats.{floats}
use Rattle.gksl.specs.Rules.{pairs_over, gather_over}
use Rattle.gksl.specs.Words.{pauli}
use Rattle.sums.specs.Numbers.{complexes}
use Rattle.sums.specs.Sums.{rows}
use Rattle.std.specs.Prelude.{Option, Some, None}
use Rattle.model.specs.Terms.{Term, term_at, terms_in, terms_of}
use Rattle.model.proofs.TermLaws.{terms_none, terms_more}
use Rattle.model.specs.declared.stored.Range.{Range}
use Rattle.rule_terms.specs.Sums.{SumsRoom, TermsRoom, PutsAll}
use Rattle.rule_terms.proofs.PutsLaws.{puts_nothing, puts_same, puts_room, puts_full, puts_more}

-- ---- what is gathered from some terms, then more
pub gather_append : (g : Term → List Term) (A B : List Term) → gather_over floats pauli g (A ++ B) ≡ gather_over floats pauli g A ++ gather_over floats pauli g B
unfolding gather_over
gather_append g [] B = refl
gather_append g (t ∷ A) B =
    ap (λ (l : List Term). g t ++ l) (gather_append g A B) ∙ sym (append_assoc (g t) (gather_over floats pauli g A) (gather_over floats pauli g B))

gather_last : (g : Term → List Term) (A : List Term) (t : Term) → gather_over floats pauli g (A ++ (t ∷ [])) ≡ gather_over floats pauli g A ++ g t
unfolding gather_over
gather_last g A t = gather_append g A (t ∷ []) ∙ ap (λ (l : List Term). gather_over floats pauli g A ++ l) (append-nil (g t))

-- one term for each, and a row for each
pub map_gathered : (f : Term → Term) (A : List Term) → gather_over floats pauli (λ t. f t ∷ []) A ≡ map f A
unfolding gather_over
map_gathered f [] = refl
map_gathered f (t ∷ A) = ap (λ (l : List Term). f t ∷ l) (map_gathered f A)

pub pairs_gathered : (f : Term → Term → Term) (A B : List Term) → gather_over floats pauli (λ a. map (f a) B) A ≡ pairs_over floats pauli f A B
unfolding gather_over pairs_over
pairs_gathered f [] B = refl
pairs_gathered f (a ∷ A) B = ap (λ (l : List Term). map (f a) B ++ l) (pairs_gathered f A B)

pub single_term : (f : Term → Term) (v b b' : Term) → v ≡ f b → b ≡ b' → v ∷ [] ≡ f b' ∷ []
single_term f v b b' e d = ap (λ (t : Term). t ∷ []) (e ∙ ap f d)

-- ---- the terms of a range, parted at a place
pub terms_parted : (lanes : List ℕ) (numbers : List Float) (s j e : ℕ) → s ≤ j → j ≤ e → terms_in lanes numbers s e ≡ terms_in lanes numbers s j ++ terms_in lanes numbers j e
terms_parted lanes numbers s j e h k =
    let R : List Term = rows (words lanes) (complexes numbers) in
    let p : e - s ≡ (j - s) + (e - j) = omega arith in
    let q : s + (j - s) ≡ j = omega arith in
    ap (λ (m : ℕ). take m (drop s R)) p ∙ take-add (j - s) (e - j) (drop s R)
    ∙ ap (λ (l : List Term). take (j - s) (drop s R) ++ take (e - j) l) (drop-drop (j - s) s R ∙ ap (λ (m : ℕ). drop m R) q)

-- ---- the terms before place j are put
pub record GatherState (g : Term → List Term) (range : Range) (room len : ℕ) (lanes : List ℕ) (numbers : List Float) (lanes₀ : List ℕ) (sums₀ : List Float) (lanes' : List ℕ) (sums' : List Float) (count j : ℕ) : Type 0 where
  pub low : range.start ≤ j
  pub high : j ≤ range.end
  pub lanes_same : length lanes' ≡ length lanes₀
  pub sums_same : length sums' ≡ length sums₀
  pub puts : PutsAll room len (gather_over floats pauli g (terms_in lanes numbers range.start j)) lanes₀ sums₀ lanes' sums' (Some count)

module _ (g : Term → List Term) (range : Range) (room len : ℕ) (lanes : List ℕ) (numbers : List Float) (lanes₀ : List ℕ) (sums₀ : List Float) (s : SumsRoom room len lanes₀ sums₀) (h : TermsRoom range lanes numbers) where
  abbrev Before : ℕ → List Term
  Before j = gather_over floats pauli g (terms_in lanes numbers range.start j)

  abbrev State : List ℕ → List Float → ℕ → ℕ → Type 0
  State lanes' sums' count j = GatherState g range room len lanes numbers lanes₀ sums₀ lanes' sums' count j

  pub gather_start : State lanes₀ sums₀ len range.start
  unfolding gather_over
  gather_start = record {
    low = omega arith;
    high = h.order;
    lanes_same = refl;
    sums_same = refl;
    puts = puts_nothing room len lanes₀ sums₀ s (Before range.start) (ap (gather_over floats pauli g) (terms_none lanes numbers range.start));
  }

  module _ (lanes' : List ℕ) (sums' : List Float) (count j : ℕ) (t : State lanes' sums' count j) where
    pub gather_room : SumsRoom room count lanes' sums'
    gather_room = puts_room room len lanes₀ sums₀ s lanes' sums' (Before j) count (Some count) t.puts refl t.lanes_same t.sums_same

    pub gather_done : range.end ≤ j → PutsAll room len (gather_over floats pauli g (terms_of lanes numbers range)) lanes₀ sums₀ lanes' sums' (Some count)
    gather_done k =
        let e : j ≡ range.end = omega (arith, t.high) in
        subst (λ (i : ℕ). PutsAll room len (Before i) lanes₀ sums₀ lanes' sums' (Some count)) e t.puts

    module _ (k : j < range.end) where
      before_next : Before (j + 1) ≡ Before j ++ g (term_at lanes numbers j)
      before_next =
          ap (gather_over floats pauli g) (terms_more lanes numbers range.start j t.low (omega (arith, h.lanes_long)) (omega (arith, h.numbers_long)))
          ∙ gather_last g (terms_in lanes numbers range.start j) (term_at lanes numbers j)

      module _ (A : List Term) (e : A ≡ g (term_at lanes numbers j)) (lanes'' : List ℕ) (sums'' : List Float) (r : Option ℕ) (p : PutsAll room count A lanes' sums' lanes'' sums'' r) where
        next_puts : PutsAll room len (Before (j + 1)) lanes₀ sums₀ lanes'' sums'' r
        next_puts =
            puts_same room len lanes₀ sums₀ s lanes'' sums'' (Before j ++ A) (Before (j + 1)) r (ap (λ (l : List Term). Before j ++ l) e ∙ sym before_next)
            (puts_more room len lanes₀ sums₀ s lanes' sums' (Before j) A count (Some count) t.puts refl lanes'' sums'' r p)

        pub gather_next : (m : ℕ) → r ≡ Some m → length lanes'' ≡ length lanes' → length sums'' ≡ length sums' → State lanes'' sums'' m (j + 1)
        gather_next m f el es = record {
          low = omega (arith, t.low);
          high = omega arith;
          lanes_same = el ∙ t.lanes_same;
          sums_same = es ∙ t.sums_same;
          puts = subst (λ (q : Option ℕ). PutsAll room len (Before (j + 1)) lanes₀ sums₀ lanes'' sums'' q) f next_puts;
        }

        pub gather_full : r ≡ None → PutsAll room len (gather_over floats pauli g (terms_of lanes numbers range)) lanes₀ sums₀ lanes'' sums'' None
        gather_full f =
            let B : List Term = gather_over floats pauli g (terms_in lanes numbers (j + 1) range.end) in
            let parted : Before (j + 1) ++ B ≡ gather_over floats pauli g (terms_of lanes numbers range) =
            sym (ap (gather_over floats pauli g) (terms_parted lanes numbers range.start (j + 1) range.end (omega (arith, t.low)) (omega arith))
            ∙ gather_append g (terms_in lanes numbers range.start (j + 1)) (terms_in lanes numbers (j + 1) range.end)) in
            puts_same room len lanes₀ sums₀ s lanes'' sums'' (Before (j + 1) ++ B) (gather_over floats pauli g (terms_of lanes numbers range)) None parted
            (puts_full room len lanes₀ sums₀ s lanes'' sums'' (Before (j + 1)) B r next_puts f)
