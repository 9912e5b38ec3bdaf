-- SPDX-FileCopyrightText: 2026 The PPVM Authors
-- SPDX-License-Identifier: Apache-2.0

-- What a pair adds by where p lies, and that a jump adds nothing among the pairs. Assumes nothing.
use mathlib.Core.Path.{◌≡◌, refl, sym, ap}
use mathlib.Core.Bool.{Bool, true, false, ◌&&◌}
use mathlib.Core.List.{List, [], ◌++◌}
use Prim.Native.Nat.{ℕ, ◌+◌, ◌*◌}
use borrow.Author.Tests.{eq-eqb, ne_eqb}
use lib.Dec.{eqb}
use lib.Ieee.{Float}
use Rattle.word.specs.declared.word.Word.{Word}
use Rattle.number.specs.Floats.{floats}
use Rattle.gksl.specs.Rules.{gather_over, overlaps_over}
use Rattle.gksl.specs.Words.{pauli}
use Rattle.model.specs.Terms.{Term, terms_in, terms_of}
use Rattle.model.specs.Stored.{ModelTables}
use Rattle.model.specs.Tested.{width}
use Rattle.model.specs.declared.stored.Range.{Range}
use Rattle.model.specs.declared.stored.Jump.{Jump}
use Rattle.model.specs.declared.stored.Jump.TheVariants.{Pauli, General, Pair}
use Rattle.rule_terms.specs.Adds.{folded, doubled, each_factor, diagonal, both_sides, one_side, pair_adds}
use Rattle.rules_by_scan.proofs.ItemLaws.{of_terms}

-- ---- whether two ranges are one
pub same_start : (s t : ℕ) (b : Bool) → s ≡ t → b ≡ (eqb s t && b)
same_start s t b h = ap (λ (a : Bool). a && b) (sym (eq-eqb s t h))

pub other_start : (s t : ℕ) (b : Bool) → (s ≡ t → ⊥) → false ≡ (eqb s t && b)
other_start s t b h = ap (λ (a : Bool). a && b) (sym (ne_eqb s t h))

module _ (p : Word) (t : ModelTables) (lanes : List ℕ) (numbers : List Float) (ew : t.t_words ≡ lanes) (en : t.t_numbers ≡ numbers) where
  -- ---- a pair, by where p lies
  module _ (left right : Range) (factors : ℕ) (prod : Range) where
    abbrev same : Bool
    same = eqb left.start right.start && eqb left.end right.end

    abbrev on : Range → Bool
    on r = overlaps_over floats pauli (terms_of lanes numbers r) p

    abbrev adds : List Term
    adds = pair_adds p t (Pair left right factors prod)

    abbrev each : (Word → Term → Term) → List Term
    each f = each_factor p f (width right) (terms_of lanes numbers left) (terms_in lanes numbers factors (factors + width left * width right))

    abbrev over : (Term → List Term) → List Term
    over f = gather_over floats pauli f (terms_of lanes numbers prod)

    pub diagonal_on : same ≡ true → on left ≡ true → adds ≡ each (folded p) ++ over (diagonal p)
    unfolding pair_adds
    diagonal_on e l = rw (ew, en, e, l)

    pub diagonal_off : same ≡ true → on left ≡ false → adds ≡ []
    unfolding pair_adds
    diagonal_off e l = rw (ew, en, e, l)

    pub both_on : same ≡ false → on left ≡ true → on right ≡ true → adds ≡ each (doubled p) ++ over (both_sides p)
    unfolding pair_adds
    both_on e l r = rw (ew, en, e, l, r)

    pub left_on : same ≡ false → on left ≡ true → on right ≡ false → adds ≡ over (one_side p (λ x. x))
    unfolding pair_adds
    left_on e l r = rw (ew, en, e, l, r)

    pub right_on : same ≡ false → on left ≡ false → on right ≡ true → adds ≡ over (one_side p floats.opposite)
    unfolding pair_adds
    right_on e l r = rw (ew, en, e, l, r)

    pub both_off : same ≡ false → on left ≡ false → on right ≡ false → adds ≡ []
    unfolding pair_adds
    both_off e l r = rw (ew, en, e, l, r)

  -- ---- a jump adds nothing among the pairs
  pub pauli_none : (j : Jump) (rate : Float) (term : ℕ) → j ≡ Pauli rate term → pair_adds p t j ≡ []
  unfolding pair_adds
  pauli_none j rate term e = ap (pair_adds p t) e

  pub general_none : (j : Jump) (rate : Float) (terms prod : Range) → j ≡ General rate terms prod → pair_adds p t j ≡ []
  unfolding pair_adds
  general_none j rate terms prod e = ap (pair_adds p t) e

  -- ---- of the tables a pair needs only that of terms
  pub pair_same : (j : Jump) → pair_adds p (of_terms lanes numbers) j ≡ pair_adds p t j
  unfolding pair_adds
  pair_same (Pauli rate term) = refl
  pair_same (General rate terms prod) = refl
  pair_same (Pair left right factors prod) = rw (ew, en) refl
