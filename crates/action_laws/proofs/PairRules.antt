-- SPDX-FileCopyrightText: 2026 The PPVM Authors
-- SPDX-License-Identifier: Apache-2.0

-- A pair whose factors and product stand in the terms table adds what the rules over the two given operators do. Assumes nothing.
use mathlib.Core.Path.{◌≡◌, refl, sym, ap, ap₂, ◌∙◌}
use mathlib.Core.Bool.{Bool, true, false, ◌&&◌}
use mathlib.Core.List.{List, [], ◌∷◌, ◌++◌, map}
use Prim.Native.Nat.{ℕ, ◌+◌, ◌-◌, ◌*◌}
use lib.Dec.{eqb}
use lib.Ieee.{Float}
use lib.ListN.{length, take, drop, length-map}
use lib.Seq.{take_at, drop_at}
use Rattle.word.specs.Flat.{words}
use Rattle.word.specs.declared.word.Word.{Word}
use Rattle.number.specs.Numbers.{Cx, square}
use Rattle.number.specs.Floats.{floats}
use Rattle.gksl.specs.Rules.{pairs_over, gather_over, formed_over, diagonal_over, both_over, one_over, pair_over}
use Rattle.gksl.specs.Words.{pauli}
use Rattle.sums.specs.Numbers.{complexes}
use Rattle.sums.specs.Sums.{rows}
use Rattle.model.specs.Stored.{ModelTables, jump_at}
use Rattle.model.specs.Tested.{width}
use Rattle.model.specs.Terms.{Term}
use Rattle.model.specs.declared.stored.Range.{Range}
use Rattle.k_matrix.specs.Pairs.{factor_of, factors_of, scaled, product_after, compile_pair}
use Rattle.model_laws.proofs.RelatedLaws.{pairs_length}
use Rattle.rule_terms.specs.Adds.{folded, doubled, each_factor, diagonal, both_sides, one_side, jump_adds, pair_adds}
use Rattle.action_laws.proofs.LaidTerms.{Holds, holds_left, holds_right, holds_part}
use Rattle.action_laws.proofs.JumpRules.{jump_of}

-- ---- lists made from lists
map_twice : (f g : Term → Term) (A : List Term) → map f (map g A) ≡ map (λ a. f (g a)) A
map_twice f g [] = refl
map_twice f g (a ∷ A) = ap (λ (l : List Term). f (g a) ∷ l) (map_twice f g A)

gather_map : (f : Term → List Term) (g : Term → Term) (A : List Term) → gather_over floats pauli f (map g A) ≡ gather_over floats pauli (λ a. f (g a)) A
unfolding gather_over
gather_map f g [] = refl
gather_map f g (a ∷ A) = ap (λ (l : List Term). f (g a) ++ l) (gather_map f g A)

-- each left term with its own factors is each pair
each_pair : (p : Word) (f : Word → Term → Term) (g : Term → Term → Term) (n : ℕ) (A B : List Term) → length B ≡ n
    → each_factor p f n A (pairs_over floats pauli g A B) ≡ pairs_over floats pauli (λ a b. f a.word (g a b)) A B
unfolding each_factor pairs_over
each_pair p f g n [] B h = refl
each_pair p f g n (a ∷ A) B h =
    let own : List Term = map (g a) B in
    let rest : List Term = pairs_over floats pauli g A B in
    let many : length own ≡ n = length-map B (g a) ∙ h in
    ap₂ (λ (x y : List Term). x ++ y)
    (ap (map (f a.word)) (take_at own rest n many) ∙ map_twice (f a.word) (g a) B)
    (ap (each_factor p f n A) (drop_at own rest n many) ∙ each_pair p f g n A B h)

module _ (p : Word) (t : ModelTables) where
  abbrev R : List Term
  R = rows (words t.t_words) (complexes t.t_numbers)

  -- an operator stands in a range
  pub record Operator (r : Range) (A : List Term) : Type 0 where
    pub wide : width r ≡ length A
    pub terms : take (r.end - r.start) (drop r.start R) ≡ A

  module _ (k : Cx floats) (left right : Range) (A B : List Term) (at : ℕ) (l : Operator left A) (r : Operator right B) (h : Holds R at (compile_pair k left right A B).terms) where
    abbrev F : List Term
    F = factors_of k A B

    factors_are : take (at + width left * width right - at) (drop at R) ≡ F
    unfolding compile_pair
    factors_are =
        let many : width left * width right ≡ length A * length B = ap₂ ◌*◌ l.wide r.wide in
        holds_part R at (at + width left * width right) F (holds_left R at F (product_after k A B) h)
        (ap (λ (n : ℕ). at + n) (many ∙ sym (pairs_length floats pauli (factor_of k) A B)))

    product_is : take (at + length F + length (product_after k A B) - (at + length F)) (drop (at + length F) R) ≡ product_after k A B
    unfolding compile_pair
    product_is = holds_part R (at + length F) (at + length F + length (product_after k A B)) (product_after k A B) (holds_right R at F (product_after k A B) h) refl

    module _ (big : Float) (kept : floats.slighter (square floats k) big ≡ false) where
      abbrev same : Bool
      same = eqb left.start right.start && eqb left.end right.end

      pub pair_adds_lem : same ≡ false → pair_adds p t (jump_of (compile_pair k left right A B) at) ≡ pair_over floats pauli big k A B p
      unfolding compile_pair jump_at pair_adds pair_over both_over one_over folded doubled both_sides one_side factor_of scaled
      pair_adds_lem e =
          rw (
            e,
            kept,
            factors_are,
            product_is,
            l.terms,
            r.terms,
            r.wide,
            each_pair p (doubled p) (factor_of k) (length B) A B refl,
            gather_map (both_sides p) (scaled k) (formed_over floats pauli A B),
            gather_map (one_side p (λ x. x)) (scaled k) (formed_over floats pauli A B),
            gather_map (one_side p floats.opposite) (scaled k) (formed_over floats pauli A B),
          ) refl

      pub diagonal_adds : same ≡ true → A ≡ B → pair_adds p t (jump_of (compile_pair k left right A B) at) ≡ diagonal_over floats pauli big k A p
      unfolding compile_pair jump_at pair_adds diagonal_over folded diagonal factor_of scaled
      diagonal_adds e f =
          rw (
            e,
            kept,
            factors_are,
            product_is,
            l.terms,
            r.wide,
            ← f,
            each_pair p (folded p) (factor_of k) (length A) A A refl,
            gather_map (diagonal p) (scaled k) (formed_over floats pauli A A),
          ) refl

  -- and nothing among the jumps
  pub no_jump : (k : Cx floats) (left right : Range) (A B : List Term) (at : ℕ) → jump_adds p t (jump_of (compile_pair k left right A B) at) ≡ []
  unfolding compile_pair jump_at jump_adds
  no_jump k left right A B at = refl
