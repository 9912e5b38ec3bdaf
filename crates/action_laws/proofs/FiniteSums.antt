-- SPDX-FileCopyrightText: 2026 The PPVM Authors
-- SPDX-License-Identifier: Apache-2.0

-- The rules over the tables of a model that passes its test: each value that they add is at most 2^822, so their sums are
-- finite, however many items there are. Assumes nothing.
use mathlib.Core.Path.{◌≡◌, refl, sym, ap, ◌∙◌, subst⁻¹}
use mathlib.Core.Bool.{true, false, ◌&&◌}
use mathlib.Core.List.{List, [], ◌∷◌, map}
use Prim.Native.Nat.{ℕ, zero, suc, ◌+◌, ◌-◌, ◌*◌, ◌≤◌, ◌<◌}
use native.Mathlib.Omega.{arith}
use borrow.Author.Tests.{leb-true, le-leb, lt-ltb, not-false}
use lib.Dec.{T, eqb, leb}
use lib.Ieee.{Float}
use lib.ListN.{get_or, take, drop}
use Rattle.std.specs.Prelude.{Ok}
use Rattle.word.specs.Register.{share}
use Rattle.word.specs.Word.{identity}
use Rattle.word.specs.Flat.{words}
use Rattle.word.specs.declared.word.Word.{Word}
use Rattle.number.specs.Numbers.{Cx}
use Rattle.number.specs.Floats.{floats, is_finite}
use Rattle.number.specs.Bounds.{AtMost, AtMostC}
use Rattle.number.proofs.RangeLaws.{at_most_neg, at_most_two}
use Rattle.gksl.specs.Table.{put_all_over}
use Rattle.gksl.specs.Rules.{overlaps_over}
use Rattle.gksl.specs.Words.{pauli}
use Rattle.sums.specs.Numbers.{complexes, no_number}
use Rattle.sums.specs.Sums.{rows}
use Rattle.sums.proofs.NumberLaws.{complexes_at}
use Rattle.model.specs.Terms.{Term, terms_in}
use Rattle.model.specs.Stands.{number_at, Stands}
use Rattle.model.proofs.StandsLaws.{tested_stands}
use Rattle.model.specs.Stored.{ModelTables, jump_at, given}
use Rattle.model.specs.Tested.{inside, width, bad_jump, test_model}
use Rattle.model.specs.declared.stored.Model.{Model}
use Rattle.model.specs.declared.stored.Range.{Range}
use Rattle.model.specs.declared.stored.Jump.{Jump}
use Rattle.model.specs.declared.stored.Jump.TheVariants.{Pauli, General, Pair}
use Rattle.lent.specs.Every.{Every}
use Rattle.lent.proofs.Lists.{every_weaken, every_map}
use Rattle.model_laws.proofs.JumpTests.{both, together}
use Rattle.model_laws.proofs.TestedNumbers.{real_size, term_size, given_size, pauli_size, general_size}
use Rattle.model_laws.proofs.ActionBounds.{sandwich_value, product_value, factor_value, twice_value, diagonal_value, both_value, sums_finite}
use Rattle.model_laws.proofs.RuleBounds.{Small, Added, none, append, choose, pairs, gather, signed_small, factored_small, clash_small, terms_small}
use Rattle.rule_terms.specs.Adds.{real_at, reals_in, jumps_in, op, sandwich, dampen, folded, doubled, each_factor, diagonal, both_sides, one_side, jump_adds, pair_adds, gather_jumps, rules_stored}
use Rattle.action_laws.proofs.Runs.{every_up, every_first, every_rest}
use Rattle.word.specs.Count.{up_to}

-- ---- lists of what is added
jumps_small : (f : Jump → List Term) (J : List Jump) → Every (λ j. Added (f j)) J → Added (gather_jumps f J)
unfolding gather_jumps
jumps_small f [] h = none
jumps_small f (j ∷ J) h = append h.0 (jumps_small f J h.1)

-- ---- the numbers of rows of a table
rows_small : (k n s : ℕ) (ws : List Word) (zs : List (Cx floats)) → ((i : ℕ) → s ≤ i → i < s + n → AtMostC k (get_or zs i no_number)) → Every (Small k) (take n (drop s (rows ws zs)))
unfolding rows
rows_small k zero zero ws zs h = tt
rows_small k (suc n) zero [] zs h = tt
rows_small k (suc n) zero (w ∷ ws) [] h = tt
rows_small k (suc n) zero (w ∷ ws) (z ∷ zs) h = (h 0 (omega arith) (omega arith), rows_small k n zero ws zs (λ i l u. h (suc i) (omega arith) (omega arith)))
rows_small k n (suc s) [] zs h = every_first (Small k) n [] tt
rows_small k n (suc s) (w ∷ ws) [] h = every_first (Small k) n [] tt
rows_small k n (suc s) (w ∷ ws) (z ∷ zs) h = rows_small k n s ws zs (λ i l u. h (suc i) (omega arith) (omega arith))

module _ (p : Word) where
  -- each left term with its own factors
  factors_small : (f : Word → Term → Term) → ((a : Word) (c : Term) → Small 620 c → Small 822 (f a c)) → (n : ℕ) (A F : List Term) → Every (Small 620) F → Added (each_factor p f n A F)
  unfolding each_factor
  factors_small f make n [] F h = none
  factors_small f make n (a ∷ A) F h =
      append {A = map (f a.word) (take n F)}
      (record {
        each =
            every_map (Small 822) (f a.word) (take n F)
            (every_weaken (Small 620) (λ c. Small 822 (f a.word c)) (λ c s. make a.word c s) (take n F) (every_first (Small 620) n F h));
      })
      (factors_small f make n A (drop n F) (every_rest (Small 620) n F h))

  -- ---- what a stored term adds
  sandwich_small : (g : Float) → AtMost 200 g → (a b : Term) → Small 200 a → Small 200 b → Small 822 (sandwich p g a b)
  unfolding sandwich
  sandwich_small g r a b h k = sandwich_value _ h k r

  dampen_small : (g : Float) → AtMost 200 g → (c : Term) → Small 620 c → Added (dampen p g c)
  unfolding dampen
  dampen_small g r c h = signed_small _ _ _ (λ s k. product_value h r k)

  folded_small : (a : Word) (c : Term) → Small 620 c → Small 822 (folded p a c)
  unfolding folded
  folded_small a c h = factor_value _ h

  doubled_small : (a : Word) (c : Term) → Small 620 c → Small 822 (doubled p a c)
  unfolding doubled folded
  doubled_small a c h = twice_value _ at_most_two h

  diagonal_small : (c : Term) → Small 620 c → Added (diagonal p c)
  unfolding diagonal
  diagonal_small c h = signed_small _ _ _ (λ s k. diagonal_value h k)

  both_small : (c : Term) → Small 620 c → Added (both_sides p c)
  unfolding both_sides
  both_small c h = choose (floats.slight c.num.re) none (signed_small _ _ _ (λ s k. both_value at_most_two h k))

  one_small : (f : Float → Float) → ((x : Float) → AtMost 620 x → AtMost 620 (f x)) → (c : Term) → Small 620 c → Added (one_side p f c)
  unfolding one_side
  one_small f keeps c h = choose (floats.slight c.num.im) none (factored_small _ _ _ (keeps c.num.im h.im))

-- ---- the items of a model that stands
module _ (m : Model) (t : ModelTables) (s : Stands m t) (p : Word) where
  -- terms from one place to before another
  places_small : (k a e : ℕ) → e ≤ m.terms → ((i : ℕ) → i < m.terms → a ≤ i → i < e → AtMostC k (number_at t.t_numbers i)) → Every (Small k) (terms_in t.t_words t.t_numbers a e)
  places_small k a e h size =
      rows_small k (e - a) a (words t.t_words) (complexes t.t_numbers)
      (λ i l u. subst⁻¹ (AtMostC k) (complexes_at t.t_numbers i (omega (arith, s.t_numbers_room))) (size i (omega arith) l (omega arith)))

  -- compiled ones
  compiled_small : (a e : ℕ) → e ≤ m.terms → Every (Small 620) (terms_in t.t_words t.t_numbers a e)
  compiled_small a e h = places_small 620 a e h (λ i l _ _. term_size m t s i l)

  last_inside : (r : Range) → inside m.terms r ≡ true → r.end ≤ m.terms
  last_inside r h = leb-true r.end m.terms (both (leb r.start r.end) h).1

  module _ (j : ℕ) (l : j < m.jumps) where
    abbrev stored : Jump
    stored = jump_at t.jumps t.rates j

    fits_as : (x : Jump) → stored ≡ x → bad_jump m.terms x ≡ false
    fits_as x e = ap (bad_jump m.terms) (sym e) ∙ s.fits j l

    jump_small : (x : Jump) → stored ≡ x → Added (jump_adds p t x)
    unfolding jump_adds bad_jump
    jump_small (Pauli rate term) e = choose (share (get_or (words t.t_words) term identity) p) (clash_small _ rate p (pauli_size m t s j l rate term e)) none
    jump_small (General rate terms product) e =
        let a = both (inside m.terms terms) (not-false _ (fits_as (General rate terms product) e)) in
        let b = both (inside m.terms product) a.1 in
        let g : AtMost 200 rate = general_size m t s j l rate terms product e in
        let A : Every (Small 200) (op p t terms) =
        places_small 200 terms.start terms.end (last_inside terms a.0)
        (λ i k low high. given_size m t s i k j l (ap (λ (x : Jump). given x i) e ∙ together (le-leb terms.start i low) (lt-ltb i terms.end high))) in
        choose (overlaps_over floats pauli (op p t terms) p)
        (append (pairs (sandwich p rate) (op p t terms) (op p t terms) A A (sandwich_small p rate g))
        (gather 620 (dampen p rate) (op p t product) (compiled_small product.start product.end (last_inside product b.0)) (dampen_small p rate g)))
        none
    jump_small (Pair left right factors product) e = none

    pair_small : (x : Jump) → stored ≡ x → Added (pair_adds p t x)
    unfolding pair_adds bad_jump
    pair_small (Pauli rate term) e = none
    pair_small (General rate terms product) e = none
    pair_small (Pair left right factors product) e =
        let a = both (inside m.terms left) (not-false _ (fits_as (Pair left right factors product) e)) in
        let b = both (inside m.terms right) a.1 in
        let c = both (inside m.terms product) b.1 in
        let n : ℕ = width left * width right in
        let A : List Term = op p t left in
        let M : List Term = op p t product in
        let F : List Term = terms_in t.t_words t.t_numbers factors (factors + n) in
        let M-small : Every (Small 620) M = compiled_small product.start product.end (last_inside product c.0) in
        let F-small : Every (Small 620) F = compiled_small factors (factors + n) (leb-true (factors + n) m.terms c.1) in
        choose (eqb left.start right.start && eqb left.end right.end)
        (choose (overlaps_over floats pauli A p)
        (append (factors_small p (folded p) (folded_small p) (width right) A F F-small) (gather 620 (diagonal p) M M-small (diagonal_small p))) none)
        (choose (overlaps_over floats pauli A p)
        (choose (overlaps_over floats pauli (op p t right) p)
        (append (factors_small p (doubled p) (doubled_small p) (width right) A F F-small) (gather 620 (both_sides p) M M-small (both_small p)))
        (gather 620 (one_side p (λ x. x)) M M-small (one_small p (λ x. x) (λ x k. k))))
        (choose (overlaps_over floats pauli (op p t right) p) (gather 620 (one_side p floats.opposite) M M-small (one_small p floats.opposite (λ x k. at_most_neg k))) none))

  each_jump : (f : Jump → List Term) → ((j : ℕ) → j < m.jumps → Added (f (jump_at t.jumps t.rates j))) → Added (gather_jumps f (jumps_in m t))
  each_jump f make =
      jumps_small f (jumps_in m t)
      (every_map (λ j. Added (f j)) (jump_at t.jumps t.rates) (up_to 0 m.jumps) (every_up _ 0 m.jumps (λ i l u. make i (omega arith))))

  rules_stored_small : Added (rules_stored m t p)
  unfolding rules_stored
  rules_stored_small =
      append
      (terms_small (reals_in m t) p (every_map (λ h. AtMost 200 h.num) (real_at t) (up_to 0 m.hamiltonian) (every_up _ 0 m.hamiltonian (λ i l u. real_size m t s i (omega arith)))))
      (append (each_jump (jump_adds p t) (λ j l. jump_small j l _ refl)) (each_jump (pair_adds p t) (λ j l. pair_small j l _ refl)))

-- every sum of the action is finite
pub sums_finite_stored : (m : Model) (t : ModelTables) → test_model m t ≡ Ok tt → (p : Word) → Every (λ c. T (is_finite c.num.re) × T (is_finite c.num.im)) (put_all_over floats pauli (rules_stored m t p) [])
sums_finite_stored m t accepted p = sums_finite (rules_stored m t p) (rules_stored_small m t (tested_stands m t accepted) p).each
