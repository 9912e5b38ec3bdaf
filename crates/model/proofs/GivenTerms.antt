-- SPDX-FileCopyrightText: 2026 The PPVM Authors
-- SPDX-License-Identifier: Apache-2.0

-- The first given term that fails: in a range, of a jump, of all jumps, and beside the test of every term. Assumes nothing.
use mathlib.Core.Path.{◌≡◌, refl, sym, ap, ◌∙◌}
use mathlib.Core.Bool.{Bool, true, false, ◌&&◌, ◌||◌, and-false, and-or_distrib_right}
use mathlib.Core.List.{List}
use Prim.Native.Nat.{ℕ, suc, ◌+◌, ◌≤◌, ◌<◌, min}
use native.Mathlib.Numerals.{add-one}
use native.Mathlib.Omega.{arith}
use native.Mathlib.Decide.{ℕ_discrete, dec_lt}
use borrow.Author.Tests.{lt-ltb, le-ltb, le-leb, lt-leb, eq-eqb, ne_eqb}
use lib.Dec.{leb, eqb}
use lib.Ieee.{Float}
use Rattle.word.specs.Count.{any_to}
use Rattle.model.specs.Stored.{jump_at, given, holds}
use Rattle.lent.specs.Tests.{first_to}
use Rattle.lent.proofs.Firsts.{first_none, first_here, first_cong, first_either}
use Rattle.model.specs.Fails.{number_fails}
use Rattle.model.specs.declared.stored.Range.{Range}
use Rattle.model.specs.declared.stored.Jump.TheVariants.{Pauli, General, Pair}
use Rattle.model.specs.Between.{term_fails, fails_in, fails_of, given_fails, any_fails}

-- ---- one place more passes
module _ (numbers : List Float) where
  pub from_more : (s i : ℕ) → ((k : ℕ) → s ≤ k → k < i → number_fails numbers k ≡ false) → number_fails numbers i ≡ false
      → (k : ℕ) → s ≤ k → k < i + 1 → number_fails numbers k ≡ false
  from_more s i none e k p l = go (ℕ_discrete k i)
    where
      go : Dec (k ≡ i) → number_fails numbers k ≡ false
      go (yes m) = ap (number_fails numbers) m ∙ e
      go (no m) = none k p (omega arith)

module _ (numbers : List Float) (terms : ℕ) where
  -- ---- a range, whose places from its start to before i are tested
  module _ (r : Range) (i : ℕ) (none : (k : ℕ) → r.start ≤ k → k < i → number_fails numbers k ≡ false) where
    passed : (k : ℕ) → k < i → fails_in r numbers k ≡ false
    unfolding fails_in
    passed k l = go (dec_lt k r.start)
      where
        go : Dec (k < r.start) → (holds r k && number_fails numbers k) ≡ false
        go (yes h) = rw (lt-leb r.start k h)
        go (no h) = ap (λ (b : Bool). holds r k && b) (none k (omega arith) l) ∙ and-false (holds r k)

    pub range_found : (end : ℕ) → end ≡ min r.end terms → r.start ≤ i → i < end → number_fails numbers i ≡ true → i ≡ first_to terms (fails_in r numbers)
    unfolding fails_in
    range_found end e s l h =
        sym (first_here terms (fails_in r numbers) i (omega arith) passed (rw (le-leb r.start i s, lt-ltb i r.end (omega arith)) h))

    pub range_passed : (end : ℕ) → end ≡ min r.end terms → end ≤ i → terms ≡ first_to terms (fails_in r numbers)
    unfolding fails_in
    range_passed end e l = sym (first_none terms (fails_in r numbers) (λ k m. go k m (dec_lt k i)))
      where
        go : (k : ℕ) → k < terms → Dec (k < i) → fails_in r numbers k ≡ false
        go k m (yes h) = passed k h
        go k m (no h) = rw (le-ltb k r.end (omega arith)) (ap (λ (b : Bool). b && number_fails numbers k) (and-false (leb r.start k)))

  -- ---- a Pauli jump
  module _ (rate : Float) (term : ℕ) where
    other : (k : ℕ) → (term ≡ k → ⊥) → fails_of (Pauli rate term) numbers k ≡ false
    unfolding fails_of
    other k n = rw (ne_eqb term k n)

    pub pauli_outside : terms ≤ term → terms ≡ first_to terms (fails_of (Pauli rate term) numbers)
    pauli_outside h = sym (first_none terms (fails_of (Pauli rate term) numbers) (λ k l. other k (λ e. omega arith)))

    pub pauli_found : term < terms → number_fails numbers term ≡ true → term ≡ first_to terms (fails_of (Pauli rate term) numbers)
    unfolding fails_of
    pauli_found l h =
        sym (first_here terms (fails_of (Pauli rate term) numbers) term l (λ k m. other k (λ e. omega arith)) (rw (eq-eqb term term refl) h))

    pub pauli_passed : number_fails numbers term ≡ false → terms ≡ first_to terms (fails_of (Pauli rate term) numbers)
    unfolding fails_of
    pauli_passed h = sym (first_none terms (fails_of (Pauli rate term) numbers) (λ k l. go k (ℕ_discrete term k)))
      where
        go : (k : ℕ) → Dec (term ≡ k) → fails_of (Pauli rate term) numbers k ≡ false
        go k (yes e) = ap (λ (b : Bool). eqb term k && b) (ap (number_fails numbers) (sym e) ∙ h) ∙ and-false (eqb term k)
        go k (no e) = other k e

  -- ---- the others
  pub general_first : (rate : Float) (op product : Range) → first_to terms (fails_in op numbers) ≡ first_to terms (fails_of (General rate op product) numbers)
  unfolding fails_in fails_of
  general_first rate op product = first_cong terms (fails_in op numbers) (fails_of (General rate op product) numbers) (λ k l. refl)

  pub pair_first : (left right : Range) (factors : ℕ) (product : Range)
      → min (first_to terms (fails_in left numbers)) (first_to terms (fails_in right numbers)) ≡ first_to terms (fails_of (Pair left right factors product) numbers)
  unfolding fails_in fails_of
  pair_first left right factors product =
      sym (first_cong terms (fails_of (Pair left right factors product) numbers) (λ k. fails_in left numbers k || fails_in right numbers k)
      (λ k l. and-or_distrib_right (holds left k) (holds right k) (number_fails numbers k))
      ∙ first_either terms (fails_in left numbers) (fails_in right numbers))

  -- ---- jump by jump
  module _ (jumps : List ℕ) (rates : List Float) where
    pub given_none : terms ≡ first_to terms (given_fails 0 jumps rates numbers)
    unfolding given_fails any_to
    given_none = sym (first_none terms (given_fails 0 jumps rates numbers) (λ k l. refl))

    pub given_more : (j : ℕ)
        → min (first_to terms (given_fails j jumps rates numbers)) (first_to terms (fails_of (jump_at jumps rates j) numbers))
        ≡ first_to terms (given_fails (j + 1) jumps rates numbers)
    unfolding given_fails fails_of any_to
    given_more j =
        rw (add-one j)
        (sym (first_cong terms (given_fails (suc j) jumps rates numbers) (λ k. given_fails j jumps rates numbers k || fails_of (jump_at jumps rates j) numbers k)
        (λ k l. and-or_distrib_right (any_to j (λ i. given (jump_at jumps rates i) k)) (given (jump_at jumps rates j) k) (number_fails numbers k))
        ∙ first_either terms (given_fails j jumps rates numbers) (fails_of (jump_at jumps rates j) numbers)))

    -- ---- beside the test of every term
    pub terms_first : (n count : ℕ) (words : List ℕ)
        → min (first_to terms (term_fails n words numbers)) (first_to terms (given_fails count jumps rates numbers))
        ≡ first_to terms (any_fails n count jumps rates words numbers)
    unfolding any_fails
    terms_first n count words =
        sym (first_cong terms (any_fails n count jumps rates words numbers) (λ k. term_fails n words numbers k || given_fails count jumps rates numbers k) (λ k l. refl)
        ∙ first_either terms (term_fails n words numbers) (given_fails count jumps rates numbers))
