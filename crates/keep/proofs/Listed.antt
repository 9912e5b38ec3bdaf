-- SPDX-FileCopyrightText: 2026 The PPVM Authors
-- SPDX-License-Identifier: Apache-2.0

-- How often a position is listed. Assumes nothing.
use mathlib.Core.Path.{◌≡◌, refl, subst}
use mathlib.Core.Bool.{Bool, true, false, cond}
use mathlib.Core.List.{List, [], ◌∷◌}
use Prim.Native.Nat.{ℕ, zero, suc, ◌+◌, ◌≤◌, ◌<◌}
use native.Mathlib.Omega.{arith}
use lib.Dec.{eqb}
use lib.ListN.{length, get_or}
use borrow.Author.Tests.{eq-eqb, ne_eqb}
use Rattle.keep.specs.Between.{occurrences}

-- no position twice
abbrev pub AtMostOnce : List ℕ → Type 0
AtMostOnce order = (p : ℕ) → occurrences p order ≤ 1

pub occurs_at : (order : List ℕ) (i : ℕ) → i < length order → 0 < occurrences (get_or order i 0) order
unfolding occurrences
occurs_at [] i h = absurd (omega arith)
occurs_at (q ∷ order) zero h = let e : eqb q q ≡ true = eq-eqb q q refl in rw e (omega arith)
occurs_at (q ∷ order) (suc i) h = omega (arith, occurs_at order i (omega arith))

pub occurs_not : (order : List ℕ) (p : ℕ) → ((i : ℕ) → i < length order → get_or order i 0 ≡ p → ⊥) → occurrences p order ≡ 0
unfolding occurrences
occurs_not [] p h = refl
occurs_not (q ∷ order) p h =
    let e : eqb q p ≡ false = ne_eqb q p (h 0 (omega arith)) in
    rw e (omega (arith, occurs_not order p (λ i l. h (suc i) (omega arith))))

module _ (q : ℕ) (order : List ℕ) (once : AtMostOnce (q ∷ order)) where
  pub once_rest : AtMostOnce order
  unfolding occurrences
  once_rest p = omega (arith, once p)

  -- the first position is listed no more
  pub gone : occurrences q order ≡ 0
  unfolding occurrences
  gone =
      let h : 1 + occurrences q order ≤ 1 = subst (λ (b : Bool). cond b 1 0 + occurrences q order ≤ 1) (eq-eqb q q refl) (once q) in
      omega arith
