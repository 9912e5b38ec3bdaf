-- SPDX-FileCopyrightText: 2026 The PPVM Authors
-- SPDX-License-Identifier: Apache-2.0

-- Walking an order, one position at a time. Assumes nothing.
use mathlib.Core.Path.{◌≡◌, refl}
use mathlib.Core.Bool.{true, false}
use mathlib.Core.List.{List, [], ◌∷◌}
use Prim.Native.Nat.{ℕ, zero, suc, ◌+◌, ◌-◌, ◌≤◌, ◌<◌}
use native.Mathlib.Omega.{arith}
use native.Mathlib.Numerals.{add-one}
use lib.Dec.{eqb}
use lib.ListN.{length, get_or, set, drop, drop_of_length-le}
use lib.Seq.{drop-cons}
use Rattle.keep.specs.Chosen.{walked}

pub walked_none : (fixed order flags : List ℕ) → walked fixed order 0 flags ≡ flags
unfolding walked
walked_none fixed [] flags = refl
walked_none fixed (p ∷ order) flags = refl

pub walked_end : (fixed order : List ℕ) (i s : ℕ) (flags : List ℕ) → length order ≤ i → walked fixed (drop i order) s flags ≡ flags
unfolding walked
walked_end fixed order i s flags h = rw (drop_of_length-le order {i = i} h)

module _ (fixed order : List ℕ) (i : ℕ) (flags : List ℕ) (h : i < length order) where
  rest : drop i order ≡ get_or order i 0 ∷ drop (i + 1) order
  rest = rw add-one (drop-cons order i 0 h)

  pub walked_slot : (s : ℕ) → (s ≡ 0 → ⊥) → eqb (get_or fixed (get_or order i 0) 0) 0 ≡ true
      → walked fixed (drop i order) s flags ≡ walked fixed (drop (i + 1) order) (s - 1) (set flags (get_or order i 0) 1)
  unfolding walked
  walked_slot zero n e = absurd (n refl)
  walked_slot (suc s) n e = let z : suc s - 1 ≡ s = omega arith in rw (rest, e, z)

  pub walked_fixed : (s : ℕ) → (s ≡ 0 → ⊥) → eqb (get_or fixed (get_or order i 0) 0) 0 ≡ false
      → walked fixed (drop i order) s flags ≡ walked fixed (drop (i + 1) order) s flags
  unfolding walked
  walked_fixed zero n e = absurd (n refl)
  walked_fixed (suc s) n e = rw (rest, e)
