-- SPDX-FileCopyrightText: 2026 The PPVM Authors
-- SPDX-License-Identifier: Apache-2.0

-- Complex numbers in flat floats: how many there are, reading one and writing one. Assumes nothing.
use mathlib.Core.Path.{◌≡◌, refl, ap}
use mathlib.Core.List.{List, [], ◌∷◌}
use Prim.Native.Nat.{ℕ, zero, suc, ◌+◌, ◌*◌, ◌≤◌, ◌<◌}
use native.Mathlib.Omega.{arith}
use native.Mathlib.Numerals.{add-one}
use lib.Ieee.{Float, nan}
use lib.ListN.{length, get_or, set}
use Rattle.number.specs.Numbers.{Cx}
use Rattle.number.specs.Floats.{floats}
use Rattle.sums.specs.Numbers.{complexes, no_number}

abbrev number : Float → Float → Cx floats
number a b = record { re = a; im = b }

-- so many whole numbers, and less than a number over
pub complexes_low : (l : List Float) → 2 * length (complexes l) ≤ length l
unfolding complexes
complexes_low [] = omega arith
complexes_low (a ∷ []) = omega arith
complexes_low (a ∷ b ∷ r) = omega (arith, complexes_low r)

pub complexes_high : (l : List Float) → length l < 2 * length (complexes l) + 2
unfolding complexes
complexes_high [] = omega arith
complexes_high (a ∷ []) = omega arith
complexes_high (a ∷ b ∷ r) = omega (arith, complexes_high r)

-- the number at i is the two floats from p = i * 2 on
at_part : (l : List Float) (i p : ℕ) → p ≡ i * 2 → p + 2 ≤ length l → get_or (complexes l) i no_number ≡ number (get_or l p nan) (get_or l (suc p) nan)
unfolding complexes
at_part [] i p e h = absurd (omega arith)
at_part (a ∷ []) i p e h = absurd (omega arith)
at_part (a ∷ b ∷ r) zero p e h = let z : p ≡ 0 = omega arith in rw z
at_part (a ∷ b ∷ r) (suc i) p e h = let z : p ≡ suc (suc (i * 2)) = omega arith in rw z (at_part r i (i * 2) refl (omega arith))

pub complexes_at : (l : List Float) (i : ℕ) → 2 * i + 2 ≤ length l → get_or (complexes l) i no_number ≡ number (get_or l (i * 2) nan) (get_or l (i * 2 + 1) nan)
complexes_at l i h = simp add-one (at_part l i (i * 2) refl (omega arith))

set_part : (l : List Float) (i p : ℕ) (a b : Float) → p ≡ i * 2 → p + 2 ≤ length l → complexes (set (set l p a) (suc p) b) ≡ set (complexes l) i (number a b)
unfolding complexes
set_part [] i p a b e h = absurd (omega arith)
set_part (a₀ ∷ []) i p a b e h = absurd (omega arith)
set_part (a₀ ∷ b₀ ∷ r) zero p a b e h = let z : p ≡ 0 = omega arith in rw z
set_part (a₀ ∷ b₀ ∷ r) (suc i) p a b e h =
    let z : p ≡ suc (suc (i * 2)) = omega arith in
    rw z (ap (λ (t : List (Cx floats)). number a₀ b₀ ∷ t) (set_part r i (i * 2) a b refl (omega arith)))

pub complexes_set : (l : List Float) (i : ℕ) (a b : Float) → 2 * i + 2 ≤ length l → complexes (set (set l (i * 2) a) (i * 2 + 1) b) ≡ set (complexes l) i (number a b)
complexes_set l i a b h = simp add-one (set_part l i (i * 2) a b refl (omega arith))
