-- SPDX-FileCopyrightText: 2026 The PPVM Authors
-- SPDX-License-Identifier: Apache-2.0

-- How many places a model or a matrix within the limits takes at most. Assumes nothing.
use mathlib.Core.Path.{◌≡◌}
use Prim.Native.Nat.{ℕ, ◌+◌, ◌*◌, ◌/◌, ◌≤◌, min}
use native.Mathlib.Nat.{mul-le-mul, add-le-add, le_refl}
use native.Mathlib.Omega.{arith}

pub record ModelPlaces (j c : ℕ) : Type 0 where
  pub square : c * c ≤ 256
  pub jump : c + c * c ≤ 272
  pub jumps : j * (c + c * c) ≤ 1114112

pub model_places : (j c : ℕ) → j ≤ 4096 → c ≤ 16 → ModelPlaces j c
model_places j c a b = let s = mul-le-mul b b in record { square = s; jump = add-le-add b s; jumps = mul-le-mul a (add-le-add b s) }

pub record MatrixPlaces (k c : ℕ) : Type 0 where
  pub rows : k * (k + 1) ≤ 4160
  pub given : k * c ≤ 1024
  pub limited : min (k * c) (16 * k) ≡ k * c
  pub square : c * c ≤ 256
  pub pairs : k * (k + 1) / 2 * (2 * (c * c)) ≤ 1064960

pub matrix_places : (k c : ℕ) → k ≤ 64 → c ≤ 16 → MatrixPlaces k c
matrix_places k c a b =
    let r = mul-le-mul a (add-le-add a (le_refl 1)) in
    let s = mul-le-mul b b in
    let p : k * (k + 1) / 2 ≤ 2080 = omega (arith, r) in
    let d : 2 * (c * c) ≤ 512 = omega (arith, s) in
    let m : k * c ≤ k * 16 = mul-le-mul (le_refl k) b in
    record { rows = r; given = mul-le-mul a b; limited = omega (arith, m); square = s; pairs = mul-le-mul p d }
