-- SPDX-FileCopyrightText: 2026 The PPVM Authors
-- SPDX-License-Identifier: Apache-2.0

-- The count written is the nearest to the exact value, and of two that are as near the one further from zero; it is too large exactly
-- from 2^30 in magnitude on. Assumes nothing.
use Rattle.std.proofs.Common.{◌≡◌, ℕ, suc, ◌+◌, ◌*◌, ◌%◌, ◌^◌, ◌<◌, ◌≤◌, Bool, true, false, T, ℤ, nat_abs, refl, ap, ◌∙◌, mod-lt, mul_assoc, suc-mul, mul_comm, lt_of_mul-lt-mul_right, le_of_mul-le-mul_right, arith, le-ltb, lt-ltb}
use native.Mathlib.Nat.{div-add-mod}
use lib.Ieee.{fin, binary64, up, down, fits}
use lib.Ieee.Fits.{down_pos}
use Rattle.number.specs.Exact.{signed}
use Rattle.number.proofs.Integers.{abs_signed}
use Rattle.matrix_market.specs.Counts.{nearest, count_of, too_large}
use Rattle.matrix_market.proofs.CountLaws.{large_is}

-- ---- of num / den
module _ (num den : ℕ) (D : 0 < den) where
  -- twice the nearest, in units of den, is within den of twice num
  parts : 2 * den * nearest num den + (2 * num + den) % (2 * den) ≡ 2 * num + den
  unfolding nearest
  parts = div-add-mod (2 * num + den) (2 * den)

  abbrev rest : ℕ
  rest = (2 * num + den) % (2 * den)

  rest_low : rest < 2 * den
  rest_low = mod-lt (2 * num + den) {m = 2 * den} (omega arith)

  twice : 2 * den * nearest num den ≡ 2 * (nearest num den * den)
  twice = mul_assoc 2 den (nearest num den) ∙ ap (λ (k : ℕ). 2 * k) (mul_comm den (nearest num den))

  -- it is at most half a count above the value, and less than half below it
  pub not_far_above : 2 * (nearest num den * den) ≤ 2 * num + den
  not_far_above = omega (arith, parts, twice)

  pub not_far_below : 2 * num < 2 * (nearest num den * den) + den
  not_far_below = omega (arith, parts, twice, rest_low)

  -- a value halfway between k and k + 1 goes to k + 1
  pub half_goes_up : (k : ℕ) → 2 * num ≡ 2 * (k * den) + den → nearest num den ≡ suc k
  half_goes_up k e = same (nearest num den) k den D (omega (arith, not_far_above, e)) (omega (arith, not_far_below, e))
    where
      same : (n k d : ℕ) → 0 < d → 2 * (n * d) ≤ 2 * (k * d) + d + d → 2 * (k * d) + d < 2 * (n * d) + d → n ≡ suc k
      same n k d D h l =
          let a : n * d ≤ suc k * d = omega (arith, suc-mul k d) in
          let b : k * d < n * d = omega arith in
          let p : n ≤ suc k = le_of_mul-le-mul_right a D in
          let q : k < n = lt_of_mul-lt-mul_right d b in
          omega (arith, p, q)

-- ---- of a float: fin s m e is m × up e / down e, below zero where s is true
module _ (s : Bool) (m : ℕ) (e : ℤ) where
  -- its magnitude in counts, as a fraction
  abbrev pub counts : ℕ
  counts = m * up e * 2 ^ 32

  pub count_is : count_of (fin s m e) ≡ signed s (nearest counts (down e))
  unfolding count_of
  count_is = refl

  size_is : nat_abs (count_of (fin s m e)) ≡ nearest counts (down e)
  size_is = ap nat_abs count_is ∙ abs_signed s (nearest counts (down e))

  pub nearest_above : 2 * (nat_abs (count_of (fin s m e)) * down e) ≤ 2 * counts + down e
  nearest_above = rw size_is (not_far_above counts (down e) (down_pos e))

  pub nearest_below : 2 * counts ≤ 2 * (nat_abs (count_of (fin s m e)) * down e) + down e
  nearest_below = rw size_is (let h = not_far_below counts (down e) (down_pos e) in omega (arith, h))

  pub half_away : (k : ℕ) → 2 * counts ≡ 2 * (k * down e) + down e → count_of (fin s m e) ≡ signed s (suc k)
  half_away k h = count_is ∙ ap (signed s) (half_goes_up counts (down e) (down_pos e) k h)

  -- a value that f64 holds is too large exactly where it is 2^30 or more in magnitude
  pub large_from : T (fits binary64 (fin s m e)) → 2 ^ 30 * down e ≤ m * up e → too_large (fin s m e) ≡ true
  large_from t h = large_is s m e t ∙ rw (le-ltb (m * up e) (2 ^ 30 * down e) h) refl

  pub small_to : T (fits binary64 (fin s m e)) → m * up e < 2 ^ 30 * down e → too_large (fin s m e) ≡ false
  small_to t h = large_is s m e t ∙ rw (lt-ltb (m * up e) (2 ^ 30 * down e) h) refl
