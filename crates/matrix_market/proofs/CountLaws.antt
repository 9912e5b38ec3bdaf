-- SPDX-FileCopyrightText: 2026 The PPVM Authors
-- SPDX-License-Identifier: Apache-2.0

-- Counts of 2^−32: too large exactly from 2^30 in magnitude on; and a value times 2^33 is exact, so that its whole part is the count in
-- halves. Assumes nothing.
use Rattle.std.proofs.Common.{◌≡◌, ℕ, zero, suc, ◌+◌, ◌-◌, ◌*◌, ◌/◌, ◌%◌, ◌^◌, ◌<◌, ◌≤◌, Bool, true, false, cond, not, ◌&&◌, T, eqb, ltb, leb, ℤ, pos, negsuc, sym, refl, ap, ◌∙◌, mul_assoc, mul_comm, div-lt_iff_lt-mul, add-mul, lt_of_mul-lt-mul_right, mul-lt-mul_of_pos_right, mul-pos, one-mul, le-div_iff_mul-le, zero-mul, mul-one, not-le_of_lt, mul_left_comm, arith, lit≤, ltb→lt, pow_pos, pow_mono, pow-add, ltb-false, ltb-true, le-ltb, lt-ltb, le-leb}
use native.Mathlib.Nat.{add-div_right, div-div-eq-div-mul}
use native.Mathlib.Decide.{dec_lt}
use borrow.Author.Tests.{lt-leb}
use lib.Pow.{pow-lt}
use lib.Ieee.{Float, nan, inf, fin, binary64, prec, low, emax, up, down, lt, round, fits}
use lib.Ieee.Exact.{HasValue, round_exact}
use lib.Ieee.Fits.{down_pos, and_l, and_r}
use Rattle.number.proofs.Integers.{abs_signed}
use Rattle.number.proofs.KeyLaws.{fits_down}
use Rattle.matrix_market.specs.Counts.{nearest, count_of, too_large}

-- ---- the nearest count, by halves
pub by_halves : (a d : ℕ) → 0 < d → (2 * a / d + 1) / 2 ≡ nearest a d
unfolding nearest
by_halves a d D =
    let e : d * 2 ≡ 2 * d = omega arith in
    rw (← (add-div_right (2 * a) {k = d} D), div-div-eq-div-mul (2 * a + d) d 2, e)

-- ---- too large
large_up : (a d : ℕ) → 0 < d → 2 ^ 30 * d ≤ a → 2 ^ 62 ≤ nearest (a * 2 ^ 32) d
unfolding nearest
large_up a d D h = (le-div_iff_mul-le {k = 2 * d} {x = 2 ^ 62} {y = 2 * (a * 2 ^ 32) + d} (omega arith)).1 (omega arith)

small_up : (a d : ℕ) → 0 < d → 2 * (a * 2 ^ 32) + d < 2 ^ 62 * (2 * d) → nearest (a * 2 ^ 32) d < 2 ^ 62
unfolding nearest
small_up a d D h = (div-lt_iff_lt-mul {k = 2 * d} {x = 2 * (a * 2 ^ 32) + d} {y = 2 ^ 62} (omega arith)).1 h

digits_few : (s : Bool) (m : ℕ) (e : ℤ) → T (fits binary64 (fin s m e)) → m < 2 ^ 53
unfolding fits
digits_few s zero e t = omega arith
digits_few s (suc m) e t =
    ltb→lt (suc m) (2 ^ 53)
    (and_r (eqb (suc m % 2) 1) (ltb (suc m) (2 ^ prec binary64))
    (and_l (eqb (suc m % 2) 1 && ltb (suc m) (2 ^ prec binary64)) (leb (down e) (2 ^ low binary64))
    (and_l (eqb (suc m % 2) 1 && ltb (suc m) (2 ^ prec binary64) && leb (down e) (2 ^ low binary64)) (ltb (suc m * up e) (2 ^ suc (emax binary64) * down e)) t)))

-- a count that is whole, in units of which there are c in 2^−32
whole_count : (m d c : ℕ) → 0 < c → d * c ≡ 2 ^ 32 → m < 2 ^ 30 * d → 2 * (m * 2 ^ 32) + d < 2 ^ 62 * (2 * d)
whole_count m d c C e h =
    let D : 0 < d = pos_left d c e in
    let x : m * c < 2 ^ 30 * d * c = mul-lt-mul_of_pos_right h C in
    let y : 2 ^ 30 * d * c ≡ 2 ^ 62 = mul_assoc (2 ^ 30) d c ∙ ap (λ (k : ℕ). 2 ^ 30 * k) e in
    let z : 2 * (m * c) + 1 < 2 ^ 63 = omega (arith, x, y) in
    let w : (2 * (m * c) + 1) * d < 2 ^ 63 * d = mul-lt-mul_of_pos_right z D in
    let v : m * 2 ^ 32 ≡ m * c * d = ap (λ (k : ℕ). m * k) (sym e ∙ mul_comm d c) ∙ sym (mul_assoc m c d) in
    let u : (2 * (m * c) + 1) * d ≡ 2 * (m * c * d) + d = spread (m * c) d in
    omega (arith, w, v, u)
  where
    pos_left : (d c : ℕ) → d * c ≡ 2 ^ 32 → 0 < d
    pos_left zero c e = absurd (let z = zero-mul c in omega (arith, e, z))
    pos_left (suc d) c e = omega arith

    spread : (k d : ℕ) → (2 * k + 1) * d ≡ 2 * (k * d) + d
    spread k d = add-mul (2 * k) 1 d ∙ rw (mul_assoc 2 k d, one-mul d)

counts_small : (s : Bool) (m : ℕ) (e : ℤ) → T (fits binary64 (fin s m e)) → m * up e < 2 ^ 30 * down e → 2 * (m * up e * 2 ^ 32) + down e < 2 ^ 62 * (2 * down e)
counts_small s m (pos k) t h = unit (m * 2 ^ k) h
  where
    unit : (a : ℕ) → a < 2 ^ 30 * 1 → 2 * (a * 2 ^ 32) + 1 < 2 ^ 62 * (2 * 1)
    unit a h = omega arith
counts_small s m (negsuc k) t h = go (dec_lt 32 (suc k)) (digits_few s m (negsuc k) t)
  where
    go : Dec (32 < suc k) → m < 2 ^ 53 → 2 * (m * 1 * 2 ^ 32) + 2 ^ suc k < 2 ^ 62 * (2 * 2 ^ suc k)
    go (yes l) q = far m (2 ^ suc k) (pow_mono {i = 33} {j = suc k} l) q
      where
        far : (m d : ℕ) → 2 ^ 33 ≤ d → m < 2 ^ 53 → 2 * (m * 1 * 2 ^ 32) + d < 2 ^ 62 * (2 * d)
        far m d h q = omega arith
    go (no l) q =
        let j : suc k + (32 - suc k) ≡ 32 = omega arith in
        let e : 2 ^ suc k * 2 ^ (32 - suc k) ≡ 2 ^ 32 = sym (pow-add 2 (suc k) (32 - suc k)) ∙ ap (λ (i : ℕ). 2 ^ i) j in
        let z : m * 1 ≡ m = mul-one m in
        rw z (whole_count m (2 ^ suc k) (2 ^ (32 - suc k)) (pow_pos (32 - suc k)) e (rw z at h))

-- the test, on the value in hand
pub large_is : (s : Bool) (m : ℕ) (e : ℤ) → T (fits binary64 (fin s m e)) → too_large (fin s m e) ≡ not (ltb (m * up e) (2 ^ 30 * down e))
unfolding too_large count_of
large_is s m e t =
    ap (leb (2 ^ 62)) (abs_signed s (nearest (m * up e * 2 ^ 32) (down e)))
    ∙ go (dec_lt (m * up e) (2 ^ 30 * down e))
  where
    go : Dec (m * up e < 2 ^ 30 * down e) → leb (2 ^ 62) (nearest (m * up e * 2 ^ 32) (down e)) ≡ not (ltb (m * up e) (2 ^ 30 * down e))
    go (yes l) = rw (lt-ltb (m * up e) (2 ^ 30 * down e) l) (lt-leb (2 ^ 62) (nearest (m * up e * 2 ^ 32) (down e)) (small_up (m * up e) (down e) (down_pos e) (counts_small s m e t l)))
    go (no l) = rw (le-ltb (m * up e) (2 ^ 30 * down e) (omega arith)) (le-leb (2 ^ 62) (nearest (m * up e * 2 ^ 32) (down e)) (large_up (m * up e) (down e) (down_pos e) (omega arith)))

-- ---- the test by two comparisons with 2^30
pub inside_is : (x : Float) → T (fits binary64 x) → lt x (fin false 1 (pos 30)) ≡ true → not (lt (fin true 1 (pos 30)) x) ≡ too_large x
unfolding lt too_large
inside_is nan t h = absurd (let z : ◌≡◌ {A = ℕ} 0 1 = ap (λ (b : Bool). cond b 1 0) h in omega arith)
inside_is (inf true) t h = refl
inside_is (inf false) t h = absurd (let z : ◌≡◌ {A = ℕ} 0 1 = ap (λ (b : Bool). cond b 1 0) h in omega arith)
inside_is (fin true m e) t h =
    let z : m * up e * 1 ≡ m * up e = mul-one (m * up e) in
    let y : 1 * 2 ^ 30 * down e ≡ 2 ^ 30 * down e = refl in
    rw z (sym (large_is true m e t))
inside_is (fin false m e) t h =
    let z : m * up e * 1 ≡ m * up e = mul-one (m * up e) in
    let l : m * up e < 2 ^ 30 * down e = ltb-true (m * up e) (2 ^ 30 * down e) (rw z at h) in
    let D = down_pos e in
    rw (lt-ltb 0 (1 * 2 ^ 30 * down e + m * up e * 1) (over (down e) (m * up e * 1) D)) (sym (large_is false m e t ∙ rw (lt-ltb (m * up e) (2 ^ 30 * down e) l)))
  where
    over : (d a : ℕ) → 0 < d → 0 < 1 * 2 ^ 30 * d + a
    over d a D = omega arith

pub outside_is : (x : Float) → T (fits binary64 x) → lt x (fin false 1 (pos 30)) ≡ false → true ≡ too_large x
unfolding lt too_large
outside_is nan t h = refl
outside_is (inf s) t h = refl
outside_is (fin true m e) t h = absurd (over (m * up e * 1) (down e) (down_pos e) (ltb-false 0 (m * up e * 1 + 1 * 2 ^ 30 * down e) h))
  where
    over : (a d : ℕ) → 0 < d → a + 1 * 2 ^ 30 * d ≤ 0 → ⊥
    over a d D l = omega arith
outside_is (fin false m e) t h =
    let z : m * up e * 1 ≡ m * up e = mul-one (m * up e) in
    sym (large_is false m e t ∙ ap not (rw z at h))

-- a value that is not too large
pub small_value : (s : Bool) (m : ℕ) (e : ℤ) → T (fits binary64 (fin s m e)) → too_large (fin s m e) ≡ false → m * up e < 2 ^ 30 * down e
small_value s m e t h = ltb-true (m * up e) (2 ^ 30 * down e) (flip (ltb (m * up e) (2 ^ 30 * down e)) (sym (large_is s m e t) ∙ h))
  where
    flip : (b : Bool) → not b ≡ false → b ≡ true
    flip true e = refl
    flip false e = sym e

-- ---- the product with 2^33 is exact
-- what is below 2^63 in units of d, in units that the format counts
under : (x a d w v : ℕ) → 0 < w → x * d ≡ a * 2 ^ 33 * w → a < 2 ^ 30 * d → 2 ^ 63 * w ≤ v → x < v
under x a d w v W e h l =
    let p : a * (2 ^ 33 * w) < 2 ^ 30 * d * (2 ^ 33 * w) = mul-lt-mul_of_pos_right h (mul-pos (pow_pos 33) W) in
    let q : x * d < 2 ^ 63 * w * d = rw (e, mul_assoc a (2 ^ 33) w, regroup d w) p in
    let r : x < 2 ^ 63 * w = lt_of_mul-lt-mul_right d q in
    omega (arith, r, l)
  where
    regroup : (d w : ℕ) → 2 ^ 63 * w * d ≡ 2 ^ 30 * d * (2 ^ 33 * w)
    regroup d w = simp (mul_assoc, mul_comm, mul_left_comm)

pub product : (t s : Bool) (m : ℕ) (e : ℤ) → T (fits binary64 (fin s m e)) → m * up e < 2 ^ 30 * down e → HasValue (round binary64 t (m * up e * (1 * 2 ^ 33)) (down e * 1)) t (m * up e * (1 * 2 ^ 33)) (down e * 1)
product t s m (pos k) f h =
    round_exact binary64 t (m * 2 ^ k * (1 * 2 ^ 33)) (1 * 1) m (k + 33 + 1074) (omega arith) (digits_few s m (pos k) f)
    (under (m * 2 ^ (k + 33 + 1074)) (m * 2 ^ k) 1 (2 ^ 1074) (2 ^ (1074 + 1024)) (pow_pos 1074) (mul-one (m * 2 ^ (k + 33 + 1074)) ∙ sym same) h room)
    (one ∙ same ∙ sym (mul-one (m * 2 ^ (k + 33 + 1074))))
  where
    one : m * 2 ^ k * (1 * 2 ^ 33) * 2 ^ 1074 ≡ m * 2 ^ k * 2 ^ 33 * 2 ^ 1074
    one = refl

    same : m * 2 ^ k * 2 ^ 33 * 2 ^ 1074 ≡ m * 2 ^ (k + 33 + 1074)
    same = rw (pow-add 2 (k + 33) 1074, pow-add 2 k 33) (simp mul_assoc)

    room : 2 ^ 63 * 2 ^ 1074 ≤ 2 ^ (1074 + 1024)
    room = lit≤ tt
product t s m (negsuc k) f h =
    round_exact binary64 t (m * 1 * (1 * 2 ^ 33)) (2 ^ suc k * 1) m (33 + (1074 - suc k)) (mul-pos (pow_pos (suc k)) (omega arith)) (digits_few s m (negsuc k) f)
    (under (m * 2 ^ (33 + (1074 - suc k))) (m * 1) (2 ^ suc k) (2 ^ 1074) (2 ^ (1074 + 1024)) (pow_pos 1074) (sym same) h room)
    (same ∙ ap (λ (d : ℕ). m * 2 ^ (33 + (1074 - suc k)) * d) (sym (mul-one (2 ^ suc k))))
  where
    below : suc k ≤ 1074
    below = go (dec_lt 1074 (suc k))
      where
        go : Dec (1074 < suc k) → suc k ≤ 1074
        go (yes l) = absurd (let p = pow-lt {i = 1074} {j = suc k} l in let q : 2 ^ suc k ≤ 2 ^ 1074 = fits_down binary64 s m (negsuc k) f in not-le_of_lt p q)
        go (no l) = omega arith

    same : m * 1 * 2 ^ 33 * 2 ^ 1074 ≡ m * 2 ^ (33 + (1074 - suc k)) * 2 ^ suc k
    same =
        let j : 1074 - suc k + suc k ≡ 1074 = omega (arith, below) in
        let e : 2 ^ 1074 ≡ 2 ^ (1074 - suc k) * 2 ^ suc k = ap (λ (i : ℕ). 2 ^ i) (sym j) ∙ pow-add 2 (1074 - suc k) (suc k) in
        rw (mul-one m, pow-add 2 33 (1074 - suc k), e) (simp mul_assoc)

    room : 2 ^ 63 * 2 ^ 1074 ≤ 2 ^ (1074 + 1024)
    room = lit≤ tt

-- so its count is small as well
pub small_count : (s : Bool) (m : ℕ) (e : ℤ) → T (fits binary64 (fin s m e)) → too_large (fin s m e) ≡ false → nearest (m * up e * 2 ^ 32) (down e) < 2 ^ 62
small_count s m e t h = small_up (m * up e) (down e) (down_pos e) (counts_small s m e t (small_value s m e t h))
