-- SPDX-FileCopyrightText: 2026 The PPVM Authors
-- SPDX-License-Identifier: Apache-2.0

-- Degree, for every f64: the pair is the first of least product m × s over the rows of the table.
-- Assumes nothing.
use Rattle.std.proofs.Common.{◌≡◌, ℕ, zero, suc, ◌+◌, ◌-◌, ◌*◌, ◌/◌, ◌%◌, ◌^◌, ◌<◌, ◌≤◌, Bool, true, false, cond, ◌&&◌, T, ltb, List, [], ◌∷◌, map, length, get_or, sym, refl, ap, ◌∙◌, subst, ap₂, le_of_suc-le-suc, lt_irrefl, mul-pos, zero-mul, mul-one, arith, ltb→lt, pow_pos, ltb-false, ltb-true, ne_eqb}
use Prim.Native.Nat.{compare}
use native.Mathlib.Nat.{eq_of_mul-eq-mul_right}
use lib.Ieee.{Float, nan, inf, fin, Format, binary64, emax, up, down, size, nearest, lt, le, div, round, units, odd, of_bits, low, prec}
use lib.Ieee.Exact.{HasValue, odd_sign, round_exact}
use lib.Ieee.Fits.{and_l, and_r, up_pos, down_pos, round_is}
use lib.Ieee.Positive.{positive}
use Rattle.number.specs.Floats.{float0}
use Rattle.expm.specs.Theta.{Row, row, decimal, theta, theta_loose}
use Rattle.expm.specs.Selects.{steps_of, pair, pair_of, cost, better, least_of, degree_by, table_for, FirstLeast}
use Rattle.expm.specs.declared.Degree.{Degree}
use Rattle.expm.proofs.StepLaws.{limited_one}

-- ---- the first of least cost
module _ (best d : Degree) (ds : List Degree) (r : Degree) where
  -- a later pair that is better
  after : cost d < cost best → FirstLeast (d ∷ ds) r → FirstLeast (best ∷ (d ∷ ds)) r
  after l f = record { place = suc f.place; inside = omega (arith, f.inside); stands = f.stands; least = least; first = first }
    where
      least : (k : ℕ) → k < length (best ∷ (d ∷ ds)) → cost r ≤ cost (get_or (best ∷ (d ∷ ds)) k r)
      least zero h = let a = f.least 0 (omega arith) in omega (arith, a)
      least (suc k) h = f.least k (le_of_suc-le-suc h)

      first : (k : ℕ) → k < suc f.place → cost r < cost (get_or (best ∷ (d ∷ ds)) k r)
      first zero h = let a = f.least 0 (omega arith) in omega (arith, a)
      first (suc k) h = f.first k (le_of_suc-le-suc h)

  -- one that is not
  past : cost best ≤ cost d → FirstLeast (best ∷ ds) r → FirstLeast (best ∷ (d ∷ ds)) r
  past l f = go f.place f.inside f.stands f.first
    where
      least : (k : ℕ) → k < length (best ∷ (d ∷ ds)) → cost r ≤ cost (get_or (best ∷ (d ∷ ds)) k r)
      least zero h = f.least 0 (omega arith)
      least (suc zero) h = let a = f.least 0 (omega arith) in omega (arith, a)
      least (suc (suc k)) h = f.least (suc k) (le_of_suc-le-suc h)

      first : (p : ℕ) → ((k : ℕ) → k < suc p → cost r < cost (get_or (best ∷ ds) k r)) → (k : ℕ) → k < suc (suc p) → cost r < cost (get_or (best ∷ (d ∷ ds)) k r)
      first p g zero h = g 0 (omega arith)
      first p g (suc zero) h = let a = g 0 (omega arith) in omega (arith, a)
      first p g (suc (suc k)) h = g (suc k) (le_of_suc-le-suc h)

      go : (p : ℕ) → p < length (best ∷ ds) → get_or (best ∷ ds) p r ≡ r → ((k : ℕ) → k < p → cost r < cost (get_or (best ∷ ds) k r)) → FirstLeast (best ∷ (d ∷ ds)) r
      go zero i s g = record { place = 0; inside = omega arith; stands = s; least = least; first = λ k h. absurd (omega (arith, h)) }
      go (suc p) i s g = record { place = suc (suc p); inside = omega (arith, i); stands = s; least = least; first = first p g }

first_least : (best : Degree) (ds : List Degree) → FirstLeast (best ∷ ds) (least_of best ds)
unfolding least_of better
first_least best [] = record { place = 0; inside = omega arith; stands = refl; least = least; first = λ k h. absurd (omega (arith, h)) }
  where
    least : (k : ℕ) → k < 1 → cost best ≤ cost (get_or (best ∷ []) k best)
    least zero h = omega arith
    least (suc k) h = absurd (omega (arith, h))
first_least best (d ∷ ds) = go (ltb (cost d) (cost best)) refl (first_least (better best d) ds)
  where
    go : (b : Bool) → ltb (cost d) (cost best) ≡ b → FirstLeast (cond (ltb (cost d) (cost best)) d best ∷ ds) (least_of (cond (ltb (cost d) (cost best)) d best) ds)
        → FirstLeast (best ∷ (d ∷ ds)) (least_of (cond (ltb (cost d) (cost best)) d best) ds)
    go true e f = rw e (after best d ds (least_of d ds) (ltb-true (cost d) (cost best) e) (rw e at f))
    go false e f = rw e (past best d ds (least_of best ds) (ltb-false (cost d) (cost best) e) (rw e at f))

-- ---- t is not above 0: each s is 1
value_below : (x : Float) (a c : ℕ) → HasValue x true a c → steps_of x ≡ 1
unfolding steps_of
value_below nan a c v = absurd v
value_below (inf s) a c v = absurd v
value_below (fin s m e) a c v = rw v.0

round_below : (f : Format) (a c : ℕ) → steps_of (round f true a c) ≡ 1
unfolding units steps_of
round_below f a c =
    let n = a * 2 ^ low f in
    let k = size (n / c) - prec f in
    let q = nearest (n / (c * 2 ^ k)) (compare (n % (c * 2 ^ k) * 2) (c * 2 ^ k)) in
    subst (λ (x : Float). steps_of x ≡ 1) (sym (round_is f true a c)) (go k q (ltb (q * 2 ^ k) (2 ^ (low f + suc (emax f)))))
  where
    go : (k q : ℕ) (b : Bool) → steps_of (cond b (odd (suc (prec f)) true q k (low f)) (inf true)) ≡ 1
    go k q true = value_below (odd (suc (prec f)) true q k (low f)) (q * 2 ^ k) (2 ^ low f) (odd_sign (suc (prec f)) true q k (low f))
    go k q false = refl

round_zero : (f : Format) (c : ℕ) → 0 < c → steps_of (round f false 0 c) ≡ 1
unfolding steps_of
round_zero f c C = go (round f false 0 c) (round_exact f false 0 c 0 0 C (pow_pos (prec f)) (pow_pos (low f + suc (emax f))) (zero-mul (2 ^ low f) ∙ sym (zero-mul c)))
  where
    go : (x : Float) → HasValue x false 0 c → steps_of x ≡ 1
    go nan v = absurd v
    go (inf s) v = absurd v
    go (fin true m e) v = refl
    go (fin false m e) v =
        let z : m * up e ≡ 0 = eq_of_mul-eq-mul_right c C (m * up e) 0 (v.1 ∙ zero-mul (down e) ∙ sym (zero-mul c)) in
        sym (limited_one (m * up e) (down e) (down_pos e) (omega arith))

-- a quotient by a number above 0
steps_none : (f : Format) (t x : Float) → T (positive x) → lt float0 t ≡ false → steps_of (div f t x) ≡ 1
unfolding div lt of_bits steps_of
steps_none f nan x p h = refl
steps_none f (inf true) nan p h = absurd p
steps_none f (inf true) (inf s) p h = absurd p
steps_none f (inf true) (fin true n d) p h = absurd p
steps_none f (inf true) (fin false n d) p h = refl
steps_none f (inf false) x p h = absurd (subst T h tt)
steps_none f (fin s m e) nan p h = absurd p
steps_none f (fin s m e) (inf z) p h = absurd p
steps_none f (fin s m e) (fin true n d) p h = absurd p
steps_none f (fin true m e) (fin false n d) p h = rw (ne_eqb n 0 (λ z. lt_irrefl 0 (subst (λ (k : ℕ). 0 < k) z (ltb→lt 0 n p)))) (round_below f (m * up e * down d) (n * up d * down e))
steps_none f (fin false m e) (fin false n d) p h =
    let l = ltb-false (0 * down e) (m * up e * 1) h in
    let z : m * up e * down d ≡ 0 = let y : m * up e ≡ 0 = omega arith in ap (λ (k : ℕ). k * down d) y ∙ zero-mul (down d) in
    rw (ne_eqb n 0 (λ z. lt_irrefl 0 (subst (λ (k : ℕ). 0 < k) z (ltb→lt 0 n p))), z) (round_zero f (n * up d * down e) (mul-pos (mul-pos (ltb→lt 0 n p) (up_pos d)) (down_pos e)))

-- ---- a table of degrees from 1 on, with thresholds above 0
unfoldable pub sound : List Row → Bool
sound [] = true
sound (r ∷ rs) = (ltb 0 r.m && positive r.threshold) && sound rs

pairs_none : (t : Float) → lt float0 t ≡ false → (rs : List Row) → T (sound rs) → map (pair_of t) rs ≡ map (λ r. pair r.m 1) rs
unfolding sound
pairs_none t h [] k = refl
pairs_none t h (r ∷ rs) k =
    let a = and_l (ltb 0 r.m && positive r.threshold) (sound rs) k in
    ap₂ (λ (s : ℕ) (l : List Degree). pair r.m s ∷ l) (steps_none binary64 t r.threshold (and_r (ltb 0 r.m) (positive r.threshold) a) h)
    (pairs_none t h rs (and_r (ltb 0 r.m && positive r.threshold) (sound rs) k))

ones_cost : (rs : List Row) → T (sound rs) → (k : ℕ) → 1 ≤ cost (get_or (map (λ r. pair r.m 1) rs) k (pair 1 1))
unfolding sound
ones_cost [] s k = omega arith
ones_cost (r ∷ rs) s zero = rw (mul-one r.m) (ltb→lt 0 r.m (and_l (ltb 0 r.m) (positive r.threshold) (and_l (ltb 0 r.m && positive r.threshold) (sound rs) s)))
ones_cost (r ∷ rs) s (suc k) = ones_cost rs (and_r (ltb 0 r.m && positive r.threshold) (sound rs) s) k

table_least : (t x : Float) (rs : List Row) → T (sound (row 1 x ∷ rs)) → FirstLeast (map (pair_of t) (row 1 x ∷ rs)) (degree_by (row 1 x ∷ rs) t)
unfolding degree_by
table_least t x rs s = go (lt float0 t) refl
  where
    go : (b : Bool) → lt float0 t ≡ b → FirstLeast (map (pair_of t) (row 1 x ∷ rs)) (cond (lt float0 t) (least_of (pair_of t (row 1 x)) (map (pair_of t) rs)) (pair 1 1))
    go true e = rw e (first_least (pair_of t (row 1 x)) (map (pair_of t) rs))
    go false e =
        rw (e, pairs_none t e (row 1 x ∷ rs) s)
        (record { place = 0; inside = omega arith; stands = refl; least = λ k h. ones_cost (row 1 x ∷ rs) s k; first = λ k h. absurd (omega (arith, h)) })

-- ---- the theorem
pub degree_least : (dropTol t : Float) → FirstLeast (map (pair_of t) (table_for dropTol)) (degree_by (table_for dropTol) t)
unfolding table_for theta theta_loose round sound
degree_least dropTol t = go (le (decimal 1 4) dropTol)
  where
    go : (b : Bool) → FirstLeast (map (pair_of t) (cond b theta_loose theta)) (degree_by (cond b theta_loose theta) t)
    go true = table_least t _ _ tt
    go false = table_least t _ _ tt

-- ---- t that is 0 or below, or a NaN
pub degree_none : (dropTol t : Float) → lt float0 t ≡ false → degree_by (table_for dropTol) t ≡ pair 1 1
unfolding table_for theta theta_loose degree_by
degree_none dropTol t h = go (le (decimal 1 4) dropTol)
  where
    go : (b : Bool) → degree_by (cond b theta_loose theta) t ≡ pair 1 1
    go true = rw h
    go false = rw h
