-- SPDX-FileCopyrightText: 2026 The PPVM Authors
-- SPDX-License-Identifier: Apache-2.0

-- Ranges: a number in range is finite and bounded by a power of two, and rounding never passes such a bound. Assumes nothing.
use mathlib.Core.Path.{◌≡◌, refl, sym, ap, ap₂, ◌∙◌, subst}
use mathlib.Core.Logic.{inl, inr}
use Prim.Native.Nat.{ℕ, zero, suc, ◌+◌, ◌-◌, ◌*◌, ◌/◌, ◌%◌, ◌^◌, ◌≤◌, ◌<◌, zero-le, compare, Ordering}
use native.Mathlib.Nat.{le_trans, le_of_eq, le_of_lt, lt_of_lt_of_le, lt_of_le_of_lt, div-one, zero-mul, zero-lt-suc, one-mul, mul-one, mul_comm, mul_assoc, mul_right_comm, mul-mul-mul_comm, mul-le-mul, mul-le-mul_right, le_of_mul-le-mul_right, mul-pos, add-mul, eq_of_mul-eq-mul_right}
use native.Mathlib.Omega.{arith}
use native.Mathlib.Decide.{dec_lt}
use mathlib.Core.Bool.{Bool, true, false, not, ◌&&◌, ◌||◌, beq, cond, true≢false}
use lib.IntN.{pos, negsuc}
use borrow.Author.Tests.{ne_eqb}
use lib.Dec.{T, is_le, compare_is_eq, ltb, eqb, ltb→lt, lt→ltb, le→leb, eqb→eq, lit≤, lit<}
use lib.Pow.{pow-add, pow_pos, pow_mono, pow-lt, shl_lt, high, low}
use lib.Ieee.{Float, nan, inf, fin, binary64, up, down, unlike, size, nearest, odd, units, round, sum, add, sub, mul, lt, le, eq, neg, of_bits, is_nan}
use lib.Ieee.Fits.{down_pos, and_l, and_r, core, round_is}
use lib.Ieee.Exact.{HasValue, round_exact, units_val}
use lib.Ieee.Digits.{size-lt, size-le}
use lib.Ieee.Order.{le_of_values, round_mono}
use Rattle.number.specs.Numbers.{Cx, add_c, neg_c, mul_c, conj_c, zero_c, real_c, unit_c}
use Rattle.number.specs.Floats.{float0, float1, float2, magnitude, floats, is_finite, in_range, bounded}
use Rattle.number.specs.Key.{nonneg}
use Rattle.number.specs.Bounds.{Size, UpTo, UpToC, AtMost, AtMostC}
use Rattle.number.proofs.Tests.{or_cases, or_l, passes}
use Rattle.number.proofs.Tests
use Rattle.number.proofs.KeyLaws.{magnitude_nonneg, round_unsigned, unsigned_nonneg}

-- ---- the tests, as the code makes them

pub below_infinity : (x : Float) → lt (magnitude x) (inf false) ≡ is_finite x
unfolding magnitude lt neg of_bits
below_infinity nan = refl
below_infinity (inf true) = refl
below_infinity (inf false) = refl
below_infinity (fin s m e) = go (lt (fin s m e) (fin false 0 (pos 0)))
  where
    go : (b : Bool) → lt (cond b (neg (fin s m e)) (fin s m e)) (inf false) ≡ true
    go true = refl
    go false = refl

module _ (x : Float) where
  abbrev inside : Float → Bool
  inside m = le (fin false 1 (negsuc 199)) m && le m (fin false 1 (pos 200))

  pub range_zero : eq x float0 ≡ true → true ≡ in_range x
  unfolding in_range
  range_zero h = sym (ap (λ (b : Bool). b || inside (magnitude x)) h)

  module _ (m : Float) (other : eq x float0 ≡ false) (is : m ≡ magnitude x) where
    range_other : in_range x ≡ inside m
    unfolding in_range
    range_other = ap₂ (λ (b : Bool) (n : Float). b || inside n) other (sym is)

    pub range_above : le (fin false 1 (negsuc 199)) m ≡ true → le m (fin false 1 (pos 200)) ≡ in_range x
    range_above h = sym (range_other ∙ ap (λ (b : Bool). b && le m (fin false 1 (pos 200))) h)

    pub range_below : le (fin false 1 (negsuc 199)) m ≡ false → le (fin false 1 (negsuc 199)) m ≡ in_range x
    range_below h = h ∙ sym (range_other ∙ ap (λ (b : Bool). b && le m (fin false 1 (pos 200))) h)

-- ---- what a bound says

pub at_most_finite : {k : ℕ} {x : Float} → AtMost k x → T (is_finite x)
at_most_finite {x = nan} h = absurd h.size
at_most_finite {x = inf s} h = absurd h.size
at_most_finite {x = fin s m e} h = tt

pub up_to_mono : {b c : ℕ} {x : Float} → b ≤ c → UpTo b x → UpTo c x
up_to_mono {x = nan} l h = absurd h.size
up_to_mono {x = inf s} l h = absurd h.size
up_to_mono {x = fin s m e} l h = record { size = le_trans h.size (mul-le-mul_right (down e) l) }

pub at_most_up_to : {k : ℕ} {x : Float} → AtMost k x → UpTo (2 ^ k) x
at_most_up_to h = record { size = h.size }

pub up_to_at_most : {k : ℕ} {x : Float} → UpTo (2 ^ k) x → AtMost k x
up_to_at_most h = record { size = h.size }

pub at_most_mono : {j k : ℕ} {x : Float} → j ≤ k → AtMost j x → AtMost k x
at_most_mono l h = up_to_at_most (up_to_mono (pow_mono l) (at_most_up_to h))

pub at_most_neg : {k : ℕ} {x : Float} → AtMost k x → AtMost k (neg x)
unfolding neg
at_most_neg {x = nan} h = absurd h.size
at_most_neg {x = inf s} h = absurd h.size
at_most_neg {x = fin s m e} h = record { size = h.size }

-- from a comparison with a whole number
not_above : (a b : ℕ) → T (ltb a b || (eqb a b && true)) → a ≤ b
not_above a b t = elim (or_cases (ltb a b) (eqb a b && true) t) [ inl l ↦ le_of_lt (ltb→lt a b l) | inr e ↦ le_of_eq (eqb→eq a b (and_l (eqb a b) true e)) ]

le_whole : (b : ℕ) (x y : Float) → HasValue y false b 1 → T (nonneg x) → T (le x y) → Size b x
unfolding le lt eq
le_whole b nan y v u h = absurd u
le_whole b (inf true) y v u h = absurd u
le_whole b (inf false) nan v u h = absurd v
le_whole b (inf false) (inf t) v u h = absurd v
le_whole b (inf false) (fin t n d) v u h = absurd h
le_whole b (fin true m e) y v u h = le_trans (le_of_eq (ap (λ (z : ℕ). z * up e) (eqb→eq m 0 u) ∙ zero-mul (up e))) zero-le
le_whole b (fin false m e) nan v u h = absurd v
le_whole b (fin false m e) (inf t) v u h = absurd v
le_whole b (fin false m e) (fin true n d) v u h = absurd (true≢false v.0)
le_whole b (fin false m e) (fin false n d) v u h =
    le_of_mul-le-mul_right
    (le_trans (not_above (m * up e * down d) (n * up d * down e) h)
    (le_of_eq (ap (λ (z : ℕ). z * down e) (sym (mul-one (n * up d)) ∙ v.1) ∙ mul_right_comm b (down d) (down e))))
    (down_pos d)

power_value : (k : ℕ) → HasValue (fin false 1 (pos k)) false (2 ^ k) 1
power_value k = (refl, ap (λ (z : ℕ). z * 1) (one-mul (2 ^ k)))

-- ---- a range is a bound

turned_back : {k : ℕ} (x : Float) → AtMost k (neg x) → AtMost k x
unfolding neg
turned_back nan h = h
turned_back (inf s) h = absurd h.size
turned_back (fin s m e) h = record { size = h.size }

magnitude_bound : (k : ℕ) (x : Float) → AtMost k (magnitude x) → AtMost k x
unfolding magnitude
magnitude_bound k x = go (lt x float0)
  where
    go : (b : Bool) → AtMost k (cond b (neg x) x) → AtMost k x
    go true h = turned_back x h
    go false h = h

number : (k : ℕ) (x : Float) → T (le (magnitude x) (fin false 1 (pos k))) → T (nonneg (magnitude x))
unfolding le lt eq is_nan magnitude neg
number k nan h = absurd h
number k (inf s) h = magnitude_nonneg (inf s) tt
number k (fin s m e) h = magnitude_nonneg (fin s m e) tt

within_power : (k : ℕ) (x : Float) → T (le (magnitude x) (fin false 1 (pos k))) → AtMost k x
within_power k x h = magnitude_bound k x (record { size = le_whole (2 ^ k) (magnitude x) (fin false 1 (pos k)) (power_value k) (number k x h) h })

pub bounded_at_most : (x : Float) → bounded x ≡ true → AtMost 620 x
unfolding bounded
bounded_at_most x h = within_power 620 x (passes h tt)

zero_at_most : (k : ℕ) (x : Float) → T (eq x float0) → AtMost k x
unfolding eq of_bits
zero_at_most k nan h = absurd h
zero_at_most k (inf s) h = absurd h
zero_at_most k (fin s m e) h = record { size = le_trans (le_of_eq (sym (mul-one (m * up e)) ∙ eqb→eq (m * up e * 1) (0 * 1 * down e) (and_l (eqb (m * up e * 1) (0 * 1 * down e)) (beq s false || eqb (m * up e * 1) 0) h) ∙ zero-mul (down e))) zero-le }

pub in_range_at_most : (x : Float) → in_range x ≡ true → AtMost 200 x
unfolding in_range
in_range_at_most x h =
    elim (or_cases (eq x float0) (inside x (magnitude x)) (passes h tt)) [
      | inl z ↦ zero_at_most 200 x z
      | inr r ↦ within_power 200 x (and_r (le (fin false 1 (negsuc 199)) (magnitude x)) (le (magnitude x) (fin false 1 (pos 200))) r)
    ]

-- ---- and a bound up to 2^620 passes the test
power_le : (k : ℕ) (x : Float) → T (nonneg x) → AtMost k x → T (le x (fin false 1 (pos k)))
unfolding le lt eq
power_le k nan u h = absurd u
power_le k (inf s) u h = absurd h.size
power_le k (fin true m e) u h =
    let p : 0 < 1 * 2 ^ k * down e = mul-pos (mul-pos (zero-lt-suc 0) (pow_pos k)) (down_pos e) in
    or_l (ltb 0 (m * up e * 1 + 1 * 2 ^ k * down e)) _ (lt→ltb 0 (m * up e * 1 + 1 * 2 ^ k * down e) (omega arith))
power_le k (fin false m e) u h =
    le_of_values (fin false m e) (fin false 1 (pos k)) (m * up e) (down e) (2 ^ k) 1 (down_pos e) (zero-lt-suc 0) (refl, refl) (power_value k)
    (le_trans (le_of_eq (mul-one (m * up e))) h.size)

magnitude_at_most : {k : ℕ} {x : Float} → AtMost k x → AtMost k (magnitude x)
unfolding magnitude
magnitude_at_most {k} {x} h = go (lt x float0)
  where
    go : (b : Bool) → AtMost k (cond b (neg x) x)
    go true = at_most_neg h
    go false = h

numeric : (k : ℕ) (x : Float) → AtMost k x → T (not (is_nan x))
unfolding is_nan
numeric k nan h = absurd h.size
numeric k (inf s) h = absurd h.size
numeric k (fin s m e) h = tt

pub at_most_bounded : {k : ℕ} {x : Float} → k ≤ 620 → AtMost k x → bounded x ≡ true
unfolding bounded
at_most_bounded {k} {x} l h = Tests.yes (power_le 620 (magnitude x) (magnitude_nonneg x (numeric k x h)) (magnitude_at_most (at_most_mono l h)))

-- ---- rounding never passes a whole number that is rounded to itself, or down to r

signs : (b : ℕ) (s : Bool) (a c : ℕ) → Size b (round binary64 false a c) → Size b (round binary64 s a c)
unfolding units odd
signs b s a c h =
    let n = a * 2 ^ 1074 in
    let j = size (n / c) - 53 in
    let q = nearest (n / (c * 2 ^ j)) (compare (n % (c * 2 ^ j) * 2) (c * 2 ^ j)) in
    subst (Size b) (sym (round_is binary64 s a c)) (go (ltb (q * 2 ^ j) (2 ^ 2098)) q j (subst (Size b) (round_is binary64 false a c) h))
  where
    go : (t : Bool) (q j : ℕ) → Size b (cond t (odd 54 false q j 1074) (inf false)) → Size b (cond t (odd 54 s q j 1074) (inf s))
    go true zero j h = h
    go true (suc q) j h = h
    go false q j h = absurd h

-- the whole number b, rounded, is r
abbrev pub RoundsTo : ℕ → ℕ → Type 0
RoundsTo b r = HasValue (round binary64 false b 1) false r 1

size_round : (b r : ℕ) (s : Bool) (a c : ℕ) → RoundsTo b r → 0 < c → a ≤ b * c → Size r (round binary64 s a c)
size_round b r s a c v C h =
    signs r s a c
    (le_whole r (round binary64 false a c) (round binary64 false b 1) v (unsigned_nonneg (round binary64 false a c) (round_unsigned binary64 a c))
    (round_mono binary64 a c b 1 C (zero-lt-suc 0) (le_trans (le_of_eq (mul-one a)) h)))

-- a whole number of 53 digits is rounded to itself
pub rounds_multiple : (m k : ℕ) → m < 2 ^ 53 → k ≤ 970 → RoundsTo (m * 2 ^ k) (m * 2 ^ k)
rounds_multiple m k M K =
    round_exact binary64 false (m * 2 ^ k) 1 m (k + 1074) (zero-lt-suc 0) M
    (lt_of_lt_of_le (shl_lt 53 (k + 1074) M) (pow_mono (far k K)))
    (mul_assoc m (2 ^ k) (2 ^ 1074) ∙ ap (λ (z : ℕ). m * z) (sym (pow-add 2 k 1074)) ∙ sym (mul-one (m * 2 ^ (k + 1074))))
  where
    far : (k : ℕ) → k ≤ 970 → 53 + (k + 1074) ≤ 2098
    far k h = omega arith

rounds_power : (k : ℕ) → k ≤ 1023 → RoundsTo (2 ^ k) (2 ^ k)
rounds_power k h =
    round_exact binary64 false (2 ^ k) 1 1 (k + 1074) (zero-lt-suc 0) (lit< tt)
    (subst (λ (z : ℕ). z < 2 ^ 2098) (sym (one-mul (2 ^ (k + 1074)))) (pow-lt (far k h)))
    (sym (pow-add 2 k 1074) ∙ sym (mul-one (1 * 2 ^ (k + 1074)) ∙ one-mul (2 ^ (k + 1074))))
  where
    far : (k : ℕ) → k ≤ 1023 → k + 1074 < 2098
    far k h = omega arith

-- from one fraction to another of the same size
rescale : (x : Float) (w l r : ℕ) → 0 < l → r * l ≡ w → HasValue x false w l → HasValue x false r 1
rescale nan w l r p h v = v
rescale (inf t) w l r p h v = v
rescale (fin t m e) w l r p h v = (
  v.0,
  mul-one (m * up e)
      ∙ eq_of_mul-eq-mul_right l p (m * up e) (r * down e) (v.1 ∙ ap (λ (z : ℕ). z * down e) (sym h) ∙ mul_right_comm r l (down e)),
)

below_half : (q a b : ℕ) → a < b → nearest q (compare a b) ≡ q
below_half q a b h = go (compare a b) (le→leb a b (le_of_lt h)) (ne_eqb a b (λ e. omega arith))
  where
    go : (o : Ordering) → T (is_le o) → compare_is_eq o ≡ false → nearest q o ≡ q
    go Ordering.lt l e = refl
    go Ordering.eq l e = absurd (true≢false e)
    go Ordering.gt l e = absurd l

-- 2 ^ k beside 2 ^ (k + 54) is less than half a digit
module _ (k : ℕ) (K : k ≤ 969) where
  abbrev scaled : ℕ
  scaled = (2 ^ (k + 54) + 2 ^ k) * 2 ^ 1074

  top_is : 2 ^ (k + 54) * 2 ^ 1074 ≡ 2 ^ 52 * 2 ^ (k + 1076)
  top_is = let e : k + 54 + 1074 ≡ 52 + (k + 1076) = omega arith in sym (pow-add 2 (k + 54) 1074) ∙ ap (λ (z : ℕ). 2 ^ z) e ∙ pow-add 2 52 (k + 1076)

  scaled_is : scaled ≡ 2 ^ 52 * 2 ^ (k + 1076) + 2 ^ (k + 1074)
  scaled_is =
      add-mul (2 ^ (k + 54)) (2 ^ k) (2 ^ 1074)
      ∙ ap₂ ◌+◌ top_is (sym (pow-add 2 k 1074))

  lost : 2 ^ (k + 1074) * 2 < 2 ^ (k + 1076)
  lost = let e : 2 ^ (k + 1076) ≡ 2 ^ (k + 1074) * 4 = ap (λ (z : ℕ). 2 ^ z) (shift k) ∙ pow-add 2 (k + 1074) 2 in let p = pow_pos (k + 1074) in omega (arith, e, p)
    where
      shift : (k : ℕ) → k + 1076 ≡ k + 1074 + 2
      shift k = omega arith

  digits : size scaled - 53 ≡ k + 1076
  digits = tops (dec_lt (k + 1128) (size scaled))
    where
      less : (n w j t e : ℕ) → n ≡ 2 ^ 52 * j + w → 2 ^ 52 * j ≡ t → w * 2 < j → e ≡ t * 2 → n < e
      less n w j t e h p l d = omega arith

      not_less : (n w j t s : ℕ) → n ≡ 2 ^ 52 * j + w → 2 ^ 52 * j ≡ t → s ≤ t → n < s → ⊥
      not_less n w j t s h p l d = omega arith

      top : 2 ^ 52 * 2 ^ (k + 1076) ≡ 2 ^ (k + 1128)
      top = let e : 52 + (k + 1076) ≡ k + 1128 = omega arith in sym (pow-add 2 52 (k + 1076)) ∙ ap (λ (z : ℕ). 2 ^ z) e

      under : scaled < 2 ^ (k + 1129)
      under =
          let e : 2 ^ (k + 1129) ≡ 2 ^ (k + 1128) * 2 = let d : k + 1129 ≡ k + 1128 + 1 = omega arith in ap (λ (z : ℕ). 2 ^ z) d ∙ pow-add 2 (k + 1128) 1 in
          less scaled (2 ^ (k + 1074)) (2 ^ (k + 1076)) (2 ^ (k + 1128)) (2 ^ (k + 1129)) scaled_is top lost e

      tops : Dec (k + 1128 < size scaled) → size scaled - 53 ≡ k + 1076
      tops (yes h) = omega (arith, h, size-le scaled (k + 1129) under)
      tops (no h) =
          let l : 2 ^ size scaled ≤ 2 ^ (k + 1128) = pow_mono (omega arith) in
          absurd (not_less scaled (2 ^ (k + 1074)) (2 ^ (k + 1076)) (2 ^ (k + 1128)) (2 ^ size scaled) scaled_is top l (size-lt scaled))

  pub rounds_settled : RoundsTo (2 ^ (k + 54) + 2 ^ k) (2 ^ (k + 54))
  rounds_settled =
      let j = k + 1076 in
      let one : 1 * 2 ^ j ≡ 2 ^ j = one-mul (2 ^ j) in
      let few : 2 ^ (k + 1074) < 2 ^ j = omega (arith, lost) in
      let whole_part : scaled / 2 ^ j ≡ 2 ^ 52 = ap (λ (z : ℕ). z / 2 ^ j) scaled_is ∙ high (2 ^ 52) j few in
      let rest : scaled % 2 ^ j ≡ 2 ^ (k + 1074) = ap (λ (z : ℕ). z % 2 ^ j) scaled_is ∙ low (2 ^ 52) j few in
      let is : round binary64 false (2 ^ (k + 54) + 2 ^ k) 1 ≡ units binary64 false (2 ^ 52) j =
      round_is binary64 false (2 ^ (k + 54) + 2 ^ k) 1
      ∙ ap (core binary64 false scaled 1) (ap (λ (z : ℕ). size z - 53) (div-one scaled) ∙ digits)
      ∙ ap (λ (u : ℕ). units binary64 false (nearest (scaled / u) (compare (scaled % u * 2) u)) j) one
      ∙ ap₂ (λ (a b : ℕ). units binary64 false (nearest a (compare (b * 2) (2 ^ j))) j) whole_part rest
      ∙ ap (λ (q : ℕ). units binary64 false q j) (below_half (2 ^ 52) (2 ^ (k + 1074) * 2) (2 ^ j) lost) in
      rescale (round binary64 false (2 ^ (k + 54) + 2 ^ k) 1) (2 ^ 52 * 2 ^ j) (2 ^ 1074) (2 ^ (k + 54)) (pow_pos 1074)
      top_is
      (subst (λ (x : Float). HasValue x false (2 ^ 52 * 2 ^ j) (2 ^ 1074)) (sym is)
      (units_val binary64 false (2 ^ 52) j (lt_of_le_of_lt (le_of_eq (sym (pow-add 2 52 j))) (pow-lt (inside k K)))))
    where
      inside : (k : ℕ) → k ≤ 969 → 52 + (k + 1076) < 2098
      inside k h = omega arith

pub at_most_round : {k : ℕ} (s : Bool) (a c : ℕ) → k ≤ 1023 → 0 < c → a ≤ 2 ^ k * c → AtMost k (round binary64 s a c)
at_most_round {k} s a c K C h = record { size = size_round (2 ^ k) (2 ^ k) s a c (rounds_power k K) C h }

pub at_most_mul : {j k : ℕ} {x y : Float} → j + k ≤ 1023 → AtMost j x → AtMost k y → AtMost (j + k) (mul binary64 x y)
unfolding mul
at_most_mul {x = nan} K h g = absurd h.size
at_most_mul {x = inf s} K h g = absurd h.size
at_most_mul {x = fin s m e} {y = nan} K h g = absurd g.size
at_most_mul {x = fin s m e} {y = inf t} K h g = absurd g.size
at_most_mul {j} {k} {x = fin s m e} {y = fin t n d} K h g =
    at_most_round (unlike s t) (m * up e * (n * up d)) (down e * down d) K (mul-pos (down_pos e) (down_pos d))
    (le_trans (mul-le-mul h.size g.size) (le_of_eq (mul-mul-mul_comm (2 ^ j) (down e) (2 ^ k) (down d) ∙ ap (λ (z : ℕ). z * (down e * down d)) (sym (pow-add 2 j k)))))

sum_bound : (p q r : ℕ) (s t : Bool) (a b c : ℕ) → RoundsTo (p + q) r → 0 < c → a ≤ p * c → b ≤ q * c → Size r (sum binary64 s a t b c)
unfolding sum
sum_bound p q r s t a b c v C h g = go (beq s t) (ltb a b) (s && ltb b a)
  where
    both : (p + q) * c ≡ p * c + q * c
    both = add-mul p q c

    go : (x y z : Bool) → Size r (cond x (round binary64 s (a + b) c) (cond y (round binary64 t (b - a) c) (round binary64 z (a - b) c)))
    go true y z = size_round (p + q) r s (a + b) c v C (omega (arith, h, g, both))
    go false true z = size_round (p + q) r t (b - a) c v C (omega (arith, g, both))
    go false false z = size_round (p + q) r z (a - b) c v C (omega (arith, h, both))

pub up_to_add : {p q r : ℕ} {x y : Float} → RoundsTo (p + q) r → UpTo p x → UpTo q y → UpTo r (add binary64 x y)
unfolding add
up_to_add {x = nan} v h g = absurd h.size
up_to_add {x = inf s} v h g = absurd h.size
up_to_add {x = fin s m e} {y = nan} v h g = absurd g.size
up_to_add {x = fin s m e} {y = inf t} v h g = absurd g.size
up_to_add {p} {q} {r} {x = fin s m e} {y = fin t n d} v h g = record {
  size = sum_bound p q r s t (m * up e * down d) (n * up d * down e) (down e * down d) v (mul-pos (down_pos e) (down_pos d))
      (le_trans (mul-le-mul_right (down d) h.size) (le_of_eq (mul_assoc p (down e) (down d))))
      (le_trans (mul-le-mul_right (down e) g.size) (le_of_eq (mul_assoc q (down d) (down e) ∙ ap (λ (z : ℕ). q * z) (mul_comm (down d) (down e)))));
}

pub at_most_add : {k : ℕ} {x y : Float} → k < 1023 → AtMost k x → AtMost k y → AtMost (suc k) (add binary64 x y)
at_most_add {k} K h g =
    let e : 2 ^ suc k ≡ 2 ^ k + 2 ^ k = omega arith in
    up_to_at_most (up_to_add (subst (λ (z : ℕ). RoundsTo z (2 ^ suc k)) e (rounds_power (suc k) K)) (at_most_up_to h) (at_most_up_to g))

pub at_most_sub : {k : ℕ} {x y : Float} → k < 1023 → AtMost k x → AtMost k y → AtMost (suc k) (sub binary64 x y)
unfolding sub
at_most_sub K h g = at_most_add K h (at_most_neg g)

-- m numbers of at most 2 ^ k, and one more
pub up_to_more : {m k : ℕ} {x y : Float} → suc m < 2 ^ 53 → k ≤ 970 → UpTo (m * 2 ^ k) x → AtMost k y → UpTo (suc m * 2 ^ k) (add binary64 x y)
up_to_more {m} {k} M K h g =
    let e : suc m * 2 ^ k ≡ m * 2 ^ k + 2 ^ k = omega (arith, add-mul m 1 (2 ^ k)) in
    up_to_add (subst (λ (z : ℕ). RoundsTo z (suc m * 2 ^ k)) e (rounds_multiple (suc m) k M K)) h (at_most_up_to g)

-- however many numbers of at most 2 ^ k are added, the sum stays within 2 ^ (k + 54)
pub at_most_settled : {k : ℕ} {x y : Float} → k ≤ 969 → AtMost (k + 54) x → AtMost k y → AtMost (k + 54) (add binary64 x y)
at_most_settled {k} K h g = up_to_at_most (up_to_add (rounds_settled k K) (at_most_up_to h) (at_most_up_to g))

-- ---- complex numbers

pub at_most_c_mono : {j k : ℕ} {x : Cx floats} → j ≤ k → AtMostC j x → AtMostC k x
at_most_c_mono l h = record { re = at_most_mono l h.re; im = at_most_mono l h.im }

pub up_to_c_at_most : {k : ℕ} {x : Cx floats} → UpToC (2 ^ k) x → AtMostC k x
up_to_c_at_most h = record { re = up_to_at_most h.re; im = up_to_at_most h.im }

pub up_to_c_mono : {b c : ℕ} {x : Cx floats} → b ≤ c → UpToC b x → UpToC c x
up_to_c_mono l h = record { re = up_to_mono l h.re; im = up_to_mono l h.im }

pub up_to_c_more : {m k : ℕ} {x y : Cx floats} → suc m < 2 ^ 53 → k ≤ 970 → UpToC (m * 2 ^ k) x → AtMostC k y → UpToC (suc m * 2 ^ k) (add_c floats x y)
unfolding add_c
up_to_c_more M K h g = record { re = up_to_more M K h.re g.re; im = up_to_more M K h.im g.im }

pub at_most_c_settled : {k : ℕ} {x y : Cx floats} → k ≤ 969 → AtMostC (k + 54) x → AtMostC k y → AtMostC (k + 54) (add_c floats x y)
unfolding add_c
at_most_c_settled K h g = record { re = at_most_settled K h.re g.re; im = at_most_settled K h.im g.im }

pub at_most_c_mul : {j k : ℕ} {x y : Cx floats} → j + k < 1023 → AtMostC j x → AtMostC k y → AtMostC (suc (j + k)) (mul_c floats x y)
unfolding mul_c
at_most_c_mul K h g = record {
  re = at_most_sub K (at_most_mul (le_of_lt K) h.re g.re) (at_most_mul (le_of_lt K) h.im g.im);
  im = at_most_add K (at_most_mul (le_of_lt K) h.re g.im) (at_most_mul (le_of_lt K) h.im g.re);
}

pub at_most_c_neg : {k : ℕ} {x : Cx floats} → AtMostC k x → AtMostC k (neg_c floats x)
unfolding neg_c
at_most_c_neg h = record { re = at_most_neg h.re; im = at_most_neg h.im }

pub at_most_c_conj : {k : ℕ} {x : Cx floats} → AtMostC k x → AtMostC k (conj_c floats x)
unfolding conj_c
at_most_c_conj h = record { re = h.re; im = at_most_neg h.im }

pub up_to_nought : (b : ℕ) → UpTo b float0
unfolding of_bits
up_to_nought b = record { size = zero-le }

pub up_to_c_nought : (b : ℕ) → UpToC b (zero_c floats)
up_to_c_nought b = record { re = up_to_nought b; im = up_to_nought b }

pub at_most_nought : (k : ℕ) → AtMost k float0
at_most_nought k = up_to_at_most (up_to_nought (2 ^ k))

pub at_most_c_real : {k : ℕ} {x : Float} → AtMost k x → AtMostC k (real_c floats x)
at_most_c_real {k} h = record { re = h; im = at_most_nought k }

pub at_most_unit : AtMost 0 float1
unfolding of_bits
at_most_unit = record { size = lit≤ tt }

pub at_most_two : AtMost 1 float2
unfolding of_bits
at_most_two = record { size = lit≤ tt }

pub at_most_c_unit : (n : ℕ) → AtMostC 0 (unit_c floats n)
unfolding unit_c
at_most_c_unit zero = record { re = at_most_unit; im = at_most_nought 0 }
at_most_c_unit (suc zero) = record { re = at_most_nought 0; im = at_most_unit }
at_most_c_unit (suc (suc zero)) = record { re = at_most_neg at_most_unit; im = at_most_nought 0 }
at_most_c_unit (suc (suc (suc n))) = record { re = at_most_nought 0; im = at_most_neg at_most_unit }
