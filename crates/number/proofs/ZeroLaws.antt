-- SPDX-FileCopyrightText: 2026 The PPVM Authors
-- SPDX-License-Identifier: Apache-2.0

-- Zeros in a sum: a finite value times a zero is a zero, a sum that begins at +0.0 never becomes −0.0, and a zero adds nothing to a
-- number that is not −0.0. Assumes nothing.
use mathlib.Core.Path.{◌≡◌, refl, sym, ap, ap₂, ◌∙◌, subst}
use mathlib.Core.Bool.{Bool, true, false, not, ◌&&◌, ◌||◌, cond, beq, false≢true}
use Prim.Native.Nat.{ℕ, zero, suc, ◌+◌, ◌-◌, ◌*◌, ◌/◌, ◌%◌, ◌^◌, ◌≤◌, ◌<◌, compare}
use native.Mathlib.Nat.{add-mul, mul-sub, lt_of_le_of_lt, le_of_suc-le-suc, lt_of_not-le, not-le_of_lt, eq_of_mul-eq-mul_right, le_trans, le_of_eq, zero-mul, mul-zero, mul-one, one-mul, mul_comm, mul_assoc, mul-pos, mul-le-mul_right, zero-lt-suc}
use native.Mathlib.Omega.{arith}
use borrow.Author.Tests.{ne_eqb}
use lib.Dec.{T, leb, leb→le, ltb, eqb, eqb→eq, ltb→lt, lt→ltb, leb-suc-zero}
use lib.Pow.{pow-add, pow_pos, pow-lt}
use lib.IntN.{ℤ, pos, negsuc}
use lib.Ieee.{Float, nan, inf, fin, Format, binary64, prec, emax, low, up, down, size, nearest, odd, units, round, sum, add, mul, neg, eq, le, fits, of_bits, unlike}
use lib.Ieee.Digits.{back}
use lib.Ieee.Fits.{up_pos, down_pos, eq→eqb, round_is, round-fits, neg-fits, and_l, and_r}
use lib.Ieee.Exact.{HasValue, round_exact}
use lib.Ieee.Order.{round_mono}
use lib.Ieee.Scale.{round_same}
use Rattle.number.specs.Floats.{float0, is_finite}
use Rattle.number.specs.Key.{key}
use Rattle.number.proofs.Tests.{yes, passes}
use Rattle.number.proofs.KeyLaws.{fits_down, key_exact, left_units, right_units, key_one, key_finite, eq_key, le_key, unsigned, unsigned_nonneg, round_unsigned}

-- ---- the sign passes through rounding
odd_neg : (d : ℕ) (s : Bool) (q k l : ℕ) → odd d (not s) q k l ≡ neg (odd d s q k l)
unfolding odd neg
odd_neg d s zero k l = refl
odd_neg d s (suc q) k l = refl

units_neg : (f : Format) (s : Bool) (q k : ℕ) → units f (not s) q k ≡ neg (units f s q k)
unfolding units neg
units_neg f s q k = go (ltb (q * 2 ^ k) (2 ^ (low f + suc (emax f))))
  where
    go : (b : Bool) → cond b (odd (suc (prec f)) (not s) q k (low f)) (inf (not s)) ≡ neg (cond b (odd (suc (prec f)) s q k (low f)) (inf s))
    go true = odd_neg (suc (prec f)) s q k (low f)
    go false = refl

round_neg : (f : Format) (s : Bool) (a c : ℕ) → round f (not s) a c ≡ neg (round f s a c)
round_neg f s a c =
    let n = a * 2 ^ low f in
    let k = size (n / c) - prec f in
    let u = c * 2 ^ k in
    round_is f (not s) a c ∙ units_neg f s (nearest (n / u) (compare (n % u * 2) u)) k ∙ ap neg (sym (round_is f s a c))

-- ---- a number that fits rounds to itself
-- m × 2^e, in units of the smallest value: m × 2^j
fits_small : (f : Format) (s : Bool) (m : ℕ) (e : ℤ) → T (fits f (fin s m e)) → m < 2 ^ prec f
unfolding fits
fits_small f s zero e t = pow_pos (prec f)
fits_small f s (suc m) e t =
    ltb→lt (suc m) (2 ^ prec f) (and_r (eqb (suc m % 2) 1) (ltb (suc m) (2 ^ prec f)) (and_l (eqb (suc m % 2) 1 && ltb (suc m) (2 ^ prec f)) (leb (down e) (2 ^ low f)) (and_l (eqb (suc m % 2) 1 && ltb (suc m) (2 ^ prec f) && leb (down e) (2 ^ low f)) (ltb (suc m * up e) (2 ^ suc (emax f) * down e)) t)))

same_value : (f : Format) (m : ℕ) (e : ℤ) (x : Float) → T (fits f x) → T (fits f (fin false m e)) → HasValue x false (m * up e) (down e) → x ≡ fin false m e
unfolding eq
same_value f m e nan F G h = absurd h
same_value f m e (inf s) F G h = absurd h
same_value f m e (fin true n d) F G h = absurd (false≢true (sym h.0))
same_value f m e (fin false n d) F G h =
    let same : eq (fin false n d) (fin false m e) ≡ true = ap (λ (b : Bool). b && true) (yes {b = eqb (n * up d * down e) (m * up e * down d)} (eq→eqb h.1)) in
    key_one f (fin false n d) (fin false m e) F G tt tt (eqb→eq (key f (fin false n d)) (key f (fin false m e)) (passes (sym (eq_key f (fin false n d) (fin false m e) F G tt tt)) (passes same tt)))

own_value : (f : Format) (m : ℕ) (e : ℤ) → T (fits f (fin false m e)) → HasValue (round f false (m * up e) (down e)) false (m * up e) (down e)
unfolding key
own_value f m (pos k) F =
    let x : m * 2 ^ (k + low f) ≡ m * 2 ^ k * 2 ^ low f = ap (λ (z : ℕ). m * z) (pow-add 2 k (low f)) ∙ sym (mul_assoc m (2 ^ k) (2 ^ low f)) in
    let y : m * 2 ^ (k + low f) ≡ key f (fin false m (pos k)) = x ∙ sym (key_exact f false m (pos k) F) ∙ mul-one (key f (fin false m (pos k))) in
    round_exact f false (m * 2 ^ k) 1 m (k + low f) (zero-lt-suc 0) (fits_small f false m (pos k) F)
    (lt_of_le_of_lt (le_of_eq y) (key_finite f false m (pos k) F))
    (sym x ∙ sym (mul-one (m * 2 ^ (k + low f))))
own_value f m (negsuc k) F =
    let j : suc k ≤ low f = le_of_suc-le-suc (lt_of_not-le (λ (g : suc (low f) ≤ suc k). not-le_of_lt (pow-lt g) (fits_down f false m (negsuc k) F))) in
    let x : m * 2 ^ (low f - suc k) * 2 ^ suc k ≡ m * 1 * 2 ^ low f =
    mul_assoc m (2 ^ (low f - suc k)) (2 ^ suc k)
    ∙ ap (λ (z : ℕ). m * z) (sym (pow-add 2 (low f - suc k) (suc k)) ∙ ap (λ (z : ℕ). 2 ^ z) (back (low f) (suc k) j))
    ∙ ap (λ (z : ℕ). z * 2 ^ low f) (sym (mul-one m)) in
    let y : m * 2 ^ (low f - suc k) ≡ key f (fin false m (negsuc k)) = eq_of_mul-eq-mul_right (2 ^ suc k) (pow_pos (suc k)) (m * 2 ^ (low f - suc k)) (key f (fin false m (negsuc k))) (x ∙ sym (key_exact f false m (negsuc k) F)) in
    round_exact f false (m * 1) (2 ^ suc k) m (low f - suc k) (pow_pos (suc k)) (fits_small f false m (negsuc k) F)
    (lt_of_le_of_lt (le_of_eq y) (key_finite f false m (negsuc k) F))
    (sym x)

round_own : (f : Format) (s : Bool) (m : ℕ) (e : ℤ) → T (fits f (fin s m e)) → round f s (m * up e) (down e) ≡ fin s m e
unfolding neg
round_own f s m e F = go s F
  where
    plain : T (fits f (fin false m e)) → round f false (m * up e) (down e) ≡ fin false m e
    plain G = same_value f m e (round f false (m * up e) (down e)) (round-fits f false (m * up e) (down e)) G (own_value f m e G)

    go : (s : Bool) → T (fits f (fin s m e)) → round f s (m * up e) (down e) ≡ fin s m e
    go false G = plain G
    go true G = round_neg f false (m * up e) (down e) ∙ ap neg (plain (neg-fits f (fin true m e) G))

-- ---- a zero adds nothing to a number that is not −0.0
abbrev pub is_minus_zero : Float → Bool
is_minus_zero nan = false
is_minus_zero (inf s) = false
is_minus_zero (fin s m e) = s && eqb m 0

minus_size : (s : Bool) (m : ℕ) (e : ℤ) → s ≡ true → is_minus_zero (fin s m e) ≡ false → 0 < m * up e
minus_size false m e g h = absurd (false≢true g)
minus_size true zero e g h = absurd (false≢true (sym h))
minus_size true (suc m) e g h = mul-pos (zero-lt-suc m) (up_pos e)

sum_nothing : (f : Format) (s : Bool) (a : ℕ) (t : Bool) (c : ℕ) → (s ≡ true → 0 < a) → sum f s a t 0 c ≡ round f s a c
unfolding sum
sum_nothing f true a true c h = ap (λ (z : ℕ). round f true z c) (omega arith)
sum_nothing f false a false c h = ap (λ (z : ℕ). round f false z c) (omega arith)
sum_nothing f false a true c h = rw (leb-suc-zero a) (ap (λ (z : ℕ). round f false z c) (omega arith))
sum_nothing f true a false c h = rw (leb-suc-zero a, yes {b = ltb 0 a} (lt→ltb 0 a (h refl))) (ap (λ (z : ℕ). round f true z c) (omega arith))

pub add_nothing : (f : Format) (x : Float) (t : Bool) → T (fits f x) → is_minus_zero x ≡ false → add f x (fin t 0 (pos 0)) ≡ x
unfolding add
add_nothing f nan t F h = refl
add_nothing f (inf s) t F h = refl
add_nothing f (fin s m e) t F h =
    ap₂ (λ (a c : ℕ). sum f s a t (0 * 1 * down e) c) (mul-one (m * up e)) (mul-one (down e))
    ∙ ap (λ (b : ℕ). sum f s (m * up e) t b (down e)) (zero-mul (down e))
    ∙ sum_nothing f s (m * up e) t (down e) (λ g. minus_size s m e g h)
    ∙ round_own f s m e F

-- ---- a sum that begins at a number that is not −0.0 never becomes −0.0
least : round binary64 false 1 (2 ^ 1074) ≡ fin false 1 (negsuc 1073)
unfolding round units odd size
least = refl

-- rounding to −0.0 takes less than the smallest value
zero_size : (e : ℤ) → 0 * up e * (2 ^ 1074 / down e) ≡ 0
zero_size e = ap (λ (n : ℕ). n * (2 ^ 1074 / down e)) (zero-mul (up e)) ∙ zero-mul (2 ^ 1074 / down e)

and_false : (b : Bool) → (b && false) ≡ false
and_false true = refl
and_false false = refl

round_not_minus : (s : Bool) (a c : ℕ) → 0 < c → (s ≡ true → c ≤ a * 2 ^ low binary64) → is_minus_zero (round binary64 s a c) ≡ false
unfolding key neg fits
round_not_minus false a c C h = plain (round binary64 false a c) (round_unsigned binary64 a c)
  where
    plain : (x : Float) → T (unsigned x) → is_minus_zero x ≡ false
    plain nan u = refl
    plain (inf s) u = refl
    plain (fin false m e) u = refl
    plain (fin true m e) u = absurd u
round_not_minus true a c C h =
    ap is_minus_zero (round_neg binary64 false a c)
    ∙ turned (round binary64 false a c) (round-fits binary64 false a c) (round_unsigned binary64 a c) (subst (λ (x : Float). T (le x (round binary64 false a c))) least (round_mono binary64 1 (2 ^ 1074) a c (pow_pos 1074) C (le_trans (le_of_eq (one-mul c)) (h refl))))
  where
    turned : (x : Float) → T (fits binary64 x) → T (unsigned x) → T (le (fin false 1 (negsuc 1073)) x) → is_minus_zero (neg x) ≡ false
    turned nan F u t = refl
    turned (inf s) F u t = refl
    turned (fin s zero e) F u t =
        let k = passes (sym (le_key binary64 (fin false 1 (negsuc 1073)) (fin s 0 e) tt F tt (unsigned_nonneg (fin s 0 e) u))) t in
        absurd (not-le_of_lt (zero-lt-suc 0) (subst (λ (n : ℕ). 1 ≤ n) (zero_size e) (leb→le 1 (0 * up e * (2 ^ 1074 / down e)) k)))
    turned (fin s (suc m) e) F u t = ap (λ (b : Bool). not s && b) (ne_eqb (suc m) 0 (λ z. omega arith)) ∙ and_false (not s)

sub_mul : (a b c : ℕ) → (a - b) * c ≡ a * c - b * c
sub_mul a b c = mul_comm (a - b) c ∙ mul-sub c a b ∙ ap₂ ◌-◌ (mul_comm c a) (mul_comm c b)

-- a whole number of smallest values that is not zero is at least one of them
a_unit : (a c k : ℕ) → a * 2 ^ low binary64 ≡ k * c → 0 < a → c ≤ a * 2 ^ low binary64
a_unit a c zero h p = absurd (not-le_of_lt (mul-pos p (pow_pos (low binary64))) (le_of_eq (h ∙ zero-mul c)))
a_unit a c (suc k) h p = le_trans (le_trans (le_of_eq (sym (one-mul c))) (mul-le-mul_right c (omega arith))) (le_of_eq (sym h))

module _ (s t : Bool) (a b c j k : ℕ) (A : a * 2 ^ low binary64 ≡ j * c) (B : b * 2 ^ low binary64 ≡ k * c) (C : 0 < c) (h : s ≡ true → 0 < a) where
  together : (a + b) * 2 ^ low binary64 ≡ (j + k) * c
  together = add-mul a b (2 ^ low binary64) ∙ ap₂ ◌+◌ A B ∙ sym (add-mul j k c)

  a_less : (a - b) * 2 ^ low binary64 ≡ (j - k) * c
  a_less = sub_mul a b (2 ^ low binary64) ∙ ap₂ ◌-◌ A B ∙ sym (sub_mul j k c)

  b_less : (b - a) * 2 ^ low binary64 ≡ (k - j) * c
  b_less = sub_mul b a (2 ^ low binary64) ∙ ap₂ ◌-◌ B A ∙ sym (sub_mul k j c)

  sum_not_minus : is_minus_zero (sum binary64 s a t b c) ≡ false
  unfolding sum
  sum_not_minus = go (beq s t) (ltb a b) (ltb→lt a b)
    where
      differ : (r : Bool) → (T r → b < a) → is_minus_zero (round binary64 (s && r) (a - b) c) ≡ false
      differ true l = round_not_minus (s && true) (a - b) c C (λ _. a_unit (a - b) c (j - k) a_less (omega (arith, l tt)))
      differ false l = round_not_minus (s && false) (a - b) c C (λ g. absurd (false≢true (sym (and_false s) ∙ g)))

      go : (x y : Bool) → (T y → a < b) → is_minus_zero (cond x (round binary64 s (a + b) c) (cond y (round binary64 t (b - a) c) (round binary64 (s && ltb b a) (a - b) c))) ≡ false
      go true y l = round_not_minus s (a + b) c C (λ g. a_unit (a + b) c (j + k) together (omega (arith, h g)))
      go false true l = round_not_minus t (b - a) c C (λ _. a_unit (b - a) c (k - j) b_less (omega (arith, l tt)))
      go false false l = differ (ltb b a) (ltb→lt b a)

pub add_not_minus : (x y : Float) → T (fits binary64 x) → T (fits binary64 y) → is_minus_zero x ≡ false → is_minus_zero (add binary64 x y) ≡ false
unfolding add
add_not_minus nan y F G h = refl
add_not_minus (inf s) nan F G h = refl
add_not_minus (inf s) (inf t) F G h = go (beq s t)
  where
    go : (b : Bool) → is_minus_zero (cond b (inf s) nan) ≡ false
    go true = refl
    go false = refl
add_not_minus (inf s) (fin t n d) F G h = refl
add_not_minus (fin s m e) nan F G h = refl
add_not_minus (fin s m e) (inf t) F G h = refl
add_not_minus (fin s m e) (fin t n d) F G h =
    sum_not_minus s t (m * up e * down d) (n * up d * down e) (down e * down d) (key binary64 (fin s m e)) (key binary64 (fin t n d))
    (left_units binary64 s m e t n d F G) (right_units binary64 s m e t n d F G)
    (mul-pos (down_pos e) (down_pos d))
    (λ g. mul-pos (minus_size s m e g h) (down_pos d))

-- ---- a finite value times a zero is a zero
round_nothing : (f : Format) (s : Bool) (c : ℕ) → 0 < c → round f s 0 c ≡ fin s 0 (pos 0)
unfolding fits
round_nothing f s c C = round_same f s 0 c 0 1 C (zero-lt-suc 0) (sym (zero-mul c)) ∙ round_own f s 0 (pos 0) tt

is_zero : (t : Bool) (n : ℕ) (d : ℤ) → eq (fin t n d) float0 ≡ true → n ≡ 0
unfolding eq of_bits
is_zero t zero d z = refl
is_zero t (suc n) d z =
    let e : suc n * up d * 1 ≡ 0 * 1 * down d = eqb→eq (suc n * up d * 1) (0 * 1 * down d) (and_l (eqb (suc n * up d * 1) (0 * 1 * down d)) (beq t false || eqb (suc n * up d * 1) 0) (passes z tt)) in
    absurd (not-le_of_lt (mul-pos (mul-pos (zero-lt-suc n) (up_pos d)) (zero-lt-suc 0)) (le_of_eq (e ∙ zero-mul (down d))))

pub zero_times : (v x : Float) → is_finite v ≡ true → eq x float0 ≡ true → (t : Bool) × (mul binary64 v x ≡ fin t 0 (pos 0))
unfolding mul eq of_bits
zero_times nan x F z = absurd (false≢true F)
zero_times (inf s) x F z = absurd (false≢true F)
zero_times (fin s m e) nan F z = absurd (false≢true z)
zero_times (fin s m e) (inf t) F z = absurd (false≢true z)
zero_times (fin s m e) (fin t n d) F z = (
  unlike s t,
  ap (λ (k : ℕ). round binary64 (unlike s t) (m * up e * (k * up d)) (down e * down d)) (is_zero t n d z)
      ∙ ap (λ (k : ℕ). round binary64 (unlike s t) k (down e * down d)) (ap (λ (k : ℕ). m * up e * k) (zero-mul (up d)) ∙ mul-zero (m * up e))
      ∙ round_nothing binary64 (unlike s t) (down e * down d) (mul-pos (down_pos e) (down_pos d)),
)

-- ---- so the product of a finite value with a zero leaves a sum as it is
pub adds_nothing : (s v x : Float) → T (fits binary64 s) → is_minus_zero s ≡ false → is_finite v ≡ true → eq x float0 ≡ true → add binary64 s (mul binary64 v x) ≡ s
adds_nothing s v x F h g z =
    let p = zero_times v x g z in
    ap (add binary64 s) p.1 ∙ add_nothing binary64 s p.0 F h
