-- SPDX-FileCopyrightText: 2026 The PPVM Authors
-- SPDX-License-Identifier: Apache-2.0

-- The order of floats that are not below zero is the order of their keys, and a magnitude has its float's key. Assumes nothing.
use mathlib.Core.Path.{◌≡◌, refl, sym, ap, ap₂, ◌∙◌, subst}
use Prim.Native.Nat.{ℕ, zero, suc, ◌+◌, ◌-◌, ◌*◌, ◌/◌, ◌%◌, ◌^◌, ◌≤◌, ◌<◌, zero-le, ◌∣◌, compare}
use native.Mathlib.Nat.{le_refl, le_trans, le_of_suc-le-suc, le_of_eq, le_of_lt, lt_irrefl, lt_of_lt_of_le, lt_of_le_of_lt, lt_of_not-le, not-le_of_lt, zero-mul, zero-lt-suc, zero-add, one-mul, mul-one, mul_comm, mul_assoc, mul_right_comm, mul-pos, mul-le-mul_right, mul-lt-mul_of_pos_right, lt_of_mul-lt-mul_right, div-mul_cancel, dvd-mul_left, div-one, mul-div_cancel}
use native.Mathlib.Omega.{arith}
use mathlib.Core.Bool.{Bool, true, false, not, ◌&&◌, ◌||◌, cond}
use lib.IntN.{ℤ, pos, negsuc}
use lib.Dec.{T, leb, ltb, eqb, leb→le, le→leb, ltb→lt, lt→ltb, eqb→eq, eqb_refl, leb-suc-zero, nltb→le}
use lib.Pow.{pow-add, pow_pos, pow-lt}
use lib.Ieee.{Float, nan, inf, fin, Format, prec, emax, low, up, down, below, level, size, nearest, odd, units, round, lt, eq, le, neg, fits, is_nan, hid, to_bits, of_bits}
use lib.Ieee.Fits.{up_pos, down_pos, and_l, and_r, eq→eqb, neg-fits, cond-fits, round_is}
use lib.Ieee.Exact.{HasValue, odd_sign}
use lib.Ieee.Bits.{of_bits-to_bits}
use Rattle.number.specs.Floats.{float0, magnitude}
use Rattle.number.specs.Key.{nonneg, key}
use Rattle.number.proofs.Tests.{yes, no, passes, leb_is, ltb_scale, eqb_scale}

-- ---- what it takes to fit

pub fits_down : (f : Format) (s : Bool) (m : ℕ) (e : ℤ) → T (fits f (fin s m e)) → down e ≤ 2 ^ low f
unfolding fits
fits_down f s zero e t = le_trans (le_trans (le_of_eq (sym (one-mul (down e)))) (le_trans (mul-le-mul_right (down e) (up_pos e)) (le_of_eq (eqb→eq (up e * down e) 1 t)))) (pow_pos (low f))
fits_down f s (suc m) e t =
    leb→le (down e) (2 ^ low f) (and_r (eqb (suc m % 2) 1 && ltb (suc m) (2 ^ prec f)) (leb (down e) (2 ^ low f)) (and_l (eqb (suc m % 2) 1 && ltb (suc m) (2 ^ prec f) && leb (down e) (2 ^ low f)) (ltb (suc m * up e) (2 ^ suc (emax f) * down e)) t))

fits_up : (f : Format) (s : Bool) (m : ℕ) (e : ℤ) → T (fits f (fin s m e)) → m * up e < 2 ^ suc (emax f) * down e
unfolding fits
fits_up f s zero e t = lt_of_le_of_lt (le_of_eq (zero-mul (up e))) (mul-pos (pow_pos (suc (emax f))) (down_pos e))
fits_up f s (suc m) e t =
    ltb→lt (suc m * up e) (2 ^ suc (emax f) * down e) (and_r (eqb (suc m % 2) 1 && ltb (suc m) (2 ^ prec f) && leb (down e) (2 ^ low f)) (ltb (suc m * up e) (2 ^ suc (emax f) * down e)) t)

-- the denominator of a value that fits divides 2 ^ low
cuts : (l : ℕ) (e : ℤ) → down e ≤ 2 ^ l → 2 ^ l / down e * down e ≡ 2 ^ l
cuts l (pos k) h = mul-one (2 ^ l / 1) ∙ div-one (2 ^ l)
cuts l (negsuc k) h =
    let j : suc k ≤ l = le_of_suc-le-suc (lt_of_not-le (λ (g : suc l ≤ suc k). not-le_of_lt (pow-lt g) h)) in
    div-mul_cancel (2 ^ suc k) (subst (λ (x : ℕ). 2 ^ suc k ∣ x) (sym (pow-add 2 (l - suc k) (suc k)) ∙ ap (λ (x : ℕ). 2 ^ x) (omega arith)) (dvd-mul_left (2 ^ suc k) (2 ^ (l - suc k))))

-- so the key is exact: key / 2 ^ low is m * up e / down e
pub key_exact : (f : Format) (s : Bool) (m : ℕ) (e : ℤ) → T (fits f (fin s m e)) → key f (fin s m e) * down e ≡ m * up e * 2 ^ low f
unfolding key
key_exact f s m e t = mul_assoc (m * up e) (2 ^ low f / down e) (down e) ∙ ap (λ (x : ℕ). m * up e * x) (cuts (low f) e (fits_down f s m e t))

-- a finite value's key is below an infinity's
pub key_finite : (f : Format) (s : Bool) (m : ℕ) (e : ℤ) → T (fits f (fin s m e)) → key f (fin s m e) < 2 ^ (low f + suc (emax f))
key_finite f s m e t =
    lt_of_mul-lt-mul_right (down e)
    (lt_of_lt_of_le
    (lt_of_le_of_lt (le_of_eq (key_exact f s m e t)) (mul-lt-mul_of_pos_right (fits_up f s m e t) (pow_pos (low f))))
    (le_of_eq (mul_right_comm (2 ^ suc (emax f)) (down e) (2 ^ low f) ∙ ap (λ (x : ℕ). x * down e) (mul_comm (2 ^ suc (emax f)) (2 ^ low f) ∙ sym (pow-add 2 (low f) (suc (emax f)))))))

-- two finite values, brought to one denominator: c * the sizes is 2 ^ low * the keys
module _ (f : Format) (s : Bool) (m : ℕ) (e : ℤ) (t : Bool) (n : ℕ) (d : ℤ) (F : T (fits f (fin s m e))) (G : T (fits f (fin t n d))) where
  pub left_units : m * up e * down d * 2 ^ low f ≡ key f (fin s m e) * (down e * down d)
  left_units = mul_right_comm (m * up e) (down d) (2 ^ low f) ∙ ap (λ (x : ℕ). x * down d) (sym (key_exact f s m e F)) ∙ mul_assoc (key f (fin s m e)) (down e) (down d)

  pub right_units : n * up d * down e * 2 ^ low f ≡ key f (fin t n d) * (down e * down d)
  right_units = mul_right_comm (n * up d) (down e) (2 ^ low f) ∙ ap (λ (x : ℕ). x * down e) (sym (key_exact f t n d G)) ∙ mul_assoc (key f (fin t n d)) (down d) (down e) ∙ ap (λ (x : ℕ). key f (fin t n d) * x) (mul_comm (down d) (down e))

  ltb_key : ltb (m * up e * down d) (n * up d * down e) ≡ ltb (key f (fin s m e)) (key f (fin t n d))
  ltb_key = sym (ltb_scale (m * up e * down d) (n * up d * down e) (2 ^ low f) (pow_pos (low f))) ∙ ap₂ ltb left_units right_units ∙ ltb_scale (key f (fin s m e)) (key f (fin t n d)) (down e * down d) (mul-pos (down_pos e) (down_pos d))

  eqb_key : eqb (m * up e * down d) (n * up d * down e) ≡ eqb (key f (fin s m e)) (key f (fin t n d))
  eqb_key = sym (eqb_scale (m * up e * down d) (n * up d * down e) (2 ^ low f) (pow_pos (low f))) ∙ ap₂ eqb left_units right_units ∙ eqb_scale (key f (fin s m e)) (key f (fin t n d)) (down e * down d) (mul-pos (down_pos e) (down_pos d))

-- ---- small things

and_true : (b : Bool) → (b && true) ≡ b
and_true true = refl
and_true false = refl

and_self : (b : Bool) → (b && b) ≡ b
and_self true = refl
and_self false = refl

differ : (a b : ℕ) → a < b → a ≡ b → ⊥
differ a b h e = omega arith

-- ---- the signs of two values that are not below zero have no part in a comparison

below_plain : (s : Bool) (a : ℕ) (t : Bool) (b : ℕ) → (T s → a ≡ 0) → (T t → b ≡ 0) → below s a t b ≡ ltb a b
below_plain false a false b h k = refl
below_plain false a true b h k = sym (ap (ltb a) (k tt) ∙ leb-suc-zero a)
below_plain true a false b h k = ap (λ (x : ℕ). ltb 0 x) (ap (λ (x : ℕ). x + b) (h tt) ∙ zero-add b) ∙ ap (λ (x : ℕ). ltb x b) (sym (h tt))
below_plain true a true b h k = ap₂ ltb (k tt) (h tt) ∙ sym (ap₂ ltb (h tt) (k tt))

level_plain : (s : Bool) (a : ℕ) (t : Bool) (b : ℕ) → (T s → a ≡ 0) → (T t → b ≡ 0) → level s a t b ≡ eqb a b
level_plain false a false b h k = and_true (eqb a b)
level_plain true a true b h k = and_true (eqb a b)
level_plain false a true b h k = ap (λ (x : ℕ). eqb a x && eqb a 0) (k tt) ∙ and_self (eqb a 0) ∙ sym (ap (eqb a) (k tt))
level_plain true a false b h k = ap (λ (x : ℕ). eqb a b && eqb x 0) (h tt) ∙ and_true (eqb a b)

-- a value with a minus sign that is not below zero is zero
zero_size : (s : Bool) (m : ℕ) (e d : ℤ) → T (not s || eqb m 0) → T s → m * up e * down d ≡ 0
zero_size false m e d h t = elim t [ ]
zero_size true m e d h t = ap (λ (x : ℕ). x * up e * down d) (eqb→eq m 0 h) ∙ ap (λ (x : ℕ). x * down d) (zero-mul (up e)) ∙ zero-mul (down d)

-- ---- comparisons by the keys

module _ (f : Format) where
  pub lt_key : (x y : Float) → T (fits f x) → T (fits f y) → T (nonneg x) → T (nonneg y) → lt x y ≡ ltb (key f x) (key f y)
  unfolding lt key
  lt_key nan y F G h k = absurd h
  lt_key (inf true) y F G h k = absurd h
  lt_key (inf false) nan F G h k = absurd k
  lt_key (inf false) (inf true) F G h k = absurd k
  lt_key (inf false) (inf false) F G h k = sym (no (λ t. lt_irrefl (key f (inf false)) (ltb→lt (key f (inf false)) (key f (inf false)) t)))
  lt_key (inf false) (fin t n d) F G h k = sym (no (λ u. not-le_of_lt (ltb→lt (key f (inf false)) (key f (fin t n d)) u) (le_of_lt (key_finite f t n d G))))
  lt_key (fin s m e) nan F G h k = absurd k
  lt_key (fin s m e) (inf true) F G h k = absurd k
  lt_key (fin s m e) (inf false) F G h k = sym (yes (lt→ltb (key f (fin s m e)) (key f (inf false)) (key_finite f s m e F)))
  lt_key (fin s m e) (fin t n d) F G h k =
      below_plain s (m * up e * down d) t (n * up d * down e) (zero_size s m e d h) (zero_size t n d e k) ∙ ltb_key f s m e t n d F G

  pub eq_key : (x y : Float) → T (fits f x) → T (fits f y) → T (nonneg x) → T (nonneg y) → eq x y ≡ eqb (key f x) (key f y)
  unfolding eq key
  eq_key nan y F G h k = absurd h
  eq_key (inf true) y F G h k = absurd h
  eq_key (inf false) nan F G h k = absurd k
  eq_key (inf false) (inf true) F G h k = absurd k
  eq_key (inf false) (inf false) F G h k = sym (yes (eqb_refl (key f (inf false))))
  eq_key (inf false) (fin t n d) F G h k = sym (no (λ u. differ (key f (fin t n d)) (key f (inf false)) (key_finite f t n d G) (sym (eqb→eq (key f (inf false)) (key f (fin t n d)) u))))
  eq_key (fin s m e) nan F G h k = absurd k
  eq_key (fin s m e) (inf true) F G h k = absurd k
  eq_key (fin s m e) (inf false) F G h k = sym (no (λ u. differ (key f (fin s m e)) (key f (inf false)) (key_finite f s m e F) (eqb→eq (key f (fin s m e)) (key f (inf false)) u)))
  eq_key (fin s m e) (fin t n d) F G h k =
      level_plain s (m * up e * down d) t (n * up d * down e) (zero_size s m e d h) (zero_size t n d e k) ∙ eqb_key f s m e t n d F G

  pub le_key : (x y : Float) → T (fits f x) → T (fits f y) → T (nonneg x) → T (nonneg y) → le x y ≡ leb (key f x) (key f y)
  unfolding le
  le_key x y F G h k = ap₂ ◌||◌ (lt_key x y F G h k) (eq_key x y F G h k) ∙ sym (leb_is (key f x) (key f y))

  pub le_refl_of : (x : Float) → T (fits f x) → T (nonneg x) → T (le x x)
  le_refl_of x F h = passes (le_key x x F F h h) (le→leb (key f x) (key f x) (le_refl (key f x)))

-- ---- magnitudes

-- a sum of two sizes that is not above zero
no_size : (m : ℕ) (e : ℤ) (b : ℕ) → m * up e * 1 + b ≤ 0 → m ≡ 0
no_size zero e b h = refl
no_size (suc m) e b h = absurd (none (suc m * up e * 1) b (mul-pos (mul-pos (zero-lt-suc m) (up_pos e)) (zero-lt-suc 0)) h)
  where
    none : (a b : ℕ) → 0 < a → a + b ≤ 0 → ⊥
    none a b p q = omega arith

-- a magnitude is not below zero
pub magnitude_nonneg : (x : Float) → T (not (is_nan x)) → T (nonneg (magnitude x))
unfolding magnitude lt neg is_nan of_bits
magnitude_nonneg nan h = absurd h
magnitude_nonneg (inf true) h = tt
magnitude_nonneg (inf false) h = tt
magnitude_nonneg (fin true m e) h = go (ltb 0 (m * up e * 1 + 0 * 1 * down e)) (nltb→le 0 (m * up e * 1 + 0 * 1 * down e))
  where
    go : (b : Bool) → (T (not b) → m * up e * 1 + 0 * 1 * down e ≤ 0) → T (nonneg (cond b (fin false m e) (fin true m e)))
    go true k = tt
    go false k = eq→eqb (no_size m e (0 * 1 * down e) (k tt))
magnitude_nonneg (fin false m e) h = go (ltb (m * up e * 1) (0 * 1 * down e)) (ltb→lt (m * up e * 1) (0 * 1 * down e))
  where
    go : (b : Bool) → (T b → m * up e * 1 < 0 * 1 * down e) → T (nonneg (cond b (fin true m e) (fin false m e)))
    go true k = absurd (not-le_of_lt (k tt) (le_trans (le_of_eq (zero-mul (down e))) zero-le))
    go false k = tt

-- a format that holds a float holds its magnitude
pub magnitude_fits : (f : Format) (x : Float) → T (fits f x) → T (fits f (magnitude x))
unfolding magnitude
magnitude_fits f x h = cond-fits f (lt x float0) (neg x) x (neg-fits f x h) h

-- the sign has no part in the key
pub neg_key : (f : Format) (x : Float) → key f (neg x) ≡ key f x
unfolding key neg
neg_key f nan = refl
neg_key f (inf s) = refl
neg_key f (fin s m e) = refl

pub magnitude_key : (f : Format) (x : Float) → key f (magnitude x) ≡ key f x
unfolding magnitude
magnitude_key f x = go (lt x float0)
  where
    go : (b : Bool) → key f (cond b (neg x) x) ≡ key f x
    go true = neg_key f x
    go false = refl

-- Two magnitudes are compared as their keys are.
module _ (f : Format) (x y : Float) (F : T (fits f x)) (G : T (fits f y)) (h : T (not (is_nan x))) (k : T (not (is_nan y))) where
  pub magnitude_lt : lt (magnitude x) (magnitude y) ≡ ltb (key f x) (key f y)
  magnitude_lt = lt_key f (magnitude x) (magnitude y) (magnitude_fits f x F) (magnitude_fits f y G) (magnitude_nonneg x h) (magnitude_nonneg y k) ∙ ap₂ ltb (magnitude_key f x) (magnitude_key f y)

  pub magnitude_le : le (magnitude x) (magnitude y) ≡ leb (key f x) (key f y)
  magnitude_le = le_key f (magnitude x) (magnitude y) (magnitude_fits f x F) (magnitude_fits f y G) (magnitude_nonneg x h) (magnitude_nonneg y k) ∙ ap₂ leb (magnitude_key f x) (magnitude_key f y)

  pub magnitude_eq : eq (magnitude x) (magnitude y) ≡ eqb (key f x) (key f y)
  magnitude_eq = eq_key f (magnitude x) (magnitude y) (magnitude_fits f x F) (magnitude_fits f y G) (magnitude_nonneg x h) (magnitude_nonneg y k) ∙ ap₂ eqb (magnitude_key f x) (magnitude_key f y)

-- ---- values with no minus sign

abbrev pub unsigned : Float → Bool
unsigned nan = false
unsigned (inf s) = not s
unsigned (fin s m e) = not s

pub unsigned_nonneg : (x : Float) → T (unsigned x) → T (nonneg x)
unsigned_nonneg nan h = absurd h
unsigned_nonneg (inf s) h = h
unsigned_nonneg (fin false m e) h = tt
unsigned_nonneg (fin true m e) h = absurd h

value_unsigned : (x : Float) (a c : ℕ) → HasValue x false a c → T (unsigned x)
value_unsigned nan a c h = absurd h
value_unsigned (inf s) a c h = absurd h
value_unsigned (fin s m e) a c h = passes (ap not h.0) tt

pub round_unsigned : (f : Format) (a c : ℕ) → T (unsigned (round f false a c))
unfolding units
round_unsigned f a c =
    let n = a * 2 ^ low f in
    let k = size (n / c) - prec f in
    let q = nearest (n / (c * 2 ^ k)) (compare (n % (c * 2 ^ k) * 2) (c * 2 ^ k)) in
    subst (λ (x : Float). T (unsigned x)) (sym (round_is f false a c)) (go k q (ltb (q * 2 ^ k) (2 ^ (low f + suc (emax f)))))
  where
    go : (k q : ℕ) (b : Bool) → T (unsigned (cond b (odd (suc (prec f)) false q k (low f)) (inf false)))
    go k q true = value_unsigned (odd (suc (prec f)) false q k (low f)) (q * 2 ^ k) (2 ^ low f) (odd_sign (suc (prec f)) false q k (low f))
    go k q false = tt

-- ---- a value with no minus sign is known by its key

key_pattern : (f : Format) (m : ℕ) (e : ℤ) → T (fits f (fin false m e)) → to_bits f (fin false m e) ≡ 0 + (size (key f (fin false m e)) - prec f) * hid f + key f (fin false m e) / 2 ^ (size (key f (fin false m e)) - prec f)
unfolding to_bits
key_pattern f m e F =
    ap (λ (n : ℕ). 0 + (size n - prec f) * hid f + n / 2 ^ (size n - prec f))
    (ap (λ (n : ℕ). n / down e) (sym (key_exact f false m e F)) ∙ mul-div_cancel (key f (fin false m e)) (down_pos e))

pub key_one : (f : Format) (x y : Float) → T (fits f x) → T (fits f y) → T (unsigned x) → T (unsigned y) → key f x ≡ key f y → x ≡ y
key_one f nan y F G h k e = absurd h
key_one f (inf true) y F G h k e = absurd h
key_one f (fin true m d) y F G h k e = absurd h
key_one f (inf false) nan F G h k e = absurd k
key_one f (inf false) (inf true) F G h k e = absurd k
key_one f (inf false) (inf false) F G h k e = refl
key_one f (inf false) (fin t n d) F G h k e = absurd (differ (key f (fin t n d)) (key f (inf false)) (unfold key in key_finite f t n d G) (sym e))
key_one f (fin false m d) nan F G h k e = absurd k
key_one f (fin false m d) (inf true) F G h k e = absurd k
key_one f (fin false m d) (inf false) F G h k e = absurd (differ (key f (fin false m d)) (key f (inf false)) (unfold key in key_finite f false m d F) e)
key_one f (fin false m d) (fin true n g) F G h k e = absurd k
key_one f (fin false m d) (fin false n g) F G h k e =
    sym (of_bits-to_bits f (fin false m d) F)
    ∙ ap (of_bits f) (key_pattern f m d F ∙ ap (λ (n : ℕ). 0 + (size n - prec f) * hid f + n / 2 ^ (size n - prec f)) e ∙ sym (key_pattern f n g G))
    ∙ of_bits-to_bits f (fin false n g) G
