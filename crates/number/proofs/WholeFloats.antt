-- SPDX-FileCopyrightText: 2026 The PPVM Authors
-- SPDX-License-Identifier: Apache-2.0

-- Floats that are whole numbers, in any format: their arithmetic is exact up to 2 ^ prec, and their comparisons are those of the
-- integers. Assumes nothing.
use mathlib.Core.Path.{◌≡◌, refl, sym, ap, ap₂, ◌∙◌, subst, subst₂}
use mathlib.Core.Logic.{◌⊎◌, inl, inr}
use Prim.Native.Nat.{ℕ, zero, suc, ◌+◌, ◌-◌, ◌*◌, ◌^◌, ◌≤◌, ◌<◌, zero-le}
use native.Mathlib.Nat.{le_trans, le_of_eq, le_of_lt, lt_of_lt_of_le, eq-or-lt_of_le, zero-lt-suc, zero-mul, mul-zero, one-mul, mul-one, mul_comm, mul_assoc, mul_right_comm, mul-mul-mul_comm, mul-pos, eq_of_mul-eq-mul_right, add-mul, mul-sub}
use native.Mathlib.Omega.{arith}
use mathlib.Core.Bool.{Bool, true, false, not, ◌&&◌, ◌||◌, beq, cond, true≢false, false≢true}
use lib.IntN.{ℤ, pos, neg_ℤ, nat_abs, ◌+ℤ◌, ◌-ℤ◌, ◌*ℤ◌, pos-ne-negsuc}
use lib.Signed.{lt_z, le_z}
use lib.Dec.{T, ltb, eqb, ltb→lt, nltb→le, lit<}
use lib.Pow.{pow-add, pow_mono, pow-lt, shl_lt}
use lib.Ieee.{Float, nan, inf, fin, Format, binary32, binary64, prec, emax, low, up, down, unlike, below, level, round, neg, sum, add, sub, mul, lt, eq, le, fits}
use lib.Ieee.Fits.{up_pos, down_pos, eq→eqb, reach, neg-fits}
use lib.Ieee.Exact.{HasValue, round_exact}
use lib.Ieee.Scale.{round_same, finite}
use Rattle.number.specs.Exact.{signed, eq_z, Is}
use Rattle.number.specs.Key.{nonneg, key}
use Rattle.number.proofs.Tests.{ltb_scale, eqb_scale}
use Rattle.number.proofs.Integers.{abs_signed, neg_signed, mul_signed, add_like, add_unlike, add_unlike', signed_one, below_signed, level_signed, le_z_is}
use Rattle.number.proofs.KeyLaws.{key_exact, neg_key, key_one}

-- ---- a whole number up to 2 ^ prec is rounded to itself

round_small : (f : Format) (s : Bool) (n : ℕ) → n < 2 ^ prec f → HasValue (round f s n 1) s n 1
round_small f s n h =
    round_exact f s n 1 n (low f) (zero-lt-suc 0) h
    (lt_of_lt_of_le (shl_lt (prec f) (low f) h) (pow_mono (far (prec f) (suc (emax f)) (low f) (reach f))))
    (sym (mul-one (n * 2 ^ low f)))
  where
    far : (p e l : ℕ) → p ≤ e → p + l ≤ l + e
    far p e l h = omega arith

round_top : (f : Format) (s : Bool) → HasValue (round f s (2 ^ prec f) 1) s (2 ^ prec f) 1
round_top f s =
    round_exact f s (2 ^ prec f) 1 1 (prec f + low f) (zero-lt-suc 0) (one_lt f)
    (subst (λ (x : ℕ). x < 2 ^ (low f + suc (emax f))) (sym (one-mul (2 ^ (prec f + low f)))) (pow-lt (far (prec f) (suc (emax f)) (low f) (room f))))
    (sym (pow-add 2 (prec f) (low f)) ∙ sym (mul-one (1 * 2 ^ (prec f + low f)) ∙ one-mul (2 ^ (prec f + low f))))
  where
    far : (p e l : ℕ) → p < e → p + l < l + e
    far p e l h = omega arith

    one_lt : (f : Format) → 1 < 2 ^ prec f
    one_lt binary32 = lit< tt
    one_lt binary64 = lit< tt

    room : (f : Format) → prec f < suc (emax f)
    room binary32 = lit< tt
    room binary64 = lit< tt

round_whole : (f : Format) (s : Bool) (n : ℕ) → n ≤ 2 ^ prec f → HasValue (round f s n 1) s n 1
round_whole f s n h = go (eq-or-lt_of_le h)
  where
    go : (n ≡ 2 ^ prec f) ⊎ (n < 2 ^ prec f) → HasValue (round f s n 1) s n 1
    go (inl e) = subst (λ (x : ℕ). HasValue (round f s x 1) s x 1) (sym e) (round_top f s)
    go (inr l) = round_small f s n l

-- with its sign
is_round : (f : Format) (s : Bool) (n : ℕ) (z : ℤ) → signed s n ≡ z → nat_abs z ≤ 2 ^ prec f → Is (round f s n 1) z
is_round f s n z e h = record { sign = s; size = n; value = round_whole f s n (le_trans (le_of_eq (sym (abs_signed s n) ∙ ap nat_abs e)) h); is = e }

-- ---- two fractions A / C and B / C that are a / K and b / K

sub_mul : (a b c : ℕ) → (a - b) * c ≡ a * c - b * c
sub_mul a b c = mul_comm (a - b) c ∙ mul-sub c a b ∙ ap₂ ◌-◌ (mul_comm c a) (mul_comm c b)

module _ (A B C a b K : ℕ) (p : 0 < C) (q : 0 < K) (u : A * K ≡ a * C) (v : B * K ≡ b * C) where
  ltb_same : ltb A B ≡ ltb a b
  ltb_same = sym (ltb_scale A B K q) ∙ ap₂ ltb u v ∙ ltb_scale a b C p

  below_same : (s t : Bool) → below s A t B ≡ below s a t b
  below_same false false = ltb_same
  below_same false true = refl
  below_same true false =
      sym (ltb_scale 0 (A + B) K q) ∙ ap₂ ltb (zero-mul K ∙ sym (zero-mul C)) (add-mul A B K ∙ ap₂ ◌+◌ u v ∙ sym (add-mul a b C)) ∙ ltb_scale 0 (a + b) C p
  below_same true true = sym (ltb_scale B A K q) ∙ ap₂ ltb v u ∙ ltb_scale b a C p

  level_same : (s t : Bool) → level s A t B ≡ level s a t b
  level_same s t =
      ap₂ (λ (x y : Bool). x && (beq s t || y))
      (sym (eqb_scale A B K q) ∙ ap₂ eqb u v ∙ eqb_scale a b C p)
      (sym (eqb_scale A 0 K q) ∙ ap₂ eqb u (zero-mul K ∙ sym (zero-mul C)) ∙ eqb_scale a 0 C p)

  sum_same : (f : Format) (s t : Bool) → sum f s A t B C ≡ sum f s a t b K
  unfolding sum
  sum_same f s t =
      ap (λ (x : Float). cond (beq s t) x (cond (ltb A B) (round f t (B - A) C) (round f (s && ltb B A) (A - B) C)))
      (round_same f s (A + B) C (a + b) K p q (add-mul A B K ∙ ap₂ ◌+◌ u v ∙ sym (add-mul a b C)))
      ∙ ap (λ (x : Float). cond (beq s t) (round f s (a + b) K) (cond (ltb A B) x (round f (s && ltb B A) (A - B) C)))
      (round_same f t (B - A) C (b - a) K p q (sub_mul B A K ∙ ap₂ ◌-◌ v u ∙ sym (sub_mul b a C)))
      ∙ ap (λ (x : Float). cond (beq s t) (round f s (a + b) K) (cond (ltb A B) (round f t (b - a) K) x))
      (round_same f (s && ltb B A) (A - B) C (a - b) K p q (sub_mul A B K ∙ ap₂ ◌-◌ u v ∙ sym (sub_mul a b C)))
      ∙ ap₂ (λ (x y : Bool). cond (beq s t) (round f s (a + b) K) (cond x (round f t (b - a) K) (round f (s && y) (a - b) K)))
      ltb_same (sym (ltb_scale B A K q) ∙ ap₂ ltb v u ∙ ltb_scale b a C p)

-- ---- a sum of two whole numbers by their signs

sum_whole : (f : Format) (s : Bool) (a : ℕ) (t : Bool) (b : ℕ) → nat_abs (signed s a +ℤ signed t b) ≤ 2 ^ prec f
    → Is (sum f s a t b 1) (signed s a +ℤ signed t b)
unfolding sum
sum_whole f s a t b h = pick s t h
  where
    -- an exact difference of zero is +0
    zeroed : (u : Bool) → (T (not u) → a ≤ b) → b ≤ a → signed u (a - b) ≡ signed true (a - b)
    zeroed true p l = refl
    zeroed false p l = let m = p tt in let e : a - b ≡ 0 = omega arith in ap pos e ∙ sym (ap (λ (n : ℕ). neg_ℤ (pos n)) e)

    unlikes : (s : Bool) (u v : Bool) → (T u → a < b) → (T (not u) → b ≤ a) → (T (not v) → a ≤ b)
        → nat_abs (signed s a +ℤ signed (not s) b) ≤ 2 ^ prec f
        → Is (cond u (round f (not s) (b - a) 1) (round f (s && v) (a - b) 1)) (signed s a +ℤ signed (not s) b)
    unlikes s true v p l m h = is_round f (not s) (b - a) (signed s a +ℤ signed (not s) b) (add_unlike' s a b (le_of_lt (p tt))) h
    unlikes false false v p l m h = is_round f false (a - b) (signed false a +ℤ signed true b) (add_unlike false a b (l tt)) h
    unlikes true false v p l m h = is_round f v (a - b) (signed true a +ℤ signed false b) (zeroed v m (l tt) ∙ add_unlike true a b (l tt)) h

    pick : (s t : Bool) → nat_abs (signed s a +ℤ signed t b) ≤ 2 ^ prec f
        → Is (cond (beq s t) (round f s (a + b) 1) (cond (ltb a b) (round f t (b - a) 1) (round f (s && ltb b a) (a - b) 1))) (signed s a +ℤ signed t b)
    pick true true h = is_round f true (a + b) (signed true a +ℤ signed true b) (add_like true a b) h
    pick false false h = is_round f false (a + b) (signed false a +ℤ signed false b) (add_like false a b) h
    pick true false h = unlikes true (ltb a b) (ltb b a) (ltb→lt a b) (nltb→le a b) (nltb→le b a) h
    pick false true h = unlikes false (ltb a b) (ltb b a) (ltb→lt a b) (nltb→le a b) (nltb→le b a) h

-- ---- such a float by its own sign, and by its size over a denominator d more

own_sign : {s : Bool} {m : ℕ} {e : ℤ} {z : ℤ} (h : Is (fin s m e) z) → signed s h.size ≡ z
own_sign h = ap (λ (t : Bool). signed t h.size) h.value.0 ∙ h.is

own_size : {s : Bool} {m : ℕ} {e : ℤ} {z : ℤ} (h : Is (fin s m e) z) (d : ℕ) → m * up e * d * 1 ≡ h.size * (down e * d)
own_size {m} {e} h d = mul_right_comm (m * up e) d 1 ∙ ap (λ (x : ℕ). x * d) h.value.1 ∙ mul_assoc h.size (down e) d

own_size' : {s : Bool} {m : ℕ} {e : ℤ} {z : ℤ} (h : Is (fin s m e) z) (d : ℕ) → m * up e * d * 1 ≡ h.size * (d * down e)
own_size' {e} h d = own_size h d ∙ ap (λ (x : ℕ). h.size * x) (mul_comm (down e) d)

-- ---- the operations

pub whole_neg : {x : Float} {z : ℤ} → Is x z → Is (neg x) (neg_ℤ z)
unfolding neg
whole_neg {x = nan} h = absurd h.value
whole_neg {x = inf s} h = absurd h.value
whole_neg {x = fin s m e} h = record { sign = not s; size = h.size; value = (refl, h.value.1); is = neg_signed s h.size ∙ ap neg_ℤ (own_sign h) }

module _ (f : Format) where
  pub whole_add : {x y : Float} {z w : ℤ} → Is x z → Is y w → nat_abs (z +ℤ w) ≤ 2 ^ prec f → Is (add f x y) (z +ℤ w)
  unfolding add
  whole_add {x = nan} h g b = absurd h.value
  whole_add {x = inf s} h g b = absurd h.value
  whole_add {x = fin s m e} {y = nan} h g b = absurd g.value
  whole_add {x = fin s m e} {y = inf t} h g b = absurd g.value
  whole_add {x = fin s m e} {y = fin t n d} {z} {w} h g b =
      let i : signed s h.size +ℤ signed t g.size ≡ z +ℤ w = ap₂ ◌+ℤ◌ (own_sign h) (own_sign g) in
      let r = sum_same (m * up e * down d) (n * up d * down e) (down e * down d) h.size g.size 1 (mul-pos (down_pos e) (down_pos d)) (zero-lt-suc 0) (own_size h (down d)) (own_size' g (down e)) f s t in
      subst₂ Is (sym r) i (sum_whole f s h.size t g.size (le_trans (le_of_eq (ap nat_abs i)) b))

  pub whole_sub : {x y : Float} {z w : ℤ} → Is x z → Is y w → nat_abs (z -ℤ w) ≤ 2 ^ prec f → Is (sub f x y) (z -ℤ w)
  unfolding sub
  whole_sub h g b = whole_add h (whole_neg g) b

  pub whole_mul : {x y : Float} {z w : ℤ} → Is x z → Is y w → nat_abs (z *ℤ w) ≤ 2 ^ prec f → Is (mul f x y) (z *ℤ w)
  unfolding mul
  whole_mul {x = nan} h g b = absurd h.value
  whole_mul {x = inf s} h g b = absurd h.value
  whole_mul {x = fin s m e} {y = nan} h g b = absurd g.value
  whole_mul {x = fin s m e} {y = inf t} h g b = absurd g.value
  whole_mul {x = fin s m e} {y = fin t n d} {z} {w} h g b =
      let i : signed (unlike s t) (h.size * g.size) ≡ z *ℤ w = mul_signed s h.size t g.size ∙ ap₂ ◌*ℤ◌ (own_sign h) (own_sign g) in
      let v : m * up e * (n * up d) * 1 ≡ h.size * g.size * (down e * down d) =
      mul-mul-mul_comm (m * up e) (n * up d) 1 1
      ∙ ap₂ ◌*◌ h.value.1 g.value.1
      ∙ mul-mul-mul_comm h.size (down e) g.size (down d) in
      subst (λ (x : Float). Is x (z *ℤ w))
      (sym (round_same f (unlike s t) (m * up e * (n * up d)) (down e * down d) (h.size * g.size) 1 (mul-pos (down_pos e) (down_pos d)) (zero-lt-suc 0) v))
      (is_round f (unlike s t) (h.size * g.size) (z *ℤ w) i b)

-- a product with 0
pub whole_nought : (f : Format) (x : Float) {y : Float} → T (finite x) → Is y (pos 0) → Is (mul f x y) (pos 0)
unfolding mul
whole_nought f nan F g = absurd F
whole_nought f (inf s) F g = absurd F
whole_nought f (fin s m e) {y = nan} F g = absurd g.value
whole_nought f (fin s m e) {y = inf t} F g = absurd g.value
whole_nought f (fin s m e) {y = fin t n d} F g =
    let none : n * up d ≡ 0 = sym (mul-one (n * up d)) ∙ g.value.1 ∙ ap (λ (x : ℕ). x * down d) (sym (abs_signed g.sign g.size) ∙ ap nat_abs g.is) ∙ zero-mul (down d) in
    let v : m * up e * (n * up d) * 1 ≡ 0 * (down e * down d) = mul-one (m * up e * (n * up d)) ∙ ap (λ (x : ℕ). m * up e * x) none ∙ mul-zero (m * up e) ∙ sym (zero-mul (down e * down d)) in
    subst (λ (x : Float). Is x (pos 0))
    (sym (round_same f (unlike s t) (m * up e * (n * up d)) (down e * down d) 0 1 (mul-pos (down_pos e) (down_pos d)) (zero-lt-suc 0) v))
    (is_round f (unlike s t) 0 (pos 0) (unsigned_zero (unlike s t)) zero-le)
  where
    unsigned_zero : (s : Bool) → signed s 0 ≡ pos 0
    unsigned_zero true = refl
    unsigned_zero false = refl

-- ---- a float is one whole number at most

pub is_one : {x : Float} {z w : ℤ} → Is x z → Is x w → z ≡ w
is_one {x = nan} h g = absurd h.value
is_one {x = inf s} h g = absurd h.value
is_one {x = fin s m e} h g =
    sym (own_sign h) ∙ ap (signed s) (eq_of_mul-eq-mul_right (down e) (down_pos e) h.size g.size (sym h.value.1 ∙ g.value.1)) ∙ own_sign g

-- ---- comparisons

pub is_lt : {x y : Float} {z w : ℤ} → Is x z → Is y w → lt x y ≡ lt_z z w
unfolding lt
is_lt {x = nan} h g = absurd h.value
is_lt {x = inf s} h g = absurd h.value
is_lt {x = fin s m e} {y = nan} h g = absurd g.value
is_lt {x = fin s m e} {y = inf t} h g = absurd g.value
is_lt {x = fin s m e} {y = fin t n d} h g =
    below_same (m * up e * down d) (n * up d * down e) (down e * down d) h.size g.size 1 (mul-pos (down_pos e) (down_pos d)) (zero-lt-suc 0) (own_size h (down d)) (own_size' g (down e)) s t
    ∙ below_signed s h.size t g.size
    ∙ ap₂ lt_z (own_sign h) (own_sign g)

pub is_eq : {x y : Float} {z w : ℤ} → Is x z → Is y w → eq x y ≡ eq_z z w
unfolding eq
is_eq {x = nan} h g = absurd h.value
is_eq {x = inf s} h g = absurd h.value
is_eq {x = fin s m e} {y = nan} h g = absurd g.value
is_eq {x = fin s m e} {y = inf t} h g = absurd g.value
is_eq {x = fin s m e} {y = fin t n d} h g =
    level_same (m * up e * down d) (n * up d * down e) (down e * down d) h.size g.size 1 (mul-pos (down_pos e) (down_pos d)) (zero-lt-suc 0) (own_size h (down d)) (own_size' g (down e)) s t
    ∙ level_signed s h.size t g.size
    ∙ ap₂ eq_z (own_sign h) (own_sign g)

pub is_le : {x y : Float} {z w : ℤ} → Is x z → Is y w → le x y ≡ le_z z w
unfolding le
is_le {z} {w} h g = ap₂ ◌||◌ (is_lt h g) (is_eq h g) ∙ sym (le_z_is z w)

-- ---- the key

first_zero : (m u : ℕ) → 0 < u → m * u ≡ 0 → m ≡ 0
first_zero zero u p e = refl
first_zero (suc m) u p e = absurd (let l : 0 < suc m * u = mul-pos (zero-lt-suc m) p in omega arith)

pub is_nonneg : {x : Float} {n : ℕ} → Is x (pos n) → T (nonneg x)
is_nonneg {x = nan} h = absurd h.value
is_nonneg {x = inf s} h = absurd h.value
is_nonneg {x = fin false m e} h = tt
is_nonneg {x = fin true m e} {n} h = zero_part h.size (own_sign h) h.value.1
  where
    zero_part : (c : ℕ) → signed true c ≡ pos n → m * up e * 1 ≡ c * down e → T (eqb m 0)
    zero_part zero i v = eq→eqb (first_zero m (up e) (up_pos e) (first_zero (m * up e) 1 (zero-lt-suc 0) (v ∙ zero-mul (down e))))
    zero_part (suc c) i v = absurd (pos-ne-negsuc n c (sym i))

pub is_key : (f : Format) {x : Float} {z : ℤ} → T (fits f x) → Is x z → key f x ≡ nat_abs z * 2 ^ low f
is_key f {x = nan} F h = absurd h.value
is_key f {x = inf s} F h = absurd h.value
is_key f {x = fin s m e} {z} F h =
    let l = low f in
    eq_of_mul-eq-mul_right (down e) (down_pos e) (key f (fin s m e)) (nat_abs z * 2 ^ l)
    (key_exact f s m e F ∙ ap (λ (x : ℕ). x * 2 ^ l) (sym (mul-one (m * up e)) ∙ h.value.1) ∙ mul_right_comm h.size (down e) (2 ^ l)
    ∙ ap (λ (x : ℕ). x * 2 ^ l * down e) (sym (abs_signed s h.size) ∙ ap nat_abs (own_sign h)))

-- ---- two values of a format that are one whole number, other than zero, are one float

neg_neg : (x : Float) → neg (neg x) ≡ x
unfolding neg
neg_neg nan = refl
neg_neg (inf true) = refl
neg_neg (inf false) = refl
neg_neg (fin true m e) = refl
neg_neg (fin false m e) = refl

pub is_unique : (f : Format) {x y : Float} {z : ℤ} → T (fits f x) → T (fits f y) → Is x z → Is y z → (z ≡ pos 0 → ⊥) → x ≡ y
unfolding neg
is_unique f {x = nan} F G h g nz = absurd h.value
is_unique f {x = inf s} F G h g nz = absurd h.value
is_unique f {x = fin s m e} {y = nan} F G h g nz = absurd g.value
is_unique f {x = fin s m e} {y = inf t} F G h g nz = absurd g.value
is_unique f {x = fin s m e} {y = fin t n d} F G h g nz =
    go s t (signed_one s h.size t g.size (own_sign h ∙ sym (own_sign g)) (λ i. nz (sym (own_sign h) ∙ i))).0 F G (is_key f F h ∙ sym (is_key f G g))
  where
    go : (s t : Bool) → s ≡ t → T (fits f (fin s m e)) → T (fits f (fin t n d)) → key f (fin s m e) ≡ key f (fin t n d) → fin s m e ≡ fin t n d
    go false false i F G j = key_one f (fin false m e) (fin false n d) F G tt tt j
    go true true i F G j =
        sym (neg_neg (fin true m e))
        ∙ ap neg (key_one f (neg (fin true m e)) (neg (fin true n d)) (neg-fits f (fin true m e) F) (neg-fits f (fin true n d) G) tt tt (neg_key f (fin true m e) ∙ j ∙ sym (neg_key f (fin true n d))))
        ∙ neg_neg (fin true n d)
    go false true i F G j = absurd (false≢true i)
    go true false i F G j = absurd (true≢false i)
