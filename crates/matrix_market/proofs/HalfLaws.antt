-- SPDX-FileCopyrightText: 2026 The PPVM Authors
-- SPDX-License-Identifier: Apache-2.0

-- The count of a value in halves: the whole part of its magnitude times 2^33, which the cast may take; and the bytes of the count.
-- Assumes nothing.
use Rattle.std.proofs.Common.{◌≡◌, ℕ, zero, suc, ◌+◌, ◌-◌, ◌*◌, ◌/◌, ◌^◌, ◌<◌, ◌≤◌, Bool, true, false, cond, not, T, ltb, ◌∷◌, ℤ, pos, sym, refl, ap, ◌∙◌, mul_assoc, mul_comm, div-lt_iff_lt-mul, lt_of_mul-lt-mul_right, mul-lt-mul_of_pos_right, mul-pos, zero-mul, mul-one, mul_left_comm, arith, eqb→eq, lt→ltb, ltb-false, ltb-true, lt-ltb}
use native.Mathlib.Nat.{zero-div, min-eq_left}
use lib.Ieee.{Float, nan, inf, fin, binary64, up, down, unlike, lt, neg, mul, round, fits, is_nan, of_bits, to_unsigned}
use lib.Ieee.Exact.{HasValue}
use lib.Ieee.Fits.{down_pos}
use lib.Ieee.Nearest.{div_same}
use Rattle.number.specs.Floats.{float0, magnitude}
use Rattle.number.specs.Exact.{signed}
use Rattle.number.specs.Key.{nonneg}
use Rattle.number.proofs.KeyLaws.{magnitude_nonneg}
use Rattle.matrix_market.specs.Counts.{nearest, count_of, too_large}
use Rattle.matrix_market.specs.Text.{natural, whole, minus}
use Rattle.matrix_market.specs.Between.{Counts}
use Rattle.matrix_market.proofs.CountLaws.{by_halves, small_value, small_count, product}

-- ---- a value below 2^63 that is no negative number may be cast, and the cast gives its whole part
pub record Cast (z : Float) (n : ℕ) : Type 0 where
  pub low : T (lt (fin true 1 (pos 0)) z)
  pub high : T (lt z (fin false 1 (pos 64)))
  pub whole_part : to_unsigned 64 z ≡ n

below_scaled : (p q a c : ℕ) → 0 < c → p * c ≡ a * q → a < 2 ^ 63 * c → 0 < q → p < 2 ^ 63 * q
below_scaled p q a c C e h Q =
    let x : a * q < 2 ^ 63 * c * q = mul-lt-mul_of_pos_right h Q in
    let y : p * c < 2 ^ 63 * q * c = rw (e, regroup q c) x in
    lt_of_mul-lt-mul_right c y
  where
    regroup : (q c : ℕ) → 2 ^ 63 * q * c ≡ 2 ^ 63 * c * q
    regroup q c = simp (mul_assoc, mul_comm, mul_left_comm)

none : (p c : ℕ) → 0 < c → p * c ≡ 0 → p ≡ 0
none zero c C e = refl
none (suc p) c C e = absurd (let h : 0 < suc p * c = mul-pos (omega arith) C in omega (arith, h, e))

casts : (z : Float) (t : Bool) (a c : ℕ) → HasValue z t a c → 0 < c → a < 2 ^ 63 * c → (t ≡ true → a ≡ 0) → Cast z (a / c)
unfolding lt to_unsigned
casts nan t a c v C h n = absurd v
casts (inf s) t a c v C h n = absurd v
casts (fin true m e) t a c v C h n =
    let z : a ≡ 0 = n (sym v.0) in
    let p : m * up e ≡ 0 = none (m * up e) c C (v.1 ∙ rw (z, zero-mul (down e))) in
    let D = down_pos e in
    record {
      low = lt→ltb (m * up e * 1) (1 * 1 * down e) (rw (p) (omega (arith, D)));
      high = lt→ltb 0 (m * up e * 1 + 1 * 2 ^ 64 * down e) (over (m * up e * 1) (down e) D);
      whole_part = rw (z, zero-div c);
    }
  where
    over : (a d : ℕ) → 0 < d → 0 < a + 1 * 2 ^ 64 * d
    over a d D = omega arith
casts (fin false m e) t a c v C h n =
    let D = down_pos e in
    let l : m * up e < 2 ^ 63 * down e = below_scaled (m * up e) (down e) a c C v.1 h D in
    let q : m * up e / down e ≡ a / c = div_same (m * up e) (down e) a c D C v.1 in
    let s : a / c < 2 ^ 63 = (div-lt_iff_lt-mul {k = c} {x = a} {y = 2 ^ 63} C).1 h in
    record {
      low = lt→ltb 0 (1 * 1 * down e + m * up e * 1) (over (m * up e * 1) (down e) D);
      high = lt→ltb (m * up e * 1) (1 * 2 ^ 64 * down e) (rw (mul-one (m * up e)) (far (m * up e) (down e) l));
      whole_part = rw q (min-eq_left {n = a / c} {m = 2 ^ 64 - 1} (omega (arith, s)));
    }
  where
    over : (a d : ℕ) → 0 < d → 0 < 1 * 1 * d + a
    over a d D = omega arith

    far : (a d : ℕ) → a < 2 ^ 63 * d → a < 1 * 2 ^ 64 * d
    far a d l = omega arith

-- ---- a magnitude: the same digits and exponent, and no minus sign but before 0
pub record Unsigned (m : ℕ) (e : ℤ) (y : Float) : Type 0 where
  pub sign : Bool
  pub is : y ≡ fin sign m e
  pub zero_where : sign ≡ true → m ≡ 0

unsigned : (s : Bool) (m : ℕ) (e : ℤ) → T (nonneg (fin s m e)) → Unsigned m e (fin s m e)
unsigned true m e h = record { sign = true; is = refl; zero_where = λ _. eqb→eq m 0 h }
unsigned false m e h = record { sign = false; is = refl; zero_where = λ z. absurd (let y : ◌≡◌ {A = ℕ} 0 1 = ap (λ (b : Bool). cond b 1 0) z in omega arith) }

magnitude_is : (s : Bool) (m : ℕ) (e : ℤ) → Unsigned m e (magnitude (fin s m e))
unfolding magnitude neg is_nan
magnitude_is s m e = go (lt (fin s m e) float0) (magnitude_nonneg (fin s m e) tt)
  where
    go : (b : Bool) → T (nonneg (cond b (fin (not s) m e) (fin s m e))) → Unsigned m e (cond b (fin (not s) m e) (fin s m e))
    go true h = unsigned (not s) m e h
    go false h = unsigned s m e h

-- ---- the halves of a value that is not too large
module _ (s : Bool) (m : ℕ) (e : ℤ) (F : T (fits binary64 (fin s m e))) (small : too_large (fin s m e) ≡ false) where
  abbrev halves : ℕ
  halves = m * up e * (1 * 2 ^ 33) / (down e * 1)

  scaled : (t : Bool) → (t ≡ true → m ≡ 0) → Cast (mul binary64 (fin t m e) (fin false 1 (pos 33))) halves
  unfolding mul
  scaled t z =
      let h = small_value s m e F small in
      let u : unlike t false ≡ t = plain t in
      let v = product t s m e F h in
      let c : 0 < down e * 1 = rw (mul-one (down e)) (down_pos e) in
      let b : m * up e * (1 * 2 ^ 33) < 2 ^ 63 * (down e * 1) = rw (mul-one (down e)) (far (m * up e) (down e) h) in
      rw u (casts (round binary64 t (m * up e * (1 * 2 ^ 33)) (down e * 1)) t (m * up e * (1 * 2 ^ 33)) (down e * 1) v c b (λ w. rw (z w, zero-mul (up e)) refl))
    where
      plain : (t : Bool) → unlike t false ≡ t
      plain true = refl
      plain false = refl

      far : (a d : ℕ) → a < 2 ^ 30 * d → a * (1 * 2 ^ 33) < 2 ^ 63 * d
      far a d h = omega arith

  pub product_casts : Cast (mul binary64 (magnitude (fin s m e)) (fin false 1 (pos 33))) halves
  product_casts = let u = magnitude_is s m e in rw u.is (scaled u.sign u.zero_where)

  pub halves_are : (halves + 1) / 2 ≡ nearest (m * up e * 2 ^ 32) (down e)
  halves_are =
      let a : m * up e * (1 * 2 ^ 33) ≡ 2 * (m * up e * 2 ^ 32) = twice (m * up e) in
      rw (a, mul-one (down e)) (by_halves (m * up e * 2 ^ 32) (down e) (down_pos e))
    where
      twice : (a : ℕ) → a * (1 * 2 ^ 33) ≡ 2 * (a * 2 ^ 32)
      twice a = omega arith

-- ---- the bytes of a count
signed_text : (n : ℕ) → cond (ltb 0 n) (minus ∷ natural n) (natural n) ≡ whole (signed true n)
unfolding whole
signed_text zero = refl
signed_text (suc n) = rw (lt-ltb 0 (suc n) (omega arith)) refl

-- a value below zero, and any other
text_below : (s : Bool) (m : ℕ) (e : ℤ) (n : ℕ) → lt (fin s m e) float0 ≡ true → cond (ltb 0 n) (minus ∷ natural n) (natural n) ≡ whole (signed s n)
unfolding lt of_bits
text_below true m e n h = signed_text n
text_below false m e n h = absurd (let l = ltb-true (m * up e * 1) (0 * 1 * down e) h in let z = zero-mul (down e) in omega (arith, l, z))

nothing_near : (d : ℕ) → 0 < d → nearest (0 * 2 ^ 32) d ≡ 0
unfolding nearest
nothing_near d D = let l : (2 * (0 * 2 ^ 32) + d) / (2 * d) < 1 = (div-lt_iff_lt-mul {k = 2 * d} {x = 2 * (0 * 2 ^ 32) + d} {y = 1} (omega arith)).1 (omega arith) in omega (arith, l)

text_else : (s : Bool) (m : ℕ) (e : ℤ) → lt (fin s m e) float0 ≡ false → natural (nearest (m * up e * 2 ^ 32) (down e)) ≡ whole (signed s (nearest (m * up e * 2 ^ 32) (down e)))
unfolding lt of_bits whole
text_else false m e h = refl
text_else true m e h =
    let l = ltb-false 0 (m * up e * 1 + 0 * 1 * down e) h in
    let a : m * up e ≡ 0 = nothing (m * up e) (0 * 1 * down e) l in
    rw (a, nothing_near (down e) (down_pos e)) refl
  where
    nothing : (a b : ℕ) → a * 1 + b ≤ 0 → a ≡ 0
    nothing a b l = omega arith

-- what the code answers, from the whole part of the product
module _ (x : Float) (F : T (fits binary64 x)) (small : too_large x ≡ false) where
  pub may_cast : (y : Float) → y ≡ magnitude x → T (lt (fin true 1 (pos 0)) (mul binary64 y (fin false 1 (pos 33)))) × T (lt (mul binary64 y (fin false 1 (pos 33))) (fin false 1 (pos 64)))
  unfolding too_large
  may_cast y e = go x F small y e
    where
      go : (x : Float) → T (fits binary64 x) → too_large x ≡ false → (y : Float) → y ≡ magnitude x → T (lt (fin true 1 (pos 0)) (mul binary64 y (fin false 1 (pos 33)))) × T (lt (mul binary64 y (fin false 1 (pos 33))) (fin false 1 (pos 64)))
      go nan F h y e = absurd (let z : ◌≡◌ {A = ℕ} 0 1 = ap (λ (b : Bool). cond b 0 1) h in omega arith)
      go (inf s) F h y e = absurd (let z : ◌≡◌ {A = ℕ} 0 1 = ap (λ (b : Bool). cond b 0 1) h in omega arith)
      go (fin s m e) F h y d = let c = product_casts s m e F h in rw d (c.low, c.high)

  pub record Halves (n : ℕ) : Type 0 where
    pub few : n < 2 ^ 63
    pub below_zero : lt x float0 ≡ true → Counts x (record { minus = ltb 0 ((n + 1) / 2); size = (n + 1) / 2 })
    pub else_is : lt x float0 ≡ false → Counts x (record { minus = false; size = (n + 1) / 2 })

pub counts : (x : Float) (F : T (fits binary64 x)) (small : too_large x ≡ false) (y : Float) (n : ℕ) → y ≡ magnitude x → n ≡ to_unsigned 64 (mul binary64 y (fin false 1 (pos 33))) → Halves x F small n
unfolding too_large count_of
counts nan F h y n d i = absurd (let z : ◌≡◌ {A = ℕ} 0 1 = ap (λ (b : Bool). cond b 0 1) h in omega arith)
counts (inf s) F h y n d i = absurd (let z : ◌≡◌ {A = ℕ} 0 1 = ap (λ (b : Bool). cond b 0 1) h in omega arith)
counts (fin s m e) F h y n d i =
    let c = product_casts s m e F h in
    let j : n ≡ halves s m e F h = i ∙ rw d c.whole_part in
    let k : (n + 1) / 2 ≡ nearest (m * up e * 2 ^ 32) (down e) = ap (λ (q : ℕ). (q + 1) / 2) j ∙ halves_are s m e F h in
    let l = small_count s m e F h in
    let b : n < 2 ^ 63 = omega (arith, k, l) in
    record {
      few = b;
      below_zero = λ z. record { text_is = rw k (text_below s m e (nearest (m * up e * 2 ^ 32) (down e)) z); small = omega (arith, k, l) };
      else_is = λ z. record { text_is = rw k (text_else s m e z); small = omega (arith, k, l) };
    }
