-- SPDX-FileCopyrightText: 2026 The PPVM Authors
-- SPDX-License-Identifier: Apache-2.0

-- Sums and differences of numbers that are not below zero, by their keys: a rounded sum grows with what is added to, and is no smaller
-- than either of the two. Infinite sums included. Assumes nothing.
use mathlib.Core.Path.{◌≡◌, refl, sym, ap, ap₂, ◌∙◌}
use mathlib.Core.Bool.{Bool, true, false, cond}
use Prim.Native.Nat.{ℕ, ◌+◌, ◌-◌, ◌*◌, ◌/◌, ◌^◌, ◌≤◌, ◌<◌, zero-le}
use native.Mathlib.Nat.{le_trans, le_of_eq, le_of_lt, le_refl, not-le_of_lt, mul_comm, mul-le-mul_right, le_of_mul-le-mul_right, mul-pos, add-mul, mul-sub, zero-mul}
use native.Mathlib.Omega.{arith}
use lib.Dec.{T, ltb, ltb→lt, leb→le, eqb→eq}
use lib.IntN.{ℤ, pos}
use lib.Pow.{pow_pos}
use lib.Ieee.{Float, nan, inf, fin, Format, low, up, down, round, sum, add, sub, neg, fits}
use lib.Ieee.Fits.{down_pos, round-fits, add-fits, sub-fits, neg-fits}
use lib.Ieee.Order.{round_mono}
use lib.Ieee.Scale.{round_same, finite}
use Rattle.number.specs.Key.{nonneg, key}
use Rattle.number.proofs.Tests.{passes}
use Rattle.number.proofs.KeyLaws.{key_finite, left_units, right_units, le_key, unsigned, unsigned_nonneg, round_unsigned}
use Rattle.number.proofs.ZeroLaws.{add_nothing}

-- with no minus sign, and held by the format: a number or infinity
pub record Plain (f : Format) (x : Float) : Type 0 where
  pub held : T (fits f x)
  pub sign : T (unsigned x)

-- finite, not below zero, and held by the format
pub record Finite (f : Format) (x : Float) : Type 0 where
  pub held : T (fits f x)
  pub high : T (nonneg x)
  pub ends : T (finite x)

module _ (f : Format) where
  -- the key of so many of the format's smallest values, rounded
  abbrev rho : ℕ → ℕ
  rho n = key f (round f false n (2 ^ low f))

  rho_mono : (a b : ℕ) → a ≤ b → rho a ≤ rho b
  rho_mono a b h =
      let x : Float = round f false a (2 ^ low f) in
      let y : Float = round f false b (2 ^ low f) in
      leb→le (key f x) (key f y)
      (passes (sym (le_key f x y (round-fits f false a (2 ^ low f)) (round-fits f false b (2 ^ low f)) (unsigned_nonneg x (round_unsigned f a (2 ^ low f))) (unsigned_nonneg y (round_unsigned f b (2 ^ low f)))))
      (round_mono f a (2 ^ low f) b (2 ^ low f) (pow_pos (low f)) (pow_pos (low f)) (mul-le-mul_right (2 ^ low f) h)))

  pub round_plain : (a c : ℕ) → Plain f (round f false a c)
  round_plain a c = record { held = round-fits f false a c; sign = round_unsigned f a c }

  -- no key is above that of infinity
  pub under_top : (x : Float) → T (fits f x) → key f x ≤ key f (inf false)
  unfolding key
  under_top nan F = zero-le
  under_top (inf s) F = le_refl _
  under_top (fin s m e) F = le_of_lt (key_finite f s m e F)

  -- ---- exact sums and differences, in units
  module _ (m : ℕ) (e : ℤ) (n : ℕ) (d : ℤ) (F : T (fits f (fin false m e))) (G : T (fits f (fin false n d))) where
    abbrev x : ℕ
    x = key f (fin false m e)

    abbrev y : ℕ
    y = key f (fin false n d)

    abbrev a : ℕ
    a = m * up e * down d

    abbrev b : ℕ
    b = n * up d * down e

    abbrev c : ℕ
    c = down e * down d

    positive : 0 < c
    positive = mul-pos (down_pos e) (down_pos d)

    add_is : add f (fin false m e) (fin false n d) ≡ round f false (x + y) (2 ^ low f)
    unfolding add sum
    add_is = round_same f false (a + b) c (x + y) (2 ^ low f) positive (pow_pos (low f)) (add-mul a b (2 ^ low f) ∙ ap₂ ◌+◌ (left_units f false m e false n d F G) (right_units f false m e false n d F G) ∙ sym (add-mul x y c))

    module _ (h : y ≤ x) where
      inside : b ≤ a
      inside =
          le_of_mul-le-mul_right
          (le_trans (le_of_eq (right_units f false m e false n d F G)) (le_trans (mul-le-mul_right c h) (le_of_eq (sym (left_units f false m e false n d F G)))))
          (pow_pos (low f))

      pick : sum f false a true b c ≡ round f false (a - b) c
      unfolding sum
      pick = go (ltb a b) (ltb→lt a b)
        where
          go : (t : Bool) → (T t → a < b) → cond t (round f true (b - a) c) (round f false (a - b) c) ≡ round f false (a - b) c
          go true k = absurd (not-le_of_lt (k tt) inside)
          go false k = refl

      scaled : (p q r : ℕ) → (p - q) * r ≡ p * r - q * r
      scaled p q r = mul_comm (p - q) r ∙ mul-sub r p q ∙ ap₂ ◌-◌ (mul_comm r p) (mul_comm r q)

      less_is : sub f (fin false m e) (fin false n d) ≡ round f false (x - y) (2 ^ low f)
      unfolding sub add neg
      less_is =
          pick
          ∙ round_same f false (a - b) c (x - y) (2 ^ low f) positive (pow_pos (low f))
          (scaled a b (2 ^ low f) ∙ ap₂ ◌-◌ (left_units f false m e false n d F G) (right_units f false m e false n d F G) ∙ sym (scaled x y c))

  -- ---- a number is its own rounding
  abbrev nought : Float
  nought = fin false 0 (pos 0)

  nought_fits : T (fits f nought)
  unfolding fits
  nought_fits = tt

  pub zero_key : (s : Bool) (e : ℤ) → key f (fin s 0 e) ≡ 0
  unfolding key
  zero_key s e = ap (λ (k : ℕ). k * (2 ^ low f / down e)) (zero-mul (up e)) ∙ zero-mul (2 ^ low f / down e)

  rho_key : (m : ℕ) (e : ℤ) → T (fits f (fin false m e)) → rho (key f (fin false m e)) ≡ key f (fin false m e)
  rho_key m e F =
      let z = zero_key false (pos 0) in
      let w : key f (fin false m e) + key f nought ≡ key f (fin false m e) = omega (arith, z) in
      ap rho (sym w) ∙ sym (ap (key f) (add_is m e 0 (pos 0) F nought_fits)) ∙ ap (key f) (add_nothing f (fin false m e) false F refl)

  -- ---- a sum, of a number that may be infinite and one that is finite
  -- without its sign, which a zero may have
  bare : (n : ℕ) (d : ℤ) → T (fits f (fin true n d)) → T (fits f (fin false n d))
  unfolding neg
  bare n d G = neg-fits f (fin true n d) G

  opened : (m : ℕ) (e : ℤ) (n : ℕ) (d : ℤ) → add f (fin false m e) (fin true n d) ≡ sub f (fin false m e) (fin false n d)
  unfolding sub neg
  opened m e n d = refl

  sum_is : (m : ℕ) (e : ℤ) (s : Bool) (n : ℕ) (d : ℤ) → T (fits f (fin false m e)) → Finite f (fin s n d)
      → add f (fin false m e) (fin s n d) ≡ round f false (key f (fin false m e) + key f (fin s n d)) (2 ^ low f)
  sum_is m e false n d F c = add_is m e n d F c.held
  sum_is m e true n d F c =
      let i : n ≡ 0 = eqb→eq n 0 c.high in
      let z : key f (fin true n d) ≡ 0 = ap (λ (k : ℕ). key f (fin true k d)) i ∙ zero_key true d in
      let y : key f (fin false n d) ≡ 0 = ap (λ (k : ℕ). key f (fin false k d)) i ∙ zero_key false d in
      let w : key f (fin false m e) - key f (fin false n d) ≡ key f (fin false m e) + key f (fin true n d) = omega (arith, z, y) in
      opened m e n d ∙ less_is m e n d F (bare n d c.held) (omega (arith, y)) ∙ ap (λ (k : ℕ). round f false k (2 ^ low f)) w

  -- what is infinite stays so
  inf_sum : (s t : Bool) (n : ℕ) (d : ℤ) → add f (inf s) (fin t n d) ≡ inf s
  unfolding add
  inf_sum s t n d = refl

  pub inf_not : (m : ℕ) (e : ℤ) → T (fits f (fin false m e)) → key f (inf false) ≤ key f (fin false m e) → ⊥
  unfolding key
  inf_not m e F h = not-le_of_lt (key_finite f false m e F) h

  pub sum_plain : (c : Float) → Finite f c → (x : Float) → Plain f x → Plain f (add f x c)
  sum_plain c C nan X = absurd X.sign
  sum_plain nan C (inf s) X = absurd C.ends
  sum_plain (inf t) C (inf s) X = absurd C.ends
  sum_plain (fin t n d) C (inf s) X = rw (inf_sum s t n d) X
  sum_plain nan C (fin s m e) X = absurd C.ends
  sum_plain (inf t) C (fin s m e) X = absurd C.ends
  sum_plain (fin t n d) C (fin true m e) X = absurd X.sign
  sum_plain (fin t n d) C (fin false m e) X = rw (sum_is m e t n d X.held C) (round_plain (key f (fin false m e) + key f (fin t n d)) (2 ^ low f))

  -- the larger what is added to, the larger the sum
  pub sum_mono : (c : Float) → Finite f c → (x y : Float) → Plain f x → Plain f y → key f x ≤ key f y → key f (add f x c) ≤ key f (add f y c)
  sum_mono nan C x y X Y h = absurd C.ends
  sum_mono (inf t) C x y X Y h = absurd C.ends
  sum_mono (fin t n d) C x nan X Y h = absurd Y.sign
  sum_mono (fin t n d) C x (inf true) X Y h = absurd Y.sign
  sum_mono (fin t n d) C x (inf false) X Y h = rw (inf_sum false t n d) (under_top (add f x (fin t n d)) (add-fits f x (fin t n d)))
  sum_mono (fin t n d) C x (fin true k g) X Y h = absurd Y.sign
  sum_mono (fin t n d) C nan (fin false k g) X Y h = absurd X.sign
  sum_mono (fin t n d) C (inf true) (fin false k g) X Y h = absurd X.sign
  sum_mono (fin t n d) C (inf false) (fin false k g) X Y h = absurd (inf_not k g Y.held h)
  sum_mono (fin t n d) C (fin true m e) (fin false k g) X Y h = absurd X.sign
  sum_mono (fin t n d) C (fin false m e) (fin false k g) X Y h =
      rw (sum_is m e t n d X.held C, sum_is k g t n d Y.held C)
      (rho_mono (key f (fin false m e) + key f (fin t n d)) (key f (fin false k g) + key f (fin t n d)) (omega (arith, h)))

  -- and it is no smaller than either
  pub sum_grows : (c : Float) → Finite f c → (x : Float) → Plain f x → key f x ≤ key f (add f x c)
  sum_grows nan C x X = absurd C.ends
  sum_grows (inf t) C x X = absurd C.ends
  sum_grows (fin t n d) C nan X = absurd X.sign
  sum_grows (fin t n d) C (inf s) X = rw (inf_sum s t n d) (le_refl (key f (inf s)))
  sum_grows (fin t n d) C (fin true m e) X = absurd X.sign
  sum_grows (fin t n d) C (fin false m e) X =
      rw (sum_is m e t n d X.held C)
      (le_trans (le_of_eq (sym (rho_key m e X.held))) (rho_mono (key f (fin false m e)) (key f (fin false m e) + key f (fin t n d)) (omega arith)))

  own : (s : Bool) (n : ℕ) (d : ℤ) → Finite f (fin s n d) → rho (key f (fin s n d)) ≡ key f (fin s n d)
  own false n d C = rho_key n d C.held
  own true n d C = ap (λ (k : ℕ). rho k) (sign_free n d) ∙ rho_key n d (bare n d C.held) ∙ sym (sign_free n d)
    where
      sign_free : (n : ℕ) (d : ℤ) → key f (fin true n d) ≡ key f (fin false n d)
      sign_free n d = unfold key in refl

  pub sum_covers : (c : Float) → Finite f c → (x : Float) → Plain f x → key f c ≤ key f (add f x c)
  sum_covers nan C x X = absurd C.ends
  sum_covers (inf t) C x X = absurd C.ends
  sum_covers (fin t n d) C nan X = absurd X.sign
  sum_covers (fin t n d) C (inf true) X = absurd X.sign
  sum_covers (fin t n d) C (inf false) X = rw (inf_sum false t n d) (under_top (fin t n d) C.held)
  sum_covers (fin t n d) C (fin true m e) X = absurd X.sign
  sum_covers (fin t n d) C (fin false m e) X =
      rw (sum_is m e t n d X.held C)
      (le_trans (le_of_eq (sym (own t n d C))) (rho_mono (key f (fin t n d)) (key f (fin false m e) + key f (fin t n d)) (omega arith)))

  -- ---- a difference that is not below zero
  inf_less : (s t : Bool) (n : ℕ) (d : ℤ) → sub f (inf s) (fin t n d) ≡ inf s
  unfolding sub add neg
  inf_less s t n d = refl

  -- of a number and a zero with a minus sign, too
  difference_is : (m : ℕ) (e : ℤ) (s : Bool) (n : ℕ) (d : ℤ) → T (fits f (fin false m e)) → Finite f (fin s n d) → key f (fin s n d) ≤ key f (fin false m e)
      → sub f (fin false m e) (fin s n d) ≡ round f false (key f (fin false m e) - key f (fin s n d)) (2 ^ low f)
  difference_is m e false n d F c h = less_is m e n d F c.held h
  difference_is m e true n d F c h =
      let i : n ≡ 0 = eqb→eq n 0 c.high in
      let z : key f (fin true n d) ≡ 0 = ap (λ (k : ℕ). key f (fin true k d)) i ∙ zero_key true d in
      let y : key f (fin false n d) ≡ 0 = ap (λ (k : ℕ). key f (fin false k d)) i ∙ zero_key false d in
      let w : key f (fin false m e) + key f (fin false n d) ≡ key f (fin false m e) - key f (fin true n d) = omega (arith, z, y) in
      turned m e n d ∙ add_is m e n d F (bare n d c.held) ∙ ap (λ (k : ℕ). round f false k (2 ^ low f)) w
    where
      turned : (m : ℕ) (e : ℤ) (n : ℕ) (d : ℤ) → sub f (fin false m e) (fin true n d) ≡ add f (fin false m e) (fin false n d)
      turned m e n d = unfold sub in unfold neg in refl

  pub less_plain : (c : Float) → Finite f c → (x : Float) → Plain f x → key f c ≤ key f x → Plain f (sub f x c)
  less_plain nan C x X h = absurd C.ends
  less_plain (inf t) C x X h = absurd C.ends
  less_plain (fin t n d) C nan X h = absurd X.sign
  less_plain (fin t n d) C (inf s) X h = rw (inf_less s t n d) X
  less_plain (fin t n d) C (fin true m e) X h = absurd X.sign
  less_plain (fin t n d) C (fin false m e) X h = rw (difference_is m e t n d X.held C h) (round_plain (key f (fin false m e) - key f (fin t n d)) (2 ^ low f))

  pub less_mono : (c : Float) → Finite f c → (x y : Float) → Plain f x → Plain f y → key f c ≤ key f x → key f x ≤ key f y → key f (sub f x c) ≤ key f (sub f y c)
  less_mono nan C x y X Y l h = absurd C.ends
  less_mono (inf t) C x y X Y l h = absurd C.ends
  less_mono (fin t n d) C x nan X Y l h = absurd Y.sign
  less_mono (fin t n d) C x (inf true) X Y l h = absurd Y.sign
  less_mono (fin t n d) C x (inf false) X Y l h = rw (inf_less false t n d) (under_top (sub f x (fin t n d)) (sub-fits f x (fin t n d)))
  less_mono (fin t n d) C x (fin true k g) X Y l h = absurd Y.sign
  less_mono (fin t n d) C nan (fin false k g) X Y l h = absurd X.sign
  less_mono (fin t n d) C (inf true) (fin false k g) X Y l h = absurd X.sign
  less_mono (fin t n d) C (inf false) (fin false k g) X Y l h = absurd (inf_not k g Y.held h)
  less_mono (fin t n d) C (fin true m e) (fin false k g) X Y l h = absurd X.sign
  less_mono (fin t n d) C (fin false m e) (fin false k g) X Y l h =
      rw (difference_is m e t n d X.held C l, difference_is k g t n d Y.held C (le_trans l h))
      (rho_mono (key f (fin false m e) - key f (fin t n d)) (key f (fin false k g) - key f (fin t n d)) (omega (arith, h)))
