-- SPDX-FileCopyrightText: 2026 The PPVM Authors
-- SPDX-License-Identifier: Apache-2.0

-- A float rounded up by its whole part: one more where the whole part is below it. Assumes nothing.
use Rattle.std.proofs.Common.{◌≡◌, ℕ, suc, ◌+◌, ◌*◌, ◌/◌, ◌%◌, ◌^◌, ◌<◌, ◌≤◌, min, max, Bool, true, false, cond, T, eqb, ltb, ℤ, pos, sym, refl, ap, ◌∙◌, subst, le_of_lt, mul_comm, div-lt_iff_lt-mul, lt_of_mul-lt-mul_right, div-add-mod', le-div_iff_mul-le, mul-one, mul_right_comm, arith, lt→ltb, ltb-false, ltb-true, eqb-true}
use native.Mathlib.Nat.{mul-mod_left, div-le_of_le-mul, lt-div-mul-add}
use borrow.Author.Tests.{eqb-false}
use lib.Ieee.{Float, nan, inf, fin, binary64, up, down, lt, of_int, round, to_unsigned}
use lib.Ieee.Exact.{HasValue}
use lib.Ieee.Fits.{down_pos}
use lib.Ieee.Back.{round_whole}
use Rattle.number.proofs.Tests.{ltb_scale}
use Rattle.expm.specs.Selects.{max_steps, ceiling, steps_of}

-- ---- a fraction rounded up
module _ (a b : ℕ) (B : 0 < b) where
  ceiling_by : (z : Bool) → eqb (a % b) 0 ≡ z → ceiling a b ≡ cond z (a / b) (suc (a / b))
  ceiling_by z e = ap (λ (c : Bool). cond c (a / b) (suc (a / b))) e

  -- it is the least whole number not below the fraction
  pub ceiling_le : (k : ℕ) → a ≤ k * b → ceiling a b ≤ k
  ceiling_le k h = go (eqb (a % b) 0) refl
    where
      less : (a % b ≡ 0 → ⊥) → a < k * b
      less n = let m = mul-mod_left k b in let f : a ≡ k * b → ⊥ = λ e. n (ap (λ (x : ℕ). x % b) e ∙ m) in omega (arith, f)

      go : (z : Bool) → eqb (a % b) 0 ≡ z → ceiling a b ≤ k
      go true e = rw (ceiling_by true e) (div-le_of_le-mul b (rw (mul_comm b k) h))
      go false e = rw (ceiling_by false e) ((div-lt_iff_lt-mul B).1 (less (eqb-false (a % b) 0 e)))

  pub ceiling_gt : (k : ℕ) → k * b < a → k < ceiling a b
  ceiling_gt k h = go (eqb (a % b) 0) refl
    where
      go : (z : Bool) → eqb (a % b) 0 ≡ z → k < ceiling a b
      go true e =
          let d = div-add-mod' a b in
          let r = eqb-true (a % b) 0 e in
          let l : k * b < a / b * b = omega arith in
          rw (ceiling_by true e) (lt_of_mul-lt-mul_right b l)
      go false e =
          let l : k ≤ a / b = (le-div_iff_mul-le B).1 (le_of_lt h) in
          rw (ceiling_by false e) (omega arith)

  ceiling_ge : a / b ≤ ceiling a b
  ceiling_ge = go (eqb (a % b) 0) refl
    where
      go : (z : Bool) → eqb (a % b) 0 ≡ z → a / b ≤ ceiling a b
      go true e = rw (ceiling_by true e) (omega arith)
      go false e = rw (ceiling_by false e) (omega arith)

  -- at least 1, at most 4294967295
  abbrev limited : ℕ
  limited = max 1 (min max_steps (ceiling a b))

  pub limited_one : a ≤ 1 * b → 1 ≡ limited
  limited_one h = let c = ceiling_le 1 h in omega arith

  limited_most : max_steps * b ≤ a → max_steps ≡ limited
  limited_most h =
      let l : 4294967294 * b < a = omega arith in
      let c = ceiling_gt 4294967294 l in
      omega arith

  module _ (low : 1 * b < a) (high : a < max_steps * b) where
    whole_low : 1 ≤ a / b
    whole_low = (le-div_iff_mul-le B).1 (le_of_lt low)

    whole_high : a / b < max_steps
    whole_high = (div-lt_iff_lt-mul B).1 high

    limited_more : a / b * b < a → a / b + 1 ≡ limited
    limited_more h =
        let c = ceiling_gt (a / b) h in
        let l : a ≤ suc (a / b) * b = let d = lt-div-mul-add {a = a} B in omega (arith, d) in
        let d = ceiling_le (suc (a / b)) l in
        let w = whole_high in
        omega arith

    limited_whole : a ≤ a / b * b → a / b ≡ limited
    limited_whole h =
        let c = ceiling_le (a / b) h in
        let d = ceiling_ge in
        let l = whole_low in
        let w = whole_high in
        omega arith

-- ---- a whole number beside a float
-- the comparison is that of the fractions
whole_below : (w m : ℕ) (e : ℤ) → w ≤ 2 ^ 53 → lt (of_int binary64 (pos w)) (fin false m e) ≡ ltb (w * down e) (m * up e)
unfolding of_int lt
whole_below w m e h = go (round binary64 false w 1) (round_whole binary64 false w h)
  where
    go : (x : Float) → HasValue x false w 1 → lt x (fin false m e) ≡ ltb (w * down e) (m * up e)
    go nan v = absurd v
    go (inf s) v = absurd v
    go (fin true n d) v = absurd (subst T v.0 tt)
    go (fin false n d) v =
        let q : n * up d ≡ w * down d = sym (mul-one (n * up d)) ∙ v.1 in
        ap (λ (x : ℕ). ltb (x * down e) (m * up e * down d)) q
        ∙ ap (λ (x : ℕ). ltb x (m * up e * down d)) (mul_right_comm w (down d) (down e))
        ∙ ltb_scale (w * down e) (m * up e) (down d) (down_pos d)

-- ---- the answers
abbrev pub float_one : Float
float_one = fin false 1 (pos 0)

abbrev pub float_most : Float
float_most = fin false 4294967295 (pos 0)

pub steps_one : (x : Float) → lt float_one x ≡ false → 1 ≡ steps_of x
unfolding lt steps_of
steps_one nan h = refl
steps_one (inf true) h = refl
steps_one (inf false) h = absurd (subst T h tt)
steps_one (fin true m e) h = refl
steps_one (fin false m e) h = let l = ltb-false (1 * down e) (m * up e * 1) h in limited_one (m * up e) (down e) (down_pos e) (omega arith)

pub steps_most : (x : Float) → lt float_one x ≡ true → lt x float_most ≡ false → max_steps ≡ steps_of x
unfolding lt steps_of
steps_most nan a b = absurd (subst T (sym a) tt)
steps_most (inf true) a b = absurd (subst T (sym a) tt)
steps_most (inf false) a b = refl
steps_most (fin true m e) a b = absurd (subst T (sym a) tt)
steps_most (fin false m e) a b = let l = ltb-false (m * up e * 1) (4294967295 * down e) b in limited_most (m * up e) (down e) (down_pos e) (omega arith)

-- between the two: the whole part, and what it takes to read it
pub whole_read : (x : Float) → lt float_one x ≡ true → lt x float_most ≡ true → T (lt (fin true 1 (pos 0)) x) × T (lt x (fin false 1 (pos 64)))
unfolding lt
whole_read nan a b = absurd (subst T (sym a) tt)
whole_read (inf true) a b = absurd (subst T (sym a) tt)
whole_read (inf false) a b = absurd (subst T (sym b) tt)
whole_read (fin true m e) a b = absurd (subst T (sym a) tt)
whole_read (fin false m e) a b =
    let l = ltb-true (1 * down e) (m * up e * 1) a in
    let h = ltb-true (m * up e * 1) (4294967295 * down e) b in
    (lt→ltb 0 (1 * down e + m * up e * 1) (omega arith), lt→ltb (m * up e * 1) (18446744073709551616 * down e) (omega arith))

module _ (m : ℕ) (e : ℤ) (a : lt float_one (fin false m e) ≡ true) (b : lt (fin false m e) float_most ≡ true) where
  low : 1 * down e < m * up e
  unfolding lt
  low = let l = ltb-true (1 * down e) (m * up e * 1) a in omega arith

  high : m * up e < max_steps * down e
  unfolding lt
  high = let h = ltb-true (m * up e * 1) (4294967295 * down e) b in omega arith

  whole_is : to_unsigned 64 (fin false m e) ≡ m * up e / down e
  unfolding to_unsigned
  whole_is = let h = whole_high (m * up e) (down e) (down_pos e) low high in omega arith

  below_is : (w : ℕ) → w ≡ m * up e / down e → lt (of_int binary64 (pos w)) (fin false m e) ≡ ltb (w * down e) (m * up e)
  below_is w i = let h = whole_high (m * up e) (down e) (down_pos e) low high in whole_below w m e (omega arith)

  more : (w : ℕ) → w ≡ m * up e / down e → lt (of_int binary64 (pos w)) (fin false m e) ≡ true → w + 1 ≡ steps_of (fin false m e)
  unfolding steps_of
  more w i t =
      let l = ltb-true (w * down e) (m * up e) (sym (below_is w i) ∙ t) in
      rw i (limited_more (m * up e) (down e) (down_pos e) low high (rw i at l))

  whole : (w : ℕ) → w ≡ m * up e / down e → lt (of_int binary64 (pos w)) (fin false m e) ≡ false → w ≡ steps_of (fin false m e)
  unfolding steps_of
  whole w i t =
      let l = ltb-false (w * down e) (m * up e) (sym (below_is w i) ∙ t) in
      rw i (limited_whole (m * up e) (down e) (down_pos e) low high (rw i at l))

module _ (w : ℕ) where
  pub whole_few : (x : Float) → lt float_one x ≡ true → lt x float_most ≡ true → w ≡ to_unsigned 64 x → w < max_steps
  unfolding lt
  whole_few nan a b i = absurd (subst T (sym a) tt)
  whole_few (inf true) a b i = absurd (subst T (sym a) tt)
  whole_few (inf false) a b i = absurd (subst T (sym b) tt)
  whole_few (fin true m e) a b i = absurd (subst T (sym a) tt)
  whole_few (fin false m e) a b i = let h = whole_high (m * up e) (down e) (down_pos e) (low m e a b) (high m e a b) in let j = whole_is m e a b in omega arith

  pub steps_more : (x : Float) → lt float_one x ≡ true → lt x float_most ≡ true → w ≡ to_unsigned 64 x → lt (of_int binary64 (pos w)) x ≡ true → w + 1 ≡ steps_of x
  unfolding lt
  steps_more nan a b i t = absurd (subst T (sym a) tt)
  steps_more (inf true) a b i t = absurd (subst T (sym a) tt)
  steps_more (inf false) a b i t = absurd (subst T (sym b) tt)
  steps_more (fin true m e) a b i t = absurd (subst T (sym a) tt)
  steps_more (fin false m e) a b i t = more m e a b w (i ∙ whole_is m e a b) t

  pub steps_whole : (x : Float) → lt float_one x ≡ true → lt x float_most ≡ true → w ≡ to_unsigned 64 x → lt (of_int binary64 (pos w)) x ≡ false → w ≡ steps_of x
  unfolding lt
  steps_whole nan a b i t = absurd (subst T (sym a) tt)
  steps_whole (inf true) a b i t = absurd (subst T (sym a) tt)
  steps_whole (inf false) a b i t = absurd (subst T (sym b) tt)
  steps_whole (fin true m e) a b i t = absurd (subst T (sym a) tt)
  steps_whole (fin false m e) a b i t = whole m e a b w (i ∙ whole_is m e a b) t
