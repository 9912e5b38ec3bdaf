-- SPDX-FileCopyrightText: 2026 The PPVM Authors
-- SPDX-License-Identifier: Apache-2.0

-- The order of floats of any sign as one of natural numbers, and so: what reaches a threshold reaches a lower one. Assumes nothing.
use mathlib.Core.Path.{◌≡◌, refl, sym, ap, ap₂, ◌∙◌}
use mathlib.Core.Bool.{Bool, true, false, not, ◌&&◌, ◌||◌, cond}
use Prim.Native.Nat.{ℕ, zero, suc, ◌+◌, ◌-◌, ◌*◌, ◌≤◌, ◌<◌}
use native.Mathlib.Nat.{zero-mul, mul-pos}
use native.Mathlib.Omega.{arith}
use borrow.Author.Tests.{ltb-true, ltb-false, lt-ltb, le-ltb, eq-eqb, ne_eqb, not-true}
use denote.Floats.{passes}
use lib.IntN.{ℤ}
use lib.Dec.{T, ltb, eqb, eqb→eq}
use lib.Ieee.{Float, nan, inf, fin, binary64, up, down, lt, eq, le, neg, is_nan, of_bits}
use lib.Ieee.Fits.{up_pos, down_pos, neg-fits}
use Rattle.number.specs.Floats.{float0, is_finite}
use Rattle.number.specs.Key.{nonneg, key}
use Rattle.number.proofs.KeyLaws.{lt_key, neg_key}
use Rattle.keep.proofs.PruneLaws.{Number}

pub finite_number : (x : Float) → is_finite x ≡ true → T (not (is_nan x))
unfolding is_nan
finite_number nan e = passes false e
finite_number (inf s) e = tt
finite_number (fin s m e) f = tt

-- ---- sizes
some_pos : (m : ℕ) → T (not (eqb m 0)) → 0 < m
some_pos zero h = absurd h
some_pos (suc m) h = omega arith

size_pos : (m : ℕ) (e d : ℤ) → T (not (eqb m 0)) → 0 < m * up e * down d
size_pos m e d h = mul-pos (mul-pos (some_pos m h) (up_pos e)) (down_pos d)

size_zero : (m : ℕ) (e d : ℤ) → T (eqb m 0) → m * up e * down d ≡ 0
size_zero m e d h = ap (λ (k : ℕ). k * up e * down d) (eqb→eq m 0 h) ∙ ap (λ (k : ℕ). k * down d) (zero-mul (up e)) ∙ zero-mul (down d)

-- ---- not above means below or equal
below_or_equal : (a b : ℕ) → ltb a b || (eqb a b && true) ≡ not (ltb b a)
below_or_equal a b = go (ltb a b) refl (ltb b a) refl
  where
    go : (s : Bool) → ltb a b ≡ s → (t : Bool) → ltb b a ≡ t → s || (eqb a b && true) ≡ not t
    go true e true f = absurd (omega (arith, ltb-true a b e, ltb-true b a f))
    go true e false f = refl
    go false e true f = ap (λ (t : Bool). t && true) (ne_eqb a b (λ z. omega (arith, ltb-true b a f, z)))
    go false e false f = ap (λ (t : Bool). t && true) (eq-eqb a b (omega (arith, ltb-false a b e, ltb-false b a f)))

above_or_equal : (a b : ℕ) → ltb b a || (eqb a b && true) ≡ not (ltb a b)
above_or_equal a b = go (ltb b a) refl (ltb a b) refl
  where
    go : (s : Bool) → ltb b a ≡ s → (t : Bool) → ltb a b ≡ t → s || (eqb a b && true) ≡ not t
    go true e true f = absurd (omega (arith, ltb-true b a e, ltb-true a b f))
    go true e false f = refl
    go false e true f = ap (λ (t : Bool). t && true) (ne_eqb a b (λ z. omega (arith, ltb-true a b f, z)))
    go false e false f = ap (λ (t : Bool). t && true) (eq-eqb a b (omega (arith, ltb-false b a e, ltb-false a b f)))

opposite_signs : (a b : ℕ) → ltb 0 (a + b) || (eqb a b && eqb a 0) ≡ true
opposite_signs a b = go (ltb 0 (a + b)) refl
  where
    go : (s : Bool) → ltb 0 (a + b) ≡ s → s || (eqb a b && eqb a 0) ≡ true
    go true e = refl
    go false e =
        let z = ltb-false 0 (a + b) e in
        ap₂ ◌&&◌ (eq-eqb a b (omega (arith, z))) (eq-eqb a 0 (omega (arith, z)))

both_zero : (a b : ℕ) → eqb a b && eqb a 0 ≡ not (ltb 0 (b + a))
both_zero a b = go (ltb 0 (b + a)) refl
  where
    go : (s : Bool) → ltb 0 (b + a) ≡ s → eqb a b && eqb a 0 ≡ not s
    go true e = other (eqb a b) refl (eqb a 0) refl (ltb-true 0 (b + a) e)
      where
        other : (s : Bool) → eqb a b ≡ s → (t : Bool) → eqb a 0 ≡ t → 0 < b + a → s && t ≡ false
        other false x t y l = refl
        other true x false y l = refl
        other true x true y l = absurd (omega (arith, l, eqb→eq a b (passes (eqb a b) x), eqb→eq a 0 (passes (eqb a 0) y)))
    go false e =
        let z = ltb-false 0 (b + a) e in
        ap₂ ◌&&◌ (eq-eqb a b (omega (arith, z))) (eq-eqb a 0 (omega (arith, z)))

le_turned : (x y : Float) → T (not (is_nan x)) → T (not (is_nan y)) → le x y ≡ not (lt y x)
unfolding le lt eq is_nan
le_turned nan y h k = absurd h
le_turned (inf s) nan h k = absurd k
le_turned (inf true) (inf true) h k = refl
le_turned (inf true) (inf false) h k = refl
le_turned (inf false) (inf true) h k = refl
le_turned (inf false) (inf false) h k = refl
le_turned (inf true) (fin t n d) h k = refl
le_turned (inf false) (fin t n d) h k = refl
le_turned (fin s m e) nan h k = absurd k
le_turned (fin s m e) (inf true) h k = refl
le_turned (fin s m e) (inf false) h k = refl
le_turned (fin false m e) (fin false n d) h k = below_or_equal (m * up e * down d) (n * up d * down e)
le_turned (fin false m e) (fin true n d) h k = both_zero (m * up e * down d) (n * up d * down e)
le_turned (fin true m e) (fin false n d) h k = opposite_signs (m * up e * down d) (n * up d * down e)
le_turned (fin true m e) (fin true n d) h k = above_or_equal (m * up e * down d) (n * up d * down e)

-- ---- below by the signs
lt_negative : (x y : Float) → T (not (is_nan x)) → T (not (nonneg x)) → T (nonneg y) → lt x y ≡ true
unfolding lt is_nan
lt_negative nan y n h k = absurd n
lt_negative (inf false) y n h k = absurd h
lt_negative (inf true) nan n h k = absurd k
lt_negative (inf true) (inf true) n h k = absurd k
lt_negative (inf true) (inf false) n h k = refl
lt_negative (inf true) (fin t m d) n h k = refl
lt_negative (fin false m e) y n h k = absurd h
lt_negative (fin true m e) nan n h k = absurd k
lt_negative (fin true m e) (inf true) n h k = absurd k
lt_negative (fin true m e) (inf false) n h k = refl
lt_negative (fin true m e) (fin false j d) n h k =
    let a : ℕ = m * up e * down d in
    lt-ltb 0 (a + j * up d * down e) (more a (j * up d * down e) (size_pos m e d h))
  where
    more : (a b : ℕ) → 0 < a → 0 < a + b
    more a b l = omega arith
lt_negative (fin true m e) (fin true j d) n h k = rw (size_zero j d e k) (lt-ltb 0 (m * up e * down d) (size_pos m e d h))

lt_positive : (x y : Float) → T (nonneg x) → T (not (nonneg y)) → lt x y ≡ false
unfolding lt
lt_positive nan y h k = absurd h
lt_positive (inf true) y h k = absurd h
lt_positive (inf false) nan h k = refl
lt_positive (inf false) (inf t) h k = refl
lt_positive (inf false) (fin t n d) h k = refl
lt_positive (fin s m e) nan h k = refl
lt_positive (fin s m e) (inf false) h k = absurd k
lt_positive (fin s m e) (inf true) h k = refl
lt_positive (fin s m e) (fin false n d) h k = absurd k
lt_positive (fin false m e) (fin true n d) h k = refl
lt_positive (fin true m e) (fin true n d) h k = rw (size_zero m e d h) (le-ltb (n * up d * down e) 0 (omega arith))

lt_opposites : (x y : Float) → T (not (is_nan x)) → T (not (is_nan y)) → T (not (nonneg x)) → T (not (nonneg y)) → lt x y ≡ lt (neg y) (neg x)
unfolding lt neg is_nan
lt_opposites nan y a b h k = absurd a
lt_opposites (inf false) y a b h k = absurd h
lt_opposites (fin false m e) y a b h k = absurd h
lt_opposites (inf true) nan a b h k = absurd b
lt_opposites (inf true) (inf false) a b h k = absurd k
lt_opposites (inf true) (inf true) a b h k = refl
lt_opposites (inf true) (fin false n d) a b h k = absurd k
lt_opposites (inf true) (fin true n d) a b h k = refl
lt_opposites (fin true m e) nan a b h k = absurd b
lt_opposites (fin true m e) (inf false) a b h k = absurd k
lt_opposites (fin true m e) (inf true) a b h k = refl
lt_opposites (fin true m e) (fin false n d) a b h k = absurd k
lt_opposites (fin true m e) (fin true n d) a b h k = refl

neg_nonneg : (x : Float) → T (not (is_nan x)) → T (not (nonneg x)) → T (nonneg (neg x))
unfolding neg is_nan
neg_nonneg nan n h = absurd n
neg_nonneg (inf true) n h = tt
neg_nonneg (inf false) n h = absurd h
neg_nonneg (fin true m e) n h = tt
neg_nonneg (fin false m e) n h = absurd h

-- ---- one order of natural numbers for numbers whose keys are at most B
ltb_raised : (B a b : ℕ) → ltb a b ≡ ltb (suc (B + a)) (suc (B + b))
ltb_raised B a b = go (ltb a b) refl
  where
    go : (t : Bool) → ltb a b ≡ t → t ≡ ltb (suc (B + a)) (suc (B + b))
    go true e = sym (lt-ltb (suc (B + a)) (suc (B + b)) (omega (arith, ltb-true a b e)))
    go false e = sym (le-ltb (suc (B + a)) (suc (B + b)) (omega (arith, ltb-false a b e)))

ltb_turned : (B a b : ℕ) → a ≤ B → b ≤ B → ltb b a ≡ ltb (B - a) (B - b)
ltb_turned B a b h k = go (ltb b a) refl
  where
    go : (t : Bool) → ltb b a ≡ t → t ≡ ltb (B - a) (B - b)
    go true e = sym (lt-ltb (B - a) (B - b) (omega (arith, ltb-true b a e)))
    go false e = sym (le-ltb (B - a) (B - b) (omega (arith, ltb-false b a e)))

module _ (B : ℕ) where
  unfoldable shifted : Float → ℕ
  shifted x = cond (nonneg x) (suc (B + key binary64 x)) (B - key binary64 x)

  lt_shifted : (x y : Float) → Number x → Number y → key binary64 x ≤ B → key binary64 y ≤ B → lt x y ≡ ltb (shifted x) (shifted y)
  unfolding shifted
  lt_shifted x y n m h k = go (nonneg x) refl (nonneg y) refl
    where
      go : (s : Bool) → nonneg x ≡ s → (t : Bool) → nonneg y ≡ t → lt x y ≡ ltb (cond s (suc (B + key binary64 x)) (B - key binary64 x)) (cond t (suc (B + key binary64 y)) (B - key binary64 y))
      go true e true f = lt_key binary64 x y n.fits_f64 m.fits_f64 (passes (nonneg x) e) (passes (nonneg y) f) ∙ ltb_raised B (key binary64 x) (key binary64 y)
      go true e false f = lt_positive x y (passes (nonneg x) e) (passes (not (nonneg y)) (ap not f)) ∙ sym (le-ltb (suc (B + key binary64 x)) (B - key binary64 y) (omega (arith, h, k)))
      go false e true f =
          lt_negative x y n.no_nan (passes (not (nonneg x)) (ap not e)) (passes (nonneg y) f) ∙ sym (lt-ltb (B - key binary64 x) (suc (B + key binary64 y)) (omega (arith, h, k)))
      go false e false f =
          let x-neg = passes (not (nonneg x)) (ap not e) in
          let y-neg = passes (not (nonneg y)) (ap not f) in
          lt_opposites x y n.no_nan m.no_nan x-neg y-neg
          ∙ lt_key binary64 (neg y) (neg x) (neg-fits binary64 y m.fits_f64) (neg-fits binary64 x n.fits_f64) (neg_nonneg y m.no_nan y-neg) (neg_nonneg x n.no_nan x-neg)
          ∙ ap₂ ltb (neg_key binary64 y) (neg_key binary64 x)
          ∙ ltb_turned B (key binary64 x) (key binary64 y) h k

-- ---- a lower threshold
module _ (low high x : Float) (l : Number low) (h : Number high) (n : Number x) (lower : le low high ≡ true) where
  abbrev B : ℕ
  B = key binary64 low + key binary64 high + key binary64 x

  not_above : shifted B low ≤ shifted B high
  not_above =
      ltb-false (shifted B high) (shifted B low)
      (sym (lt_shifted B high low h l (omega arith) (omega arith)) ∙ not-true (lt high low) (sym (le_turned low high l.no_nan h.no_nan) ∙ lower))

  pub lower_lt : lt high x ≡ true → lt low x ≡ true
  lower_lt e =
      let a = ltb-true (shifted B high) (shifted B x) (sym (lt_shifted B high x h n (omega arith) (omega arith)) ∙ e) in
      lt_shifted B low x l n (omega arith) (omega arith) ∙ lt-ltb (shifted B low) (shifted B x) (omega (arith, a, not_above))

  pub lower_le : le high x ≡ true → le low x ≡ true
  lower_le e =
      let a = ltb-false (shifted B x) (shifted B high) (sym (lt_shifted B x high n h (omega arith) (omega arith)) ∙ not-true (lt x high) (sym (le_turned high x h.no_nan n.no_nan) ∙ e)) in
      le_turned low x l.no_nan n.no_nan
      ∙ ap not (lt_shifted B x low n l (omega arith) (omega arith) ∙ le-ltb (shifted B x) (shifted B low) (omega (arith, a, not_above)))

-- a number that is not at most 0
pub above_zero : (x : Float) → T (not (is_nan x)) → le x float0 ≡ false → T (nonneg x)
unfolding is_nan le lt eq of_bits
above_zero nan n e = absurd n
above_zero (inf true) n e = absurd (passes false (sym e))
above_zero (inf false) n e = tt
above_zero (fin true m d) n e = absurd (passes false (sym e ∙ le_turned (fin true m d) float0 tt tt))
above_zero (fin false m d) n e = tt
