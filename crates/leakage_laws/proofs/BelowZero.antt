-- SPDX-FileCopyrightText: 2026 The PPVM Authors
-- SPDX-License-Identifier: Apache-2.0

-- Every finite sum is above a threshold that is below 0, and above any other exactly if its key is. Assumes nothing.
use mathlib.Core.Path.{◌≡◌, refl, sym, ap, ◌∙◌}
use mathlib.Core.Bool.{Bool, true, false, not}
use mathlib.Core.List.{[], ◌∷◌}
use Prim.Native.Nat.{ℕ, zero, suc, ◌+◌, ◌*◌, ◌<◌}
use native.Mathlib.Nat.{zero-mul, mul-pos}
use native.Mathlib.Omega.{arith}
use borrow.Author.Tests.{ltb-true, ltb-false, lt-ltb, eqb-false}
use denote.Floats.{passes as holds}
use lib.IntN.{ℤ, pos}
use lib.Dec.{T, ltb, eqb, eqb→eq}
use lib.Ieee.{Float, nan, inf, fin, binary64, fits, lt, is_nan, of_bits, up, down}
use lib.Ieee.Fits.{up_pos, down_pos}
use lib.ListN.{length, get_or}
use Rattle.number.specs.Floats.{float0, magnitude, is_finite}
use Rattle.number.specs.Key.{key, nonneg}
use Rattle.number.proofs.KeyLaws.{lt_key, magnitude_nonneg, magnitude_fits, magnitude_key}
use Rattle.keep.proofs.PruneLaws.{Number}
use Rattle.truncate.proofs.ThresholdLaws.{finite_number}
use Rattle.candidates.specs.Tables.{Rows}
use Rattle.passes.specs.Leaks.{sums_of, above}
use Rattle.limits.specs.Defaults.{is_above}

-- ---- below 0 means below every number that is not negative
some_pos : (m : ℕ) → (m ≡ 0 → ⊥) → 0 < m
some_pos zero h = absurd (h refl)
some_pos (suc m) h = omega arith

size_pos : (m : ℕ) (e d : ℤ) → (m ≡ 0 → ⊥) → 0 < m * up e * down d
size_pos m e d h = mul-pos (mul-pos (some_pos m h) (up_pos e)) (down_pos d)

size_zero : (m : ℕ) (e d : ℤ) → m ≡ 0 → m * up e * down d ≡ 0
size_zero m e d h = ap (λ (k : ℕ). k * up e * down d) h ∙ ap (λ (k : ℕ). k * down d) (zero-mul (up e)) ∙ zero-mul (down d)

below_nought : (c : ℤ) (x y : Float) → lt x (fin false 0 c) ≡ true → T (nonneg y) → lt x y ≡ true
unfolding lt
below_nought c nan y e k = absurd (holds false e)
below_nought c (inf false) y e k = absurd (holds false e)
below_nought c (inf true) nan e k = absurd k
below_nought c (inf true) (inf true) e k = absurd k
below_nought c (inf true) (inf false) e k = refl
below_nought c (inf true) (fin t j a) e k = refl
below_nought c (fin false m d) y e k = absurd (omega (arith, ltb-true (m * up d * down c) (0 * up c * down d) e, size_zero 0 c d refl))
below_nought c (fin true m d) nan e k = absurd k
below_nought c (fin true m d) (inf true) e k = absurd k
below_nought c (fin true m d) (inf false) e k = refl
below_nought c (fin true m d) (fin s j a) e k = go s k
  where
    some : m ≡ 0 → ⊥
    some z = omega (arith, ltb-true 0 (m * up d * down c + 0 * up c * down d) e, size_zero m d c z, size_zero 0 c d refl)

    go : (s : Bool) → T (nonneg (fin s j a)) → lt (fin true m d) (fin s j a) ≡ true
    go false h = lt-ltb 0 (m * up d * down a + j * up a * down d) (omega (arith, size_pos m d a some))
    go true h = rw (size_zero j a d (eqb→eq j 0 h)) (lt-ltb 0 (m * up d * down a) (size_pos m d a some))

exponent : Float → ℤ
exponent nan = pos 0
exponent (inf s) = pos 0
exponent (fin s m e) = e

below : (x y : Float) → lt x float0 ≡ true → T (nonneg y) → lt x y ≡ true
unfolding of_bits exponent
below x y e k = below_nought (exponent float0) x y e k

pub negative_below : (tau : Float) → lt tau float0 ≡ true → (x : Float) → is_finite x ≡ true → is_above tau x ≡ true
negative_below tau e x h = below tau (magnitude x) e (magnitude_nonneg x (finite_number x h))

pub all_above : (tau : Float) → lt tau float0 ≡ true → (R : Rows) → ((i : ℕ) → i < length R → is_finite (get_or (sums_of R) i nan) ≡ true) → above tau R ≡ R
unfolding above
all_above tau e [] h = refl
all_above tau e (r ∷ R) h = rw (negative_below tau e r.sum (h 0 (omega arith))) (ap (λ (t : Rows). r ∷ t) (all_above tau e R (λ i l. h (suc i) (omega arith))))

-- ---- a threshold that is not below 0
not_negative_from : (c : ℤ) (x : Float) → T (not (is_nan x)) → lt x (fin false 0 c) ≡ false → T (nonneg x)
unfolding lt is_nan
not_negative_from c nan n e = absurd n
not_negative_from c (inf false) n e = tt
not_negative_from c (inf true) n e = absurd (holds false (sym e))
not_negative_from c (fin false m d) n e = tt
not_negative_from c (fin true m d) n e = go (eqb m 0) refl
  where
    go : (z : Bool) → eqb m 0 ≡ z → T z
    go true h = tt
    go false h = absurd (omega (arith, size_pos m d c (eqb-false m 0 h), ltb-false 0 (m * up d * down c + 0 * up c * down d) e))

not_negative : (x : Float) → T (not (is_nan x)) → lt x float0 ≡ false → T (nonneg x)
unfolding of_bits exponent
not_negative x n e = not_negative_from (exponent float0) x n e

pub above_by_key : (tau : Float) → Number tau → lt tau float0 ≡ false → (x : Float) → T (fits binary64 x) → is_finite x ≡ true → is_above tau x ≡ ltb (key binary64 tau) (key binary64 x)
above_by_key tau n e x f h =
    lt_key binary64 tau (magnitude x) n.fits_f64 (magnitude_fits binary64 x f) (not_negative tau n.no_nan e) (magnitude_nonneg x (finite_number x h))
    ∙ ap (ltb (key binary64 tau)) (magnitude_key binary64 x)
