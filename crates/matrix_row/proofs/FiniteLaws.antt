-- SPDX-FileCopyrightText: 2026 The PPVM Authors
-- SPDX-License-Identifier: Apache-2.0

-- A product or a sum is finite only if what went into it is. Assumes nothing.
use Rattle.std.proofs.Common.{◌≡◌, Bool, true, false, cond, eqb, refl}
use mathlib.Core.Bool.{beq, false≢true}
use lib.Ieee.{Float, nan, inf, fin, binary64, add, mul, unlike}
use Rattle.number.specs.Floats.{is_finite}

pub mul_finite : (v x : Float) → is_finite (mul binary64 v x) ≡ true → is_finite v ≡ true
unfolding mul
mul_finite nan x e = absurd (false≢true e)
mul_finite (inf s) nan e = absurd (false≢true e)
mul_finite (inf s) (inf t) e = absurd (false≢true e)
mul_finite (inf s) (fin t n d) e = go (eqb n 0) e
  where
    go : (b : Bool) → is_finite (cond b nan (inf (unlike s t))) ≡ true → false ≡ true
    go true e = e
    go false e = e
mul_finite (fin s m e) x h = refl

pub add_finite : (x y : Float) → is_finite (add binary64 x y) ≡ true → (is_finite x ≡ true) × (is_finite y ≡ true)
unfolding add
add_finite nan y e = absurd (false≢true e)
add_finite (inf s) nan e = absurd (false≢true e)
add_finite (inf s) (inf t) e = absurd (false≢true (go (beq s t) e))
  where
    go : (b : Bool) → is_finite (cond b (inf s) nan) ≡ true → false ≡ true
    go true e = e
    go false e = e
add_finite (inf s) (fin t n d) e = absurd (false≢true e)
add_finite (fin s m e) nan h = absurd (false≢true h)
add_finite (fin s m e) (inf t) h = absurd (false≢true h)
add_finite (fin s m e) (fin t n d) h = (refl, refl)
