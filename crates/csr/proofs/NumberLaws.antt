-- SPDX-FileCopyrightText: 2026 The PPVM Authors
-- SPDX-License-Identifier: Apache-2.0

-- Which number is +0.0. Assumes nothing.
use mathlib.Core.Path.{◌≡◌, refl, sym, ap, ◌∙◌}
use mathlib.Core.Bool.{Bool, true, false, not, false≢true}
use Prim.Native.Nat.{ℕ, zero, suc}
use borrow.Author.Tests.{eqb-true, eq-eqb}
use lib.Dec.{T, eqb}
use lib.IntN.{pos, negsuc}
use lib.Ieee.{Float, nan, inf, fin, binary64, eq, fits, is_nan, of_bits, to_bits}
use lib.Ieee.Bits.{of_bits-to_bits}
use Rattle.number.specs.Floats.{float0}
use Rattle.csr.specs.Walks.{is_clear}

pub clear_is : (x : Float) → is_clear x ≡ true → x ≡ float0
unfolding is_clear of_bits
clear_is nan e = absurd (false≢true e)
clear_is (inf s) e = absurd (false≢true e)
clear_is (fin true m e) h = absurd (false≢true h)
clear_is (fin false (suc m) e) h = absurd (false≢true h)
clear_is (fin false zero (negsuc k)) h = absurd (false≢true h)
clear_is (fin false zero (pos k)) h = ap (λ (n : ℕ). fin false 0 (pos n)) (eqb-true k 0 h)

pub zero_number : (x : Float) → eq x float0 ≡ true → T (not (is_nan x))
unfolding eq is_nan
zero_number nan e = absurd (false≢true e)
zero_number (inf s) e = tt
zero_number (fin s m e) h = tt

zero_bits : to_bits binary64 float0 ≡ 0
unfolding to_bits of_bits
zero_bits = refl

pub bits_clear : (x : Float) → T (fits binary64 x) → eqb (to_bits binary64 x) 0 ≡ is_clear x
unfolding is_clear of_bits
bits_clear x F = go (eqb (to_bits binary64 x) 0) refl (is_clear x) refl
  where
    here : to_bits binary64 x ≡ 0 → x ≡ float0
    here e = sym (of_bits-to_bits binary64 x F) ∙ ap (of_bits binary64) e

    go : (a : Bool) → eqb (to_bits binary64 x) 0 ≡ a → (b : Bool) → is_clear x ≡ b → a ≡ b
    go true e true f = refl
    go true e false f = sym (ap is_clear (here (eqb-true (to_bits binary64 x) 0 e))) ∙ f
    go false e true f = sym e ∙ eq-eqb (to_bits binary64 x) 0 (ap (to_bits binary64) (clear_is x f) ∙ zero_bits)
    go false e false f = refl

pub not_zero_clear : (x : Float) → eq x float0 ≡ false → false ≡ is_clear x
unfolding eq of_bits
not_zero_clear x e = go (is_clear x) refl
  where
    go : (b : Bool) → is_clear x ≡ b → false ≡ b
    go true f = sym e ∙ ap (λ (y : Float). eq y float0) (clear_is x f)
    go false f = refl
