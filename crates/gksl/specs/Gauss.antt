-- SPDX-FileCopyrightText: 2026 The PPVM Authors
-- SPDX-License-Identifier: Apache-2.0

-- Gaussian integers.
use Rattle.std.specs.Prelude.{ℕ, zero, suc, pos}
use Rattle.number.specs.Numbers.{Cx, add_c, neg_c, mul_c, conj_c}
use Rattle.number.specs.Whole.{whole, neg}

abbrev pub Gauss : Type 0
Gauss = Cx whole

abbrev pub zero_g : Gauss
zero_g = record { re = pos 0; im = pos 0 }

abbrev pub one_g : Gauss
one_g = record { re = pos 1; im = pos 0 }

abbrev pub add_g : Gauss → Gauss → Gauss
add_g x y = add_c whole x y

abbrev pub neg_g : Gauss → Gauss
neg_g x = neg_c whole x

abbrev pub mul_g : Gauss → Gauss → Gauss
mul_g x y = mul_c whole x y

abbrev pub conj_g : Gauss → Gauss
conj_g x = conj_c whole x

-- i times
unfoldable pub i_g : Gauss → Gauss
i_g x = record { re = neg x.im; im = x.re }

-- i^n times
unfoldable pub turn : ℕ → Gauss → Gauss
turn zero x = x
turn (suc n) x = i_g (turn n x)
