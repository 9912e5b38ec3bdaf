-- SPDX-FileCopyrightText: 2026 The PPVM Authors
-- SPDX-License-Identifier: Apache-2.0

-- f64: each operation is rounded once, to nearest, ties to even.
use Rattle.std.specs.Prelude.{Bool, false, ◌&&◌, ◌||◌, cond, pos, negsuc, Float}
use Rattle.std.specs.Float.{fin, binary64}
use Rattle.std.specs.Float.Ieee.{of_bits, add, sub, mul, neg, lt, le, eq}
use Rattle.std.specs.Float.Ieee.Scale.{finite}
use Rattle.number.specs.Numbers.{Numbers, Cx}
use Rattle.number.specs.declared.scalar.Complex.{Complex}

-- 0, 1, 2, 1e-14 and 1e-10, by their bits
abbrev pub float0 : Float
float0 = of_bits binary64 0

abbrev pub float1 : Float
float1 = of_bits binary64 0x3ff0_0000_0000_0000

abbrev pub float2 : Float
float2 = of_bits binary64 0x4000_0000_0000_0000

abbrev pub tolerance : Float
tolerance = of_bits binary64 0x3d06_849b_86a1_2b9b

abbrev pub hermiticity_tolerance : Float
hermiticity_tolerance = of_bits binary64 0x3ddb_7cdf_d9d7_bdbb

-- 1e-14 × 1e-14 and 1e-10 × 1e-10, rounded
abbrev pub tolerance_squared : Float
tolerance_squared = mul binary64 tolerance tolerance

abbrev pub hermiticity_squared : Float
hermiticity_squared = mul binary64 hermiticity_tolerance hermiticity_tolerance

-- x without its sign, by a comparison with 0. Of the two zeros each is its own magnitude.
unfoldable pub magnitude : Float → Float
magnitude x = cond (lt x float0) (neg x) x

unfoldable pub larger_float : Float → Float → Float
larger_float x y = cond (lt x y) y x

abbrev pub floats : Numbers
floats = record {
  Num = Float;
  nought = float0;
  unit = float1;
  two = float2;
  plus = add binary64;
  less = sub binary64;
  times = mul binary64;
  opposite = neg;
  small = λ x. le x tolerance_squared;
  slight = λ x. le (magnitude x) tolerance;
  slighter = λ x largest. le x (mul binary64 tolerance_squared largest);
  near = λ x largest. le x (mul binary64 hermiticity_squared (larger_float float1 largest));
  is_zero = λ x. eq x float0;
  larger = larger_float;
}

-- a complex number of the code
abbrev pub cx : Complex → Cx floats
cx a = record { re = a.re; im = a.im }

-- ---- ranges

-- neither a NaN nor an infinity
abbrev pub is_finite : Float → Bool
is_finite x = finite x

-- 0, or from 2^−200 to 2^200 in magnitude
unfoldable pub in_range : Float → Bool
in_range x = eq x float0 || (le (fin false 1 (negsuc 199)) (magnitude x) && le (magnitude x) (fin false 1 (pos 200)))

-- at most 2^620 in magnitude
unfoldable pub bounded : Float → Bool
bounded x = le (magnitude x) (fin false 1 (pos 620))
