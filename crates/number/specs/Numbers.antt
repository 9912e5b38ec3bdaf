-- SPDX-FileCopyrightText: 2026 The PPVM Authors
-- SPDX-License-Identifier: Apache-2.0

-- Numbers, and complex numbers over them. What is defined over any Numbers is one text for two arithmetics.
use Rattle.std.specs.Prelude.{Bool, List, [], ◌∷◌, ℕ, zero, suc}

pub record Numbers : Type 1 where
  pub Num : Type 0
  pub nought : Num
  pub unit : Num
  pub two : Num
  pub plus : Num → Num → Num
  pub less : Num → Num → Num
  pub times : Num → Num → Num
  pub opposite : Num → Num
  -- a squared magnitude of at most 1e-14 × 1e-14
  pub small : Num → Bool
  -- a magnitude of at most 1e-14
  pub slight : Num → Bool
  -- a squared magnitude of at most (1e-14 × 1e-14) × the largest one
  pub slighter : Num → Num → Bool
  -- a squared magnitude of at most (1e-10 × 1e-10) × the larger of 1 and the largest one
  pub near : Num → Num → Bool
  -- equal to 0
  pub is_zero : Num → Bool
  -- the larger of two
  pub larger : Num → Num → Num

-- a complex number: its real and its imaginary part
pub record Cx (N : Numbers) : Type 0 where
  pub re : N.Num
  pub im : N.Num

unfoldable pub add_c : (N : Numbers) → Cx N → Cx N → Cx N
add_c N x y = record { re = N.plus x.re y.re; im = N.plus x.im y.im }

unfoldable pub sub_c : (N : Numbers) → Cx N → Cx N → Cx N
sub_c N x y = record { re = N.less x.re y.re; im = N.less x.im y.im }

unfoldable pub neg_c : (N : Numbers) → Cx N → Cx N
neg_c N x = record { re = N.opposite x.re; im = N.opposite x.im }

-- (ac − bd, ad + bc)
unfoldable pub mul_c : (N : Numbers) → Cx N → Cx N → Cx N
mul_c N x y = record {
  re = N.less (N.times x.re y.re) (N.times x.im y.im);
  im = N.plus (N.times x.re y.im) (N.times x.im y.re);
}

unfoldable pub conj_c : (N : Numbers) → Cx N → Cx N
conj_c N x = record { re = x.re; im = N.opposite x.im }

abbrev pub zero_c : (N : Numbers) → Cx N
zero_c N = record { re = N.nought; im = N.nought }

-- x + 0i
abbrev pub real_c : (N : Numbers) → N.Num → Cx N
real_c N x = record { re = x; im = N.nought }

-- re·re + im·im
abbrev pub square : (N : Numbers) → Cx N → N.Num
square N x = N.plus (N.times x.re x.re) (N.times x.im x.im)

-- the largest squared magnitude in a list, or a number that is larger
unfoldable pub largest_from : (N : Numbers) → N.Num → List (Cx N) → N.Num
largest_from N big [] = big
largest_from N big (z ∷ l) = largest_from N (N.larger big (square N z)) l

abbrev pub largest_over : (N : Numbers) → List (Cx N) → N.Num
largest_over N l = largest_from N N.nought l

-- i^n for n from 0 to 3: 1, i, −1, −i
unfoldable pub unit_c : (N : Numbers) → ℕ → Cx N
unit_c N zero = record { re = N.unit; im = N.nought }
unit_c N (suc zero) = record { re = N.nought; im = N.unit }
unit_c N (suc (suc zero)) = record { re = N.opposite N.unit; im = N.nought }
unit_c N (suc (suc (suc n))) = record { re = N.nought; im = N.opposite N.unit }
