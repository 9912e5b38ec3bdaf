-- SPDX-FileCopyrightText: 2026 The PPVM Authors
-- SPDX-License-Identifier: Apache-2.0

-- Floats that are whole numbers, and complex numbers of them that are Gaussian integers.
use Rattle.std.specs.Prelude.{ℕ, ◌+◌, ◌*◌, ◌≤◌, ◌≡◌, Bool, false, cond, ℤ, pos, negsuc, neg_ℤ, nat_abs, eqb, Float}
use Rattle.std.specs.Float.Ieee.Exact.{HasValue}
use Rattle.number.specs.Numbers.{Cx}
use Rattle.number.specs.Whole.{whole}
use Rattle.number.specs.Floats.{floats}

-- n, or −n
abbrev pub signed : Bool → ℕ → ℤ
signed s n = cond s (neg_ℤ (pos n)) (pos n)

-- whether two integers are equal
abbrev pub eq_z : ℤ → ℤ → Bool
eq_z (pos a) (pos b) = eqb a b
eq_z (pos a) (negsuc b) = false
eq_z (negsuc a) (pos b) = false
eq_z (negsuc a) (negsuc b) = eqb a b

-- x is finite, and its value is the whole number z. A zero may have either sign.
pub record Is (x : Float) (z : ℤ) : Type 0 where
  pub sign : Bool
  pub size : ℕ
  pub value : HasValue x sign size 1
  pub is : signed sign size ≡ z

-- each part of x is a whole number, that of g
pub record IsG (x : Cx floats) (g : Cx whole) : Type 0 where
  pub re : Is x.re g.re
  pub im : Is x.im g.im

-- each part of g is at most n either way
pub record Within (n : ℕ) (g : Cx whole) : Type 0 where
  pub re : nat_abs g.re ≤ n
  pub im : nat_abs g.im ≤ n

-- the squared magnitude of g
abbrev pub norm_g : Cx whole → ℕ
norm_g g = nat_abs g.re * nat_abs g.re + nat_abs g.im * nat_abs g.im
