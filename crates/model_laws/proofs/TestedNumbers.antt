-- SPDX-FileCopyrightText: 2026 The PPVM Authors
-- SPDX-License-Identifier: Apache-2.0

-- The numbers of a model that stands: given ones at most 2^200, compiled ones at most 2^620. Assumes nothing.
use mathlib.Core.Path.{◌≡◌, sym, ap, ◌∙◌}
use mathlib.Core.Bool.{true}
use Prim.Native.Nat.{ℕ, ◌<◌}
use borrow.Author.Tests.{not-false}
use lib.Dec.{ltb}
use lib.Ieee.{Float, nan}
use lib.ListN.{get_or}
use Rattle.number.specs.Numbers.{Cx}
use Rattle.number.specs.Floats.{floats}
use Rattle.number.specs.Bounds.{AtMost, AtMostC}
use Rattle.number.proofs.RangeLaws.{bounded_at_most, in_range_at_most}
use Rattle.model.specs.Stored.{ModelTables, jump_at, given}
use Rattle.model.specs.Tested.{inside, bad_jump}
use Rattle.model.specs.declared.stored.Model.{Model}
use Rattle.model.specs.declared.stored.Range.{Range}
use Rattle.model.specs.declared.stored.Jump.TheVariants.{Pauli, General}
use Rattle.model.specs.Stands.{Bounded, number_at, Stands}
use Rattle.model_laws.proofs.FormedBounds.{in_range_at_most_c}
use Rattle.model_laws.proofs.JumpTests.{both}

pub bounded_at_most_c : {z : Cx floats} → Bounded z → AtMostC 620 z
bounded_at_most_c {z} h = record { re = bounded_at_most z.re h.re; im = bounded_at_most z.im h.im }

module _ (m : Model) (t : ModelTables) (s : Stands m t) where
  pub real_size : (i : ℕ) → i < m.hamiltonian → AtMost 200 (get_or t.h_coeffs i nan)
  real_size i l = in_range_at_most (get_or t.h_coeffs i nan) (s.reals i l).range

  pub term_size : (i : ℕ) → i < m.terms → AtMostC 620 (number_at t.t_numbers i)
  term_size i l = bounded_at_most_c (s.terms i l).bound

  pub given_size : (i : ℕ) → i < m.terms → (j : ℕ) → j < m.jumps → given (jump_at t.jumps t.rates j) i ≡ true → AtMostC 200 (number_at t.t_numbers i)
  given_size i l j k h = in_range_at_most_c (s.givens i l j k h)

  module _ (j : ℕ) (l : j < m.jumps) (rate : Float) where
    pub pauli_size : (term : ℕ) → jump_at t.jumps t.rates j ≡ Pauli rate term → AtMost 620 rate
    unfolding bad_jump
    pauli_size term e = bounded_at_most rate (both (ltb term m.terms) (not-false _ (ap (bad_jump m.terms) (sym e) ∙ s.fits j l))).1

    pub general_size : (terms product : Range) → jump_at t.jumps t.rates j ≡ General rate terms product → AtMost 200 rate
    unfolding bad_jump
    general_size terms product e =
        in_range_at_most rate (both (inside m.terms product) (both (inside m.terms terms) (not-false _ (ap (bad_jump m.terms) (sym e) ∙ s.fits j l))).1).1
