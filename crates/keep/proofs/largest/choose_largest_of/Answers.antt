-- SPDX-FileCopyrightText: 2026 The PPVM Authors
-- SPDX-License-Identifier: Apache-2.0

-- `largest::choose_largest_of` meets its contract: with no slot the fixed stay, with a slot for each all, and where the
-- count is right the chosen ones. Assumes nothing.
use mathlib.Core.Path.{sym, subst, ◌∙◌}
use Prim.Native.Nat.{ℕ}
use native.Mathlib.Omega.{arith}
use Rattle.order.specs.Magnitudes.{by_magnitude}
use Rattle.keep.specs.Largest.{KeepsTo}
use Rattle.keep.proofs.WalkLaws.{walked_none}
use Rattle.keep.proofs.LargestLaws.{chosen_all, chosen_by_last}
use Rattle.order.specs.Between.{AllFinite}
use Rattle.keep.proofs.largest.choose_largest_of.Goals as goal

pub returns-then-slots-eq0 : goal.returns-then-slots-eq0
returns-then-slots-eq0 c =
    c.copy_flags.ensures ∙ rw c.if-slots-eq0.true (sym (walked_none c.args.fixed.now (by_magnitude c.args.coeffs.now) _))

pub returns-then-coeffs-slots : goal.returns-then-coeffs-slots
returns-then-coeffs-slots c =
    let a = c.args in
    let finite : AllFinite a.coeffs.now = record { fitting = λ i h. c.type_inv.coeffs i; numbers = c.requires.3 } in
    c.flag_all.ensures ∙ rw c.requires.2 (chosen_all a.coeffs.now finite a.fixed.now c.requires.0 a.slots c.if-coeffs-slots.true)

pub returns-then-taken-slots : goal.returns-then-taken-slots
returns-then-taken-slots c =
    let a = c.args in
    let k = c.keep_to-taken in
    let finite : AllFinite a.coeffs.now = record { fitting = λ i h. c.type_inv.coeffs i; numbers = c.requires.3 } in
    chosen_by_last a.coeffs.now finite a.fixed.now c.requires.0 a.slots c.find_last-last.result (omega arith) k.new.kept
    (subst (λ (t : ℕ). KeepsTo a.coeffs.now a.fixed.now c.find_last-last.result t k.new.kept) c.if-taken-slots.true k.ensures)
