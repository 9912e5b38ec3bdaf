-- SPDX-FileCopyrightText: 2026 The PPVM Authors
-- SPDX-License-Identifier: Apache-2.0

-- `cap::flag_largest` meets its contract. Assumes nothing.
use mathlib.Core.Path.{sym, ap, ◌∙◌}
use mathlib.Core.List.{List}
use Prim.Native.Nat.{ℕ, ◌-◌}
use native.Mathlib.Omega.{arith}
use lib.ListN.{take, replicate}
use lib.Seq.{length-take-le}
use Rattle.order.specs.Magnitudes.{by_magnitude}
use Rattle.keep.specs.Retained.{flagged}
use Rattle.keep.specs.Chosen.{chosen}
use Rattle.truncate.specs.Prunes.{cap_flags}
use Rattle.truncate.proofs.ProtectLaws.{protected_marked}
use Rattle.truncate.proofs.cap.flag_largest.Goals as goal

pub slice_bounds-fill_slots-end : goal.slice_bounds-fill_slots-end
slice_bounds-fill_slots-end c = sym (length-take-le c.args.len c.args.coeffs.now c.requires.1)

pub slice_bounds-fill_slots-end-3 : goal.slice_bounds-fill_slots-end-3
slice_bounds-fill_slots-end-3 c =
    let m = c.mark_protected in
    sym (length-take-le c.args.len m.new.order (omega (arith, c.requires.5, m.auto.order)))

pub fill_slots-requires : goal.fill_slots-requires
fill_slots-requires c =
    let m = c.mark_protected in
    let e = sym (length-take-le c.args.len c.args.coeffs.now c.requires.1) in (
      length-take-le c.args.len m.new.order (omega (arith, c.requires.5, m.auto.order)) ∙ e,
      m.auto.flags ∙ c.clear_lanes.auto.t ∙ c.requires.6 ∙ e,
      m.auto.list ∙ c.requires.7 ∙ e,
      c.requires.8,
    )

pub returns : goal.returns
unfolding cap_flags
returns c =
    let a = c.args in
    let z = c.clear_lanes in
    let m = c.mark_protected in
    c.fill_slots.ensures
    ∙ ap (λ (f : List ℕ). chosen (by_magnitude (take a.len a.coeffs.now)) f (a.limit - flagged f))
    (protected_marked a.len a.words.now a.protected.now c.requires.0 _ z.new.t (z.ensures ∙ ap (λ (n : ℕ). replicate n 0) c.requires.6) m.ensures)
