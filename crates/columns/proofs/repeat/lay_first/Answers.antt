-- SPDX-FileCopyrightText: 2026 The PPVM Authors
-- SPDX-License-Identifier: Apache-2.0

-- `repeat::lay_first` meets its contract: the slots are cleared to the zeros that stood there, or left laid. Assumes nothing.
use mathlib.Core.Path.{sym, ap, ◌∙◌}
use Prim.Native.Nat.{ℕ}
use native.Mathlib.Omega.{arith}
use lib.ListN.{replicate}
use Rattle.word.specs.Flat.{words}
use Rattle.columns.specs.Between.{all_zero}
use Rattle.columns.proofs.RepeatLaws.{zero_all, both_first, both_second, lays_unchanged, lays_slots}
use Rattle.columns.proofs.repeat.lay_first.Goals as goal

pub lay_slots-requires : goal.lay_slots-requires
lay_slots-requires c = (c.requires.0, c.requires.1)

pub search_slots-first-requires : goal.search_slots-first-requires
search_slots-first-requires c = c.lay_slots.ensures

pub returns-then-first-nexts : goal.returns-then-first-nexts
returns-then-first-nexts c =
    let a = c.args in
    let s = c.lay_slots in
    lays_unchanged (words a.lanes.now) a.heads.now a.nexts.now _ _ _ c.search_slots-first.ensures (omega (arith, c.if-first-nexts.true, s.ensures.each))
    (c.clear_lanes.ensures ∙ ap (λ (n : ℕ). replicate n 0) s.auto.heads ∙ sym (zero_all a.heads.now (both_first (all_zero a.heads.now) (all_zero a.nexts.now) c.requires.2)))
    (c.clear_lanes-then-first-nexts.ensures ∙ ap (λ (n : ℕ). replicate n 0) s.auto.nexts ∙ sym (zero_all a.nexts.now (both_second (all_zero a.heads.now) (all_zero a.nexts.now) c.requires.2)))

pub returns : goal.returns
returns c =
    let a = c.args in
    let s = c.lay_slots in
    lays_slots (words a.lanes.now) a.heads.now a.nexts.now _ _ _ c.search_slots-first.ensures (omega (arith, c.if-first-nexts.false, s.ensures.each)) s.ensures
