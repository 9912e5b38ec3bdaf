-- SPDX-FileCopyrightText: 2026 The PPVM Authors
-- SPDX-License-Identifier: Apache-2.0

-- `repeat::lay_distinct` meets its contract. Assumes nothing.
use mathlib.Core.Path.{refl, sym, ◌∙◌}
use native.Mathlib.Omega.{arith}
use Rattle.word.specs.Flat.{words}
use Rattle.word.proofs.FlatLaws.{words_low, words_high}
use Rattle.columns.proofs.RepeatLaws.{lays_unchanged, lays_slots}
use Rattle.columns.proofs.repeat.lay_distinct.Goals as goal

pub lay_first-requires : goal.lay_first-requires
lay_first-requires c = (c.requires.0, c.requires.1, sym c.both_zero-zero.ensures ∙ c.if-zero.true)

pub returns-then-first-nexts : goal.returns-then-first-nexts
returns-then-first-nexts c =
    let a = c.args in
    lays_unchanged (words a.lanes.now) a.heads.now a.nexts.now _ _ _ c.search_plainly-first.ensures (omega (arith, c.if-first-nexts.true, c.requires.0, words_high a.lanes.now, words_low a.lanes.now)) refl refl

pub returns : goal.returns
returns c =
    let a = c.args in
    lays_slots (words a.lanes.now) a.heads.now a.nexts.now _ _ _ c.search_plainly-first.ensures (omega (arith, c.if-first-nexts.false, c.requires.0, words_high a.lanes.now, words_low a.lanes.now)) c.lay_slots.ensures
