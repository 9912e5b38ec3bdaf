-- SPDX-FileCopyrightText: 2026 The PPVM Authors
-- SPDX-License-Identifier: Apache-2.0

-- `indexed::index_jumps` meets its contract: the entries so far are indexed. Assumes nothing.
use mathlib.Core.Path.{ap}
use Prim.Native.Nat.{ℕ}
use lib.ListN.{length}
use Rattle.model.specs.Stored.{jump_at}
use Rattle.rules_by_index.specs.Near.{jump_words}
use Rattle.rules_by_index.proofs.IndexLaws.{items_start, items_marked}
use Rattle.rules_by_index.proofs.indexed.index_jumps.Goals as goal

pub loop-j-init : goal.loop-j-init
loop-j-init c =
    let a = c.args in
    rw c.clear_lanes.ensures (items_start _ a.n (λ (k : ℕ). jump_words a.t_words.now (jump_at a.jumps.now a.rates.now k)) (length a.index.now))

pub loop-j-preserved : goal.loop-j-preserved
loop-j-preserved c =
    let a = c.args in
    let l = c.loop-j in
    items_marked _ a.n (λ (k : ℕ). jump_words a.t_words.now (jump_at a.jumps.now a.rates.now k)) l.j l.index _ _ l.invariant c.mark_jump.ensures (ap (jump_words a.t_words.now) c.jump_at-jump.ensures)
