-- SPDX-FileCopyrightText: 2026 The PPVM Authors
-- SPDX-License-Identifier: Apache-2.0

-- `protect::reach_of` meets its contract: the words before k are covered. Assumes nothing.
use native.Mathlib.Omega.{arith}
use Rattle.word.specs.Flat.{words as words_of}
use Rattle.word.proofs.FlatLaws.{words_count}
use Rattle.truncate.proofs.ReachLaws.{reach_next}
use Rattle.truncate.proofs.protect.reach_of.Goals as goal

pub loop-k-preserved : goal.loop-k-preserved
loop-k-preserved c =
    let a = c.args in
    let l = c.loop-k in
    reach_next (words_of a.protected.now) l.reach _ _ l.k c.word_at-w.ensures c.joined-reach.ensures l.invariant

pub returns : goal.returns
returns c =
    let a = c.args in
    let l = c.loop-k in
    record { covered = λ k h. l.invariant k (omega (arith, h, words_count a.protected.now, c.loop-k-test.false)) }
