-- SPDX-FileCopyrightText: 2026 The PPVM Authors
-- SPDX-License-Identifier: Apache-2.0

-- `bad::lowest_bad` meets its contract: among the first rows the lowest of those that are not finite is known. Assumes nothing.
use mathlib.Core.Path.{sym, ◌∙◌}
use Rattle.word.specs.Flat.{words as words_in}
use Rattle.candidates.proofs.BadLaws.{lowest_fine, lowest_lower, lowest_stays}
use Rattle.candidates.proofs.bad.lowest_bad.Goals as goal
use Rattle.candidates.proofs.bad.lowest_bad.Goals.{then-is_before, else-is_before}

pub loop-i-preserved-then-is_finite : goal.loop-i-preserved-then-is_finite
loop-i-preserved-then-is_finite c = lowest_fine (words_in c.args.words.now) c.args.sums.now c.loop-i.q c.loop-i.i c.loop-i.invariant (sym c.is_finite.ensures ∙ c.if-is_finite.true)

pub loop-i-preserved : goal.loop-i-preserved
loop-i-preserved c =
    let l = c.loop-i in
    elim c.if-is_before.branch [
      | then-is_before w ↦ rw w.q-is (lowest_lower (words_in c.args.words.now) c.args.sums.now l.q l.i l.invariant c.loop-i-test.true (sym c.is_finite.ensures ∙ c.if-is_finite.false) _ _ c.word_at-v.ensures c.word_at-w.ensures (sym c.is_before.ensures ∙ w.if-is_before.true))
      | else-is_before w ↦ rw w.q-is (lowest_stays (words_in c.args.words.now) c.args.sums.now l.q l.i l.invariant _ _ c.word_at-v.ensures c.word_at-w.ensures (sym c.is_before.ensures ∙ w.if-is_before.false))
    ]
