-- SPDX-FileCopyrightText: 2026 The PPVM Authors
-- SPDX-License-Identifier: Apache-2.0

-- `bad::count_before` meets its contract: those before w among the first are counted. Assumes nothing.
use mathlib.Core.Path.{ap, sym, ◌∙◌}
use native.Mathlib.Omega.{arith}
use Rattle.word.specs.Flat.{words as words_in}
use Rattle.word.specs.Order.{before}
use Rattle.word.specs.Word.{identity}
use Rattle.word.specs.declared.word.Word.{Word}
use Rattle.word.proofs.FlatLaws.{words_count}
use Rattle.candidates.proofs.ThoseLaws.{counting_start, counting_takes, counting_passes, counting_done}
use Rattle.candidates.proofs.bad.count_before.Goals as goal
use Rattle.candidates.proofs.bad.count_before.Goals.{then-is_before, else-is_before}

pub loop-i-init : goal.loop-i-init
loop-i-init c = counting_start (λ (v : Word). before v c.args.w) (words_in c.args.words.now)

pub loop-i-preserved : goal.loop-i-preserved
loop-i-preserved c =
    let l = c.loop-i in
    elim c.if-is_before.branch [
      | then-is_before w ↦ rw w.count-is (counting_takes (λ (v : Word). before v c.args.w) (words_in c.args.words.now) l.count l.i l.invariant identity (omega (arith, c.loop-i-test.true, words_count c.args.words.now)) (ap (λ (v : Word). before v c.args.w) (sym c.word_at-v.ensures) ∙ sym c.is_before.ensures ∙ w.if-is_before.true))
      | else-is_before w ↦ rw w.count-is (counting_passes (λ (v : Word). before v c.args.w) (words_in c.args.words.now) l.count l.i l.invariant identity (omega (arith, c.loop-i-test.true, words_count c.args.words.now)) (ap (λ (v : Word). before v c.args.w) (sym c.word_at-v.ensures) ∙ sym c.is_before.ensures ∙ w.if-is_before.false))
    ]

pub returns : goal.returns
returns c = counting_done (λ (v : Word). before v c.args.w) (words_in c.args.words.now) c.loop-i.count c.loop-i.i c.loop-i.invariant (omega (arith, c.loop-i-test.false, words_count c.args.words.now))
