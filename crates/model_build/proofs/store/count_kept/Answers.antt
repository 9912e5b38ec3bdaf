-- SPDX-FileCopyrightText: 2026 The PPVM Authors
-- SPDX-License-Identifier: Apache-2.0

-- `store::count_kept` meets its contract. Assumes nothing.
use mathlib.Core.Path.{refl, sym, ap, ◌∙◌}
use Rattle.number.specs.Floats.{floats}
use Rattle.gksl.specs.Table.{without_over}
use Rattle.model.specs.Between.{onto}
use Rattle.model_build.proofs.StoreLaws.{count_drops, count_keeps}
use borrow.Author.Rules.{rules}
use native.Mathlib.Omega.{arith}
use Rattle.model_build.proofs.store.count_kept.Goals as goal
use Rattle.model_build.proofs.store.count_kept.Goals.{then-not-negligible, else-not-negligible}

pub loop-i-init : goal.loop-i-init
unfolding without_over
loop-i-init c = (search rules, refl)

pub loop-i-preserved : goal.loop-i-preserved
loop-i-preserved c =
    let a = c.args in
    let l = c.loop-i in
    elim c.if-not-negligible.branch [
      | then-not-negligible w ↦ (omega arith, w.kept-is ∙ count_keeps a.words.now a.numbers.now l.i l.kept (onto c.term_at-t.result) (omega arith) (omega arith) c.term_at-t.ensures (ap floats.small (sym c.norm_sqr.ensures) ∙ sym c.negligible.ensures ∙ w.if-not-negligible.true) l.invariant.1)
      | else-not-negligible w ↦ (omega arith, w.kept-is ∙ count_drops a.words.now a.numbers.now l.i l.kept (onto c.term_at-t.result) (omega arith) (omega arith) c.term_at-t.ensures (ap floats.small (sym c.norm_sqr.ensures) ∙ sym c.negligible.ensures ∙ w.if-not-negligible.false) l.invariant.1)
    ]
