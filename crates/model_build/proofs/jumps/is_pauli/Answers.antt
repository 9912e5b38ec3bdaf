-- SPDX-FileCopyrightText: 2026 The PPVM Authors
-- SPDX-License-Identifier: Apache-2.0

-- `jumps::is_pauli` meets its contract. Assumes nothing.
use mathlib.Core.Path.{sym, ap, ◌∙◌}
use Rattle.number.specs.Floats.{floats}
use Rattle.gksl.specs.Operator.{Onto}
use Rattle.gksl.specs.Words.{pauli}
use Rattle.model_build.proofs.OperatorLaws.{not_pauli, maybe_pauli}
use Rattle.model_build.proofs.jumps.is_pauli.Goals as goal

pub returns-then-k-ne1 : goal.returns-then-k-ne1
returns-then-k-ne1 c = let a = c.args in sym (not_pauli a.k a.words.now a.sums.now c.requires c.if-k-ne1.true)

pub returns : goal.returns
returns c = let a = c.args in sym (maybe_pauli a.k a.words.now a.sums.now c.requires c.if-k-ne1.false ∙ ap (λ (t : Onto floats pauli). floats.is_zero t.num.im) (sym c.term_at-t.ensures))
