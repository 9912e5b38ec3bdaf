-- SPDX-FileCopyrightText: 2026 The PPVM Authors
-- SPDX-License-Identifier: Apache-2.0

-- `repeat::both_zero` meets its contract. Assumes nothing.
use mathlib.Core.Path.{sym, ap, ◌∙◌}
use mathlib.Core.Bool.{Bool, ◌&&◌}
use Rattle.columns.specs.Between.{all_zero}
use Rattle.columns.proofs.repeat.both_zero.Goals as goal

pub returns-then-not-first : goal.returns-then-not-first
returns-then-not-first c = ap (λ (b : Bool). b && all_zero c.args.b.now) (sym c.if-not-first.true ∙ c.all_zero-first.ensures)

pub returns : goal.returns
returns c = c.all_zero.ensures ∙ ap (λ (b : Bool). b && all_zero c.args.b.now) (sym c.if-not-first.false ∙ c.all_zero-first.ensures)
