-- SPDX-FileCopyrightText: 2026 The PPVM Authors
-- SPDX-License-Identifier: Apache-2.0

-- `matrix::list_normed` meets its contract: the rows, where there are places for them, and the norm. Assumes nothing.
use mathlib.Core.Path.{sym, ap, subst, ◌∙◌}
use Prim.Native.Nat.{ℕ}
use native.Mathlib.Omega.{arith}
use Rattle.std.specs.Prelude.{Result}
use Rattle.refusal.specs.declared.Refusal.{Refusal}
use Rattle.generator.specs.Generators.{staged_entries}
use Rattle.evolution.specs.Between.{StageHeld}
use Rattle.evolution.proofs.MatrixLaws.{stage_held, acted_is, no_rows}
use Rattle.evolution.proofs.matrix.list_normed.Goals as goal

pub with_norm-requires : goal.with_norm-requires
with_norm-requires c =
    let a = c.args in
    stage_held a.n a.staged a.stage_rows.now a.stage_columns.now a.stage_values.now a.columns.now a.values.now c.requires.0

pub returns-then-offsets-n : goal.returns-then-offsets-n
returns-then-offsets-n c =
    let a = c.args in
    let b = c.with_norm.ensures in (
      ap (λ (r : Result ℕ Refusal). record { answer = r; offsets = a.offsets.now; columns = a.columns.now; values = a.values.now }) b.0
          ∙ no_rows a.n a.offsets.now a.columns.now a.values.now a.staged (staged_entries a.staged a.stage_rows.now a.stage_columns.now a.stage_values.now) c.requires.2 (omega (arith, c.if-offsets-n.true)),
      c.clear_lanes.ensures,
      b.1,
    )

pub list_rows-listed-requires : goal.list_rows-listed-requires
list_rows-listed-requires c = let h = c.requires in (h.0, h.1, omega (arith, c.if-offsets-n.false))

pub with_norm-requires-2 : goal.with_norm-requires-2
with_norm-requires-2 c =
    let a = c.args in
    subst (λ (r : Result ℕ Refusal). StageHeld r a.stage_columns.now a.stage_values.now) (sym (acted_is a.n a.offsets.now a.columns.now a.values.now _ _ _ _ _ _ c.list_rows-listed.ensures.0))
    (stage_held a.n a.staged a.stage_rows.now a.stage_columns.now a.stage_values.now a.columns.now a.values.now c.requires.0)

pub returns : goal.returns
returns c =
    let l = c.list_rows-listed in
    let b = c.with_norm-2.ensures in
    (ap (λ (r : Result ℕ Refusal). record { answer = r; offsets = l.new.offsets; columns = l.new.columns; values = l.new.values }) b.0 ∙ l.ensures.0, l.ensures.1, b.1)
