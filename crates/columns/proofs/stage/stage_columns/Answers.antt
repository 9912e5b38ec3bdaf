-- SPDX-FileCopyrightText: 2026 The PPVM Authors
-- SPDX-License-Identifier: Apache-2.0

-- `stage::stage_columns` meets its contract: after each column the entries that stand and the columns left are the whole, and so
-- are the tests. Assumes nothing.
use mathlib.Core.Path.{◌∙◌}
use Prim.Native.Nat.{◌<◌}
use native.Mathlib.Omega.{arith}
use Rattle.word.specs.Flat.{words}
use Rattle.model.specs.Stored.{ModelTables}
use Rattle.action.specs.Acts.{action_of}
use Rattle.action.specs.Counts.{touched_by}
use Rattle.action.proofs.ActLaws.{empty_room, sums_full, sums_held, listed_are, sums_inside}
use Rattle.word.proofs.FlatLaws.{words_count}
use Rattle.model.specs.Between.{model_tables}
use Rattle.columns.specs.Between.{StageRoom}
use Rattle.columns.proofs.ColumnLaws.{column_touched, column_full, column_more, column_done, stages_are}
use Rattle.lent.proofs.WordLaws.{word_inside}
use Rattle.columns.proofs.stage.stage_columns.Goals as goal

pub put_rules_near-added-requires : goal.put_rules_near-added-requires
put_rules_near-added-requires c =
    let l = c.loop-c in
    let h = c.requires in
    let r = h.0 (omega (arith, c.loop-c-test.true)) in (
      empty_room c.args.sum_room l.work_words l.work_sums (omega (arith, h.2.words_long, l.invariant.2)) (omega (arith, h.2.sums_long, l.invariant.3)),
      r.tested,
      r.indexed,
      r.h_rows,
      r.j_rows,
      omega (arith, r.row, l.invariant.1),
      word_inside c.args.basis.now c.args.m.qubits h.1.inside l.c c.loop-c-test.true c.word_at-p.ensures,
    )

pub returns-in_default : goal.returns-in_default
returns-in_default c =
    let a = c.args in
    let t : ModelTables = model_tables a.h_words.now a.h_coeffs.now a.jumps.now a.rates.now a.t_words.now a.t_numbers.now in
    let l = c.loop-c in
    let n = words_count a.basis.now in
    stages_are a.m t (words a.basis.now) a.sum_room a.entry_room l.rows l.columns l.values _
    (column_touched (touched_by a.m t) (action_of a.m t) (words a.basis.now) a.sum_room a.entry_room l.rows l.columns l.values l.end l.c l.invariant.0 (omega (arith, n, c.loop-c-test.true)) c.word_at-p.result c.word_at-p.ensures
    (sums_full a.m t c.word_at-p.result a.sum_room l.work_words l.work_sums _ _ _ c.put_rules_near-added.ensures c.in_default.is))

pub stage_terms-laid-requires : goal.stage_terms-laid-requires
stage_terms-laid-requires c =
    let a = c.args in
    let t : ModelTables = model_tables a.h_words.now a.h_coeffs.now a.jumps.now a.rates.now a.t_words.now a.t_numbers.now in
    let l = c.loop-c in
    let n = words_count a.basis.now in
    let q = c.put_rules_near-added in
    let h = c.requires in
    let i = sums_inside a.m t c.word_at-p.result a.sum_room l.work_words l.work_sums _ _ _ q.ensures _ c.in-Some.is q.auto.lanes q.auto.sums (omega (arith, h.2.words_long, l.invariant.2)) (omega (arith, h.2.sums_long, l.invariant.3)) in
    let low : l.c < 4294967296 = omega (arith, n, h.1.few, c.loop-c-test.true) in
    let room : StageRoom a.entry_room l.rows l.columns l.values = record { rows_long = omega (arith, h.3.rows_long, l.invariant.4); columns_long = omega (arith, h.3.columns_long, l.invariant.5); values_long = omega (arith, h.3.values_long, l.invariant.6) } in
    (i.0, i.1, h.1.slots, h.1.few, low, room, l.invariant.0.inside)

pub returns-in_default-laid : goal.returns-in_default-laid
returns-in_default-laid c =
    let a = c.args in
    let t : ModelTables = model_tables a.h_words.now a.h_coeffs.now a.jumps.now a.rates.now a.t_words.now a.t_numbers.now in
    let l = c.loop-c in
    let n = words_count a.basis.now in
    let q = c.put_rules_near-added in
    let e = c.in-Some.is in
    let k = sums_held a.m t c.word_at-p.result a.sum_room l.work_words l.work_sums _ _ _ q.ensures _ e in
    let g = listed_are a.m t c.word_at-p.result a.sum_room l.work_words l.work_sums _ _ _ q.ensures _ e in
    stages_are a.m t (words a.basis.now) a.sum_room a.entry_room _ _ _ _
    (column_full (touched_by a.m t) (action_of a.m t) (words a.basis.now) a.sum_room a.entry_room l.rows l.columns l.values l.end l.c l.invariant.0 (omega (arith, n, c.loop-c-test.true)) c.word_at-p.result c.word_at-p.ensures
    k.1 _ g _ _ _ _ c.stage_terms-laid.ensures c.in_default-laid.is)

pub loop-c-preserved : goal.loop-c-preserved
loop-c-preserved c =
    let a = c.args in
    let t : ModelTables = model_tables a.h_words.now a.h_coeffs.now a.jumps.now a.rates.now a.t_words.now a.t_numbers.now in
    let l = c.loop-c in
    let n = words_count a.basis.now in
    let q = c.put_rules_near-added in
    let r = c.stage_terms-laid in
    let e = c.in-Some.is in
    let k = sums_held a.m t c.word_at-p.result a.sum_room l.work_words l.work_sums _ _ _ q.ensures _ e in
    let g = listed_are a.m t c.word_at-p.result a.sum_room l.work_words l.work_sums _ _ _ q.ensures _ e in (
      column_more (touched_by a.m t) (action_of a.m t) (words a.basis.now) a.sum_room a.entry_room l.rows l.columns l.values l.end l.c l.invariant.0 (omega (arith, n, c.loop-c-test.true)) c.word_at-p.result c.word_at-p.ensures k.1 _ g _ _ _ _ r.ensures _ c.in-Some-laid.is,
      q.auto.mask ∙ l.invariant.1,
      q.auto.lanes ∙ l.invariant.2,
      q.auto.sums ∙ l.invariant.3,
      r.auto.rows ∙ l.invariant.4,
      r.auto.columns ∙ l.invariant.5,
      r.auto.values ∙ l.invariant.6,
    )

pub returns : goal.returns
returns c =
    let a = c.args in
    let t : ModelTables = model_tables a.h_words.now a.h_coeffs.now a.jumps.now a.rates.now a.t_words.now a.t_numbers.now in
    let l = c.loop-c in
    let n = words_count a.basis.now in
    stages_are a.m t (words a.basis.now) a.sum_room a.entry_room l.rows l.columns l.values _
    (column_done (touched_by a.m t) (action_of a.m t) (words a.basis.now) a.sum_room a.entry_room l.rows l.columns l.values l.end l.c l.invariant.0 (omega (arith, n, c.loop-c-test.false)))
