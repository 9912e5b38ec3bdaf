-- SPDX-FileCopyrightText: 2026 The PPVM Authors
-- SPDX-License-Identifier: Apache-2.0

-- `columns::fill_columns` meets its contract: before each word, raws and diagonals of those before it. Assumes nothing.
use mathlib.Core.Path.{ap, ◌∙◌}
use Prim.Native.Nat.{◌<◌}
use native.Mathlib.Omega.{arith}
use lib.ListN.{take, length-set}
use Rattle.word.specs.Flat.{words}
use Rattle.model.specs.Stored.{ModelTables}
use Rattle.action.specs.Counts.{touched_by}
use Rattle.action.proofs.ActLaws.{empty_room, sums_full, sums_held, listed_are, sums_inside}
use Rattle.column_norm.specs.Columns.{raw_of, diag_of, raw_by, diag_by}
use Rattle.norm.proofs.FillLaws.{fill_more, fill_full, fill_done, word_inside, words_are, word_taken}
use Rattle.model.specs.Between.{model_tables}
use Rattle.norm.proofs.columns.fill_columns.Goals as goal

pub put_rules_near-added-requires : goal.put_rules_near-added-requires
put_rules_near-added-requires c =
    let a = c.args in
    let l = c.loop-k in
    let h = c.requires in
    let w : 0 < a.len = omega (arith, c.loop-k-test.true) in (
      empty_room a.room l.work_words l.work_sums (omega (arith, h.work_words, l.invariant.2)) (omega (arith, h.work_sums, l.invariant.3)),
      h.tested,
      h.indexed w,
      h.h_rows w,
      h.j_rows w,
      omega (arith, h.row w, l.invariant.1),
      word_inside a.words.now a.m.qubits a.len h.inside l.k c.loop-k-test.true c.word_at-p.ensures,
    )

pub returns-in_default : goal.returns-in_default
returns-in_default c =
    let a = c.args in
    let t : ModelTables = model_tables a.h_words.now a.h_coeffs.now a.jumps.now a.rates.now a.t_words.now a.t_numbers.now in
    let l = c.loop-k in
    let w = c.word_at-p in
    let q = c.put_rules_near-added in
    let n = words_are a.words.now a.len c.requires.slotted.lanes_long in
    fill_full a.m t (take a.len (words a.words.now)) a.room a.len l.raws l.diags l.k w.result (omega (arith, n, c.loop-k-test.true)) (word_taken a.words.now a.len l.k c.loop-k-test.true w.ensures)
    (sums_full a.m t w.result a.room l.work_words l.work_sums _ _ _ q.ensures c.in_default.is)

pub raw_of-raw-requires : goal.raw_of-raw-requires
raw_of-raw-requires c =
    let a = c.args in
    let t : ModelTables = model_tables a.h_words.now a.h_coeffs.now a.jumps.now a.rates.now a.t_words.now a.t_numbers.now in
    let l = c.loop-k in
    let q = c.put_rules_near-added in
    let h = c.requires in
    let k = sums_inside a.m t c.word_at-p.result a.room l.work_words l.work_sums _ _ _ q.ensures _ c.in-Some.is q.auto.lanes q.auto.sums (omega (arith, h.work_words, l.invariant.2)) (omega (arith, h.work_sums, l.invariant.3)) in
    (k.0, k.1, h.slotted)

pub diagonal_of-diag-requires : goal.diagonal_of-diag-requires
diagonal_of-diag-requires c =
    let a = c.args in
    let t : ModelTables = model_tables a.h_words.now a.h_coeffs.now a.jumps.now a.rates.now a.t_words.now a.t_numbers.now in
    let l = c.loop-k in
    let q = c.put_rules_near-added in
    let h = c.requires in
    sums_inside a.m t c.word_at-p.result a.room l.work_words l.work_sums _ _ _ q.ensures _ c.in-Some.is q.auto.lanes q.auto.sums (omega (arith, h.work_words, l.invariant.2)) (omega (arith, h.work_sums, l.invariant.3))

pub loop-k-preserved : goal.loop-k-preserved
loop-k-preserved c =
    let a = c.args in
    let t : ModelTables = model_tables a.h_words.now a.h_coeffs.now a.jumps.now a.rates.now a.t_words.now a.t_numbers.now in
    let l = c.loop-k in
    let w = c.word_at-p in
    let q = c.put_rules_near-added in
    let e = c.in-Some.is in
    let n = words_are a.words.now a.len c.requires.slotted.lanes_long in
    let k = sums_held a.m t w.result a.room l.work_words l.work_sums _ _ _ q.ensures _ e in
    let g = listed_are a.m t w.result a.room l.work_words l.work_sums _ _ _ q.ensures _ e in (
      fill_more (touched_by a.m t) (raw_by a.m t (take a.len (words a.words.now))) (diag_by a.m t) (take a.len (words a.words.now)) a.room l.raws l.diags l.k l.invariant.0 w.result (omega (arith, n, c.loop-k-test.true)) (word_taken a.words.now a.len l.k c.loop-k-test.true w.ensures)
          (omega (arith, k.0, k.1)) _ _ (c.raw_of-raw.ensures ∙ ap (raw_of (take a.len (words a.words.now))) g) (c.diagonal_of-diag.ensures ∙ ap (diag_of w.result) g) (omega (arith, c.requires.raws_long, l.invariant.4, c.loop-k-test.true)) (omega (arith, c.requires.diags_long, l.invariant.5, c.loop-k-test.true)),
      q.auto.mask ∙ l.invariant.1,
      q.auto.lanes ∙ l.invariant.2,
      q.auto.sums ∙ l.invariant.3,
      length-set l.raws l.k _ ∙ l.invariant.4,
      length-set l.diags l.k _ ∙ l.invariant.5,
    )

pub returns : goal.returns
returns c =
    let a = c.args in
    let t : ModelTables = model_tables a.h_words.now a.h_coeffs.now a.jumps.now a.rates.now a.t_words.now a.t_numbers.now in
    let l = c.loop-k in
    let n = words_are a.words.now a.len c.requires.slotted.lanes_long in
    fill_done a.m t (take a.len (words a.words.now)) a.room a.len l.raws l.diags l.k l.invariant.0 n (omega arith)
