-- SPDX-FileCopyrightText: 2026 The PPVM Authors
-- SPDX-License-Identifier: Apache-2.0

-- `count::most_places` meets its contract: after each word, the largest counts so far beside those that are left. Assumes nothing.
use mathlib.Core.Path.{ap, ◌∙◌}
use Prim.Native.Nat.{ℕ, max}
use native.Mathlib.Omega.{arith}
use lib.ListN.{length}
use Rattle.word.specs.Flat.{words}
use Rattle.model.specs.Stored.{ModelTables}
use Rattle.action.specs.Counts.{touched_by, listed_by}
use Rattle.action.proofs.ActLaws.{empty_room, sums_full, sums_held, listed_are, sums_inside}
use Rattle.action.proofs.CountLaws.{most_full, most_more, most_done}
use Rattle.lent.proofs.WordLaws.{word_inside}
use Rattle.model.specs.Between.{model_tables}
use Rattle.word.proofs.FlatLaws.{words_count}
use Rattle.action.proofs.count.most_places.Goals as goal

pub put_rules_near-requires : goal.put_rules_near-requires
put_rules_near-requires c =
    let a = c.args in
    let l = c.loop-k in
    let h = c.requires in
    let i = h.1 (omega (arith, c.loop-k-test.true)) in (
      empty_room a.room l.work_words l.work_sums (omega (arith, h.2, l.invariant.2)) (omega (arith, h.3, l.invariant.3)),
      h.0,
      i.0,
      i.1,
      i.2,
      omega (arith, i.3, l.invariant.1),
      word_inside a.list.now a.m.qubits h.4 l.k c.loop-k-test.true c.word_at-p.ensures,
    )

pub returns-in_default : goal.returns-in_default
returns-in_default c =
    let a = c.args in
    let t : ModelTables = model_tables a.h_words.now a.h_coeffs.now a.jumps.now a.rates.now a.t_words.now a.t_numbers.now in
    let l = c.loop-k in
    let n = words_count a.list.now in
    let q = c.put_rules_near in
    most_full (touched_by a.m t) (listed_by a.m t) (words a.list.now) a.room l.touched l.listed l.k l.invariant.0 c.word_at-p.result (omega (arith, n, c.loop-k-test.true)) c.word_at-p.ensures
    (sums_full a.m t c.word_at-p.result a.room l.work_words l.work_sums _ _ _ q.ensures c.in_default.is)

pub count_listed-entries-requires : goal.count_listed-entries-requires
count_listed-entries-requires c =
    let a = c.args in
    let t : ModelTables = model_tables a.h_words.now a.h_coeffs.now a.jumps.now a.rates.now a.t_words.now a.t_numbers.now in
    let l = c.loop-k in
    let n = words_count a.list.now in
    let q = c.put_rules_near in
    let h = c.requires in
    sums_inside a.m t c.word_at-p.result a.room l.work_words l.work_sums _ _ _ q.ensures _ c.in-Some.is q.auto.lanes q.auto.sums (omega (arith, h.2, l.invariant.2)) (omega (arith, h.3, l.invariant.3))

pub loop-k-preserved : goal.loop-k-preserved
loop-k-preserved c =
    let a = c.args in
    let t : ModelTables = model_tables a.h_words.now a.h_coeffs.now a.jumps.now a.rates.now a.t_words.now a.t_numbers.now in
    let l = c.loop-k in
    let n = words_count a.list.now in
    let q = c.put_rules_near in
    let e = c.in-Some.is in
    let k = sums_held a.m t c.word_at-p.result a.room l.work_words l.work_sums _ _ _ q.ensures _ e in
    let g = listed_are a.m t c.word_at-p.result a.room l.work_words l.work_sums _ _ _ q.ensures _ e in (
      most_more (touched_by a.m t) (listed_by a.m t) (words a.list.now) a.room l.touched l.listed l.k l.invariant.0 c.word_at-p.result (omega (arith, n, c.loop-k-test.true)) c.word_at-p.ensures
          _ _ (c.larger-touched.ensures ∙ ap (λ (x : ℕ). max l.touched x) k.0) (c.larger-listed.ensures ∙ ap (λ (x : ℕ). max l.listed x) (c.count_listed-entries.ensures ∙ ap length g)) k.1,
      q.auto.mask ∙ l.invariant.1,
      q.auto.lanes ∙ l.invariant.2,
      q.auto.sums ∙ l.invariant.3,
    )

pub returns : goal.returns
returns c =
    let a = c.args in
    let t : ModelTables = model_tables a.h_words.now a.h_coeffs.now a.jumps.now a.rates.now a.t_words.now a.t_numbers.now in
    let l = c.loop-k in
    let n = words_count a.list.now in
    most_done (touched_by a.m t) (listed_by a.m t) (words a.list.now) a.room l.touched l.listed l.k l.invariant.0 (omega (arith, n, c.loop-k-test.false))
