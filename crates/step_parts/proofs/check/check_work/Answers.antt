-- SPDX-FileCopyrightText: 2026 The PPVM Authors
-- SPDX-License-Identifier: Apache-2.0

-- `check::check_work` meets its contract, answer by answer. Assumes nothing.
use mathlib.Core.Path.{ap, ◌∙◌}
use native.Mathlib.Numerals.{add-one}
use native.Mathlib.Omega.{arith}
use Rattle.lent.specs.Tests.{where_any}
use Rattle.step_parts.proofs.CheckLaws.{h_short, j_short, mask_short, order_short, heads_short, nexts_short, starts_short, cand_short, list_short, sums_short, grown_short, start_short, evolved_short, tables_accepted}
use borrow.Author.Rules.{rules}
use Rattle.step_parts.proofs.check.check_work.Goals as goal

pub overflow_mul-n : goal.overflow_mul-n
overflow_mul-n c = omega (arith, c.requires.0)

pub overflow_add-len : goal.overflow_add-len
overflow_add-len c = search rules

pub overflow_add-len-2 : goal.overflow_add-len-2
overflow_add-len-2 c = search rules

pub returns-then-h_index-rows : goal.returns-then-h_index-rows
returns-then-h_index-rows c =
    let a = c.args in
    c.mismatch.ensures ∙ h_short a.n a.len a.count a.h_index a.j_index a.mask a.order a.heads a.nexts a.place_order a.cand_sums a.list_values a.work_sums a.grown_words a.start a.evolved c.where_any-rows.ensures c.where_any-row.ensures c.where_any-slots.ensures (c.where_any-starts.ensures ∙ ap (where_any a.len) (add-one a.len)) c.if-h_index-rows.true

pub returns-then-j_index-rows : goal.returns-then-j_index-rows
returns-then-j_index-rows c =
    let a = c.args in
    c.mismatch-then-j_index-rows.ensures ∙ j_short a.n a.len a.count a.h_index a.j_index a.mask a.order a.heads a.nexts a.place_order a.cand_sums a.list_values a.work_sums a.grown_words a.start a.evolved c.where_any-rows.ensures c.where_any-row.ensures c.where_any-slots.ensures (c.where_any-starts.ensures ∙ ap (where_any a.len) (add-one a.len)) c.if-h_index-rows.false c.if-j_index-rows.true

pub returns-then-mask-row : goal.returns-then-mask-row
returns-then-mask-row c =
    let a = c.args in
    c.mismatch-then-mask-row.ensures ∙ mask_short a.n a.len a.count a.h_index a.j_index a.mask a.order a.heads a.nexts a.place_order a.cand_sums a.list_values a.work_sums a.grown_words a.start a.evolved c.where_any-rows.ensures c.where_any-row.ensures c.where_any-slots.ensures (c.where_any-starts.ensures ∙ ap (where_any a.len) (add-one a.len)) c.if-h_index-rows.false c.if-j_index-rows.false c.if-mask-row.true

pub returns-then-order-len : goal.returns-then-order-len
returns-then-order-len c =
    let a = c.args in
    c.mismatch-then-order-len.ensures ∙ order_short a.n a.len a.count a.h_index a.j_index a.mask a.order a.heads a.nexts a.place_order a.cand_sums a.list_values a.work_sums a.grown_words a.start a.evolved c.where_any-rows.ensures c.where_any-row.ensures c.where_any-slots.ensures (c.where_any-starts.ensures ∙ ap (where_any a.len) (add-one a.len)) c.if-h_index-rows.false c.if-j_index-rows.false c.if-mask-row.false c.if-order-len.true

pub returns-then-heads-slots : goal.returns-then-heads-slots
returns-then-heads-slots c =
    let a = c.args in
    c.mismatch-then-heads-slots.ensures ∙ heads_short a.n a.len a.count a.h_index a.j_index a.mask a.order a.heads a.nexts a.place_order a.cand_sums a.list_values a.work_sums a.grown_words a.start a.evolved c.where_any-rows.ensures c.where_any-row.ensures c.where_any-slots.ensures (c.where_any-starts.ensures ∙ ap (where_any a.len) (add-one a.len)) c.if-h_index-rows.false c.if-j_index-rows.false c.if-mask-row.false c.if-order-len.false c.if-heads-slots.true

pub returns-then-nexts-slots : goal.returns-then-nexts-slots
returns-then-nexts-slots c =
    let a = c.args in
    c.mismatch-then-nexts-slots.ensures ∙ nexts_short a.n a.len a.count a.h_index a.j_index a.mask a.order a.heads a.nexts a.place_order a.cand_sums a.list_values a.work_sums a.grown_words a.start a.evolved c.where_any-rows.ensures c.where_any-row.ensures c.where_any-slots.ensures (c.where_any-starts.ensures ∙ ap (where_any a.len) (add-one a.len)) c.if-h_index-rows.false c.if-j_index-rows.false c.if-mask-row.false c.if-order-len.false c.if-heads-slots.false c.if-nexts-slots.true

pub returns-then-place_order-starts : goal.returns-then-place_order-starts
returns-then-place_order-starts c =
    let a = c.args in
    c.mismatch-then-place_order-starts.ensures ∙ starts_short a.n a.len a.count a.h_index a.j_index a.mask a.order a.heads a.nexts a.place_order a.cand_sums a.list_values a.work_sums a.grown_words a.start a.evolved c.where_any-rows.ensures c.where_any-row.ensures c.where_any-slots.ensures (c.where_any-starts.ensures ∙ ap (where_any a.len) (add-one a.len)) c.if-h_index-rows.false c.if-j_index-rows.false c.if-mask-row.false c.if-order-len.false c.if-heads-slots.false c.if-nexts-slots.false c.if-place_order-starts.true

pub returns-then-cand_sums-len : goal.returns-then-cand_sums-len
returns-then-cand_sums-len c =
    let a = c.args in
    c.mismatch-then-cand_sums-len.ensures ∙ cand_short a.n a.len a.count a.h_index a.j_index a.mask a.order a.heads a.nexts a.place_order a.cand_sums a.list_values a.work_sums a.grown_words a.start a.evolved c.where_any-rows.ensures c.where_any-row.ensures c.where_any-slots.ensures (c.where_any-starts.ensures ∙ ap (where_any a.len) (add-one a.len)) c.if-h_index-rows.false c.if-j_index-rows.false c.if-mask-row.false c.if-order-len.false c.if-heads-slots.false c.if-nexts-slots.false c.if-place_order-starts.false c.if-cand_sums-len.true

pub returns-then-list_values-len : goal.returns-then-list_values-len
returns-then-list_values-len c =
    let a = c.args in
    c.mismatch-then-list_values-len.ensures ∙ list_short a.n a.len a.count a.h_index a.j_index a.mask a.order a.heads a.nexts a.place_order a.cand_sums a.list_values a.work_sums a.grown_words a.start a.evolved c.where_any-rows.ensures c.where_any-row.ensures c.where_any-slots.ensures (c.where_any-starts.ensures ∙ ap (where_any a.len) (add-one a.len)) c.if-h_index-rows.false c.if-j_index-rows.false c.if-mask-row.false c.if-order-len.false c.if-heads-slots.false c.if-nexts-slots.false c.if-place_order-starts.false c.if-cand_sums-len.false c.if-list_values-len.true

pub returns-then-work_sums-len : goal.returns-then-work_sums-len
returns-then-work_sums-len c =
    let a = c.args in
    c.mismatch-then-work_sums-len.ensures ∙ sums_short a.n a.len a.count a.h_index a.j_index a.mask a.order a.heads a.nexts a.place_order a.cand_sums a.list_values a.work_sums a.grown_words a.start a.evolved c.where_any-rows.ensures c.where_any-row.ensures c.where_any-slots.ensures (c.where_any-starts.ensures ∙ ap (where_any a.len) (add-one a.len)) c.if-h_index-rows.false c.if-j_index-rows.false c.if-mask-row.false c.if-order-len.false c.if-heads-slots.false c.if-nexts-slots.false c.if-place_order-starts.false c.if-cand_sums-len.false c.if-list_values-len.false c.if-work_sums-len.true

pub returns-then-grown_words-len : goal.returns-then-grown_words-len
returns-then-grown_words-len c =
    let a = c.args in
    c.mismatch-then-grown_words-len.ensures ∙ grown_short a.n a.len a.count a.h_index a.j_index a.mask a.order a.heads a.nexts a.place_order a.cand_sums a.list_values a.work_sums a.grown_words a.start a.evolved c.where_any-rows.ensures c.where_any-row.ensures c.where_any-slots.ensures (c.where_any-starts.ensures ∙ ap (where_any a.len) (add-one a.len)) c.if-h_index-rows.false c.if-j_index-rows.false c.if-mask-row.false c.if-order-len.false c.if-heads-slots.false c.if-nexts-slots.false c.if-place_order-starts.false c.if-cand_sums-len.false c.if-list_values-len.false c.if-work_sums-len.false c.if-grown_words-len.true

pub returns-then-start-len : goal.returns-then-start-len
returns-then-start-len c =
    let a = c.args in
    c.mismatch-then-start-len.ensures ∙ start_short a.n a.len a.count a.h_index a.j_index a.mask a.order a.heads a.nexts a.place_order a.cand_sums a.list_values a.work_sums a.grown_words a.start a.evolved c.where_any-rows.ensures c.where_any-row.ensures c.where_any-slots.ensures (c.where_any-starts.ensures ∙ ap (where_any a.len) (add-one a.len)) c.if-h_index-rows.false c.if-j_index-rows.false c.if-mask-row.false c.if-order-len.false c.if-heads-slots.false c.if-nexts-slots.false c.if-place_order-starts.false c.if-cand_sums-len.false c.if-list_values-len.false c.if-work_sums-len.false c.if-grown_words-len.false c.if-start-len.true

pub returns-then-evolved-len : goal.returns-then-evolved-len
returns-then-evolved-len c =
    let a = c.args in
    c.mismatch-then-evolved-len.ensures ∙ evolved_short a.n a.len a.count a.h_index a.j_index a.mask a.order a.heads a.nexts a.place_order a.cand_sums a.list_values a.work_sums a.grown_words a.start a.evolved c.where_any-rows.ensures c.where_any-row.ensures c.where_any-slots.ensures (c.where_any-starts.ensures ∙ ap (where_any a.len) (add-one a.len)) c.if-h_index-rows.false c.if-j_index-rows.false c.if-mask-row.false c.if-order-len.false c.if-heads-slots.false c.if-nexts-slots.false c.if-place_order-starts.false c.if-cand_sums-len.false c.if-list_values-len.false c.if-work_sums-len.false c.if-grown_words-len.false c.if-start-len.false c.if-evolved-len.true

pub returns : goal.returns
returns c =
    let a = c.args in
    tables_accepted a.n a.len a.count a.h_index a.j_index a.mask a.order a.heads a.nexts a.place_order a.cand_sums a.list_values a.work_sums a.grown_words a.start a.evolved c.where_any-rows.ensures c.where_any-row.ensures c.where_any-slots.ensures (c.where_any-starts.ensures ∙ ap (where_any a.len) (add-one a.len)) c.if-h_index-rows.false c.if-j_index-rows.false c.if-mask-row.false c.if-order-len.false c.if-heads-slots.false c.if-nexts-slots.false c.if-place_order-starts.false c.if-cand_sums-len.false c.if-list_values-len.false c.if-work_sums-len.false c.if-grown_words-len.false c.if-start-len.false c.if-evolved-len.false
