-- SPDX-FileCopyrightText: 2026 The PPVM Authors
-- SPDX-License-Identifier: Apache-2.0

-- `check::check_work` meets its contract, answer by answer. Assumes nothing.
use mathlib.Core.Path.{ap, ◌∙◌}
use native.Mathlib.Numerals.{add-one}
use native.Mathlib.Omega.{arith}
use Rattle.lent.specs.Tests.{where_any}
use Rattle.evolution.proofs.CheckLaws.{h_short, j_short, mask_short, heads_short, nexts_short, offsets_short, v_short, b_short, product_short, out_short, tables_accepted}
use borrow.Author.Rules.{rules}
use Rattle.evolution.proofs.check.check_work.Goals as goal

pub overflow_mul-n : goal.overflow_mul-n
overflow_mul-n c = omega (arith, c.requires.0)

pub overflow_add-len : goal.overflow_add-len
overflow_add-len c = search rules

pub returns-then-h_index-rows : goal.returns-then-h_index-rows
returns-then-h_index-rows c =
    let a = c.args in
    c.mismatch.ensures ∙ h_short a.n a.len a.h_index a.j_index a.mask a.heads a.nexts a.offsets a.v a.b a.product a.out c.where_any-rows.ensures c.where_any-row.ensures (c.where_any-starts.ensures ∙ ap (where_any a.len) (add-one a.len)) c.if-h_index-rows.true

pub returns-then-j_index-rows : goal.returns-then-j_index-rows
returns-then-j_index-rows c =
    let a = c.args in
    c.mismatch-then-j_index-rows.ensures ∙ j_short a.n a.len a.h_index a.j_index a.mask a.heads a.nexts a.offsets a.v a.b a.product a.out c.where_any-rows.ensures c.where_any-row.ensures (c.where_any-starts.ensures ∙ ap (where_any a.len) (add-one a.len)) c.if-h_index-rows.false c.if-j_index-rows.true

pub returns-then-mask-row : goal.returns-then-mask-row
returns-then-mask-row c =
    let a = c.args in
    c.mismatch-then-mask-row.ensures ∙ mask_short a.n a.len a.h_index a.j_index a.mask a.heads a.nexts a.offsets a.v a.b a.product a.out c.where_any-rows.ensures c.where_any-row.ensures (c.where_any-starts.ensures ∙ ap (where_any a.len) (add-one a.len)) c.if-h_index-rows.false c.if-j_index-rows.false c.if-mask-row.true

pub returns-then-heads-len : goal.returns-then-heads-len
returns-then-heads-len c =
    let a = c.args in
    c.mismatch-then-heads-len.ensures ∙ heads_short a.n a.len a.h_index a.j_index a.mask a.heads a.nexts a.offsets a.v a.b a.product a.out c.where_any-rows.ensures c.where_any-row.ensures (c.where_any-starts.ensures ∙ ap (where_any a.len) (add-one a.len)) c.if-h_index-rows.false c.if-j_index-rows.false c.if-mask-row.false c.if-heads-len.true

pub returns-then-nexts-len : goal.returns-then-nexts-len
returns-then-nexts-len c =
    let a = c.args in
    c.mismatch-then-nexts-len.ensures ∙ nexts_short a.n a.len a.h_index a.j_index a.mask a.heads a.nexts a.offsets a.v a.b a.product a.out c.where_any-rows.ensures c.where_any-row.ensures (c.where_any-starts.ensures ∙ ap (where_any a.len) (add-one a.len)) c.if-h_index-rows.false c.if-j_index-rows.false c.if-mask-row.false c.if-heads-len.false c.if-nexts-len.true

pub returns-then-offsets-starts : goal.returns-then-offsets-starts
returns-then-offsets-starts c =
    let a = c.args in
    c.mismatch-then-offsets-starts.ensures ∙ offsets_short a.n a.len a.h_index a.j_index a.mask a.heads a.nexts a.offsets a.v a.b a.product a.out c.where_any-rows.ensures c.where_any-row.ensures (c.where_any-starts.ensures ∙ ap (where_any a.len) (add-one a.len)) c.if-h_index-rows.false c.if-j_index-rows.false c.if-mask-row.false c.if-heads-len.false c.if-nexts-len.false c.if-offsets-starts.true

pub returns-then-v-len : goal.returns-then-v-len
returns-then-v-len c =
    let a = c.args in
    c.mismatch-then-v-len.ensures ∙ v_short a.n a.len a.h_index a.j_index a.mask a.heads a.nexts a.offsets a.v a.b a.product a.out c.where_any-rows.ensures c.where_any-row.ensures (c.where_any-starts.ensures ∙ ap (where_any a.len) (add-one a.len)) c.if-h_index-rows.false c.if-j_index-rows.false c.if-mask-row.false c.if-heads-len.false c.if-nexts-len.false c.if-offsets-starts.false c.if-v-len.true

pub returns-then-b-len : goal.returns-then-b-len
returns-then-b-len c =
    let a = c.args in
    c.mismatch-then-b-len.ensures ∙ b_short a.n a.len a.h_index a.j_index a.mask a.heads a.nexts a.offsets a.v a.b a.product a.out c.where_any-rows.ensures c.where_any-row.ensures (c.where_any-starts.ensures ∙ ap (where_any a.len) (add-one a.len)) c.if-h_index-rows.false c.if-j_index-rows.false c.if-mask-row.false c.if-heads-len.false c.if-nexts-len.false c.if-offsets-starts.false c.if-v-len.false c.if-b-len.true

pub returns-then-product-len : goal.returns-then-product-len
returns-then-product-len c =
    let a = c.args in
    c.mismatch-then-product-len.ensures ∙ product_short a.n a.len a.h_index a.j_index a.mask a.heads a.nexts a.offsets a.v a.b a.product a.out c.where_any-rows.ensures c.where_any-row.ensures (c.where_any-starts.ensures ∙ ap (where_any a.len) (add-one a.len)) c.if-h_index-rows.false c.if-j_index-rows.false c.if-mask-row.false c.if-heads-len.false c.if-nexts-len.false c.if-offsets-starts.false c.if-v-len.false c.if-b-len.false c.if-product-len.true

pub returns-then-out-len : goal.returns-then-out-len
returns-then-out-len c =
    let a = c.args in
    c.mismatch-then-out-len.ensures ∙ out_short a.n a.len a.h_index a.j_index a.mask a.heads a.nexts a.offsets a.v a.b a.product a.out c.where_any-rows.ensures c.where_any-row.ensures (c.where_any-starts.ensures ∙ ap (where_any a.len) (add-one a.len)) c.if-h_index-rows.false c.if-j_index-rows.false c.if-mask-row.false c.if-heads-len.false c.if-nexts-len.false c.if-offsets-starts.false c.if-v-len.false c.if-b-len.false c.if-product-len.false c.if-out-len.true

pub returns : goal.returns
returns c =
    let a = c.args in
    tables_accepted a.n a.len a.h_index a.j_index a.mask a.heads a.nexts a.offsets a.v a.b a.product a.out c.where_any-rows.ensures c.where_any-row.ensures (c.where_any-starts.ensures ∙ ap (where_any a.len) (add-one a.len)) c.if-h_index-rows.false c.if-j_index-rows.false c.if-mask-row.false c.if-heads-len.false c.if-nexts-len.false c.if-offsets-starts.false c.if-v-len.false c.if-b-len.false c.if-product-len.false c.if-out-len.false
