-- SPDX-FileCopyrightText: 2026 The PPVM Authors
-- SPDX-License-Identifier: Apache-2.0

-- `check::check_work` meets its contract, answer by answer. Assumes nothing.
use mathlib.Core.Path.{◌∙◌}
use native.Mathlib.Omega.{arith}
use Rattle.leakage.proofs.CheckLaws.{short_1, short_2, short_3, short_4, short_5, short_6, long_enough, work_is}
use Rattle.leakage.proofs.check.check_work.Goals as goal

pub overflow_mul-n : goal.overflow_mul-n
overflow_mul-n c = omega (arith, c.requires.0)

pub overflow_add-len : goal.overflow_add-len
overflow_add-len c = omega (arith, c.requires.1, c.requires.2)

pub returns-then-h_index-rows : goal.returns-then-h_index-rows
returns-then-h_index-rows c =
    let a = c.args in
    let r1 = c.where_any-rows in
    let r2 = c.where_any-row in
    let r3 = c.where_any-slots in
    λ w eh ej ek eo ehe ene.
    c.mismatch.ensures ∙ short_1 r1.result r2.result a.len r3.result a.h_index a.j_index a.mask a.order a.heads a.nexts c.if-h_index-rows.true ∙ work_is a.n a.len a.count r1.ensures r2.ensures r3.ensures a.h_index a.j_index a.mask a.order a.heads a.nexts w eh ej ek eo ehe ene

pub returns-then-j_index-rows : goal.returns-then-j_index-rows
returns-then-j_index-rows c =
    let a = c.args in
    let r1 = c.where_any-rows in
    let r2 = c.where_any-row in
    let r3 = c.where_any-slots in
    λ w eh ej ek eo ehe ene.
    c.mismatch-then-j_index-rows.ensures ∙ short_2 r1.result r2.result a.len r3.result a.h_index a.j_index a.mask a.order a.heads a.nexts c.if-h_index-rows.false c.if-j_index-rows.true ∙ work_is a.n a.len a.count r1.ensures r2.ensures r3.ensures a.h_index a.j_index a.mask a.order a.heads a.nexts w eh ej ek eo ehe ene

pub returns-then-mask-row : goal.returns-then-mask-row
returns-then-mask-row c =
    let a = c.args in
    let r1 = c.where_any-rows in
    let r2 = c.where_any-row in
    let r3 = c.where_any-slots in
    λ w eh ej ek eo ehe ene.
    c.mismatch-then-mask-row.ensures ∙ short_3 r1.result r2.result a.len r3.result a.h_index a.j_index a.mask a.order a.heads a.nexts c.if-h_index-rows.false c.if-j_index-rows.false c.if-mask-row.true ∙ work_is a.n a.len a.count r1.ensures r2.ensures r3.ensures a.h_index a.j_index a.mask a.order a.heads a.nexts w eh ej ek eo ehe ene

pub returns-then-order-len : goal.returns-then-order-len
returns-then-order-len c =
    let a = c.args in
    let r1 = c.where_any-rows in
    let r2 = c.where_any-row in
    let r3 = c.where_any-slots in
    λ w eh ej ek eo ehe ene.
    c.mismatch-then-order-len.ensures ∙ short_4 r1.result r2.result a.len r3.result a.h_index a.j_index a.mask a.order a.heads a.nexts c.if-h_index-rows.false c.if-j_index-rows.false c.if-mask-row.false c.if-order-len.true ∙ work_is a.n a.len a.count r1.ensures r2.ensures r3.ensures a.h_index a.j_index a.mask a.order a.heads a.nexts w eh ej ek eo ehe ene

pub returns-then-heads-slots : goal.returns-then-heads-slots
returns-then-heads-slots c =
    let a = c.args in
    let r1 = c.where_any-rows in
    let r2 = c.where_any-row in
    let r3 = c.where_any-slots in
    λ w eh ej ek eo ehe ene.
    c.mismatch-then-heads-slots.ensures ∙ short_5 r1.result r2.result a.len r3.result a.h_index a.j_index a.mask a.order a.heads a.nexts c.if-h_index-rows.false c.if-j_index-rows.false c.if-mask-row.false c.if-order-len.false c.if-heads-slots.true ∙ work_is a.n a.len a.count r1.ensures r2.ensures r3.ensures a.h_index a.j_index a.mask a.order a.heads a.nexts w eh ej ek eo ehe ene

pub returns-then-nexts-slots : goal.returns-then-nexts-slots
returns-then-nexts-slots c =
    let a = c.args in
    let r1 = c.where_any-rows in
    let r2 = c.where_any-row in
    let r3 = c.where_any-slots in
    λ w eh ej ek eo ehe ene.
    c.mismatch-then-nexts-slots.ensures ∙ short_6 r1.result r2.result a.len r3.result a.h_index a.j_index a.mask a.order a.heads a.nexts c.if-h_index-rows.false c.if-j_index-rows.false c.if-mask-row.false c.if-order-len.false c.if-heads-slots.false c.if-nexts-slots.true ∙ work_is a.n a.len a.count r1.ensures r2.ensures r3.ensures a.h_index a.j_index a.mask a.order a.heads a.nexts w eh ej ek eo ehe ene

pub returns : goal.returns
returns c =
    let a = c.args in
    let r1 = c.where_any-rows in
    let r2 = c.where_any-row in
    let r3 = c.where_any-slots in
    λ w eh ej ek eo ehe ene.
    long_enough r1.result r2.result a.len r3.result a.h_index a.j_index a.mask a.order a.heads a.nexts c.if-h_index-rows.false c.if-j_index-rows.false c.if-mask-row.false c.if-order-len.false c.if-heads-slots.false c.if-nexts-slots.false ∙ work_is a.n a.len a.count r1.ensures r2.ensures r3.ensures a.h_index a.j_index a.mask a.order a.heads a.nexts w eh ej ek eo ehe ene
