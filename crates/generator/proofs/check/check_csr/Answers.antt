-- SPDX-FileCopyrightText: 2026 The PPVM Authors
-- SPDX-License-Identifier: Apache-2.0

-- `check::check_csr` meets its contract, answer by answer. Assumes nothing.
use mathlib.Core.Path.{sym, ◌∙◌}
use native.Mathlib.Omega.{arith}
use Rattle.refusal.proofs.Told.{handed_on}
use Rattle.std.specs.Prelude.{Ok}
use Rattle.model.specs.Stored.{ModelTables}
use Rattle.lent.specs.Words.{inside_to}
use Rattle.lent.specs.Tests.{lent}
use Rattle.generator.specs.Lent.{table_tests}
use Prim.Native.Nat.{suc}
use Rattle.generator.proofs.CheckLaws.{tables_passed, then_refused, then_second, offsets_short, offsets_long}
use Rattle.model.specs.Between.{model_tables}
use Rattle.generator.proofs.check.check_csr.Goals as goal

pub returns-in_err-check_tables : goal.returns-in_err-check_tables
returns-in_err-check_tables c =
    let a = c.args in
    let t : ModelTables = model_tables a.h_words.now a.h_coeffs.now a.jumps.now a.rates.now a.t_words.now a.t_numbers.now in
    handed_on _ _ c.from_residual.ensures.1 ∙ then_refused (table_tests a.m t a.words.now a.len a.h_index a.j_index a.mask a.heads a.nexts) (lent (suc a.len) a.offsets (inside_to a.len a.words.now a.m.qubits (Ok tt))) _ (sym c.check_tables.ensures ∙ c.in_err-check_tables.was)

pub overflow_add-len : goal.overflow_add-len
overflow_add-len c =
    let a = c.args in
    let t : ModelTables = model_tables a.h_words.now a.h_coeffs.now a.jumps.now a.rates.now a.t_words.now a.t_numbers.now in
    let p = tables_passed a.m t a.words.now a.len a.h_index a.j_index a.mask a.heads a.nexts (sym c.check_tables.ensures ∙ c.in_ok-check_tables.was) in
    omega (arith, p.few)

pub returns-then-offsets-len : goal.returns-then-offsets-len
returns-then-offsets-len c =
    let a = c.args in
    let t : ModelTables = model_tables a.h_words.now a.h_coeffs.now a.jumps.now a.rates.now a.t_words.now a.t_numbers.now in
    then_second (table_tests a.m t a.words.now a.len a.h_index a.j_index a.mask a.heads a.nexts) (lent (suc a.len) a.offsets (inside_to a.len a.words.now a.m.qubits (Ok tt))) (sym c.check_tables.ensures ∙ c.in_ok-check_tables.was) (offsets_short a.len a.offsets (inside_to a.len a.words.now a.m.qubits (Ok tt)) c.mismatch.ensures c.if-offsets-len.true)

pub check_inside-requires : goal.check_inside-requires
check_inside-requires c =
    let a = c.args in
    let t : ModelTables = model_tables a.h_words.now a.h_coeffs.now a.jumps.now a.rates.now a.t_words.now a.t_numbers.now in
    let p = tables_passed a.m t a.words.now a.len a.h_index a.j_index a.mask a.heads a.nexts (sym c.check_tables.ensures ∙ c.in_ok-check_tables.was) in
    omega (arith, p.words_long)

pub returns : goal.returns
returns c =
    let a = c.args in
    let t : ModelTables = model_tables a.h_words.now a.h_coeffs.now a.jumps.now a.rates.now a.t_words.now a.t_numbers.now in
    then_second (table_tests a.m t a.words.now a.len a.h_index a.j_index a.mask a.heads a.nexts) (lent (suc a.len) a.offsets (inside_to a.len a.words.now a.m.qubits (Ok tt))) (sym c.check_tables.ensures ∙ c.in_ok-check_tables.was) (offsets_long a.len a.offsets (inside_to a.len a.words.now a.m.qubits (Ok tt)) c.check_inside.ensures c.if-offsets-len.false)
