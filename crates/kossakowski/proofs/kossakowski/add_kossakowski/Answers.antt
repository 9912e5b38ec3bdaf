-- SPDX-FileCopyrightText: 2026 The PPVM Authors
-- SPDX-License-Identifier: Apache-2.0

-- `kossakowski::add_kossakowski` meets its contract. Assumes nothing.
use mathlib.Core.Path.{sym, ◌∙◌}
use Rattle.refusal.proofs.Told.{handed_on}
use Rattle.model.specs.Stored.{ModelTables}
use Rattle.k_matrix.specs.Added.{Input}
use Rattle.kossakowski.proofs.MatrixAccepted.{matrix_refused}
use Rattle.kossakowski.proofs.kossakowski.add_kossakowski.Goals as goal
use Rattle.kossakowski.proofs.kossakowski.add_kossakowski.Goals.{Start}

abbrev input : Start → Input
input s = let a = s.args in record { texts = a.texts.now; lengths = a.lengths.now; counts = a.counts.now; numbers = a.numbers.now; k = a.k.now }

abbrev tables : Start → ModelTables
tables s =
    let a = s.args in
    record { h_words = a.h_words.now; h_coeffs = a.h_coeffs.now; jumps = a.jumps.now; rates = a.rates.now; t_words = a.t_words.now; t_numbers = a.t_numbers.now }

pub returns-in_err-check_matrix : goal.returns-in_err-check_matrix
returns-in_err-check_matrix c =
    let s = (goal.at.returns-in_err-check_matrix c).Start in
    rw (handed_on _ _ c.from_residual.ensures.1) (sym (matrix_refused c.args.m (input s) (tables s) c.args.work_words.now c.args.work_numbers.now _ (sym c.check_matrix.ensures ∙ c.in_err-check_matrix.was)))
