-- SPDX-FileCopyrightText: 2026 The PPVM Authors
-- SPDX-License-Identifier: Apache-2.0

-- `spec::build_model` meets its contract. Assumes nothing.
use Rattle.refusal.proofs.Told.{handed_on}
use Rattle.model.specs.Stored.{ModelTables}
use Rattle.model_build.specs.Built.{Input}
use Rattle.model_build.proofs.BuildLaws.{refused_so}
use Rattle.model_build.proofs.spec.build_model.Goals as goal
use Rattle.model_build.proofs.spec.build_model.Goals.{Start}

abbrev input : Start → Input
input s =
    let a = s.args in
    record { texts = a.texts.now; lengths = a.lengths.now; h_numbers = a.h_numbers.now; rates = a.given.now; counts = a.counts.now; numbers = a.numbers.now }

abbrev tables : Start → ModelTables
tables s =
    let a = s.args in
    record { h_words = a.h_words.now; h_coeffs = a.h_coeffs.now; jumps = a.jumps.now; rates = a.rates.now; t_words = a.t_words.now; t_numbers = a.t_numbers.now }

pub returns-in_err-check_given : goal.returns-in_err-check_given
returns-in_err-check_given c =
    let s = (goal.at.returns-in_err-check_given c).Start in
    rw (handed_on _ _ c.from_residual.ensures.1) (refused_so c.args.n_qubits (input s) (tables s) c.args.work_words.now c.args.work_numbers.now _ _ (c.check_given.ensures _ _) c.in_err-check_given.was)
