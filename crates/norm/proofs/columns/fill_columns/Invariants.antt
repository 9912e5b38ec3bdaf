-- SPDX-FileCopyrightText: 2026 The PPVM Authors
-- SPDX-License-Identifier: Apache-2.0

-- What lasts over the loop of `columns::fill_columns`.
use mathlib.Core.Path.{◌≡◌}
use lib.ListN.{length, take}
use Rattle.word.specs.Flat.{words}
use Rattle.action.specs.Counts.{touched_by}
use Rattle.column_norm.specs.Columns.{raw_by, diag_by}
use Rattle.norm.proofs.FillLaws.{FillState}
use Rattle.model.specs.Between.{model_tables}
use Rattle.norm.proofs.columns.fill_columns.Given as goal

abbrev pub invariant-loop-k : goal.invariant-loop-k
invariant-loop-k l = FillState (touched_by l.m (model_tables l.h_words l.h_coeffs l.jumps l.rates l.t_words l.t_numbers)) (raw_by l.m (model_tables l.h_words l.h_coeffs l.jumps l.rates l.t_words l.t_numbers) (take l.len (words l.words))) (diag_by l.m (model_tables l.h_words l.h_coeffs l.jumps l.rates l.t_words l.t_numbers)) (take l.len (words l.words)) l.room l.raws l.diags l.k × (length l.mask ≡ length l.initial.mask) × (length l.work_words ≡ length l.initial.work_words) × (length l.work_sums ≡ length l.initial.work_sums) × (length l.raws ≡ length l.initial.raws) × (length l.diags ≡ length l.initial.diags)
