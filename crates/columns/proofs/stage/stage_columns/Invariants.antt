-- SPDX-FileCopyrightText: 2026 The PPVM Authors
-- SPDX-License-Identifier: Apache-2.0

-- What lasts over the loop of `stage::stage_columns`.
use mathlib.Core.Path.{◌≡◌}
use lib.ListN.{length}
use Rattle.word.specs.Flat.{words}
use Rattle.action.specs.Acts.{action_of}
use Rattle.action.specs.Counts.{touched_by}
use Rattle.model.specs.Between.{model_tables}
use Rattle.columns.proofs.ColumnLaws.{ColumnState}
use Rattle.columns.proofs.stage.stage_columns.Given as goal

abbrev pub invariant-loop-c : goal.invariant-loop-c
invariant-loop-c l = ColumnState (touched_by l.m (model_tables l.h_words l.h_coeffs l.jumps l.rates l.t_words l.t_numbers)) (action_of l.m (model_tables l.h_words l.h_coeffs l.jumps l.rates l.t_words l.t_numbers)) (words l.basis) l.sum_room l.entry_room l.rows l.columns l.values l.end l.c × (length l.mask ≡ length l.initial.mask) × (length l.work_words ≡ length l.initial.work_words) × (length l.work_sums ≡ length l.initial.work_sums) × (length l.rows ≡ length l.initial.rows) × (length l.columns ≡ length l.initial.columns) × (length l.values ≡ length l.initial.values)
