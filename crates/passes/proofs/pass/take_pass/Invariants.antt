-- SPDX-FileCopyrightText: 2026 The PPVM Authors
-- SPDX-License-Identifier: Apache-2.0

-- What lasts over the loop of `pass::take_pass`.
use mathlib.Core.Path.{◌≡◌}
use lib.ListN.{length}
use Rattle.word.specs.Flat.{words as words_in}
use Rattle.candidates.specs.Tables.{candidate_rows}
use Rattle.candidates.specs.Between.{in_word_order}
use Rattle.passes.specs.Leaks.{taken_by, touched_at, leaks_at}
use Rattle.passes.proofs.PassLaws.{Passing}
use Rattle.model.specs.Between.{model_tables}
use Rattle.passes.proofs.pass.take_pass.Given as goal

abbrev pub invariant-loop-i : goal.invariant-loop-i
invariant-loop-i l = Passing (touched_at l.m (model_tables l.h_words l.h_coeffs l.jumps l.rates l.t_words l.t_numbers) (words_in l.basis) l.coeffs (words_in l.protected)) (leaks_at l.m (model_tables l.h_words l.h_coeffs l.jumps l.rates l.t_words l.t_numbers) (words_in l.basis) l.coeffs (words_in l.protected)) l.sum_room l.room l.positions
    (taken_by (touched_at l.m (model_tables l.h_words l.h_coeffs l.jumps l.rates l.t_words l.t_numbers) (words_in l.basis) l.coeffs (words_in l.protected)) (leaks_at l.m (model_tables l.h_words l.h_coeffs l.jumps l.rates l.t_words l.t_numbers) (words_in l.basis) l.coeffs (words_in l.protected)) l.sum_room l.room l.positions (in_word_order (candidate_rows l.n l.initial.words l.initial.sums)))
    l.i l.held l.words l.sums l.order l.work × (length l.mask ≡ length l.initial.mask) × (length l.work_words ≡ length l.initial.work_words) × (length l.work_sums ≡ length l.initial.work_sums) × (length l.words ≡ length l.initial.words) × (length l.sums ≡ length l.initial.sums) × (length l.order ≡ length l.initial.order) × (length l.work ≡ length l.initial.work)
