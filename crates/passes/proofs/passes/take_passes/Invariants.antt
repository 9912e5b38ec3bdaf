-- SPDX-FileCopyrightText: 2026 The PPVM Authors
-- SPDX-License-Identifier: Apache-2.0

-- What lasts over the loop of `passes::take_passes`, and what falls.
use mathlib.Core.Path.{◌≡◌}
use mathlib.Core.List.{[]}
use Prim.Native.Nat.{◌-◌}
use lib.ListN.{length}
use Rattle.word.specs.Flat.{words as words_in}
use Rattle.candidates.specs.Tables.{candidate_rows}
use Rattle.candidates.specs.Between.{in_word_order, Standing}
use Rattle.model.specs.Between.{model_tables}
use Rattle.passes.specs.Leaks.{passes, pass_count, touched_at, leaks_at}
use Rattle.passes.proofs.PassesLaws.{rest}
use Rattle.passes.proofs.passes.take_passes.Given as goal

abbrev pub invariant-loop-from : goal.invariant-loop-from
invariant-loop-from l =
    (rest (touched_at l.m (model_tables l.h_words l.h_coeffs l.jumps l.rates l.t_words l.t_numbers) (words_in l.basis) l.coeffs (words_in l.protected)) (leaks_at l.m (model_tables l.h_words l.h_coeffs l.jumps l.rates l.t_words l.t_numbers) (words_in l.basis) l.coeffs (words_in l.protected)) l.sum_room l.candidate_room l.room l.positions l.from (in_word_order (candidate_rows l.held l.words l.sums)) ≡ passes (touched_at l.m (model_tables l.h_words l.h_coeffs l.jumps l.rates l.t_words l.t_numbers) (words_in l.basis) l.coeffs (words_in l.protected)) (leaks_at l.m (model_tables l.h_words l.h_coeffs l.jumps l.rates l.t_words l.t_numbers) (words_in l.basis) l.coeffs (words_in l.protected)) l.sum_room l.candidate_room l.room (pass_count (length l.positions)) l.positions [])
    × Standing l.candidate_room l.held l.words l.sums l.order l.work
    × (length l.mask ≡ length l.initial.mask)
    × (length l.work_words ≡ length l.initial.work_words)
    × (length l.work_sums ≡ length l.initial.work_sums)
    × (length l.words ≡ length l.initial.words)
    × (length l.sums ≡ length l.initial.sums)
    × (length l.order ≡ length l.initial.order)
    × (length l.work ≡ length l.initial.work)

abbrev pub decreases-loop-from : goal.decreases-loop-from
decreases-loop-from l = length l.positions - l.from
