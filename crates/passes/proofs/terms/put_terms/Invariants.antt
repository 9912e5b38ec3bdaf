-- SPDX-FileCopyrightText: 2026 The PPVM Authors
-- SPDX-License-Identifier: Apache-2.0

-- What lasts over the loop of `terms::put_terms`.
use mathlib.Core.Path.{◌≡◌}
use lib.ListN.{length}
use Rattle.word.specs.Flat.{words as words_in}
use Rattle.sums.specs.Sums as Terms
use Rattle.candidates.specs.Tables.{candidate_rows, put_rows}
use Rattle.candidates.specs.Between.{in_word_order}
use Rattle.action.specs.Acts.{listed}
use Rattle.passes.specs.Leaks.{outside, leaked}
use Rattle.passes.proofs.TermLaws.{TermState}
use Rattle.passes.proofs.terms.put_terms.Given as goal

abbrev pub invariant-loop-i : goal.invariant-loop-i
invariant-loop-i l = TermState (outside (words_in l.basis) (words_in l.protected)) l.c l.touched l.sum_words l.term_sums l.room (put_rows (leaked (outside (words_in l.basis) (words_in l.protected)) l.c (listed (Terms.sum_rows l.touched l.sum_words l.term_sums))) (in_word_order (candidate_rows l.n l.initial.words l.initial.sums))) l.words l.sums l.order l.work l.held l.i × (length l.words ≡ length l.initial.words) × (length l.sums ≡ length l.initial.sums) × (length l.order ≡ length l.initial.order) × (length l.work ≡ length l.initial.work)
