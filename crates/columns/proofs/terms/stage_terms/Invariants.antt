-- SPDX-FileCopyrightText: 2026 The PPVM Authors
-- SPDX-License-Identifier: Apache-2.0

-- What lasts over the loop of `terms::stage_terms`.
use Rattle.word.specs.Flat.{words}
use Rattle.columns.proofs.TermLaws.{TermState}
use Rattle.columns.proofs.terms.stage_terms.Given as goal

abbrev pub invariant-loop-i : goal.invariant-loop-i
invariant-loop-i l = TermState (words l.basis) l.column l.touched l.sum_words l.sums l.initial.rows l.initial.columns l.initial.values l.room l.count l.rows l.columns l.values l.end l.i
