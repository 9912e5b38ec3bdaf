-- SPDX-FileCopyrightText: 2026 The PPVM Authors
-- SPDX-License-Identifier: Apache-2.0

-- `flat::set_word` meets its contract. Assumes nothing.
use lib.ListN.{length-set}
use Rattle.word.specs.Count.{tabulate}
use Rattle.word.proofs.Words.{sound}
use Rattle.word.proofs.FlatLaws.{lay_from, word_laid}
use borrow.Author.Rules.{rules}
use native.Mathlib.Omega.{arith}
use Rattle.word.proofs.flat.set_word.Goals as goal

pub bounds-table-at-2 : goal.bounds-table-at-2
bounds-table-at-2 c = simp length-set (omega arith)

pub bounds-table-at-3 : goal.bounds-table-at-3
bounds-table-at-3 c = simp length-set (omega arith)

pub bounds-table-at-4 : goal.bounds-table-at-4
bounds-table-at-4 c = simp length-set (omega arith)

pub bounds-table-at-5 : goal.bounds-table-at-5
bounds-table-at-5 c = simp length-set (omega arith)

pub bounds-table-at-6 : goal.bounds-table-at-6
bounds-table-at-6 c = simp length-set (omega arith)

pub bounds-table-at-7 : goal.bounds-table-at-7
bounds-table-at-7 c = simp length-set (omega arith)

pub bounds-table-at-8 : goal.bounds-table-at-8
bounds-table-at-8 c = simp length-set (omega arith)

pub returns : goal.returns
unfolding lay_from tabulate
returns c = word_laid _ _ _ (sound _ (search rules) (search rules) (λ i. search rules) (λ i. search rules)) (omega arith)
