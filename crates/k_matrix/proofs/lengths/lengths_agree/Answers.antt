-- SPDX-FileCopyrightText: 2026 The PPVM Authors
-- SPDX-License-Identifier: Apache-2.0

-- `lengths::lengths_agree` meets its contract: the tests before a return were passed. Assumes nothing.
use mathlib.Core.Path.{◌≡◌, sym, ◌∙◌}
use mathlib.Core.List.{List}
use Prim.Native.Nat.{ℕ}
use lib.Ieee.{Float}
use native.Mathlib.Omega.{arith}
use borrow.Author.Tests.{eq-eqb, ne_eqb}
use Rattle.refusal.proofs.Told.{handed_on}
use Rattle.model.specs.Stored.{ModelTables}
use Rattle.k_matrix.specs.Added.{Input, lengths_answer}
use Rattle.k_matrix.proofs.MatrixLaws.{places_few}
use Rattle.k_matrix.proofs.MatrixLengths.{tables_answer, own_agree}
use Rattle.k_matrix.proofs.lengths.lengths_agree.Goals as goal
use Rattle.k_matrix.proofs.lengths.lengths_agree.Goals.{After-where_any-work, Start}

-- ---- past the tests of the input
abbrev start : After-where_any-work → Start
start c = (goal.at.After-where_any-work c).Start

abbrev input : Start → Input
input s =
    let a = s.args in
    record { texts = a.texts.now; lengths = a.lengths.now; counts = a.counts.now; numbers = a.numbers.now; k = a.k.now }

abbrev tables : Start → List ℕ → List Float → List ℕ → List Float → ModelTables
tables s hWords hCoeffs tWords tNumbers =
    let a = s.args in
    record { h_words = hWords; h_coeffs = hCoeffs; jumps = a.jumps.now; rates = a.rates.now; t_words = tWords; t_numbers = tNumbers }

own : (c : After-where_any-work) (hWords : List ℕ) (hCoeffs : List Float) (tWords : List ℕ) (tNumbers : List Float)
    → lengths_answer (start c).args.m (input (start c)) (tables (start c) hWords hCoeffs tWords tNumbers) (start c).args.work_words.now (start c).args.work_numbers.now
    ≡ tables_answer (start c).args.m (input (start c)) (tables (start c) hWords hCoeffs tWords tNumbers) (start c).args.work_words.now (start c).args.work_numbers.now c.smaller-entries.result c.where_any-work.result
own c hWords hCoeffs tWords tNumbers =
    own_agree _ _ _ _ _ c.if-k-places.false c.if-k-places-2.false c.if-lengths-terms.false c.if-numbers-terms.false
    (sym c.parts_fit.ensures ∙ c.in_ok-parts_fit.was) (sym c.parts_fit-2.ensures ∙ c.in_ok-parts_fit-2.was) _ c.smaller-entries.ensures _ c.smaller.ensures _ c.where_any-work.ensures

pub overflow_mul-places : goal.overflow_mul-places
overflow_mul-places c = omega (arith, places_few _ c.requires.1)

pub returns-then-k-places : goal.returns-then-k-places
unfolding lengths_answer
returns-then-k-places c hWords hCoeffs tWords tNumbers = rw (ne_eqb _ _ c.if-k-places.true) c.mismatch.ensures

pub returns-then-k-places-2 : goal.returns-then-k-places-2
unfolding lengths_answer
returns-then-k-places-2 c hWords hCoeffs tWords tNumbers = rw (eq-eqb _ _ c.if-k-places.false, ne_eqb _ _ c.if-k-places-2.true) c.mismatch-then-k-places-2.ensures

pub returns-then-lengths-terms : goal.returns-then-lengths-terms
unfolding lengths_answer
returns-then-lengths-terms c hWords hCoeffs tWords tNumbers = rw (eq-eqb _ _ c.if-k-places.false, eq-eqb _ _ c.if-k-places-2.false, ne_eqb _ _ c.if-lengths-terms.true) c.mismatch-then-lengths-terms.ensures

pub returns-then-numbers-terms : goal.returns-then-numbers-terms
unfolding lengths_answer
returns-then-numbers-terms c hWords hCoeffs tWords tNumbers = rw (eq-eqb _ _ c.if-k-places.false, eq-eqb _ _ c.if-k-places-2.false, eq-eqb _ _ c.if-lengths-terms.false, ne_eqb _ _ c.if-numbers-terms.true) c.mismatch-then-numbers-terms.ensures

pub returns-in_err-parts_fit : goal.returns-in_err-parts_fit
unfolding lengths_answer
returns-in_err-parts_fit c hWords hCoeffs tWords tNumbers =
    rw (eq-eqb _ _ c.if-k-places.false, eq-eqb _ _ c.if-k-places-2.false, eq-eqb _ _ c.if-lengths-terms.false, eq-eqb _ _ c.if-numbers-terms.false, sym c.parts_fit.ensures ∙ c.in_err-parts_fit.was) (handed_on _ _ c.from_residual.ensures.1)

pub returns-in_err-parts_fit-2 : goal.returns-in_err-parts_fit-2
unfolding lengths_answer
returns-in_err-parts_fit-2 c hWords hCoeffs tWords tNumbers =
    rw (eq-eqb _ _ c.if-k-places.false, eq-eqb _ _ c.if-k-places-2.false, eq-eqb _ _ c.if-lengths-terms.false, eq-eqb _ _ c.if-numbers-terms.false, sym c.parts_fit.ensures ∙ c.in_ok-parts_fit.was, sym c.parts_fit-2.ensures ∙ c.in_err-parts_fit-2.was) (handed_on _ _ c.from_residual-in_err-parts_fit-2.ensures.1)

pub returns : goal.returns
returns c hWords hCoeffs tWords tNumbers = c.tables_fit.ensures ∙ sym (own (goal.at.returns c).After-where_any-work hWords hCoeffs tWords tNumbers)
