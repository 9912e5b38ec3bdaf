-- SPDX-FileCopyrightText: 2026 The PPVM Authors
-- SPDX-License-Identifier: Apache-2.0

-- `lengths::lengths_agree` meets its contract: the tests before a return were passed. Assumes nothing.
use mathlib.Core.Path.{◌≡◌, sym, ◌∙◌}
use mathlib.Core.List.{List}
use Prim.Native.Nat.{ℕ}
use lib.Ieee.{Float}
use borrow.Author.Tests.{eq-eqb, ne_eqb}
use Rattle.refusal.proofs.Told.{handed_on}
use Rattle.model.specs.Stored.{ModelTables}
use Rattle.model_build.specs.Built.{Input, lengths_answer}
use Rattle.model_build.proofs.LengthLaws.{tables_answer, own_agree}
use Rattle.model_build.proofs.lengths.lengths_agree.Goals as goal
use Rattle.model_build.proofs.lengths.lengths_agree.Goals.{After-where_any-work, Start}

-- ---- past the tests of the input
abbrev start : After-where_any-work → Start
start c = (goal.at.After-where_any-work c).Start

abbrev input : Start → Input
input s =
    let a = s.args in
    record { texts = a.texts.now; lengths = a.lengths.now; h_numbers = a.h_numbers.now; rates = a.rates.now; counts = a.counts.now; numbers = a.numbers.now }

abbrev tables : Start → List ℕ → List Float → ModelTables
tables s tWords tNumbers =
    let a = s.args in
    record { h_words = a.h_words.now; h_coeffs = a.h_coeffs.now; jumps = a.jumps.now; rates = a.rate_places.now; t_words = tWords; t_numbers = tNumbers }

own : (c : After-where_any-work) (tWords : List ℕ) (tNumbers : List Float)
    → lengths_answer (input (start c)) (tables (start c) tWords tNumbers) (start c).args.work_words.now (start c).args.work_numbers.now
    ≡ tables_answer (input (start c)) (tables (start c) tWords tNumbers) (start c).args.work_words.now (start c).args.work_numbers.now c.where_any-work.result
own c tWords tNumbers =
    own_agree _ _ _ _ c.if-lengths-h.false c.if-counts-n_jumps.false c.if-numbers-terms.false
    (sym c.parts_fit.ensures ∙ c.in_ok-parts_fit.was) (sym c.parts_fit-2.ensures ∙ c.in_ok-parts_fit-2.was) _ c.where_any-work.ensures

pub returns-then-lengths-h : goal.returns-then-lengths-h
unfolding lengths_answer
returns-then-lengths-h c tWords tNumbers = rw (ne_eqb _ _ c.if-lengths-h.true) c.mismatch.ensures

pub returns-then-counts-n_jumps : goal.returns-then-counts-n_jumps
unfolding lengths_answer
returns-then-counts-n_jumps c tWords tNumbers = rw (eq-eqb _ _ c.if-lengths-h.false, ne_eqb _ _ c.if-counts-n_jumps.true) c.mismatch-then-counts-n_jumps.ensures

pub returns-then-numbers-terms : goal.returns-then-numbers-terms
unfolding lengths_answer
returns-then-numbers-terms c tWords tNumbers = rw (eq-eqb _ _ c.if-lengths-h.false, eq-eqb _ _ c.if-counts-n_jumps.false, ne_eqb _ _ c.if-numbers-terms.true) c.mismatch-then-numbers-terms.ensures

pub returns-in_err-parts_fit : goal.returns-in_err-parts_fit
unfolding lengths_answer
returns-in_err-parts_fit c tWords tNumbers =
    rw (eq-eqb _ _ c.if-lengths-h.false, eq-eqb _ _ c.if-counts-n_jumps.false, eq-eqb _ _ c.if-numbers-terms.false, sym c.parts_fit.ensures ∙ c.in_err-parts_fit.was) (handed_on _ _ c.from_residual.ensures.1)

pub returns-in_err-parts_fit-2 : goal.returns-in_err-parts_fit-2
unfolding lengths_answer
returns-in_err-parts_fit-2 c tWords tNumbers =
    rw (eq-eqb _ _ c.if-lengths-h.false, eq-eqb _ _ c.if-counts-n_jumps.false, eq-eqb _ _ c.if-numbers-terms.false, sym c.parts_fit.ensures ∙ c.in_ok-parts_fit.was, sym c.parts_fit-2.ensures ∙ c.in_err-parts_fit-2.was) (handed_on _ _ c.from_residual-in_err-parts_fit-2.ensures.1)

pub returns : goal.returns
returns c tWords tNumbers = c.tables_fit.ensures ∙ sym (own (goal.at.returns c).After-where_any-work tWords tNumbers)
