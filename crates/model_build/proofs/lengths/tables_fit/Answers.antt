-- SPDX-FileCopyrightText: 2026 The PPVM Authors
-- SPDX-License-Identifier: Apache-2.0

-- `lengths::tables_fit` meets its contract: the tests before a return were passed. Assumes nothing.
use borrow.Author.Tests.{lt-ltb, le-ltb}
use Rattle.model_build.proofs.lengths.tables_fit.Goals as goal

pub mismatch-requires : goal.mismatch-requires
mismatch-requires c = tt

pub returns-then-h_words-items : goal.returns-then-h_words-items
returns-then-h_words-items c = rw (lt-ltb _ _ c.if-h_words-items.true) c.mismatch.ensures

pub mismatch-requires-then-h_coeffs-items : goal.mismatch-requires-then-h_coeffs-items
mismatch-requires-then-h_coeffs-items c = tt

pub returns-then-h_coeffs-items : goal.returns-then-h_coeffs-items
returns-then-h_coeffs-items c = rw (le-ltb _ _ c.if-h_words-items.false, lt-ltb _ _ c.if-h_coeffs-items.true) c.mismatch-then-h_coeffs-items.ensures

pub mismatch-requires-then-jumps-n_jumps : goal.mismatch-requires-then-jumps-n_jumps
mismatch-requires-then-jumps-n_jumps c = tt

pub returns-then-jumps-n_jumps : goal.returns-then-jumps-n_jumps
returns-then-jumps-n_jumps c = rw (le-ltb _ _ c.if-h_words-items.false, le-ltb _ _ c.if-h_coeffs-items.false, lt-ltb _ _ c.if-jumps-n_jumps.true) c.mismatch-then-jumps-n_jumps.ensures

pub mismatch-requires-then-rates-n_jumps : goal.mismatch-requires-then-rates-n_jumps
mismatch-requires-then-rates-n_jumps c = tt

pub returns-then-rates-n_jumps : goal.returns-then-rates-n_jumps
returns-then-rates-n_jumps c = rw (le-ltb _ _ c.if-h_words-items.false, le-ltb _ _ c.if-h_coeffs-items.false, le-ltb _ _ c.if-jumps-n_jumps.false, lt-ltb _ _ c.if-rates-n_jumps.true) c.mismatch-then-rates-n_jumps.ensures

pub mismatch-requires-then-words-work : goal.mismatch-requires-then-words-work
mismatch-requires-then-words-work c = tt

pub returns-then-words-work : goal.returns-then-words-work
returns-then-words-work c = rw (le-ltb _ _ c.if-h_words-items.false, le-ltb _ _ c.if-h_coeffs-items.false, le-ltb _ _ c.if-jumps-n_jumps.false, le-ltb _ _ c.if-rates-n_jumps.false, lt-ltb _ _ c.if-words-work.true) c.mismatch-then-words-work.ensures

pub mismatch-requires-then-numbers-work : goal.mismatch-requires-then-numbers-work
mismatch-requires-then-numbers-work c = tt

pub returns-then-numbers-work : goal.returns-then-numbers-work
returns-then-numbers-work c = rw (le-ltb _ _ c.if-h_words-items.false, le-ltb _ _ c.if-h_coeffs-items.false, le-ltb _ _ c.if-jumps-n_jumps.false, le-ltb _ _ c.if-rates-n_jumps.false, le-ltb _ _ c.if-words-work.false, lt-ltb _ _ c.if-numbers-work.true) c.mismatch-then-numbers-work.ensures

pub returns : goal.returns
returns c = rw (le-ltb _ _ c.if-h_words-items.false, le-ltb _ _ c.if-h_coeffs-items.false, le-ltb _ _ c.if-jumps-n_jumps.false, le-ltb _ _ c.if-rates-n_jumps.false, le-ltb _ _ c.if-words-work.false, le-ltb _ _ c.if-numbers-work.false)
