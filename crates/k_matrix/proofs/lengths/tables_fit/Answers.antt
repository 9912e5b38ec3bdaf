-- SPDX-FileCopyrightText: 2026 The PPVM Authors
-- SPDX-License-Identifier: Apache-2.0

-- `lengths::tables_fit` meets its contract: the tests before a return were passed. Assumes nothing.
use borrow.Author.Tests.{lt-ltb, le-ltb}
use Rattle.k_matrix.proofs.lengths.tables_fit.Goals as goal

pub mismatch-requires : goal.mismatch-requires
mismatch-requires c = tt

pub returns-then-jumps-entries : goal.returns-then-jumps-entries
returns-then-jumps-entries c = rw (lt-ltb _ _ c.if-jumps-entries.true) c.mismatch.ensures

pub mismatch-requires-then-rates-entries : goal.mismatch-requires-then-rates-entries
mismatch-requires-then-rates-entries c = tt

pub returns-then-rates-entries : goal.returns-then-rates-entries
returns-then-rates-entries c = rw (le-ltb _ _ c.if-jumps-entries.false, lt-ltb _ _ c.if-rates-entries.true) c.mismatch-then-rates-entries.ensures

pub mismatch-requires-then-words-work : goal.mismatch-requires-then-words-work
mismatch-requires-then-words-work c = tt

pub returns-then-words-work : goal.returns-then-words-work
returns-then-words-work c = rw (le-ltb _ _ c.if-jumps-entries.false, le-ltb _ _ c.if-rates-entries.false, lt-ltb _ _ c.if-words-work.true) c.mismatch-then-words-work.ensures

pub mismatch-requires-then-numbers-work : goal.mismatch-requires-then-numbers-work
mismatch-requires-then-numbers-work c = tt

pub returns-then-numbers-work : goal.returns-then-numbers-work
returns-then-numbers-work c = rw (le-ltb _ _ c.if-jumps-entries.false, le-ltb _ _ c.if-rates-entries.false, le-ltb _ _ c.if-words-work.false, lt-ltb _ _ c.if-numbers-work.true) c.mismatch-then-numbers-work.ensures

pub returns : goal.returns
returns c = rw (le-ltb _ _ c.if-jumps-entries.false, le-ltb _ _ c.if-rates-entries.false, le-ltb _ _ c.if-words-work.false, le-ltb _ _ c.if-numbers-work.false)
