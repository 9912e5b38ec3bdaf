-- SPDX-FileCopyrightText: 2026 The PPVM Authors
-- SPDX-License-Identifier: Apache-2.0

-- `check::check_rows` meets its contract, answer by answer. Assumes nothing.
use mathlib.Core.Path.{◌∙◌}
use Prim.Native.Nat.{◌+◌}
use lib.ListN.{length}
use Rattle.csr.proofs.CheckLaws.{rows_above, offsets_differ, rows_accepted}
use borrow.Author.Tests.{eq-eqb, ne_eqb}
use Rattle.csr.proofs.check.check_rows.Goals as goal

pub returns-then-rows-gt-MAX_WORDS : goal.returns-then-rows-gt-MAX_WORDS
returns-then-rows-gt-MAX_WORDS c = let a = c.args in rows_above a.rows a.offsets.now c.if-rows-gt-MAX_WORDS.true

pub returns-then-offsets-rows : goal.returns-then-offsets-rows
returns-then-offsets-rows c =
    let a = c.args in
    c.mismatch.ensures ∙ offsets_differ a.rows a.offsets.now c.if-rows-gt-MAX_WORDS.false (ne_eqb (length a.offsets.now) (a.rows + 1) c.if-offsets-rows.true)

pub returns : goal.returns
returns c =
    let a = c.args in
    rows_accepted a.rows a.offsets.now c.if-rows-gt-MAX_WORDS.false (eq-eqb (length a.offsets.now) (a.rows + 1) c.if-offsets-rows.false)
