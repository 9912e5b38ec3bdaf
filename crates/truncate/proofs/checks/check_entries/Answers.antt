-- SPDX-FileCopyrightText: 2026 The PPVM Authors
-- SPDX-License-Identifier: Apache-2.0

-- `checks::check_entries` meets its contract, answer by answer. Assumes nothing.
use Rattle.truncate.proofs.ChecksLaws.{word_outside, protected_outside, coefficient_bad, entries_accepted}
use Rattle.truncate.proofs.checks.check_entries.Goals as goal

pub returns-then-outside-len : goal.returns-then-outside-len
returns-then-outside-len c =
    let a = c.args in
    word_outside a.len a.words.now a.coeffs.now a.n a.protected.now _ c.first_outside-outside.ensures c.if-outside-len.true

pub returns-then-beyond-count : goal.returns-then-beyond-count
returns-then-beyond-count c =
    let a = c.args in
    protected_outside a.len a.words.now a.coeffs.now a.n a.protected.now _ c.first_outside-outside.ensures c.if-outside-len.false _ c.first_outside-beyond.ensures c.if-beyond-count.true

pub returns-then-bad-len : goal.returns-then-bad-len
returns-then-bad-len c =
    let a = c.args in
    coefficient_bad a.len a.words.now a.coeffs.now a.n a.protected.now _ c.first_outside-outside.ensures c.if-outside-len.false _ c.first_outside-beyond.ensures c.if-beyond-count.false _ c.first_not_finite-bad.ensures c.if-bad-len.true

pub returns : goal.returns
returns c =
    let a = c.args in
    entries_accepted a.len a.words.now a.coeffs.now a.n a.protected.now _ c.first_outside-outside.ensures c.if-outside-len.false _ c.first_outside-beyond.ensures c.if-beyond-count.false _ c.first_not_finite-bad.ensures c.if-bad-len.false
