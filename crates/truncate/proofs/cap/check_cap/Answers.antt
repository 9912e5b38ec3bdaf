-- SPDX-FileCopyrightText: 2026 The PPVM Authors
-- SPDX-License-Identifier: Apache-2.0

-- `cap::check_cap` meets its contract, answer by answer. Assumes nothing.
use mathlib.Core.Path.{sym, ◌∙◌}
use Rattle.refusal.proofs.Told.{handed_on}
use Rattle.truncate.proofs.ChecksLaws.{lengths_room}
use Rattle.truncate.proofs.CapLaws.{qubits_many, entries_many, protected_many, limit_many, lengths_refused, entries_answer}
use Rattle.truncate.proofs.cap.check_cap.Goals as goal

pub returns-then-n-gt-MAX_QUBITS : goal.returns-then-n-gt-MAX_QUBITS
returns-then-n-gt-MAX_QUBITS c =
    let a = c.args in
    qubits_many a.len a.words.now a.coeffs.now a.order.now a.work.now a.fixed.now a.kept.now a.n a.protected.now a.limit c.if-n-gt-MAX_QUBITS.true

pub returns-then-len-gt-MAX_WORDS : goal.returns-then-len-gt-MAX_WORDS
returns-then-len-gt-MAX_WORDS c =
    let a = c.args in
    entries_many a.len a.words.now a.coeffs.now a.order.now a.work.now a.fixed.now a.kept.now a.n a.protected.now a.limit c.if-n-gt-MAX_QUBITS.false c.if-len-gt-MAX_WORDS.true

pub returns-then-count-gt-MAX_WORDS : goal.returns-then-count-gt-MAX_WORDS
returns-then-count-gt-MAX_WORDS c =
    let a = c.args in
    protected_many a.len a.words.now a.coeffs.now a.order.now a.work.now a.fixed.now a.kept.now a.n a.protected.now a.limit c.if-n-gt-MAX_QUBITS.false c.if-len-gt-MAX_WORDS.false c.if-count-gt-MAX_WORDS.true

pub returns-then-limit-gt-MAX_WORDS : goal.returns-then-limit-gt-MAX_WORDS
returns-then-limit-gt-MAX_WORDS c =
    let a = c.args in
    limit_many a.len a.words.now a.coeffs.now a.order.now a.work.now a.fixed.now a.kept.now a.n a.protected.now a.limit c.if-n-gt-MAX_QUBITS.false c.if-len-gt-MAX_WORDS.false c.if-count-gt-MAX_WORDS.false c.if-limit-gt-MAX_WORDS.true

pub returns-in_err-check_lengths : goal.returns-in_err-check_lengths
returns-in_err-check_lengths c =
    let a = c.args in
    handed_on _ _ c.from_residual.ensures.1 ∙ lengths_refused a.len a.words.now a.coeffs.now a.order.now a.work.now a.fixed.now a.kept.now a.n a.protected.now a.limit c.if-n-gt-MAX_QUBITS.false c.if-len-gt-MAX_WORDS.false c.if-count-gt-MAX_WORDS.false c.if-limit-gt-MAX_WORDS.false _ (sym (c.check_lengths.ensures a.n) ∙ c.in_err-check_lengths.was)

pub check_entries-requires : goal.check_entries-requires
check_entries-requires c =
    let a = c.args in
    let h = lengths_room a.len a.words.now a.coeffs.now a.order.now a.work.now a.fixed.now a.kept.now a.n a.protected.now (sym (c.check_lengths.ensures a.n) ∙ c.in_ok-check_lengths.was) in
    (h.lanes_room, h.coeffs_room)

pub returns : goal.returns
returns c =
    let a = c.args in
    c.check_entries.ensures ∙ entries_answer a.len a.words.now a.coeffs.now a.order.now a.work.now a.fixed.now a.kept.now a.n a.protected.now a.limit c.if-n-gt-MAX_QUBITS.false c.if-len-gt-MAX_WORDS.false c.if-count-gt-MAX_WORDS.false c.if-limit-gt-MAX_WORDS.false (sym (c.check_lengths.ensures a.n) ∙ c.in_ok-check_lengths.was)
