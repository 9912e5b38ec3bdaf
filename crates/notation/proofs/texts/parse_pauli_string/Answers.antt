-- SPDX-FileCopyrightText: 2026 The PPVM Authors
-- SPDX-License-Identifier: Apache-2.0

-- `texts::parse_pauli_string` meets its contract, by what the first look finds. Assumes nothing.
use mathlib.Core.Path.{sym, ◌∙◌}
use Rattle.refusal.proofs.Told.{handed_on}
use Rattle.notation.proofs.TextLaws.{parse_wide, parse_foreign, parse_length, parse_letters, counted}
use Rattle.notation.proofs.texts.parse_pauli_string.Goals as goal

pub returns-then-n_qubits-gt-MAX_QUBITS : goal.returns-then-n_qubits-gt-MAX_QUBITS
returns-then-n_qubits-gt-MAX_QUBITS c = parse_wide _ _ c.if-n_qubits-gt-MAX_QUBITS.true

pub returns-then-got-n_qubits : goal.returns-then-got-n_qubits
returns-then-got-n_qubits c = parse_length _ _ c.if-n_qubits-gt-MAX_QUBITS.false _ (sym c.scan_text.ensures ∙ c.in_ok-got.was) c.if-got-n_qubits.true

pub read_letters-requires : goal.read_letters-requires
read_letters-requires c = counted _ _ c.if-n_qubits-gt-MAX_QUBITS.false _ (sym c.scan_text.ensures ∙ c.in_ok-got.was) c.if-got-n_qubits.false

pub returns-in_err-got : goal.returns-in_err-got
returns-in_err-got c =
    handed_on _ _ c.from_residual.ensures.1 ∙ parse_foreign _ _ c.if-n_qubits-gt-MAX_QUBITS.false _ (sym c.scan_text.ensures ∙ c.in_err-got.was)

pub returns : goal.returns
returns c = c.read_letters.ensures ∙ parse_letters _ _ c.if-n_qubits-gt-MAX_QUBITS.false _ (sym c.scan_text.ensures ∙ c.in_ok-got.was) c.if-got-n_qubits.false
