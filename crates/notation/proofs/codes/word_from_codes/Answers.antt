-- SPDX-FileCopyrightText: 2026 The PPVM Authors
-- SPDX-License-Identifier: Apache-2.0

-- `codes::word_from_codes` meets its contract: after each code the word has the letters read so far, and I above. Assumes nothing.
use mathlib.Core.Path.{refl}
use borrow.Author.Tests.{le-ltb}
use Rattle.notation.specs.Codes.{no_code}
use Rattle.notation.proofs.TextLaws.{passed_none, passed_more, read_none, read_more, codes_wide, code_refused, codes_read}
use native.Mathlib.Omega.{arith}
use Rattle.notation.proofs.codes.word_from_codes.Goals as goal

pub returns-then-n_qubits-gt-MAX_QUBITS : goal.returns-then-n_qubits-gt-MAX_QUBITS
returns-then-n_qubits-gt-MAX_QUBITS c = codes_wide _ c.if-n_qubits-gt-MAX_QUBITS.true

pub loop-q-init : goal.loop-q-init
loop-q-init c = (passed_none no_code _, read_none _ _ c.identity_word-w.ensures)

pub returns-then-code-gt3 : goal.returns-then-code-gt3
returns-then-code-gt3 c =
    let l = c.loop-q in
    let s = c.args.codes.now in
    code_refused s l.q c.if-n_qubits-gt-MAX_QUBITS.false l.invariant.0 (omega arith) c.if-code-gt3.true

pub loop-q-preserved : goal.loop-q-preserved
loop-q-preserved c =
    let l = c.loop-q in
    let s = c.args.codes.now in (
      passed_more no_code l.q s l.invariant.0 (omega arith) (le-ltb 3 _ c.if-code-gt3.false),
      read_more _ l.q l.w _ _ l.invariant.1 refl c.put_letter.ensures,
    )

pub returns : goal.returns
returns c =
    let l = c.loop-q in
    let s = c.args.codes.now in
    codes_read s l.q l.w c.if-n_qubits-gt-MAX_QUBITS.false (omega arith) l.invariant.0 l.invariant.1
