-- SPDX-FileCopyrightText: 2026 The PPVM Authors
-- SPDX-License-Identifier: Apache-2.0

-- `codes::codes_from_word` meets its contract: after q turns the first q places have their codes. Assumes nothing.
use mathlib.Core.Path.{◌≡◌, refl, sym, ap, ◌∙◌}
use Prim.Native.Nat.{ℕ}
use mathlib.Core.List.{List, ◌++◌}
use lib.ListN.{drop, set}
use Rattle.word.specs.Count.{tabulate}
use Rattle.word.specs.Word.{letter_at}
use Rattle.notation.proofs.TextLaws.{written_more, write_wide, write_short, write_outside, write_accepted}
use native.Mathlib.Omega.{arith}
use Rattle.notation.proofs.codes.codes_from_word.Goals as goal

pub returns-then-n_qubits-gt-MAX_QUBITS : goal.returns-then-n_qubits-gt-MAX_QUBITS
returns-then-n_qubits-gt-MAX_QUBITS c = write_wide _ _ _ c.if-n_qubits-gt-MAX_QUBITS.true

pub returns-then-out-n_qubits : goal.returns-then-out-n_qubits
returns-then-out-n_qubits c = write_short _ _ _ c.if-n_qubits-gt-MAX_QUBITS.false c.if-out-n_qubits.true

pub returns-then-reaches_beyond : goal.returns-then-reaches_beyond
returns-then-reaches_beyond c = write_outside _ _ _ c.if-n_qubits-gt-MAX_QUBITS.false c.if-out-n_qubits.false (sym c.reaches_beyond.ensures ∙ c.if-reaches_beyond.true)

pub loop-q-init : goal.loop-q-init
unfolding tabulate
loop-q-init c = refl

pub loop-q-preserved : goal.loop-q-preserved
loop-q-preserved c =
    let l = c.loop-q in
    let a = c.args in
    ap (λ (r : List ℕ). set r l.q c.letter.result) l.invariant ∙ ap (set (tabulate l.q (letter_at a.w) ++ drop l.q a.out.now) l.q) c.letter.ensures ∙ written_more a.out.now l.q (letter_at a.w) (omega arith)

pub returns : goal.returns
returns c =
    let l = c.loop-q in
    let a = c.args in
    let e : l.q ≡ a.n_qubits = omega arith in
    write_accepted a.w a.n_qubits a.out.now c.if-n_qubits-gt-MAX_QUBITS.false c.if-out-n_qubits.false (sym c.reaches_beyond.ensures ∙ c.if-reaches_beyond.false) l.out
    (l.invariant ∙ ap (λ (k : ℕ). tabulate k (letter_at a.w) ++ drop k a.out.now) e)
