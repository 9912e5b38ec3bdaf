-- SPDX-FileCopyrightText: 2026 The PPVM Authors
-- SPDX-License-Identifier: Apache-2.0

-- `words::pebblelinen_fits_register` meets its contract: a register that is too large, or whether the word stays inside. Assumes nothing.
use mathlib.Core.Bool.{false, not}
use borrow.Author.Tests.{lt-ltb, le-ltb}
use Rattle.word.specs.Word.{max_qubits}
use Rattle.pebblelinen.specs.Words.{fitting_of}
use Rattle.pebblelinen.proofs.words.pebblelinen_fits_register.Goals as goal

pub returns-then-n_qubits-gt-MAX_QUBITS : goal.returns-then-n_qubits-gt-MAX_QUBITS
unfolding fitting_of
returns-then-n_qubits-gt-MAX_QUBITS c = rw (lt-ltb max_qubits c.args.n_qubits c.if-n_qubits-gt-MAX_QUBITS.true) (λ i. record { status = c.from.ensures i; fits = false })

pub returns : goal.returns
unfolding fitting_of
returns c =
    rw (le-ltb max_qubits c.args.n_qubits c.if-n_qubits-gt-MAX_QUBITS.false)
    (λ i. record { status = record { refusal = 0; first = 0; second = 0 }; fits = not (c.reaches_beyond.ensures i) })
