-- SPDX-FileCopyrightText: 2026 The PPVM Authors
-- SPDX-License-Identifier: Apache-2.0

-- `algebra::pauli_mul` meets its contract: letters by the exclusive or, phases lane by lane. Assumes nothing.
use borrow.Author.Rules.{rules}
use Rattle.word.specs.Count.{tabulate}
use Rattle.word.proofs.Words.{sound}
use Rattle.word.proofs.Planes.{phased_eq, mul_is, added_none, added_more, added_two, phase_is}
use Rattle.word.proofs.algebra.pauli_mul.Goals as goal

pub returns : goal.returns
unfolding tabulate
returns c =
    phased_eq
    (mul_is _ _ (sound _ (search rules) (search rules) (λ i. search rules) (λ i. search rules)) (sound _ (search rules) (search rules) (λ i. search rules) (λ i. search rules)))
    (phase_is
    (added_two (added_more (added_more (added_none _ _) c.add_lane-first.ensures) c.add_lane-second.ensures) c.add_upper-all.ensures)
    c.phase_of-phase.ensures)
