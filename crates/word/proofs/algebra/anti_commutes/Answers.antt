-- SPDX-FileCopyrightText: 2026 The PPVM Authors
-- SPDX-License-Identifier: Apache-2.0

-- `algebra::anti_commutes` meets its contract: the parity of the phase. Assumes nothing.
use borrow.Author.Rules.{rules}
use Rattle.word.proofs.Words.{sound}
use Rattle.word.proofs.Planes.{xor_to, odd_is}
use Rattle.word.proofs.algebra.anti_commutes.Goals as goal

pub returns : goal.returns
unfolding xor_to
returns c = odd_is _ _ (sound _ (search rules) (search rules) (λ i. search rules) (λ i. search rules)) (sound _ (search rules) (search rules) (λ i. search rules) (λ i. search rules))
