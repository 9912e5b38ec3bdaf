-- SPDX-FileCopyrightText: 2026 The PPVM Authors
-- SPDX-License-Identifier: Apache-2.0

-- `word::shares_qubit` meets its contract: a bit in common. Assumes nothing.
use borrow.Author.Rules.{rules}
use Rattle.word.proofs.Words.{sound}
use Rattle.word.proofs.Tests.{or_to, share_is}
use Rattle.word.proofs.word.shares_qubit.Goals as goal

pub returns : goal.returns
unfolding or_to
returns c = share_is _ _ (sound _ (search rules) (search rules) (λ i. search rules) (λ i. search rules)) (sound _ (search rules) (search rules) (λ i. search rules) (λ i. search rules))
