-- SPDX-FileCopyrightText: 2026 The PPVM Authors
-- SPDX-License-Identifier: Apache-2.0

-- `word::covers_word` meets its contract: no bit is missing. Assumes nothing.
use borrow.Author.Rules.{rules}
use Rattle.word.proofs.Words.{sound}
use Rattle.word.proofs.Tests.{or_to}
use Rattle.word.proofs.CoverLaws.{covers_is}
use Rattle.word.proofs.word.covers_word.Goals as goal

pub returns : goal.returns
unfolding or_to
returns c = covers_is _ _ (sound _ (search rules) (search rules) (λ i. search rules) (λ i. search rules)) (sound _ (search rules) (search rules) (λ i. search rules) (λ i. search rules))
