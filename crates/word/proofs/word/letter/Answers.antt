-- SPDX-FileCopyrightText: 2026 The PPVM Authors
-- SPDX-License-Identifier: Apache-2.0

-- `word::letter` meets its contract. Assumes nothing.
use mathlib.Core.Path.{refl}
use Rattle.word.specs.Word.{bit, letter_in}
use Rattle.word.proofs.word.letter.Goals as goal

pub returns : goal.returns
unfolding letter_in bit
returns c = refl
