-- SPDX-FileCopyrightText: 2026 The PPVM Authors
-- SPDX-License-Identifier: Apache-2.0

-- `flat::word_at` meets its contract. Assumes nothing.
use Rattle.word.specs.Count.{tabulate}
use Rattle.word.proofs.FlatLaws.{word_read}
use native.Mathlib.Omega.{arith}
use Rattle.word.proofs.flat.word_at.Goals as goal

pub returns : goal.returns
unfolding tabulate
returns c = word_read _ _ (omega arith)
