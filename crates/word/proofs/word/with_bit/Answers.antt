-- SPDX-FileCopyrightText: 2026 The PPVM Authors
-- SPDX-License-Identifier: Apache-2.0

-- `word::with_bit` meets its contract. Assumes nothing.
use Rattle.word.proofs.Digits.{bit_put}
use Rattle.word.proofs.word.with_bit.Goals as goal

pub returns : goal.returns
returns c j h = bit_put 64 c.args.lane c.args.k c.args.b j c.requires.0 c.requires.1 h
