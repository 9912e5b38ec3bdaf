-- SPDX-FileCopyrightText: 2026 The PPVM Authors
-- SPDX-License-Identifier: Apache-2.0

-- `pairs::factor_of` meets its contract. Assumes nothing.
use Rattle.kossakowski.proofs.PairLaws.{factor_is}
use Rattle.kossakowski.proofs.pairs.factor_of.Goals as goal

pub returns : goal.returns
returns c = factor_is _ _ _ _ _ _ c.conj.ensures c.mul-bare.ensures c.mul.ensures
