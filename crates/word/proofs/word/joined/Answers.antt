-- SPDX-FileCopyrightText: 2026 The PPVM Authors
-- SPDX-License-Identifier: Apache-2.0

-- `word::joined` meets its contract, lane by lane. Assumes nothing.
use mathlib.Core.Path.{refl}
use Rattle.word.specs.Count.{tabulate}
use Rattle.word.specs.Between.{join}
use Rattle.word.proofs.word.joined.Goals as goal

pub returns : goal.returns
unfolding join tabulate
returns c = refl
