-- SPDX-FileCopyrightText: 2026 The PPVM Authors
-- SPDX-License-Identifier: Apache-2.0

-- What lasts over the loop of `items::parts_fit`.
use mathlib.Core.Path.{◌≡◌}
use lib.ListN.{drop}
use Rattle.model_build.specs.Built.{parts_fit}
use Rattle.model_build.proofs.items.parts_fit.Given as goal

abbrev pub invariant-loop-length : goal.invariant-loop-length
invariant-loop-length l = parts_fit l.lengths l.have ≡ parts_fit (drop l.length-index l.lengths) l.left
