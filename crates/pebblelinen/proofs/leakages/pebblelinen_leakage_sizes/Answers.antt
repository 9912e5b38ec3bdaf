-- SPDX-FileCopyrightText: 2026 The PPVM Authors
-- SPDX-License-Identifier: Apache-2.0

-- `leakages::pebblelinen_leakage_sizes` meets its contract. Assumes nothing.
use mathlib.Core.Path.{refl}
use Rattle.pebblelinen.specs.Leakages.{leakage_sizes}
use Rattle.pebblelinen.proofs.leakages.pebblelinen_leakage_sizes.Goals as goal

pub returns : goal.returns
unfolding leakage_sizes
returns c =
    rw (← c.smaller.ensures, ← c.where_any-rows.ensures, ← c.where_any-row.ensures, ← c.smaller-e.ensures, ← c.where_any.ensures, ← c.smaller-p.ensures, ← c.smaller-t.ensures, ← c.smaller-c.ensures)
    refl
