-- SPDX-FileCopyrightText: 2026 The PPVM Authors
-- SPDX-License-Identifier: Apache-2.0

-- `has_word` meets its contract. Assumes nothing.
use mathlib.Core.Path.{ap, ◌∙◌}
use mathlib.Core.Bool.{not}
use Prim.Native.Nat.{ℕ}
use lib.Dec.{eqb}
use Rattle.word.specs.Flat.{words}
use Rattle.slots.proofs.SlotLaws.{holds}
use Rattle.slots.proofs.has_word.Goals as goal

pub returns : goal.returns
returns c =
    ap (λ (k : ℕ). not (eqb k 0)) c.last_place-at.ensures ∙ holds c.args.w (words c.args.lanes.now)
