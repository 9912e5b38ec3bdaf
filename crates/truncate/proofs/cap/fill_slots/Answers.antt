-- SPDX-FileCopyrightText: 2026 The PPVM Authors
-- SPDX-License-Identifier: Apache-2.0

-- `cap::fill_slots` meets its contract. Assumes nothing.
use Rattle.truncate.proofs.CapLaws.{slots_filled}
use Rattle.truncate.proofs.cap.fill_slots.Goals as goal

pub returns : goal.returns
returns c =
    let a = c.args in
    slots_filled a.coeffs.now a.fixed.now _ a.limit _ _ c.count_flagged-held.ensures c.room_left-slots.ensures c.choose_largest_of.ensures
