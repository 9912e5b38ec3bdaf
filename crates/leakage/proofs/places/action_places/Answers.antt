-- SPDX-FileCopyrightText: 2026 The PPVM Authors
-- SPDX-License-Identifier: Apache-2.0

-- `places::action_places` meets its contract. Assumes nothing.
use Rattle.leakage.proofs.OutLaws.{action_places_are}
use Rattle.leakage.proofs.places.action_places.Goals as goal

pub returns : goal.returns
returns c =
    let a = c.args in
    action_places_are a.work_words a.work_sums c.smaller.ensures
