-- SPDX-FileCopyrightText: 2026 The PPVM Authors
-- SPDX-License-Identifier: Apache-2.0

-- `places::row_places` meets its contract. Assumes nothing.
use Rattle.leakage.proofs.OutLaws.{row_places_are}
use Rattle.leakage.proofs.places.row_places.Goals as goal

pub returns : goal.returns
returns c =
    let a = c.args in
    row_places_are a.cand_words a.cand_sums a.place_order a.place_work c.smaller-rows.ensures c.smaller-places.ensures c.smaller.ensures
