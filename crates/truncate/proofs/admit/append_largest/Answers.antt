-- SPDX-FileCopyrightText: 2026 The PPVM Authors
-- SPDX-License-Identifier: Apache-2.0

-- `admit::append_largest` meets its contract. Assumes nothing.
use mathlib.Core.Path.{◌∙◌}
use Rattle.truncate.proofs.AdmitLaws.{append_asks, appended_are}
use Rattle.truncate.proofs.admit.append_largest.Goals as goal

pub choose_largest_of-requires : goal.choose_largest_of-requires
choose_largest_of-requires c =
    let z = c.clear_lanes in
    (z.auto.t ∙ c.requires.1, c.requires.0, c.requires.2, c.requires.6)

pub append_chosen-requires : goal.append_chosen-requires
append_chosen-requires c =
    let z = c.clear_lanes in
    let k = c.choose_largest_of in
    append_asks c.args.len c.args.words.now c.args.coeffs.now c.args.list.now c.args.values.now c.args.room _ _ _ z.ensures c.requires.1 k.ensures (k.auto.kept ∙ c.requires.2) c.requires.3 c.requires.4 c.requires.5

pub returns : goal.returns
returns c =
    let z = c.clear_lanes in
    let k = c.choose_largest_of in
    appended_are c.args.len c.args.words.now c.args.coeffs.now c.args.list.now c.args.values.now c.args.room _ _ _ z.ensures c.requires.1 k.ensures (k.auto.kept ∙ c.requires.2) _ _ _ c.append_chosen.ensures
