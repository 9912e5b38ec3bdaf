-- SPDX-FileCopyrightText: 2026 The PPVM Authors
-- SPDX-License-Identifier: Apache-2.0

-- `pairs::put_pair_entry` meets its contract. Assumes nothing.
use mathlib.Core.Path.{sym, ap, ◌∙◌}
use Rattle.model.specs.Tested.{bad_jump}
use Rattle.rule_terms.specs.Adds.{pair_adds}
use Rattle.rule_terms.proofs.PutsLaws.{puts_nothing, puts_same}
use Rattle.rules_by_scan.proofs.ItemLaws.{pair_room}
use Rattle.rules_by_scan.proofs.PairItems.{pauli_none, general_none}
use Rattle.rules_by_scan.proofs.pairs.put_pair_entry.Goals as goal

pub put_pair-requires : goal.put_pair-requires
put_pair-requires c =
    let a = c.args in
    let r = pair_room a.places a.t_words.now a.t_numbers.now c.requires.2 c.requires.3 _ _ _ _ (ap (bad_jump a.places) (sym c.in-Pair.is) ∙ c.requires.1) in
    (c.requires.0, r.0, r.1, r.2, r.3)

pub returns-in-Pauli : goal.returns-in-Pauli
returns-in-Pauli c = λ t ew en.
    let a = c.args in
    puts_nothing a.room a.len a.lanes.now a.sums.now c.requires.0 _ (pauli_none a.p t a.t_words.now a.t_numbers.now ew en a.jump _ _ c.in-Pauli.is)

pub returns-in-General : goal.returns-in-General
returns-in-General c = λ t ew en.
    let a = c.args in
    puts_nothing a.room a.len a.lanes.now a.sums.now c.requires.0 _ (general_none a.p t a.t_words.now a.t_numbers.now ew en a.jump _ _ _ c.in-General.is)

pub returns-in-Pair : goal.returns-in-Pair
returns-in-Pair c = λ t ew en.
    let a = c.args in
    puts_same a.room a.len a.lanes.now a.sums.now c.requires.0 _ _ _ _ _ (ap (pair_adds a.p t) (sym c.in-Pair.is)) (c.put_pair.ensures t ew en)
