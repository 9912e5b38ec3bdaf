-- SPDX-FileCopyrightText: 2026 The PPVM Authors
-- SPDX-License-Identifier: Apache-2.0

-- `items::put_jump` meets its contract. Assumes nothing.
use mathlib.Core.Path.{sym, ap, ◌∙◌}
use Rattle.model.specs.Tested.{bad_jump}
use Rattle.rule_terms.specs.Adds.{jump_adds}
use Rattle.rule_terms.proofs.PutsLaws.{puts_nothing, puts_same}
use Rattle.rules_by_scan.proofs.ItemLaws.{pauli_room, general_room, pauli_adds, pair_adds}
use Rattle.rules_by_scan.proofs.items.put_jump.Goals as goal

pub word_at-w-requires : goal.word_at-w-requires
word_at-w-requires c =
    let a = c.args in
    pauli_room a.places a.t_words.now a.t_numbers.now c.requires.2 c.requires.3 _ _ (ap (bad_jump a.places) (sym c.in-Pauli.is) ∙ c.requires.1)

pub put_general-requires : goal.put_general-requires
put_general-requires c =
    let a = c.args in
    let r = general_room a.places a.t_words.now a.t_numbers.now c.requires.2 c.requires.3 _ _ _ (ap (bad_jump a.places) (sym c.in-General.is) ∙ c.requires.1) in
    (c.requires.0, r.0, r.1)

pub returns-in-Pauli : goal.returns-in-Pauli
returns-in-Pauli c = λ t ew en.
    let a = c.args in
    puts_same a.room a.len a.lanes.now a.sums.now c.requires.0 _ _ _ _ _ (pauli_adds a.p t a.t_words.now a.t_numbers.now ew en a.jump _ _ c.word_at-w.result c.in-Pauli.is c.word_at-w.ensures)
    c.put_pauli.ensures

pub returns-in-General : goal.returns-in-General
returns-in-General c = λ t ew en.
    let a = c.args in
    puts_same a.room a.len a.lanes.now a.sums.now c.requires.0 _ _ _ _ _ (ap (jump_adds a.p t) (sym c.in-General.is)) (c.put_general.ensures t ew en)

pub returns-in-Pair : goal.returns-in-Pair
returns-in-Pair c = λ t ew en.
    let a = c.args in
    puts_nothing a.room a.len a.lanes.now a.sums.now c.requires.0 _ (pair_adds a.p t a.t_words.now a.t_numbers.now ew en a.jump _ _ _ _ c.in-Pair.is)
