-- SPDX-FileCopyrightText: 2026 The PPVM Authors
-- SPDX-License-Identifier: Apache-2.0

-- `indexed::mark_jump` meets its contract: the words of each kind of entry. Assumes nothing.
use native.Mathlib.Omega.{arith}
use Rattle.rules_by_index.proofs.IndexLaws.{term_inside, terms_inside, left_inside, right_inside, term_marked, terms_marked, pair_marked}
use Rattle.rules_by_index.proofs.indexed.mark_jump.Goals as goal

pub word_at-w-requires : goal.word_at-w-requires
word_at-w-requires c =
    let a = c.args in
    term_inside a.places a.t_words.now c.requires.4 a.jump c.requires.3 _ _ c.in-Pauli.is

pub mark_range-requires : goal.mark_range-requires
mark_range-requires c =
    let a = c.args in
    let r = terms_inside a.places a.t_words.now c.requires.4 a.jump c.requires.3 _ _ _ c.in-General.is in
    (c.requires.0, c.requires.1, c.requires.2, r.0, r.1)

pub mark_range-requires-in-Pair : goal.mark_range-requires-in-Pair
mark_range-requires-in-Pair c =
    let a = c.args in
    let r = left_inside a.places a.t_words.now c.requires.4 a.jump c.requires.3 _ _ _ _ c.in-Pair.is in
    (c.requires.0, c.requires.1, c.requires.2, r.0, r.1)

pub mark_range-requires-in-Pair-2 : goal.mark_range-requires-in-Pair-2
mark_range-requires-in-Pair-2 c =
    let a = c.args in
    let r = right_inside a.places a.t_words.now c.requires.4 a.jump c.requires.3 _ _ _ _ c.in-Pair.is in
    (omega (arith, c.mark_range-in-Pair.auto.index, c.requires.0), c.requires.1, c.requires.2, r.0, r.1)

pub returns-in-Pauli : goal.returns-in-Pauli
returns-in-Pauli c =
    let a = c.args in
    term_marked a.row a.n a.j a.t_words.now a.jump a.index.now _ _ c.in-Pauli.is c.word_at-w.result c.word_at-w.ensures _ c.mark_word.ensures

pub returns-in-General : goal.returns-in-General
returns-in-General c =
    let a = c.args in
    terms_marked a.row a.n a.j a.t_words.now a.jump a.index.now _ _ _ c.in-General.is _ c.mark_range.ensures

pub returns-in-Pair : goal.returns-in-Pair
returns-in-Pair c =
    let a = c.args in
    pair_marked a.row a.n a.j a.t_words.now a.jump a.index.now _ _ _ _ c.in-Pair.is _ _ c.mark_range-in-Pair.ensures c.mark_range-in-Pair-2.ensures
