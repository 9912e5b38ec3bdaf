-- SPDX-FileCopyrightText: 2026 The PPVM Authors
-- SPDX-License-Identifier: Apache-2.0

-- `jumps::store_operator` meets its contract. Assumes nothing.
use mathlib.Core.Path.{refl, sym, ◌∙◌}
use Rattle.model.specs.Between.{onto}
use Rattle.model_build.proofs.OperatorLaws.{terms_room, pauli_stored, kept_room, general_stored}
use borrow.Author.Rules.{rules}
use Rattle.model_build.proofs.jumps.store_operator.Goals as goal

pub store_terms-requires : goal.store_terms-requires
store_terms-requires c = let a = c.args in terms_room a.rate a.k a.words.now a.sums.now c.requires.0 a.j a.at a.jumps.now a.rates.now a.t_words.now a.t_numbers.now c.requires.1

pub offset_bounds-rates-j : goal.offset_bounds-rates-j
offset_bounds-rates-j c = search (c.well_formed, c.requires.1.rate_room, rules)

pub bounds-rates-j : goal.bounds-rates-j
bounds-rates-j c = c.requires.1.rate_room

pub lay_entry-requires : goal.lay_entry-requires
lay_entry-requires c = c.requires.1.entry_room

pub returns-then-is_pauli : goal.returns-then-is_pauli
returns-then-is_pauli c =
    let a = c.args in
    pauli_stored a.rate a.k a.words.now a.sums.now c.requires.0 a.j a.at a.jumps.now a.rates.now a.t_words.now a.t_numbers.now c.requires.1 _ _ c.store_terms.ensures _ _ (sym c.is_pauli.ensures ∙ c.if-is_pauli.true) (onto c.term_at-t.result) c.term_at-t.ensures c.lay_entry.ensures refl

pub store_kept-last-requires : goal.store_kept-last-requires
store_kept-last-requires c =
    let a = c.args in
    let s = c.store_terms in
    let p = c.precompute_adag_b-count in
    kept_room a.rate a.k a.words.now a.sums.now c.requires.0 a.j a.at a.jumps.now a.rates.now a.t_words.now a.t_numbers.now c.requires.1 _ _ s.ensures (sym c.is_pauli.ensures ∙ c.if-is_pauli.false) p.result _ _ p.ensures p.auto.words p.auto.numbers s.auto.t_words s.auto.t_numbers

pub lay_entry-requires-2 : goal.lay_entry-requires-2
lay_entry-requires-2 c = c.requires.1.entry_room

pub returns : goal.returns
returns c =
    let a = c.args in
    let p = c.precompute_adag_b-count in
    let k = c.store_kept-last in
    general_stored a.rate a.k a.words.now a.sums.now c.requires.0 a.j a.at a.jumps.now a.rates.now a.t_words.now a.t_numbers.now c.requires.1 _ _ c.store_terms.ensures (sym c.is_pauli.ensures ∙ c.if-is_pauli.false) p.result _ _ p.ensures _ _ k.result _ _ k.ensures c.lay_entry-2.ensures refl
