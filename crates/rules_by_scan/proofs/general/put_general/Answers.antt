-- SPDX-FileCopyrightText: 2026 The PPVM Authors
-- SPDX-License-Identifier: Apache-2.0

-- `general::put_general` meets its contract: nothing, or the sandwiches and then what L†L adds. Assumes nothing.
use mathlib.Core.Path.{sym, ◌∙◌}
use mathlib.Core.List.{List, ◌++◌}
use Rattle.number.specs.Floats.{floats}
use Rattle.gksl.specs.Rules.{pairs_over, gather_over}
use Rattle.gksl.specs.Words.{pauli}
use Rattle.model.specs.Terms.{Term, terms_of}
use Rattle.rule_terms.specs.Adds.{sandwich, dampen}
use Rattle.rule_terms.proofs.PutsLaws.{puts_nothing, puts_same, puts_room, puts_full, puts_more}
use Rattle.rules_by_scan.proofs.GeneralLaws.{general_none, general_all}
use Rattle.rules_by_scan.proofs.general.put_general.Goals as goal

pub overlaps-requires : goal.overlaps-requires
overlaps-requires c = (c.requires.1.order, c.requires.1.lanes_long)

pub returns-then-not-overlaps : goal.returns-then-not-overlaps
returns-then-not-overlaps c = λ t ew en.
    let a = c.args in
    puts_nothing a.room a.len a.lanes.now a.sums.now c.requires.0 _ (general_none a.p t a.rate a.terms a.product a.words.now a.numbers.now ew en (sym (c.overlaps.ensures a.numbers.now c.requires.1.numbers_long) ∙ c.if-not-overlaps.true))

pub put_sandwiches-added-requires : goal.put_sandwiches-added-requires
put_sandwiches-added-requires c = (c.requires.0, c.requires.1)

pub returns-in_default : goal.returns-in_default
returns-in_default c = λ t ew en.
    let a = c.args in
    let A : List Term = pairs_over floats pauli (sandwich a.p a.rate) (terms_of a.words.now a.numbers.now a.terms) (terms_of a.words.now a.numbers.now a.terms) in
    let B : List Term = gather_over floats pauli (dampen a.p a.rate) (terms_of a.words.now a.numbers.now a.product) in
    puts_same a.room a.len a.lanes.now a.sums.now c.requires.0 _ _ (A ++ B) _ _ (sym (general_all a.p t a.rate a.terms a.product a.words.now a.numbers.now ew en (sym (c.overlaps.ensures a.numbers.now c.requires.1.numbers_long) ∙ c.if-not-overlaps.false)))
    (puts_full a.room a.len a.lanes.now a.sums.now c.requires.0 _ _ A B _ c.put_sandwiches-added.ensures c.in_default.is)

pub put_dampen-requires : goal.put_dampen-requires
put_dampen-requires c =
    let a = c.args in
    let A : List Term = pairs_over floats pauli (sandwich a.p a.rate) (terms_of a.words.now a.numbers.now a.terms) (terms_of a.words.now a.numbers.now a.terms) in
    let s = c.put_sandwiches-added in
    (puts_room a.room a.len a.lanes.now a.sums.now c.requires.0 _ _ A _ _ s.ensures c.in-Some.is s.auto.lanes s.auto.sums, c.requires.2)

pub returns : goal.returns
returns c = λ t ew en.
    let a = c.args in
    let A : List Term = pairs_over floats pauli (sandwich a.p a.rate) (terms_of a.words.now a.numbers.now a.terms) (terms_of a.words.now a.numbers.now a.terms) in
    let B : List Term = gather_over floats pauli (dampen a.p a.rate) (terms_of a.words.now a.numbers.now a.product) in
    puts_same a.room a.len a.lanes.now a.sums.now c.requires.0 _ _ (A ++ B) _ _ (sym (general_all a.p t a.rate a.terms a.product a.words.now a.numbers.now ew en (sym (c.overlaps.ensures a.numbers.now c.requires.1.numbers_long) ∙ c.if-not-overlaps.false)))
    (puts_more a.room a.len a.lanes.now a.sums.now c.requires.0 _ _ A B _ _ c.put_sandwiches-added.ensures c.in-Some.is _ _ _ c.put_dampen.ensures)
