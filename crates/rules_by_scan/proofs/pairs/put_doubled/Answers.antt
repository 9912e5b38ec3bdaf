-- SPDX-FileCopyrightText: 2026 The PPVM Authors
-- SPDX-License-Identifier: Apache-2.0

-- `pairs::put_doubled` meets its contract: the factors, then the words of the product with p on both sides. Assumes nothing.
use mathlib.Core.List.{List}
use Prim.Native.Nat.{◌+◌, ◌*◌}
use Rattle.number.specs.Floats.{floats}
use Rattle.gksl.specs.Rules.{gather_over}
use Rattle.gksl.specs.Words.{pauli}
use Rattle.model.specs.Terms.{Term, terms_in, terms_of}
use Rattle.model.specs.Tested.{width}
use Rattle.rule_terms.specs.Adds.{doubled, each_factor, both_sides}
use Rattle.rule_terms.proofs.PutsLaws.{puts_room, puts_full, puts_more}
use Rattle.rules_by_scan.proofs.pairs.put_doubled.Goals as goal

pub put_factors-added-requires : goal.put_factors-added-requires
put_factors-added-requires c = (c.requires.0, c.requires.1, c.requires.2, c.requires.3)

pub returns-in_default : goal.returns-in_default
returns-in_default c =
    let a = c.args in
    let A : List Term = each_factor a.p (doubled a.p) (width a.right) (terms_of a.t_words.now a.t_numbers.now a.left) (terms_in a.t_words.now a.t_numbers.now a.factors (a.factors + width a.left * width a.right)) in
    let B : List Term = gather_over floats pauli (both_sides a.p) (terms_of a.t_words.now a.t_numbers.now a.product) in
    puts_full a.room a.len a.lanes.now a.sums.now c.requires.0 _ _ A B _ c.put_factors-added.ensures c.in_default.is

pub put_both-requires : goal.put_both-requires
put_both-requires c =
    let a = c.args in
    let A : List Term = each_factor a.p (doubled a.p) (width a.right) (terms_of a.t_words.now a.t_numbers.now a.left) (terms_in a.t_words.now a.t_numbers.now a.factors (a.factors + width a.left * width a.right)) in
    let f = c.put_factors-added in
    (puts_room a.room a.len a.lanes.now a.sums.now c.requires.0 _ _ A _ _ f.ensures c.in-Some.is f.auto.lanes f.auto.sums, c.requires.4)

pub returns : goal.returns
returns c =
    let a = c.args in
    let A : List Term = each_factor a.p (doubled a.p) (width a.right) (terms_of a.t_words.now a.t_numbers.now a.left) (terms_in a.t_words.now a.t_numbers.now a.factors (a.factors + width a.left * width a.right)) in
    let B : List Term = gather_over floats pauli (both_sides a.p) (terms_of a.t_words.now a.t_numbers.now a.product) in
    puts_more a.room a.len a.lanes.now a.sums.now c.requires.0 _ _ A B _ _ c.put_factors-added.ensures c.in-Some.is _ _ _ c.put_both.ensures
