-- SPDX-FileCopyrightText: 2026 The PPVM Authors
-- SPDX-License-Identifier: Apache-2.0

-- `general::put_sandwich_row` meets its contract: after each turn the sandwiches so far are put. Assumes nothing.
use mathlib.Core.Path.{ap}
use mathlib.Core.List.{◌∷◌, []}
use Rattle.word.specs.declared.algebra.Phased.{Phased}
use Rattle.word.proofs.WordLaws.{phase_lt}
use Rattle.model.specs.Terms.{terms_of}
use Rattle.rule_terms.specs.Steps.{sandwich_from}
use Rattle.rule_terms.proofs.PutsLaws.{puts_one, puts_same}
use Rattle.rules_by_scan.proofs.GatherLaws.{gather_start, gather_room, gather_next, gather_full, gather_done, single_term}
use Rattle.rules_by_scan.proofs.GeneralLaws.{sandwich_row}
use native.Mathlib.Omega.{arith}
use Rattle.model.specs.Between.{onto}
use Rattle.rules_by_scan.proofs.general.put_sandwich_row.Goals as goal

pub loop-j-init : goal.loop-j-init
loop-j-init c = let a = c.args in gather_start (λ b. sandwich_from c.pauli_mul-left.result a.rate (onto a.a) b ∷ []) a.range a.room a.len a.words.now a.numbers.now a.lanes.now a.sums.now c.requires.0 c.requires.1

pub sandwich_term-t-requires : goal.sandwich_term-t-requires
sandwich_term-t-requires c =
    let a = c.args in
    let e = ap (λ (q : Phased). q.phase) c.pauli_mul-left.ensures in
    omega (arith, e, phase_lt a.a.word a.p)

pub put_at-added-requires : goal.put_at-added-requires
put_at-added-requires c =
    let a = c.args in
    let l = c.loop-j in
    let h = gather_room (λ b. sandwich_from c.pauli_mul-left.result a.rate (onto a.a) b ∷ []) a.range a.room a.len a.words.now a.numbers.now a.lanes.now a.sums.now c.requires.0 c.requires.1 l.lanes l.sums l.count l.j l.invariant in
    (h.lanes_long, h.sums_long, h.inside, h.rises)

pub returns-in_default : goal.returns-in_default
returns-in_default c =
    let a = c.args in
    let l = c.loop-j in
    puts_same a.room a.len a.lanes.now a.sums.now c.requires.0 _ _ _ _ _ (sandwich_row (onto a.a) a.p _ a.rate (terms_of a.words.now a.numbers.now a.range) c.pauli_mul-left.ensures)
    (gather_full (λ b. sandwich_from c.pauli_mul-left.result a.rate (onto a.a) b ∷ []) a.range a.room a.len a.words.now a.numbers.now a.lanes.now a.sums.now c.requires.0 c.requires.1 l.lanes l.sums l.count l.j l.invariant c.loop-j-test.true
    (onto c.sandwich_term-t.result ∷ []) (single_term (sandwich_from c.pauli_mul-left.result a.rate (onto a.a)) _ _ _ c.sandwich_term-t.ensures c.term_at-b.ensures) _ _ c.put_at-added.result
    (puts_one a.room l.count l.lanes l.sums (gather_room (λ b. sandwich_from c.pauli_mul-left.result a.rate (onto a.a) b ∷ []) a.range a.room a.len a.words.now a.numbers.now a.lanes.now a.sums.now c.requires.0 c.requires.1 l.lanes l.sums l.count l.j l.invariant) _ _ (onto c.sandwich_term-t.result) c.put_at-added.result c.put_at-added.ensures) c.in_default.is)

pub loop-j-preserved : goal.loop-j-preserved
loop-j-preserved c =
    let a = c.args in
    let l = c.loop-j in
    gather_next (λ b. sandwich_from c.pauli_mul-left.result a.rate (onto a.a) b ∷ []) a.range a.room a.len a.words.now a.numbers.now a.lanes.now a.sums.now c.requires.0 c.requires.1 l.lanes l.sums l.count l.j l.invariant c.loop-j-test.true
    (onto c.sandwich_term-t.result ∷ []) (single_term (sandwich_from c.pauli_mul-left.result a.rate (onto a.a)) _ _ _ c.sandwich_term-t.ensures c.term_at-b.ensures) _ _ c.put_at-added.result
    (puts_one a.room l.count l.lanes l.sums (gather_room (λ b. sandwich_from c.pauli_mul-left.result a.rate (onto a.a) b ∷ []) a.range a.room a.len a.words.now a.numbers.now a.lanes.now a.sums.now c.requires.0 c.requires.1 l.lanes l.sums l.count l.j l.invariant) _ _ (onto c.sandwich_term-t.result) c.put_at-added.result c.put_at-added.ensures) _ c.in-Some.is c.put_at-added.auto.lanes c.put_at-added.auto.sums

pub returns : goal.returns
returns c =
    let a = c.args in
    let l = c.loop-j in
    puts_same a.room a.len a.lanes.now a.sums.now c.requires.0 _ _ _ _ _ (sandwich_row (onto a.a) a.p _ a.rate (terms_of a.words.now a.numbers.now a.range) c.pauli_mul-left.ensures)
    (gather_done (λ b. sandwich_from c.pauli_mul-left.result a.rate (onto a.a) b ∷ []) a.range a.room a.len a.words.now a.numbers.now a.lanes.now a.sums.now c.requires.0 c.requires.1 l.lanes l.sums l.count l.j l.invariant c.loop-j-test.false)
