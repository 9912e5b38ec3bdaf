-- SPDX-FileCopyrightText: 2026 The PPVM Authors
-- SPDX-License-Identifier: Apache-2.0

-- `pair::put_factor_row` meets its contract: after each turn the factors so far are put. Assumes nothing.
use mathlib.Core.Path.{ap}
use mathlib.Core.List.{◌∷◌, []}
use Rattle.word.specs.declared.algebra.Phased.{Phased}
use Rattle.word.proofs.WordLaws.{phase_lt}
use Rattle.model.specs.Stored.{range}
use Rattle.model.specs.Terms.{terms_in}
use Rattle.rules_by_scan.proofs.GatherLaws.{gather_start, gather_room, gather_next, gather_full, gather_done}
use Rattle.rules_by_scan.proofs.PairFactors.{single, single_is, single_row}
use Rattle.rule_terms.proofs.PutsLaws.{puts_one, puts_same}
use native.Mathlib.Omega.{arith}
use Rattle.model.specs.Between.{onto}
use Rattle.rules_by_scan.proofs.pair.put_factor_row.Goals as goal

pub loop-j-init : goal.loop-j-init
loop-j-init c =
    let a = c.args in
    let k = c.pauli_mul-ap in
    gather_start (single a.double k.result) (range a.start a.end) a.room a.len a.t_words.now a.t_numbers.now a.lanes.now a.sums.now c.requires.0 c.requires.1

pub factor_term-t-requires : goal.factor_term-t-requires
factor_term-t-requires c =
    let a = c.args in
    let e = ap (λ (r : Phased). r.phase) c.pauli_mul-ap.ensures in
    omega (arith, e, phase_lt a.a a.p)

pub put-added-requires : goal.put-added-requires
put-added-requires c =
    let a = c.args in
    let k = c.pauli_mul-ap in
    let l = c.loop-j in
    let h = gather_room (single a.double k.result) (range a.start a.end) a.room a.len a.t_words.now a.t_numbers.now a.lanes.now a.sums.now c.requires.0 c.requires.1 l.lanes l.sums l.count l.j l.invariant in (h.lanes_long, h.sums_long, h.inside, h.rises)

pub returns-in_default : goal.returns-in_default
returns-in_default c =
    let a = c.args in
    let k = c.pauli_mul-ap in
    let l = c.loop-j in
    let t = c.term_at-f in
    let f = c.factor_term-t in
    let q = c.put-added in
    puts_same a.room a.len a.lanes.now a.sums.now c.requires.0 _ _ _ _ _
    (single_row a.a a.p k.result k.ensures a.double (terms_in a.t_words.now a.t_numbers.now a.start a.end))
    (gather_full (single a.double k.result) (range a.start a.end) a.room a.len a.t_words.now a.t_numbers.now a.lanes.now a.sums.now c.requires.0 c.requires.1 l.lanes l.sums l.count l.j l.invariant c.loop-j-test.true
    (onto f.result ∷ []) (single_is a.a a.p k.result k.ensures a.double (onto f.result) (onto t.result) _ (f.ensures a.a a.p k.ensures) t.ensures) _ _ q.result
    (puts_one a.room l.count l.lanes l.sums (gather_room (single a.double k.result) (range a.start a.end) a.room a.len a.t_words.now a.t_numbers.now a.lanes.now a.sums.now c.requires.0 c.requires.1 l.lanes l.sums l.count l.j l.invariant) _ _ (onto f.result) q.result q.ensures) c.in_default.is)

pub loop-j-preserved : goal.loop-j-preserved
loop-j-preserved c =
    let a = c.args in
    let k = c.pauli_mul-ap in
    let l = c.loop-j in
    let t = c.term_at-f in
    let f = c.factor_term-t in
    let q = c.put-added in
    gather_next (single a.double k.result) (range a.start a.end) a.room a.len a.t_words.now a.t_numbers.now a.lanes.now a.sums.now c.requires.0 c.requires.1 l.lanes l.sums l.count l.j l.invariant c.loop-j-test.true
    (onto f.result ∷ []) (single_is a.a a.p k.result k.ensures a.double (onto f.result) (onto t.result) _ (f.ensures a.a a.p k.ensures) t.ensures) _ _ q.result
    (puts_one a.room l.count l.lanes l.sums (gather_room (single a.double k.result) (range a.start a.end) a.room a.len a.t_words.now a.t_numbers.now a.lanes.now a.sums.now c.requires.0 c.requires.1 l.lanes l.sums l.count l.j l.invariant) _ _ (onto f.result) q.result q.ensures) _ c.in-Some.is q.auto.lanes q.auto.sums

pub returns : goal.returns
returns c =
    let a = c.args in
    let k = c.pauli_mul-ap in
    let l = c.loop-j in
    puts_same a.room a.len a.lanes.now a.sums.now c.requires.0 _ _ _ _ _
    (single_row a.a a.p k.result k.ensures a.double (terms_in a.t_words.now a.t_numbers.now a.start a.end))
    (gather_done (single a.double k.result) (range a.start a.end) a.room a.len a.t_words.now a.t_numbers.now a.lanes.now a.sums.now c.requires.0 c.requires.1 l.lanes l.sums l.count l.j l.invariant c.loop-j-test.false)
