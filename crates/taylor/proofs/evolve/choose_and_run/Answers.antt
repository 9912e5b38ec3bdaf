-- SPDX-FileCopyrightText: 2026 The PPVM Authors
-- SPDX-License-Identifier: Apache-2.0

-- `evolve::choose_and_run` meets its contract: no numbers, a choice refused, or the stages of the pair chosen. Assumes nothing.
use mathlib.Core.Path.{refl, sym, ap, ◌∙◌}
use Rattle.std.specs.Prelude.{Ok, Err}
use lib.Ieee.{Float}
use Rattle.number.specs.Floats.{floats}
use Rattle.expm.specs.Selects.{chosen}
use Rattle.expm.proofs.CeilingLaws.{answers}
use Rattle.taylor.proofs.EvolveLaws.{no_numbers, some_numbers}
use Rattle.taylor.proofs.evolve.choose_and_run.Goals as goal

pub returns-then-coeffs-eq0 : goal.returns-then-coeffs-eq0
returns-then-coeffs-eq0 c =
    let a = c.args in
    no_numbers a.offsets.now a.columns.now a.values.now a.dt a.coeffs.now a.out.now a.norm a.drop_tol c.if-coeffs-eq0.true

pub run_pair-requires : goal.run_pair-requires
run_pair-requires c = (c.requires, (answers c.args.drop_tol _ _ (sym c.select_degree.ensures ∙ c.in-Ok.is)).under)

pub returns-in-Ok : goal.returns-in-Ok
returns-in-Ok c =
    let a = c.args in
    let q = c.run_pair in
    some_numbers a.offsets.now a.columns.now a.values.now a.dt a.coeffs.now a.out.now a.norm a.drop_tol c.if-coeffs-eq0.false (Ok _)
    (sym c.in-Ok.is ∙ c.select_degree.ensures ∙ ap (λ (x : Float). chosen a.drop_tol (floats.times x a.norm)) c.magnitude.ensures)
    (record { answer = q.result; out = q.new.out }) q.ensures

pub returns-in-Err : goal.returns-in-Err
returns-in-Err c =
    let a = c.args in
    some_numbers a.offsets.now a.columns.now a.values.now a.dt a.coeffs.now a.out.now a.norm a.drop_tol c.if-coeffs-eq0.false (Err _)
    (sym c.in-Err.is ∙ c.select_degree.ensures ∙ ap (λ (x : Float). chosen a.drop_tol (floats.times x a.norm)) c.magnitude.ensures)
    _ refl
