-- SPDX-FileCopyrightText: 2026 The PPVM Authors
-- SPDX-License-Identifier: Apache-2.0

-- `test::test_given` meets its contract: the first of the terms of the jumps before j. Assumes nothing.
use mathlib.Core.Path.{ap, ap₂, ◌∙◌}
use Prim.Native.Nat.{min}
use Rattle.lent.specs.Tests.{first_to}
use Rattle.model.specs.Between.{fails_of}
use Rattle.model.specs.declared.stored.Jump.{Jump}
use Rattle.model.proofs.GivenTerms.{given_none, given_more}
use Rattle.model.proofs.test.test_given.Goals as goal

pub loop-j-init : goal.loop-j-init
loop-j-init c = let a = c.args in given_none a.numbers.now a.terms a.jumps.now a.rates.now

pub loop-j-preserved : goal.loop-j-preserved
loop-j-preserved c =
    let a = c.args in
    let l = c.loop-j in
    c.smaller-first.ensures
    ∙ ap₂ min l.invariant (c.test_jump.ensures ∙ ap (λ (jump : Jump). first_to a.terms (fails_of jump a.numbers.now)) c.jump_at.ensures)
    ∙ given_more a.numbers.now a.terms a.jumps.now a.rates.now l.j
