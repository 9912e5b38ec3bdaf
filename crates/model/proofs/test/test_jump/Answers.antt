-- SPDX-FileCopyrightText: 2026 The PPVM Authors
-- SPDX-License-Identifier: Apache-2.0

-- `test::test_jump` meets its contract. Assumes nothing.
use mathlib.Core.Path.{ap₂, ◌∙◌}
use Prim.Native.Nat.{min}
use Rattle.model.proofs.GivenTerms.{general_first, pair_first}
use Rattle.model.proofs.test.test_jump.Goals as goal

pub returns-in-Pauli : goal.returns-in-Pauli
returns-in-Pauli c = rw c.in-Pauli.is c.test_pauli.ensures

pub returns-in-General : goal.returns-in-General
returns-in-General c = let a = c.args in rw c.in-General.is (c.test_range.ensures ∙ general_first a.numbers.now a.terms _ _ _)

pub returns-in-Pair : goal.returns-in-Pair
returns-in-Pair c =
    let a = c.args in
    rw c.in-Pair.is
    (c.smaller.ensures ∙ ap₂ min c.test_range-in-Pair.ensures c.test_range-in-Pair-2.ensures ∙ pair_first a.numbers.now a.terms _ _ _ _)
