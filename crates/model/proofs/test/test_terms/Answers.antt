-- SPDX-FileCopyrightText: 2026 The PPVM Authors
-- SPDX-License-Identifier: Apache-2.0

-- `test::test_terms` meets its contract. Assumes nothing.
use mathlib.Core.Path.{ap₂, ◌∙◌}
use Prim.Native.Nat.{min}
use Rattle.model.proofs.GivenTerms.{terms_first}
use Rattle.model.proofs.test.test_terms.Goals as goal

pub returns : goal.returns
returns c =
    let a = c.args in
    c.smaller.ensures ∙ ap₂ min c.test_each-each.ensures c.test_given-given.ensures
    ∙ terms_first a.numbers.now a.terms a.jumps.now a.rates.now a.n a.count a.words.now
