-- SPDX-FileCopyrightText: 2026 The PPVM Authors
-- SPDX-License-Identifier: Apache-2.0

-- `test::factors_fit` meets its contract. Assumes nothing.
use Rattle.model.proofs.Ranges.{factors_beyond, factors_none, factors_divided}
use Rattle.model.proofs.test.factors_fit.Goals as goal

pub returns-then-places-factors : goal.returns-then-places-factors
returns-then-places-factors c = let a = c.args in factors_beyond a.factors a.left a.right a.places c.if-places-factors.true

pub returns-then-right-eq0 : goal.returns-then-right-eq0
returns-then-right-eq0 c = let a = c.args in factors_none a.factors a.left a.right a.places c.if-places-factors.false c.if-right-eq0.true

pub returns : goal.returns
returns c = let a = c.args in factors_divided a.factors a.left a.right a.places c.if-places-factors.false c.if-right-eq0.false
