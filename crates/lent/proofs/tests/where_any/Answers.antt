-- SPDX-FileCopyrightText: 2026 The PPVM Authors
-- SPDX-License-Identifier: Apache-2.0

-- `tests::where_any` meets its contract. Assumes nothing.
use mathlib.Core.Path.{sym}
use native.Mathlib.Omega.{arith}
use Rattle.lent.specs.Tests.{where_any}
use Rattle.lent.proofs.NeedLaws.{need_is}
use Rattle.lent.proofs.tests.where_any.Goals as goal

pub returns-then-count-eq0 : goal.returns-then-count-eq0
unfolding where_any
returns-then-count-eq0 c = rw c.if-count-eq0.true

pub returns : goal.returns
returns c = sym (need_is _ _ (omega arith))
