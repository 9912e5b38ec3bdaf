-- SPDX-FileCopyrightText: 2026 The PPVM Authors
-- SPDX-License-Identifier: Apache-2.0

-- `terms::sign_of` meets its contract. Assumes nothing.
use borrow.Author.Tests.{ne_eqb}
use Rattle.rule_terms.proofs.terms.sign_of.Goals as goal

pub returns-then-phase-eq0 : goal.returns-then-phase-eq0
returns-then-phase-eq0 c = rw c.if-phase-eq0.true

pub returns : goal.returns
returns c = rw (ne_eqb _ _ c.if-phase-eq0.false)
