-- SPDX-FileCopyrightText: 2026 The PPVM Authors
-- SPDX-License-Identifier: Apache-2.0

-- `stored::jump_at` meets its contract. Assumes nothing.
use Rattle.model.specs.Stored.{jump_at}
use Rattle.model.proofs.Entries.{kind_other}
use Rattle.model.proofs.stored.jump_at.Goals as goal

pub returns-then-kind-eq0 : goal.returns-then-kind-eq0
unfolding jump_at
returns-then-kind-eq0 c = rw c.if-kind-eq0.true

pub returns-then-kind-eq1 : goal.returns-then-kind-eq1
unfolding jump_at
returns-then-kind-eq1 c = rw c.if-kind-eq1.true

pub returns : goal.returns
unfolding jump_at
returns c = kind_other _ _ _ _ c.if-kind-eq0.false c.if-kind-eq1.false
