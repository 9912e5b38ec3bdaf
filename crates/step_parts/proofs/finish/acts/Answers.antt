-- SPDX-FileCopyrightText: 2026 The PPVM Authors
-- SPDX-License-Identifier: Apache-2.0

-- `finish::acts` meets its contract. Assumes nothing.
use Rattle.step_parts.proofs.finish.acts.Goals as goal

pub returns-then-drop_tol : goal.returns-then-drop_tol
returns-then-drop_tol c = rw c.if-drop_tol.true

pub returns : goal.returns
returns c = rw c.if-drop_tol.false
