-- SPDX-FileCopyrightText: 2026 The PPVM Authors
-- SPDX-License-Identifier: Apache-2.0

-- `test::bad_jump` meets its contract. Assumes nothing.
use Rattle.model.proofs.test.bad_jump.Goals as goal

pub returns-in-Pauli : goal.returns-in-Pauli
returns-in-Pauli c = rw c.in-Pauli.is c.bad_pauli.ensures

pub returns-in-General : goal.returns-in-General
returns-in-General c = rw c.in-General.is c.bad_general.ensures

pub returns-in-Pair : goal.returns-in-Pair
returns-in-Pair c = rw c.in-Pair.is c.bad_pair.ensures
