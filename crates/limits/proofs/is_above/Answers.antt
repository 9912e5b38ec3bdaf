-- SPDX-FileCopyrightText: 2026 The PPVM Authors
-- SPDX-License-Identifier: Apache-2.0

-- `limits::is_above` meets its contract. Assumes nothing.
use Rattle.limits.proofs.is_above.Goals as goal

pub returns : goal.returns
returns c = rw c.magnitude-size.ensures
