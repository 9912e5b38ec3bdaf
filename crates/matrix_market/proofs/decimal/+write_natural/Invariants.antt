-- SPDX-FileCopyrightText: 2026 The PPVM Authors
-- SPDX-License-Identifier: Apache-2.0

-- n falls at each call of `decimal::write_natural`.
use Rattle.matrix_market.proofs.decimal.+write_natural.Given as goal

abbrev pub decreases-write_natural : goal.decreases-write_natural
decreases-write_natural l = l.n
