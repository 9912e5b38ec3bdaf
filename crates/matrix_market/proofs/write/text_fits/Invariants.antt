-- SPDX-FileCopyrightText: 2026 The PPVM Authors
-- SPDX-License-Identifier: Apache-2.0

-- What lasts over the loop of `write::text_fits`.
use Rattle.matrix_market.proofs.LineLaws as LL
use Rattle.matrix_market.proofs.write.text_fits.Given as goal

abbrev pub invariant-loop-i : goal.invariant-loop-i
invariant-loop-i l = LL.Fits l.count l.rows l.columns l.values l.n l.room l.i l.left
