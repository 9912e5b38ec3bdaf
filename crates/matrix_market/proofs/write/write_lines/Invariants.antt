-- SPDX-FileCopyrightText: 2026 The PPVM Authors
-- SPDX-License-Identifier: Apache-2.0

-- What lasts over the loop of `write::write_lines`.
use Rattle.matrix_market.proofs.LineLaws as LL
use Rattle.matrix_market.proofs.write.write_lines.Given as goal

abbrev pub invariant-loop-i : goal.invariant-loop-i
invariant-loop-i l = LL.LinesLaid l.count l.rows l.columns l.values l.at l.initial.text l.i l.end l.text
