-- SPDX-FileCopyrightText: 2026 The PPVM Authors
-- SPDX-License-Identifier: Apache-2.0

-- `nth::count_above` counts each position at most once. Assumes nothing.
use native.Mathlib.Omega.{arith}
use Rattle.quickselect.proofs.BandLaws.{test_small}
use Rattle.keep.proofs.nth.count_above.Goals as goal

pub loop-i-preserved : goal.loop-i-preserved
loop-i-preserved c = omega (arith, test_small c.is_above.result)
