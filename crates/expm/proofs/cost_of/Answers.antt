-- SPDX-FileCopyrightText: 2026 The PPVM Authors
-- SPDX-License-Identifier: Apache-2.0

-- `cost_of` meets its contract: the product fits. Assumes nothing.
use Rattle.std.proofs.Common.{rules}
use Rattle.expm.proofs.SelectLaws.{product_fits}
use Rattle.expm.proofs.cost_of.Goals as goal

pub overflow_mul-result : goal.overflow_mul-result
overflow_mul-result c = record { fits = product_fits _ _ (search rules) (search rules) }
