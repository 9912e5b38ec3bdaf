-- SPDX-FileCopyrightText: 2026 The PPVM Authors
-- SPDX-License-Identifier: Apache-2.0

-- `largest::choose_by_order` meets its contract. Assumes nothing.
use mathlib.Core.Path.{◌∙◌}
use Rattle.keep.proofs.OrderOnce.{choose_asks}
use Rattle.keep.proofs.largest.choose_by_order.Goals as goal

pub choose_largest-requires : goal.choose_largest-requires
choose_largest-requires c =
    let o = c.order_by_desc_mag in
    choose_asks c.args.coeffs.now _ c.args.fixed.now o.new.work o.ensures c.requires.0 (o.auto.work ∙ c.requires.2)

pub returns : goal.returns
returns c = c.choose_largest.ensures ∙ rw c.order_by_desc_mag.ensures
