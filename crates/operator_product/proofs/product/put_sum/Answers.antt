-- SPDX-FileCopyrightText: 2026 The PPVM Authors
-- SPDX-License-Identifier: Apache-2.0

-- `product::put_sum` meets its contract: the sums have room for one more. Assumes nothing.
use mathlib.Core.Path.{◌∙◌}
use Prim.Native.Nat.{◌*◌}
use lib.Seq.{length-take-le}
use Rattle.word.specs.Flat.{word_lanes}
use Rattle.model.specs.Between.{onto}
use Rattle.operator_product.proofs.WorkLaws.{front_rises, sum_full, sum_held}
use native.Mathlib.Omega.{arith}
use Rattle.operator_product.proofs.product.put_sum.Goals as goal

pub put-added-requires : goal.put-added-requires
put-added-requires c =
    let a = c.args in
    let h = c.requires in (
      omega (arith, length-take-le (word_lanes * 256) a.words.now h.lanes_long),
      omega (arith, length-take-le 512 a.numbers.now h.numbers_long),
      omega (arith, h.room),
      front_rises (onto a.t) a.count a.words.now a.numbers.now h,
    )

pub returns-in_default : goal.returns-in_default
returns-in_default c =
    let a = c.args in
    absurd (sum_full (onto a.t) a.count a.words.now a.numbers.now c.requires _ _ _ c.put-added.ensures c.in_default.is)

pub returns : goal.returns
returns c =
    let a = c.args in
    let h = c.requires in
    sum_held (onto a.t) a.count a.words.now a.numbers.now h _ _ _ c.put-added.ensures _ c.in-Some.is
    (c.put-added.auto.lanes ∙ length-take-le (word_lanes * 256) a.words.now h.lanes_long) (c.put-added.auto.sums ∙ length-take-le 512 a.numbers.now h.numbers_long)
