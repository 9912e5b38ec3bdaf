-- SPDX-FileCopyrightText: 2026 The PPVM Authors
-- SPDX-License-Identifier: Apache-2.0

-- `places::grown_places` meets its contract, one least of two lengths after another. Assumes nothing.
use mathlib.Core.Path.{ap, ap₂, ◌∙◌}
use Prim.Native.Nat.{ℕ, min}
use Rattle.step_parts.specs.Lent.{grown_places}
use Rattle.step_parts.proofs.places.grown_places.Goals as goal

pub returns : goal.returns
unfolding grown_places
returns c =
    let a = c.args in
    let copied = c.smaller-copied.ensures ∙ ap (λ (k : ℕ). min k a.evolved) c.smaller.ensures in
    let slots = c.smaller-slots.ensures ∙ ap (min a.order) c.room_left.ensures in
    let rows = c.smaller-rows.ensures ∙ ap₂ min c.room_left-2.ensures c.room_left-3.ensures in
    let numbers = c.smaller-numbers.ensures ∙ ap (λ (k : ℕ). min k a.work_sums) c.smaller-2.ensures in
    c.smaller-6.ensures
    ∙ ap₂ min (c.smaller-3.ensures ∙ ap₂ min c.smaller-lent.ensures copied) (c.smaller-5.ensures ∙ ap₂ min (c.smaller-4.ensures ∙ ap₂ min slots rows) numbers)
