-- SPDX-FileCopyrightText: 2026 The PPVM Authors
-- SPDX-License-Identifier: Apache-2.0

-- `sizes::pebblelinen_step_sizes` meets its contract. Assumes nothing.
use Prim.Native.Nat.{ℕ, ◌*◌, min}
use mathlib.Core.Path.{◌≡◌, refl}
use native.Mathlib.Omega.{arith}
use mir.Syntax.{w64}
use mir.Val.{Fits}
use Rattle.word.specs.Flat.{word_lanes}
use Rattle.lent.specs.Words.{max_words}
use Rattle.step.specs.Exports.{max_places, step_sizes}
use Rattle.step.proofs.sizes.pebblelinen_step_sizes.Goals as goal

-- by themselves: among the other numbers of the function `omega` has too many cases
twice_fits : (x y : ℕ) → x ≡ min y max_places → Fits w64 (2 * x)
twice_fits x y e = omega arith

lanes_fit : (x y : ℕ) → x ≡ min y max_words → Fits w64 (word_lanes * x)
lanes_fit x y e = omega arith

pub overflow_mul-c : goal.overflow_mul-c
overflow_mul-c c = twice_fits _ _ c.smaller-c.ensures

pub overflow_mul-result-4 : goal.overflow_mul-result-4
overflow_mul-result-4 c = lanes_fit _ _ c.smaller-n.ensures

pub overflow_mul-result-5 : goal.overflow_mul-result-5
overflow_mul-result-5 c = lanes_fit _ _ c.smaller-n.ensures

pub returns : goal.returns
unfolding step_sizes
returns c =
    rw (← c.smaller.ensures, ← c.where_any-rows.ensures, ← c.where_any-row.ensures, ← c.smaller-n.ensures, ← c.where_any.ensures, ← c.smaller-p.ensures, ← c.smaller-t.ensures, ← c.smaller-c.ensures, ← c.smaller-e.ensures, ← c.where_any-starts.ensures, ← c.larger.ensures, ← c.larger-2.ensures, ← c.larger-3.ensures, ← c.larger-4.ensures)
    refl
