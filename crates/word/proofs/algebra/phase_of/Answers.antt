-- SPDX-FileCopyrightText: 2026 The PPVM Authors
-- SPDX-License-Identifier: Apache-2.0

-- `algebra::phase_of` meets its contract. Assumes nothing.
use mathlib.Core.Path.{refl}
use native.Mathlib.Omega.{arith}
use borrow.Author.Rules.{rules}
use mir.Val.{Fits}
use mir.Syntax.{w64}
use lib.Count.{ones-le}
use Rattle.word.specs.Steps.{plane_phase}
use Rattle.word.proofs.algebra.phase_of.Goals as goal

pub overflow_mul-result : goal.overflow_mul-result
overflow_mul-result c =
    let h : Fits w64 c.args.t.high = search rules in
    omega (arith, ones-le 64 _ h.fits)

pub overflow_add-result : goal.overflow_add-result
overflow_add-result c =
    let l : Fits w64 c.args.t.low = search rules in
    let h : Fits w64 c.args.t.high = search rules in
    omega (arith, ones-le 64 _ l.fits, ones-le 64 _ h.fits)

pub returns : goal.returns
unfolding plane_phase
returns c = refl
