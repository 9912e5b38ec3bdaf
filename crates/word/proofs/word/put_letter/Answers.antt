-- SPDX-FileCopyrightText: 2026 The PPVM Authors
-- SPDX-License-Identifier: Apache-2.0

-- `word::put_letter` meets its contract. Assumes nothing.
use native.Mathlib.Omega.{arith}
use borrow.Author.Rules.{rules}
use mir.Val.{Fits}
use mir.Syntax.{w64}
use Rattle.word.proofs.Words.{sound, letter_set}
use Rattle.word.proofs.word.put_letter.Goals as goal

pub returns : goal.returns
returns c =
    let fx : Fits w64 c.with_bit.result = search rules in
    let fz : Fits w64 c.with_bit-2.result = search rules in
    letter_set _ _ _ _ _ (sound _ (search rules) (search rules) (λ i. search rules) (λ i. search rules)) (omega arith) fx.fits fz.fits c.with_bit.ensures c.with_bit-2.ensures
