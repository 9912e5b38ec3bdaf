-- SPDX-FileCopyrightText: 2026 The PPVM Authors
-- SPDX-License-Identifier: Apache-2.0

-- `texts::read_letters` meets its contract: after each letter the word has the letters read so far, and I above. Assumes nothing.
use mathlib.Core.Path.{refl, sym, ap, ◌∙◌}
use Rattle.notation.specs.Text.{code_of, dropped, no_letter}
use Rattle.notation.proofs.TextLaws.{passed_none, passed_more, read_none, read_more, read_none_more, underscore_next, letter_left, letter_next, letter_here, letters_end, letters_read, letter_refused, not_refused}
use native.Mathlib.Omega.{arith}
use Rattle.notation.proofs.texts.read_letters.Goals as goal
use Rattle.notation.proofs.texts.read_letters.Goals.{then-code-ne0, else-code-ne0}

pub loop-i-init : goal.loop-i-init
loop-i-init c = (refl, passed_none no_letter _, read_none _ _ c.identity_word-w.ensures)

pub loop-i-preserved-then-byte-eq95 : goal.loop-i-preserved-then-byte-eq95
loop-i-preserved-then-byte-eq95 c =
    let l = c.loop-i in
    let t = c.args.text.now in
    (underscore_next t (dropped t) l.i l.q c.loop-i-test.true l.invariant.0 c.if-byte-eq95.true, l.invariant.1, l.invariant.2)

pub returns-then-code-gt3 : goal.returns-then-code-gt3
returns-then-code-gt3 c =
    let l = c.loop-i in
    let t = c.args.text.now in
    let h = c.loop-i-test.true in
    let u = c.if-byte-eq95.false in
    letter_refused (dropped t) l.q _ l.invariant.1 (letter_left t (dropped t) l.i l.q h l.invariant.0 u)
    (letter_here t (dropped t) l.i l.q h l.invariant.0 u) (omega (arith, c.code_of-code.ensures))

pub put_letter-requires : goal.put_letter-requires
put_letter-requires c =
    let l = c.loop-i in
    let t = c.args.text.now in
    omega (arith, letter_left t (dropped t) l.i l.q c.loop-i-test.true l.invariant.0 c.if-byte-eq95.false)

pub loop-i-preserved : goal.loop-i-preserved
loop-i-preserved c =
    let l = c.loop-i in
    let t = c.args.text.now in
    let h = c.loop-i-test.true in
    let u = c.if-byte-eq95.false in
    let e = c.code_of-code.ensures in
    let s = dropped t in
    let left = letter_left t s l.i l.q h l.invariant.0 u in
    let here = letter_here t s l.i l.q h l.invariant.0 u in (
      letter_next t s l.i l.q h l.invariant.0 u,
      passed_more no_letter l.q s l.invariant.1 left (not_refused _ _ (here 0) (omega arith)),
      elim c.if-code-ne0.branch [
        | then-code-ne0 w ↦ rw w.w-is (read_more _ l.q l.w _ _ l.invariant.2 (e ∙ sym (ap code_of (here 73))) w.put_letter.ensures)
        | else-code-ne0 w ↦ rw w.w-is (read_none_more _ l.q l.w l.invariant.2 (ap code_of (here 73) ∙ sym e ∙ omega arith))
      ],
    )

pub returns : goal.returns
returns c =
    let l = c.loop-i in
    let t = c.args.text.now in
    letters_read (dropped t) l.q l.w (letters_end t (dropped t) l.i l.q (omega arith) l.invariant.0 l.invariant.1.inside) l.invariant.1 l.invariant.2
