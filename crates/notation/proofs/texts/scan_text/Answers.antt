-- SPDX-FileCopyrightText: 2026 The PPVM Authors
-- SPDX-License-Identifier: Apache-2.0

-- `texts::scan_text` meets its contract: what the first look finds is what a look at the rest finds. Assumes nothing.
use mathlib.Core.Path.{sym, ◌∙◌}
use Rattle.notation.proofs.TextLaws.{scan_underscore, scan_letter, scan_foreign, scan_end}
use native.Mathlib.Omega.{arith}
use Rattle.notation.proofs.texts.scan_text.Goals as goal

pub loop-byte-preserved-then-byte-eq95 : goal.loop-byte-preserved-then-byte-eq95
loop-byte-preserved-then-byte-eq95 c =
    let l = c.loop-byte in
    (omega arith, l.invariant.1 ∙ scan_underscore c.args.text.now l.place l.byte-index c.loop-byte-test.true c.if-byte-eq95.true)

pub returns-then-byte-ge128 : goal.returns-then-byte-ge128
returns-then-byte-ge128 c =
    let l = c.loop-byte in
    sym (l.invariant.1 ∙ scan_foreign c.args.text.now l.place l.byte-index c.loop-byte-test.true c.if-byte-eq95.false c.if-byte-ge128.true)

pub loop-byte-preserved : goal.loop-byte-preserved
loop-byte-preserved c =
    let l = c.loop-byte in
    (omega arith, l.invariant.1 ∙ scan_letter c.args.text.now l.place l.byte-index c.loop-byte-test.true c.if-byte-eq95.false c.if-byte-ge128.false)

pub returns : goal.returns
returns c =
    let l = c.loop-byte in
    sym (l.invariant.1 ∙ scan_end c.args.text.now l.place l.byte-index (omega arith))
