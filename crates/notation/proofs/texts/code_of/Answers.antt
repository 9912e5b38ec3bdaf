-- SPDX-FileCopyrightText: 2026 The PPVM Authors
-- SPDX-License-Identifier: Apache-2.0

-- `texts::code_of` meets its contract. Assumes nothing.
use borrow.Author.Tests.{eq-eqb, ne_eqb}
use Rattle.notation.specs.Text.{code_of}
use Rattle.notation.proofs.texts.code_of.Goals as goal

pub returns-then-byte-eq73 : goal.returns-then-byte-eq73
unfolding code_of
returns-then-byte-eq73 c = simp (eq-eqb _ _ c.if-byte-eq73.true)

pub returns-then-byte-eq88 : goal.returns-then-byte-eq88
unfolding code_of
returns-then-byte-eq88 c = simp (ne_eqb _ _ c.if-byte-eq73.false, eq-eqb _ _ c.if-byte-eq88.true)

pub returns-then-byte-eq90 : goal.returns-then-byte-eq90
unfolding code_of
returns-then-byte-eq90 c = simp (ne_eqb _ _ c.if-byte-eq73.false, ne_eqb _ _ c.if-byte-eq88.false, eq-eqb _ _ c.if-byte-eq90.true)

pub returns-then-byte-eq89 : goal.returns-then-byte-eq89
unfolding code_of
returns-then-byte-eq89 c = simp (ne_eqb _ _ c.if-byte-eq73.false, ne_eqb _ _ c.if-byte-eq88.false, ne_eqb _ _ c.if-byte-eq90.false, eq-eqb _ _ c.if-byte-eq89.true)

pub returns : goal.returns
unfolding code_of
returns c = simp (ne_eqb _ _ c.if-byte-eq73.false, ne_eqb _ _ c.if-byte-eq88.false, ne_eqb _ _ c.if-byte-eq90.false, ne_eqb _ _ c.if-byte-eq89.false)
