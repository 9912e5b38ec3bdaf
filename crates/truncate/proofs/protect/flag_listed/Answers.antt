-- SPDX-FileCopyrightText: 2026 The PPVM Authors
-- SPDX-License-Identifier: Apache-2.0

-- `protect::flag_listed` meets its contract: what is left of the list leads to what is marked. Assumes nothing.
use mathlib.Core.Path.{sym, ap, ◌∙◌}
use mathlib.Core.Bool.{Bool, cond}
use Prim.Native.Nat.{◌<◌}
use lib.ListN.{length, get_or, length-set}
use borrow.Author.Rules.{rules}
use native.Mathlib.Omega.{arith}
use Rattle.word.specs.Flat.{words as words_of}
use Rattle.order.proofs.Members.{all_at}
use Rattle.keep.proofs.FlagLaws.{test_number}
use Rattle.truncate.specs.Marks.{protected_at}
use Rattle.truncate.proofs.ProtectLaws.{marked_next, reflagged_end}
use Rattle.truncate.proofs.protect.flag_listed.Goals as goal

pub word_at-w-requires : goal.word_at-w-requires
word_at-w-requires c =
    let n = length c.args.flags.now in
    let l = c.loop-i in
    omega (arith, c.requires.2, all_at (λ x. x < n) c.args.list.now l.i c.requires.3 (omega arith))

pub offset_bounds-flags-p : goal.offset_bounds-flags-p
offset_bounds-flags-p c =
    let n = length c.args.flags.now in
    let l = c.loop-i in
    search (all_at (λ x. x < n) c.args.list.now l.i c.requires.3 (omega arith), rules)

pub bounds-flags-p : goal.bounds-flags-p
bounds-flags-p c =
    let n = length c.args.flags.now in
    let l = c.loop-i in
    omega (arith, l.invariant.0, all_at (λ x. x < n) c.args.list.now l.i c.requires.3 (omega arith))

pub loop-i-preserved : goal.loop-i-preserved
loop-i-preserved c =
    let a = c.args in
    let l = c.loop-i in
    let w = c.word_at-w in
    let f = c.flag_word in
    let k = c.from in (
      length-set l.flags (get_or a.list.now l.i 0) k.result ∙ l.invariant.0,
      marked_next (words_of a.protected.now) (words_of a.lanes.now) a.list.now l.flags l.i w.result k.result (omega arith) w.ensures (k.ensures ∙ test_number f.result ∙ ap (λ (b : Bool). cond b 1 0) f.ensures) ∙ l.invariant.1,
    )

pub returns : goal.returns
returns c =
    let a = c.args in
    let l = c.loop-i in
    sym (reflagged_end (protected_at (words_of a.protected.now) (words_of a.lanes.now)) a.list.now l.flags l.i c.loop-i-test.false) ∙ l.invariant.1
