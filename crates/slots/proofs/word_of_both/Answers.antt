-- SPDX-FileCopyrightText: 2026 The PPVM Authors
-- SPDX-License-Identifier: Apache-2.0

-- `word_of_both` meets its contract. Assumes nothing.
use mathlib.Core.Path.{◌≡◌, ap, sym, ◌∙◌}
use mathlib.Core.List.{List, ◌++◌}
use Prim.Native.Nat.{ℕ, ◌+◌, ◌-◌, ◌/◌}
use native.Mathlib.Omega.{arith}
use lib.ListN.{length, get_or, get_or-append}
use lib.Seq.{get_or-append-add}
use Rattle.word.specs.Flat.{word_lanes, words}
use Rattle.word.specs.Word.{identity}
use Rattle.word.specs.declared.word.Word.{Word}
use Rattle.word.proofs.FlatLaws.{words_count, words_low}
use Rattle.slots.proofs.word_of_both.Goals as goal

pub returns-then-i-count : goal.returns-then-i-count
returns-then-i-count c =
    let a : List Word = words c.args.first.now in
    c.word_at.ensures ∙ sym (get_or-append a (words c.args.second.now) identity c.args.i (omega (arith, c.if-i-count.true, words_count c.args.first.now)))

pub word_at-requires-2 : goal.word_at-requires-2
word_at-requires-2 c =
    omega (arith, c.requires, c.if-i-count.false, words_count c.args.first.now, words_low c.args.second.now)

pub returns : goal.returns
returns c =
    let a : List Word = words c.args.first.now in
    let k : ℕ = c.args.i - length c.args.first.now / word_lanes in
    let e : length a + k ≡ c.args.i = omega (arith, c.if-i-count.false, words_count c.args.first.now) in
    c.word_at-2.ensures ∙ sym (get_or-append-add a (words c.args.second.now) k identity) ∙ ap (λ (j : ℕ). get_or (a ++ words c.args.second.now) j identity) e
