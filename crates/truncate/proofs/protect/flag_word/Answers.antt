-- SPDX-FileCopyrightText: 2026 The PPVM Authors
-- SPDX-License-Identifier: Apache-2.0

-- `protect::flag_word` meets its contract. Assumes nothing.
use mathlib.Core.Path.{sym, ◌∙◌}
use Rattle.word.specs.Flat.{words as words_of}
use Rattle.truncate.proofs.ReachLaws.{none_reached}
use Rattle.truncate.proofs.protect.flag_word.Goals as goal

pub returns-else-covers_word : goal.returns-else-covers_word
returns-else-covers_word c =
    let a = c.args in
    let e = c.if-covers_word.false in
    e ∙ sym (none_reached a.reach a.w (words_of a.protected.now) c.requires.1.covered (sym c.covers_word.ensures ∙ e))
