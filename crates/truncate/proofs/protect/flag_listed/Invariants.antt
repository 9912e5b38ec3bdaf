-- SPDX-FileCopyrightText: 2026 The PPVM Authors
-- SPDX-License-Identifier: Apache-2.0

-- What lasts over the loop of `protect::flag_listed`.
use mathlib.Core.Path.{◌≡◌}
use lib.ListN.{length, drop}
use Rattle.word.specs.Flat.{words as words_of}
use Rattle.truncate.specs.Marks.{protected_at, reflagged}
use Rattle.truncate.proofs.protect.flag_listed.Given as goal

abbrev pub invariant-loop-i : goal.invariant-loop-i
invariant-loop-i l = (length l.flags ≡ length l.initial.flags) × (reflagged (protected_at (words_of l.protected) (words_of l.lanes)) (drop l.i l.list) l.flags ≡ reflagged (protected_at (words_of l.protected) (words_of l.lanes)) l.list l.initial.flags)
