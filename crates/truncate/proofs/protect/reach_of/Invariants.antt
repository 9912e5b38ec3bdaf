-- SPDX-FileCopyrightText: 2026 The PPVM Authors
-- SPDX-License-Identifier: Apache-2.0

-- What lasts over the loop of `protect::reach_of`.
use mathlib.Core.Path.{◌≡◌}
use mathlib.Core.Bool.{true}
use Prim.Native.Nat.{ℕ, ◌<◌}
use lib.ListN.{get_or}
use Rattle.word.specs.Between.{covers}
use Rattle.word.specs.Flat.{words as words_of}
use Rattle.word.specs.Word.{identity}
use Rattle.truncate.proofs.protect.reach_of.Given as goal

abbrev pub invariant-loop-k : goal.invariant-loop-k
invariant-loop-k l = (j : ℕ) → j < l.k → covers l.reach (get_or (words_of l.protected) j identity) ≡ true
