-- SPDX-FileCopyrightText: 2026 The PPVM Authors
-- SPDX-License-Identifier: Apache-2.0

-- What lasts over the loop of `indexed::index_reals`.
use mathlib.Core.List.{[], ◌∷◌, map}
use Prim.Native.Nat.{ℕ}
use lib.ListN.{get_or}
use Rattle.word.specs.Word.{identity}
use Rattle.word.specs.Flat.{words}
use Rattle.index.specs.Index.{Indexed}
use Rattle.word.specs.Count.{up_to}
use Rattle.rules_by_index.proofs.indexed.index_reals.Given as goal

abbrev pub invariant-loop-i : goal.invariant-loop-i
invariant-loop-i l = Indexed l.row l.n (map (λ (k : ℕ). get_or (words l.h_words) k identity ∷ []) (up_to 0 l.i)) l.index
