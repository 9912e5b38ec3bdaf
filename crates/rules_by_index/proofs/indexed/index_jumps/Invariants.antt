-- SPDX-FileCopyrightText: 2026 The PPVM Authors
-- SPDX-License-Identifier: Apache-2.0

-- What lasts over the loop of `indexed::index_jumps`.
use mathlib.Core.List.{map}
use Prim.Native.Nat.{ℕ}
use Rattle.index.specs.Index.{Indexed}
use Rattle.model.specs.Stored.{jump_at}
use Rattle.word.specs.Count.{up_to}
use Rattle.rules_by_index.specs.Near.{jump_words}
use Rattle.rules_by_index.proofs.indexed.index_jumps.Given as goal

abbrev pub invariant-loop-j : goal.invariant-loop-j
invariant-loop-j l = Indexed l.row l.n (map (λ (k : ℕ). jump_words l.t_words (jump_at l.jumps l.rates k)) (up_to 0 l.j)) l.index
