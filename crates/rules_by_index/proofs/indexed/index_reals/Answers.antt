-- SPDX-FileCopyrightText: 2026 The PPVM Authors
-- SPDX-License-Identifier: Apache-2.0

-- `indexed::index_reals` meets its contract: the terms so far are indexed. Assumes nothing.
use mathlib.Core.Path.{ap}
use mathlib.Core.List.{[], ◌∷◌}
use Prim.Native.Nat.{ℕ}
use lib.ListN.{length, get_or}
use Rattle.word.specs.Word.{identity}
use Rattle.word.specs.Flat.{words}
use Rattle.word.specs.declared.word.Word.{Word}
use Rattle.rules_by_index.proofs.IndexLaws.{items_start, items_marked}
use Rattle.rules_by_index.proofs.indexed.index_reals.Goals as goal

pub loop-i-init : goal.loop-i-init
loop-i-init c =
    let a = c.args in
    rw c.clear_lanes.ensures (items_start _ a.n (λ (k : ℕ). get_or (words a.h_words.now) k identity ∷ []) (length a.index.now))

pub loop-i-preserved : goal.loop-i-preserved
loop-i-preserved c =
    let a = c.args in
    let l = c.loop-i in
    items_marked _ a.n (λ (k : ℕ). get_or (words a.h_words.now) k identity ∷ []) l.i l.index _ _ l.invariant c.mark_word.ensures (ap (λ (w : Word). w ∷ []) c.word_at-h.ensures)
