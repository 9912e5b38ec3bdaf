-- SPDX-FileCopyrightText: 2026 The PPVM Authors
-- SPDX-License-Identifier: Apache-2.0

-- Where the input's own lengths agree, what the lent tables answer is the answer. Assumes nothing.
use mathlib.Core.Path.{◌≡◌}
use mathlib.Core.List.{List}
use Prim.Native.Nat.{ℕ, ◌+◌, ◌*◌, ◌/◌}
use borrow.Author.Tests.{eq-eqb}
use lib.Ieee.{Float}
use lib.ListN.{length}
use Rattle.std.specs.Prelude.{Ok}
use Rattle.refusal.specs.Cause.{Answer}
use Rattle.word.specs.Flat.{word_lanes}
use Rattle.model.specs.Stored.{ModelTables}
use Rattle.lent.specs.Tests.{lent, where_any}
use Rattle.model_build.specs.Built.{Input, parts_fit, work_places, lengths_answer}

module _ (i : Input) (t : ModelTables) (workWords : List ℕ) (workNumbers : List Float) where
  abbrev terms : ℕ
  terms = length i.numbers / 2

  -- what the lent tables answer, where so many work places are needed
  abbrev pub tables_answer : ℕ → Answer
  tables_answer work =
      lent (length i.h_numbers) (length t.h_words / word_lanes)
      (lent (length i.h_numbers) (length t.h_coeffs)
      (lent (length i.rates) (length t.jumps / 8)
      (lent (length i.rates) (length t.rates)
      (lent work (length workWords / word_lanes)
      (lent work (length workNumbers / 2)
      (Ok tt))))))

  pub own_agree : length i.lengths ≡ length i.h_numbers + terms → length i.counts ≡ length i.rates → length i.numbers ≡ terms * 2
      → parts_fit i.counts terms ≡ Ok tt → parts_fit i.lengths (length i.texts) ≡ Ok tt
      → (work : ℕ) → work ≡ where_any (length i.rates) work_places → lengths_answer i t workWords workNumbers ≡ tables_answer work
  unfolding lengths_answer
  own_agree l c x by_counts byLengths work e = rw (e, eq-eqb _ _ l, eq-eqb _ _ c, eq-eqb _ _ x, by_counts, byLengths)
