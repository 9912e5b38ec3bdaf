-- SPDX-FileCopyrightText: 2026 The PPVM Authors
-- SPDX-License-Identifier: Apache-2.0

-- The generator over a basis, listed by column, then word; and 13, where one of its columns finds no room.
use Rattle.std.specs.Prelude.{ℕ, suc, ◌+◌, ◌-◌, cond, List, [], ◌∷◌, ◌++◌, eqb, ltb, length, Ok, Err}
use Rattle.refusal.specs.declared.Refusal.TheVariants.{TableFull}
use Rattle.refusal.specs.Cause.{Answer}
use Rattle.word.specs.declared.word.Word.{Word}
use Rattle.slots.specs.Slots.{last_of}
use Rattle.model.specs.Stored.{ModelTables}
use Rattle.model.specs.Terms.{Term}
use Rattle.model.specs.declared.stored.Model.{Model}
use Rattle.action.specs.Acts.{action_of}
use Rattle.action.specs.Counts.{touched_by}
use Rattle.columns.specs.Entries.{Entry, entry}

-- one more than the position of a word in a basis, 0 where it is not there; of a word that comes again, the last
abbrev pub place_in : List Word → Word → ℕ
place_in bs w = last_of w bs (length bs)

-- column c: for each term of an action, in word order, whose word is in the basis, its position, c and its real part
unfoldable pub column_entries : List Word → ℕ → List Term → List Entry
column_entries bs c [] = []
column_entries bs c (t ∷ ts) =
    cond (eqb (place_in bs t.word) 0) (column_entries bs c ts) (entry (place_in bs t.word - 1) c t.num.re ∷ column_entries bs c ts)

-- the columns of words that stand from position c on, one after another
unfoldable pub columns_from : (Word → List Term) → List Word → ℕ → List Word → List Entry
columns_from act bs c [] = []
columns_from act bs c (p ∷ ps) = column_entries bs c (act p) ++ columns_from act bs (suc c) ps

unfoldable pub generator_of : Model → ModelTables → List Word → List Entry
generator_of m t bs = columns_from (action_of m t) bs 0 bs

-- ---- 13
-- where more places of a table are needed than lent
abbrev pub room_for : ℕ → ℕ → ℕ → Answer → Answer
room_for table places needed after = cond (ltb places needed) (Err (TableFull table places)) after

-- columns in position order, so many entries before them: for each table 1, words touched by its action, then table 3, entries
module _ (touched : Word → ℕ) (act : Word → List Term) (bs : List Word) (sumRoom entryRoom : ℕ) where
  unfoldable pub column_tests : ℕ → ℕ → List Word → Answer
  column_tests c before [] = (Ok tt)
  column_tests c before (p ∷ ps) =
      room_for 1 sumRoom (touched p)
      (room_for 3 entryRoom (before + length (column_entries bs c (act p)))
      (column_tests (suc c) (before + length (column_entries bs c (act p))) ps))

unfoldable pub generator_room : Model → ModelTables → List Word → ℕ → ℕ → Answer
generator_room m t bs sumRoom entryRoom = column_tests (touched_by m t) (action_of m t) bs sumRoom entryRoom 0 0 bs
