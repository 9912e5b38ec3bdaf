-- SPDX-FileCopyrightText: 2026 The PPVM Authors
-- SPDX-License-Identifier: Apache-2.0

-- The entries that a call left in its tables, told by words; what a growing basis keeps; and generator rows.
use Rattle.std.specs.Prelude.{ℕ, suc, ◌≤◌, ◌<◌, ◌≡◌, true, List, Float, length, get_or}
use Rattle.std.specs.Float.{nan}
use Rattle.word.specs.Word.{identity}
use Rattle.word.specs.declared.word.Word.{Word}
use Rattle.order.specs.Places.{is_among}
use Rattle.model.specs.Terms.{Term}
use Rattle.columns.specs.Entries.{entry}
use Rattle.order.specs.Members.{Member}
use Rattle.generator.specs.Generators.{Out, CsrOut, staged_entries}

-- ---- has a table of entries, or of rows, an entry at row r and column c with value v
unfoldable pub Lists : Out → ℕ → ℕ → Float → Type 0
Lists out r c v = Member (entry r c v) (staged_entries out.answer out.rows out.columns out.values)

pub record InRow (out : CsrOut) (r c : ℕ) (v : Float) : Type 0 where
  pub at : ℕ
  pub from : get_or out.offsets r 0 ≤ at
  pub to : at < get_or out.offsets (suc r) 0
  pub column : get_or out.columns at 0 ≡ c
  pub value : get_or out.values at nan ≡ v

-- ---- between words of a basis
pub record Between (bs : List Word) (has : ℕ → ℕ → Float → Type 0) (p q : Word) (v : Float) : Type 0 where
  pub row : ℕ
  pub column : ℕ
  pub row_low : row < length bs
  pub column_low : column < length bs
  pub row_word : get_or bs row identity ≡ p
  pub column_word : get_or bs column identity ≡ q
  pub stands : has row column v

-- no word is lost, wherever the words stand
abbrev pub Grown : List Word → List Word → Type 0
Grown bs bs' = (w : Word) → is_among w bs ≡ true → is_among w bs' ≡ true

-- for every row and column whose words are old: the same entry, and none where there was none
pub record Unchanged (bs : List Word) (has : ℕ → ℕ → Float → Type 0) (bs' : List Word) (has' : ℕ → ℕ → Float → Type 0) : Type 0 where
  pub kept : (p q : Word) (v : Float) → is_among p bs ≡ true → is_among q bs ≡ true → Between bs has p q v → Between bs' has' p q v
  pub none : (p q : Word) (v : Float) → is_among p bs ≡ true → is_among q bs ≡ true → Between bs' has' p q v → Between bs has p q v

-- ---- generator rows
-- a word with an entry in its row
pub record HasRow (bs : List Word) (has : ℕ → ℕ → Float → Type 0) (w : Word) : Type 0 where
  pub column : Word
  pub value : Float
  pub entered : Between bs has w column value

-- a term of the action on one of the words
pub record Reached (act : Word → List Term) (bs : List Word) (w : Word) : Type 0 where
  pub column : ℕ
  pub low : column < length bs
  pub term : Term
  pub listed : Member term (act (get_or bs column identity))
  pub word_is : term.word ≡ w
