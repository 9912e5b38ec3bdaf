-- SPDX-FileCopyrightText: 2026 The PPVM Authors
-- SPDX-License-Identifier: Apache-2.0

-- The text of entries written into a lent table: 15, 13 for table 5, or the text and its length.
use Rattle.std.specs.Prelude.{ℕ, suc, Bool, cond, List, [], ◌∷◌, length, nat_lt, slice_index_or, slice_set, Float, Result, Ok, Err}
use Rattle.std.specs.Float.{nan}
use Rattle.refusal.specs.declared.Refusal.TheVariants.{TableFull, WrittenCountTooLarge}
use Rattle.refusal.specs.declared.Refusal.{Refusal}
use Rattle.refusal.specs.Cause.{Answer}
use Rattle.lent.specs.Laid.{laid}
use Rattle.lent.specs.Tests.{first_to, in_turn}
use Rattle.matrix_market.specs.Counts.{count_of, too_large}
use Rattle.matrix_market.specs.Text.{Line, text_of}

-- entries as rows, columns and values side by side, rows and columns counted from 0
abbrev pub line_of : ℕ → ℕ → Float → Line
line_of r c v = record { row = suc r; column = suc c; count = count_of v }

unfoldable pub lines_of : List ℕ → List ℕ → List Float → List Line
lines_of [] cs vs = []
lines_of (r ∷ rs) [] vs = []
lines_of (r ∷ rs) (c ∷ cs) [] = []
lines_of (r ∷ rs) (c ∷ cs) (v ∷ vs) = line_of r c v ∷ lines_of rs cs vs

-- ---- the tests
unfoldable pub large_at : List Float → ℕ → Bool
large_at vs k = too_large (slice_index_or vs k nan)

-- 15 with the number, from 1, of the first entry whose count is too large
abbrev pub counts_written : List Float → Answer → Answer
counts_written vs after = cond (nat_lt (first_to (length vs) (large_at vs)) (length vs)) (Err (WrittenCountTooLarge (suc (first_to (length vs) (large_at vs))))) after

-- 13 where the text has more bytes than table 5
abbrev pub text_room : ℕ → ℕ → Answer → Answer
text_room bytes needed after = cond (nat_lt bytes needed) (Err (TableFull 5 bytes)) after

-- ---- what is answered, and the table afterwards
pub record Writing : Type 0 where
  pub answer : Result ℕ Refusal
  pub text : List ℕ

-- a refusal leaves every byte
abbrev pub text_after : Answer → List ℕ → List ℕ → Writing
text_after (Ok _) bytes text = record { answer = Ok (length bytes); text = laid slice_set 0 bytes text }
text_after (Err q) bytes text = record { answer = Err q; text = text }

unfoldable pub writes : ℕ → List ℕ → List ℕ → List Float → List ℕ → Writing
writes n rows columns values text =
    let bytes : List ℕ = text_of n (lines_of rows columns values) in
    text_after (in_turn (counts_written values ∷ text_room (length text) (length bytes) ∷ []) (Ok tt)) bytes text
