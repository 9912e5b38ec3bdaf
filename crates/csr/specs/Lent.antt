-- SPDX-FileCopyrightText: 2026 The PPVM Authors
-- SPDX-License-Identifier: Apache-2.0

-- What every call asks of the offsets and columns of a lent matrix by rows: 8, 9, then 7 with the place in its own table.
use Rattle.std.specs.Prelude.{ℕ, ◌+◌, ◌-◌, Bool, not, ◌&&◌, ◌||◌, List, eqb, ltb, leb, get_or, length}
use Rattle.refusal.specs.Cause.{Answer}
use Rattle.word.specs.Count.{any_to}
use Rattle.lent.specs.Tests.{counted, entries, equal}
use Rattle.lent.specs.Words.{max_words}

-- ---- what may stand in the tables
-- offsets: the first 0, none below the one before it, the last the count of entries
unfoldable pub offset_fails : ℕ → ℕ → ℕ → ℕ → ℕ → Bool
offset_fails rows count k before here = (eqb k 0 && ltb 0 here) || (ltb here before || (eqb k rows && not (eqb here count)))

unfoldable pub bad_offset : ℕ → ℕ → List ℕ → ℕ → Bool
bad_offset rows count offsets k = offset_fails rows count k (get_or offsets (k - 1) 0) (get_or offsets k 0)

-- does a row start at place k
unfoldable pub row_starts : List ℕ → ℕ → Bool
row_starts offsets k = any_to (length offsets) (λ r. eqb (get_or offsets r 0) k)

-- columns: below the count of rows, and above the one before it, unless a row starts there
unfoldable pub bad_column : ℕ → List ℕ → List ℕ → ℕ → Bool
bad_column rows offsets columns k = leb rows (get_or columns k 0) || (leb (get_or columns k 0) (get_or columns (k - 1) 0) && not (row_starts offsets k))

-- ---- the tests
-- 8, 9
abbrev pub rows_tests : ℕ → List ℕ → Answer → Answer
rows_tests rows offsets after = counted max_words rows (equal (rows + 1) (length offsets) after)

-- 7: offsets, then columns
abbrev pub places_tests : ℕ → List ℕ → List ℕ → Answer → Answer
places_tests rows offsets columns after =
    entries (rows + 1) (bad_offset rows (length columns) offsets)
    (entries (length columns) (bad_column rows offsets columns)
    after)
