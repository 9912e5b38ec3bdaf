-- SPDX-FileCopyrightText: 2026 The PPVM Authors
-- SPDX-License-Identifier: Apache-2.0

-- What a call that reads a row of a lent matrix answers.
use Rattle.std.specs.Prelude.{ℕ, cond, List, ltb, length, Result, Ok, Err}
use Rattle.refusal.specs.declared.Refusal.TheVariants.{NumberOutOfRange}
use Rattle.refusal.specs.declared.Refusal.{Refusal}
use Rattle.refusal.specs.Cause.{Answer}
use Rattle.csr.specs.Lent.{rows_tests, places_tests}
use Rattle.matrix_row.specs.Rows.{row_at}
use Rattle.matrix_row.specs.declared.rows.Row.{Row}

-- the matrix, then 7 with a row that it does not have
abbrev pub row_tests : ℕ → List ℕ → List ℕ → ℕ → Answer
row_tests rows offsets columns row =
    rows_tests rows offsets
    (places_tests rows offsets columns
    (cond (ltb row rows) (Ok tt) (Err (NumberOutOfRange row))))

abbrev pub read_as : Answer → Row → Result Row Refusal
read_as (Ok _) row = Ok row
read_as (Err r) row = Err r

unfoldable pub read_row : ℕ → List ℕ → List ℕ → ℕ → Result Row Refusal
read_row rows offsets columns row = read_as (row_tests rows offsets columns row) (row_at offsets (length columns) row)
