-- SPDX-FileCopyrightText: 2026 The PPVM Authors
-- SPDX-License-Identifier: Apache-2.0

-- What reading a row and a product answer in plain numbers.
use Rattle.std.specs.Prelude.{◌≡◌, List, Float, Result, Ok, Err}
use Rattle.refusal.specs.Cause.{status_of, answer_status}
use Rattle.refusal.specs.declared.Refusal.{Refusal}
use Rattle.matrix_row.specs.declared.rows.Row.{Row}
use Rattle.refusal.specs.declared.Status.{Status}
use Rattle.csr.specs.Products.{Multiplying}
use Rattle.pebblelinen.specs.declared.products.FoundRow.{FoundRow}

-- where the row stands, or the refusal and 0
abbrev pub found_of : Result Row Refusal → FoundRow
found_of (Ok row) = record { status = answer_status (Ok tt); start = row.start; end = row.end }
found_of (Err refusal) = record { status = status_of refusal; start = 0; end = 0 }

-- what a product answers, and the lent tables afterwards
pub record LeavesProduct (p : Multiplying) (r : Status) (output work : List Float) : Type 0 where
  pub answers : r ≡ answer_status p.answer
  pub output_is : output ≡ p.output
  pub work_is : work ≡ p.work
