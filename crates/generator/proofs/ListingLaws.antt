-- SPDX-FileCopyrightText: 2026 The PPVM Authors
-- SPDX-License-Identifier: Apache-2.0

-- What is staged, listed in the out tables or by rows, answer by answer; and every work table zero. Assumes nothing.
use mathlib.Core.Path.{◌≡◌, refl, ap, ap₂}
use mathlib.Core.List.{List}
use Prim.Native.Nat.{ℕ}
use lib.Ieee.{Float}
use lib.ListN.{length, take, set, replicate}
use Rattle.refusal.specs.declared.Refusal.{Refusal}
use Rattle.std.specs.Prelude.{Result, Ok, Err}
use Rattle.refusal.specs.Cause.{Answer}
use Rattle.number.specs.Floats.{float0}
use Rattle.lent.specs.Laid.{laid}
use Rattle.columns.specs.Entries.{Entry, staged}
use Rattle.columns.specs.Stages.{answered}
use Rattle.columns.proofs.EntryLaws.{staged_rows, staged_columns, staged_values}
use Rattle.csr_build.specs.Sorts.{ByRows}
use Rattle.generator.specs.Lent.{Work, work_of, zeroed}
use Rattle.generator.specs.Generators.{listing, by_rows, staged_entries}
use Rattle.columns.specs.Between.{StageRoom, Stages}

-- ---- what is copied
module _ (n : ℕ) (stageRows stageColumns : List ℕ) (stageValues : List Float) (s : StageRoom n stageRows stageColumns stageValues) (rows columns : List ℕ) (values : List Float) where
  pub copied : (rows' columns' : List ℕ) (values' : List Float) → rows' ≡ laid set 0 (take n stageRows) rows → columns' ≡ laid set 0 (take n stageColumns) columns → values' ≡ laid set 0 (take n stageValues) values
      → record { answer = Ok n; rows = rows'; columns = columns'; values = values' } ≡ listing rows columns values (Ok n) (staged_entries (Ok n) stageRows stageColumns stageValues)
  copied rows' columns' values' er ec ev =
      rw (
        er,
        ec,
        ev,
        staged_rows n stageRows stageColumns stageValues s.rows_long s.columns_long s.values_long,
        staged_columns n stageRows stageColumns stageValues s.rows_long s.columns_long s.values_long,
        staged_values n stageRows stageColumns stageValues s.rows_long s.columns_long s.values_long,
      )

-- ---- of what the columns staged
module _ (tests : Answer) (G : List Entry) (stageRows stageColumns : List ℕ) (stageValues : List Float) where
  pub listed_is : (rows columns : List ℕ) (values : List Float) (r : Result ℕ Refusal) → Stages tests G stageRows stageColumns stageValues r
      → listing rows columns values r (staged_entries r stageRows stageColumns stageValues) ≡ listing rows columns values (answered tests (length G)) G
  listed_is rows columns values (Ok n) s = ap₂ (λ (a : Result ℕ Refusal) (E : List Entry). listing rows columns values a E) s.answers (s.held n refl)
  listed_is rows columns values (Err q) s = ap (λ (a : Result ℕ Refusal). listing rows columns values a G) s.answers

  pub by_rows_is : (n : ℕ) (offsets columns : List ℕ) (values : List Float) (r : Result ℕ Refusal) → Stages tests G stageRows stageColumns stageValues r
      → by_rows n offsets columns values r (staged_entries r stageRows stageColumns stageValues) ≡ by_rows n offsets columns values (answered tests (length G)) G
  by_rows_is n offsets columns values (Ok k) s = ap₂ (λ (a : Result ℕ Refusal) (E : List Entry). by_rows n offsets columns values a E) s.answers (s.held k refl)
  by_rows_is n offsets columns values (Err q) s = ap (λ (a : Result ℕ Refusal). by_rows n offsets columns values a G) s.answers

pub by_rows_done : (n k : ℕ) (E : List Entry) (offsets columns : List ℕ) (values : List Float) (offsets' columns' : List ℕ) (values' : List Float) → ByRows n E offsets columns values offsets' columns' values'
    → record { answer = Ok k; offsets = offsets'; columns = columns'; values = values' } ≡ by_rows n offsets columns values (Ok k) E
by_rows_done n k E offsets columns values offsets' columns' values' b = rw (b.offsets_are, b.columns_are, b.values_are)

-- ---- every table zero is the work tables zero
pub all_zero : (w : Work) {x0 x1 x2 x3 x4 x5 x7 x8 : List ℕ} {x6 x9 : List Float} → x0 ≡ replicate (length w.h_index) 0 → x1 ≡ replicate (length w.j_index) 0 → x2 ≡ replicate (length w.mask) 0 → x3 ≡ replicate (length w.heads) 0 → x4 ≡ replicate (length w.nexts) 0 → x5 ≡ replicate (length w.work_words) 0 → x6 ≡ replicate (length w.work_sums) float0 → x7 ≡ replicate (length w.stage_rows) 0 → x8 ≡ replicate (length w.stage_columns) 0 → x9 ≡ replicate (length w.stage_values) float0
    → work_of x0 x1 x2 x3 x4 x5 x6 x7 x8 x9 ≡ zeroed w
all_zero w e0 e1 e2 e3 e4 e5 e6 e7 e8 e9 = rw (e0, e1, e2, e3, e4, e5, e6, e7, e8, e9)

-- ---- answers that were read off
module _ (rows columns : List ℕ) (values : List Float) (stageRows stageColumns : List ℕ) (stageValues : List Float) where
  pub list_refused : (r : Result ℕ Refusal) (q : Refusal) → r ≡ Err q → record { answer = Err q; rows = rows; columns = columns; values = values } ≡ listing rows columns values r (staged_entries r stageRows stageColumns stageValues)
  list_refused r q e = rw e

  pub list_copied : (r : Result ℕ Refusal) (n : ℕ) → r ≡ Ok n → StageRoom n stageRows stageColumns stageValues → (rows' columns' : List ℕ) (values' : List Float) → rows' ≡ laid set 0 (take n stageRows) rows → columns' ≡ laid set 0 (take n stageColumns) columns → values' ≡ laid set 0 (take n stageValues) values
      → record { answer = Ok n; rows = rows'; columns = columns'; values = values' } ≡ listing rows columns values r (staged_entries r stageRows stageColumns stageValues)
  list_copied r n e s rows' columns' values' er ec ev = rw e (copied n stageRows stageColumns stageValues s rows columns values rows' columns' values' er ec ev)

module _ (n : ℕ) (offsets columns : List ℕ) (values : List Float) (stageRows stageColumns : List ℕ) (stageValues : List Float) where
  pub rows_refused : (r : Result ℕ Refusal) (q : Refusal) → r ≡ Err q → record { answer = r; offsets = offsets; columns = columns; values = values } ≡ by_rows n offsets columns values r (staged_entries r stageRows stageColumns stageValues)
  rows_refused r q e = rw e

  pub rows_sorted : (r : Result ℕ Refusal) (k : ℕ) → r ≡ Ok k → (offsets' columns' : List ℕ) (values' : List Float) → ByRows n (staged k stageRows stageColumns stageValues) offsets columns values offsets' columns' values'
      → record { answer = Ok k; offsets = offsets'; columns = columns'; values = values' } ≡ by_rows n offsets columns values r (staged_entries r stageRows stageColumns stageValues)
  rows_sorted r k e offsets' columns' values' b = rw e (by_rows_done n k (staged k stageRows stageColumns stageValues) offsets columns values offsets' columns' values' b)
