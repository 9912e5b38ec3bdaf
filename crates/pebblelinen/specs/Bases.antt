-- SPDX-FileCopyrightText: 2026 The PPVM Authors
-- SPDX-License-Identifier: Apache-2.0

-- Answers of calls on a basis in plain numbers, and the lengths of their work tables.
use Rattle.std.specs.Prelude.{ℕ, max, ◌≡◌, List, Float, Result, Ok, Err}
use Rattle.refusal.specs.Cause.{status_of, answer_status}
use Rattle.refusal.specs.declared.Refusal.{Refusal}
use Rattle.lent.specs.Tests.{where_any}
use Rattle.truncate.specs.Prunes.{Keeping}
use Rattle.truncate.specs.Admissions.{Admitting}
use Rattle.pebblelinen.specs.declared.bases.KeptEntries.{KeptEntries}
use Rattle.pebblelinen.specs.declared.bases.BasisSizes.{BasisSizes}

-- how many entries the basis has, or the refusal and 0
abbrev pub kept_of : Result ℕ Refusal → KeptEntries
kept_of (Ok n) = record { status = answer_status (Ok tt); entries = n }
kept_of (Err refusal) = record { status = status_of refusal; entries = 0 }

-- what prune or cap answers, and the lent tables afterwards
pub record LeavesBasis (k : Keeping) (r : KeptEntries) (lanes : List ℕ) (coeffs : List Float) (order work fixed kept : List ℕ) : Type 0 where
  pub answers : r ≡ kept_of k.answer
  pub lanes_are : lanes ≡ k.lanes
  pub coeffs_are : coeffs ≡ k.coeffs
  pub order_is : order ≡ k.order
  pub work_is : work ≡ k.work
  pub fixed_is : fixed ≡ k.fixed
  pub kept_is : kept ≡ k.kept

-- what admission answers, and the lent tables afterwards
pub record LeavesAdmitted (a : Admitting) (r : KeptEntries) (lanes : List ℕ) (coeffs : List Float) (order work kept : List ℕ) : Type 0 where
  pub answers : r ≡ kept_of a.answer
  pub lanes_are : lanes ≡ a.lanes
  pub coeffs_are : coeffs ≡ a.coeffs
  pub order_is : order ≡ a.order
  pub work_is : work ≡ a.work
  pub kept_is : kept ≡ a.kept

-- the lengths that are enough for a basis of so many entries, so many protected words and so many listed ones; the protected ones
-- are looked for only where there is an entry
unfoldable pub basis_sizes : ℕ → ℕ → ℕ → BasisSizes
basis_sizes entries protected listed =
    let kept : ℕ = max entries listed in
    let order : ℕ = max kept (where_any entries protected) in
    record { order = order; work = order; fixed = entries; kept = kept }
