-- SPDX-FileCopyrightText: 2026 The PPVM Authors
-- SPDX-License-Identifier: Apache-2.0

-- Contracts between functions: terms added to the sums of a lent table one after another, all of them, or that they find no room.
use Rattle.std.specs.Prelude.{ℕ, ◌*◌, ◌≤◌, ◌≡◌, List, Float, length, Option, Some}
use Rattle.word.specs.Flat.{word_lanes}
use Rattle.number.specs.Floats.{floats}
use Rattle.gksl.specs.Table.{put_all_over}
use Rattle.gksl.specs.Words.{pauli}
use Rattle.sums.specs.Sums.{sum_rows, Rising}
use Rattle.model.specs.Terms.{Term}
use Rattle.model.specs.declared.stored.Range.{Range}
use Rattle.sums.specs.Between.{answer}

-- so many places, so many of them in use, in word order
pub record SumsRoom (room len : ℕ) (lanes : List ℕ) (sums : List Float) : Type 0 where
  pub lanes_long : word_lanes * room ≤ length lanes
  pub sums_long : 2 * room ≤ length sums
  pub inside : len ≤ room
  pub rises : Rising (sum_rows len lanes sums)

-- a range inside the terms table
pub record TermsRoom (r : Range) (lanes : List ℕ) (numbers : List Float) : Type 0 where
  pub order : r.start ≤ r.end
  pub lanes_long : word_lanes * r.end ≤ length lanes
  pub numbers_long : 2 * r.end ≤ length numbers

pub record PutsAll (room len : ℕ) (terms : List Term) (lanes : List ℕ) (sums : List Float) (lanes' : List ℕ) (sums' : List Float) (r : Option ℕ) : Type 0 where
  pub answers : r ≡ answer room (put_all_over floats pauli terms (sum_rows len lanes sums))
  pub held : (n : ℕ) → r ≡ Some n → sum_rows n lanes' sums' ≡ put_all_over floats pauli terms (sum_rows len lanes sums)
