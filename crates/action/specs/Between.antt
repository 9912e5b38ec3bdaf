-- SPDX-FileCopyrightText: 2026 The PPVM Authors
-- SPDX-License-Identifier: Apache-2.0

-- Contracts between functions: a list laid into lent tables.
use Rattle.std.specs.Prelude.{ℕ, ◌*◌, ◌≤◌, ◌≡◌, List, map, Float, length, set}
use Rattle.word.specs.Flat.{lay_word, word_lanes}
use Rattle.sums.specs.Sums.{sum_rows}
use Rattle.model.specs.Terms.{Term}
use Rattle.lent.specs.Laid.{laid}
use Rattle.action.specs.Acts.{listed}

pub record Lists (L : List Term) (outWords : List ℕ) (outValues : List Float) (outWords' : List ℕ) (outValues' : List Float) : Type 0 where
  pub words_are : outWords' ≡ laid lay_word 0 (map (λ c. c.word) L) outWords
  pub values_are : outValues' ≡ laid set 0 (map (λ c. c.num.re) L) outValues

-- room for those of the first sums that are listed
pub record ListRoom (len : ℕ) (lanes : List ℕ) (sums : List Float) (outWords : List ℕ) (outValues : List Float) : Type 0 where
  pub lanes_long : word_lanes * len ≤ length lanes
  pub sums_long : 2 * len ≤ length sums
  pub words_room : word_lanes * length (listed (sum_rows len lanes sums)) ≤ length outWords
  pub values_room : length (listed (sum_rows len lanes sums)) ≤ length outValues
