-- SPDX-FileCopyrightText: 2026 The PPVM Authors
-- SPDX-License-Identifier: Apache-2.0

-- Contracts between functions: raws of entries that stand column by column.
use Rattle.std.specs.Prelude.{ℕ, zero, suc, ◌+◌, ◌≡◌, cond, List, [], ◌∷◌, eqb, Float, drop}
use Rattle.number.specs.Floats.{floats, float0, magnitude}
use Rattle.raw_norm.specs.declared.ColumnRaw.{ColumnRaw}

-- the magnitudes of the entries at the front that are of column c, added to x, and how many they are
unfoldable pub front_sum : ℕ → Float → List ℕ → List Float → Float
front_sum c x [] vs = x
front_sum c x (k ∷ ks) [] = x
front_sum c x (k ∷ ks) (v ∷ vs) = cond (eqb k c) (front_sum c (floats.plus x (magnitude v)) ks vs) x

unfoldable pub front_size : ℕ → List ℕ → ℕ
front_size c [] = 0
front_size c (k ∷ ks) = cond (eqb k c) (suc (front_size c ks)) 0

-- n columns from c on, one after another
unfoldable pub raws_from : ℕ → ℕ → List ℕ → List Float → List Float
raws_from zero c ks vs = []
raws_from (suc n) c ks vs = front_sum c float0 ks vs ∷ raws_from n (suc c) (drop (front_size c ks) ks) (drop (front_size c ks) vs)

pub record ColumnSummed (ks : List ℕ) (vs : List Float) (start c : ℕ) (r : ColumnRaw) : Type 0 where
  pub summed : r.raw ≡ front_sum c float0 (drop start ks) (drop start vs)
  pub passed : r.next ≡ start + front_size c (drop start ks)
