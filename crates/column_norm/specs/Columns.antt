-- SPDX-FileCopyrightText: 2026 The PPVM Authors
-- SPDX-License-Identifier: Apache-2.0

-- The columns of the generator, one for each basis word: raw and diagonal of each, mu, and the norm.
use Rattle.std.specs.Prelude.{cond, List, [], ◌∷◌, map, pos, Float, length}
use Rattle.std.specs.Float.{binary64}
use Rattle.std.specs.Float.Ieee.{div, of_int}
use Rattle.word.specs.Order.{same}
use Rattle.word.specs.declared.word.Word.{Word}
use Rattle.order.specs.Places.{is_among}
use Rattle.number.specs.Floats.{floats, float0, magnitude}
use Rattle.model.specs.Stored.{ModelTables}
use Rattle.model.specs.Terms.{Term}
use Rattle.model.specs.declared.stored.Model.{Model}
use Rattle.action.specs.Acts.{action_of}

-- a sum starts at 0 and takes its numbers in order
unfoldable pub sum_from : Float → List Float → Float
sum_from x [] = x
sum_from x (y ∷ ys) = sum_from (floats.plus x y) ys

abbrev pub total : List Float → Float
total l = sum_from float0 l

-- ---- one column, from the terms of its word's action
-- the terms whose word is in the basis, in word order
unfoldable pub inside_of : List Word → List Term → List Term
inside_of bs [] = []
inside_of bs (c ∷ L) = cond (is_among c.word bs) (c ∷ inside_of bs L) (inside_of bs L)

-- raw adds their magnitudes, in that order, each term once
unfoldable pub raw_of : List Word → List Term → Float
raw_of bs L = total (map (λ c. magnitude c.num.re) (inside_of bs L))

-- diag: the coefficient onto the column's own word, or 0
unfoldable pub diag_of : Word → List Term → Float
diag_of w [] = float0
diag_of w (c ∷ L) = cond (same c.word w) c.num.re (diag_of w L)

-- raw − |diag| + |diag − mu|
unfoldable pub column_norm : Float → Float → Float → Float
column_norm mu raw diag = floats.plus (floats.less raw (magnitude diag)) (magnitude (floats.less diag mu))

-- ---- all columns
-- the sum in column order divided by the number of columns; 0 where there is none
unfoldable pub mean_of : List Float → Float
mean_of [] = float0
mean_of (d ∷ ds) = div binary64 (total (d ∷ ds)) (of_int binary64 (pos (length (d ∷ ds))))

-- the largest, and 0 where there is none
unfoldable pub largest_from : Float → List Float → Float
largest_from x [] = x
largest_from x (y ∷ ys) = largest_from (floats.larger x y) ys

abbrev pub largest : List Float → Float
largest l = largest_from float0 l

module _ (m : Model) (t : ModelTables) where
  abbrev pub raw_by : List Word → Word → Float
  raw_by ps p = raw_of ps (action_of m t p)

  abbrev pub diag_by : Word → Float
  diag_by p = diag_of p (action_of m t p)

  unfoldable pub mu_of : List Word → Float
  mu_of ps = mean_of (map diag_by ps)

  unfoldable pub norm_of : List Word → Float
  norm_of ps = largest (map (λ p. column_norm (mu_of ps) (raw_by ps p) (diag_by p)) ps)
