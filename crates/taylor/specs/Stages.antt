-- SPDX-FileCopyrightText: 2026 The PPVM Authors
-- SPDX-License-Identifier: Apache-2.0

-- Numbers evolved by one time step over a matrix by rows: s stages of m products each. Every operation is rounded once.
use Rattle.std.specs.Prelude.{ℕ, zero, suc, ◌*◌, true, cond, List, [], ◌∷◌, map, ltb, Float, pos, length}
use Rattle.std.specs.Float.{binary64}
use Rattle.std.specs.Float.Ieee.{add, mul, div, of_int}
use Rattle.lent.specs.Tests.{first_to}
use Rattle.lent.specs.Numbers.{not_finite}
use Rattle.csr.specs.Products.{product}

-- the numbers evolved, or the first row with one that is not finite
pub data Evolution : Type 0 where
  evolved : List Float → Evolution
  stopped : ℕ → Evolution

-- all rows are looked through, and where all are finite it goes on
unfoldable pub swept : List Float → Evolution → Evolution
swept l after = cond (ltb (first_to (length l) (not_finite l)) (length l)) (stopped (first_to (length l) (not_finite l))) after

-- ---- number by number
unfoldable pub scaled : Float → List Float → List Float
scaled x l = map (λ y. mul binary64 y x) l

unfoldable pub added : List Float → List Float → List Float
added [] b = []
added (x ∷ v) [] = []
added (x ∷ v) (y ∷ b) = add binary64 x y ∷ added v b

-- dt ÷ (s·j): the whole number first, then one division
unfoldable pub factor : Float → ℕ → ℕ → Float
factor dt s j = div binary64 dt (of_int binary64 (pos (s * j)))

module _ (offsets columns : List ℕ) (values : List Float) where
  -- the product of b, each sum from 0
  abbrev pub product_of : List Float → List Float
  product_of b = product (length b) offsets columns values b true b

  module _ (m s : ℕ) (dt : Float) where
    -- b becomes (product of b) × (dt ÷ (s·j))
    unfoldable pub next_of : ℕ → List Float → List Float
    next_of j b = scaled (factor dt s j) (product_of b)

    -- for so many j, from j on: the product is looked through first, then b, then v, which becomes v + b
    unfoldable pub terms : ℕ → ℕ → List Float → List Float → (List Float → Evolution) → Evolution
    terms zero j b v after = after v
    terms (suc n) j b v after =
        swept (product_of b)
        (swept (next_of j b)
        (swept (added v (next_of j b))
        (terms n (suc j) (next_of j b) (added v (next_of j b)) after)))

    -- in a stage b starts as v, and j goes from 1 to m
    unfoldable pub stage : List Float → (List Float → Evolution) → Evolution
    stage v after = terms m 1 v v after

    -- so many stages, one after another
    unfoldable pub stages : ℕ → List Float → Evolution
    stages zero v = evolved v
    stages (suc k) v = stage v (stages k)
