-- SPDX-FileCopyrightText: 2026 The PPVM Authors
-- SPDX-License-Identifier: Apache-2.0

-- The mean and the largest column norm, column by column. Assumes nothing.
use mathlib.Core.Path.{◌≡◌, sym, ap, ap₂, ◌∙◌, subst}
use mathlib.Core.List.{List, [], ◌∷◌}
use Prim.Native.Nat.{ℕ, suc, ◌+◌, ◌≤◌, ◌<◌}
use native.Mathlib.Numerals.{add-one}
use native.Mathlib.Omega.{arith}
use lib.IntN.{pos}
use lib.Ieee.{Float, nan, binary64, div, of_int}
use lib.ListN.{length, get_or, take, drop, drop_of_length-le}
use lib.Seq.{drop-cons, get_or-take, length-take-le}
use Rattle.number.specs.Floats.{floats, float0}
use Rattle.column_norm.specs.Columns.{sum_from, total, mean_of, largest_from, largest, column_norm}
use Rattle.column_norm.specs.Between.{column_norms}

-- ---- one more of the first len numbers
module _ (len : ℕ) (l : List Float) (long : len ≤ length l) where
  pub first_next : (i : ℕ) → i < len → drop i (take len l) ≡ get_or l i nan ∷ drop (i + 1) (take len l)
  first_next i h =
      let n = length-take-le len l long in
      rw (add-one i) (drop-cons (take len l) i nan (omega (arith, n)) ∙ ap (λ (x : Float). x ∷ drop (suc i) (take len l)) (get_or-take len l i nan h))

  pub first_none : (i : ℕ) → len ≤ i → drop i (take len l) ≡ []
  first_none i h = let n = length-take-le len l long in let k : length (take len l) ≤ i = omega (arith, n) in drop_of_length-le (take len l) k

-- ---- the mean
module _ (len : ℕ) (l : List Float) where
  -- what is added so far, and what is left to add
  pub record SumState (sum : Float) (i : ℕ) : Type 0 where
    pub added : sum_from sum (drop i (take len l)) ≡ total (take len l)

  pub mean_none : len ≡ 0 → float0 ≡ mean_of (take len l)
  unfolding mean_of
  mean_none e = rw e

  mean_is : (k : List Float) → length k ≡ len → (len ≡ 0 → ⊥) → div binary64 (total k) (of_int binary64 (pos len)) ≡ mean_of k
  unfolding mean_of
  mean_is [] e z = absurd (z (sym e))
  mean_is (d ∷ ds) e z = rw (sym e)

  module _ (long : len ≤ length l) (sum : Float) (i : ℕ) (s : SumState sum i) where
    pub sum_adds : i < len → SumState (floats.plus sum (get_or l i nan)) (i + 1)
    unfolding sum_from
    sum_adds h = record { added = subst (λ (r : List Float). sum_from sum r ≡ total (take len l)) (first_next len l long i h) s.added }

    sum_done : len ≤ i → sum ≡ total (take len l)
    unfolding sum_from
    sum_done h = subst (λ (r : List Float). sum_from sum r ≡ total (take len l)) (first_none len l long i h) s.added

    pub mean_done : len ≤ i → (len ≡ 0 → ⊥) → div binary64 sum (of_int binary64 (pos len)) ≡ mean_of (take len l)
    mean_done h z = rw (sum_done h) (mean_is (take len l) (length-take-le len l long) z)

-- ---- the largest
module _ (mu : Float) (len : ℕ) (raws diags : List Float) where
  -- the columns from place i on
  abbrev columns_from : ℕ → List Float
  columns_from i = column_norms mu (drop i (take len raws)) (drop i (take len diags))

  abbrev all : Float
  all = largest (column_norms mu (take len raws) (take len diags))

  pub record LargestState (norm : Float) (i : ℕ) : Type 0 where
    pub left : largest_from norm (columns_from i) ≡ all

  module _ (rl : len ≤ length raws) (dl : len ≤ length diags) (norm : Float) (i : ℕ) (s : LargestState norm i) where
    pub largest_more : i < len → (column next : Float) → column ≡ column_norm mu (get_or raws i nan) (get_or diags i nan) → next ≡ floats.larger norm column → LargestState next (i + 1)
    unfolding largest_from column_norms
    largest_more h column next ec en =
        let e : columns_from i ≡ column_norm mu (get_or raws i nan) (get_or diags i nan) ∷ columns_from (i + 1) = ap₂ (column_norms mu) (first_next len raws rl i h) (first_next len diags dl i h) in
        record { left = rw (en, ec) (subst (λ (r : List Float). largest_from norm r ≡ all) e s.left) }

    pub largest_done : len ≤ i → norm ≡ all
    unfolding largest_from column_norms
    largest_done h =
        let e : columns_from i ≡ [] = ap₂ (column_norms mu) (first_none len raws rl i h) (first_none len diags dl i h) in
        subst (λ (r : List Float). largest_from norm r ≡ all) e s.left
