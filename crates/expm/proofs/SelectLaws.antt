-- SPDX-FileCopyrightText: 2026 The PPVM Authors
-- SPDX-License-Identifier: Apache-2.0

-- The first pair of least cost, row by row; and the products fit. Assumes nothing.
use Rattle.std.proofs.Common.{◌≡◌, ℕ, suc, ◌+◌, ◌*◌, ◌^◌, ◌<◌, ◌≤◌, Bool, true, false, cond, List, [], ◌∷◌, map, length, get_or, drop, sym, refl, ap, subst, lt_of_le_of_lt, le_of_lt, mul-le-mul_left, mul-lt-mul_of_pos_right, add-one, arith, drop_of_length-le, drop-cons}
use lib.Ieee.{Float, nan, binary64, lt, div}
use Rattle.number.specs.Floats.{float0}
use Rattle.expm.specs.Selects.{steps_of, pair, pair_of, better, least_of, degree_by, rows_from}
use Rattle.expm.specs.declared.Degree.{Degree}

-- a product of two numbers of 32 bits has at most 64
pub product_fits : (a b : ℕ) → a < 2 ^ 32 → b < 2 ^ 32 → a * b < 2 ^ 64
product_fits a b ha hb = lt_of_le_of_lt (mul-le-mul_left a (le_of_lt hb)) (mul-lt-mul_of_pos_right {k = 4294967296} ha (omega arith))

-- ---- the rows one by one
module _ (t : Float) (xs : List Float) where
  -- the pairs from place i on
  abbrev pub pairs_from : ℕ → List Degree
  pairs_from i = map (pair_of t) (rows_from (suc i) (drop i xs))

  -- the best so far beside the pairs that are left
  abbrev pub SelectState : Degree → ℕ → Type 0
  SelectState best i = least_of best (pairs_from i) ≡ degree_by (rows_from 1 xs) t

  pub select_more : (best : Degree) (i s : ℕ) → SelectState best i → i < length xs → s ≡ steps_of (div binary64 t (get_or xs i nan)) → (next : Degree) → next ≡ better best (pair (i + 1) s) → SelectState next (i + 1)
  unfolding rows_from least_of
  select_more best i s k h e next en =
      let d : drop i xs ≡ get_or xs i nan ∷ drop (suc i) xs = drop-cons xs i nan h in
      let p : pairs_from i ≡ pair (suc i) (steps_of (div binary64 t (get_or xs i nan))) ∷ pairs_from (suc i) = ap (λ (l : List Float). map (pair_of t) (rows_from (suc i) l)) d in
      let c : least_of best (pair (suc i) (steps_of (div binary64 t (get_or xs i nan))) ∷ pairs_from (suc i)) ≡ degree_by (rows_from 1 xs) t = subst (λ (l : List Degree). least_of best l ≡ degree_by (rows_from 1 xs) t) p k in
      rw (en, e, add-one i) c

  pub select_done : (best : Degree) (i : ℕ) → SelectState best i → length xs ≤ i → best ≡ degree_by (rows_from 1 xs) t
  unfolding rows_from least_of
  select_done best i k h = subst (λ (l : List Float). least_of best (map (pair_of t) (rows_from (suc i) l)) ≡ degree_by (rows_from 1 xs) t) (drop_of_length-le xs h) k

pub select_none : (t : Float) (xs : List Float) → lt float0 t ≡ false → pair 1 1 ≡ degree_by (rows_from 1 xs) t
unfolding degree_by rows_from
select_none t [] e = refl
select_none t (x ∷ xs) e = sym (ap (λ (b : Bool). cond b (least_of (pair_of t (record { m = 1; threshold = x })) (map (pair_of t) (rows_from 2 xs))) (pair 1 1)) e)

pub select_start : (t : Float) (xs : List Float) → 0 < length xs → lt float0 t ≡ true → (s : ℕ) → s ≡ steps_of (div binary64 t (get_or xs 0 nan)) → SelectState t xs (pair 1 s) 1
unfolding degree_by rows_from
select_start t [] h e s es = absurd (omega arith)
select_start t (x ∷ xs) h e s es =
    rw es (sym (ap (λ (b : Bool). cond b (least_of (pair_of t (record { m = 1; threshold = x })) (map (pair_of t) (rows_from 2 xs))) (pair 1 1)) e))
