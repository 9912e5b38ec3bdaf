-- SPDX-FileCopyrightText: 2026 The PPVM Authors
-- SPDX-License-Identifier: Apache-2.0

-- Degree (m, s) for a norm t: the degree of the Taylor polynomial, and into how many steps the exponential is cut; 16 where that asks
-- for too many products.
use Rattle.std.specs.Prelude.{◌≡◌, ℕ, suc, ◌*◌, ◌/◌, ◌%◌, ◌<◌, ◌≤◌, min, max, cond, List, [], ◌∷◌, map, length, get_or, ◌==◌, nat_lt, slice_index_or, Float, Result, Ok, Err}
use Rattle.std.specs.Float.{nan, inf, fin, binary64}
use Rattle.std.specs.Float.Ieee.{up, down, lt, le, div}
use Rattle.refusal.specs.declared.Refusal.{Refusal}
use Rattle.refusal.specs.declared.Refusal.TheVariants.{TooManyProducts}
use Rattle.number.specs.Floats.{float0}
use Rattle.expm.specs.Theta.{Row, row, decimal, theta, theta_loose}
use Rattle.expm.specs.declared.Degree.{Degree}

abbrev pub max_steps : ℕ
max_steps = 4294967295

-- a / b rounded up
abbrev pub ceiling : ℕ → ℕ → ℕ
ceiling a b = cond (a % b == 0) (a / b) (suc (a / b))

-- x rounded up, at least 1, at most 4294967295; a NaN gives 1
unfoldable pub steps_of : Float → ℕ
steps_of nan = 1
steps_of (inf s) = cond s 1 max_steps
steps_of (fin s m e) = cond s 1 (max 1 (min max_steps (ceiling (m * up e) (down e))))

abbrev pub pair : ℕ → ℕ → Degree
pair m s = record { m = m; s = s }

-- a row's pair: s is t divided by the row's threshold, rounded up
abbrev pub pair_of : Float → Row → Degree
pair_of t r = pair r.m (steps_of (div binary64 t r.threshold))

abbrev pub cost : Degree → ℕ
cost d = d.m * d.s

-- the one of two with the smaller m × s, the first where they are equal
unfoldable pub better : Degree → Degree → Degree
better best d = cond (nat_lt (cost d) (cost best)) d best

-- the first of least m × s
unfoldable pub least_of : Degree → List Degree → Degree
least_of best [] = best
least_of best (d ∷ ds) = least_of (better best d) ds

-- (1,1) if t is 0 or below, or a NaN; else the first row of least m × s wins
unfoldable pub degree_by : List Row → Float → Degree
degree_by [] t = pair 1 1
degree_by (r ∷ rs) t = cond (lt float0 t) (least_of (pair_of t r) (map (pair_of t) rs)) (pair 1 1)

-- drop_tol ≥ 1e-4 takes the loose table
unfoldable pub table_for : Float → List Row
table_for dropTol = cond (le (decimal 1 4) dropTol) theta_loose theta

-- ---- the ceiling on matrix products
abbrev pub max_products : ℕ
max_products = 1048576

-- 16 (m, s) where m × s exceeds the ceiling
unfoldable pub under_ceiling : Degree → Result Degree Refusal
under_ceiling d = cond (nat_lt max_products (cost d)) (Err (TooManyProducts d.m d.s)) (Ok d)

-- the degree choice: the first pair of least m × s, under the ceiling
unfoldable pub chosen : Float → Float → Result Degree Refusal
chosen dropTol t = under_ceiling (degree_by (table_for dropTol) t)

-- ---- what laws say
-- thresholds one after another: the degrees count from m on
unfoldable pub rows_from : ℕ → List Float → List Row
rows_from m [] = []
rows_from m (x ∷ xs) = row m x ∷ rows_from (suc m) xs

-- d stands in a list; no pair there has a smaller product, and none before it the same
pub record FirstLeast (ds : List Degree) (d : Degree) : Type 0 where
  pub place : ℕ
  pub inside : place < length ds
  pub stands : get_or ds place d ≡ d
  pub least : (k : ℕ) → k < length ds → cost d ≤ cost (slice_index_or ds k d)
  pub first : (k : ℕ) → k < place → cost d < cost (slice_index_or ds k d)

-- d, if it is answered: the pair without a ceiling, the first of least m × s
pub record Answers (dropTol t : Float) (d : Degree) : Type 0 where
  pub unmoved : d ≡ degree_by (table_for dropTol) t
  pub least : FirstLeast (map (pair_of t) (table_for dropTol)) d
  pub under : cost d ≤ max_products

-- r, if it is refused: 16 with that pair
pub record Refuses (dropTol t : Float) (r : Refusal) : Type 0 where
  pub pair : Degree
  pub least : FirstLeast (map (pair_of t) (table_for dropTol)) pair
  pub over : max_products < cost pair
  pub cause : r ≡ TooManyProducts pair.m pair.s
