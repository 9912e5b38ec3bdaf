-- SPDX-FileCopyrightText: 2026 The PPVM Authors
-- SPDX-License-Identifier: Apache-2.0

-- Contracts between functions: what the functions of a stage ask for and leave.
use Rattle.std.specs.Prelude.{ℕ, ◌+◌, ◌*◌, ◌≤◌, ◌<◌, ◌≡◌, true, false, cond, List, ◌++◌, ltb, Float, length, take, drop, Ok}
use Rattle.lent.specs.Tests.{first_to}
use Rattle.lent.specs.Numbers.{not_finite}
use Rattle.csr.specs.Products.{table_tests}
use Rattle.taylor.specs.Stages.{Evolution, evolved, stopped, swept, scaled, added, product_of, stage, stages}

abbrev pub AllFinite : List Float → Type 0
AllFinite l = (k : ℕ) → k < length l → not_finite l k ≡ false

-- rows of a list, as far as they are finite, laid over a table
pub record Sweeps (l table : List Float) (r : ℕ) (table' : List Float) : Type 0 where
  pub first : r ≡ first_to (length l) (not_finite l)
  pub laid : table' ≡ take r l ++ drop r table

-- a matrix of n rows that passes the tests of a product with any finite numbers
pub record Matrix (n : ℕ) (offsets columns : List ℕ) (values : List Float) : Type 0 where
  pub offsets_long : length offsets ≡ n + 1
  pub values_long : length values ≡ length columns
  pub passes : (b : List Float) → length b ≡ n → AllFinite b → table_tests n offsets columns values b true b (Ok tt) ≡ Ok tt

-- it goes on where all of n rows were passed
abbrev pub follows : ℕ → ℕ → Evolution → Evolution
follows n r after = cond (ltb r n) (stopped r) after

-- ---- one term
pub record TermReady (offsets columns : List ℕ) (values b product v : List Float) : Type 0 where
  pub matrix : Matrix (length b) offsets columns values
  pub finite : AllFinite b
  pub product_long : length product ≡ length b
  pub v_long : length v ≡ length b

module _ (offsets columns : List ℕ) (values : List Float) where
  abbrev pub term_of : Float → List Float → List Float
  term_of x b = scaled x (product_of offsets columns values b)

  pub record TermLeaves (x : Float) (b v : List Float) (r : ℕ) (b' v' : List Float) : Type 0 where
    pub follow : (after : Evolution) → swept (product_of offsets columns values b) (swept (term_of x b) (swept (added v (term_of x b)) after)) ≡ follows (length b) r after
    pub b_is : length b ≤ r → b' ≡ term_of x b
    pub v_is : length b ≤ r → v' ≡ added v (term_of x b)
    pub b_finite : length b ≤ r → AllFinite b'
    pub v_finite : length b ≤ r → AllFinite v'

  -- ---- stages
  pub record StageReady (m s : ℕ) (b product v : List Float) : Type 0 where
    pub matrix : Matrix (length v) offsets columns values
    pub finite : AllFinite v
    pub b_long : length b ≡ length v
    pub product_long : length product ≡ length v
    pub short : m < 4294967296
    pub few : m * s ≤ 1048576

  pub record StageLeaves (m s : ℕ) (dt : Float) (v : List Float) (r : ℕ) (v' : List Float) : Type 0 where
    pub follow : (after : List Float → Evolution) → stage offsets columns values m s dt v after ≡ follows (length v) r (after v')
    pub finite : length v ≤ r → AllFinite v'

  abbrev pub StagesLeave : ℕ → ℕ → Float → List Float → ℕ → List Float → Type 0
  StagesLeave m s dt v r v' = stages offsets columns values m s dt s v ≡ follows (length v) r (evolved v')

-- ---- a time step
-- finite numbers, and tables of as many places
pub record RunReady (offsets columns : List ℕ) (values : List Float) (m s : ℕ) (coeffs v b product out : List Float) : Type 0 where
  pub matrix : Matrix (length coeffs) offsets columns values
  pub finite : AllFinite coeffs
  pub v_long : length v ≡ length coeffs
  pub b_long : length b ≡ length coeffs
  pub product_long : length product ≡ length coeffs
  pub out_long : length out ≡ length coeffs
  pub short : m < 4294967296
  pub few : m * s ≤ 1048576

-- finite numbers, and tables of at least as many places
pub record EvolveReady (offsets columns : List ℕ) (values coeffs v b product out : List Float) : Type 0 where
  pub matrix : Matrix (length coeffs) offsets columns values
  pub finite : AllFinite coeffs
  pub v_long : length coeffs ≤ length v
  pub b_long : length coeffs ≤ length b
  pub product_long : length coeffs ≤ length product
  pub out_long : length coeffs ≤ length out
