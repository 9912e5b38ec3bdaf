-- SPDX-FileCopyrightText: 2026 The PPVM Authors
-- SPDX-License-Identifier: Apache-2.0

-- What a step is lent to work with, and what it asks for: the model, 8, 9, 11, 7, 12.
use Rattle.std.specs.Prelude.{ℕ, suc, ◌+◌, ◌-◌, ◌*◌, ◌/◌, min, List, [], ◌∷◌, Float, length, replicate, Ok}
use Rattle.refusal.specs.Cause.{Answer}
use Rattle.word.specs.Flat.{word_lanes}
use Rattle.number.specs.Floats.{float0}
use Rattle.model.specs.Stored.{ModelTables}
use Rattle.model.specs.Tested.{test_model}
use Rattle.model.specs.declared.stored.Model.{Model}
use Rattle.lent.specs.Tests.{counted, lent, equal, where_any, and_then, in_turn}
use Rattle.lent.specs.Words.{max_words, inside_to}
use Rattle.lent.specs.Numbers.{finite_to, finite_threshold}
use Rattle.limits.specs.Defaults.{limit_tests, tau_tests}
use Rattle.limits.specs.declared.Limits.{Limits}
use Rattle.action.specs.Counts.{row_lanes}
use Rattle.generator.specs.Lent.{distinct, basis_of}
use Rattle.step_laws.specs.Steps.{Places}

-- the tables of a leakage; its list; those of an evolution that share with none of these; the grown basis, with the numbers given, a zero for each
-- word that entered, and the evolved ones. Where an evolution runs, place_order holds where rows start, cand_sums the values
-- while they are staged and then the numbers of a stage, list_values its terms, and work_sums a product
pub record Work : Type 0 where
  pub h_index : List ℕ
  pub j_index : List ℕ
  pub mask : List ℕ
  pub work_words : List ℕ
  pub work_sums : List Float
  pub order : List ℕ
  pub heads : List ℕ
  pub nexts : List ℕ
  pub cand_words : List ℕ
  pub cand_sums : List Float
  pub place_order : List ℕ
  pub place_work : List ℕ
  pub list_words : List ℕ
  pub list_values : List Float
  pub stage_rows : List ℕ
  pub stage_columns : List ℕ
  pub columns : List ℕ
  pub values : List Float
  pub grown_words : List ℕ
  pub start : List Float
  pub evolved : List Float

abbrev pub work_of : List ℕ → List ℕ → List ℕ → List ℕ → List Float → List ℕ → List ℕ → List ℕ → List ℕ → List Float → List ℕ → List ℕ → List ℕ → List Float → List ℕ → List ℕ → List ℕ → List Float → List ℕ → List Float → List Float → Work
work_of hIndex jIndex mask workWords workSums order heads nexts candWords candSums placeOrder placeWork listWords listValues stageRows stageColumns columns values grownWords start evolved = record {
  h_index = hIndex;
  j_index = jIndex;
  mask = mask;
  work_words = workWords;
  work_sums = workSums;
  order = order;
  heads = heads;
  nexts = nexts;
  cand_words = candWords;
  cand_sums = candSums;
  place_order = placeOrder;
  place_work = placeWork;
  list_words = listWords;
  list_values = listValues;
  stage_rows = stageRows;
  stage_columns = stageColumns;
  columns = columns;
  values = values;
  grown_words = grownWords;
  start = start;
  evolved = evolved;
}

abbrev pub zeroed : Work → Work
zeroed w = record {
  h_index = replicate (length w.h_index) 0;
  j_index = replicate (length w.j_index) 0;
  mask = replicate (length w.mask) 0;
  work_words = replicate (length w.work_words) 0;
  work_sums = replicate (length w.work_sums) float0;
  order = replicate (length w.order) 0;
  heads = replicate (length w.heads) 0;
  nexts = replicate (length w.nexts) 0;
  cand_words = replicate (length w.cand_words) 0;
  cand_sums = replicate (length w.cand_sums) float0;
  place_order = replicate (length w.place_order) 0;
  place_work = replicate (length w.place_work) 0;
  list_words = replicate (length w.list_words) 0;
  list_values = replicate (length w.list_values) float0;
  stage_rows = replicate (length w.stage_rows) 0;
  stage_columns = replicate (length w.stage_columns) 0;
  columns = replicate (length w.columns) 0;
  values = replicate (length w.values) float0;
  grown_words = replicate (length w.grown_words) 0;
  start = replicate (length w.start) float0;
  evolved = replicate (length w.evolved) float0;
}

-- ---- places, by the lengths of the tables
-- table 1, words touched by one action; table 2, candidates
unfoldable pub touched_places : (workWords workSums : ℕ) → ℕ
touched_places workWords workSums = min (workWords / word_lanes) (workSums / 2)

unfoldable pub row_places : (candWords candSums placeOrder placeWork : ℕ) → ℕ
row_places candWords candSums placeOrder placeWork = min (min (candWords / word_lanes) candSums) (min placeOrder placeWork)

-- table 3: the list; the grown basis, and every table with a place for each of its positions, beside count protected words; the entries of
-- its matrix
unfoldable pub grown_places : (lanes coeffs grownWords start evolved order heads nexts placeOrder candSums listValues workSums count : ℕ) → ℕ
grown_places lanes coeffs grownWords start evolved order heads nexts placeOrder candSums listValues workSums count =
    min (min (min (lanes / word_lanes) coeffs) (min (min (grownWords / word_lanes) start) evolved))
    (min (min (min order (heads - count)) (min (nexts - count) (placeOrder - 1))) (min (min candSums listValues) workSums))

unfoldable pub entry_places : (stageRows stageColumns candSums columns values : ℕ) → ℕ
entry_places stageRows stageColumns candSums columns values = min (min (min stageRows stageColumns) candSums) (min columns values)

abbrev pub places_of : List ℕ → List Float → List ℕ → Work → Places
places_of lanes coeffs protected w = record {
  touched = touched_places (length w.work_words) (length w.work_sums);
  candidates = row_places (length w.cand_words) (length w.cand_sums) (length w.place_order) (length w.place_work);
  listed = min (length w.list_words / word_lanes) (length w.list_values);
  basis = grown_places (length lanes) (length coeffs) (length w.grown_words) (length w.start) (length w.evolved) (length w.order) (length w.heads) (length w.nexts) (length w.place_order) (length w.cand_sums) (length w.list_values) (length w.work_sums) (length protected / word_lanes);
  entries = entry_places (length w.stage_rows) (length w.stage_columns) (length w.cand_sums) (length w.columns) (length w.values);
}

-- ---- the tests
-- the model, 8 for the basis, the protected list and the word limits, 9 for what is given
unfoldable pub given_tests : Model → ModelTables → List ℕ → List Float → ℕ → List ℕ → Limits → Answer
given_tests m t lanes coeffs len protected l =
    in_turn (
    and_then (test_model m t)
    ∷ counted max_words len
    ∷ counted max_words (length protected / word_lanes)
    ∷ and_then (limit_tests l)
    ∷ lent len (length lanes / word_lanes)
    ∷ lent len (length coeffs)
    ∷ equal (length protected / word_lanes * word_lanes) (length protected)
    ∷ []) (Ok tt)

-- 9 for the tables whose lengths the input fixes, beside count protected words: as in leakage, then as in evolution, then the copy. An empty basis asks for
-- no place
unfoldable pub work_tests : (n len count hIndex jIndex mask order heads nexts placeOrder candSums listValues workSums grownWords start evolved : ℕ) → Answer
work_tests n len count hIndex jIndex mask order heads nexts placeOrder candSums listValues workSums grownWords start evolved =
    in_turn (
    lent (where_any len (row_lanes * n)) hIndex
    ∷ lent (where_any len (row_lanes * n)) jIndex
    ∷ lent (where_any len row_lanes) mask
    ∷ lent len order
    ∷ lent (where_any len (len + count)) heads
    ∷ lent (where_any len (len + count)) nexts
    ∷ lent (where_any len (suc len)) placeOrder
    ∷ lent len candSums
    ∷ lent len listValues
    ∷ lent len workSums
    ∷ lent len (grownWords / word_lanes)
    ∷ lent len start
    ∷ lent len evolved
    ∷ []) (Ok tt)

-- 11 for the basis, then for the protected list; 7 for coefficients, dt, drop_tol, tau_add
unfoldable pub number_tests : ℕ → List ℕ → List Float → ℕ → List ℕ → Limits → Float → Float → Answer
number_tests n lanes coeffs len protected l dt dropTol =
    in_turn (
    inside_to len lanes n
    ∷ inside_to (length protected / word_lanes) protected n
    ∷ finite_to 0 len coeffs
    ∷ finite_threshold len dt
    ∷ finite_threshold len dropTol
    ∷ []) (tau_tests len l)

-- and 12, over tables of so many places
unfoldable pub step_tests : Model → ModelTables → List ℕ → List Float → ℕ → List ℕ → Limits → Float → Float → (hIndex jIndex mask order heads nexts placeOrder candSums listValues workSums grownWords start evolved : ℕ) → Answer
step_tests m t lanes coeffs len protected l dt dropTol hIndex jIndex mask order heads nexts placeOrder candSums listValues workSums grownWords start evolved =
    in_turn (
    and_then (given_tests m t lanes coeffs len protected l)
    ∷ and_then (work_tests m.qubits len (length protected / word_lanes) hIndex jIndex mask order heads nexts placeOrder candSums listValues workSums grownWords start evolved)
    ∷ and_then (number_tests m.qubits lanes coeffs len protected l dt dropTol)
    ∷ []) (distinct (basis_of lanes len))
