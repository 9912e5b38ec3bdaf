-- SPDX-FileCopyrightText: 2026 The PPVM Authors
-- SPDX-License-Identifier: Apache-2.0

-- Norm and degree over a lent model and basis: refusals in their order, the answer, and every lent table afterwards.
use Rattle.std.specs.Prelude.{ℕ, ◌*◌, ◌/◌, cond, List, [], ◌∷◌, ltb, Float, length, take, replicate, Result, Ok, Err}
use Rattle.refusal.specs.declared.Refusal.TheVariants.{TableFull}
use Rattle.refusal.specs.declared.Refusal.{Refusal}
use Rattle.expm.specs.declared.Degree.{Degree}
use Rattle.norm.specs.declared.norm.Normed.{Normed}
use Rattle.norm.specs.declared.degree.Selected.{Selected}
use Rattle.refusal.specs.Cause.{Answer}
use Rattle.word.specs.Flat.{words, word_lanes}
use Rattle.word.specs.declared.word.Word.{Word}
use Rattle.number.specs.Floats.{floats, float0, magnitude}
use Rattle.expm.specs.Selects.{chosen}
use Rattle.model.specs.Stored.{ModelTables}
use Rattle.model.specs.Tested.{test_model}
use Rattle.lent.specs.Tests.{counted, lent, where_any, and_then, in_turn}
use Rattle.lent.specs.Words.{max_words, inside_to}
use Rattle.lent.specs.Numbers.{finite_threshold}
use Rattle.model.specs.declared.stored.Model.{Model}
use Rattle.action.specs.Acts.{sum_places}
use Rattle.action.specs.Counts.{row_lanes, most, touched_by}
use Rattle.column_norm.specs.Columns.{mu_of, norm_of}

-- ---- what is lent
pub record Work : Type 0 where
  pub h_index : List ℕ
  pub j_index : List ℕ
  pub mask : List ℕ
  pub heads : List ℕ
  pub nexts : List ℕ
  pub work_words : List ℕ
  pub work_sums : List Float
  pub raws : List Float
  pub diags : List Float

abbrev pub work_of : List ℕ → List ℕ → List ℕ → List ℕ → List ℕ → List ℕ → List Float → List Float → List Float → Work
work_of hIndex jIndex mask heads nexts workWords workSums raws diags =
    record { h_index = hIndex; j_index = jIndex; mask = mask; heads = heads; nexts = nexts; work_words = workWords; work_sums = workSums; raws = raws; diags = diags }

abbrev pub zeroed : Work → Work
zeroed w = record {
  h_index = replicate (length w.h_index) 0;
  j_index = replicate (length w.j_index) 0;
  mask = replicate (length w.mask) 0;
  heads = replicate (length w.heads) 0;
  nexts = replicate (length w.nexts) 0;
  work_words = replicate (length w.work_words) 0;
  work_sums = replicate (length w.work_sums) float0;
  raws = replicate (length w.raws) float0;
  diags = replicate (length w.diags) float0;
}

-- ---- the tests
-- the model, 8, 9, 11, over the first len words and tables of so many places; no words ask for no place
unfoldable pub norm_tests : Model → ModelTables → List ℕ → ℕ → ℕ → ℕ → ℕ → ℕ → ℕ → ℕ → ℕ → Answer
norm_tests m t lanes len hIndex jIndex mask heads nexts raws diags =
    in_turn (
    and_then (test_model m t)
    ∷ counted max_words len
    ∷ lent len (length lanes / word_lanes)
    ∷ lent (where_any len (row_lanes * m.qubits)) hIndex
    ∷ lent (where_any len (row_lanes * m.qubits)) jIndex
    ∷ lent (where_any len row_lanes) mask
    ∷ lent len heads
    ∷ lent len nexts
    ∷ lent len raws
    ∷ lent len diags
    ∷ inside_to len lanes m.qubits
    ∷ []) (Ok tt)

abbrev pub norm_tested : Model → ModelTables → List ℕ → ℕ → Work → Answer
norm_tested m t lanes len w = norm_tests m t lanes len (length w.h_index) (length w.j_index) (length w.mask) (length w.heads) (length w.nexts) (length w.raws) (length w.diags)

-- then 7 for dt, and 7 for drop_tol: no coefficients are lent, so a threshold's index is 0
unfoldable pub finite_tests : Float → Float → Answer
finite_tests dt dropTol = finite_threshold 0 dt (finite_threshold 0 dropTol (Ok tt))

abbrev pub degree_tested : Model → ModelTables → List ℕ → ℕ → Float → Float → Work → Answer
degree_tested m t lanes len dt dropTol w = and_then (norm_tested m t lanes len w) (finite_tests dt dropTol)

-- ---- the answers
-- 13 where one action touches more words than there is room for
unfoldable pub norm_answer : ℕ → Model → ModelTables → List Word → Result Normed Refusal
norm_answer room m t ps = cond (ltb room (most (touched_by m t) ps)) (Err (TableFull 1 room)) (Ok (record { mu = mu_of m t ps; norm = norm_of m t ps }))

-- the pair that was chosen, or 16
abbrev pub partition : Float → Float → Result Degree Refusal → Result Selected Refusal
partition mu norm (Ok d) = Ok (record { mu = mu; norm = norm; m = d.m; s = d.s })
partition mu norm (Err r) = Err r

-- the degree for t = |dt| × norm
unfoldable pub degree_answer : Float → Float → Result Normed Refusal → Result Selected Refusal
degree_answer dt dropTol (Err r) = Err r
degree_answer dt dropTol (Ok normed) = partition normed.mu normed.norm (chosen dropTol (floats.times (magnitude dt) normed.norm))

-- ---- what the calls answer, and the lent tables afterwards
pub record Norming : Type 0 where
  pub answer : Result Normed Refusal
  pub work : Work

pub record Selecting : Type 0 where
  pub answer : Result Selected Refusal
  pub work : Work

module _ (w : Work) where
  -- the norm of the first len words
  abbrev pub norm_course : Model → ModelTables → List ℕ → ℕ → Result Normed Refusal
  norm_course m t lanes len = norm_answer (sum_places w.work_words w.work_sums) m t (take len (words lanes))

  -- a refusal by a test changes nothing; work tables are zero after acceptance and 13
  abbrev pub norm_after : Answer → Result Normed Refusal → Norming
  norm_after (Ok _) answer = record { answer = answer; work = zeroed w }
  norm_after (Err r) answer = record { answer = Err r; work = w }

  unfoldable pub norming : Model → ModelTables → List ℕ → ℕ → Norming
  norming m t lanes len = norm_after (norm_tested m t lanes len w) (norm_course m t lanes len)

  -- the same, and zero after 16 too
  abbrev pub degree_after : Answer → Result Selected Refusal → Selecting
  degree_after (Ok _) answer = record { answer = answer; work = zeroed w }
  degree_after (Err r) answer = record { answer = Err r; work = w }

  unfoldable pub selecting : Model → ModelTables → List ℕ → ℕ → Float → Float → Selecting
  selecting m t lanes len dt dropTol = degree_after (degree_tested m t lanes len dt dropTol w) (degree_answer dt dropTol (norm_course m t lanes len))
