-- SPDX-FileCopyrightText: 2026 The PPVM Authors
-- SPDX-License-Identifier: Apache-2.0

-- Leakage over a lent model, basis and protected list: refusals in their order, the answer, and every lent table afterwards.
use Rattle.std.specs.Prelude.{ℕ, ◌+◌, ◌-◌, ◌*◌, ◌/◌, min, cond, List, [], ◌∷◌, ltb, Float, length, take, set, replicate, Result, Ok, Err}
use Rattle.refusal.specs.declared.Refusal.TheVariants.{TableFull}
use Rattle.refusal.specs.declared.Refusal.{Refusal}
use Rattle.refusal.specs.Cause.{Answer}
use Rattle.word.specs.Flat.{words, lay_word, word_lanes}
use Rattle.number.specs.Floats.{float0}
use Rattle.candidates.specs.Tables.{Rows}
use Rattle.model.specs.Stored.{ModelTables}
use Rattle.lent.specs.Read.{Read, got, refused}
use Rattle.lent.specs.Laid.{laid}
use Rattle.model.specs.Tested.{test_model}
use Rattle.lent.specs.Tests.{counted, lent, where_any, and_then, equal, in_turn}
use Rattle.lent.specs.Words.{max_words, inside_to}
use Rattle.lent.specs.Numbers.{finite_to}
use Rattle.model.specs.declared.stored.Model.{Model}
use Rattle.action.specs.Acts.{list_places}
use Rattle.action.specs.Counts.{row_lanes}
use Rattle.passes.specs.Leaks.{candidates_of, above, words_of, sums_of}
use Rattle.limits.specs.Defaults.{limit_of, tau_of, limit_tests, tau_tests}
use Rattle.limits.specs.declared.Limits.{Limits}

-- ---- what is lent
-- the first len places of the words and coefficients are the basis
pub record Basis : Type 0 where
  pub lanes : List ℕ
  pub coeffs : List Float
  pub len : ℕ
  pub protected : List ℕ

abbrev pub basis_of : List ℕ → List Float → ℕ → List ℕ → Basis
basis_of lanes coeffs len protected = record { lanes = lanes; coeffs = coeffs; len = len; protected = protected }

pub record Work : Type 0 where
  pub h_index : List ℕ
  pub j_index : List ℕ
  pub mask : List ℕ
  pub work_words : List ℕ
  pub work_sums : List Float
  pub order : List ℕ
  pub heads : List ℕ
  pub nexts : List ℕ
  pub cand_words : List ℕ
  pub cand_sums : List Float
  pub place_order : List ℕ
  pub place_work : List ℕ

abbrev pub work_of : List ℕ → List ℕ → List ℕ → List ℕ → List Float → List ℕ → List ℕ → List ℕ → List ℕ → List Float → List ℕ → List ℕ → Work
work_of hIndex jIndex mask workWords workSums order heads nexts candWords candSums placeOrder placeWork = record {
  h_index = hIndex;
  j_index = jIndex;
  mask = mask;
  work_words = workWords;
  work_sums = workSums;
  order = order;
  heads = heads;
  nexts = nexts;
  cand_words = candWords;
  cand_sums = candSums;
  place_order = placeOrder;
  place_work = placeWork;
}

abbrev pub zeroed : Work → Work
zeroed w = record {
  h_index = replicate (length w.h_index) 0;
  j_index = replicate (length w.j_index) 0;
  mask = replicate (length w.mask) 0;
  work_words = replicate (length w.work_words) 0;
  work_sums = replicate (length w.work_sums) float0;
  order = replicate (length w.order) 0;
  heads = replicate (length w.heads) 0;
  nexts = replicate (length w.nexts) 0;
  cand_words = replicate (length w.cand_words) 0;
  cand_sums = replicate (length w.cand_sums) float0;
  place_order = replicate (length w.place_order) 0;
  place_work = replicate (length w.place_work) 0;
}

-- the places of table 1, words touched by one action, and of table 2, candidates: those of the shortest table that holds them, by
-- the lengths of the tables
unfoldable pub action_places : (workWords workSums : ℕ) → ℕ
action_places workWords workSums = min (workWords / word_lanes) (workSums / 2)

unfoldable pub row_places : (candWords candSums placeOrder placeWork : ℕ) → ℕ
row_places candWords candSums placeOrder placeWork = min (min (candWords / word_lanes) candSums) (min placeOrder placeWork)

abbrev pub sum_places : Work → ℕ
sum_places w = action_places (length w.work_words) (length w.work_sums)

abbrev pub candidate_places : Work → ℕ
candidate_places w =
    row_places (length w.cand_words) (length w.cand_sums) (length w.place_order) (length w.place_work)

-- ---- the tests
-- 9 for the tables whose lengths the input fixes: rows of an index, places for each basis word, and slots for each basis word and each
-- protected one; an empty basis asks for no place
unfoldable pub work_tests : ℕ → ℕ → ℕ → Work → Answer
work_tests n len count w =
    in_turn (
    lent (where_any len (row_lanes * n)) (length w.h_index)
    ∷ lent (where_any len (row_lanes * n)) (length w.j_index)
    ∷ lent (where_any len row_lanes) (length w.mask)
    ∷ lent len (length w.order)
    ∷ lent (where_any len (len + count)) (length w.heads)
    ∷ lent (where_any len (len + count)) (length w.nexts)
    ∷ []) (Ok tt)

-- 11, 7
unfoldable pub entry_tests : ℕ → Basis → Answer
entry_tests n b = inside_to b.len b.lanes n (inside_to (length b.protected / word_lanes) b.protected n (finite_to 0 b.len b.coeffs (Ok tt)))

-- the model, 8, 9, 11, 7
unfoldable pub leak_tests : Model → ModelTables → Basis → Limits → Work → Answer
leak_tests m t b l w =
    in_turn (
    and_then (test_model m t)
    ∷ counted max_words b.len
    ∷ counted max_words (length b.protected / word_lanes)
    ∷ and_then (limit_tests l)
    ∷ lent b.len (length b.lanes / word_lanes)
    ∷ lent b.len (length b.coeffs)
    ∷ equal (length b.protected / word_lanes * word_lanes) (length b.protected)
    ∷ and_then (work_tests m.qubits b.len (length b.protected / word_lanes) w)
    ∷ and_then (entry_tests m.qubits b)
    ∷ []) (tau_tests b.len l)

-- ---- the answer, the list, and the lent tables afterwards
pub record Out : Type 0 where
  pub answer : Result ℕ Refusal
  pub out_words : List ℕ
  pub out_values : List Float

-- those above tau_add, in word order; 13 where there are more than places
unfoldable pub listing : Float → List ℕ → List Float → Read Rows → Out
listing tau outWords outValues (refused r) = record { answer = Err r; out_words = outWords; out_values = outValues }
listing tau outWords outValues (got T) =
    cond (ltb (list_places outWords outValues) (length (above tau T)))
    (record { answer = Err (TableFull 3 (list_places outWords outValues)); out_words = outWords; out_values = outValues })
    (record { answer = Ok (length (above tau T)); out_words = laid lay_word 0 (words_of (above tau T)) outWords; out_values = laid set 0 (sums_of (above tau T)) outValues })

-- the candidates after the last pass, of so many basis words
unfoldable pub leak_course : Model → ModelTables → Basis → Limits → Work → Read Rows
leak_course m t b l w =
    candidates_of m t (take b.len (words b.lanes)) (take b.len b.coeffs) (words b.protected) (sum_places w) (candidate_places w) (limit_of l - b.len)

pub record Leaking : Type 0 where
  pub out : Out
  pub work : Work

module _ (outWords : List ℕ) (outValues : List Float) (w : Work) where
  -- a refusal by a test changes nothing; work tables are zero after acceptance, 13 and 14
  abbrev pub tested : Answer → Out → Leaking
  tested (Ok _) out = record { out = out; work = zeroed w }
  tested (Err r) out = record { out = record { answer = Err r; out_words = outWords; out_values = outValues }; work = w }

  unfoldable pub leak : Model → ModelTables → Basis → Limits → Leaking
  leak m t b l = tested (leak_tests m t b l w) (listing (tau_of l) outWords outValues (leak_course m t b l w))

-- ---- for the functions that work on lent tables
