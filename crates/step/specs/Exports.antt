-- SPDX-FileCopyrightText: 2026 The PPVM Authors
-- SPDX-License-Identifier: Apache-2.0

-- What a step answers in plain numbers, and the lengths of its work tables.
use Rattle.std.specs.Prelude.{ℕ, ◌+◌, ◌*◌, min, max, ◌≡◌, List, Float, Result, Ok, Err}
use Rattle.refusal.specs.Cause.{status_of, answer_status}
use Rattle.refusal.specs.declared.Refusal.{Refusal}
use Rattle.step_parts.specs.declared.taken.Step.{Step}
use Rattle.word.specs.Flat.{word_lanes}
use Rattle.word.specs.Word.{max_qubits}
use Rattle.lent.specs.Tests.{where_any}
use Rattle.lent.specs.Words.{max_words}
use Rattle.action.specs.Counts.{row_lanes}
use Rattle.step_parts.specs.Lent.{Work}
use Rattle.step.specs.Calls.{Stepping}
use Rattle.step.specs.declared.steps.SteppedBasis.{SteppedBasis}
use Rattle.step.specs.declared.sizes.StepSizes.{StepSizes}

-- the number of entries and of products, or the refusal and 0
abbrev pub stepped_of : Result Step Refusal → SteppedBasis
stepped_of (Ok step) = record { status = answer_status (Ok tt); entries = step.entries; products = step.products }
stepped_of (Err refusal) = record { status = status_of refusal; entries = 0; products = 0 }

-- what a step answers, and the lent tables afterwards
pub record LeavesStep (s : Stepping) (r : SteppedBasis) (lanes : List ℕ) (coeffs : List Float) (w : Work) : Type 0 where
  pub answers : r ≡ stepped_of s.answer
  pub words_are : lanes ≡ s.lanes
  pub coeffs_are : coeffs ≡ s.coeffs
  pub work_is : w ≡ s.work

-- more places than any table of sums, candidates or entries is lent
abbrev pub max_places : ℕ
max_places = 4294967295

-- the lengths for a register, a basis that grows to so many words, so many protected words, actions that touch so many words, so many
-- candidates at a time, and so many entries of the generator: those of leakage and evolution, of each table that both use the longer, a list as long
-- as the basis, and the copy
unfoldable pub step_sizes : (qubits words protected touched candidates entries : ℕ) → StepSizes
step_sizes qubits words protected touched candidates entries =
    let rows : ℕ = where_any words (row_lanes * min qubits max_qubits) in
    let n : ℕ = min words max_words in
    let p : ℕ = min (where_any words protected) max_words in
    let t : ℕ = min touched max_places in
    let c : ℕ = min candidates max_places in
    let e : ℕ = min entries max_places in
    record {
      h_index = rows;
      j_index = rows;
      mask = where_any words row_lanes;
      work_words = word_lanes * t;
      work_sums = max (2 * t) n;
      order = n;
      heads = 2 * (n + p);
      nexts = n + p;
      cand_words = word_lanes * c;
      cand_sums = max (max c e) n;
      place_order = max (2 * c) (where_any n (n + 1));
      place_work = c;
      list_words = word_lanes * n;
      list_values = n;
      stage_rows = e;
      stage_columns = e;
      columns = e;
      values = e;
      grown_words = word_lanes * n;
      start = n;
      evolved = n;
    }
