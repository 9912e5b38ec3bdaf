-- SPDX-FileCopyrightText: 2026 The PPVM Authors
-- SPDX-License-Identifier: Apache-2.0

-- The predictor-corrector step over a lent model, basis and protected list: refusals in their order, the answer, and every lent table
-- afterwards.
use Rattle.std.specs.Prelude.{ℕ, List, Float, length, take, Result, Ok, Err}
use Rattle.refusal.specs.declared.Refusal.{Refusal}
use Rattle.step_parts.specs.declared.taken.Step.{Step}
use Rattle.refusal.specs.Cause.{Answer}
use Rattle.word.specs.Flat.{words}
use Rattle.model.specs.Stored.{ModelTables}
use Rattle.model.specs.declared.stored.Model.{Model}
use Rattle.limits.specs.declared.Limits.{Limits}
use Rattle.step_laws.specs.Steps.{course_of}
use Rattle.step_parts.specs.Lent.{Work, zeroed, places_of, step_tests}
use Rattle.step_parts.specs.Ends.{Ending, ending}

pub record Stepping : Type 0 where
  pub answer : Result Step Refusal
  pub lanes : List ℕ
  pub coeffs : List Float
  pub work : Work

-- a refusal by a test changes nothing; work tables are zero after acceptance, 13, 14 and 16
abbrev pub tested : List ℕ → List Float → Work → Answer → Ending → Stepping
tested lanes coeffs w (Ok _) e = record { answer = e.answer; lanes = e.lanes; coeffs = e.coeffs; work = zeroed w }
tested lanes coeffs w (Err q) e = record { answer = Err q; lanes = lanes; coeffs = coeffs; work = w }

-- the course over the first len words and coefficients, and what prune and cap keep of the basis that it leaves
unfoldable pub step : Model → ModelTables → List ℕ → List Float → ℕ → List ℕ → Limits → Float → Float → Work → Stepping
step m t lanes coeffs len protected l dt dropTol w =
    tested lanes coeffs w
    (step_tests m t lanes coeffs len protected l dt dropTol (length w.h_index) (length w.j_index) (length w.mask) (length w.order) (length w.heads) (length w.nexts) (length w.place_order) (length w.cand_sums) (length w.list_values) (length w.work_sums) (length w.grown_words) (length w.start) (length w.evolved))
    (ending (words protected) dropTol l.max_basis lanes coeffs
    (course_of m t (words protected) dt (places_of lanes coeffs protected w) l dropTol (take len (words lanes)) (take len coeffs)))
