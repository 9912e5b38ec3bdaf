-- SPDX-FileCopyrightText: 2026 The PPVM Authors
-- SPDX-License-Identifier: Apache-2.0

-- The coefficients of a lent basis evolved by one time step: the answer, and every lent table afterwards.
use Rattle.std.specs.Prelude.{ℕ, List, map, Float, take, Result, Ok, Err}
use Rattle.refusal.specs.declared.Refusal.{Refusal}
use Rattle.refusal.specs.Cause.{Answer}
use Rattle.word.specs.declared.word.Word.{Word}
use Rattle.model.specs.Stored.{ModelTables}
use Rattle.model.specs.declared.stored.Model.{Model}
use Rattle.action.specs.Acts.{sum_places}
use Rattle.columns.specs.Entries.{Entry}
use Rattle.columns.specs.Columns.{generator_of, generator_room}
use Rattle.csr_build.specs.Rows.{rows_to, offsets_of}
use Rattle.generator.specs.Lent.{basis_of}
use Rattle.generator.specs.Generators.{csr_places}
use Rattle.raw_norm.specs.Unshifted.{unshifted_norm}
use Rattle.taylor.specs.Evolves.{Evolves, evolve_by}
use Rattle.evolution.specs.Lent.{Work, zeroed, evolve_tests}

pub record Evolving : Type 0 where
  pub answer : Result ℕ Refusal
  pub out : List Float
  pub work : Work

module _ (m : Model) (t : ModelTables) (bs : List Word) (len : ℕ) (coeffs : List Float) (dt dropTol : Float) where
  -- the matrix multiplied: the generator over the basis, by rows
  abbrev pub by_generator : List Float → Evolves
  by_generator out =
      let E : List Entry = generator_of m t bs in
      evolve_by (offsets_of len E) (map (λ e. e.column) (rows_to len E)) (map (λ e. e.value) (rows_to len E)) dt coeffs out (unshifted_norm m t bs) dropTol

  -- where its columns found room (13)
  abbrev pub room_then : Answer → List Float → Evolves
  room_then (Ok _) out = by_generator out
  room_then (Err q) out = record { answer = Err q; out = out }

module _ (w : Work) (out : List Float) where
  -- a refusal by a test changes nothing; work tables are zero after acceptance, 13, 14 and 16
  abbrev pub tested : Answer → Evolves → Evolving
  tested (Ok _) e = record { answer = e.answer; out = e.out; work = zeroed w }
  tested (Err q) e = record { answer = Err q; out = out; work = w }

  -- over the first len words and coefficients
  unfoldable pub evolve_over : Model → ModelTables → List Word → List Float → ℕ → Float → Float → Evolves
  evolve_over m t bs coeffs len dt dropTol =
      room_then m t bs len (take len coeffs) dt dropTol (generator_room m t bs (sum_places w.generator.work_words w.generator.work_sums) (csr_places w.generator w.columns w.values)) out

  unfoldable pub evolve : Model → ModelTables → List ℕ → List Float → ℕ → Float → Float → Evolving
  evolve m t lanes coeffs len dt dropTol = tested (evolve_tests m t lanes coeffs len dt dropTol w out) (evolve_over m t (basis_of lanes len) coeffs len dt dropTol)
