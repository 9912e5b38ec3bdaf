-- SPDX-FileCopyrightText: 2026 The PPVM Authors
-- SPDX-License-Identifier: Apache-2.0

-- What an evolution answers in plain numbers, and the lengths of its work tables.
use Rattle.std.specs.Prelude.{ℕ, ◌+◌, min, ◌≡◌, List, Float, Result, Ok, Err}
use Rattle.refusal.specs.Cause.{status_of, answer_status}
use Rattle.refusal.specs.declared.Refusal.{Refusal}
use Rattle.lent.specs.Tests.{where_any}
use Rattle.lent.specs.Words.{max_words}
use Rattle.evolution.specs.Lent.{Work}
use Rattle.evolution.specs.Evolutions.{Evolving}
use Rattle.pebblelinen.specs.Generators.{generator_sizes}
use Rattle.pebblelinen.specs.declared.generators.GeneratorSizes.{GeneratorSizes}
use Rattle.pebblelinen.specs.declared.evolutions.EvolvedBasis.{EvolvedBasis}
use Rattle.pebblelinen.specs.declared.evolutions.EvolutionSizes.{EvolutionSizes}

-- the number of products, or the refusal and 0
abbrev pub evolved_of : Result ℕ Refusal → EvolvedBasis
evolved_of (Ok products) = record { status = answer_status (Ok tt); products = products }
evolved_of (Err refusal) = record { status = status_of refusal; products = 0 }

-- what an evolution answers, and the lent tables afterwards
pub record LeavesEvolution (e : Evolving) (r : EvolvedBasis) (out : List Float) (w : Work) : Type 0 where
  pub answers : r ≡ evolved_of e.answer
  pub out_is : out ≡ e.out
  pub work_is : w ≡ e.work

-- the lengths for a register, a basis of so many words, actions that touch so many words, and so many entries: those of the generator,
-- an offset for each word and one more where there are words, as many places by rows as staged, and three numbers for each word
unfoldable pub evolution_sizes : ℕ → ℕ → ℕ → ℕ → EvolutionSizes
evolution_sizes qubits words touched entries =
    let g : GeneratorSizes = generator_sizes qubits words touched entries in
    let n : ℕ = min words max_words in
    record {
      h_index = g.h_index;
      j_index = g.j_index;
      mask = g.mask;
      heads = g.heads;
      nexts = g.nexts;
      work_words = g.work_words;
      work_sums = g.work_sums;
      stage_rows = g.stage_rows;
      stage_columns = g.stage_columns;
      stage_values = g.stage_values;
      offsets = where_any n (n + 1);
      columns = g.stage_columns;
      values = g.stage_values;
      v = n;
      b = n;
      product = n;
    }
