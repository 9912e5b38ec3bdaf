-- SPDX-FileCopyrightText: 2026 The PPVM Authors
-- SPDX-License-Identifier: Apache-2.0

-- Contracts between functions: the index of a model, the words of its items, by which those that share a qubit with a word are found.
use Rattle.std.specs.Prelude.{Bool, true, List, [], ◌∷◌, ◌++◌, map, ℕ, Float, get_or, take, drop}
use Rattle.word.specs.Word.{identity}
use Rattle.word.specs.Flat.{words}
use Rattle.word.specs.declared.word.Word.{Word}
use Rattle.index.specs.Index.{row_lanes, Indexed}
use Rattle.model.specs.Stored.{ModelTables, jump_at}
use Rattle.model.specs.Tested.{width}
use Rattle.model.specs.declared.stored.Model.{Model}
use Rattle.model.specs.declared.stored.Range.{Range}
use Rattle.model.specs.declared.stored.Jump.{Jump}
use Rattle.model.specs.declared.stored.Jump.TheVariants.{Pauli, General, Pair}
use Rattle.word.specs.Count.{up_to}

-- the words of a range of the terms table
abbrev pub words_of : List ℕ → Range → List Word
words_of lanes r = take (width r) (drop r.start (words lanes))

-- those of a jump or a pair
unfoldable pub jump_words : List ℕ → Jump → List Word
jump_words lanes (Pauli rate term) = get_or (words lanes) term identity ∷ []
jump_words lanes (General rate terms product) = words_of lanes terms
jump_words lanes (Pair left right factors product) = words_of lanes left ++ words_of lanes right

-- whether a pair was met, after one more entry
abbrev pub pair_met : Bool → Jump → Bool
pair_met met (Pauli rate term) = met
pair_met met (General rate terms product) = met
pair_met met (Pair left right factors product) = true

-- the words of each Hamiltonian term, and of each entry of the table of jumps and pairs
abbrev pub real_items : List ℕ → ℕ → List (List Word)
real_items hWords count = map (λ i. get_or (words hWords) i identity ∷ []) (up_to 0 count)

abbrev pub jump_items : List ℕ → List Float → List ℕ → ℕ → List (List Word)
jump_items jumps rates tWords count = map (λ j. jump_words tWords (jump_at jumps rates j)) (up_to 0 count)

-- an index of the Hamiltonian terms, and one of the jumps and pairs, each in rows of as many lanes as it needs
pub record ModelIndexed (m : Model) (t : ModelTables) (hIndex jIndex : List ℕ) : Type 0 where
  pub reals : Indexed (row_lanes m.hamiltonian) m.qubits (real_items t.h_words m.hamiltonian) hIndex
  pub jumps : Indexed (row_lanes m.jumps) m.qubits (jump_items t.jumps t.rates t.t_words m.jumps) jIndex
