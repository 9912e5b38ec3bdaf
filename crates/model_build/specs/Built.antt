-- SPDX-FileCopyrightText: 2026 The PPVM Authors
-- SPDX-License-Identifier: Apache-2.0

-- Building a model: 1, 8, 9, then items in order; 13 last. The tables afterwards.
use Rattle.std.specs.Prelude.{ℕ, ◌+◌, ◌-◌, ◌*◌, ◌/◌, min, cond, List, [], ◌∷◌, ◌++◌, map, eqb, ltb, Float, length, take, drop, set, replicate, Result, Ok, Err}
use Rattle.refusal.specs.declared.Refusal.TheVariants.{LengthMismatch, TableFull}
use Rattle.refusal.specs.declared.Refusal.{Refusal}
use Rattle.model.specs.declared.stored.Model.{Model}
use Rattle.refusal.specs.Cause.{Answer}
use Rattle.number.specs.Numbers.{Cx}
use Rattle.number.specs.Floats.{floats, float0}
use Rattle.gksl.specs.Model.{RealTerm, JumpOver}
use Rattle.gksl.specs.Words.{pauli}
use Rattle.model.specs.Stored.{ModelTables, lay_entry}
use Rattle.model.specs.Tested.{max_hamiltonian, max_jumps}
use Rattle.model_build.specs.Given.{GivenReal, GivenTerm, GivenJump, read_real, read_jump}
use Rattle.model_build.specs.Compiled.{Compiled, compile_jump}
use Rattle.word.specs.Flat.{lay_word, word_lanes}
use Rattle.sums.specs.Numbers.{complexes, lay_number}
use Rattle.lent.specs.Read.{Read, got, refused, each}
use Rattle.model.specs.Terms.{Term}
use Rattle.lent.specs.Laid.{laid}
use Rattle.lent.specs.Tests.{counted, lent, where_any, in_turn, and_then, registered, Test, equal}

-- ---- what is given, from flat slices: texts by their lengths, terms by the count of each jump
pub record Input : Type 0 where
  pub texts : List ℕ
  pub lengths : List ℕ
  pub h_numbers : List Float
  pub rates : List Float
  pub counts : List ℕ
  pub numbers : List Float

module _ {A : Type 0} where
  -- consecutive parts of given lengths
  unfoldable pub parts : List ℕ → List A → List (List A)
  parts [] l = []
  parts (n ∷ ns) l = take n l ∷ parts ns (drop n l)

unfoldable pub real_items : List (List ℕ) → List Float → List GivenReal
real_items [] xs = []
real_items (t ∷ ts) [] = []
real_items (t ∷ ts) (x ∷ xs) = record { text = t; number = x } ∷ real_items ts xs

unfoldable pub term_items : List (List ℕ) → List (Cx floats) → List GivenTerm
term_items [] xs = []
term_items (t ∷ ts) [] = []
term_items (t ∷ ts) (x ∷ xs) = record { text = t; number = x } ∷ term_items ts xs

unfoldable pub jump_items : List Float → List (List GivenTerm) → List GivenJump
jump_items [] ts = []
jump_items (g ∷ gs) [] = []
jump_items (g ∷ gs) (t ∷ ts) = record { rate = g; terms = t } ∷ jump_items gs ts

abbrev pub hamiltonian : Input → List GivenReal
hamiltonian i = real_items (parts (take (length i.h_numbers) i.lengths) i.texts) i.h_numbers

-- the texts of terms stand after those of the Hamiltonian
abbrev pub jumps_given : Input → List GivenJump
jumps_given i =
    jump_items i.rates
    (parts i.counts (term_items (drop (length i.h_numbers) (parts i.lengths i.texts)) (complexes i.numbers)))

-- ---- 1 and 8
abbrev pub size_tests : ℕ → Input → List Test
size_tests n i = registered n ∷ counted max_hamiltonian (length i.h_numbers) ∷ counted max_jumps (length i.rates) ∷ []

-- ---- 9: lengths that disagree
-- parts of given lengths make up the whole: the first part that is longer than what is left, or what is left over
unfoldable pub parts_fit : List ℕ → ℕ → Answer
parts_fit [] left = cond (eqb left 0) (Ok tt) (Err (LengthMismatch 0 left))
parts_fit (n ∷ ns) left = cond (ltb left n) (Err (LengthMismatch n left)) (parts_fit ns (left - n))

-- the places of the terms table, and the work places of the largest operator and its product
abbrev pub term_places : ModelTables → ℕ
term_places t = min (length t.t_words / word_lanes) (length t.t_numbers / 2)

abbrev pub work_places : ℕ
work_places = 272

-- the input's own, then the lent tables in their order; the terms table gives 13. Work places are asked where there is a jump
unfoldable pub lengths_answer : Input → ModelTables → List ℕ → List Float → Answer
lengths_answer i t workWords workNumbers =
    let h : ℕ = length i.h_numbers in
    let terms : ℕ = length i.numbers / 2 in
    let work : ℕ = where_any (length i.rates) work_places in
    in_turn (
    equal (h + terms) (length i.lengths)
    ∷ equal (length i.rates) (length i.counts)
    ∷ equal (terms * 2) (length i.numbers)
    ∷ and_then (parts_fit i.counts terms)
    ∷ and_then (parts_fit i.lengths (length i.texts))
    ∷ lent h (length t.h_words / word_lanes)
    ∷ lent h (length t.h_coeffs)
    ∷ lent (length i.rates) (length t.jumps / 8)
    ∷ lent (length i.rates) (length t.rates)
    ∷ lent work (length workWords / word_lanes)
    ∷ lent work (length workNumbers / 2)
    ∷ []) (Ok tt)

-- ---- the items, read
abbrev pub read_hamiltonian : ℕ → Input → Read (List (RealTerm floats pauli))
read_hamiltonian n i = each (read_real n) 0 (hamiltonian i)

abbrev pub read_jumps : ℕ → Input → Read (List (JumpOver floats pauli))
read_jumps n i = each (read_jump n) 0 (jumps_given i)

-- ---- the tables of a built model
-- the entries of compiled jumps, whose terms stand one after another from a place on
unfoldable pub entries_from : ℕ → List Compiled → List (List ℕ)
entries_from at [] = []
entries_from at (c ∷ cs) = c.numbers at ∷ entries_from (at + length c.terms) cs

unfoldable pub terms_of : List Compiled → List Term
terms_of [] = []
terms_of (c ∷ cs) = c.terms ++ terms_of cs

abbrev pub rates_of : List Compiled → List Float
rates_of cs = map (λ c. c.rate) cs

unfoldable pub stored : List (RealTerm floats pauli) → List Compiled → ModelTables → ModelTables
stored hs cs t = record {
  h_words = laid lay_word 0 (map (λ h. h.word) hs) t.h_words;
  h_coeffs = laid set 0 (map (λ h. h.num) hs) t.h_coeffs;
  jumps = laid lay_entry 0 (entries_from 0 cs) t.jumps;
  rates = laid set 0 (rates_of cs) t.rates;
  t_words = laid lay_word 0 (map (λ z. z.word) (terms_of cs)) t.t_words;
  t_numbers = laid lay_number 0 (map (λ z. z.num) (terms_of cs)) t.t_numbers;
}

-- ---- what building answers, and the lent tables afterwards
pub record Building : Type 0 where
  pub answer : Result Model Refusal
  pub tables : ModelTables
  pub work_words : List ℕ
  pub work_numbers : List Float

module _ (t : ModelTables) (workWords : List ℕ) (workNumbers : List Float) where
  -- a refusal changes nothing
  abbrev pub refusal : Result Model Refusal → Building
  refusal r = record { answer = r; tables = t; work_words = workWords; work_numbers = workNumbers }

  -- work tables are zero after acceptance and 13
  abbrev pub finished : Result Model Refusal → ModelTables → Building
  finished r after = record { answer = r; tables = after; work_words = replicate (length workWords) 0; work_numbers = replicate (length workNumbers) float0 }

  abbrev pub tested : Answer → Building → Building
  tested (Ok _) after = after
  tested (Err r) after = refusal (Err r)

  module _ {A : Type 0} where
    abbrev pub when_read : Read A → (A → Building) → Building
    when_read (got a) f = f a
    when_read (refused r) f = refusal (Err r)

module _ (n : ℕ) (i : Input) (t : ModelTables) (workWords : List ℕ) (workNumbers : List Float) where
  abbrev pub compiled_model : List (RealTerm floats pauli) → List Compiled → Building
  compiled_model hs cs =
      cond (ltb (term_places t) (length (terms_of cs)))
      (finished t workWords workNumbers (Err (TableFull 4 (term_places t))) t)
      (finished t workWords workNumbers (Ok (record { qubits = n; hamiltonian = length hs; jumps = length cs; terms = length (terms_of cs) })) (stored hs cs t))

  unfoldable pub build : Building
  build =
      tested t workWords workNumbers (in_turn (size_tests n i) (lengths_answer i t workWords workNumbers))
      (when_read t workWords workNumbers (read_hamiltonian n i) (λ hs. when_read t workWords workNumbers (read_jumps n i) (λ js. compiled_model hs (map compile_jump js))))
