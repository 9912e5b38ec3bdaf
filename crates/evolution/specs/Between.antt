-- SPDX-FileCopyrightText: 2026 The PPVM Authors
-- SPDX-License-Identifier: Apache-2.0

-- Contracts between functions: what the functions of an evolution ask for and leave.
use Rattle.std.specs.Prelude.{ℕ, ◌+◌, ◌*◌, ◌≤◌, ◌<◌, ◌≡◌, List, Float, length, take, Result, Ok, Err}
use Rattle.refusal.specs.declared.Refusal.{Refusal}
use Rattle.refusal.specs.Cause.{Answer}
use Rattle.word.specs.Flat.{word_lanes}
use Rattle.word.specs.declared.word.Word.{Word}
use Rattle.model.specs.Stored.{ModelTables}
use Rattle.model.specs.Tested.{test_model}
use Rattle.model.specs.declared.stored.Model.{Model}
use Rattle.lent.specs.Tests.{and_then}
use Rattle.lent.specs.Words.{max_words}
use Rattle.slots.specs.Between.{Slotted}
use Rattle.columns.specs.Between.{BasisReady}
use Rattle.column_norm.specs.Columns.{largest}
use Rattle.raw_norm.specs.Unshifted.{unshifted_norm}
use Rattle.raw_norm.specs.Between.{raws_from}
use Rattle.generator.specs.Lent as Generator
use Rattle.generator.specs.Generators.{CsrOut, csr_over}
use Rattle.taylor.specs.Between.{AllFinite, EvolveReady}
use Rattle.taylor.specs.Evolves.{Evolves, evolve_by}
use Rattle.evolution.specs.Lent.{Work, zeroed, basis_tests, work_tests, number_tests}
use Rattle.evolution.specs.Evolutions.{Evolving, evolve_over}
use Rattle.evolution.specs.declared.matrix.Built.{Built}

-- ---- the tests
-- heads and nexts as they were after a refusal, else with the slots of the words
pub record SlotsLeft (ws : List Word) (len : ℕ) (heads nexts : List ℕ) (r : Answer) (heads' nexts' : List ℕ) : Type 0 where
  pub kept : (q : Refusal) → r ≡ Err q → (heads' ≡ heads) × (nexts' ≡ nexts)
  pub laid : r ≡ Ok tt → Slotted ws heads' (take len nexts')

pub record Checks (m : Model) (t : ModelTables) (lanes : List ℕ) (coeffs : List Float) (len : ℕ) (dt dropTol : Float) (hIndex jIndex mask : ℕ) (heads nexts : List ℕ) (offsets v b product out : ℕ) (r : Answer) (heads' nexts' : List ℕ) : Type 0 where
  pub answers :
      r
      ≡ and_then (basis_tests m t lanes coeffs len)
      (and_then (work_tests m.qubits len hIndex jIndex mask (length heads) (length nexts) offsets v b product out)
      (and_then (number_tests len lanes m.qubits coeffs dt dropTol) (Generator.distinct (Generator.basis_of lanes len))))
  pub slots : SlotsLeft (Generator.basis_of lanes len) len heads nexts r heads' nexts'

-- ---- the matrix
-- a basis of so many words with its slots
pub record SlotsReady (n len : ℕ) (lanes heads nexts : List ℕ) : Type 0 where
  pub each : length lanes ≡ len * word_lanes
  pub few : len ≤ max_words
  pub heads_long : len ≤ length heads
  pub nexts_long : len ≤ length nexts
  pub ready : BasisReady n lanes heads (take len nexts)

-- how many entries it has, or why it was not built
abbrev pub count_of : Result Built Refusal → Result ℕ Refusal
count_of (Ok x) = Ok x.count
count_of (Err q) = Err q

abbrev pub StageHeld : Result ℕ Refusal → List ℕ → List Float → Type 0
StageHeld staged columns values = (k : ℕ) → staged ≡ Ok k → (k ≤ length columns) × (k ≤ length values)

-- its norm is the largest raw of what is staged for n columns
abbrev pub NormRead : Result Built Refusal → List ℕ → List Float → ℕ → Type 0
NormRead built columns values n = (x : Built) → built ≡ Ok x → x.norm ≡ largest (raws_from n 0 (take x.count columns) (take x.count values))

pub record Builds (m : Model) (t : ModelTables) (bs : List Word) (len : ℕ) (w : Generator.Work) (offsets columns : List ℕ) (values : List Float) (r : Result Built Refusal) (w' : Generator.Work) (offsets' columns' : List ℕ) (values' : List Float) : Type 0 where
  pub rows : ◌≡◌ {A = CsrOut} (record { answer = count_of r; offsets = offsets'; columns = columns'; values = values' }) (csr_over offsets columns values w len m t bs)
  pub norm : (x : Built) → r ≡ Ok x → x.norm ≡ unshifted_norm m t bs
  pub work : w' ≡ Generator.zeroed w

-- ---- the numbers
pub record NumbersLent (m : Model) (t : ModelTables) (len : ℕ) (coeffs : List Float) (offsets : List ℕ) (v b product out : List Float) : Type 0 where
  pub passes : test_model m t ≡ Ok tt
  pub coeffs_long : len ≤ length coeffs
  pub finite : AllFinite (take len coeffs)
  pub offsets_long : 0 < len → len < length offsets
  pub v_long : len ≤ length v
  pub b_long : len ≤ length b
  pub product_long : len ≤ length product
  pub out_long : len ≤ length out

module _ (len : ℕ) (offsets columns : List ℕ) (values coeffs : List Float) where
  pub record RowsReady (built : Result Built Refusal) (v b product out : List Float) : Type 0 where
    pub each : length coeffs ≡ len
    pub offsets_long : 0 < len → len < length offsets
    pub held : StageHeld (count_of built) columns values
    pub ready : 0 < len → (k : ℕ) → count_of built ≡ Ok k → EvolveReady (take (len + 1) offsets) (take k columns) (take k values) coeffs v b product out

  -- over a matrix that was built
  abbrev pub built_then : Result Built Refusal → Float → Float → List Float → Evolves
  built_then (Ok x) dt dropTol out = evolve_by (take (len + 1) offsets) (take x.count columns) (take x.count values) dt coeffs out x.norm dropTol
  built_then (Err q) dt dropTol out = record { answer = Err q; out = out }

-- all tests passed
abbrev pub evolved_then : Work → List Float → Model → ModelTables → List Word → List Float → ℕ → Float → Float → Evolving
evolved_then w out m t bs coeffs len dt dropTol = record { answer = (evolve_over w out m t bs coeffs len dt dropTol).answer; out = (evolve_over w out m t bs coeffs len dt dropTol).out; work = zeroed w }
