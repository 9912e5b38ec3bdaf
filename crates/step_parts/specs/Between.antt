-- SPDX-FileCopyrightText: 2026 The PPVM Authors
-- SPDX-License-Identifier: Apache-2.0

-- Contracts between functions: what the parts of a step ask for and leave.
use Rattle.std.specs.Prelude.{ℕ, ◌+◌, ◌*◌, ◌/◌, ◌≤◌, ◌<◌, min, ◌≡◌, Bool, true, not, cond, ◌&&◌, List, ◌++◌, eqb, Float, length, take, replicate, Result, Ok, Err}
use Rattle.refusal.specs.declared.Refusal.{Refusal}
use Rattle.step_parts.specs.declared.taken.Step.{Step}
use Rattle.refusal.specs.Cause.{Answer}
use Rattle.word.specs.Word.{max_qubits}
use Rattle.word.specs.Flat.{words, word_lanes}
use Rattle.word.specs.declared.word.Word.{Word}
use Rattle.number.specs.Floats.{float0, is_finite}
use Rattle.model.specs.Stored.{ModelTables}
use Rattle.model.specs.Tested.{test_model}
use Rattle.model.specs.declared.stored.Model.{Model}
use Rattle.expm.specs.Selects.{max_products}
use Rattle.lent.specs.Read.{Read, got, refused, onward}
use Rattle.lent.specs.Words.{max_words}
use Rattle.limits.specs.Defaults.{limit_tests, tau_tests}
use Rattle.limits.specs.declared.Limits.{Limits}
use Rattle.action.specs.Counts.{row_lanes}
use Rattle.step_laws.specs.Steps.{Places, Outcome, Stepped, with_zeros}
use Rattle.step_laws.specs.Passing.{Fit, AreFinite, GoodWords, GoodProtected}
use Rattle.step_parts.specs.Lent.{Work, touched_places, row_places, entry_places}

-- ---- the tests
-- a refusal leaves the tables in which words are looked for as they were
abbrev pub Untouched : Answer → (heads nexts heads' nexts' : List ℕ) → Type 0
Untouched r heads nexts heads' nexts' = (q : Refusal) → r ≡ Err q → (heads' ≡ heads) × (nexts' ≡ nexts)

-- ---- what stays as it is all through a step
pub record Given (m : Model) (t : ModelTables) (protected : List ℕ) (l : Limits) : Type 0 where
  pub model : test_model m t ≡ Ok tt
  pub good : GoodProtected m.qubits protected
  pub limits : limit_tests l ≡ Ok tt
  pub tau : (count : ℕ) → tau_tests count l ≡ Ok tt

pub record FiniteStep (dt dropTol : Float) : Type 0 where
  pub dt_finite : is_finite dt ≡ true
  pub drop_finite : is_finite dropTol ≡ true

-- ---- tables with a place for each position of a basis that may grow to so many, over a register of n qubits; a basis without words, which
-- gets none, asks for no place
-- those of a hop, beside count protected words
pub record HopLong (n count places len : ℕ) (hIndex jIndex mask order heads nexts grownWords : List ℕ) (start evolved : List Float) : Type 0 where
  pub h_rows : 0 < len → row_lanes * n ≤ length hIndex
  pub j_rows : 0 < len → row_lanes * n ≤ length jIndex
  pub row : 0 < len → row_lanes ≤ length mask
  pub order_long : places ≤ length order
  pub heads_long : 0 < len → places + count ≤ length heads
  pub nexts_long : 0 < len → places + count ≤ length nexts
  pub grown_long : word_lanes * places ≤ length grownWords
  pub start_long : places ≤ length start
  pub evolved_long : places ≤ length evolved

-- and those of an evolution
pub record EvolveLong (n places len : ℕ) (hIndex jIndex mask heads nexts placeOrder grownWords : List ℕ) (candSums listValues workSums start evolved : List Float) : Type 0 where
  pub h_rows : 0 < len → row_lanes * n ≤ length hIndex
  pub j_rows : 0 < len → row_lanes * n ≤ length jIndex
  pub row : 0 < len → row_lanes ≤ length mask
  pub heads_long : places ≤ length heads
  pub nexts_long : places ≤ length nexts
  pub starts_long : 0 < len → places < length placeOrder
  pub grown_long : word_lanes * places ≤ length grownWords
  pub cand_long : places ≤ length candSums
  pub list_long : places ≤ length listValues
  pub sums_long : places ≤ length workSums
  pub start_long : places ≤ length start
  pub evolved_long : places ≤ length evolved

pub record Long (n count places len : ℕ) (w : Work) : Type 0 where
  pub hop : HopLong n count places len w.h_index w.j_index w.mask w.order w.heads w.nexts w.grown_words w.start w.evolved
  pub evolve : EvolveLong n places len w.h_index w.j_index w.mask w.heads w.nexts w.place_order w.grown_words w.cand_sums w.list_values w.work_sums w.start w.evolved

-- tables as long as others
pub record SameLong (w w' : Work) : Type 0 where
  pub h_index : length w'.h_index ≡ length w.h_index
  pub j_index : length w'.j_index ≡ length w.j_index
  pub mask : length w'.mask ≡ length w.mask
  pub work_words : length w'.work_words ≡ length w.work_words
  pub work_sums : length w'.work_sums ≡ length w.work_sums
  pub order : length w'.order ≡ length w.order
  pub heads : length w'.heads ≡ length w.heads
  pub nexts : length w'.nexts ≡ length w.nexts
  pub cand_words : length w'.cand_words ≡ length w.cand_words
  pub cand_sums : length w'.cand_sums ≡ length w.cand_sums
  pub place_order : length w'.place_order ≡ length w.place_order
  pub place_work : length w'.place_work ≡ length w.place_work
  pub list_words : length w'.list_words ≡ length w.list_words
  pub list_values : length w'.list_values ≡ length w.list_values
  pub stage_rows : length w'.stage_rows ≡ length w.stage_rows
  pub stage_columns : length w'.stage_columns ≡ length w.stage_columns
  pub columns : length w'.columns ≡ length w.columns
  pub values : length w'.values ≡ length w.values
  pub grown_words : length w'.grown_words ≡ length w.grown_words
  pub start : length w'.start ≡ length w.start
  pub evolved : length w'.evolved ≡ length w.evolved

-- the tables of a hop that are not the basis, which it leaves zero
pub record Shared : Type 0 where
  pub h_index : List ℕ
  pub j_index : List ℕ
  pub mask : List ℕ
  pub work_words : List ℕ
  pub work_sums : List Float
  pub order : List ℕ
  pub heads : List ℕ
  pub nexts : List ℕ
  pub cand_words : List ℕ
  pub cand_sums : List Float
  pub place_order : List ℕ
  pub place_work : List ℕ
  pub list_words : List ℕ
  pub list_values : List Float

abbrev pub shared : List ℕ → List ℕ → List ℕ → List ℕ → List Float → List ℕ → List ℕ → List ℕ → List ℕ → List Float → List ℕ → List ℕ → List ℕ → List Float → Shared
shared hIndex jIndex mask workWords workSums order heads nexts candWords candSums placeOrder placeWork listWords listValues = record {
  h_index = hIndex;
  j_index = jIndex;
  mask = mask;
  work_words = workWords;
  work_sums = workSums;
  order = order;
  heads = heads;
  nexts = nexts;
  cand_words = candWords;
  cand_sums = candSums;
  place_order = placeOrder;
  place_work = placeWork;
  list_words = listWords;
  list_values = listValues;
}

abbrev pub shared_of : Work → Shared
shared_of w = shared w.h_index w.j_index w.mask w.work_words w.work_sums w.order w.heads w.nexts w.cand_words w.cand_sums w.place_order w.place_work w.list_words w.list_values

abbrev pub none : Shared → Shared
none w = record {
  h_index = replicate (length w.h_index) 0;
  j_index = replicate (length w.j_index) 0;
  mask = replicate (length w.mask) 0;
  work_words = replicate (length w.work_words) 0;
  work_sums = replicate (length w.work_sums) float0;
  order = replicate (length w.order) 0;
  heads = replicate (length w.heads) 0;
  nexts = replicate (length w.nexts) 0;
  cand_words = replicate (length w.cand_words) 0;
  cand_sums = replicate (length w.cand_sums) float0;
  place_order = replicate (length w.place_order) 0;
  place_work = replicate (length w.place_work) 0;
  list_words = replicate (length w.list_words) 0;
  list_values = replicate (length w.list_values) float0;
}

-- the first len places hold a basis, the numbers that it starts from, and those that it has
pub record Holds (n places len : ℕ) (grownWords : List ℕ) (start evolved : List Float) : Type 0 where
  pub good : GoodWords n (take len (words grownWords))
  pub start_finite : AreFinite (take len start)
  pub evolved_finite : AreFinite (take len evolved)
  pub inside : len ≤ places

-- ---- leakage and admission
-- the places of a hop are those of its tables
pub record HopPlaces (p : Places) (places : ℕ) (workWords : List ℕ) (workSums : List Float) (candWords : List ℕ) (candSums : List Float) (placeOrder placeWork listWords : List ℕ) (listValues : List Float) : Type 0 where
  pub touched : p.touched ≡ touched_places (length workWords) (length workSums)
  pub candidates : p.candidates ≡ row_places (length candWords) (length candSums) (length placeOrder) (length placeWork)
  pub listed : p.listed ≡ min (length listWords / word_lanes) (length listValues)
  pub basis : p.basis ≡ places

-- k words stand: those of before, and behind them those that entered, with a zero each
pub record Entered (plain : Read (List Word)) (n places len k : ℕ) (grownWords : List ℕ) (start : List Float) (grownWords' : List ℕ) (start' : List Float) : Type 0 where
  pub entered : List Word
  pub is : plain ≡ got entered
  pub count : k ≡ len + length entered
  pub words_are : take k (words grownWords') ≡ take len (words grownWords) ++ entered
  pub start_is : take k start' ≡ with_zeros (take len start) (take len (words grownWords) ++ entered)
  pub good : GoodWords n (take k (words grownWords'))
  pub start_finite : AreFinite (take k start')
  pub inside : k ≤ places
  pub any : 0 < k → 0 < len

pub record Hops (plain : Read (List Word)) (n places len : ℕ) (grownWords : List ℕ) (start : List Float) (r : Result ℕ Refusal) (grownWords' : List ℕ) (start' : List Float) : Type 0 where
  pub enters : (k : ℕ) → r ≡ Ok k → Entered plain n places len k grownWords start grownWords' start'
  pub stops : (q : Refusal) → r ≡ Err q → plain ≡ refused q

-- ---- evolution
pub record EvolvePlaces (p : Places) (workWords : List ℕ) (workSums : List Float) (stageRows stageColumns : List ℕ) (candSums : List Float) (columns : List ℕ) (values : List Float) : Type 0 where
  pub touched : p.touched ≡ touched_places (length workWords) (length workSums)
  pub entries : p.entries ≡ entry_places (length stageRows) (length stageColumns) (length candSums) (length columns) (length values)

pub record Outcomes (plain : Read Outcome) (len k : ℕ) (evolved' : List Float) : Type 0 where
  pub is : plain ≡ got (record { numbers = take len evolved'; products = k })
  pub few : k ≤ max_products
  pub finite : AreFinite (take len evolved')

-- what is told of an evolution as a step over so many words
pub record EvolvesTo (plain : Read Outcome) (len : ℕ) (r : Result Step Refusal) (evolved' : List Float) : Type 0 where
  pub taken : (k products : ℕ) → r ≡ Ok (record { entries = k; products = products }) → (k ≡ len) × Outcomes plain len products evolved'
  pub stops : (q : Refusal) → r ≡ Err q → plain ≡ refused q

-- ---- a hop, and the evolution over the basis that it leaves
pub record PlacesOf (p : Places) (places : ℕ) (w : Work) : Type 0 where
  pub hop : HopPlaces p places w.work_words w.work_sums w.cand_words w.cand_sums w.place_order w.place_work w.list_words w.list_values
  pub evolve : EvolvePlaces p w.work_words w.work_sums w.stage_rows w.stage_columns w.cand_sums w.columns w.values

-- over plain lists, from the numbers that the basis has: the words that enter, then the numbers that it starts from, evolved, always or only if
-- any word entered
unfoldable pub leg_by : (entering : List Word → List Float → Read (List Word)) (evolving : List Word → List Float → Read Outcome) → Bool → List Word → (start numbers : List Float) → Read Stepped
leg_by entering evolving always ws start numbers =
    onward (entering ws numbers)
    (λ entered. cond (not always && eqb (length entered) 0)
    (got (record { words = ws; numbers = numbers; products = 0 }))
    (onward (evolving (ws ++ entered) (with_zeros start (ws ++ entered))) (λ o. got (record { words = ws ++ entered; numbers = o.numbers; products = o.products }))))

-- what stands in the tables is what the plain lists say
pub record Ended (plain : Read Stepped) (n places len k products : ℕ) (start : List Float) (w' : Work) : Type 0 where
  pub is : plain ≡ got (record { words = take k (words w'.grown_words); numbers = take k w'.evolved; products = products })
  pub start_is : take k w'.start ≡ with_zeros start (take k (words w'.grown_words))
  pub holds : Holds n places k w'.grown_words w'.start w'.evolved
  pub few : products ≤ max_products
  pub grows : len ≤ k
  pub any : 0 < k → 0 < len

pub record Ends (plain : Read Stepped) (n places len : ℕ) (start : List Float) (r : Result Step Refusal) (w' : Work) : Type 0 where
  pub ended : (k products : ℕ) → r ≡ Ok (record { entries = k; products = products }) → Ended plain n places len k products start w'
  pub stops : (q : Refusal) → r ≡ Err q → plain ≡ refused q

-- ---- the end
pub record EndReady (n : ℕ) (protected : List ℕ) (dropTol : Float) (limit len : ℕ) (grownWords : List ℕ) (evolved : List Float) (order heads nexts placeOrder : List ℕ) : Type 0 where
  pub register : n ≤ max_qubits
  pub good : GoodProtected n protected
  pub limit_few : limit ≤ max_words
  pub drop_finite : is_finite dropTol ≡ true
  pub fit : Fit n (take len (words grownWords)) (take len evolved)
  pub grown_long : word_lanes * len ≤ length grownWords
  pub evolved_long : len ≤ length evolved
  pub order_long : len ≤ length order
  pub heads_long : 0 < len → len + length protected / word_lanes ≤ length heads
  pub nexts_long : 0 < len → len + length protected / word_lanes ≤ length nexts
  pub places_long : len ≤ length placeOrder

abbrev pub grown : ℕ → List ℕ → List Float → ℕ → Stepped
grown len grownWords evolved products = record { words = take len (words grownWords); numbers = take len evolved; products = products }

-- what a course answers and leaves is this
pub record Told (course : Read Stepped) (r : Result Step Refusal) (grownWords : List ℕ) (evolved : List Float) : Type 0 where
  pub taken : (k products : ℕ) → r ≡ Ok (record { entries = k; products = products }) → course ≡ got (grown k grownWords evolved products)
  pub stops : (q : Refusal) → r ≡ Err q → course ≡ refused q

-- r words of the grown basis are kept
pub record Truncates (s : Stepped) (len r : ℕ) (grownWords' : List ℕ) (evolved' : List Float) : Type 0 where
  pub count : r ≡ length s.words
  pub each : length s.numbers ≡ length s.words
  pub fewer : r ≤ len
  pub words_are : take r (words grownWords') ≡ s.words
  pub numbers_are : take r evolved' ≡ s.numbers
