-- SPDX-FileCopyrightText: 2026 The PPVM Authors
-- SPDX-License-Identifier: Apache-2.0

-- Statements between laws: a basis that passes the tests of a step's calls, how it stands in lent tables, and that a call which passes
-- does to those tables what the step says of plain lists.
use Rattle.std.specs.Prelude.{ℕ, ◌+◌, ◌*◌, ◌/◌, ◌≤◌, ◌<◌, ◌≡◌, true, false, List, ◌++◌, Float, length, get_or, take, drop, replicate, Ok, Err}
use Rattle.std.specs.Float.{nan}
use Rattle.refusal.specs.declared.Refusal.{Refusal}
use Rattle.word.specs.Word.{identity}
use Rattle.word.specs.Flat.{words, word_lanes}
use Rattle.word.specs.Register.{reaches}
use Rattle.word.specs.declared.word.Word.{Word}
use Rattle.number.specs.Floats.{float0, is_finite}
use Rattle.lent.specs.Between.{AllInside}
use Rattle.lent.specs.Read.{Read, got, refused}
use Rattle.lent.specs.Words.{max_words}
use Rattle.truncate.specs.Prunes.{Keeping}
use Rattle.truncate.specs.Admissions.{Admitting}
use Rattle.candidates.specs.Tables.{Rows}
use Rattle.passes.specs.Leaks.{words_of, sums_of}
use Rattle.action.specs.Counts.{row_lanes}
use Rattle.leakage.specs.Leakages as Leakage
use Rattle.leakage.specs.Leakages.{Leaking}
use Rattle.columns.specs.Repeats.{first_repeat}
use Rattle.evolution.specs.Lent.{Work, zeroed}
use Rattle.evolution.specs.Evolutions.{Evolving}
use Rattle.step_laws.specs.Steps.{Outcome, Stepped}

-- ---- plain lists that pass
abbrev pub Inside : ℕ → List Word → Type 0
Inside n ws = (k : ℕ) → k < length ws → reaches (get_or ws k identity) n ≡ false

abbrev pub AreFinite : List Float → Type 0
AreFinite xs = (k : ℕ) → k < length xs → is_finite (get_or xs k nan) ≡ true

-- a basis: 8, 9, 11, 7
pub record Fit (n : ℕ) (ws : List Word) (cs : List Float) : Type 0 where
  pub few : length ws ≤ max_words
  pub inside : Inside n ws
  pub each : length cs ≡ length ws
  pub finite : AreFinite cs

-- and 12, which an evolution asks for as well
pub record Good (n : ℕ) (ws : List Word) (cs : List Float) : Type 0 where
  pub fit : Fit n ws cs
  pub apart : first_repeat ws ≡ length ws

-- its words, whatever the numbers
pub record GoodWords (n : ℕ) (ws : List Word) : Type 0 where
  pub few : length ws ≤ max_words
  pub inside : Inside n ws
  pub apart : first_repeat ws ≡ length ws

-- ---- in lent tables
-- the first len places of a table of words and of a table of numbers
pub record Held (lanes : List ℕ) (numbers : List Float) (len : ℕ) (ws : List Word) (cs : List Float) : Type 0 where
  pub lanes_long : word_lanes * len ≤ length lanes
  pub numbers_long : len ≤ length numbers
  pub words_are : take len (words lanes) ≡ ws
  pub numbers_are : take len numbers ≡ cs

-- a protected list that passes: 9, 8, 11
pub record GoodProtected (n : ℕ) (protected : List ℕ) : Type 0 where
  pub whole : length protected ≡ length protected / word_lanes * word_lanes
  pub few : length protected / word_lanes ≤ max_words
  pub inside : AllInside protected n

-- ---- calls
-- an evolution of lent tables that passes, beside that of plain lists; both ways, since the one is branched on in code and the other in laws
pub record EvolveCall (w : Work) (out : List Float) (len : ℕ) (after : Evolving) (plain : Read Outcome) : Type 0 where
  pub work_zero : after.work ≡ zeroed w
  pub out_long : length after.out ≡ length out
  pub rest_stays : drop len after.out ≡ drop len out
  pub evolved : (o : Outcome) → plain ≡ got o → (after.answer ≡ Ok o.products) × (take len after.out ≡ o.numbers)
  pub turned : (q : Refusal) → plain ≡ refused q → (after.answer ≡ Err q) × (after.out ≡ out)
  pub by_products : (k : ℕ) → after.answer ≡ Ok k → plain ≡ got (record { numbers = take len after.out; products = k })
  pub by_refusal : (q : Refusal) → after.answer ≡ Err q → plain ≡ refused q

-- an admission of lent tables that passes, beside that of plain lists
pub record AdmitCall (lanes : List ℕ) (coeffs : List Float) (len : ℕ) (ws : List Word) (cs : List Float) (order work kept : List ℕ) (after : Admitting) (plain : Read (List Word)) : Type 0 where
  pub order_zero : after.order ≡ replicate (length order) 0
  pub work_zero : after.work ≡ replicate (length work) 0
  pub kept_zero : after.kept ≡ replicate (length kept) 0
  pub lanes_long : length after.lanes ≡ length lanes
  pub coeffs_long : length after.coeffs ≡ length coeffs
  pub entered : (us : List Word) → plain ≡ got us → (after.answer ≡ Ok (len + length us)) × Held after.lanes after.coeffs (len + length us) (ws ++ us) (cs ++ replicate (length us) float0)
  pub turned : (q : Refusal) → plain ≡ refused q → (after.answer ≡ Err q) × (after.lanes ≡ lanes) × (after.coeffs ≡ coeffs)
  pub by_entries : (r : ℕ) → after.answer ≡ Ok r → (us : List Word) × ((plain ≡ got us) × (r ≡ len + length us))
  pub by_refusal : (q : Refusal) → after.answer ≡ Err q → plain ≡ refused q

-- places for a leakage over a register of n qubits, beside count protected words; a basis without words asks for none
pub record LeakPlaces (n len count : ℕ) (w : Leakage.Work) : Type 0 where
  pub h_long : 0 < len → row_lanes * n ≤ length w.h_index
  pub j_long : 0 < len → row_lanes * n ≤ length w.j_index
  pub mask_long : 0 < len → row_lanes ≤ length w.mask
  pub order_long : len ≤ length w.order
  pub heads_long : 0 < len → len + count ≤ length w.heads
  pub nexts_long : 0 < len → len + count ≤ length w.nexts

-- a leakage of lent tables that passes, beside that of plain lists
pub record LeakCall (w : Leakage.Work) (outWords : List ℕ) (outValues : List Float) (after : Leaking) (plain : Read Rows) : Type 0 where
  pub work_zero : after.work ≡ Leakage.zeroed w
  pub words_long : length after.out.out_words ≡ length outWords
  pub values_long : length after.out.out_values ≡ length outValues
  pub listed : (R : Rows) → plain ≡ got R → (after.out.answer ≡ Ok (length R)) × Held after.out.out_words after.out.out_values (length R) (words_of R) (sums_of R) × (length R ≤ Leakage.candidate_places w)
  pub turned : (q : Refusal) → plain ≡ refused q → (after.out.answer ≡ Err q) × (after.out.out_words ≡ outWords) × (after.out.out_values ≡ outValues)
  pub by_listed : (k : ℕ) → after.out.answer ≡ Ok k → (R : Rows) × ((plain ≡ got R) × (k ≡ length R))
  pub by_refusal : (q : Refusal) → after.out.answer ≡ Err q → plain ≡ refused q

-- places for a prune or a cap beside count protected words
pub record EndPlaces (len count : ℕ) (order work fixed kept : List ℕ) : Type 0 where
  pub order_long : len ≤ length order
  pub order_protected : 0 < len → count ≤ length order
  pub work_long : len ≤ length work
  pub work_protected : 0 < len → count ≤ length work
  pub fixed_long : len ≤ length fixed
  pub kept_long : len ≤ length kept

-- a prune or a cap of lent tables that passes, beside that of a plain basis
pub record EndCall (lanes : List ℕ) (coeffs : List Float) (len : ℕ) (order work fixed kept : List ℕ) (after : Keeping) (s : Stepped) : Type 0 where
  pub answers : after.answer ≡ Ok (length s.words)
  pub holds : Held after.lanes after.coeffs (length s.words) s.words s.numbers
  pub fewer : length s.words ≤ len
  pub lanes_long : length after.lanes ≡ length lanes
  pub coeffs_long : length after.coeffs ≡ length coeffs
  pub order_zero : after.order ≡ replicate (length order) 0
  pub work_zero : after.work ≡ replicate (length work) 0
  pub fixed_zero : after.fixed ≡ replicate (length fixed) 0
  pub kept_zero : after.kept ≡ replicate (length kept) 0
