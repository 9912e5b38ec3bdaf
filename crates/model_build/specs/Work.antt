-- SPDX-FileCopyrightText: 2026 The PPVM Authors
-- SPDX-License-Identifier: Apache-2.0

-- Contracts between functions: the work table. An operator's terms stand past the places of the sums, and what is stored for a jump is made from there.
use Rattle.std.specs.Prelude.{ℕ, ◌+◌, ◌*◌, ◌≤◌, ◌<◌, ◌≡◌, Bool, false, List, [], ◌∷◌, map, leb, Float, length, get_or, set}
use Rattle.word.specs.Flat.{word_lanes}
use Rattle.number.specs.Floats.{floats}
use Rattle.sums.specs.Numbers.{complexes}
use Rattle.model_build.specs.Given.{GivenTerm}
use Rattle.model_build.specs.Built.{parts, term_items, jump_items, entries_from, terms_of, rates_of}
use Rattle.model_build.specs.Taken.{term_taken, jump_taken}
use Rattle.model_build.specs.Compiled.{Compiled, compile_jump}
use Rattle.model.specs.Terms.{Term, terms_in}
use Rattle.lent.specs.Laid.{laid, total}
use Rattle.model.specs.Stored.{lay_entry}
use Rattle.model_build.specs.Thinned.{LaysTerms}

-- the k terms past the places of the sums
abbrev pub operator_in : ℕ → List ℕ → List Float → List Term
operator_in k lanes numbers = terms_in lanes numbers 256 (256 + k)

-- one term with a real number: a Pauli jump
unfoldable pub is_pauli : List Term → Bool
is_pauli [] = false
is_pauli (t ∷ []) = floats.is_zero t.num.im
is_pauli (t ∷ u ∷ op) = false

-- 272 places, and an operator of at most 16 terms
pub record WorkRoom (k : ℕ) (lanes : List ℕ) (numbers : List Float) : Type 0 where
  pub lanes_long : word_lanes * 272 ≤ length lanes
  pub numbers_long : 544 ≤ length numbers
  pub few : k ≤ 16

-- that room where there is a jump
abbrev pub JumpsWork : List ℕ → List ℕ → List Float → Type 0
JumpsWork cs lanes numbers = 0 < length cs → WorkRoom 0 lanes numbers

-- room for k terms past the places of the sums
pub record ReadRoom (k : ℕ) (lanes : List ℕ) (numbers : List Float) : Type 0 where
  pub lanes_long : word_lanes * (256 + k) ≤ length lanes
  pub numbers_long : 2 * (256 + k) ≤ length numbers

-- two numbers for each text, and the texts are there
pub record TextsFit (ns l : List ℕ) (xs : List Float) : Type 0 where
  pub two : length xs ≡ 2 * length ns
  pub whole : total ns ≤ length l

abbrev pub terms_given : List ℕ → List ℕ → List Float → List GivenTerm
terms_given ns l xs = term_items (parts ns l) (complexes xs)

abbrev pub operator_taken : ℕ → List ℕ → List ℕ → List Float → List Term
operator_taken n ns l xs = map (term_taken n) (terms_given ns l xs)

-- room for what is stored for a jump: its entry j, and its terms from a place on
pub record JumpRoom (c : Compiled) (j at : ℕ) (jumps : List ℕ) (rates : List Float) (tLanes : List ℕ) (tNumbers : List Float) : Type 0 where
  pub entry_room : 8 * j + 8 ≤ length jumps
  pub rate_room : j < length rates
  pub lanes_room : word_lanes * (at + length c.terms) ≤ length tLanes
  pub numbers_room : 2 * (at + length c.terms) ≤ length tNumbers

-- the place after its terms, and the four tables afterwards
pub record StoresJump (c : Compiled) (j at : ℕ) (jumps : List ℕ) (rates : List Float) (tLanes : List ℕ) (tNumbers : List Float) (r : ℕ) (jumps' : List ℕ) (rates' : List Float) (tLanes' : List ℕ) (tNumbers' : List Float) : Type 0 where
  pub end : r ≡ at + length c.terms
  pub entry_is : jumps' ≡ lay_entry jumps j (c.numbers at)
  pub rate_is : rates' ≡ set rates j c.rate
  pub lays : LaysTerms c.terms at tLanes tNumbers tLanes' tNumbers'

-- ---- all jumps: counts of at most 16 that make up the terms
pub record JumpsFit (cs ns l : List ℕ) (xs : List Float) : Type 0 where
  pub many : length cs ≤ 4096
  pub few : (j : ℕ) → get_or cs j 0 ≤ 16
  pub terms : total cs ≡ length ns
  pub texts : TextsFit ns l xs

abbrev pub jumps_compiled : ℕ → List Float → List ℕ → List ℕ → List ℕ → List Float → List Compiled
jumps_compiled n gs cs ns l xs = map (λ j. compile_jump (jump_taken n j)) (jump_items gs (parts cs (terms_given ns l xs)))

-- how many terms are stored for the jumps, whatever their rates
pub record CountsJumps (n : ℕ) (cs ns l : List ℕ) (xs : List Float) (r : ℕ) : Type 0 where
  pub counts : (gs : List Float) → length gs ≡ length cs → r ≡ length (terms_of (jumps_compiled n gs cs ns l xs))

-- no more than these places: k terms and their k × k products for each jump
unfoldable pub places_for : List ℕ → ℕ
places_for [] = 0
places_for (k ∷ ks) = k + k * k + places_for ks

-- whether so many places hold the terms of the jumps, whatever their rates
pub record FitsJumps (n : ℕ) (cs ns l : List ℕ) (xs : List Float) (places : ℕ) (r : Bool) : Type 0 where
  pub fits : (gs : List Float) → length gs ≡ length cs → r ≡ leb (length (terms_of (jumps_compiled n gs cs ns l xs))) places

-- room for the entries from j on and the terms from a place on
pub record JumpsRoom (cs : List Compiled) (j at : ℕ) (jumps : List ℕ) (rates : List Float) (tLanes : List ℕ) (tNumbers : List Float) : Type 0 where
  pub entries_room : 8 * (j + length cs) ≤ length jumps
  pub rates_room : j + length cs ≤ length rates
  pub lanes_room : word_lanes * (at + length (terms_of cs)) ≤ length tLanes
  pub numbers_room : 2 * (at + length (terms_of cs)) ≤ length tNumbers

-- the four tables afterwards
pub record StoresJumps (cs : List Compiled) (j at : ℕ) (jumps : List ℕ) (rates : List Float) (tLanes : List ℕ) (tNumbers : List Float) (jumps' : List ℕ) (rates' : List Float) (tLanes' : List ℕ) (tNumbers' : List Float) : Type 0 where
  pub entries_are : jumps' ≡ laid lay_entry j (entries_from at cs) jumps
  pub rates_are : rates' ≡ laid set j (rates_of cs) rates
  pub lays : LaysTerms (terms_of cs) at tLanes tNumbers tLanes' tNumbers'
