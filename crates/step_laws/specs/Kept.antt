-- SPDX-FileCopyrightText: 2026 The PPVM Authors
-- SPDX-License-Identifier: Apache-2.0

-- What is said of a step: which words enter, what its numbers come from, how many words it leaves, that another step loses nobody, and for
-- which causes it is turned away.
use Rattle.std.specs.Prelude.{ℕ, ◌≤◌, ◌<◌, max, ◌≡◌, true, List, ◌++◌, T, Float, length, get_or, take}
use Rattle.std.specs.Float.{nan, binary64}
use Rattle.std.specs.Float.Ieee.{fits}
use Rattle.refusal.specs.declared.Refusal.{Refusal}
use Rattle.refusal.specs.declared.Refusal.TheVariants.{TableFull, SumNotFinite, TooManyProducts}
use Rattle.word.specs.Flat.{words}
use Rattle.word.specs.declared.word.Word.{Word}
use Rattle.number.specs.Floats.{is_finite}
use Rattle.order.specs.Members.{Member}
use Rattle.keep.specs.Retained.{flagged}
use Rattle.lent.specs.Read.{Read, got}
use Rattle.truncate.specs.Prunes.{Keeping}
use Rattle.candidates.specs.Tables.{Rows}
use Rattle.passes.specs.Leaks.{words_of}
use Rattle.step_laws.specs.Steps.{Outcome, Stepped, with_zeros, protected_in}

-- the words that enter are those that leakage lists, all of them, since it never lists more than there is room for
pub record AllEnter (leaks : Read Rows) (room : ℕ) (entered : List Word) : Type 0 where
  pub list : Rows
  pub listed : leaks ≡ got list
  pub few : length list ≤ room
  pub all : entered ≡ words_of list

-- the words given stand first, those that entered behind them, and the numbers are the given ones, with a zero for each word that entered,
-- evolved once over all of them
pub record FromGiven (evolving : List Word → List Float → Read Outcome) (ws : List Word) (cs : List Float) (s : Stepped) : Type 0 where
  pub entered : List Word
  pub words_are : s.words ≡ ws ++ entered
  pub last : Outcome
  pub evolves : evolving s.words (with_zeros cs s.words) ≡ got last
  pub numbers_are : s.numbers ≡ last.numbers

-- at most max(max_basis, protected positions at the cap) words: those of the basis that the cap gets
pub record Few (protected : List Word) (limit : ℕ) (beforeCap : Read Stepped) (s : Stepped) : Type 0 where
  pub capped : Stepped
  pub reached : beforeCap ≡ got capped
  pub few : length s.words ≤ max limit (flagged (protected_in protected capped.words))

-- the other step is accepted too, and every word that stayed in the one stays in the other
pub record LosesNobody (s : Stepped) (other : Read Stepped) : Type 0 where
  pub after : Stepped
  pub accepted : other ≡ got after
  pub stays : (w : Word) → Member w s.words → Member w after.words

-- the causes for which a step is turned away: 13, 14, 16
pub data Turned : Refusal → Type 0 where
  full : (table places : ℕ) → Turned (TableFull table places)
  sum_not_finite : (position : ℕ) → Turned (SumNotFinite position)
  many_products : (m s : ℕ) → Turned (TooManyProducts m s)

-- what a prune or a cap of lent tables leaves is this basis: the first r entries
pub record Leaves (r : ℕ) (after : Keeping) (s : Stepped) : Type 0 where
  pub words_are : take r (words after.lanes) ≡ s.words
  pub numbers_are : take r after.coeffs ≡ s.numbers

-- a finite f64, as every number that passes the tests
pub record Finite (x : Float) : Type 0 where
  pub fitting : T (fits binary64 x)
  pub finite : is_finite x ≡ true

abbrev pub AllFinite : List Float → Type 0
AllFinite cs = (i : ℕ) → i < length cs → Finite (get_or cs i nan)
