-- SPDX-FileCopyrightText: 2026 The PPVM Authors
-- SPDX-License-Identifier: Apache-2.0

-- What document 02 asks of the exported calls beyond their contracts; a sentence in quotes is the document's own. Behind it stands the
-- theorem in proofs/ that proves what is stated.
use Rattle.std.specs.Prelude.{◌≡◌, List, map, true, length, take}
use Rattle.word.specs.Flat.{words}
use Rattle.word.specs.declared.word.Word.{Word}
use Rattle.order.specs.Members.{Member}
use Rattle.order.specs.Places.{is_among}
use Rattle.lent.specs.Read.{Read, got}
use Rattle.columns.specs.Entries.{Entry}
use Rattle.columns.specs.Columns.{generator_of}
use Rattle.generator.specs.Lent.{basis_of}
use Rattle.generator_export.specs.Exports.{entry_line}
use Rattle.step_laws.specs.Steps.{Stepped, before_cap, step_of}
use Rattle.step_laws.specs.Kept.{Few}
use Rattle.step_parts.specs.Lent.{places_of}
use Rattle.demands.specs.Calls.{Accepted, MarketCall, StepCall}

-- the entries of the generator that a call is lent model and basis for
abbrev pub entries_of : MarketCall → List Entry
entries_of c = generator_of c.model c.tables (basis_of c.lanes c.len)

-- ==== 1
-- "The written text must determine every row, column and rounded value." (Texts: text_determines_entries)
-- Two accepted calls that left the same text had as many basis words, and the same list of rows, columns and counts.
pub record TextDetermines (c d : MarketCall) : Type 0 where
  pub size : c.len ≡ d.len
  pub lines : map entry_line (entries_of c) ≡ map entry_line (entries_of d)

abbrev pub TextsDetermine : Type 0
TextsDetermine = (c d : MarketCall) → Accepted c.answer.status → Accepted d.answer.status → take c.answer.bytes c.text' ≡ take d.answer.bytes d.text' → TextDetermines c d

-- ==== 6
-- the words that a step is given, the basis that its cap gets, and what it leaves, over plain lists
abbrev pub given_to : StepCall → List Word
given_to c = take c.len (words c.lanes)

abbrev pub capped_in : StepCall → Read Stepped
capped_in c = before_cap c.model c.tables (words c.protected) c.dt (places_of c.lanes c.coeffs c.protected c.work) c.limits c.drop_tol (given_to c) (take c.len c.coeffs)

abbrev pub left_by : StepCall → Read Stepped
left_by c = step_of c.model c.tables (words c.protected) c.dt (places_of c.lanes c.coeffs c.protected c.work) c.limits c.drop_tol (given_to c) (take c.len c.coeffs)

-- "Afterwards there are at most max(max_basis, protected positions at the cap) words, and every protected word that was present
-- remains." (Steps: step_keeps)
pub record StepKeeps (c : StepCall) : Type 0 where
  pub basis : Stepped
  pub is : left_by c ≡ got basis
  pub entries : c.answer.entries ≡ length basis.words
  pub products : c.answer.products ≡ basis.products
  pub few : Few (words c.protected) c.limits.max_basis (capped_in c) basis
  pub stays : (w : Word) → is_among w (words c.protected) ≡ true → Member w (given_to c) → Member w basis.words

abbrev pub StepsKeep : Type 0
StepsKeep = (c : StepCall) → Accepted c.answer.status → StepKeeps c
