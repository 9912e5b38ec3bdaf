-- SPDX-FileCopyrightText: 2026 The PPVM Authors
-- SPDX-License-Identifier: Apache-2.0

-- Admission: listed words appended to a lent basis with coefficient 0, the largest first to find room, in listed order. Refusals
-- in their order, the answer, and every lent table afterwards.
use Rattle.std.specs.Prelude.{ℕ, ◌+◌, ◌-◌, ◌*◌, ◌/◌, min, cond, List, [], ◌∷◌, ltb, Float, length, replicate, Result, Ok, Err}
use Rattle.refusal.specs.declared.Refusal.{Refusal}
use Rattle.refusal.specs.declared.Refusal.TheVariants.{TableFull}
use Rattle.refusal.specs.Cause.{Answer}
use Rattle.word.specs.Flat.{word_lanes}
use Rattle.order.specs.Magnitudes.{by_magnitude}
use Rattle.keep.specs.Retained.{flagged}
use Rattle.keep.specs.Chosen.{chosen}
use Rattle.keep.specs.Admitted.{appended_lanes, appended_zeros, picked}
use Rattle.lent.specs.Tests.{counted, lent, equal, in_turn, registered}
use Rattle.lent.specs.Words.{max_words, inside_to}
use Rattle.lent.specs.Numbers.{finite_to}

-- room is the limit less the basis length, at least 0; the largest find it, ties to the earlier listed
unfoldable pub admit_flags : ℕ → List Float → ℕ → List ℕ
admit_flags len values limit = chosen (by_magnitude values) (replicate (length values) 0) (limit - len)

pub record Admitting : Type 0 where
  pub answer : Result ℕ Refusal
  pub lanes : List ℕ
  pub coeffs : List Float
  pub order : List ℕ
  pub work : List ℕ
  pub kept : List ℕ

module _ (len : ℕ) (lanes : List ℕ) (coeffs : List Float) (list : List ℕ) (values : List Float) (order work kept : List ℕ) where
  -- a refusal changes nothing
  abbrev pub unchanged : Refusal → Admitting
  unchanged r = record { answer = Err r; lanes = lanes; coeffs = coeffs; order = order; work = work; kept = kept }

  -- work tables are zero after acceptance and 13
  abbrev pub left : Result ℕ Refusal → List ℕ → List Float → Admitting
  left r lanes' coeffs' = record {
    answer = r;
    lanes = lanes';
    coeffs = coeffs';
    order = replicate (length order) 0;
    work = replicate (length work) 0;
    kept = replicate (length kept) 0;
  }

  abbrev pub tested : Answer → Admitting → Admitting
  tested (Ok _) after = after
  tested (Err r) after = unchanged r

  -- the places of the whole lent basis
  abbrev pub basis_places : ℕ
  basis_places = min (length lanes / word_lanes) (length coeffs)

  -- 1, 8, 9, 11, 7: the basis, then the leakage list, whose numbers 7 counts on from the coefficients
  unfoldable pub admit_tests : ℕ → ℕ → Answer
  admit_tests n limit =
      in_turn (
      registered n
      ∷ counted max_words len
      ∷ counted max_words (length list / word_lanes)
      ∷ counted max_words limit
      ∷ lent len (length lanes / word_lanes)
      ∷ lent len (length coeffs)
      ∷ equal (length list / word_lanes * word_lanes) (length list)
      ∷ equal (length list / word_lanes) (length values)
      ∷ lent (length values) (length order)
      ∷ lent (length values) (length work)
      ∷ lent (length values) (length kept)
      ∷ inside_to len lanes n
      ∷ inside_to (length values) list n
      ∷ finite_to 0 len coeffs
      ∷ finite_to len (length values) values
      ∷ []) (Ok tt)

  -- 13 compares the basis length and the appended words with the places of the whole lent basis
  unfoldable pub admit : ℕ → ℕ → Admitting
  admit n limit =
      let flags : List ℕ = admit_flags len values limit in
      tested (admit_tests n limit)
      (cond (ltb basis_places (len + flagged flags)) (left (Err (TableFull 3 basis_places)) lanes coeffs)
      (left (Ok (len + flagged flags)) (appended_lanes len (picked (length values) flags list) lanes) (appended_zeros len (flagged flags) coeffs)))
