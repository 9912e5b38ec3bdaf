-- SPDX-FileCopyrightText: 2026 The PPVM Authors
-- SPDX-License-Identifier: Apache-2.0

-- The end of a step: what prune and cap keep of the grown basis is laid over the lent one. Past it stands zero where prune or cap acted, else
-- what stood there.
use Rattle.std.specs.Prelude.{ℕ, ◌-◌, ◌*◌, Bool, not, cond, ◌||◌, List, ◌++◌, ltb, Float, length, drop, replicate, Result, Err, Ok}
use Rattle.std.specs.Float.Ieee.{le}
use Rattle.word.specs.Flat.{flat_lanes, word_lanes}
use Rattle.word.specs.declared.word.Word.{Word}
use Rattle.number.specs.Floats.{float0}
use Rattle.lent.specs.Read.{Read, got, refused}
use Rattle.step_laws.specs.Steps.{Stepped, pruned_by, capped_by}
use Rattle.refusal.specs.declared.Refusal.{Refusal}
use Rattle.step_parts.specs.declared.taken.Step.{Step}

abbrev pub kept : List Word → Float → ℕ → Stepped → Stepped
kept protected dropTol limit g = capped_by protected limit (pruned_by protected dropTol g)

-- prune acts where drop_tol is above 0, and where it does not, cap acts on more words than its limit
unfoldable pub acts : Float → ℕ → Stepped → Bool
acts dropTol limit g = not (le dropTol float0) || ltb limit (length g.words)

unfoldable pub words_after : Bool → Stepped → List ℕ → List ℕ
words_after acted s lanes = flat_lanes s.words ++ cond acted (replicate (length lanes - word_lanes * length s.words) 0) (drop (word_lanes * length s.words) lanes)

unfoldable pub numbers_after : Bool → Stepped → List Float → List Float
numbers_after acted s coeffs = s.numbers ++ cond acted (replicate (length coeffs - length s.numbers) float0) (drop (length s.numbers) coeffs)

-- the answer of a step that passed its tests, and the lent basis afterwards: a refusal of its course changes nothing
pub record Ending : Type 0 where
  pub answer : Result Step Refusal
  pub lanes : List ℕ
  pub coeffs : List Float

abbrev pub ending : List Word → Float → ℕ → List ℕ → List Float → Read Stepped → Ending
ending protected dropTol limit lanes coeffs (refused q) = record { answer = Err q; lanes = lanes; coeffs = coeffs }
ending protected dropTol limit lanes coeffs (got g) =
    let s : Stepped = kept protected dropTol limit g in
    record { answer = Ok (record { entries = (length s.words); products = s.products }); lanes = words_after (acts dropTol limit g) s lanes; coeffs = numbers_after (acts dropTol limit g) s coeffs }
