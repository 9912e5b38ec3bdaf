-- SPDX-FileCopyrightText: 2026 The PPVM Authors
-- SPDX-License-Identifier: Apache-2.0

-- What leaks out of a basis. Candidates are words neither in the basis nor protected, each with a sum, in word order.
use Rattle.std.specs.Prelude.{ℕ, zero, suc, ◌+◌, ◌/◌, Bool, not, ◌&&◌, cond, List, [], ◌∷◌, map, ltb, Float, length, get_or, take, drop, replicate}
use Rattle.std.specs.Float.{nan}
use Rattle.refusal.specs.declared.Refusal.TheVariants.{TableFull, SumNotFinite}
use Rattle.word.specs.Word.{identity}
use Rattle.word.specs.declared.word.Word.{Word}
use Rattle.number.specs.Floats.{floats}
use Rattle.order.specs.Magnitudes.{by_magnitude}
use Rattle.order.specs.Places.{is_among}
use Rattle.keep.specs.Retained.{pick}
use Rattle.keep.specs.Chosen.{chosen}
use Rattle.candidates.specs.Sums.{Row, row}
use Rattle.candidates.specs.Tables.{Rows, put_rows}
use Rattle.model.specs.Stored.{ModelTables}
use Rattle.model.specs.Terms.{Term}
use Rattle.lent.specs.Read.{Read, got, onward, refuse_if}
use Rattle.model.specs.declared.stored.Model.{Model}
use Rattle.action.specs.Acts.{action_of}
use Rattle.action.specs.Counts.{touched_by}
use Rattle.lent.specs.Tests.{first_to}
use Rattle.lent.specs.Numbers.{not_finite}
use Rattle.limits.specs.Defaults.{is_above}

-- ---- one position
-- neither in the basis nor protected
unfoldable pub outside : List Word → List Word → Word → Bool
outside basis protected w = not (is_among w basis) && not (is_among w protected)

-- coefficient × term for each word of an action that passes a test
unfoldable pub leaked : (Word → Bool) → Float → List Term → Rows
leaked out c [] = []
leaked out c (t ∷ ts) = cond (out t.word) (row t.word (floats.times c t.num.re) ∷ leaked out c ts) (leaked out c ts)

-- ---- one pass
-- positions one after another: table 1, words touched by one action, before table 2, candidates held, for each
module _ (touched : ℕ → ℕ) (leaks : ℕ → Rows) (sumRoom candidateRoom : ℕ) where
  unfoldable pub taken_by : List ℕ → Rows → Read Rows
  taken_by [] T = got T
  taken_by (p ∷ ps) T =
      refuse_if (ltb sumRoom (touched p)) (TableFull 1 sumRoom)
      (refuse_if (ltb candidateRoom (length (put_rows (leaks p) T))) (TableFull 2 candidateRoom)
      (taken_by ps (put_rows (leaks p) T)))

abbrev pub sums_of : Rows → List Float
sums_of = map (λ (r : Row Word Float). r.sum)

abbrev pub words_of : Rows → List Word
words_of = map (λ (r : Row Word Float). r.word)

-- those with magnitude > tau_add
unfoldable pub above : Float → Rows → Rows
above tau [] = []
above tau (r ∷ rs) = cond (is_above tau r.sum) (r ∷ above tau rs) (above tau rs)

-- the room rule: the largest stay, in their order; ties to the lower word
unfoldable pub largest : ℕ → Rows → Rows
largest room T = pick (chosen (by_magnitude (sums_of T)) (replicate (length T) 0) room) T

-- a pass's end: 14 at the first candidate whose sum is not finite, then the room rule
unfoldable pub ended : ℕ → Rows → Read Rows
ended room T =
    let bad : ℕ = first_to (length T) (not_finite (sums_of T)) in
    refuse_if (ltb bad (length T)) (SumNotFinite bad) (got (largest room T))

-- ---- all passes
abbrev pub pass_size : ℕ
pass_size = 4096

abbrev pub pass_count : ℕ → ℕ
pass_count n = (n + 4095) / 4096

module _ (touched : ℕ → ℕ) (leaks : ℕ → Rows) (sumRoom candidateRoom room : ℕ) where
  -- so many passes over the positions
  unfoldable pub passes : ℕ → List ℕ → Rows → Read Rows
  passes zero ps T = got T
  passes (suc k) ps T =
      onward (taken_by touched leaks sumRoom candidateRoom (take pass_size ps) T)
      (λ T'. onward (ended room T') (passes k (drop pass_size ps)))

-- ---- of a model
module _ (m : Model) (t : ModelTables) (basis : List Word) (coeffs : List Float) (protected : List Word) where
  abbrev pub touched_at : ℕ → ℕ
  touched_at p = touched_by m t (get_or basis p identity)

  abbrev pub leaks_at : ℕ → Rows
  leaks_at p = leaked (outside basis protected) (get_or coeffs p nan) (action_of m t (get_or basis p identity))

  -- positions in falling magnitude, 4,096 to a pass
  unfoldable pub candidates_of : ℕ → ℕ → ℕ → Read Rows
  candidates_of sumRoom candidateRoom room = passes touched_at leaks_at sumRoom candidateRoom room (pass_count (length coeffs)) (by_magnitude coeffs) []

-- ---- for the functions that work on lent tables
