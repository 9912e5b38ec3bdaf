-- SPDX-FileCopyrightText: 2026 The PPVM Authors
-- SPDX-License-Identifier: Apache-2.0

-- The places of the tables that 13 names, and the list of what the passes left, answer by answer. Assumes nothing.
use mathlib.Core.Path.{◌≡◌, refl, sym}
use mathlib.Core.List.{List}
use Prim.Native.Nat.{ℕ, ◌/◌, ◌≤◌, ◌<◌, min}
use native.Mathlib.Omega.{arith}
use borrow.Author.Tests.{lt-ltb, le-ltb}
use lib.Ieee.{Float}
use lib.ListN.{length, set, replicate}
use Rattle.refusal.specs.declared.Refusal.{Refusal}
use Rattle.refusal.specs.declared.Refusal.TheVariants.{TableFull}
use Rattle.word.specs.Flat.{lay_word, word_lanes}
use Rattle.number.specs.Floats.{float0}
use Rattle.candidates.specs.Tables.{Rows}
use Rattle.std.specs.Prelude.{Result, Ok, Err}
use Rattle.model.specs.Stored.{ModelTables}
use Rattle.model.specs.declared.stored.Model.{Model}
use Rattle.lent.specs.Read.{Read, got, refused}
use Rattle.lent.specs.Laid.{laid}
use Rattle.action.specs.Acts.{list_places}
use Rattle.passes.specs.Leaks.{above, words_of, sums_of}
use Rattle.leakage.specs.Leakages.{Basis, Work, work_of, zeroed, Out, action_places, row_places, leak_tests, leak_course, listing, leak}
use Rattle.limits.specs.Defaults.{tau_of}
use Rattle.limits.specs.declared.Limits.{Limits}
use Rattle.passes.specs.Between.{Took}
use Rattle.leakage.specs.Between.{step_rows, HeldInside}

-- ---- the places of the tables that 13 names
pub action_places_are : (ww ws : ℕ) {r : ℕ} → r ≡ min (ww / word_lanes) (ws / 2) → r ≡ action_places ww ws
unfolding action_places
action_places_are ww ws e = e

pub row_places_are : (cw cs po pw : ℕ) {a b r : ℕ} → a ≡ min (cw / word_lanes) cs → b ≡ min po pw → r ≡ min a b → r ≡ row_places cw cs po pw
unfolding row_places
row_places_are cw cs po pw ea eb er = rw (er, ea, eb)

-- ---- the list
module _ (tau : Float) (outWords : List ℕ) (outValues : List Float) where
  pub listing_stopped : (r : Refusal) → record { answer = Err r; out_words = outWords; out_values = outValues } ≡ listing tau outWords outValues (refused r)
  unfolding listing
  listing_stopped r = refl

  module _ (T : Rows) (count places : ℕ) (counted : count ≡ length (above tau T)) (lent : places ≡ list_places outWords outValues) where
    pub listing_full : places < count → record { answer = Err (TableFull 3 places); out_words = outWords; out_values = outValues } ≡ listing tau outWords outValues (got T)
    unfolding listing
    listing_full l = rw (← counted, ← lent, lt-ltb places count l)

    pub listing_done : (outWords' : List ℕ) (outValues' : List Float) → count ≤ places → outWords' ≡ laid lay_word 0 (words_of (above tau T)) outWords → outValues' ≡ laid set 0 (sums_of (above tau T)) outValues
        → record { answer = Ok count; out_words = outWords'; out_values = outValues' } ≡ listing tau outWords outValues (got T)
    unfolding listing
    listing_done outWords' outValues' l ew ev = rw (← counted, ← lent, le-ltb places count l, ew, ev)

-- ---- what a step left
pub took_rows : (room : ℕ) (course : Read Rows) (lanes : List ℕ) (sums : List Float) (order : List ℕ) (r : Result ℕ Refusal) → Took room course lanes sums order r → step_rows r lanes sums order ≡ course
took_rows room course lanes sums order (Ok n) k = sym (k.held n refl).0
took_rows room course lanes sums order (Err q) k = sym (k.stopped q refl)

pub took_inside : (room : ℕ) (course : Read Rows) (lanes : List ℕ) (sums : List Float) (order : List ℕ) (r : Result ℕ Refusal) → Took room course lanes sums order r → room ≤ length order → HeldInside r lanes sums order
took_inside room course lanes sums order r k a = record { inside = λ n e. (omega (arith, (k.held n e).1), (k.held n e).2) }

-- ---- the call
module _ (outWords : List ℕ) (outValues : List Float) (w : Work) (m : Model) (t : ModelTables) (b : Basis) (l : Limits) where
  pub leak_refused : (r : Refusal) → leak_tests m t b l w ≡ Err r → record { out = record { answer = Err r; out_words = outWords; out_values = outValues }; work = w } ≡ leak outWords outValues w m t b l
  unfolding leak
  leak_refused r e = rw e

  pub leak_accepted : (out : Out) (after : Work) (rows : Read Rows) → leak_tests m t b l w ≡ Ok tt → rows ≡ leak_course m t b l w → out ≡ listing (tau_of l) outWords outValues rows → after ≡ zeroed w
      → record { out = out; work = after } ≡ leak outWords outValues w m t b l
  unfolding leak
  leak_accepted out after rows e er eo ez = rw (e, eo, ez, er)

-- ---- work tables are zero afterwards
pub all_zero : (w : Work) {hIndex jIndex mask workWords order heads nexts candWords placeOrder placeWork : List ℕ} {workSums candSums : List Float}
    → hIndex ≡ replicate (length w.h_index) 0 → jIndex ≡ replicate (length w.j_index) 0 → mask ≡ replicate (length w.mask) 0 → workWords ≡ replicate (length w.work_words) 0 → workSums ≡ replicate (length w.work_sums) float0
    → order ≡ replicate (length w.order) 0 → heads ≡ replicate (length w.heads) 0 → nexts ≡ replicate (length w.nexts) 0 → candWords ≡ replicate (length w.cand_words) 0 → candSums ≡ replicate (length w.cand_sums) float0
    → placeOrder ≡ replicate (length w.place_order) 0 → placeWork ≡ replicate (length w.place_work) 0
    → work_of hIndex jIndex mask workWords workSums order heads nexts candWords candSums placeOrder placeWork ≡ zeroed w
all_zero w e0 e1 e2 e3 e4 e5 e6 e7 e8 e9 e10 e11 = rw (e0, e1, e2, e3, e4, e5, e6, e7, e8, e9, e10, e11)
