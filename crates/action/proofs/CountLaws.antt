-- SPDX-FileCopyrightText: 2026 The PPVM Authors
-- SPDX-License-Identifier: Apache-2.0

-- The largest count over a list of words, word by word; and what counting answers. Assumes nothing.
use mathlib.Core.Path.{◌≡◌, sym, ap, ◌∙◌}
use mathlib.Core.List.{List}
use Prim.Native.Nat.{ℕ, suc, ◌+◌, ◌≤◌, ◌<◌, max}
use native.Mathlib.Numerals.{add-one}
use native.Mathlib.Omega.{arith}
use borrow.Author.Tests.{lt-ltb, le-ltb}
use lib.Ieee.{Float}
use lib.ListN.{length, get_or, drop, replicate, drop_of_length-le}
use lib.Seq.{drop-cons}
use Rattle.refusal.specs.declared.Refusal.{Refusal}
use Rattle.refusal.specs.declared.Refusal.TheVariants.{TableFull}
use Rattle.std.specs.Prelude.{Result, Ok, Err}
use Rattle.action.specs.declared.count.Counted.{Counted}
use Rattle.word.specs.Word.{identity}
use Rattle.word.specs.Flat.{words}
use Rattle.word.specs.declared.word.Word.{Word}
use Rattle.number.specs.Floats.{float0}
use Rattle.model.specs.Stored.{ModelTables}
use Rattle.model.specs.declared.stored.Model.{Model}
use Rattle.action.specs.Acts.{sum_places}
use Rattle.action.specs.Counts.{most, touched_by, listed_by, most_places, words_tests, count_places}

-- ---- the largest so far, and what is left
most_next : (f : Word → ℕ) (ps : List Word) (k : ℕ) (p : Word) → k < length ps → p ≡ get_or ps k identity → most f (drop k ps) ≡ max (f p) (most f (drop (k + 1) ps))
unfolding most
most_next f ps k p h e = rw (add-one k) (ap (most f) (drop-cons ps k identity h) ∙ ap (λ (q : Word). max (f q) (most f (drop (suc k) ps))) (sym e))

most_none : (f : Word → ℕ) (ps : List Word) (k : ℕ) → length ps ≤ k → most f (drop k ps) ≡ 0
unfolding most
most_none f ps k h = ap (most f) (drop_of_length-le ps h)

pub record MostState (touch list : Word → ℕ) (ps : List Word) (room touched listed k : ℕ) : Type 0 where
  pub touched_left : max touched (most touch (drop k ps)) ≡ most touch ps
  pub listed_left : max listed (most list (drop k ps)) ≡ most list ps
  pub fits : touched ≤ room

module _ (touch list : Word → ℕ) (ps : List Word) (room : ℕ) where
  module _ (touched listed k : ℕ) (s : MostState touch list ps room touched listed k) where
    module _ (p : Word) (h : k < length ps) (e : p ≡ get_or ps k identity) where
      pub most_full : room < touch p → Err (TableFull 1 room) ≡ most_places room touch list ps
      unfolding most_places
      most_full l = let n = most_next touch ps k p h e in rw (lt-ltb room (most touch ps) (omega (arith, n, s.touched_left)))

      pub most_more : (t l : ℕ) → t ≡ max touched (touch p) → l ≡ max listed (list p) → touch p ≤ room → MostState touch list ps room t l (k + 1)
      most_more t l et el f =
          let n = most_next touch ps k p h e in
          let o = most_next list ps k p h e in
          record { touched_left = omega (arith, n, et, s.touched_left); listed_left = omega (arith, o, el, s.listed_left); fits = omega (arith, et, s.fits) }

    pub most_done : length ps ≤ k → Ok (record { touched = touched; listed = listed }) ≡ most_places room touch list ps
    unfolding most_places
    most_done h =
        let n = most_none touch ps k h in
        let o = most_none list ps k h in
        let t : touched ≡ most touch ps = omega (arith, n, s.touched_left) in
        let l : listed ≡ most list ps = omega (arith, o, s.listed_left) in
        rw (sym t, sym l, le-ltb room touched s.fits)

-- ---- the words of a list that was tested

-- ---- the answers
module _ (hIndex jIndex mask workWords : List ℕ) (workSums : List Float) (m : Model) (t : ModelTables) (lanes : List ℕ) where
  pub count_refused : (r : Refusal) → words_tests m t lanes (length hIndex) (length jIndex) (length mask) ≡ Err r
      → record { answer = Err r; h_index = hIndex; j_index = jIndex; mask = mask; work_words = workWords; work_sums = workSums } ≡ count_places hIndex jIndex mask workWords workSums m t lanes
  unfolding count_places
  count_refused r e = rw e

  pub count_answered : words_tests m t lanes (length hIndex) (length jIndex) (length mask) ≡ Ok tt
      → (r : Result Counted Refusal) (hIndex' jIndex' mask' workWords' : List ℕ) (workSums' : List Float) (room : ℕ) → room ≡ sum_places workWords workSums
      → r ≡ most_places room (touched_by m t) (listed_by m t) (words lanes)
      → hIndex' ≡ replicate (length hIndex) 0 → jIndex' ≡ replicate (length jIndex) 0 → mask' ≡ replicate (length mask) 0
      → workWords' ≡ replicate (length workWords) 0 → workSums' ≡ replicate (length workSums) float0
      → record { answer = r; h_index = hIndex'; j_index = jIndex'; mask = mask'; work_words = workWords'; work_sums = workSums' } ≡ count_places hIndex jIndex mask workWords workSums m t lanes
  unfolding count_places
  count_answered ok r hIndex' jIndex' mask' workWords' workSums' room er e eh ej em ew es = rw (ok, sym er, e, eh, ej, em, ew, es)
