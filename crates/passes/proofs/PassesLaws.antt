-- SPDX-FileCopyrightText: 2026 The PPVM Authors
-- SPDX-License-Identifier: Apache-2.0

-- The passes one by one: what is left of them gives the answer of all. Assumes nothing.
use mathlib.Core.Path.{◌≡◌, refl, ap, ap₂, sym, ◌∙◌}
use mathlib.Core.List.{List, [], ◌∷◌, ◌++◌, map}
use Prim.Native.Nat.{ℕ, suc, ◌+◌, ◌-◌, ◌*◌, ◌≤◌, ◌<◌, min}
use native.Mathlib.Omega.{arith}
use native.Mathlib.Decide.{dec_lt}
use lib.Ieee.{Float, nan}
use lib.ListN.{length, get_or, take, drop, replicate, length-drop, drop_of_length-le}
use lib.Seq.{take_all, take_at, drop-drop, get_or-take, length-take-le, length_front}
use Rattle.refusal.specs.declared.Refusal.{Refusal}
use Rattle.word.specs.Flat.{word_lanes, words}
use Rattle.word.specs.Word.{identity}
use Rattle.word.specs.declared.word.Word.{Word}
use Rattle.word.proofs.FlatLaws.{words_take, words_high}
use Rattle.order.specs.Between.{All, AllBelow, by_word}
use Rattle.order.proofs.Members.{all_at, all_more}
use Rattle.order.proofs.PlaceLaws.{by_word_lem}
use Rattle.slots.proofs.SlotLaws.{none_slotted}
use Rattle.candidates.specs.Sums.{Row, row, put_all}
use Rattle.candidates.specs.Tables.{Rows, candidate_rows}
use Rattle.candidates.specs.Between.{in_word_order, row_at, Standing}
use Rattle.candidates.proofs.RowLaws.{first_entries}
use Rattle.candidates.proofs.PositionLaws.{rows_by_word}
use Rattle.candidates.proofs.PivotLaws.{by_word_below}
use Rattle.model.specs.Stored.{ModelTables}
use Rattle.model.specs.declared.stored.Model.{Model}
use Rattle.lent.specs.Read.{Read, got, refused, onward}
use Rattle.passes.specs.Leaks.{taken_by, ended, pass_size, pass_count, passes}
use Rattle.std.specs.Prelude.{Result, Ok, Err}
use Rattle.passes.proofs.TookLaws.{took_held, took_refused, stood_held, stood_refused}
use Rattle.passes.specs.Between.{ModelReady, ActionRoom, rows_at, Stood, Took}

-- ---- tables that a pass has written keep their lengths, and so what is asked of them
pub ready_still : (m : Model) (t : ModelTables) (hIndex jIndex mask mask' : List ℕ) → ModelReady m t hIndex jIndex mask → length mask' ≡ length mask → ModelReady m t hIndex jIndex mask'
ready_still m t hIndex jIndex mask mask' r e = record { tested = r.tested; indexed = r.indexed; h_rows = r.h_rows; j_rows = r.j_rows; row = omega (arith, r.row, e) }

pub action_room_still : (room : ℕ) (workWords workWords' : List ℕ) (workSums workSums' : List Float) → ActionRoom room workWords workSums → length workWords' ≡ length workWords → length workSums' ≡ length workSums → ActionRoom room workWords' workSums'
action_room_still room workWords workWords' workSums workSums' r e1 e2 = record { work_words = omega (arith, r.work_words, e1); work_sums = omega (arith, r.work_sums, e2) }

-- ---- the positions of a pass
module _ (ps : List ℕ) (from to : ℕ) (is : to ≡ min (from + pass_size) (length ps)) where
  -- its part of the list is the next positions, as many as make a pass
  pub pass_part : take pass_size (drop from ps) ≡ take (to - from) (drop from ps)
  pass_part = go (dec_lt (length ps) (from + pass_size))
    where
      go : Dec (length ps < from + pass_size) → take pass_size (drop from ps) ≡ take (to - from) (drop from ps)
      go (yes h) =
          let l = length-drop from ps in
          take_all pass_size (drop from ps) (omega (arith, l, h)) ∙ sym (take_all (to - from) (drop from ps) (omega (arith, l, h, is)))
      go (no h) = let e : pass_size ≡ to - from = omega (arith, is, h) in ap (λ (k : ℕ). take k (drop from ps)) e

  pub pass_rest : drop pass_size (drop from ps) ≡ drop to ps
  pass_rest = drop-drop pass_size from ps ∙ go (dec_lt (length ps) (from + pass_size))
    where
      go : Dec (length ps < from + pass_size) → drop (from + pass_size) ps ≡ drop to ps
      go (yes h) =
          let a : length ps ≤ from + pass_size = omega (arith, h) in
          let b : length ps ≤ to = omega (arith, h, is) in
          drop_of_length-le ps a ∙ sym (drop_of_length-le ps b)
      go (no h) = let e : from + pass_size ≡ to = omega (arith, is, h) in ap (λ (k : ℕ). drop k ps) e

  pub pass_count_lem : from < length ps → pass_count (length ps - from) ≡ suc (pass_count (length ps - to))
  pass_count_lem h = omega (arith, h, is)

-- ---- one pass of all
module _ (touched : ℕ → ℕ) (leaks : ℕ → Rows) (sumRoom candidateRoom room : ℕ) (ps : List ℕ) where
  abbrev taken : List ℕ → Rows → Read Rows
  taken = taken_by touched leaks sumRoom candidateRoom

  -- the passes from a position on
  abbrev pub rest : ℕ → Rows → Read Rows
  rest from = passes touched leaks sumRoom candidateRoom room (pass_count (length ps - from)) (drop from ps)

  pub first_rest : (lanes : List ℕ) (sums : List Float) → rest 0 (in_word_order (candidate_rows 0 lanes sums)) ≡ passes touched leaks sumRoom candidateRoom room (pass_count (length ps)) ps []
  unfolding in_word_order put_all
  first_rest lanes sums = let z : length ps - 0 ≡ length ps = omega arith in rw z

  pub rest_none : (from : ℕ) (T : Rows) → length ps ≤ from → rest from T ≡ got T
  unfolding passes
  rest_none from T h = let z : pass_count (length ps - from) ≡ 0 = omega (arith, h) in rw z

  pub rest_next : (from to : ℕ) (T : Rows) → to ≡ min (from + pass_size) (length ps) → from < length ps
      → rest from T ≡ onward (taken (take (to - from) (drop from ps)) T) (λ (T' : Rows). onward (ended room T') (rest to))
  unfolding passes
  rest_next from to T is h = rw (pass_count_lem ps from to is h, pass_part ps from to is, pass_rest ps from to is)

  -- ---- a turn, where the passes from this one on give the answer of all
  module _ (all : Read Rows) (from to : ℕ) (T : Rows) (going : rest from T ≡ all) (is : to ≡ min (from + pass_size) (length ps)) (h : from < length ps) where
    through : onward (taken (take (to - from) (drop from ps)) T) (λ (T' : Rows). onward (ended room T') (rest to)) ≡ all
    through = sym (rest_next from to T is h) ∙ going

    module _ (lanes : List ℕ) (sums : List Float) (heads nexts : List ℕ) (r : Result ℕ Refusal) (took : Stood candidateRoom (taken (take (to - from) (drop from ps)) T) lanes sums heads nexts r) where
      pub pass_refused : (q : Refusal) → r ≡ Err q → Stood candidateRoom all lanes sums heads nexts (Err q)
      pass_refused q e =
          let stop : taken (take (to - from) (drop from ps)) T ≡ refused q = took.stopped q e in
          stood_refused candidateRoom all lanes sums heads nexts q (sym (rw stop at through))

      module _ (n : ℕ) (e : r ≡ Ok n) where
        abbrev now : Rows
        now = in_word_order (candidate_rows n lanes sums)

        after : onward (ended room now) (rest to) ≡ all
        after = let gave : taken (take (to - from) (drop from ps)) T ≡ got now = (took.held n e).1 in rw gave at through

        module _ (lanes' : List ℕ) (sums' : List Float) (heads' nexts' : List ℕ) (r' : Result ℕ Refusal) (end : Stood candidateRoom (ended room (in_word_order (candidate_rows n lanes sums))) lanes' sums' heads' nexts' r') where
          pub end_refused : (q : Refusal) → r' ≡ Err q → Stood candidateRoom all lanes' sums' heads' nexts' (Err q)
          end_refused q e' =
              let stop : ended room now ≡ refused q = end.stopped q e' in
              stood_refused candidateRoom all lanes' sums' heads' nexts' q (sym (rw stop at after))

          pub end_held : (k : ℕ) → r' ≡ Ok k → (rest to (in_word_order (candidate_rows k lanes' sums')) ≡ all) × Standing candidateRoom k lanes' sums' heads' nexts'
          end_held k e' =
              let gave : ended room now ≡ got (in_word_order (candidate_rows k lanes' sums')) = (end.held k e').1 in
              (rw gave at after, (end.held k e').0)

  pub passes_end : (all : Read Rows) (from n : ℕ) (lanes : List ℕ) (sums : List Float) (heads nexts : List ℕ) → rest from (in_word_order (candidate_rows n lanes sums)) ≡ all → length ps ≤ from → Standing candidateRoom n lanes sums heads nexts
      → Stood candidateRoom all lanes sums heads nexts (Ok n)
  passes_end all from n lanes sums heads nexts going h s = stood_held candidateRoom all lanes sums heads nexts n s (sym going ∙ rest_none from (in_word_order (candidate_rows n lanes sums)) h)

-- ---- before the first pass, and after the last
pub none_stand : (room m : ℕ) (lanes : List ℕ) (sums : List Float) (heads nexts : List ℕ) → word_lanes * room ≤ length lanes → room ≤ length sums → heads ≡ replicate m 0 → room ≤ length heads → room ≤ length nexts → Standing room 0 lanes sums heads nexts
unfolding in_word_order put_all
none_stand room m lanes sums heads nexts hl hs e hh hn =
    record { lanes_long = hl; sums_long = hs; heads_long = hh; nexts_long = hn; inside = omega arith; slots = rw e (none_slotted m); once = refl }

-- what is put in the first places of a table, as many as a step holds, leaves its length
pub front_kept : (r : Result ℕ Refusal) (n : ℕ) → r ≡ Ok n → (d e : List ℕ) → length e ≡ length (take n d) → length (e ++ drop n d) ≡ length d
front_kept r n held d e h = length_front d e n h

-- the candidates at positions in word order
map_same : (f g : ℕ → Row Word Float) (l : List ℕ) → All (λ p. f p ≡ g p) l → map f l ≡ map g l
unfolding All
map_same f g [] a = refl
map_same f g (p ∷ l) a = ap₂ (λ (r : Row Word Float) (t : Rows). r ∷ t) a.0 (map_same f g l a.1)

module _ (room : ℕ) (course : Read Rows) (lanes : List ℕ) (sums : List Float) (heads nexts : List ℕ) (r : Result ℕ Refusal) (s : Stood room course lanes sums heads nexts r) where
  pub run_refused : (q : Refusal) → r ≡ Err q → (order : List ℕ) → Took room course lanes sums order (Err q)
  run_refused q e order = took_refused room course lanes sums order q (s.stopped q e)

  module _ (n : ℕ) (e : r ≡ Ok n) where
    abbrev k : Standing room n lanes sums heads nexts
    k = (s.held n e).0

    -- what ordering asks for
    pub run_long : (n ≤ room) × (word_lanes * n ≤ length lanes) × (n ≤ length heads) × (n ≤ length nexts)
    run_long = (k.inside, omega (arith, k.inside, k.lanes_long), omega (arith, k.inside, k.heads_long), omega (arith, k.inside, k.nexts_long))

    module _ (o rest : List ℕ) (is : o ≡ by_word (words (take (n * word_lanes) lanes))) where
      abbrev ws : List Word
      ws = words (take (n * word_lanes) lanes)

      ws_are : ws ≡ take n (words lanes)
      ws_are = let z : n * word_lanes ≡ word_lanes * n = omega arith in ap (λ (m : ℕ). words (take m lanes)) z ∙ words_take n lanes

      ws_long : length ws ≡ n
      ws_long = ap length ws_are ∙ length-take-le n (words lanes) (omega (arith, k.lanes_long, k.inside, words_high lanes))

      o_long : length o ≡ n
      o_long = ap length is ∙ (by_word_lem ws).size ∙ ws_long

      below : AllBelow n o
      below = rw is (by_word_below ws n ws_long)

      rows_are : in_word_order (candidate_rows n lanes sums) ≡ rows_at lanes sums o
      rows_are =
          ap in_word_order (sym (first_entries n lanes sums))
          ∙ rows_by_word ws sums (omega (arith, ws_long, k.sums_long, k.inside)) o is (ap (λ (t : Rows). length (in_word_order t)) (first_entries n lanes sums) ∙ k.once ∙ sym o_long)
          ∙ map_same (row_at ws sums) (row_at (words lanes) sums) o
          (all_more (λ x. x < n) (λ x. row_at ws sums x ≡ row_at (words lanes) sums x) (λ x h. ap (λ (w : Word). row w (get_or sums x nan)) (ap (λ (l : List Word). get_or l x identity) ws_are ∙ get_or-take n (words lanes) x identity h)) o below)

      in_n : (i : ℕ) → i < length o → get_or o i 0 < n
      in_n i h = all_at (λ x. x < n) o i below h

      pub run_held : Took room course lanes sums (o ++ rest) (Ok n)
      run_held =
          let first : take n (o ++ rest) ≡ o = take_at o rest n o_long in
          took_held room course lanes sums (o ++ rest) n k.inside ((s.held n e).1 ∙ ap got rows_are ∙ rw first)
          (rw first (record { in_lanes = λ i h. omega (arith, in_n i h, k.lanes_long, k.inside); in_sums = λ i h. omega (arith, in_n i h, k.sums_long, k.inside) }))
