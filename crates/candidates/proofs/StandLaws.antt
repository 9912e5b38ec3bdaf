-- SPDX-FileCopyrightText: 2026 The PPVM Authors
-- SPDX-License-Identifier: Apache-2.0

-- One entry put to candidates that stand in lent tables in any order: added where its word stands, behind them all, or without a place. Assumes nothing.
use mathlib.Core.Path.{◌≡◌, ap, sym, ◌∙◌}
use mathlib.Core.List.{List, [], ◌∷◌, ◌++◌}
use Prim.Native.Nat.{ℕ, suc, ◌+◌, ◌-◌, ◌*◌, ◌≤◌, ◌<◌}
use native.Mathlib.Numerals.{add-one}
use native.Mathlib.Omega.{arith}
use lib.Ieee.{Float, nan}
use lib.ListN.{length, get_or, set, take, drop, length-set, length-drop}
use lib.Seq.{take-suc-set, take-set-lt, set_split, split_at, get_or-drop, get_or-take, length-take-le}
use Rattle.word.specs.Flat.{word_lanes, words}
use Rattle.word.specs.Order.{before}
use Rattle.word.specs.Word.{identity}
use Rattle.word.specs.declared.word.Word.{Word}
use Rattle.word.proofs.FlatLaws.{words_high, words_take}
use Rattle.number.specs.Floats.{floats}
use Rattle.slots.specs.Slots.{last_of}
use Rattle.slots.specs.Between.{Slotted}
use Rattle.slots.proofs.PlaceLaws.{last_inside, last_word, last_after}
use Rattle.std.specs.Prelude.{Some, None}
use Rattle.candidates.specs.Sums.{Row, row}
use Rattle.candidates.specs.Tables.{Rows, rows, candidate_rows, put_row}
use Rattle.candidates.specs.Between.{in_word_order, Standing, Puts}
use Rattle.candidates.proofs.PutLaws.{strict}
use Rattle.candidates.proofs.RowLaws.{no_row, rows_sum, table_long, table_at, table_more}
use Rattle.candidates.proofs.WordOrderLaws.{Each, each_by, put_standing, put_behind}

abbrev Other : Word → Row Word Float → Type 0
Other w r = r.word ≡ w → ⊥

-- ---- answers
pub puts_held : (room m : ℕ) (T : Rows) (lanes : List ℕ) (sums : List Float) (heads nexts : List ℕ) → Standing room m lanes sums heads nexts → in_word_order (candidate_rows m lanes sums) ≡ T → Puts room T lanes sums heads nexts (Some m)
puts_held room m T lanes sums heads nexts s e =
    record { held = λ k z. let q : m ≡ k = cc in (rw (← q) s, rw (← q) e); full = λ z. let q : ◌≡◌ {A = ℕ} 0 1 = cc in absurd (omega arith) }

pub puts_full : (room : ℕ) (T : Rows) (lanes : List ℕ) (sums : List Float) (heads nexts : List ℕ) → room < length T → Puts room T lanes sums heads nexts None
puts_full room T lanes sums heads nexts h =
    record { held = λ k z. let q : ◌≡◌ {A = ℕ} 0 1 = cc in absurd (omega arith); full = λ z. h }

-- ---- the words of the rows that stand
-- the lanes of the first n words
pub front_slots : (n : ℕ) (lanes heads nexts : List ℕ) → Slotted (take n (words lanes)) heads nexts → Slotted (words (take (n * word_lanes) lanes)) heads nexts
front_slots n lanes heads nexts s =
    let e : n * word_lanes ≡ word_lanes * n = omega arith in
    rw (e, words_take n lanes) s

module _ (room n : ℕ) (lanes : List ℕ) (sums : List Float) (heads nexts : List ℕ) (s : Standing room n lanes sums heads nexts) (w : Word) (v : Float) (at : ℕ) where
  abbrev U : Rows
  U = candidate_rows n lanes sums

  abbrev ws : List Word
  ws = words (take (n * word_lanes) lanes)

  ws_are : ws ≡ take n (words lanes)
  ws_are = let e : n * word_lanes ≡ word_lanes * n = omega arith in ap (λ (k : ℕ). words (take k lanes)) e ∙ words_take n lanes

  ws_long : length ws ≡ n
  ws_long = ap length ws_are ∙ length-take-le n (words lanes) (omega (arith, s.lanes_long, s.inside, words_high lanes))

  U_long : length U ≡ n
  U_long = table_long n lanes sums (omega (arith, s.lanes_long, s.inside)) (omega (arith, s.sums_long, s.inside))

  U_at : (k : ℕ) → k < n → get_or U k no_row ≡ row (get_or (words lanes) k identity) (get_or sums k nan)
  U_at k h = table_at n lanes sums k (omega (arith, s.lanes_long, s.inside)) (omega (arith, s.sums_long, s.inside)) h

  U_word : (k : ℕ) → k < n → (get_or U k no_row).word ≡ get_or ws k identity
  U_word k h = ap (λ (r : Row Word Float). r.word) (U_at k h) ∙ sym (ap (λ (l : List Word). get_or l k identity) ws_are ∙ get_or-take n (words lanes) k identity h)

  module _ (found : at ≡ last_of w ws (length ws)) where
    low : at ≤ n
    low = omega (arith, found, ws_long, last_inside w ws (length ws))

    -- no later word is w
    later : (k : ℕ) → at ≤ k → k < n → Other w (get_or U k no_row)
    later k a b e =
        let z : get_or ws k identity ≡ w = sym (U_word k b) ∙ e in
        omega (arith, found, last_after w ws (length ws) k (omega (arith, ws_long)) z)

    -- ---- its word stands
    module _ (p : 0 < at) where
      abbrev q : ℕ
      q = at - 1

      pub place_low : at - 1 < n
      place_low = omega (arith, low)

      abbrev x : Float
      x = floats.plus (get_or sums (at - 1) nan) v

      here : get_or U q no_row ≡ row w (get_or sums q nan)
      here =
          let e : last_of w ws (length ws) ≡ suc q = omega (arith, found) in
          let z : get_or (words lanes) q identity ≡ w = sym (ap (λ (l : List Word). get_or l q identity) ws_are ∙ get_or-take n (words lanes) q identity place_low) ∙ last_word w ws (length ws) q e in
          U_at q place_low ∙ rw z

      rest : Each (Other w) (drop (suc q) U)
      rest =
          each_by (Other w) no_row (drop (suc q) U)
          (λ k h. rw (get_or-drop (suc q) U k no_row) (later (suc q + k) (omega arith) (omega (arith, U_long, length-drop (suc q) U))))

      after : candidate_rows n lanes (set sums q x) ≡ take q U ++ (row w x ∷ drop (suc q) U)
      after =
          ap (take n) (rows_sum (words lanes) sums q x)
          ∙ take-set-lt n (rows (words lanes) sums) q (row (get_or (rows (words lanes) sums) q no_row).word x) place_low
          ∙ ap (λ (u : Word). set U q (row u x)) (ap (λ (r : Row Word Float). r.word) (sym (get_or-take n (rows (words lanes) sums) q no_row place_low) ∙ here))
          ∙ set_split U q (row w x) (omega (arith, U_long, place_low))

      U_split : U ≡ take q U ++ (row w (get_or sums q nan) ∷ drop (suc q) U)
      U_split = split_at U q no_row (omega (arith, U_long, place_low)) ∙ ap (λ (r : Row Word Float). take q U ++ (r ∷ drop (suc q) U)) here

      pub put_added : Puts room (put_row w v (in_word_order (candidate_rows n lanes sums))) lanes (set sums (at - 1) (floats.plus (get_or sums (at - 1) nan) v)) heads nexts (Some n)
      unfolding in_word_order
      put_added =
          let law = put_standing before floats.nought strict floats.plus (take q U) w (get_or sums q nan) v (drop (suc q) U) rest in
          let now : in_word_order (candidate_rows n lanes (set sums q x)) ≡ in_word_order (take q U ++ (row w x ∷ drop (suc q) U)) = ap in_word_order after in
          let old : in_word_order (take q U ++ (row w (get_or sums q nan) ∷ drop (suc q) U)) ≡ in_word_order U = ap in_word_order (sym U_split) in
          puts_held room n (put_row w v (in_word_order U)) lanes (set sums q x) heads nexts
          (record {
            lanes_long = s.lanes_long;
            sums_long = omega (arith, s.sums_long, length-set sums q x);
            heads_long = s.heads_long;
            nexts_long = s.nexts_long;
            inside = s.inside;
            slots = s.slots;
            once = ap length now ∙ law.1 ∙ ap length old ∙ s.once;
          })
          (now ∙ law.0 ∙ ap (put_row w v) old)

    -- ---- its word is new
    module _ (none : at ≤ 0) where
      new : Each (Other w) U
      new = each_by (Other w) no_row U (λ k h. later k (omega arith) (omega (arith, U_long)))

      grown : length (put_row w v (in_word_order U)) ≡ suc n
      unfolding in_word_order
      grown = (put_behind before floats.nought strict floats.plus U w v new).1 ∙ ap suc s.once

      pub put_no_place : room ≤ n → Puts room (put_row w v (in_word_order (candidate_rows n lanes sums))) lanes sums heads nexts None
      put_no_place h = puts_full room (put_row w v (in_word_order U)) lanes sums heads nexts (omega (arith, grown))

      pub put_new_row : n < room → (lanes' : List ℕ) (sums' : List Float) (heads' nexts' : List ℕ) → (words lanes' ≡ set (words lanes) n w) × (sums' ≡ set sums n (floats.plus floats.nought v))
          → ((us : List Word) → length us ≡ n → Slotted us heads (take n nexts) → Slotted (us ++ (w ∷ [])) heads' (take (n + 1) nexts'))
          → length lanes' ≡ length lanes → length heads' ≡ length heads → length nexts' ≡ length nexts
          → Puts room (put_row w v (in_word_order (candidate_rows n lanes sums))) lanes' sums' heads' nexts' (Some (n + 1))
      unfolding in_word_order
      put_new_row h lanes' sums' heads' nexts' laid linked el eh en =
          let y : Float = floats.plus floats.nought v in
          let fits : n < length (words lanes) = omega (arith, s.lanes_long, words_high lanes) in
          let rows_are : candidate_rows (n + 1) lanes' sums' ≡ U ++ (row w y ∷ []) =
          ap (candidate_rows (n + 1) lanes') laid.1 ∙ table_more n lanes lanes' sums w y (omega (arith, s.lanes_long)) (omega (arith, s.sums_long)) laid.0 in
          let law : in_word_order (candidate_rows (n + 1) lanes' sums') ≡ put_row w v (in_word_order U) = ap in_word_order rows_are ∙ (put_behind before floats.nought strict floats.plus U w v new).0 in
          let words_are : take (n + 1) (words lanes') ≡ take n (words lanes) ++ (w ∷ []) = rw (add-one n, laid.0) (take-suc-set (words lanes) n w fits) in
          puts_held room (n + 1) (put_row w v (in_word_order U)) lanes' sums' heads' nexts'
          (record {
            lanes_long = omega (arith, s.lanes_long, el);
            sums_long = omega (arith, s.sums_long, ap length laid.1, length-set sums n y);
            heads_long = omega (arith, s.heads_long, eh);
            nexts_long = omega (arith, s.nexts_long, en);
            inside = omega arith;
            slots = rw words_are (linked (take n (words lanes)) (length-take-le n (words lanes) (omega arith)) s.slots);
            once = ap length law ∙ grown ∙ omega arith;
          })
          law
