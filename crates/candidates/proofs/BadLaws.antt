-- SPDX-FileCopyrightText: 2026 The PPVM Authors
-- SPDX-License-Identifier: Apache-2.0

-- The lowest word beside a sum that is not finite, one row more at a time; and the place in word order of the first such sum. Assumes nothing.
use mathlib.Core.Path.{◌≡◌, refl, ap, sym, ◌∙◌}
use mathlib.Core.Bool.{Bool, true, false, cond, true≢false}
use mathlib.Core.List.{List, [], ◌∷◌}
use Prim.Native.Nat.{ℕ, suc, ◌+◌, ◌≤◌, ◌<◌}
use native.Mathlib.Omega.{arith}
use native.Mathlib.Decide.{ℕ_discrete}
use lib.Ieee.{Float, nan}
use lib.ListN.{length, get_or}
use Rattle.word.specs.Order.{before}
use Rattle.word.specs.Word.{identity}
use Rattle.word.specs.declared.word.Word.{Word}
use Rattle.number.specs.Floats.{floats, is_finite}
use Rattle.candidates.specs.Sums.{Row, row, Rising}
use Rattle.candidates.specs.Tables.{Rows, rows}
use Rattle.candidates.specs.Between.{those, in_word_order, BadPlace}
use Rattle.candidates.proofs.PutLaws.{strict, most_trans, asym}
use Rattle.candidates.proofs.RisingLaws.{order_rising}
use Rattle.candidates.proofs.RowLaws.{no_row, rows_at, rows_few, rows_long}
use Rattle.candidates.proofs.ThoseLaws.{those_count, rising_at, before_count}
use Rattle.candidates.proofs.WordOrderLaws.{Each, each_by, each_at, each_all, all_each}

-- ---- the loop
module _ (ws : List Word) (xs : List Float) where
  abbrev Bad : ℕ → Type 0
  Bad i = is_finite (get_or xs i nan) ≡ false

  -- of the first i
  pub record Lowest (q i : ℕ) : Type 0 where
    pub inside : q < length xs
    pub bad : is_finite (get_or xs q nan) ≡ false
    pub lowest : (k : ℕ) → k < i → is_finite (get_or xs k nan) ≡ false → before (get_or ws k identity) (get_or ws q identity) ≡ false

  module _ (q i : ℕ) (o : Lowest q i) where
    more : (v : ℕ) → ((k : ℕ) → k < i → Bad k → before (get_or ws k identity) (get_or ws v identity) ≡ false) → (Bad i → before (get_or ws i identity) (get_or ws v identity) ≡ false)
        → (k : ℕ) → k < i + 1 → Bad k → before (get_or ws k identity) (get_or ws v identity) ≡ false
    more v old new k l b = go (ℕ_discrete k i)
      where
        go : Dec (k ≡ i) → before (get_or ws k identity) (get_or ws v identity) ≡ false
        go (yes e) = ap (λ (j : ℕ). before (get_or ws j identity) (get_or ws v identity)) e ∙ new (rw (← e) b)
        go (no e) = old k (omega arith) b

    pub lowest_fine : is_finite (get_or xs i nan) ≡ true → Lowest q (i + 1)
    lowest_fine e = record { inside = o.inside; bad = o.bad; lowest = more q o.lowest (λ b. absurd (true≢false (sym e ∙ b))) }

    pub lowest_lower : i < length xs → is_finite (get_or xs i nan) ≡ false → (v w : Word) → v ≡ get_or ws i identity → w ≡ get_or ws q identity → before v w ≡ true → Lowest i (i + 1)
    lowest_lower h e v w is-v is-w b =
        let c : before (get_or ws q identity) (get_or ws i identity) ≡ false = rw (← is-v, ← is-w) (asym before strict v w b) in
        record { inside = h; bad = e; lowest = more i (λ k l z. most_trans before strict (get_or ws i identity) (get_or ws q identity) (get_or ws k identity) c (o.lowest k l z)) (λ z. strict.never (get_or ws i identity)) }

    pub lowest_stays : (v w : Word) → v ≡ get_or ws i identity → w ≡ get_or ws q identity → before v w ≡ false → Lowest q (i + 1)
    lowest_stays v w is-v is-w b = record { inside = o.inside; bad = o.bad; lowest = more q o.lowest (λ z. rw (← is-v, ← is-w) b) }

-- ---- in word order
none_more : (p : Row Word Float → Bool) (k : ℕ) → k + length (those p []) ≡ k
unfolding those
none_more p k = omega arith

-- those of rows by their words are those of the words
rows_those : (p : Word → Bool) (ws : List Word) (xs : List Float) → length ws ≤ length xs → length (those (λ (r : Row Word Float). p r.word) (rows ws xs)) ≡ length (those p ws)
unfolding rows those
rows_those p [] xs h = refl
rows_those p (w ∷ ws) [] h = absurd (omega arith)
rows_those p (w ∷ ws) (x ∷ xs) h = go (p w) (rows_those p ws xs (omega arith))
  where
    go : (b : Bool) → length (those (λ (r : Row Word Float). p r.word) (rows ws xs)) ≡ length (those p ws)
        → length (cond b (row w x ∷ those (λ (r : Row Word Float). p r.word) (rows ws xs)) (those (λ (r : Row Word Float). p r.word) (rows ws xs))) ≡ length (cond b (w ∷ those p ws) (those p ws))
    go true i = ap suc i
    go false i = i

-- the place r of a table: its sum is not finite, and all before it are
pub record FirstBad (T : Rows) (r : ℕ) : Type 0 where
  pub inside : r < length T
  pub bad : is_finite (get_or T r no_row).sum ≡ false
  pub fine : (k : ℕ) → k < r → is_finite (get_or T k no_row).sum ≡ true

module _ (ws : List Word) (xs : List Float) (long : length ws ≡ length xs) (once : length (in_word_order (rows ws xs)) ≡ length xs) (r : ℕ) (b : BadPlace (length xs) ws xs r) where
  abbrev U : Rows
  U = rows ws xs

  abbrev T : Rows
  T = in_word_order U

  abbrev Bads : Row Word Float → Type 0
  Bads t = is_finite t.sum ≡ false

  -- no row that is not finite has a lower word
  abbrev Low : Word → Row Word Float → Type 0
  Low w t = is_finite t.sum ≡ false → before t.word w ≡ false

  U_long : length U ≡ length xs
  U_long = omega (arith, long, rows_few ws xs, rows_long ws xs (length xs) (omega (arith, long)) (omega arith))

  U_at : (k : ℕ) → k < length xs → get_or U k no_row ≡ row (get_or ws k identity) (get_or xs k nan)
  U_at k h = rows_at ws xs k (omega (arith, long)) h

  T_rises : Rising before T
  T_rises = order_rising U

  none_lost : length T ≡ length U + 0
  none_lost = omega (arith, once, U_long)

  -- what is said of each row of the order, of a row that is not finite, whose word is the lowest
  abbrev Said : Row Word Float → Type 0
  Said t = is_finite t.sum ≡ false → Each (Low t.word) T → FirstBad T (length (those (λ (u : Row Word Float). before u.word t.word) T))

  said_at : (k : ℕ) → k < length T → Said (get_or T k no_row)
  said_at k h e low =
      rw (before_count before strict no_row T k T_rises h)
      (record { inside = h; bad = e; fine = λ i l. go i l (is_finite (get_or T i no_row).sum) refl })
    where
      go : (i : ℕ) → i < k → (c : Bool) → is_finite (get_or T i no_row).sum ≡ c → is_finite (get_or T i no_row).sum ≡ true
      go i l true f = f
      go i l false f = absurd (true≢false (sym (rising_at before strict no_row T i k T_rises l h) ∙ each_at (Low (get_or T k no_row).word) no_row T i low (omega arith) f))

  said : Each Said U
  unfolding in_word_order
  said = (all_each before floats.nought strict Said U [] none_lost (each_by Said no_row T said_at)).0

  pub first_bad : FirstBad (in_word_order (rows ws xs)) r
  unfolding in_word_order Each
  first_bad =
      let q : ℕ = b.at in
      let w : Word = get_or ws q identity in
      let here : get_or U q no_row ≡ row w (get_or xs q nan) = U_at q b.lowest.inside in
      let lows : Each (Low w) U = each_by (Low w) no_row U (λ k h. rw (U_at k (omega (arith, h, U_long))) (b.lowest.lowest k (omega (arith, h, U_long)))) in
      let low : Each (Low w) T = each_all before floats.nought strict (Low w) U [] lows tt in
      let tells : Said (row w (get_or xs q nan)) = rw here at (each_at Said no_row U q said (omega (arith, U_long, b.lowest.inside))) in
      let f : FirstBad T (length (those (λ (u : Row Word Float). before u.word w) T)) = tells b.lowest.bad low in
      let n : length (those (λ (u : Row Word Float). before u.word w) T) ≡ r =
      those_count before floats.nought strict (λ (u : Row Word Float). before u.word w) U [] none_lost
      ∙ none_more (λ (u : Row Word Float). before u.word w) (length (those (λ (u : Row Word Float). before u.word w) U))
      ∙ rows_those (λ (v : Word). before v w) ws xs (omega (arith, long))
      ∙ sym b.count in
      rw n at f
