-- SPDX-FileCopyrightText: 2026 The PPVM Authors
-- SPDX-License-Identifier: Apache-2.0

-- Rows of two lists side by side. Assumes nothing.
use mathlib.Core.Path.{◌≡◌, refl, ap, ◌∙◌}
use mathlib.Core.List.{List, [], ◌∷◌, ◌++◌}
use Prim.Native.Nat.{ℕ, zero, suc, ◌+◌, ◌*◌, ◌≤◌, ◌<◌}
use native.Mathlib.Numerals.{add-one}
use native.Mathlib.Omega.{arith}
use lib.Ieee.{Float, nan}
use lib.ListN.{length, get_or, set, take}
use lib.Seq.{get_or-take, length-take-le, take-suc-set}
use Rattle.word.specs.declared.word.Word.{Word}
use Rattle.word.specs.Flat.{word_lanes, words}
use Rattle.word.specs.Word.{identity}
use Rattle.word.proofs.FlatLaws.{words_high, words_take}
use Rattle.candidates.specs.Sums.{Row, row}
use Rattle.candidates.specs.Tables.{Rows, rows, candidate_rows}

abbrev pub no_row : Row Word Float
no_row = row identity nan

-- ---- rows
pub rows_set : (a : List Word) (b : List Float) (k : ℕ) (w : Word) (x : Float) → rows (set a k w) (set b k x) ≡ set (rows a b) k (row w x)
unfolding rows
rows_set [] b k w x = refl
rows_set (v ∷ a) [] k w x = go k
  where
    go : (k : ℕ) → rows (set (v ∷ a) k w) [] ≡ []
    go zero = refl
    go (suc k) = refl
rows_set (v ∷ a) (y ∷ b) zero w x = refl
rows_set (v ∷ a) (y ∷ b) (suc k) w x = ap (λ (t : Rows). row v y ∷ t) (rows_set a b k w x)

pub rows_sum : (a : List Word) (b : List Float) (k : ℕ) (x : Float) → rows a (set b k x) ≡ set (rows a b) k (row (get_or (rows a b) k no_row).word x)
unfolding rows
rows_sum [] b k x = refl
rows_sum (v ∷ a) [] k x = refl
rows_sum (v ∷ a) (y ∷ b) zero x = refl
rows_sum (v ∷ a) (y ∷ b) (suc k) x = ap (λ (t : Rows). row v y ∷ t) (rows_sum a b k x)

pub rows_at : (a : List Word) (b : List Float) (k : ℕ) → k < length a → k < length b → get_or (rows a b) k no_row ≡ row (get_or a k identity) (get_or b k nan)
unfolding rows
rows_at [] b k h l = absurd (omega arith)
rows_at (v ∷ a) [] k h l = absurd (omega arith)
rows_at (v ∷ a) (y ∷ b) zero h l = refl
rows_at (v ∷ a) (y ∷ b) (suc k) h l = rows_at a b k (omega arith) (omega arith)

pub rows_long : (a : List Word) (b : List Float) (n : ℕ) → n ≤ length a → n ≤ length b → n ≤ length (rows a b)
unfolding rows
rows_long a b zero h l = omega arith
rows_long [] b (suc n) h l = absurd (omega arith)
rows_long (v ∷ a) [] (suc n) h l = absurd (omega arith)
rows_long (v ∷ a) (y ∷ b) (suc n) h l = omega (arith, rows_long a b n (omega arith) (omega arith))

pub rows_few : (a : List Word) (b : List Float) → length (rows a b) ≤ length a
unfolding rows
rows_few [] b = omega arith
rows_few (v ∷ a) [] = omega arith
rows_few (v ∷ a) (y ∷ b) = omega (arith, rows_few a b)

pub table_long : (n : ℕ) (t : List ℕ) (s : List Float) → word_lanes * n ≤ length t → n ≤ length s → length (candidate_rows n t s) ≡ n
table_long n t s h l = length-take-le n (rows (words t) s) (rows_long (words t) s n (omega (arith, words_high t)) l)

pub table_at : (n : ℕ) (t : List ℕ) (s : List Float) (i : ℕ) → word_lanes * n ≤ length t → n ≤ length s → i < n → get_or (candidate_rows n t s) i no_row ≡ row (get_or (words t) i identity) (get_or s i nan)
table_at n t s i h l k = get_or-take n (rows (words t) s) i no_row k ∙ rows_at (words t) s i (omega (arith, words_high t)) (omega arith)

-- the first rows of lent lists are the rows of their first lanes
rows_take : (k : ℕ) (a : List Word) (b : List Float) → rows (take k a) b ≡ take k (rows a b)
unfolding rows
rows_take zero a b = refl
rows_take (suc k) [] b = refl
rows_take (suc k) (w ∷ a) [] = refl
rows_take (suc k) (w ∷ a) (x ∷ b) = ap (λ (t : Rows). row w x ∷ t) (rows_take k a b)

pub first_entries : (count : ℕ) (lanes : List ℕ) (sums : List Float) → rows (words (take (count * word_lanes) lanes)) sums ≡ candidate_rows count lanes sums
first_entries count lanes sums =
    let e : count * word_lanes ≡ word_lanes * count = omega arith in
    rw (e, words_take count lanes) (rows_take count (words lanes) sums)

-- one row more
pub table_more : (k : ℕ) (lanes lanes' : List ℕ) (sums : List Float) (w : Word) (x : Float) → word_lanes * k + word_lanes ≤ length lanes → k < length sums → words lanes' ≡ set (words lanes) k w
    → candidate_rows (k + 1) lanes' (set sums k x) ≡ candidate_rows k lanes sums ++ (row w x ∷ [])
table_more k lanes lanes' sums w x h l e =
    let R : Rows = rows (words lanes) sums in
    let n : suc k ≤ length R = rows_long (words lanes) sums (suc k) (omega (arith, words_high lanes)) (omega arith) in
    rw (add-one k, e, rows_set (words lanes) sums k w x) (take-suc-set R k (row w x) (omega (arith, n)))
