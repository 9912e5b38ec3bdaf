-- SPDX-FileCopyrightText: 2026 The PPVM Authors
-- SPDX-License-Identifier: Apache-2.0

-- Tables of candidates in lent lists: their sums, and a table in the first places of longer lists. Assumes nothing.
use mathlib.Core.Path.{◌≡◌, refl, ap, sym, ◌∙◌}
use mathlib.Core.List.{List, [], ◌∷◌, ◌++◌}
use Prim.Native.Nat.{ℕ, zero, suc, ◌*◌, ◌≤◌}
use native.Mathlib.Omega.{arith}
use lib.Ieee.{Float}
use lib.ListN.{length, take, drop}
use lib.Seq.{take-take, take_at}
use Rattle.word.specs.Flat.{words, word_lanes}
use Rattle.word.specs.declared.word.Word.{Word}
use Rattle.word.proofs.FlatLaws.{words_high}
use Rattle.candidates.specs.Sums.{row}
use Rattle.candidates.specs.Tables.{Rows, rows, candidate_rows}
use Rattle.candidates.proofs.RowLaws.{first_entries}
use Rattle.passes.specs.Leaks.{sums_of}

-- ---- sums
rows_sums : (n : ℕ) (ws : List Word) (xs : List Float) → n ≤ length ws → n ≤ length xs → sums_of (take n (rows ws xs)) ≡ take n xs
unfolding rows
rows_sums zero ws xs h l = refl
rows_sums (suc n) [] xs h l = absurd (omega arith)
rows_sums (suc n) (w ∷ ws) [] h l = absurd (omega arith)
rows_sums (suc n) (w ∷ ws) (x ∷ xs) h l = ap (λ (t : List Float). x ∷ t) (rows_sums n ws xs (omega arith) (omega arith))

pub table_sums : (n : ℕ) (lanes : List ℕ) (sums : List Float) → word_lanes * n ≤ length lanes → n ≤ length sums → sums_of (candidate_rows n lanes sums) ≡ take n sums
table_sums n lanes sums h l = rows_sums n (words lanes) sums (omega (arith, words_high lanes)) l

-- ---- in the first places of longer lists
rows_first : (n : ℕ) (ws : List Word) (xs : List Float) → rows ws (take n xs) ≡ take n (rows ws xs)
unfolding rows
rows_first zero [] xs = refl
rows_first zero (w ∷ ws) xs = refl
rows_first (suc n) [] xs = refl
rows_first (suc n) (w ∷ ws) [] = refl
rows_first (suc n) (w ∷ ws) (x ∷ xs) = ap (λ (t : Rows). row w x ∷ t) (rows_first n ws xs)

pub table_first : (r n : ℕ) (lanes : List ℕ) (sums : List Float) → r ≤ n → candidate_rows r (take (n * word_lanes) lanes) (take n sums) ≡ candidate_rows r lanes sums
table_first r n lanes sums h =
    let ws : List Word = words (take (n * word_lanes) lanes) in
    ap (take r) (rows_first n ws sums)
    ∙ take-take r n (rows ws sums) h
    ∙ ap (take r) (first_entries n lanes sums)
    ∙ take-take r n (rows (words lanes) sums) h

-- what a call leaves in them
pub table_left : (r n : ℕ) (lanes lanes' : List ℕ) (sums sums' : List Float) → r ≤ n → length lanes' ≡ n * word_lanes → length sums' ≡ n
    → candidate_rows r (lanes' ++ drop (n * word_lanes) lanes) (sums' ++ drop n sums) ≡ candidate_rows r lanes' sums'
table_left r n lanes lanes' sums sums' h el es =
    let a : take (n * word_lanes) (lanes' ++ drop (n * word_lanes) lanes) ≡ lanes' = take_at lanes' (drop (n * word_lanes) lanes) (n * word_lanes) el in
    let b : take n (sums' ++ drop n sums) ≡ sums' = take_at sums' (drop n sums) n es in
    sym (table_first r n (lanes' ++ drop (n * word_lanes) lanes) (sums' ++ drop n sums) h) ∙ rw (a, b)
