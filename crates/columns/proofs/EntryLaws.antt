-- SPDX-FileCopyrightText: 2026 The PPVM Authors
-- SPDX-License-Identifier: Apache-2.0

-- Entries that three tables hold side by side: one more laid, and what each table holds of them. Assumes nothing.
use mathlib.Core.Path.{◌≡◌, refl, ap}
use mathlib.Core.List.{List, [], ◌∷◌, ◌++◌, map}
use Prim.Native.Nat.{ℕ, zero, suc, ◌+◌, ◌≤◌, ◌<◌}
use native.Mathlib.Numerals.{add-one}
use native.Mathlib.Omega.{arith}
use lib.Ieee.{Float, nan}
use lib.ListN.{length, get_or, take, set}
use lib.Seq.{take-suc-set, length-take-le}
use Rattle.columns.specs.Entries.{Entry, entry, entries, staged}

entries_set : (rs cs : List ℕ) (vs : List Float) (k r c : ℕ) (v : Float) → entries (set rs k r) (set cs k c) (set vs k v) ≡ set (entries rs cs vs) k (entry r c v)
unfolding entries
entries_set [] cs vs k r c v = refl
entries_set (x ∷ rs) [] vs zero r c v = refl
entries_set (x ∷ rs) [] vs (suc k) r c v = refl
entries_set (x ∷ rs) (y ∷ cs) [] zero r c v = refl
entries_set (x ∷ rs) (y ∷ cs) [] (suc k) r c v = refl
entries_set (x ∷ rs) (y ∷ cs) (z ∷ vs) zero r c v = refl
entries_set (x ∷ rs) (y ∷ cs) (z ∷ vs) (suc k) r c v = ap (λ (E : List Entry). entry x y z ∷ E) (entries_set rs cs vs k r c v)

entries_long : (n : ℕ) (rs cs : List ℕ) (vs : List Float) → n ≤ length rs → n ≤ length cs → n ≤ length vs → n ≤ length (entries rs cs vs)
unfolding entries
entries_long zero rs cs vs a b d = omega arith
entries_long (suc n) [] cs vs a b d = absurd (omega arith)
entries_long (suc n) (x ∷ rs) [] vs a b d = absurd (omega arith)
entries_long (suc n) (x ∷ rs) (y ∷ cs) [] a b d = absurd (omega arith)
entries_long (suc n) (x ∷ rs) (y ∷ cs) (z ∷ vs) a b d = let h = entries_long n rs cs vs (omega arith) (omega arith) (omega arith) in omega (arith, h)

pub staged_long : (n : ℕ) (rs cs : List ℕ) (vs : List Float) → n ≤ length rs → n ≤ length cs → n ≤ length vs → length (staged n rs cs vs) ≡ n
staged_long n rs cs vs a b d = length-take-le n (entries rs cs vs) (entries_long n rs cs vs a b d)

-- one entry more
pub staged_more : (k : ℕ) (rs cs : List ℕ) (vs : List Float) (r c : ℕ) (v : Float) → k < length rs → k < length cs → k < length vs
    → staged (k + 1) (set rs k r) (set cs k c) (set vs k v) ≡ staged k rs cs vs ++ (entry r c v ∷ [])
staged_more k rs cs vs r c v a b d =
    rw (add-one k, entries_set rs cs vs k r c v) (take-suc-set (entries rs cs vs) k (entry r c v) (entries_long (suc k) rs cs vs a b d))

-- ---- what each table holds
pub staged_rows : (n : ℕ) (rs cs : List ℕ) (vs : List Float) → n ≤ length rs → n ≤ length cs → n ≤ length vs → map (λ (e : Entry). e.row) (staged n rs cs vs) ≡ take n rs
unfolding entries
staged_rows zero rs cs vs a b d = refl
staged_rows (suc n) [] cs vs a b d = refl
staged_rows (suc n) (x ∷ rs) [] vs a b d = absurd (omega arith)
staged_rows (suc n) (x ∷ rs) (y ∷ cs) [] a b d = absurd (omega arith)
staged_rows (suc n) (x ∷ rs) (y ∷ cs) (z ∷ vs) a b d = ap (λ (l : List ℕ). x ∷ l) (staged_rows n rs cs vs (omega arith) (omega arith) (omega arith))

pub staged_columns : (n : ℕ) (rs cs : List ℕ) (vs : List Float) → n ≤ length rs → n ≤ length cs → n ≤ length vs → map (λ (e : Entry). e.column) (staged n rs cs vs) ≡ take n cs
unfolding entries
staged_columns zero rs cs vs a b d = refl
staged_columns (suc n) [] cs vs a b d = absurd (omega arith)
staged_columns (suc n) (x ∷ rs) [] vs a b d = refl
staged_columns (suc n) (x ∷ rs) (y ∷ cs) [] a b d = absurd (omega arith)
staged_columns (suc n) (x ∷ rs) (y ∷ cs) (z ∷ vs) a b d = ap (λ (l : List ℕ). y ∷ l) (staged_columns n rs cs vs (omega arith) (omega arith) (omega arith))

pub staged_values : (n : ℕ) (rs cs : List ℕ) (vs : List Float) → n ≤ length rs → n ≤ length cs → n ≤ length vs → map (λ (e : Entry). e.value) (staged n rs cs vs) ≡ take n vs
unfolding entries
staged_values zero rs cs vs a b d = refl
staged_values (suc n) [] cs vs a b d = absurd (omega arith)
staged_values (suc n) (x ∷ rs) [] vs a b d = absurd (omega arith)
staged_values (suc n) (x ∷ rs) (y ∷ cs) [] a b d = refl
staged_values (suc n) (x ∷ rs) (y ∷ cs) (z ∷ vs) a b d = ap (λ (l : List Float). z ∷ l) (staged_values n rs cs vs (omega arith) (omega arith) (omega arith))

pub staged_at : (n : ℕ) (rs cs : List ℕ) (vs : List Float) (k : ℕ) (d : Entry) → k < n → n ≤ length rs → n ≤ length cs → n ≤ length vs → get_or (staged n rs cs vs) k d ≡ entry (get_or rs k 0) (get_or cs k 0) (get_or vs k nan)
unfolding entries
staged_at zero rs cs vs k d h a b e = absurd (omega arith)
staged_at (suc n) [] cs vs k d h a b e = absurd (omega arith)
staged_at (suc n) (x ∷ rs) [] vs k d h a b e = absurd (omega arith)
staged_at (suc n) (x ∷ rs) (y ∷ cs) [] k d h a b e = absurd (omega arith)
staged_at (suc n) (x ∷ rs) (y ∷ cs) (z ∷ vs) zero d h a b e = refl
staged_at (suc n) (x ∷ rs) (y ∷ cs) (z ∷ vs) (suc k) d h a b e = staged_at n rs cs vs k d (omega arith) (omega arith) (omega arith) (omega arith)
