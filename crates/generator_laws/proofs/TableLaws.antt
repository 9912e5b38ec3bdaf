-- SPDX-FileCopyrightText: 2026 The PPVM Authors
-- SPDX-License-Identifier: Apache-2.0

-- Entries laid into tables are read back. Assumes nothing.
use mathlib.Core.Path.{◌≡◌, refl, sym, ap, ◌∙◌}
use mathlib.Core.List.{List, [], ◌∷◌, map}
use Prim.Native.Nat.{ℕ, zero, suc, ◌≤◌, ◌<◌}
use native.Mathlib.Omega.{arith}
use lib.Ieee.{Float, nan}
use lib.ListN.{length, take, set, length-set, length-map}
use lib.Seq.{ext_get_or, get_or-take, length-take-le}
use Rattle.lent.specs.Laid.{laid}
use Rattle.lent.proofs.LaidLaws.{laid_length, set_here}
use Rattle.columns.specs.Entries.{Entry, entry, entries, staged}

-- the first places hold what was laid
pub laid_first : {A : Type 0} (d : A) (xs l : List A) → length xs ≤ length l → take (length xs) (laid set 0 xs l) ≡ xs
laid_first d xs l h =
    let n : length (take (length xs) (laid set 0 xs l)) ≡ length xs = length-take-le (length xs) (laid set 0 xs l) (omega (arith, laid_length set length-set 0 xs l)) in
    ext_get_or d (take (length xs) (laid set 0 xs l)) xs n
    (λ i k. let q : i < length xs = omega (arith, n, k) in get_or-take (length xs) (laid set 0 xs l) i d q ∙ set_here d 0 xs l (omega arith) i i (omega arith) q)

-- and so many of them as there were
pub laid_many : {A : Type 0} (d : A) (xs l : List A) (n : ℕ) → length xs ≡ n → n ≤ length l → take n (laid set 0 xs l) ≡ xs
laid_many d xs l n e h = ap (λ (k : ℕ). take k (laid set 0 xs l)) (sym e) ∙ laid_first d xs l (omega arith)

staged_take : (n : ℕ) (rs cs : List ℕ) (vs : List Float) → staged n rs cs vs ≡ entries (take n rs) (take n cs) (take n vs)
unfolding entries
staged_take zero rs cs vs = refl
staged_take (suc n) [] cs vs = refl
staged_take (suc n) (r ∷ rs) [] vs = refl
staged_take (suc n) (r ∷ rs) (c ∷ cs) [] = refl
staged_take (suc n) (r ∷ rs) (c ∷ cs) (v ∷ vs) = ap (λ (E : List Entry). entry r c v ∷ E) (staged_take n rs cs vs)

entries_of : (E : List Entry) → entries (map (λ (e : Entry). e.row) E) (map (λ (e : Entry). e.column) E) (map (λ (e : Entry). e.value) E) ≡ E
unfolding entries
entries_of [] = refl
entries_of (e ∷ E) = ap (λ (F : List Entry). e ∷ F) (entries_of E)

pub staged_laid : (E : List Entry) (rows columns : List ℕ) (values : List Float) → length E ≤ length rows → length E ≤ length columns → length E ≤ length values
    → staged (length E) (laid set 0 (map (λ (e : Entry). e.row) E) rows) (laid set 0 (map (λ (e : Entry). e.column) E) columns) (laid set 0 (map (λ (e : Entry). e.value) E) values) ≡ E
staged_laid E rows columns values hr hc hv =
    staged_take (length E) _ _ _
    ∙ rw (take_as (λ (e : Entry). e.row) 0 rows hr, take_as (λ (e : Entry). e.column) 0 columns hc, take_as (λ (e : Entry). e.value) nan values hv) (entries_of E)
  where
    take_as : {A : Type 0} (f : Entry → A) (d : A) (l : List A) → length E ≤ length l → take (length E) (laid set 0 (map f E) l) ≡ map f E
    take_as f d l h = laid_many d (map f E) l (length E) (length-map E f) h
