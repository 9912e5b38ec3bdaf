-- SPDX-FileCopyrightText: 2026 The PPVM Authors
-- SPDX-License-Identifier: Apache-2.0

-- Laws of the numbers that a test keeps, in order. Assumes nothing.
use mathlib.Core.Path.{◌≡◌, refl, sym, ap, ◌∙◌}
use mathlib.Core.Bool.{Bool, true, false, cond}
use mathlib.Core.List.{List, [], ◌∷◌, ◌++◌, append-nil}
use Prim.Native.Nat.{ℕ, zero, suc, ◌+◌, ◌<◌, ◌≤◌}
use native.Mathlib.Omega.{arith}
use lib.Dec.{eqb}
use Rattle.index.specs.Visit.{up_from, keep, AllBelow}

pub keep_cong : (s t : ℕ → ℕ) (d j : ℕ) → ((i : ℕ) → j ≤ i → i < j + d → s i ≡ t i) → keep s (up_from d j) ≡ keep t (up_from d j)
unfolding keep up_from
keep_cong s t zero j h = refl
keep_cong s t (suc d) j h = rw (h j (omega arith) (omega arith), keep_cong s t d (suc j) (λ i k l. h i (omega arith) (omega arith)))

pub keep_none : (t : ℕ → ℕ) (d j : ℕ) → ((i : ℕ) → j ≤ i → i < j + d → t i ≡ 0) → keep t (up_from d j) ≡ []
unfolding keep up_from
keep_none t zero j h = refl
keep_none t (suc d) j h = rw (h j (omega arith) (omega arith)) (keep_none t d (suc j) (λ i k l. h i (omega arith) (omega arith)))

-- d numbers and then e
pub keep_cat : (t : ℕ → ℕ) (d e j : ℕ) → keep t (up_from (d + e) j) ≡ keep t (up_from d j) ++ keep t (up_from e (j + d))
unfolding keep up_from
keep_cat t zero e j = let a : 0 + e ≡ e = omega arith in let b : j + 0 ≡ j = omega arith in rw (a, b)
keep_cat t (suc d) e j =
    let a : suc d + e ≡ suc (d + e) = omega arith in
    let b : j + suc d ≡ suc j + d = omega arith in
    rw (a, b, keep_cat t d e (suc j)) (go (eqb (t j) 1) (keep t (up_from d (suc j))) (keep t (up_from e (suc j + d))))
  where
    go : (b : Bool) (x y : List ℕ) → cond b (j ∷ (x ++ y)) (x ++ y) ≡ cond b (j ∷ x) x ++ y
    go true x y = refl
    go false x y = refl

-- a number at which t is 1 is kept
pub hit : (t : ℕ → ℕ) (d j : ℕ) → t j ≡ 1 → keep t (up_from (suc d) j) ≡ j ∷ keep t (up_from d (suc j))
unfolding keep up_from
hit t d j h = rw h

-- numbers at which t is 0 are not kept
pub skip : (t : ℕ → ℕ) (e d j : ℕ) → ((i : ℕ) → i < e → t (j + i) ≡ 0) → keep t (up_from (e + d) j) ≡ keep t (up_from d (j + e))
unfolding keep up_from
skip t zero d j h = let a : 0 + d ≡ d = omega arith in let b : j + 0 ≡ j = omega arith in rw (a, b)
skip t (suc e) d j h =
    let a : suc e + d ≡ suc (e + d) = omega arith in
    let b : j + suc e ≡ suc j + e = omega arith in
    let z : t j ≡ 0 = ap t (sym (add0 j)) ∙ h 0 (omega arith) in
    rw (a, b, z) (skip t e d (suc j) (λ i l. ap t (sucs j i) ∙ h (suc i) (omega arith)))
  where
    add0 : (j : ℕ) → j + 0 ≡ j
    add0 j = omega arith

    sucs : (j i : ℕ) → suc j + i ≡ j + suc i
    sucs j i = omega arith

-- numbers past which t is 0 may be added
pub keep_short : (t : ℕ → ℕ) (e d j : ℕ) → ((i : ℕ) → j + d ≤ i → i < j + d + e → t i ≡ 0) → keep t (up_from (d + e) j) ≡ keep t (up_from d j)
keep_short t e d j h = keep_cat t d e j ∙ ap (λ (l : List ℕ). keep t (up_from d j) ++ l) (keep_none t e (j + d) h) ∙ append-nil (keep t (up_from d j))

pub keep_below : (t : ℕ → ℕ) (n d j : ℕ) → j + d ≤ n → AllBelow n (keep t (up_from d j))
unfolding AllBelow keep up_from
keep_below t n zero j h = tt
keep_below t n (suc d) j h = go (eqb (t j) 1) (keep t (up_from d (suc j))) (keep_below t n d (suc j) (omega arith))
  where
    go : (b : Bool) (l : List ℕ) → AllBelow n l → AllBelow n (cond b (j ∷ l) l)
    go true l a = (omega arith, a)
    go false l a = a
