-- SPDX-FileCopyrightText: 2026 The PPVM Authors
-- SPDX-License-Identifier: Apache-2.0

-- Flags as numbers of tests; and how many flags are not 0: once one is raised, where all or none are, and where each is made 0 or 1. Assumes nothing.
use mathlib.Core.Path.{◌≡◌, refl, ap}
use mathlib.Core.Bool.{Bool, true, false, not, cond}
use mathlib.Core.List.{List, [], ◌∷◌, map}
use Prim.Native.Nat.{ℕ, zero, suc, ◌≤◌, ◌<◌}
use native.Mathlib.Omega.{arith}
use lib.Dec.{eqb}
use mir.Val.{bool_byte}
use lib.ListN.{length, get_or, set, replicate}
use borrow.Author.Tests.{ne_eqb}
use Rattle.keep.specs.Retained.{flagged}
use Rattle.keep.specs.Chosen.{flag_of}

-- the flag at p is not 0
abbrev pub Kept : List ℕ → ℕ → Type 0
Kept flags p = get_or flags p 0 ≡ 0 → ⊥

-- the number of a test
pub test_number : (b : Bool) → bool_byte b ≡ cond b 1 0
test_number true = refl
test_number false = refl

pub not_number : (b : Bool) → bool_byte (not b) ≡ cond b 0 1
not_number true = refl
not_number false = refl

pub flag_small : (k : ℕ) → flag_of k ≤ 1
flag_small k = go (eqb k 0)
  where
    go : (b : Bool) → cond b 0 1 ≤ 1
    go true = omega arith
    go false = omega arith

pub flagged_set : (l : List ℕ) (q : ℕ) → q < length l → get_or l q 0 ≡ 0 → flagged (set l q 1) ≡ suc (flagged l)
unfolding flagged
flagged_set [] q h e = absurd (omega arith)
flagged_set (x ∷ l) zero h e = rw e
flagged_set (x ∷ l) (suc q) h e = go (eqb x 0) (flagged (set l q 1)) (flagged l) (flagged_set l q (omega arith) e)
  where
    go : (b : Bool) (m n : ℕ) → m ≡ suc n → cond b m (suc m) ≡ suc (cond b n (suc n))
    go true m n e = e
    go false m n e = ap suc e

pub flagged_few : (l : List ℕ) → flagged l ≤ length l
unfolding flagged
flagged_few [] = omega arith
flagged_few (x ∷ l) = go (eqb x 0) (flagged_few l)
  where
    go : (b : Bool) → flagged l ≤ length l → cond b (flagged l) (suc (flagged l)) ≤ suc (length l)
    go true h = omega arith
    go false h = omega arith

pub flagged_all : (l : List ℕ) → ((p : ℕ) → p < length l → Kept l p) → flagged l ≡ length l
unfolding flagged
flagged_all [] h = refl
flagged_all (x ∷ l) h =
    let e : eqb x 0 ≡ false = ne_eqb x 0 (h 0 (omega arith)) in
    rw e (ap suc (flagged_all l (λ p i. h (suc p) (omega arith))))

pub flagged_same : (l : List ℕ) → flagged (map flag_of l) ≡ flagged l
unfolding flagged
flagged_same [] = refl
flagged_same (x ∷ l) = go (eqb x 0) (flagged (map flag_of l)) (flagged l) (flagged_same l)
  where
    go : (b : Bool) (m n : ℕ) → m ≡ n → cond (eqb (cond b 0 1) 0) m (suc m) ≡ cond b n (suc n)
    go true m n e = e
    go false m n e = ap suc e

pub flagged_none : (n : ℕ) → flagged (replicate n 0) ≡ 0
unfolding flagged
flagged_none zero = refl
flagged_none (suc n) = flagged_none n
