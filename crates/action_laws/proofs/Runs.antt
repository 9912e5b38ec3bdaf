-- SPDX-FileCopyrightText: 2026 The PPVM Authors
-- SPDX-License-Identifier: Apache-2.0

-- A property of each element of a list, taken to a part of it; and of each of some numbers in a row. Assumes nothing.
use mathlib.Core.List.{List, [], ◌∷◌}
use Prim.Native.Nat.{ℕ, zero, suc, ◌+◌, ◌≤◌, ◌<◌}
use native.Mathlib.Omega.{arith}
use lib.ListN.{take, drop}
use Rattle.lent.specs.Every.{Every}
use Rattle.word.specs.Count.{up_to}

pub every_up : (P : ℕ → Type 0) (k n : ℕ) → ((i : ℕ) → k ≤ i → i < k + n → P i) → Every P (up_to k n)
unfolding up_to
every_up P k zero h = tt
every_up P k (suc n) h = (h k (omega arith) (omega arith), every_up P (suc k) n (λ i l u. h i (omega arith) (omega arith)))

module _ {A : Type 0} (P : A → Type 0) where
  every_take : (n m : ℕ) (l : List A) → n ≤ m → Every P (take m l) → Every P (take n l)
  every_take zero m l h e = tt
  every_take (suc n) m [] h e = tt
  every_take (suc n) zero (a ∷ l) h e = absurd (omega arith)
  every_take (suc n) (suc m) (a ∷ l) h e = (e.0, every_take n m l (omega arith) e.1)

  pub every_first : (n : ℕ) (l : List A) → Every P l → Every P (take n l)
  every_first zero l e = tt
  every_first (suc n) [] e = tt
  every_first (suc n) (a ∷ l) e = (e.0, every_first n l e.1)

  pub every_within : (s n m : ℕ) (l : List A) → s + n ≤ m → Every P (take m l) → Every P (take n (drop s l))
  every_within zero n m l h e = every_take n m l (omega arith) e
  every_within (suc s) n m [] h e = every_first n [] tt
  every_within (suc s) n zero (a ∷ l) h e = absurd (omega arith)
  every_within (suc s) n (suc m) (a ∷ l) h e = every_within s n m l (omega arith) e.1

  pub every_rest : (n : ℕ) (l : List A) → Every P l → Every P (drop n l)
  every_rest zero l e = e
  every_rest (suc n) [] e = tt
  every_rest (suc n) (a ∷ l) e = every_rest n l e.1
