-- SPDX-FileCopyrightText: 2026 The PPVM Authors
-- SPDX-License-Identifier: Apache-2.0

-- A property of each element of a list: at a place, of a list made from another, and of two lists. Assumes nothing.
use mathlib.Core.List.{List, [], ◌∷◌, ◌++◌, map}
use Prim.Native.Nat.{ℕ, zero, suc, ◌<◌}
use native.Mathlib.Omega.{arith}
use lib.ListN.{length, get_or}
use Rattle.lent.specs.Every.{Every}

module _ {A : Type 0} where
  pub every_at : (P : A → Type 0) (l : List A) (i : ℕ) (d : A) → Every P l → i < length l → P (get_or l i d)
  every_at P [] i d h k = absurd (omega arith)
  every_at P (a ∷ l) zero d h k = h.0
  every_at P (a ∷ l) (suc i) d h k = every_at P l i d h.1 (omega arith)

  pub every_of : (P : A → Type 0) (l : List A) (d : A) → ((i : ℕ) → i < length l → P (get_or l i d)) → Every P l
  every_of P [] d h = tt
  every_of P (a ∷ l) d h = (h 0 (omega arith), every_of P l d (λ i k. h (suc i) (omega arith)))

  pub every_all : (P : A → Type 0) → ((a : A) → P a) → (l : List A) → Every P l
  every_all P h [] = tt
  every_all P h (a ∷ l) = (h a, every_all P h l)

  pub every_weaken : (P Q : A → Type 0) → ((a : A) → P a → Q a) → (l : List A) → Every P l → Every Q l
  every_weaken P Q f [] h = tt
  every_weaken P Q f (a ∷ l) h = (f a h.0, every_weaken P Q f l h.1)

  pub every_both : (P Q : A → Type 0) (l : List A) → Every P l → Every Q l → Every (λ a. P a × Q a) l
  every_both P Q [] h k = tt
  every_both P Q (a ∷ l) h k = ((h.0, k.0), every_both P Q l h.1 k.1)

  pub every_append : (P : A → Type 0) (l m : List A) → Every P l → Every P m → Every P (l ++ m)
  every_append P [] m h k = k
  every_append P (a ∷ l) m h k = (h.0, every_append P l m h.1 k)

module _ {A B : Type 0} where
  pub every_map : (P : B → Type 0) (f : A → B) (l : List A) → Every (λ a. P (f a)) l → Every P (map f l)
  every_map P f [] h = tt
  every_map P f (a ∷ l) h = (h.0, every_map P f l h.1)
