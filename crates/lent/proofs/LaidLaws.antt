-- SPDX-FileCopyrightText: 2026 The PPVM Authors
-- SPDX-License-Identifier: Apache-2.0

-- Values laid into a table one by one are read back, and what stands at the other places stays. Assumes nothing.
use mathlib.Core.Path.{◌≡◌, refl, ap, ◌∙◌}
use mathlib.Core.List.{List, [], ◌∷◌}
use Prim.Native.Nat.{ℕ, zero, suc, ◌+◌, ◌≤◌, ◌<◌}
use native.Mathlib.Omega.{arith}
use lib.ListN.{length, get_or, set, length-set}
use lib.Seq.{get_or-set_same, get_or-set_other}
use Rattle.lent.specs.Laid.{laid}
use Rattle.lent.specs.Every.{Every}
use Rattle.lent.proofs.Lists.{every_all}

module _ {A B : Type 0} (store : List A → ℕ → B → List A) (keeps : (l : List A) (k : ℕ) (b : B) → length (store l k b) ≡ length l) where
  pub laid_length : (k : ℕ) (bs : List B) (l : List A) → length (laid store k bs l) ≡ length l
  unfolding laid
  laid_length k [] l = refl
  laid_length k (b ∷ bs) l = laid_length (suc k) bs (store l k b) ∙ keeps l k b

-- a way to store and a way to read: what is stored at a place that there is is read there, and nothing else changes
module _ {A B C : Type 0} (store : List A → ℕ → B → List A) (read : List A → ℕ → C) (value : B → C) (Good : B → Type 0) (Room : List A → ℕ → Type 0)
    (keeps : (l : List A) (k : ℕ) (b : B) (j : ℕ) → Room l j → Room (store l k b) j)
    (here : (l : List A) (k : ℕ) (b : B) → Good b → Room l k → read (store l k b) k ≡ value b)
    (other : (l : List A) (k : ℕ) (b : B) (j : ℕ) → Good b → Room l k → (j ≡ k → ⊥) → read (store l k b) j ≡ read l j) where
  pub laid_other : (k : ℕ) (bs : List B) (l : List A) (j : ℕ) → Every Good bs → ((i : ℕ) → k ≤ i → i < k + length bs → Room l i)
      → (k ≤ j → j < k + length bs → ⊥) → read (laid store k bs l) j ≡ read l j
  unfolding laid
  laid_other k [] l j g r n = refl
  laid_other k (b ∷ bs) l j g r n =
      laid_other (suc k) bs (store l k b) j g.1 (λ i p q. keeps l k b i (r i (omega arith) (omega arith))) (λ p q. n (omega arith) (omega arith))
      ∙ other l k b j g.0 (r k (omega arith) (omega arith)) (λ e. n (omega arith) (omega arith))

  pub laid_here : (k : ℕ) (bs : List B) (l : List A) (j i : ℕ) (d : B) → Every Good bs → ((i : ℕ) → k ≤ i → i < k + length bs → Room l i)
      → j ≡ k + i → i < length bs → read (laid store k bs l) j ≡ value (get_or bs i d)
  unfolding laid
  laid_here k [] l j i d g r e h = absurd (omega arith)
  laid_here k (b ∷ bs) l j zero d g r e h =
      let z : j ≡ k = omega arith in
      laid_other (suc k) bs (store l k b) j g.1 (λ i p q. keeps l k b i (r i (omega arith) (omega arith))) (λ p q. omega arith)
      ∙ ap (read (store l k b)) z ∙ here l k b g.0 (r k (omega arith) (omega arith))
  laid_here k (b ∷ bs) l j (suc i) d g r e h =
      laid_here (suc k) bs (store l k b) j i d g.1 (λ i p q. keeps l k b i (r i (omega arith) (omega arith))) (omega arith) (omega arith)

-- ---- plain elements
module _ {A : Type 0} (d : A) (k : ℕ) (bs l : List A) (room : k + length bs ≤ length l) where
  set_keeps : (l : List A) (k : ℕ) (b : A) (j : ℕ) → j < length l → j < length (set l k b)
  set_keeps l k b j h = omega (arith, h, length-set l k b)

  pub set_other : (j : ℕ) → (k ≤ j → j < k + length bs → ⊥) → get_or (laid set k bs l) j d ≡ get_or l j d
  set_other j n =
      laid_other set (λ (l : List A) (j : ℕ). get_or l j d) (λ (a : A). a) (λ (_ : A). Unit {0}) (λ (l : List A) (j : ℕ). j < length l) set_keeps
      (λ l k b _ r. get_or-set_same l k b d r) (λ l k b j _ r e. get_or-set_other l k j b d e)
      k bs l j (every_all _ (λ _. tt) bs) (λ i p q. omega arith) n

  pub set_here : (j i : ℕ) → j ≡ k + i → i < length bs → get_or (laid set k bs l) j d ≡ get_or bs i d
  set_here j i e h =
      laid_here set (λ (l : List A) (j : ℕ). get_or l j d) (λ (a : A). a) (λ (_ : A). Unit {0}) (λ (l : List A) (j : ℕ). j < length l) set_keeps
      (λ l k b _ r. get_or-set_same l k b d r) (λ l k b j _ r e. get_or-set_other l k j b d e)
      k bs l j i d (every_all _ (λ _. tt) bs) (λ i p q. omega arith) e h
