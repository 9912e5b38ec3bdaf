-- SPDX-FileCopyrightText: 2026 The PPVM Authors
-- SPDX-License-Identifier: Apache-2.0

-- What flags pick, one element more at a time, and how many. Assumes nothing.
use mathlib.Core.Path.{◌≡◌, refl, ap}
use mathlib.Core.Bool.{Bool, true, false, cond}
use mathlib.Core.List.{List, [], ◌∷◌, ◌++◌}
use Prim.Native.Nat.{ℕ, zero, suc, ◌+◌, ◌≤◌, ◌<◌}
use native.Mathlib.Omega.{arith}
use native.Mathlib.Numerals.{add-one}
use lib.Dec.{eqb}
use lib.ListN.{length, get_or, take}
use Rattle.word.specs.declared.word.Word.{Word}
use Rattle.word.proofs.FlatLaws.{Whole}
use Rattle.keep.specs.Retained.{pick, flagged}
use Rattle.keep.specs.Chosen.{flag_of}

-- ---- how many flags are not 0
flagged_skip : (ks : List ℕ) (i : ℕ) → i < length ks → eqb (get_or ks i 0) 0 ≡ true → flagged (take (suc i) ks) ≡ flagged (take i ks)
unfolding flagged
flagged_skip [] i h e = absurd (omega arith)
flagged_skip (k ∷ ks) zero h e = rw e
flagged_skip (k ∷ ks) (suc i) h e = ap (λ (n : ℕ). cond (eqb k 0) n (suc n)) (flagged_skip ks i (omega arith) e)

flagged_take : (ks : List ℕ) (i : ℕ) → i < length ks → eqb (get_or ks i 0) 0 ≡ false → flagged (take (suc i) ks) ≡ suc (flagged (take i ks))
unfolding flagged
flagged_take [] i h e = absurd (omega arith)
flagged_take (k ∷ ks) zero h e = rw e
flagged_take (k ∷ ks) (suc i) h e = go (eqb k 0) (flagged (take (suc i) ks)) (flagged (take i ks)) (flagged_take ks i (omega arith) e)
  where
    go : (b : Bool) (m n : ℕ) → m ≡ suc n → cond b m (suc m) ≡ suc (cond b n (suc n))
    go true m n e = e
    go false m n e = ap suc e

pub flagged_skips : (ks : List ℕ) (i : ℕ) → i < length ks → eqb (get_or ks i 0) 0 ≡ true → flagged (take (i + 1) ks) ≡ flagged (take i ks)
flagged_skips ks i h e = rw add-one (flagged_skip ks i h e)

pub flagged_takes : (ks : List ℕ) (i : ℕ) → i < length ks → eqb (get_or ks i 0) 0 ≡ false → flagged (take (i + 1) ks) ≡ flagged (take i ks) + 1
flagged_takes ks i h e = rw (add-one i, add-one (flagged (take i ks))) (flagged_take ks i h e)

pub flagged_next : (ks : List ℕ) (i : ℕ) → i < length ks → flagged (take (i + 1) ks) ≡ flagged (take i ks) + flag_of (get_or ks i 0)
flagged_next ks i h = go (eqb (get_or ks i 0) 0) refl
  where
    go : (b : Bool) → eqb (get_or ks i 0) 0 ≡ b → flagged (take (i + 1) ks) ≡ flagged (take i ks) + cond b 0 1
    go true e = omega (arith, flagged_skips ks i h e)
    go false e = flagged_takes ks i h e

pub flagged_below : (ks : List ℕ) (i n : ℕ) → i < n → i < length ks → eqb (get_or ks i 0) 0 ≡ false → flagged (take i ks) < flagged (take n ks)
unfolding flagged
flagged_below [] i n g h e = absurd (omega arith)
flagged_below (k ∷ ks) i zero g h e = absurd (omega arith)
flagged_below (k ∷ ks) zero (suc n) g h e = rw e (omega arith)
flagged_below (k ∷ ks) (suc i) (suc n) g h e = go (eqb k 0) (flagged (take i ks)) (flagged (take n ks)) (flagged_below ks i n (omega arith) (omega arith) e)
  where
    go : (b : Bool) (m n : ℕ) → m < n → cond b m (suc m) < cond b n (suc n)
    go true m n h = h
    go false m n h = omega arith

-- ---- what they pick
module _ {A : Type 0} where
  pick_nil : (ks : List ℕ) → ◌≡◌ {A = List A} (pick ks []) []
  unfolding pick
  pick_nil [] = refl
  pick_nil (k ∷ ks) = refl

  pick_skip : (ks : List ℕ) (l : List A) (i : ℕ) → i < length ks → eqb (get_or ks i 0) 0 ≡ true → pick ks (take (suc i) l) ≡ pick ks (take i l)
  unfolding pick
  pick_skip [] l i h e = absurd (omega arith)
  pick_skip (k ∷ ks) [] zero h e = refl
  pick_skip (k ∷ ks) [] (suc i) h e = refl
  pick_skip (k ∷ ks) (a ∷ l) zero h e = rw e (pick_nil ks)
  pick_skip (k ∷ ks) (a ∷ l) (suc i) h e = ap (λ (t : List A). cond (eqb k 0) t (a ∷ t)) (pick_skip ks l i (omega arith) e)

  pick_take : (ks : List ℕ) (l : List A) (i : ℕ) (d : A) → i < length ks → i < length l → eqb (get_or ks i 0) 0 ≡ false
      → pick ks (take (suc i) l) ≡ pick ks (take i l) ++ (get_or l i d ∷ [])
  unfolding pick
  pick_take [] l i d h g e = absurd (omega arith)
  pick_take (k ∷ ks) [] i d h g e = absurd (omega arith)
  pick_take (k ∷ ks) (a ∷ l) zero d h g e = rw e (ap (λ (t : List A). a ∷ t) (pick_nil ks))
  pick_take (k ∷ ks) (a ∷ l) (suc i) d h g e =
      go (eqb k 0) (pick ks (take (suc i) l)) (pick ks (take i l)) (get_or l i d ∷ []) (pick_take ks l i d (omega arith) (omega arith) e)
    where
      go : (b : Bool) (s t u : List A) → s ≡ t ++ u → cond b s (a ∷ s) ≡ cond b t (a ∷ t) ++ u
      go true s t u e = e
      go false s t u e = ap (λ (l : List A). a ∷ l) e

  pub pick_skips : (ks : List ℕ) (l : List A) (i : ℕ) → i < length ks → eqb (get_or ks i 0) 0 ≡ true → pick ks (take (i + 1) l) ≡ pick ks (take i l)
  pick_skips ks l i h e = rw add-one (pick_skip ks l i h e)

  pub pick_takes : (ks : List ℕ) (l : List A) (i : ℕ) (d : A) → i < length ks → i < length l → eqb (get_or ks i 0) 0 ≡ false
      → pick ks (take (i + 1) l) ≡ pick ks (take i l) ++ (get_or l i d ∷ [])
  pick_takes ks l i d h g e = rw add-one (pick_take ks l i d h g e)

  -- as many as there are flags that are not 0
  pub pick_length : (ks : List ℕ) (l : List A) → length l ≤ length ks → length (pick ks l) ≡ flagged (take (length l) ks)
  unfolding pick flagged
  pick_length [] [] h = refl
  pick_length [] (a ∷ l) h = absurd (omega arith)
  pick_length (k ∷ ks) [] h = refl
  pick_length (k ∷ ks) (a ∷ l) h = go (eqb k 0) (pick ks l) (flagged (take (length l) ks)) (pick_length ks l (omega arith))
    where
      go : (b : Bool) (t : List A) (n : ℕ) → length t ≡ n → length (cond b t (a ∷ t)) ≡ cond b n (suc n)
      go true t n e = e
      go false t n e = ap suc e

-- ---- whole words are picked whole
pub whole_pick : (ks : List ℕ) (ws : List Word) → Whole ws → Whole (pick ks ws)
unfolding Whole pick
whole_pick [] ws h = tt
whole_pick (k ∷ ks) [] h = tt
whole_pick (k ∷ ks) (w ∷ ws) h = go (eqb k 0) (pick ks ws) (whole_pick ks ws h.1)
  where
    go : (b : Bool) (vs : List Word) → Whole vs → Whole (cond b vs (w ∷ vs))
    go true vs g = g
    go false vs g = (h.0, g)
