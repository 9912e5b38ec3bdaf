-- SPDX-FileCopyrightText: 2026 The PPVM Authors
-- SPDX-License-Identifier: Apache-2.0

-- What flags pick of a list, told by what stands in it, and how many flags a walk raises. Assumes nothing.
use mathlib.Core.Path.{◌≡◌, refl, ap, ◌∙◌}
use mathlib.Core.Bool.{Bool, true, false, cond}
use mathlib.Core.List.{List, [], ◌∷◌, ◌++◌, map}
use mathlib.Core.Logic.{inl, inr}
use Prim.Native.Nat.{ℕ, zero, suc, ◌+◌, ◌≤◌}
use native.Mathlib.Omega.{arith}
use borrow.Author.Tests.{eqb-true, eqb-false}
use lib.Dec.{eqb}
use lib.ListN.{length, get_or, set}
use Rattle.order.specs.Members.{Member}
use Rattle.keep.specs.Retained.{pick, flagged}
use Rattle.keep.specs.Chosen.{walked, chosen, flag_of}
use Rattle.keep.proofs.FlagLaws.{Kept, flagged_same}

module _ {A : Type 0} where
  -- ---- how many
  pub pick_few : (ks : List ℕ) (l : List A) → length (pick ks l) ≤ flagged ks
  unfolding pick flagged
  pick_few [] l = omega arith
  pick_few (k ∷ ks) [] = omega arith
  pick_few (k ∷ ks) (a ∷ l) = go (eqb k 0) (pick_few ks l)
    where
      go : (b : Bool) → length (pick ks l) ≤ flagged ks → length (cond b (pick ks l) (a ∷ pick ks l)) ≤ cond b (flagged ks) (suc (flagged ks))
      go true h = h
      go false h = omega arith

  -- ---- what stands in a list
  pub member_append : (a : A) (l r : List A) → Member a l → Member a (l ++ r)
  unfolding Member
  member_append a [] r m = absurd m
  member_append a (x ∷ l) r (inl e) = inl e
  member_append a (x ∷ l) r (inr m) = inr (member_append a l r m)

  -- more flags pick at least the same
  pub pick_more : (a : A) (ks ks' : List ℕ) (l : List A) → length ks ≡ length ks' → ((p : ℕ) → Kept ks p → Kept ks' p) → Member a (pick ks l) → Member a (pick ks' l)
  unfolding Member pick
  pick_more a [] ks' l e h m = absurd m
  pick_more a (k ∷ ks) [] l e h m = absurd (omega arith)
  pick_more a (k ∷ ks) (k' ∷ ks') [] e h m = m
  pick_more a (k ∷ ks) (k' ∷ ks') (x ∷ l) e h m = go (pick_more a ks ks' l (omega arith) (λ p. h (suc p))) (eqb k 0) refl (eqb k' 0) refl m
    where
      go : (Member a (pick ks l) → Member a (pick ks' l)) → (b : Bool) → eqb k 0 ≡ b → (c : Bool) → eqb k' 0 ≡ c → Member a (cond b (pick ks l) (x ∷ pick ks l)) → Member a (cond c (pick ks' l) (x ∷ pick ks' l))
      go rest true u true v m = rest m
      go rest true u false v m = inr (rest m)
      go rest false u true v m = absurd (h 0 (eqb-false k 0 u) (eqb-true k' 0 v))
      go rest false u false v (inl e) = inl e
      go rest false u false v (inr m) = inr (rest m)

  pub pick_in : (a : A) (ks : List ℕ) (l : List A) → Member a (pick ks l) → Member a l
  unfolding Member pick
  pick_in a [] l m = absurd m
  pick_in a (k ∷ ks) [] m = absurd m
  pick_in a (k ∷ ks) (x ∷ l) m = go (pick_in a ks l) (eqb k 0) m
    where
      go : (Member a (pick ks l) → Member a l) → (b : Bool) → Member a (cond b (pick ks l) (x ∷ pick ks l)) → Member a (x ∷ l)
      go rest true m = inr (rest m)
      go rest false (inl e) = inl e
      go rest false (inr m) = inr (rest m)

  -- an element with a flag of its own that is not 0
  own_picked : (flag : A → ℕ) (a : A) (l : List A) → (flag a ≡ 0 → ⊥) → Member a l → Member a (pick (map flag l) l)
  unfolding Member pick
  own_picked flag a [] n m = absurd m
  own_picked flag a (x ∷ l) n m = go (own_picked flag a l n) (eqb (flag x) 0) refl m
    where
      go : (Member a l → Member a (pick (map flag l) l)) → (b : Bool) → eqb (flag x) 0 ≡ b → Member a (x ∷ l) → Member a (cond b (pick (map flag l) l) (x ∷ pick (map flag l) l))
      go rest true t (inl e) = absurd (n (ap flag e ∙ eqb-true (flag x) 0 t))
      go rest true t (inr m) = rest m
      go rest false t (inl e) = inl e
      go rest false t (inr m) = inr (rest m)

  -- is picked by any flags that are not 0 where those are not
  pub own_stays : (flag : A → ℕ) (ks : List ℕ) (a : A) (l : List A) → length (map flag l) ≡ length ks → ((p : ℕ) → Kept (map flag l) p → Kept ks p) → (flag a ≡ 0 → ⊥) → Member a l → Member a (pick ks l)
  own_stays flag ks a l e h n m = pick_more a (map flag l) ks l e h (own_picked flag a l n m)

-- ---- a walk raises at most a flag for each slot
set_few : (l : List ℕ) (q : ℕ) → flagged (set l q 1) ≤ suc (flagged l)
unfolding flagged
set_few [] q = omega arith
set_few (k ∷ l) zero = go (eqb k 0)
  where
    go : (b : Bool) → suc (flagged l) ≤ suc (cond b (flagged l) (suc (flagged l)))
    go true = omega arith
    go false = omega arith
set_few (k ∷ l) (suc q) = go (eqb k 0) (set_few l q)
  where
    go : (b : Bool) → flagged (set l q 1) ≤ suc (flagged l) → cond b (flagged (set l q 1)) (suc (flagged (set l q 1))) ≤ suc (cond b (flagged l) (suc (flagged l)))
    go true h = h
    go false h = omega arith

walked_few : (fixed order : List ℕ) (s : ℕ) (flags : List ℕ) → flagged (walked fixed order s flags) ≤ flagged flags + s
unfolding walked
walked_few fixed [] s flags = omega arith
walked_few fixed (p ∷ ps) zero flags = omega arith
walked_few fixed (p ∷ ps) (suc s) flags = go (eqb (get_or fixed p 0) 0) (walked_few fixed ps s (set flags p 1)) (walked_few fixed ps (suc s) flags)
  where
    go : (b : Bool) → flagged (walked fixed ps s (set flags p 1)) ≤ flagged (set flags p 1) + s → flagged (walked fixed ps (suc s) flags) ≤ flagged flags + suc s
        → flagged (cond b (walked fixed ps s (set flags p 1)) (walked fixed ps (suc s) flags)) ≤ flagged flags + suc s
    go true x y = omega (arith, x, set_few flags p)
    go false x y = y

pub chosen_few : (order fixed : List ℕ) (slots : ℕ) → flagged (chosen order fixed slots) ≤ flagged fixed + slots
chosen_few order fixed slots = omega (arith, walked_few fixed order slots (map flag_of fixed), flagged_same fixed)
