-- SPDX-FileCopyrightText: 2026 The PPVM Authors
-- SPDX-License-Identifier: Apache-2.0

-- What walking an order chooses: how many positions, that more slots lose nobody, and that the earlier come first. Assumes nothing.
use mathlib.Core.Path.{◌≡◌, refl, ap, sym, ◌∙◌, subst}
use mathlib.Core.Bool.{Bool, true, false, cond}
use mathlib.Core.List.{List, [], ◌∷◌, map}
use Prim.Native.Nat.{ℕ, zero, suc, ◌+◌, ◌-◌, ◌≤◌, ◌<◌, min, max}
use native.Mathlib.Omega.{arith}
use lib.Dec.{eqb, ltb}
use lib.ListN.{length, get_or, set, replicate, length-set, length-map, length-replicate, get_or-map}
use lib.Seq.{get_or-set_same, get_or-set_other}
use borrow.Author.Tests.{ltb-true, ltb-false, eqb-true, eqb-false, eq-eqb, ne_eqb}
use Rattle.keep.specs.Retained.{flagged}
use Rattle.keep.specs.Chosen.{flag_of, walked, chosen}
use Rattle.keep.proofs.FlagLaws.{Kept, flagged_set, flagged_all, flagged_same, flagged_none}
use Rattle.keep.proofs.Listed.{AtMostOnce, occurs_at, occurs_not, once_rest, gone}
use Rattle.keep.specs.Between.{Below, occurrences, EachOnce}

-- what holds of both lists holds of the one that a test takes
either : (P : List ℕ → List ℕ → Type 0) (b : Bool) (s t s' t' : List ℕ) → P s s' → P t t' → P (cond b s t) (cond b s' t')
either P true s t s' t' x y = x
either P false s t s' t' x y = y

-- ---- raised flags stay raised
set_kept : (l : List ℕ) (q p : ℕ) → Kept l p → Kept (set l q 1) p
set_kept [] q p k = k
set_kept (x ∷ l) zero zero k = λ e. omega arith
set_kept (x ∷ l) zero (suc p) k = k
set_kept (x ∷ l) (suc q) zero k = k
set_kept (x ∷ l) (suc q) (suc p) k = set_kept l q p k

walked_keeps : (fixed order : List ℕ) (s : ℕ) (flags : List ℕ) (p : ℕ) → Kept flags p → Kept (walked fixed order s flags) p
unfolding walked
walked_keeps fixed [] s flags p k = k
walked_keeps fixed (q ∷ order) zero flags p k = k
walked_keeps fixed (q ∷ order) (suc s) flags p k =
    let taken : List ℕ = walked fixed order s (set flags q 1) in
    let passed : List ℕ = walked fixed order (suc s) flags in
    either (λ l _. Kept l p) (eqb (get_or fixed q 0) 0) taken passed taken passed (walked_keeps fixed order s (set flags q 1) p (set_kept flags q p k)) (walked_keeps fixed order (suc s) flags p k)

-- ---- more slots keep at least the same
set_more : (l l' : List ℕ) (q : ℕ) → length l ≡ length l' → ((p : ℕ) → Kept l p → Kept l' p) → (p : ℕ) → Kept (set l q 1) p → Kept (set l' q 1) p
set_more [] [] q e h p k = k
set_more [] (y ∷ l') q e h p k = absurd (omega arith)
set_more (x ∷ l) [] q e h p k = absurd (omega arith)
set_more (x ∷ l) (y ∷ l') zero e h zero k = λ e. omega arith
set_more (x ∷ l) (y ∷ l') zero e h (suc p) k = h (suc p) k
set_more (x ∷ l) (y ∷ l') (suc q) e h zero k = h zero k
set_more (x ∷ l) (y ∷ l') (suc q) e h (suc p) k = set_more l l' q (omega arith) (λ j. h (suc j)) p k

walked_more : (fixed order : List ℕ) (s s' : ℕ) (flags flags' : List ℕ) → s ≤ s' → length flags ≡ length flags' → ((p : ℕ) → Kept flags p → Kept flags' p)
    → (p : ℕ) → Kept (walked fixed order s flags) p → Kept (walked fixed order s' flags') p
unfolding walked
walked_more fixed [] s s' flags flags' h e m p k = m p k
walked_more fixed (q ∷ order) zero s' flags flags' h e m p k = walked_keeps fixed (q ∷ order) s' flags' p (m p k)
walked_more fixed (q ∷ order) (suc s) zero flags flags' h e m p k = absurd (omega arith)
walked_more fixed (q ∷ order) (suc s) (suc s') flags flags' h e m p k =
    either (λ l l'. Kept l p → Kept l' p) (eqb (get_or fixed q 0) 0)
    (walked fixed order s (set flags q 1)) (walked fixed order (suc s) flags) (walked fixed order s' (set flags' q 1)) (walked fixed order (suc s') flags')
    (walked_more fixed order s s' (set flags q 1) (set flags' q 1) (omega arith) (omega (arith, e, length-set flags q 1, length-set flags' q 1)) (set_more flags flags' q e m) p)
    (walked_more fixed order (suc s) (suc s') flags flags' h e m p) k

-- a fixed position is kept
pub chosen_fixed : (order fixed : List ℕ) (slots p : ℕ) → Kept fixed p → Kept (chosen order fixed slots) p
chosen_fixed order fixed slots p k =
    walked_keeps fixed order slots (map flag_of fixed) p
    (λ (z : get_or (map flag_of fixed) p 0 ≡ 0). omega (arith, sym (get_or-map flag_of fixed p 0 ∙ ap (λ (b : Bool). cond b 0 1) (ne_eqb (get_or fixed p 0) 0 k)) ∙ z))

pub chosen_more : (order fixed : List ℕ) (slots slots' : ℕ) → slots ≤ slots' → (p : ℕ) → Kept (chosen order fixed slots) p → Kept (chosen order fixed slots') p
chosen_more order fixed slots slots' h = walked_more fixed order slots slots' (map flag_of fixed) (map flag_of fixed) h refl (λ p k. k)

-- ---- positions that are listed once

-- flags of listed positions that are not fixed are 0, before the walk
abbrev Fresh : List ℕ → List ℕ → List ℕ → Type 0
Fresh fixed order flags = (p : ℕ) → 0 < occurrences p order → get_or fixed p 0 ≡ 0 → get_or flags p 0 ≡ 0

module _ (q : ℕ) (order : List ℕ) (once : AtMostOnce (q ∷ order)) where
  fresh_rest : (fixed flags : List ℕ) → Fresh fixed (q ∷ order) flags → Fresh fixed order flags
  unfolding occurrences
  fresh_rest fixed flags f p h e = f p (omega arith) e

  fresh_set : (fixed flags : List ℕ) → Fresh fixed (q ∷ order) flags → Fresh fixed order (set flags q 1)
  fresh_set fixed flags f p h e =
      get_or-set_other flags q p 1 0 (λ (d : p ≡ q). absurd (omega (arith, gone q order once, subst (λ (r : ℕ). 0 < occurrences r order) d h)))
      ∙ fresh_rest fixed flags f p h e

-- ---- of two positions that are not fixed the kept one stands earlier
walked_earlier : (fixed order : List ℕ) (s : ℕ) (flags : List ℕ) → AtMostOnce order → Fresh fixed order flags → length flags ≡ length fixed → Below (length fixed) order
    → (i j : ℕ) → i < length order → j ≤ i → get_or fixed (get_or order i 0) 0 ≡ 0 → get_or fixed (get_or order j 0) 0 ≡ 0
    → Kept (walked fixed order s flags) (get_or order i 0) → Kept (walked fixed order s flags) (get_or order j 0)
unfolding walked
walked_earlier fixed [] s flags o f e b i j h g x y k = absurd (omega arith)
walked_earlier fixed (q ∷ order) zero flags o f e b i j h g x y k = absurd (k (f (get_or (q ∷ order) i 0) (occurs_at (q ∷ order) i h) x))
walked_earlier fixed (q ∷ order) (suc s) flags o f e b i zero h g x y k =
    let t : eqb (get_or fixed q 0) 0 ≡ true = eq-eqb (get_or fixed q 0) 0 y in
    rw t (walked_keeps fixed order s (set flags q 1) q (λ (z : get_or (set flags q 1) q 0 ≡ 0). omega (arith, sym (get_or-set_same flags q 1 0 (omega (arith, e, b.below 0 (omega arith)))) ∙ z)))
walked_earlier fixed (q ∷ order) (suc s) flags o f e b zero (suc j) h g x y k = absurd (omega arith)
walked_earlier fixed (q ∷ order) (suc s) flags o f e b (suc i) (suc j) h g x y k =
    let rest : Below (length fixed) order = record { below = λ l m. b.below (suc l) (omega arith) } in
    let taken : List ℕ = walked fixed order s (set flags q 1) in
    let passed : List ℕ = walked fixed order (suc s) flags in
    either (λ l l'. Kept l (get_or order i 0) → Kept l' (get_or order j 0)) (eqb (get_or fixed q 0) 0) taken passed taken passed
    (walked_earlier fixed order s (set flags q 1) (once_rest q order o) (fresh_set q order o fixed flags f) (length-set flags q 1 ∙ e) rest i j (omega arith) (omega arith) x y)
    (walked_earlier fixed order (suc s) flags (once_rest q order o) (fresh_rest q order o fixed flags f) e rest i j (omega arith) (omega arith) x y) k

-- ---- how many are kept

-- how many of the listed are not fixed
unfoldable free : List ℕ → List ℕ → ℕ
free fixed [] = 0
free fixed (q ∷ order) = cond (eqb (get_or fixed q 0) 0) 1 0 + free fixed order

walked_count : (fixed order : List ℕ) (s : ℕ) (flags : List ℕ) → AtMostOnce order → Fresh fixed order flags → length flags ≡ length fixed → Below (length fixed) order
    → flagged (walked fixed order s flags) ≡ flagged flags + min s (free fixed order)
unfolding walked free
walked_count fixed [] s flags o f e b = omega arith
walked_count fixed (q ∷ order) zero flags o f e b = omega arith
walked_count fixed (q ∷ order) (suc s) flags o f e b =
    let rest : Below (length fixed) order = record { below = λ l m. b.below (suc l) (omega arith) } in
    go (eqb (get_or fixed q 0) 0) refl
    (walked_count fixed order s (set flags q 1) (once_rest q order o) (fresh_set q order o fixed flags f) (length-set flags q 1 ∙ e) rest)
    (walked_count fixed order (suc s) flags (once_rest q order o) (fresh_rest q order o fixed flags f) e rest)
    (λ h. flagged_set flags q (omega (arith, e, b.below 0 (omega arith))) (f q (occurs_at (q ∷ order) 0 (omega arith)) h))
  where
    go : (c : Bool) → eqb (get_or fixed q 0) 0 ≡ c → flagged (walked fixed order s (set flags q 1)) ≡ flagged (set flags q 1) + min s (free fixed order) → flagged (walked fixed order (suc s) flags) ≡ flagged flags + min (suc s) (free fixed order)
        → (get_or fixed q 0 ≡ 0 → flagged (set flags q 1) ≡ suc (flagged flags))
        → flagged (cond c (walked fixed order s (set flags q 1)) (walked fixed order (suc s) flags)) ≡ flagged flags + min (suc s) (cond c 1 0 + free fixed order)
    go true t x y z = omega (arith, x, z (eqb-true (get_or fixed q 0) 0 t))
    go false t x y z = omega (arith, y)

-- with a slot for each, every listed position that is not fixed is kept
walked_all : (fixed order : List ℕ) (s : ℕ) (flags : List ℕ) (p : ℕ) → length order ≤ s → 0 < occurrences p order → get_or fixed p 0 ≡ 0 → p < length flags → Kept (walked fixed order s flags) p
unfolding walked occurrences
walked_all fixed [] s flags p h o e l = absurd (omega arith)
walked_all fixed (q ∷ order) zero flags p h o e l = absurd (omega arith)
walked_all fixed (q ∷ order) (suc s) flags p h o e l =
    go (eqb q p) refl (eqb (get_or fixed q 0) 0) refl
    (λ t. walked_all fixed order s (set flags q 1) p (omega arith) (rest t) e (omega (arith, l, length-set flags q 1)))
    (λ t. walked_all fixed order (suc s) flags p (omega arith) (rest t) e l)
  where
    rest : eqb q p ≡ false → 0 < occurrences p order
    rest t =
        let m : 0 < 0 + occurrences p order = subst (λ (b : Bool). 0 < cond b 1 0 + occurrences p order) t o in
        omega arith

    here : q ≡ p → Kept (set flags q 1) p
    here d = λ (z : get_or (set flags q 1) p 0 ≡ 0). omega (arith, sym (ap (λ (r : ℕ). get_or (set flags r 1) p 0) d ∙ get_or-set_same flags p 1 0 l) ∙ z)

    go : (a : Bool) → eqb q p ≡ a → (b : Bool) → eqb (get_or fixed q 0) 0 ≡ b
        → (eqb q p ≡ false → Kept (walked fixed order s (set flags q 1)) p) → (eqb q p ≡ false → Kept (walked fixed order (suc s) flags) p)
        → Kept (cond b (walked fixed order s (set flags q 1)) (walked fixed order (suc s) flags)) p
    go false t true u x y = x t
    go false t false u x y = y t
    go true t true u x y = walked_keeps fixed order s (set flags q 1) p (here (eqb-true q p t))
    go true t false u x y = absurd (eqb-false (get_or fixed q 0) 0 u (ap (λ (r : ℕ). get_or fixed r 0) (eqb-true q p t) ∙ e))

pub walked_length : (fixed order : List ℕ) (s : ℕ) (flags : List ℕ) → length (walked fixed order s flags) ≡ length flags
unfolding walked
walked_length fixed [] s flags = refl
walked_length fixed (q ∷ order) zero flags = refl
walked_length fixed (q ∷ order) (suc s) flags =
    let taken : List ℕ = walked fixed order s (set flags q 1) in
    let passed : List ℕ = walked fixed order (suc s) flags in
    either (λ l _. length l ≡ length flags) (eqb (get_or fixed q 0) 0) taken passed taken passed (walked_length fixed order s (set flags q 1) ∙ length-set flags q 1) (walked_length fixed order (suc s) flags)

-- ---- an order that lists each position below n once
module _ (n : ℕ) (order fixed : List ℕ) (each : EachOnce n order) (long : length fixed ≡ n) where
  start : List ℕ
  start = map flag_of fixed

  start_long : length start ≡ length fixed
  unfolding start
  start_long = length-map fixed flag_of

  start_at : (p : ℕ) → get_or start p 0 ≡ flag_of (get_or fixed p 0)
  unfolding start
  start_at p = get_or-map flag_of fixed p 0

  below_fixed : Below (length fixed) order
  below_fixed = subst (λ (m : ℕ). Below m order) (sym long) each.all_below

  at_most_once : AtMostOnce order
  at_most_once p = go (ltb p n) refl
    where
      go : (b : Bool) → ltb p n ≡ b → occurrences p order ≤ 1
      go true t = omega (arith, each.once p (ltb-true p n t))
      go false t = omega (arith, occurs_not order p (λ i l e. omega (arith, ltb-false p n t, each.all_below.below i l, e)))

  fresh_start : Fresh fixed order start
  fresh_start p h e = start_at p ∙ ap flag_of e

  all_kept : (p : ℕ) → p < n → Kept (walked fixed order (length order) start) p
  unfolding start
  all_kept p h = go (eqb (get_or fixed p 0) 0) refl
    where
      go : (b : Bool) → eqb (get_or fixed p 0) 0 ≡ b → Kept (walked fixed order (length order) start) p
      go true t = walked_all fixed order (length order) start p (omega arith) (omega (arith, each.once p h)) (eqb-true (get_or fixed p 0) 0 t) (omega (arith, h, long, start_long))
      go false t = chosen_fixed order fixed (length order) p (eqb-false (get_or fixed p 0) 0 t)

  free_few : (order : List ℕ) → free fixed order ≤ length order
  unfolding free
  free_few [] = omega arith
  free_few (q ∷ order) = go (eqb (get_or fixed q 0) 0) (free_few order)
    where
      go : (b : Bool) → free fixed order ≤ length order → cond b 1 0 + free fixed order ≤ suc (length order)
      go true h = omega arith
      go false h = omega arith

  free_count : flagged fixed + free fixed order ≡ n
  unfolding start
  free_count =
      let c = walked_count fixed order (length order) start at_most_once fresh_start start_long below_fixed in
      let l = walked_length fixed order (length order) start in
      let a = flagged_all (walked fixed order (length order) start) (λ p h. all_kept p (omega (arith, h, l, start_long, long))) in
      omega (arith, c, l, a, flagged_same fixed, free_few order, start_long, long)

  -- exactly so many are kept
  pub chosen_count : (slots : ℕ) → flagged (chosen order fixed slots) ≡ flagged fixed + min slots (n - flagged fixed)
  unfolding start
  chosen_count slots = omega (arith, walked_count fixed order slots start at_most_once fresh_start start_long below_fixed, free_count, flagged_same fixed)

  -- with the slots that a limit below n leaves: the limit, or the fixed positions where they are more
  pub chosen_limit : (limit : ℕ) → limit < n → flagged (chosen order fixed (limit - flagged fixed)) ≡ max limit (flagged fixed)
  chosen_limit limit h = omega (arith, h, chosen_count (limit - flagged fixed), free_count)

  -- of two positions that are not fixed, one kept and one not, the kept one is listed earlier
  pub chosen_earlier : (slots i j : ℕ) → i < length order → j < length order → get_or fixed (get_or order i 0) 0 ≡ 0 → get_or fixed (get_or order j 0) 0 ≡ 0
      → Kept (chosen order fixed slots) (get_or order i 0) → get_or (chosen order fixed slots) (get_or order j 0) 0 ≡ 0 → i < j
  unfolding start
  chosen_earlier slots i j h g x y k z = go (ltb i j) refl
    where
      go : (b : Bool) → ltb i j ≡ b → i < j
      go true t = ltb-true i j t
      go false t = absurd (walked_earlier fixed order slots start at_most_once fresh_start start_long below_fixed i j h (ltb-false i j t) x y k z)

-- where no position is fixed, as many as there are slots, or all
pub chosen_unfixed : (n : ℕ) (order : List ℕ) → EachOnce n order → (slots : ℕ) → flagged (chosen order (replicate n 0) slots) ≡ min slots n
chosen_unfixed n order each slots = omega (arith, chosen_count n order (replicate n 0) each (length-replicate n 0) slots, flagged_none n)
