-- SPDX-FileCopyrightText: 2026 The PPVM Authors
-- SPDX-License-Identifier: Apache-2.0

-- Which positions a cap keeps, told by ranks: one that is not fixed is kept exactly if fewer positions that are not fixed stand ahead of it
-- than there are slots. Assumes nothing.
use mathlib.Core.Path.{◌≡◌, refl, ◌∙◌}
use mathlib.Core.Bool.{Bool, true, false, not, ◌&&◌, cond}
use mathlib.Core.List.{List, [], ◌∷◌}
use Prim.Native.Nat.{ℕ, zero, suc, ◌+◌, ◌-◌, ◌≤◌, ◌<◌, min}
use native.Mathlib.Omega.{arith}
use borrow.Author.Tests.{ltb-true, ltb-false, leb-true, leb-false, eqb-true, eqb-false, eq-eqb, ne_eqb}
use lib.Dec.{eqb, ltb, leb}
use lib.Ieee.{Float, binary64}
use lib.ListN.{length, get_or}
use Rattle.number.specs.Key.{key}
use Rattle.order.specs.Magnitudes.{by_magnitude, key_at}
use Rattle.order.specs.Between.{AllFinite}
use Rattle.keep.specs.Retained.{flagged}
use Rattle.keep.specs.Chosen.{chosen}
use Rattle.keep.proofs.FlagLaws.{Kept, flagged_few}
use Rattle.keep.proofs.ChosenLaws.{chosen_fixed, chosen_count}
use Rattle.keep.proofs.LargestLaws.{chosen_larger}
use Rattle.keep.proofs.OrderOnce.{magnitude_once}
use Rattle.step_laws.proofs.EndLaws.{chosen_long}

-- ---- counts over positions that are not fixed
-- those with a key above k
unfoldable pub over : ℕ → List Float → List ℕ → ℕ
over k [] fs = 0
over k (x ∷ xs) [] = 0
over k (x ∷ xs) (f ∷ fs) = cond (eqb f 0 && ltb k (key binary64 x)) 1 0 + over k xs fs

-- those ahead of position p, whose key is k: before it with at least that key, behind it with a larger one
unfoldable pub rank_in : ℕ → ℕ → List Float → List ℕ → ℕ
rank_in k p [] fs = 0
rank_in k p (x ∷ xs) [] = 0
rank_in k zero (x ∷ xs) (f ∷ fs) = over k xs fs
rank_in k (suc p) (x ∷ xs) (f ∷ fs) = cond (eqb f 0 && leb k (key binary64 x)) 1 0 + rank_in k p xs fs

-- those that are flagged
unfoldable taken : List ℕ → List ℕ → ℕ
taken [] gs = 0
taken (f ∷ fs) [] = 0
taken (f ∷ fs) (g ∷ gs) = cond (eqb f 0 && not (eqb g 0)) 1 0 + taken fs gs

flagged_taken : (fs gs : List ℕ) → length fs ≡ length gs → ((q : ℕ) → Kept fs q → Kept gs q) → flagged gs ≡ flagged fs + taken fs gs
unfolding flagged taken
flagged_taken [] [] e h = refl
flagged_taken [] (g ∷ gs) e h = absurd (omega arith)
flagged_taken (f ∷ fs) [] e h = absurd (omega arith)
flagged_taken (f ∷ fs) (g ∷ gs) e h = go (eqb f 0) refl (eqb g 0) refl (flagged_taken fs gs (omega arith) (λ q. h (suc q)))
  where
    go : (a : Bool) → eqb f 0 ≡ a → (b : Bool) → eqb g 0 ≡ b → flagged gs ≡ flagged fs + taken fs gs
        → cond b (flagged gs) (suc (flagged gs)) ≡ cond a (flagged fs) (suc (flagged fs)) + (cond (a && not b) 1 0 + taken fs gs)
    go true u true v r = omega arith
    go true u false v r = omega arith
    go false u true v r = absurd (h 0 (eqb-false f 0 u) (eqb-true g 0 v))
    go false u false v r = omega arith

-- where a flag is 0, not all are raised
pub flagged_gap : (gs : List ℕ) (p : ℕ) → p < length gs → get_or gs p 0 ≡ 0 → flagged gs < length gs
unfolding flagged
flagged_gap [] p h z = absurd (omega arith)
flagged_gap (g ∷ gs) zero h z = rw (eq-eqb g 0 z) (omega (arith, flagged_few gs))
flagged_gap (g ∷ gs) (suc p) h z = go (eqb g 0) (flagged_gap gs p (omega arith) z)
  where
    go : (b : Bool) → flagged gs < length gs → cond b (flagged gs) (suc (flagged gs)) < suc (length gs)
    go true r = omega arith
    go false r = omega arith

-- ---- where all ahead of a flagged position are flagged, there are fewer of them than flagged ones
over_below : (k : ℕ) (xs : List Float) (fs gs : List ℕ) → length fs ≡ length xs → length gs ≡ length xs
    → ((q : ℕ) → q < length xs → get_or fs q 0 ≡ 0 → k < key_at xs q → Kept gs q) → over k xs fs ≤ taken fs gs
unfolding over taken
over_below k [] fs gs e d h = omega arith
over_below k (x ∷ xs) [] gs e d h = omega arith
over_below k (x ∷ xs) (f ∷ fs) [] e d h = absurd (omega arith)
over_below k (x ∷ xs) (f ∷ fs) (g ∷ gs) e d h =
    go (eqb f 0) refl (ltb k (key binary64 x)) refl (eqb g 0) refl (over_below k xs fs gs (omega arith) (omega arith) (λ q l. h (suc q) (omega arith)))
  where
    go : (a : Bool) → eqb f 0 ≡ a → (b : Bool) → ltb k (key binary64 x) ≡ b → (c : Bool) → eqb g 0 ≡ c → over k xs fs ≤ taken fs gs → cond (a && b) 1 0 + over k xs fs ≤ cond (a && not c) 1 0 + taken fs gs
    go true u true v true w r = absurd (h 0 (omega arith) (eqb-true f 0 u) (ltb-true k (key binary64 x) v) (eqb-true g 0 w))
    go true u true v false w r = omega arith
    go true u false v true w r = omega arith
    go true u false v false w r = omega arith
    go false u b v c w r = omega arith

rank_below : (k p : ℕ) (xs : List Float) (fs gs : List ℕ) → length fs ≡ length xs → length gs ≡ length xs → p < length xs → get_or fs p 0 ≡ 0 → Kept gs p
    → ((q : ℕ) → q < p → get_or fs q 0 ≡ 0 → k ≤ key_at xs q → Kept gs q) → ((q : ℕ) → p < q → q < length xs → get_or fs q 0 ≡ 0 → k < key_at xs q → Kept gs q) → rank_in k p xs fs < taken fs gs
unfolding rank_in taken
rank_below k p [] fs gs e d h z n hb ha = absurd (omega arith)
rank_below k p (x ∷ xs) [] gs e d h z n hb ha = absurd (omega arith)
rank_below k p (x ∷ xs) (f ∷ fs) [] e d h z n hb ha = absurd (omega arith)
rank_below k zero (x ∷ xs) (f ∷ fs) (g ∷ gs) e d h z n hb ha =
    rw (eq-eqb f 0 z, ne_eqb g 0 n) (omega (arith, over_below k xs fs gs (omega arith) (omega arith) (λ q l. ha (suc q) (omega arith) (omega arith))))
rank_below k (suc p) (x ∷ xs) (f ∷ fs) (g ∷ gs) e d h z n hb ha =
    go (eqb f 0) refl (leb k (key binary64 x)) refl (eqb g 0) refl
    (rank_below k p xs fs gs (omega arith) (omega arith) (omega arith) z n (λ q l. hb (suc q) (omega arith)) (λ q l i. ha (suc q) (omega arith) (omega arith)))
  where
    go : (a : Bool) → eqb f 0 ≡ a → (b : Bool) → leb k (key binary64 x) ≡ b → (c : Bool) → eqb g 0 ≡ c → rank_in k p xs fs < taken fs gs → cond (a && b) 1 0 + rank_in k p xs fs < cond (a && not c) 1 0 + taken fs gs
    go true u true v true w r = absurd (hb 0 (omega arith) (eqb-true f 0 u) (leb-true k (key binary64 x) v) (eqb-true g 0 w))
    go true u true v false w r = omega arith
    go true u false v true w r = omega arith
    go true u false v false w r = omega arith
    go false u b v c w r = omega arith

-- ---- where all flagged ones stand ahead of a position that is not, there are at least as many ahead
over_above : (k : ℕ) (xs : List Float) (fs gs : List ℕ) → length fs ≡ length xs → length gs ≡ length xs
    → ((q : ℕ) → q < length xs → get_or fs q 0 ≡ 0 → Kept gs q → k < key_at xs q) → taken fs gs ≤ over k xs fs
unfolding over taken
over_above k [] [] gs e d h = omega arith
over_above k [] (f ∷ fs) gs e d h = absurd (omega arith)
over_above k (x ∷ xs) [] gs e d h = omega arith
over_above k (x ∷ xs) (f ∷ fs) [] e d h = absurd (omega arith)
over_above k (x ∷ xs) (f ∷ fs) (g ∷ gs) e d h =
    go (eqb f 0) refl (ltb k (key binary64 x)) refl (eqb g 0) refl (over_above k xs fs gs (omega arith) (omega arith) (λ q l. h (suc q) (omega arith)))
  where
    go : (a : Bool) → eqb f 0 ≡ a → (b : Bool) → ltb k (key binary64 x) ≡ b → (c : Bool) → eqb g 0 ≡ c → taken fs gs ≤ over k xs fs → cond (a && not c) 1 0 + taken fs gs ≤ cond (a && b) 1 0 + over k xs fs
    go true u true v true w r = omega arith
    go true u true v false w r = omega arith
    go true u false v true w r = omega arith
    go true u false v false w r = absurd (omega (arith, h 0 (omega arith) (eqb-true f 0 u) (eqb-false g 0 w), ltb-false k (key binary64 x) v))
    go false u b v c w r = omega arith

rank_above : (k p : ℕ) (xs : List Float) (fs gs : List ℕ) → length fs ≡ length xs → length gs ≡ length xs → p < length xs → get_or fs p 0 ≡ 0 → get_or gs p 0 ≡ 0
    → ((q : ℕ) → q < p → get_or fs q 0 ≡ 0 → Kept gs q → k ≤ key_at xs q) → ((q : ℕ) → p < q → q < length xs → get_or fs q 0 ≡ 0 → Kept gs q → k < key_at xs q) → taken fs gs ≤ rank_in k p xs fs
unfolding rank_in taken
rank_above k p [] fs gs e d h z n hb ha = absurd (omega arith)
rank_above k p (x ∷ xs) [] gs e d h z n hb ha = absurd (omega arith)
rank_above k p (x ∷ xs) (f ∷ fs) [] e d h z n hb ha = absurd (omega arith)
rank_above k zero (x ∷ xs) (f ∷ fs) (g ∷ gs) e d h z n hb ha =
    rw (eq-eqb f 0 z, eq-eqb g 0 n) (omega (arith, over_above k xs fs gs (omega arith) (omega arith) (λ q l. ha (suc q) (omega arith) (omega arith))))
rank_above k (suc p) (x ∷ xs) (f ∷ fs) (g ∷ gs) e d h z n hb ha =
    go (eqb f 0) refl (leb k (key binary64 x)) refl (eqb g 0) refl
    (rank_above k p xs fs gs (omega arith) (omega arith) (omega arith) z n (λ q l. hb (suc q) (omega arith)) (λ q l i. ha (suc q) (omega arith) (omega arith)))
  where
    go : (a : Bool) → eqb f 0 ≡ a → (b : Bool) → leb k (key binary64 x) ≡ b → (c : Bool) → eqb g 0 ≡ c → taken fs gs ≤ rank_in k p xs fs → cond (a && not c) 1 0 + taken fs gs ≤ cond (a && b) 1 0 + rank_in k p xs fs
    go true u true v true w r = omega arith
    go true u true v false w r = omega arith
    go true u false v true w r = omega arith
    go true u false v false w r = absurd (omega (arith, hb 0 (omega arith) (eqb-true f 0 u) (eqb-false g 0 w), leb-false k (key binary64 x) v))
    go false u b v c w r = omega arith

-- ---- the positions that a cap keeps
module _ (xs : List Float) (finite : AllFinite xs) (fixed : List ℕ) (long : length fixed ≡ length xs) (slots : ℕ) where
  abbrev flags : List ℕ
  flags = chosen (by_magnitude xs) fixed slots

  flags_long : length flags ≡ length xs
  flags_long = chosen_long (by_magnitude xs) fixed slots ∙ long

  count : flagged flags ≡ flagged fixed + min slots (length xs - flagged fixed)
  count = chosen_count (length xs) (by_magnitude xs) fixed (magnitude_once xs) long slots

  split : flagged flags ≡ flagged fixed + taken fixed flags
  split = flagged_taken fixed flags (omega (arith, long, flags_long)) (chosen_fixed (by_magnitude xs) fixed slots)

  pub kept_rank : (p : ℕ) → p < length xs → get_or fixed p 0 ≡ 0 → Kept (chosen (by_magnitude xs) fixed slots) p → rank_in (key_at xs p) p xs fixed < slots
  kept_rank p h z n =
      let r =
      rank_below (key_at xs p) p xs fixed flags long flags_long h z n
      (λ q l y k u. let c = chosen_larger xs finite fixed long slots p q h (omega arith) z y n u in omega (arith, c.1 (omega (arith, c.0, k))))
      (λ q l i y k u. let c = chosen_larger xs finite fixed long slots p q h i z y n u in omega (arith, c.0)) in
      omega (arith, r, count, split)

  pub rank_kept : (p : ℕ) → p < length xs → get_or fixed p 0 ≡ 0 → rank_in (key_at xs p) p xs fixed < slots → Kept (chosen (by_magnitude xs) fixed slots) p
  rank_kept p h z r y =
      let a =
      rank_above (key_at xs p) p xs fixed flags long flags_long h z y
      (λ q l v k. (chosen_larger xs finite fixed long slots q p (omega arith) h v z k y).0)
      (λ q l i v k. let c = chosen_larger xs finite fixed long slots q p i h v z k y in strict q l c.0 c.1) in
      omega (arith, a, r, count, split, flagged_gap flags p (omega (arith, h, flags_long)) y, flags_long)
    where
      strict : (q : ℕ) → p < q → key_at xs p ≤ key_at xs q → (key_at xs p ≡ key_at xs q → q < p) → key_at xs p < key_at xs q
      strict q l a b = go (ltb (key_at xs p) (key_at xs q)) refl
        where
          go : (t : Bool) → ltb (key_at xs p) (key_at xs q) ≡ t → key_at xs p < key_at xs q
          go true e = ltb-true (key_at xs p) (key_at xs q) e
          go false e = absurd (omega (arith, l, b (omega (arith, a, ltb-false (key_at xs p) (key_at xs q) e))))
