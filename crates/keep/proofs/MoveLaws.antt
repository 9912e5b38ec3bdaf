-- SPDX-FileCopyrightText: 2026 The PPVM Authors
-- SPDX-License-Identifier: Apache-2.0

-- Moving kept elements down, one turn at a time, over plain lists. Assumes nothing.
use mathlib.Core.Path.{◌≡◌, refl, ap, sym, ◌∙◌}
use mathlib.Core.Bool.{Bool, true, false, cond}
use mathlib.Core.List.{List, [], ◌∷◌, ◌++◌}
use Prim.Native.Nat.{ℕ, ◌+◌, ◌≤◌, ◌<◌}
use native.Mathlib.Omega.{arith}
use native.Mathlib.Numerals.{add-one}
use lib.Dec.{eqb}
use lib.ListN.{length, get_or, set, take, drop, length-set}
use lib.Seq.{take-set-le, take-suc-set, drop-set-lt, drop-drop, get_or-drop}
use Rattle.keep.specs.Retained.{pick}
use Rattle.keep.specs.Chosen.{flag_of}
use Rattle.keep.proofs.PickLaws.{pick_skips, pick_takes}

module _ {A : Type 0} where
  -- the n kept among the first i elements stand first, and from i on nothing has moved
  pub record Moved (ks : List ℕ) (l₀ l : List A) (n i : ℕ) : Type 0 where
    pub few : n ≤ i
    pub front : take n l ≡ pick ks (take i l₀)
    pub back : drop i l ≡ drop i l₀
    pub long : length l ≡ length l₀

  drop_more : (l l₀ : List A) (i : ℕ) → drop i l ≡ drop i l₀ → drop (i + 1) l ≡ drop (i + 1) l₀
  drop_more l l₀ i e = sym (drop-drop 1 i l) ∙ ap (drop 1) e ∙ drop-drop 1 i l₀

  -- what stands at i is still the element given
  still : (l l₀ : List A) (i : ℕ) (d : A) → drop i l ≡ drop i l₀ → get_or l i d ≡ get_or l₀ i d
  still l l₀ i d e =
      let z : i + 0 ≡ i = omega arith in
      sym (ap (λ (p : ℕ). get_or l p d) z) ∙ sym (get_or-drop i l 0 d) ∙ ap (λ (t : List A). get_or t 0 d) e ∙ get_or-drop i l₀ 0 d ∙ ap (λ (p : ℕ). get_or l₀ p d) z

  pub moved_start : (ks : List ℕ) (l : List A) → Moved ks l l 0 0
  unfolding pick
  moved_start [] l = record { few = omega arith; front = refl; back = refl; long = refl }
  moved_start (k ∷ ks) l = record { few = omega arith; front = refl; back = refl; long = refl }

  module _ (ks : List ℕ) (l₀ l : List A) (n i : ℕ) (m : Moved ks l₀ l n i) (h : i < length ks) where
    -- the element at i moves down to n, and counts if its flag is not 0
    module _ (d x : A) (l' : List A) (g : i < length l₀) (f : x ≡ get_or l i d) (s : l' ≡ set l n x) where
      back_next : drop (i + 1) l' ≡ drop (i + 1) l₀
      back_next = rw s (drop-set-lt (i + 1) l n x (omega (arith, m.few)) ∙ drop_more l l₀ i m.back)

      long_next : length l' ≡ length l₀
      long_next = rw s (length-set l n x ∙ m.long)

      front_same : take n l' ≡ pick ks (take i l₀)
      front_same = rw s (take-set-le n l n x (omega arith) ∙ m.front)

      front_more : take (n + 1) l' ≡ pick ks (take i l₀) ++ (get_or l₀ i d ∷ [])
      front_more =
          rw (s, add-one n)
          (take-suc-set l n x (omega (arith, m.few, m.long, g))
          ∙ ap (λ (t : List A). t ++ (x ∷ [])) m.front
          ∙ ap (λ (y : A). pick ks (take i l₀) ++ (y ∷ [])) (f ∙ still l l₀ i d m.back))

      pub moved_next : (k : ℕ) → k ≡ flag_of (get_or ks i 0) → Moved ks l₀ l' (n + k) (i + 1)
      moved_next k e = go (eqb (get_or ks i 0) 0) refl e
        where
          go : (b : Bool) → eqb (get_or ks i 0) 0 ≡ b → k ≡ cond b 0 1 → Moved ks l₀ l' (n + k) (i + 1)
          go true z e =
              let o : n + k ≡ n = omega arith in
              rw o (record { few = omega (arith, m.few); front = front_same ∙ sym (pick_skips ks l₀ i h z); back = back_next; long = long_next })
          go false z e =
              let o : n + k ≡ n + 1 = omega arith in
              rw o (record { few = omega (arith, m.few); front = front_more ∙ sym (pick_takes ks l₀ i d h g z); back = back_next; long = long_next })
