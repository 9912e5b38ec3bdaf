-- SPDX-FileCopyrightText: 2026 The PPVM Authors
-- SPDX-License-Identifier: Apache-2.0

-- Where a position stands among those that flags pick, and that ranks are the same among two picks which differ only by positions that are
-- fixed or smaller. Assumes nothing.
use mathlib.Core.Path.{◌≡◌, refl, sym, ap}
use mathlib.Core.Bool.{Bool, true, false, ◌&&◌, cond}
use mathlib.Core.List.{List, [], ◌∷◌, map}
use mathlib.Core.Logic.{inl, inr}
use Prim.Native.Nat.{ℕ, zero, suc, ◌+◌, ◌≤◌, ◌<◌}
use native.Mathlib.Omega.{arith}
use borrow.Author.Tests.{ltb-true, leb-true, eqb-true, eqb-false, ne_eqb}
use lib.Dec.{eqb, ltb, leb}
use lib.Ieee.{Float, binary64}
use lib.ListN.{length, get_or}
use Rattle.number.specs.Key.{key}
use Rattle.order.specs.Magnitudes.{key_at}
use Rattle.order.specs.Members.{Member}
use Rattle.keep.specs.Retained.{pick, flagged}
use Rattle.keep.proofs.FlagLaws.{Kept}
use Rattle.step_laws.proofs.RankLaws.{over, rank_in}

-- how many before a position are picked
unfoldable pub place_of : ℕ → List ℕ → ℕ
place_of p [] = 0
place_of zero (k ∷ ks) = 0
place_of (suc p) (k ∷ ks) = cond (eqb k 0) (place_of p ks) (suc (place_of p ks))

module _ {A : Type 0} where
  pub pick_all : (ks : List ℕ) (l : List A) → length l ≤ length ks → ((p : ℕ) → p < length l → Kept ks p) → pick ks l ≡ l
  unfolding pick
  pick_all [] [] h n = refl
  pick_all [] (a ∷ l) h n = absurd (omega arith)
  pick_all (k ∷ ks) [] h n = refl
  pick_all (k ∷ ks) (a ∷ l) h n = rw (ne_eqb k 0 (n 0 (omega arith))) (ap (λ (r : List A). a ∷ r) (pick_all ks l (omega arith) (λ p i. n (suc p) (omega arith))))

  -- what holds of each element holds of each that is picked
  pub pick_each : (P : A → Type 0) (d : A) (ks : List ℕ) (l : List A) → ((i : ℕ) → i < length l → P (get_or l i d)) → (i : ℕ) → i < length (pick ks l) → P (get_or (pick ks l) i d)
  unfolding pick
  pick_each P d [] l f i h = absurd (omega arith)
  pick_each P d (k ∷ ks) [] f i h = absurd (omega arith)
  pick_each P d (k ∷ ks) (a ∷ l) f i h = go (pick_each P d ks l (λ j g. f (suc j) (omega arith))) (eqb k 0) i h
    where
      go : ((i : ℕ) → i < length (pick ks l) → P (get_or (pick ks l) i d)) → (b : Bool) (i : ℕ) → i < length (cond b (pick ks l) (a ∷ pick ks l)) → P (get_or (cond b (pick ks l) (a ∷ pick ks l)) i d)
      go rest true i h = rest i h
      go rest false zero h = f 0 (omega arith)
      go rest false (suc i) h = rest i (omega arith)

  -- a position that is picked, where it then stands
  pub picked_at : (ks : List ℕ) (l : List A) (p : ℕ) (d : A) → length ks ≡ length l → p < length l → Kept ks p → (place_of p ks < length (pick ks l)) × (get_or (pick ks l) (place_of p ks) d ≡ get_or l p d)
  unfolding pick place_of
  picked_at [] l p d e h n = absurd (n refl)
  picked_at (k ∷ ks) [] p d e h n = absurd (omega arith)
  picked_at (k ∷ ks) (a ∷ l) zero d e h n = rw (ne_eqb k 0 n) (omega arith, refl)
  picked_at (k ∷ ks) (a ∷ l) (suc p) d e h n = go (eqb k 0) (picked_at ks l p d (omega arith) (omega arith) n)
    where
      go : (b : Bool) → (place_of p ks < length (pick ks l)) × (get_or (pick ks l) (place_of p ks) d ≡ get_or l p d)
          → (cond b (place_of p ks) (suc (place_of p ks)) < length (cond b (pick ks l) (a ∷ pick ks l))) × (get_or (cond b (pick ks l) (a ∷ pick ks l)) (cond b (place_of p ks) (suc (place_of p ks))) d ≡ get_or l p d)
      go true r = r
      go false r = (omega (arith, r.0), r.1)

  -- ---- picked twice
  pub record Found (a : A) (ks cs : List ℕ) (l : List A) : Type 0 where
    pub at : ℕ
    pub inside : at < length l
    pub is : (d : A) → get_or l at d ≡ a
    pub first : Kept ks at
    pub second : Kept cs (place_of at ks)

  pub found : (a : A) (ks cs : List ℕ) (l : List A) → Member a (pick cs (pick ks l)) → Found a ks cs l
  unfolding Member pick place_of
  found a [] [] l m = absurd m
  found a [] (c ∷ cs) l m = absurd m
  found a (k ∷ ks) [] [] m = absurd m
  found a (k ∷ ks) (c ∷ cs) [] m = absurd m
  found a (k ∷ ks) cs (x ∷ l) m = go (λ cs' m'. found a ks cs' l m') (eqb k 0) refl m
    where
      next : (b : Bool) → eqb k 0 ≡ b → (cs' : List ℕ) → Found a ks cs' l → ((p : ℕ) → Kept cs' p → Kept cs (cond b p (suc p))) → Found a (k ∷ ks) cs (x ∷ l)
      next b t cs' f up = record {
        at = suc f.at;
        inside = omega (arith, f.inside);
        is = f.is;
        first = f.first;
        second = rw t (up (place_of f.at ks) f.second);
      }

      one : ((cs' : List ℕ) → Member a (pick cs' (pick ks l)) → Found a ks cs' l) → eqb k 0 ≡ false → (cs₁ : List ℕ) → cs ≡ cs₁ → Member a (pick cs₁ (x ∷ pick ks l)) → Found a (k ∷ ks) cs (x ∷ l)
      one rest t [] e m = absurd m
      one rest t (c ∷ cs') e m = pass (eqb c 0) refl m
        where
          deeper : Member a (pick cs' (pick ks l)) → Found a (k ∷ ks) cs (x ∷ l)
          deeper m = next false t cs' (rest cs' m) (λ p n. rw e n)

          pass : (b : Bool) → eqb c 0 ≡ b → Member a (cond b (pick cs' (pick ks l)) (x ∷ pick cs' (pick ks l))) → Found a (k ∷ ks) cs (x ∷ l)
          pass true u m = deeper m
          pass false u (inl i) = record { at = 0; inside = omega arith; is = λ d. sym i; first = eqb-false k 0 t; second = rw e (eqb-false c 0 u) }
          pass false u (inr m) = deeper m

      go : ((cs' : List ℕ) → Member a (pick cs' (pick ks l)) → Found a ks cs' l) → (b : Bool) → eqb k 0 ≡ b → Member a (pick cs (cond b (pick ks l) (x ∷ pick ks l))) → Found a (k ∷ ks) cs (x ∷ l)
      go rest true t m = next true t cs (rest cs m) (λ p n. n)
      go rest false t m = one rest t cs refl m

  pub stands : (a : A) (ks cs : List ℕ) (l : List A) (p : ℕ) → length ks ≡ length l → p < length l → ((d : A) → get_or l p d ≡ a) → Kept ks p → Kept cs (place_of p ks) → Member a (pick cs (pick ks l))
  unfolding Member pick place_of
  stands a [] cs l p e h is n c = absurd (n refl)
  stands a (k ∷ ks) cs [] p e h is n c = absurd (omega arith)
  stands a (k ∷ ks) [] (x ∷ l) zero e h is n c = absurd (c refl)
  stands a (k ∷ ks) (j ∷ cs) (x ∷ l) zero e h is n c = rw (ne_eqb k 0 n, ne_eqb j 0 c) (inl (sym (is x)))
  stands a (k ∷ ks) cs (x ∷ l) (suc p) e h is n c = go (λ cs' c'. stands a ks cs' l p (omega arith) (omega arith) is n c') (eqb k 0) c
    where
      inner : ((cs' : List ℕ) → Kept cs' (place_of p ks) → Member a (pick cs' (pick ks l))) → (cs : List ℕ) → Kept cs (suc (place_of p ks)) → Member a (pick cs (x ∷ pick ks l))
      inner rest [] c = absurd (c refl)
      inner rest (j ∷ cs) c = pass (eqb j 0) (rest cs c)
        where
          pass : (b : Bool) → Member a (pick cs (pick ks l)) → Member a (cond b (pick cs (pick ks l)) (x ∷ pick cs (pick ks l)))
          pass true m = m
          pass false m = inr m

      go : ((cs' : List ℕ) → Kept cs' (place_of p ks) → Member a (pick cs' (pick ks l))) → (b : Bool) → Kept cs (cond b (place_of p ks) (suc (place_of p ks))) → Member a (pick cs (cond b (pick ks l) (x ∷ pick ks l)))
      go rest true c = rest cs c
      go rest false c = inner rest cs c

module _ {A B : Type 0} where
  pub pick_map : (f : A → B) (ks : List ℕ) (l : List A) → map f (pick ks l) ≡ pick ks (map f l)
  unfolding pick
  pick_map f [] l = refl
  pick_map f (k ∷ ks) [] = refl
  pick_map f (k ∷ ks) (a ∷ l) = go (eqb k 0) (pick_map f ks l)
    where
      go : (b : Bool) → map f (pick ks l) ≡ pick ks (map f l) → map f (cond b (pick ks l) (a ∷ pick ks l)) ≡ cond b (pick ks (map f l)) (f a ∷ pick ks (map f l))
      go true e = e
      go false e = ap (λ (r : List B). f a ∷ r) e

  pub pick_alike : (ks : List ℕ) (l : List A) (r : List B) → length l ≡ length r → length (pick ks l) ≡ length (pick ks r)
  unfolding pick
  pick_alike [] l r e = refl
  pick_alike (k ∷ ks) [] [] e = refl
  pick_alike (k ∷ ks) [] (b ∷ r) e = absurd (omega arith)
  pick_alike (k ∷ ks) (a ∷ l) [] e = absurd (omega arith)
  pick_alike (k ∷ ks) (a ∷ l) (b ∷ r) e = go (eqb k 0) (pick_alike ks l r (omega arith))
    where
      go : (t : Bool) → length (pick ks l) ≡ length (pick ks r) → length (cond t (pick ks l) (a ∷ pick ks l)) ≡ length (cond t (pick ks r) (b ∷ pick ks r))
      go true e = e
      go false e = ap suc e

-- flags that are picked wherever they are raised
pub pick_flagged : (ks fs : List ℕ) → length ks ≡ length fs → ((q : ℕ) → Kept fs q → Kept ks q) → flagged (pick ks fs) ≡ flagged fs
unfolding pick flagged
pick_flagged [] [] e h = refl
pick_flagged [] (f ∷ fs) e h = absurd (omega arith)
pick_flagged (k ∷ ks) [] e h = refl
pick_flagged (k ∷ ks) (f ∷ fs) e h = go (eqb k 0) refl (eqb f 0) refl (pick_flagged ks fs (omega arith) (λ q. h (suc q)))
  where
    go : (a : Bool) → eqb k 0 ≡ a → (b : Bool) → eqb f 0 ≡ b → flagged (pick ks fs) ≡ flagged fs → flagged (cond a (pick ks fs) (f ∷ pick ks fs)) ≡ cond b (flagged fs) (suc (flagged fs))
    go true u true v r = r
    go true u false v r = absurd (h 0 (eqb-false f 0 v) (eqb-true k 0 u))
    go false u true v r = rw v r
    go false u false v r = rw v (ap suc r)

-- ---- two picks, the second of at least the same: whatever it picks beyond the first is fixed or has a key below k
pub record Beyond (k : ℕ) (xs : List Float) (fs A B : List ℕ) : Type 0 where
  pub fs_long : length fs ≡ length xs
  pub A_long : length A ≡ length xs
  pub B_long : length B ≡ length xs
  pub more : (q : ℕ) → Kept A q → Kept B q
  pub small : (q : ℕ) → q < length xs → get_or fs q 0 ≡ 0 → get_or A q 0 ≡ 0 → key_at xs q < k

module _ (k : ℕ) where
  beyond_rest : (x : Float) (xs : List Float) (f : ℕ) (fs : List ℕ) (a : ℕ) (A : List ℕ) (b : ℕ) (B : List ℕ) → Beyond k (x ∷ xs) (f ∷ fs) (a ∷ A) (b ∷ B) → Beyond k xs fs A B
  beyond_rest x xs f fs a A b B y = record {
    fs_long = omega (arith, y.fs_long);
    A_long = omega (arith, y.A_long);
    B_long = omega (arith, y.B_long);
    more = λ q. y.more (suc q);
    small = λ q h. y.small (suc q) (omega arith);
  }

  over_same : (xs : List Float) (fs A B : List ℕ) → Beyond k xs fs A B → over k (pick A xs) (pick A fs) ≡ over k (pick B xs) (pick B fs)
  unfolding over pick
  over_same [] fs [] [] y = refl
  over_same [] fs [] (b ∷ B) y = absurd (omega (arith, y.B_long))
  over_same [] fs (a ∷ A) B y = absurd (omega (arith, y.A_long))
  over_same (x ∷ xs) [] A B y = absurd (omega (arith, y.fs_long))
  over_same (x ∷ xs) (f ∷ fs) [] B y = absurd (omega (arith, y.A_long))
  over_same (x ∷ xs) (f ∷ fs) (a ∷ A) [] y = absurd (omega (arith, y.B_long))
  over_same (x ∷ xs) (f ∷ fs) (a ∷ A) (b ∷ B) y = go (eqb a 0) refl (eqb b 0) refl (eqb f 0) refl (ltb k (key binary64 x)) refl (over_same xs fs A B (beyond_rest x xs f fs a A b B y))
    where
      go : (s : Bool) → eqb a 0 ≡ s → (t : Bool) → eqb b 0 ≡ t → (g : Bool) → eqb f 0 ≡ g → (l : Bool) → ltb k (key binary64 x) ≡ l → over k (pick A xs) (pick A fs) ≡ over k (pick B xs) (pick B fs)
          → over k (cond s (pick A xs) (x ∷ pick A xs)) (cond s (pick A fs) (f ∷ pick A fs)) ≡ over k (cond t (pick B xs) (x ∷ pick B xs)) (cond t (pick B fs) (f ∷ pick B fs))
      go true u true v g i l j r = r
      go false u true v g i l j r = absurd (y.more 0 (eqb-false a 0 u) (eqb-true b 0 v))
      go false u false v g i l j r = ap (λ (n : ℕ). cond (eqb f 0 && ltb k (key binary64 x)) 1 0 + n) r
      go true u false v false i l j r = rw i (omega (arith, r))
      go true u false v true i false j r = rw (i, j) (omega (arith, r))
      go true u false v true i true j r = absurd (omega (arith, ltb-true k (key binary64 x) j, y.small 0 (omega arith) (eqb-true f 0 i) (eqb-true a 0 u)))

  pub rank_same : (p : ℕ) (xs : List Float) (fs A B : List ℕ) → Beyond k xs fs A B → p < length xs → Kept A p
      → rank_in k (place_of p A) (pick A xs) (pick A fs) ≡ rank_in k (place_of p B) (pick B xs) (pick B fs)
  unfolding rank_in place_of pick
  rank_same p [] fs A B y h n = absurd (omega arith)
  rank_same p (x ∷ xs) [] A B y h n = absurd (omega (arith, y.fs_long))
  rank_same p (x ∷ xs) (f ∷ fs) [] B y h n = absurd (omega (arith, y.A_long))
  rank_same p (x ∷ xs) (f ∷ fs) (a ∷ A) [] y h n = absurd (omega (arith, y.B_long))
  rank_same zero (x ∷ xs) (f ∷ fs) (a ∷ A) (b ∷ B) y h n = rw (ne_eqb a 0 n, ne_eqb b 0 (y.more 0 n)) (over_same xs fs A B (beyond_rest x xs f fs a A b B y))
  rank_same (suc p) (x ∷ xs) (f ∷ fs) (a ∷ A) (b ∷ B) y h n =
      go (eqb a 0) refl (eqb b 0) refl (eqb f 0) refl (leb k (key binary64 x)) refl (rank_same p xs fs A B (beyond_rest x xs f fs a A b B y) (omega arith) n)
    where
      go : (s : Bool) → eqb a 0 ≡ s → (t : Bool) → eqb b 0 ≡ t → (g : Bool) → eqb f 0 ≡ g → (l : Bool) → leb k (key binary64 x) ≡ l
          → rank_in k (place_of p A) (pick A xs) (pick A fs) ≡ rank_in k (place_of p B) (pick B xs) (pick B fs)
          → rank_in k (cond s (place_of p A) (suc (place_of p A))) (cond s (pick A xs) (x ∷ pick A xs)) (cond s (pick A fs) (f ∷ pick A fs))
          ≡ rank_in k (cond t (place_of p B) (suc (place_of p B))) (cond t (pick B xs) (x ∷ pick B xs)) (cond t (pick B fs) (f ∷ pick B fs))
      go true u true v g i l j r = r
      go false u true v g i l j r = absurd (y.more 0 (eqb-false a 0 u) (eqb-true b 0 v))
      go false u false v g i l j r = ap (λ (m : ℕ). cond (eqb f 0 && leb k (key binary64 x)) 1 0 + m) r
      go true u false v false i l j r = rw i (omega (arith, r))
      go true u false v true i false j r = rw (i, j) (omega (arith, r))
      go true u false v true i true j r = absurd (omega (arith, leb-true k (key binary64 x) j, y.small 0 (omega arith) (eqb-true f 0 i) (eqb-true a 0 u)))
