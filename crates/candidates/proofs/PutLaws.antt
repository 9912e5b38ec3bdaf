-- SPDX-FileCopyrightText: 2026 The PPVM Authors
-- SPDX-License-Identifier: Apache-2.0

-- Putting the entries of a list one by one is putting them in the stable order of their words: entries of different words
-- go in either order, and those of one word keep theirs. Assumes nothing.
use mathlib.Core.Path.{◌≡◌, refl, ap, sym, ◌∙◌}
use mathlib.Core.List.{List, [], ◌∷◌, ◌++◌}
use mathlib.Core.Logic.{◌⊎◌, inl, inr}
use mathlib.Core.Bool.{Bool, true, false, cond, true≢false}
use Prim.Native.Nat.{ℕ, zero, suc, ◌/◌, ◌≤◌}
use native.Mathlib.Omega.{arith}
use borrow.Author.Tests.{ltb-false}
use lib.Dec.{ltb}
use lib.ListN.{length, take, drop, take-append-drop, length-take, length-drop}
use Rattle.word.specs.Order.{before}
use Rattle.word.specs.declared.word.Word.{Word}
use Rattle.word.proofs.OrderLaws.{before_self, before_trans, trichotomy}
use Rattle.order.specs.Merge.{merge_head, merge_by, sort_by, ordered}
use Rattle.order.proofs.OrderLaws.{Pairs, WeakOrder, sort_sorted}
use Rattle.candidates.specs.Sums.{Row, row, put_over, put_all}
use Rattle.order.specs.Between.{All}

-- ---- a strict total order, by a test
pub record Strict {W : Type 0} (lt : W → W → Bool) : Type 0 where
  pub trans : (u v w : W) → lt u v ≡ true → lt v w ≡ true → lt u w ≡ true
  pub never : (u : W) → lt u u ≡ false
  pub total : (u v : W) → lt u v ≡ false → lt v u ≡ false → u ≡ v

pub strict : Strict before
strict = record { trans = before_trans; never = before_self; total = total }
  where
    total : (u v : Word) → before u v ≡ false → before v u ≡ false → u ≡ v
    total u v h k = go (trichotomy u v)
      where
        go : (before u v ≡ true) ⊎ ((u ≡ v) ⊎ (before v u ≡ true)) → u ≡ v
        go (inl t) = absurd (true≢false (sym t ∙ h))
        go (inr (inl t)) = t
        go (inr (inr t)) = absurd (true≢false (sym t ∙ k))

-- whether the position y, which stands later, goes before x: its word is less
abbrev pub earlier : {W : Type 0} → (W → W → Bool) → (ℕ → W) → ℕ → ℕ → Bool
earlier lt key y x = lt (key y) (key x)

-- no position goes before one that stands ahead of it
abbrev pub InOrder : (ℕ → ℕ → Bool) → List ℕ → Type 0
InOrder first = Pairs (λ x y. first y x ≡ false)

module _ {W : Type 0} (lt : W → W → Bool) (o : Strict lt) where
  pub asym : (u v : W) → lt u v ≡ true → lt v u ≡ false
  asym u v h = go (lt v u) refl
    where
      go : (s : Bool) → lt v u ≡ s → lt v u ≡ false
      go true e = absurd (true≢false (sym (o.trans u v u h e) ∙ o.never u))
      go false e = e

  -- u is less than v, and v at most w
  pub less_most : (u v w : W) → lt u v ≡ true → lt w v ≡ false → lt u w ≡ true
  less_most u v w h k = go (lt v w) refl
    where
      go : (s : Bool) → lt v w ≡ s → lt u w ≡ true
      go true e = o.trans u v w h e
      go false e = rw (← (o.total v w e k)) h

  -- u is at most v, and v less than w
  most_less : (u v w : W) → lt v u ≡ false → lt v w ≡ true → lt u w ≡ true
  most_less u v w h k = go (lt u v) refl
    where
      go : (s : Bool) → lt u v ≡ s → lt u w ≡ true
      go true e = o.trans u v w e k
      go false e = rw (o.total u v e h) k

  pub most_trans : (u v w : W) → lt v u ≡ false → lt w v ≡ false → lt w u ≡ false
  most_trans u v w h k = go (lt w u) refl
    where
      go : (s : Bool) → lt w u ≡ s → lt w u ≡ false
      go true e = absurd (true≢false (sym (less_most w u v e h) ∙ k))
      go false e = e

module _ {W S : Type 0} (lt : W → W → Bool) (plus : S → S → S) (start : S) where
  -- ---- what putting does at the head
  pub put_past : (w : W) (v : S) (r : Row W S) (rs : List (Row W S)) → lt r.word w ≡ true → put_over lt plus start w v (r ∷ rs) ≡ r ∷ put_over lt plus start w v rs
  unfolding put_over
  put_past w v r rs h = rw h

  pub put_put : (w : W) (v : S) (r : Row W S) (rs : List (Row W S)) → lt r.word w ≡ false → lt w r.word ≡ true → put_over lt plus start w v (r ∷ rs) ≡ row w (plus start v) ∷ r ∷ rs
  unfolding put_over
  put_put w v r rs h k = rw (h, k)

  pub put_add : (w : W) (v : S) (r : Row W S) (rs : List (Row W S)) → lt r.word w ≡ false → lt w r.word ≡ false → put_over lt plus start w v (r ∷ rs) ≡ row r.word (plus r.sum v) ∷ rs
  unfolding put_over
  put_add w v r rs h k = rw (h, k)

  pub put_end : (w : W) (v : S) → put_over lt plus start w v [] ≡ row w (plus start v) ∷ []
  unfolding put_over
  put_end w v = refl

  module _ (o : Strict lt) where
    abbrev put : W → S → List (Row W S) → List (Row W S)
    put = put_over lt plus start

    -- a lesser word is put in at the head
    front : (w : W) (v : S) (r : Row W S) (rs : List (Row W S)) → lt w r.word ≡ true → put w v (r ∷ rs) ≡ row w (plus start v) ∷ r ∷ rs
    front w v r rs h = put_put w v r rs (asym lt o w r.word h) h

    -- entries of different words go in either order, into any table
    pub commute : (u w : W) (x v : S) → lt u w ≡ true → (t : List (Row W S)) → put w v (put u x t) ≡ put u x (put w v t)
    commute u w x v h [] =
        rw (put_end u x, put_end w v, put_past w v (row u (plus start x)) [] h, put_end w v, front u x (row w (plus start v)) [] h)
    commute u w x v h (r ∷ rs) = go (lt r.word u) refl (lt u r.word) refl (lt r.word w) refl (lt w r.word) refl (commute u w x v h rs)
      where
        go : (a : Bool) → lt r.word u ≡ a → (b : Bool) → lt u r.word ≡ b → (c : Bool) → lt r.word w ≡ c → (d : Bool) → lt w r.word ≡ d
            → put w v (put u x rs) ≡ put u x (put w v rs) → put w v (put u x (r ∷ rs)) ≡ put u x (put w v (r ∷ rs))
        go true ea b eb c ec d ed i =
            let z : lt r.word w ≡ true = o.trans r.word u w ea h in
            rw (put_past u x r rs ea, put_past w v r (put u x rs) z, put_past w v r rs z, put_past u x r (put w v rs) ea, i)
        go false ea true eb true ec d ed i =
            rw (put_put u x r rs ea eb, put_past w v (row u (plus start x)) (r ∷ rs) h, put_past w v r rs ec, front u x r (put w v rs) eb)
        go false ea true eb false ec true ed i =
            rw (put_put u x r rs ea eb, put_past w v (row u (plus start x)) (r ∷ rs) h, put_put w v r rs ec ed, front u x (row w (plus start v)) (r ∷ rs) h)
        go false ea true eb false ec false ed i =
            rw (put_put u x r rs ea eb, put_past w v (row u (plus start x)) (r ∷ rs) h, put_add w v r rs ec ed, front u x (row r.word (plus r.sum v)) rs eb)
        go false ea false eb c ec d ed i =
            let z : lt r.word w ≡ true = most_less lt o r.word u w eb h in
            rw (put_add u x r rs ea eb, put_past w v (row r.word (plus r.sum x)) rs z, put_past w v r rs z, put_add u x r (put w v rs) ea eb)

    pub all_append : {A : Type 0} (key : A → W) (val : A → S) (a b : List A) (t : List (Row W S))
        → put_all lt plus start key val (a ++ b) t ≡ put_all lt plus start key val b (put_all lt plus start key val a t)
    unfolding put_all
    all_append key val [] b t = refl
    all_append key val (e ∷ a) b t = all_append key val a b (put (key e) (val e) t)

    put_grows : (w : W) (v : S) (t : List (Row W S)) → length t ≤ length (put w v t)
    unfolding put_over
    put_grows w v [] = omega arith
    put_grows w v (r ∷ t) = go (lt r.word w) (lt w r.word) (put_grows w v t)
      where
        go : (a b : Bool) → length t ≤ length (put w v t) → suc (length t) ≤ length (cond a (r ∷ put w v t) (cond b (row w (plus start v) ∷ r ∷ t) (row r.word (plus r.sum v) ∷ t)))
        go true b i = omega arith
        go false true i = omega arith
        go false false i = omega arith

    pub all_grow : {A : Type 0} (key : A → W) (val : A → S) (l : List A) (t : List (Row W S)) → length t ≤ length (put_all lt plus start key val l t)
    unfolding put_all
    all_grow key val [] t = omega arith
    all_grow key val (e ∷ l) t = omega (arith, put_grows (key e) (val e) t, all_grow key val l (put (key e) (val e) t))

    module _ (key : ℕ → W) (val : ℕ → S) where
      abbrev each : List ℕ → List (Row W S) → List (Row W S)
      each = put_all lt plus start key val

      abbrev first : ℕ → ℕ → Bool
      first = earlier lt key

      abbrev Stay : ℕ → ℕ → Type 0
      Stay x y = first y x ≡ false

      weak_order : WeakOrder (earlier lt key)
      weak_order = record { turned = λ x y p. asym lt o (key y) (key x) p; stays = λ x y z p q. most_trans lt o (key x) (key y) (key z) p q }

      -- an entry y goes before entries of greater words, the first of which is x
      each_past : (y x : ℕ) (xs : List ℕ) (t : List (Row W S)) → lt (key y) (key x) ≡ true → All (Stay x) xs → each xs (put (key y) (val y) t) ≡ put (key y) (val y) (each xs t)
      unfolding put_all All
      each_past y x [] t h a = refl
      each_past y x (z ∷ xs) t h a =
          ap (each xs) (commute (key y) (key z) (val y) (val z) (less_most lt o (key y) (key x) (key z) h a.0) t)
          ∙ each_past y x xs (put (key z) (val z) t) h a.1

      head_puts : (x : ℕ) (xs : List ℕ) → All (Stay x) xs → ((l : List ℕ) (t : List (Row W S)) → each (merge_by first xs l) t ≡ each l (each xs t)) → (ys : List ℕ) (t : List (Row W S))
          → each (merge_head first x (merge_by first xs) ys) t ≡ each ys (each (x ∷ xs) t)
      unfolding put_all merge_head
      head_puts x xs a g [] t = g [] (put (key x) (val x) t)
      head_puts x xs a g (y ∷ ys) t = go (first y x) refl (λ u. head_puts x xs a g ys u)
        where
          go : (b : Bool) → first y x ≡ b → ((u : List (Row W S)) → each (merge_head first x (merge_by first xs) ys) u ≡ each ys (each (x ∷ xs) u))
              → each (cond b (y ∷ merge_head first x (merge_by first xs) ys) (x ∷ merge_by first xs (y ∷ ys))) t ≡ each (y ∷ ys) (each (x ∷ xs) t)
          go true e i =
              i (put (key y) (val y) t)
              ∙ ap (λ (u : List (Row W S)). each ys (each xs u)) (commute (key y) (key x) (val y) (val x) e t)
              ∙ ap (each ys) (each_past y x xs (put (key x) (val x) t) e a)
          go false e i = g (y ∷ ys) (put (key x) (val x) t)

      merge_puts : (xs ys : List ℕ) (t : List (Row W S)) → Pairs Stay xs → each (merge_by first xs ys) t ≡ each ys (each xs t)
      unfolding put_all merge_by Pairs
      merge_puts [] ys t s = refl
      merge_puts (x ∷ xs) ys t s = head_puts x xs s.0 (λ l u. merge_puts xs l u s.1) ys t

      sort_puts : (f : ℕ) (l : List ℕ) (t : List (Row W S)) → length l ≤ f → each (sort_by first f l) t ≡ each l t
      unfolding sort_by
      sort_puts zero l t h = refl
      sort_puts (suc f) l t h = go (ltb (length l) 2) refl (λ m u k. sort_puts f m u k)
        where
          go : (s : Bool) → ltb (length l) 2 ≡ s → ((m : List ℕ) (u : List (Row W S)) → length m ≤ f → each (sort_by first f m) u ≡ each m u)
              → each (cond s l (merge_by first (sort_by first f (take (length l / 2) l)) (sort_by first f (drop (length l / 2) l)))) t ≡ each l t
          go true e i = refl
          go false e i =
              let z : 2 ≤ length l = ltb-false (length l) 2 e in
              let p : length (take (length l / 2) l) ≤ f = rw length-take (omega arith) in
              let q : length (drop (length l / 2) l) ≤ f = rw length-drop (omega arith) in
              merge_puts _ _ t (sort_sorted first weak_order f (take (length l / 2) l) p)
              ∙ i (drop (length l / 2) l) (each (sort_by first f (take (length l / 2) l)) t) q
              ∙ ap (each (drop (length l / 2) l)) (i (take (length l / 2) l) t p)
              ∙ sym (all_append key val (take (length l / 2) l) (drop (length l / 2) l) t)
              ∙ ap (λ (m : List ℕ). each m t) (take-append-drop (length l / 2) l)

      -- the law: a list put in its own order, or in the stable order of its words, gives the same table, whatever the addition
      pub law : (l : List ℕ) (t : List (Row W S)) → put_all lt plus start key val l t ≡ put_all lt plus start key val (ordered (earlier lt key) l) t
      law l t = sym (sort_puts (length l) l t (omega arith))
