-- SPDX-FileCopyrightText: 2026 The PPVM Authors
-- SPDX-License-Identifier: Apache-2.0

-- The order of words is a strict total order, and equality is its tie; over any number of lanes. Assumes nothing.
use mathlib.Core.Path.{◌≡◌, refl, sym, ap, ap₂, ◌∙◌}
use mathlib.Core.Bool.{true, false}
use mathlib.Core.Logic.{◌⊎◌, inl, inr}
use mathlib.Core.List.{List, [], ◌∷◌}
use Prim.Native.Nat.{ℕ, zero, suc, ◌<◌}
use native.Mathlib.Omega.{arith}
use native.Mathlib.Decide.{ℕ_discrete}
use lib.ListN.{length, get_or}
use borrow.Author.Tests.{lt-ltb, le-ltb}
use Rattle.word.specs.declared.word.Word.{Word}
use Rattle.std.specs.declared.cmp.Ordering.{Ordering}
use Rattle.std.specs.declared.cmp.Ordering.TheVariants.{Less, Equal, Greater}
use Rattle.std.specs.Ordering.{ordering_reverse, nat_cmp}
use Rattle.std.specs.Cmp.{nat_cmp_is}
use Rattle.word.specs.Order.{compare_then, compare_lanes, compare, is_equal, is_less, before, same}
use Rattle.word.proofs.Words.{word_eq}

-- ---- two numbers
abbrev Three : ℕ → ℕ → Type 0
Three a b = (a < b) ⊎ ((a ≡ b) ⊎ (b < a))

three : (a b : ℕ) → Three a b
three zero zero = inr (inl refl)
three zero (suc b) = inl (omega arith)
three (suc a) zero = inr (inr (omega arith))
three (suc a) (suc b) = up (three a b)
  where
    up : Three a b → Three (suc a) (suc b)
    up (inl h) = inl (omega arith)
    up (inr (inl h)) = inr (inl (ap suc h))
    up (inr (inr h)) = inr (inr (omega arith))

at_less : (a b : ℕ) (o : Ordering) → a < b → compare_then a b o ≡ Less
unfolding compare_then
at_less a b o h = simp (lt-ltb a b h)

at_same : (a b : ℕ) (o : Ordering) → a ≡ b → compare_then a b o ≡ o
unfolding compare_then
at_same a b o h = simp (le-ltb a b (omega arith), le-ltb b a (omega arith))

at_more : (a b : ℕ) (o : Ordering) → b < a → compare_then a b o ≡ Greater
unfolding compare_then
at_more a b o h = simp (le-ltb a b (omega arith), lt-ltb b a h)

-- two numbers compared by the library
pub by_numbers : (a b : ℕ) → nat_cmp a b ≡ compare_then a b Equal
by_numbers a b = go (three a b)
  where
    go : Three a b → nat_cmp a b ≡ compare_then a b Equal
    go (inl h) = sym (nat_cmp_is a b Less h) ∙ sym (at_less a b Equal h)
    go (inr (inl h)) = sym (nat_cmp_is a b Equal h) ∙ sym (at_same a b Equal h)
    go (inr (inr h)) = sym (nat_cmp_is a b Greater h) ∙ sym (at_more a b Equal h)

-- ---- the first difference decides, and nothing after it counts
decides : (a b : ℕ) (o p : Ordering) → (a ≡ b → ⊥) → compare_then a b o ≡ compare_then a b p
decides a b o p n = go (three a b)
  where
    go : Three a b → compare_then a b o ≡ compare_then a b p
    go (inl h) = at_less a b o h ∙ sym (at_less a b p h)
    go (inr (inl h)) = absurd (n h)
    go (inr (inr h)) = at_more a b o h ∙ sym (at_more a b p h)

-- the lanes below k are equal
pub record Alike (l m : List ℕ) (k : ℕ) : Type 0 where
  pub at : (i : ℕ) → i < k → get_or l i 0 ≡ get_or m i 0

pub alike_none : {l m : List ℕ} → Alike l m 0
alike_none = record { at = λ i h. absurd (omega arith) }

pub alike_more : {l m : List ℕ} {k : ℕ} → Alike l m k → get_or l k 0 ≡ get_or m k 0 → Alike l m (suc k)
alike_more {l} {m} {k} s e = record { at = λ i h. go i h (ℕ_discrete i k) }
  where
    go : (i : ℕ) → i < suc k → Dec (i ≡ k) → get_or l i 0 ≡ get_or m i 0
    go i h (yes z) = rw z e
    go i h (no z) = s.at i (omega arith)

pub first_differs : (k : ℕ) (l m : List ℕ) (o p : Ordering) → k < length l → k < length m
    → Alike l m k → (get_or l k 0 ≡ get_or m k 0 → ⊥) → compare_then (get_or l k 0) (get_or m k 0) p ≡ compare_lanes l m o
unfolding compare_lanes
first_differs k [] m o p hl hm s n = absurd (omega arith)
first_differs k (a ∷ l) [] o p hl hm s n = absurd (omega arith)
first_differs zero (a ∷ l) (b ∷ m) o p hl hm s n = decides a b p (compare_lanes l m o) n
first_differs (suc k) (a ∷ l) (b ∷ m) o p hl hm s n =
    first_differs k l m o p (omega arith) (omega arith) (record { at = λ i h. s.at (suc i) (omega arith) }) n
    ∙ sym (at_same a b (compare_lanes l m o) (s.at 0 (omega arith)))

pub last_lane : (k : ℕ) (l m : List ℕ) (o : Ordering) → length l ≡ suc k → length m ≡ suc k
    → Alike l m k → compare_then (get_or l k 0) (get_or m k 0) o ≡ compare_lanes l m o
unfolding compare_lanes
last_lane k [] m o hl hm s = absurd (omega arith)
last_lane k (a ∷ l) [] o hl hm s = absurd (omega arith)
last_lane zero (a ∷ []) (b ∷ []) o hl hm s = refl
last_lane zero (a ∷ []) (b ∷ c ∷ m) o hl hm s = absurd (omega arith)
last_lane zero (a ∷ c ∷ l) (b ∷ m) o hl hm s = absurd (omega arith)
last_lane (suc k) (a ∷ l) (b ∷ m) o hl hm s =
    last_lane k l m o (omega arith) (omega arith) (record { at = λ i h. s.at (suc i) (omega arith) })
    ∙ sym (at_same a b (compare_lanes l m o) (s.at 0 (omega arith)))

-- lanes that are all equal decide nothing
pub all_alike : (l m : List ℕ) (o : Ordering) → length l ≡ length m → Alike l m (length l) → o ≡ compare_lanes l m o
unfolding compare_lanes
all_alike [] [] o e s = refl
all_alike [] (b ∷ m) o e s = absurd (omega arith)
all_alike (a ∷ l) [] o e s = absurd (omega arith)
all_alike (a ∷ l) (b ∷ m) o e s =
    all_alike l m o (omega arith) (record { at = λ i h. s.at (suc i) (omega arith) })
    ∙ sym (at_same a b (compare_lanes l m o) (s.at 0 (omega arith)))

pub x_decides : (p q : Word) (r : Ordering) → r ≡ compare_lanes p.x q.x (compare_lanes p.z q.z Equal) → r ≡ compare p q
unfolding compare
x_decides p q r h = h

-- ---- turned round
turn_at : (a b : ℕ) (o p : Ordering) → p ≡ ordering_reverse o → compare_then b a p ≡ ordering_reverse (compare_then a b o)
turn_at a b o p e = go (three a b)
  where
    go : Three a b → compare_then b a p ≡ ordering_reverse (compare_then a b o)
    go (inl h) = at_more b a p h ∙ sym (ap ordering_reverse (at_less a b o h))
    go (inr (inl h)) = at_same b a p (sym h) ∙ e ∙ sym (ap ordering_reverse (at_same a b o h))
    go (inr (inr h)) = at_less b a p h ∙ sym (ap ordering_reverse (at_more a b o h))

turn_lanes : (xs ys : List ℕ) (o p : Ordering) → p ≡ ordering_reverse o → compare_lanes ys xs p ≡ ordering_reverse (compare_lanes xs ys o)
unfolding compare_lanes
turn_lanes [] [] o p e = e
turn_lanes [] (y ∷ ys) o p e = refl
turn_lanes (x ∷ xs) [] o p e = refl
turn_lanes (x ∷ xs) (y ∷ ys) o p e = turn_at x y (compare_lanes xs ys o) (compare_lanes ys xs p) (turn_lanes xs ys o p e)

-- ---- equal
same_lanes : (xs : List ℕ) (o : Ordering) → compare_lanes xs xs o ≡ o
unfolding compare_lanes
same_lanes [] o = refl
same_lanes (x ∷ xs) o = at_same x x (compare_lanes xs xs o) refl ∙ same_lanes xs o

equal_at : (a b : ℕ) (o : Ordering) → compare_then a b o ≡ Equal → (a ≡ b) × (o ≡ Equal)
equal_at a b o e = go (three a b)
  where
    go : Three a b → (a ≡ b) × (o ≡ Equal)
    go (inl h) = let l = at_less a b o h in let z : ◌≡◌ {A = ℕ} 0 1 = cc in absurd (omega arith)
    go (inr (inl h)) = (h, sym (at_same a b o h) ∙ e)
    go (inr (inr h)) = let l = at_more a b o h in let z : ◌≡◌ {A = ℕ} 0 1 = cc in absurd (omega arith)

equal_lanes : (xs ys : List ℕ) (o : Ordering) → compare_lanes xs ys o ≡ Equal → (xs ≡ ys) × (o ≡ Equal)
unfolding compare_lanes
equal_lanes [] [] o e = (refl, e)
equal_lanes [] (y ∷ ys) o e = let z : ◌≡◌ {A = ℕ} 0 1 = cc in absurd (omega arith)
equal_lanes (x ∷ xs) [] o e = let z : ◌≡◌ {A = ℕ} 0 1 = cc in absurd (omega arith)
equal_lanes (x ∷ xs) (y ∷ ys) o e =
    let h = equal_at x y (compare_lanes xs ys o) e in
    let k = equal_lanes xs ys o h.1 in
    (ap₂ ◌∷◌ h.0 k.0, k.1)

-- ---- less
less_at : (a b : ℕ) (o : Ordering) → compare_then a b o ≡ Less → (a < b) ⊎ ((a ≡ b) × (o ≡ Less))
less_at a b o e = go (three a b)
  where
    go : Three a b → (a < b) ⊎ ((a ≡ b) × (o ≡ Less))
    go (inl h) = inl h
    go (inr (inl h)) = inr (h, sym (at_same a b o h) ∙ e)
    go (inr (inr h)) = let l = at_more a b o h in let z : ◌≡◌ {A = ℕ} 0 1 = cc in absurd (omega arith)

trans_at : (a b c : ℕ) (o p r : Ordering) → (o ≡ Less → p ≡ Less → r ≡ Less)
    → (a < b) ⊎ ((a ≡ b) × (o ≡ Less)) → (b < c) ⊎ ((b ≡ c) × (p ≡ Less)) → compare_then a c r ≡ Less
trans_at a b c o p r t (inl h) (inl k) = at_less a c r (omega arith)
trans_at a b c o p r t (inl h) (inr k) = at_less a c r (omega arith)
trans_at a b c o p r t (inr h) (inl k) = at_less a c r (omega arith)
trans_at a b c o p r t (inr h) (inr k) = at_same a c r (omega arith) ∙ t h.1 k.1

trans_lanes : (xs ys zs : List ℕ) (o p r : Ordering) → (o ≡ Less → p ≡ Less → r ≡ Less)
    → compare_lanes xs ys o ≡ Less → compare_lanes ys zs p ≡ Less → compare_lanes xs zs r ≡ Less
unfolding compare_lanes
trans_lanes [] [] [] o p r t e f = t e f
trans_lanes [] [] (z ∷ zs) o p r t e f = refl
trans_lanes [] (y ∷ ys) [] o p r t e f = let z : ◌≡◌ {A = ℕ} 0 1 = cc in absurd (omega arith)
trans_lanes [] (y ∷ ys) (z ∷ zs) o p r t e f = refl
trans_lanes (x ∷ xs) [] [] o p r t e f = e
trans_lanes (x ∷ xs) [] (z ∷ zs) o p r t e f = let z : ◌≡◌ {A = ℕ} 0 1 = cc in absurd (omega arith)
trans_lanes (x ∷ xs) (y ∷ ys) [] o p r t e f = f
trans_lanes (x ∷ xs) (y ∷ ys) (z ∷ zs) o p r t e f =
    trans_at x y z _ _ _ (trans_lanes xs ys zs o p r t) (less_at x y _ e) (less_at y z _ f)

-- ---- words
pub compare_self : (p : Word) → compare p p ≡ Equal
unfolding compare
compare_self p = same_lanes p.x _ ∙ same_lanes p.z Equal

-- equality is the tie
pub compare_equal : (p q : Word) → compare p q ≡ Equal → p ≡ q
unfolding compare
compare_equal p q e =
    let h = equal_lanes p.x q.x _ e in
    word_eq h.0 (equal_lanes p.z q.z Equal h.1).0

compare_turned : (p q : Word) → compare q p ≡ ordering_reverse (compare p q)
unfolding compare
compare_turned p q = turn_lanes p.x q.x _ _ (turn_lanes p.z q.z Equal Equal refl)

compare_trans : (p q r : Word) → compare p q ≡ Less → compare q r ≡ Less → compare p r ≡ Less
unfolding compare
compare_trans p q r = trans_lanes p.x q.x r.x _ _ _ (trans_lanes p.z q.z r.z Equal Equal Equal (λ e f. e))

is_less_lem : (o : Ordering) → is_less o ≡ true → o ≡ Less
is_less_lem Less h = refl
is_less_lem Equal h = cc
is_less_lem Greater h = cc

is_equal_lem : (o : Ordering) → is_equal o ≡ true → o ≡ Equal
is_equal_lem Less h = cc
is_equal_lem Equal h = refl
is_equal_lem Greater h = cc

-- irreflexive, transitive, and one of three
pub before_self : (p : Word) → before p p ≡ false
before_self p = ap is_less (compare_self p)

pub before_trans : (p q r : Word) → before p q ≡ true → before q r ≡ true → before p r ≡ true
before_trans p q r h k = ap is_less (compare_trans p q r (is_less_lem (compare p q) h) (is_less_lem (compare q r) k))

pub before_turned : (p q : Word) → before p q ≡ true → before q p ≡ false
before_turned p q h = ap is_less (compare_turned p q ∙ ap ordering_reverse (is_less_lem (compare p q) h))

pub trichotomy : (p q : Word) → (before p q ≡ true) ⊎ ((p ≡ q) ⊎ (before q p ≡ true))
trichotomy p q = go (compare p q) refl
  where
    go : (o : Ordering) → compare p q ≡ o → (before p q ≡ true) ⊎ ((p ≡ q) ⊎ (before q p ≡ true))
    go Less e = inl (ap is_less e)
    go Equal e = inr (inl (compare_equal p q e))
    go Greater e = inr (inr (ap is_less (compare_turned p q ∙ ap ordering_reverse e)))

pub same_self : (p : Word) → same p p ≡ true
same_self p = ap is_equal (compare_self p)

pub same_eq : (p q : Word) → same p q ≡ true → p ≡ q
same_eq p q h = compare_equal p q (is_equal_lem (compare p q) h)
