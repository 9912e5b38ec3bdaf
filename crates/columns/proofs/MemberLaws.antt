-- SPDX-FileCopyrightText: 2026 The PPVM Authors
-- SPDX-License-Identifier: Apache-2.0

-- The entries of a generator, exactly: each stands for a term of a basis word's action whose word is in the basis, and each such
-- term has its entry; where the words of the basis differ, a word's place is the one position where it stands. Assumes nothing.
use mathlib.Core.Path.{◌≡◌, refl, sym, ap, ◌∙◌}
use mathlib.Core.Bool.{Bool, true, false, not, cond}
use mathlib.Core.Logic.{◌⊎◌, inl, inr, ⊎_elim}
use mathlib.Core.List.{List, [], ◌∷◌, ◌++◌}
use Prim.Native.Nat.{ℕ, zero, suc, ◌+◌, ◌-◌, ◌≤◌, ◌<◌}
use native.Mathlib.Omega.{arith}
use native.Mathlib.Decide.{ℕ_discrete}
use borrow.Author.Tests.{eqb-false, ne_eqb}
use lib.Dec.{eqb}
use lib.Ieee.{Float}
use lib.ListN.{length, get_or}
use Rattle.word.specs.Word.{identity}
use Rattle.word.specs.declared.word.Word.{Word}
use Rattle.slots.specs.Slots.{last_of}
use Rattle.slots.proofs.PlaceLaws.{last_inside, last_word, last_after, last_among}
use Rattle.model.specs.Stored.{ModelTables}
use Rattle.model.specs.Terms.{Term}
use Rattle.model.specs.declared.stored.Model.{Model}
use Rattle.lent.proofs.Firsts.{first_before}
use Rattle.action.specs.Acts.{action_of}
use Rattle.columns.specs.Entries.{Entry, entry}
use Rattle.columns.specs.Columns.{place_in, column_entries, columns_from, generator_of}
use Rattle.order.specs.Members.{Member}
use Rattle.columns.specs.Repeats.{repeats_at, first_repeat}
use Rattle.columns.specs.Between.{Entered}

-- ---- lists one after another
module _ {A : Type 0} (a : A) where
  pub member_left : (l k : List A) → Member a l → Member a (l ++ k)
  unfolding Member
  member_left [] k h = absurd h
  member_left (x ∷ l) k (inl e) = inl e
  member_left (x ∷ l) k (inr h) = inr (member_left l k h)

  pub member_right : (l k : List A) → Member a k → Member a (l ++ k)
  unfolding Member
  member_right [] k h = h
  member_right (x ∷ l) k h = inr (member_right l k h)

  pub member_either : (l k : List A) → Member a (l ++ k) → Member a l ⊎ Member a k
  unfolding Member
  member_either [] k h = inr h
  member_either (x ∷ l) k (inl e) = inl (inl e)
  member_either (x ∷ l) k (inr h) = ⊎_elim (λ i. inl (inr i)) (λ i. inr i) (member_either l k h)

-- ---- one column
-- a term whose word stands at row r, with its real part
pub record Found (bs : List Word) (L : List Term) (r : ℕ) (v : Float) : Type 0 where
  pub term : Term
  pub reached : Member term L
  pub place : place_in bs term.word ≡ suc r
  pub value : v ≡ term.num.re

found_later : (bs : List Word) (t : Term) (L : List Term) (r : ℕ) (v : Float) → Found bs L r v → Found bs (t ∷ L) r v
unfolding Member
found_later bs t L r v f = record { term = f.term; reached = inr f.reached; place = f.place; value = f.value }

column_found : (bs : List Word) (c : ℕ) (L : List Term) (e : Entry) → Member e (column_entries bs c L) → (e.column ≡ c) × Found bs L e.row e.value
unfolding Member column_entries
column_found bs c [] e h = absurd h
column_found bs c (t ∷ L) e h = go (eqb (place_in bs t.word) 0) refl h (column_found bs c L e)
  where
    later : ((e.column ≡ c) × Found bs L e.row e.value) → (e.column ≡ c) × Found bs (t ∷ L) e.row e.value
    later k = (k.0, found_later bs t L e.row e.value k.1)

    go : (b : Bool) → eqb (place_in bs t.word) 0 ≡ b → Member e (cond b (column_entries bs c L) (entry (place_in bs t.word - 1) c t.num.re ∷ column_entries bs c L))
        → (Member e (column_entries bs c L) → (e.column ≡ c) × Found bs L e.row e.value) → (e.column ≡ c) × Found bs (t ∷ L) e.row e.value
    go true f h i = later (i h)
    go false f (inr h) i = later (i h)
    go false f (inl q) i =
        let z = eqb-false (place_in bs t.word) 0 f in
        let w : e.row ≡ place_in bs t.word - 1 = ap (λ (x : Entry). x.row) q in
        (ap (λ (x : Entry). x.column) q, record { term = t; reached = inl refl; place = omega (arith, w, z); value = ap (λ (x : Entry). x.value) q })

column_enters : (bs : List Word) (c r : ℕ) (v : Float) (L : List Term) (t : Term) → Member t L → place_in bs t.word ≡ suc r → v ≡ t.num.re → Member (entry r c v) (column_entries bs c L)
unfolding Member column_entries
column_enters bs c r v [] t h p q = absurd h
column_enters bs c r v (u ∷ L) t (inl e) p q =
    let n : place_in bs u.word ≡ suc r = ap (λ (x : Term). place_in bs x.word) (sym e) ∙ p in
    let i : place_in bs u.word - 1 ≡ r = omega (arith, n) in
    let w : v ≡ u.num.re = q ∙ ap (λ (x : Term). x.num.re) e in
    rw (ne_eqb (place_in bs u.word) 0 (λ z. omega (arith, n, z)), i, w) (inl refl)
column_enters bs c r v (u ∷ L) t (inr h) p q = go (eqb (place_in bs u.word) 0) (column_enters bs c r v L t h p q)
  where
    go : (b : Bool) → Member (entry r c v) (column_entries bs c L) → Member (entry r c v) (cond b (column_entries bs c L) (entry (place_in bs u.word - 1) c u.num.re ∷ column_entries bs c L))
    go true i = i
    go false i = inr i

-- ---- all columns
module _ (act : Word → List Term) (bs : List Word) where
  -- the column of an entry
  record Standing (e : Entry) (c : ℕ) (ps : List Word) : Type 0 where
    pub at : ℕ
    pub low : at < length ps
    pub column : e.column ≡ c + at
    pub found : Found bs (act (get_or ps at identity)) e.row e.value

  columns_found : (e : Entry) (c : ℕ) (ps : List Word) → Member e (columns_from act bs c ps) → Standing e c ps
  unfolding Member columns_from
  columns_found e c [] h = absurd h
  columns_found e c (p ∷ ps) h = go (member_either e (column_entries bs c (act p)) (columns_from act bs (suc c) ps) h) (columns_found e (suc c) ps)
    where
      go : Member e (column_entries bs c (act p)) ⊎ Member e (columns_from act bs (suc c) ps) → (Member e (columns_from act bs (suc c) ps) → Standing e (suc c) ps) → Standing e c (p ∷ ps)
      go (inl k) i = let f = column_found bs c (act p) e k in record { at = 0; low = omega arith; column = omega (arith, f.0); found = f.1 }
      go (inr k) i = let s = i k in record { at = suc s.at; low = omega (arith, s.low); column = omega (arith, s.column); found = s.found }

  columns_enter : (c r k : ℕ) (v : Float) (ps : List Word) (t : Term) → k < length ps → Member t (act (get_or ps k identity)) → place_in bs t.word ≡ suc r → v ≡ t.num.re → Member (entry r (c + k) v) (columns_from act bs c ps)
  unfolding columns_from
  columns_enter c r k v [] t h m p q = absurd (omega arith)
  columns_enter c r zero v (w ∷ ps) t h m p q =
      let z : c + 0 ≡ c = omega arith in
      rw z (member_left (entry r c v) (column_entries bs c (act w)) (columns_from act bs (suc c) ps) (column_enters bs c r v (act w) t m p q))
  columns_enter c r (suc k) v (w ∷ ps) t h m p q =
      let z : c + suc k ≡ suc c + k = omega arith in
      rw z (member_right (entry r (suc c + k) v) (column_entries bs c (act w)) (columns_from act bs (suc c) ps) (columns_enter (suc c) r k v ps t (omega arith) m p q))

-- an entry of the generator is exactly a term whose word is in the basis
module _ (m : Model) (t : ModelTables) (bs : List Word) (r c : ℕ) (v : Float) where
  pub entered : Member (entry r c v) (generator_of m t bs) → Entered (action_of m t) bs r c v
  unfolding generator_of
  entered h =
      let s = columns_found (action_of m t) bs (entry r c v) 0 bs h in
      let e : c ≡ s.at = omega (arith, s.column) in
      let f : Found bs (action_of m t (get_or bs c identity)) r v = rw e s.found in
      record { low = omega (arith, e, s.low); term = f.term; reached = f.reached; place = f.place; value = f.value }

  pub enters : Entered (action_of m t) bs r c v → Member (entry r c v) (generator_of m t bs)
  unfolding generator_of
  enters e =
      let z : 0 + c ≡ c = omega arith in
      rw z at (columns_enter (action_of m t) bs 0 r c v bs e.term e.low e.reached e.place e.value)

-- ---- where the words differ
pub same_place : (bs : List Word) → first_repeat bs ≡ length bs → (i j : ℕ) → i < j → j < length bs → get_or bs i identity ≡ get_or bs j identity → ⊥
unfolding first_repeat repeats_at
same_place bs d i j h l e =
    let w : Word = get_or bs j identity in
    let n : repeats_at bs j ≡ false = first_before (length bs) (repeats_at bs) j (omega (arith, d)) in
    let a = last_after w bs j i h e in
    let z : not (eqb (last_of w bs j) 0) ≡ false = last_among w bs j (omega arith) ∙ n in
    let f : not (eqb (last_of w bs j) 0) ≡ true = ap not (ne_eqb (last_of w bs j) 0 (λ q. omega (arith, a, q))) in
    let y : true ≡ false = sym f ∙ z in
    let o : ◌≡◌ {A = ℕ} 0 1 = cc in
    omega arith

pub place_is : (bs : List Word) → first_repeat bs ≡ length bs → (r : ℕ) → r < length bs → place_in bs (get_or bs r identity) ≡ suc r
place_is bs d r h = go (place_in bs w) refl
  where
    w : Word
    w = get_or bs r identity

    go : (p : ℕ) → place_in bs w ≡ p → p ≡ suc r
    go zero e = let a = last_after w bs (length bs) r h refl in absurd (omega (arith, a, e))
    go (suc q) e =
        let a = last_after w bs (length bs) r h refl in
        let i = last_inside w bs (length bs) in
        let s = last_word w bs (length bs) q e in
        later q e a i s (ℕ_discrete q r)
      where
        later : (q : ℕ) → place_in bs w ≡ suc q → suc r ≤ place_in bs w → place_in bs w ≤ length bs → get_or bs q identity ≡ w → Dec (q ≡ r) → suc q ≡ suc r
        later q e a i s (yes z) = ap suc z
        later q e a i s (no z) = absurd (same_place bs d r q (omega (arith, a, e)) (omega (arith, i, e)) (sym s))

-- the word of a place
pub place_word : (bs : List Word) (w : Word) (r : ℕ) → place_in bs w ≡ suc r → (r < length bs) × (get_or bs r identity ≡ w)
place_word bs w r e = let i = last_inside w bs (length bs) in (omega (arith, i, e), last_word w bs (length bs) r e)
