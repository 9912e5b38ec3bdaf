-- SPDX-FileCopyrightText: 2026 The PPVM Authors
-- SPDX-License-Identifier: Apache-2.0

-- Rows that pass a test: taken from rows in word order they are in word order, whether they are taken before or after. How many
-- they are, one row more at a time, and moved to the front. Assumes nothing.
use mathlib.Core.Path.{◌≡◌, refl, ap, sym, ◌∙◌}
use mathlib.Core.Bool.{Bool, true, false, cond}
use mathlib.Core.List.{List, [], ◌∷◌, ◌++◌}
use Prim.Native.Nat.{ℕ, zero, suc, ◌+◌, ◌≤◌, ◌<◌}
use native.Mathlib.Numerals.{add-one}
use native.Mathlib.Omega.{arith}
use lib.ListN.{length, get_or, set, take, drop, length-append, length-set}
use lib.Seq.{take_all, take-suc, take-suc-set, drop-set-lt, drop-drop, get_or-drop}
use Rattle.candidates.specs.Sums.{Row, row, put_over, put_all, AllAfter, Rising}
use Rattle.candidates.specs.Between.{those}
use Rattle.candidates.proofs.PutLaws.{Strict, asym}
use Rattle.candidates.proofs.RisingLaws.{after_trans, rising_put}
use Rattle.candidates.proofs.WordOrderLaws.{none_lost, after_front}

-- ---- one element more
module _ {A : Type 0} (p : A → Bool) where
  those_append : (l m : List A) → those p (l ++ m) ≡ those p l ++ those p m
  unfolding those
  those_append [] m = refl
  those_append (a ∷ l) m = go (p a) (those_append l m)
    where
      go : (b : Bool) → those p (l ++ m) ≡ those p l ++ those p m → cond b (a ∷ those p (l ++ m)) (those p (l ++ m)) ≡ cond b (a ∷ those p l) (those p l) ++ those p m
      go true i = ap (λ (t : List A). a ∷ t) i
      go false i = i

  pub those_few : (l : List A) → length (those p l) ≤ length l
  unfolding those
  those_few [] = omega arith
  those_few (a ∷ l) = go (p a) (those_few l)
    where
      go : (b : Bool) → length (those p l) ≤ length l → length (cond b (a ∷ those p l) (those p l)) ≤ suc (length l)
      go true i = omega arith
      go false i = omega arith

  module _ (l : List A) (i : ℕ) (d : A) (h : i < length l) where
    one_more : (b : Bool) → p (get_or l i d) ≡ b → those p (take (i + 1) l) ≡ those p (take i l) ++ cond b (get_or l i d ∷ []) []
    unfolding those
    one_more b e = rw (add-one i, take-suc l i d h) (those_append (take i l) (get_or l i d ∷ []) ∙ ap (λ (c : Bool). those p (take i l) ++ cond c (get_or l i d ∷ []) []) e)

    pub those_takes : p (get_or l i d) ≡ true → those p (take (i + 1) l) ≡ those p (take i l) ++ (get_or l i d ∷ [])
    those_takes e = one_more true e

    pub those_passes : p (get_or l i d) ≡ false → those p (take (i + 1) l) ≡ those p (take i l)
    those_passes e = one_more false e ∙ append_none (those p (take i l))
      where
        append_none : (m : List A) → m ++ [] ≡ m
        append_none [] = refl
        append_none (a ∷ m) = ap (λ (t : List A). a ∷ t) (append_none m)

-- ---- counted
module _ {A : Type 0} (p : A → Bool) (l : List A) where
  -- so many of the first i
  pub record Counting (count i : ℕ) : Type 0 where
    pub few : count ≤ i
    pub counted : count ≡ length (those p (take i l))

  pub counting_start : Counting 0 0
  unfolding those
  counting_start = record { few = omega arith; counted = refl }

  module _ (count i : ℕ) (c : Counting count i) where
    module _ (d : A) (h : i < length l) where
      pub counting_takes : p (get_or l i d) ≡ true → Counting (count + 1) (i + 1)
      counting_takes e =
          let k = ap length (those_takes p l i d h e) ∙ length-append (those p (take i l)) (get_or l i d ∷ []) in
          record { few = omega (arith, c.few); counted = omega (arith, c.counted, k) }

      pub counting_passes : p (get_or l i d) ≡ false → Counting count (i + 1)
      counting_passes e = let k = ap length (those_passes p l i d h e) in record { few = omega (arith, c.few); counted = omega (arith, c.counted, k) }

    pub counting_done : length l ≤ i → count ≡ length (those p l)
    counting_done h = c.counted ∙ ap (λ (t : List A). length (those p t)) (take_all i l h)

-- ---- moved to the front
module _ {A : Type 0} (p : A → Bool) where
  -- the n that pass among the first i stand first, and from i on nothing has moved
  pub record Fronted (l₀ l : List A) (n i : ℕ) : Type 0 where
    pub few : n ≤ i
    pub front : take n l ≡ those p (take i l₀)
    pub back : drop i l ≡ drop i l₀
    pub long : length l ≡ length l₀

  pub fronted_start : (l : List A) → Fronted l l 0 0
  unfolding those
  fronted_start l = record { few = omega arith; front = refl; back = refl; long = refl }

  module _ (l₀ l : List A) (n i : ℕ) (d : A) (m : Fronted l₀ l n i) (h : i < length l₀) where
    -- what stands at i is still the element given
    pub fronted_still : get_or l i d ≡ get_or l₀ i d
    fronted_still =
        let z : i + 0 ≡ i = omega arith in
        sym (ap (λ (k : ℕ). get_or l k d) z) ∙ sym (get_or-drop i l 0 d) ∙ ap (λ (t : List A). get_or t 0 d) m.back ∙ get_or-drop i l₀ 0 d ∙ ap (λ (k : ℕ). get_or l₀ k d) z

    back_more : drop (i + 1) l ≡ drop (i + 1) l₀
    back_more = sym (drop-drop 1 i l) ∙ ap (drop 1) m.back ∙ drop-drop 1 i l₀

    pub fronted_takes : p (get_or l i d) ≡ true → Fronted l₀ (set l n (get_or l i d)) (n + 1) (i + 1)
    fronted_takes e =
        let x : A = get_or l i d in
        record {
          few = omega (arith, m.few);
          front =
              rw (add-one n) (take-suc-set l n x (omega (arith, m.few, m.long)))
              ∙ ap (λ (t : List A). t ++ (x ∷ [])) m.front
              ∙ ap (λ (y : A). those p (take i l₀) ++ (y ∷ [])) fronted_still
              ∙ sym (those_takes p l₀ i d h (ap p (sym fronted_still) ∙ e));
          back = drop-set-lt (i + 1) l n x (omega (arith, m.few)) ∙ back_more;
          long = length-set l n x ∙ m.long;
        }

    pub fronted_passes : p (get_or l i d) ≡ false → Fronted l₀ l n (i + 1)
    fronted_passes e =
        record {
          few = omega (arith, m.few);
          front = m.front ∙ sym (those_passes p l₀ i d h (ap p (sym fronted_still) ∙ e));
          back = back_more;
          long = m.long;
        }

-- ---- in word order
module _ {W S : Type 0} (lt : W → W → Bool) (start : S) (o : Strict lt) (p : Row W S → Bool) where
  abbrev last : S → S → S
  last s v = v

  abbrev lay : W → S → List (Row W S) → List (Row W S)
  lay = put_over lt last start

  abbrev lay_all : List (Row W S) → List (Row W S) → List (Row W S)
  lay_all = put_all lt last start (λ (r : Row W S). r.word) (λ (r : Row W S). r.sum)

  after_those : (w : W) (T : List (Row W S)) → AllAfter lt w T → AllAfter lt w (those p T)
  unfolding AllAfter those
  after_those w [] a = tt
  after_those w (r ∷ T) a = go (p r) (after_those w T a.1)
    where
      go : (b : Bool) → AllAfter lt w (those p T) → AllAfter lt w (cond b (r ∷ those p T) (those p T))
      go true i = (a.0, i)
      go false i = i

  -- a row more, where none is lost
  those_lay : (w : W) (v : S) (T : List (Row W S)) → Rising lt T → length (lay w v T) ≡ suc (length T)
      → those p (lay w v T) ≡ cond (p (row w v)) (lay w v (those p T)) (those p T)
  unfolding put_over those Rising
  those_lay w v [] a l = refl
  those_lay w v (r ∷ T) a l = go (lt r.word w) refl (lt w r.word) refl l (λ m. those_lay w v T a.1 m)
    where
      own : AllAfter lt w (r ∷ T) → (b : Bool) → cond b (row w v ∷ those p (r ∷ T)) (those p (r ∷ T)) ≡ cond b (lay w v (those p (r ∷ T))) (those p (r ∷ T))
      own f true = sym (after_front lt start o (row w v) (those p (r ∷ T)) (after_those w (r ∷ T) f))
      own f false = refl

      past : (b c : Bool) → lt r.word w ≡ true → those p (lay w v T) ≡ cond c (lay w v (those p T)) (those p T)
          → cond b (r ∷ those p (lay w v T)) (those p (lay w v T)) ≡ cond c (lay w v (cond b (r ∷ those p T) (those p T))) (cond b (r ∷ those p T) (those p T))
      past true true e i = rw e (ap (λ (t : List (Row W S)). r ∷ t) i)
      past true false e i = ap (λ (t : List (Row W S)). r ∷ t) i
      past false true e i = i
      past false false e i = i

      go : (x : Bool) → lt r.word w ≡ x → (y : Bool) → lt w r.word ≡ y → length (cond x (r ∷ lay w v T) (cond y (row w v ∷ r ∷ T) (row r.word v ∷ T))) ≡ suc (suc (length T))
          → (length (lay w v T) ≡ suc (length T) → those p (lay w v T) ≡ cond (p (row w v)) (lay w v (those p T)) (those p T))
          → those p (cond x (r ∷ lay w v T) (cond y (row w v ∷ r ∷ T) (row r.word v ∷ T))) ≡ cond (p (row w v)) (lay w v (those p (r ∷ T))) (those p (r ∷ T))
      go true e y f m i = past (p r) (p (row w v)) e (i (omega (arith, m)))
      go false e true f m i = own (unfold AllAfter in (f, after_trans lt last start o w r.word T f a.0)) (p (row w v))
      go false e false f m i = absurd (omega (arith, m))

  pub those_order : (U T : List (Row W S)) → Rising lt T → length (lay_all U T) ≡ length U + length T → those p (lay_all U T) ≡ lay_all (those p U) (those p T)
  unfolding put_all those
  those_order [] T a l = refl
  those_order (r ∷ U) T a l =
      let n : length (lay r.word r.sum T) ≡ suc (length T) = none_lost lt start o r U T l in
      those_order U (lay r.word r.sum T) (rising_put lt last start o r.word r.sum T a) (omega (arith, l, n))
      ∙ ap (lay_all (those p U)) (those_lay r.word r.sum T a n)
      ∙ go (p r)
    where
      go : (b : Bool) → lay_all (those p U) (cond b (lay r.word r.sum (those p T)) (those p T)) ≡ lay_all (cond b (r ∷ those p U) (those p U)) (those p T)
      go true = refl
      go false = refl

  -- ---- how many
  lay_count : (w : W) (v : S) (T : List (Row W S)) → length (lay w v T) ≡ suc (length T) → length (those p (lay w v T)) ≡ cond (p (row w v)) 1 0 + length (those p T)
  unfolding put_over those
  lay_count w v [] l = go (p (row w v))
    where
      go : (b : Bool) → length (cond b (row w v ∷ []) []) ≡ cond b 1 0 + 0
      go true = refl
      go false = refl
  lay_count w v (r ∷ T) l = go (lt r.word w) (lt w r.word) l (λ m. lay_count w v T m)
    where
      one : (b : Bool) (t : List (Row W S)) (s : Row W S) → length (cond b (s ∷ t) t) ≡ cond b 1 0 + length t
      one true t s = omega arith
      one false t s = omega arith

      past : (b : Bool) (k : ℕ) (t u : List (Row W S)) → length t ≡ k + length u → length (cond b (r ∷ t) t) ≡ k + length (cond b (r ∷ u) u)
      past true k t u e = omega arith
      past false k t u e = e

      go : (x y : Bool) → length (cond x (r ∷ lay w v T) (cond y (row w v ∷ r ∷ T) (row r.word v ∷ T))) ≡ suc (suc (length T))
          → (length (lay w v T) ≡ suc (length T) → length (those p (lay w v T)) ≡ cond (p (row w v)) 1 0 + length (those p T))
          → length (those p (cond x (r ∷ lay w v T) (cond y (row w v ∷ r ∷ T) (row r.word v ∷ T)))) ≡ cond (p (row w v)) 1 0 + length (those p (r ∷ T))
      go true y m i = past (p r) (cond (p (row w v)) 1 0) (those p (lay w v T)) (those p T) (i (omega (arith, m)))
      go false true m i = one (p (row w v)) (those p (r ∷ T)) (row w v)
      go false false m i = absurd (omega (arith, m))

  pub those_count : (U T : List (Row W S)) → length (lay_all U T) ≡ length U + length T → length (those p (lay_all U T)) ≡ length (those p U) + length (those p T)
  unfolding put_all those
  those_count [] T l = omega arith
  those_count (r ∷ U) T l =
      let n : length (lay r.word r.sum T) ≡ suc (length T) = none_lost lt start o r U T l in
      go (p r) (lay_count r.word r.sum T n) (those_count U (lay r.word r.sum T) (omega (arith, l, n)))
    where
      go : (b : Bool) → length (those p (lay r.word r.sum T)) ≡ cond b 1 0 + length (those p T)
          → length (those p (lay_all U (lay r.word r.sum T))) ≡ length (those p U) + length (those p (lay r.word r.sum T))
          → length (those p (lay_all U (lay r.word r.sum T))) ≡ length (cond b (r ∷ those p U) (those p U)) + length (those p T)
      go true e i = omega arith
      go false e i = omega arith

-- ---- rows whose words rise
module _ {W S : Type 0} (lt : W → W → Bool) (o : Strict lt) (d : Row W S) where
  after_at : (w : W) (T : List (Row W S)) (k : ℕ) → AllAfter lt w T → k < length T → lt w (get_or T k d).word ≡ true
  unfolding AllAfter
  after_at w [] k a h = absurd (omega arith)
  after_at w (r ∷ T) zero a h = a.0
  after_at w (r ∷ T) (suc k) a h = after_at w T k a.1 (omega arith)

  pub rising_at : (T : List (Row W S)) (i k : ℕ) → Rising lt T → i < k → k < length T → lt (get_or T i d).word (get_or T k d).word ≡ true
  unfolding Rising
  rising_at [] i k a h l = absurd (omega arith)
  rising_at (r ∷ T) i zero a h l = absurd (omega arith)
  rising_at (r ∷ T) zero (suc k) a h l = after_at r.word T k a.0 (omega arith)
  rising_at (r ∷ T) (suc i) (suc k) a h l = rising_at T i k a.1 (omega arith) (omega arith)

  none_before : (w : W) (T : List (Row W S)) → AllAfter lt w T → those (λ (u : Row W S). lt u.word w) T ≡ []
  unfolding AllAfter those
  none_before w [] a = refl
  none_before w (r ∷ T) a = rw (asym lt o w r.word a.0) (none_before w T a.1)

  -- as many words are before one as its place says
  pub before_count : (T : List (Row W S)) (k : ℕ) → Rising lt T → k < length T → length (those (λ (u : Row W S). lt u.word (get_or T k d).word) T) ≡ k
  unfolding Rising those
  before_count [] k a h = absurd (omega arith)
  before_count (r ∷ T) zero a h = rw (o.never r.word) (ap length (none_before r.word T a.0))
  before_count (r ∷ T) (suc k) a h = rw (after_at r.word T k a.0 (omega arith)) (ap suc (before_count T k a.1 (omega arith)))
