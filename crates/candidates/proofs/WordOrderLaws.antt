-- SPDX-FileCopyrightText: 2026 The PPVM Authors
-- SPDX-License-Identifier: Apache-2.0

-- Rows put into word order, where of equal words the last stays. An entry added to a row where it stands, or put behind all rows where its
-- word is new, is the entry put in word order. Where no row is lost, a list in order is itself, and each of its rows is in the order. Over
-- any words, sums and addition. Assumes nothing.
use mathlib.Core.Path.{◌≡◌, refl, ap, sym, ◌∙◌}
use mathlib.Core.List.{List, [], ◌∷◌, ◌++◌, append_assoc, append-nil}
use mathlib.Core.Bool.{Bool, true, false, cond, true≢false}
use Prim.Native.Nat.{ℕ, zero, suc, ◌+◌, ◌≤◌, ◌<◌}
use native.Mathlib.Omega.{arith}
use lib.ListN.{length, get_or}
use Rattle.candidates.specs.Sums.{Row, row, put_over, put_all, AllAfter, Rising}
use Rattle.candidates.proofs.PutLaws.{Strict, put_past, put_put, put_add, put_end, commute, all_append}

-- ---- rows that pass a test
unfoldable pub Each : {W S : Type 0} → (Row W S → Type 0) → List (Row W S) → Type 0
Each P [] = Unit {0}
Each P (r ∷ rs) = P r × Each P rs

module _ {W S : Type 0} (P : Row W S → Type 0) where
  pub each_by : (d : Row W S) (T : List (Row W S)) → ((k : ℕ) → k < length T → P (get_or T k d)) → Each P T
  unfolding Each
  each_by d [] h = tt
  each_by d (r ∷ T) h = (h 0 (omega arith), each_by d T (λ k l. h (suc k) (omega arith)))

  pub each_at : (d : Row W S) (T : List (Row W S)) (k : ℕ) → Each P T → k < length T → P (get_or T k d)
  unfolding Each
  each_at d [] k a h = absurd (omega arith)
  each_at d (r ∷ T) zero a h = a.0
  each_at d (r ∷ T) (suc k) a h = each_at d T k a.1 (omega arith)

  each_mid : (T : List (Row W S)) (r : Row W S) (U : List (Row W S)) → Each P (T ++ (r ∷ U)) → P r
  unfolding Each
  each_mid [] r U a = a.0
  each_mid (t ∷ T) r U a = each_mid T r U a.1

module _ {W S : Type 0} (lt : W → W → Bool) (start : S) (o : Strict lt) where
  abbrev last : S → S → S
  last s v = v

  -- of equal words the last stays
  abbrev lay : W → S → List (Row W S) → List (Row W S)
  lay = put_over lt last start

  abbrev lay_all : List (Row W S) → List (Row W S) → List (Row W S)
  lay_all = put_all lt last start (λ (r : Row W S). r.word) (λ (r : Row W S). r.sum)

  abbrev Other : W → Row W S → Type 0
  Other w r = r.word ≡ w → ⊥

  -- ---- lengths
  lay_most : (w : W) (v : S) (T : List (Row W S)) → length (lay w v T) ≤ suc (length T)
  unfolding put_over
  lay_most w v [] = omega arith
  lay_most w v (r ∷ T) = go (lt r.word w) (lt w r.word) (lay_most w v T)
    where
      go : (a b : Bool) → length (lay w v T) ≤ suc (length T) → length (cond a (r ∷ lay w v T) (cond b (row w v ∷ r ∷ T) (row r.word v ∷ T))) ≤ suc (suc (length T))
      go true b i = omega arith
      go false true i = omega arith
      go false false i = omega arith

  all_most : (U T : List (Row W S)) → length (lay_all U T) ≤ length U + length T
  unfolding put_all
  all_most [] T = omega arith
  all_most (r ∷ U) T = omega (arith, all_most U (lay r.word r.sum T), lay_most r.word r.sum T)

  -- where no row is lost, none is by the first either
  pub none_lost : (r : Row W S) (U T : List (Row W S)) → length (lay_all (r ∷ U) T) ≡ suc (length U) + length T → length (lay r.word r.sum T) ≡ suc (length T)
  unfolding put_all
  none_lost r U T e = omega (arith, e, all_most U (lay r.word r.sum T), lay_most r.word r.sum T)

  -- the length does not depend on what is laid
  lay_alike : (w : W) (v x : S) (T : List (Row W S)) → length (lay w v T) ≡ length (lay w x T)
  unfolding put_over
  lay_alike w v x [] = refl
  lay_alike w v x (r ∷ T) = go (lt r.word w) (lt w r.word) (lay_alike w v x T)
    where
      go : (a b : Bool) → length (lay w v T) ≡ length (lay w x T)
          → length (cond a (r ∷ lay w v T) (cond b (row w v ∷ r ∷ T) (row r.word v ∷ T))) ≡ length (cond a (r ∷ lay w x T) (cond b (row w x ∷ r ∷ T) (row r.word x ∷ T)))
      go true b i = ap suc i
      go false true i = refl
      go false false i = refl

  -- ---- what is laid passes a test, if the row and the table do
  module _ (P : Row W S → Type 0) where
    each_lay : (w : W) (v : S) (T : List (Row W S)) → P (row w v) → Each P T → Each P (lay w v T)
    unfolding put_over Each
    each_lay w v [] p a = (p, tt)
    each_lay w v (r ∷ T) p a = go (lt r.word w) refl (lt w r.word) refl (each_lay w v T p a.1)
      where
        go : (x : Bool) → lt r.word w ≡ x → (y : Bool) → lt w r.word ≡ y → Each P (lay w v T) → Each P (cond x (r ∷ lay w v T) (cond y (row w v ∷ r ∷ T) (row r.word v ∷ T)))
        go true e y f i = (a.0, i)
        go false e true f i = (p, (a.0, a.1))
        go false e false f i = (rw (o.total r.word w e f) p, a.1)

    pub each_all : (U T : List (Row W S)) → Each P U → Each P T → Each P (lay_all U T)
    unfolding put_all Each
    each_all [] T u a = a
    each_all (r ∷ U) T u a = each_all U (lay r.word r.sum T) u.1 (each_lay r.word r.sum T u.0 a)

    -- and the row and the table do, if what is laid does and no row is lost
    lay_each : (w : W) (v : S) (T : List (Row W S)) → length (lay w v T) ≡ suc (length T) → Each P (lay w v T) → P (row w v) × Each P T
    unfolding put_over Each
    lay_each w v [] l a = (a.0, tt)
    lay_each w v (r ∷ T) l a = go (lt r.word w) (lt w r.word) l a (lay_each w v T)
      where
        go : (x y : Bool) → length (cond x (r ∷ lay w v T) (cond y (row w v ∷ r ∷ T) (row r.word v ∷ T))) ≡ suc (suc (length T))
            → Each P (cond x (r ∷ lay w v T) (cond y (row w v ∷ r ∷ T) (row r.word v ∷ T)))
            → (length (lay w v T) ≡ suc (length T) → Each P (lay w v T) → P (row w v) × Each P T) → P (row w v) × (P r × Each P T)
        go true y m b i = let z = i (omega (arith, m)) b.1 in (z.0, (b.0, z.1))
        go false true m b i = (b.0, b.1)
        go false false m b i = absurd (omega (arith, m))

    pub all_each : (U T : List (Row W S)) → length (lay_all U T) ≡ length U + length T → Each P (lay_all U T) → Each P U × Each P T
    unfolding put_all Each
    all_each [] T l a = (tt, a)
    all_each (r ∷ U) T l a =
        let n : length (lay r.word r.sum T) ≡ suc (length T) = none_lost r U T l in
        let z = all_each U (lay r.word r.sum T) (omega (arith, l, n)) a in
        let y = lay_each r.word r.sum T n z.1 in
        ((y.0, z.0), y.1)

  -- ---- a new word
  lay_new : (w : W) (v : S) (T : List (Row W S)) → Each (Other w) T → length (lay w v T) ≡ suc (length T)
  unfolding put_over Each
  lay_new w v [] a = refl
  lay_new w v (r ∷ T) a = go (lt r.word w) refl (lt w r.word) refl (lay_new w v T a.1)
    where
      go : (x : Bool) → lt r.word w ≡ x → (y : Bool) → lt w r.word ≡ y → length (lay w v T) ≡ suc (length T) → length (cond x (r ∷ lay w v T) (cond y (row w v ∷ r ∷ T) (row r.word v ∷ T))) ≡ suc (suc (length T))
      go true e y f i = ap suc i
      go false e true f i = refl
      go false e false f i = absurd (a.0 (o.total r.word w e f))

  module _ (plus : S → S → S) where
    abbrev put : W → S → List (Row W S) → List (Row W S)
    put = put_over lt plus start

    put_new : (w : W) (v : S) (T : List (Row W S)) → Each (Other w) T → put w v T ≡ lay w (plus start v) T
    unfolding put_over Each
    put_new w v [] a = refl
    put_new w v (r ∷ T) a = go (lt r.word w) refl (lt w r.word) refl (put_new w v T a.1)
      where
        go : (x : Bool) → lt r.word w ≡ x → (y : Bool) → lt w r.word ≡ y → put w v T ≡ lay w (plus start v) T
            → cond x (r ∷ put w v T) (cond y (row w (plus start v) ∷ r ∷ T) (row r.word (plus r.sum v) ∷ T)) ≡ cond x (r ∷ lay w (plus start v) T) (cond y (row w (plus start v) ∷ r ∷ T) (row r.word (plus start v) ∷ T))
        go true e y f i = ap (λ (t : List (Row W S)). r ∷ t) i
        go false e true f i = refl
        go false e false f i = absurd (a.0 (o.total r.word w e f))

    -- put to a row that was laid, a value is added to its sum
    put_laid : (w : W) (s v : S) (T : List (Row W S)) → put w v (lay w s T) ≡ lay w (plus s v) T
    put_laid w s v [] = rw (put_end lt last start w s, put_add lt plus start w v (row w s) [] (o.never w) (o.never w), put_end lt last start w (plus s v))
    put_laid w s v (r ∷ T) = go (lt r.word w) refl (lt w r.word) refl (put_laid w s v T)
      where
        go : (x : Bool) → lt r.word w ≡ x → (y : Bool) → lt w r.word ≡ y → put w v (lay w s T) ≡ lay w (plus s v) T → put w v (lay w s (r ∷ T)) ≡ lay w (plus s v) (r ∷ T)
        go true e y f i = rw (put_past lt last start w s r T e, put_past lt plus start w v r (lay w s T) e, put_past lt last start w (plus s v) r T e, i)
        go false e true f i = rw (put_put lt last start w s r T e f, put_put lt last start w (plus s v) r T e f, put_add lt plus start w v (row w s) (r ∷ T) (o.never w) (o.never w))
        go false e false f i = rw (put_add lt last start w s r T e f, put_add lt last start w (plus s v) r T e f, put_add lt plus start w v (row r.word s) T e f)

  -- ---- rows of other words, before or after
  lay_swap : (u w : W) (x v : S) → (u ≡ w → ⊥) → (T : List (Row W S)) → lay u x (lay w v T) ≡ lay w v (lay u x T)
  lay_swap u w x v n T = go (lt u w) refl (lt w u) refl
    where
      go : (a : Bool) → lt u w ≡ a → (b : Bool) → lt w u ≡ b → lay u x (lay w v T) ≡ lay w v (lay u x T)
      go true e b f = sym (commute lt last start o u w x v e T)
      go false e true f = commute lt last start o w u v x f T
      go false e false f = absurd (n (o.total u w e f))

  all_past : (w : W) (v : S) (U T : List (Row W S)) → Each (Other w) U → lay_all U (lay w v T) ≡ lay w v (lay_all U T)
  unfolding put_all Each
  all_past w v [] T a = refl
  all_past w v (r ∷ U) T a = ap (lay_all U) (lay_swap r.word w r.sum v a.0 T) ∙ all_past w v U (lay r.word r.sum T) a.1

  all_parts : (A B T : List (Row W S)) → lay_all (A ++ B) T ≡ lay_all B (lay_all A T)
  all_parts A B T = all_append lt last start o (λ (r : Row W S). r.word) (λ (r : Row W S). r.sum) A B T

  -- a row among others is laid last
  all_mid : (A : List (Row W S)) (w : W) (v : S) (B : List (Row W S)) → Each (Other w) B → lay_all (A ++ (row w v ∷ B)) [] ≡ lay w v (lay_all B (lay_all A []))
  unfolding put_all
  all_mid A w v B a = all_parts A (row w v ∷ B) [] ∙ all_past w v B (lay_all A []) a

  -- ---- the laws of putting one entry to rows that stand in any order
  module _ (plus : S → S → S) where
    -- added where its word stands last
    pub put_standing : (A : List (Row W S)) (w : W) (s v : S) (B : List (Row W S)) → Each (Other w) B
        → (lay_all (A ++ (row w (plus s v) ∷ B)) [] ≡ put_over lt plus start w v (lay_all (A ++ (row w s ∷ B)) [])) × (length (lay_all (A ++ (row w (plus s v) ∷ B)) []) ≡ length (lay_all (A ++ (row w s ∷ B)) []))
    put_standing A w s v B a =
        let T : List (Row W S) = lay_all B (lay_all A []) in
        let p = all_mid A w (plus s v) B a in
        let q = all_mid A w s B a in
        (p ∙ sym (put_laid plus w s v T) ∙ ap (put_over lt plus start w v) (sym q), ap length p ∙ lay_alike w (plus s v) s T ∙ ap length (sym q))

    -- behind them all, where its word is new
    pub put_behind : (U : List (Row W S)) (w : W) (v : S) → Each (Other w) U
        → (lay_all (U ++ (row w (plus start v) ∷ [])) [] ≡ put_over lt plus start w v (lay_all U [])) × (length (put_over lt plus start w v (lay_all U [])) ≡ suc (length (lay_all U [])))
    unfolding put_all Each
    put_behind U w v a =
        let n : Each (Other w) (lay_all U []) = each_all (Other w) U [] a tt in
        let e = put_new plus w v (lay_all U []) n in
        (all_parts U (row w (plus start v) ∷ []) [] ∙ sym e, ap length e ∙ lay_new w (plus start v) (lay_all U []) n)

  -- ---- a list that is in order already
  -- no word comes before one that stands ahead of it
  unfoldable pub Falls : List (Row W S) → Type 0
  Falls [] = Unit {0}
  Falls (r ∷ rs) = Each (λ (q : Row W S). lt q.word r.word ≡ false) rs × Falls rs

  falls_mid : (T : List (Row W S)) (r : Row W S) (U : List (Row W S)) → Falls (T ++ (r ∷ U)) → Each (λ (t : Row W S). lt r.word t.word ≡ false) T
  unfolding Falls Each
  falls_mid [] r U f = tt
  falls_mid (t ∷ T) r U f = (each_mid (λ (q : Row W S). lt q.word t.word ≡ false) T r U f.0, falls_mid T r U f.1)

  lay_end : (w : W) (v : S) (T : List (Row W S)) → length (lay w v T) ≡ suc (length T) → Each (λ (t : Row W S). lt w t.word ≡ false) T → lay w v T ≡ T ++ (row w v ∷ [])
  unfolding put_over Each
  lay_end w v [] l a = refl
  lay_end w v (r ∷ T) l a = go (lt r.word w) (lt w r.word) refl l (λ m. lay_end w v T m a.1)
    where
      go : (x y : Bool) → lt w r.word ≡ y → length (cond x (r ∷ lay w v T) (cond y (row w v ∷ r ∷ T) (row r.word v ∷ T))) ≡ suc (suc (length T))
          → (length (lay w v T) ≡ suc (length T) → lay w v T ≡ T ++ (row w v ∷ [])) → cond x (r ∷ lay w v T) (cond y (row w v ∷ r ∷ T) (row r.word v ∷ T)) ≡ r ∷ (T ++ (row w v ∷ []))
      go true y f m i = ap (λ (t : List (Row W S)). r ∷ t) (i (omega (arith, m)))
      go false true f m i = absurd (true≢false (sym f ∙ a.0))
      go false false f m i = absurd (omega (arith, m))

  all_own : (U T : List (Row W S)) → Falls (T ++ U) → length (lay_all U T) ≡ length U + length T → lay_all U T ≡ T ++ U
  unfolding put_all
  all_own [] T f l = sym (append-nil T)
  all_own (r ∷ U) T f l =
      let n : length (lay r.word r.sum T) ≡ suc (length T) = none_lost r U T l in
      let e : lay r.word r.sum T ≡ T ++ (r ∷ []) = lay_end r.word r.sum T n (falls_mid T r U f) in
      let z : (T ++ (r ∷ [])) ++ U ≡ T ++ (r ∷ U) = append_assoc T (r ∷ []) U in
      let m : length (lay_all U (T ++ (r ∷ []))) ≡ length U + length (T ++ (r ∷ [])) = rw (← e) (omega (arith, l, n)) in
      ap (lay_all U) e ∙ all_own U (T ++ (r ∷ [])) (rw z f) m ∙ z

  pub order_own : (U : List (Row W S)) → Falls U → length (lay_all U []) ≡ length U → lay_all U [] ≡ U
  order_own U f l = all_own U [] f (omega (arith, l))

  -- ---- a list whose words rise
  rising_other : (r : Row W S) (U : List (Row W S)) → AllAfter lt r.word U → Each (Other r.word) U
  unfolding AllAfter Each
  rising_other r [] a = tt
  rising_other r (q ∷ U) a = ((λ e. true≢false (sym a.0 ∙ ap (lt r.word) e ∙ o.never r.word)), rising_other r U a.1)

  pub after_front : (r : Row W S) (U : List (Row W S)) → AllAfter lt r.word U → lay r.word r.sum U ≡ r ∷ U
  unfolding AllAfter put_over
  after_front r [] a = refl
  after_front r (q ∷ U) a = go (lt q.word r.word) refl
    where
      go : (x : Bool) → lt q.word r.word ≡ x → cond x (q ∷ lay r.word r.sum U) (cond (lt r.word q.word) (r ∷ q ∷ U) (row q.word r.sum ∷ U)) ≡ r ∷ q ∷ U
      go true e = absurd (true≢false (sym (o.trans r.word q.word r.word a.0 e) ∙ o.never r.word))
      go false e = rw a.0

  pub rising_own : (U : List (Row W S)) → Rising lt U → lay_all U [] ≡ U
  unfolding put_all Rising
  rising_own [] a = refl
  rising_own (r ∷ U) a =
      all_past r.word r.sum U [] (rising_other r U a.0) ∙ ap (lay r.word r.sum) (rising_own U a.1) ∙ after_front r U a.0
