-- SPDX-FileCopyrightText: 2026 The PPVM Authors
-- SPDX-License-Identifier: Apache-2.0

-- A table whose words rise keeps them rising, whatever is put into it. Assumes nothing.
use mathlib.Core.Path.{◌≡◌, refl}
use mathlib.Core.List.{List, [], ◌∷◌}
use mathlib.Core.Bool.{Bool, true, false, cond}
use lib.Ieee.{Float}
use Rattle.word.specs.Order.{before}
use Rattle.word.specs.declared.word.Word.{Word}
use Rattle.number.specs.Floats.{floats}
use Rattle.candidates.specs.Sums.{Row, row, put_over, put_all, AllAfter, Rising}
use Rattle.candidates.specs.Tables.{Rows, put_rows}
use Rattle.candidates.specs.Between.{latest, in_word_order}
use Rattle.candidates.proofs.PutLaws.{Strict, strict}

module _ {W S : Type 0} (lt : W → W → Bool) (plus : S → S → S) (start : S) (o : Strict lt) where
  pub after_trans : (u v : W) (t : List (Row W S)) → lt u v ≡ true → AllAfter lt v t → AllAfter lt u t
  unfolding AllAfter
  after_trans u v [] h a = tt
  after_trans u v (r ∷ t) h a = (o.trans u v r.word h a.0, after_trans u v t h a.1)

  after_put : (u w : W) (v : S) (t : List (Row W S)) → lt u w ≡ true → AllAfter lt u t → AllAfter lt u (put_over lt plus start w v t)
  unfolding AllAfter put_over
  after_put u w v [] h a = (h, tt)
  after_put u w v (r ∷ t) h a = go (lt r.word w) (lt w r.word) (after_put u w v t h a.1)
    where
      go : (x y : Bool) → AllAfter lt u (put_over lt plus start w v t) → AllAfter lt u (cond x (r ∷ put_over lt plus start w v t) (cond y (row w (plus start v) ∷ r ∷ t) (row r.word (plus r.sum v) ∷ t)))
      go true y i = (a.0, i)
      go false true i = (h, (a.0, a.1))
      go false false i = (a.0, a.1)

  pub rising_put : (w : W) (v : S) (t : List (Row W S)) → Rising lt t → Rising lt (put_over lt plus start w v t)
  unfolding AllAfter Rising put_over
  rising_put w v [] h = (tt, tt)
  rising_put w v (r ∷ t) h = go (lt r.word w) refl (lt w r.word) refl (rising_put w v t h.1)
    where
      go : (x : Bool) → lt r.word w ≡ x → (y : Bool) → lt w r.word ≡ y → Rising lt (put_over lt plus start w v t)
          → Rising lt (cond x (r ∷ put_over lt plus start w v t) (cond y (row w (plus start v) ∷ r ∷ t) (row r.word (plus r.sum v) ∷ t)))
      go true e y f i = (after_put r.word w v t e h.0, i)
      go false e true f i = ((f, after_trans w r.word t f h.0), h)
      go false e false f i = h

  pub rising_all : {A : Type 0} (key : A → W) (val : A → S) (l : List A) (t : List (Row W S)) → Rising lt t → Rising lt (put_all lt plus start key val l t)
  unfolding put_all
  rising_all key val [] t h = h
  rising_all key val (e ∷ l) t h = rising_all key val l (put_over lt plus start (key e) (val e) t) (rising_put (key e) (val e) t h)

pub rising_rows : (l t : Rows) → Rising before t → Rising before (put_rows l t)
rising_rows l t h = rising_all before floats.plus floats.nought strict (λ (r : Row Word Float). r.word) (λ (r : Row Word Float). r.sum) l t h

-- rows in word order
pub order_rising : (U : Rows) → Rising before (in_word_order U)
unfolding in_word_order Rising
order_rising U = rising_all before latest floats.nought strict (λ (r : Row Word Float). r.word) (λ (r : Row Word Float). r.sum) U [] tt
