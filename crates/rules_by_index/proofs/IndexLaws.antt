-- SPDX-FileCopyrightText: 2026 The PPVM Authors
-- SPDX-License-Identifier: Apache-2.0

-- The index of a model, item by item: the items so far, the words of a range so far. Assumes nothing.
use mathlib.Core.Path.{◌≡◌, refl, sym, ap, ◌∙◌, subst}
use mathlib.Core.Bool.{Bool, true, false, ◌&&◌}
use mathlib.Core.List.{List, [], ◌∷◌, ◌++◌, map}
use Prim.Native.Nat.{ℕ, suc, ◌+◌, ◌-◌, ◌*◌, ◌≤◌, ◌<◌}
use native.Mathlib.Omega.{arith}
use borrow.Author.Tests.{ltb-true, leb-true, not-false}
use lib.Dec.{ltb, leb}
use lib.Ieee.{Float}
use lib.ListN.{length, get_or, take, drop, replicate, length-drop}
use lib.Seq.{take-suc, get_or-drop}
use Rattle.word.specs.Word.{identity}
use Rattle.word.specs.Flat.{words, word_lanes}
use Rattle.word.specs.declared.word.Word.{Word}
use Rattle.word.proofs.FlatLaws.{words_high}
use Rattle.index.specs.Index.{Indexed, Marks}
use Rattle.index.proofs.MarkLaws.{none_marked, more_marked, none_indexed, more_indexed}
use Rattle.model.specs.Stored.{ModelTables}
use Rattle.model.specs.Tested.{inside, bad_jump}
use Rattle.model.specs.declared.stored.Model.{Model}
use Rattle.model.specs.declared.stored.Range.{Range}
use Rattle.model.specs.declared.stored.Jump.{Jump}
use Rattle.model.specs.declared.stored.Jump.TheVariants.{Pauli, General, Pair}
use Rattle.word.specs.Count.{up_to}
use Rattle.rules_by_index.specs.Near.{words_of, jump_words, ModelIndexed}
use Rattle.word.proofs.CountLaws.{items_length, items_next}

-- ---- the turns of a loop over the items
module _ (row n : ℕ) (f : ℕ → List Word) where
  pub items_start : (l : ℕ) → Indexed row n (map f (up_to 0 0)) (replicate l 0)
  unfolding up_to
  items_start l = none_indexed row n l

  pub items_marked : (j : ℕ) (index index' : List ℕ) (W : List Word) → Indexed row n (map f (up_to 0 j)) index → Marks row n j W index index' → W ≡ f j → Indexed row n (map f (up_to 0 (j + 1))) index'
  items_marked j index index' W x m e =
      subst (λ (items : List (List Word)). Indexed row n items index') (ap (λ (w : List Word). map f (up_to 0 j) ++ (w ∷ [])) e ∙ sym (items_next f j))
      (more_indexed row n (map f (up_to 0 j)) W index index' j (sym (items_length f j)) x m)

-- ---- the words of a range so far
pub record RangeState (row n j : ℕ) (lanes : List ℕ) (start end : ℕ) (index₀ index : List ℕ) (i : ℕ) : Type 0 where
  pub low : start ≤ i
  pub high : i ≤ end
  pub long : length index ≡ length index₀
  pub marks : Marks row n j (take (i - start) (drop start (words lanes))) index₀ index

module _ (row n j : ℕ) (lanes : List ℕ) (start end : ℕ) (index₀ : List ℕ) (order : start ≤ end) where
  abbrev State : List ℕ → ℕ → Type 0
  State index i = RangeState row n j lanes start end index₀ index i

  pub range_start : State index₀ start
  range_start =
      let e : start - start ≡ 0 = omega arith in
      record {
        low = omega arith;
        high = order;
        long = refl;
        marks = subst (λ (k : ℕ). Marks row n j (take k (drop start (words lanes))) index₀ index₀) (sym e) (none_marked row n j index₀);
      }

  module _ (index : List ℕ) (i : ℕ) (s : State index i) where
    words_next : i < length (words lanes) → take (i - start) (drop start (words lanes)) ++ (get_or (words lanes) i identity ∷ []) ≡ take (i + 1 - start) (drop start (words lanes))
    words_next h =
        let e : i + 1 - start ≡ suc (i - start) = omega (arith, s.low) in
        let f : start + (i - start) ≡ i = omega (arith, s.low) in
        let k : i - start < length (drop start (words lanes)) = rw (length-drop start (words lanes)) (omega (arith, s.low)) in
        sym (ap (λ (m : ℕ). take m (drop start (words lanes))) e ∙ take-suc (drop start (words lanes)) (i - start) identity k
        ∙ ap (λ (w : Word). take (i - start) (drop start (words lanes)) ++ (w ∷ [])) (get_or-drop start (words lanes) (i - start) identity ∙ ap (λ (m : ℕ). get_or (words lanes) m identity) f))

    pub range_next : i < end → word_lanes * end ≤ length lanes → (w : Word) → w ≡ get_or (words lanes) i identity → (index' : List ℕ) → length index' ≡ length index → Marks row n j (w ∷ []) index index' → State index' (i + 1)
    range_next h long w e index' l m =
        let W : List Word = take (i - start) (drop start (words lanes)) in
        record {
          low = omega (arith, s.low);
          high = omega arith;
          long = l ∙ s.long;
          marks = subst (λ (X : List Word). Marks row n j X index₀ index') (ap (λ (v : Word). W ++ (v ∷ [])) e ∙ words_next (omega (arith, words_high lanes))) (more_marked row n j W (w ∷ []) index₀ index index' s.marks m);
        }

-- ---- a jump or a pair
both : (a : Bool) {b : Bool} → (a && b) ≡ true → (a ≡ true) × (b ≡ true)
both true h = (refl, h)
both false h = let z : ◌≡◌ {A = ℕ} 0 1 = cc in absurd (omega arith)

module _ (places : ℕ) (lanes : List ℕ) (long : word_lanes * places ≤ length lanes) where
  range_inside : (r : Range) → inside places r ≡ true → (r.start ≤ r.end) × (word_lanes * r.end ≤ length lanes)
  range_inside r h =
      let e = both (leb r.start r.end) h in
      (leb-true r.start r.end e.0, omega (arith, leb-true r.end places e.1))

  module _ (jump : Jump) (good : bad_jump places jump ≡ false) where
    pub term_inside : (rate : Float) (term : ℕ) → jump ≡ Pauli rate term → word_lanes * term + word_lanes ≤ length lanes
    unfolding bad_jump
    term_inside rate term e =
        let h : bad_jump places (Pauli rate term) ≡ false = ap (bad_jump places) (sym e) ∙ good in
        omega (arith, ltb-true term places (both (ltb term places) (not-false _ h)).0)

    pub terms_inside : (rate : Float) (terms product : Range) → jump ≡ General rate terms product → (terms.start ≤ terms.end) × (word_lanes * terms.end ≤ length lanes)
    unfolding bad_jump
    terms_inside rate terms product e =
        let h : bad_jump places (General rate terms product) ≡ false = ap (bad_jump places) (sym e) ∙ good in
        range_inside terms (both (inside places terms) (not-false _ h)).0

    pub left_inside : (left right : Range) (factors : ℕ) (product : Range) → jump ≡ Pair left right factors product → (left.start ≤ left.end) × (word_lanes * left.end ≤ length lanes)
    unfolding bad_jump
    left_inside left right factors product e =
        let h : bad_jump places (Pair left right factors product) ≡ false = ap (bad_jump places) (sym e) ∙ good in
        range_inside left (both (inside places left) (not-false _ h)).0

    pub right_inside : (left right : Range) (factors : ℕ) (product : Range) → jump ≡ Pair left right factors product → (right.start ≤ right.end) × (word_lanes * right.end ≤ length lanes)
    unfolding bad_jump
    right_inside left right factors product e =
        let h : bad_jump places (Pair left right factors product) ≡ false = ap (bad_jump places) (sym e) ∙ good in
        range_inside right (both (inside places right) (both (inside places left) (not-false _ h)).1).0

module _ (row n j : ℕ) (lanes : List ℕ) (jump : Jump) (index : List ℕ) where
  marks_same : (W : List Word) (J : Jump) (index' : List ℕ) → W ≡ jump_words lanes J → jump ≡ J → Marks row n j W index index' → Marks row n j (jump_words lanes jump) index index'
  marks_same W J index' e f m = subst (λ (X : List Word). Marks row n j X index index') (e ∙ ap (jump_words lanes) (sym f)) m

  pub term_marked : (rate : Float) (term : ℕ) → jump ≡ Pauli rate term → (w : Word) → w ≡ get_or (words lanes) term identity → (index' : List ℕ) → Marks row n j (w ∷ []) index index' → Marks row n j (jump_words lanes jump) index index'
  unfolding jump_words
  term_marked rate term e w h index' m = marks_same (w ∷ []) (Pauli rate term) index' (ap (λ (v : Word). v ∷ []) h) e m

  pub terms_marked : (rate : Float) (terms product : Range) → jump ≡ General rate terms product → (index' : List ℕ) → Marks row n j (words_of lanes terms) index index' → Marks row n j (jump_words lanes jump) index index'
  unfolding jump_words
  terms_marked rate terms product e index' m = marks_same (words_of lanes terms) (General rate terms product) index' refl e m

  pub pair_marked : (left right : Range) (factors : ℕ) (product : Range) → jump ≡ Pair left right factors product → (index' index'' : List ℕ) → Marks row n j (words_of lanes left) index index' → Marks row n j (words_of lanes right) index' index'' → Marks row n j (jump_words lanes jump) index index''
  unfolding jump_words
  pair_marked left right factors product e index' index'' a b =
      marks_same (words_of lanes left ++ words_of lanes right) (Pair left right factors product) index'' refl e
      (more_marked row n j (words_of lanes left) (words_of lanes right) index index' index'' a b)

-- ---- the whole model, by the four tables that count
pub model_indexed : (m : Model) (t u : ModelTables) (hIndex jIndex : List ℕ) → t.h_words ≡ u.h_words → t.jumps ≡ u.jumps → t.rates ≡ u.rates → t.t_words ≡ u.t_words → ModelIndexed m u hIndex jIndex → ModelIndexed m t hIndex jIndex
model_indexed m t u hIndex jIndex eh ej er ew x = record {
  reals = rw eh x.reals;
  jumps = rw (ej, er, ew) x.jumps;
}
