-- SPDX-FileCopyrightText: 2026 The PPVM Authors
-- SPDX-License-Identifier: Apache-2.0

-- Terms laid one after another, and thinning row by row. Assumes nothing.
use mathlib.Core.Path.{◌≡◌, refl, sym, ap, ◌∙◌, subst⁻¹}
use mathlib.Core.Bool.{Bool, true, false, cond}
use mathlib.Core.List.{List, [], ◌∷◌, ◌++◌, map, map-append, append-nil}
use Prim.Native.Nat.{ℕ, suc, ◌+◌, ◌-◌, ◌*◌, ◌≤◌, ◌<◌}
use native.Mathlib.Numerals.{add-one}
use native.Mathlib.Omega.{arith}
use lib.Ieee.{Float}
use lib.ListN.{length, take, drop, length-append, length-map, length-drop, take-append-drop}
use lib.Seq.{take-suc, take-take, length-take-le}
use Rattle.word.specs.Flat.{words, lay_word, word_lanes}
use Rattle.word.proofs.FlatLaws.{words_high}
use Rattle.number.specs.Numbers.{square}
use Rattle.number.specs.Floats.{floats}
use Rattle.gksl.specs.Operator.{Onto}
use Rattle.gksl.specs.Table.{without_over}
use Rattle.gksl.specs.Words.{pauli}
use Rattle.sums.specs.Numbers.{complexes, lay_number}
use Rattle.sums.specs.Sums.{rows, sum_rows}
use Rattle.sums.proofs.NumberLaws.{complexes_high}
use Rattle.lent.specs.Laid.{laid}
use Rattle.model.specs.Terms.{term_at, terms_in}
use Rattle.model.proofs.TermLaws.{terms_none, terms_more, rows_length, rows_at}
use Rattle.model_build.specs.Thinned.{thinned, LaysTerms, StoreRoom, KeepRoom, Keeps}

-- ---- values laid after others
module _ {A B : Type 0} (store : List A → ℕ → B → List A) where
  pub laid_append : (k : ℕ) (qs bs : List B) (l : List A) → laid store k (qs ++ bs) l ≡ laid store (k + length qs) bs (laid store k qs l)
  unfolding laid
  laid_append k [] bs l = let e : k + 0 ≡ k = omega arith in ap (λ (m : ℕ). laid store m bs l) (sym e)
  laid_append k (a ∷ qs) bs l =
      let e : suc k + length qs ≡ k + suc (length qs) = omega arith in
      laid_append (suc k) qs bs (store l k a) ∙ ap (λ (m : ℕ). laid store m bs (laid store (suc k) qs (store l k a))) e

pub lays_none : (at : ℕ) (lanes : List ℕ) (numbers : List Float) → LaysTerms [] at lanes numbers lanes numbers
unfolding laid
lays_none at lanes numbers = record { lanes_are = refl; numbers_are = refl }

pub lays_one : (t : Onto floats pauli) (at : ℕ) (lanes lanes' : List ℕ) (numbers numbers' : List Float)
    → lanes' ≡ lay_word lanes at t.word → numbers' ≡ lay_number numbers at t.num → LaysTerms (t ∷ []) at lanes numbers lanes' numbers'
unfolding laid
lays_one t at lanes lanes' numbers numbers' p q = record { lanes_are = p; numbers_are = q }

module _ {A : Type 0} (T U : List (Onto floats pauli)) (at place : ℕ) (e : place ≡ at + length T) where
  -- one part of each term, laid
  part_append : {B : Type 0} (store : List A → ℕ → B → List A) (f : Onto floats pauli → B) (l₀ l l' : List A)
      → l ≡ laid store at (map f T) l₀ → l' ≡ laid store place (map f U) l → l' ≡ laid store at (map f (T ++ U)) l₀
  part_append {B} store f l₀ l l' p q =
      q ∙ ap (laid store place (map f U)) p
      ∙ ap (λ (m : ℕ). laid store m (map f U) (laid store at (map f T) l₀)) (e ∙ ap (λ (m : ℕ). at + m) (sym (length-map T f)))
      ∙ sym (ap (λ (bs : List B). laid store at bs l₀) (map-append f T U) ∙ laid_append store at (map f T) (map f U) l₀)

pub lays_append : (T U : List (Onto floats pauli)) (at place : ℕ) (lanes₀ lanes lanes' : List ℕ) (numbers₀ numbers numbers' : List Float)
    → place ≡ at + length T → LaysTerms T at lanes₀ numbers₀ lanes numbers → LaysTerms U place lanes numbers lanes' numbers'
    → LaysTerms (T ++ U) at lanes₀ numbers₀ lanes' numbers'
lays_append T U at place lanes₀ lanes lanes' numbers₀ numbers numbers' e s g = record {
  lanes_are = part_append T U at place e lay_word (λ u. u.word) lanes₀ lanes lanes' s.lanes_are g.lanes_are;
  numbers_are = part_append T U at place e lay_number (λ u. u.num) numbers₀ numbers numbers' s.numbers_are g.numbers_are;
}

-- ---- the terms from one place to another
pub terms_length : (lanes : List ℕ) (numbers : List Float) (s j : ℕ) → s ≤ j → word_lanes * j ≤ length lanes → 2 * j ≤ length numbers → length (terms_in lanes numbers s j) ≡ j - s
terms_length lanes numbers s j h hl hn =
    let R : List (Onto floats pauli) = rows (words lanes) (complexes numbers) in
    let lr : j ≤ length R = rows_length (words lanes) (complexes numbers) j (omega (arith, words_high lanes)) (omega (arith, complexes_high numbers)) in
    length-take-le (j - s) (drop s R) (omega (arith, length-drop s R))

pub record StoreState (from to at : ℕ) (lanes : List ℕ) (numbers : List Float) (tLanes₀ : List ℕ) (tNumbers₀ : List Float) (tLanes : List ℕ) (tNumbers : List Float) (i : ℕ) : Type 0 where
  pub low : from ≤ i
  pub high : i ≤ to
  pub lanes_same : length tLanes ≡ length tLanes₀
  pub numbers_same : length tNumbers ≡ length tNumbers₀
  pub lays : LaysTerms (terms_in lanes numbers from i) at tLanes₀ tNumbers₀ tLanes tNumbers

module _ (from to at : ℕ) (lanes : List ℕ) (numbers : List Float) (tLanes₀ : List ℕ) (tNumbers₀ : List Float) (room : StoreRoom from to lanes numbers at tLanes₀ tNumbers₀) where
  pub store_start : StoreState from to at lanes numbers tLanes₀ tNumbers₀ tLanes₀ tNumbers₀ from
  store_start = record {
    low = omega arith;
    high = room.order;
    lanes_same = refl;
    numbers_same = refl;
    lays = subst⁻¹ (λ (T : List (Onto floats pauli)). LaysTerms T at tLanes₀ tNumbers₀ tLanes₀ tNumbers₀) (terms_none lanes numbers from) (lays_none at tLanes₀ tNumbers₀);
  }

  pub store_next : (tLanes tLanes' : List ℕ) (tNumbers tNumbers' : List Float) (i : ℕ) (t : Onto floats pauli)
      → StoreState from to at lanes numbers tLanes₀ tNumbers₀ tLanes tNumbers i → i < to → t ≡ term_at lanes numbers i
      → LaysTerms (t ∷ []) (at + (i - from)) tLanes tNumbers tLanes' tNumbers' → length tLanes' ≡ length tLanes → length tNumbers' ≡ length tNumbers
      → StoreState from to at lanes numbers tLanes₀ tNumbers₀ tLanes' tNumbers' (i + 1)
  store_next tLanes tLanes' tNumbers tNumbers' i t s h e g hl hn =
      let n = terms_length lanes numbers from i s.low (omega (arith, room.lanes_long)) (omega (arith, room.numbers_long)) in
      let more : terms_in lanes numbers from (i + 1) ≡ terms_in lanes numbers from i ++ (t ∷ []) =
      terms_more lanes numbers from i s.low (omega (arith, room.lanes_long)) (omega (arith, room.numbers_long)) ∙ ap (λ (u : Onto floats pauli). terms_in lanes numbers from i ++ (u ∷ [])) (sym e) in
      record {
        low = omega (arith, s.low);
        high = omega arith;
        lanes_same = hl ∙ s.lanes_same;
        numbers_same = hn ∙ s.numbers_same;
        lays = subst⁻¹ (λ (T : List (Onto floats pauli)). LaysTerms T at tLanes₀ tNumbers₀ tLanes' tNumbers') more
            (lays_append (terms_in lanes numbers from i) (t ∷ []) at (at + (i - from)) tLanes₀ tLanes tLanes' tNumbers₀ tNumbers tNumbers' (omega (arith, n)) s.lays g);
      }

-- ---- thinning, row by row
thinned_last : (T : List (Onto floats pauli)) (t : Onto floats pauli) → thinned (T ++ (t ∷ [])) ≡ thinned T ++ cond (floats.small (square floats t.num)) [] (t ∷ [])
unfolding without_over
thinned_last [] t = refl
thinned_last (u ∷ T) t = go (floats.small (square floats u.num)) (thinned_last T t)
  where
    go : (b : Bool) → thinned (T ++ (t ∷ [])) ≡ thinned T ++ cond (floats.small (square floats t.num)) [] (t ∷ [])
        → cond b (thinned (T ++ (t ∷ []))) (u ∷ thinned (T ++ (t ∷ []))) ≡ cond b (thinned T) (u ∷ thinned T) ++ cond (floats.small (square floats t.num)) [] (t ∷ [])
    go true e = e
    go false e = ap (λ (l : List (Onto floats pauli)). u ∷ l) e

module _ (lanes : List ℕ) (numbers : List Float) (i : ℕ) (hl : word_lanes * (i + 1) ≤ length lanes) (hn : 2 * (i + 1) ≤ length numbers) where
  table_more : sum_rows (i + 1) lanes numbers ≡ sum_rows i lanes numbers ++ (term_at lanes numbers i ∷ [])
  table_more =
      let R : List (Onto floats pauli) = rows (words lanes) (complexes numbers) in
      let d : Onto floats pauli = term_at lanes numbers i in
      let lw : i < length (words lanes) = omega (arith, words_high lanes) in
      let ln : i < length (complexes numbers) = omega (arith, complexes_high numbers) in
      rw (add-one i) (take-suc R i d (rows_length (words lanes) (complexes numbers) (suc i) lw ln) ∙ ap (λ (t : Onto floats pauli). take i R ++ (t ∷ [])) (rows_at (words lanes) (complexes numbers) i d lw ln))

  module _ (t : Onto floats pauli) (e : t ≡ term_at lanes numbers i) where
    pub thinned_drops : floats.small (square floats t.num) ≡ true → thinned (sum_rows (i + 1) lanes numbers) ≡ thinned (sum_rows i lanes numbers)
    thinned_drops h =
        ap thinned (table_more ∙ ap (λ (u : Onto floats pauli). sum_rows i lanes numbers ++ (u ∷ [])) (sym e))
        ∙ thinned_last (sum_rows i lanes numbers) t ∙ ap (λ (b : Bool). thinned (sum_rows i lanes numbers) ++ cond b [] (t ∷ [])) h ∙ append-nil (thinned (sum_rows i lanes numbers))

    pub thinned_keeps : floats.small (square floats t.num) ≡ false → thinned (sum_rows (i + 1) lanes numbers) ≡ thinned (sum_rows i lanes numbers) ++ (t ∷ [])
    thinned_keeps h =
        ap thinned (table_more ∙ ap (λ (u : Onto floats pauli). sum_rows i lanes numbers ++ (u ∷ [])) (sym e))
        ∙ thinned_last (sum_rows i lanes numbers) t ∙ ap (λ (b : Bool). thinned (sum_rows i lanes numbers) ++ cond b [] (t ∷ [])) h

-- ---- the sums that thinning leaves, laid one after another
pub record KeepState (len at : ℕ) (lanes : List ℕ) (numbers : List Float) (tLanes₀ : List ℕ) (tNumbers₀ : List Float) (tLanes : List ℕ) (tNumbers : List Float) (place i : ℕ) : Type 0 where
  pub high : i ≤ len
  pub lanes_same : length tLanes ≡ length tLanes₀
  pub numbers_same : length tNumbers ≡ length tNumbers₀
  pub keeps : Keeps (thinned (sum_rows i lanes numbers)) at tLanes₀ tNumbers₀ place tLanes tNumbers

thinned_prefix : (T U : List (Onto floats pauli)) → length (thinned T) ≤ length (thinned (T ++ U))
unfolding without_over
thinned_prefix [] U = omega arith
thinned_prefix (t ∷ T) U = go (floats.small (square floats t.num)) (thinned_prefix T U)
  where
    go : (b : Bool) → length (thinned T) ≤ length (thinned (T ++ U)) → length (cond b (thinned T) (t ∷ thinned T)) ≤ length (cond b (thinned (T ++ U)) (t ∷ thinned (T ++ U)))
    go true h = h
    go false h = omega arith

-- fewer rows leave no more
pub thinned_fewer : (i len : ℕ) (lanes : List ℕ) (numbers : List Float) → i ≤ len → length (thinned (sum_rows i lanes numbers)) ≤ length (thinned (sum_rows len lanes numbers))
thinned_fewer i len lanes numbers h =
    let R : List (Onto floats pauli) = rows (words lanes) (complexes numbers) in
    let e : sum_rows len lanes numbers ≡ take i R ++ drop i (take len R) = sym (ap (λ (l : List (Onto floats pauli)). l ++ drop i (take len R)) (sym (take-take i len R h)) ∙ take-append-drop i (take len R)) in
    subst⁻¹ (λ (T : List (Onto floats pauli)). length (thinned (take i R)) ≤ length (thinned T)) e (thinned_prefix (take i R) (drop i (take len R)))

module _ (len at : ℕ) (lanes : List ℕ) (numbers : List Float) (tLanes₀ : List ℕ) (tNumbers₀ : List Float) (room : KeepRoom len lanes numbers at tLanes₀ tNumbers₀) where
  pub keep_start : KeepState len at lanes numbers tLanes₀ tNumbers₀ tLanes₀ tNumbers₀ at 0
  unfolding without_over
  keep_start = record { high = omega arith; lanes_same = refl; numbers_same = refl; keeps = record { end = omega arith; lays = lays_none at tLanes₀ tNumbers₀ } }

  module _ (tLanes : List ℕ) (tNumbers : List Float) (place i : ℕ) (s : KeepState len at lanes numbers tLanes₀ tNumbers₀ tLanes tNumbers place i) (h : i < len) (t : Onto floats pauli) (e : t ≡ term_at lanes numbers i) where
    pub keep_drops : floats.small (square floats t.num) ≡ true → KeepState len at lanes numbers tLanes₀ tNumbers₀ tLanes tNumbers place (i + 1)
    keep_drops f =
        let d = thinned_drops lanes numbers i (omega (arith, room.lanes_long)) (omega (arith, room.numbers_long)) t e f in
        record {
          high = omega arith;
          lanes_same = s.lanes_same;
          numbers_same = s.numbers_same;
          keeps = subst⁻¹ (λ (T : List (Onto floats pauli)). Keeps T at tLanes₀ tNumbers₀ place tLanes tNumbers) d s.keeps;
        }

    module _ (f : floats.small (square floats t.num) ≡ false) where
      one_more : thinned (sum_rows (i + 1) lanes numbers) ≡ thinned (sum_rows i lanes numbers) ++ (t ∷ [])
      one_more = thinned_keeps lanes numbers i (omega (arith, room.lanes_long)) (omega (arith, room.numbers_long)) t e f

      -- there is a place for it
      pub keep_room : (word_lanes * place + word_lanes ≤ length tLanes) × (2 * place + 2 ≤ length tNumbers)
      keep_room =
          let g = thinned_fewer (i + 1) len lanes numbers (omega arith) in
          let n = ap length one_more ∙ length-append (thinned (sum_rows i lanes numbers)) (t ∷ []) in
          (omega (arith, s.lanes_same, room.lanes_room, s.keeps.end), omega (arith, s.numbers_same, room.numbers_room, s.keeps.end))

      pub keep_keeps : (tLanes' : List ℕ) (tNumbers' : List Float) → LaysTerms (t ∷ []) place tLanes tNumbers tLanes' tNumbers'
          → length tLanes' ≡ length tLanes → length tNumbers' ≡ length tNumbers → KeepState len at lanes numbers tLanes₀ tNumbers₀ tLanes' tNumbers' (place + 1) (i + 1)
      keep_keeps tLanes' tNumbers' g hl hn =
          let n = length-append (thinned (sum_rows i lanes numbers)) (t ∷ []) in
          record {
            high = omega arith;
            lanes_same = hl ∙ s.lanes_same;
            numbers_same = hn ∙ s.numbers_same;
            keeps = subst⁻¹ (λ (T : List (Onto floats pauli)). Keeps T at tLanes₀ tNumbers₀ (place + 1) tLanes' tNumbers') one_more
                (record {
                  end = omega (arith, s.keeps.end, n);
                  lays = lays_append (thinned (sum_rows i lanes numbers)) (t ∷ []) at place tLanes₀ tLanes tLanes' tNumbers₀ tNumbers tNumbers' s.keeps.end s.keeps.lays g;
                });
          }

-- ---- counting them
pub count_drops : (lanes : List ℕ) (numbers : List Float) (i kept : ℕ) (t : Onto floats pauli) → word_lanes * (i + 1) ≤ length lanes → 2 * (i + 1) ≤ length numbers → t ≡ term_at lanes numbers i
    → floats.small (square floats t.num) ≡ true → kept ≡ length (thinned (sum_rows i lanes numbers)) → kept ≡ length (thinned (sum_rows (i + 1) lanes numbers))
count_drops lanes numbers i kept t hl hn e f h = h ∙ ap length (sym (thinned_drops lanes numbers i hl hn t e f))

pub count_keeps : (lanes : List ℕ) (numbers : List Float) (i kept : ℕ) (t : Onto floats pauli) → word_lanes * (i + 1) ≤ length lanes → 2 * (i + 1) ≤ length numbers → t ≡ term_at lanes numbers i
    → floats.small (square floats t.num) ≡ false → kept ≡ length (thinned (sum_rows i lanes numbers)) → kept + 1 ≡ length (thinned (sum_rows (i + 1) lanes numbers))
count_keeps lanes numbers i kept t hl hn e f h =
    let n = length-append (thinned (sum_rows i lanes numbers)) (t ∷ []) in
    let g = ap length (thinned_keeps lanes numbers i hl hn t e f) in
    omega arith
