-- SPDX-FileCopyrightText: 2026 The PPVM Authors
-- SPDX-License-Identifier: Apache-2.0

-- Marks in the index, word by word and item by item. Assumes nothing.
use mathlib.Core.Path.{◌≡◌, refl, sym, ap, ◌∙◌}
use mathlib.Core.Bool.{Bool, true, false, cond}
use mathlib.Core.List.{List, [], ◌∷◌, ◌++◌}
use Prim.Native.Nat.{ℕ, ◌+◌, ◌*◌, ◌/◌, ◌%◌, ◌^◌, ◌<◌, ◌≤◌, min, max}
use native.Mathlib.Omega.{arith}
use native.Mathlib.Decide.{ℕ_discrete, dec_lt}
use native.Mathlib.Nat.{mul-le-mul_left, mul-le-mul_right}
use borrow.Author.Tests.{eq-eqb, ne_eqb}
use lib.Bits.{bit_or}
use lib.Dec.{eqb}
use lib.Pow.{shl_exact}
use lib.ListN.{length, get_or, set, replicate, get_or-eq_default, get_or-append, length-append}
use lib.Seq.{get_or-set_same, get_or-set_other, get_or-append_seam}
use Rattle.word.specs.Word.{max_qubits, bit}
use Rattle.word.specs.Between.{NextQubit}
use Rattle.word.specs.declared.word.Word.{Word}
use Rattle.word.proofs.Sums.{zeros_at}
use Rattle.word.proofs.Digits.{zero_bit, bit_lt, bit_or_lem, shift_same, shift_other}
use Rattle.index.specs.Index.{mark, acts, acts_any, Indexed, Marks}
use Rattle.index.proofs.Walk.{acts_before, Stands, none_before, passed, elsewhere, all_before}

pub mark_lt : (row : ℕ) (index : List ℕ) (q j : ℕ) → mark row index q j < 2
unfolding mark
mark_lt row index q j = bit_lt _ _

-- ---- where a row's lanes lie

-- inside a table of 64 lanes a row
pub row_inside : (row n q length : ℕ) → q < n → row ≤ 64 → 64 * n ≤ length → q * row + row ≤ length
row_inside row n q length h few long = omega (arith, mul-le-mul_left q few)

-- a lane is of one row, at one place
below : (row q r a b : ℕ) → a < row → q < r → q * row + a < r * row + b
below row q r a b h l = omega (arith, mul-le-mul_right row l)

row_apart : (row q r a b : ℕ) → a < row → b < row → q * row + a ≡ r * row + b → (q ≡ r) × (a ≡ b)
row_apart row q r a b ha hb e = go (ℕ_discrete q r) (dec_lt q r)
  where
    go : Dec (q ≡ r) → Dec (q < r) → (q ≡ r) × (a ≡ b)
    go (yes f) l = let g : q * row ≡ r * row = ap (λ (k : ℕ). k * row) f in (f, omega (arith, e, g))
    go (no f) (yes l) = absurd (omega (arith, e, below row q r a b ha l))
    go (no f) (no l) = absurd (omega (arith, e, below row r q b a hb (omega arith)))

-- ---- one digit set

-- x | (1 << k), as the code has it
abbrev with_bit : ℕ → ℕ → ℕ
with_bit x k = bit_or x ((1 * 2 ^ k) % 2 ^ 64)

module _ (x k : ℕ) (h : k < 64) where
  with_same : bit (with_bit x k) k ≡ 1
  with_same =
      rw (shl_exact {a = 1} 1 k 64 (omega arith) (omega arith))
      (bit_or_lem x (1 * 2 ^ k) k ∙ omega (arith, shift_same 1 k (omega arith), bit_lt x k))

  with_other : (j : ℕ) → (j ≡ k → ⊥) → bit (with_bit x k) j ≡ bit x j
  with_other j n =
      rw (shl_exact {a = 1} 1 k 64 (omega arith) (omega arith))
      (bit_or_lem x (1 * 2 ^ k) j ∙ omega (arith, shift_other 1 k j (omega arith) n))

-- ---- one mark set

abbrev pub marked : ℕ → List ℕ → ℕ → ℕ → List ℕ
marked row index q j = set index (q * row + j / 64) (with_bit (get_or index (q * row + j / 64) 0) (j % 64))

module _ (row : ℕ) (index : List ℕ) (q j : ℕ) (h : q * row + j / 64 < length index) (hj : j < row * 64) where
  marked_there : mark row (marked row index q j) q j ≡ 1
  unfolding mark
  marked_there = rw (get_or-set_same index (q * row + j / 64) (with_bit (get_or index (q * row + j / 64) 0) (j % 64)) 0 h) (with_same (get_or index (q * row + j / 64) 0) (j % 64) (omega arith))

  other_lane : (r i : ℕ) → (r * row + i / 64 ≡ q * row + j / 64 → ⊥) → mark row (marked row index q j) r i ≡ mark row index r i
  unfolding mark
  other_lane r i d = rw (get_or-set_other index (q * row + j / 64) (r * row + i / 64) (with_bit (get_or index (q * row + j / 64) 0) (j % 64)) 0 d)

  same_lane : (r i : ℕ) → r * row + i / 64 ≡ q * row + j / 64 → (i % 64 ≡ j % 64 → ⊥) → mark row (marked row index q j) r i ≡ mark row index r i
  unfolding mark
  same_lane r i e d =
      rw (e, get_or-set_same index (q * row + j / 64) (with_bit (get_or index (q * row + j / 64) 0) (j % 64)) 0 h)
      (with_other (get_or index (q * row + j / 64) 0) (j % 64) (omega arith) (i % 64) d)

  marked_other : (r i : ℕ) → i < row * 64 → (r ≡ q → i ≡ j → ⊥) → mark row (marked row index q j) r i ≡ mark row index r i
  marked_other r i hi d = go (ℕ_discrete (r * row + i / 64) (q * row + j / 64))
    where
      go : Dec (r * row + i / 64 ≡ q * row + j / 64) → mark row (marked row index q j) r i ≡ mark row index r i
      go (yes e) = let a = row_apart row r q (i / 64) (j / 64) (omega arith) (omega arith) e in same_lane r i e (λ f. d a.0 (omega (arith, a.1, f)))
      go (no n) = other_lane r i n

-- ---- the turns of `mark_word`: the qubits before q are marked
abbrev pub Marking : ℕ → ℕ → Word → List ℕ → List ℕ → ℕ → Type 0
Marking row j w index₀ index q = (r i : ℕ) → i < row * 64 → mark row index r i ≡ max (mark row index₀ r i) (cond (eqb i j) (acts_before w q r) 0)

drop_zero : (b : Bool) (a c : ℕ) → c ≡ 0 → max a (cond b c 0) ≡ a
drop_zero true a c e = omega arith
drop_zero false a c e = omega arith

pub marking_start : (row j : ℕ) (w : Word) (index : List ℕ) (q : ℕ) → NextQubit w 0 q → Marking row j w index index q
marking_start row j w index q n r i h = sym (drop_zero (eqb i j) (mark row index r i) (acts_before w q r) (none_before w q n r))

module _ (row j : ℕ) (w : Word) (index₀ index : List ℕ) (q : ℕ) (hj : j < row * 64) (s : Stands w q) (inv : Marking row j w index₀ index q) where
  pub marking_turn : (q' : ℕ) → q < max_qubits → NextQubit w (q + 1) q' → q * row + j / 64 < length index → Marking row j w index₀ (marked row index q j) q'
  marking_turn q' l n k r i hi = go (ℕ_discrete i j) (ℕ_discrete r q)
    where
      go : Dec (i ≡ j) → Dec (r ≡ q) → mark row (marked row index q j) r i ≡ max (mark row index₀ r i) (cond (eqb i j) (acts_before w q' r) 0)
      go (yes e) (yes d) =
          rw (eq-eqb i j e, e, d) (omega (arith, marked_there row index q j k hj, passed w q q' s l n, mark_lt row index₀ q j))
      go (yes e) (no d) =
          marked_other row index q j k hj r i hi (λ x y. d x) ∙ inv r i hi
          ∙ ap (λ (x : ℕ). max (mark row index₀ r i) (cond (eqb i j) x 0)) (elsewhere w q q' s l n r d)
      go (no e) d =
          marked_other row index q j k hj r i hi (λ x y. e y) ∙ inv r i hi
          ∙ rw (ne_eqb i j e)

  pub marking_done : (n : ℕ) → min n max_qubits ≤ q → Marks row n j (w ∷ []) index₀ index
  unfolding acts_any
  marking_done n h = record { marks = λ r i l k. inv r i k ∙ ap (λ (x : ℕ). max (mark row index₀ r i) (cond (eqb i j) x 0)) (all_before w n q s h r l ∙ sym (max_zero (acts w r))) }
    where
      max_zero : (a : ℕ) → max a 0 ≡ a
      max_zero a = omega arith

-- ---- words marked one after another
pub none_marked : (row n j : ℕ) (index : List ℕ) → Marks row n j [] index index
unfolding acts_any
none_marked row n j index = record { marks = λ q i h k. sym (drop_zero (eqb i j) (mark row index q i) 0 refl) }

acts_append : (W X : List Word) (q : ℕ) → acts_any (W ++ X) q ≡ max (acts_any W q) (acts_any X q)
unfolding acts_any
acts_append [] X q = omega arith
acts_append (w ∷ W) X q = omega (arith, acts_append W X q)

pub more_marked : (row n j : ℕ) (W X : List Word) (index index' index'' : List ℕ) → Marks row n j W index index' → Marks row n j X index' index'' → Marks row n j (W ++ X) index index''
more_marked row n j W X index index' index'' a b = record {
  marks = λ q i h k. b.marks q i h k ∙ rw (a.marks q i h k, acts_append W X q) (go (eqb i j) (mark row index q i) (acts_any W q) (acts_any X q));
}
  where
    go : (b : Bool) (m x y : ℕ) → max (max m (cond b x 0)) (cond b y 0) ≡ max m (cond b (max x y) 0)
    go true m x y = omega arith
    go false m x y = omega arith

-- ---- a clear table indexes no items
pub none_indexed : (row n l : ℕ) → Indexed row n [] (replicate l 0)
unfolding mark acts_any
none_indexed row n l = record { marks = λ q j h k. rw (zeros_at l (q * row + j / 64)) (zero_bit (j % 64)) }

-- ---- one more item
module _ {A : Type 0} (l : List A) (x d : A) where
  last_there : get_or (l ++ (x ∷ [])) (length l) d ≡ x
  last_there = get_or-append_seam l x [] d

  last_other : (i : ℕ) → (i ≡ length l → ⊥) → get_or (l ++ (x ∷ [])) i d ≡ get_or l i d
  last_other i n = go (dec_lt i (length l))
    where
      go : Dec (i < length l) → get_or (l ++ (x ∷ [])) i d ≡ get_or l i d
      go (yes k) = get_or-append l (x ∷ []) d i k
      go (no k) =
          get_or-eq_default (l ++ (x ∷ [])) d (rw (length-append l (x ∷ [])) (omega arith))
          ∙ sym (get_or-eq_default l d (omega arith))

pub more_indexed : (row n : ℕ) (items : List (List Word)) (W : List Word) (index index' : List ℕ) (j : ℕ) → j ≡ length items
    → Indexed row n items index → Marks row n j W index index' → Indexed row n (items ++ (W ∷ [])) index'
unfolding acts_any
more_indexed row n items W index index' j e x m = record {
  marks = λ q i h k. m.marks q i h k ∙ rw (x.marks q i h k) (go q i (ℕ_discrete i j));
}
  where
    go : (q i : ℕ) → Dec (i ≡ j) → max (acts_any (get_or items i []) q) (cond (eqb i j) (acts_any W q) 0) ≡ acts_any (get_or (items ++ (W ∷ [])) i []) q
    go q i (yes d) =
        let f : i ≡ length items = d ∙ e in
        let none : get_or items i [] ≡ [] = get_or-eq_default items [] (omega arith) in
        rw (eq-eqb i j d, none, f, last_there items W []) (omega arith)
    go q i (no d) = rw (ne_eqb i j d, last_other items W [] i (λ f. d (f ∙ sym e))) (omega arith)
