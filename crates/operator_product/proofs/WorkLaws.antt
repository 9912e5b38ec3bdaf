-- SPDX-FileCopyrightText: 2026 The PPVM Authors
-- SPDX-License-Identifier: Apache-2.0

-- The work table of a product: the first places hold the sums, what stands past them stays. Assumes nothing.
use mathlib.Core.Path.{◌≡◌, refl, sym, ap, ap₂, ◌∙◌, subst, subst⁻¹}
use mathlib.Core.List.{List, [], ◌∷◌, ◌++◌, map, append_assoc, append-nil}
use Prim.Native.Nat.{ℕ, zero, suc, ◌+◌, ◌-◌, ◌*◌, ◌≤◌, ◌<◌}
use native.Mathlib.Omega.{arith}
use lib.Ieee.{Float}
use lib.ListN.{length, get_or, take, drop, length-take, length-map}
use lib.Seq.{take-take, take_at, drop_at, get_or-drop, drop-drop}
use Rattle.word.specs.Word.{identity}
use Rattle.word.specs.Flat.{words, word_lanes}
use Rattle.word.specs.declared.word.Word.{Word}
use Rattle.word.proofs.FlatLaws.{words_take, words_drop}
use Rattle.number.specs.Numbers.{Cx}
use Rattle.number.specs.Floats.{floats}
use Rattle.gksl.specs.Operator.{Onto}
use Rattle.gksl.specs.Words.{pauli}
use Rattle.sums.specs.Numbers.{complexes, no_number}
use Rattle.gksl.specs.Rules.{pairs_over}
use Rattle.gksl.specs.Table.{put_over, put_all_over}
use Rattle.sums.specs.Sums.{rows, sum_rows, Rising}
use Rattle.std.specs.Prelude.{Option, Some, None}
use Rattle.sums.proofs.SumLaws.{Holds, holds_next, holds_full, table_long, length_put_high, rising_put_all, rising_empty, put_all_last, put_all_append, length_put_all_high}
use Rattle.model.proofs.TermLaws.{take_complexes, drop_complexes, terms_none, terms_more}
use Rattle.model.specs.Terms.{term_at, terms_in, terms_of}
use Rattle.operator_product.specs.Product.{formed_term, SumRoom, RowRoom, PairRoom, Forms}
use Rattle.model.specs.declared.stored.Range.{Range}
use Rattle.sums.specs.Between.{Puts}

-- ---- the first k rows
rows_take : (k : ℕ) (a : List Word) (b : List (Cx floats)) → rows (take k a) (take k b) ≡ take k (rows a b)
unfolding rows
rows_take zero a b = refl
rows_take (suc k) [] b = refl
rows_take (suc k) (w ∷ a) [] = refl
rows_take (suc k) (w ∷ a) (z ∷ b) = ap (λ (t : List (Onto floats pauli)). record { num = z; word = w } ∷ t) (rows_take k a b)

-- ---- the sums do not see what stands past their places
pub table_front : (m : ℕ) (lanes : List ℕ) (numbers : List Float) → m ≤ 256 → sum_rows m (take (word_lanes * 256) lanes) (take 512 numbers) ≡ sum_rows m lanes numbers
table_front m lanes numbers h =
    ap₂ (λ (a : List Word) (b : List (Cx floats)). take m (rows a b)) (words_take 256 lanes) (sym (take_complexes 256 numbers))
    ∙ ap (take m) (rows_take 256 (words lanes) (complexes numbers))
    ∙ take-take m 256 (rows (words lanes) (complexes numbers)) h

pub table_joined : (m : ℕ) (p d : List ℕ) (q e : List Float) → length p ≡ word_lanes * 256 → length q ≡ 512 → m ≤ 256 → sum_rows m (p ++ d) (q ++ e) ≡ sum_rows m p q
table_joined m p d q e hp hq h =
    sym (table_front m (p ++ d) (q ++ e) h)
    ∙ ap₂ (λ (a : List ℕ) (b : List Float). sum_rows m a b) (take_at p d (word_lanes * 256) hp) (take_at q e 512 hq)

-- ---- terms past them stay
pub term_stays : (j : ℕ) (lanes lanes' : List ℕ) (numbers numbers' : List Float) → 256 ≤ j
    → drop (word_lanes * 256) lanes' ≡ drop (word_lanes * 256) lanes → drop 512 numbers' ≡ drop 512 numbers → term_at lanes' numbers' j ≡ term_at lanes numbers j
term_stays j lanes lanes' numbers numbers' h el en =
    let k : 256 + (j - 256) ≡ j = omega arith in
    λ i. record { num = (number k) i; word = (word k) i }
  where
    word : 256 + (j - 256) ≡ j → get_or (words lanes') j identity ≡ get_or (words lanes) j identity
    word k =
        ap (λ (m : ℕ). get_or (words lanes') m identity) (sym k) ∙ sym (get_or-drop 256 (words lanes') (j - 256) identity)
        ∙ ap (λ (l : List Word). get_or l (j - 256) identity) (sym (words_drop 256 lanes') ∙ ap words el ∙ words_drop 256 lanes)
        ∙ get_or-drop 256 (words lanes) (j - 256) identity ∙ ap (λ (m : ℕ). get_or (words lanes) m identity) k

    number : 256 + (j - 256) ≡ j → get_or (complexes numbers') j no_number ≡ get_or (complexes numbers) j no_number
    number k =
        ap (λ (m : ℕ). get_or (complexes numbers') m no_number) (sym k) ∙ sym (get_or-drop 256 (complexes numbers') (j - 256) no_number)
        ∙ ap (λ (l : List (Cx floats)). get_or l (j - 256) no_number) (drop_complexes 256 numbers' ∙ ap complexes en ∙ sym (drop_complexes 256 numbers))
        ∙ get_or-drop 256 (complexes numbers) (j - 256) no_number ∙ ap (λ (m : ℕ). get_or (complexes numbers) m no_number) k

-- ---- one term more

-- ---- one term put to the sums
module _ (t : Onto floats pauli) (count : ℕ) (lanes : List ℕ) (numbers : List Float) (h : SumRoom count lanes numbers) where
  pub front_rises : Rising (sum_rows count (take (word_lanes * 256) lanes) (take 512 numbers))
  front_rises = rw (table_front count lanes numbers (omega (arith, h.room))) h.rises

  front_holds : Holds 256 count (take (word_lanes * 256) lanes) (take 512 numbers) (sum_rows count lanes numbers)
  front_holds = record {
    holds = table_front count lanes numbers (omega (arith, h.room));
    count = table_long count lanes numbers (omega (arith, h.room, h.lanes_long)) (omega (arith, h.room, h.numbers_long));
    fits = omega (arith, h.room);
    rises = h.rises;
  }

  module _ (p : List ℕ) (q : List Float) (r : Option ℕ) (put : Puts 256 count t (take (word_lanes * 256) lanes) (take 512 numbers) p q r) where
    -- there is room for it
    pub sum_full : r ≡ None → ⊥
    sum_full e =
        let f = holds_full 256 count (take (word_lanes * 256) lanes) (take 512 numbers) (sum_rows count lanes numbers) front_holds t p q r put e in
        let g = length_put_high t (sum_rows count lanes numbers) in
        let l = front_holds.count in
        omega (arith, h.room)

    pub sum_held : (m : ℕ) → r ≡ Some m → length p ≡ word_lanes * 256 → length q ≡ 512 → Forms (t ∷ []) count lanes numbers m (p ++ drop (word_lanes * 256) lanes) (q ++ drop 512 numbers)
    unfolding put_all_over
    sum_held m e lp lq =
        let n = holds_next 256 count (take (word_lanes * 256) lanes) (take 512 numbers) (sum_rows count lanes numbers) front_holds t p q r put m e in
        record {
          sums = table_joined m p (drop (word_lanes * 256) lanes) q (drop 512 numbers) lp lq n.fits ∙ n.holds;
          count = n.count;
          lanes_stay = drop_at p (drop (word_lanes * 256) lanes) (word_lanes * 256) lp;
          numbers_stay = drop_at q (drop 512 numbers) 512 lq;
        }

map_append : (f : Onto floats pauli → Onto floats pauli) (A B : List (Onto floats pauli)) → map f (A ++ B) ≡ map f A ++ map f B
map_append f [] B = refl
map_append f (t ∷ A) B = ap (λ (l : List (Onto floats pauli)). f t ∷ l) (map_append f A B)

-- ---- a run of terms put to the sums: those that f makes of the terms before place j
pub record RunState (f : Onto floats pauli → Onto floats pauli) (len start end : ℕ) (lanes₀ : List ℕ) (numbers₀ : List Float) (lanes : List ℕ) (numbers : List Float) (count j : ℕ) : Type 0 where
  pub low : start ≤ j
  pub high : j ≤ end
  pub lanes_same : length lanes ≡ length lanes₀
  pub numbers_same : length numbers ≡ length numbers₀
  pub few : count ≤ len + (j - start)
  pub forms : Forms (map f (terms_in lanes₀ numbers₀ start j)) len lanes₀ numbers₀ count lanes numbers

module _ (f : Onto floats pauli → Onto floats pauli) (len start end : ℕ) (lanes₀ : List ℕ) (numbers₀ : List Float) (room : RowRoom len start end lanes₀ numbers₀) where
  pub run_start : RunState f len start end lanes₀ numbers₀ lanes₀ numbers₀ len start
  unfolding put_all_over
  run_start =
      let e = ap (map f) (terms_none lanes₀ numbers₀ start) in
      record {
        low = omega arith;
        high = room.order;
        lanes_same = refl;
        numbers_same = refl;
        few = omega arith;
        forms = subst⁻¹ (λ (A : List (Onto floats pauli)). Forms A len lanes₀ numbers₀ len lanes₀ numbers₀) e
            (record { sums = refl; count = table_long len lanes₀ numbers₀ (omega (arith, room.past, room.order, room.lanes_long, room.room)) (omega (arith, room.past, room.order, room.numbers_long, room.room)); lanes_stay = refl; numbers_stay = refl });
      }

  module _ (lanes : List ℕ) (numbers : List Float) (count j : ℕ) (s : RunState f len start end lanes₀ numbers₀ lanes numbers count j) where
    pub run_room : j < end → SumRoom count lanes numbers
    run_room h = record {
      lanes_long = omega (arith, s.lanes_same, room.lanes_long, room.past, s.low);
      numbers_long = omega (arith, s.numbers_same, room.numbers_long, room.past, s.low);
      room = omega (arith, s.few, room.room, s.low);
      rises = rw s.forms.sums (rising_put_all (map f (terms_in lanes₀ numbers₀ start j)) (sum_rows len lanes₀ numbers₀) room.rises);
    }

    pub run_next : j < end → (t : Onto floats pauli) (m : ℕ) (lanes' : List ℕ) (numbers' : List Float) → t ≡ f (term_at lanes numbers j)
        → Forms (t ∷ []) count lanes numbers m lanes' numbers' → length lanes' ≡ length lanes → length numbers' ≡ length numbers
        → RunState f len start end lanes₀ numbers₀ lanes' numbers' m (j + 1)
    unfolding put_all_over
    run_next h t m lanes' numbers' e g hl hn =
        let A : List (Onto floats pauli) = map f (terms_in lanes₀ numbers₀ start j) in
        let T : List (Onto floats pauli) = sum_rows len lanes₀ numbers₀ in
        let u : t ≡ f (term_at lanes₀ numbers₀ j) = e ∙ ap f (term_stays j lanes₀ lanes numbers₀ numbers (omega (arith, room.past, s.low)) s.forms.lanes_stay s.forms.numbers_stay) in
        let more : map f (terms_in lanes₀ numbers₀ start (j + 1)) ≡ A ++ (t ∷ []) =
        ap (map f) (terms_more lanes₀ numbers₀ start j s.low (omega (arith, room.lanes_long)) (omega (arith, room.numbers_long)))
        ∙ map_append f (terms_in lanes₀ numbers₀ start j) (term_at lanes₀ numbers₀ j ∷ [])
        ∙ ap (λ (v : Onto floats pauli). A ++ (v ∷ [])) (sym u) in
        let put : put_all_over floats pauli (A ++ (t ∷ [])) T ≡ put_over floats pauli t (sum_rows count lanes numbers) = put_all_last A t T ∙ ap (put_over floats pauli t) (sym s.forms.sums) in
        record {
          low = omega (arith, s.low);
          high = omega arith;
          lanes_same = hl ∙ s.lanes_same;
          numbers_same = hn ∙ s.numbers_same;
          few = omega (arith, s.few, s.low, g.count, length_put_high t (sum_rows count lanes numbers), table_long count lanes numbers (omega (arith, (run_room h).room, (run_room h).lanes_long)) (omega (arith, (run_room h).room, (run_room h).numbers_long)));
          forms = subst⁻¹ (λ (B : List (Onto floats pauli)). Forms B len lanes₀ numbers₀ m lanes' numbers') more
              (record {
                sums = g.sums ∙ sym put;
                count = ap length put ∙ g.count;
                lanes_stay = g.lanes_stay ∙ s.forms.lanes_stay;
                numbers_stay = g.numbers_stay ∙ s.forms.numbers_stay;
              });
        }

    pub run_done : end ≤ j → Forms (map f (terms_in lanes₀ numbers₀ start end)) len lanes₀ numbers₀ count lanes numbers
    run_done h =
        let e : j ≡ end = omega (arith, s.high) in
        subst (λ (k : ℕ). Forms (map f (terms_in lanes₀ numbers₀ start k)) len lanes₀ numbers₀ count lanes numbers) e s.forms

-- ---- the products of each term of A with each of B
pub pairs_more : (f : Onto floats pauli → Onto floats pauli → Onto floats pauli) (A : List (Onto floats pauli)) (a : Onto floats pauli) (B : List (Onto floats pauli))
    → pairs_over floats pauli f (A ++ (a ∷ [])) B ≡ pairs_over floats pauli f A B ++ map (f a) B
unfolding pairs_over
pairs_more f [] a B = append-nil (map (f a) B)
pairs_more f (t ∷ A) a B = ap (λ (l : List (Onto floats pauli)). map (f t) B ++ l) (pairs_more f A a B) ∙ sym (append_assoc (map (f t) B) (pairs_over floats pauli f A B) (map (f a) B))

-- terms past the sums stay, as a list
rows_drop : (k : ℕ) (a : List Word) (b : List (Cx floats)) → drop k (rows a b) ≡ rows (drop k a) (drop k b)
unfolding rows
rows_drop zero a b = refl
rows_drop (suc k) [] b = refl
rows_drop (suc k) (w ∷ a) [] = sym (rows_none (drop k a))
  where
    rows_none : (a : List Word) → rows a [] ≡ []
    rows_none [] = refl
    rows_none (w ∷ a) = refl
rows_drop (suc k) (w ∷ a) (z ∷ b) = rows_drop k a b

pub terms_stay : (s e : ℕ) (lanes lanes' : List ℕ) (numbers numbers' : List Float) → 256 ≤ s
    → drop (word_lanes * 256) lanes' ≡ drop (word_lanes * 256) lanes → drop 512 numbers' ≡ drop 512 numbers → terms_in lanes' numbers' s e ≡ terms_in lanes numbers s e
terms_stay s e lanes lanes' numbers numbers' h el en =
    let k : 256 + (s - 256) ≡ s = omega arith in
    ap (take (e - s))
    (ap (λ (m : ℕ). drop m (rows (words lanes') (complexes numbers'))) (sym k) ∙ sym (drop-drop (s - 256) 256 (rows (words lanes') (complexes numbers')))
    ∙ ap (drop (s - 256)) (past lanes' numbers' ∙ ap₂ (λ (a : List ℕ) (b : List Float). rows (words a) (complexes b)) el en ∙ sym (past lanes numbers))
    ∙ drop-drop (s - 256) 256 (rows (words lanes) (complexes numbers)) ∙ ap (λ (m : ℕ). drop m (rows (words lanes) (complexes numbers))) k)
  where
    past : (l : List ℕ) (n : List Float) → drop 256 (rows (words l) (complexes n)) ≡ rows (words (drop (word_lanes * 256) l)) (complexes (drop 512 n))
    past l n = rows_drop 256 (words l) (complexes n) ∙ sym (ap₂ rows (words_drop 256 l) (sym (drop_complexes 256 n)))

pub record PairState (left right : Range) (lanes₀ : List ℕ) (numbers₀ : List Float) (lanes : List ℕ) (numbers : List Float) (count i : ℕ) : Type 0 where
  pub low : left.start ≤ i
  pub high : i ≤ left.end
  pub lanes_same : length lanes ≡ length lanes₀
  pub numbers_same : length numbers ≡ length numbers₀
  pub few : count ≤ 16 * (i - left.start)
  pub forms : Forms (pairs_over floats pauli formed_term (terms_in lanes₀ numbers₀ left.start i) (terms_of lanes₀ numbers₀ right)) 0 lanes₀ numbers₀ count lanes numbers

module _ (left right : Range) (lanes₀ : List ℕ) (numbers₀ : List Float) (room : PairRoom left right lanes₀ numbers₀) where
  abbrev B : List (Onto floats pauli)
  B = terms_of lanes₀ numbers₀ right

  abbrev A : ℕ → List (Onto floats pauli)
  A i = terms_in lanes₀ numbers₀ left.start i

  pub pair_start : PairState left right lanes₀ numbers₀ lanes₀ numbers₀ 0 left.start
  unfolding put_all_over pairs_over
  pair_start =
      let e = ap (λ (l : List (Onto floats pauli)). pairs_over floats pauli formed_term l B) (terms_none lanes₀ numbers₀ left.start) in
      record {
        low = omega arith;
        high = room.left_order;
        lanes_same = refl;
        numbers_same = refl;
        few = omega arith;
        forms = subst⁻¹ (λ (l : List (Onto floats pauli)). Forms l 0 lanes₀ numbers₀ 0 lanes₀ numbers₀) e (record { sums = refl; count = refl; lanes_stay = refl; numbers_stay = refl });
      }

  module _ (lanes : List ℕ) (numbers : List Float) (count i : ℕ) (s : PairState left right lanes₀ numbers₀ lanes numbers count i) (h : i < left.end) where
    abbrev P : List (Onto floats pauli)
    P = pairs_over floats pauli formed_term (A i) B

    pub pair_rises : Rising (sum_rows count lanes numbers)
    pair_rises = rw s.forms.sums (rising_put_all P (sum_rows 0 lanes₀ numbers₀) (rising_empty lanes₀ numbers₀))

    pub pair_room : RowRoom count right.start right.end lanes numbers
    pair_room = record {
      past = room.right_past;
      order = room.right_order;
      lanes_long = omega (arith, s.lanes_same, room.lanes_long.1);
      numbers_long = omega (arith, s.numbers_same, room.numbers_long.1);
      room = omega (arith, s.few, s.low, room.few.0, room.few.1);
      rises = pair_rises;
    }

    pub pair_next : (a : Onto floats pauli) (m : ℕ) (lanes' : List ℕ) (numbers' : List Float) → a ≡ term_at lanes numbers i
        → Forms (map (formed_term a) (terms_in lanes numbers right.start right.end)) count lanes numbers m lanes' numbers'
        → length lanes' ≡ length lanes → length numbers' ≡ length numbers
        → PairState left right lanes₀ numbers₀ lanes' numbers' m (i + 1)
    pair_next a m lanes' numbers' e g hl hn =
        let T : List (Onto floats pauli) = sum_rows 0 lanes₀ numbers₀ in
        let u : a ≡ term_at lanes₀ numbers₀ i = e ∙ term_stays i lanes₀ lanes numbers₀ numbers (omega (arith, room.left_past, s.low)) s.forms.lanes_stay s.forms.numbers_stay in
        let same : terms_in lanes numbers right.start right.end ≡ B = terms_stay right.start right.end lanes₀ lanes numbers₀ numbers room.right_past s.forms.lanes_stay s.forms.numbers_stay in
        let row : List (Onto floats pauli) = map (formed_term a) B in
        let more : pairs_over floats pauli formed_term (A (i + 1)) B ≡ P ++ row =
        ap (λ (l : List (Onto floats pauli)). pairs_over floats pauli formed_term l B) (terms_more lanes₀ numbers₀ left.start i s.low (omega (arith, room.lanes_long.0)) (omega (arith, room.numbers_long.0)))
        ∙ pairs_more formed_term (A i) (term_at lanes₀ numbers₀ i) B
        ∙ ap (λ (t : Onto floats pauli). P ++ map (formed_term t) B) (sym u) in
        let put : put_all_over floats pauli (P ++ row) T ≡ put_all_over floats pauli (map (formed_term a) (terms_in lanes numbers right.start right.end)) (sum_rows count lanes numbers) =
        put_all_append P row T ∙ ap₂ (put_all_over floats pauli) (ap (map (formed_term a)) (sym same)) (sym s.forms.sums) in
        let long : length row ≤ 16 = omega (arith, length-map B (formed_term a), length-take (right.end - right.start) (drop right.start (rows (words lanes₀) (complexes numbers₀))), room.few.1) in
        let held : length (sum_rows count lanes numbers) ≡ count = ap length s.forms.sums ∙ s.forms.count in
        let total : length (put_all_over floats pauli (P ++ row) T) ≡ m = ap length put ∙ g.count in
        record {
          low = omega (arith, s.low);
          high = omega arith;
          lanes_same = hl ∙ s.lanes_same;
          numbers_same = hn ∙ s.numbers_same;
          few = omega (arith, s.few, s.low, long, total, ap length (put_all_append P row T), length_put_all_high row (put_all_over floats pauli P T), s.forms.count);
          forms = subst⁻¹ (λ (l : List (Onto floats pauli)). Forms l 0 lanes₀ numbers₀ m lanes' numbers') more
              (record {
                sums = g.sums ∙ sym put;
                count = total;
                lanes_stay = g.lanes_stay ∙ s.forms.lanes_stay;
                numbers_stay = g.numbers_stay ∙ s.forms.numbers_stay;
              });
        }
