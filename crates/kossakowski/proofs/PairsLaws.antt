-- SPDX-FileCopyrightText: 2026 The PPVM Authors
-- SPDX-License-Identifier: Apache-2.0

-- All pairs of K in turn, over operators whose terms stand in the work table: counted, then stored. Assumes nothing.
use mathlib.Core.Path.{◌≡◌, refl, sym, ap, ap₂, ◌∙◌, subst}
use mathlib.Core.Bool.{true, false}
use mathlib.Core.List.{List, [], ◌∷◌, map}
use Prim.Native.Nat.{ℕ, zero, suc, ◌+◌, ◌-◌, ◌*◌, ◌/◌, ◌%◌, ◌≤◌, ◌<◌}
use native.Mathlib.Omega.{arith}
use lib.Ieee.{Float}
use lib.ListN.{length, get_or, take, drop}
use lib.Seq.{take-take, drop-drop}
use Rattle.word.specs.Flat.{words}
use Rattle.number.specs.Numbers.{Cx}
use Rattle.number.specs.Floats.{floats}
use Rattle.gksl.specs.Model.{entry_in}
use Rattle.sums.specs.Numbers.{complexes, no_number}
use Rattle.sums.specs.Sums.{rows}
use Rattle.model.specs.Terms.{Term, terms_of}
use Rattle.model_build.specs.Built.{parts}
use Rattle.model_build.specs.Built as Compiling
use Rattle.model_build.specs.Compiled.{Compiled}
use Rattle.lent.specs.Laid.{total}
use Rattle.operator_product.specs.Product.{PairRoom}
use Rattle.model_build.specs.Work.{JumpRoom, StoresJump, JumpsRoom, StoresJumps}
use Rattle.model.specs.declared.stored.Range.{Range}
use Rattle.model_build.proofs.Parts.{total_split, total_turn, part_is}
use Rattle.operator_product.proofs.WorkLaws.{terms_stay}
use Rattle.model_build.proofs.JumpsLaws.{terms_turn, terms_end, Storing, storing_room, storing_next, storing_done}
use Rattle.k_matrix.specs.Matrix.{is_pair, passing}
use Rattle.k_matrix.specs.Pairs.{compile_pair, range_of, pair_at, pairs_of}
use Rattle.k_matrix.specs.Work.{OperatorsRoom, operators_in, CountsPair, WorkStays}
use Rattle.k_matrix.proofs.MatrixLaws.{row_below, column_below, entry_place, passing_yes, passing_no, passing_end}

-- ---- where the terms of operator n stand
pub range_fits : (counts : List ℕ) (n : ℕ) → n < length counts → total (take n counts) + get_or counts n 0 ≤ total counts
range_fits counts n h = omega (arith, total_split n counts, total_turn counts n h)

module _ {A : Type 0} where
  part_at : (ns : List ℕ) (l : List A) (n : ℕ) → n < length ns → get_or (parts ns l) n [] ≡ take (get_or ns n 0) (drop (total (take n ns)) l)
  unfolding parts total
  part_at [] l n h = absurd (omega arith)
  part_at (k ∷ ns) l zero h = refl
  part_at (k ∷ ns) l (suc n) h = part_at ns (drop k l) n (omega arith) ∙ ap (take (get_or ns n 0)) (drop-drop (total (take n ns)) k l)

  take_inside : (m n k : ℕ) (l : List A) → n + m ≤ k → take m (drop n (take k l)) ≡ take m (drop n l)
  take_inside m zero k l h = take-take m k l (omega arith)
  take_inside m (suc n) zero l h = absurd (omega arith)
  take_inside m (suc n) (suc k) [] h = refl
  take_inside m (suc n) (suc k) (a ∷ l) h = take_inside m n k l (omega arith)

operator_at : (counts lanes : List ℕ) (numbers : List Float) (n : ℕ) → n < length counts → terms_of lanes numbers (range_of 256 counts n) ≡ get_or (operators_in counts lanes numbers) n []
operator_at counts lanes numbers n h =
    let R : List Term = rows (words lanes) (complexes numbers) in
    let t : ℕ = total (take n counts) in
    let c : ℕ = get_or counts n 0 in
    let w : ℕ = 256 + total counts - 256 in
    part_is R (256 + t) c (256 + t + c) refl
    ∙ ap (take c) (sym (drop-drop t 256 R))
    ∙ sym (take_inside c t w (drop 256 R) (omega (arith, range_fits counts n h)))
    ∙ sym (part_at counts (take w (drop 256 R)) n h)

-- ---- the work table while pairs are formed: the operators' terms stay
pub record Standing (lanes₀ : List ℕ) (numbers₀ : List Float) (lanes : List ℕ) (numbers : List Float) : Type 0 where
  pub lanes_same : length lanes ≡ length lanes₀
  pub numbers_same : length numbers ≡ length numbers₀
  pub stays : WorkStays lanes₀ numbers₀ lanes numbers

pub standing_next : (lanes₀ lanes lanes' : List ℕ) (numbers₀ numbers numbers' : List Float) → Standing lanes₀ numbers₀ lanes numbers
    → WorkStays lanes numbers lanes' numbers' → length lanes' ≡ length lanes → length numbers' ≡ length numbers → Standing lanes₀ numbers₀ lanes' numbers'
standing_next lanes₀ lanes lanes' numbers₀ numbers numbers' s w hl hn = record {
  lanes_same = hl ∙ s.lanes_same;
  numbers_same = hn ∙ s.numbers_same;
  stays = record { lanes_stay = w.lanes_stay ∙ s.stays.lanes_stay; numbers_stay = w.numbers_stay ∙ s.stays.numbers_stay };
}

module _ (counts lanes₀ : List ℕ) (numbers₀ : List Float) (room : OperatorsRoom counts lanes₀ numbers₀) (lanes : List ℕ) (numbers : List Float) (s : Standing lanes₀ numbers₀ lanes numbers) where
  -- there is room for the product of the two operators of a place
  ranges_fit : (n m : ℕ) → n < length counts → m < length counts → PairRoom (range_of 256 counts n) (range_of 256 counts m) lanes numbers
  ranges_fit n m hn hm = record {
    left_past = omega arith;
    left_order = omega arith;
    right_past = omega arith;
    right_order = omega arith;
    lanes_long = (omega (arith, range_fits counts n hn, s.lanes_same, room.lanes_long), omega (arith, range_fits counts m hm, s.lanes_same, room.lanes_long));
    numbers_long = (omega (arith, range_fits counts n hn, s.numbers_same, room.numbers_long), omega (arith, range_fits counts m hm, s.numbers_same, room.numbers_long));
    few = (omega (arith, room.few n), omega (arith, room.few m));
  }

  pub standing_room : (p : ℕ) (left right : Range) → p < length counts * length counts → left ≡ range_of 256 counts (p / length counts) → right ≡ range_of 256 counts (p % length counts)
      → PairRoom left right lanes numbers
  standing_room p left right h el er =
      rw (el, er) (ranges_fit (p / length counts) (p % length counts) (row_below (length counts) p h) (column_below (length counts) p h))

  standing_operator : (n : ℕ) (own : Range) → n < length counts → own ≡ range_of 256 counts n → terms_of lanes numbers own ≡ get_or (operators_in counts lanes₀ numbers₀) n []
  standing_operator n own h e =
      let t : ℕ = total (take n counts) in
      ap (terms_of lanes numbers) e
      ∙ terms_stay (256 + t) (256 + t + get_or counts n 0) lanes₀ lanes numbers₀ numbers (omega arith) s.stays.lanes_stay s.stays.numbers_stay
      ∙ operator_at counts lanes₀ numbers₀ n h

-- ---- the pairs that are left from place p on
module _ (from : ℕ) (counts : List ℕ) (K : List (Cx floats)) (ops : List (List Term)) where
  abbrev pub pairs_left : ℕ → List Compiled
  pairs_left p = map (pair_at from counts K ops) (passing (is_pair floats (length counts) K) p (length counts * length counts - p))

  module _ (p : ℕ) where
    left_yes : p < length counts * length counts → is_pair floats (length counts) K p ≡ true → pairs_left p ≡ pair_at from counts K ops p ∷ pairs_left (p + 1)
    left_yes h e = ap (map (pair_at from counts K ops)) (passing_yes (is_pair floats (length counts) K) p (length counts * length counts) h e)

    left_no : p < length counts * length counts → is_pair floats (length counts) K p ≡ false → pairs_left p ≡ pairs_left (p + 1)
    left_no h e = ap (map (pair_at from counts K ops)) (passing_no (is_pair floats (length counts) K) p (length counts * length counts) h e)

    left_end : length counts * length counts ≤ p → pairs_left p ≡ []
    left_end h = ap (map (pair_at from counts K ops)) (passing_end (is_pair floats (length counts) K) p (length counts * length counts) h)

-- ---- counting: the terms so far and those that are left
pub record CountState (K : List (Cx floats)) (counts lanes₀ : List ℕ) (numbers₀ : List Float) (lanes : List ℕ) (numbers : List Float) (kept p : ℕ) : Type 0 where
  pub high : p ≤ length counts * length counts
  pub standing : Standing lanes₀ numbers₀ lanes numbers
  pub few : kept ≤ 512 * p
  pub counted : (from : ℕ)
      → kept + length (Compiling.terms_of (pairs_left from counts K (operators_in counts lanes₀ numbers₀) p)) ≡ length (Compiling.terms_of (pairs_of from counts K (operators_in counts lanes₀ numbers₀)))

module _ (K : List (Cx floats)) (counts lanes₀ : List ℕ) (numbers₀ : List Float) (room : OperatorsRoom counts lanes₀ numbers₀) where
  abbrev ops : List (List Term)
  ops = operators_in counts lanes₀ numbers₀

  module _ (lanes : List ℕ) (numbers : List Float) (kept p : ℕ) (s : CountState K counts lanes₀ numbers₀ lanes numbers kept p) where
    -- place p makes no pair
    pub count_skips : p < length counts * length counts → is_pair floats (length counts) K p ≡ false → CountState K counts lanes₀ numbers₀ lanes numbers kept (p + 1)
    count_skips h e = record {
      high = omega arith;
      standing = s.standing;
      few = omega (arith, s.few);
      counted = λ from. omega (arith, s.counted from, ap (λ (x : List Compiled). length (Compiling.terms_of x)) (left_no from counts K ops p h e));
    }

    -- the pair at place p is counted
    pub count_next : (lanes' : List ℕ) (numbers' : List Float) (left right : Range) (r : ℕ) → p < length counts * length counts → is_pair floats (length counts) K p ≡ true
        → left ≡ range_of 256 counts (p / length counts) → right ≡ range_of 256 counts (p % length counts)
        → CountsPair (terms_of lanes numbers left) (terms_of lanes numbers right) r
        → WorkStays lanes numbers lanes' numbers' → length lanes' ≡ length lanes → length numbers' ≡ length numbers
        → CountState K counts lanes₀ numbers₀ lanes' numbers' (kept + r) (p + 1)
    count_next lanes' numbers' left right r h e el er c w hl hn =
        let n : ℕ = p / length counts in
        let m : ℕ = p % length counts in
        let ln = standing_operator counts lanes₀ numbers₀ room lanes numbers s.standing n left (row_below (length counts) p h) el in
        let lm = standing_operator counts lanes₀ numbers₀ room lanes numbers s.standing m right (column_below (length counts) p h) er in
        record {
          high = omega arith;
          standing = standing_next lanes₀ lanes lanes' numbers₀ numbers numbers' s.standing w hl hn;
          few = omega (arith, s.few, c.few);
          counted = λ from.
              let own : Compiled = pair_at from counts K ops p in
              let z : Cx floats = entry_in floats (length counts) K n m in
              let is : r ≡ length own.terms = c.counts z (range_of from counts n) (range_of from counts m)
              ∙ ap₂ (λ (A B : List Term). length (compile_pair z (range_of from counts n) (range_of from counts m) A B).terms) ln lm in
              let turn = ap (λ (x : List Compiled). length (Compiling.terms_of x)) (left_yes from counts K ops p h e) ∙ terms_turn own (pairs_left from counts K ops (p + 1)) in
              omega (arith, s.counted from, turn, is);
        }

    pub count_done : length counts * length counts ≤ p → (from : ℕ) → kept ≡ length (Compiling.terms_of (pairs_of from counts K ops))
    count_done h from = omega (arith, s.counted from, ap (λ (x : List Compiled). length (Compiling.terms_of x)) (left_end from counts K ops p h) ∙ terms_end)

-- ---- storing
pub record StoreState (from first at : ℕ) (K : List (Cx floats)) (counts lanes₀ : List ℕ) (numbers₀ : List Float) (jumps₀ : List ℕ) (rates₀ : List Float) (tLanes₀ : List ℕ) (tNumbers₀ : List Float)
    (lanes : List ℕ) (numbers : List Float) (jumps : List ℕ) (rates : List Float) (tLanes : List ℕ) (tNumbers : List Float) (place j p : ℕ) : Type 0 where
  pub high : p ≤ length counts * length counts
  pub standing : Standing lanes₀ numbers₀ lanes numbers
  pub storing : Storing (pairs_of from counts K (operators_in counts lanes₀ numbers₀)) (pairs_left from counts K (operators_in counts lanes₀ numbers₀) p) jumps₀ rates₀ tLanes₀ tNumbers₀ at first jumps rates tLanes tNumbers place j

module _ (from first at : ℕ) (K : List (Cx floats)) (counts lanes₀ : List ℕ) (numbers₀ : List Float) (jumps₀ : List ℕ) (rates₀ : List Float) (tLanes₀ : List ℕ) (tNumbers₀ : List Float)
    (square : length K ≡ length counts * length counts) (work : OperatorsRoom counts lanes₀ numbers₀)
    (room : JumpsRoom (pairs_of from counts K (operators_in counts lanes₀ numbers₀)) first at jumps₀ rates₀ tLanes₀ tNumbers₀) where
  abbrev As : List (List Term)
  As = operators_in counts lanes₀ numbers₀

  abbrev all : List Compiled
  all = pairs_of from counts K As

  module _ (lanes : List ℕ) (numbers : List Float) (jumps : List ℕ) (rates : List Float) (tLanes : List ℕ) (tNumbers : List Float) (place j p : ℕ)
      (s : StoreState from first at K counts lanes₀ numbers₀ jumps₀ rates₀ tLanes₀ tNumbers₀ lanes numbers jumps rates tLanes tNumbers place j p) where
    -- place p makes no pair
    pub store_skips : p < length counts * length counts → is_pair floats (length counts) K p ≡ false
        → StoreState from first at K counts lanes₀ numbers₀ jumps₀ rates₀ tLanes₀ tNumbers₀ lanes numbers jumps rates tLanes tNumbers place j (p + 1)
    store_skips h e = record {
      high = omega arith;
      standing = s.standing;
      storing = subst (λ (x : List Compiled). Storing all x jumps₀ rates₀ tLanes₀ tNumbers₀ at first jumps rates tLanes tNumbers place j) (left_no from counts K As p h e) s.storing;
    }

    module _ (h : p < length counts * length counts) (e : is_pair floats (length counts) K p ≡ true) (z : Cx floats) (is : z ≡ get_or K p no_number) (left right own-left own-right : Range)
        (el : left ≡ range_of 256 counts (p / length counts)) (er : right ≡ range_of 256 counts (p % length counts))
        (ol : own-left ≡ range_of from counts (p / length counts)) (or : own-right ≡ range_of from counts (p % length counts)) where
      -- the pair that is stored is the first of those that are left
      abbrev own : Compiled
      own = compile_pair z own-left own-right (terms_of lanes numbers left) (terms_of lanes numbers right)

      own_is : own ≡ pair_at from counts K As p
      own_is =
          let n : ℕ = p / length counts in
          let m : ℕ = p % length counts in
          let ez : z ≡ entry_in floats (length counts) K n m = is ∙ entry_place (length counts) K square p h in
          let ln = standing_operator counts lanes₀ numbers₀ work lanes numbers s.standing n left (row_below (length counts) p h) el in
          let lm = standing_operator counts lanes₀ numbers₀ work lanes numbers s.standing m right (column_below (length counts) p h) er in
          λ i. compile_pair (ez i) (ol i) (or i) (ln i) (lm i)

      left_first : pairs_left from counts K As p ≡ own ∷ pairs_left from counts K As (p + 1)
      left_first = left_yes from counts K As p h e ∙ ap (λ (c : Compiled). c ∷ pairs_left from counts K As (p + 1)) (sym own_is)

      pub store_room : JumpRoom (compile_pair z own-left own-right (terms_of lanes numbers left) (terms_of lanes numbers right)) j place jumps rates tLanes tNumbers
      store_room = storing_room all jumps₀ rates₀ tLanes₀ tNumbers₀ at first (pairs_left from counts K As p) jumps rates tLanes tNumbers place j s.storing own (pairs_left from counts K As (p + 1)) left_first room

      pub store_next : (lanes' : List ℕ) (numbers' : List Float) (r : ℕ) (jumps' : List ℕ) (rates' : List Float) (tLanes' : List ℕ) (tNumbers' : List Float)
          → StoresJump (compile_pair z own-left own-right (terms_of lanes numbers left) (terms_of lanes numbers right)) j place jumps rates tLanes tNumbers r jumps' rates' tLanes' tNumbers'
          → WorkStays lanes numbers lanes' numbers' → length lanes' ≡ length lanes → length numbers' ≡ length numbers
          → length jumps' ≡ length jumps → length rates' ≡ length rates → length tLanes' ≡ length tLanes → length tNumbers' ≡ length tNumbers
          → StoreState from first at K counts lanes₀ numbers₀ jumps₀ rates₀ tLanes₀ tNumbers₀ lanes' numbers' jumps' rates' tLanes' tNumbers' r (j + 1) (p + 1)
      store_next lanes' numbers' r jumps' rates' tLanes' tNumbers' g w wl wn hj hr hl hn = record {
        high = omega arith;
        standing = standing_next lanes₀ lanes lanes' numbers₀ numbers numbers' s.standing w wl wn;
        storing = storing_next all jumps₀ rates₀ tLanes₀ tNumbers₀ at first (pairs_left from counts K As p) jumps rates tLanes tNumbers place j s.storing
            own (pairs_left from counts K As (p + 1)) left_first r jumps' rates' tLanes' tNumbers' g hj hr hl hn;
      }

    pub store_done : length counts * length counts ≤ p → StoresJumps all first at jumps₀ rates₀ tLanes₀ tNumbers₀ jumps rates tLanes tNumbers
    store_done h =
        storing_done all jumps₀ rates₀ tLanes₀ tNumbers₀ at first (pairs_left from counts K As p) jumps rates tLanes tNumbers place j s.storing (left_end from counts K As p h)
