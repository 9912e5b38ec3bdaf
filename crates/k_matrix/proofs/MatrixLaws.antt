-- SPDX-FileCopyrightText: 2026 The PPVM Authors
-- SPDX-License-Identifier: Apache-2.0

-- K by its places: row and column of a place, what is read there, its largest square, and the places that make pairs.
-- Assumes nothing.
use mathlib.Core.Path.{◌≡◌, refl, sym, ap, ◌∙◌}
use mathlib.Core.Bool.{Bool, true, false, not, cond}
use mathlib.Core.List.{List, [], ◌∷◌}
use Prim.Native.Nat.{ℕ, zero, suc, ◌+◌, ◌-◌, ◌*◌, ◌/◌, ◌%◌, ◌<◌, ◌≤◌}
use native.Mathlib.Nat.{mod-lt, div-add-mod', div-lt_iff_lt-mul, le-div_iff_mul-le, mul-le-mul}
use native.Mathlib.Numerals.{add-one}
use native.Mathlib.Omega.{arith}
use borrow.Author.Tests.{lt-ltb, le-leb, lt-leb}
use lib.Arith.{digits_lt, digits_div, digits_mod}
use lib.Ieee.{Float}
use lib.ListN.{get_or, length, drop, drop_of_length-le}
use lib.Seq.{drop-cons}
use Rattle.number.specs.Numbers.{Cx, sub_c, conj_c, zero_c, square, largest_from}
use Rattle.number.specs.Floats.{floats}
use Rattle.gksl.specs.Model.{entry_in}
use Rattle.sums.specs.Numbers.{complexes, no_number}
use Rattle.sums.proofs.NumberLaws.{complexes_low, complexes_high}
use Rattle.model_build.proofs.Parts.{length_complexes}
use Rattle.k_matrix.specs.Matrix.{apart, apart_at, skipped, is_pair, passing, pair_places}
use Rattle.k_matrix.specs.Work.{Square}

-- ---- places
pub places_few : (ops : ℕ) → ops ≤ 64 → ops * ops ≤ 4096
places_few ops h = mul-le-mul h h

pub place_below : (ops n m : ℕ) → n < ops → m < ops → n * ops + m < ops * ops
place_below ops n m h k = digits_lt h k

-- row and column of a place
module _ (ops p : ℕ) (l : p < ops * ops) where
  pub some_ops : 0 < ops
  some_ops = go ops l
    where
      go : (k : ℕ) → p < k * k → 0 < k
      go zero h = absurd (omega arith)
      go (suc k) h = omega arith

  pub row_below : p / ops < ops
  row_below = (div-lt_iff_lt-mul {k = ops} {x = p} {y = ops} some_ops).1 l

  pub column_below : p % ops < ops
  column_below = mod-lt p some_ops

-- ---- what is read
module _ {A : Type 0} where
  -- below the length the default does not matter
  get_d_inside : (l : List A) (i : ℕ) (d e : A) → i < length l → get_or l i d ≡ get_or l i e
  get_d_inside [] i d e h = absurd (omega arith)
  get_d_inside (a ∷ l) zero d e h = refl
  get_d_inside (a ∷ l) (suc i) d e h = get_d_inside l i d e (omega arith)

module _ (ops : ℕ) (K : List (Cx floats)) (all : length K ≡ ops * ops) where
  entry_at : (n m : ℕ) → n < ops → m < ops → get_or K (n * ops + m) no_number ≡ entry_in floats ops K n m
  unfolding entry_in
  entry_at n m h l = rw (lt-ltb n ops h, lt-ltb m ops l) (get_d_inside K (n * ops + m) no_number (zero_c floats) (omega (arith, place_below ops n m h l, all)))

  pub entry_place : (p : ℕ) → p < ops * ops → get_or K p no_number ≡ entry_in floats ops K (p / ops) (p % ops)
  entry_place p l = ap (λ (q : ℕ). get_or K q no_number) (sym (div-add-mod' p ops)) ∙ entry_at (p / ops) (p % ops) (row_below ops p l) (column_below ops p l)

-- ---- the largest square, of the entries before a place and of those that are left
module _ (k : List Float) where
  abbrev pub largest_left : Float → ℕ → Float
  largest_left big p = largest_from floats big (drop p (complexes k))

  pub largest_turn : (big : Float) (p : ℕ) → 2 * p + 2 ≤ length k → {z : Cx floats} {x y : Float} → z ≡ get_or (complexes k) p no_number → x ≡ square floats z
      → y ≡ floats.larger big x → largest_left big p ≡ largest_left y (p + 1)
  unfolding largest_from
  largest_turn big p l ez ex ey =
      rw (add-one p, drop-cons (complexes k) p no_number (omega (arith, l, complexes_high k)), ey, ex, ez)

  pub largest_end : (big : Float) (p : ℕ) → length k / 2 ≤ p → largest_left big p ≡ big
  unfolding largest_from
  largest_end big p h =
      let short : length (complexes k) ≤ p = omega (arith, h, complexes_low k) in
      ap (λ (l : List (Cx floats)). largest_from floats big l) (drop_of_length-le (complexes k) short)

-- ---- an entry and its mirror entry; a place whose row is above its column is neither asked nor a pair
module _ (ops : ℕ) (K : List (Cx floats)) (p : ℕ) where
  pub apart_turned : p % ops < p / ops → apart_at floats ops K p ≡ false
  unfolding apart_at
  apart_turned h = rw (lt-leb (p / ops) (p % ops) h)

  pub apart_here : p / ops ≤ p % ops → {r b : Bool} → r ≡ apart floats ops K (p / ops) (p % ops) → r ≡ b → apart_at floats ops K p ≡ b
  unfolding apart_at
  apart_here h e t = rw (le-leb (p / ops) (p % ops) h) (sym e ∙ t)

  pub pair_turned : p % ops < p / ops → is_pair floats ops K p ≡ false
  unfolding is_pair
  pair_turned h = rw (lt-leb (p / ops) (p % ops) h)

module _ (ops : ℕ) (k : List Float) (largest : Float) (s : Square ops k largest) where
  pub apart_told : (n m : ℕ) → n < ops → m < ops → {own mirror turned less : Cx floats} {x : Float} {r : Bool}
      → own ≡ get_or (complexes k) (n * ops + m) no_number → mirror ≡ get_or (complexes k) (m * ops + n) no_number → turned ≡ conj_c floats mirror
      → less ≡ sub_c floats own turned → x ≡ square floats less → r ≡ floats.near x largest → not r ≡ apart floats ops (complexes k) n m
  unfolding apart
  apart_told n m h l eo em et es ex er =
      let all : length (complexes k) ≡ ops * ops = length_complexes (ops * ops) k s.entries_all in
      rw (er, ex, es, et, em, eo, s.largest_is, entry_at ops (complexes k) all n m h l, entry_at ops (complexes k) all m n l h)

  pub pair_told : (p : ℕ) → p < ops * ops → p / ops ≤ p % ops → {z : Cx floats} {x : Float} {r : Bool}
      → z ≡ get_or (complexes k) p no_number → x ≡ square floats z → r ≡ floats.slighter x largest → not r ≡ is_pair floats ops (complexes k) p
  unfolding is_pair skipped
  pair_told p l h ez ex er =
      let all : length (complexes k) ≡ ops * ops = length_complexes (ops * ops) k s.entries_all in
      rw (le-leb (p / ops) (p % ops) h, er, ex, ez, s.largest_is, entry_place ops (complexes k) all p l)

-- ---- the numbers that pass a test
module _ (f : ℕ → Bool) where
  -- at p, of those below n
  pub passing_yes : (p n : ℕ) → p < n → f p ≡ true → passing f p (n - p) ≡ p ∷ passing f (p + 1) (n - (p + 1))
  unfolding passing
  passing_yes p n l e = let d : n - p ≡ suc (n - (p + 1)) = omega arith in rw (d, e, add-one p)

  pub passing_no : (p n : ℕ) → p < n → f p ≡ false → passing f p (n - p) ≡ passing f (p + 1) (n - (p + 1))
  unfolding passing
  passing_no p n l e = let d : n - p ≡ suc (n - (p + 1)) = omega arith in rw (d, e, add-one p)

  pub passing_end : (p n : ℕ) → n ≤ p → passing f p (n - p) ≡ []
  unfolding passing
  passing_end p n l = let d : n - p ≡ 0 = omega arith in rw d

  passing_most : (p n : ℕ) → length (passing f p n) ≤ n
  unfolding passing
  passing_most p zero = omega arith
  passing_most p (suc n) = go (f p) (passing_most (suc p) n)
    where
      go : (b : Bool) → length (passing f (suc p) n) ≤ n → length (cond b (p ∷ passing f (suc p) n) (passing f (suc p) n)) ≤ suc n
      go true h = omega arith
      go false h = omega arith

  passing_none : (p n : ℕ) → ((j : ℕ) → p ≤ j → j < p + n → f j ≡ false) → passing f p n ≡ []
  unfolding passing
  passing_none p zero h = refl
  passing_none p (suc n) h = rw (h p (omega arith) (omega arith)) (passing_none (suc p) n (λ j a b. h j (omega arith) (omega arith)))

  passing_split : (p a b : ℕ) → length (passing f p (a + b)) ≡ length (passing f p a) + length (passing f (p + a) b)
  unfolding passing
  passing_split p zero b =
      let e : p + 0 ≡ p = omega arith in
      let d : 0 + b ≡ b = omega arith in
      rw (e, d) (omega arith)
  passing_split p (suc a) b =
      let e : p + suc a ≡ suc p + a = omega arith in
      let d : suc a + b ≡ suc (a + b) = omega arith in
      rw (e, d) (go (f p) (passing_split (suc p) a b))
    where
      go : (t : Bool) → length (passing f (suc p) (a + b)) ≡ length (passing f (suc p) a) + length (passing f (suc p + a) b)
          → length (cond t (p ∷ passing f (suc p) (a + b)) (passing f (suc p) (a + b)))
          ≡ length (cond t (p ∷ passing f (suc p) a) (passing f (suc p) a)) + length (passing f (suc p + a) b)
      go true h = omega arith
      go false h = h

-- ---- how many pairs there are
module _ (ops : ℕ) (f : ℕ → Bool) (lower : (p : ℕ) → p % ops < p / ops → f p ≡ false) where
  -- in row n those before column n make none
  row_few : (n : ℕ) → n < ops → length (passing f (n * ops) ops) ≤ ops - n
  row_few n h =
      let e : ops ≡ n + (ops - n) = omega arith in
      let none : passing f (n * ops) n ≡ [] = passing_none f (n * ops) n (λ j a b. before j a b) in
      let split : length (passing f (n * ops) (n + (ops - n))) ≡ length (passing f (n * ops) n) + length (passing f (n * ops + n) (ops - n)) = passing_split f (n * ops) n (ops - n) in
      let whole : length (passing f (n * ops) ops) ≡ length (passing f (n * ops) (n + (ops - n))) = ap (λ (m : ℕ). length (passing f (n * ops) m)) e in
      omega (arith, whole, split, ap length none, passing_most f (n * ops + n) (ops - n))
    where
      before : (j : ℕ) → n * ops ≤ j → j < n * ops + n → f j ≡ false
      before j a b =
          let r : ℕ = j - n * ops in
          let e : j ≡ n * ops + r = omega arith in
          let c : r < ops = omega arith in
          lower j (rw (e, digits_div n c, digits_mod n c) (omega arith))

  rows_few : (r n : ℕ) → n + r ≡ ops → 2 * length (passing f (n * ops) (r * ops)) ≤ r * suc r
  unfolding passing
  rows_few zero n e = let z : 0 * ops ≡ 0 = omega arith in rw z (omega arith)
  rows_few (suc r) n e =
      let split : length (passing f (n * ops) (ops + r * ops)) ≡ length (passing f (n * ops) ops) + length (passing f (n * ops + ops) (r * ops)) = passing_split f (n * ops) ops (r * ops) in
      let next : n * ops + ops ≡ suc n * ops = omega arith in
      let row : ops + r * ops ≡ suc r * ops = omega arith in
      let rest : 2 * length (passing f (suc n * ops) (r * ops)) ≤ r * suc r = rows_few r (suc n) (omega arith) in
      let more : suc r * suc (suc r) ≡ 2 * suc r + r * suc r = omega arith in
      rw (more, sym row, split, next) (omega (arith, rest, row_few n (omega arith)))

  places_half : length (passing f 0 (ops * ops)) ≤ ops * suc ops / 2
  places_half =
      let z : 0 * ops ≡ 0 = omega arith in
      let all : 2 * length (passing f 0 (ops * ops)) ≤ ops * suc ops = rw z at (rows_few ops 0 (omega arith)) in
      (le-div_iff_mul-le {k = 2} {x = length (passing f 0 (ops * ops))} {y = ops * suc ops} (omega arith)).1 (omega (arith, all))

-- at most one for each place whose row is not above its column
pub pairs_few : (ops : ℕ) (K : List (Cx floats)) → length (pair_places floats ops K) ≤ ops * suc ops / 2
pairs_few ops K = places_half ops (is_pair floats ops K) (pair_turned ops K)
