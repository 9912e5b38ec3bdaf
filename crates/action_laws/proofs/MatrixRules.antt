-- SPDX-FileCopyrightText: 2026 The PPVM Authors
-- SPDX-License-Identifier: Apache-2.0

-- The pairs of a matrix, place by place in row order, add what the rules over its rows do. Assumes nothing.
use mathlib.Core.Path.{◌≡◌, refl, sym, ap, ap₂, ◌∙◌}
use mathlib.Core.Bool.{Bool, true, false, not, ◌&&◌, cond}
use mathlib.Core.List.{List, [], ◌∷◌, ◌++◌, map, append-nil, append_assoc, flat_map}
use Prim.Native.Nat.{ℕ, zero, suc, ◌+◌, ◌-◌, ◌*◌, ◌/◌, ◌%◌, ◌≤◌, ◌<◌}
use native.Mathlib.Omega.{arith}
use borrow.Author.Tests.{leb-true, le-leb, lt-leb, eqb-true, eqb-false, eq-eqb, ne_eqb, not-true, not-false}
use lib.Arith.{digits_div, digits_mod}
use lib.Dec.{eqb, leb}
use lib.Ieee.{Float}
use lib.ListN.{length, get_or, take, drop}
use Rattle.word.specs.Flat.{words}
use Rattle.word.specs.declared.word.Word.{Word}
use Rattle.number.specs.Numbers.{Cx, square, largest_over}
use Rattle.number.specs.Floats.{floats}
use Rattle.gksl.specs.Model.{rows_over, entry_in}
use Rattle.gksl.specs.Rules.{diagonal_over, pair_over, row_over, matrix_over}
use Rattle.gksl.specs.Words.{pauli}
use Rattle.sums.specs.Numbers.{complexes}
use Rattle.sums.specs.Sums.{rows}
use Rattle.model.specs.Stored.{ModelTables}
use Rattle.model.specs.Terms.{Term}
use Rattle.model_build.specs.Built.{terms_of}
use Rattle.lent.specs.Laid.{total}
use Rattle.lent.specs.Every.{Every}
use Rattle.lent.proofs.Lists.{every_both, every_weaken}
use Rattle.model.specs.declared.stored.Range.{Range}
use Rattle.k_matrix.specs.Matrix.{skipped, is_pair, passing, pair_places}
use Rattle.k_matrix.specs.Pairs.{range_of, pair_at, pairs_of}
use Rattle.k_matrix.specs.Added.{all_terms}
use Rattle.k_matrix.proofs.MatrixLaws.{row_below, column_below}
use Rattle.model_laws.proofs.JumpTests.{both}
use Rattle.model_laws.proofs.PairsGood.{passing_below}
use Rattle.rule_terms.specs.Adds.{jump_adds, pair_adds, gather_jumps}
use Rattle.action_laws.proofs.LaidTerms.{Holds, holds_left, holds_right, holds_part}
use Rattle.action_laws.proofs.ExtendedItems.{up_to_parted, jumps_from}
use Rattle.action_laws.proofs.JumpRules.{jump_of}
use Rattle.action_laws.proofs.PairRules.{Operator, pair_adds_lem, diagonal_adds, no_jump}
use Rattle.word.specs.Count.{up_to}

-- ---- what a function makes of each of a list, one after the other
flat_both : (f : ℕ → List Term) (a b : List ℕ) → flat_map f (a ++ b) ≡ flat_map f a ++ flat_map f b
unfolding flat_map
flat_both f [] b = refl
flat_both f (n ∷ a) b = ap (λ (l : List Term). f n ++ l) (flat_both f a b) ∙ sym (append_assoc (f n) (flat_map f a) (flat_map f b))

flat_parted : (f : ℕ → List Term) (k a b : ℕ) → flat_map f (up_to k (a + b)) ≡ flat_map f (up_to k a) ++ flat_map f (up_to (k + a) b)
flat_parted f k a b = ap (flat_map f) (up_to_parted k a b) ∙ flat_both f (up_to k a) (up_to (k + a) b)

flat_none : (f : ℕ → List Term) (k n : ℕ) → ((q : ℕ) → k ≤ q → q < k + n → f q ≡ []) → flat_map f (up_to k n) ≡ []
unfolding flat_map up_to
flat_none f k zero h = refl
flat_none f k (suc n) h = ap₂ (λ (a b : List Term). a ++ b) (h k (omega arith) (omega arith)) (flat_none f (suc k) n (λ q a b. h q (omega arith) (omega arith)))

-- over those that pass a test, where the others add nothing
flat_passing : (t : ℕ → Bool) (f g : ℕ → List Term) (k n : ℕ) → ((q : ℕ) → t q ≡ true → f q ≡ g q) → ((q : ℕ) → t q ≡ false → g q ≡ [])
    → flat_map f (passing t k n) ≡ flat_map g (up_to k n)
unfolding flat_map up_to passing
flat_passing t f g k zero yes-is no-is = refl
flat_passing t f g k (suc n) yes-is no-is = go (t k) refl (flat_passing t f g (suc k) n yes-is no-is)
  where
    go : (b : Bool) → t k ≡ b → flat_map f (passing t (suc k) n) ≡ flat_map g (up_to (suc k) n)
        → flat_map f (cond b (k ∷ passing t (suc k) n) (passing t (suc k) n)) ≡ g k ++ flat_map g (up_to (suc k) n)
    go true e rest = ap₂ (λ (a b : List Term). a ++ b) (yes-is k e) rest
    go false e rest = rest ∙ ap (λ (l : List Term). l ++ flat_map g (up_to (suc k) n)) (sym (no-is k e))

passing_true : (f : ℕ → Bool) (p n : ℕ) → Every (λ q. f q ≡ true) (passing f p n)
unfolding passing
passing_true f p zero = tt
passing_true f p (suc n) = go (f p) refl (passing_true f (suc p) n)
  where
    go : (b : Bool) → f p ≡ b → Every (λ q. f q ≡ true) (passing f (suc p) n) → Every (λ q. f q ≡ true) (cond b (p ∷ passing f (suc p) n) (passing f (suc p) n))
    go true e rest = (e, rest)
    go false e rest = rest

-- ---- operators, and how many terms each has
abbrev pub Counted : List (List Term) → List ℕ → Type 0
Counted [] [] = Unit {0}
Counted [] (c ∷ counts) = ⊥
Counted (A ∷ As) [] = ⊥
Counted (A ∷ As) (c ∷ counts) = (length A ≡ c) × (0 < length A) × Counted As counts

pub counted_length : (As : List (List Term)) (counts : List ℕ) → Counted As counts → length As ≡ length counts
counted_length [] [] h = refl
counted_length [] (c ∷ counts) h = absurd h
counted_length (A ∷ As) [] h = absurd h
counted_length (A ∷ As) (c ∷ counts) h = ap suc (counted_length As counts h.2)

counted_at : (As : List (List Term)) (counts : List ℕ) → Counted As counts → (n : ℕ) → n < length counts → (length (get_or As n []) ≡ get_or counts n 0) × (0 < length (get_or As n []))
counted_at [] [] h n l = absurd (omega arith)
counted_at [] (c ∷ counts) h n l = absurd h
counted_at (A ∷ As) [] h n l = absurd h
counted_at (A ∷ As) (c ∷ counts) h zero l = (h.0, h.1)
counted_at (A ∷ As) (c ∷ counts) h (suc n) l = counted_at As counts h.2 n (omega arith)

-- one after another, each stands where its range says
operator_holds : (R : List Term) (As : List (List Term)) (counts : List ℕ) → Counted As counts → (from : ℕ) → Holds R from (all_terms As)
    → (n : ℕ) → n < length counts → Holds R (from + total (take n counts)) (get_or As n [])
unfolding all_terms total
operator_holds R [] [] h from k n l = absurd (omega arith)
operator_holds R [] (c ∷ counts) h from k n l = absurd h
operator_holds R (A ∷ As) [] h from k n l = absurd h
operator_holds R (A ∷ As) (c ∷ counts) h from k zero l =
    let z : from + 0 ≡ from = omega arith in
    ap (λ (at : ℕ). take (length A) (drop at R)) z ∙ holds_left R from A (all_terms As) k
operator_holds R (A ∷ As) (c ∷ counts) h from k (suc n) l =
    let own = h.0 in
    let z : from + (c + total (take n counts)) ≡ from + length A + total (take n counts) = omega (arith, own) in
    ap (λ (at : ℕ). take (length (get_or As n [])) (drop at R)) z
    ∙ operator_holds R As counts h.2 (from + length A) (holds_right R from A (all_terms As) k) n (omega arith)

totals_rise : (counts : List ℕ) (n m : ℕ) → n < m → total (take n counts) + get_or counts n 0 ≤ total (take m counts)
unfolding total
totals_rise [] zero m h = omega arith
totals_rise [] (suc n) m h = omega arith
totals_rise (c ∷ counts) n zero h = absurd (omega arith)
totals_rise (c ∷ counts) zero (suc m) h = omega arith
totals_rise (c ∷ counts) (suc n) (suc m) h = omega (arith, totals_rise counts n m (omega arith))

module _ (p : Word) (counts : List ℕ) (K : List (Cx floats)) (As : List (List Term)) where
  abbrev k : ℕ
  k = length counts

  abbrev big : Float
  big = largest_over floats K

  abbrev op : ℕ → List Term
  op n = get_or As n []

  abbrev entry : ℕ → ℕ → Cx floats
  entry = entry_in floats k K

  -- what the entry in a row and a column adds
  abbrev entry_adds : ℕ → ℕ → List Term
  entry_adds n m = cond (eqb n m) (diagonal_over floats pauli big (entry n m) (op n) p) (pair_over floats pauli big (entry n m) (op n) (op m) p)

  -- ---- the pairs that are stored
  module _ (t : ModelTables) (counted : Counted As counts) (from : ℕ) (own : Holds (rows (words t.t_words) (complexes t.t_numbers)) from (all_terms As)) where
    abbrev R : List Term
    R = rows (words t.t_words) (complexes t.t_numbers)

    operator : (n : ℕ) → n < k → Operator p t (range_of from counts n) (op n)
    operator n l =
        let c = (counted_at As counts counted n l).0 in
        let at : ℕ = from + total (take n counts) in
        record {
          wide = omega (arith, c);
          terms = holds_part R at (at + get_or counts n 0) (op n) (operator_holds R As counts counted from own n l) (ap (λ (w : ℕ). at + w) (sym c));
        }

    module _ (q : ℕ) (l : q < k * k) (pair : is_pair floats k K q ≡ true) (at : ℕ) (h : Holds R at (pair_at from counts K As q).terms) where
      abbrev n : ℕ
      n = q / k

      abbrev m : ℕ
      m = q % k

      abbrev left : Range
      left = range_of from counts n

      abbrev right : Range
      right = range_of from counts m

      passes : (leb n m ≡ true) × (not (skipped floats k K n m) ≡ true)
      unfolding is_pair
      passes = both (leb n m) pair

      kept : floats.slighter (square floats (entry n m)) big ≡ false
      unfolding skipped
      kept = not-true _ passes.1

      place_adds_lem : pair_adds p t (jump_of (pair_at from counts K As q) at) ≡ entry_adds n m
      place_adds_lem = go (eqb n m) refl
        where
          go : (b : Bool) → eqb n m ≡ b
              → pair_adds p t (jump_of (pair_at from counts K As q) at) ≡ cond b (diagonal_over floats pauli big (entry n m) (op n) p) (pair_over floats pauli big (entry n m) (op n) (op m) p)
          go true e =
              let s : n ≡ m = eqb-true n m e in
              let starts : eqb left.start right.start ≡ true = eq-eqb _ _ (ap (λ (x : ℕ). (range_of from counts x).start) s) in
              let ends : eqb left.end right.end ≡ true = eq-eqb _ _ (ap (λ (x : ℕ). (range_of from counts x).end) s) in
              diagonal_adds p t (entry n m) left right (op n) (op m) at (operator n (row_below k q l)) (operator m (column_below k q l)) h big kept
              (ap₂ (λ (a b : Bool). a && b) starts ends) (ap op s)
          go false e =
              let apart = eqb-false n m e in
              let order : n < m = omega (arith, leb-true n m passes.0, apart) in
              let c = counted_at As counts counted n (row_below k q l) in
              let other : eqb left.start right.start ≡ false = ne_eqb left.start right.start (λ s. omega (arith, s, totals_rise counts n m order, c.0, c.1)) in
              pair_adds_lem p t (entry n m) left right (op n) (op m) at (operator n (row_below k q l)) (operator m (column_below k q l)) h big kept
              (ap (λ (a : Bool). a && eqb left.end right.end) other)

    places_add : (ps : List ℕ) → Every (λ q. (q < k * k) × (is_pair floats k K q ≡ true)) ps → (at : ℕ) → Holds R at (terms_of (map (pair_at from counts K As) ps))
        → gather_jumps (pair_adds p t) (jumps_from at (map (pair_at from counts K As) ps)) ≡ flat_map (λ q. entry_adds (q / k) (q % k)) ps
    unfolding gather_jumps jumps_from terms_of flat_map
    places_add [] e at h = refl
    places_add (q ∷ ps) e at h =
        let mine : List Term = (pair_at from counts K As q).terms in
        let rest : List Term = terms_of (map (pair_at from counts K As) ps) in
        ap₂ (λ (a b : List Term). a ++ b) (place_adds_lem q e.0.0 e.0.1 at (holds_left R at mine rest h))
        (places_add ps e.1 (at + length mine) (holds_right R at mine rest h))

  pub no_jumps : (t : ModelTables) (from : ℕ) (ps : List ℕ) (at : ℕ) → gather_jumps (jump_adds p t) (jumps_from at (map (pair_at from counts K As) ps)) ≡ []
  unfolding gather_jumps jumps_from
  no_jumps t from [] at = refl
  no_jumps t from (q ∷ ps) at =
      ap₂ (λ (a b : List Term). a ++ b)
      (no_jump p t (entry (q / k) (q % k)) (range_of from counts (q / k)) (range_of from counts (q % k)) (op (q / k)) (op (q % k)) at)
      (no_jumps t from ps (at + length (pair_at from counts K As q).terms))

  -- ---- all places, and the rows
  -- what a place adds, if its row is not above its column
  unfoldable place_adds : ℕ → List Term
  place_adds q = cond (leb (q / k) (q % k)) (entry_adds (q / k) (q % k)) []

  place_is : (q n m : ℕ) → q ≡ n * k + m → m < k → place_adds q ≡ cond (leb n m) (entry_adds n m) []
  unfolding place_adds
  place_is q n m e l =
      ap₂ (λ (a b : ℕ). cond (leb a b) (entry_adds a b) []) (ap (λ (x : ℕ). x / k) e ∙ digits_div n l) (ap (λ (x : ℕ). x % k) e ∙ digits_mod n l)

  skipped_none : (n m : ℕ) → skipped floats k K n m ≡ true → entry_adds n m ≡ []
  unfolding skipped diagonal_over pair_over
  skipped_none n m e = rw e (go (eqb n m))
    where
      go : (b : Bool) → ◌≡◌ {A = List Term} (cond b [] []) []
      go true = refl
      go false = refl

  pair_place : (q : ℕ) → is_pair floats k K q ≡ true → entry_adds (q / k) (q % k) ≡ place_adds q
  unfolding is_pair place_adds
  pair_place q e = ap (λ (b : Bool). cond b (entry_adds (q / k) (q % k)) []) (sym (both (leb (q / k) (q % k)) e).0)

  other_place : (q : ℕ) → is_pair floats k K q ≡ false → place_adds q ≡ []
  unfolding is_pair place_adds
  other_place q e = go (leb (q / k) (q % k)) e
    where
      go : (b : Bool) → b && not (skipped floats k K (q / k) (q % k)) ≡ false → cond b (entry_adds (q / k) (q % k)) [] ≡ []
      go true f = skipped_none (q / k) (q % k) (not-false _ f)
      go false f = refl

  all_places : flat_map (λ q. entry_adds (q / k) (q % k)) (pair_places floats k K) ≡ flat_map place_adds (up_to 0 (k * k))
  all_places = flat_passing (is_pair floats k K) (λ q. entry_adds (q / k) (q % k)) place_adds 0 (k * k) pair_place other_place

  -- the operators from a row on
  abbrev From : ℕ → List (List Term) → Type 0
  From n Bs = (i j : ℕ) → j ≡ n + i → op j ≡ get_or Bs i []

  row_adds : (n : ℕ) (A : List Term) → op n ≡ A → (Bs : List (List Term)) (m q : ℕ) → n < m → q ≡ n * k + m → m + length Bs ≡ k → From m Bs
      → flat_map place_adds (up_to q (length Bs)) ≡ row_over floats pauli big entry (record { row = n; op = A }) (rows_over floats pauli m Bs) p
  unfolding flat_map up_to row_over rows_over
  row_adds n A own [] m q l e f g = refl
  row_adds n A own (B ∷ Bs) m q l e f g =
      ap₂ (λ (a b : List Term). a ++ b)
      (place_is q n m e (omega arith)
      ∙ ap (λ (b : Bool). cond b (entry_adds n m) []) (le-leb n m (omega arith))
      ∙ ap (λ (b : Bool). cond b (diagonal_over floats pauli big (entry n m) (op n) p) (pair_over floats pauli big (entry n m) (op n) (op m) p)) (ne_eqb n m (λ s. omega arith))
      ∙ ap₂ (λ (X Y : List Term). pair_over floats pauli big (entry n m) X Y p) own (g 0 m (omega arith)))
      (row_adds n A own Bs (suc m) (suc q) (omega arith) (omega arith) (omega arith) (λ i j h. g (suc i) j (omega arith)))

  first_adds : (n : ℕ) (A : List Term) → op n ≡ A → n < k → flat_map place_adds (up_to (n * k + n) 1) ≡ diagonal_over floats pauli big (entry n n) A p
  unfolding flat_map up_to
  first_adds n A own l =
      append-nil (place_adds (n * k + n)) ∙ place_is (n * k + n) n n refl l
      ∙ ap (λ (b : Bool). cond b (entry_adds n n) []) (le-leb n n (omega arith))
      ∙ ap (λ (b : Bool). cond b (diagonal_over floats pauli big (entry n n) (op n) p) (pair_over floats pauli big (entry n n) (op n) (op n) p)) (eq-eqb n n refl)
      ∙ ap (λ (X : List Term). diagonal_over floats pauli big (entry n n) X p) own

  matrix_adds : (Bs : List (List Term)) (n : ℕ) → n + length Bs ≡ k → From n Bs
      → flat_map place_adds (up_to (n * k) (length Bs * k)) ≡ matrix_over floats pauli big entry (rows_over floats pauli n Bs) p
  unfolding matrix_over rows_over
  matrix_adds [] n f g = flat_none place_adds (n * k) (0 * k) (λ q a b. absurd (omega arith))
  matrix_adds (B ∷ Bs) n f g =
      let r : ℕ = length Bs in
      let split : suc r * k ≡ n + (1 + r) + r * k = omega (arith, f) in
      let next : n * k + (n + (1 + r)) ≡ suc n * k = omega (arith, f) in
      let one : n * k + n + 1 ≡ n * k + suc n = omega arith in
      let own : op n ≡ B = g 0 n (omega arith) in
      ap (λ (x : ℕ). flat_map place_adds (up_to (n * k) x)) split
      ∙ flat_parted place_adds (n * k) (n + (1 + r)) (r * k)
      ∙ ap₂ (λ (a b : List Term). a ++ b)
      (flat_parted place_adds (n * k) n (1 + r)
      ∙ ap (λ (l : List Term). l ++ flat_map place_adds (up_to (n * k + n) (1 + r))) (flat_none place_adds (n * k) n (λ q a b.
      place_is q n (q - n * k) (omega arith) (omega arith) ∙ ap (λ (b : Bool). cond b (entry_adds n (q - n * k)) []) (lt-leb n (q - n * k) (omega arith))))
      ∙ flat_parted place_adds (n * k + n) 1 r
      ∙ ap₂ (λ (a b : List Term). a ++ b) (first_adds n B own (omega arith))
      (row_adds n B own Bs (suc n) (n * k + n + 1) (omega arith) one (omega arith) (λ i j h. g (suc i) j (omega arith))))
      (ap (λ (x : ℕ). flat_map place_adds (up_to x (r * k))) next ∙ matrix_adds Bs (suc n) (omega arith) (λ i j h. g (suc i) j (omega arith)))

  -- ---- the pairs of a matrix add what its rows do
  pub pairs_add : (t : ModelTables) → Counted As counts → (from : ℕ) → Holds (rows (words t.t_words) (complexes t.t_numbers)) from (all_terms As)
      → (at : ℕ) → Holds (rows (words t.t_words) (complexes t.t_numbers)) at (terms_of (pairs_of from counts K As))
      → gather_jumps (pair_adds p t) (jumps_from at (pairs_of from counts K As)) ≡ matrix_over floats pauli big (entry_in floats (length As) K) (rows_over floats pauli 0 As) p
  pairs_add t counted from own at h =
      let many : length As ≡ k = counted_length As counts counted in
      let z : 0 ≡ 0 * k = omega arith in
      let every : Every (λ q. (q < k * k) × (is_pair floats k K q ≡ true)) (pair_places floats k K) =
      every_both _ _ (pair_places floats k K)
      (every_weaken (λ q. q < 0 + k * k) (λ q. q < k * k) (λ q l. omega arith) (pair_places floats k K) (passing_below (is_pair floats k K) 0 (k * k)))
      (passing_true (is_pair floats k K) 0 (k * k)) in
      places_add t counted from own (pair_places floats k K) every at h
      ∙ all_places
      ∙ ap₂ (λ (x y : ℕ). flat_map place_adds (up_to x y)) z (ap (λ (x : ℕ). x * k) (sym many))
      ∙ matrix_adds As 0 (omega (arith, many)) (λ i j e. let same : j ≡ i = omega arith in ap op same)
      ∙ ap (λ (x : ℕ). matrix_over floats pauli big (entry_in floats x K) (rows_over floats pauli 0 As) p) (sym many)
