-- SPDX-FileCopyrightText: 2026 The PPVM Authors
-- SPDX-License-Identifier: Apache-2.0

-- Words with lanes of 0 added have the same letters, product, phase, order and sharing as without them, whatever the number of
-- lanes. Assumes nothing.
use mathlib.Core.Path.{◌≡◌, refl, sym, ap, ap₂, ◌∙◌}
use mathlib.Core.Bool.{Bool, true, false, not, ◌&&◌, ◌||◌}
use mathlib.Core.List.{List, [], ◌∷◌, ◌++◌}
use Prim.Native.Nat.{ℕ, zero, suc, ◌+◌, ◌*◌, ◌/◌, ◌%◌, ◌^◌, ◌≤◌}
use native.Mathlib.Nat.{add-zero, add-suc, zero-mul}
use native.Mathlib.Omega.{arith}
use lib.Dec.{eqb}
use lib.ListN.{length, get_or, replicate, length-replicate, get_or-eq_default}
use Rattle.word.specs.Count.{sum_to, any_to, tabulate}
use Rattle.word.specs.Letter.{mul_letter, mul_phase}
use Rattle.word.specs.Word.{bit, letter_in, letter_at, lanes_of}
use Rattle.word.specs.Product.{phase_sum}
use Rattle.word.specs.Register.{acts_on}
use Rattle.word.specs.Order.{compare_then, compare_lanes, compare}
use Rattle.word.specs.declared.word.Word.{Word}
use Rattle.std.specs.declared.cmp.Ordering.{Ordering}
use Rattle.word.proofs.Sums.{sum_cong, sum_none, any_cong, zeros_at, tabulate_is}
use Rattle.word.proofs.Digits.{zero_bit}
use Rattle.word.proofs.Words.{word_eq}
use Rattle.width_laws.specs.Width.{word_of_lanes, lanes, OfLanes, padded, SameWords}

-- ---- letters
pad_at : (l : List ℕ) (k i : ℕ) → get_or (l ++ replicate k 0) i 0 ≡ get_or l i 0
pad_at [] k i = zeros_at k i
pad_at (a ∷ l) k zero = refl
pad_at (a ∷ l) k (suc i) = pad_at l k i

letter_padded : (k : ℕ) (w : Word) (q : ℕ) → letter_at (padded k w) q ≡ letter_at w q
unfolding letter_in padded
letter_padded k w q = ap₂ (λ (a b : ℕ). bit a (q % 64) + 2 * bit b (q % 64)) (pad_at w.x k (q / 64)) (pad_at w.z k (q / 64))

-- none past its lanes
letter_past : (n : ℕ) (w : Word) (q : ℕ) → OfLanes n w → 64 * n ≤ q → letter_at w q ≡ 0
unfolding letter_in
letter_past n w q o h =
    let x : get_or w.x (q / 64) 0 ≡ 0 = get_or-eq_default w.x 0 (omega (arith, o.x_lanes)) in
    let z : get_or w.z (q / 64) 0 ≡ 0 = get_or-eq_default w.z 0 (omega (arith, o.z_lanes)) in
    rw (x, z) (omega (arith, zero_bit (q % 64)))

-- ---- past n there is nothing to add, to find, to lay
sum_past : (n m : ℕ) (f : ℕ → ℕ) → ((q : ℕ) → n ≤ q → f q ≡ 0) → sum_to (n + m) f ≡ sum_to n f
unfolding sum_to
sum_past n zero f h = ap (λ (j : ℕ). sum_to j f) (add-zero n)
sum_past n (suc m) f h =
    let e : sum_to (suc (n + m)) f ≡ sum_to n f = omega (arith, sum_past n m f h, h (n + m) (omega arith)) in
    ap (λ (j : ℕ). sum_to j f) (add-suc n m) ∙ e

any_past : (n m : ℕ) (f : ℕ → Bool) → ((q : ℕ) → n ≤ q → f q ≡ false) → any_to (n + m) f ≡ any_to n f
unfolding any_to
any_past n zero f h = ap (λ (j : ℕ). any_to j f) (add-zero n)
any_past n (suc m) f h = ap (λ (j : ℕ). any_to j f) (add-suc n m) ∙ ap₂ ◌||◌ (any_past n m f h) (h (n + m) (omega arith)) ∙ none (any_to n f)
  where
    none : (b : Bool) → (b || false) ≡ b
    none true = refl
    none false = refl

tabulate_past : (n k : ℕ) (f : ℕ → ℕ) → ((i : ℕ) → n ≤ i → f i ≡ 0) → tabulate (k + n) f ≡ tabulate n f ++ replicate k 0
unfolding tabulate
tabulate_past zero k f h = ap (λ (j : ℕ). tabulate j f) (add-zero k) ∙ tabulate_is 0 k f (replicate k 0) (length-replicate {A = ℕ} k 0) (λ i l. h i (omega arith) ∙ sym (zeros_at k i))
tabulate_past (suc n) k f h = ap (λ (j : ℕ). tabulate j f) (add-suc k n) ∙ ap (λ (l : List ℕ). f 0 ∷ l) (tabulate_past n k (λ i. f (suc i)) (λ i l. h (suc i) (omega arith)))

lanes_past : (n k : ℕ) (f : ℕ → ℕ) → ((q : ℕ) → 64 * n ≤ q → f q ≡ 0) → lanes_of (n + k) f ≡ lanes_of n f ++ replicate k 0
unfolding lanes_of
lanes_past n k f h =
    let e : n + k ≡ k + n = omega arith in
    ap (λ (m : ℕ). tabulate m (λ i. sum_to 64 (λ j. f (64 * i + j) % 2 * 2 ^ j))) e
    ∙ tabulate_past n k (λ i. sum_to 64 (λ j. f (64 * i + j) % 2 * 2 ^ j))
    (λ i l. sum_none 64 (λ j. f (64 * i + j) % 2 * 2 ^ j) (λ j m. ap (λ (a : ℕ). a % 2 * 2 ^ j) (h (64 * i + j) (omega arith)) ∙ zero-mul (2 ^ j)))

wider : (n k : ℕ) → 64 * (n + k) ≡ 64 * n + 64 * k
wider n k = omega arith

-- ---- the order
zeros_tie : (k : ℕ) (o : Ordering) → compare_lanes (replicate k 0) (replicate k 0) o ≡ o
unfolding compare_lanes compare_then
zeros_tie zero o = refl
zeros_tie (suc k) o = zeros_tie k o

order_padded : (k : ℕ) (l m : List ℕ) (o : Ordering) → length l ≡ length m → compare_lanes (l ++ replicate k 0) (m ++ replicate k 0) o ≡ compare_lanes l m o
unfolding compare_lanes
order_padded k [] [] o e = zeros_tie k o
order_padded k [] (b ∷ m) o e = absurd (omega arith)
order_padded k (a ∷ l) [] o e = absurd (omega arith)
order_padded k (a ∷ l) (b ∷ m) o e = ap (compare_then a b) (order_padded k l m o (omega arith))

abbrev letters : Word → Word → ℕ → ℕ
letters p q j = mul_letter (letter_at p j) (letter_at q j)

module _ (n k : ℕ) (p q : Word) (op : OfLanes n p) (oq : OfLanes n q) where
  products : (lanes (n + k)).mul (padded k p) (padded k q) ≡ padded k ((lanes n).mul p q)
  unfolding word_of_lanes padded mul_letter
  products = ap (word_of_lanes (n + k)) as_before ∙ word_eq (lanes_past n k (letters p q) none) (lanes_past n k (λ j. letters p q j / 2) (λ j h. ap (λ (a : ℕ). a / 2) (none j h)))
    where
      as_before : (λ j. mul_letter (letter_at (padded k p) j) (letter_at (padded k q) j)) ≡ letters p q
      as_before = λ i j. mul_letter (letter_padded k p j i) (letter_padded k q j i)

      none : (j : ℕ) → 64 * n ≤ j → letters p q j ≡ 0
      none j h = ap₂ mul_letter (letter_past n p j op h) (letter_past n q j oq h)

  phases : (lanes (n + k)).phase (padded k p) (padded k q) ≡ (lanes n).phase p q
  unfolding phase_sum mul_phase
  phases =
      ap (λ (a : ℕ). a % 4)
      (sum_cong (64 * (n + k)) _ (λ j. mul_phase (letter_at p j) (letter_at q j)) (λ j l. ap₂ mul_phase (letter_padded k p j) (letter_padded k q j))
      ∙ ap (λ (a : ℕ). sum_to a (λ j. mul_phase (letter_at p j) (letter_at q j))) (wider n k)
      ∙ sum_past (64 * n) (64 * k) (λ j. mul_phase (letter_at p j) (letter_at q j)) none)
    where
      none : (j : ℕ) → 64 * n ≤ j → mul_phase (letter_at p j) (letter_at q j) ≡ 0
      none j h = ap₂ mul_phase (letter_past n p j op h) (letter_past n q j oq h)

  orders : compare (padded k p) (padded k q) ≡ compare p q
  unfolding compare padded
  orders =
      ap (compare_lanes (p.x ++ replicate k 0) (q.x ++ replicate k 0)) (order_padded k p.z q.z _ (op.z_lanes ∙ sym oq.z_lanes))
      ∙ order_padded k p.x q.x _ (op.x_lanes ∙ sym oq.x_lanes)

  shared : (lanes (n + k)).meets (padded k p) (padded k q) ≡ (lanes n).meets p q
  shared =
      any_cong (64 * (n + k)) _ (λ j. acts_on p j && acts_on q j) (λ j l. ap₂ (λ (a b : ℕ). not (eqb a 0) && not (eqb b 0)) (letter_padded k p j) (letter_padded k q j))
      ∙ ap (λ (a : ℕ). any_to a (λ j. acts_on p j && acts_on q j)) (wider n k)
      ∙ any_past (64 * n) (64 * k) (λ j. acts_on p j && acts_on q j) (λ j h. ap₂ (λ (a b : ℕ). not (eqb a 0) && not (eqb b 0)) (letter_past n p j op h) (letter_past n q j oq h))

pub same_words : (n k : ℕ) → SameWords n k
same_words n k = record {
  letters = letter_padded k;
  products = products n k;
  phases = phases n k;
  orders = orders n k;
  shared = shared n k;
}
