-- SPDX-FileCopyrightText: 2026 The PPVM Authors
-- SPDX-License-Identifier: Apache-2.0

-- Letters over any number of lanes: lanes made from letters, lanes known by their letters, the letters of the
-- exclusive or, one letter replaced, and phases by counts of digits. Assumes nothing.
use mathlib.Core.Path.{◌≡◌, refl, sym, ap, ap₂, ◌∙◌}
use mathlib.Core.List.{List}
use Prim.Native.Nat.{ℕ, ◌+◌, ◌*◌, ◌/◌, ◌%◌, ◌^◌, ◌<◌, ◌≤◌, min}
use native.Mathlib.Nat.{lt_of_le_of_lt}
use native.Mathlib.Omega.{arith}
use native.Mathlib.Decide.{ℕ_discrete, dec_lt}
use borrow.Author.Tests.{eq-eqb, ne_eqb}
use lib.Dec.{eqb, eqb→eq}
use lib.Bits.{bit_and, bit_xor, differ, and_lt, and_le_l, xor_lt}
use lib.Count.{ones}
use lib.ListN.{get_or, length, set, get_or-eq_default}
use lib.Seq.{ext_get_or, get_or-set_same, get_or-set_other}
use Rattle.word.specs.Count.{sum_to}
use Rattle.word.specs.Letter.{mul_letter, mul_phase}
use Rattle.word.specs.Word.{bit, letter_in, lanes_of}
use Rattle.word.specs.Product.{phase_sum}
use Rattle.word.specs.Steps.{chosen, lane_phase}
use Rattle.word.proofs.Sums.{sum_cong, sum_add, sum_mul, sum_runs, length_tabulate, get_d_tabulate, tabulate_cong}
use Rattle.word.proofs.Digits.{at_bits, bit_lt, bit_and_lem, bit_xor_lem, ones_sum, same_digits, made, made_lt, made_bit, zero_bit}

pub letter_lt : (xs zs : List ℕ) (q : ℕ) → letter_in xs zs q < 4
unfolding letter_in
letter_lt xs zs q = omega (arith, bit_lt (get_or xs (q / 64) 0) (q % 64), bit_lt (get_or zs (q / 64) 0) (q % 64))

-- qubit k of lane i
pub letter_in_lem : (xs zs : List ℕ) (i k : ℕ) → k < 64 → letter_in xs zs (64 * i + k) ≡ bit (get_or xs i 0) k + 2 * bit (get_or zs i 0) k
unfolding letter_in
letter_in_lem xs zs i k h =
    let e : (64 * i + k) / 64 ≡ i = omega arith in
    let f : (64 * i + k) % 64 ≡ k = omega arith in
    rw (e, f)

-- ---- lanes made from letters
module _ (n : ℕ) (f : ℕ → ℕ) where
  pub lanes_length : length (lanes_of n f) ≡ n
  unfolding lanes_of
  lanes_length = length_tabulate n _

  lane_at : (i : ℕ) → i < n → get_or (lanes_of n f) i 0 ≡ made 64 (λ k. f (64 * i + k) % 2)
  unfolding lanes_of
  lane_at i h = get_d_tabulate 0 n (λ i. made 64 (λ k. f (64 * i + k) % 2)) i h

  beyond : (i : ℕ) → n ≤ i → get_or (lanes_of n f) i 0 ≡ 0
  beyond i h = get_or-eq_default (lanes_of n f) 0 (omega (arith, lanes_length))

  pub lanes_lt : (i : ℕ) → get_or (lanes_of n f) i 0 < 2 ^ 64
  lanes_lt i = go (dec_lt i n)
    where
      go : Dec (i < n) → get_or (lanes_of n f) i 0 < 2 ^ 64
      go (yes h) = rw (lane_at i h) (made_lt 64 (λ k. f (64 * i + k) % 2) (λ k. omega arith))
      go (no h) = rw (beyond i (omega arith)) (omega arith)

  pub lanes_bit : (q : ℕ) → q < 64 * n → bit (get_or (lanes_of n f) (q / 64) 0) (q % 64) ≡ f q % 2
  lanes_bit q h =
      let e : 64 * (q / 64) + q % 64 ≡ q = omega arith in
      ap (λ (l : ℕ). bit l (q % 64)) (lane_at (q / 64) (omega arith))
      ∙ made_bit 64 (λ k. f (64 * (q / 64) + k) % 2) (λ k. omega arith) (q % 64) (omega arith)
      ∙ ap (λ (m : ℕ). f m % 2) e

  pub lanes_bit_beyond : (q : ℕ) → 64 * n ≤ q → bit (get_or (lanes_of n f) (q / 64) 0) (q % 64) ≡ 0
  lanes_bit_beyond q h = ap (λ (l : ℕ). bit l (q % 64)) (beyond (q / 64) (omega arith)) ∙ zero_bit (q % 64)

pub lanes_cong : (n : ℕ) (f g : ℕ → ℕ) → ((q : ℕ) → q < 64 * n → f q % 2 ≡ g q % 2) → lanes_of n f ≡ lanes_of n g
unfolding lanes_of
lanes_cong n f g h =
    tabulate_cong n _ _ (λ i l. sum_cong 64 _ _ (λ k m. ap (λ (d : ℕ). d * 2 ^ k) (h (64 * i + k) (omega arith))))

-- the letter of qubit q is f q
module _ (n : ℕ) (f : ℕ → ℕ) where
  pub letter_of : (q : ℕ) → q < 64 * n → f q < 4 → letter_in (lanes_of n f) (lanes_of n (λ k. f k / 2)) q ≡ f q
  unfolding letter_in
  letter_of q h l = omega (arith, lanes_bit n f q h, lanes_bit n (λ k. f k / 2) q h)

  pub letter_of_beyond : (q : ℕ) → 64 * n ≤ q → letter_in (lanes_of n f) (lanes_of n (λ k. f k / 2)) q ≡ 0
  unfolding letter_in
  letter_of_beyond q h = omega (arith, lanes_bit_beyond n f q h, lanes_bit_beyond n (λ k. f k / 2) q h)

-- ---- lanes are known by their letters
parts : (a b c d : ℕ) → a < 2 → c < 2 → a + 2 * b ≡ c + 2 * d → (a ≡ c) × (b ≡ d)
parts a b c d ha hc e = (omega arith, omega arith)

module _ (n : ℕ) (xs zs us vs : List ℕ)
    (lx : length xs ≡ n) (lz : length zs ≡ n) (lu : length us ≡ n) (lv : length vs ≡ n)
    (hx : (i : ℕ) → get_or xs i 0 < 2 ^ 64) (hz : (i : ℕ) → get_or zs i 0 < 2 ^ 64)
    (hu : (i : ℕ) → get_or us i 0 < 2 ^ 64) (hv : (i : ℕ) → get_or vs i 0 < 2 ^ 64)
    (same : (q : ℕ) → q < 64 * n → letter_in xs zs q ≡ letter_in us vs q) where
  both : (i k : ℕ) → i < n → k < 64 → (bit (get_or xs i 0) k ≡ bit (get_or us i 0) k) × (bit (get_or zs i 0) k ≡ bit (get_or vs i 0) k)
  both i k hi hk =
      parts _ _ _ _ (bit_lt _ _) (bit_lt _ _)
      (sym (letter_in_lem xs zs i k hk) ∙ same (64 * i + k) (omega arith) ∙ letter_in_lem us vs i k hk)

  pub same_lanes : (xs ≡ us) × (zs ≡ vs)
  same_lanes = (
    ext_get_or 0 xs us (lx ∙ sym lu) (λ i h. same_digits 64 _ _ (hx i) (hu i) (λ k l. (both i k (omega arith) l).0)),
    ext_get_or 0 zs vs (lz ∙ sym lv) (λ i h. same_digits 64 _ _ (hz i) (hv i) (λ k l. (both i k (omega arith) l).1)),
  )

-- ---- the exclusive or, lane by lane: the table's letter at every qubit
module _ (xs zs us vs ys ws : List ℕ) (q : ℕ)
    (hy : get_or ys (q / 64) 0 ≡ bit_xor (get_or xs (q / 64) 0) (get_or us (q / 64) 0))
    (hw : get_or ws (q / 64) 0 ≡ bit_xor (get_or zs (q / 64) 0) (get_or vs (q / 64) 0)) where
  pub letter_xor : letter_in ys ws q ≡ mul_letter (letter_in xs zs q) (letter_in us vs q)
  unfolding letter_in mul_letter
  letter_xor =
      let i = q / 64 in
      let k = q % 64 in
      simp (hy, hw, bit_xor_lem)
      (eqb→eq _ _
      (at_bits (λ a b c d. eqb (differ a c + 2 * differ b d) (mul_letter (a + 2 * b) (c + 2 * d))) tt
      (bit (get_or xs i 0) k) (bit (get_or zs i 0) k) (bit (get_or us i 0) k) (bit (get_or vs i 0) k)
      (bit_lt _ _) (bit_lt _ _) (bit_lt _ _) (bit_lt _ _)))

-- ---- one letter replaced: lane q / 64 has r and s, with bit q % 64 replaced
module _ (xs zs : List ℕ) (q l r s : ℕ) (lx : q / 64 < length xs) (lz : q / 64 < length zs)
    (hr : (j : ℕ) → j < 64 → bit r j ≡ chosen (eqb j (q % 64)) (l % 2) (bit (get_or xs (q / 64) 0) j))
    (hs : (j : ℕ) → j < 64 → bit s j ≡ chosen (eqb j (q % 64)) (l / 2) (bit (get_or zs (q / 64) 0) j)) where
  there : letter_in (set xs (q / 64) r) (set zs (q / 64) s) q ≡ l
  unfolding letter_in
  there =
      simp (get_or-set_same, hr (q % 64) (omega arith), hs (q % 64) (omega arith), eq-eqb (q % 64) (q % 64) refl) (omega arith)

  same_lane : (k : ℕ) → k / 64 ≡ q / 64 → (k % 64 ≡ q % 64 → ⊥) → letter_in (set xs (q / 64) r) (set zs (q / 64) s) k ≡ letter_in xs zs k
  unfolding letter_in
  same_lane k e n = simp (e, get_or-set_same, hr (k % 64) (omega arith), hs (k % 64) (omega arith), ne_eqb (k % 64) (q % 64) n)

  other_lane : (k : ℕ) → (k / 64 ≡ q / 64 → ⊥) → letter_in (set xs (q / 64) r) (set zs (q / 64) s) k ≡ letter_in xs zs k
  unfolding letter_in
  other_lane k n = simp (get_or-set_other xs (q / 64) (k / 64) r 0 n, get_or-set_other zs (q / 64) (k / 64) s 0 n)

  pub letter_put : (k : ℕ) → letter_in (set xs (q / 64) r) (set zs (q / 64) s) k ≡ chosen (eqb k q) l (letter_in xs zs k)
  letter_put k = go (ℕ_discrete k q) (ℕ_discrete (k / 64) (q / 64))
    where
      go : Dec (k ≡ q) → Dec (k / 64 ≡ q / 64) → letter_in (set xs (q / 64) r) (set zs (q / 64) s) k ≡ chosen (eqb k q) l (letter_in xs zs k)
      go (yes e) d = rw (eq-eqb k q e, e) there
      go (no n) (yes f) = rw (ne_eqb k q n) (same_lane k f (λ g. n (omega arith)))
      go (no n) (no m) = rw (ne_eqb k q n) (other_lane k m)

-- ---- phases of one lane: where they are odd, and where they are 3
abbrev pub imag : ℕ → ℕ → ℕ → ℕ → ℕ
imag a b c d = bit_xor (bit_and a d) (bit_and b c)

abbrev pub sign : ℕ → ℕ → ℕ → ℕ → ℕ
sign a b c d = bit_and (imag a b c d) (bit_xor (bit_xor (bit_xor (bit_xor a c) b) d) (bit_and a d))

at_digit : (a b c d k : ℕ) → bit (imag a b c d) k + 2 * bit (sign a b c d) k ≡ mul_phase (bit a k + 2 * bit b k) (bit c k + 2 * bit d k)
unfolding mul_phase
at_digit a b c d k =
    simp (bit_and_lem, bit_xor_lem)
    (eqb→eq _ _
    (at_bits (λ a b c d. eqb
    (differ (min a d) (min b c) + 2 * min (differ (min a d) (min b c)) (differ (differ (differ (differ a c) b) d) (min a d)))
    (mul_phase (a + 2 * b) (c + 2 * d))) tt
    (bit a k) (bit b k) (bit c k) (bit d k) (bit_lt _ _) (bit_lt _ _) (bit_lt _ _) (bit_lt _ _)))

module _ (a b c d : ℕ) (ha : a < 2 ^ 64) (hb : b < 2 ^ 64) (hc : c < 2 ^ 64) (hd : d < 2 ^ 64) where
  pub imag_lt : imag a b c d < 2 ^ 64
  imag_lt = xor_lt 64 (bit_and a d) (bit_and b c) (and_lt 64 a d ha hd) (and_lt 64 b c hb hc)

  pub sign_lt : sign a b c d < 2 ^ 64
  sign_lt = lt_of_le_of_lt (and_le_l (imag a b c d) _) imag_lt

  -- counts of set digits give the sum of the table's phases
  pub lane_counts : ones (imag a b c d) + 2 * ones (sign a b c d) ≡ lane_phase a b c d
  unfolding lane_phase
  lane_counts =
      let f = bit (imag a b c d) in
      let g = bit (sign a b c d) in
      ap₂ (λ (x y : ℕ). x + 2 * y) (ones_sum 64 (imag a b c d) imag_lt) (ones_sum 64 (sign a b c d) sign_lt)
      ∙ ap (λ (x : ℕ). sum_to 64 f + x) (sym (sum_mul 64 2 g))
      ∙ sym (sum_add 64 f (λ k. 2 * g k))
      ∙ sum_cong 64 (λ k. f k + 2 * g k) (λ k. mul_phase (bit a k + 2 * bit b k) (bit c k + 2 * bit d k)) (λ k l. at_digit a b c d k)

  -- modulo 2 the phases are the digits of imag
  pub lane_odd : ones (imag a b c d) % 2 ≡ lane_phase a b c d % 2
  lane_odd = omega (arith, lane_counts)

-- the phases of n lanes
pub lanes_phase : (n : ℕ) (xs zs us vs : List ℕ)
    → sum_to n (λ i. lane_phase (get_or xs i 0) (get_or zs i 0) (get_or us i 0) (get_or vs i 0)) ≡ phase_sum (64 * n) xs zs us vs
unfolding lane_phase phase_sum
lanes_phase n xs zs us vs =
    sum_cong n
    (λ i. lane_phase (get_or xs i 0) (get_or zs i 0) (get_or us i 0) (get_or vs i 0))
    (λ i. sum_to 64 (λ k. mul_phase (letter_in xs zs (64 * i + k)) (letter_in us vs (64 * i + k))))
    (λ i l. sum_cong 64 _ _ (λ k h. sym (ap₂ mul_phase (letter_in_lem xs zs i k h) (letter_in_lem us vs i k h))))
    ∙ sym (sum_runs 64 n (λ q. mul_phase (letter_in xs zs q) (letter_in us vs q)))
