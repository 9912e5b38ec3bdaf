-- SPDX-FileCopyrightText: 2026 The PPVM Authors
-- SPDX-License-Identifier: Apache-2.0

-- The next qubit that a word acts on, found lane by lane, and whether a lane has a qubit at or above another that it acts on. Assumes nothing.
use mathlib.Core.Path.{◌≡◌, refl, sym, ap, ◌∙◌}
use mathlib.Core.Bool.{Bool, true, false, not, ◌&&◌, cond}
use Prim.Native.Nat.{ℕ, zero, suc, ◌+◌, ◌-◌, ◌*◌, ◌/◌, ◌%◌, ◌^◌, ◌<◌, ◌≤◌, min}
use native.Mathlib.Nat.{lt_of_le_of_lt, lt_trans}
use native.Mathlib.Omega.{arith}
use native.Mathlib.Decide.{dec_lt}
use borrow.Author.Tests.{eq-eqb, ne_eqb, le-leb, lt-leb}
use lib.Bits.{bit_and, bit_or, and_lt, or_lt}
use lib.Count.{count_trailing_zeros}
use lib.Dec.{eqb, leb}
use lib.ListN.{get_or, get_or-eq_default}
use lib.Pow.{pow_pos, pow-lt, ones_lt, shl_exact, shr-shr, shr_le}
use Rattle.word.specs.Word.{lane_count, max_qubits, bit, letter_in, Sound}
use Rattle.word.specs.Count.{any_to}
use Rattle.word.specs.Register.{acts_on}
use Rattle.word.specs.declared.word.Word.{Word}
use Rattle.word.proofs.Sums.{any_cong}
use Rattle.word.proofs.Digits.{bit_lt, bit_and_lem, bit_or_lem, bit_not, zero_bit, any_digit}
use Rattle.word.proofs.Lowest.{Lowest, lowest, bit_high}
use Rattle.word.specs.Between.{NextQubit, DigitsFrom}

-- the qubits of lane i: those at which its x or its z is set
abbrev pub acting : Word → ℕ → ℕ
acting w i = bit_or (get_or w.x i 0) (get_or w.z i 0)

-- ---- a word acts on a qubit exactly if its digit there is 1
module _ (w : Word) where
  letter_idle : (q : ℕ) → bit (acting w (q / 64)) (q % 64) ≡ 0 → acts_on w q ≡ false
  unfolding letter_in
  letter_idle q h =
      let a = get_or w.x (q / 64) 0 in
      let b = get_or w.z (q / 64) 0 in
      ap not (eq-eqb (bit a (q % 64) + 2 * bit b (q % 64)) 0 (omega (arith, h, bit_or_lem a b (q % 64))))

  letter_there : (q : ℕ) → bit (acting w (q / 64)) (q % 64) ≡ 1 → acts_on w q ≡ true
  unfolding letter_in
  letter_there q h =
      let a = get_or w.x (q / 64) 0 in
      let b = get_or w.z (q / 64) 0 in
      ap not (ne_eqb (bit a (q % 64) + 2 * bit b (q % 64)) 0 (λ e. omega (arith, h, e, bit_or_lem a b (q % 64))))

  idle_at : (i q : ℕ) → q / 64 ≡ i → bit (acting w i) (q % 64) ≡ 0 → acts_on w q ≡ false
  idle_at i q e h = letter_idle q (ap (λ (j : ℕ). bit (acting w j) (q % 64)) e ∙ h)

-- it acts on none of the qubits from `from` on below lane i
abbrev pub Passed : Word → ℕ → ℕ → Type 0
Passed w from i = (q : ℕ) → from ≤ q → q < i * 64 → acts_on w q ≡ false

-- a number of w digits 1
all_set : (w k : ℕ) → k < w → bit (2 ^ w - 1) k ≡ 1
all_set w k h =
    let p = pow_pos w in
    let e : (2 ^ w - 1) - 0 ≡ 2 ^ w - 1 = omega arith in
    ap (λ (x : ℕ). bit x k) (sym e) ∙ bit_not w 0 k (omega (arith, p)) h ∙ rw (zero_bit k)

-- digits above k
shifted : (n k j : ℕ) → bit (n / 2 ^ k) j ≡ bit n (k + j)
unfolding bit
shifted n k j = ap (λ (x : ℕ). x % 2) (shr-shr n k j)

module _ (w : Word) (s : Sound w) where
  -- a word has no lanes past its own
  beyond : (q : ℕ) → max_qubits ≤ q → acts_on w q ≡ false
  beyond q h =
      let x : get_or w.x (q / 64) 0 ≡ 0 = get_or-eq_default w.x 0 (omega (arith, s.x_lanes)) in
      let z : get_or w.z (q / 64) 0 ≡ 0 = get_or-eq_default w.z 0 (omega (arith, s.z_lanes)) in
      letter_idle w q (rw (x, z) (zero_bit (q % 64)))

  lane_lt : (i : ℕ) → acting w i < 2 ^ 64
  lane_lt i = or_lt 64 _ _ (s.x_fits i) (s.z_fits i)

  pub next_beyond : (from : ℕ) → max_qubits ≤ from → NextQubit w from max_qubits
  next_beyond from h = record {
    inside = omega arith;
    found = λ l. absurd (omega arith);
    before = λ q l m. absurd (omega arith);
    none = λ e q l. beyond q (omega arith);
  }

  -- ---- in the first lane, past the digits below `from`
  module _ (from : ℕ) (few : from < max_qubits) where
    abbrev rest : ℕ
    rest = acting w (from / 64) / 2 ^ (from % 64)

    rest_lt : rest < 2 ^ 64
    rest_lt = lt_of_le_of_lt (shr_le (acting w (from / 64)) (from % 64)) (lane_lt (from / 64))

    rest_digit : (q : ℕ) → from ≤ q → q / 64 ≡ from / 64 → bit (acting w (from / 64)) (q % 64) ≡ bit rest (q - from)
    rest_digit q l e =
        let z : q % 64 ≡ from % 64 + (q - from) = omega arith in
        ap (bit (acting w (from / 64))) z ∙ sym (shifted (acting w (from / 64)) (from % 64) (q - from))

    pub rest_lowest : 0 < rest → Lowest 64 rest (count_trailing_zeros 64 rest)
    rest_lowest p = lowest 64 rest p rest_lt

    module _ (t : ℕ) (l : Lowest 64 rest t) where
      rest_inside : from % 64 + t < 64
      rest_inside = go (dec_lt (from % 64 + t) 64)
        where
          go : Dec (from % 64 + t < 64) → from % 64 + t < 64
          go (yes h) = h
          go (no h) = absurd (omega (arith, l.there, shifted (acting w (from / 64)) (from % 64) t, bit_high 64 (acting w (from / 64)) (from % 64 + t) (lane_lt (from / 64)) (omega arith)))

      pub next_rest : NextQubit w from (from + t)
      next_rest =
          let i = rest_inside in
          record {
            inside = omega arith;
            found = λ h. (omega arith, letter_there w (from + t) (there i));
            before = λ q a b. idle_at w (from / 64) q (omega arith) (rest_digit q a (omega arith) ∙ l.lower (q - from) (omega arith));
            none = λ e. absurd (omega arith);
          }
        where
          there : from % 64 + t < 64 → bit (acting w ((from + t) / 64)) ((from + t) % 64) ≡ 1
          there i =
              let e : (from + t) / 64 ≡ from / 64 = omega arith in
              let d : from + t - from ≡ t = omega arith in
              ap (λ (j : ℕ). bit (acting w j) ((from + t) % 64)) e ∙ rest_digit (from + t) (omega arith) e ∙ ap (bit rest) d ∙ l.there

    -- ---- lane by lane
    pub passed_first : rest ≡ 0 → Passed w from (from / 64 + 1)
    passed_first z q l m =
        idle_at w (from / 64) q (omega arith) (rest_digit q l (omega arith) ∙ ap (λ (x : ℕ). bit x (q - from)) z ∙ zero_bit (q - from))

    pub passed_more : (i : ℕ) → Passed w from i → acting w i ≡ 0 → Passed w from (i + 1)
    passed_more i p z q l m = go (dec_lt q (i * 64))
      where
        go : Dec (q < i * 64) → acts_on w q ≡ false
        go (yes h) = p q l h
        go (no h) = idle_at w i q (omega arith) (ap (λ (x : ℕ). bit x (q % 64)) z ∙ zero_bit (q % 64))

    pub lane_lowest : (i : ℕ) → 0 < acting w i → Lowest 64 (acting w i) (count_trailing_zeros 64 (acting w i))
    lane_lowest i p = lowest 64 (acting w i) p (lane_lt i)

    pub next_lane : (i t : ℕ) → Passed w from i → from / 64 < i → i < lane_count → Lowest 64 (acting w i) t → NextQubit w from (i * 64 + t)
    next_lane i t p a b l =
        let h = l.inside in
        record {
          inside = omega arith;
          found = λ k. (omega arith, letter_there w (i * 64 + t) there);
          before = λ q m k. go q m k (dec_lt q (i * 64));
          none = λ e. absurd (omega arith);
        }
      where
        there : bit (acting w ((i * 64 + t) / 64)) ((i * 64 + t) % 64) ≡ 1
        there =
            let h = l.inside in
            let e : (i * 64 + t) / 64 ≡ i = omega arith in
            let f : (i * 64 + t) % 64 ≡ t = omega arith in
            rw (e, f) l.there

        go : (q : ℕ) → from ≤ q → q < i * 64 + t → Dec (q < i * 64) → acts_on w q ≡ false
        go q m k (yes h) = p q m h
        go q m k (no h) = let n = l.inside in idle_at w i q (omega arith) (l.lower (q % 64) (omega arith))

    pub next_none : (i : ℕ) → Passed w from i → lane_count ≤ i → NextQubit w from max_qubits
    next_none i p h = record {
      inside = omega arith;
      found = λ l. absurd (omega arith);
      before = λ q l m. p q l (omega arith);
      none = λ e q l. go q l (dec_lt q max_qubits);
    }
      where
        go : (q : ℕ) → from ≤ q → Dec (q < max_qubits) → acts_on w q ≡ false
        go q l (yes m) = p q l (omega arith)
        go q l (no m) = beyond q (omega arith)

-- ---- a lane has a digit at or above qubit n exactly if the word acts on one of its qubits there
module _ (w : Word) (s : Sound w) (i n mask : ℕ) (fits : mask < 2 ^ 64) (d : DigitsFrom (64 * i) n mask) where
  acts_digit : (k : ℕ) → k < 64 → not (eqb (bit (acting w i) k) 0) ≡ acts_on w (64 * i + k)
  acts_digit k h = go (bit (acting w i) k) refl (bit_lt (acting w i) k)
    where
      go : (b : ℕ) → bit (acting w i) k ≡ b → b < 2 → not (eqb b 0) ≡ acts_on w (64 * i + k)
      go zero e l =
          let q : (64 * i + k) / 64 ≡ i = omega arith in
          let r : (64 * i + k) % 64 ≡ k = omega arith in
          sym (idle_at w i (64 * i + k) q (ap (bit (acting w i)) r ∙ e))
      go (suc zero) e l =
          let q : (64 * i + k) / 64 ≡ i = omega arith in
          let r : (64 * i + k) % 64 ≡ k = omega arith in
          sym (letter_there w (64 * i + k) (rw (q, r) e))
      go (suc (suc b)) e l = absurd (omega arith)

  masked_digit : (k : ℕ) → k < 64 → not (eqb (bit (bit_and (acting w i) mask) k) 0) ≡ (leb n (64 * i + k) && acts_on w (64 * i + k))
  masked_digit k h = ap (λ (x : ℕ). not (eqb x 0)) (bit_and_lem (acting w i) mask k ∙ ap (min (bit (acting w i) k)) (d k h)) ∙ go (leb n (64 * i + k))
    where
      go : (b : Bool) → not (eqb (min (bit (acting w i) k) (cond b 1 0)) 0) ≡ (b && acts_on w (64 * i + k))
      go true = let l = bit_lt (acting w i) k in let e : min (bit (acting w i) k) 1 ≡ bit (acting w i) k = omega (arith, l) in rw e (acts_digit k h)
      go false = let e : min (bit (acting w i) k) 0 ≡ 0 = omega arith in rw e

  pub lane_reaches : not (eqb (bit_and (acting w i) mask) 0) ≡ any_to 64 (λ k. leb n (64 * i + k) && acts_on w (64 * i + k))
  lane_reaches = any_digit 64 _ (and_lt 64 _ _ (lane_lt w s i) fits) ∙ any_cong 64 _ _ masked_digit

-- a 1 moved up inside a lane
pub one_shifted : (k : ℕ) → k < 64 → (1 * 2 ^ k) % 2 ^ 64 ≡ 2 ^ k
one_shifted k h = shl_exact {a = 1} 1 k 64 (omega arith) (omega (arith, h)) ∙ omega arith

-- ---- the digits of a lane at or above a qubit: all, none, or all but the lowest ones
module _ (from n : ℕ) where
  pub digits_all : n ≤ from → DigitsFrom from n (2 ^ 64 - 1)
  digits_all h k l = all_set 64 k l ∙ sym (ap (λ (b : Bool). cond b 1 0) (le-leb n (from + k) (omega (arith, h))))

  pub digits_none : 64 ≤ n - from → DigitsFrom from n 0
  digits_none h k l = zero_bit k ∙ sym (ap (λ (b : Bool). cond b 1 0) (lt-leb n (from + k) (omega (arith, h, l))))

  pub digits_some : from < n → n - from < 64 → DigitsFrom from n ((2 ^ 64 - 1) - (2 ^ (n - from) - 1))
  digits_some h f k l = bit_not 64 (2 ^ (n - from) - 1) k (lt_trans (ones_lt (n - from)) (pow-lt f)) l ∙ go (dec_lt k (n - from))
    where
      go : Dec (k < n - from) → 1 - bit (2 ^ (n - from) - 1) k ≡ cond (leb n (from + k)) 1 0
      go (yes m) = rw (all_set (n - from) k m, lt-leb n (from + k) (omega (arith, h, m)))
      go (no m) = rw (bit_high (n - from) (2 ^ (n - from) - 1) k (ones_lt (n - from)) (omega (arith, m)), le-leb n (from + k) (omega (arith, h, m)))
