-- SPDX-FileCopyrightText: 2026 The PPVM Authors
-- SPDX-License-Identifier: Apache-2.0

-- The binary digits of a number: of `&`, `|`, `^`, `!` and shifts, a count as a sum of digits, and facts that are
-- checked at every digit. Assumes nothing.
use mathlib.Core.Path.{◌≡◌, refl, sym, ap, ap₂, ◌∙◌}
use mathlib.Core.Bool.{Bool, true, false, not, ◌&&◌, ◌||◌}
use Prim.Native.Nat.{ℕ, zero, suc, ◌+◌, ◌-◌, ◌*◌, ◌/◌, ◌%◌, ◌^◌, ◌<◌, min, max}
use native.Mathlib.Nat.{div-one, pow-succ', mul_left_comm, lt_of_lt_of_le}
use native.Mathlib.Decide.{ℕ_discrete}
use borrow.Author.Tests.{eq-eqb, ne_eqb}
use native.Mathlib.Omega.{arith}
use lib.Dec.{T, ltb, eqb, ltb→lt, eqb→eq}
use lib.Bits.{bit_and, bit_or, bit_xor, differ, and_step, or_step, xor_step, and_shr, or_shr, xor_shr, and_lt, xor_lt, shifted_half, shifted_even}
use lib.Arith.{lt-one}
use lib.Pow.{shr-shr, shl_exact, shl_lt, pow_mono}
use lib.Count.{ones, ones_step}
use Rattle.word.specs.Count.{sum_to, any_to}
use Rattle.word.specs.Word.{bit}
use Rattle.word.specs.Steps.{chosen}
use Rattle.word.proofs.Sums.{sum_cong, sum_first, sum_mul, sum_add, any_cong, any_first}

-- ---- a test of digits holds where it holds at 0 and at 1

abbrev pub every : (ℕ → Bool) → Bool
every f = f 0 && f 1

pub at_bit : (f : ℕ → Bool) → T (every f) → (a : ℕ) → a < 2 → T (f a)
at_bit f t zero h = and_l (f 0) (f 1) t
  where
    and_l : (a b : Bool) → T (a && b) → T a
    and_l true b t = tt
    and_l false b t = t
at_bit f t (suc zero) h = and_r (f 0) (f 1) t
  where
    and_r : (a b : Bool) → T (a && b) → T b
    and_r true b t = t
    and_r false b t = absurd t
at_bit f t (suc (suc a)) h = absurd (omega arith)

abbrev pub every4 : (ℕ → ℕ → ℕ → ℕ → Bool) → Bool
every4 f = every (λ a. every (λ b. every (λ c. every (f a b c))))

pub at_bits : (f : ℕ → ℕ → ℕ → ℕ → Bool) → T (every4 f) → (a b c d : ℕ) → a < 2 → b < 2 → c < 2 → d < 2 → T (f a b c d)
at_bits f t a b c d ha hb hc hd =
    at_bit (f a b c)
    (at_bit (λ c. every (f a b c))
    (at_bit (λ b. every (λ c. every (f a b c)))
    (at_bit (λ a. every (λ b. every (λ c. every (f a b c)))) t a ha)
    b hb)
    c hc)
    d hd

-- ---- digits

pub bit_lt : (n k : ℕ) → bit n k < 2
unfolding bit
bit_lt n k = omega arith

differ_lt : (x y : ℕ) → x < 2 → y < 2 → differ x y < 2
differ_lt x y hx hy = ltb→lt _ _ (at_bits (λ a b c d. ltb (differ a b) 2) tt x y 0 0 hx hy (omega arith) (omega arith))

and_odd : (a b : ℕ) → bit_and a b % 2 ≡ min (a % 2) (b % 2)
and_odd a b = ap (λ (x : ℕ). x % 2) (and_step a b) ∙ omega arith

or_odd : (a b : ℕ) → bit_or a b % 2 ≡ max (a % 2) (b % 2)
or_odd a b = ap (λ (x : ℕ). x % 2) (or_step a b) ∙ omega arith

xor_odd : (a b : ℕ) → bit_xor a b % 2 ≡ differ (a % 2) (b % 2)
xor_odd a b = ap (λ (x : ℕ). x % 2) (xor_step a b) ∙ omega (arith, differ_lt (a % 2) (b % 2) (omega arith) (omega arith))

pub bit_and_lem : (a b k : ℕ) → bit (bit_and a b) k ≡ min (bit a k) (bit b k)
unfolding bit
bit_and_lem a b k = rw and_shr (and_odd (a / 2 ^ k) (b / 2 ^ k))

pub bit_or_lem : (a b k : ℕ) → bit (bit_or a b) k ≡ max (bit a k) (bit b k)
unfolding bit
bit_or_lem a b k = rw or_shr (or_odd (a / 2 ^ k) (b / 2 ^ k))

pub bit_xor_lem : (a b k : ℕ) → bit (bit_xor a b) k ≡ differ (bit a k) (bit b k)
unfolding bit
bit_xor_lem a b k = rw xor_shr (xor_odd (a / 2 ^ k) (b / 2 ^ k))

pub bit_zero : (n : ℕ) → bit n 0 ≡ n % 2
unfolding bit
bit_zero n = ap (λ (x : ℕ). x % 2) (div-one n)

pub bit_suc : (n k : ℕ) → bit (n / 2) k ≡ bit n (suc k)
unfolding bit
bit_suc n k = let e : suc k ≡ 1 + k = omega arith in rw e (ap (λ (x : ℕ). x % 2) (shr-shr n 1 k))

-- ---- the count of the set digits of a number of w digits is the sum of its digits

pub ones_sum : (w n : ℕ) → n < 2 ^ w → ones n ≡ sum_to w (bit n)
unfolding sum_to ones
ones_sum zero n h = ap ones (lt-one h)
ones_sum (suc w) n h =
    ones_step n
    ∙ ap (λ (x : ℕ). n % 2 + x) (ones_sum w (n / 2) (omega arith) ∙ sum_cong w (bit (n / 2)) (λ k. bit n (suc k)) (λ k l. bit_suc n k))
    ∙ sym (sum_first w (bit n) ∙ ap (λ (x : ℕ). x + sum_to w (λ k. bit n (suc k))) (bit_zero n))

-- digits in common cancel in the exclusive or
pub ones_xor : (w a b : ℕ) → a < 2 ^ w → b < 2 ^ w → ones (bit_xor a b) + 2 * ones (bit_and a b) ≡ ones a + ones b
ones_xor w a b ha hb =
    let f : ℕ → ℕ = bit (bit_xor a b) in
    let g : ℕ → ℕ = bit (bit_and a b) in
    ap₂ (λ (x y : ℕ). x + 2 * y) (ones_sum w (bit_xor a b) (xor_lt w a b ha hb)) (ones_sum w (bit_and a b) (and_lt w a b ha hb))
    ∙ ap (λ (x : ℕ). sum_to w f + x) (sym (sum_mul w 2 g))
    ∙ sym (sum_add w f (λ k. 2 * g k))
    ∙ sum_cong w (λ k. f k + 2 * g k) (λ k. bit a k + bit b k)
    (λ k l. simp (bit_xor_lem, bit_and_lem) (eqb→eq _ _ (at_bits (λ a b c d. eqb (differ a b + 2 * min a b) (a + b)) tt (bit a k) (bit b k) 0 0 (bit_lt _ _) (bit_lt _ _) (omega arith) (omega arith))))
    ∙ sum_add w (bit a) (bit b)
    ∙ sym (ap₂ ◌+◌ (ones_sum w a ha) (ones_sum w b hb))

-- ---- two numbers of w digits with the same digits are the same
pub same_digits : (w a b : ℕ) → a < 2 ^ w → b < 2 ^ w → ((k : ℕ) → k < w → bit a k ≡ bit b k) → a ≡ b
same_digits zero a b ha hb h = omega arith
same_digits (suc w) a b ha hb h =
    let e = same_digits w (a / 2) (b / 2) (omega arith) (omega arith) (λ k l. bit_suc a k ∙ h (suc k) (omega arith) ∙ sym (bit_suc b k)) in
    let d = sym (bit_zero a) ∙ h 0 (omega arith) ∙ bit_zero b in
    omega arith

-- ---- the number of w digits g 0, g 1, ..
abbrev pub made : ℕ → (ℕ → ℕ) → ℕ
made w g = sum_to w (λ k. g k * 2 ^ k)

twice : (a k : ℕ) → a * 2 ^ suc k ≡ 2 * (a * 2 ^ k)
twice a k = rw (pow-succ' 2 k) (mul_left_comm a 2 (2 ^ k))

made_first : (w : ℕ) (g : ℕ → ℕ) → made (suc w) g ≡ g 0 + 2 * made w (λ k. g (suc k))
made_first w g =
    let e = sum_first w (λ k. g k * 2 ^ k) in
    let f = sum_cong w (λ k. g (suc k) * 2 ^ suc k) (λ k. 2 * (g (suc k) * 2 ^ k)) (λ k l. twice (g (suc k)) k) in
    let h = sum_mul w 2 (λ k. g (suc k) * 2 ^ k) in
    omega arith

pub made_lt : (w : ℕ) (g : ℕ → ℕ) → ((k : ℕ) → g k < 2) → made w g < 2 ^ w
unfolding sum_to
made_lt zero g h = omega arith
made_lt (suc w) g h = let e = made_first w g in let l = made_lt w (λ k. g (suc k)) (λ k. h (suc k)) in let d = h 0 in rw e (omega arith)

pub made_bit : (w : ℕ) (g : ℕ → ℕ) → ((k : ℕ) → g k < 2) → (j : ℕ) → j < w → bit (made w g) j ≡ g j
made_bit zero g h j l = absurd (omega arith)
made_bit (suc w) g h zero l = let e = made_first w g in let d = h 0 in bit_zero (made (suc w) g) ∙ omega arith
made_bit (suc w) g h (suc j) l =
    let e = made_first w g in
    let d = h 0 in
    let f : made (suc w) g / 2 ≡ made w (λ k. g (suc k)) = omega arith in
    sym (bit_suc (made (suc w) g) j) ∙ ap (λ (x : ℕ). bit x j) f ∙ made_bit w (λ k. g (suc k)) (λ k. h (suc k)) j (omega arith)

-- ---- a number of w digits is 0 exactly if no digit is 1
pub any_digit : (w n : ℕ) → n < 2 ^ w → not (eqb n 0) ≡ any_to w (λ k. not (eqb (bit n k) 0))
unfolding any_to
any_digit zero n h = let e : n ≡ 0 = omega arith in rw e
any_digit (suc w) n h =
    low_or_high n
    ∙ ap₂ ◌||◌ (ap (λ (m : ℕ). not (eqb m 0)) (sym (bit_zero n))) (any_digit w (n / 2) (omega arith) ∙ any_cong w _ _ (λ k l. ap (λ (m : ℕ). not (eqb m 0)) (bit_suc n k)))
    ∙ sym (any_first w (λ k. not (eqb (bit n k) 0)))
  where
    low_or_high : (n : ℕ) → not (eqb n 0) ≡ (not (eqb (n % 2) 0) || not (eqb (n / 2) 0))
    low_or_high n = go (ℕ_discrete (n % 2) 0) (ℕ_discrete (n / 2) 0)
      where
        go : Dec (n % 2 ≡ 0) → Dec (n / 2 ≡ 0) → not (eqb n 0) ≡ (not (eqb (n % 2) 0) || not (eqb (n / 2) 0))
        go (yes a) (yes b) = simp (eq-eqb n 0 (omega arith), eq-eqb (n % 2) 0 a, eq-eqb (n / 2) 0 b)
        go (yes a) (no b) = simp (ne_eqb n 0 (λ e. b (omega arith)), eq-eqb (n % 2) 0 a, ne_eqb (n / 2) 0 b)
        go (no a) c = simp (ne_eqb n 0 (λ e. a (omega arith)), ne_eqb (n % 2) 0 a)

-- ---- one digit replaced
pub zero_bit : (j : ℕ) → bit 0 j ≡ 0
zero_bit zero = bit_zero 0
zero_bit (suc j) = sym (bit_suc 0 j) ∙ zero_bit j

-- the digits of b * 2 ^ k, for a digit b
pub shift_same : (b k : ℕ) → b < 2 → bit (b * 2 ^ k) k ≡ b
shift_same b zero h = bit_zero _ ∙ omega arith
shift_same b (suc k) h = sym (bit_suc _ k) ∙ ap (λ (x : ℕ). bit x k) (shifted_half b k) ∙ shift_same b k h

pub shift_other : (b k j : ℕ) → b < 2 → (j ≡ k → ⊥) → bit (b * 2 ^ k) j ≡ 0
shift_other b zero zero h n = absurd (n refl)
shift_other b zero (suc j) h n =
    let e : b * 2 ^ 0 / 2 ≡ 0 = omega arith in
    sym (bit_suc _ j) ∙ ap (λ (x : ℕ). bit x j) e ∙ zero_bit j
shift_other b (suc k) zero h n = bit_zero _ ∙ shifted_even b k
shift_other b (suc k) (suc j) h n =
    sym (bit_suc _ j) ∙ ap (λ (x : ℕ). bit x j) (shifted_half b k) ∙ shift_other b k j h (λ e. n (ap suc e))

pub bit_not : (w n k : ℕ) → n < 2 ^ w → k < w → bit ((2 ^ w - 1) - n) k ≡ 1 - bit n k
bit_not zero n k hn hk = absurd (omega arith)
bit_not (suc w) n zero hn hk = bit_zero _ ∙ omega (arith, bit_zero n)
bit_not (suc w) n (suc k) hn hk =
    let e : ((2 ^ suc w - 1) - n) / 2 ≡ (2 ^ w - 1) - n / 2 = omega arith in
    sym (bit_suc _ k) ∙ ap (λ (x : ℕ). bit x k) e ∙ bit_not w (n / 2) k (omega arith) (omega arith) ∙ ap (λ (x : ℕ). 1 - x) (bit_suc n k)

-- x with digit k replaced by b, in a word of w digits
abbrev put : ℕ → ℕ → ℕ → ℕ → ℕ
put w x k b = bit_or (bit_and x ((2 ^ w - 1) - (1 * 2 ^ k) % 2 ^ w)) ((b * 2 ^ k) % 2 ^ w)

module _ (w x k b j : ℕ) (hk : k < w) (hb : b < 2) (hj : j < w) where
  shifted : (a : ℕ) → a < 2 → ((a * 2 ^ k) % 2 ^ w ≡ a * 2 ^ k) × (a * 2 ^ k < 2 ^ w)
  shifted a ha = (
    shl_exact 1 k w ha (omega arith),
    lt_of_lt_of_le (shl_lt 1 k ha) (pow_mono (omega arith)),
  )

  digit : bit (put w x k b) j ≡ max (min (bit x j) (1 - bit (1 * 2 ^ k) j)) (bit (b * 2 ^ k) j)
  digit =
      rw ((shifted 1 (omega arith)).0, (shifted b hb).0)
      (bit_or_lem _ _ j ∙ ap (λ (y : ℕ). max y (bit (b * 2 ^ k) j)) (bit_and_lem x _ j ∙ ap (min (bit x j)) (bit_not w (1 * 2 ^ k) j (shifted 1 (omega arith)).1 hj)))

  pub bit_put : bit (put w x k b) j ≡ chosen (eqb j k) b (bit x j)
  bit_put = digit ∙ go (ℕ_discrete j k)
    where
      go : Dec (j ≡ k) → max (min (bit x j) (1 - bit (1 * 2 ^ k) j)) (bit (b * 2 ^ k) j) ≡ chosen (eqb j k) b (bit x j)
      go (yes e) =
          let s : bit (1 * 2 ^ k) j ≡ 1 = ap (bit (1 * 2 ^ k)) e ∙ shift_same 1 k (omega arith) in
          let t : bit (b * 2 ^ k) j ≡ b = ap (bit (b * 2 ^ k)) e ∙ shift_same b k hb in
          rw (eq-eqb j k e) (omega arith)
      go (no n) =
          let s = shift_other 1 k j (omega arith) n in
          let t = shift_other b k j hb n in
          rw (ne_eqb j k n) (omega (arith, bit_lt x j))
