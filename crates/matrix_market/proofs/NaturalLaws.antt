-- SPDX-FileCopyrightText: 2026 The PPVM Authors
-- SPDX-License-Identifier: Apache-2.0

-- The digits of a number: one below 10, else those of n / 10 and one more; and how many there are at most. Assumes nothing.
use Rattle.std.proofs.Common.{◌≡◌, ℕ, zero, suc, ◌+◌, ◌/◌, ◌%◌, ◌^◌, ◌<◌, ◌≤◌, Bool, true, false, ltb, List, [], ◌∷◌, ◌++◌, length, refl, ap, ◌∙◌, div-lt_iff_lt-mul, pow-suc, arith, length-append, le-ltb, lt-ltb}
use native.Mathlib.Decide.{dec_lt}
use Rattle.matrix_market.specs.Text.{digit, digits_to, natural}

-- a larger bound, the same digits
steady : (a b n : ℕ) → n ≤ a → n ≤ b → digits_to a (ltb n 10) n ≡ digits_to b (ltb n 10) n
unfolding digits_to
steady zero zero n p q = refl
steady zero (suc b) n p q = let z : n ≡ 0 = omega arith in rw z
steady (suc a) zero n p q = let z : n ≡ 0 = omega arith in rw z
steady (suc a) (suc b) n p q = go (ltb n 10) (steady a b (n / 10) (omega arith) (omega arith))
  where
    go : (t : Bool) → digits_to a (ltb (n / 10) 10) (n / 10) ≡ digits_to b (ltb (n / 10) 10) (n / 10) → digits_to (suc a) t n ≡ digits_to (suc b) t n
    go true e = refl
    go false e = ap (λ (l : List ℕ). l ++ (digit (n % 10) ∷ [])) e

pub natural_small : (n : ℕ) → n < 10 → natural n ≡ digit n ∷ []
unfolding natural digits_to
natural_small zero h = refl
natural_small (suc n) h = rw (lt-ltb (suc n) 10 h)

pub natural_more : (n : ℕ) → 10 ≤ n → natural n ≡ natural (n / 10) ++ (digit (n % 10) ∷ [])
unfolding natural digits_to
natural_more zero h = absurd (omega arith)
natural_more (suc n) h =
    rw (le-ltb (suc n) 10 h)
    (ap (λ (l : List ℕ). l ++ (digit (suc n % 10) ∷ [])) (steady n (suc n / 10) (suc n / 10) (omega arith) (omega arith)))

-- ---- how many
pub natural_length_small : (n : ℕ) → n < 10 → length (natural n) ≡ 1
natural_length_small n h = rw (natural_small n h)

pub natural_length_more : (n : ℕ) → 10 ≤ n → length (natural n) ≡ length (natural (n / 10)) + 1
natural_length_more n h = ap length (natural_more n h) ∙ length-append (natural (n / 10)) (digit (n % 10) ∷ [])

pub natural_short : (k n : ℕ) → n < 10 ^ suc k → length (natural n) ≤ suc k
natural_short zero n h = let e = natural_length_small n h in omega (arith, e)
natural_short (suc k) n h = go (dec_lt n 10) (natural_short k (n / 10) ((div-lt_iff_lt-mul {k = 10} {x = n} {y = 10 ^ suc k} (omega arith)).1 (rw (pow-suc 10 (suc k)) at h)))
  where
    go : Dec (n < 10) → length (natural (n / 10)) ≤ suc k → length (natural n) ≤ suc (suc k)
    go (yes l) i = let e = natural_length_small n l in omega (arith, e)
    go (no l) i = let e = natural_length_more n (omega arith) in omega (arith, e, i)

-- of 64 bits
pub natural_64 : (n : ℕ) → n < 2 ^ 64 → length (natural n) ≤ 20
natural_64 n h = natural_short 19 n (omega arith)
