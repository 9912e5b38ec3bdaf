-- SPDX-FileCopyrightText: 2026 The PPVM Authors
-- SPDX-License-Identifier: Apache-2.0

-- The lowest set digit of a number: where `count_trailing_zeros` finds it, and that `m & (m - 1)` clears it and nothing else. Assumes nothing.
use mathlib.Core.Path.{◌≡◌, refl, sym, ap, ap₂, ◌∙◌}
use Prim.Native.Nat.{ℕ, zero, suc, ◌-◌, ◌/◌, ◌%◌, ◌^◌, ◌<◌, ◌≤◌, min}
use native.Mathlib.Omega.{arith}
use lib.Bits.{bit_and}
use lib.Count.{count_trailing_zeros, under}
use Rattle.word.specs.Word.{bit}
use Rattle.word.proofs.Digits.{zero_bit, bit_zero, bit_suc, bit_and_lem}

-- a number of w digits has none at w or above
pub bit_high : (w m k : ℕ) → m < 2 ^ w → w ≤ k → bit m k ≡ 0
bit_high zero m k h l = let e : m ≡ 0 = omega arith in rw e (zero_bit k)
bit_high (suc w) m zero h l = absurd (omega arith)
bit_high (suc w) m (suc k) h l = sym (bit_suc m k) ∙ bit_high w (m / 2) k (omega arith) (omega arith)

-- t is the place of the lowest set digit of m, and m & (m - 1) is m without it
pub record Lowest (w m t : ℕ) : Type 0 where
  pub inside : t < w
  pub there : bit m t ≡ 1
  pub lower : (i : ℕ) → i < t → bit m i ≡ 0
  pub gone : bit (bit_and m (m - 1)) t ≡ 0
  pub others : (i : ℕ) → (i ≡ t → ⊥) → bit (bit_and m (m - 1)) i ≡ bit m i

same_min : (a : ℕ) → min a a ≡ a
same_min a = omega arith

module _ (w m : ℕ) (o : m % 2 ≡ 1) where
  odd_others : (i : ℕ) → (i ≡ 0 → ⊥) → bit (bit_and m (m - 1)) i ≡ bit m i
  odd_others zero n = absurd (n refl)
  odd_others (suc i) n =
      let h : (m - 1) / 2 ≡ m / 2 = omega arith in
      let e : bit (m - 1) (suc i) ≡ bit m (suc i) = sym (bit_suc (m - 1) i) ∙ ap (λ (x : ℕ). bit x i) h ∙ bit_suc m i in
      bit_and_lem m (m - 1) (suc i) ∙ ap (min (bit m (suc i))) e ∙ same_min _

  odd : Lowest (suc w) m 0
  odd = record {
    inside = omega arith;
    there = bit_zero m ∙ o;
    lower = λ i l. absurd (omega arith);
    gone = bit_and_lem m (m - 1) 0 ∙ omega (arith, bit_zero (m - 1));
    others = odd_others;
  }

module _ (w m t : ℕ) (p : 0 < m) (o : m % 2 ≡ 0) (l : Lowest w (m / 2) t) where
  halved : (i : ℕ) → bit (bit_and m (m - 1)) (suc i) ≡ bit (bit_and (m / 2) (m / 2 - 1)) i
  halved i =
      let h : (m - 1) / 2 ≡ m / 2 - 1 = omega arith in
      let e : bit (m - 1) (suc i) ≡ bit (m / 2 - 1) i = sym (bit_suc (m - 1) i) ∙ ap (λ (x : ℕ). bit x i) h in
      bit_and_lem m (m - 1) (suc i) ∙ ap₂ min (sym (bit_suc m i)) e ∙ sym (bit_and_lem (m / 2) (m / 2 - 1) i)

  even_lower : (i : ℕ) → i < suc t → bit m i ≡ 0
  even_lower zero h = bit_zero m ∙ o
  even_lower (suc i) h = sym (bit_suc m i) ∙ l.lower i (omega arith)

  even_others : (i : ℕ) → (i ≡ suc t → ⊥) → bit (bit_and m (m - 1)) i ≡ bit m i
  even_others zero n = bit_and_lem m (m - 1) 0 ∙ omega (arith, bit_zero m)
  even_others (suc i) n = halved i ∙ l.others i (λ e. n (ap suc e)) ∙ bit_suc m i

  even : Lowest (suc w) m (suc t)
  even = record {
    inside = omega (arith, l.inside);
    there = sym (bit_suc m t) ∙ l.there;
    lower = even_lower;
    gone = halved t ∙ l.gone;
    others = even_others;
  }

-- `trailing_zeros` of a number that is not 0
pub lowest : (w m : ℕ) → 0 < m → m < 2 ^ w → Lowest w m (count_trailing_zeros w m)
unfolding count_trailing_zeros
lowest zero m p h = absurd (omega arith)
lowest (suc w) m p h = go (m % 2) refl (λ e. lowest w (m / 2) (omega arith) (omega arith))
  where
    go : (r : ℕ) → m % 2 ≡ r → (m % 2 ≡ 0 → Lowest w (m / 2) (count_trailing_zeros w (m / 2))) → Lowest (suc w) m (under r (count_trailing_zeros w (m / 2)))
    go zero e ih = even w m (count_trailing_zeros w (m / 2)) p e (ih e)
    go (suc r) e ih = odd w m (omega arith)
