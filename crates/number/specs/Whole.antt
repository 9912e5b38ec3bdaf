-- SPDX-FileCopyrightText: 2026 The PPVM Authors
-- SPDX-License-Identifier: Apache-2.0

-- The whole numbers. Sum, opposite and product have names of their own that stay shut, so that laws apply to them.
use Rattle.std.specs.Prelude.{ℕ, zero, suc, Bool, true, false, cond, leb, ℤ, pos, negsuc, neg_ℤ, ◌+ℤ◌, ◌*ℤ◌}
use Rattle.number.specs.Numbers.{Numbers}

infixl 6 ◌⊞◌
unfoldable pub ◌⊞◌ : ℤ → ℤ → ℤ
m ⊞ k = m +ℤ k

unfoldable pub neg : ℤ → ℤ
neg m = neg_ℤ m

infixl 7 ◌⊠◌
unfoldable pub ◌⊠◌ : ℤ → ℤ → ℤ
m ⊠ k = m *ℤ k

unfoldable pub is_nought : ℤ → Bool
is_nought (pos zero) = true
is_nought (pos (suc n)) = false
is_nought (negsuc n) = false

unfoldable pub at_most : ℤ → ℤ → Bool
at_most (pos a) (pos b) = leb a b
at_most (pos a) (negsuc b) = false
at_most (negsuc a) (pos b) = true
at_most (negsuc a) (negsuc b) = leb b a

unfoldable pub larger_whole : ℤ → ℤ → ℤ
larger_whole a b = cond (at_most a b) b a

-- 1e28, the inverse of 1e-14 × 1e-14
abbrev pub ten_to28 : ℕ
ten_to28 = 10000000000000000000000000000

-- 1e20, that of 1e-10 × 1e-10
abbrev pub ten_to20 : ℕ
ten_to20 = 100000000000000000000

-- a whole number of at most 1e-14 in magnitude is 0; beside the largest both sides are multiplied by 1e28 or
-- 1e20
abbrev pub whole : Numbers
whole = record {
  Num = ℤ;
  nought = pos 0;
  unit = pos 1;
  two = pos 2;
  plus = λ a b. a ⊞ b;
  less = λ a b. a ⊞ neg b;
  times = λ a b. a ⊠ b;
  opposite = neg;
  small = is_nought;
  slight = is_nought;
  slighter = λ a largest. at_most (a ⊠ pos ten_to28) largest;
  near = λ a largest. at_most (a ⊠ pos ten_to20) (larger_whole (pos 1) largest);
  is_zero = is_nought;
  larger = larger_whole;
}
