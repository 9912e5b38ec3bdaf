-- SPDX-FileCopyrightText: 2026 The PPVM Authors
-- SPDX-License-Identifier: Apache-2.0

-- Digits written into a table, the last one after those of n / 10. Assumes nothing.
use Rattle.std.proofs.Common.{◌≡◌, ℕ, ◌+◌, ◌/◌, ◌%◌, ◌<◌, ◌≤◌, true, false, List, [], ◌∷◌, ◌++◌, length, set, sym, refl, ap, ◌∙◌, add-one, arith}
use Rattle.lent.specs.Laid.{laid}
use Rattle.matrix_market.specs.Text.{newline, minus, natural, digit, field}
use Rattle.matrix_market.specs.Between.{count_text}
use Rattle.matrix_market.specs.declared.count.Count.{Count}
use Rattle.matrix_market.proofs.NaturalLaws.{natural_small, natural_more, natural_length_small, natural_length_more}
use Rattle.matrix_market.proofs.LaidLaws.{laid_one, laid_then, end_then}

module _ (n at : ℕ) (l : List ℕ) where
  pub one_digit : n < 10 → (set l at (48 + n) ≡ laid set at (natural n) l) × (at + 1 ≡ at + length (natural n))
  one_digit h = let e = natural_length_small n h in (rw (natural_small n h) (laid_one at (48 + n) l), omega (arith, e))

  pub one_more : (m : List ℕ) (last : ℕ) → 10 ≤ n → m ≡ laid set at (natural (n / 10)) l → last ≡ at + length (natural (n / 10))
      → (set m last (48 + n % 10) ≡ laid set at (natural n) l) × (last + 1 ≡ at + length (natural n))
  one_more m last h e f =
      let k = natural_length_more n h in
      (rw (natural_more n h) (laid_then at last (natural (n / 10)) (digit (n % 10) ∷ []) l m _ e f (laid_one last (48 + n % 10) m)), omega (arith, k, f))

  -- with a byte after them
  pub field_written : (after : ℕ) (m : List ℕ) (last : ℕ) → m ≡ laid set at (natural n) l → last ≡ at + length (natural n)
      → (set m last after ≡ laid set at (field after n) l) × (last + 1 ≡ at + length (field after n))
  unfolding field
  field_written after m last e f =
      (laid_then at last (natural n) (after ∷ []) l m _ e f (laid_one last after m), end_then at last (last + 1) (natural n) (after ∷ []) f refl)

-- ---- a count and the newline after it, with a minus sign and without
module _ (c : Count) (at : ℕ) (l : List ℕ) where
  abbrev counted : List ℕ
  counted = count_text c ++ (newline ∷ [])

  module _ (h : c.minus ≡ true) where
    minus_is : counted ≡ minus ∷ field newline c.size
    unfolding field
    minus_is = rw h

    pub minus_long : length counted ≡ length (field newline c.size) + 1
    minus_long = ap length minus_is ∙ sym (add-one _)

    pub minus_written : (m : List ℕ) (r : ℕ) → m ≡ laid set (at + 1) (field newline c.size) (set l at minus) → r ≡ at + 1 + length (field newline c.size) → (m ≡ laid set at counted l) × (r ≡ at + length counted)
    unfolding laid
    minus_written m r e f = (e ∙ rw (add-one at, minus_is) refl, omega (arith, f, minus_long))

  module _ (h : c.minus ≡ false) where
    pub plain_is : counted ≡ field newline c.size
    unfolding field
    plain_is = rw h
