-- SPDX-FileCopyrightText: 2026 The PPVM Authors
-- SPDX-License-Identifier: Apache-2.0

-- Where a row stands: always inside the places, and from its own offset to before the next where these lie inside. What stands there.
-- Assumes nothing.
use Rattle.std.proofs.Common.{◌≡◌, ℕ, ◌+◌, ◌-◌, ◌<◌, ◌≤◌, Bool, true, false, cond, ◌&&◌, ltb, leb, List, length, get_or, drop, refl, ◌∙◌, arith, length-drop, length-take-le, get_or-drop, get_or-take, le-ltb, lt-ltb, le-leb, leb-true}
use borrow.Author.Tests.{lt-leb}
use Rattle.matrix_row.specs.Rows.{row_at, part_of}
use Rattle.matrix_row.specs.declared.rows.Row.{Row}

-- nowhere
abbrev pub nowhere : Row
nowhere = record { start = 0; end = 0 }

module _ (offsets : List ℕ) (places r : ℕ) where
  abbrev start : ℕ
  start = get_or offsets r 0

  abbrev end : ℕ
  end = get_or offsets (r + 1) 0

  -- the two offsets of row r, where they are there and lie inside
  pub row_is : r + 1 < length offsets → start ≤ end → end ≤ places → row_at offsets places r ≡ record { start = start; end = end }
  unfolding row_at
  row_is h1 h2 h3 = rw (lt-ltb (r + 1) (length offsets) h1, le-leb start end h2, le-leb end places h3)

  pub row_missing : length offsets ≤ r + 1 → nowhere ≡ row_at offsets places r
  unfolding row_at
  row_missing h = rw (le-ltb (r + 1) (length offsets) h)

  pub row_falling : r + 1 < length offsets → end < start → nowhere ≡ row_at offsets places r
  unfolding row_at
  row_falling h1 h2 = rw (lt-ltb (r + 1) (length offsets) h1, lt-leb start end h2)

  pub row_outside : r + 1 < length offsets → start ≤ end → places < end → nowhere ≡ row_at offsets places r
  unfolding row_at
  row_outside h1 h2 h3 = rw (lt-ltb (r + 1) (length offsets) h1, le-leb start end h2, lt-leb end places h3)

  pub record Inside (row : Row) : Type 0 where
    pub ordered : row.start ≤ row.end
    pub within : row.end ≤ places

  pub row_inside : Inside (row_at offsets places r)
  unfolding row_at
  row_inside = go (ltb (r + 1) (length offsets)) (leb start end) refl (leb end places) refl
    where
      none : Inside nowhere
      none = record { ordered = omega arith; within = omega arith }

      go : (b1 b2 : Bool) → leb start end ≡ b2 → (b3 : Bool) → leb end places ≡ b3 → Inside (cond (b1 && (b2 && b3)) (record { start = start; end = end }) nowhere)
      go false b2 e2 b3 e3 = none
      go true false e2 b3 e3 = none
      go true true e2 false e3 = none
      go true true e2 true e3 = record { ordered = leb-true start end e2; within = leb-true end places e3 }

-- ---- what stands in a row's places
module _ {A : Type 0} (row : Row) (l : List A) (ordered : row.start ≤ row.end) (within : row.end ≤ length l) where
  pub part_length : length (part_of row l) ≡ row.end - row.start
  unfolding part_of
  part_length =
      let d = length-drop row.start l in
      length-take-le (row.end - row.start) (drop row.start l) (omega arith)

  pub part_at : (k : ℕ) (d : A) → k < row.end - row.start → get_or (part_of row l) k d ≡ get_or l (row.start + k) d
  unfolding part_of
  part_at k d h = get_or-take (row.end - row.start) (drop row.start l) k d h ∙ get_or-drop row.start l k d
