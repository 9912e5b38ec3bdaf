-- SPDX-FileCopyrightText: 2026 The PPVM Authors
-- SPDX-License-Identifier: Apache-2.0

-- What a matrix by rows says. Where its offsets rise, row r has exactly the columns and the entries that stand from its offset to before
-- the next one, and each entry stands in a row. An accepted product stores at each row the sum that the row's entries say.
-- Assumes nothing.
use mathlib.Core.Path.{◌≡◌, refl, sym, ap, ◌∙◌}
use mathlib.Core.Bool.{Bool, true, false, false≢true}
use mathlib.Core.List.{List, [], ◌∷◌, map}
use Prim.Native.Nat.{ℕ, zero, suc, ◌+◌, ◌-◌, ◌≤◌, ◌<◌}
use native.Mathlib.Omega.{arith}
use native.Mathlib.Decide.{dec_lt}
use borrow.Author.Tests.{le-ltb, lt-ltb}
use lib.Ieee.{Float, nan, binary64, add}
use lib.ListN.{get_or, length, replicate}
use Rattle.std.specs.Prelude.{Ok, Err}
use Rattle.refusal.specs.Cause.{Answer}
use Rattle.number.specs.Floats.{float0}
use Rattle.lent.specs.Tests.{first_to, and_then}
use Rattle.lent.proofs.Firsts.{NoneBefore, first_before}
use Rattle.lent.specs.Numbers.{not_finite}
use Rattle.matrix_row.specs.Rows.{row_at, part_of, row_of, RowEntry, beside, row_entries, row_sum}
use Rattle.csr.specs.Products.{stored_at, product, length_tests, table_tests, Multiplying, tested, finished, multiply}
use Rattle.matrix_row.specs.declared.rows.Row.{Row}
use Rattle.matrix_row.proofs.RowLaws.{row_is, part_length, part_at}
use Rattle.matrix_row.proofs.SumLaws.{beside_length, beside_at}
use Rattle.csr.proofs.OffsetLaws.{Rising, rising, offset_inside}
use Rattle.csr.proofs.CheckLaws.{accepts, lengths_then, Agree, lengths_agree, Sound, accepted_sound}
use Rattle.word.proofs.CountLaws.{items_at}

beside_columns : (cs : List ℕ) (vs : List Float) → length vs ≡ length cs → map (λ (e : RowEntry). e.column) (beside cs vs) ≡ cs
unfolding beside
beside_columns [] vs e = refl
beside_columns (c ∷ cs) [] e = absurd (omega arith)
beside_columns (c ∷ cs) (v ∷ vs) e = ap (λ (t : List ℕ). c ∷ t) (beside_columns cs vs (omega arith))

-- ---- rows
module _ (rows : ℕ) (offsets columns : List ℕ) (sized : length offsets ≡ rows + 1) (R : Rising rows (length columns) offsets) where
  abbrev offset : ℕ → ℕ
  offset k = get_or offsets k 0

  module _ (r : ℕ) (h : r < rows) where
    abbrev here : Row
    here = record { start = offset r; end = offset (r + 1) }

    abbrev wide : ℕ
    wide = offset (r + 1) - offset r

    ordered : offset r ≤ offset (r + 1)
    ordered = R.rises r h

    within : offset (r + 1) ≤ length columns
    within = offset_inside rows (length columns) offsets R (r + 1) (omega arith)

    pub row_stands : row_at offsets (length columns) r ≡ here
    row_stands = row_is offsets (length columns) r (omega arith) ordered within

    columns_are : row_of offsets columns r ≡ part_of here columns
    unfolding row_of
    columns_are = ap (λ (w : Row). part_of w columns) row_stands

    -- the row reader hands out exactly the row's columns
    pub row_length : length (row_of offsets columns r) ≡ wide
    row_length = ap length columns_are ∙ part_length here columns ordered within

    pub row_column : (k : ℕ) → k < wide → get_or (row_of offsets columns r) k 0 ≡ get_or columns (offset r + k) 0
    row_column k m = ap (λ (l : List ℕ). get_or l k 0) columns_are ∙ part_at here columns ordered within k 0 m

    module _ (values : List Float) (same : length values ≡ length columns) where
      values_long : length (part_of (row_at offsets (length columns) r) values) ≡ length (row_of offsets columns r)
      values_long =
          let w = within in
          ap (λ (w : Row). length (part_of w values)) row_stands ∙ part_length here values ordered (omega arith) ∙ sym row_length

      -- its entries
      pub entries_length : length (row_entries offsets columns values r) ≡ wide
      unfolding row_entries
      entries_length = beside_length (row_of offsets columns r) (part_of (row_at offsets (length columns) r) values) values_long ∙ row_length

      pub entry_is : (k : ℕ) (d : RowEntry) → k < wide → get_or (row_entries offsets columns values r) k d ≡ record { column = get_or columns (offset r + k) 0; value = get_or values (offset r + k) nan }
      unfolding row_entries
      entry_is k d m =
          let l = row_length in
          let w = within in
          beside_at (row_of offsets columns r) (part_of (row_at offsets (length columns) r) values) k d values_long (omega arith)
          ∙ rw (row_column k m, row_stands, part_at here values ordered (omega arith) k nan m)

      pub entries_columns : map (λ (e : RowEntry). e.column) (row_entries offsets columns values r) ≡ row_of offsets columns r
      unfolding row_entries
      entries_columns = beside_columns (row_of offsets columns r) (part_of (row_at offsets (length columns) r) values) values_long

  -- each entry stands in a row
  pub record InRow (e : ℕ) : Type 0 where
    pub row : ℕ
    pub place : ℕ
    pub is_row : row < rows
    pub in_row : place < offset (row + 1) - offset row
    pub stands : offset row + place ≡ e

  up_to : (r : ℕ) → r ≤ rows → (e : ℕ) → e < offset r → InRow e
  up_to zero h e m = absurd (omega (arith, R.first))
  up_to (suc r) h e m = go (dec_lt e (offset r)) (up_to r (omega arith) e)
    where
      go : Dec (e < offset r) → (e < offset r → InRow e) → InRow e
      go (yes d) f = f d
      go (no d) f =
          let s : r + 1 ≡ suc r = omega arith in
          let o = ap (λ (j : ℕ). offset j) s in
          record { row = r; place = e - offset r; is_row = omega arith; in_row = omega arith; stands = omega arith }

  pub in_some_row : (e : ℕ) → e < length columns → InRow e
  in_some_row e m = up_to rows (omega arith) e (omega (arith, R.last))

-- ---- an accepted product
module _ (rows : ℕ) (offsets columns : List ℕ) (values input : List Float) (overwrite : Bool) (output work : List Float) where
  abbrev whole : Multiplying
  whole = multiply rows offsets columns values input overwrite output work

  pub record Stored : Type 0 where
    pub agree : Agree rows offsets columns values input output work
    pub sound : Sound rows offsets columns values input overwrite output
    pub finite : NoneBefore (not_finite (product rows offsets columns values input overwrite output)) rows
    pub stored : whole.output ≡ product rows offsets columns values input overwrite output
    pub zeros : whole.work ≡ replicate (length work) float0

  abbrev products : List Float
  products = product rows offsets columns values input overwrite output

  abbrev after : Answer → Multiplying
  after a = tested rows offsets columns values input overwrite output work a (finished rows offsets columns values input overwrite output work)

  both_accepted : (a b : Answer) → and_then a b ≡ Ok tt → (a ≡ Ok tt) × (b ≡ Ok tt)
  both_accepted (Ok _) b e = (refl, e)
  both_accepted (Err r) b e = absurd (false≢true (ap accepts e))

  passed : (a : Answer) → (after a).answer ≡ Ok tt → (a ≡ Ok tt) × (first_to rows (not_finite products) < rows → ⊥)
  unfolding finished
  passed (Ok _) e = (refl, λ l. false≢true (ap accepts (rw (lt-ltb (first_to rows (not_finite products)) rows l) at e)))
  passed (Err r) e = absurd (false≢true (ap accepts e))

  pub accepted : whole.answer ≡ Ok tt → Stored
  unfolding multiply finished
  accepted e =
      let t = table_tests rows offsets columns values input overwrite output (Ok tt) in
      let p = passed (length_tests rows offsets columns values input output work t) e in
      let b = both_accepted (length_tests rows offsets columns values input output work (Ok tt)) t (sym (lengths_then rows offsets columns values input output work t) ∙ p.0) in
      let f : rows ≤ first_to rows (not_finite products) = no_less (first_to rows (not_finite products)) rows p.1 in
      record {
        agree = lengths_agree rows offsets columns values input output work b.0;
        sound = accepted_sound rows offsets columns values input overwrite output b.1;
        finite = λ k m. first_before rows (not_finite products) k (omega arith);
        stored = rw (p.0, le-ltb (first_to rows (not_finite products)) rows f);
        zeros = rw (p.0, le-ltb (first_to rows (not_finite products)) rows f);
      }
    where
      no_less : (a b : ℕ) → (a < b → ⊥) → b ≤ a
      no_less a b n = go (dec_lt a b)
        where
          go : Dec (a < b) → b ≤ a
          go (yes l) = absurd (n l)
          go (no l) = omega arith

  -- the offsets of an accepted product rise, and its lengths agree: the laws of rows hold
  pub accepted_rises : Stored → Rising rows (length columns) offsets
  accepted_rises s = rising rows (length columns) offsets s.sound.offsets_sound

  -- each row has the sum that its entries say, stored or added to what stood there
  module _ (s : Stored) (r : ℕ) (h : r < rows) where
    stored_at_lem : get_or whole.output r nan ≡ stored_at rows offsets columns values input overwrite output r
    unfolding product
    stored_at_lem = ap (λ (l : List Float). get_or l r nan) s.stored ∙ items_at (stored_at rows offsets columns values input overwrite output) rows r nan h

    pub overwritten : overwrite ≡ true → get_or whole.output r nan ≡ row_sum input (row_entries offsets columns values r)
    unfolding stored_at
    overwritten o = stored_at_lem ∙ rw o

    pub added_to : overwrite ≡ false → get_or whole.output r nan ≡ add binary64 (get_or output r nan) (row_sum input (row_entries offsets columns values r))
    unfolding stored_at
    added_to o = stored_at_lem ∙ rw o
