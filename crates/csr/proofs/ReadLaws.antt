-- SPDX-FileCopyrightText: 2026 The PPVM Authors
-- SPDX-License-Identifier: Apache-2.0

-- Reading a row of a lent matrix, answer by answer: the first refusal, or where the row stands. Assumes nothing.
use mathlib.Core.Path.{◌≡◌, refl, sym, ap, ◌∙◌}
use mathlib.Core.Bool.{Bool, cond, false≢true}
use mathlib.Core.List.{List}
use Prim.Native.Nat.{ℕ, ◌+◌, ◌≤◌, ◌<◌}
use native.Mathlib.Omega.{arith}
use native.Mathlib.Decide.{dec_lt}
use borrow.Author.Tests.{lt-ltb, le-ltb}
use lib.Dec.{ltb}
use lib.ListN.{get_or, length}
use Rattle.refusal.specs.declared.Refusal.{Refusal}
use Rattle.refusal.specs.declared.Refusal.TheVariants.{NumberOutOfRange}
use Rattle.std.specs.Prelude.{Ok, Err}
use Rattle.refusal.specs.Cause.{Answer}
use Rattle.lent.specs.Tests.{and_then}
use Rattle.lent.proofs.Passed.{both}
use Rattle.csr.specs.Lent.{bad_offset, rows_tests, places_tests}
use Rattle.csr.specs.Rows.{row_tests, read_as, read_row}
use Rattle.matrix_row.specs.Rows.{row_at, row_of}
use Rattle.matrix_row.specs.declared.rows.Row.{Row}
use Rattle.csr.proofs.OffsetLaws.{Rising, rising, offset_inside}
use Rattle.csr.proofs.CheckLaws.{accepts, refused_then, passed_then, rows_then, rows_agree, places_then, entries_sound}
use Rattle.csr.proofs.CsrLaws.{row_stands, row_length}

module _ (rows : ℕ) (offsets columns : List ℕ) (row : ℕ) where
  abbrev all : Answer
  all = row_tests rows offsets columns row

  abbrev lengths : Answer
  lengths = rows_tests rows offsets (Ok tt)

  abbrev places : Answer
  places = places_tests rows offsets columns (Ok tt)

  abbrev last : Answer
  last = cond (ltb row rows) (Ok tt) (Err (NumberOutOfRange row))

  all_is : all ≡ and_then lengths (and_then places last)
  all_is = rows_then rows offsets (places_tests rows offsets columns last) ∙ ap (and_then lengths) (places_then rows offsets columns last)

  pub lengths_refused : (r : Refusal) → lengths ≡ Err r → Err r ≡ all
  lengths_refused r e = sym e ∙ refused_then lengths (and_then places last) r e ∙ sym all_is

  module _ (h : lengths ≡ Ok tt) where
    from_places : and_then places last ≡ all
    from_places = passed_then lengths (and_then places last) h ∙ sym all_is

    pub places_refused : (r : Refusal) → places ≡ Err r → Err r ≡ all
    places_refused r e = sym e ∙ refused_then places last r e ∙ from_places

    module _ (h' : places ≡ Ok tt) where
      from_last : last ≡ all
      from_last = passed_then places last h' ∙ from_places

      pub row_beyond : rows ≤ row → Err (NumberOutOfRange row) ≡ all
      row_beyond l = sym (ap (λ (b : Bool). cond b (Ok tt) (Err (NumberOutOfRange row))) (le-ltb row rows l)) ∙ from_last

      pub all_accepted : row < rows → (Ok tt) ≡ all
      all_accepted l = sym (ap (λ (b : Bool). cond b (Ok tt) (Err (NumberOutOfRange row))) (lt-ltb row rows l)) ∙ from_last

  -- ---- what is known where all are passed
  pub record Stands : Type 0 where
    pub agree : length offsets ≡ rows + 1
    pub rises : Rising rows (length columns) offsets
    pub is_row : row < rows

  row_is_there : last ≡ Ok tt → row < rows
  row_is_there e = go (dec_lt row rows)
    where
      go : Dec (row < rows) → row < rows
      go (yes l) = l
      go (no l) = absurd (false≢true (ap accepts (sym (ap (λ (b : Bool). cond b (Ok tt) (Err (NumberOutOfRange row))) (le-ltb row rows (omega arith))) ∙ e)))

  pub stands : all ≡ Ok tt → Stands
  stands e =
      let p = both lengths (and_then places last) (sym all_is ∙ e) in
      let q = both places last p.1 in
      record {
        agree = rows_agree rows offsets p.0;
        rises = rising rows (length columns) offsets (entries_sound (rows + 1) (bad_offset rows (length columns) offsets) _ q.0).0;
        is_row = row_is_there q.1;
      }

  module _ (s : Stands) where
    -- what the reader hands out ends inside the columns
    pub ends_inside : (handed : List ℕ) → handed ≡ row_of offsets columns row → get_or offsets row 0 + length handed ≤ length columns
    ends_inside handed e =
        let l = ap length e ∙ row_length rows offsets columns s.agree s.rises row s.is_row in
        let r = s.rises.rises row s.is_row in
        let m = s.is_row in
        let i = offset_inside rows (length columns) offsets s.rises (row + 1) (omega arith) in
        omega (arith, l, r, i)

    pub read_at : all ≡ Ok tt → (handed : List ℕ) → handed ≡ row_of offsets columns row → Ok (record { start = get_or offsets row 0; end = get_or offsets row 0 + length handed }) ≡ read_row rows offsets columns row
    unfolding read_row
    read_at e handed f =
        let l = ap length f ∙ row_length rows offsets columns s.agree s.rises row s.is_row in
        let r = s.rises.rises row s.is_row in
        let z : get_or offsets row 0 + length handed ≡ get_or offsets (row + 1) 0 = omega (arith, l, r) in
        rw (e, row_stands rows offsets columns s.agree s.rises row s.is_row, z)

  -- what is handed out is a row of a sound matrix, from its own offset to before the next
  pub handed_out : (r : Row) → read_row rows offsets columns row ≡ Ok r → Stands × (r ≡ record { start = get_or offsets row 0; end = get_or offsets (row + 1) 0 })
  unfolding read_row
  handed_out r e = go all refl e
    where
      go : (a : Answer) → all ≡ a → read_as a (row_at offsets (length columns) row) ≡ Ok r → Stands × (r ≡ record { start = get_or offsets row 0; end = get_or offsets (row + 1) 0 })
      go (Ok _) f g =
          let s = stands f in
          (s, cc (row_stands rows offsets columns s.agree s.rises row s.is_row))
      go (Err x) f g = let z : ◌≡◌ {A = ℕ} 0 1 = cc in absurd (omega arith)

  pub read_refused : (r : Refusal) → all ≡ Err r → Err r ≡ read_row rows offsets columns row
  unfolding read_row
  read_refused r e = rw e
