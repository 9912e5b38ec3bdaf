-- SPDX-FileCopyrightText: 2026 The PPVM Authors
-- SPDX-License-Identifier: Apache-2.0

-- The generator by rows as a lent matrix: its offsets rise from 0 to the count of entries, its columns are positions that ascend in each
-- row, and its values are finite; so it passes the tests of a product with finite numbers. Assumes nothing.
use mathlib.Core.Path.{◌≡◌, refl, sym, ap, ◌∙◌}
use mathlib.Core.Bool.{Bool, true, false, not, ◌&&◌, and-false, false≢true}
use mathlib.Core.List.{List}
use Prim.Native.Nat.{ℕ, ◌+◌, ◌-◌, ◌<◌}
use native.Mathlib.Omega.{arith}
use borrow.Author.Tests.{eq-eqb, lt-leb}
use denote.Floats.{is_true}
use lib.Dec.{T, eqb, leb}
use lib.Ieee.{Float, nan}
use lib.ListN.{length, get_or}
use Rattle.std.specs.Prelude.{Ok}
use Rattle.word.specs.Word.{identity}
use Rattle.word.specs.declared.word.Word.{Word}
use Rattle.number.specs.Floats.{is_finite}
use Rattle.order.specs.Between.{AllBelow}
use Rattle.model.specs.Terms.{Term}
use Rattle.word.proofs.CountLaws.{any_one}
use Rattle.model.specs.Stored.{ModelTables}
use Rattle.model.specs.Tested.{test_model}
use Rattle.lent.proofs.Firsts.{NoneBefore}
use Rattle.lent.specs.Numbers.{not_finite}
use Rattle.model.specs.declared.stored.Model.{Model}
use Rattle.lent.proofs.Lists.{every_at}
use Rattle.action.specs.Acts.{action_of}
use Rattle.action_laws.proofs.ReachedListed.{listed_finite}
use Rattle.columns.specs.Entries.{Entry}
use Rattle.columns.specs.Columns.{generator_of}
use Rattle.columns.proofs.GeneratorLaws.{rows_below}
use Rattle.csr_build.specs.Rows.{rows_to, offsets_of}
use Rattle.csr_build.proofs.RowLaws.{rows_of, start_of, start_rises, rows_all}
use Rattle.csr_build.proofs.SameLaws.{member_place}
use Rattle.csr_build.proofs.SortLaws.{offsets_many, offsets_at}
use Rattle.generator_laws.proofs.RowPlaces.{entry_at, columns_by, values_by, column_at, value_at, columns_many, values_many, StartsAt, entry_entered, column_rises}
use Rattle.csr.specs.Lent.{row_starts, bad_column}
use Rattle.csr.proofs.OffsetLaws.{Rising, none_bad}
use Rattle.csr.proofs.CheckLaws.{Sound}

-- ---- the generator over n words by rows
module _ (m : Model) (t : ModelTables) (bs : List Word) (n : ℕ) (all : length bs ≡ n) where
  abbrev entries : List Entry
  entries = generator_of m t bs

  pub below : AllBelow n (rows_of entries)
  below = rw (← all) (rows_below m t bs)

  ended : start_of entries n ≡ length entries
  ended = rows_all n entries below

  abbrev offsets : List ℕ
  offsets = offsets_of n entries

  abbrev columns : List ℕ
  columns = columns_by n entries

  abbrev values : List Float
  values = values_by n entries

  pub sized : length columns ≡ length entries
  sized = columns_many n entries below

  offsets_rise : Rising n (length columns) offsets
  unfolding rows_to
  offsets_rise = record {
    first = offsets_at n entries 0 (omega arith);
    rises = λ k h.
        let here = offsets_at n entries k (omega arith) in
        let next = offsets_at n entries (k + 1) (omega arith) in
        let up = start_rises entries k (k + 1) (omega arith) in
        omega (arith, here, next, up);
    last = offsets_at n entries n (omega arith) ∙ ended ∙ sym sized;
  }

  starts : (k : ℕ) → StartsAt n entries k → row_starts offsets k ≡ true
  unfolding row_starts
  starts k s =
      let z = offsets_many n entries in
      let l = s.below in
      any_one (length offsets) (λ r. eqb (get_or offsets r 0) k) s.row (omega (arith, z, l)) (eq-eqb (get_or offsets s.row 0) k (offsets_at n entries s.row (omega (arith, l)) ∙ s.is))

  columns_sound : NoneBefore (bad_column n offsets columns) (length columns)
  unfolding bad_column
  columns_sound k h =
      let low : k < start_of entries n = omega (arith, ended, sized) in
      let here = column_at n entries k in
      let e = (entry_entered m t bs n k low).low in
      rw (lt-leb n (get_or columns k 0) (omega (arith, here, e, all))) (go (row_starts offsets k) refl low)
    where
      go : (b : Bool) → row_starts offsets k ≡ b → k < start_of entries n → (leb (get_or columns k 0) (get_or columns (k - 1) 0) && not b) ≡ false
      go true e low = and-false (leb (get_or columns k 0) (get_or columns (k - 1) 0))
      go false e low =
          let here = column_at n entries k in
          let before = column_at n entries (k - 1) in
          let up = column_rises m t bs n k low (λ s. false≢true (sym e ∙ starts k s)) in
          rw (lt-leb (get_or columns k 0) (get_or columns (k - 1) 0) (omega (arith, here, before, up)))

  values_finite : test_model m t ≡ Ok tt → (k : ℕ) → k < length values → is_finite (get_or values k nan) ≡ true
  values_finite passes k h =
      let z = values_many n entries below in
      let e = entry_entered m t bs n k (omega (arith, ended, z)) in
      let A : List Term = action_of m t (get_or bs (entry_at n entries k).column identity) in
      let p = member_place e.term e.term A e.reached in
      let f = every_at (λ (c : Term). T (is_finite c.num.re) × T (is_finite c.num.im)) A p.at e.term (listed_finite m t passes (get_or bs (entry_at n entries k).column identity)) p.low in
      ap is_finite (value_at n entries k ∙ e.value ∙ ap (λ (c : Term). c.num.re) (sym p.is)) ∙ is_true _ f.0

  pub generator_sound : test_model m t ≡ Ok tt → (input : List Float) (overwrite : Bool) (output : List Float) → NoneBefore (not_finite input) n → (overwrite ≡ false → NoneBefore (not_finite output) n)
      → Sound n offsets columns values input overwrite output
  unfolding not_finite
  generator_sound passes input overwrite output in-finite out-finite = record {
    offsets_sound = none_bad n (length columns) offsets offsets_rise;
    columns_sound = columns_sound;
    values_sound = λ k h. ap not (values_finite passes k h);
    input_sound = in-finite;
    output_sound = out-finite;
  }
