-- SPDX-FileCopyrightText: 2026 The PPVM Authors
-- SPDX-License-Identifier: Apache-2.0

-- The generator by rows, place by place: what the first places of the tables hold, that each stands for a term, and that a column is
-- above the one before it unless a row starts there. Assumes nothing.
use mathlib.Core.Path.{◌≡◌, sym, ap, ◌∙◌, subst}
use mathlib.Core.List.{List, [], ◌∷◌, map}
use Prim.Native.Nat.{ℕ, zero, suc, ◌+◌, ◌-◌, ◌≤◌, ◌<◌}
use native.Mathlib.Omega.{arith}
use lib.Ieee.{Float, nan}
use lib.ListN.{length, get_or, take, length-map, get_or-map}
use Rattle.word.specs.declared.word.Word.{Word}
use Rattle.order.specs.Between.{AllBelow}
use Rattle.order.proofs.Members.{all_at}
use Rattle.model.specs.Stored.{ModelTables}
use Rattle.model.specs.declared.stored.Model.{Model}
use Rattle.action.specs.Acts.{action_of}
use Rattle.std.specs.Prelude.{Ok}
use Rattle.columns.specs.Entries.{Entry}
use Rattle.columns.specs.Columns.{generator_of}
use Rattle.order.specs.Members.{Member}
use Rattle.columns.proofs.MemberLaws.{entered}
use Rattle.csr_build.specs.Rows.{row_of, rows_to, offsets_of, Ascending}
use Rattle.csr_build.proofs.RowLaws.{no_entry, rows_of, start_of, rows_at, rows_find, rows_all}
use Rattle.csr_build.proofs.SameLaws.{place_member, row_held}
use Rattle.csr_build.proofs.SortLaws.{offsets_many}
use Rattle.csr_build.proofs.AscendLaws.{row_ascends}
use Rattle.generator.specs.Generators.{CsrOut, by_rows}
use Rattle.generator_laws.proofs.TableLaws.{laid_many}
use Rattle.columns.specs.Between.{Entered}

-- ---- the entries of n rows one after another
abbrev pub entry_at : ℕ → List Entry → ℕ → Entry
entry_at n E i = get_or (rows_to n E) i no_entry

abbrev pub columns_by : ℕ → List Entry → List ℕ
columns_by n E = map (λ (e : Entry). e.column) (rows_to n E)

abbrev pub values_by : ℕ → List Entry → List Float
values_by n E = map (λ (e : Entry). e.value) (rows_to n E)

module _ (n : ℕ) (E : List Entry) (i : ℕ) where
  pub column_at : get_or (columns_by n E) i 0 ≡ (entry_at n E i).column
  column_at = get_or-map (λ (e : Entry). e.column) (rows_to n E) i no_entry

  pub value_at : get_or (values_by n E) i nan ≡ (entry_at n E i).value
  value_at = get_or-map (λ (e : Entry). e.value) (rows_to n E) i no_entry

-- ---- the first places of the tables
module _ (n : ℕ) (E : List Entry) (below : AllBelow n (rows_of E)) where
  pub columns_many : length (columns_by n E) ≡ length E
  columns_many = length-map (rows_to n E) (λ (e : Entry). e.column) ∙ rows_all n E below

  pub values_many : length (values_by n E) ≡ length E
  values_many = length-map (rows_to n E) (λ (e : Entry). e.value) ∙ rows_all n E below

  module _ (offsets columns : List ℕ) (values : List Float) where
    abbrev out : CsrOut
    out = by_rows n offsets columns values (Ok (length E)) E

    pub first_offsets : n < length offsets → take (n + 1) out.offsets ≡ offsets_of n E
    first_offsets h = let m = offsets_many n E in laid_many 0 (offsets_of n E) offsets (n + 1) (omega (arith, m)) (omega arith)

    pub first_columns : length E ≤ length columns → take (length E) out.columns ≡ columns_by n E
    first_columns h = laid_many 0 (columns_by n E) columns (length E) columns_many h

    pub first_values : length E ≤ length values → take (length E) out.values ≡ values_by n E
    first_values h = laid_many nan (values_by n E) values (length E) values_many h

-- ---- one place
ascending_next : (l : List ℕ) → Ascending l → (j : ℕ) → suc j < length l → get_or l j 0 < get_or l (suc j) 0
unfolding Ascending
ascending_next [] a j h = absurd (omega arith)
ascending_next (x ∷ l) a zero h = all_at (λ y. x < y) l 0 a.0 (omega arith)
ascending_next (x ∷ l) a (suc j) h = ascending_next l a.1 j (omega arith)

-- a row that starts at a place
pub record StartsAt (n : ℕ) (E : List Entry) (i : ℕ) : Type 0 where
  pub row : ℕ
  pub below : row < n
  pub is : start_of E row ≡ i

module _ (m : Model) (t : ModelTables) (bs : List Word) (n i : ℕ) (low : i < start_of (generator_of m t bs) n) where
  abbrev entries : List Entry
  entries = generator_of m t bs

  -- its entry stands for a term
  pub entry_entered : Entered (action_of m t) bs (entry_at n entries i).row (entry_at n entries i).column (entry_at n entries i).value
  entry_entered =
      let s = rows_find n entries i low in
      let e : entry_at n entries i ≡ get_or (row_of s.row entries) s.place no_entry = ap (entry_at n entries) s.is ∙ rows_at entries n s.row s.place s.below s.inside in
      let h = row_held s.row (get_or (row_of s.row entries) s.place no_entry) entries (place_member no_entry (row_of s.row entries) s.place s.inside) in
      entered m t bs _ _ _ (subst (λ (x : Entry). Member x entries) (sym e) h.0)

  -- its column is above the one before it, unless a row starts there
  pub column_rises : (StartsAt n entries i → ⊥) → (entry_at n entries (i - 1)).column < (entry_at n entries i).column
  column_rises no_start = let s = rows_find n entries i low in go s.row s.place s.below s.inside s.is
    where
      go : (r j : ℕ) → r < n → j < length (row_of r entries) → i ≡ start_of entries r + j → (entry_at n entries (i - 1)).column < (entry_at n entries i).column
      go r zero b h e = absurd (no_start (record { row = r; below = b; is = omega arith }))
      go r (suc j) b h e =
          let R : List ℕ = map (λ (x : Entry). x.column) (row_of r entries) in
          let k = length-map (row_of r entries) (λ (x : Entry). x.column) in
          let rise = ascending_next R (row_ascends m t bs r) j (omega (arith, k)) in
          let d : i - 1 ≡ start_of entries r + j = omega arith in
          let before : (entry_at n entries (i - 1)).column ≡ get_or R j 0 = ap (λ (x : ℕ). (entry_at n entries x).column) d ∙ ap (λ (x : Entry). x.column) (rows_at entries n r j b (omega arith)) ∙ sym (get_or-map (λ (x : Entry). x.column) (row_of r entries) j no_entry) in
          let here : (entry_at n entries i).column ≡ get_or R (suc j) 0 = ap (λ (x : ℕ). (entry_at n entries x).column) e ∙ ap (λ (x : Entry). x.column) (rows_at entries n r (suc j) b h) ∙ sym (get_or-map (λ (x : Entry). x.column) (row_of r entries) (suc j) no_entry) in
          omega (arith, rise, before, here)
