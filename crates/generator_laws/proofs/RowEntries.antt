-- SPDX-FileCopyrightText: 2026 The PPVM Authors
-- SPDX-License-Identifier: Apache-2.0

-- Tables by rows hold exactly the entries, each between the offsets of its row; the columns there are the row's, in their order.
-- Assumes nothing.
use mathlib.Core.Path.{◌≡◌, refl, sym, ap, ◌∙◌}
use mathlib.Core.List.{List, map}
use Prim.Native.Nat.{ℕ, suc, ◌+◌, ◌-◌, ◌≤◌, ◌<◌}
use native.Mathlib.Omega.{arith}
use lib.Ieee.{Float}
use lib.ListN.{length, get_or, take, drop, set, length-set, length-map, get_or-map, length-drop}
use lib.Seq.{ext_get_or, get_or-take, get_or-drop, length-take-le}
use Rattle.order.specs.Between.{AllBelow}
use Rattle.lent.specs.Laid.{laid}
use Rattle.lent.proofs.LaidLaws.{laid_length, set_here}
use Rattle.columns.specs.Entries.{Entry, entry}
use Rattle.order.specs.Members.{Member}
use Rattle.std.specs.Prelude.{Ok}
use Rattle.csr_build.specs.Rows.{row_of, rows_to, offsets_of}
use Rattle.csr_build.proofs.RowLaws.{no_entry, rows_of, start_of, start_next, start_rises, rows_at, rows_all}
use Rattle.csr_build.proofs.SameLaws.{member_place, place_member, row_holds, row_held}
use Rattle.csr_build.proofs.SortLaws.{offsets_many, offsets_at}
use Rattle.generator.specs.Generators.{CsrOut, by_rows}
use Rattle.generator_laws.specs.Matrices.{InRow}

same_entry : (x : Entry) {r c : ℕ} {v : Float} → x.row ≡ r → x.column ≡ c → x.value ≡ v → entry r c v ≡ x
same_entry x a b d = rw (← a, ← b, ← d)

module _ (n k : ℕ) (E : List Entry) (below : AllBelow n (rows_of E)) (offsets columns : List ℕ) (values : List Float) (ho : n < length offsets) (hc : length E ≤ length columns) (hv : length E ≤ length values) where
  abbrev out : CsrOut
  out = by_rows n offsets columns values (Ok k) E

  pub offset_is : (r : ℕ) → r ≤ n → get_or out.offsets r 0 ≡ start_of E r
  offset_is r h =
      let m = offsets_many n E in
      set_here 0 0 (offsets_of n E) offsets (omega (arith, m)) r r (omega arith) (omega (arith, m)) ∙ offsets_at n E r h

  all : start_of E n ≡ length E
  all = rows_all n E below

  -- what stands at a place of a table
  laid_at : {A : Type 0} (f : Entry → A) (l : List A) → length E ≤ length l → (i : ℕ) → i < length E → get_or (laid set 0 (map f (rows_to n E)) l) i (f no_entry) ≡ f (get_or (rows_to n E) i no_entry)
  laid_at f l h i q =
      let m = length-map (rows_to n E) f in
      set_here (f no_entry) 0 (map f (rows_to n E)) l (omega (arith, m, all)) i i (omega arith) (omega (arith, m, all)) ∙ get_or-map f (rows_to n E) i no_entry

  module _ (r : ℕ) (low : r < n) where
    ends : start_of E (suc r) ≤ length E
    ends = let m = start_rises E (suc r) n low in omega (arith, m, all)

    -- an entry of the row stands there
    pub in_row : (c : ℕ) (v : Float) → Member (entry r c v) E → InRow out r c v
    in_row c v h =
        let p = member_place no_entry (entry r c v) (row_of r E) (row_holds r (entry r c v) E h refl) in
        let s = start_next E r in
        let i : ℕ = start_of E r + p.at in
        let e : get_or (rows_to n E) i no_entry ≡ entry r c v = rows_at E n r p.at low p.low ∙ p.is in
        let a = offset_is r (omega arith) in
        let b = offset_is (suc r) (omega arith) in
        let q : i < length E = omega (arith, s, p.low, ends) in
        record {
          at = i;
          from = omega (arith, a);
          to = omega (arith, b, s, p.low);
          column = laid_at (λ (x : Entry). x.column) columns hc i q ∙ ap (λ (x : Entry). x.column) e;
          value = laid_at (λ (x : Entry). x.value) values hv i q ∙ ap (λ (x : Entry). x.value) e;
        }

    -- what stands there is an entry of the row
    pub from_row : (c : ℕ) (v : Float) → InRow out r c v → Member (entry r c v) E
    from_row c v i =
        let s = start_next E r in
        let a = offset_is r (omega arith) in
        let b = offset_is (suc r) (omega arith) in
        let j : ℕ = i.at - start_of E r in
        let l : j < length (row_of r E) = omega (arith, s, a, b, i.from, i.to) in
        let z : i.at ≡ start_of E r + j = omega (arith, a, i.from) in
        let q : i.at < length E = omega (arith, b, i.to, ends) in
        let e : get_or (rows_to n E) i.at no_entry ≡ get_or (row_of r E) j no_entry = ap (λ (x : ℕ). get_or (rows_to n E) x no_entry) z ∙ rows_at E n r j low l in
        let x : Entry = get_or (row_of r E) j no_entry in
        let h = row_held r x E (place_member no_entry (row_of r E) j l) in
        let c' : x.column ≡ c = ap (λ (y : Entry). y.column) (sym e) ∙ sym (laid_at (λ (y : Entry). y.column) columns hc i.at q) ∙ i.column in
        let v' : x.value ≡ v = ap (λ (y : Entry). y.value) (sym e) ∙ sym (laid_at (λ (y : Entry). y.value) values hv i.at q) ∙ i.value in
        let w : entry r c v ≡ x = same_entry x h.1 c' v' in
        rw w h.0

    -- the columns between its offsets
    pub row_columns : take (get_or out.offsets (suc r) 0 - get_or out.offsets r 0) (drop (get_or out.offsets r 0) out.columns) ≡ map (λ (e : Entry). e.column) (row_of r E)
    row_columns =
        rw (offset_is r (omega arith), offset_is (suc r) (omega arith))
        (ext_get_or 0 (take width (drop (start_of E r) out.columns)) (map (λ (e : Entry). e.column) (row_of r E)) (long ∙ sym (length-map (row_of r E) (λ (e : Entry). e.column))) (λ i l. at i (omega (arith, long, l))))
      where
        width : ℕ
        width = start_of E (suc r) - start_of E r

        size : width ≡ length (row_of r E)
        size = let s = start_next E r in omega (arith, s)

        long : length (take width (drop (start_of E r) out.columns)) ≡ length (row_of r E)
        long =
            let d = length-drop (start_of E r) out.columns in
            let m = laid_length set length-set 0 (map (λ (e : Entry). e.column) (rows_to n E)) columns in
            let s = start_next E r in
            length-take-le width (drop (start_of E r) out.columns) (omega (arith, d, m, s, ends, hc)) ∙ size

        at : (i : ℕ) → i < length (row_of r E) → get_or (take width (drop (start_of E r) out.columns)) i 0 ≡ get_or (map (λ (e : Entry). e.column) (row_of r E)) i 0
        at i l =
            let s = start_next E r in
            get_or-take width (drop (start_of E r) out.columns) i 0 (omega (arith, size, l))
            ∙ get_or-drop (start_of E r) out.columns i 0
            ∙ laid_at (λ (x : Entry). x.column) columns hc (start_of E r + i) (omega (arith, s, ends, l))
            ∙ ap (λ (x : Entry). x.column) (rows_at E n r i low l)
            ∙ sym (get_or-map (λ (x : Entry). x.column) (row_of r E) i no_entry)
