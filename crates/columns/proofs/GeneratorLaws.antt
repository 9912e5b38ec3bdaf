-- SPDX-FileCopyrightText: 2026 The PPVM Authors
-- SPDX-License-Identifier: Apache-2.0

-- The entries of a generator: their rows and columns are positions of the basis, and where no column was refused they fit.
-- Assumes nothing.
use mathlib.Core.Path.{◌≡◌, refl, ap}
use mathlib.Core.Bool.{Bool, true, false, cond}
use mathlib.Core.List.{List, [], ◌∷◌, ◌++◌, map}
use Prim.Native.Nat.{ℕ, suc, ◌+◌, ◌-◌, ◌≤◌, ◌<◌}
use native.Mathlib.Omega.{arith}
use borrow.Author.Tests.{ltb-false, eqb-false}
use lib.Dec.{eqb, ltb}
use lib.ListN.{length, length-append}
use Rattle.refusal.specs.declared.Refusal.TheVariants.{TableFull}
use Rattle.std.specs.Prelude.{Ok}
use Rattle.word.specs.declared.word.Word.{Word}
use Rattle.order.specs.Between.{All, AllBelow}
use Rattle.order.proofs.Members.{all_append}
use Rattle.model.specs.Stored.{ModelTables}
use Rattle.model.specs.Terms.{Term}
use Rattle.model.specs.declared.stored.Model.{Model}
use Rattle.lent.proofs.Passed.{passed}
use Rattle.action.specs.Acts.{action_of}
use Rattle.action.specs.Counts.{touched_by}
use Rattle.columns.specs.Entries.{Entry, entry}
use Rattle.columns.specs.Columns.{place_in, column_entries, columns_from, generator_of, column_tests, generator_room}
use Rattle.columns.proofs.TermLaws.{place_low}

abbrev rows_of : List Entry → List ℕ
rows_of E = map (λ (e : Entry). e.row) E

-- ---- rows are positions
column_below : (bs : List Word) (c : ℕ) (L : List Term) → AllBelow (length bs) (rows_of (column_entries bs c L))
unfolding column_entries All
column_below bs c [] = tt
column_below bs c (t ∷ ts) = go (eqb (place_in bs t.word) 0) refl (column_below bs c ts)
  where
    go : (b : Bool) → eqb (place_in bs t.word) 0 ≡ b → AllBelow (length bs) (rows_of (column_entries bs c ts))
        → AllBelow (length bs) (rows_of (cond b (column_entries bs c ts) (entry (place_in bs t.word - 1) c t.num.re ∷ column_entries bs c ts)))
    go true e h = h
    go false e h =
        let l = place_low bs t.word refl in
        let z = eqb-false (place_in bs t.word) 0 e in
        (omega (arith, l, z), h)

map_append : (E F : List Entry) → rows_of (E ++ F) ≡ rows_of E ++ rows_of F
map_append [] F = refl
map_append (e ∷ E) F = ap (λ (l : List ℕ). e.row ∷ l) (map_append E F)

columns_below : (act : Word → List Term) (bs : List Word) (c : ℕ) (ps : List Word) → AllBelow (length bs) (rows_of (columns_from act bs c ps))
unfolding columns_from All
columns_below act bs c [] = tt
columns_below act bs c (p ∷ ps) =
    rw (map_append (column_entries bs c (act p)) (columns_from act bs (suc c) ps))
    (all_append (λ x. x < length bs) (rows_of (column_entries bs c (act p))) (rows_of (columns_from act bs (suc c) ps)) (column_below bs c (act p)) (columns_below act bs (suc c) ps))

pub rows_below : (m : Model) (t : ModelTables) (bs : List Word) → AllBelow (length bs) (rows_of (generator_of m t bs))
unfolding generator_of
rows_below m t bs = columns_below (action_of m t) bs 0 bs

-- ---- what no column refused fits
module _ (touch : Word → ℕ) (act : Word → List Term) (bs : List Word) (sumRoom entryRoom : ℕ) where
  columns_fit : (c before : ℕ) (ps : List Word) → before ≤ entryRoom → column_tests touch act bs sumRoom entryRoom c before ps ≡ Ok tt → before + length (columns_from act bs c ps) ≤ entryRoom
  unfolding column_tests columns_from
  columns_fit c before [] h e = omega arith
  columns_fit c before (p ∷ ps) h e =
      let n : ℕ = length (column_entries bs c (act p)) in
      let e0 = passed (ltb sumRoom (touch p)) (TableFull 1 sumRoom) _ e in
      let e1 = passed (ltb entryRoom (before + n)) (TableFull 3 entryRoom) _ e0.1 in
      let i = columns_fit (suc c) (before + n) ps (ltb-false entryRoom (before + n) e1.0) e1.1 in
      let l = length-append (column_entries bs c (act p)) (columns_from act bs (suc c) ps) in
      omega (arith, i, l)

pub generator_fits : (m : Model) (t : ModelTables) (bs : List Word) (sumRoom entryRoom : ℕ) → generator_room m t bs sumRoom entryRoom ≡ Ok tt → length (generator_of m t bs) ≤ entryRoom
unfolding generator_room generator_of
generator_fits m t bs sumRoom entryRoom e = let h = columns_fit (touched_by m t) (action_of m t) bs sumRoom entryRoom 0 0 bs (omega arith) e in omega (arith, h)
