-- SPDX-FileCopyrightText: 2026 The PPVM Authors
-- SPDX-License-Identifier: Apache-2.0

-- The text that a call wrote is that of the generator's entries; so it determines every row, column and rounded value. And how long it
-- is at most. Assumes nothing.
use mathlib.Core.Path.{◌≡◌, refl, ap, ◌∙◌}
use mathlib.Core.Bool.{Bool, true, false, cond}
use mathlib.Core.List.{List, [], ◌∷◌, ◌++◌, map}
use Prim.Native.Nat.{ℕ, suc, ◌+◌, ◌-◌, ◌*◌, ◌^◌, ◌≤◌, ◌<◌}
use native.Mathlib.Omega.{arith}
use borrow.Author.Tests.{leb-false}
use lib.Dec.{eqb}
use lib.Ieee.{Float, nan, inf, fin}
use lib.IntN.{nat_abs}
use lib.ListN.{length, take, length-map}
use Rattle.std.specs.Prelude.{Ok, Err}
use Rattle.refusal.specs.Cause.{Answer}
use Rattle.refusal.proofs.Told.{refused_not}
use Rattle.word.specs.declared.word.Word.{Word}
use Rattle.order.specs.Between.{All, AllBelow}
use Rattle.order.proofs.Members.{all_append}
use Rattle.model.specs.Stored.{ModelTables}
use Rattle.model.specs.Terms.{Term}
use Rattle.model.specs.declared.stored.Model.{Model}
use Rattle.action.specs.Acts.{action_of, sum_places}
use Rattle.columns.specs.Entries.{Entry, entry}
use Rattle.columns.specs.Columns.{place_in, column_entries, columns_from, generator_of, generator_room}
use Rattle.columns.specs.Stages.{answered}
use Rattle.columns.proofs.GeneratorLaws.{rows_below}
use Rattle.generator.specs.Lent.{Work, basis_of, generator_tests, stage_places}
use Rattle.matrix_market.specs.Counts.{count_of, too_large}
use Rattle.matrix_market.specs.Text.{Line, text_of}
use Rattle.matrix_market.specs.Writes.{lines_of, Writing}
use Rattle.matrix_market.proofs.TextLaws.{text_written, AllShort, text_short}
use Rattle.generator_export.specs.Exports.{entry_line, entries_text, tested, text_over, export_generator}

-- ---- lines of entries
lines_are : (E : List Entry) → lines_of (map (λ (e : Entry). e.row) E) (map (λ (e : Entry). e.column) E) (map (λ (e : Entry). e.value) E) ≡ map entry_line E
unfolding lines_of
lines_are [] = refl
lines_are (e ∷ E) = ap (λ (ls : List Line). entry_line e ∷ ls) (lines_are E)

-- ---- what was written
module _ (text : List ℕ) (w : Work) (k : ℕ) where
  entries_written : (n : ℕ) (a : Answer) (E : List Entry) → (entries_text n text (answered a (length E)) E).answer ≡ Ok k
      → take k (entries_text n text (answered a (length E)) E).text ≡ text_of n (map entry_line E)
  entries_written n (Ok _) E e =
      text_written n (map (λ (e : Entry). e.row) E) (map (λ (e : Entry). e.column) E) (map (λ (e : Entry). e.value) E) text k e
      ∙ ap (text_of n) (lines_are E)
  entries_written n (Err q) E e = absurd (refused_not q k e)

  tested_text : (a : Answer) (o : Writing) (bytes : List ℕ) → (tested text w a o).out.answer ≡ Ok k → (o.answer ≡ Ok k → take k o.text ≡ bytes) → take k (tested text w a o).out.text ≡ bytes
  tested_text (Ok _) o bytes e h = h e
  tested_text (Err q) o bytes e h = absurd (refused_not q k e)

  pub exported_text : (m : Model) (t : ModelTables) (lanes : List ℕ) (len : ℕ) → (export_generator text w m t lanes len).out.answer ≡ Ok k
      → take k (export_generator text w m t lanes len).out.text ≡ text_of len (map entry_line (generator_of m t (basis_of lanes len)))
  unfolding export_generator text_over
  exported_text m t lanes len e =
      let bs : List Word = basis_of lanes len in
      tested_text (generator_tests m t lanes len w) (text_over text w len m t bs) _ e
      (entries_written len (generator_room m t bs (sum_places w.work_words w.work_sums) (stage_places w)) (generator_of m t bs))

-- ---- how long it is
-- columns are positions too
column_one : (bs : List Word) (c : ℕ) (L : List Term) (n : ℕ) → c < n → AllBelow n (map (λ (e : Entry). e.column) (column_entries bs c L))
unfolding column_entries All
column_one bs c [] n h = tt
column_one bs c (t ∷ ts) n h = go (eqb (place_in bs t.word) 0) (column_one bs c ts n h)
  where
    go : (b : Bool) → AllBelow n (map (λ (e : Entry). e.column) (column_entries bs c ts))
        → AllBelow n (map (λ (e : Entry). e.column) (cond b (column_entries bs c ts) (entry (place_in bs t.word - 1) c t.num.re ∷ column_entries bs c ts)))
    go true i = i
    go false i = (h, i)

abbrev columns_of : List Entry → List ℕ
columns_of E = map (λ (e : Entry). e.column) E

map_append : (E F : List Entry) → columns_of (E ++ F) ≡ columns_of E ++ columns_of F
map_append [] F = refl
map_append (e ∷ E) F = ap (λ (l : List ℕ). e.column ∷ l) (map_append E F)

columns_below : (act : Word → List Term) (bs : List Word) (c : ℕ) (ps : List Word) (n : ℕ) → c + length ps ≤ n → AllBelow n (columns_of (columns_from act bs c ps))
unfolding columns_from All
columns_below act bs c [] n h = tt
columns_below act bs c (p ∷ ps) n h =
    rw (map_append (column_entries bs c (act p)) (columns_from act bs (suc c) ps))
    (all_append (λ x. x < n) (columns_of (column_entries bs c (act p))) (columns_of (columns_from act bs (suc c) ps)) (column_one bs c (act p) n (omega arith)) (columns_below act bs (suc c) ps n (omega arith)))

-- a count that is not too large
count_small : (v : Float) → too_large v ≡ false → nat_abs (count_of v) < 2 ^ 62
unfolding too_large
count_small nan h = absurd (let z : ◌≡◌ {A = ℕ} 0 1 = ap (λ (b : Bool). cond b 0 1) h in omega arith)
count_small (inf s) h = absurd (let z : ◌≡◌ {A = ℕ} 0 1 = ap (λ (b : Bool). cond b 0 1) h in omega arith)
count_small (fin s m e) h = leb-false (2 ^ 62) (nat_abs (count_of (fin s m e))) h

-- none of the values is too large
abbrev pub AllWritten : List Entry → Type 0
AllWritten [] = Unit {0}
AllWritten (e ∷ E) = (too_large e.value ≡ false) × AllWritten E

lines_short : (E : List Entry) (n r : ℕ) → n ≤ 65536 → r ≤ 65536 → AllBelow r (map (λ (e : Entry). e.row) E) → AllBelow n (columns_of E) → AllWritten E → AllShort (map entry_line E)
unfolding All
lines_short [] n r h g a b c = tt
lines_short (e ∷ E) n r h g a b c =
    let x = a.0 in
    let y = b.0 in
    ((omega (arith, x), omega (arith, y), count_small e.value c.0), lines_short E n r h g a.1 b.1 c.1)

pub generator_short : (m : Model) (t : ModelTables) (bs : List Word) (n : ℕ) → n ≤ 65536 → length bs ≤ n → length (generator_of m t bs) ≤ 4294967296 → AllWritten (generator_of m t bs)
    → length (text_of n (map entry_line (generator_of m t bs))) ≤ 72 + 33 * length (generator_of m t bs)
unfolding generator_of
generator_short m t bs n h l k s =
    let E : List Entry = generator_of m t bs in
    let e : length (map entry_line E) ≡ length E = length-map E entry_line in
    let a = lines_short E n (length bs) h (omega arith) (rows_below m t bs) (columns_below (action_of m t) bs 0 bs n (omega arith)) s in
    let r = text_short n (map entry_line E) h (omega (arith, e)) a in
    omega (arith, r, e)
