-- SPDX-FileCopyrightText: 2026 The PPVM Authors
-- SPDX-License-Identifier: Apache-2.0

-- Accepted calls of the generator and of the matrix by rows, each with tables of its own: both hold exactly the generator's
-- entries, which words have an entry in their row, and a row's columns ascend. Assumes nothing.
use mathlib.Core.Path.{◌≡◌, sym, subst}
use mathlib.Core.Bool.{true}
use mathlib.Core.List.{List, map}
use Prim.Native.Nat.{ℕ, suc, ◌-◌, ◌<◌}
use native.Mathlib.Omega.{arith}
use lib.Ieee.{Float}
use lib.ListN.{length, get_or, take, drop}
use Rattle.word.specs.declared.word.Word.{Word}
use Rattle.order.specs.Between.{AllBelow}
use Rattle.order.specs.Places.{is_among}
use Rattle.std.specs.Prelude.{Ok}
use Rattle.model.specs.Stored.{ModelTables}
use Rattle.model.specs.Tested.{test_model}
use Rattle.model.specs.declared.stored.Model.{Model}
use Rattle.action.specs.Acts.{action_of}
use Rattle.columns.specs.Entries.{Entry, entry}
use Rattle.columns.specs.Columns.{generator_of}
use Rattle.order.specs.Members.{Member}
use Rattle.columns.proofs.GeneratorLaws.{rows_below}
use Rattle.csr_build.specs.Rows.{row_of, Ascending}
use Rattle.csr_build.proofs.RowLaws.{rows_of}
use Rattle.csr_build.proofs.AscendLaws.{row_ascends}
use Rattle.generator.specs.Lent.{Work, basis_of}
use Rattle.generator.specs.Generators.{Out, generate, CsrOut, build_csr}
use Rattle.generator_laws.specs.Matrices.{Lists, InRow, HasRow, Reached}
use Rattle.generator_laws.proofs.Accepted.{Listing, generator_accepted, RowListing, csr_accepted}
use Rattle.generator_laws.proofs.RowEntries.{in_row, from_row, row_columns}
use Rattle.generator_laws.proofs.Growth.{Exact, row_reached, reached_row}

listing_exact : (m : Model) (t : ModelTables) (bs : List Word) (out : Out) (n : ℕ) → Listing m t bs out n → Exact m t bs (Lists out)
unfolding Lists
listing_exact m t bs out n l = record {
  differ = l.words_differ;
  hold = λ r c v h k. subst (Member (entry r c v)) (sym l.entries_are) k;
  held = λ r c v h k. subst (Member (entry r c v)) l.entries_are k;
}

module _ (m : Model) (t : ModelTables) (bs : List Word) (len : ℕ) (out : CsrOut) (n : ℕ) (l : RowListing m t bs len out n) where
  below : AllBelow len (rows_of (generator_of m t bs))
  below = rw (← l.rows_all) (rows_below m t bs)

  rows_exact : Exact m t bs (InRow out)
  rows_exact =
      let G : List Entry = generator_of m t bs in
      record {
        differ = l.words_differ;
        hold = λ r c v h k. rw l.is (in_row len (length G) G below l.offsets₀ l.columns₀ l.values₀ l.offsets_long l.columns_long l.values_long r (omega (arith, h, l.rows_all)) c v k);
        held = λ r c v h k. from_row len (length G) G below l.offsets₀ l.columns₀ l.values₀ l.offsets_long l.columns_long l.values_long r (omega (arith, h, l.rows_all)) c v (subst (λ (o : CsrOut). InRow o r c v) l.is k);
      }

  rows_part : (r : ℕ) → r < len → take (get_or out.offsets (suc r) 0 - get_or out.offsets r 0) (drop (get_or out.offsets r 0) out.columns) ≡ map (λ (e : Entry). e.column) (row_of r (generator_of m t bs))
  rows_part r h = rw l.is (row_columns len (length (generator_of m t bs)) (generator_of m t bs) below l.offsets₀ l.columns₀ l.values₀ l.offsets_long l.columns_long l.values_long r h)

-- ---- the generator
module _ (rows columns : List ℕ) (values : List Float) (w : Work) (m : Model) (t : ModelTables) (lanes : List ℕ) (len n : ℕ) (accepted : (generate rows columns values w m t lanes len).out.answer ≡ Ok n) where
  pub generator_model : test_model m t ≡ Ok tt
  generator_model = (generator_accepted rows columns values w m t lanes len n accepted).model_passes

  -- the tables hold exactly the generator's entries
  pub generator_exact : Exact m t (basis_of lanes len) (Lists (generate rows columns values w m t lanes len).out)
  generator_exact = listing_exact m t (basis_of lanes len) (generate rows columns values w m t lanes len).out n (generator_accepted rows columns values w m t lanes len n accepted)

  -- a word has an entry in its row exactly if it is in the basis and reached
  pub generator_row : (v : Word) → HasRow (basis_of lanes len) (Lists (generate rows columns values w m t lanes len).out) v → (is_among v (basis_of lanes len) ≡ true) × Reached (action_of m t) (basis_of lanes len) v
  generator_row v h = row_reached m t (basis_of lanes len) (Lists (generate rows columns values w m t lanes len).out) generator_exact v h

  pub reached_generator_row : (v : Word) → is_among v (basis_of lanes len) ≡ true → Reached (action_of m t) (basis_of lanes len) v → HasRow (basis_of lanes len) (Lists (generate rows columns values w m t lanes len).out) v
  reached_generator_row v e r = reached_row m t (basis_of lanes len) (Lists (generate rows columns values w m t lanes len).out) generator_exact v e r

-- ---- the matrix by rows
module _ (offsets columns : List ℕ) (values : List Float) (w : Work) (m : Model) (t : ModelTables) (lanes : List ℕ) (len n : ℕ) (accepted : (build_csr offsets columns values w m t lanes len).out.answer ≡ Ok n) where
  listed : RowListing m t (basis_of lanes len) len (build_csr offsets columns values w m t lanes len).out n
  listed = csr_accepted offsets columns values w m t lanes len n accepted

  pub csr_model : test_model m t ≡ Ok tt
  csr_model = listed.model_passes

  pub csr_exact : Exact m t (basis_of lanes len) (InRow (build_csr offsets columns values w m t lanes len).out)
  csr_exact = rows_exact m t (basis_of lanes len) len (build_csr offsets columns values w m t lanes len).out n listed

  -- the columns between the offsets of a row are those of its entries, and ascend
  pub csr_row : (r : ℕ) → r < len
      → take (get_or (build_csr offsets columns values w m t lanes len).out.offsets (suc r) 0 - get_or (build_csr offsets columns values w m t lanes len).out.offsets r 0) (drop (get_or (build_csr offsets columns values w m t lanes len).out.offsets r 0) (build_csr offsets columns values w m t lanes len).out.columns) ≡ map (λ (e : Entry). e.column) (row_of r (generator_of m t (basis_of lanes len)))
  csr_row r h = rows_part m t (basis_of lanes len) len (build_csr offsets columns values w m t lanes len).out n listed r h

  pub csr_ascends : (r : ℕ) → r < len
      → Ascending (take (get_or (build_csr offsets columns values w m t lanes len).out.offsets (suc r) 0 - get_or (build_csr offsets columns values w m t lanes len).out.offsets r 0) (drop (get_or (build_csr offsets columns values w m t lanes len).out.offsets r 0) (build_csr offsets columns values w m t lanes len).out.columns))
  csr_ascends r h = subst Ascending (sym (csr_row r h)) (row_ascends m t (basis_of lanes len) r)

  pub csr_generator_row : (v : Word) → HasRow (basis_of lanes len) (InRow (build_csr offsets columns values w m t lanes len).out) v → (is_among v (basis_of lanes len) ≡ true) × Reached (action_of m t) (basis_of lanes len) v
  csr_generator_row v h = row_reached m t (basis_of lanes len) (InRow (build_csr offsets columns values w m t lanes len).out) csr_exact v h

  pub reached_csr_row : (v : Word) → is_among v (basis_of lanes len) ≡ true → Reached (action_of m t) (basis_of lanes len) v → HasRow (basis_of lanes len) (InRow (build_csr offsets columns values w m t lanes len).out) v
  reached_csr_row v e r = reached_row m t (basis_of lanes len) (InRow (build_csr offsets columns values w m t lanes len).out) csr_exact v e r

  -- ---- both calls over one basis hold the same entries
  module _ (rows columns' : List ℕ) (values' : List Float) (w' : Work) (n' : ℕ) (accepted' : (generate rows columns' values' w' m t lanes len).out.answer ≡ Ok n') (r c : ℕ) (v : Float) (low : r < length (basis_of lanes len)) where
    pub listed_in_row : Lists (generate rows columns' values' w' m t lanes len).out r c v → InRow (build_csr offsets columns values w m t lanes len).out r c v
    listed_in_row h = csr_exact.hold r c v low ((generator_exact rows columns' values' w' m t lanes len n' accepted').held r c v low h)

    pub in_row_listed : InRow (build_csr offsets columns values w m t lanes len).out r c v → Lists (generate rows columns' values' w' m t lanes len).out r c v
    in_row_listed h = (generator_exact rows columns' values' w' m t lanes len n' accepted').hold r c v low (csr_exact.held r c v low h)
