-- SPDX-FileCopyrightText: 2026 The PPVM Authors
-- SPDX-License-Identifier: Apache-2.0

-- What is known where the tests of leakage are passed, and the tables that are lent before and to the passes. Assumes nothing.
use mathlib.Core.Path.{◌≡◌}
use mathlib.Core.Bool.{false}
use mathlib.Core.List.{List}
use Prim.Native.Nat.{ℕ, ◌+◌, ◌*◌, ◌/◌, ◌≤◌, ◌<◌}
use native.Mathlib.Omega.{arith}
use borrow.Author.Tests.{ltb-false}
use lib.Dec.{ltb}
use lib.Ieee.{Float}
use lib.ListN.{length}
use Rattle.refusal.specs.declared.Refusal.TheVariants.{WordOutsideRegister}
use Rattle.std.specs.Prelude.{Ok}
use Rattle.word.specs.Flat.{word_lanes}
use Rattle.model.specs.Stored.{ModelTables}
use Rattle.model.specs.Tested.{test_model}
use Rattle.model.specs.declared.stored.Model.{Model}
use Rattle.lent.specs.Tests.{where_any, first_to}
use Rattle.lent.proofs.NeedLaws.{need_some}
use Rattle.lent.proofs.Firsts.{first_before}
use Rattle.lent.proofs.Passed.{passed, both, equal_passed, lent_passed, counted_passed}
use Rattle.lent.specs.Words.{max_words, outside_at, inside_to}
use Rattle.action.specs.Counts.{row_lanes}
use Rattle.passes.specs.Between.{ActionRoom}
use Rattle.leakage.specs.Between.{BasisLent}
use Rattle.leakage.specs.Leakages.{Basis, Work, work_tests, entry_tests, leak_tests, action_places, row_places}
use Rattle.limits.specs.Defaults.{limit_tests}
use Rattle.limits.specs.declared.Limits.{Limits}

pub record Passed (m : Model) (t : ModelTables) (b : Basis) (w : Work) : Type 0 where
  pub model : test_model m t ≡ Ok tt
  pub words_long : b.len ≤ length b.lanes / word_lanes
  pub coeffs_long : b.len ≤ length b.coeffs
  pub protected_whole : length b.protected ≡ length b.protected / word_lanes * word_lanes
  pub h_long : 0 < b.len → 64 * m.qubits ≤ length w.h_index
  pub j_long : 0 < b.len → 64 * m.qubits ≤ length w.j_index
  pub mask_long : 0 < b.len → 64 ≤ length w.mask
  pub order_long : b.len ≤ length w.order
  pub heads_long : 0 < b.len → b.len + length b.protected / word_lanes ≤ length w.heads
  pub nexts_long : where_any b.len (b.len + length b.protected / word_lanes) ≤ length w.nexts
  pub inside : (k : ℕ) → k < b.len → outside_at b.lanes m.qubits k ≡ false

pub leak_passed : (m : Model) (t : ModelTables) (b : Basis) (l : Limits) (w : Work) → leak_tests m t b l w ≡ Ok tt → Passed m t b w
unfolding leak_tests work_tests entry_tests inside_to
leak_passed m t b l w e =
    let count : ℕ = length b.protected / word_lanes in
    let first : ℕ = first_to b.len (outside_at b.lanes m.qubits) in
    let e0 = both (test_model m t) _ e in
    let e1 = counted_passed max_words b.len _ e0.1 in
    let e2 = counted_passed max_words count _ e1.1 in
    let e3 = both (limit_tests l) _ e2.1 in
    let e4 = lent_passed b.len (length b.lanes / word_lanes) _ e3.1 in
    let e5 = lent_passed b.len (length b.coeffs) _ e4.1 in
    let e6 = equal_passed (count * word_lanes) (length b.protected) _ e5.1 in
    let e7 = both _ _ e6.1 in
    let rows : ℕ = row_lanes * m.qubits in
    let w0 = lent_passed (where_any b.len rows) (length w.h_index) _ e7.0 in
    let w1 = lent_passed (where_any b.len rows) (length w.j_index) _ w0.1 in
    let w2 = lent_passed (where_any b.len row_lanes) (length w.mask) _ w1.1 in
    let w3 = lent_passed b.len (length w.order) _ w2.1 in
    let w4 = lent_passed (where_any b.len (b.len + count)) (length w.heads) _ w3.1 in
    let w5 = lent_passed (where_any b.len (b.len + count)) (length w.nexts) _ w4.1 in
    let e8 = both _ _ e7.1 in
    let f0 = passed (ltb first b.len) (WordOutsideRegister first) _ e8.0 in
    let h = ltb-false first b.len f0.0 in
    record {
      model = e0.0;
      words_long = e4.0;
      coeffs_long = e5.0;
      protected_whole = e6.0;
      h_long = λ a. need_some b.len rows (length w.h_index) a w0.0;
      j_long = λ a. need_some b.len rows (length w.j_index) a w1.0;
      mask_long = λ a. need_some b.len row_lanes (length w.mask) a w2.0;
      order_long = w3.0;
      heads_long = λ a. need_some b.len (b.len + count) (length w.heads) a w4.0;
      nexts_long = w5.0;
      inside = λ k a. first_before b.len (outside_at b.lanes m.qubits) k (omega arith);
    }

-- ---- what is asked before the passes
module _ (m : Model) (t : ModelTables) (b : Basis) (w : Work) (p : Passed m t b w) where
  pub basis_lent : 0 < b.len → BasisLent b.len b.lanes b.coeffs b.protected w.order w.heads w.nexts
  basis_lent h = record {
    lanes_long = p.words_long;
    coeffs_long = p.coeffs_long;
    order_long = p.order_long;
    nexts_long = need_some b.len (b.len + length b.protected / word_lanes) (length w.nexts) h p.nexts_long;
    slots_enough = p.heads_long h;
  }

-- ---- the places of the tables of the passes
module _ (workWords : List ℕ) (workSums : List Float) where
  pub action_room : {r : ℕ} → r ≡ action_places (length workWords) (length workSums) → ActionRoom r workWords workSums
  unfolding action_places
  action_room e = record {
    work_words = omega (arith, e);
    work_sums = omega (arith, e);
  }

module _ (candWords : List ℕ) (candSums : List Float) (placeOrder placeWork : List ℕ) where
  pub candidate_room : {r : ℕ} → r ≡ row_places (length candWords) (length candSums) (length placeOrder) (length placeWork)
      → (word_lanes * r ≤ length candWords) × (r ≤ length candSums) × (r ≤ length placeOrder) × (r ≤ length placeWork)
  unfolding row_places
  candidate_room e = (omega (arith, e), omega (arith, e), omega (arith, e), omega (arith, e))
