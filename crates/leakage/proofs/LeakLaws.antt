-- SPDX-FileCopyrightText: 2026 The PPVM Authors
-- SPDX-License-Identifier: Apache-2.0

-- What is laid once before the passes: the lent tables then stand as the passes ask, over positions in falling magnitude; and what
-- the passes left is the course of the call. Assumes nothing.
use mathlib.Core.Path.{◌≡◌, refl, sym, ap, ◌∙◌}
use mathlib.Core.List.{List, [], ◌++◌}
use Prim.Native.Nat.{ℕ, zero, suc, ◌+◌, ◌-◌, ◌*◌, ◌/◌, ◌≤◌, ◌<◌}
use native.Mathlib.Omega.{arith}
use lib.Ieee.{Float}
use lib.ListN.{length, get_or, take, drop, length-take}
use lib.Seq.{length-take-le, get_or-take, take_at}
use Rattle.word.specs.Word.{identity}
use Rattle.word.specs.Flat.{words, word_lanes}
use Rattle.word.specs.Register.{reaches}
use Rattle.word.specs.declared.word.Word.{Word}
use Rattle.order.specs.Merge.{positions, sort_by}
use Rattle.order.specs.Magnitudes.{by_magnitude, falls_before}
use Rattle.order.proofs.Members.{all_sort, positions_below}
use Rattle.candidates.specs.Tables.{Rows}
use Rattle.word.proofs.FlatLaws.{words_take}
use Rattle.model.specs.Stored.{ModelTables}
use Rattle.lent.specs.Read.{Read}
use Rattle.lent.specs.Tests.{where_any}
use Rattle.lent.proofs.NeedLaws.{need_is}
use Rattle.lent.specs.Words.{outside_at}
use Rattle.model.specs.declared.stored.Model.{Model}
use Rattle.rules_by_index.specs.Near.{ModelIndexed}
use Rattle.passes.specs.Leaks.{passes, pass_count, touched_at, leaks_at, candidates_of}
use Rattle.std.specs.Prelude.{Result}
use Rattle.refusal.specs.declared.Refusal.{Refusal}
use Rattle.leakage.specs.Leakages.{Basis, Work, leak_course, sum_places, candidate_places}
use Rattle.limits.specs.Defaults.{limit_of}
use Rattle.limits.specs.declared.Limits.{Limits}
use Rattle.leakage.proofs.GatherLaws.{Passed}
use Rattle.lent.specs.Between.{AllInside}
use Rattle.passes.specs.Between.{ModelReady, BasisReady, Took}
use Rattle.leakage.specs.Between.{BasisLaid}
use Rattle.order.specs.Between.{AllBelow}

-- ---- what is laid in the first places of lent tables
pub laid_first : (n : ℕ) (x y : List ℕ) → length x ≡ n → take n (x ++ drop n y) ≡ x
laid_first n x y e = take_at x (drop n y) n e

pub laid_long : (n : ℕ) (y x : List ℕ) → length x ≡ length (take n y) → n ≤ length y → length (take n (x ++ drop n y)) ≡ n
laid_long n y x e h = ap length (laid_first n x y (e ∙ length-take-le n y h)) ∙ e ∙ length-take-le n y h

-- an empty basis has no positions to put into an order
ordered : (n : ℕ) (order : List ℕ) (coeffs : List Float) → (0 < n → take n order ≡ by_magnitude (take n coeffs)) → take n order ≡ by_magnitude (take n coeffs)
unfolding positions sort_by
ordered zero order coeffs e = refl
ordered (suc n) order coeffs e = e (omega arith)

-- where there is a position, there is a basis word
pub some_word : (n : ℕ) (order : List ℕ) → 0 < length (take n order) → 0 < n
some_word n order h = omega (arith, length-take n order)

-- ---- what the passes ask for
module _ (m : Model) (t : ModelTables) (b : Basis) (w : Work) (p : Passed m t b w) where
  abbrev lanes : List ℕ
  lanes = take (b.len * word_lanes) b.lanes

  abbrev coeffs : List Float
  coeffs = take b.len b.coeffs

  pub model_ready : 0 < b.len → (hIndex jIndex : List ℕ) → ModelIndexed m t hIndex jIndex → length hIndex ≡ length w.h_index → length jIndex ≡ length w.j_index → ModelReady m t hIndex jIndex w.mask
  model_ready h hIndex jIndex i eh ej = record { tested = p.model; indexed = i; h_rows = omega (arith, p.h_long h, eh); j_rows = omega (arith, p.j_long h, ej); row = p.mask_long h }

  lanes_long : length lanes ≡ b.len * word_lanes
  lanes_long = length-take-le (b.len * word_lanes) b.lanes (omega (arith, p.words_long))

  coeffs_long : length coeffs ≡ b.len
  coeffs_long = length-take-le b.len b.coeffs p.coeffs_long

  words_are : words lanes ≡ take b.len (words b.lanes)
  words_are = let e : b.len * word_lanes ≡ word_lanes * b.len = omega arith in ap (λ (k : ℕ). words (take k b.lanes)) e ∙ words_take b.len b.lanes

  all_inside : AllInside lanes m.qubits
  unfolding outside_at
  all_inside k h =
      let l : k < b.len = omega (arith, lanes_long) in
      ap (λ (v : Word). reaches v m.qubits) (ap (λ (ws : List Word). get_or ws k identity) words_are ∙ get_or-take b.len (words b.lanes) k identity l) ∙ p.inside k l

  module _ (order heads nexts : List ℕ) (laid : 0 < b.len → BasisLaid b.len b.lanes b.coeffs b.protected order heads nexts) where
    pub basis_ready : 0 < b.len → {places : ℕ} → places ≡ where_any b.len (b.len + length b.protected / word_lanes) → BasisReady m.qubits lanes coeffs heads (take places nexts) b.protected
    basis_ready h e =
        let f : b.len + length b.protected / word_lanes ≡ _ = sym (e ∙ need_is b.len (b.len + length b.protected / word_lanes) h) in
        record { slots = rw f at (laid h).slots; each = omega (arith, lanes_long, coeffs_long); inside = all_inside }

    pub order_below : 0 < b.len → AllBelow (length coeffs) (take b.len order)
    order_below h =
        let n : ℕ = length coeffs in
        rw (laid h).order_is (all_sort (λ x. x < n) (falls_before coeffs) (length (positions n)) (positions n) (positions_below n))

    -- the passes over such an order are the course of the call
    module _ (l : Limits) (order-long : length order ≡ length w.order) {room : ℕ} (er : room ≡ limit_of l - b.len) where
      abbrev course : List ℕ → Read Rows
      course ps = passes (touched_at m t (words lanes) coeffs (words b.protected)) (leaks_at m t (words lanes) coeffs (words b.protected)) (sum_places w) (candidate_places w) room (pass_count (length ps)) ps []

      course_is : leak_course m t b l w ≡ course (take b.len order)
      unfolding leak_course candidates_of
      course_is =
          let n : length (take b.len order) ≡ length coeffs = length-take-le b.len order (omega (arith, p.order_long, order-long)) ∙ sym coeffs_long in
          rw (n, ordered b.len order b.coeffs (λ h. (laid h).order_is), er, words_are)

      pub gathered : (candWords : List ℕ) (candSums : List Float) (placeOrder : List ℕ) (r : Result ℕ Refusal) → Took (candidate_places w) (course (take b.len order)) candWords candSums placeOrder r → Took (candidate_places w) (leak_course m t b l w) candWords candSums placeOrder r
      gathered candWords candSums placeOrder r k = rw course_is k
