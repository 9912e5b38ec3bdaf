-- SPDX-FileCopyrightText: 2026 The PPVM Authors
-- SPDX-License-Identifier: Apache-2.0

-- The tests of an evolution one after another, and its answers. Assumes nothing.
use mathlib.Core.Path.{◌≡◌, refl, sym, ap, ◌∙◌}
use mathlib.Core.List.{List, ◌++◌}
use Prim.Native.Nat.{ℕ, ◌*◌, ◌≤◌, ◌<◌}
use native.Mathlib.Omega.{arith}
use borrow.Author.Tests.{lt-ltb, le-ltb}
use lib.Ieee.{Float}
use lib.ListN.{length, take, drop, replicate, take-append-drop}
use lib.Seq.{take_at}
use Rattle.refusal.specs.declared.Refusal.{Refusal}
use Rattle.refusal.specs.declared.Refusal.TheVariants.{RepeatedBasisWord}
use Rattle.std.specs.Prelude.{Ok, Err}
use Rattle.refusal.specs.Cause.{Answer}
use Rattle.word.specs.Flat.{words, word_lanes}
use Rattle.word.specs.declared.word.Word.{Word}
use Rattle.word.proofs.FlatLaws.{words_low, words_high}
use Rattle.model.specs.Stored.{ModelTables}
use Rattle.model.specs.declared.stored.Model.{Model}
use Rattle.lent.specs.Tests.{and_then}
use Rattle.lent.proofs.Passed.{both, refused_not}
use Rattle.slots.specs.Between.{Slotted}
use Rattle.columns.specs.Between.{LaysDistinct}
use Rattle.generator.specs.Lent as Generator
use Rattle.generator.specs.Lent.{distinct, basis_of}
use Rattle.generator.specs.Between.{BasisLent}
use Rattle.generator.proofs.CheckLaws.{Passed}
use Rattle.generator.proofs.LentLaws.{basis_lent}
use Rattle.taylor.specs.Evolves.{Evolves}
use Rattle.number.specs.Floats.{float0}
use Rattle.evolution.specs.Lent.{Work, work_of, zeroed, basis_tests, work_tests, number_tests, evolve_tests}
use Rattle.evolution.specs.Evolutions.{evolve_over, evolve}
use Rattle.evolution.specs.Between.{SlotsLeft, Checks, SlotsReady, NumbersLent, evolved_then}
use Rattle.evolution.proofs.CheckLaws.{basis_passed, tables_passed, numbers_passed, first_finite}

-- ---- one part of the tests after another
slots_kept : (ws : List Word) (len : ℕ) (heads nexts : List ℕ) (r : Answer) (q : Refusal) → r ≡ Err q → SlotsLeft ws len heads nexts r heads nexts
slots_kept ws len heads nexts r q e = record { kept = λ _ _. (refl, refl); laid = λ f. absurd (refused_not q (sym e ∙ f)) }

module _ (m : Model) (t : ModelTables) (lanes : List ℕ) (coeffs : List Float) (len : ℕ) (dt dropTol : Float) (hIndex jIndex mask : ℕ) (heads nexts : List ℕ) (offsets v b product out : ℕ) where
  abbrev basis_answer : Answer
  basis_answer = basis_tests m t lanes coeffs len

  abbrev work_answer : Answer
  work_answer = work_tests m.qubits len hIndex jIndex mask (length heads) (length nexts) offsets v b product out

  abbrev number_answer : Answer
  number_answer = number_tests len lanes m.qubits coeffs dt dropTol

  abbrev Checked : Answer → List ℕ → List ℕ → Type 0
  Checked = Checks m t lanes coeffs len dt dropTol hIndex jIndex mask heads nexts offsets v b product out

  pub basis_refused : (r : Answer) (q : Refusal) → r ≡ basis_answer → r ≡ Err q → Checked (Err q) heads nexts
  basis_refused r q e f = record { answers = rw (sym e ∙ f); slots = slots_kept (basis_of lanes len) len heads nexts (Err q) q refl }

  module _ (ok : basis_answer ≡ Ok tt) where
    pub work_refused : (r : Answer) (q : Refusal) → r ≡ work_answer → r ≡ Err q → Checked (Err q) heads nexts
    work_refused r q e f = record { answers = rw (ok, sym e ∙ f); slots = slots_kept (basis_of lanes len) len heads nexts (Err q) q refl }

    module _ (ok2 : work_answer ≡ Ok tt) where
      pub numbers_refused : (r : Answer) (q : Refusal) → r ≡ number_answer → r ≡ Err q → Checked (Err q) heads nexts
      numbers_refused r q e f = record { answers = rw (ok, ok2, sym e ∙ f); slots = slots_kept (basis_of lanes len) len heads nexts (Err q) q refl }

      pub all_tested : number_answer ≡ Ok tt → (ws : List Word) → ws ≡ basis_of lanes len → (r : Answer) (heads' nexts' : List ℕ) → (r ≡ distinct ws) × SlotsLeft ws len heads nexts r heads' nexts' → Checked r heads' nexts'
      all_tested ok3 ws e r heads' nexts' d = record { answers = d.0 ∙ rw (ok, ok2, ok3, e); slots = rw e at d.1 }

-- ---- 12, and the slots
module _ (len : ℕ) (basis heads nexts : List ℕ) (each : length basis ≡ len * word_lanes) (heads' part : List ℕ) (r : ℕ) (d : LaysDistinct (words basis) heads (take len nexts) heads' part r) where
  size : length (words basis) ≡ len
  size = omega (arith, each, words_low basis, words_high basis)

  pub distinct_repeated : r < len → (Err (RepeatedBasisWord r) ≡ distinct (words basis)) × SlotsLeft (words basis) len heads nexts (Err (RepeatedBasisWord r)) heads' (part ++ drop len nexts)
  unfolding distinct
  distinct_repeated h =
      let u = d.unchanged (omega (arith, size)) in (
        rw (← d.first, lt-ltb r (length (words basis)) (omega (arith, size))),
        record { kept = λ _ _. (u.0, ap (λ (k : List ℕ). k ++ drop len nexts) u.1 ∙ take-append-drop len nexts); laid = λ e. absurd (refused_not (RepeatedBasisWord r) e) },
      )

  pub distinct_laid : len ≤ r → ((Ok tt) ≡ distinct (words basis)) × SlotsLeft (words basis) len heads nexts (Ok tt) heads' (part ++ drop len nexts)
  unfolding distinct
  distinct_laid h =
      let s = d.slots (omega (arith, size)) in (
        rw (← d.first, le-ltb r (length (words basis)) (omega (arith, size))),
        record { kept = λ q e. absurd (refused_not q (sym e)); laid = λ _. rw (take_at part (drop len nexts) len (s.each ∙ size)) s },
      )

-- ---- what the tests show
module _ (m : Model) (t : ModelTables) (lanes : List ℕ) (coeffs : List Float) (len : ℕ) (dt dropTol : Float) (w : Work) (out : List Float) where
  abbrev first_tests : Answer
  first_tests = basis_tests m t lanes coeffs len

  abbrev table_tests : Answer
  table_tests = work_tests m.qubits len (length w.generator.h_index) (length w.generator.j_index) (length w.generator.mask) (length w.generator.heads) (length w.generator.nexts) (length w.offsets) (length w.v) (length w.b) (length w.product) (length out)

  abbrev last_tests : Answer
  last_tests = number_tests len lanes m.qubits coeffs dt dropTol

  abbrev all_tests : Answer
  all_tests = and_then first_tests (and_then table_tests (and_then last_tests (distinct (basis_of lanes len))))

  -- what is known where all are passed
  pub record Tested : Type 0 where
    pub passed : Passed m t lanes len (length w.generator.h_index) (length w.generator.j_index) (length w.generator.mask) (length w.generator.heads) (length w.generator.nexts)
    pub lent : NumbersLent m t len coeffs w.offsets w.v w.b w.product out
    pub basis : BasisLent m.qubits len (take (len * word_lanes) lanes) w.generator.heads w.generator.nexts

  pub all_passed : all_tests ≡ Ok tt → Tested
  all_passed e =
      let a = both first_tests (and_then table_tests (and_then last_tests (distinct (basis_of lanes len)))) e in
      let b = both table_tests (and_then last_tests (distinct (basis_of lanes len))) a.1 in
      let d = both last_tests (distinct (basis_of lanes len)) b.1 in
      let x = basis_passed m t lanes coeffs len a.0 in
      let y = tables_passed m.qubits len (length w.generator.h_index) (length w.generator.j_index) (length w.generator.mask) (length w.generator.heads) (length w.generator.nexts) (length w.offsets) (length w.v) (length w.b) (length w.product) (length out) b.0 in
      let z = numbers_passed len lanes m.qubits coeffs dt dropTol d.0 in
      let p : Passed m t lanes len (length w.generator.h_index) (length w.generator.j_index) (length w.generator.mask) (length w.generator.heads) (length w.generator.nexts) = record {
        model = x.model;
        few = x.few;
        words_long = x.words_long;
        h_long = y.h_long;
        j_long = y.j_long;
        mask_long = y.mask_long;
        heads_long = y.heads_long;
        nexts_long = y.nexts_long;
      } in
      record {
        passed = p;
        lent = record {
          passes = x.model;
          coeffs_long = x.coeffs_long;
          finite = first_finite len coeffs x.coeffs_long z.finite;
          offsets_long = y.offsets_long;
          v_long = y.v_long;
          b_long = y.b_long;
          product_long = y.product_long;
          out_long = y.out_long;
        };
        basis = basis_lent m t lanes len w.generator.h_index w.generator.j_index w.generator.mask w.generator.heads w.generator.nexts p z.inside;
      }

  -- ---- the answers
  pub evolve_refused : (q : Refusal) → all_tests ≡ Err q → (out' : List Float) (w' : Work) → out' ≡ out → w' ≡ w → record { answer = Err q; out = out'; work = w' } ≡ evolve w out m t lanes coeffs len dt dropTol
  unfolding evolve evolve_tests
  evolve_refused q e out' w' f g = rw (e, f, g)

  pub evolve_tested : all_tests ≡ Ok tt → (bs : List Word) → bs ≡ basis_of lanes len → evolved_then w out m t bs coeffs len dt dropTol ≡ evolve w out m t lanes coeffs len dt dropTol
  unfolding evolve evolve_tests
  evolve_tested e bs b = rw (e, b)

-- the slots of a basis in tables that were lent
pub slots_ready : (n len : ℕ) (basis heads nexts heads' nexts' : List ℕ) → BasisLent n len basis heads nexts → length heads' ≡ length heads → length nexts' ≡ length nexts → Slotted (words basis) heads' (take len nexts') → SlotsReady n len basis heads' nexts'
slots_ready n len basis heads nexts heads' nexts' l eh en s = record {
  each = l.each;
  few = l.few;
  heads_long = omega (arith, eh, l.heads_long);
  nexts_long = omega (arith, en, l.nexts_long);
  ready = record { slots = s; inside = l.inside; few = omega (arith, words_low basis, words_high basis, l.each, l.few) };
}

pub slots_size : (n len : ℕ) (basis heads nexts : List ℕ) → SlotsReady n len basis heads nexts → length (words basis) ≡ len
slots_size n len basis heads nexts s = omega (arith, s.each, words_low basis, words_high basis)

-- ---- all tables zero
pub work_zero : (w : Work) (g' : Generator.Work) (offsets' columns' : List ℕ) (values' v' b' product' : List Float) → g' ≡ Generator.zeroed w.generator → offsets' ≡ replicate (length w.offsets) 0 → columns' ≡ replicate (length w.columns) 0 → values' ≡ replicate (length w.values) float0
    → v' ≡ replicate (length w.v) float0 → b' ≡ replicate (length w.b) float0 → product' ≡ replicate (length w.product) float0 → work_of g' offsets' columns' values' v' b' product' ≡ zeroed w
work_zero w g' offsets' columns' values' v' b' product' e0 e1 e2 e3 e4 e5 e6 = rw (e0, e1, e2, e3, e4, e5, e6)

pub then_evolved : (w : Work) (out : List Float) (m : Model) (t : ModelTables) (bs : List Word) (coeffs : List Float) (len : ℕ) (dt dropTol : Float) (e : Evolves) → e ≡ evolve_over w out m t bs coeffs len dt dropTol → (w' : Work) → w' ≡ zeroed w
    → record { answer = e.answer; out = e.out; work = w' } ≡ evolved_then w out m t bs coeffs len dt dropTol
then_evolved w out m t bs coeffs len dt dropTol e h w' z = rw (h, z)

-- tables of the same lengths for the slots make no difference
pub slots_alike : (hIndex jIndex mask heads heads' nexts nexts' workWords : List ℕ) (workSums : List Float) (stageRows stageColumns : List ℕ) (stageValues : List Float) (offsets columns : List ℕ) (values v b product out : List Float)
    (m : Model) (t : ModelTables) (bs : List Word) (coeffs : List Float) (len : ℕ) (dt dropTol : Float) → length heads' ≡ length heads → length nexts' ≡ length nexts
    → evolved_then (work_of (Generator.work_of hIndex jIndex mask heads' nexts' workWords workSums stageRows stageColumns stageValues) offsets columns values v b product) out m t bs coeffs len dt dropTol
    ≡ evolved_then (work_of (Generator.work_of hIndex jIndex mask heads nexts workWords workSums stageRows stageColumns stageValues) offsets columns values v b product) out m t bs coeffs len dt dropTol
unfolding evolve_over
slots_alike hIndex jIndex mask heads heads' nexts nexts' workWords workSums stageRows stageColumns stageValues offsets columns values v b product out m t bs coeffs len dt dropTol eh en = rw (eh, en)
