-- SPDX-FileCopyrightText: 2026 The PPVM Authors
-- SPDX-License-Identifier: Apache-2.0

-- Both calls, answer by answer: a refusal by a test, a word that comes again, and what the columns staged. Assumes nothing.
use mathlib.Core.Path.{◌≡◌, refl, sym, ap, ◌∙◌}
use mathlib.Core.List.{List, map}
use Prim.Native.Nat.{ℕ, suc, ◌≤◌, ◌<◌}
use native.Mathlib.Omega.{arith}
use borrow.Author.Tests.{le-ltb}
use lib.Ieee.{Float}
use lib.ListN.{length, take}
use Rattle.refusal.specs.declared.Refusal.{Refusal}
use Rattle.std.specs.Prelude.{Result, Ok, Err}
use Rattle.refusal.specs.Cause.{Answer}
use Rattle.word.specs.declared.word.Word.{Word}
use Rattle.model.specs.Stored.{ModelTables}
use Rattle.lent.specs.Tests.{lent, and_then}
use Rattle.lent.proofs.Passed.{both, lent_passed}
use Rattle.lent.specs.Words.{inside_to}
use Rattle.model.specs.declared.stored.Model.{Model}
use Rattle.action.specs.Acts.{sum_places}
use Rattle.columns.specs.Entries.{Entry}
use Rattle.columns.specs.Columns.{generator_of, generator_room}
use Rattle.columns.specs.Stages.{answered}
use Rattle.columns.proofs.EntryLaws.{staged_rows}
use Rattle.columns.proofs.GeneratorLaws.{rows_below, generator_fits}
use Rattle.csr_build.specs.Sorts.{Rowed}
use Rattle.generator.specs.Lent.{Work, zeroed, basis_of, lent_tests, distinct, generator_tests, csr_tests}
use Rattle.generator.specs.Generators.{Out, listing, entry_places, tested, listed_over, generate, CsrOut, by_rows, csr_places, csr_tested, csr_over, build_csr, staged_entries}
use Rattle.generator.proofs.CheckLaws.{inside_then, inside_refused, then_other, lent_other}
use Rattle.generator.proofs.ListingLaws.{listed_is, by_rows_is}
use Rattle.columns.specs.Between.{StageRoom, Stages}
use Rattle.generator.specs.Between.{HeldInside, HeldRows}

-- ---- what the columns staged
answered_listed : (tests : Answer) (k n : ℕ) → Ok n ≡ answered tests k → (tests ≡ Ok tt) × (n ≡ k)
answered_listed (Ok _) k n e = (refl, cc)
answered_listed (Err q) k n e = absurd (let z : ◌≡◌ {A = ℕ} 0 1 = cc in omega arith)

module _ (m : Model) (t : ModelTables) (bs : List Word) (sumRoom entryRoom : ℕ) (rows columns : List ℕ) (values : List Float) (r : Result ℕ Refusal) (s : Stages (generator_room m t bs sumRoom entryRoom) (generator_of m t bs) rows columns values r) where
  staged_few : (n : ℕ) → r ≡ Ok n → n ≤ entryRoom
  staged_few n e =
      let a = answered_listed (generator_room m t bs sumRoom entryRoom) (length (generator_of m t bs)) n (sym e ∙ s.answers) in
      let f = generator_fits m t bs sumRoom entryRoom a.0 in
      omega (arith, f, a.1)

  pub held_inside : (rows' columns' : List ℕ) (values' : List Float) → StageRoom entryRoom rows' columns' values' → HeldInside r rows' columns' values'
  held_inside rows' columns' values' h = record {
    inside = λ n e. let f = staged_few n e in record { rows_long = omega (arith, f, h.rows_long); columns_long = omega (arith, f, h.columns_long); values_long = omega (arith, f, h.values_long) };
  }

  pub held_rows : (len : ℕ) (columns' : List ℕ) (values' : List Float) → length bs ≡ len → StageRoom entryRoom rows columns values → entryRoom ≤ length columns' → entryRoom ≤ length values' → HeldRows len r rows columns values columns' values'
  held_rows len columns' values' z h hc hv = record {
    rowed = λ k e. rowed k e (staged_few k e);
    columns_long = λ k e. let f = staged_few k e in omega (arith, f);
    values_long = λ k e. let f = staged_few k e in omega (arith, f);
  }
    where
      rowed : (k : ℕ) → r ≡ Ok k → k ≤ entryRoom → Rowed len k rows columns values
      rowed k e f =
          let a : k ≤ length rows = omega (arith, h.rows_long) in
          let b : k ≤ length columns = omega (arith, h.columns_long) in
          let d : k ≤ length values = omega (arith, h.values_long) in
          let i : map (λ (x : Entry). x.row) (generator_of m t bs) ≡ take k rows = ap (λ (E : List Entry). map (λ (x : Entry). x.row) E) (sym (s.held k e)) ∙ staged_rows k rows columns values a b d in
          record { rows_long = a; columns_long = b; values_long = d; below = rw (← i, ← z) (rows_below m t bs) }

-- ---- the generator
module _ (rows columns : List ℕ) (values : List Float) (w : Work) (m : Model) (t : ModelTables) where
  module _ (bs : List Word) where
    pub tested_repeated : (q : Refusal) (after : Work) → distinct bs ≡ Err q → after ≡ w
        → record { out = record { answer = Err q; rows = rows; columns = columns; values = values }; work = after } ≡ tested rows columns values w (distinct bs) (listed_over rows columns values w m t bs)
    tested_repeated q after e z = rw (e, z)

    pub tested_listed : (out : Out) (after : Work) (places : ℕ) (stageRows stageColumns : List ℕ) (stageValues : List Float) (r : Result ℕ Refusal) → distinct bs ≡ Ok tt → places ≡ entry_places w rows columns values
        → Stages (generator_room m t bs (sum_places w.work_words w.work_sums) places) (generator_of m t bs) stageRows stageColumns stageValues r
        → out ≡ listing rows columns values r (staged_entries r stageRows stageColumns stageValues) → after ≡ zeroed w
        → record { out = out; work = after } ≡ tested rows columns values w (distinct bs) (listed_over rows columns values w m t bs)
    unfolding listed_over
    tested_listed out after places stageRows stageColumns stageValues r e p s o z =
        rw (e, z, ← p) (ap (λ (x : Out). record { out = x; work = zeroed w }) (o ∙ listed_is _ _ stageRows stageColumns stageValues rows columns values r s))

  module _ (lanes : List ℕ) (len : ℕ) where
    abbrev checks : Answer
    checks = and_then (lent_tests m t lanes len w) (inside_to len lanes m.qubits (Ok tt))

    pub generate_refused : (q : Refusal) → checks ≡ Err q
        → record { out = record { answer = Err q; rows = rows; columns = columns; values = values }; work = w } ≡ generate rows columns values w m t lanes len
    unfolding generate generator_tests
    generate_refused q e =
        rw (then_other (lent_tests m t lanes len w) (inside_to len lanes m.qubits (Ok tt)) (inside_to len lanes m.qubits (distinct (basis_of lanes len))) q (inside_refused len lanes m.qubits (distinct (basis_of lanes len)) q) e)

    pub generate_tested : checks ≡ Ok tt → (bs : List Word) → bs ≡ basis_of lanes len
        → tested rows columns values w (distinct bs) (listed_over rows columns values w m t bs) ≡ generate rows columns values w m t lanes len
    unfolding generate generator_tests
    generate_tested e bs b =
        let a = both (lent_tests m t lanes len w) (inside_to len lanes m.qubits (Ok tt)) e in
        rw (b, a.0, inside_then len lanes m.qubits (distinct (basis_of lanes len)) a.1)

-- ---- by rows
module _ (offsets columns : List ℕ) (values : List Float) (w : Work) (m : Model) (t : ModelTables) where
  module _ (n : ℕ) (bs : List Word) where
    pub csr_repeated : (q : Refusal) (after : Work) → distinct bs ≡ Err q → after ≡ w
        → record { out = record { answer = Err q; offsets = offsets; columns = columns; values = values }; work = after } ≡ csr_tested offsets columns values w (distinct bs) (csr_over offsets columns values w n m t bs)
    csr_repeated q after e z = rw (e, z)

    pub csr_listed : (out : CsrOut) (after : Work) (places : ℕ) (stageRows stageColumns : List ℕ) (stageValues : List Float) (r : Result ℕ Refusal) → distinct bs ≡ Ok tt → places ≡ csr_places w columns values
        → Stages (generator_room m t bs (sum_places w.work_words w.work_sums) places) (generator_of m t bs) stageRows stageColumns stageValues r
        → out ≡ by_rows n offsets columns values r (staged_entries r stageRows stageColumns stageValues) → after ≡ zeroed w
        → record { out = out; work = after } ≡ csr_tested offsets columns values w (distinct bs) (csr_over offsets columns values w n m t bs)
    unfolding csr_over
    csr_listed out after places stageRows stageColumns stageValues r e p s o z =
        rw (e, z, ← p) (ap (λ (x : CsrOut). record { out = x; work = zeroed w }) (o ∙ by_rows_is _ _ stageRows stageColumns stageValues n offsets columns values r s))

  module _ (lanes : List ℕ) (len : ℕ) where
    abbrev csr_checks : Answer
    csr_checks = and_then (lent_tests m t lanes len w) (lent (suc len) (length offsets) (inside_to len lanes m.qubits (Ok tt)))

    pub build_refused : (q : Refusal) → csr_checks ≡ Err q
        → record { out = record { answer = Err q; offsets = offsets; columns = columns; values = values }; work = w } ≡ build_csr offsets columns values w m t lanes len
    unfolding build_csr csr_tests
    build_refused q e =
        let i : Answer = inside_to len lanes m.qubits (Ok tt) in
        let d : Answer = inside_to len lanes m.qubits (distinct (basis_of lanes len)) in
        rw (then_other (lent_tests m t lanes len w) (lent (suc len) (length offsets) i) (lent (suc len) (length offsets) d) q (lent_other (suc len) (length offsets) i d q (inside_refused len lanes m.qubits (distinct (basis_of lanes len)) q)) e)

    -- what is left once all but 12 is tested
    pub record CsrChecked : Type 0 where
      pub tables : lent_tests m t lanes len w ≡ Ok tt
      pub offsets_long : len < length offsets
      pub inside : inside_to len lanes m.qubits (Ok tt) ≡ Ok tt

    pub build_checked : csr_checks ≡ Ok tt → CsrChecked
    build_checked e =
        let a = both (lent_tests m t lanes len w) (lent (suc len) (length offsets) (inside_to len lanes m.qubits (Ok tt))) e in
        let b = lent_passed (suc len) (length offsets) _ a.1 in
        record { tables = a.0; offsets_long = b.0; inside = b.1 }

    pub build_tested : csr_checks ≡ Ok tt → (bs : List Word) → bs ≡ basis_of lanes len
        → csr_tested offsets columns values w (distinct bs) (csr_over offsets columns values w len m t bs) ≡ build_csr offsets columns values w m t lanes len
    unfolding build_csr csr_tests
    build_tested e bs b =
        let k = build_checked e in
        rw (b, k.tables, le-ltb (length offsets) (suc len) k.offsets_long, inside_then len lanes m.qubits (distinct (basis_of lanes len)) k.inside)
