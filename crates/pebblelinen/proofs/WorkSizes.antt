-- SPDX-FileCopyrightText: 2026 The PPVM Authors
-- SPDX-License-Identifier: Apache-2.0

-- In work tables of the lengths that `leakage_sizes`, `generator_sizes` and `evolution_sizes` name, no work table decides what leakage, the
-- generator, the matrix by rows, the norm and the evolution test: of any two such lendings the tests end alike. And there is room for the words touched, the
-- candidates and the entries that the lengths were named for. Assumes nothing.
use Prim.Native.Nat.{ℕ, zero, suc, ◌+◌, ◌*◌, ◌/◌, ◌≤◌, min}
use mathlib.Core.Path.{◌≡◌, refl}
use mathlib.Core.Bool.{Bool, true, false, cond}
use mathlib.Core.List.{List}
use native.Mathlib.Nat.{le_trans, le-min}
use native.Mathlib.Numerals.{add-one}
use native.Mathlib.Omega.{arith}
use borrow.Author.Tests.{le-ltb, ltb-false}
use lib.Dec.{ltb}
use lib.Ieee.{Float}
use lib.ListN.{length}
use Rattle.refusal.specs.declared.Refusal.TheVariants.{CountAboveLimit}
use Rattle.std.specs.Prelude.{Ok, Err}
use Rattle.refusal.specs.Cause.{Answer}
use Rattle.word.specs.Flat.{word_lanes}
use Rattle.word.specs.Word.{max_qubits}
use Rattle.model.specs.Stored.{ModelTables}
use Rattle.model.specs.Tested.{test_model}
use Rattle.lent.specs.Tests.{counted, lent, where_any, and_then}
use Rattle.lent.specs.Words.{max_words}
use Rattle.model.specs.declared.stored.Model.{Model}
use Rattle.model.proofs.StandsLaws.{tested_stands}
use Rattle.action.specs.Acts.{sum_places}
use Rattle.action.specs.Counts.{row_lanes}
use Rattle.leakage.specs.Leakages as Leak
use Rattle.limits.specs.declared.Limits.{Limits}
use Rattle.generator.specs.Lent as Gen
use Rattle.generator.specs.Generators.{csr_places}
use Rattle.evolution.specs.Lent as Evolution
use Rattle.evolution.proofs.CheckLaws.{basis_passed}
use Rattle.norm.specs.Norms as Norm
use Rattle.pebblelinen.specs.Leakages.{leakage_sizes, max_places}
use Rattle.pebblelinen.specs.Generators.{generator_sizes, max_entries}
use Rattle.pebblelinen.specs.Evolutions.{evolution_sizes}
use Rattle.pebblelinen.specs.declared.leakages.LeakageSizes.{LeakageSizes}
use Rattle.pebblelinen.specs.declared.evolutions.EvolutionSizes.{EvolutionSizes}
use Rattle.pebblelinen.specs.declared.generators.GeneratorSizes.{GeneratorSizes}

-- ---- what comes after a test need agree only where the test is passed
then_alike : (a : Answer) {b c : Answer} → (a ≡ Ok tt → b ≡ c) → and_then a b ≡ and_then a c
then_alike (Ok _) h = h refl
then_alike (Err r) h = refl

counted_alike : (limit count : ℕ) {b c : Answer} → (count ≤ limit → b ≡ c) → counted limit count b ≡ counted limit count c
counted_alike limit count {b} {c} h = go (ltb limit count) refl
  where
    go : (x : Bool) → ltb limit count ≡ x → cond x (Err (CountAboveLimit count)) b ≡ cond x (Err (CountAboveLimit count)) c
    go true e = refl
    go false e = h (ltb-false limit count e)

-- ---- places by lengths
quarter : (k t : ℕ) {n : ℕ} → k ≤ t → word_lanes * t ≤ n → k ≤ n / word_lanes
quarter k t h m = omega arith

half : (k t : ℕ) {n : ℕ} → k ≤ t → 2 * t ≤ n → k ≤ n / 2
half k t h m = omega arith

-- the rows of an index over so many words, in a register that has no more qubits than there may be
rows_asked : (qubits words : ℕ) {n : ℕ} → qubits ≤ max_qubits → where_any words (row_lanes * min qubits max_qubits) ≤ n → where_any words (row_lanes * qubits) ≤ n
rows_asked qubits words q h = let e : min qubits max_qubits ≡ qubits = omega arith in rw e at h

-- the slots of so many basis words and protected ones
slots_asked : (entries protected : ℕ) → entries ≤ max_words → protected ≤ max_words → where_any entries (entries + protected) ≤ min entries max_words + min (where_any entries protected) max_words
unfolding where_any
slots_asked zero protected e p = omega arith
slots_asked (suc n) protected e p = omega (arith, e, p)

-- ---- leakage
pub record LeakageLent (s : LeakageSizes) (w : Leak.Work) : Type 0 where
  pub h_index : s.h_index ≤ length w.h_index
  pub j_index : s.j_index ≤ length w.j_index
  pub mask : s.mask ≤ length w.mask
  pub work_words : s.work_words ≤ length w.work_words
  pub work_sums : s.work_sums ≤ length w.work_sums
  pub order : s.order ≤ length w.order
  pub heads : s.heads ≤ length w.heads
  pub nexts : s.nexts ≤ length w.nexts
  pub cand_words : s.cand_words ≤ length w.cand_words
  pub cand_sums : s.cand_sums ≤ length w.cand_sums
  pub place_order : s.place_order ≤ length w.place_order
  pub place_work : s.place_work ≤ length w.place_work

module _ (qubits entries protected touched candidates : ℕ) (w : Leak.Work) (a : LeakageLent (leakage_sizes qubits entries protected touched candidates) w) where
  work_accepted : qubits ≤ max_qubits → entries ≤ max_words → protected ≤ max_words → Leak.work_tests qubits entries protected w ≡ Ok tt
  unfolding leakage_sizes Leak.work_tests
  work_accepted q e p =
      rw (
        le-ltb (length w.h_index) (where_any entries (row_lanes * qubits)) (rows_asked qubits entries q a.h_index),
        le-ltb (length w.j_index) (where_any entries (row_lanes * qubits)) (rows_asked qubits entries q a.j_index),
        le-ltb (length w.mask) (where_any entries row_lanes) a.mask,
        le-ltb (length w.order) entries (omega (arith, a.order)),
        le-ltb (length w.heads) (where_any entries (entries + protected)) (omega (arith, a.heads, slots_asked entries protected e p)),
        le-ltb (length w.nexts) (where_any entries (entries + protected)) (omega (arith, a.nexts, slots_asked entries protected e p)),
      )

  -- there is room for as many words touched, and as many candidates
  abbrev t : ℕ
  t = min touched max_places

  abbrev c : ℕ
  c = min candidates max_places

  pub touched_room : touched ≤ max_places → touched ≤ Leak.sum_places w
  unfolding leakage_sizes Leak.action_places
  touched_room h =
      let e : touched ≤ t = omega arith in
      le-min (quarter touched t e a.work_words) (half touched t e a.work_sums)

  pub candidates_room : candidates ≤ max_places → candidates ≤ Leak.candidate_places w
  unfolding leakage_sizes Leak.row_places
  candidates_room h =
      let e : candidates ≤ c = omega arith in
      let l : candidates ≤ 2 * c = omega arith in
      le-min (le-min (quarter candidates c e a.cand_words) (le_trans e a.cand_sums)) (le-min (le_trans l a.place_order) (le_trans e a.place_work))

pub leakage_enough : (m : Model) (t : ModelTables) (b : Leak.Basis) (l : Limits) (touched candidates : ℕ) (w w' : Leak.Work)
    → LeakageLent (leakage_sizes m.qubits b.len (length b.protected / word_lanes) touched candidates) w
    → LeakageLent (leakage_sizes m.qubits b.len (length b.protected / word_lanes) touched candidates) w'
    → Leak.leak_tests m t b l w ≡ Leak.leak_tests m t b l w'
unfolding Leak.leak_tests
leakage_enough m t b l touched candidates w w' x y =
    then_alike (test_model m t) (λ e. counted_alike max_words b.len (λ f. counted_alike max_words (length b.protected / word_lanes) (λ g.
    let p = (tested_stands m t e).qubits in
    rw (work_accepted m.qubits b.len (length b.protected / word_lanes) touched candidates w x p f g, work_accepted m.qubits b.len (length b.protected / word_lanes) touched candidates w' y p f g))))

-- ---- the generator and the matrix by rows
pub record GeneratorLent (s : GeneratorSizes) (w : Gen.Work) : Type 0 where
  pub h_index : s.h_index ≤ length w.h_index
  pub j_index : s.j_index ≤ length w.j_index
  pub mask : s.mask ≤ length w.mask
  pub heads : s.heads ≤ length w.heads
  pub nexts : s.nexts ≤ length w.nexts
  pub work_words : s.work_words ≤ length w.work_words
  pub work_sums : s.work_sums ≤ length w.work_sums
  pub stage_rows : s.stage_rows ≤ length w.stage_rows
  pub stage_columns : s.stage_columns ≤ length w.stage_columns
  pub stage_values : s.stage_values ≤ length w.stage_values

module _ (qubits len touched entries : ℕ) (w : Gen.Work) (a : GeneratorLent (generator_sizes qubits len touched entries) w) where
  record Passes : Type 0 where
    h_index : ltb (length w.h_index) (where_any len (row_lanes * qubits)) ≡ false
    j_index : ltb (length w.j_index) (where_any len (row_lanes * qubits)) ≡ false
    mask : ltb (length w.mask) (where_any len row_lanes) ≡ false
    heads : ltb (length w.heads) len ≡ false
    nexts : ltb (length w.nexts) len ≡ false

  passes : qubits ≤ max_qubits → len ≤ max_words → Passes
  unfolding generator_sizes
  passes q e = record {
    h_index = le-ltb (length w.h_index) (where_any len (row_lanes * qubits)) (rows_asked qubits len q a.h_index);
    j_index = le-ltb (length w.j_index) (where_any len (row_lanes * qubits)) (rows_asked qubits len q a.j_index);
    mask = le-ltb (length w.mask) (where_any len row_lanes) a.mask;
    heads = le-ltb (length w.heads) len (omega (arith, a.heads));
    nexts = le-ltb (length w.nexts) len (omega (arith, a.nexts));
  }

  -- there is room for as many words touched, and as many entries
  pub sums_room : touched ≤ max_places → touched ≤ sum_places w.work_words w.work_sums
  unfolding generator_sizes
  sums_room h = omega (arith, a.work_words, a.work_sums)

  pub entries_room : entries ≤ max_entries → entries ≤ Gen.stage_places w
  unfolding generator_sizes
  entries_room h = omega (arith, a.stage_rows, a.stage_columns, a.stage_values)

module _ (m : Model) (t : ModelTables) (lanes : List ℕ) (len touched entries : ℕ) (w w' : Gen.Work) (x : GeneratorLent (generator_sizes m.qubits len touched entries) w) (y : GeneratorLent (generator_sizes m.qubits len touched entries) w') where
  lent_alike : Gen.lent_tests m t lanes len w ≡ Gen.lent_tests m t lanes len w'
  unfolding Gen.table_tests
  lent_alike =
      then_alike (test_model m t) (λ e. counted_alike max_words len (λ f.
      let p = passes m.qubits len touched entries w x (tested_stands m t e).qubits f in
      let q = passes m.qubits len touched entries w' y (tested_stands m t e).qubits f in
      rw (p.h_index, p.j_index, p.mask, p.heads, p.nexts, q.h_index, q.j_index, q.mask, q.heads, q.nexts)))

  pub generator_enough : Gen.generator_tests m t lanes len w ≡ Gen.generator_tests m t lanes len w'
  unfolding Gen.generator_tests
  generator_enough = rw lent_alike

  pub csr_enough : (offsets : List ℕ) → Gen.csr_tests m t lanes len w offsets ≡ Gen.csr_tests m t lanes len w' offsets
  unfolding Gen.csr_tests
  csr_enough offsets = rw lent_alike

-- ---- the norm: the same tables, and a number for each word in the last two
pub record NormLent (s : GeneratorSizes) (len : ℕ) (w : Norm.Work) : Type 0 where
  pub h_index : s.h_index ≤ length w.h_index
  pub j_index : s.j_index ≤ length w.j_index
  pub mask : s.mask ≤ length w.mask
  pub heads : s.heads ≤ length w.heads
  pub nexts : s.nexts ≤ length w.nexts
  pub raws : len ≤ length w.raws
  pub diags : len ≤ length w.diags

module _ (qubits len touched entries : ℕ) (w : Norm.Work) (a : NormLent (generator_sizes qubits len touched entries) len w) where
  record NormPasses : Type 0 where
    h_index : ltb (length w.h_index) (where_any len (row_lanes * qubits)) ≡ false
    j_index : ltb (length w.j_index) (where_any len (row_lanes * qubits)) ≡ false
    mask : ltb (length w.mask) (where_any len row_lanes) ≡ false
    heads : ltb (length w.heads) len ≡ false
    nexts : ltb (length w.nexts) len ≡ false
    raws : ltb (length w.raws) len ≡ false
    diags : ltb (length w.diags) len ≡ false

  norm_passes : qubits ≤ max_qubits → len ≤ max_words → NormPasses
  unfolding generator_sizes
  norm_passes q e = record {
    h_index = le-ltb (length w.h_index) (where_any len (row_lanes * qubits)) (rows_asked qubits len q a.h_index);
    j_index = le-ltb (length w.j_index) (where_any len (row_lanes * qubits)) (rows_asked qubits len q a.j_index);
    mask = le-ltb (length w.mask) (where_any len row_lanes) a.mask;
    heads = le-ltb (length w.heads) len (omega (arith, a.heads));
    nexts = le-ltb (length w.nexts) len (omega (arith, a.nexts));
    raws = le-ltb (length w.raws) len a.raws;
    diags = le-ltb (length w.diags) len a.diags;
  }

pub norm_enough : (m : Model) (t : ModelTables) (lanes : List ℕ) (len touched entries : ℕ) (w w' : Norm.Work)
    → NormLent (generator_sizes m.qubits len touched entries) len w
    → NormLent (generator_sizes m.qubits len touched entries) len w'
    → Norm.norm_tested m t lanes len w ≡ Norm.norm_tested m t lanes len w'
unfolding Norm.norm_tests
norm_enough m t lanes len touched entries w w' x y =
    then_alike (test_model m t) (λ e. counted_alike max_words len (λ f.
    let p = norm_passes m.qubits len touched entries w x (tested_stands m t e).qubits f in
    let q = norm_passes m.qubits len touched entries w' y (tested_stands m t e).qubits f in
    rw (p.h_index, p.j_index, p.mask, p.heads, p.nexts, p.raws, p.diags, q.h_index, q.j_index, q.mask, q.heads, q.nexts, q.raws, q.diags)))

-- ---- the evolution
starts_asked : (len have : ℕ) → len ≤ max_words → where_any (min len max_words) (min len max_words + 1) ≤ have → where_any len (suc len) ≤ have
starts_asked len have e h =
    let z : min len max_words ≡ len = omega (arith, e) in
    rw (← (add-one len)) (rw z at h)

pub record EvolutionLent (s : EvolutionSizes) (w : Evolution.Work) : Type 0 where
  pub h_index : s.h_index ≤ length w.generator.h_index
  pub j_index : s.j_index ≤ length w.generator.j_index
  pub mask : s.mask ≤ length w.generator.mask
  pub heads : s.heads ≤ length w.generator.heads
  pub nexts : s.nexts ≤ length w.generator.nexts
  pub work_words : s.work_words ≤ length w.generator.work_words
  pub work_sums : s.work_sums ≤ length w.generator.work_sums
  pub stage_rows : s.stage_rows ≤ length w.generator.stage_rows
  pub stage_columns : s.stage_columns ≤ length w.generator.stage_columns
  pub stage_values : s.stage_values ≤ length w.generator.stage_values
  pub offsets : s.offsets ≤ length w.offsets
  pub columns : s.columns ≤ length w.columns
  pub values : s.values ≤ length w.values
  pub v : s.v ≤ length w.v
  pub b : s.b ≤ length w.b
  pub product : s.product ≤ length w.product

module _ (qubits len touched entries : ℕ) (w : Evolution.Work) (a : EvolutionLent (evolution_sizes qubits len touched entries) w) where
  abbrev tests : List Float → Answer
  tests out = Evolution.work_tests qubits len (length w.generator.h_index) (length w.generator.j_index) (length w.generator.mask) (length w.generator.heads) (length w.generator.nexts) (length w.offsets) (length w.v) (length w.b) (length w.product) (length out)

  evolution_passes : qubits ≤ max_qubits → len ≤ max_words → (out : List Float) → tests out ≡ lent len (length out) (Ok tt)
  unfolding evolution_sizes generator_sizes Evolution.work_tests
  evolution_passes q e out =
      rw (
        le-ltb (length w.generator.h_index) (where_any len (row_lanes * qubits)) (rows_asked qubits len q a.h_index),
        le-ltb (length w.generator.j_index) (where_any len (row_lanes * qubits)) (rows_asked qubits len q a.j_index),
        le-ltb (length w.generator.mask) (where_any len row_lanes) a.mask,
        le-ltb (length w.generator.heads) len (omega (arith, a.heads)),
        le-ltb (length w.generator.nexts) len (omega (arith, a.nexts)),
        le-ltb (length w.offsets) (where_any len (suc len)) (starts_asked len (length w.offsets) e a.offsets),
        le-ltb (length w.v) len (omega (arith, a.v)),
        le-ltb (length w.b) len (omega (arith, a.b)),
        le-ltb (length w.product) len (omega (arith, a.product)),
      )

  -- there is room for as many words touched, and as many entries
  pub evolution_sums_room : touched ≤ max_places → touched ≤ sum_places w.generator.work_words w.generator.work_sums
  unfolding evolution_sizes generator_sizes
  evolution_sums_room h = omega (arith, a.work_words, a.work_sums)

  pub evolution_entries_room : entries ≤ max_entries → entries ≤ csr_places w.generator w.columns w.values
  unfolding evolution_sizes generator_sizes
  evolution_entries_room h = omega (arith, a.stage_rows, a.stage_columns, a.stage_values, a.columns, a.values)

pub evolution_enough : (m : Model) (t : ModelTables) (lanes : List ℕ) (coeffs : List Float) (len : ℕ) (dt dropTol : Float) (out : List Float) (touched entries : ℕ) (w w' : Evolution.Work)
    → EvolutionLent (evolution_sizes m.qubits len touched entries) w → EvolutionLent (evolution_sizes m.qubits len touched entries) w'
    → Evolution.evolve_tests m t lanes coeffs len dt dropTol w out ≡ Evolution.evolve_tests m t lanes coeffs len dt dropTol w' out
unfolding Evolution.evolve_tests
evolution_enough m t lanes coeffs len dt dropTol out touched entries w w' x y =
    then_alike (Evolution.basis_tests m t lanes coeffs len) (λ e.
    let k = basis_passed m t lanes coeffs len e in
    let q = (tested_stands m t k.model).qubits in
    rw (evolution_passes m.qubits len touched entries w x q k.few out, evolution_passes m.qubits len touched entries w' y q k.few out))
