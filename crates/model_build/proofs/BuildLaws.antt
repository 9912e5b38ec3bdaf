-- SPDX-FileCopyrightText: 2026 The PPVM Authors
-- SPDX-License-Identifier: Apache-2.0

-- What the tests of a model's input settle: a refusal is what building answers; where all are passed, the lengths fit,
-- the items are what is taken of them, and there is room. Assumes nothing.
use mathlib.Core.Path.{◌≡◌, refl, sym, ap, ap₂, ◌∙◌}
use mathlib.Core.Bool.{cond}
use mathlib.Core.List.{List, [], ◌∷◌, map, map-map}
use Prim.Native.Nat.{ℕ, zero, suc, ◌+◌, ◌*◌, ◌/◌, ◌<◌, ◌≤◌}
use native.Mathlib.Omega.{arith}
use native.Mathlib.Decide.{dec_lt}
use borrow.Author.Tests.{ltb-false}
use lib.Dec.{ltb}
use lib.Ieee.{Float, nan}
use lib.ListN.{get_or, length, drop, length-drop, get_or-eq_default}
use lib.Seq.{length-take-le}
use Rattle.refusal.specs.declared.Refusal.{Refusal}
use Rattle.refusal.specs.declared.Refusal.TheVariants.{TooManyQubits}
use Rattle.std.specs.Prelude.{Ok, Err}
use Rattle.refusal.specs.Cause.{Answer}
use Rattle.refusal.proofs.Told.{refused_not, refused_same}
use Rattle.word.specs.Flat.{word_lanes}
use Rattle.word.specs.Word.{max_qubits}
use Rattle.number.specs.Floats.{floats}
use Rattle.gksl.specs.Model.{RealTerm, JumpOver}
use Rattle.gksl.specs.Words.{pauli}
use Rattle.lent.proofs.Passed.{both, counted_passed, equal_passed, lent_passed, passed}
use Rattle.sums.specs.Numbers.{complexes}
use Rattle.model.specs.Stored.{ModelTables}
use Rattle.model.specs.Tested.{max_hamiltonian, max_jumps}
use Rattle.model_build.specs.Given.{GivenTerm, GivenJump}
use Rattle.model_build.specs.Items.{answer_of}
use Rattle.model_build.specs.Taken.{real_taken, jump_taken, RealsRoom}
use Rattle.model_build.specs.Compiled.{compile_jump}
use Rattle.model_build.specs.Built.{Input, parts, real_items, term_items, jump_items, hamiltonian, jumps_given, parts_fit, work_places, lengths_answer, read_hamiltonian, read_jumps, Building, refusal, tested, when_read, compiled_model, build}
use Rattle.model_build.specs.Checked.{given_answer, real_lengths, term_lengths, term_texts}
use Rattle.model_build.specs.Work.{JumpsFit, JumpsWork, jumps_compiled}
use Rattle.model_build.proofs.Parts.{fit_total, total_split, drop_parts}
use Rattle.lent.specs.Tests.{counted, where_any, and_then}
use Rattle.lent.proofs.NeedLaws.{need_some}
use Rattle.model_build.proofs.ItemAnswers.{terms_count}
use Rattle.model_build.proofs.TakenLaws.{reals_taken, jumps_taken, jumps_few}
use Rattle.lent.specs.Read.{Read, got, refused}
use Rattle.lent.specs.Laid.{total}

-- ---- one test passed

-- ---- lengths that agree, and a lent place for each item
pub record LengthsFit (i : Input) (t : ModelTables) (workWords : List ℕ) (workNumbers : List Float) : Type 0 where
  pub texts_each : length i.lengths ≡ length i.h_numbers + length i.numbers / 2
  pub counts_each : length i.counts ≡ length i.rates
  pub numbers_even : length i.numbers ≡ 2 * (length i.numbers / 2)
  pub terms_whole : total i.counts ≡ length i.numbers / 2
  pub texts_whole : total i.lengths ≡ length i.texts
  pub h_words_room : length i.h_numbers ≤ length t.h_words / word_lanes
  pub h_coeffs_room : length i.h_numbers ≤ length t.h_coeffs
  pub jumps_room : length i.rates ≤ length t.jumps / 8
  pub rates_room : length i.rates ≤ length t.rates
  pub work_words_room : where_any (length i.rates) work_places ≤ length workWords / word_lanes
  pub work_numbers_room : where_any (length i.rates) work_places ≤ length workNumbers / 2

module _ (i : Input) (t : ModelTables) (workWords : List ℕ) (workNumbers : List Float) where
  pub lengths_fit : lengths_answer i t workWords workNumbers ≡ Ok tt → LengthsFit i t workWords workNumbers
  unfolding lengths_answer
  lengths_fit e =
      let h : ℕ = length i.h_numbers in
      let terms : ℕ = length i.numbers / 2 in
      let e1 = equal_passed (h + terms) (length i.lengths) _ e in
      let e2 = equal_passed (length i.rates) (length i.counts) _ e1.1 in
      let e3 = equal_passed (terms * 2) (length i.numbers) _ e2.1 in
      let e4 = both (parts_fit i.counts terms) _ e3.1 in
      let e5 = both (parts_fit i.lengths (length i.texts)) _ e4.1 in
      let e6 = lent_passed h (length t.h_words / word_lanes) _ e5.1 in
      let e7 = lent_passed h (length t.h_coeffs) _ e6.1 in
      let e8 = lent_passed (length i.rates) (length t.jumps / 8) _ e7.1 in
      let e9 = lent_passed (length i.rates) (length t.rates) _ e8.1 in
      let e10 = lent_passed (where_any (length i.rates) work_places) (length workWords / word_lanes) _ e9.1 in
      let e11 = lent_passed (where_any (length i.rates) work_places) (length workNumbers / 2) _ e10.1 in
      record {
        texts_each = e1.0;
        counts_each = e2.0;
        numbers_even = omega (arith, e3.0);
        terms_whole = fit_total i.counts terms e4.0;
        texts_whole = fit_total i.lengths (length i.texts) e5.0;
        h_words_room = e6.0;
        h_coeffs_room = e7.0;
        jumps_room = e8.0;
        rates_room = e9.0;
        work_words_room = e10.0;
        work_numbers_room = e11.0;
      }

  -- the texts of the Hamiltonian's items and those of the terms
  module _ (f : LengthsFit i t workWords workNumbers) where
    pub reals_count : length (real_lengths i) ≡ length i.h_numbers
    reals_count = length-take-le (length i.h_numbers) i.lengths (omega (arith, f.texts_each))

    pub reals_whole : total (real_lengths i) ≤ length i.texts
    reals_whole = omega (arith, f.texts_whole, total_split (length i.h_numbers) i.lengths)

    pub terms_number : length (term_lengths i) ≡ length i.numbers / 2
    terms_number = omega (arith, f.texts_each, length-drop (length i.h_numbers) i.lengths)

    pub terms_counted : total i.counts ≡ length (term_lengths i)
    terms_counted = f.terms_whole ∙ sym terms_number

    pub terms_two : length i.numbers ≡ 2 * length (term_lengths i)
    terms_two = f.numbers_even ∙ ap (◌*◌ 2) (sym terms_number)

    pub terms_texts : total (term_lengths i) ≤ length (term_texts i)
    terms_texts =
        omega (arith, f.texts_whole, total_split (length i.h_numbers) i.lengths, length-drop (total (real_lengths i)) i.texts)

-- ---- building
module _ (n : ℕ) (i : Input) (t : ModelTables) (workWords : List ℕ) (workNumbers : List Float) where
  -- the tests before the items
  abbrev first_tests : Answer
  first_tests =
      cond (ltb max_qubits n) (Err (TooManyQubits n max_qubits)) (counted max_hamiltonian (length i.h_numbers) (counted max_jumps (length i.rates) (lengths_answer i t workWords workNumbers)))

  module _ {A B : Type 0} where
    -- the first refusal is the answer
    stops : (a : Answer) (x : Read A) (y : Read B) (f : A → B → Building) (r : Refusal) → and_then a (and_then (answer_of x) (answer_of y)) ≡ Err r
        → tested t workWords workNumbers a (when_read t workWords workNumbers x (λ hs. when_read t workWords workNumbers y (λ js. f hs js)))
        ≡ refusal t workWords workNumbers (Err r)
    stops (Ok _) (got hs) (got js) f r e = absurd (refused_not r tt (sym e))
    stops (Ok _) (got hs) (refused s) f r e = ap (λ (q : Refusal). refusal t workWords workNumbers (Err q)) (refused_same s r e)
    stops (Ok _) (refused s) y f r e = ap (λ (q : Refusal). refusal t workWords workNumbers (Err q)) (refused_same s r e)
    stops (Err s) x y f r e = ap (λ (q : Refusal). refusal t workWords workNumbers (Err q)) (refused_same s r e)

    -- what was read is what is gone on with
    goes : (a : Answer) (x : Read A) (y : Read B) (f : A → B → Building) (hs : A) (js : B) → a ≡ Ok tt → x ≡ got hs → y ≡ got js
        → tested t workWords workNumbers a (when_read t workWords workNumbers x (λ hs. when_read t workWords workNumbers y (λ js. f hs js))) ≡ f hs js
    goes a x y f hs js ea ex ey = rw (ea, ex, ey)

    -- all were read
    all_read : (a : Answer) (x : Read A) (y : Read B) → and_then a (and_then (answer_of x) (answer_of y)) ≡ Ok tt
        → (a ≡ Ok tt) × (hs : A) × (x ≡ got hs) × (js : B) × (y ≡ got js)
    all_read (Ok _) (got hs) (got js) e = (refl, hs, refl, js, refl)
    all_read (Ok _) (got hs) (refused s) e = absurd (refused_not s tt e)
    all_read (Ok _) (refused s) y e = absurd (refused_not s tt e)
    all_read (Err s) x y e = absurd (refused_not s tt e)

  pub build_refused : (r : Refusal) → given_answer n i t workWords workNumbers ≡ Err r
      → build n i t workWords workNumbers ≡ record { answer = Err r; tables = t; work_words = workWords; work_numbers = workNumbers }
  unfolding given_answer build
  build_refused r e =
      stops first_tests (read_hamiltonian n i) (read_jumps n i)
      (λ (hs : List (RealTerm floats pauli)) (js : List (JumpOver floats pauli)). compiled_model n i t workWords workNumbers hs (map compile_jump js)) r e

  -- the same for the answer of the tests: a caller names neither side of an equation
  pub refused_so : (answer : Answer) (r : Refusal) → answer ≡ given_answer n i t workWords workNumbers → answer ≡ Err r
      → record { answer = Err r; tables = t; work_words = workWords; work_numbers = workNumbers } ≡ build n i t workWords workNumbers
  refused_so answer r e told = sym (build_refused r (sym e ∙ told))

-- ---- the count of each jump is that of its terms
jump_count : (gs : List Float) (cs : List ℕ) (ts : List GivenTerm) → length cs ≡ length gs → total cs ≤ length ts
    → (j : ℕ) (d : GivenJump) → j < length cs → length (get_or (jump_items gs (parts cs ts)) j d).terms ≡ get_or cs j 0
unfolding jump_items parts total
jump_count gs [] ts e h j d l = absurd (omega arith)
jump_count [] (c ∷ cs) ts e h j d l = absurd (omega arith)
jump_count (g ∷ gs) (c ∷ cs) ts e h zero d l = length-take-le c ts (omega arith)
jump_count (g ∷ gs) (c ∷ cs) ts e h (suc j) d l = jump_count gs cs (drop c ts) (omega arith) (omega (arith, length-drop c ts)) j d (omega arith)

pub length_jumps : (gs : List Float) (cs : List ℕ) (ts : List GivenTerm) → length cs ≡ length gs → length (jump_items gs (parts cs ts)) ≡ length cs
unfolding jump_items parts
length_jumps [] [] ts e = refl
length_jumps [] (c ∷ cs) ts e = absurd (omega arith)
length_jumps (g ∷ gs) [] ts e = absurd (omega arith)
length_jumps (g ∷ gs) (c ∷ cs) ts e = ap suc (length_jumps gs cs (drop c ts) (omega arith))

-- the jumps, from their terms' own lengths and texts
pub jumps_own : (i : Input) → jumps_given i ≡ jump_items i.rates (parts i.counts (term_items (parts (term_lengths i) (term_texts i)) (complexes i.numbers)))
jumps_own i =
    ap (λ (ts : List (List ℕ)). jump_items i.rates (parts i.counts (term_items ts (complexes i.numbers))))
    (drop_parts (length i.h_numbers) i.lengths i.texts)

-- ---- what is settled where all tests are passed
pub record Accepts (n : ℕ) (i : Input) (t : ModelTables) (workWords : List ℕ) (workNumbers : List Float) : Type 0 where
  pub within : n ≤ max_qubits
  pub few_reals : length i.h_numbers ≤ 4096
  pub few_jumps : length i.rates ≤ 4096
  pub lengths : LengthsFit i t workWords workNumbers
  pub build_is : build n i t workWords workNumbers
      ≡ compiled_model n i t workWords workNumbers (map (real_taken n) (real_items (parts (real_lengths i) i.texts) i.h_numbers))
      (jumps_compiled n i.rates i.counts (term_lengths i) (term_texts i) i.numbers)
  pub reals : RealsRoom i.texts (real_lengths i) i.h_numbers t.h_words t.h_coeffs
  pub jumps : JumpsFit i.counts (term_lengths i) (term_texts i) i.numbers
  pub work : JumpsWork i.counts workWords workNumbers
  pub entries_room : 8 * length i.rates ≤ length t.jumps
  pub rates_room : length i.rates ≤ length t.rates

module _ (n : ℕ) (i : Input) (t : ModelTables) (workWords : List ℕ) (workNumbers : List Float) where
  -- counts of at most 16
  module _ (f : LengthsFit i t workWords workNumbers) (js : List (JumpOver floats pauli)) (read : read_jumps n i ≡ got js) where
    abbrev terms : List GivenTerm
    terms = term_items (parts (term_lengths i) (term_texts i)) (complexes i.numbers)

    counts_few : (j : ℕ) → get_or i.counts j 0 ≤ 16
    counts_few j = go (dec_lt j (length i.counts))
      where
        go : Dec (j < length i.counts) → get_or i.counts j 0 ≤ 16
        go (yes h) =
            let d : GivenJump = record { rate = nan; terms = [] } in
            let many = length_jumps i.rates i.counts terms f.counts_each in
            let room = terms_count (term_lengths i) (term_texts i) i.numbers (terms_two i t workWords workNumbers f) in
            let count = jump_count i.rates i.counts terms f.counts_each (omega (arith, room, terms_counted i t workWords workNumbers f)) j d h in
            let few = jumps_few n 0 (jump_items i.rates (parts i.counts terms)) js (rw (sym (jumps_own i)) read) j d (omega (arith, many)) in
            omega (arith, count, few.1)
        go (no h) = let z = get_or-eq_default i.counts 0 {n = j} (omega arith) in omega (arith, z)

  pub build_accepted : given_answer n i t workWords workNumbers ≡ Ok tt → Accepts n i t workWords workNumbers
  unfolding given_answer build
  build_accepted e =
      let a = all_read n i t workWords workNumbers (first_tests n i t workWords workNumbers) (read_hamiltonian n i) (read_jumps n i) e in
      let e1 = passed (ltb max_qubits n) (TooManyQubits n max_qubits) _ a.0 in
      let e2 = counted_passed max_hamiltonian (length i.h_numbers) _ e1.1 in
      let e3 = counted_passed max_jumps (length i.rates) _ e2.1 in
      let f = lengths_fit i t workWords workNumbers e3.1 in
      let hs = a.1 in
      let js = a.3 in
      let count = reals_count i t workWords workNumbers f in
      record {
        within = ltb-false max_qubits n e1.0;
        few_reals = e2.0;
        few_jumps = e3.0;
        lengths = f;
        build_is =
            goes n i t workWords workNumbers (first_tests n i t workWords workNumbers) (read_hamiltonian n i) (read_jumps n i)
            (λ (hs : List (RealTerm floats pauli)) (js : List (JumpOver floats pauli)). compiled_model n i t workWords workNumbers hs (map compile_jump js))
            hs js a.0 a.2 a.4
            ∙ ap₂ (compiled_model n i t workWords workNumbers) (reals_taken n 0 (hamiltonian i) hs a.2)
            (ap (map compile_jump) (jumps_taken n 0 (jumps_given i) js a.4) ∙ map-map compile_jump (jump_taken n) (jumps_given i)
            ∙ ap (map (λ (j : GivenJump). compile_jump (jump_taken n j))) (jumps_own i));
        reals = record {
          numbers_each = count;
          texts_hold = reals_whole i t workWords workNumbers f;
          lanes_room = omega (arith, count, f.h_words_room);
          coeffs_room = omega (arith, count, f.h_coeffs_room);
        };
        jumps = record {
          many = omega (arith, e3.0, f.counts_each);
          few = counts_few f js a.4;
          terms = terms_counted i t workWords workNumbers f;
          texts = record { two = terms_two i t workWords workNumbers f; whole = terms_texts i t workWords workNumbers f };
        };
        work = λ some.
            let any : 0 < length i.rates = omega (arith, some, f.counts_each) in
            record {
              lanes_long = omega (arith, need_some _ _ _ any f.work_words_room);
              numbers_long = omega (arith, need_some _ _ _ any f.work_numbers_room);
              few = omega arith;
            };
        entries_room = omega (arith, f.jumps_room);
        rates_room = f.rates_room;
      }
