-- SPDX-FileCopyrightText: 2026 The PPVM Authors
-- SPDX-License-Identifier: Apache-2.0

-- Where the tables have room for all, none of them decides: building and adding answer what is defined without them, so neither
-- 13 nor 9 for a lent table. Assumes nothing.
use mathlib.Core.Path.{◌≡◌, refl, ap, ◌∙◌, subst⁻¹}
use mathlib.Core.Bool.{Bool, true, false, cond}
use mathlib.Core.List.{List, [], ◌∷◌, ◌++◌, map}
use Prim.Native.Nat.{ℕ, ◌+◌, ◌*◌, ◌/◌, ◌≤◌, min}
use native.Mathlib.Decide.{dec_le}
use native.Mathlib.Nat.{le_trans, mul-le-mul, mul-le-mul_right}
use native.Mathlib.Omega.{arith}
use borrow.Author.Tests.{eqb-true, ltb-false, le-ltb}
use lib.Dec.{eqb, ltb}
use lib.Ieee.{Float}
use lib.ListN.{length, get_or, drop, length-map}
use Rattle.refusal.specs.declared.Refusal.TheVariants.{TooManyQubits, CountAboveLimit, LengthMismatch, TableFull}
use Rattle.std.specs.Prelude.{Result, Ok, Err}
use Rattle.refusal.specs.declared.Refusal.{Refusal}
use Rattle.refusal.specs.Cause.{Answer}
use Rattle.word.specs.Flat.{word_lanes}
use Rattle.word.specs.Word.{max_qubits}
use Rattle.number.specs.Floats.{floats}
use Rattle.gksl.specs.Model.{RealTerm, JumpOver}
use Rattle.gksl.specs.Words.{pauli}
use Rattle.sums.specs.Numbers.{complexes}
use Rattle.model.specs.Stored.{ModelTables}
use Rattle.model.specs.Tested.{max_hamiltonian, max_jumps, test_model}
use Rattle.model.specs.Fails.{number_fails}
use Rattle.model_build.specs.Given.{GivenTerm, max_terms, read_operator, read_jump}
use Rattle.model_build.specs.Compiled.{Compiled, compile_jump}
use Rattle.model_build.specs.Taken.{term_taken, jump_taken}
use Rattle.model_build.specs.Built.{parts, term_items, jump_items, parts_fit, term_places, work_places, terms_of, Building, finished, tested, when_read}
use Rattle.model_build.specs.Built as Compiling
use Rattle.model_build.specs.Work.{operator_taken}
use Rattle.model.specs.declared.stored.Model.{Model}
use Rattle.lent.specs.Tests.{counted, lent, where_any, entries, and_then, equal}
use Rattle.lent.proofs.Passed.{passed, both, counted_passed}
use Rattle.lent.proofs.NeedLaws.{need_mono}
use Rattle.model_build.proofs.Parts.{fit_total, length_parts}
use Rattle.model_build.proofs.TakenLaws.{jumps_taken}
use Rattle.k_matrix.specs.Matrix.{hermitian, pair_places}
use Rattle.k_matrix.specs.Pairs.{pairs_of}
use Rattle.k_matrix.specs.Added.{operators, operators_given, matrix, max_operators, entries_needed, work_needed, read_operators, all_terms, matrix_tests, compiled_matrix}
use Rattle.k_matrix.specs.Added as Adding
use Rattle.k_matrix.specs.Work.{matrix_answer}
use Rattle.kossakowski.proofs.AddLaws.{operators_are}
use Rattle.kossakowski.proofs.CompiledLaws.{total_most}
use Rattle.kossakowski.proofs.MatrixAccepted.{matrix_accepted}
use Rattle.lent.specs.Every.{Every}
use Rattle.lent.proofs.Lists.{every_weaken, every_both, every_map}
use Rattle.model_laws.specs.BuiltFrom.{answered, answered_read, built_from, ModelCounts, ModelRoom}
use Rattle.model_laws.specs.BuiltFrom as BuiltFrom
use Rattle.model_laws.specs.AddedFrom.{added_from, matrix_places, MatrixCounts, MatrixRoom}
use Rattle.model_laws.specs.AddedFrom as AddedFrom
use Rattle.model_laws.proofs.ReadItems.{JumpGood, operator_read, jump_read, each_every}
use Rattle.model_laws.proofs.BuiltLaws.{jumps_few}
use Rattle.model_laws.proofs.SizesLaws.{parts_every, jumps_fit, pairs_up, pairs_fit}
use Rattle.lent.specs.Read.{Read, got, refused}
use Rattle.model.specs.Terms.{Term}

-- ---- tests with the same answer after them, where they are passed
equal_same : (needed have : ℕ) (a b : Answer) → (have ≡ needed → a ≡ b) → equal needed have a ≡ equal needed have b
equal_same needed have a b h = go (eqb have needed) refl
  where
    go : (x : Bool) → eqb have needed ≡ x → cond x a (Err (LengthMismatch needed have)) ≡ cond x b (Err (LengthMismatch needed have))
    go true e = h (eqb-true have needed e)
    go false e = refl

then_same : (x a b : Answer) → (x ≡ Ok tt → a ≡ b) → and_then x a ≡ and_then x b
then_same (Ok _) a b h = h refl
then_same (Err r) a b h = refl

counted_same : (limit count : ℕ) (a b : Answer) → (count ≤ limit → a ≡ b) → counted limit count a ≡ counted limit count b
counted_same limit count a b h = go (ltb limit count) refl
  where
    go : (x : Bool) → ltb limit count ≡ x → cond x (Err (CountAboveLimit count)) a ≡ cond x (Err (CountAboveLimit count)) b
    go true e = refl
    go false e = h (ltb-false limit count e)

module _ (t : ModelTables) (workWords : List ℕ) (workNumbers : List Float) where
  tested_answer : (x : Answer) (after : Building) (b : Result Model Refusal) → (x ≡ Ok tt → after.answer ≡ b) → (tested t workWords workNumbers x after).answer ≡ answered x b
  tested_answer (Ok _) after b h = h refl
  tested_answer (Err r) after b h = refl

  read_answer : {A : Type 0} (x : Read A) (f : A → Building) (g : A → Result Model Refusal) → ((a : A) → x ≡ got a → (f a).answer ≡ g a) → (when_read t workWords workNumbers x f).answer ≡ answered_read x g
  read_answer (got a) f g h = h a refl
  read_answer (refused r) f g h = refl

  room_answer : (places terms : ℕ) (made : Model) (after : ModelTables) → terms ≤ places
      → (cond (ltb places terms) (finished t workWords workNumbers (Err (TableFull 4 places)) t) (finished t workWords workNumbers (Ok made) after)).answer ≡ Ok made
  room_answer places terms made after h = rw (le-ltb places terms h)

-- ---- building
items_every : (P : ℕ → Type 0) (gs : List Float) (ts : List (List GivenTerm)) → Every (λ l. P (length l)) ts → Every (λ g. P (length g.terms)) (jump_items gs ts)
unfolding jump_items
items_every P [] ts h = tt
items_every P (g ∷ gs) [] h = tt
items_every P (g ∷ gs) (t ∷ ts) h = (h.0, items_every P gs ts h.1)

module _ (n h j c : ℕ) (i : Compiling.Input) (few : ModelCounts h j c i) (t : ModelTables) (workWords : List ℕ) (workNumbers : List Float) (room : ModelRoom h j c t workWords workNumbers) where
  lengths_built : length i.h_numbers ≤ max_hamiltonian → length i.rates ≤ max_jumps → Compiling.lengths_answer i t workWords workNumbers ≡ BuiltFrom.own_lengths i
  unfolding Compiling.lengths_answer BuiltFrom.own_lengths
  lengths_built p q =
      let h1 : length i.h_numbers ≤ length t.h_words / word_lanes = omega (arith, few.reals, room.h_words) in
      let h2 : length i.h_numbers ≤ length t.h_coeffs = omega (arith, few.reals, room.h_coeffs) in
      let h3 : length i.rates ≤ length t.jumps / 8 = omega (arith, few.jumps, room.jumps) in
      let h4 : length i.rates ≤ length t.rates = omega (arith, few.jumps, room.rates) in
      let up = need_mono (length i.rates) j work_places work_places (omega (arith, few.jumps, q)) (omega arith) in
      let h5 : where_any (length i.rates) work_places ≤ length workWords / word_lanes = omega (arith, up, room.work_words) in
      let h6 : where_any (length i.rates) work_places ≤ length workNumbers / 2 = omega (arith, up, room.work_numbers) in
      rw (le-ltb _ _ h1, le-ltb _ _ h2, le-ltb _ _ h3, le-ltb _ _ h4, le-ltb _ _ h5, le-ltb _ _ h6)

  module _ (q : length i.rates ≤ max_jumps) (js : List (JumpOver floats pauli)) (read : Compiling.read_jumps n i ≡ got js) where
    abbrev terms : List (List GivenTerm)
    terms = parts i.counts (term_items (drop (length i.h_numbers) (parts i.lengths i.texts)) (complexes i.numbers))

    jumps_most : length js ≤ j
    jumps_most =
        omega (arith, few.jumps, q, ap length (jumps_taken n 0 (Compiling.jumps_given i) js read), length-map (Compiling.jumps_given i) (jump_taken n), jumps_few i.rates terms)

    given_most : Every (λ x. min (length x.op) max_terms ≤ c) js
    given_most =
        let P : ℕ → Type 0 = λ k. min k max_terms ≤ c in
        subst⁻¹ (Every (λ x. min (length x.op) max_terms ≤ c)) (jumps_taken n 0 (Compiling.jumps_given i) js read)
        (every_map (λ x. min (length x.op) max_terms ≤ c) (jump_taken n) (Compiling.jumps_given i)
        (every_weaken (λ g. min (length g.terms) max_terms ≤ c) (λ g. min (length (jump_taken n g).op) max_terms ≤ c) (λ g l. omega (arith, l, length-map g.terms (term_taken n))) (Compiling.jumps_given i)
        (items_every P i.rates terms (parts_every P (λ a b l k. omega arith) i.counts _ few.terms))))

    op_most : Every (λ x. length x.op ≤ c) js
    op_most =
        every_weaken (λ x. (min (length x.op) max_terms ≤ c) × JumpGood n x) (λ x. length x.op ≤ c) (λ x k. omega (arith, k.0, k.1.few)) js
        (every_both (λ x. min (length x.op) max_terms ≤ c) (JumpGood n) js given_most (each_every (JumpGood n) (read_jump n) (jump_read n) 0 (Compiling.jumps_given i) js read))

    terms_room : length (terms_of (map compile_jump js)) ≤ term_places t
    terms_room =
        let most : length (terms_of (map compile_jump js)) ≤ j * (c + c * c) = le_trans (jumps_fit c js op_most) (mul-le-mul_right (c + c * c) jumps_most) in
        omega (arith, most, room.t_words, room.t_numbers)

  abbrev made : List (RealTerm floats pauli) → List Compiled → Model
  made hs cs = record { qubits = n; hamiltonian = length hs; jumps = length cs; terms = length (terms_of cs) }

  abbrev limits : Answer → Answer
  limits a = cond (ltb max_qubits n) (Err (TooManyQubits n max_qubits)) (counted max_hamiltonian (length i.h_numbers) (counted max_jumps (length i.rates) a))

  limits_same : limits (Compiling.lengths_answer i t workWords workNumbers) ≡ limits (BuiltFrom.own_lengths i)
  limits_same =
      ap (cond (ltb max_qubits n) (Err (TooManyQubits n max_qubits)))
      (counted_same max_hamiltonian (length i.h_numbers) _ _ (λ p. counted_same max_jumps (length i.rates) _ _ (λ q. lengths_built p q)))

  pub build_answer : (Compiling.build n i t workWords workNumbers).answer ≡ built_from n i
  unfolding Compiling.build built_from
  build_answer =
      let after : Result Model Refusal = answered_read (Compiling.read_hamiltonian n i) (λ hs. answered_read (Compiling.read_jumps n i) (λ js. Ok (made hs (map compile_jump js)))) in
      tested_answer t workWords workNumbers (limits (Compiling.lengths_answer i t workWords workNumbers))
      (when_read t workWords workNumbers (Compiling.read_hamiltonian n i) (λ hs. when_read t workWords workNumbers (Compiling.read_jumps n i) (λ js. Compiling.compiled_model n i t workWords workNumbers hs (map compile_jump js)))) after
      (λ first.
      let e1 = passed (ltb max_qubits n) (TooManyQubits n max_qubits) _ first in
      let e2 = counted_passed max_hamiltonian (length i.h_numbers) _ e1.1 in
      let e3 = counted_passed max_jumps (length i.rates) _ e2.1 in
      read_answer t workWords workNumbers (Compiling.read_hamiltonian n i) (λ hs. when_read t workWords workNumbers (Compiling.read_jumps n i) (λ js. Compiling.compiled_model n i t workWords workNumbers hs (map compile_jump js)))
      (λ hs. answered_read (Compiling.read_jumps n i) (λ js. Ok (made hs (map compile_jump js))))
      (λ hs _.
      read_answer t workWords workNumbers (Compiling.read_jumps n i) (λ js. Compiling.compiled_model n i t workWords workNumbers hs (map compile_jump js)) (λ js. Ok (made hs (map compile_jump js)))
      (λ js read.
      room_answer t workWords workNumbers (term_places t) (length (terms_of (map compile_jump js))) (made hs (map compile_jump js)) (Compiling.stored hs (map compile_jump js) t) (terms_room e3.0 js read))))
      ∙ ap (λ (a : Answer). answered a after) limits_same

-- ---- adding
module _ (k c : ℕ) (m : Model) (i : Adding.Input) (few : MatrixCounts k c i) (t : ModelTables) (workWords : List ℕ) (workNumbers : List Float) (room : MatrixRoom k c m t workWords workNumbers) where
  module _ (p : operators i ≤ max_operators) where
    ops_few : operators i ≤ k
    ops_few = omega (arith, p, few.operators)

    abbrev terms_given : ℕ
    terms_given = length i.numbers / 2

    -- up to the limit of each operator
    terms_few : parts_fit i.counts terms_given ≡ Ok tt → min terms_given (max_terms * operators i) ≤ k * c
    terms_few e = go (dec_le max_terms c)
      where
        go : Dec (max_terms ≤ c) → min terms_given (max_terms * operators i) ≤ k * c
        go (yes h) = let most : operators i * max_terms ≤ k * c = mul-le-mul ops_few h in omega (arith, most)
        go (no h) =
            let counts : (j : ℕ) → get_or i.counts j 0 ≤ c = λ j. omega (arith, few.terms j, h) in
            omega (arith, fit_total i.counts terms_given e, le_trans (total_most c i.counts counts) (mul-le-mul_right c ops_few))

    work_few : parts_fit i.counts terms_given ≡ Ok tt → work_needed (operators i) terms_given ≤ work_needed k (k * c)
    work_few e = need_mono (operators i) k _ _ ops_few (omega (arith, terms_few e, ops_few))

    lent_same : parts_fit i.counts terms_given ≡ Ok tt
        → lent (entries_needed m (operators i)) (length t.jumps / 8) (lent (entries_needed m (operators i)) (length t.rates)
        (lent (work_needed (operators i) terms_given) (length workWords / word_lanes) (lent (work_needed (operators i) terms_given) (length workNumbers / 2) (Ok tt)))) ≡ Ok tt
    lent_same e =
        let up = pairs_up (operators i) k ops_few in
        let w = work_few e in
        let h1 : entries_needed m (operators i) ≤ length t.jumps / 8 = omega (arith, up, room.jumps) in
        let h2 : entries_needed m (operators i) ≤ length t.rates = omega (arith, up, room.rates) in
        let h3 : work_needed (operators i) terms_given ≤ length workWords / word_lanes = omega (arith, w, room.work_words) in
        let h4 : work_needed (operators i) terms_given ≤ length workNumbers / 2 = omega (arith, w, room.work_numbers) in
        rw (le-ltb _ _ h1, le-ltb _ _ h2, le-ltb _ _ h3, le-ltb _ _ h4)

    lengths_added : Adding.lengths_answer m i t workWords workNumbers ≡ AddedFrom.own_lengths i
    unfolding Adding.lengths_answer AddedFrom.own_lengths
    lengths_added =
        equal_same (operators i * operators i) (length i.k / 2) _ _ (λ _.
        equal_same (operators i * operators i * 2) (length i.k) _ _ (λ _.
        equal_same terms_given (length i.lengths) _ _ (λ _.
        equal_same (terms_given * 2) (length i.numbers) _ _ (λ _.
        then_same (parts_fit i.counts terms_given) _ _ (λ e.
        then_same (parts_fit i.lengths (length i.texts)) _ _ (λ _.
        lent_same e))))))

    module _ (As : List (List Term)) (read : read_operators m.qubits i ≡ got As) where
      abbrev cs : List Compiled
      cs = pairs_of m.terms i.counts (matrix i) As

      operators_read : As ≡ parts i.counts (operator_taken m.qubits i.lengths i.texts i.numbers)
      operators_read = operators_are m.qubits i As read

      operators_most : Every (λ A. length A ≤ c) As
      operators_most =
          let given : Every (λ A. min (length A) max_terms ≤ c) As =
          subst⁻¹ (Every (λ A. min (length A) max_terms ≤ c)) operators_read (parts_every (λ k. min k max_terms ≤ c) (λ a b l h. omega arith) i.counts _ few.terms) in
          let tested = each_every (λ (A : List Term). length A ≤ max_terms) (read_operator m.qubits) (λ j gs A e. (operator_read m.qubits j gs A e).0) 0 (operators_given i) As read in
          every_weaken (λ A. (min (length A) max_terms ≤ c) × (length A ≤ max_terms)) (λ A. length A ≤ c) (λ A h. omega (arith, h.0, h.1)) As
          (every_both (λ A. min (length A) max_terms ≤ c) (λ A. length A ≤ max_terms) As given tested)

      pairs_room : m.terms + length (all_terms As ++ terms_of cs) ≤ term_places t
      pairs_room =
          let number : length As ≤ k = omega (arith, ops_few, ap length operators_read, length_parts i.counts (operator_taken m.qubits i.lengths i.texts i.numbers)) in
          let most : length (all_terms As ++ terms_of cs) ≤ matrix_places k c = pairs_fit m.terms k c i.counts (matrix i) As ops_few number operators_most in
          omega (arith, most, room.t_words, room.t_numbers)

  abbrev own_tests : Answer
  own_tests =
      and_then (test_model m t)
      (counted max_operators (operators i)
      (and_then (AddedFrom.own_lengths i)
      (entries (operators i * operators i) (number_fails i.k)
      (hermitian (operators i) (matrix i) (Ok tt)))))

  tests_same : matrix_tests m i t workWords workNumbers ≡ own_tests
  unfolding matrix_tests
  tests_same =
      then_same (test_model m t) _ _ (λ _. counted_same max_operators (operators i) _ _ (λ p.
      ap (λ (a : Answer). and_then a (entries (operators i * operators i) (number_fails i.k) (hermitian (operators i) (matrix i) (Ok tt)))) (lengths_added p)))

  tests_few : matrix_tests m i t workWords workNumbers ≡ Ok tt → operators i ≤ max_operators
  unfolding matrix_tests
  tests_few e = (counted_passed max_operators (operators i) _ (both (test_model m t) _ e).1).0

  abbrev larger : List (List Term) → Model
  larger As =
      let cs : List Compiled = pairs_of m.terms i.counts (matrix i) As in
      record { qubits = m.qubits; hamiltonian = m.hamiltonian; jumps = m.jumps + length cs; terms = m.terms + length (all_terms As ++ terms_of cs) }

  pub add_answer : (Adding.add m i t workWords workNumbers).answer ≡ added_from m i t
  unfolding Adding.add added_from
  add_answer =
      let pairs : Answer = counted max_jumps (m.jumps + length (pair_places floats (operators i) (matrix i))) (Ok tt) in
      let after : Result Model Refusal = answered_read (read_operators m.qubits i) (λ As. answered pairs (Ok (larger As))) in
      tested_answer t workWords workNumbers (matrix_tests m i t workWords workNumbers)
      (when_read t workWords workNumbers (read_operators m.qubits i) (λ As. tested t workWords workNumbers pairs (compiled_matrix m i t workWords workNumbers As))) after
      (λ first.
      read_answer t workWords workNumbers (read_operators m.qubits i) (λ As. tested t workWords workNumbers pairs (compiled_matrix m i t workWords workNumbers As)) (λ As. answered pairs (Ok (larger As)))
      (λ As read.
      tested_answer t workWords workNumbers pairs (compiled_matrix m i t workWords workNumbers As) (Ok (larger As))
      (λ _.
      room_answer t workWords workNumbers (term_places t) (larger As).terms (larger As) (Adding.stored m i t workWords workNumbers As (pairs_of m.terms i.counts (matrix i) As)) (pairs_room (tests_few first) As read))))
      ∙ ap (λ (a : Answer). answered a after) tests_same

  -- what passes every test but 13 is added
  pub added_model : matrix_answer m i t workWords workNumbers ≡ Ok tt → (m' : Model) × ((Adding.add m i t workWords workNumbers).answer ≡ Ok m')
  added_model e =
      let a = matrix_accepted m i t workWords workNumbers e in (
        larger a.As,
        ap (λ (b : Building). b.answer) a.add_is
            ∙ room_answer t workWords workNumbers (term_places t) (larger a.As).terms (larger a.As) (Adding.stored m i t workWords workNumbers a.As (pairs_of m.terms i.counts (matrix i) a.As)) (pairs_room a.few a.As a.read),
      )
