-- SPDX-FileCopyrightText: 2026 The PPVM Authors
-- SPDX-License-Identifier: Apache-2.0

-- The rules over what is stored in the tables of a model that was built, with the matrices added to it, in whatever tables it is lent,
-- are the rules over what was given, bit for bit. Assumes nothing.
use mathlib.Core.Path.{◌≡◌, refl, sym, ap, ap₂, ◌∙◌}
use mathlib.Core.List.{List, [], ◌∷◌, ◌++◌, map, append-nil, append_assoc}
use Prim.Native.Nat.{ℕ, ◌+◌}
use native.Mathlib.Omega.{arith}
use lib.Ieee.{Float}
use lib.ListN.{length, set, length-map, length-set}
use Rattle.std.specs.Prelude.{Ok}
use Rattle.word.specs.Word.{Sound}
use Rattle.word.specs.Flat.{words, lay_word}
use Rattle.word.specs.declared.word.Word.{Word}
use Rattle.number.specs.Numbers.{largest_over}
use Rattle.number.specs.Floats.{floats}
use Rattle.gksl.specs.Model.{RealTerm, JumpOver, MatrixOver, ModelOver, entry_in, entry_over, rows_over}
use Rattle.gksl.specs.Rules.{terms_over, jumps_over, matrix_over, matrices_over, rules_over}
use Rattle.gksl.specs.Words.{pauli}
use Rattle.sums.specs.Numbers.{complexes, lay_number}
use Rattle.sums.specs.Sums.{rows}
use Rattle.model.specs.Stored.{ModelTables, lay_entry}
use Rattle.model.specs.Tested.{test_model}
use Rattle.model_build.specs.Given.{read_real, read_jump}
use Rattle.lent.specs.Read.{got}
use Rattle.model.specs.Terms.{Term}
use Rattle.lent.specs.Laid.{laid}
use Rattle.model.specs.Stands.{Stands}
use Rattle.model.proofs.StandsLaws.{tested_stands}
use Rattle.model_build.specs.Compiled.{Compiled, compile_jump}
use Rattle.model_build.specs.Built.{hamiltonian, jumps_given, read_hamiltonian, read_jumps, entries_from, terms_of, rates_of}
use Rattle.model_build.specs.Built as Building
use Rattle.model.specs.declared.stored.Model.{Model}
use Rattle.lent.specs.Every.{Every}
use Rattle.lent.proofs.Lists.{every_of, every_weaken, every_append, every_map}
use Rattle.lent.proofs.LaidLaws.{laid_length}
use Rattle.k_matrix.specs.Matrix.{pair_places}
use Rattle.k_matrix.specs.Pairs.{pairs_of}
use Rattle.k_matrix.specs.Added.{operators, matrix, read_operators, all_terms}
use Rattle.k_matrix.specs.Added as Adding
use Rattle.model_laws.specs.Extended.{Additions, larger, extended}
use Rattle.model_laws.proofs.LaidLaws.{word_length, number_length, entry_length}
use Rattle.model_laws.proofs.ReadItems.{JumpGood, real_read, jump_read, each_every}
use Rattle.model_laws.proofs.CompiledLaws.{TermGood, CompiledGood, compiled_good, entries_length, terms_good, entries_good}
use Rattle.model_laws.proofs.BuiltLaws.{empty, built_passes}
use Rattle.model_laws.proofs.AddedLaws.{added_passes}
use Rattle.rule_terms.specs.Adds.{reals_in, jumps_in, jump_adds, pair_adds, gather_jumps, rules_stored}
use Rattle.in_use.proofs.SameModels.{same_passes, same_rules}
use Rattle.action_laws.specs.Made.{Made, built, added, lent, with_matrix}
use Rattle.action_laws.proofs.LaidTerms.{holds_left, holds_right, laid_holds}
use Rattle.action_laws.proofs.ExtendedItems.{Laying, jumps_from, reals_read, jumps_read, gathered_both, jumps_stay, pairs_stay}
use Rattle.action_laws.proofs.JumpRules.{jumps_add, jumps_no_pairs}
use Rattle.action_laws.proofs.MatrixRules.{Counted, counted_length, no_jumps, pairs_add}
use Rattle.action_laws.proofs.OperatorsRead.{operators_good, operators_laid, operators_counted, pairs_laid, pairs_eight}
use Rattle.action_laws.proofs.MadeParts.{built_is, added_is}
use Rattle.word.specs.Count.{up_to}

-- a model that was made passes the test
pub made_passes : (g : ModelOver floats pauli) (m : Model) (t : ModelTables) → Made g m t → test_model m t ≡ Ok tt
made_passes _ _ _ (built n i t workWords workNumbers m hs js answer reals jumps) = built_passes n i t workWords workNumbers m answer
made_passes _ _ _ (added g m t made i workWords workNumbers m' As answer read) = added_passes m i t workWords workNumbers m' answer
made_passes _ _ _ (lent g m t t' made same) = same_passes m t t' same (made_passes g m t made)

-- ---- there was room for what stands
laying_of : (m : Model) (t : ModelTables) (a : Additions) → Stands (larger m a) (extended m t a) → length a.rates ≡ length a.entries
    → Every (λ h. Sound h.word) a.reals → Every (λ e. length e ≡ 8) a.entries → Every (λ z. Sound z.word) a.terms → Laying m t a
unfolding extended
laying_of m t a s rates reals eight terms = record {
  rates_each = rates;
  reals = reals;
  eight = eight;
  terms = terms;
  h_words_room = omega (arith, s.h_words_room, laid_length lay_word word_length m.hamiltonian (map (λ (h : RealTerm floats pauli). h.word) a.reals) t.h_words);
  h_coeffs_room = omega (arith, s.h_coeffs_room, laid_length set length-set m.hamiltonian (map (λ (h : RealTerm floats pauli). h.num) a.reals) t.h_coeffs);
  jumps_room = omega (arith, s.jumps_room, laid_length lay_entry entry_length m.jumps a.entries t.jumps);
  rates_room = omega (arith, s.rates_room, laid_length set length-set m.jumps a.rates t.rates);
  t_words_room = omega (arith, s.t_words_room, laid_length lay_word word_length m.terms (map (λ (z : Term). z.word) a.terms) t.t_words);
  t_numbers_room = omega (arith, s.t_numbers_room, laid_length lay_number number_length m.terms (map (λ (z : Term). z.num) a.terms) t.t_numbers);
}

-- ---- building
module _ (n : ℕ) (i : Building.Input) (t : ModelTables) (workWords : List ℕ) (workNumbers : List Float) (m : Model) (hs : List (RealTerm floats pauli)) (js : List (JumpOver floats pauli))
    (answer : (Building.build n i t workWords workNumbers).answer ≡ Ok m) (reals : read_hamiltonian n i ≡ got hs) (read : read_jumps n i ≡ got js) where
  abbrev compiled_jumps : List Compiled
  compiled_jumps = map compile_jump js

  abbrev given : Additions
  given = record { reals = hs; entries = entries_from 0 compiled_jumps; rates = rates_of compiled_jumps; terms = terms_of compiled_jumps }

  abbrev after : ModelTables
  after = extended (empty n) t given

  model_is : larger (empty n) given ≡ m
  model_is =
      let h : 0 + length hs ≡ length hs = omega arith in
      let j : 0 + length (entries_from 0 compiled_jumps) ≡ length compiled_jumps = omega (arith, entries_length 0 compiled_jumps) in
      let z : 0 + length (terms_of compiled_jumps) ≡ length (terms_of compiled_jumps) = omega arith in
      (λ k. record { qubits = n; hamiltonian = h k; jumps = j k; terms = z k }) ∙ (built_is n i t workWords workNumbers m hs js answer reals read).0

  tables_are : (Building.build n i t workWords workNumbers).tables ≡ after
  unfolding extended Building.stored
  tables_are = (built_is n i t workWords workNumbers m hs js answer reals read).1

  compiled : Every (CompiledGood n) compiled_jumps
  compiled = every_map (CompiledGood n) compile_jump js (every_weaken (JumpGood n) _ (compiled_good n) js (each_every (JumpGood n) (read_jump n) (jump_read n) 0 (jumps_given i) js read))

  laying : Laying (empty n) t given
  laying =
      let many = entries_length 0 compiled_jumps in
      laying_of (empty n) t given
      (tested_stands (larger (empty n) given) after (ap₂ test_model model_is (sym tables_are) ∙ built_passes n i t workWords workNumbers m answer))
      (length-map compiled_jumps (λ (c : Compiled). c.rate) ∙ sym many)
      (every_weaken _ (λ h. Sound h.word) (λ h g. g.0) hs (each_every _ (read_real n) (real_read n) 0 (hamiltonian i) hs reals))
      (every_of _ (entries_from 0 compiled_jumps) [] (λ j l. (entries_good n 0 compiled_jumps compiled j (omega (arith, l, many))).eight))
      (every_weaken (TermGood n) (λ z. Sound z.word) (λ z g. g.0) (terms_of compiled_jumps) (terms_good n compiled_jumps compiled))

  module _ (p : Word) where
    jumps_are : jumps_in (larger (empty n) given) after ≡ jumps_from 0 compiled_jumps
    unfolding up_to
    jumps_are = jumps_read (empty n) t given laying 0 compiled_jumps refl refl

    jumps_added : gather_jumps (jump_adds p after) (jumps_in (larger (empty n) given) after) ≡ jumps_over floats pauli js p
    unfolding extended
    jumps_added =
        ap (gather_jumps (jump_adds p after)) jumps_are
        ∙ jumps_add p after js 0 (laid_holds 0 (terms_of compiled_jumps) t.t_words t.t_numbers laying.terms laying.t_words_room laying.t_numbers_room)

    reals_added : terms_over floats pauli (reals_in (larger (empty n) given) after) p ≡ terms_over floats pauli hs p
    unfolding up_to
    reals_added = ap (λ (H : List (RealTerm floats pauli)). terms_over floats pauli H p) (reals_read (empty n) t given laying)

    built_rules : rules_stored m (Building.build n i t workWords workNumbers).tables p ≡ rules_over floats pauli (record { terms = hs; jumps = js; matrices = [] }) p
    unfolding rules_stored rules_over matrices_over
    built_rules =
        ap₂ (λ (m : Model) (t : ModelTables). rules_stored m t p) (sym model_is) tables_are
        ∙ ap₂ (λ (a b : List Term). a ++ b) reals_added
        (ap₂ (λ (a b : List Term). a ++ b) jumps_added (ap (gather_jumps (pair_adds p after)) jumps_are ∙ jumps_no_pairs p after js 0))

-- ---- adding a matrix
matrices_last : (Ks : List (MatrixOver floats pauli)) (k : MatrixOver floats pauli) (p : Word)
    → matrices_over floats pauli (Ks ++ (k ∷ [])) p
    ≡ matrices_over floats pauli Ks p ++ matrix_over floats pauli (largest_over floats k.entries) (entry_over floats pauli k) (rows_over floats pauli 0 k.ops) p
unfolding matrices_over
matrices_last [] k p = append-nil _
matrices_last (j ∷ Ks) k p =
    let first : List Term = matrix_over floats pauli (largest_over floats j.entries) (entry_over floats pauli j) (rows_over floats pauli 0 j.ops) p in
    ap (λ (l : List Term). first ++ l) (matrices_last Ks k p) ∙ sym (append_assoc first (matrices_over floats pauli Ks p) _)

-- what comes last comes last
at_the_end : (a b c d : List Term) → a ++ (b ++ (c ++ d)) ≡ (a ++ (b ++ c)) ++ d
at_the_end a b c d = ap (λ (l : List Term). a ++ l) (sym (append_assoc b c d)) ∙ sym (append_assoc a (b ++ c) d)

module _ (m : Model) (t : ModelTables) (tested : test_model m t ≡ Ok tt) (i : Adding.Input) (workWords : List ℕ) (workNumbers : List Float) (m' : Model) (As : List (List Term))
    (answer : (Adding.add m i t workWords workNumbers).answer ≡ Ok m') (read : read_operators m.qubits i ≡ got As) where
  abbrev pairs : List Compiled
  pairs = pairs_of m.terms i.counts (matrix i) As

  abbrev from : ℕ
  from = m.terms + length (all_terms As)

  abbrev more : Additions
  more = record { reals = []; entries = entries_from from pairs; rates = rates_of pairs; terms = all_terms As ++ terms_of pairs }

  abbrev then : ModelTables
  then = extended m t more

  larger_is : larger m more ≡ m'
  larger_is =
      let h : m.hamiltonian + 0 ≡ m.hamiltonian = omega arith in
      let j : m.jumps + length (entries_from from pairs) ≡ m.jumps + length pairs = omega (arith, entries_length from pairs) in
      (λ k. record { qubits = m.qubits; hamiltonian = h k; jumps = j k; terms = m.terms + length (all_terms As ++ terms_of pairs) })
      ∙ (added_is m i t workWords workNumbers m' As answer read).1

  then_is : (Adding.add m i t workWords workNumbers).tables ≡ then
  unfolding extended Adding.stored laid
  then_is = (added_is m i t workWords workNumbers m' As answer read).2

  counted : Counted As i.counts
  counted =
      let fit = (added_is m i t workWords workNumbers m' As answer read).0.lengths in
      operators_counted m.qubits i As read fit.terms_counted fit.numbers_two

  more_laid : Laying m t more
  more_laid =
      laying_of m t more
      (tested_stands (larger m more) then (ap₂ test_model larger_is (sym then_is) ∙ added_passes m i t workWords workNumbers m' answer))
      (length-map pairs (λ (c : Compiled). c.rate) ∙ sym (entries_length from pairs))
      tt
      (pairs_eight m.terms i.counts (matrix i) As (pair_places floats (operators i) (matrix i)) from)
      (every_append (λ z. Sound z.word) (all_terms As) (terms_of pairs) (operators_laid m.qubits i As read)
      (pairs_laid m.qubits m.terms i.counts (matrix i) As (counted_length As i.counts counted) (operators_good m.qubits i As read)))

  module _ (p : Word) where
    abbrev matrix_adds : List Term
    matrix_adds = matrix_over floats pauli (largest_over floats (matrix i)) (entry_in floats (length As) (matrix i)) (rows_over floats pauli 0 As) p

    both_are : jumps_in (larger m more) then ≡ jumps_in m t ++ jumps_from from pairs
    both_are = jumps_read m t more more_laid from pairs refl refl

    reals_same : reals_in (larger m more) then ≡ reals_in m t
    reals_same = reals_read m t more more_laid ∙ append-nil (reals_in m t)

    jumps_same : gather_jumps (jump_adds p then) (jumps_in (larger m more) then) ≡ gather_jumps (jump_adds p t) (jumps_in m t)
    jumps_same =
        ap (gather_jumps (jump_adds p then)) both_are ∙ gathered_both (jump_adds p then) (jumps_in m t) (jumps_from from pairs)
        ∙ ap₂ (λ (a b : List Term). a ++ b) (jumps_stay m t more (tested_stands m t tested) more_laid p)
        (no_jumps p i.counts (matrix i) As then m.terms (pair_places floats (operators i) (matrix i)) from)
        ∙ append-nil (gather_jumps (jump_adds p t) (jumps_in m t))

    pairs_more : gather_jumps (pair_adds p then) (jumps_in (larger m more) then) ≡ gather_jumps (pair_adds p t) (jumps_in m t) ++ matrix_adds
    unfolding extended
    pairs_more =
        let all = laid_holds m.terms (all_terms As ++ terms_of pairs) t.t_words t.t_numbers more_laid.terms more_laid.t_words_room more_laid.t_numbers_room in
        let R : List Term = rows (words then.t_words) (complexes then.t_numbers) in
        ap (gather_jumps (pair_adds p then)) both_are ∙ gathered_both (pair_adds p then) (jumps_in m t) (jumps_from from pairs)
        ∙ ap₂ (λ (a b : List Term). a ++ b) (pairs_stay m t more (tested_stands m t tested) more_laid p)
        (pairs_add p i.counts (matrix i) As then counted m.terms (holds_left R m.terms (all_terms As) (terms_of pairs) all) from (holds_right R m.terms (all_terms As) (terms_of pairs) all))

    -- the matrix adds its own after all that stood
    added_rules : rules_stored m' (Adding.add m i t workWords workNumbers).tables p ≡ rules_stored m t p ++ matrix_adds
    unfolding rules_stored
    added_rules =
        ap₂ (λ (m : Model) (t : ModelTables). rules_stored m t p) (sym larger_is) then_is
        ∙ ap₂ (λ (a b : List Term). a ++ b) (ap (λ (H : List (RealTerm floats pauli)). terms_over floats pauli H p) reals_same)
        (ap₂ (λ (a b : List Term). a ++ b) jumps_same pairs_more)
        ∙ at_the_end (terms_over floats pauli (reals_in m t) p) (gather_jumps (jump_adds p t) (jumps_in m t)) (gather_jumps (pair_adds p t) (jumps_in m t)) matrix_adds

rules_with : (g : ModelOver floats pauli) (k : MatrixOver floats pauli) (p : Word)
    → rules_over floats pauli g p ++ matrix_over floats pauli (largest_over floats k.entries) (entry_over floats pauli k) (rows_over floats pauli 0 k.ops) p
    ≡ rules_over floats pauli (with_matrix g k) p
unfolding rules_over
rules_with g k p =
    sym (at_the_end (terms_over floats pauli g.terms p) (jumps_over floats pauli g.jumps p) (matrices_over floats pauli g.matrices p) _)
    ∙ ap (λ (l : List Term). terms_over floats pauli g.terms p ++ (jumps_over floats pauli g.jumps p ++ l)) (sym (matrices_last g.matrices k p))

-- ---- the rules over what is stored are those over what was given
pub made_rules : (g : ModelOver floats pauli) (m : Model) (t : ModelTables) → Made g m t → (p : Word) → rules_stored m t p ≡ rules_over floats pauli g p
made_rules _ _ _ (built n i t workWords workNumbers m hs js answer reals jumps) p = built_rules n i t workWords workNumbers m hs js answer reals jumps p
made_rules _ _ _ (added g m t made i workWords workNumbers m' As answer read) p =
    added_rules m t (made_passes g m t made) i workWords workNumbers m' As answer read p
    ∙ ap (λ (l : List Term). l ++ matrix_over floats pauli (largest_over floats (matrix i)) (entry_in floats (length As) (matrix i)) (rows_over floats pauli 0 As) p) (made_rules g m t made p)
    ∙ rules_with g (record { ops = As; entries = matrix i }) p
made_rules _ _ _ (lent g m t t' made same) p = sym (same_rules m t t' same (made_passes g m t made) p) ∙ made_rules g m t made p
