-- SPDX-FileCopyrightText: 2026 The PPVM Authors
-- SPDX-License-Identifier: Apache-2.0

-- Two lendings of one model that hold the same in the places in use: where the one passes the test the other does, and the action on
-- every word is the same. Assumes nothing.
use mathlib.Core.Path.{◌≡◌, refl, sym, ap, ap₂, subst, ◌∙◌}
use mathlib.Core.Bool.{false}
use mathlib.Core.List.{List, [], ◌∷◌, ◌++◌}
use Prim.Native.Nat.{ℕ, zero, suc, ◌+◌, ◌-◌, ◌*◌, ◌≤◌, ◌<◌}
use native.Mathlib.Omega.{arith}
use lib.Ieee.{nan}
use lib.ListN.{length, get_or, take}
use Rattle.std.specs.Prelude.{Ok}
use Rattle.word.specs.Word.{identity}
use Rattle.word.specs.Flat.{words, word_lanes}
use Rattle.word.specs.declared.word.Word.{Word}
use Rattle.word.proofs.FlatLaws.{words_low, words_high}
use Rattle.number.specs.Numbers.{Cx}
use Rattle.number.specs.Floats.{floats}
use Rattle.gksl.specs.Model.{RealTerm}
use Rattle.gksl.specs.Rules.{terms_over}
use Rattle.gksl.specs.Table.{put_all_over}
use Rattle.gksl.specs.Words.{pauli}
use Rattle.sums.specs.Numbers.{complexes}
use Rattle.sums.specs.Sums.{rows, row}
use Rattle.model.specs.Stored.{ModelTables, kind_at, jump_at, given}
use Rattle.model.specs.Tested.{test_model, bad_jump}
use Rattle.model.specs.Terms.{Term, terms_in}
use Rattle.model.proofs.TermLaws.{take_complexes}
use Rattle.model.specs.Stands.{number_at, GoodReal, GoodTerm, InRange, Stands}
use Rattle.model.proofs.StandsLaws.{tested_stands, stands_tested}
use Rattle.model.specs.declared.stored.Model.{Model}
use Rattle.model.specs.declared.stored.Jump.{Jump}
use Rattle.model_laws.proofs.LaidLaws.{kind_same, jump_same}
use Rattle.rule_terms.specs.Adds.{real_at, reals_in, jumps_in, jump_adds, pair_adds, gather_jumps, rules_stored}
use Rattle.action.specs.Acts.{listed, sums_of, action_of}
use Rattle.in_use.specs.InUse.{SameModel}
use Rattle.in_use.proofs.Firsts.{same_at, same_long, same_part}
use Rattle.in_use.proofs.KeptItems.{read_same, jumps_kept, pairs_kept}

pub same_back : (m : Model) (t t' : ModelTables) → SameModel m t t' → SameModel m t' t
same_back m t t' s = record { h_words = sym s.h_words; h_coeffs = sym s.h_coeffs; jumps = sym s.jumps; rates = sym s.rates; t_words = sym s.t_words; t_numbers = sym s.t_numbers }

-- ---- the rows that two lists side by side make
rows_first : (k : ℕ) (a : List Word) (b : List (Cx floats)) → rows (take k a) (take k b) ≡ take k (rows a b)
unfolding rows
rows_first zero a b = refl
rows_first (suc k) [] b = refl
rows_first (suc k) (w ∷ a) [] = refl
rows_first (suc k) (w ∷ a) (z ∷ b) = ap (λ (r : List Term). row w z ∷ r) (rows_first k a b)

module _ (m : Model) (t t' : ModelTables) (same : SameModel m t t') where
  -- ---- item by item
  real_same : (i : ℕ) → i < m.hamiltonian → real_at t i ≡ real_at t' i
  real_same i h =
      let x = same_at m.hamiltonian t.h_coeffs t'.h_coeffs same.h_coeffs i nan h in
      let w = same_at m.hamiltonian (words t.h_words) (words t'.h_words) same.h_words i identity h in
      λ k. record { num = x k; word = w k }

  entry_same : (j : ℕ) → j < m.jumps → (c : ℕ) → c < 8 → get_or t.jumps (j * 8 + c) 0 ≡ get_or t'.jumps (j * 8 + c) 0
  entry_same j h c few = same_at (8 * m.jumps) t.jumps t'.jumps same.jumps (j * 8 + c) 0 (omega arith)

  jump_is : (j : ℕ) → j < m.jumps → jump_at t.jumps t.rates j ≡ jump_at t'.jumps t'.rates j
  jump_is j h = jump_same t.jumps t'.jumps t.rates t'.rates j j (entry_same j h) (same_at m.jumps t.rates t'.rates same.rates j nan h)

  kind_is : (j : ℕ) → j < m.jumps → kind_at t.jumps j ≡ kind_at t'.jumps j
  kind_is j h = kind_same t.jumps t'.jumps t.rates t'.rates j j (entry_same j h)

  word_same : (i : ℕ) → i < m.terms → get_or (words t.t_words) i identity ≡ get_or (words t'.t_words) i identity
  word_same i h = same_at m.terms (words t.t_words) (words t'.t_words) same.t_words i identity h

  number_same : (i : ℕ) → i < m.terms → number_at t.t_numbers i ≡ number_at t'.t_numbers i
  number_same i h =
      let re = same_at (2 * m.terms) t.t_numbers t'.t_numbers same.t_numbers (i * 2) nan (omega arith) in
      let im = same_at (2 * m.terms) t.t_numbers t'.t_numbers same.t_numbers (i * 2 + 1) nan (omega arith) in
      λ k. record { re = re k; im = im k }

  abbrev rows_in : ModelTables → List Term
  rows_in u = rows (words u.t_words) (complexes u.t_numbers)

  rows_same : take m.terms (rows_in t) ≡ take m.terms (rows_in t')
  rows_same =
      let n : ℕ = m.terms in
      let numbers : take n (complexes t.t_numbers) ≡ take n (complexes t'.t_numbers) = take_complexes n t.t_numbers ∙ ap complexes same.t_numbers ∙ sym (take_complexes n t'.t_numbers) in
      sym (rows_first n (words t.t_words) (complexes t.t_numbers)) ∙ ap₂ rows same.t_words numbers ∙ rows_first n (words t'.t_words) (complexes t'.t_numbers)

  terms_same : (b e : ℕ) → b ≤ e → e ≤ m.terms → terms_in t.t_words t.t_numbers b e ≡ terms_in t'.t_words t'.t_numbers b e
  terms_same b e h l = same_part m.terms (rows_in t) (rows_in t') rows_same b (e - b) (omega arith)

  -- ---- the test
  stands_same : Stands m t → Stands m t'
  stands_same s = record {
    qubits = s.qubits;
    few_reals = s.few_reals;
    few_jumps = s.few_jumps;
    h_words_room = words_room m.hamiltonian t.h_words t'.h_words same.h_words s.h_words_room;
    h_coeffs_room = same_long m.hamiltonian t.h_coeffs t'.h_coeffs same.h_coeffs s.h_coeffs_room;
    jumps_room = same_long (8 * m.jumps) t.jumps t'.jumps same.jumps s.jumps_room;
    rates_room = same_long m.jumps t.rates t'.rates same.rates s.rates_room;
    t_words_room = words_room m.terms t.t_words t'.t_words same.t_words s.t_words_room;
    t_numbers_room = same_long (2 * m.terms) t.t_numbers t'.t_numbers same.t_numbers s.t_numbers_room;
    reals = λ i h. subst (λ (r : RealTerm floats pauli). GoodReal m.qubits r.word r.num) (real_same i h) (s.reals i h);
    kinds = λ j h. omega (arith, kind_is j h, s.kinds j h);
    fits = λ j h. subst (λ (u : Jump). bad_jump m.terms u ≡ false) (jump_is j h) (s.fits j h);
    terms = λ i h. subst (λ (z : Cx floats). GoodTerm m.qubits (get_or (words t'.t_words) i identity) z) (number_same i h)
        (subst (λ (w : Word). GoodTerm m.qubits w (number_at t.t_numbers i)) (word_same i h) (s.terms i h));
    givens = λ i h j k g. subst InRange (number_same i h) (s.givens i h j k (ap (λ (u : Jump). given u i) (jump_is j k) ∙ g));
  }
    where
      words_room : (n : ℕ) (l l' : List ℕ) → take n (words l) ≡ take n (words l') → word_lanes * n ≤ length l → word_lanes * n ≤ length l'
      words_room n l l' e h = omega (arith, same_long n (words l) (words l') e (omega (arith, h, words_high l)), words_low l')

  pub same_passes : test_model m t ≡ Ok tt → test_model m t' ≡ Ok tt
  same_passes e = stands_tested m t' (stands_same (tested_stands m t e))

  -- ---- the rules, their sums, and the action
  module _ (passes : test_model m t ≡ Ok tt) (p : Word) where
    reals_same : reals_in m t ≡ reals_in m t'
    reals_same = read_same (real_at t) (real_at t') 0 m.hamiltonian (λ i l h. real_same i (omega arith))

    jumps_same : jumps_in m t ≡ jumps_in m t'
    jumps_same = read_same (jump_at t.jumps t.rates) (jump_at t'.jumps t'.rates) 0 m.jumps (λ j l h. jump_is j (omega arith))

    pub same_rules : rules_stored m t p ≡ rules_stored m t' p
    unfolding rules_stored
    same_rules =
        let s = tested_stands m t passes in
        let terms : (b e : ℕ) → b ≤ e → e ≤ m.terms → terms_in t'.t_words t'.t_numbers b e ≡ terms_in t.t_words t.t_numbers b e = λ b e h l. sym (terms_same b e h l) in
        let word : (i : ℕ) → i < m.terms → get_or (words t'.t_words) i identity ≡ get_or (words t.t_words) i identity = λ i h. sym (word_same i h) in
        ap₂ (λ (a b : List Term). a ++ b) (ap (λ (H : List (RealTerm floats pauli)). terms_over floats pauli H p) reals_same)
        (ap₂ (λ (a b : List Term). a ++ b)
        (sym (jumps_kept p m t t' s terms word) ∙ ap (gather_jumps (jump_adds p t')) jumps_same)
        (sym (pairs_kept p m t t' s terms word) ∙ ap (gather_jumps (pair_adds p t')) jumps_same))

    pub same_sums : sums_of m t p ≡ sums_of m t' p
    unfolding sums_of
    same_sums = ap (λ (A : List Term). put_all_over floats pauli A []) same_rules

    pub same_action : action_of m t p ≡ action_of m t' p
    unfolding action_of
    same_action = ap listed same_sums
