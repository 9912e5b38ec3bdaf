-- SPDX-FileCopyrightText: 2026 The PPVM Authors
-- SPDX-License-Identifier: Apache-2.0

-- A model that stands, with more laid after it that passes, stands. Assumes nothing.
use mathlib.Core.Path.{◌≡◌, sym, ap, ◌∙◌, subst⁻¹}
use mathlib.Core.Bool.{true, false}
use mathlib.Core.List.{List, [], ◌∷◌, map}
use Prim.Native.Nat.{ℕ, ◌+◌, ◌-◌, ◌*◌, ◌≤◌, ◌<◌}
use native.Mathlib.Omega.{arith}
use native.Mathlib.Decide.{dec_lt}
use lib.Ieee.{Float, nan}
use lib.ListN.{length, get_or, set, length-set, length-map, get_or-map}
use Rattle.std.specs.Prelude.{Ok}
use Rattle.word.specs.Word.{identity, Sound}
use Rattle.word.specs.Register.{reaches}
use Rattle.word.specs.Flat.{words, lay_word, word_lanes}
use Rattle.word.specs.declared.word.Word.{Word}
use Rattle.number.specs.Numbers.{Cx}
use Rattle.number.specs.Floats.{floats, in_range}
use Rattle.gksl.specs.Model.{RealTerm}
use Rattle.gksl.specs.Words.{pauli}
use Rattle.sums.specs.Numbers.{lay_number, no_number}
use Rattle.model.specs.Stored.{ModelTables, kind_at, jump_at, given, lay_entry}
use Rattle.model.specs.Tested.{bad_jump, test_model}
use Rattle.model.specs.Terms.{Term}
use Rattle.model.specs.Stands.{InRange, GoodReal, GoodTerm, Bounded, number_at, Stands}
use Rattle.model.proofs.StandsLaws.{tested_stands, stands_tested}
use Rattle.model.specs.declared.stored.Jump.{Jump}
use Rattle.model.specs.declared.stored.Model.{Model}
use Rattle.lent.specs.Every.{Every}
use Rattle.lent.proofs.Lists.{every_at, every_of, every_weaken, every_map}
use Rattle.lent.proofs.LaidLaws.{laid_length, set_other, set_here}
use Rattle.model_laws.specs.Extended.{Additions, larger, extended, no_term, Extends}
use Rattle.model_laws.proofs.LaidLaws.{word_length, words_other, words_here, number_length, numbers_other, numbers_here, entry_length, entries_other, entries_here, kind_same, jump_same}
use Rattle.model_laws.proofs.JumpTests.{fits_more, given_inside}

-- ---- the same item, read from another table
real_as : {n : ℕ} {w w' : Word} {x x' : Float} → w' ≡ w → x' ≡ x → GoodReal n w x → GoodReal n w' x'
real_as {n} p q g = record { below = ap (λ (v : Word). reaches v n) p ∙ g.below; range = ap in_range q ∙ g.range }

term_as : {n : ℕ} {w w' : Word} {z z' : Cx floats} → w' ≡ w → z' ≡ z → GoodTerm n w z → GoodTerm n w' z'
term_as {n} p q g = record { below = ap (λ (v : Word). reaches v n) p ∙ g.below; bound = subst⁻¹ Bounded q g.bound }

module _ (m : Model) (t : ModelTables) (a : Additions) (s : Stands m t) (x : Extends m t a) where
  abbrev after : ModelTables
  after = extended m t a

  -- ---- Hamiltonian terms
  abbrev no_real : RealTerm floats pauli
  no_real = record { num = nan; word = identity }

  abbrev real_words : List Word
  real_words = map (λ (h : RealTerm floats pauli). h.word) a.reals

  abbrev real_numbers : List Float
  real_numbers = map (λ (h : RealTerm floats pauli). h.num) a.reals

  real_words_many : length real_words ≡ length a.reals
  real_words_many = length-map a.reals (λ (h : RealTerm floats pauli). h.word)

  real_numbers_many : length real_numbers ≡ length a.reals
  real_numbers_many = length-map a.reals (λ (h : RealTerm floats pauli). h.num)

  reals_sound : Every Sound real_words
  reals_sound = every_map Sound (λ (h : RealTerm floats pauli). h.word) a.reals (every_weaken _ _ (λ h g. g.0) a.reals x.reals)

  real_good : (i : ℕ) → i < m.hamiltonian + length a.reals → GoodReal m.qubits (get_or (words after.h_words) i identity) (get_or after.h_coeffs i nan)
  unfolding extended
  real_good i l = go (dec_lt i m.hamiltonian)
    where
      word_room : word_lanes * (m.hamiltonian + length real_words) ≤ length t.h_words
      word_room = omega (arith, x.h_words_room, real_words_many)

      number_room : m.hamiltonian + length real_numbers ≤ length t.h_coeffs
      number_room = omega (arith, x.h_coeffs_room, real_numbers_many)

      go : Dec (i < m.hamiltonian) → GoodReal m.qubits (get_or (words after.h_words) i identity) (get_or after.h_coeffs i nan)
      go (yes h) =
          real_as
          (words_other m.hamiltonian real_words t.h_words reals_sound word_room i (λ p q. omega arith))
          (set_other nan m.hamiltonian real_numbers t.h_coeffs number_room i (λ p q. omega arith))
          (s.reals i h)
      go (no h) =
          let k : ℕ = i - m.hamiltonian in
          let e : i ≡ m.hamiltonian + k = omega arith in
          let f : k < length a.reals = omega arith in
          real_as
          (words_here m.hamiltonian real_words t.h_words reals_sound word_room i k e (omega (arith, f, real_words_many)) ∙ get_or-map (λ (h : RealTerm floats pauli). h.word) a.reals k no_real)
          (set_here nan m.hamiltonian real_numbers t.h_coeffs number_room i k e (omega (arith, f, real_numbers_many)) ∙ get_or-map (λ (h : RealTerm floats pauli). h.num) a.reals k no_real)
          (every_at _ a.reals k no_real x.reals f).1

  -- ---- terms
  abbrev term_words : List Word
  term_words = map (λ (z : Term). z.word) a.terms

  abbrev term_numbers : List (Cx floats)
  term_numbers = map (λ (z : Term). z.num) a.terms

  term_words_many : length term_words ≡ length a.terms
  term_words_many = length-map a.terms (λ (z : Term). z.word)

  term_numbers_many : length term_numbers ≡ length a.terms
  term_numbers_many = length-map a.terms (λ (z : Term). z.num)

  terms_sound : Every Sound term_words
  terms_sound = every_map Sound (λ (z : Term). z.word) a.terms (every_weaken _ _ (λ h g. g.0) a.terms x.terms)

  term_word_room : word_lanes * (m.terms + length term_words) ≤ length t.t_words
  term_word_room = omega (arith, x.t_words_room, term_words_many)

  term_number_room : 2 * (m.terms + length term_numbers) ≤ length t.t_numbers
  term_number_room = omega (arith, x.t_numbers_room, term_numbers_many)

  -- a term that stood, and a new one
  number_stays : (i : ℕ) → i < m.terms → number_at after.t_numbers i ≡ number_at t.t_numbers i
  unfolding extended
  number_stays i h = numbers_other m.terms term_numbers t.t_numbers term_number_room i (λ p q. omega arith)

  number_new : (i : ℕ) → m.terms ≤ i → i < m.terms + length a.terms → number_at after.t_numbers i ≡ (get_or a.terms (i - m.terms) no_term).num
  unfolding extended
  number_new i h l =
      numbers_here m.terms term_numbers t.t_numbers term_number_room i (i - m.terms) no_number (omega arith) (omega (arith, h, l, term_numbers_many))
      ∙ get_or-map (λ (z : Term). z.num) a.terms (i - m.terms) no_term

  term_good : (i : ℕ) → i < m.terms + length a.terms → GoodTerm m.qubits (get_or (words after.t_words) i identity) (number_at after.t_numbers i)
  unfolding extended
  term_good i l = go (dec_lt i m.terms)
    where
      go : Dec (i < m.terms) → GoodTerm m.qubits (get_or (words after.t_words) i identity) (number_at after.t_numbers i)
      go (yes h) = term_as (words_other m.terms term_words t.t_words terms_sound term_word_room i (λ p q. omega arith)) (number_stays i h) (s.terms i h)
      go (no h) =
          let k : ℕ = i - m.terms in
          term_as
          (words_here m.terms term_words t.t_words terms_sound term_word_room i k (omega arith) (omega (arith, l, h, term_words_many)) ∙ get_or-map (λ (z : Term). z.word) a.terms k no_term)
          (number_new i (omega arith) l)
          (every_at _ a.terms k no_term x.terms (omega arith)).1

  -- ---- entries
  entries_eight : Every (λ e. length e ≡ 8) a.entries
  entries_eight = every_of _ a.entries [] (λ j h. (x.entries j h).eight)

  abbrev new_entry : ℕ → List ℕ
  new_entry k = get_or a.entries k []

  abbrev new_jump : ℕ → Jump
  new_jump k = jump_at (new_entry k) (get_or a.rates k nan ∷ []) 0

  entry_stays : (j : ℕ) → j < m.jumps → (c : ℕ) → c < 8 → get_or after.jumps (j * 8 + c) 0 ≡ get_or t.jumps (j * 8 + c) 0
  unfolding extended
  entry_stays j h c few = entries_other m.jumps a.entries t.jumps entries_eight x.jumps_room c few j (λ p q. omega arith)

  entry_new : (j k : ℕ) → j ≡ m.jumps + k → k < length a.entries → (c : ℕ) → c < 8 → get_or after.jumps (j * 8 + c) 0 ≡ get_or (new_entry k) (0 * 8 + c) 0
  unfolding extended
  entry_new j k e h c few =
      let z : c ≡ 0 * 8 + c = omega arith in
      entries_here m.jumps a.entries t.jumps entries_eight x.jumps_room c few j k e h ∙ ap (λ (p : ℕ). get_or (new_entry k) p 0) z

  jump_stays : (j : ℕ) → j < m.jumps → jump_at after.jumps after.rates j ≡ jump_at t.jumps t.rates j
  unfolding extended
  jump_stays j h =
      jump_same after.jumps t.jumps after.rates t.rates j j (entry_stays j h)
      (set_other nan m.jumps a.rates t.rates (omega (arith, x.rates_room, x.rates_each)) j (λ p q. omega arith))

  jump_new : (j k : ℕ) → j ≡ m.jumps + k → k < length a.entries → jump_at after.jumps after.rates j ≡ new_jump k
  unfolding extended
  jump_new j k e h =
      jump_same after.jumps (new_entry k) after.rates (get_or a.rates k nan ∷ []) j 0 (entry_new j k e h)
      (set_here nan m.jumps a.rates t.rates (omega (arith, x.rates_room, x.rates_each)) j k e (omega (arith, h, x.rates_each)))

  -- what holds of what stood and of what is new holds of every entry
  module _ (j : ℕ) (l : j < m.jumps + length a.entries) where
    by_entry : {P : Type 0} → (j < m.jumps → P) → ((k : ℕ) → j ≡ m.jumps + k → k < length a.entries → P) → P
    by_entry {P} f g = go (dec_lt j m.jumps)
      where
        go : Dec (j < m.jumps) → P
        go (yes h) = f h
        go (no h) = g (j - m.jumps) (omega arith) (omega arith)

    kind_good : kind_at after.jumps j ≤ 2
    kind_good =
        by_entry
        (λ h. omega (arith, s.kinds j h, kind_same after.jumps t.jumps t.rates t.rates j j (entry_stays j h)))
        (λ k e h. omega (arith, (x.entries k h).kind, kind_same after.jumps (new_entry k) t.rates t.rates j 0 (entry_new j k e h)))

    jump_good : bad_jump (m.terms + length a.terms) (jump_at after.jumps after.rates j) ≡ false
    jump_good =
        by_entry
        (λ h. ap (bad_jump (m.terms + length a.terms)) (jump_stays j h) ∙ fits_more (jump_at t.jumps t.rates j) (omega arith) (s.fits j h))
        (λ k e h. ap (bad_jump (m.terms + length a.terms)) (jump_new j k e h) ∙ (x.entries k h).fits)

    given_good : (i : ℕ) → i < m.terms + length a.terms → given (jump_at after.jumps after.rates j) i ≡ true → InRange (number_at after.t_numbers i)
    given_good i b g =
        by_entry
        (λ h.
        let g' : given (jump_at t.jumps t.rates j) i ≡ true = ap (λ (u : Jump). given u i) (sym (jump_stays j h)) ∙ g in
        let inside = given_inside (jump_at t.jumps t.rates j) i (s.fits j h) g' in
        subst⁻¹ InRange (number_stays i inside) (s.givens i inside j h g'))
        (λ k e h.
        let r = (x.entries k h).givens i (ap (λ (u : Jump). given u i) (sym (jump_new j k e h)) ∙ g) in
        subst⁻¹ InRange (number_new i r.0 b) r.1)

  pub extended_stands : Stands (larger m a) after
  unfolding extended
  extended_stands = record {
    qubits = s.qubits;
    few_reals = x.few_reals;
    few_jumps = x.few_jumps;
    h_words_room = omega (arith, x.h_words_room, laid_length lay_word word_length m.hamiltonian real_words t.h_words);
    h_coeffs_room = omega (arith, x.h_coeffs_room, laid_length set length-set m.hamiltonian real_numbers t.h_coeffs);
    jumps_room = omega (arith, x.jumps_room, laid_length lay_entry entry_length m.jumps a.entries t.jumps);
    rates_room = omega (arith, x.rates_room, laid_length set length-set m.jumps a.rates t.rates);
    t_words_room = omega (arith, x.t_words_room, laid_length lay_word word_length m.terms term_words t.t_words);
    t_numbers_room = omega (arith, x.t_numbers_room, laid_length lay_number number_length m.terms term_numbers t.t_numbers);
    reals = real_good;
    kinds = kind_good;
    fits = jump_good;
    terms = term_good;
    givens = λ i l j k g. given_good j k i l g;
  }

-- a tested model, with more laid after it that passes, passes the test
pub extended_passes : (m : Model) (t : ModelTables) (a : Additions) → test_model m t ≡ Ok tt → Extends m t a → test_model (larger m a) (extended m t a) ≡ Ok tt
extended_passes m t a e x = stands_tested (larger m a) (extended m t a) (extended_stands m t a (tested_stands m t e) x)
