-- SPDX-FileCopyrightText: 2026 The PPVM Authors
-- SPDX-License-Identifier: Apache-2.0

-- A model with more laid after it: its Hamiltonian terms and entries are those that stood, then the new ones, and what stood
-- adds what it added. Assumes nothing.
use mathlib.Core.Path.{◌≡◌, refl, sym, ap, ap₂, ◌∙◌}
use mathlib.Core.List.{List, [], ◌∷◌, ◌++◌, map, map-append, append_assoc}
use Prim.Native.Nat.{ℕ, zero, suc, ◌+◌, ◌*◌, ◌≤◌, ◌<◌}
use native.Mathlib.Omega.{arith}
use lib.Ieee.{Float, nan}
use lib.ListN.{length, get_or, length-map, get_or-map}
use Rattle.word.specs.Word.{identity, Sound}
use Rattle.word.specs.Flat.{words, word_lanes}
use Rattle.word.specs.declared.word.Word.{Word}
use Rattle.number.specs.Floats.{floats}
use Rattle.gksl.specs.Model.{RealTerm}
use Rattle.gksl.specs.Words.{pauli}
use Rattle.model.specs.Stored.{ModelTables, jump_at}
use Rattle.model.specs.Terms.{Term, terms_in}
use Rattle.model.specs.Stands.{Stands}
use Rattle.model_build.specs.Compiled.{Compiled}
use Rattle.model_build.specs.Built.{entries_from, rates_of}
use Rattle.model.specs.declared.stored.Model.{Model}
use Rattle.model.specs.declared.stored.Jump.{Jump}
use Rattle.model.specs.declared.stored.Jump.TheVariants.{Pauli}
use Rattle.lent.specs.Every.{Every}
use Rattle.lent.proofs.Lists.{every_map}
use Rattle.lent.proofs.LaidLaws.{set_other, set_here}
use Rattle.model_laws.specs.Extended.{Additions, larger, extended}
use Rattle.model_laws.proofs.LaidLaws.{words_other, words_here, entries_other, entries_here, jump_same}
use Rattle.model_laws.proofs.CompiledLaws.{entries_length}
use Rattle.rule_terms.specs.Adds.{real_at, reals_in, jumps_in, jump_adds, pair_adds, gather_jumps}
use Rattle.in_use.proofs.KeptItems.{read_same, jumps_kept, pairs_kept}
use Rattle.action_laws.proofs.LaidTerms.{terms_kept, word_kept}
use Rattle.word.specs.Count.{up_to}

-- ---- a list by its places
pub up_to_parted : (k a b : ℕ) → up_to k (a + b) ≡ up_to k a ++ up_to (k + a) b
unfolding up_to
up_to_parted k zero b =
    let e : 0 + b ≡ b = omega arith in
    let f : k ≡ k + 0 = omega arith in
    ap₂ up_to f e
up_to_parted k (suc a) b =
    let e : suc a + b ≡ suc (a + b) = omega arith in
    let f : suc k + a ≡ k + suc a = omega arith in
    ap (up_to k) e ∙ ap (λ (l : List ℕ). k ∷ l) (up_to_parted (suc k) a b ∙ ap (λ (n : ℕ). up_to (suc k) a ++ up_to n b) f)

module _ {A : Type 0} where
  read_list : (f : ℕ → A) (k n : ℕ) (l : List A) (d : A) → n ≡ length l → ((i j : ℕ) → j ≡ k + i → i < length l → f j ≡ get_or l i d) → map f (up_to k n) ≡ l
  unfolding up_to
  read_list f k zero [] d e h = refl
  read_list f k zero (a ∷ l) d e h = absurd (omega arith)
  read_list f k (suc n) [] d e h = absurd (omega arith)
  read_list f k (suc n) (a ∷ l) d e h =
      ap₂ (λ (a : A) (l : List A). a ∷ l) (h 0 k (omega arith) (omega arith))
      (read_list f (suc k) n l d (omega arith) (λ i j p q. h (suc i) j (omega arith) (omega arith)))

  -- what stood, then what is new
  read_both : (f g : ℕ → A) (n k : ℕ) (l : List A) (d : A) → k ≡ length l → ((i : ℕ) → i < n → f i ≡ g i)
      → ((i j : ℕ) → j ≡ n + i → i < length l → f j ≡ get_or l i d) → map f (up_to 0 (n + k)) ≡ map g (up_to 0 n) ++ l
  read_both f g n k l d e old new =
      let z : 0 + n ≡ n = omega arith in
      ap (map f) (up_to_parted 0 n k ∙ ap (λ (m : ℕ). up_to 0 n ++ up_to m k) z) ∙ map-append f (up_to 0 n) (up_to n k)
      ∙ ap₂ (λ (a b : List A). a ++ b) (read_same f g 0 n (λ i p q. old i (omega arith))) (read_list f n k l d e new)

-- ---- the jumps and pairs of compiled entries, whose terms stand one after another from a place on
unfoldable pub jumps_from : ℕ → List Compiled → List Jump
jumps_from at [] = []
jumps_from at (c ∷ cs) = jump_at (c.numbers at) (c.rate ∷ []) 0 ∷ jumps_from (at + length c.terms) cs

jumps_length : (at : ℕ) (cs : List Compiled) → length (jumps_from at cs) ≡ length cs
unfolding jumps_from
jumps_length at [] = refl
jumps_length at (c ∷ cs) = ap suc (jumps_length (at + length c.terms) cs)

jumps_at : (at : ℕ) (cs : List Compiled) (i : ℕ) (d : Jump) → i < length cs
    → jump_at (get_or (entries_from at cs) i []) (get_or (rates_of cs) i nan ∷ []) 0 ≡ get_or (jumps_from at cs) i d
unfolding jumps_from entries_from
jumps_at at [] i d h = absurd (omega arith)
jumps_at at (c ∷ cs) zero d h = refl
jumps_at at (c ∷ cs) (suc i) d h = jumps_at (at + length c.terms) cs i d (omega arith)

-- ---- what is laid: words that are read back, entries of eight numbers, and room
pub record Laying (m : Model) (t : ModelTables) (a : Additions) : Type 0 where
  pub rates_each : length a.rates ≡ length a.entries
  pub reals : Every (λ h. Sound h.word) a.reals
  pub eight : Every (λ e. length e ≡ 8) a.entries
  pub terms : Every (λ z. Sound z.word) a.terms
  pub h_words_room : word_lanes * (m.hamiltonian + length a.reals) ≤ length t.h_words
  pub h_coeffs_room : m.hamiltonian + length a.reals ≤ length t.h_coeffs
  pub jumps_room : 8 * (m.jumps + length a.entries) ≤ length t.jumps
  pub rates_room : m.jumps + length a.entries ≤ length t.rates
  pub t_words_room : word_lanes * (m.terms + length a.terms) ≤ length t.t_words
  pub t_numbers_room : 2 * (m.terms + length a.terms) ≤ length t.t_numbers

module _ (m : Model) (t : ModelTables) (a : Additions) (x : Laying m t a) where
  abbrev after : ModelTables
  after = extended m t a

  -- ---- Hamiltonian terms
  abbrev no_real : RealTerm floats pauli
  no_real = record { num = nan; word = identity }

  abbrev real_words : List Word
  real_words = map (λ (h : RealTerm floats pauli). h.word) a.reals

  abbrev real_numbers : List Float
  real_numbers = map (λ (h : RealTerm floats pauli). h.num) a.reals

  real_eq : {v w : Word} {y z : Float} → y ≡ z → v ≡ w → ◌≡◌ {A = RealTerm floats pauli} (record { num = y; word = v }) (record { num = z; word = w })
  real_eq p q = λ i. record { num = p i; word = q i }

  pub reals_read : reals_in (larger m a) after ≡ reals_in m t ++ a.reals
  unfolding extended
  reals_read =
      let words-many : length real_words ≡ length a.reals = length-map a.reals (λ (h : RealTerm floats pauli). h.word) in
      let numbers-many : length real_numbers ≡ length a.reals = length-map a.reals (λ (h : RealTerm floats pauli). h.num) in
      let sound : Every Sound real_words = every_map Sound (λ (h : RealTerm floats pauli). h.word) a.reals x.reals in
      let word_room : word_lanes * (m.hamiltonian + length real_words) ≤ length t.h_words = omega (arith, x.h_words_room, words-many) in
      let number-room : m.hamiltonian + length real_numbers ≤ length t.h_coeffs = omega (arith, x.h_coeffs_room, numbers-many) in
      read_both (real_at after) (real_at t) m.hamiltonian (length a.reals) a.reals no_real refl
      (λ i l. real_eq
      (set_other nan m.hamiltonian real_numbers t.h_coeffs number-room i (λ p q. omega arith))
      (words_other m.hamiltonian real_words t.h_words sound word_room i (λ p q. omega arith)))
      (λ i j e l. real_eq
      (set_here nan m.hamiltonian real_numbers t.h_coeffs number-room j i e (omega (arith, l, numbers-many)) ∙ get_or-map (λ (h : RealTerm floats pauli). h.num) a.reals i no_real)
      (words_here m.hamiltonian real_words t.h_words sound word_room j i e (omega (arith, l, words-many)) ∙ get_or-map (λ (h : RealTerm floats pauli). h.word) a.reals i no_real))

  -- ---- jumps and pairs
  module _ (at : ℕ) (cs : List Compiled) (entries : a.entries ≡ entries_from at cs) (rates : a.rates ≡ rates_of cs) where
    pub jumps_read : jumps_in (larger m a) after ≡ jumps_in m t ++ jumps_from at cs
    unfolding extended
    jumps_read =
        let rates-room : m.jumps + length a.rates ≤ length t.rates = omega (arith, x.rates_room, x.rates_each) in
        let many : length a.entries ≡ length cs = ap length entries ∙ entries_length at cs in
        read_both (jump_at after.jumps after.rates) (jump_at t.jumps t.rates) m.jumps (length a.entries) (jumps_from at cs) (Pauli nan 0) (many ∙ sym (jumps_length at cs))
        (λ i l.
        jump_same after.jumps t.jumps after.rates t.rates i i
        (λ c few. entries_other m.jumps a.entries t.jumps x.eight x.jumps_room c few i (λ p q. omega arith))
        (set_other nan m.jumps a.rates t.rates rates-room i (λ p q. omega arith)))
        (λ i j e l.
        let new : i < length cs = omega (arith, l, jumps_length at cs) in
        let r : List Float = get_or a.rates i nan ∷ [] in
        jump_same after.jumps (get_or a.entries i []) after.rates r j 0
        (λ c few.
        let z : c ≡ 0 * 8 + c = omega arith in
        entries_here m.jumps a.entries t.jumps x.eight x.jumps_room c few j i e (omega (arith, new, many)) ∙ ap (λ (q : ℕ). get_or (get_or a.entries i []) q 0) z)
        (set_here nan m.jumps a.rates t.rates rates-room j i e (omega (arith, new, many, x.rates_each)))
        ∙ ap₂ (λ (es : List (List ℕ)) (rs : List Float). jump_at (get_or es i []) (get_or rs i nan ∷ []) 0) entries rates
        ∙ jumps_at at cs i (Pauli nan 0) new)

-- ---- what stood adds what it added
pub gathered_both : (f : Jump → List Term) (J K : List Jump) → gather_jumps f (J ++ K) ≡ gather_jumps f J ++ gather_jumps f K
unfolding gather_jumps
gathered_both f [] K = refl
gathered_both f (j ∷ J) K = ap (λ (l : List Term). f j ++ l) (gathered_both f J K) ∙ sym (append_assoc (f j) (gather_jumps f J) (gather_jumps f K))

module _ (m : Model) (t : ModelTables) (a : Additions) (s : Stands m t) (x : Laying m t a) (p : Word) where
  terms_stay : (b e : ℕ) → b ≤ e → e ≤ m.terms → terms_in (extended m t a).t_words (extended m t a).t_numbers b e ≡ terms_in t.t_words t.t_numbers b e
  unfolding extended
  terms_stay = terms_kept m.terms a.terms t.t_words t.t_numbers x.terms x.t_words_room x.t_numbers_room

  word_stays : (i : ℕ) → i < m.terms → get_or (words (extended m t a).t_words) i identity ≡ get_or (words t.t_words) i identity
  unfolding extended
  word_stays = word_kept m.terms a.terms t.t_words t.t_numbers x.terms x.t_words_room x.t_numbers_room

  pub jumps_stay : gather_jumps (jump_adds p (extended m t a)) (jumps_in m t) ≡ gather_jumps (jump_adds p t) (jumps_in m t)
  jumps_stay = jumps_kept p m t (extended m t a) s terms_stay word_stays

  pub pairs_stay : gather_jumps (pair_adds p (extended m t a)) (jumps_in m t) ≡ gather_jumps (pair_adds p t) (jumps_in m t)
  pairs_stay = pairs_kept p m t (extended m t a) s terms_stay word_stays
