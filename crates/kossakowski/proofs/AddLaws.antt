-- SPDX-FileCopyrightText: 2026 The PPVM Authors
-- SPDX-License-Identifier: Apache-2.0

-- The operators of an accepted matrix, as they are read, and the tables that adding them leaves. Assumes nothing.
use mathlib.Core.Path.{◌≡◌, refl, sym, ap, ap₂, ◌∙◌}
use mathlib.Core.Bool.{Bool, cond}
use mathlib.Core.List.{List, [], ◌∷◌, ◌++◌, map}
use Prim.Native.Nat.{ℕ, zero, suc, ◌+◌, ◌*◌, ◌/◌, ◌≤◌, ◌<◌, min}
use native.Mathlib.Decide.{dec_lt}
use native.Mathlib.Omega.{arith}
use borrow.Author.Tests.{lt-ltb, le-ltb}
use lib.Dec.{ltb}
use lib.Ieee.{Float}
use lib.ListN.{length, get_or, take, drop, replicate, length-map, length-append, length-drop, take-append-drop, get_or-eq_default}
use lib.Seq.{length-take-le}
use Rattle.refusal.specs.declared.Refusal.TheVariants.{TableFull}
use Rattle.word.specs.Flat.{word_lanes}
use Rattle.number.specs.Floats.{floats, float0}
use Rattle.sums.specs.Numbers.{complexes}
use Rattle.model.specs.declared.stored.Model.{Model}
use Rattle.std.specs.Prelude.{Ok, Err}
use Rattle.model.specs.Stored.{ModelTables}
use Rattle.model_build.specs.Given.{read_operator}
use Rattle.model_build.specs.Compiled.{Compiled}
use Rattle.model_build.specs.Built.{parts, entries_from, terms_of, term_places, Building, finished}
use Rattle.lent.specs.Read.{got}
use Rattle.model.specs.Terms.{Term, terms_in}
use Rattle.lent.specs.Laid.{laid, total}
use Rattle.model_build.specs.Taken.{term_taken}
use Rattle.model_build.specs.Thinned.{LaysTerms}
use Rattle.model_build.specs.Work.{operator_in, operator_taken, terms_given, StoresJumps}
use Rattle.model_build.proofs.Parts.{length_parts, length_complexes, length_terms}
use Rattle.model_build.proofs.TakenLaws.{each_taken, each_read, operator_taken_lem, operator_few}
use Rattle.model_build.proofs.StoreLaws.{lays_append}
use Rattle.operator_product.proofs.WorkLaws.{terms_stay}
use Rattle.k_matrix.specs.Matrix.{passing, pair_places}
use Rattle.k_matrix.specs.Pairs.{pair_at, pairs_of}
use Rattle.k_matrix.specs.Added.{Input, operators, operators_given, matrix, read_operators, all_terms, stored, compiled_matrix, add}
use Rattle.k_matrix.specs.Work.{operators_in, WorkStays}

-- ---- parts of a list
module _ {A B : Type 0} (f : A → B) where
  take_map : (n : ℕ) (l : List A) → take n (map f l) ≡ map f (take n l)
  take_map zero l = refl
  take_map (suc n) [] = refl
  take_map (suc n) (a ∷ l) = ap (λ (r : List B). f a ∷ r) (take_map n l)

  drop_map : (n : ℕ) (l : List A) → drop n (map f l) ≡ map f (drop n l)
  drop_map zero l = refl
  drop_map (suc n) [] = refl
  drop_map (suc n) (a ∷ l) = drop_map n l

  parts_map : (ns : List ℕ) (l : List A) → parts ns (map f l) ≡ map (map f) (parts ns l)
  unfolding parts
  parts_map [] l = refl
  parts_map (n ∷ ns) l = ap₂ (λ (a : List B) (r : List (List B)). a ∷ r) (take_map n l) (ap (parts ns) (drop_map n l) ∙ parts_map ns (drop n l))

-- each part has its length, and they make up the whole
pub part_count : {A : Type 0} (ns : List ℕ) (l : List A) → total ns ≤ length l → (j : ℕ) → j < length ns → length (get_or (parts ns l) j []) ≡ get_or ns j 0
unfolding parts total
part_count [] l h j k = absurd (omega arith)
part_count (n ∷ ns) l h zero k = length-take-le n l (omega arith)
part_count (n ∷ ns) l h (suc j) k = part_count ns (drop n l) (omega (arith, length-drop n l)) j (omega arith)

parts_none : {A : Type 0} (ns : List ℕ) (l : List A) → length ns ≡ 0 → parts ns l ≡ []
unfolding parts
parts_none [] l e = refl
parts_none (n ∷ ns) l e = absurd (omega (arith, e))

parts_all : (ns : List ℕ) (l : List Term) → total ns ≡ length l → all_terms (parts ns l) ≡ l
unfolding parts total all_terms
parts_all [] [] e = refl
parts_all [] (t ∷ l) e = absurd (omega (arith, e))
parts_all (n ∷ ns) l e = ap (λ (r : List Term). take n l ++ r) (parts_all ns (drop n l) (omega (arith, e, length-drop n l))) ∙ take-append-drop n l

-- ---- the operators that were read
module _ (n : ℕ) (i : Input) (As : List (List Term)) (read : read_operators n i ≡ got As) where
  pub operators_are : As ≡ parts i.counts (operator_taken n i.lengths i.texts i.numbers)
  operators_are =
      each_taken (read_operator n) (map (term_taken n)) (operator_taken_lem n) 0 (operators_given i) As read
      ∙ sym (parts_map (term_taken n) i.counts (terms_given i.lengths i.texts i.numbers))

  module _ (terms : total i.counts ≡ length i.lengths) (two : length i.numbers ≡ 2 * length i.lengths) where
    given_length : length (terms_given i.lengths i.texts i.numbers) ≡ length i.lengths
    given_length =
        let p = length_parts i.lengths i.texts in
        length_terms (parts i.lengths i.texts) (complexes i.numbers) (p ∙ sym (length_complexes (length i.lengths) i.numbers two)) ∙ p

    taken_length : length (operator_taken n i.lengths i.texts i.numbers) ≡ length i.lengths
    taken_length = length-map (terms_given i.lengths i.texts i.numbers) (term_taken n) ∙ given_length

    -- one after another they are all terms
    pub all_are : all_terms As ≡ operator_taken n i.lengths i.texts i.numbers
    all_are = ap all_terms operators_are ∙ parts_all i.counts _ (terms ∙ sym taken_length)

    pub all_length : length (all_terms As) ≡ length i.lengths
    all_length = ap length all_are ∙ taken_length

    -- each has at most 16
    pub counts_few : (j : ℕ) → get_or i.counts j 0 ≤ 16
    counts_few j = go (dec_lt j (length i.counts))
      where
        go : Dec (j < length i.counts) → get_or i.counts j 0 ≤ 16
        go (yes h) =
            let one = each_read (read_operator n) 0 (operators_given i) As read j [] (omega (arith, length_parts i.counts (terms_given i.lengths i.texts i.numbers))) in
            let count = part_count i.counts (terms_given i.lengths i.texts i.numbers) (omega (arith, terms, given_length)) j h in
            omega (arith, count, (operator_few n (0 + j) (get_or (operators_given i) j []) one.0 one.1).1)
        go (no h) = let z = get_or-eq_default i.counts 0 {n = j} (omega arith) in omega (arith, z)

    -- read into the work table they stand there
    pub operators_in_lem : (lanes : List ℕ) (numbers : List Float) → operator_in (length i.lengths) lanes numbers ≡ operator_taken n i.lengths i.texts i.numbers
        → operators_in i.counts lanes numbers ≡ As
    operators_in_lem lanes numbers reads = ap (parts i.counts) (ap (λ (k : ℕ). terms_in lanes numbers 256 (256 + k)) terms ∙ reads) ∙ sym operators_are

pub operators_stay : (counts lanes lanes' : List ℕ) (numbers numbers' : List Float) → WorkStays lanes numbers lanes' numbers' → operators_in counts lanes' numbers' ≡ operators_in counts lanes numbers
operators_stay counts lanes lanes' numbers numbers' s = ap (parts counts) (terms_stay 256 (256 + total counts) lanes lanes' numbers numbers' (omega arith) s.lanes_stay s.numbers_stay)

-- ---- the tables afterwards
module _ (m : Model) (i : Input) (t : ModelTables) (workWords : List ℕ) (workNumbers : List Float) where
  -- what is left of operators and pairs
  abbrev left : List (List Term) → List Compiled → Building
  left As cs =
      cond (ltb (term_places t) (m.terms + length (all_terms As ++ terms_of cs)))
      (finished t workWords workNumbers (Err (TableFull 4 (term_places t))) t)
      (finished t workWords workNumbers (Ok (record { qubits = m.qubits; hamiltonian = m.hamiltonian; jumps = m.jumps + length cs; terms = m.terms + length (all_terms As ++ terms_of cs) })) (stored m i t workWords workNumbers As cs))

  left_none : m.terms ≤ term_places t → left [] [] ≡ finished t workWords workNumbers (Ok m) t
  unfolding all_terms terms_of stored laid entries_from
  left_none h =
      let jumps : m.jumps + 0 ≡ m.jumps = omega arith in
      let terms : m.terms + 0 ≡ m.terms = omega arith in
      ap₂ (λ (j k : ℕ). cond (ltb (term_places t) k) (finished t workWords workNumbers (Err (TableFull 4 (term_places t))) t) (finished t workWords workNumbers (Ok (record { qubits = m.qubits; hamiltonian = m.hamiltonian; jumps = j; terms = k })) t)) jumps terms
      ∙ rw (le-ltb (term_places t) m.terms h)

  no_pairs : (As : List (List Term)) → operators i ≡ 0 → pairs_of m.terms i.counts (matrix i) As ≡ []
  unfolding passing
  no_pairs As e = ap (λ (k : ℕ). map (pair_at m.terms i.counts (matrix i) As) (pair_places floats k (matrix i))) e

  -- without operators nothing is added
  pub added_none : (As : List (List Term)) → add m i t workWords workNumbers ≡ compiled_matrix m i t workWords workNumbers As → operators i ≡ 0
      → (l : List Term) → As ≡ parts i.counts l → m.terms ≤ term_places t
      → (words' : List ℕ) (numbers' : List Float) → words' ≡ replicate (length workWords) 0 → numbers' ≡ replicate (length workNumbers) float0
      → record { answer = Ok m; tables = t; work_words = words'; work_numbers = numbers' } ≡ add m i t workWords workNumbers
  added_none As add_is none l are h words' numbers' cw cn =
      rw (cw, cn) (sym (add_is ∙ ap₂ left (are ∙ parts_none i.counts l none) (no_pairs As none) ∙ left_none h))

module _ (m : Model) (i : Input) (t : ModelTables) (workWords : List ℕ) (workNumbers : List Float) (As : List (List Term))
    (add_is : add m i t workWords workNumbers ≡ compiled_matrix m i t workWords workNumbers As) (own : length (all_terms As) ≡ length i.lengths) where
  abbrev pairs : List Compiled
  pairs = pairs_of m.terms i.counts (matrix i) As

  module _ (kept : ℕ) (counts : kept ≡ length (terms_of pairs)) (places : ℕ) (p : places ≡ min (length t.t_words / word_lanes) (length t.t_numbers / 2)) where
    terms_are : m.terms + length i.lengths + kept ≡ m.terms + length (all_terms As ++ terms_of pairs)
    terms_are = omega (arith, own, counts, length-append (all_terms As) (terms_of pairs))

    module _ (words' : List ℕ) (numbers' : List Float) (cw : words' ≡ replicate (length workWords) 0) (cn : numbers' ≡ replicate (length workNumbers) float0) where
      -- a table that is full stays as it was
      pub added_full : places < m.terms + length i.lengths + kept
          → record { answer = Err (TableFull 4 places); tables = t; work_words = words'; work_numbers = numbers' } ≡ add m i t workWords workNumbers
      added_full h =
          let full : term_places t < m.terms + length (all_terms As ++ terms_of pairs) = rw (← p, ← terms_are) h in
          rw (cw, cn, p, add_is, lt-ltb (term_places t) (m.terms + length (all_terms As ++ terms_of pairs)) full)

      module _ (h : m.terms + length i.lengths + kept ≤ places) (jumps' : List ℕ) (rates' : List Float) (tWords₁ : List ℕ) (tNumbers₁ : List Float) (tWords' : List ℕ) (tNumbers' : List Float)
          (lays : LaysTerms (all_terms As) m.terms t.t_words t.t_numbers tWords₁ tNumbers₁)
          (stores : StoresJumps pairs m.jumps (m.terms + length i.lengths) t.jumps t.rates tWords₁ tNumbers₁ jumps' rates' tWords' tNumbers') where
        tables_are : record { h_words = t.h_words; h_coeffs = t.h_coeffs; jumps = jumps'; rates = rates'; t_words = tWords'; t_numbers = tNumbers' } ≡ stored m i t workWords workNumbers As pairs
        unfolding stored
        tables_are =
            let both = lays_append (all_terms As) (terms_of pairs) m.terms (m.terms + length i.lengths) t.t_words tWords₁ tWords' t.t_numbers tNumbers₁ tNumbers' (ap (λ (k : ℕ). m.terms + k) (sym own)) lays stores.lays in
            rw (stores.entries_are, stores.rates_are, both.lanes_are, both.numbers_are, own) refl

        pub added_model : (count : ℕ) → count ≡ length (pair_places floats (operators i) (matrix i)) → record {
          answer = Ok (record { qubits = m.qubits; hamiltonian = m.hamiltonian; jumps = m.jumps + count; terms = m.terms + length i.lengths + kept });
          tables = record { h_words = t.h_words; h_coeffs = t.h_coeffs; jumps = jumps'; rates = rates'; t_words = tWords'; t_numbers = tNumbers' };
          work_words = words';
          work_numbers = numbers';
        } ≡ add m i t workWords workNumbers
        added_model count e =
            let fits : m.terms + length (all_terms As ++ terms_of pairs) ≤ term_places t = rw (← p, ← terms_are) h in
            let n : m.jumps + count ≡ m.jumps + length pairs = ap (λ (k : ℕ). m.jumps + k) (e ∙ sym (length-map (pair_places floats (operators i) (matrix i)) _)) in
            (λ k. record {
              answer = Ok (record { qubits = m.qubits; hamiltonian = m.hamiltonian; jumps = n k; terms = terms_are k });
              tables = tables_are k;
              work_words = cw k;
              work_numbers = cn k;
            })
            ∙ sym (add_is ∙ ap (λ (b : Bool). cond b (finished t workWords workNumbers (Err (TableFull 4 (term_places t))) t) (finished t workWords workNumbers (Ok (record { qubits = m.qubits; hamiltonian = m.hamiltonian; jumps = m.jumps + length pairs; terms = m.terms + length (all_terms As ++ terms_of pairs) })) (stored m i t workWords workNumbers As pairs))) (le-ltb (term_places t) (m.terms + length (all_terms As ++ terms_of pairs)) fits))
