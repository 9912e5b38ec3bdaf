-- SPDX-FileCopyrightText: 2026 The PPVM Authors
-- SPDX-License-Identifier: Apache-2.0

-- What is built from accepted items: 13 where the terms find no room, else the model and its tables. Assumes nothing.
use mathlib.Core.Path.{◌≡◌, refl, sym, ap, ap₂, ◌∙◌}
use mathlib.Core.Bool.{Bool, true, false, not, cond}
use mathlib.Core.List.{List, [], ◌∷◌, map}
use Prim.Native.Nat.{ℕ, suc, ◌/◌, ◌≤◌, ◌<◌, min}
use native.Mathlib.Omega.{arith}
use borrow.Author.Tests.{lt-ltb, le-ltb, leb-true, leb-false, not-true, not-false}
use lib.Dec.{leb}
use lib.Ieee.{Float}
use lib.ListN.{length, replicate, length-map}
use Rattle.refusal.specs.declared.Refusal.TheVariants.{TableFull}
use Rattle.word.specs.Flat.{word_lanes}
use Rattle.number.specs.Floats.{floats, float0}
use Rattle.gksl.specs.Model.{RealTerm}
use Rattle.gksl.specs.Words.{pauli}
use Rattle.std.specs.Prelude.{Ok, Err}
use Rattle.model.specs.Stored.{ModelTables}
use Rattle.model_build.specs.Compiled.{Compiled}
use Rattle.model_build.specs.Built.{Input, parts, real_items, jump_items, terms_of, term_places, finished, stored, build}
use Rattle.lent.specs.Laid.{total}
use Rattle.model_build.specs.Taken.{real_taken, RealsRoom, LaysReals}
use Rattle.model_build.specs.Work.{terms_given, JumpsFit, jumps_compiled, FitsJumps, JumpsRoom, StoresJumps}
use Rattle.model_build.specs.Checked.{real_lengths, term_lengths, term_texts}
use Rattle.model_build.proofs.Parts.{length_parts}
use Rattle.model_build.proofs.BuildLaws.{Accepts, reals_count, length_jumps}
use Rattle.model_build.proofs.CheckLaws.{own_lengths, rest_lengths, texts_from, own_is, rest_lengths_lem, rest_texts}

length_reals : (ts : List (List ℕ)) (xs : List Float) → length ts ≡ length xs → length (real_items ts xs) ≡ length xs
unfolding real_items
length_reals [] [] e = refl
length_reals [] (x ∷ xs) e = absurd (omega (arith, e))
length_reals (t ∷ ts) [] e = absurd (omega (arith, e))
length_reals (t ∷ ts) (x ∷ xs) e = ap suc (length_reals ts xs (omega (arith, e)))

module _ (n : ℕ) (i : Input) (t : ModelTables) (workWords : List ℕ) (workNumbers : List Float) (a : Accepts n i t workWords workNumbers) where
  abbrev reals : List (RealTerm floats pauli)
  reals = map (real_taken n) (real_items (parts (real_lengths i) i.texts) i.h_numbers)

  abbrev jumps : List Compiled
  jumps = jumps_compiled n i.rates i.counts (term_lengths i) (term_texts i) i.numbers

  reals_are : length reals ≡ length i.h_numbers
  reals_are =
      length-map (real_items (parts (real_lengths i) i.texts) i.h_numbers) (real_taken n)
      ∙ length_reals (parts (real_lengths i) i.texts) i.h_numbers (length_parts (real_lengths i) i.texts ∙ reals_count i t workWords workNumbers a.lengths)

  jumps_number : length jumps ≡ length i.rates
  jumps_number =
      length-map (jump_items i.rates (parts i.counts (terms_given (term_lengths i) (term_texts i) i.numbers))) _
      ∙ length_jumps i.rates i.counts (terms_given (term_lengths i) (term_texts i) i.numbers) a.lengths.counts_each
      ∙ a.lengths.counts_each

  pub own_reals : RealsRoom i.texts (own_lengths i) i.h_numbers t.h_words t.h_coeffs
  own_reals = rw (own_is i) a.reals

  module _ (sum : ℕ) (e : sum ≡ total (own_lengths i)) where
    pub own_jumps : JumpsFit i.counts (rest_lengths i) (texts_from i sum) i.numbers
    own_jumps = rw (rest_lengths_lem i, rest_texts i sum e) a.jumps

    abbrev pub taken : List Compiled
    taken = jumps_compiled n i.rates i.counts (rest_lengths i) (texts_from i sum) i.numbers

    taken_are : taken ≡ jumps
    taken_are = ap₂ (λ (ns l : List ℕ). jumps_compiled n i.rates i.counts ns l i.numbers) (rest_lengths_lem i) (rest_texts i sum e)

    terms_are : length (terms_of taken) ≡ length (terms_of jumps)
    terms_are = ap (λ (cs : List Compiled). length (terms_of cs)) taken_are

    module _ (places : ℕ) (p : places ≡ min (length t.t_words / word_lanes) (length t.t_numbers / 2))
        (fit : Bool) (fits : FitsJumps n i.counts (rest_lengths i) (texts_from i sum) i.numbers places fit) where
      fit_is : fit ≡ leb (length (terms_of taken)) places
      fit_is = fits.fits i.rates (sym a.lengths.counts_each)

      hold : not fit ≡ false → length (terms_of taken) ≤ places
      hold h = leb-true (length (terms_of taken)) places (sym fit_is ∙ not-false fit h)

      module _ (words' : List ℕ) (numbers' : List Float) (cw : words' ≡ replicate (length workWords) 0) (cn : numbers' ≡ replicate (length workNumbers) float0) where
        -- a table that is full stays as it was
        pub built_full : not fit ≡ true
            → record { answer = Err (TableFull 4 places); tables = t; work_words = words'; work_numbers = numbers' } ≡ build n i t workWords workNumbers
        built_full h =
            let full : term_places t < length (terms_of jumps) = rw (← p, ← terms_are) (leb-false (length (terms_of taken)) places (sym fit_is ∙ not-true fit h)) in
            rw (cw, cn, p, a.build_is, lt-ltb (term_places t) (length (terms_of jumps)) full)

        module _ (h : not fit ≡ false) (hWords' : List ℕ) (hCoeffs' : List Float) (jumps' : List ℕ) (rates' : List Float) (tWords' : List ℕ) (tNumbers' : List Float) (terms : ℕ)
            (lays : LaysReals (map (real_taken n) (real_items (parts (own_lengths i) i.texts) i.h_numbers)) t.h_words t.h_coeffs hWords' hCoeffs')
            (stores : StoresJumps taken 0 0 t.jumps t.rates t.t_words t.t_numbers jumps' rates' tWords' tNumbers' × (terms ≡ length (terms_of taken))) where
          tables_are : record { h_words = hWords'; h_coeffs = hCoeffs'; jumps = jumps'; rates = rates'; t_words = tWords'; t_numbers = tNumbers' } ≡ stored reals jumps t
          unfolding stored
          tables_are =
              let s = stores.0 in
              rw (lays.lanes_are, lays.coeffs_are, s.entries_are, s.rates_are, s.lays.lanes_are, s.lays.numbers_are, own_is i, taken_are) refl

          pub built_model : record {
            answer = Ok (record { qubits = n; hamiltonian = length i.h_numbers; jumps = length i.rates; terms = terms });
            tables = record { h_words = hWords'; h_coeffs = hCoeffs'; jumps = jumps'; rates = rates'; t_words = tWords'; t_numbers = tNumbers' };
            work_words = words';
            work_numbers = numbers';
          } ≡ build n i t workWords workNumbers
          built_model =
              let all : terms ≡ length (terms_of jumps) = stores.1 ∙ terms_are in
              let room : length (terms_of jumps) ≤ term_places t = rw (← p, ← terms_are) (hold h) in
              (λ k. record {
                answer = Ok (record { qubits = n; hamiltonian = (sym reals_are) k; jumps = (sym jumps_number) k; terms = all k });
                tables = tables_are k;
                work_words = cw k;
                work_numbers = cn k;
              })
              ∙ sym (a.build_is ∙ ap (λ (b : Bool). cond b (finished t workWords workNumbers (Err (TableFull 4 (term_places t))) t) (finished t workWords workNumbers (Ok (record { qubits = n; hamiltonian = length reals; jumps = length jumps; terms = length (terms_of jumps) })) (stored reals jumps t))) (le-ltb (term_places t) (length (terms_of jumps)) room))

      pub jumps_room : not fit ≡ false → JumpsRoom taken 0 0 t.jumps t.rates t.t_words t.t_numbers
      jumps_room h =
          let c : length taken ≡ length i.rates = ap length taken_are ∙ jumps_number in
          record {
            entries_room = omega (arith, c, a.entries_room);
            rates_room = omega (arith, c, a.rates_room);
            lanes_room = omega (arith, hold h, p);
            numbers_room = omega (arith, hold h, p);
          }
