-- SPDX-FileCopyrightText: 2026 The PPVM Authors
-- SPDX-License-Identifier: Apache-2.0

-- The order in which a model's input is tested: each test refuses, or leaves the tests after it; the texts of the terms
-- are those after the Hamiltonian's. Assumes nothing.
use mathlib.Core.Path.{◌≡◌, sym, ap, ap₂, ◌∙◌}
use mathlib.Core.List.{List}
use Prim.Native.Nat.{ℕ, ◌-◌, ◌*◌, ◌<◌, ◌≤◌}
use native.Mathlib.Omega.{arith}
use borrow.Author.Tests.{lt-ltb, le-ltb}
use lib.Ieee.{Float}
use lib.ListN.{length, take, drop}
use Rattle.refusal.specs.declared.Refusal.{Refusal}
use Rattle.refusal.specs.declared.Refusal.TheVariants.{TooManyQubits, CountAboveLimit}
use Rattle.std.specs.Prelude.{Ok, Err}
use Rattle.refusal.specs.Cause.{Answer}
use Rattle.word.specs.Word.{max_qubits}
use Rattle.sums.specs.Numbers.{complexes}
use Rattle.model.specs.Stored.{ModelTables}
use Rattle.model_build.specs.Given.{GivenJump, read_real, read_jump}
use Rattle.model_build.specs.Items.{answer_of}
use Rattle.model_build.specs.Built.{Input, parts, real_items, term_items, jump_items, jumps_given, lengths_answer, read_hamiltonian, read_jumps}
use Rattle.model_build.specs.Checked.{given_answer, real_lengths, term_lengths, term_texts}
use Rattle.model_build.proofs.Parts.{part_is, rest_is}
use Rattle.model_build.proofs.BuildLaws.{LengthsFit, reals_count, reals_whole, terms_counted, terms_two, terms_texts, jumps_own}
use Rattle.lent.specs.Read.{each}
use Rattle.lent.specs.Laid.{total}

-- ---- the parts of the input that are tested
module _ (i : Input) where
  -- the lengths of the Hamiltonian's texts, and those after them
  abbrev pub own_lengths : List ℕ
  own_lengths = take (length i.h_numbers - 0) (drop 0 i.lengths)

  abbrev pub rest_lengths : List ℕ
  rest_lengths = take (length i.lengths - length i.h_numbers) (drop (length i.h_numbers) i.lengths)

  -- the texts from a place on
  abbrev pub texts_from : ℕ → List ℕ
  texts_from sum = take (length i.texts - sum) (drop sum i.texts)

  pub own_is : own_lengths ≡ real_lengths i
  own_is = part_is i.lengths 0 (length i.h_numbers) (length i.h_numbers) (omega arith)

  pub rest_lengths_lem : rest_lengths ≡ term_lengths i
  rest_lengths_lem = rest_is i.lengths (length i.h_numbers)

  module _ (sum : ℕ) (e : sum ≡ total own_lengths) where
    pub rest_texts : texts_from sum ≡ term_texts i
    rest_texts = rest_is i.texts sum ∙ ap (λ (m : ℕ). drop m i.texts) (e ∙ ap total own_is)

    -- the jumps that are tested are those that are given
    rest_jumps : jump_items i.rates (parts i.counts (term_items (parts rest_lengths (texts_from sum)) (complexes i.numbers))) ≡ jumps_given i
    rest_jumps =
        ap₂ (λ (ns l : List ℕ). jump_items i.rates (parts i.counts (term_items (parts ns l) (complexes i.numbers)))) rest_lengths_lem rest_texts
        ∙ sym (jumps_own i)

  module _ (n : ℕ) (a : Answer) where
    -- what the tests of the Hamiltonian's items and of the jumps answer
    pub reals_answer : a ≡ answer_of (each (read_real n) 0 (real_items (parts own_lengths i.texts) i.h_numbers)) → a ≡ answer_of (read_hamiltonian n i)
    reals_answer is = is ∙ ap (λ (ns : List ℕ). answer_of (each (read_real n) 0 (real_items (parts ns i.texts) i.h_numbers))) own_is

    pub jumps_answer : (sum : ℕ) → sum ≡ total own_lengths
        → a ≡ answer_of (each (read_jump n) 0 (jump_items i.rates (parts i.counts (term_items (parts rest_lengths (texts_from sum)) (complexes i.numbers)))))
        → a ≡ answer_of (read_jumps n i)
    jumps_answer sum e is = is ∙ ap (λ (js : List GivenJump). answer_of (each (read_jump n) 0 js)) (rest_jumps sum e)

module _ (i : Input) (t : ModelTables) (workWords : List ℕ) (workNumbers : List Float) (f : LengthsFit i t workWords workNumbers) where
  pub own_each : length (own_lengths i) ≡ length i.h_numbers
  own_each = ap length (own_is i) ∙ reals_count i t workWords workNumbers f

  pub own_hold : total (own_lengths i) ≤ length i.texts
  own_hold = rw (own_is i) (reals_whole i t workWords workNumbers f)

  pub rest_fit : (sum : ℕ) → sum ≡ total (own_lengths i)
      → (length i.counts ≡ length i.rates) × (total i.counts ≡ length (rest_lengths i)) × (length i.numbers ≡ 2 * length (rest_lengths i))
      × (total (rest_lengths i) ≤ length (texts_from i sum))
  rest_fit sum e =
      rw (rest_lengths_lem i, rest_texts i sum e)
      (f.counts_each, terms_counted i t workWords workNumbers f, terms_two i t workWords workNumbers f, terms_texts i t workWords workNumbers f)

-- ---- the tests
module _ (n : ℕ) (i : Input) (t : ModelTables) (workWords : List ℕ) (workNumbers : List Float) where
  pub qubits_above : max_qubits < n → Err (TooManyQubits n max_qubits) ≡ given_answer n i t workWords workNumbers
  unfolding given_answer
  qubits_above h = rw (lt-ltb max_qubits n h)

  module _ (within : n ≤ max_qubits) where
    pub reals_above : 4096 < length i.h_numbers → Err (CountAboveLimit (length i.h_numbers)) ≡ given_answer n i t workWords workNumbers
    unfolding given_answer
    reals_above h = rw (le-ltb max_qubits n within, lt-ltb 4096 (length i.h_numbers) h)

    module _ (few-reals : length i.h_numbers ≤ 4096) where
      pub jumps_above : 4096 < length i.rates → Err (CountAboveLimit (length i.rates)) ≡ given_answer n i t workWords workNumbers
      unfolding given_answer
      jumps_above h = rw (le-ltb max_qubits n within, le-ltb 4096 (length i.h_numbers) few-reals, lt-ltb 4096 (length i.rates) h)

      module _ (few-jumps : length i.rates ≤ 4096) (agree : Answer) (agree-is : agree ≡ lengths_answer i t workWords workNumbers) where
        pub lengths_refused : (r : Refusal) → agree ≡ Err r → Err r ≡ given_answer n i t workWords workNumbers
        unfolding given_answer
        lengths_refused r h =
            rw (le-ltb max_qubits n within, le-ltb 4096 (length i.h_numbers) few-reals, le-ltb 4096 (length i.rates) few-jumps, sym agree-is, h)

        module _ (agreed : agree ≡ Ok tt) (reals : Answer) (reals-are : reals ≡ answer_of (read_hamiltonian n i)) where
          pub reals_refused : (r : Refusal) → reals ≡ Err r → Err r ≡ given_answer n i t workWords workNumbers
          unfolding given_answer
          reals_refused r h =
              rw (le-ltb max_qubits n within, le-ltb 4096 (length i.h_numbers) few-reals, le-ltb 4096 (length i.rates) few-jumps, sym agree-is, agreed, sym reals-are, h)

          pub jumps_last : reals ≡ Ok tt → (a : Answer) → a ≡ answer_of (read_jumps n i) → a ≡ given_answer n i t workWords workNumbers
          unfolding given_answer
          jumps_last h a is =
              rw (le-ltb max_qubits n within, le-ltb 4096 (length i.h_numbers) few-reals, le-ltb 4096 (length i.rates) few-jumps, sym agree-is, agreed, sym reals-are, h) is
