-- SPDX-FileCopyrightText: 2026 The PPVM Authors
-- SPDX-License-Identifier: Apache-2.0

-- The tests of leakage, answer by answer; and what is known where they are passed. Assumes nothing.
use mathlib.Core.Path.{◌≡◌}
use mathlib.Core.Bool.{true, false}
use Prim.Native.Nat.{ℕ, ◌+◌, ◌*◌, ◌/◌, ◌≤◌, ◌<◌}
use borrow.Author.Tests.{lt-ltb, le-ltb}
use lib.Dec.{eqb}
use lib.ListN.{length}
use Rattle.refusal.specs.declared.Refusal.{Refusal}
use Rattle.refusal.specs.declared.Refusal.TheVariants.{CountAboveLimit, LengthMismatch}
use Rattle.std.specs.Prelude.{Ok, Err}
use Rattle.refusal.specs.Cause.{Answer}
use Rattle.word.specs.Flat.{word_lanes}
use Rattle.model.specs.Stored.{ModelTables}
use Rattle.model.specs.Tested.{test_model}
use Rattle.model.specs.declared.stored.Model.{Model}
use Rattle.action.specs.Counts.{row_lanes}
use Rattle.lent.specs.Tests.{lent, where_any}
use Rattle.lent.specs.Words.{max_words, inside_to}
use Rattle.lent.specs.Numbers.{finite_to}
use Rattle.limits.specs.Defaults.{limit_tests, tau_tests}
use Rattle.limits.specs.declared.Limits.{Limits}
use Rattle.leakage.specs.Leakages.{Basis, Work, work_tests, entry_tests, leak_tests}

-- ---- the tables whose lengths the input fixes
module _ (rows row len slots h j k o he ne : ℕ) where
  abbrev chain : Answer
  chain = lent rows h (lent rows j (lent row k (lent len o (lent slots he (lent slots ne (Ok tt))))))

  pub short_1 : h < rows → Err (LengthMismatch rows h) ≡ chain
  short_1 l = rw (lt-ltb h rows l)

  module _ (l1 : rows ≤ h) where
    pub short_2 : j < rows → Err (LengthMismatch rows j) ≡ chain
    short_2 l = rw (le-ltb h rows l1, lt-ltb j rows l)

    module _ (l2 : rows ≤ j) where
      pub short_3 : k < row → Err (LengthMismatch row k) ≡ chain
      short_3 l = rw (le-ltb h rows l1, le-ltb j rows l2, lt-ltb k row l)

      module _ (l3 : row ≤ k) where
        pub short_4 : o < len → Err (LengthMismatch len o) ≡ chain
        short_4 l = rw (le-ltb h rows l1, le-ltb j rows l2, le-ltb k row l3, lt-ltb o len l)

        module _ (l4 : len ≤ o) where
          pub short_5 : he < slots → Err (LengthMismatch slots he) ≡ chain
          short_5 l = rw (le-ltb h rows l1, le-ltb j rows l2, le-ltb k row l3, le-ltb o len l4, lt-ltb he slots l)

          module _ (l5 : slots ≤ he) where
            pub short_6 : ne < slots → Err (LengthMismatch slots ne) ≡ chain
            short_6 l = rw (le-ltb h rows l1, le-ltb j rows l2, le-ltb k row l3, le-ltb o len l4, le-ltb he slots l5, lt-ltb ne slots l)

            module _ (l6 : slots ≤ ne) where
              pub long_enough : (Ok tt) ≡ chain
              long_enough = rw (le-ltb h rows l1, le-ltb j rows l2, le-ltb k row l3, le-ltb o len l4, le-ltb he slots l5, le-ltb ne slots l6)

pub work_is : (n len count : ℕ) {rows row slots : ℕ} → rows ≡ where_any len (row_lanes * n) → row ≡ where_any len row_lanes → slots ≡ where_any len (len + count)
    → (h j k o he ne : ℕ) (w : Work) → length w.h_index ≡ h → length w.j_index ≡ j → length w.mask ≡ k → length w.order ≡ o → length w.heads ≡ he → length w.nexts ≡ ne
    → chain rows row len slots h j k o he ne ≡ work_tests n len count w
unfolding work_tests
work_is n len count rows_are row_is slots-are h j k o he ne w eh ej ek eo ehe ene = rw (rows_are, row_is, slots-are, eh, ej, ek, eo, ehe, ene)

-- ---- the whole
module _ (m : Model) (t : ModelTables) (b : Basis) (l : Limits) (w : Work) where
  abbrev tests : Answer
  tests = leak_tests m t b l w

  abbrev count : ℕ
  count = length b.protected / word_lanes

  abbrev places : ℕ
  places = length b.lanes / word_lanes

  pub model_refused : (r : Refusal) → test_model m t ≡ Err r → Err r ≡ tests
  unfolding leak_tests
  model_refused r e = rw e

  module _ (ok : test_model m t ≡ Ok tt) where
    pub words_many : max_words < b.len → Err (CountAboveLimit b.len) ≡ tests
    unfolding leak_tests
    words_many h = rw (ok, lt-ltb max_words b.len h)

    module _ (h1 : b.len ≤ max_words) where
      pub protected_many : max_words < count → Err (CountAboveLimit count) ≡ tests
      unfolding leak_tests
      protected_many h = rw (ok, le-ltb max_words b.len h1, lt-ltb max_words count h)

      module _ (h2 : count ≤ max_words) where
        pub limits_refused : (r : Refusal) → limit_tests l ≡ Err r → Err r ≡ tests
        unfolding leak_tests
        limits_refused r e = rw (ok, le-ltb max_words b.len h1, le-ltb max_words count h2, e)

        module _ (h3 : limit_tests l ≡ Ok tt) where
          pub words_short : places < b.len → Err (LengthMismatch b.len places) ≡ tests
          unfolding leak_tests
          words_short h = rw (ok, le-ltb max_words b.len h1, le-ltb max_words count h2, h3, lt-ltb places b.len h)

          module _ (h4 : b.len ≤ places) where
            pub coeffs_short : length b.coeffs < b.len → Err (LengthMismatch b.len (length b.coeffs)) ≡ tests
            unfolding leak_tests
            coeffs_short h = rw (ok, le-ltb max_words b.len h1, le-ltb max_words count h2, h3, le-ltb places b.len h4, lt-ltb (length b.coeffs) b.len h)

            module _ (h5 : b.len ≤ length b.coeffs) where
              pub lanes_over : eqb (length b.protected) (count * word_lanes) ≡ false → Err (LengthMismatch (count * word_lanes) (length b.protected)) ≡ tests
              unfolding leak_tests
              lanes_over h = rw (ok, le-ltb max_words b.len h1, le-ltb max_words count h2, h3, le-ltb places b.len h4, le-ltb (length b.coeffs) b.len h5, h)

              module _ (h6 : eqb (length b.protected) (count * word_lanes) ≡ true) where
                pub work_refused : (r : Refusal) → work_tests m.qubits b.len count w ≡ Err r → Err r ≡ tests
                unfolding leak_tests
                work_refused r e = rw (ok, le-ltb max_words b.len h1, le-ltb max_words count h2, h3, le-ltb places b.len h4, le-ltb (length b.coeffs) b.len h5, h6, e)

                module _ (h7 : work_tests m.qubits b.len count w ≡ Ok tt) where
                  pub entries_refused : (r : Refusal) → entry_tests m.qubits b ≡ Err r → Err r ≡ tests
                  unfolding leak_tests
                  entries_refused r e = rw (ok, le-ltb max_words b.len h1, le-ltb max_words count h2, h3, le-ltb places b.len h4, le-ltb (length b.coeffs) b.len h5, h6, h7, e)

                  pub threshold_left : entry_tests m.qubits b ≡ Ok tt → tau_tests b.len l ≡ tests
                  unfolding leak_tests
                  threshold_left e = rw (ok, le-ltb max_words b.len h1, le-ltb max_words count h2, h3, le-ltb places b.len h4, le-ltb (length b.coeffs) b.len h5, h6, h7, e)

pub entries_are : (n : ℕ) (b : Basis) {r : Answer} → inside_to b.len b.lanes n (inside_to (length b.protected / word_lanes) b.protected n (finite_to 0 b.len b.coeffs (Ok tt))) ≡ r → entry_tests n b ≡ r
unfolding entry_tests
entries_are n b e = e
