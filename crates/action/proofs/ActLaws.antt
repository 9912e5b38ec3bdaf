-- SPDX-FileCopyrightText: 2026 The PPVM Authors
-- SPDX-License-Identifier: Apache-2.0

-- The action of a lent model, answer by answer. Assumes nothing.
use mathlib.Core.Path.{◌≡◌, refl, sym, ap, ap₂, ◌∙◌, subst}
use mathlib.Core.Bool.{Bool, true, false, cond}
use mathlib.Core.List.{List, []}
use Prim.Native.Nat.{ℕ, ◌*◌, ◌/◌, ◌≤◌, ◌<◌, min}
use native.Mathlib.Omega.{arith}
use borrow.Author.Tests.{lt-ltb, le-ltb}
use lib.Dec.{ltb}
use lib.Ieee.{Float}
use lib.ListN.{length, replicate}
use Rattle.refusal.specs.declared.Refusal.{Refusal}
use Rattle.refusal.specs.declared.Refusal.TheVariants.{WordOutsideRegister, TableFull}
use Rattle.std.specs.Prelude.{Option, Some, None, Ok, Err}
use Rattle.refusal.specs.Cause.{Answer}
use Rattle.word.specs.Flat.{word_lanes}
use Rattle.word.specs.Register.{reaches}
use Rattle.word.specs.declared.word.Word.{Word}
use Rattle.number.specs.Floats.{floats, float0}
use Rattle.gksl.specs.Table.{put_all_over}
use Rattle.gksl.specs.Words.{pauli}
use Rattle.sums.specs.Sums.{sum_rows}
use Rattle.sums.proofs.SumLaws.{rising_empty, answer_held, answer_full}
use Rattle.model.specs.Stored.{ModelTables}
use Rattle.model.specs.Tested.{test_model}
use Rattle.model.specs.Terms.{Term}
use Rattle.model.specs.declared.stored.Model.{Model}
use Rattle.rule_terms.specs.Adds.{rules_stored}
use Rattle.rule_terms.specs.Sums.{SumsRoom, PutsAll}
use Rattle.action.specs.Acts.{listed, sums_of, action_of, sum_places, list_places, Acting, tested, act}
use Rattle.action.specs.Between.{Lists, ListRoom}

-- ---- the sums: an empty table at first, and all of them where there is room
pub empty_room : (room : ℕ) (words : List ℕ) (sums : List Float) → word_lanes * room ≤ length words → 2 * room ≤ length sums → SumsRoom room 0 words sums
empty_room room words sums l k = record { lanes_long = l; sums_long = k; inside = omega arith; rises = rising_empty words sums }

module _ (m : Model) (t : ModelTables) (p : Word) (room : ℕ) (words : List ℕ) (sums : List Float) (words' : List ℕ) (sums' : List Float) (r : Option ℕ)
    (g : PutsAll room 0 (rules_stored m t p) words sums words' sums' r) where
  pub sums_full : r ≡ None → room < length (sums_of m t p)
  unfolding sums_of
  sums_full e = answer_full room (put_all_over floats pauli (rules_stored m t p) []) (sym e ∙ g.answers)

  module _ (len : ℕ) (e : r ≡ Some len) where
    pub sums_held : (len ≡ length (sums_of m t p)) × (length (sums_of m t p) ≤ room)
    unfolding sums_of
    sums_held = answer_held room len (put_all_over floats pauli (rules_stored m t p) []) (sym e ∙ g.answers)

    pub sums_are : sum_rows len words' sums' ≡ sums_of m t p
    unfolding sums_of
    sums_are = g.held len e

    pub listed_are : listed (sum_rows len words' sums') ≡ action_of m t p
    unfolding action_of
    listed_are = ap listed sums_are

    module _ (el : length words' ≡ length words) (es : length sums' ≡ length sums) (rl : word_lanes * room ≤ length words) (rs : 2 * room ≤ length sums) where
      pub sums_inside : (word_lanes * len ≤ length words') × (2 * len ≤ length sums')
      sums_inside = let h = sums_held in (omega (arith, h.0, h.1, el), omega (arith, h.0, h.1, es))

      pub list_room : (outWords : List ℕ) (outValues : List Float) (count places : ℕ) → count ≡ length (listed (sum_rows len words' sums')) → places ≡ list_places outWords outValues → count ≤ places
          → ListRoom len words' sums' outWords outValues
      list_room outWords outValues count places ec ep h =
          record { lanes_long = sums_inside.0; sums_long = sums_inside.1; words_room = omega (arith, ec, ep); values_room = omega (arith, ec, ep) }

-- ---- the answers
module _ (outWords : List ℕ) (outValues : List Float) (workWords : List ℕ) (workSums : List Float) (m : Model) (t : ModelTables) (p : Word) where
  abbrev done : Acting
  done = act outWords outValues workWords workSums m t p

  pub act_refused : (r : Refusal) → test_model m t ≡ Err r
      → record { answer = Err r; out_words = outWords; out_values = outValues; work_words = workWords; work_sums = workSums } ≡ done
  unfolding act
  act_refused r e = rw e

  module _ (ok : test_model m t ≡ Ok tt) where
    pub act_outside : reaches p m.qubits ≡ true
        → record { answer = Err (WordOutsideRegister 0); out_words = outWords; out_values = outValues; work_words = workWords; work_sums = workSums } ≡ done
    unfolding act
    act_outside e = rw (ok, e)

    module _ (inside : reaches p m.qubits ≡ false) where
      pub act_full : (places : ℕ) (words : List ℕ) (sums : List Float) → places ≡ sum_places workWords workSums → places < length (sums_of m t p)
          → words ≡ replicate (length workWords) 0 → sums ≡ replicate (length workSums) float0
          → record { answer = Err (TableFull 1 places); out_words = outWords; out_values = outValues; work_words = words; work_sums = sums } ≡ done
      unfolding act
      act_full places words sums e h ew es = rw (ok, inside, sym e, lt-ltb places (length (sums_of m t p)) h, ew, es)

      module _ (fits : length (sums_of m t p) ≤ sum_places workWords workSums) where
        pub act_unlisted : (places : ℕ) (words : List ℕ) (sums : List Float) → places ≡ list_places outWords outValues → places < length (action_of m t p)
            → words ≡ replicate (length workWords) 0 → sums ≡ replicate (length workSums) float0
            → record { answer = Err (TableFull 3 places); out_words = outWords; out_values = outValues; work_words = words; work_sums = sums } ≡ done
        unfolding act
        act_unlisted places words sums e h ew es =
            rw (ok, inside, le-ltb (sum_places workWords workSums) (length (sums_of m t p)) fits, sym e, lt-ltb places (length (action_of m t p)) h, ew, es)

        pub act_listed : (count : ℕ) (words : List ℕ) (sums : List Float) (outWords' : List ℕ) (outValues' : List Float) (L : List Term) → L ≡ action_of m t p → count ≡ length L
            → count ≤ list_places outWords outValues → Lists L outWords outValues outWords' outValues'
            → words ≡ replicate (length workWords) 0 → sums ≡ replicate (length workSums) float0
            → record { answer = Ok count; out_words = outWords'; out_values = outValues'; work_words = words; work_sums = sums } ≡ done
        unfolding act
        act_listed count words sums outWords' outValues' L k e h l ew es =
            let n : length (action_of m t p) ≤ list_places outWords outValues = subst (λ (A : List Term). length A ≤ list_places outWords outValues) k (omega (arith, e)) in
            rw (ok, inside, le-ltb (sum_places workWords workSums) (length (sums_of m t p)) fits, le-ltb (list_places outWords outValues) (length (action_of m t p)) n, sym k, e, ew, es, l.words_are, l.values_are)

-- ---- what the work tables held makes no difference to the answer and the list
pub record Alike (a b : Acting) : Type 0 where
  pub answers : a.answer ≡ b.answer
  pub out_words : a.out_words ≡ b.out_words
  pub out_values : a.out_values ≡ b.out_values

by_cond : (c : Bool) {a a' b b' : Acting} → Alike a a' → Alike b b' → Alike (cond c a b) (cond c a' b')
by_cond true h k = h
by_cond false h k = k

module _ (outWords : List ℕ) (outValues : List Float) (words words' : List ℕ) (sums sums' : List Float) where
  by_test : (a : Answer) {b b' : Acting} → Alike b b' → Alike (tested outWords outValues words sums a b) (tested outWords outValues words' sums' a b')
  by_test (Ok _) h = h
  by_test (Err r) h = record { answers = refl; out_words = refl; out_values = refl }

  pub act_independent : length words ≡ length words' → length sums ≡ length sums' → (m : Model) (t : ModelTables) (p : Word)
      → Alike (act outWords outValues words sums m t p) (act outWords outValues words' sums' m t p)
  unfolding act
  act_independent ew es m t p =
      let e : sum_places words sums ≡ sum_places words' sums' = ap₂ (λ (a b : ℕ). min (a / word_lanes) (b / 2)) ew es in
      rw (sym e)
      (by_test (test_model m t)
      (by_cond (reaches p m.qubits) (record { answers = refl; out_words = refl; out_values = refl })
      (by_cond (ltb (sum_places words sums) (length (sums_of m t p))) (record { answers = refl; out_words = refl; out_values = refl })
      (by_cond (ltb (list_places outWords outValues) (length (action_of m t p))) (record { answers = refl; out_words = refl; out_values = refl }) (record { answers = refl; out_words = refl; out_values = refl })))))
