-- SPDX-FileCopyrightText: 2026 The PPVM Authors
-- SPDX-License-Identifier: Apache-2.0

-- The admission of a step is that of the call: over lent tables a basis and a list that pass are accepted, and behind the basis stand
-- the words that enter plain lists, each with a zero. Assumes nothing.
use Rattle.std.specs.Prelude.{Result}
use mathlib.Core.Path.{◌≡◌, refl, sym, ap, ap₂, subst, ◌∙◌}
use mathlib.Core.Bool.{Bool, true, false, cond}
use mathlib.Core.List.{List, ◌++◌, append_assoc}
use Prim.Native.Nat.{ℕ, ◌+◌, ◌*◌, ◌/◌, ◌≤◌}
use native.Mathlib.Omega.{arith}
use borrow.Author.Tests.{le-ltb, eq-eqb, ltb-false}
use lib.Dec.{ltb}
use lib.Ieee.{Float}
use lib.ListN.{length, take, drop, replicate, length-append, length-drop, length-replicate}
use lib.Seq.{take_all, take_at, take-length, length-take-le}
use Rattle.refusal.specs.declared.Refusal.{Refusal}
use Rattle.refusal.specs.declared.Refusal.TheVariants.{TableFull}
use Rattle.std.specs.Prelude.{Ok, Err}
use Rattle.word.specs.Word.{max_qubits}
use Rattle.word.specs.Flat.{words, flat_lanes, word_lanes}
use Rattle.word.specs.declared.word.Word.{Word}
use Rattle.word.proofs.FlatLaws.{words_take, whole_words, whole_take}
use Rattle.number.specs.Floats.{float0}
use Rattle.keep.specs.Retained.{pick, flagged}
use Rattle.keep.specs.Admitted.{appended_lanes, appended_zeros, picked}
use Rattle.keep.proofs.PickLaws.{pick_length, whole_pick}
use Rattle.lent.specs.Read.{Read, got, refused, refuse_if}
use Rattle.lent.specs.Words.{max_words}
use Rattle.model.specs.Stored.{ModelTables}
use Rattle.model.specs.declared.stored.Model.{Model}
use Rattle.truncate.specs.Admissions.{admit_flags, Admitting, left, basis_places, admit_tests, admit}
use Rattle.truncate.proofs.AdmissionLaws.{words_after, coeffs_after}
use Rattle.truncate_laws.proofs.StaysLaws.{admit_long}
use Rattle.truncate_laws.proofs.AcceptedCalls.{entries_same}
use Rattle.candidates.specs.Tables.{Rows}
use Rattle.passes.specs.Leaks.{words_of, sums_of}
use Rattle.step_laws.specs.Steps.{Places, admitted}
use Rattle.step_laws.specs.Passing.{Fit, Held, AdmitCall}
use Rattle.step_laws.proofs.CourseLaws.{no_value, same_value, same_refused}
use Rattle.step_laws.proofs.HeldLaws.{held_words, held_numbers, inside_passes, finite_passes, lanes_count}

pub no_entries : (q : Refusal) (r : ℕ) → ◌≡◌ {A = Result ℕ Refusal} (Err q) (Ok r) → ⊥
no_entries q r e = let z : ◌≡◌ {A = ℕ} 0 1 = cc in omega arith

pub same_answer : (q r : Refusal) → ◌≡◌ {A = Result ℕ Refusal} (Err q) (Err r) → q ≡ r
same_answer q r e = cc

-- a basis, and a list of k words in the first places of other tables
module _ (n : ℕ) (lanes : List ℕ) (coeffs : List Float) (len : ℕ) (ws : List Word) (cs : List Float) (h : Held lanes coeffs len ws cs) (table : List ℕ) (numbers : List Float) (k : ℕ) (R : Rows)
    (hl : Held table numbers k (words_of R) (sums_of R)) (order work kept : List ℕ) (limit : ℕ) where
  abbrev list : List ℕ
  list = take (k * word_lanes) table

  abbrev values : List Float
  values = take k numbers

  list_long : length list ≡ k * word_lanes
  list_long = length-take-le (k * word_lanes) table (omega (arith, hl.lanes_long))

  values_long : length values ≡ k
  values_long = length-take-le k numbers hl.numbers_long

  list_held : Held list values (length values) (words_of R) (sums_of R)
  list_held =
      let e : k * word_lanes ≡ word_lanes * k = omega arith in
      let listed : words list ≡ words_of R = ap (λ (j : ℕ). words (take j table)) e ∙ words_take k table ∙ hl.words_are in
      record {
        lanes_long = omega (arith, list_long, values_long);
        numbers_long = omega arith;
        words_are = ap (take (length values)) listed ∙ take_all (length values) (words_of R) (omega (arith, held_words table numbers k (words_of R) (sums_of R) hl, values_long));
        numbers_are = take-length values ∙ hl.numbers_are;
      }

  module _ (register : n ≤ max_qubits) (fit : Fit n ws cs) (list-fit : Fit n (words_of R) (sums_of R)) (limit-low : limit ≤ max_words)
      (order-long : k ≤ length order) (work-long : k ≤ length work) (kept-long : k ≤ length kept) where
    pub admit_accepted : admit_tests len lanes coeffs list values order work kept n limit ≡ Ok tt
    unfolding admit_tests
    admit_accepted =
        rw (
          le-ltb max_qubits n register,
          le-ltb max_words len (omega (arith, fit.few, held_words lanes coeffs len ws cs h)),
          le-ltb max_words (length list / word_lanes) (omega (arith, list_long, list-fit.few, held_words table numbers k (words_of R) (sums_of R) hl)),
          le-ltb max_words limit limit-low,
          le-ltb (length lanes / word_lanes) len (omega (arith, h.lanes_long)),
          le-ltb (length coeffs) len h.numbers_long,
          eq-eqb (length list) (length list / word_lanes * word_lanes) (omega (arith, list_long)),
          eq-eqb (length values) (length list / word_lanes) (omega (arith, list_long, values_long)),
          le-ltb (length order) (length values) (omega (arith, values_long, order-long)),
          le-ltb (length work) (length values) (omega (arith, values_long, work-long)),
          le-ltb (length kept) (length values) (omega (arith, values_long, kept-long)),
        )
        (inside_passes lanes coeffs len ws cs h n _ fit.inside
        ∙ inside_passes list values (length values) (words_of R) (sums_of R) list_held n _ list-fit.inside
        ∙ finite_passes lanes coeffs len ws cs h 0 _ fit.finite
        ∙ finite_passes list values (length values) (words_of R) (sums_of R) list_held len (Ok tt) list-fit.finite)

    module _ (m : Model) (t : ModelTables) (protected : List Word) (dt : Float) (places : Places) (basis : places.basis ≡ basis_places len lanes coeffs list values order work kept) where
      abbrev after : Admitting
      after = admit len lanes coeffs list values order work kept n limit

      abbrev plain : Read (List Word)
      plain = admitted m t protected dt places limit ws R

      abbrev room : ℕ
      room = basis_places len lanes coeffs list values order work kept

      abbrev flags : List ℕ
      flags = admit_flags len values limit

      -- the words that enter
      abbrev us : List Word
      us = pick (admit_flags (length ws) (sums_of R) limit) (words_of R)

      flags_are : admit_flags (length ws) (sums_of R) limit ≡ flags
      flags_are = ap₂ (λ (j : ℕ) (xs : List Float). admit_flags j xs limit) (held_words lanes coeffs len ws cs h) (sym hl.numbers_are)

      us_are : picked (length values) flags list ≡ us
      us_are = ap (pick flags) list_held.words_are ∙ ap (λ (ks : List ℕ). pick ks (words_of R)) (sym flags_are)

      us_long : length us ≡ flagged flags
      us_long =
          let nw : length (words_of R) ≡ k = held_words table numbers k (words_of R) (sums_of R) hl in
          let nf : length flags ≡ k = admit_long len values limit ∙ values_long in
          ap (λ (ks : List ℕ). length (pick ks (words_of R))) flags_are ∙ pick_length flags (words_of R) (omega (arith, nw, nf)) ∙ ap flagged (take_all (length (words_of R)) flags (omega (arith, nw, nf)))

      after_is : (b : Bool) → ltb room (len + flagged flags) ≡ b
          → after
          ≡ cond b (left len lanes coeffs list values order work kept (Err (TableFull 3 room)) lanes coeffs)
          (left len lanes coeffs list values order work kept (Ok (len + flagged flags)) (appended_lanes len (picked (length values) flags list) lanes) (appended_zeros len (flagged flags) coeffs))
      unfolding admit
      after_is b e = rw (admit_accepted, e)

      plain_is : (b : Bool) → ltb room (len + flagged flags) ≡ b → plain ≡ refuse_if b (TableFull 3 room) (got us)
      unfolding admitted
      plain_is b e =
          let z : ltb places.basis (length ws + length us) ≡ b = ap₂ ltb basis (ap₂ ◌+◌ (held_words lanes coeffs len ws cs h) us_long) ∙ e in
          ap (λ (c : Bool). refuse_if c (TableFull 3 places.basis) (got us)) z ∙ ap (λ (p : ℕ). refuse_if b (TableFull 3 p) (got us)) basis

      call_full : ltb room (len + flagged flags) ≡ true → AdmitCall lanes coeffs len ws cs order work kept after plain
      call_full e =
          let a = after_is true e in
          let p : plain ≡ refused (TableFull 3 room) = plain_is true e in
          let answer : after.answer ≡ Err (TableFull 3 room) = ap (λ (x : Admitting). x.answer) a in
          record {
            order_zero = ap (λ (x : Admitting). x.order) a;
            work_zero = ap (λ (x : Admitting). x.work) a;
            kept_zero = ap (λ (x : Admitting). x.kept) a;
            lanes_long = ap (λ (x : Admitting). length x.lanes) a;
            coeffs_long = ap (λ (x : Admitting). length x.coeffs) a;
            entered = λ vs f. absurd (no_value (TableFull 3 room) vs (sym p ∙ f));
            turned = λ q f. (answer ∙ ap Err (same_refused (TableFull 3 room) q (sym p ∙ f)), ap (λ (x : Admitting). x.lanes) a, ap (λ (x : Admitting). x.coeffs) a);
            by_entries = λ r f. absurd (no_entries (TableFull 3 room) r (sym answer ∙ f));
            by_refusal = λ q f. p ∙ ap refused (same_answer (TableFull 3 room) q (sym answer ∙ f));
          }

      call_enters : ltb room (len + flagged flags) ≡ false → AdmitCall lanes coeffs len ws cs order work kept after plain
      call_enters e =
          let a = after_is false e in
          let p : plain ≡ got us = plain_is false e in
          record {
            order_zero = ap (λ (x : Admitting). x.order) a;
            work_zero = ap (λ (x : Admitting). x.work) a;
            kept_zero = ap (λ (x : Admitting). x.kept) a;
            lanes_long = long_lanes;
            coeffs_long = long_coeffs;
            entered = λ vs f. subst (λ (l : List Word). (after.answer ≡ Ok (len + length l)) × Held after.lanes after.coeffs (len + length l) (ws ++ l) (cs ++ replicate (length l) float0)) (same_value us vs (sym p ∙ f)) (answer ∙ ap (λ (j : ℕ). Ok (len + j)) (sym us_long), holds);
            turned = λ q f. absurd (no_value q us (sym f ∙ p));
            by_entries = λ r f. (us, (p, entries_same r (len + length us) (sym f ∙ answer ∙ ap (λ (j : ℕ). Ok (len + j)) (sym us_long))));
            by_refusal = λ q f. absurd (no_entries q (len + flagged flags) (sym f ∙ answer));
          }
        where
          fits : len + flagged flags ≤ room
          fits = ltb-false room (len + flagged flags) e

          answer : after.answer ≡ Ok (len + flagged flags)
          answer = ap (λ (x : Admitting). x.answer) (after_is false e)

          long_lanes : length after.lanes ≡ length lanes
          long_lanes =
              let new : List Word = picked (length values) flags list in
              let c : length (flat_lanes new) ≡ word_lanes * length new = lanes_count new (whole_pick flags (take (length values) (words list)) (whole_take (length values) (words list) (whole_words list))) in
              let nn : length new ≡ flagged flags = ap length us_are ∙ us_long in
              ap (λ (x : Admitting). length x.lanes) (after_is false e)
              ∙ omega (arith, length-append (take (word_lanes * len) lanes) (flat_lanes new ++ drop (word_lanes * (len + length new)) lanes), length-append (flat_lanes new) (drop (word_lanes * (len + length new)) lanes), length-take-le (word_lanes * len) lanes h.lanes_long, length-drop (word_lanes * (len + length new)) lanes, c, nn, fits)

          long_coeffs : length after.coeffs ≡ length coeffs
          long_coeffs =
              ap (λ (x : Admitting). length x.coeffs) (after_is false e)
              ∙ omega (arith, length-append (take len coeffs) (replicate (flagged flags) float0 ++ drop (len + flagged flags) coeffs), length-append (replicate (flagged flags) float0) (drop (len + flagged flags) coeffs), length-take-le len coeffs h.numbers_long, length-replicate (flagged flags) float0, length-drop (len + flagged flags) coeffs, fits)

          holds : Held after.lanes after.coeffs (len + length us) (ws ++ us) (cs ++ replicate (length us) float0)
          holds =
              record {
                lanes_long = omega (arith, long_lanes, us_long, fits);
                numbers_long = omega (arith, long_coeffs, us_long, fits);
                words_are =
                    ap (take (len + length us))
                    (words_after len lanes coeffs list values order work kept n limit (len + flagged flags) answer
                    ∙ ap₂ (λ (v : List Word) (u : List Word). v ++ (u ++ drop (len + flagged flags) (words lanes))) h.words_are us_are
                    ∙ sym (append_assoc ws us (drop (len + flagged flags) (words lanes))))
                    ∙ take_at (ws ++ us) (drop (len + flagged flags) (words lanes)) (len + length us) (length-append ws us ∙ ap (λ (j : ℕ). j + length us) (held_words lanes coeffs len ws cs h));
                numbers_are =
                    ap (take (len + length us))
                    (coeffs_after len lanes coeffs list values order work kept n limit (len + flagged flags) answer
                    ∙ ap₂ (λ (v : List Float) (u : List Word). v ++ (replicate (length u) float0 ++ drop (len + flagged flags) coeffs)) h.numbers_are us_are
                    ∙ sym (append_assoc cs (replicate (length us) float0) (drop (len + flagged flags) coeffs)))
                    ∙ take_at (cs ++ replicate (length us) float0) (drop (len + flagged flags) coeffs) (len + length us) (length-append cs (replicate (length us) float0) ∙ ap₂ ◌+◌ (held_numbers lanes coeffs len ws cs h) (length-replicate (length us) float0));
              }

      pub admit_call : AdmitCall lanes coeffs len ws cs order work kept after plain
      admit_call = go (ltb room (len + flagged flags)) refl
        where
          go : (b : Bool) → ltb room (len + flagged flags) ≡ b → AdmitCall lanes coeffs len ws cs order work kept after plain
          go true e = call_full e
          go false e = call_enters e
