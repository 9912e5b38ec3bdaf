-- SPDX-FileCopyrightText: 2026 The PPVM Authors
-- SPDX-License-Identifier: Apache-2.0

-- The evolution of a step is that of the call: over lent tables that have their places, a basis that passes is accepted, and what is
-- written out are the numbers that plain lists evolve to. Assumes nothing.
use mathlib.Core.Path.{◌≡◌, refl, sym, ap, subst, ◌∙◌}
use mathlib.Core.Bool.{Bool, true, false, cond}
use mathlib.Core.List.{List, [], ◌∷◌, ◌++◌, append-nil}
use Prim.Native.Nat.{ℕ, suc, ◌*◌, ◌≤◌}
use native.Mathlib.Omega.{arith}
use borrow.Author.Tests.{eqb-true}
use lib.Dec.{eqb}
use lib.Ieee.{Float}
use lib.ListN.{length, take, drop, drop_of_length-le, length-append, length-drop}
use lib.Seq.{take_at, drop_at}
use Rattle.refusal.specs.declared.Refusal.{Refusal}
use Rattle.std.specs.Prelude.{Result, Ok, Err}
use Rattle.expm.specs.declared.Degree.{Degree}
use Rattle.refusal.specs.Cause.{Answer}
use Rattle.word.specs.declared.word.Word.{Word}
use Rattle.number.specs.Floats.{floats, magnitude, is_finite}
use Rattle.expm.specs.Selects.{chosen}
use Rattle.lent.specs.Read.{Read, got, refused}
use Rattle.model.specs.Stored.{ModelTables}
use Rattle.model.specs.Tested.{test_model}
use Rattle.model.specs.declared.stored.Model.{Model}
use Rattle.action.specs.Acts.{sum_places}
use Rattle.columns.specs.Columns.{generator_room}
use Rattle.generator.specs.Lent.{basis_of}
use Rattle.generator.specs.Generators.{csr_places}
use Rattle.taylor.specs.Stages.{Evolution, evolved, stopped, stages}
use Rattle.taylor.specs.Evolves.{Evolves, answer_after, out_after, evolve_with, evolve_by}
use Rattle.evolution.specs.Lent.{Work, zeroed, basis_tests, work_tests, number_tests, evolve_tests}
use Rattle.evolution.specs.Evolutions.{Evolving, room_then, evolve_over, evolve}
use Rattle.evolution.proofs.CheckLaws.{TablesPassed, basis_accepted, tables_accepted}
use Rattle.step_laws.specs.Steps.{Places, Outcome, outcome_of, evolution}
use Rattle.step_laws.specs.Passing.{Good, Held, EvolveCall}
use Rattle.step_laws.proofs.CourseLaws.{no_value, same_value, same_refused}
use Rattle.step_laws.proofs.EvolvedLaws.{stages_leave}
use Rattle.step_laws.proofs.HeldLaws.{held_words, held_numbers, inside_passes, finite_passes, need_none, apart_passes}

-- ---- an evolution that writes into a table, beside one that writes over its numbers
record Alike (len : ℕ) (out : List Float) (x y : Evolves) : Type 0 where
  answers : x.answer ≡ y.answer
  numbers : (k : ℕ) → x.answer ≡ Ok k → take len x.out ≡ y.out
  kept : (q : Refusal) → x.answer ≡ Err q → x.out ≡ out
  rest : drop len x.out ≡ drop len out
  long : length x.out ≡ length out

no_products : (q : Refusal) (k : ℕ) → ◌≡◌ {A = Result ℕ Refusal} (Err q) (Ok k) → ⊥
no_products q k e = let z : ◌≡◌ {A = ℕ} 0 1 = cc in omega arith

module _ (len : ℕ) (out : List Float) (room : len ≤ length out) where
  refused_alike : (cs : List Float) (q : Refusal) → Alike len out (record { answer = Err q; out = out }) (record { answer = Err q; out = cs })
  refused_alike cs q = record { answers = refl; numbers = λ k e. absurd (no_products q k e); kept = λ r e. refl; rest = refl; long = refl }

  module _ (cs : List Float) (each : length cs ≡ len) (offsets columns : List ℕ) (values : List Float) (dt : Float) where
    stages_alike : (p m s : ℕ) (e : Evolution) → stages offsets columns values m s dt s cs ≡ e
        → Alike len out (record { answer = answer_after p e; out = out_after (length cs) out e }) (record { answer = answer_after p e; out = out_after (length cs) cs e })
    stages_alike p m s (evolved v) t =
        let l : length v ≡ len = (stages_leave (λ x. Unit {0}) (λ x y f. tt) offsets columns values m s dt s cs v (λ i h. tt) t).long ∙ each in
        let none : drop (length cs) cs ≡ [] = drop_of_length-le cs {i = length cs} (omega arith) in
        let same : drop (length cs) out ≡ drop len out = ap (λ (k : ℕ). drop k out) each in
        record {
          answers = refl;
          numbers = λ k f. take_at v (drop (length cs) out) len l ∙ sym (ap (λ (r : List Float). v ++ r) none ∙ append-nil v);
          kept = λ q f. absurd (no_products q p (sym f));
          rest = drop_at v (drop (length cs) out) len l ∙ same;
          long = omega (arith, length-append v (drop (length cs) out), ap length same, length-drop len out, l, room);
        }
    stages_alike p m s (stopped r) t = refused_alike cs _

    with_alike : (c : Result Degree Refusal) → Alike len out (evolve_with offsets columns values dt cs out c) (evolve_with offsets columns values dt cs cs c)
    with_alike (Ok d) = stages_alike (d.m * d.s) d.m d.s (stages offsets columns values d.m d.s dt d.s cs) refl
    with_alike (Err q) = refused_alike cs q

    by_alike : (norm dropTol : Float) → Alike len out (evolve_by offsets columns values dt cs out norm dropTol) (evolve_by offsets columns values dt cs cs norm dropTol)
    unfolding evolve_by
    by_alike norm dropTol = go (eqb (length cs) 0) refl
      where
        empty : (l : List Float) → length l ≡ 0 → [] ≡ l
        empty [] e = refl
        empty (x ∷ l) e = absurd (omega arith)

        go : (b : Bool) → eqb (length cs) 0 ≡ b
            → Alike len out (cond b (record { answer = Ok 0; out = out }) (evolve_with offsets columns values dt cs out (chosen dropTol (floats.times (magnitude dt) norm))))
            (cond b (record { answer = Ok 0; out = cs }) (evolve_with offsets columns values dt cs cs (chosen dropTol (floats.times (magnitude dt) norm))))
        go true t =
            let z : length cs ≡ 0 = eqb-true (length cs) 0 t in
            let n : len ≡ 0 = sym each ∙ z in
            record {
              answers = refl;
              numbers = λ k e. ap (λ (j : ℕ). take j out) n ∙ empty cs z;
              kept = λ q e. refl;
              rest = refl;
              long = refl;
            }
        go false t = with_alike (chosen dropTol (floats.times (magnitude dt) norm))

  room_alike : (m : Model) (t : ModelTables) (ws : List Word) (cs : List Float) (dt dropTol : Float) (a : Answer) → length ws ≡ len → length cs ≡ len
      → Alike len out (room_then m t ws len cs dt dropTol a out) (room_then m t ws (length ws) cs dt dropTol a cs)
  room_alike m t ws cs dt dropTol a e each = rw e (go a)
    where
      go : (a : Answer) → Alike len out (room_then m t ws len cs dt dropTol a out) (room_then m t ws len cs dt dropTol a cs)
      go (Ok _) = by_alike cs each _ _ _ dt _ dropTol
      go (Err q) = refused_alike cs q

-- ---- the call
module _ (m : Model) (t : ModelTables) (ok : test_model m t ≡ Ok tt) (lanes : List ℕ) (coeffs : List Float) (len : ℕ) (ws : List Word) (cs : List Float)
    (h : Held lanes coeffs len ws cs) (good : Good m.qubits ws cs) (dt dropTol : Float) (dt-finite : is_finite dt ≡ true) (tol-finite : is_finite dropTol ≡ true) (w : Work) (out : List Float)
    (lent : TablesPassed m.qubits len (length w.generator.h_index) (length w.generator.j_index) (length w.generator.mask) (length w.generator.heads) (length w.generator.nexts) (length w.offsets) (length w.v) (length w.b) (length w.product) (length out)) where
  basis_ok : basis_tests m t lanes coeffs len ≡ Ok tt
  basis_ok =
      sym (basis_accepted m t lanes coeffs len ok (omega (arith, good.fit.few, held_words lanes coeffs len ws cs h)) (omega (arith, h.lanes_long)) h.numbers_long)

  tables_ok : work_tests m.qubits len (length w.generator.h_index) (length w.generator.j_index) (length w.generator.mask) (length w.generator.heads) (length w.generator.nexts) (length w.offsets) (length w.v) (length w.b) (length w.product) (length out) ≡ Ok tt
  tables_ok =
      sym (tables_accepted m.qubits len _ _ _ _ _ _ _ _ _ _ refl refl refl (need_none len _ _ lent.h_long) (need_none len _ _ lent.j_long) (need_none len _ _ lent.mask_long) lent.heads_long lent.nexts_long (need_none len (suc len) (length w.offsets) (λ a. omega (arith, lent.offsets_long a))) lent.v_long lent.b_long lent.product_long lent.out_long)

  numbers_ok : number_tests len lanes m.qubits coeffs dt dropTol ≡ Ok tt
  unfolding number_tests
  numbers_ok =
      inside_passes lanes coeffs len ws cs h m.qubits _ good.fit.inside ∙ finite_passes lanes coeffs len ws cs h 0 _ good.fit.finite ∙ rw (dt-finite, tol-finite)

  pub evolve_accepted : evolve_tests m t lanes coeffs len dt dropTol w out ≡ Ok tt
  unfolding evolve_tests
  evolve_accepted = rw (basis_ok, tables_ok, numbers_ok, h.words_are) (apart_passes ws good.apart)

  module _ (protected : List Word) (places : Places) (touched : places.touched ≡ sum_places w.generator.work_words w.generator.work_sums) (entries : places.entries ≡ csr_places w.generator w.columns w.values) where
    abbrev after : Evolving
    after = evolve w out m t lanes coeffs len dt dropTol

    abbrev plain : Read Outcome
    plain = evolution m t protected dt places dropTol ws cs

    abbrev asked : Answer
    asked = generator_room m t ws places.touched places.entries

    written : evolve_over w out m t (basis_of lanes len) coeffs len dt dropTol ≡ room_then m t ws len cs dt dropTol asked out
    unfolding evolve_over
    written = rw (h.words_are, h.numbers_are, touched, entries)

    after_is : after ≡ record { answer = (room_then m t ws len cs dt dropTol asked out).answer; out = (room_then m t ws len cs dt dropTol asked out).out; work = zeroed w }
    unfolding evolve
    after_is = rw (evolve_accepted, written)

    call_of : (x y : Evolves) → Alike len out x y → EvolveCall w out len (record { answer = x.answer; out = x.out; work = zeroed w }) (outcome_of m t protected dt places y.out y.answer)
    call_of x y a = record {
      work_zero = refl;
      out_long = a.long;
      rest_stays = a.rest;
      evolved = λ o e. to_evolved o y.answer refl e;
      turned = λ q e. to_turned q y.answer refl e;
      by_products = λ k e. rw (sym a.answers ∙ e) (ap (λ (v : List Float). got (record { numbers = v; products = k })) (sym (a.numbers k e)));
      by_refusal = λ q e. rw (sym a.answers ∙ e);
    }
      where
        to_evolved : (o : Outcome) (b : Result ℕ Refusal) → y.answer ≡ b → outcome_of m t protected dt places y.out b ≡ got o → (x.answer ≡ Ok o.products) × (take len x.out ≡ o.numbers)
        to_evolved o (Ok k) i e =
            let same = same_value _ o e in
            (a.answers ∙ i ∙ ap (λ (r : Outcome). Ok r.products) same, a.numbers k (a.answers ∙ i) ∙ ap (λ (r : Outcome). r.numbers) same)
        to_evolved o (Err q) i e = absurd (no_value q o e)

        to_turned : (q : Refusal) (b : Result ℕ Refusal) → y.answer ≡ b → outcome_of m t protected dt places y.out b ≡ refused q → (x.answer ≡ Err q) × (x.out ≡ out)
        to_turned q (Ok k) i e = absurd (no_value q _ (sym e))
        to_turned q (Err r) i e =
            (a.answers ∙ i ∙ ap Err (same_refused r q e), a.kept r (a.answers ∙ i))

    pub evolve_call : EvolveCall w out len after plain
    unfolding evolution
    evolve_call =
        subst (λ (e : Evolving). EvolveCall w out len e plain) (sym after_is)
        (call_of (room_then m t ws len cs dt dropTol asked out) (room_then m t ws (length ws) cs dt dropTol asked cs)
        (room_alike len out lent.out_long m t ws cs dt dropTol asked (held_words lanes coeffs len ws cs h) (held_numbers lanes coeffs len ws cs h)))
