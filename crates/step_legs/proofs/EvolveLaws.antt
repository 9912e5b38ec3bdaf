-- SPDX-FileCopyrightText: 2026 The PPVM Authors
-- SPDX-License-Identifier: Apache-2.0

-- A grown basis has what an evolution without tests asks for; and what the evolution does to it is what the step says of plain lists.
-- Assumes nothing.
use mathlib.Core.Path.{◌≡◌, refl, sym, ap, subst, ◌∙◌}
use mathlib.Core.Bool.{true, not}
use mathlib.Core.List.{List, ◌++◌}
use Prim.Native.Nat.{ℕ, ◌*◌, ◌/◌, ◌≤◌, ◌<◌}
use native.Mathlib.Omega.{arith}
use lib.Ieee.{Float}
use lib.ListN.{length, take, drop}
use lib.Seq.{get_or-take, length_front, take_at}
use Rattle.refusal.specs.declared.Refusal.{Refusal}
use Rattle.std.specs.Prelude.{Result, Ok, Err}
use Rattle.step_parts.specs.declared.taken.Step.{Step}
use Rattle.word.specs.Word.{identity}
use Rattle.word.specs.Flat.{words, word_lanes}
use Rattle.word.specs.Register.{reaches}
use Rattle.word.specs.declared.word.Word.{Word}
use Rattle.number.specs.Floats.{is_finite}
use Rattle.expm.specs.Selects.{max_products}
use Rattle.lent.specs.Numbers.{not_finite}
use Rattle.lent.specs.Read.{Read, refused}
use Rattle.lent.specs.Words.{outside_at}
use Rattle.slots.specs.Between.{Slotted}
use Rattle.model.specs.Stored.{ModelTables}
use Rattle.model.specs.Tested.{test_model}
use Rattle.model.specs.declared.stored.Model.{Model}
use Rattle.action.specs.Acts.{sum_places}
use Rattle.generator.specs.Between.{ModelLent, BasisLent}
use Rattle.generator.specs.Lent as Generator
use Rattle.generator.specs.Generators.{csr_places}
use Rattle.generator.proofs.CheckLaws.{Passed}
use Rattle.generator.proofs.LentLaws.{model_lent, basis_words, basis_lent, slots_asked}
use Rattle.taylor.specs.Evolves as Taylor
use Rattle.evolution.specs.Between.{SlotsReady, NumbersLent}
use Rattle.evolution.specs.Lent.{Work, work_of, zeroed, evolve_tests}
use Rattle.evolution.specs.Evolutions.{Evolving, evolve_over, evolve}
use Rattle.evolution.proofs.CallLaws.{slots_ready}
use Rattle.evolution.proofs.CheckLaws.{TablesPassed}
use Rattle.evolution_laws.specs.Products.{Took, none, stages}
use Rattle.evolution_laws.proofs.SameMatrix.{evolves_generator, products_taken}
use Rattle.step_laws.specs.Steps.{Places, Outcome, evolution}
use Rattle.step_laws.specs.Passing.{AreFinite, Good, GoodWords, Held, EvolveCall}
use Rattle.step_laws.proofs.EvolveCall.{evolve_accepted, evolve_call}
use Rattle.step_laws.proofs.EvolvedLaws.{evolution_finite}
use Rattle.step_laws.proofs.HeldLaws.{held_words, held_numbers}
use Rattle.step_parts.specs.Lent.{touched_places, entry_places}
use Rattle.step_parts.specs.Between.{EvolveLong, EvolvePlaces, Outcomes, EvolvesTo}
use Rattle.step_legs.specs.Between.{step_from}

-- ---- no more products than the ceiling
took_few : (count : ℕ) (dt norm dropTol : Float) (k : ℕ) → Took count dt norm dropTol k → k ≤ max_products
took_few count dt norm dropTol k (none e z) = omega (arith, z)
took_few count dt norm dropTol k (stages d e p h) = h

-- ---- as a step
taken_not : (q : Refusal) (k products : ℕ) → ◌≡◌ {A = Result Step Refusal} (Err q) (Ok (record { entries = k; products = products })) → ⊥
taken_not q k products e = let z : ◌≡◌ {A = ℕ} 0 1 = cc in omega arith

same_taken : (j k a b : ℕ) → ◌≡◌ {A = Result Step Refusal} (Ok (record { entries = j; products = a })) (Ok (record { entries = k; products = b })) → (j ≡ k) × (a ≡ b)
same_taken j k a b e =
    let h : ◌≡◌ {A = Step} (record { entries = j; products = a }) (record { entries = k; products = b }) = cc in
    (ap (λ (x : Step). x.entries) h, ap (λ (x : Step). x.products) h)

same_refused : {A : Type 0} (p q : Refusal) → ◌≡◌ {A = Result A Refusal} (Err p) (Err q) → p ≡ q
same_refused p q e = cc

module _ (plain : Read Outcome) (len : ℕ) (out : List Float) where
  told : (a : Result ℕ Refusal) → ((k : ℕ) → a ≡ Ok k → Outcomes plain len k out) → ((q : Refusal) → a ≡ Err q → plain ≡ refused q) → EvolvesTo plain len (step_from len a) out
  told (Ok p) evolves stops = record {
    taken = λ k products e. let s = same_taken len k p products e in (sym s.0, subst (λ (i : ℕ). Outcomes plain len i out) s.1 (evolves p refl));
    stops = λ q e. absurd (taken_not q len p (sym e));
  }
  told (Err r) evolves stops = record {
    taken = λ k products e. absurd (taken_not r k products e);
    stops = λ q e. stops r refl ∙ ap refused (same_refused r q e);
  }

-- ---- what is lent
module _ (m : Model) (t : ModelTables) (ok : test_model m t ≡ Ok tt) (places len : ℕ) (hIndex jIndex mask heads nexts placeOrder lanes : List ℕ) (candSums listValues workSums start out : List Float)
    (long : EvolveLong m.qubits places len hIndex jIndex mask heads nexts placeOrder lanes candSums listValues workSums start out)
    (apart : GoodWords m.qubits (take len (words lanes))) (finite : AreFinite (take len start)) (inside : len ≤ places) where
  held : Held lanes start len (take len (words lanes)) (take len start)
  held = record { lanes_long = omega (arith, long.grown_long, inside); numbers_long = omega (arith, long.start_long, inside); words_are = refl; numbers_are = refl }

  pub lanes_fit : len * word_lanes ≤ length lanes
  lanes_fit = omega (arith, held.lanes_long)

  passed : Passed m t lanes len (length hIndex) (length jIndex) (length mask) (length heads) (length nexts)
  passed = record {
    model = ok;
    few = omega (arith, apart.few, held_words lanes start len _ _ held);
    words_long = omega (arith, held.lanes_long);
    h_long = long.h_rows;
    j_long = long.j_rows;
    mask_long = long.row;
    heads_long = omega (arith, long.heads_long, inside);
    nexts_long = omega (arith, long.nexts_long, inside);
  }

  basis : BasisLent m.qubits len (take (len * word_lanes) lanes) heads nexts
  unfolding outside_at
  basis = basis_lent m t lanes len hIndex jIndex mask heads nexts passed
      (λ k h. ap (λ (v : Word). reaches v m.qubits) (sym (get_or-take len (words lanes) k identity h)) ∙ apart.inside k (omega (arith, h, held_words lanes start len _ _ held)))

  -- for the slots
  pub slots_lent : (word_lanes * length (take len nexts) ≡ length (take (len * word_lanes) lanes)) × (length (take len nexts) ≤ length heads)
  slots_lent = slots_asked m.qubits len (take (len * word_lanes) lanes) heads nexts basis

  -- for the matrix, with the slots laid
  pub model_given : 0 < length (take (len * word_lanes) lanes) / word_lanes → ModelLent m t hIndex jIndex mask
  model_given = model_lent m t lanes len hIndex jIndex mask heads nexts passed

  pub basis_is : words (take (len * word_lanes) lanes) ≡ take len (words lanes)
  basis_is = basis_words m t lanes len hIndex jIndex mask heads nexts passed

  pub basis_size : length (words (take (len * word_lanes) lanes)) ≡ len
  basis_size = ap length basis_is ∙ held_words lanes start len _ _ held

  pub slots_given : (heads' part : List ℕ) → length heads' ≡ length heads → length part ≡ length (take len nexts) → Slotted (words (take (len * word_lanes) lanes)) heads' part → SlotsReady m.qubits len (take (len * word_lanes) lanes) heads' (part ++ drop len nexts)
  slots_given heads' part eh ep s =
      slots_ready m.qubits len (take (len * word_lanes) lanes) heads nexts heads' (part ++ drop len nexts) basis eh (length_front nexts part len ep)
      (rw (take_at part (drop len nexts) len (s.each ∙ basis_size)) s)

  pub starts_given : 0 < len → len < length placeOrder
  starts_given a = omega (arith, long.starts_long a, inside)

  -- for the numbers, in tables as long as those that were lent
  pub numbers_given : (v product : List Float) → length v ≡ length candSums → length product ≡ length workSums → NumbersLent m t len start placeOrder v listValues product out
  unfolding not_finite
  numbers_given v product ev ep = record {
    passes = ok;
    coeffs_long = held.numbers_long;
    finite = λ k h. ap not (finite k h);
    offsets_long = starts_given;
    v_long = omega (arith, ev, long.cand_long, inside);
    b_long = omega (arith, long.list_long, inside);
    product_long = omega (arith, ep, long.sums_long, inside);
    out_long = omega (arith, long.evolved_long, inside);
  }

-- ---- the answer
module _ (m : Model) (t : ModelTables) (ok : test_model m t ≡ Ok tt) (dt dropTol : Float) (dt-finite : is_finite dt ≡ true) (drop-finite : is_finite dropTol ≡ true) (places len : ℕ) (lanes : List ℕ) (start : List Float) (w : Work) (out : List Float)
    (long : EvolveLong m.qubits places len w.generator.h_index w.generator.j_index w.generator.mask w.generator.heads w.generator.nexts w.offsets lanes w.v w.b w.product start out)
    (apart : GoodWords m.qubits (take len (words lanes))) (finite : AreFinite (take len start)) (inside : len ≤ places)
    (e : Taylor.Evolves) (is : e ≡ evolve_over w out m t (take len (words lanes)) start len dt dropTol) where
  abbrev ws : List Word
  ws = take len (words lanes)

  abbrev cs : List Float
  cs = take len start

  abbrev after : Evolving
  after = evolve w out m t lanes start len dt dropTol

  abbrev x : Evolving
  x = record { answer = e.answer; out = e.out; work = zeroed w }

  in_tables : Held lanes start len ws cs
  in_tables = held m t ok places len w.generator.h_index w.generator.j_index w.generator.mask w.generator.heads w.generator.nexts w.offsets lanes w.v w.b w.product start out long apart finite inside

  good : Good m.qubits ws cs
  good = record {
    fit = record { few = apart.few; inside = apart.inside; each = held_numbers lanes start len ws cs in_tables ∙ sym (held_words lanes start len ws cs in_tables); finite = finite };
    apart = apart.apart;
  }

  lent : TablesPassed m.qubits len (length w.generator.h_index) (length w.generator.j_index) (length w.generator.mask) (length w.generator.heads) (length w.generator.nexts) (length w.offsets) (length w.v) (length w.b) (length w.product) (length out)
  lent = record {
    h_long = long.h_rows;
    j_long = long.j_rows;
    mask_long = long.row;
    heads_long = omega (arith, long.heads_long, inside);
    nexts_long = omega (arith, long.nexts_long, inside);
    offsets_long = λ a. omega (arith, long.starts_long a, inside);
    v_long = omega (arith, long.cand_long, inside);
    b_long = omega (arith, long.list_long, inside);
    product_long = omega (arith, long.sums_long, inside);
    out_long = omega (arith, long.evolved_long, inside);
  }

  -- the tests, which are not asked for, would pass
  accepted : evolve_tests m t lanes start len dt dropTol w out ≡ Ok tt
  accepted = evolve_accepted m t ok lanes start len ws cs in_tables good dt dropTol dt-finite drop-finite w out lent

  as_called : x ≡ after
  unfolding evolve
  as_called = rw (accepted, is)

  module _ (p : Places) (protected : List Word) (touched : p.touched ≡ sum_places w.generator.work_words w.generator.work_sums) (entries : p.entries ≡ csr_places w.generator w.columns w.values) where
    abbrev plain : Read Outcome
    plain = evolution m t protected dt p dropTol ws cs

    call : EvolveCall w out len x plain
    call =
        subst (λ (y : Evolving). EvolveCall w out len y plain) (sym as_called)
        (evolve_call m t ok lanes start len ws cs in_tables good dt dropTol dt-finite drop-finite w out lent protected p touched entries)

    evolves_by : EvolvesTo plain len (step_from len e.answer) e.out
    evolves_by =
        told plain len e.out e.answer
        (λ k g. let given = call.by_products k g in record { is = given; few = few k g; finite = (evolution_finite m t protected dt p dropTol ws cs _ finite given).each })
        call.by_refusal
      where
        few : (k : ℕ) → e.answer ≡ Ok k → k ≤ max_products
        few k g =
            let f : after.answer ≡ Ok k = sym (ap (λ (y : Evolving). y.answer) as_called) ∙ g in
            took_few _ dt _ dropTol k (products_taken _ _ _ dt cs out _ dropTol k (sym (ap (λ (y : Taylor.Evolves). y.answer) (evolves_generator w out m t lanes start len dt dropTol k f)) ∙ f))

  pub evolves_plain : (p : Places) (protected : List Word) → EvolvePlaces p w.generator.work_words w.generator.work_sums w.generator.stage_rows w.generator.stage_columns w.generator.stage_values w.columns w.values
      → (r : Result Step Refusal) → r ≡ step_from len e.answer → EvolvesTo (evolution m t protected dt p dropTol ws cs) len r e.out
  unfolding touched_places entry_places
  evolves_plain p protected at r s = rw s (evolves_by p protected at.touched at.entries)

-- what the slots and the numbers were before makes no difference
pub over_alike : (w : Work) (heads nexts : List ℕ) (v product out : List Float) (m : Model) (t : ModelTables) {bs bs' : List Word} → bs ≡ bs' → (coeffs : List Float) (len : ℕ) (dt dropTol : Float)
    → evolve_over
    (work_of (Generator.work_of w.generator.h_index w.generator.j_index w.generator.mask heads nexts w.generator.work_words w.generator.work_sums w.generator.stage_rows w.generator.stage_columns w.generator.stage_values) w.offsets w.columns w.values v w.b product)
    out m t bs coeffs len dt dropTol
    ≡ evolve_over w out m t bs' coeffs len dt dropTol
unfolding evolve_over
over_alike w heads nexts v product out m t e coeffs len dt dropTol = rw e
