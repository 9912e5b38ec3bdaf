-- SPDX-FileCopyrightText: 2026 The PPVM Authors
-- SPDX-License-Identifier: Apache-2.0

-- A time step: its stages in tables of as many places, in longer ones, and for a choice of the degree. Assumes nothing.
use mathlib.Core.Path.{◌≡◌, sym, ap, ap₂, ◌∙◌, subst}
use mathlib.Core.List.{List, [], ◌++◌, append-nil, append_assoc}
use Prim.Native.Nat.{ℕ, ◌*◌, ◌≤◌, ◌<◌}
use native.Mathlib.Omega.{arith}
use borrow.Author.Tests.{eq-eqb, ne_eqb, lt-ltb, le-ltb}
use lib.Ieee.{Float}
use lib.ListN.{length, take, drop, take-append-drop, drop_of_length-le}
use lib.Seq.{take_all, length-take-le}
use Rattle.refusal.specs.declared.Refusal.{Refusal}
use Rattle.refusal.specs.declared.Refusal.TheVariants.{SumNotFinite}
use Rattle.number.specs.Floats.{floats, magnitude}
use Rattle.expm.specs.Selects.{chosen, cost, max_products}
use Rattle.expm.specs.declared.Degree.{Degree}
use Rattle.std.specs.Prelude.{Result, Ok, Err}
use Rattle.taylor.specs.Stages.{Evolution, evolved, stopped, stages}
use Rattle.taylor.specs.Evolves.{answer_after, out_after, Evolves, evolve_with, evolve_by}
use Rattle.taylor.specs.Between.{AllFinite, Matrix, follows, StageReady, StagesLeave, RunReady, EvolveReady}

-- ---- tables of as many places
module _ (offsets columns : List ℕ) (values : List Float) (m s : ℕ) (dt : Float) (coeffs v b product out : List Float) (ready : RunReady offsets columns values m s coeffs v b product out) where
  abbrev course : Evolution
  course = stages offsets columns values m s dt s coeffs

  module _ (v₁ : List Float) (copied : v₁ ≡ take (length v) coeffs) where
    pub copied_is : v₁ ≡ coeffs
    copied_is = copied ∙ take_all (length v) coeffs (omega (arith, ready.v_long))

    pub stages_ready : StageReady offsets columns values m s b product v₁
    stages_ready =
        let e = ap length copied_is in
        record {
          matrix = subst (λ (n : ℕ). Matrix n offsets columns values) (sym e) ready.matrix;
          finite = subst AllFinite (sym copied_is) ready.finite;
          b_long = ready.b_long ∙ sym e;
          product_long = ready.product_long ∙ sym e;
          short = ready.short;
          few = ready.few;
        }

    module _ (r : ℕ) (v₂ : List Float) (leaves : StagesLeave offsets columns values m s dt v₁ r v₂) where
      course_is : course ≡ follows (length coeffs) r (evolved v₂)
      course_is = rw copied_is at leaves

      pub run_stopped : r < length coeffs → (Err (SumNotFinite r) ≡ answer_after (m * s) course) × (out ≡ out_after (length coeffs) out course)
      run_stopped h =
          let e : course ≡ stopped r = course_is ∙ rw (lt-ltb r (length coeffs) h) in
          (sym (ap (answer_after (m * s)) e), sym (ap (out_after (length coeffs) out) e))

      pub run_finished : length coeffs ≤ r → length v₂ ≡ length v₁ → (out₂ : List Float) → out₂ ≡ take (length out) v₂ → (Ok (m * s) ≡ answer_after (m * s) course) × (out₂ ≡ out_after (length coeffs) out course)
      run_finished h long out₂ e₂ =
          let e : course ≡ evolved v₂ = course_is ∙ rw (le-ltb r (length coeffs) h) in
          let k : length v₂ ≡ length coeffs = long ∙ ap length copied_is in
          let z = drop_of_length-le out {i = length coeffs} (omega (arith, ready.out_long)) in
          (sym (ap (answer_after (m * s)) e), e₂ ∙ take_all (length out) v₂ (omega (arith, ready.out_long)) ∙ sym (append-nil v₂) ∙ ap (λ (l : List Float). v₂ ++ l) (sym z) ∙ sym (ap (out_after (length coeffs) out) e))

-- ---- longer tables
out_whole : (n : ℕ) (out : List Float) → n ≤ length out → (e : Evolution) → out_after n (take n out) e ++ drop n out ≡ out_after n out e
out_whole n out h (evolved v) =
    let z : drop n (take n out) ≡ [] = drop_of_length-le (take n out) {i = n} (omega (arith, length-take-le n out h)) in
    append_assoc v (drop n (take n out)) (drop n out) ∙ ap (λ (l : List Float). v ++ (l ++ drop n out)) z
out_whole n out h (stopped r) = take-append-drop n out

module _ (offsets columns : List ℕ) (values : List Float) (dt : Float) (coeffs v b product out : List Float) (ready : EvolveReady offsets columns values coeffs v b product out) where
  pub front_ready : (d : Degree) → d.m < 4294967296 → cost d ≤ max_products → RunReady offsets columns values d.m d.s coeffs (take (length coeffs) v) (take (length coeffs) b) (take (length coeffs) product) (take (length coeffs) out)
  front_ready d short few = record {
    matrix = ready.matrix;
    finite = ready.finite;
    v_long = length-take-le (length coeffs) v ready.v_long;
    b_long = length-take-le (length coeffs) b ready.b_long;
    product_long = length-take-le (length coeffs) product ready.product_long;
    out_long = length-take-le (length coeffs) out ready.out_long;
    short = short;
    few = few;
  }

  pub pair_run : (d : Degree) (r : Result ℕ Refusal) (front : List Float)
      → (r ≡ answer_after (d.m * d.s) (stages offsets columns values d.m d.s dt d.s coeffs)) × (front ≡ out_after (length coeffs) (take (length coeffs) out) (stages offsets columns values d.m d.s dt d.s coeffs))
      → record { answer = r; out = front ++ drop (length coeffs) out } ≡ evolve_with offsets columns values dt coeffs out (Ok d)
  pair_run d r front e =
      let E : Evolution = stages offsets columns values d.m d.s dt d.s coeffs in
      ap₂ (λ (a : Result ℕ Refusal) (l : List Float). record { answer = a; out = l }) e.0 (ap (λ (l : List Float). l ++ drop (length coeffs) out) e.1 ∙ out_whole (length coeffs) out ready.out_long E)

-- ---- a choice
module _ (offsets columns : List ℕ) (values : List Float) (dt : Float) (coeffs out : List Float) where
  pub no_numbers : (norm dropTol : Float) → length coeffs ≡ 0 → record { answer = Ok 0; out = out } ≡ evolve_by offsets columns values dt coeffs out norm dropTol
  unfolding evolve_by
  no_numbers norm dropTol z = rw (eq-eqb (length coeffs) 0 z)

  pub some_numbers : (norm dropTol : Float) → (length coeffs ≡ 0 → ⊥) → (c : Result Degree Refusal) → c ≡ chosen dropTol (floats.times (magnitude dt) norm) → (e : Evolves) → e ≡ evolve_with offsets columns values dt coeffs out c
      → e ≡ evolve_by offsets columns values dt coeffs out norm dropTol
  unfolding evolve_by
  some_numbers norm dropTol z c f e h = rw (ne_eqb (length coeffs) 0 z, ← f) h
