-- SPDX-FileCopyrightText: 2026 The PPVM Authors
-- SPDX-License-Identifier: Apache-2.0

-- An accepted evolution multiplies the matrix that an accepted call of the matrix by rows leaves for the same model and basis, and takes m × s
-- products. Assumes nothing.
use mathlib.Core.Path.{◌≡◌, refl}
use mathlib.Core.Bool.{Bool, true, false, cond}
use mathlib.Core.List.{List}
use Prim.Native.Nat.{ℕ, ◌+◌, ◌*◌}
use native.Mathlib.Omega.{arith}
use borrow.Author.Tests.{eqb-true}
use lib.Dec.{eqb}
use lib.Ieee.{Float}
use lib.ListN.{length, take}
use Rattle.refusal.specs.declared.Refusal.{Refusal}
use Rattle.std.specs.Prelude.{Result, Ok, Err}
use Rattle.expm.specs.declared.Degree.{Degree}
use Rattle.refusal.specs.Cause.{Answer}
use Rattle.number.specs.Floats.{floats, magnitude}
use Rattle.expm.specs.Selects.{chosen}
use Rattle.expm.proofs.CeilingLaws.{answers}
use Rattle.model.specs.Stored.{ModelTables}
use Rattle.model.specs.declared.stored.Model.{Model}
use Rattle.action.specs.Acts.{sum_places}
use Rattle.columns.specs.Entries.{Entry}
use Rattle.columns.specs.Columns.{generator_of, generator_room}
use Rattle.raw_norm.specs.Unshifted.{unshifted_norm}
use Rattle.generator.specs.Lent as Generator
use Rattle.generator.specs.Lent.{basis_of}
use Rattle.generator.specs.Generators.{csr_places, build_csr}
use Rattle.generator_laws.proofs.Accepted.{csr_accepted}
use Rattle.generator_laws.proofs.RowPlaces.{first_offsets, first_columns, first_values}
use Rattle.generator_laws.proofs.SoundRows.{below}
use Rattle.taylor.specs.Stages.{Evolution, evolved, stopped, stages as stages_of}
use Rattle.taylor.specs.Evolves.{Evolves, answer_after, out_after, evolve_by, evolve_with}
use Rattle.evolution.specs.Lent.{Work, evolve_tests}
use Rattle.evolution.specs.Evolutions.{Evolving, by_generator, room_then, tested, evolve_over, evolve}
use Rattle.evolution_laws.specs.Products.{Took, none, stages}

refused_not : (q : Refusal) (p : ℕ) → ◌≡◌ {A = Result ℕ Refusal} (Err q) (Ok p) → ⊥
refused_not q p e = let z : ◌≡◌ {A = ℕ} 0 1 = cc in omega arith

abbrev outcome : Evolving → Evolves
outcome e = record { answer = e.answer; out = e.out }

module _ (w : Work) (out : List Float) (m : Model) (t : ModelTables) (lanes : List ℕ) (coeffs : List Float) (len : ℕ) (dt dropTol : Float) (p : ℕ) where
  abbrev room : Answer
  room = generator_room m t (basis_of lanes len) (sum_places w.generator.work_words w.generator.work_sums) (csr_places w.generator w.columns w.values)

  -- what was accepted passed the tests, and its columns found room
  pub evolves_generator : (evolve w out m t lanes coeffs len dt dropTol).answer ≡ Ok p → outcome (evolve w out m t lanes coeffs len dt dropTol) ≡ by_generator m t (basis_of lanes len) len (take len coeffs) dt dropTol out
  unfolding evolve evolve_over
  evolves_generator e = first (evolve_tests m t lanes coeffs len dt dropTol w out) e
    where
      second : (a : Answer) → (room_then m t (basis_of lanes len) len (take len coeffs) dt dropTol a out).answer ≡ Ok p → room_then m t (basis_of lanes len) len (take len coeffs) dt dropTol a out ≡ by_generator m t (basis_of lanes len) len (take len coeffs) dt dropTol out
      second (Ok _) f = refl
      second (Err q) f = absurd (refused_not q p f)

      first : (a : Answer) → (tested w out a (room_then m t (basis_of lanes len) len (take len coeffs) dt dropTol room out)).answer ≡ Ok p
          → outcome (tested w out a (room_then m t (basis_of lanes len) len (take len coeffs) dt dropTol room out)) ≡ by_generator m t (basis_of lanes len) len (take len coeffs) dt dropTol out
      first (Ok _) f = second room f
      first (Err q) f = absurd (refused_not q p f)

  -- by the tables of an accepted matrix by rows
  pub evolves_by_csr : (evolve w out m t lanes coeffs len dt dropTol).answer ≡ Ok p
      → (offsets columns : List ℕ) (values : List Float) (g : Generator.Work) (n : ℕ) → (build_csr offsets columns values g m t lanes len).out.answer ≡ Ok n
      → outcome (evolve w out m t lanes coeffs len dt dropTol)
      ≡ evolve_by (take (len + 1) (build_csr offsets columns values g m t lanes len).out.offsets) (take n (build_csr offsets columns values g m t lanes len).out.columns) (take n (build_csr offsets columns values g m t lanes len).out.values) dt (take len coeffs) out (unshifted_norm m t (basis_of lanes len)) dropTol
  evolves_by_csr e offsets columns values g n f =
      let l = csr_accepted offsets columns values g m t lanes len n f in
      let G : List Entry = generator_of m t (basis_of lanes len) in
      let b = below m t (basis_of lanes len) len l.rows_all in
      rw (l.size, l.is, first_offsets len G b l.offsets₀ l.columns₀ l.values₀ l.offsets_long, first_columns len G b l.offsets₀ l.columns₀ l.values₀ l.columns_long, first_values len G b l.offsets₀ l.columns₀ l.values₀ l.values_long)
      (evolves_generator e)

-- ---- the number of products
module _ (offsets columns : List ℕ) (values : List Float) (dt : Float) (coeffs out : List Float) (norm dropTol : Float) (p : ℕ) where
  answered : (n : ℕ) (e : Evolution) → answer_after n e ≡ Ok p → p ≡ n
  answered n (evolved v) h = cc
  answered n (stopped r) h = absurd (let z : ◌≡◌ {A = ℕ} 0 1 = cc in omega arith)

  pub products_taken : (evolve_by offsets columns values dt coeffs out norm dropTol).answer ≡ Ok p → Took (length coeffs) dt norm dropTol p
  unfolding evolve_by
  products_taken e = go (eqb (length coeffs) 0) refl e
    where
      pair : (c : Result Degree Refusal) → chosen dropTol (floats.times (magnitude dt) norm) ≡ c → (evolve_with offsets columns values dt coeffs out c).answer ≡ Ok p → Took (length coeffs) dt norm dropTol p
      pair (Ok d) f h =
          let k = answered (d.m * d.s) (stages_of offsets columns values d.m d.s dt d.s coeffs) h in
          let u = (answers dropTol (floats.times (magnitude dt) norm) d f).under in
          stages d f k (omega (arith, k, u))
      pair (Err q) f h = absurd (refused_not q p h)

      go : (b : Bool) → eqb (length coeffs) 0 ≡ b → (cond b (record { answer = Ok 0; out = out }) (evolve_with offsets columns values dt coeffs out (chosen dropTol (floats.times (magnitude dt) norm)))).answer ≡ Ok p → Took (length coeffs) dt norm dropTol p
      go true f h = none (eqb-true (length coeffs) 0 f) (cc)
      go false f h = pair (chosen dropTol (floats.times (magnitude dt) norm)) refl h

-- ---- a refusal writes nothing out
abbrev Safe : List Float → Evolves → Type 0
Safe out e = (q : Refusal) → e.answer ≡ Err q → e.out ≡ out

products_not : (q : Refusal) (n : ℕ) → ◌≡◌ {A = Result ℕ Refusal} (Ok n) (Err q) → ⊥
products_not q n e = let z : ◌≡◌ {A = ℕ} 0 1 = cc in omega arith

after_safe : (n k : ℕ) (out : List Float) (e : Evolution) → Safe out (record { answer = answer_after n e; out = out_after k out e })
after_safe n k out (evolved v) q h = absurd (products_not q n h)
after_safe n k out (stopped r) q h = refl

module _ (offsets columns : List ℕ) (values : List Float) (dt : Float) (coeffs out : List Float) (norm dropTol : Float) where
  with_safe : (c : Result Degree Refusal) → Safe out (evolve_with offsets columns values dt coeffs out c)
  with_safe (Ok d) = after_safe (d.m * d.s) (length coeffs) out (stages_of offsets columns values d.m d.s dt d.s coeffs)
  with_safe (Err r) = λ q h. refl

  by_safe : Safe out (evolve_by offsets columns values dt coeffs out norm dropTol)
  unfolding evolve_by
  by_safe = go (eqb (length coeffs) 0)
    where
      go : (b : Bool) → Safe out (cond b (record { answer = Ok 0; out = out }) (evolve_with offsets columns values dt coeffs out (chosen dropTol (floats.times (magnitude dt) norm))))
      go true = λ q h. refl
      go false = with_safe (chosen dropTol (floats.times (magnitude dt) norm))

pub evolve_kept : (w : Work) (out : List Float) (m : Model) (t : ModelTables) (lanes : List ℕ) (coeffs : List Float) (len : ℕ) (dt dropTol : Float) (q : Refusal)
    → (evolve w out m t lanes coeffs len dt dropTol).answer ≡ Err q → (evolve w out m t lanes coeffs len dt dropTol).out ≡ out
unfolding evolve evolve_over
evolve_kept w out m t lanes coeffs len dt dropTol q e = first (evolve_tests m t lanes coeffs len dt dropTol w out) e
  where
    second : (a : Answer) → Safe out (room_then m t (basis_of lanes len) len (take len coeffs) dt dropTol a out)
    second (Ok _) = by_safe _ _ _ dt (take len coeffs) out (unshifted_norm m t (basis_of lanes len)) dropTol
    second (Err r) = λ q h. refl

    first : (a : Answer) → (tested w out a (room_then m t (basis_of lanes len) len (take len coeffs) dt dropTol (room w out m t lanes coeffs len dt dropTol 0) out)).answer ≡ Err q
        → (tested w out a (room_then m t (basis_of lanes len) len (take len coeffs) dt dropTol (room w out m t lanes coeffs len dt dropTol 0) out)).out ≡ out
    first (Ok _) f = second (room w out m t lanes coeffs len dt dropTol 0) q f
    first (Err r) f = refl
