-- SPDX-FileCopyrightText: 2026 The PPVM Authors
-- SPDX-License-Identifier: Apache-2.0

-- Numbers evolved by one time step over a matrix by rows of a given norm: the degree chosen for it, the answer, and what is written out.
use Rattle.std.specs.Prelude.{ℕ, ◌*◌, cond, List, ◌++◌, eqb, Float, length, drop, Result, Ok, Err}
use Rattle.refusal.specs.declared.Refusal.TheVariants.{SumNotFinite}
use Rattle.number.specs.Floats.{floats, magnitude}
use Rattle.expm.specs.Selects.{chosen}
use Rattle.refusal.specs.declared.Refusal.{Refusal}
use Rattle.expm.specs.declared.Degree.{Degree}
use Rattle.taylor.specs.Stages.{Evolution, evolved, stopped, stages}

-- so many products, or 14 with the row
abbrev pub answer_after : ℕ → Evolution → Result ℕ Refusal
answer_after products (evolved v) = Ok products
answer_after products (stopped r) = Err (SumNotFinite r)

-- the numbers evolved are written over the first n places
abbrev pub out_after : ℕ → List Float → Evolution → List Float
out_after n out (evolved v) = v ++ drop n out
out_after n out (stopped r) = out

pub record Evolves : Type 0 where
  pub answer : Result ℕ Refusal
  pub out : List Float

module _ (offsets columns : List ℕ) (values : List Float) (dt : Float) (coeffs out : List Float) where
  -- m × s products, or 16
  abbrev pub evolve_with : Result Degree Refusal → Evolves
  evolve_with (Ok d) =
      let e : Evolution = stages offsets columns values d.m d.s dt d.s coeffs in
      record { answer = answer_after (d.m * d.s) e; out = out_after (length coeffs) out e }
  evolve_with (Err q) = record { answer = Err q; out = out }

  -- (m, s) is chosen for |dt| × norm, the table by drop_tol; no numbers take no product
  unfoldable pub evolve_by : Float → Float → Evolves
  evolve_by norm dropTol = cond (eqb (length coeffs) 0) (record { answer = Ok 0; out = out }) (evolve_with (chosen dropTol (floats.times (magnitude dt) norm)))
