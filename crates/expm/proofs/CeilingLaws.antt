-- SPDX-FileCopyrightText: 2026 The PPVM Authors
-- SPDX-License-Identifier: Apache-2.0

-- The ceiling on matrix products, for every f64 and every drop_tol: at or below it the pair is the first of least m × s, as without
-- a ceiling; above it that pair is refused. And what infinity, a NaN, 0 and numbers near the ceiling give. Assumes nothing.
use Rattle.std.proofs.Common.{◌≡◌, ◌<◌, ◌≤◌, Bool, true, false, cond, ltb, sym, refl, ap, ◌∙◌, subst, arith, ltb-false, ltb-true, le-ltb, lt-ltb}
use lib.Ieee.{Float, nan, inf, binary64, of_bits, round, lt, le, div}
use Rattle.refusal.specs.declared.Refusal.{Refusal}
use Rattle.refusal.specs.declared.Refusal.TheVariants.{TooManyProducts}
use Rattle.number.specs.Floats.{float0}
use Rattle.expm.specs.Theta.{decimal, theta, theta_loose}
use Rattle.expm.specs.Selects.{steps_of, pair, cost, better, least_of, degree_by, table_for, max_products, under_ceiling, chosen, Answers, Refuses}
use Rattle.expm.specs.declared.Degree.{Degree}
use Rattle.std.specs.Prelude.{Result, Ok, Err}
use Rattle.expm.proofs.LeastLaws.{degree_least, degree_none}

module _ (d : Degree) where
  under : cost d ≤ max_products → under_ceiling d ≡ Ok d
  unfolding under_ceiling
  under h = rw (le-ltb max_products (cost d) h)

  over : max_products < cost d → under_ceiling d ≡ Err (TooManyProducts d.m d.s)
  unfolding under_ceiling
  over h = rw (lt-ltb max_products (cost d) h)

-- a pair is no refusal
IsPair : Result Degree Refusal → Type 0
IsPair (Ok d) = Unit {0}
IsPair (Err r) = ⊥

pair_or : Degree → Result Degree Refusal → Degree
pair_or d (Ok e) = e
pair_or d (Err r) = d

cause_or : Refusal → Result Degree Refusal → Refusal
cause_or q (Ok e) = q
cause_or q (Err r) = r

module _ (dropTol t : Float) where
  abbrev least : Degree
  least = degree_by (table_for dropTol) t

  -- at or below the ceiling nothing moves
  pub chosen_under : cost least ≤ max_products → chosen dropTol t ≡ Ok least
  unfolding chosen
  chosen_under h = under least h

  pub chosen_over : max_products < cost least → chosen dropTol t ≡ Err (TooManyProducts least.m least.s)
  unfolding chosen
  chosen_over h = over least h

  -- a pair that is answered, and one that is refused
  pub answers : (d : Degree) → chosen dropTol t ≡ Ok d → Answers dropTol t d
  unfolding IsPair pair_or
  answers d e = go (ltb max_products (cost least)) refl
    where
      go : (b : Bool) → ltb max_products (cost least) ≡ b → Answers dropTol t d
      go true f = absurd (subst IsPair (sym e ∙ chosen_over (ltb-true max_products (cost least) f)) tt)
      go false f =
          let h : cost least ≤ max_products = ltb-false max_products (cost least) f in
          let i : d ≡ least = ap (pair_or least) (sym e ∙ chosen_under h) in
          record { unmoved = i; least = rw i (degree_least dropTol t); under = rw i h }

  pub refuses : (r : Refusal) → chosen dropTol t ≡ Err r → Refuses dropTol t r
  unfolding IsPair cause_or
  refuses r e = go (ltb max_products (cost least)) refl
    where
      go : (b : Bool) → ltb max_products (cost least) ≡ b → Refuses dropTol t r
      go true f =
          let h : max_products < cost least = ltb-true max_products (cost least) f in
          record { pair = least; least = degree_least dropTol t; over = h; cause = ap (cause_or r) (sym e ∙ chosen_over h) }
      go false f = absurd (subst IsPair (sym (chosen_under (ltb-false max_products (cost least) f)) ∙ e) tt)

  -- 0 and below, and a NaN
  pub chosen_none : lt float0 t ≡ false → chosen dropTol t ≡ Ok (pair 1 1)
  unfolding chosen
  chosen_none h = ap under_ceiling (degree_none dropTol t h) ∙ under (pair 1 1) (omega arith)

pub chosen_nan : (dropTol : Float) → chosen dropTol nan ≡ Ok (pair 1 1)
unfolding lt of_bits
chosen_nan dropTol = chosen_none dropTol nan refl

pub chosen_infinity : (dropTol : Float) → chosen dropTol (inf false) ≡ Err (TooManyProducts 1 4294967295)
unfolding chosen table_for theta theta_loose degree_by least_of better under_ceiling steps_of div lt round of_bits
chosen_infinity dropTol = go (le (decimal 1 4) dropTol)
  where
    go : (b : Bool) → under_ceiling (degree_by (cond b theta_loose theta) (inf false)) ≡ Err (TooManyProducts 1 4294967295)
    go true = refl
    go false = refl

-- ---- the last f64 under the ceiling and the next one, by each table: 123730.08 and 238722.16
pub last_tight : under_ceiling (degree_by theta (of_bits binary64 0x40fe352147ae147b)) ≡ Ok (pair 30 34952)
unfolding theta degree_by least_of better under_ceiling steps_of div lt round of_bits
last_tight = refl

pub next_tight : under_ceiling (degree_by theta (of_bits binary64 0x40fe352147ae147c)) ≡ Err (TooManyProducts 30 34953)
unfolding theta degree_by least_of better under_ceiling steps_of div lt round of_bits
next_tight = refl

pub last_loose : under_ceiling (degree_by theta_loose (of_bits binary64 0x410d241147ae147b)) ≡ Ok (pair 30 34952)
unfolding theta_loose degree_by least_of better under_ceiling steps_of div lt round of_bits
last_loose = refl

pub next_loose : under_ceiling (degree_by theta_loose (of_bits binary64 0x410d241147ae147c)) ≡ Err (TooManyProducts 30 34953)
unfolding theta_loose degree_by least_of better under_ceiling steps_of div lt round of_bits
next_loose = refl
