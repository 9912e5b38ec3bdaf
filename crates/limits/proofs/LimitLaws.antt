-- SPDX-FileCopyrightText: 2026 The PPVM Authors
-- SPDX-License-Identifier: Apache-2.0

-- Limits and thresholds, answer by answer. Assumes nothing.
use mathlib.Core.Path.{◌≡◌}
use mathlib.Core.Bool.{Bool, true, false, not}
use Prim.Native.Nat.{ℕ, ◌≤◌, ◌<◌, max}
use borrow.Author.Tests.{lt-ltb, le-ltb, eq-eqb, ne_eqb, not-true, not-false}
use Rattle.refusal.specs.declared.Refusal.TheVariants.{CountAboveLimit, NumberOutOfRange}
use Rattle.std.specs.Prelude.{Ok, Err}
use Rattle.number.specs.Floats.{is_finite}
use Rattle.lent.specs.Words.{max_words}
use Rattle.limits.specs.Defaults.{limit_of, absent_tau, tau_of, limit_tests, tau_tests}
use Rattle.limits.specs.declared.Limits.{Limits}

module _ (l : Limits) where
  pub basis_many : max_words < l.max_basis → Err (CountAboveLimit l.max_basis) ≡ limit_tests l
  unfolding limit_tests
  basis_many h = rw (lt-ltb max_words l.max_basis h)

  module _ (h1 : l.max_basis ≤ max_words) where
    pub admit_absent : l.admit_given ≡ 0 → (Ok tt) ≡ limit_tests l
    unfolding limit_tests
    admit_absent e = rw (le-ltb max_words l.max_basis h1, eq-eqb l.admit_given 0 e)

    module _ (h2 : l.admit_given ≡ 0 → ⊥) where
      pub admit_many : max_words < l.admit_basis → Err (CountAboveLimit l.admit_basis) ≡ limit_tests l
      unfolding limit_tests
      admit_many h = rw (le-ltb max_words l.max_basis h1, ne_eqb l.admit_given 0 h2, lt-ltb max_words l.admit_basis h)

      pub limits_accepted : l.admit_basis ≤ max_words → (Ok tt) ≡ limit_tests l
      unfolding limit_tests
      limits_accepted h = rw (le-ltb max_words l.max_basis h1, ne_eqb l.admit_given 0 h2, le-ltb max_words l.admit_basis h)

  pub tau_absent : (count : ℕ) → l.tau_given ≡ 0 → (Ok tt) ≡ tau_tests count l
  unfolding tau_tests
  tau_absent count e = rw (eq-eqb l.tau_given 0 e)

  module _ (count : ℕ) (h : l.tau_given ≡ 0 → ⊥) (finite : Bool) (is : finite ≡ is_finite l.tau_add) where
    pub tau_bad : not finite ≡ true → Err (NumberOutOfRange count) ≡ tau_tests count l
    unfolding tau_tests
    tau_bad f = rw (ne_eqb l.tau_given 0 h, ← is, not-true finite f)

    pub tau_accepted : not finite ≡ false → (Ok tt) ≡ tau_tests count l
    unfolding tau_tests
    tau_accepted f = rw (ne_eqb l.tau_given 0 h, ← is, not-false finite f)

  pub limit_alone : l.admit_given ≡ 0 → l.max_basis ≡ limit_of l
  unfolding limit_of
  limit_alone e = rw (eq-eqb l.admit_given 0 e)

  pub limit_raised : (l.admit_given ≡ 0 → ⊥) → max l.max_basis l.admit_basis ≡ limit_of l
  unfolding limit_of
  limit_raised e = rw (ne_eqb l.admit_given 0 e)

  pub tau_default : l.tau_given ≡ 0 → absent_tau ≡ tau_of l
  unfolding tau_of
  tau_default e = rw (eq-eqb l.tau_given 0 e)

  pub tau_given : (l.tau_given ≡ 0 → ⊥) → l.tau_add ≡ tau_of l
  unfolding tau_of
  tau_given e = rw (ne_eqb l.tau_given 0 e)
