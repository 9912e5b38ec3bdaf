-- SPDX-FileCopyrightText: 2026 The PPVM Authors
-- SPDX-License-Identifier: Apache-2.0

-- Word limits and the threshold of a run: what an absent one means, what is above a threshold, and their tests.
use Rattle.std.specs.Prelude.{ℕ, ◌^◌, max, Bool, false, cond, eqb, Float, Ok}
use Rattle.std.specs.Float.{binary64}
use Rattle.std.specs.Float.Ieee.{round, lt}
use Rattle.refusal.specs.Cause.{Answer}
use Rattle.number.specs.Floats.{magnitude}
use Rattle.lent.specs.Tests.{counted}
use Rattle.lent.specs.Words.{max_words}
use Rattle.lent.specs.Numbers.{finite_threshold}
use Rattle.limits.specs.declared.Limits.{Limits}

-- an absent admit_basis means max_basis, and less than max_basis is raised to it
unfoldable pub limit_of : Limits → ℕ
limit_of l = cond (eqb l.admit_given 0) l.max_basis (max l.max_basis l.admit_basis)

-- 2^−40, which is an f64
abbrev pub absent_tau : Float
absent_tau = round binary64 false 1 (2 ^ 40)

-- an absent tau_add means 2^−40
unfoldable pub tau_of : Limits → Float
tau_of l = cond (eqb l.tau_given 0) absent_tau l.tau_add

-- those with magnitude > tau_add
abbrev pub is_above : Float → Float → Bool
is_above tau x = lt tau (magnitude x)

-- 8 for a word limit, and 7 for a threshold, each where it is given
unfoldable pub limit_tests : Limits → Answer
limit_tests l = counted max_words l.max_basis (cond (eqb l.admit_given 0) (Ok tt) (counted max_words l.admit_basis (Ok tt)))

unfoldable pub tau_tests : ℕ → Limits → Answer
tau_tests count l = cond (eqb l.tau_given 0) (Ok tt) (finite_threshold count l.tau_add (Ok tt))
