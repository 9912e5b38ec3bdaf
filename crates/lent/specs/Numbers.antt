-- SPDX-FileCopyrightText: 2026 The PPVM Authors
-- SPDX-License-Identifier: Apache-2.0

-- Numbers in lent tables: that they are finite (7).
use Rattle.std.specs.Prelude.{ℕ, ◌+◌, Bool, not, cond, List, ltb, Float, get_or, Err}
use Rattle.std.specs.Float.{nan}
use Rattle.refusal.specs.declared.Refusal.TheVariants.{NumberOutOfRange}
use Rattle.refusal.specs.Cause.{Answer}
use Rattle.number.specs.Floats.{is_finite}
use Rattle.lent.specs.Tests.{first_to}

unfoldable pub not_finite : List Float → ℕ → Bool
not_finite l k = not (is_finite (get_or l k nan))

-- 7 at the first of so many numbers that is not finite, counted on from those before it
unfoldable pub finite_to : ℕ → ℕ → List Float → Answer → Answer
finite_to before count l after = cond (ltb (first_to count (not_finite l)) count) (Err (NumberOutOfRange (before + first_to count (not_finite l)))) after

-- 7 for a threshold: the number of coefficients
abbrev pub finite_threshold : ℕ → Float → Answer → Answer
finite_threshold count x after = cond (is_finite x) after (Err (NumberOutOfRange count))
