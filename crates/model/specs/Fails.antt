-- SPDX-FileCopyrightText: 2026 The PPVM Authors
-- SPDX-License-Identifier: Apache-2.0

-- A given number of a term that is out of range.
use Rattle.std.specs.Prelude.{ℕ, ◌+◌, ◌*◌, Bool, not, ◌||◌, List, Float, get_or}
use Rattle.std.specs.Float.{nan}
use Rattle.number.specs.Floats.{in_range}

abbrev pub fails_given : Float → Float → Bool
fails_given re im = not (in_range re) || not (in_range im)

unfoldable pub number_fails : List Float → ℕ → Bool
number_fails tNumbers i = fails_given (get_or tNumbers (i * 2) nan) (get_or tNumbers (i * 2 + 1) nan)
