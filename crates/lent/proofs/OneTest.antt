-- SPDX-FileCopyrightText: 2026 The PPVM Authors
-- SPDX-License-Identifier: Apache-2.0

-- One test refuses, or leaves the tests after it. Assumes nothing.
use mathlib.Core.Path.{◌≡◌, sym}
use mathlib.Core.Bool.{Bool}
use Prim.Native.Nat.{ℕ, ◌≤◌, ◌<◌}
use borrow.Author.Tests.{lt-ltb, le-ltb}
use Rattle.refusal.specs.declared.Refusal.TheVariants.{NumberOutOfRange, CountAboveLimit, LengthMismatch}
use Rattle.std.specs.Prelude.{Err}
use Rattle.refusal.specs.Cause.{Answer}
use Rattle.lent.specs.Tests.{counted, lent, first_to, entries}

module _ (limit count : ℕ) (after : Answer) where
  pub counted_above : limit < count → Err (CountAboveLimit count) ≡ counted limit count after
  counted_above h = rw (lt-ltb limit count h)

  pub counted_within : count ≤ limit → after ≡ counted limit count after
  counted_within h = rw (le-ltb limit count h)

module _ (needed places : ℕ) (after : Answer) where
  pub lent_short : places < needed → Err (LengthMismatch needed places) ≡ lent needed places after
  lent_short h = rw (lt-ltb places needed h)

  pub lent_enough : needed ≤ places → after ≡ lent needed places after
  lent_enough h = rw (le-ltb places needed h)

-- r is the first of n places that fails, or n
module _ (n : ℕ) (f : ℕ → Bool) (after : Answer) {r : ℕ} (e : r ≡ first_to n f) where
  pub entries_refused : r < n → Err (NumberOutOfRange r) ≡ entries n f after
  unfolding entries
  entries_refused l = rw (sym e, lt-ltb r n l)

  pub entries_passed : n ≤ r → after ≡ entries n f after
  unfolding entries
  entries_passed l = rw (sym e, le-ltb r n l)
