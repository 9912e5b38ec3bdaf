-- SPDX-FileCopyrightText: 2026 The PPVM Authors
-- SPDX-License-Identifier: Apache-2.0

-- `parts::after_first` meets its contract. Assumes nothing.
use Prim.Native.Nat.{ℕ, ◌≤◌, ◌<◌}
use mathlib.Core.Path.{◌≡◌}
use borrow.Author.Tests.{le-leb, lt-leb}
use Rattle.std.specs.Prelude.{Result, Ok}
use Rattle.refusal.specs.declared.Refusal.{Refusal}
use Rattle.step_parts.specs.declared.taken.Step.{Step}
use Rattle.step.specs.Between.{after_first}
use Rattle.step.proofs.parts.after_first.Goals as goal

full : (limit : ℕ) (taken : Result Step Refusal) (k products : ℕ) → taken ≡ Ok (record { entries = k; products = products }) → limit ≤ k → 5 ≡ after_first limit taken
full limit taken k products e h = rw (e, le-leb limit k h)

room : (limit : ℕ) (taken : Result Step Refusal) (k products : ℕ) → taken ≡ Ok (record { entries = k; products = products }) → k < limit → 3 ≡ after_first limit taken
room limit taken k products e h = rw (e, lt-leb limit k h)

pub returns-then-limit-step : goal.returns-then-limit-step
returns-then-limit-step c = full _ _ _ _ c.in-Ok.is c.if-limit-step.true

pub returns : goal.returns
returns c = room _ _ _ _ c.in-Ok.is c.if-limit-step.false
