-- SPDX-FileCopyrightText: 2026 The PPVM Authors
-- SPDX-License-Identifier: Apache-2.0

-- `evolve::evolve` meets its contract: what was run, and zero in the work tables. Assumes nothing.
use mathlib.Core.Path.{ap, ◌∙◌}
use Prim.Native.Nat.{ℕ}
use lib.ListN.{replicate}
use Rattle.number.specs.Floats.{float0}
use Rattle.taylor.proofs.evolve.evolve.Goals as goal

pub returns : goal.returns
returns c =
    let q = c.choose_and_run-evolved in
    (q.ensures, c.clear_numbers.ensures ∙ ap (λ (n : ℕ). replicate n float0) q.auto.v, c.clear_numbers-2.ensures ∙ ap (λ (n : ℕ). replicate n float0) q.auto.b, c.clear_numbers-3.ensures ∙ ap (λ (n : ℕ). replicate n float0) q.auto.product)
