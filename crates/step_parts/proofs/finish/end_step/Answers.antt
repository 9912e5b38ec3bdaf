-- SPDX-FileCopyrightText: 2026 The PPVM Authors
-- SPDX-License-Identifier: Apache-2.0

-- `finish::end_step` meets its contract: what the end of a course leaves, and zero in the tables that are cleared then. Assumes nothing.
use mathlib.Core.Path.{ap, ◌∙◌}
use Prim.Native.Nat.{ℕ}
use lib.ListN.{replicate}
use Rattle.number.specs.Floats.{float0}
use Rattle.step_parts.proofs.finish.end_step.Goals as goal

pub end_course-ended-requires : goal.end_course-ended-requires
end_course-ended-requires c = c.requires

pub clear_rest-requires : goal.clear_rest-requires
clear_rest-requires c = tt

pub returns : goal.returns
returns c =
    let e = c.end_course-ended in
    let z = c.clear_rest.ensures in (
      e.ensures.0,
      e.ensures.1,
      e.ensures.2,
      e.ensures.3,
      e.ensures.4,
      z.0,
      z.1,
      z.2,
      z.3,
      z.4 ∙ ap (λ (k : ℕ). replicate k 0) e.auto.grown_words,
      z.5,
      z.6 ∙ ap (λ (k : ℕ). replicate k float0) e.auto.evolved,
    )
