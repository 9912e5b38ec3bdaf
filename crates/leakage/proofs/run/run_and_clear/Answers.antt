-- SPDX-FileCopyrightText: 2026 The PPVM Authors
-- SPDX-License-Identifier: Apache-2.0

-- `run::run_and_clear` meets its contract. Assumes nothing.
use mathlib.Core.Path.{ap, ◌∙◌}
use Prim.Native.Nat.{ℕ}
use lib.ListN.{replicate}
use Rattle.number.specs.Floats.{float0}
use Rattle.leakage.proofs.GatherLaws.{action_room, candidate_room}
use Rattle.leakage.proofs.run.run_and_clear.Goals as goal

pub run_passes-taken-requires : goal.run_passes-taken-requires
run_passes-taken-requires c =
    let a = c.args in
    record {
      model_ready = c.requires.model_ready;
      basis_ready = c.requires.basis_ready;
      action_room = action_room a.work_words.now a.work_sums.now c.action_places-sum_room.ensures;
      candidates_long = candidate_room a.cand_words.now a.cand_sums.now a.place_order.now a.place_work.now c.row_places-candidate_room.ensures;
    }

pub returns : goal.returns
returns c = (
  rw (← c.action_places-sum_room.ensures, ← c.row_places-candidate_room.ensures) c.run_passes-taken.ensures,
  c.clear_lanes.ensures ∙ ap (λ (n : ℕ). replicate n 0) c.run_passes-taken.auto.mask,
  c.clear_rows.ensures.0 ∙ ap (λ (n : ℕ). replicate n 0) c.run_passes-taken.auto.work_words,
  c.clear_rows.ensures.1 ∙ ap (λ (n : ℕ). replicate n float0) c.run_passes-taken.auto.work_sums,
)
