-- SPDX-FileCopyrightText: 2026 The PPVM Authors
-- SPDX-License-Identifier: Apache-2.0

-- What lasts over the loop of `steps::pebblelinen_step`, and what falls.
use Prim.Native.Nat.{◌-◌}
use Rattle.model.specs.Between.{model_tables}
use Rattle.step_parts.specs.Lent.{work_of}
use Rattle.step.specs.Between.{start_of, Standing}
use Rattle.step.proofs.steps.pebblelinen_step.Given as goal

abbrev pub invariant-loop-part : goal.invariant-loop-part
invariant-loop-part l =
    Standing (start_of l.model (model_tables l.h_words l.h_coeffs l.jumps l.rates l.t_words l.t_numbers) l.initial.words l.initial.coeffs l.len l.protected l.limits l.dt l.drop_tol (work_of l.initial.h_index l.initial.j_index l.initial.mask l.initial.work_words l.initial.work_sums l.initial.order l.initial.heads l.initial.nexts l.initial.cand_words l.initial.cand_sums l.initial.place_order l.initial.place_work l.initial.list_words l.initial.list_values l.initial.stage_rows l.initial.stage_columns l.initial.columns l.initial.values l.initial.grown_words l.initial.start l.initial.evolved)) l.part l.taken l.hopped l.words l.coeffs (work_of l.h_index l.j_index l.mask l.work_words l.work_sums l.order l.heads l.nexts l.cand_words l.cand_sums l.place_order l.place_work l.list_words l.list_values l.stage_rows l.stage_columns l.columns l.values l.grown_words l.start l.evolved)

abbrev pub decreases-loop-part : goal.decreases-loop-part
decreases-loop-part l = 6 - l.part
