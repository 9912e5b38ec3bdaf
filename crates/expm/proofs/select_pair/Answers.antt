-- SPDX-FileCopyrightText: 2026 The PPVM Authors
-- SPDX-License-Identifier: Apache-2.0

-- `select_pair` meets its contract: one case for each outcome of the comparison with 1e-4, in which the table, computed, is that of
-- the specification row by row. Assumes nothing.
use Rattle.std.proofs.Common.{Bool, cond, List, sym, ap, ◌∙◌}
use lib.Ieee.{Float, of_bits, round}
use Rattle.expm.specs.Theta.{theta, theta_loose}
use Rattle.expm.specs.Selects.{degree_by, table_for, rows_from}
use Rattle.expm.proofs.select_pair.Goals.{then-drop_tol, else-drop_tol}
use Rattle.expm.proofs.select_pair.Goals as goal

pub returns : goal.returns
unfolding table_for of_bits round rows_from theta theta_loose
returns c =
    let t = c.args.t in
    c.select_ms_with.ensures
    ∙ elim c.if-drop_tol.branch [
      | then-drop_tol w ↦ ap (λ (l : List Float). degree_by (rows_from 1 l) t) w.thresholds-is ∙ sym (ap (λ (b : Bool). degree_by (cond b theta_loose theta) t) w.if-drop_tol.true)
      | else-drop_tol w ↦ ap (λ (l : List Float). degree_by (rows_from 1 l) t) w.thresholds-is ∙ sym (ap (λ (b : Bool). degree_by (cond b theta_loose theta) t) w.if-drop_tol.false)
    ]
