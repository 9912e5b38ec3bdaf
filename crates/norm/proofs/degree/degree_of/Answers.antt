-- SPDX-FileCopyrightText: 2026 The PPVM Authors
-- SPDX-License-Identifier: Apache-2.0

-- `degree::degree_of` meets its contract: what is handed on, or the pair chosen for a norm. Assumes nothing.
use mathlib.Core.Path.{◌∙◌}
use Rattle.refusal.proofs.Told.{handed_on}
use Rattle.norm.proofs.AnswerLaws.{pair_some, pair_refused, degree_some, degree_refused}
use Rattle.norm.proofs.degree.degree_of.Goals as goal

pub returns-in_err-mu : goal.returns-in_err-mu
returns-in_err-mu c = let a = c.args in handed_on _ _ c.from_residual.ensures.1 ∙ degree_refused a.dt a.drop_tol a.normed _ c.in_err-mu.was

pub returns-in_err-d : goal.returns-in_err-d
returns-in_err-d c =
    let a = c.args in
    degree_some a.dt a.drop_tol a.normed _ _ _ c.in_ok-mu.was c.magnitude.ensures _ c.select_degree.ensures _ (handed_on _ _ c.from_residual-in_err-d.ensures.1 ∙ pair_refused _ _ _ _ c.in_err-d.was)

pub returns : goal.returns
returns c = let a = c.args in degree_some a.dt a.drop_tol a.normed _ _ _ c.in_ok-mu.was c.magnitude.ensures _ c.select_degree.ensures _ (pair_some _ _ _ _ c.in_ok-d.was)
