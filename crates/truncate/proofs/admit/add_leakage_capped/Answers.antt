-- SPDX-FileCopyrightText: 2026 The PPVM Authors
-- SPDX-License-Identifier: Apache-2.0

-- `admit::add_leakage_capped` meets its contract. Assumes nothing.
use mathlib.Core.Path.{sym, ◌∙◌}
use Rattle.refusal.proofs.Told.{handed_on}
use Rattle.truncate.proofs.AdmitLaws.{admit_refused}
use Rattle.truncate.proofs.admit.add_leakage_capped.Goals as goal

pub returns-in_err-check_admission : goal.returns-in_err-check_admission
returns-in_err-check_admission c =
    let a = c.args in
    rw (handed_on _ _ c.from_residual.ensures.1) (admit_refused a.len a.words.now a.coeffs.now a.list.now a.values.now a.order.now a.work.now a.kept.now a.n a.limit _ (sym c.check_admission.ensures ∙ c.in_err-check_admission.was))
