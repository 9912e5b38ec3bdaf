-- SPDX-FileCopyrightText: 2026 The PPVM Authors
-- SPDX-License-Identifier: Apache-2.0

-- `listing::list_candidates` meets its contract. Assumes nothing.
use Rattle.refusal.proofs.Told.{handed_on}
use Rattle.limits.specs.Defaults.{tau_of}
use Rattle.leakage.proofs.OutLaws.{listing_stopped}
use Rattle.leakage.proofs.listing.list_candidates.Goals as goal

pub returns-in_err-n : goal.returns-in_err-n
returns-in_err-n c =
    let a = c.args in
    rw (handed_on _ _ c.from_residual.ensures.1, c.in_err-n.was) (listing_stopped (tau_of a.limits) a.out_words.now a.out_values.now _)
