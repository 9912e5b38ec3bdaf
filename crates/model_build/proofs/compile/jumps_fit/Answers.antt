-- SPDX-FileCopyrightText: 2026 The PPVM Authors
-- SPDX-License-Identifier: Apache-2.0

-- `compile::jumps_fit` meets its contract. Assumes nothing.
use Rattle.model_build.proofs.SizeLaws.{fits_ample, fits_counted}
use native.Mathlib.Omega.{arith}
use Rattle.model_build.proofs.compile.jumps_fit.Goals as goal

pub returns-then-most_places-places : goal.returns-then-most_places-places
returns-then-most_places-places c =
    let a = c.args in
    fits_ample a.n_qubits a.counts.now a.lengths.now a.texts.now a.numbers.now a.places (omega (arith, c.most_places.ensures, c.if-most_places-places.true))

pub returns : goal.returns
returns c =
    let a = c.args in
    let k = c.count_jumps in
    fits_counted a.n_qubits a.counts.now a.lengths.now a.texts.now a.numbers.now a.places k.result k.ensures
