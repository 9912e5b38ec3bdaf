-- SPDX-FileCopyrightText: 2026 The PPVM Authors
-- SPDX-License-Identifier: Apache-2.0

-- What lasts over the loop of `scaled::store_scaled`.
use Rattle.number.specs.Floats.{cx}
use Rattle.k_matrix.proofs.ScaledLaws.{ScaledState}
use Rattle.k_matrix.proofs.scaled.store_scaled.Given as goal

abbrev pub invariant-loop-i : goal.invariant-loop-i
invariant-loop-i l = ScaledState (cx l.k) l.len l.at l.words l.numbers l.initial.t_words l.initial.t_numbers l.t_words l.t_numbers l.place l.i
