-- SPDX-FileCopyrightText: 2026 The PPVM Authors
-- SPDX-License-Identifier: Apache-2.0

-- What lasts over the loop of `store::store_kept`.
use Rattle.model_build.proofs.StoreLaws.{KeepState}
use Rattle.model_build.proofs.store.store_kept.Given as goal

abbrev pub invariant-loop-i : goal.invariant-loop-i
invariant-loop-i l = KeepState l.len l.at l.words l.numbers l.initial.t_words l.initial.t_numbers l.t_words l.t_numbers l.place l.i
