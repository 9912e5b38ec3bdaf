-- SPDX-FileCopyrightText: 2026 The PPVM Authors
-- SPDX-License-Identifier: Apache-2.0

-- What lasts over the loop of `admit::append_words`.
use Rattle.keep.proofs.AdmitLaws.{Grown}
use Rattle.keep.proofs.admit.append_words.Given as goal

abbrev pub invariant-loop-i : goal.invariant-loop-i
invariant-loop-i l = Grown l.len l.list l.kept l.initial.words l.words l.at l.i
