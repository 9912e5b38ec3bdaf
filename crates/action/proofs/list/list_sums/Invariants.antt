-- SPDX-FileCopyrightText: 2026 The PPVM Authors
-- SPDX-License-Identifier: Apache-2.0

-- What lasts over the loop of `list::list_sums`.
use Rattle.action.proofs.ListLaws.{ListState}
use Rattle.action.proofs.list.list_sums.Given as goal

abbrev pub invariant-loop-i : goal.invariant-loop-i
invariant-loop-i l = ListState l.len l.words l.sums l.initial.out_words l.initial.out_values l.out_words l.out_values l.place l.i
