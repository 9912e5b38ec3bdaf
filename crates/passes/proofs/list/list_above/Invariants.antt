-- SPDX-FileCopyrightText: 2026 The PPVM Authors
-- SPDX-License-Identifier: Apache-2.0

-- What lasts over the loop of `list::list_above`.
use Rattle.passes.proofs.ListLaws.{ListState}
use Rattle.passes.proofs.list.list_above.Given as goal

abbrev pub invariant-loop-i : goal.invariant-loop-i
invariant-loop-i l = ListState l.tau_add l.words l.sums l.order l.initial.out_words l.initial.out_values l.out_words l.out_values l.place l.i
