-- SPDX-FileCopyrightText: 2026 The PPVM Authors
-- SPDX-License-Identifier: Apache-2.0

-- What lasts over the loop of `codes::word_from_codes`.
use lib.ListN.{get_or}
use Rattle.notation.specs.Codes.{no_code}
use Rattle.notation.proofs.TextLaws.{Passed, ReadTo}
use Rattle.notation.proofs.codes.word_from_codes.Given as goal

abbrev pub invariant-loop-q : goal.invariant-loop-q
invariant-loop-q l = Passed no_code l.q l.codes × ReadTo (λ k. get_or l.codes k 0) l.q l.w
