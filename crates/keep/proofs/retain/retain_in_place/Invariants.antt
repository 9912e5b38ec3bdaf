-- SPDX-FileCopyrightText: 2026 The PPVM Authors
-- SPDX-License-Identifier: Apache-2.0

-- What lasts over the loop of `retain::retain_in_place`.
use mathlib.Core.Path.{◌≡◌}
use lib.ListN.{length, take}
use Rattle.word.specs.Flat.{words as words_of}
use Rattle.keep.specs.Retained.{flagged}
use Rattle.keep.proofs.MoveLaws.{Moved}
use Rattle.keep.proofs.retain.retain_in_place.Given as goal

abbrev pub invariant-loop-i : goal.invariant-loop-i
invariant-loop-i l = (l.held ≡ flagged (take l.i l.kept)) × (length l.words ≡ length l.initial.words) × Moved l.kept (words_of l.initial.words) (words_of l.words) l.held l.i × Moved l.kept l.initial.coeffs l.coeffs l.held l.i
