-- SPDX-FileCopyrightText: 2026 The PPVM Authors
-- SPDX-License-Identifier: Apache-2.0

-- What lasts over the loop of `count::most_places`.
use mathlib.Core.Path.{◌≡◌}
use lib.ListN.{length}
use Rattle.word.specs.Flat.{words}
use Rattle.action.specs.Counts.{touched_by, listed_by}
use Rattle.action.proofs.CountLaws.{MostState}
use Rattle.model.specs.Between.{model_tables}
use Rattle.action.proofs.count.most_places.Given as goal

abbrev pub invariant-loop-k : goal.invariant-loop-k
invariant-loop-k l = MostState (touched_by l.m (model_tables l.h_words l.h_coeffs l.jumps l.rates l.t_words l.t_numbers)) (listed_by l.m (model_tables l.h_words l.h_coeffs l.jumps l.rates l.t_words l.t_numbers)) (words l.list) l.room l.touched l.listed l.k × (length l.mask ≡ length l.initial.mask) × (length l.work_words ≡ length l.initial.work_words) × (length l.work_sums ≡ length l.initial.work_sums)
