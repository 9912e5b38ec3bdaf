-- SPDX-FileCopyrightText: 2026 The PPVM Authors
-- SPDX-License-Identifier: Apache-2.0

-- The examples of document 01 that are marked P hold of the definitions, by computation where they name a model. Assumes nothing.
use mathlib.Core.Path.{refl}
use lib.Ieee as Ieee
use Rattle.word.specs.Count.{sum_to, any_to, tabulate}
use Rattle.word.specs.Letter.{mul_letter, mul_phase}
use Rattle.word.specs.Word.{bit, letter_in, lanes_of, word_of}
use Rattle.word.specs.Register.{reaches, share}
use Rattle.notation.specs.Text.{code_of, dropped, first_where, refuse_byte, read_letters, parse}
use Rattle.word.specs.Product.{phase_sum, mul, phase}
use Rattle.word.specs.Order.{compare_then, compare_lanes, compare}
use Rattle.number.specs.Numbers.{add_c, neg_c, mul_c, conj_c, largest_from, unit_c}
use Rattle.number.specs.Floats.{magnitude, larger_float}
use Rattle.gksl.specs.Model.{entry_in, rows_over}
use Rattle.gksl.specs.Table.{put_over, put_all_over, without_over}
use Rattle.gksl.specs.Rules.{pairs_over, gather_over, signed, factored, overlaps_over, formed_over, terms_over, clash_over, general_over, shape_over, jumps_over, diagonal_over, both_over, one_over, pair_over, row_over, matrix_over, matrices_over, rules_over, action_over}
use Rattle.word.specs.Flat.{words, word_at, flat_lanes}
use Rattle.order.specs.Merge.{positions, merge_head, merge_by, sort_by}
use Rattle.order.specs.Magnitudes.{falls_before}
use Rattle.order.specs.Places.{is_among}
use Rattle.keep.specs.Retained.{pick, flagged}
use Rattle.keep.specs.Chosen.{walked}
use Rattle.lent.specs.Tests.{where_any, first_to}
use Rattle.lent.specs.Words.{outside_at, inside_to}
use Rattle.lent.specs.Numbers.{not_finite, finite_to}
use Rattle.truncate.specs.Prunes.{protected_flags, cap_flags, cap_tests, cap}
use Rattle.action_laws.proofs.ReachedListed.{identity_action}
use Rattle.pebblelinen.specs.Examples.{lists, lanes_for, Holds, AllHold, table}

pub examples_hold : AllHold table
unfolding sum_to any_to tabulate mul_letter mul_phase bit letter_in lanes_of word_of share code_of dropped first_where refuse_byte read_letters parse phase_sum mul phase compare_then compare_lanes compare add_c neg_c mul_c conj_c largest_from unit_c magnitude larger_float entry_in rows_over put_over put_all_over without_over pairs_over gather_over signed factored overlaps_over formed_over terms_over clash_over general_over shape_over jumps_over diagonal_over both_over one_over pair_over row_over matrix_over matrices_over rules_over action_over lists words word_at positions merge_head merge_by sort_by falls_before is_among pick flagged flat_lanes walked protected_flags cap_flags cap_tests cap inside_to outside_at first_to finite_to not_finite where_any reaches lanes_for Holds Ieee.of_bits Ieee.neg Ieee.add Ieee.sub Ieee.mul Ieee.lt Ieee.le Ieee.eq
examples_hold = (refl, (refl, (refl, (refl, (refl, (refl, (refl, (identity_action, (refl, ((refl, refl), ((refl, refl), ((refl, refl), tt))))))))))))
