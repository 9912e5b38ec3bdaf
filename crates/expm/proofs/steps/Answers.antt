-- SPDX-FileCopyrightText: 2026 The PPVM Authors
-- SPDX-License-Identifier: Apache-2.0

-- `steps` meets its contract, answer by answer. Assumes nothing.
use borrow.Author.Tests.{not-true, not-false}
use Rattle.std.proofs.Common.{arith, le→leb}
use lib.Ieee.{of_bits, in_float}
use Rattle.expm.proofs.StepLaws.{steps_one, steps_most, whole_read, whole_few, steps_more, steps_whole}
use Rattle.expm.proofs.steps.Goals as goal

pub returns-then-not-above : goal.returns-then-not-above
unfolding of_bits
returns-then-not-above c = steps_one c.args.x (not-true _ c.if-not-above.true-raw)

pub returns-then-not-below : goal.returns-then-not-below
unfolding of_bits
returns-then-not-below c = steps_most c.args.x (not-false _ c.if-not-above.false-raw) (not-true _ c.if-not-below.true-raw)

pub truncating_f64_to_u64-whole-requires : goal.truncating_f64_to_u64-whole-requires
unfolding of_bits
truncating_f64_to_u64-whole-requires c =
    let w = whole_read c.args.x (not-false _ c.if-not-above.false-raw) (not-false _ c.if-not-below.false-raw) in record { lower_bound = w.0; upper_bound = w.1 }

pub int_to_float-whole : goal.int_to_float-whole
unfolding of_bits in_float
int_to_float-whole c = let w = whole_few c.truncating_f64_to_u64-whole.result c.args.x (not-false _ c.if-not-above.false-raw) (not-false _ c.if-not-below.false-raw) c.truncating_f64_to_u64-whole.ensures in le→leb c.truncating_f64_to_u64-whole.result 9007199254740992 (omega (arith, w))

pub overflow_add-result : goal.overflow_add-result
unfolding of_bits
overflow_add-result c = let w = whole_few c.truncating_f64_to_u64-whole.result c.args.x (not-false _ c.if-not-above.false-raw) (not-false _ c.if-not-below.false-raw) c.truncating_f64_to_u64-whole.ensures in omega (arith, w)

pub overflow_cast-result : goal.overflow_cast-result
unfolding of_bits
overflow_cast-result c = let w = whole_few c.truncating_f64_to_u64-whole.result c.args.x (not-false _ c.if-not-above.false-raw) (not-false _ c.if-not-below.false-raw) c.truncating_f64_to_u64-whole.ensures in omega (arith, w)

pub returns-then-whole-x : goal.returns-then-whole-x
unfolding of_bits
returns-then-whole-x c = steps_more c.truncating_f64_to_u64-whole.result c.args.x (not-false _ c.if-not-above.false-raw) (not-false _ c.if-not-below.false-raw) c.truncating_f64_to_u64-whole.ensures c.if-whole-x.true

pub overflow_cast-result-2 : goal.overflow_cast-result-2
unfolding of_bits
overflow_cast-result-2 c = let w = whole_few c.truncating_f64_to_u64-whole.result c.args.x (not-false _ c.if-not-above.false-raw) (not-false _ c.if-not-below.false-raw) c.truncating_f64_to_u64-whole.ensures in omega (arith, w)

pub returns : goal.returns
unfolding of_bits
returns c = steps_whole c.truncating_f64_to_u64-whole.result c.args.x (not-false _ c.if-not-above.false-raw) (not-false _ c.if-not-below.false-raw) c.truncating_f64_to_u64-whole.ensures c.if-whole-x.false
