-- SPDX-FileCopyrightText: 2026 The PPVM Authors
-- SPDX-License-Identifier: Apache-2.0

-- `items::check_operator` meets its contract: the count of terms is tested before each of them. Assumes nothing.
use Prim.Native.Nat.{◌<◌, ◌≤◌}
use lib.ListN.{length}
use Rattle.model_build.proofs.ItemAnswers.{terms_count, operator_empty, operator_long, operator_terms}
use native.Mathlib.Omega.{arith}
use Rattle.model_build.proofs.items.check_operator.Goals as goal

pub returns-then-count-eq0 : goal.returns-then-count-eq0
returns-then-count-eq0 c =
    operator_empty _ _ _ _ (terms_count c.args.lengths.now c.args.texts.now c.args.numbers.now c.requires.0) c.if-count-eq0.true

pub returns-then-count-gt-MAX_TERMS : goal.returns-then-count-gt-MAX_TERMS
returns-then-count-gt-MAX_TERMS c =
    let many : 16 < length c.args.lengths.now = omega arith in
    operator_long _ _ _ _ (terms_count c.args.lengths.now c.args.texts.now c.args.numbers.now c.requires.0) c.if-count-eq0.false many

pub returns : goal.returns
returns c =
    let few : length c.args.lengths.now ≤ 16 = omega arith in
    operator_terms _ _ _ _ (terms_count c.args.lengths.now c.args.texts.now c.args.numbers.now c.requires.0) _ c.check_terms.ensures c.if-count-eq0.false few
