-- SPDX-FileCopyrightText: 2026 The PPVM Authors
-- SPDX-License-Identifier: Apache-2.0

-- `hash::lane_hash` meets its contract. Assumes nothing.
use Prim.Native.Nat.{◌%◌, ◌/◌}
use native.Mathlib.Omega.{arith}
use borrow.Author.Rules.{rules}
use Rattle.word.specs.Hash.{half, lane_hash}
use Rattle.word.proofs.HashLaws.{half_times}
use Rattle.word.proofs.hash.lane_hash.Goals as goal

pub overflow_mul-result : goal.overflow_mul-result
overflow_mul-result c = let p = half_times (c.args.lane % half) c.args.a (omega arith) (omega (arith, c.requires)) in search (p, rules)

pub overflow_mul-result-2 : goal.overflow_mul-result-2
overflow_mul-result-2 c = let p = half_times (c.args.lane / half) c.args.b (omega arith) (omega (arith, c.requires)) in search (p, rules)

pub returns : goal.returns
unfolding lane_hash
returns c = search rules
