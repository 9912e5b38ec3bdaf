-- SPDX-FileCopyrightText: 2026 The PPVM Authors
-- SPDX-License-Identifier: Apache-2.0

-- `word::reaches_beyond` meets its contract: none above the widest register, else a digit in one of the lanes. Assumes nothing.
use mathlib.Core.List.{[], ◌∷◌}
use Prim.Native.Nat.{ℕ, zero, suc, ◌*◌, ◌^◌, ◌<◌}
use native.Mathlib.Omega.{arith}
use lib.ListN.{get_or}
use borrow.Author.Rules.{rules}
use Rattle.word.specs.Word.{lane_count}
use Rattle.word.specs.Between.{DigitsFrom}
use Rattle.word.proofs.Words.{sound}
use Rattle.word.proofs.Tests.{or_to, none_beyond, reaches_is}
use Rattle.word.proofs.word.reaches_beyond.Goals as goal

abbrev mask : ℕ → ℕ → ℕ → ℕ → ℕ → ℕ
mask m0 m1 m2 m3 i = get_or (m0 ∷ m1 ∷ m2 ∷ m3 ∷ []) i 0

module _ (n m0 m1 m2 m3 : ℕ) (f0 : m0 < 2 ^ 64) (f1 : m1 < 2 ^ 64) (f2 : m2 < 2 ^ 64) (f3 : m3 < 2 ^ 64) (d0 : DigitsFrom 0 n m0) (d1 : DigitsFrom 64 n m1) (d2 : DigitsFrom 128 n m2) (d3 : DigitsFrom 192 n m3) where
  lane_by_lane : (i : ℕ) → i < lane_count → (mask m0 m1 m2 m3 i < 2 ^ 64) × DigitsFrom (64 * i) n (mask m0 m1 m2 m3 i)
  lane_by_lane zero h = (f0, d0)
  lane_by_lane (suc zero) h = (f1, d1)
  lane_by_lane (suc (suc zero)) h = (f2, d2)
  lane_by_lane (suc (suc (suc zero))) h = (f3, d3)
  lane_by_lane (suc (suc (suc (suc i)))) h = absurd (omega arith)

pub returns-then-n_qubits-ge-MAX_QUBITS : goal.returns-then-n_qubits-ge-MAX_QUBITS
returns-then-n_qubits-ge-MAX_QUBITS c = none_beyond _ _ c.if-n_qubits-ge-MAX_QUBITS.true

pub returns : goal.returns
unfolding or_to
returns c =
    let a = c.digits_from-m0 in
    let b = c.digits_from-m1 in
    let d = c.digits_from-m2 in
    let e = c.digits_from-m3 in
    let fa : a.result < 2 ^ 64 = search rules in
    let fb : b.result < 2 ^ 64 = search rules in
    let fd : d.result < 2 ^ 64 = search rules in
    let fe : e.result < 2 ^ 64 = search rules in
    reaches_is _ (sound _ (search rules) (search rules) (λ i. search rules) (λ i. search rules)) _ (mask a.result b.result d.result e.result)
    (lane_by_lane _ a.result b.result d.result e.result fa fb fd fe a.ensures b.ensures d.ensures e.ensures)
