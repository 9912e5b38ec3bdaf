-- SPDX-FileCopyrightText: 2026 The PPVM Authors
-- SPDX-License-Identifier: Apache-2.0

-- `prune::flag_kept` meets its contract. Assumes nothing.
use Prim.Native.Nat.{◌<◌}
use native.Mathlib.Omega.{arith}
use Rattle.truncate.proofs.ProtectLaws.{prune_marked, none_kept}
use Rattle.truncate.proofs.prune.flag_kept.Goals as goal

pub returns-then-len-eq0 : goal.returns-then-len-eq0
returns-then-len-eq0 c =
    let a = c.args in
    none_kept a.len a.words.now a.coeffs.now a.protected.now a.drop_tol a.kept.now c.if-len-eq0.true c.requires.6

pub mark_protected-requires : goal.mark_protected-requires
mark_protected-requires c =
    let h = c.requires in
    let w : 0 < c.args.len = omega arith in
    let k = c.flag_large.auto.kept in
    (h.2, h.3 w, h.4 w, omega (arith, k, h.5, h.6), omega (arith, k, h.0, h.6))

pub returns : goal.returns
returns c =
    let a = c.args in
    prune_marked a.len a.words.now a.protected.now c.requires.0 a.coeffs.now a.drop_tol _ _ _ c.requires.1 c.requires.6 c.flag_large.ensures c.mark_protected.ensures
