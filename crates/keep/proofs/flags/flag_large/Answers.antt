-- SPDX-FileCopyrightText: 2026 The PPVM Authors
-- SPDX-License-Identifier: Apache-2.0

-- `flags::flag_large` meets its contract: after each turn the flags passed are written. Assumes nothing.
use mathlib.Core.Path.{◌≡◌, refl, sym, ap, ◌∙◌}
use mathlib.Core.List.{List}
use Prim.Native.Nat.{ℕ}
use lib.Ieee.{nan}
use lib.ListN.{length, get_or, take, replicate, length-set, length-replicate, get_or-replicate, drop_of_length-le}
use native.Mathlib.Omega.{arith}
use Rattle.keep.specs.Pruned.{large_flag, large_flags}
use Rattle.lent.proofs.WriteLaws.{written_more, written}
use Rattle.keep.proofs.PruneLaws.{large_length, large_first, size_flag}
use Rattle.keep.proofs.flags.flag_large.Goals as goal

pub loop-i-preserved : goal.loop-i-preserved
loop-i-preserved c =
    let a = c.args in
    let l = c.loop-i in
    let f = c.from in
    let len : ℕ = length a.kept.now in
    let none : List ℕ = replicate len 0 in
    let new : List ℕ = large_flags a.drop_tol (take len a.coeffs.now) none in
    let z : length none ≡ len = length-replicate len 0 in
    let n : length new ≡ len = large_length a.drop_tol (take len a.coeffs.now) none ∙ z in (
      length-set l.kept l.i f.result ∙ l.invariant.0,
      written_more 0 new a.kept.now l.kept _ l.i f.result (omega (arith, n)) (omega arith) l.invariant.1
          (f.ensures ∙ size_flag a.drop_tol (get_or a.coeffs.now l.i nan) c.magnitude-size.result c.magnitude-size.ensures ∙ ap (large_flag a.drop_tol (get_or a.coeffs.now l.i nan)) (sym (get_or-replicate len l.i 0 0 (omega arith)))
          ∙ sym (large_first a.drop_tol a.coeffs.now none len l.i (omega arith) (omega arith) (omega (arith, z)))) refl,
    )

pub returns : goal.returns
returns c =
    let a = c.args in
    let l = c.loop-i in
    let len : ℕ = length a.kept.now in
    let none : List ℕ = replicate len 0 in
    let new : List ℕ = large_flags a.drop_tol (take len a.coeffs.now) none in
    let n : length new ≡ len = large_length a.drop_tol (take len a.coeffs.now) none ∙ length-replicate len 0 in
    written new a.kept.now l.kept l.i (drop_of_length-le new {i = l.i} (omega (arith, n)) ∙ sym (drop_of_length-le a.kept.now {i = l.i} (omega arith))) l.invariant.1
