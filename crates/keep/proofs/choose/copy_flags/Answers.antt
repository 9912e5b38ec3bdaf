-- SPDX-FileCopyrightText: 2026 The PPVM Authors
-- SPDX-License-Identifier: Apache-2.0

-- `choose::copy_flags` meets its contract: after each turn the flags passed are copied. Assumes nothing.
use mathlib.Core.Path.{refl, sym, ◌∙◌}
use mathlib.Core.List.{map}
use lib.Dec.{eqb}
use lib.ListN.{get_or, length-set, length-map, get_or-map}
use native.Mathlib.Omega.{arith}
use Rattle.keep.specs.Chosen.{flag_of}
use Rattle.lent.proofs.WriteLaws.{written_more}
use Rattle.keep.proofs.FlagLaws.{not_number}
use Rattle.keep.proofs.choose.copy_flags.Goals as goal

pub loop-i-preserved : goal.loop-i-preserved
loop-i-preserved c =
    let a = c.args in
    let l = c.loop-i in
    let f = c.from in (
      length-set l.kept l.i f.result ∙ l.invariant.0,
      written_more 0 (map flag_of a.flags.now) a.kept.now l.kept _ l.i f.result (omega (arith, length-map a.flags.now flag_of)) (omega arith) l.invariant.1 (f.ensures ∙ not_number (eqb (get_or a.flags.now l.i 0) 0) ∙ sym (get_or-map flag_of a.flags.now l.i 0)) refl,
    )
