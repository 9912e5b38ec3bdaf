-- SPDX-FileCopyrightText: 2026 The PPVM Authors
-- SPDX-License-Identifier: Apache-2.0

-- `retain::retain_in_place` meets its contract: after each turn the entries kept so far stand first. Assumes nothing.
use mathlib.Core.Path.{◌≡◌, refl, ◌∙◌}
use lib.Dec.{eqb}
use lib.Ieee.{nan}
use lib.ListN.{get_or}
use native.Mathlib.Omega.{arith}
use Rattle.word.specs.Word.{identity}
use Rattle.word.specs.Flat.{words as words_of}
use Rattle.word.proofs.FlatLaws.{words_high}
use Rattle.keep.specs.Retained.{flagged}
use Rattle.keep.specs.Chosen.{flag_of}
use Rattle.keep.proofs.FlagLaws.{not_number}
use Rattle.keep.proofs.PickLaws.{flagged_next}
use Rattle.keep.proofs.MoveLaws.{moved_start, moved_next}
use Rattle.keep.proofs.RetainLaws.{retained_count, lanes_done, numbers_done}
use Rattle.keep.proofs.retain.retain_in_place.Goals as goal

pub loop-i-init : goal.loop-i-init
unfolding flagged
loop-i-init c = let a = c.args in (refl, refl, moved_start a.kept.now (words_of a.words.now), moved_start a.kept.now a.coeffs.now)

pub loop-i-preserved : goal.loop-i-preserved
loop-i-preserved c =
    let a = c.args in
    let l = c.loop-i in
    let v = c.word_at-w in
    let w = c.set_word in
    let k = c.from-held in
    let e : k.result ≡ flag_of (get_or a.kept.now l.i 0) = k.ensures ∙ not_number (eqb (get_or a.kept.now l.i 0) 0) in (
      rw (flagged_next a.kept.now l.i (omega arith), l.invariant.0, e),
      w.auto.table ∙ l.invariant.1,
      moved_next a.kept.now (words_of a.words.now) (words_of l.words) l.held l.i l.invariant.2 (omega arith) identity v.result (words_of w.new.table)
          (omega (arith, words_high a.words.now)) v.ensures w.ensures.list k.result e,
      moved_next a.kept.now a.coeffs.now l.coeffs l.held l.i l.invariant.3 (omega arith) nan _ _ (omega arith) refl refl k.result e,
    )

pub returns : goal.returns
returns c =
    let l = c.loop-i in
    let k = c.args.kept.now in
    record {
      answers = retained_count k l.held l.i c.args.len (omega arith) l.invariant.0;
      words_left = lanes_done k l.held l.i c.args.len (omega arith) l.invariant.0 c.args.words.now l.words _ l.invariant.2 l.invariant.1 c.requires.0 c.clear_lanes.ensures;
      numbers_left = numbers_done k l.held l.i c.args.len (omega arith) l.invariant.0 c.args.coeffs.now l.coeffs _ l.invariant.3 c.requires.1 c.clear_numbers.ensures;
    }
