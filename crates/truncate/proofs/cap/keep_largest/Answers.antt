-- SPDX-FileCopyrightText: 2026 The PPVM Authors
-- SPDX-License-Identifier: Apache-2.0

-- `cap::keep_largest` meets its contract. Assumes nothing.
use mathlib.Core.Path.{◌≡◌, sym, ap, ◌∙◌}
use mathlib.Core.List.{List, ◌++◌}
use Prim.Native.Nat.{ℕ, ◌<◌}
use native.Mathlib.Omega.{arith}
use borrow.Author.Tests.{le-leb, lt-leb}
use lib.ListN.{length, take, drop}
use lib.Seq.{length-take-le}
use Rattle.truncate.specs.Prunes.{cap_flags}
use Rattle.truncate.proofs.PruneLaws.{lent_front, lent_long, retained_is}
use Rattle.truncate.proofs.cap.keep_largest.Goals as goal

pub returns-then-len-limit : goal.returns-then-len-limit
returns-then-len-limit c o w f k =
    let a = c.args in
    rw (le-leb a.len a.limit c.if-len-limit.true)

pub slice_bounds-flag_largest-end-2 : goal.slice_bounds-flag_largest-end-2
slice_bounds-flag_largest-end-2 c =
    sym (length-take-le c.args.len c.args.fixed.now c.requires.6)

pub slice_bounds-flag_largest-end-4 : goal.slice_bounds-flag_largest-end-4
slice_bounds-flag_largest-end-4 c =
    sym (length-take-le c.args.len c.args.kept.now c.requires.7)

pub flag_largest-requires : goal.flag_largest-requires
flag_largest-requires c =
    let a = c.args in
    let h = c.requires in
    let w : 0 < a.len = omega arith in
    (h.0, h.1, h.2, h.3 w, h.4 w, h.5, length-take-le a.len a.fixed.now h.6, length-take-le a.len a.kept.now h.7, h.8)

pub slice_bounds-retain_in_place-end-2 : goal.slice_bounds-retain_in_place-end-2
slice_bounds-retain_in_place-end-2 c =
    let a = c.args in
    let q = c.flag_largest in
    let ys : List ℕ = q.new.kept in
    sym (length-take-le a.len (ys ++ drop a.len a.kept.now) (omega (arith, c.requires.7, lent_long a.len a.kept.now ys q.auto.kept)))

pub retain_in_place-requires : goal.retain_in_place-requires
retain_in_place-requires c =
    let a = c.args in
    let q = c.flag_largest in
    let ys : List ℕ = q.new.kept in
    let long : length ys ≡ a.len = q.auto.kept ∙ length-take-le a.len a.kept.now c.requires.7 in
    let e : length (take a.len (ys ++ drop a.len a.kept.now)) ≡ a.len = ap length (lent_front a.len a.kept.now ys c.requires.7 q.auto.kept) ∙ long in
    (c.requires.0, c.requires.1, omega (arith, e))

pub returns : goal.returns
returns c o w f k =
    let a = c.args in
    let q = c.flag_largest in
    let ys : List ℕ = q.new.kept in
    let long : length ys ≡ a.len = q.auto.kept ∙ length-take-le a.len a.kept.now c.requires.7 in
    let flags : List ℕ = cap_flags a.len a.words.now a.coeffs.now a.protected.now a.limit in
    rw (lt-leb a.len a.limit c.if-len-limit.false) (retained_is a.len a.words.now a.coeffs.now flags (take a.len (ys ++ drop a.len a.kept.now)) (lent_front a.len a.kept.now ys c.requires.7 q.auto.kept ∙ q.ensures) (sym (ap length q.ensures) ∙ long) _ _ _ c.retain_in_place.ensures o w f k)
