-- SPDX-FileCopyrightText: 2026 The PPVM Authors
-- SPDX-License-Identifier: Apache-2.0

-- `prune::drop_small` meets its contract. Assumes nothing.
use mathlib.Core.Path.{◌≡◌, sym, ap, ◌∙◌}
use mathlib.Core.List.{List, ◌++◌}
use Prim.Native.Nat.{ℕ}
use native.Mathlib.Omega.{arith}
use lib.ListN.{length, take, drop}
use lib.Seq.{length-take-le}
use Rattle.truncate.specs.Prunes.{prune_flags}
use Rattle.truncate.proofs.PruneLaws.{lent_front, lent_long, retained_is}
use Rattle.truncate.proofs.prune.drop_small.Goals as goal

pub returns-then-drop_tol : goal.returns-then-drop_tol
returns-then-drop_tol c o w f k = rw c.if-drop_tol.true

pub slice_bounds-flag_kept-end-2 : goal.slice_bounds-flag_kept-end-2
slice_bounds-flag_kept-end-2 c = sym (length-take-le c.args.len c.args.kept.now c.requires.6)

pub flag_kept-requires : goal.flag_kept-requires
flag_kept-requires c =
    let h = c.requires in
    (h.0, h.1, h.2, h.3, h.4, h.5, length-take-le c.args.len c.args.kept.now h.6)

pub slice_bounds-retain_in_place-end-2 : goal.slice_bounds-retain_in_place-end-2
slice_bounds-retain_in_place-end-2 c =
    let a = c.args in
    let q = c.flag_kept in
    let ys : List ℕ = q.new.kept in
    sym (length-take-le a.len (ys ++ drop a.len a.kept.now) (omega (arith, c.requires.6, lent_long a.len a.kept.now ys q.auto.kept)))

pub retain_in_place-requires : goal.retain_in_place-requires
retain_in_place-requires c =
    let a = c.args in
    let q = c.flag_kept in
    let ys : List ℕ = q.new.kept in
    let long : length ys ≡ a.len = q.auto.kept ∙ length-take-le a.len a.kept.now c.requires.6 in
    let e : length (take a.len (ys ++ drop a.len a.kept.now)) ≡ a.len = ap length (lent_front a.len a.kept.now ys c.requires.6 q.auto.kept) ∙ long in
    (c.requires.0, c.requires.1, omega (arith, e))

pub returns : goal.returns
returns c o w f k =
    let a = c.args in
    let q = c.flag_kept in
    let ys : List ℕ = q.new.kept in
    let long : length ys ≡ a.len = q.auto.kept ∙ length-take-le a.len a.kept.now c.requires.6 in
    let flags : List ℕ = prune_flags a.len a.words.now a.coeffs.now a.protected.now a.drop_tol in
    rw c.if-drop_tol.false (retained_is a.len a.words.now a.coeffs.now flags (take a.len (ys ++ drop a.len a.kept.now)) (lent_front a.len a.kept.now ys c.requires.6 q.auto.kept ∙ q.ensures) (sym (ap length q.ensures) ∙ long) _ _ _ c.retain_in_place.ensures o w f k)
