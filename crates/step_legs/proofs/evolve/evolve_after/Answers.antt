-- SPDX-FileCopyrightText: 2026 The PPVM Authors
-- SPDX-License-Identifier: Apache-2.0

-- `evolve::evolve_after` meets its contract: a refusal is passed on, a hop that is to be all is all, or the evolution follows. Assumes nothing.
use mathlib.Core.Path.{sym, ◌∙◌}
use Prim.Native.Nat.{ℕ}
use lib.ListN.{take}
use Rattle.word.specs.Flat.{words as words_in}
use Rattle.model.specs.Stored.{ModelTables}
use Rattle.model.specs.Between.{model_tables}
use Rattle.step_laws.specs.Steps.{evolution}
use Rattle.step_legs.proofs.FollowLaws.{follows_turned, follows_all, follows_on, no_entries, no_more, evolves_entries}
use Rattle.step_legs.proofs.evolve.evolve_after.Goals as goal

pub ends_there-all-requires : goal.ends_there-all-requires
ends_there-all-requires c = tt

pub returns-then-all : goal.returns-then-all
returns-then-all c =
    let a = c.args in
    let z = c.requires.cleared in
    let e = c.in-Ok.is in
    let all = sym c.ends_there-all.ensures ∙ c.if-all.true in (
      follows_all a.hopped a.always a.len _ e a.evolved.now,
      λ p protected k at f g. absurd (no_more a.hopped a.always a.len _ e all k f g),
      z.0,
      z.1,
      z.2,
      z.3,
      z.4,
      z.5,
      z.6,
      z.7,
      z.8,
      z.9,
    )

pub evolve_grown-requires : goal.evolve_grown-requires
evolve_grown-requires c =
    let o = c.requires.long _ c.in-Ok.is in
    record { tested = c.requires.tested; long = o.0; good_words = (o.1, o.2, o.3) }

pub returns-else-all : goal.returns-else-all
returns-else-all c =
    let a = c.args in
    let t : ModelTables = model_tables a.h_words.now a.h_coeffs.now a.jumps.now a.rates.now a.t_words.now a.t_numbers.now in
    let e = c.in-Ok.is in
    let g = c.evolve_grown in (
      follows_on a.hopped a.always a.len _ e (sym c.ends_there-all.ensures ∙ c.if-all.false) _ a.evolved.now _,
      λ p protected k at f h. evolves_entries a.hopped _ e (λ (i : ℕ). evolution a.m t protected a.dt p a.drop_tol (take i (words_in a.grown_words.now)) (take i a.start.now)) _ _ (g.ensures.0 p protected at) k f,
      g.ensures.1,
      g.ensures.2,
      g.ensures.3,
      g.ensures.4,
      g.ensures.5,
      g.ensures.6,
      g.ensures.7,
      g.ensures.8,
      g.ensures.9,
      g.ensures.10,
    )

pub returns-in-Err : goal.returns-in-Err
returns-in-Err c =
    let a = c.args in
    let z = c.requires.cleared in
    let e = c.in-Err.is in (
      follows_turned a.hopped a.always a.len _ e a.evolved.now,
      λ p protected k at f g. absurd (no_entries a.hopped _ e k f),
      z.0,
      z.1,
      z.2,
      z.3,
      z.4,
      z.5,
      z.6,
      z.7,
      z.8,
      z.9,
    )
