-- SPDX-FileCopyrightText: 2026 The PPVM Authors
-- SPDX-License-Identifier: Apache-2.0

-- `repeat::all_zero` meets its contract. Assumes nothing.
use mathlib.Core.Path.{refl}
use lib.Dec.{eqb}
use borrow.Author.Rules.{rules}
use Rattle.std.proofs.lemmas.List.Recursion.{and_is}
use Rattle.columns.specs.Between.{all_zero}
use Rattle.columns.proofs.repeat.all_zero.Goals as goal

pub returns : goal.returns
unfolding all_zero
returns c = and_is all_zero (λ x. eqb x 0) refl (λ _ _. refl) c.args.t.now 0 _ (search rules) (search rules)
