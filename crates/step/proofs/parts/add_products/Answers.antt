-- SPDX-FileCopyrightText: 2026 The PPVM Authors
-- SPDX-License-Identifier: Apache-2.0

-- `parts::add_products` meets its contract. Assumes nothing.
use Prim.Native.Nat.{ℕ, ◌+◌, ◌≤◌}
use mathlib.Core.Path.{◌≡◌}
use native.Mathlib.Omega.{arith}
use mir.Syntax.{w64}
use mir.Val.{Fits}
use Rattle.refusal.proofs.Told.{handed_on}
use Rattle.expm.specs.Selects.{max_products}
use Rattle.std.specs.Prelude.{Result, Ok}
use Rattle.refusal.specs.declared.Refusal.{Refusal}
use Rattle.step_parts.specs.declared.taken.Step.{Step}
use Rattle.step.specs.Between.{products_in, added_to}
use Rattle.step.proofs.parts.add_products.Goals as goal

module _ (taken done : Result Step Refusal) (before k products : ℕ) (b : before ≡ products_in taken) (d : done ≡ Ok (record { entries = k; products = products })) where
  sum_fits : products_in taken ≤ max_products → products_in done ≤ max_products → Fits w64 (before + products)
  sum_fits h i = let j : products ≤ max_products = rw d at i in omega (arith, b, h, j)

  added : Ok (record { entries = k; products = (before + products) }) ≡ added_to taken done
  added = rw (b, d)

pub overflow_add-result : goal.overflow_add-result
overflow_add-result c = sum_fits c.args.taken _ _ _ _ c.products_of-before.ensures c.in_ok-entries.was c.requires.0 c.requires.1

pub returns : goal.returns
returns c = added c.args.taken _ _ _ _ c.products_of-before.ensures c.in_ok-entries.was

pub returns-in_err-entries : goal.returns-in_err-entries
returns-in_err-entries c = rw (handed_on _ _ c.from_residual.ensures.1, c.in_err-entries.was)
