-- SPDX-FileCopyrightText: 2026 The PPVM Authors
-- SPDX-License-Identifier: Apache-2.0

-- `products::pebblelinen_csr_row` meets its contract. Assumes nothing.
use mathlib.Core.Path.{ap, ◌∙◌}
use Rattle.pebblelinen.specs.Products.{found_of}
use Rattle.pebblelinen.proofs.products.pebblelinen_csr_row.Goals as goal

pub returns : goal.returns
returns c = c.from.ensures ∙ ap found_of c.read_row.ensures
