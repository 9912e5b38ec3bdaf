-- SPDX-FileCopyrightText: 2026 The PPVM Authors
-- SPDX-License-Identifier: Apache-2.0

-- What the norm over a basis is compared with: the entries of a column of the generator, and the norm whose raw counts all words, in
-- the basis or not.
use Rattle.std.specs.Prelude.{ℕ, cond, List, [], ◌∷◌, map, eqb, Float}
use Rattle.word.specs.declared.word.Word.{Word}
use Rattle.number.specs.Floats.{magnitude}
use Rattle.model.specs.Stored.{ModelTables}
use Rattle.model.specs.Terms.{Term}
use Rattle.model.specs.declared.stored.Model.{Model}
use Rattle.action.specs.Acts.{action_of}
use Rattle.columns.specs.Entries.{Entry}
use Rattle.column_norm.specs.Columns.{total, largest, column_norm, mu_of, diag_by}

-- ---- the generator
-- the entries of column c, in their order
unfoldable pub in_column : ℕ → List Entry → List Entry
in_column c [] = []
in_column c (e ∷ E) = cond (eqb e.column c) (e ∷ in_column c E) (in_column c E)

-- their magnitudes, added in that order
unfoldable pub column_sum : List Entry → Float
column_sum E = total (map (λ e. magnitude e.value) E)

-- ---- all words
unfoldable pub raw_of_all : List Term → Float
raw_of_all L = total (map (λ c. magnitude c.num.re) L)

unfoldable pub norm_of_all : Model → ModelTables → List Word → Float
norm_of_all m t ps = largest (map (λ p. column_norm (mu_of m t ps) (raw_of_all (action_of m t p)) (diag_by m t p)) ps)
