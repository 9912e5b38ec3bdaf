-- SPDX-FileCopyrightText: 2026 The PPVM Authors
-- SPDX-License-Identifier: Apache-2.0

-- The unshifted norm of the generator over a basis: the largest raw of any column, its diagonal not shifted by mu.
use Rattle.std.specs.Prelude.{List, map, Float}
use Rattle.word.specs.declared.word.Word.{Word}
use Rattle.model.specs.Stored.{ModelTables}
use Rattle.model.specs.declared.stored.Model.{Model}
use Rattle.column_norm.specs.Columns.{largest, raw_by}

unfoldable pub unshifted_norm : Model → ModelTables → List Word → Float
unshifted_norm m t bs = largest (map (raw_by m t bs) bs)
