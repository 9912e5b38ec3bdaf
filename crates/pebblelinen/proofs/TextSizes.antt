-- SPDX-FileCopyrightText: 2026 The PPVM Authors
-- SPDX-License-Identifier: Apache-2.0

-- The length that `market_text` names is enough: the text of the generator's entries, where none has a count that is too large, has no
-- more bytes. Assumes nothing.
use Prim.Native.Nat.{ℕ, ◌≤◌}
use mathlib.Core.List.{List, map}
use native.Mathlib.Omega.{arith}
use lib.ListN.{length}
use lib.ListN.{length-take}
use Rattle.word.specs.Flat.{words}
use Rattle.model.specs.Stored.{ModelTables}
use Rattle.model.specs.declared.stored.Model.{Model}
use Rattle.lent.specs.Words.{max_words}
use Rattle.columns.specs.Columns.{generator_of}
use Rattle.generator.specs.Lent.{basis_of}
use Rattle.generator_export.specs.Exports.{entry_line}
use Rattle.generator_export.proofs.TextLaws.{AllWritten, generator_short}
use Rattle.matrix_market.specs.Text.{text_of}
use Rattle.pebblelinen.specs.Generators.{max_entries}
use Rattle.pebblelinen.specs.Markets.{market_text}

pub text_enough : (m : Model) (t : ModelTables) (lanes : List ℕ) (len entries : ℕ) → len ≤ max_words → entries ≤ max_entries
    → length (generator_of m t (basis_of lanes len)) ≤ entries → AllWritten (generator_of m t (basis_of lanes len))
    → length (text_of len (map entry_line (generator_of m t (basis_of lanes len)))) ≤ market_text entries
text_enough m t lanes len entries h k l s =
    let e = length-take len (words lanes) in
    let r = generator_short m t (basis_of lanes len) len h (omega (arith, e)) (omega (arith, l)) s in
    omega (arith, r, l)
