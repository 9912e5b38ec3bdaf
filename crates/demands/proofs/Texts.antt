-- SPDX-FileCopyrightText: 2026 The PPVM Authors
-- SPDX-License-Identifier: Apache-2.0

-- The text of the generator determines every row, column and rounded value. Assumes nothing.
use mathlib.Core.Path.{◌≡◌, sym, ap, ◌∙◌}
use mathlib.Core.List.{map}
use lib.ListN.{take}
use Rattle.generator_export.specs.Exports.{entry_line}
use Rattle.generator_export.proofs.TextLaws.{exported_text}
use Rattle.matrix_market.specs.Text.{text_of}
use Rattle.matrix_market.proofs.ReadingLaws.{text_determines}
use Rattle.demands.specs.Calls.{Accepted, MarketCall}
use Rattle.demands.specs.Requests.{entries_of, TextsDetermine}
use Rattle.demands.proofs.Accepts.{written_accepts}

text_of_lem : (c : MarketCall) → Accepted c.answer.status → take c.answer.bytes c.text' ≡ text_of c.len (map entry_line (entries_of c))
text_of_lem c h =
    ap (take c.answer.bytes) c.leaves.text_is
    ∙ exported_text c.text c.work c.answer.bytes c.model c.tables c.lanes c.len (written_accepts _ _ c.leaves.answers h)

pub text_determines_entries : TextsDetermine
text_determines_entries c d h k e =
    let s = text_determines c.len d.len (map entry_line (entries_of c)) (map entry_line (entries_of d)) (sym (text_of_lem c h) ∙ e ∙ text_of_lem d k) in
    record { size = s.0; lines = s.1 }
