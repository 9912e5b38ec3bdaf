-- SPDX-FileCopyrightText: 2026 The PPVM Authors
-- SPDX-License-Identifier: Apache-2.0

-- What the generator as Matrix Market answers in plain numbers, and a length of text that is enough.
use Rattle.std.specs.Prelude.{ℕ, ◌+◌, ◌*◌, min, ◌≡◌, List, Result, Ok, Err}
use Rattle.refusal.specs.Cause.{status_of, answer_status}
use Rattle.refusal.specs.declared.Refusal.{Refusal}
use Rattle.generator.specs.Lent.{Work}
use Rattle.generator_export.specs.Exports.{Exporting}
use Rattle.pebblelinen.specs.Generators.{max_entries}
use Rattle.pebblelinen.specs.declared.markets.WrittenText.{WrittenText}

-- the length of the text, or the refusal and 0
abbrev pub written_of : Result ℕ Refusal → WrittenText
written_of (Ok n) = record { status = answer_status (Ok tt); bytes = n }
written_of (Err refusal) = record { status = status_of refusal; bytes = 0 }

-- what the call answers, and the lent tables afterwards
pub record LeavesMarket (g : Exporting) (r : WrittenText) (text : List ℕ) (w : Work) : Type 0 where
  pub answers : r ≡ written_of g.out.answer
  pub text_is : text ≡ g.out.text
  pub work_is : w ≡ g.work

-- the length for so many entries: 49 bytes of header, at most 23 of the size line and 33 of a line
abbrev pub market_text : ℕ → ℕ
market_text entries = 72 + 33 * min entries max_entries
