-- SPDX-FileCopyrightText: 2026 The PPVM Authors
-- SPDX-License-Identifier: Apache-2.0

-- What lasts over the loop of `texts::scan_text`.
use mathlib.Core.Path.{◌≡◌}
use Prim.Native.Nat.{◌≤◌}
use lib.ListN.{drop}
use Rattle.notation.specs.Between.{scan_from}
use Rattle.notation.proofs.texts.scan_text.Given as goal

abbrev pub invariant-loop-byte : goal.invariant-loop-byte
invariant-loop-byte l = (l.place ≤ l.byte-index) × (scan_from 0 l.text ≡ scan_from l.place (drop l.byte-index l.text))
