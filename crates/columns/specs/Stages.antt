-- SPDX-FileCopyrightText: 2026 The PPVM Authors
-- SPDX-License-Identifier: Apache-2.0

-- Entries staged in lent tables: what the functions that lay them ask for, answer and leave.
use Rattle.std.specs.Prelude.{ℕ, Result, Ok, Err}
use Rattle.refusal.specs.declared.Refusal.{Refusal}
use Rattle.refusal.specs.Cause.{Answer}

-- how many entries stand where no column was refused
abbrev pub answered : Answer → ℕ → Result ℕ Refusal
answered (Ok _) n = Ok n
answered (Err q) n = Err q
