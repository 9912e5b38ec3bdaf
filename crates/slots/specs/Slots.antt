-- SPDX-FileCopyrightText: 2026 The PPVM Authors
-- SPDX-License-Identifier: Apache-2.0

-- Where a word stands in a list.
use Rattle.std.specs.Prelude.{ℕ, zero, suc, cond, List, get_or}
use Rattle.word.specs.Order.{same}
use Rattle.word.specs.Word.{identity}
use Rattle.word.specs.declared.word.Word.{Word}

-- one more than the last of the first b places whose word is w, or 0
unfoldable pub last_of : Word → List Word → ℕ → ℕ
last_of w ws zero = 0
last_of w ws (suc b) = cond (same (get_or ws b identity) w) (suc b) (last_of w ws b)
