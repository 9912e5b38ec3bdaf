-- SPDX-FileCopyrightText: 2026 The PPVM Authors
-- SPDX-License-Identifier: Apache-2.0

-- Words in lent tables: how many there may be, and that they lie in their register (11).
use Rattle.std.specs.Prelude.{ℕ, Bool, cond, List, ltb, get_or, Err}
use Rattle.refusal.specs.declared.Refusal.TheVariants.{WordOutsideRegister}
use Rattle.refusal.specs.Cause.{Answer}
use Rattle.word.specs.Word.{identity}
use Rattle.word.specs.Flat.{words}
use Rattle.word.specs.Register.{reaches}
use Rattle.lent.specs.Tests.{first_to}

-- Limit: 65,536 words
abbrev pub max_words : ℕ
max_words = 65536

-- is the word at a position outside the register
unfoldable pub outside_at : List ℕ → ℕ → ℕ → Bool
outside_at lanes n k = reaches (get_or (words lanes) k identity) n

-- 11 at the first of so many words that has a bit at or above n: its place in its own list
unfoldable pub inside_to : ℕ → List ℕ → ℕ → Answer → Answer
inside_to count lanes n after = cond (ltb (first_to count (outside_at lanes n)) count) (Err (WordOutsideRegister (first_to count (outside_at lanes n)))) after
