-- SPDX-FileCopyrightText: 2026 The PPVM Authors
-- SPDX-License-Identifier: Apache-2.0

-- The tests of a call. A test refuses, or leaves the answer to what comes after it; the tests of a call stand in a list, and the first
-- that refuses answers.
use Rattle.std.specs.Prelude.{ℕ, zero, suc, Bool, cond, List, [], ◌∷◌, eqb, ltb, Ok, Err}
use Rattle.refusal.specs.declared.Refusal.TheVariants.{TooManyQubits, NumberOutOfRange, CountAboveLimit, LengthMismatch}
use Rattle.refusal.specs.Cause.{Answer}
use Rattle.word.specs.Word.{max_qubits}

abbrev pub Test : Type 0
Test = Answer → Answer

-- and where none refuses, what comes after them
abbrev pub in_turn : List Test → Answer → Answer
in_turn [] after = after
in_turn (t ∷ ts) after = t (in_turn ts after)

-- tests that were answered elsewhere
abbrev pub and_then : Answer → Answer → Answer
and_then (Ok _) after = after
and_then (Err r) after = Err r

-- ---- 1 where a register has more qubits than a word holds
abbrev pub registered : ℕ → Answer → Answer
registered n after = cond (ltb max_qubits n) (Err (TooManyQubits n max_qubits)) after

-- ---- 8 and 9
-- 8 where a count is above its limit
abbrev pub counted : ℕ → ℕ → Answer → Answer
counted limit count after = cond (ltb limit count) (Err (CountAboveLimit count)) after

-- 9 where fewer places are lent than needed
abbrev pub lent : ℕ → ℕ → Answer → Answer
lent needed places after = cond (ltb places needed) (Err (LengthMismatch needed places)) after

-- 9 where there are not exactly as many as needed
abbrev pub equal : ℕ → ℕ → Answer → Answer
equal needed have after = cond (eqb have needed) after (Err (LengthMismatch needed have))

-- the places that a table needs for so many jumps, operators or words: none where there is none that could use one
unfoldable pub where_any : ℕ → ℕ → ℕ
where_any zero places = 0
where_any (suc count) places = places

-- ---- 7
-- the first number below n that passes a test; n where there is none
unfoldable pub first_to : ℕ → (ℕ → Bool) → ℕ
first_to zero f = 0
first_to (suc n) f = cond (f 0) 0 (suc (first_to n (λ k. f (suc k))))

-- 7 at the first of n places that fails
unfoldable pub entries : ℕ → (ℕ → Bool) → Answer → Answer
entries n fails after = cond (ltb (first_to n fails) n) (Err (NumberOutOfRange (first_to n fails))) after
