-- SPDX-FileCopyrightText: 2026 The PPVM Authors
-- SPDX-License-Identifier: Apache-2.0

-- Words as codes, a number from 0 to 3 for each qubit.
use Rattle.std.specs.Prelude.{ℕ, Bool, cond, List, ◌++◌, ltb, length, get_or, drop, Result, Ok, Err}
use Rattle.refusal.specs.declared.Refusal.TheVariants.{TooManyQubits, InvalidPauliCode, LengthMismatch, WordOutsideRegister}
use Rattle.refusal.specs.declared.Refusal.{Refusal}
use Rattle.refusal.specs.Cause.{Answer}
use Rattle.word.specs.Count.{tabulate}
use Rattle.word.specs.Word.{max_qubits, letter_at, word_of}
use Rattle.notation.specs.Text.{first_where}
use Rattle.word.specs.Register.{reaches}
use Rattle.word.specs.declared.word.Word.{Word}

abbrev pub no_code : ℕ → Bool
no_code c = ltb 3 c

-- reading codes: 1, then 4 at the first
unfoldable pub read_codes : List ℕ → Result Word Refusal
read_codes s =
    cond (ltb max_qubits (length s)) (Err (TooManyQubits (length s) max_qubits))
    (cond (ltb (first_where no_code s) (length s)) (Err (InvalidPauliCode (get_or s (first_where no_code s) 0)))
    (Ok (word_of (λ q. get_or s q 0))))

-- writing them: 1, 9, 11
unfoldable pub write_answer : Word → ℕ → List ℕ → Answer
write_answer w n out =
    cond (ltb max_qubits n) (Err (TooManyQubits n max_qubits))
    (cond (ltb (length out) n) (Err (LengthMismatch n (length out)))
    (cond (reaches w n) (Err (WordOutsideRegister 0)) (Ok tt)))

-- the n codes, and the places from n on as they were; a refusal changes nothing
abbrev pub write_for : Answer → Word → ℕ → List ℕ → List ℕ
write_for (Ok _) w n out = tabulate n (letter_at w) ++ drop n out
write_for (Err r) w n out = out

unfoldable pub written : Word → ℕ → List ℕ → List ℕ
written w n out = write_for (write_answer w n out) w n out
