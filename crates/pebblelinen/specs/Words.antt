-- SPDX-FileCopyrightText: 2026 The PPVM Authors
-- SPDX-License-Identifier: Apache-2.0

-- Answers about words in plain numbers.
use Rattle.std.specs.Prelude.{ℕ, ◌≡◌, false, not, cond, List, ltb, Result, Ok, Err}
use Rattle.refusal.specs.Cause.{status_of, answer_status}
use Rattle.refusal.specs.declared.Refusal.TheVariants.{TooManyQubits}
use Rattle.refusal.specs.declared.Refusal.{Refusal}
use Rattle.refusal.specs.declared.Status.{Status}
use Rattle.word.specs.Word.{max_qubits, identity}
use Rattle.notation.specs.Codes.{write_answer, written}
use Rattle.word.specs.Register.{reaches}
use Rattle.word.specs.declared.word.Word.{Word}
use Rattle.pebblelinen.specs.declared.words.Parsed as Answers
use Rattle.pebblelinen.specs.declared.words.Fitting.{Fitting}

-- the word that was read, or the refusal and the identity
abbrev pub parsed_of : Result Word Refusal → Answers.Parsed
parsed_of (Ok lanes) = record { status = answer_status (Ok tt); word = lanes }
parsed_of (Err refusal) = record { status = status_of refusal; word = identity }

-- what writing codes answers, and the lent places afterwards
pub record Writes (w : Word) (n : ℕ) (out : List ℕ) (status : Status) (after : List ℕ) : Type 0 where
  pub answers : status ≡ answer_status (write_answer w n out)
  pub places : after ≡ written w n out

-- 1; else whether the word has no bit at or above n
unfoldable pub fitting_of : Word → ℕ → Fitting
fitting_of w n =
    cond (ltb max_qubits n) (record { status = status_of (TooManyQubits n max_qubits); fits = false })
    (record { status = answer_status (Ok tt); fits = not (reaches w n) })
