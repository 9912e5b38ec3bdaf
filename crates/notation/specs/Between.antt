-- SPDX-FileCopyrightText: 2026 The PPVM Authors
-- SPDX-License-Identifier: Apache-2.0

-- Contracts between functions: a first look at a text, and what writing codes leaves.
use Rattle.std.specs.Prelude.{ℕ, suc, cond, ◌≡◌, List, [], ◌∷◌, eqb, leb, Result, Ok, Err}
use Rattle.refusal.specs.Cause.{Answer}
use Rattle.word.specs.declared.word.Word.{Word}
use Rattle.notation.specs.Codes.{write_answer, written}
use Rattle.refusal.specs.declared.Refusal.{Refusal}
use Rattle.refusal.specs.declared.Refusal.TheVariants.{InvalidPauliByte}

-- a first look at what is left of a text, after so many letters
unfoldable pub scan_from : ℕ → List ℕ → Result ℕ Refusal
scan_from k [] = Ok k
scan_from k (b ∷ s) = cond (eqb b 95) (scan_from k s) (cond (leb 128 b) (Err (InvalidPauliByte b k)) (scan_from (suc k) s))

-- what writing codes answers, and the lent places afterwards
pub record Wrote (w : Word) (n : ℕ) (out : List ℕ) (answer : Answer) (after : List ℕ) : Type 0 where
  pub answers : answer ≡ write_answer w n out
  pub places : after ≡ written w n out
