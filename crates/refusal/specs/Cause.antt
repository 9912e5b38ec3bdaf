-- SPDX-FileCopyrightText: 2026 The PPVM Authors
-- SPDX-License-Identifier: Apache-2.0

-- The table of causes of document 01, with those that document 02 adds: number and returned values of each refusal.
use Rattle.std.specs.Prelude.{ℕ, List, [], ◌∷◌, get_or, Result, Ok, Err}
use Rattle.refusal.specs.declared.Refusal.{Refusal}
use Rattle.refusal.specs.declared.Refusal.TheVariants.{TooManyQubits, WrongLength, InvalidPauliByte, InvalidPauliCode, NegativeRate, EmptyLincomb, NumberOutOfRange, CountAboveLimit, LengthMismatch, KMatrixNotHermitian, WordOutsideRegister, RepeatedBasisWord, TableFull, SumNotFinite, WrittenCountTooLarge, TooManyProducts}
use Rattle.refusal.specs.declared.Status.{Status}

pub record Cause : Type 0 where
  pub number : ℕ
  pub returned : List ℕ

abbrev cause : ℕ → List ℕ → Cause
cause n l = record { number = n; returned = l }

abbrev pub cause_of : Refusal → Cause
cause_of (TooManyQubits count max) = cause 1 (count ∷ max ∷ [])
cause_of (WrongLength expected got) = cause 2 (expected ∷ got ∷ [])
cause_of (InvalidPauliByte byte place) = cause 3 (byte ∷ place ∷ [])
cause_of (InvalidPauliCode code) = cause 4 (code ∷ [])
cause_of (NegativeRate index) = cause 5 (index ∷ [])
cause_of (EmptyLincomb index) = cause 6 (index ∷ [])
cause_of (NumberOutOfRange index) = cause 7 (index ∷ [])
cause_of (CountAboveLimit count) = cause 8 (count ∷ [])
cause_of (LengthMismatch needed given) = cause 9 (needed ∷ given ∷ [])
cause_of (KMatrixNotHermitian n m) = cause 10 (n ∷ m ∷ [])
cause_of (WordOutsideRegister position) = cause 11 (position ∷ [])
cause_of (RepeatedBasisWord position) = cause 12 (position ∷ [])
cause_of (TableFull table places) = cause 13 (table ∷ places ∷ [])
cause_of (SumNotFinite position) = cause 14 (position ∷ [])
cause_of (WrittenCountTooLarge entry) = cause 15 (entry ∷ [])
cause_of (TooManyProducts m s) = cause 16 (m ∷ s ∷ [])

-- a refusal as numbers, 0 for a value that it does not have
abbrev pub status_of : Refusal → Status
status_of r = record {
  refusal = (cause_of r).number;
  first = get_or (cause_of r).returned 0 0;
  second = get_or (cause_of r).returned 1 0;
}

-- the answer of a call whose result, if any, stands in what it was lent
abbrev pub Answer : Type 0
Answer = Result (Unit {0}) Refusal

-- 0 where the call was accepted
abbrev pub answer_status : Answer → Status
answer_status (Ok _) = record { refusal = 0; first = 0; second = 0 }
answer_status (Err r) = status_of r
