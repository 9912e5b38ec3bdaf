-- SPDX-FileCopyrightText: 2026 The PPVM Authors
-- SPDX-License-Identifier: Apache-2.0

-- A call whose refusal has the number 0 answers what its definition accepts. Assumes nothing.
use mathlib.Core.Path.{◌≡◌, sym, ap, ◌∙◌}
use native.Mathlib.Omega.{arith}
use Rattle.refusal.specs.Cause.{cause_of}
use Rattle.refusal.specs.declared.Refusal.{Refusal}
use Rattle.refusal.specs.declared.Refusal.TheVariants.{TooManyQubits, WrongLength, InvalidPauliByte, InvalidPauliCode, NegativeRate, EmptyLincomb, NumberOutOfRange, CountAboveLimit, LengthMismatch, KMatrixNotHermitian, WordOutsideRegister, RepeatedBasisWord, TableFull, SumNotFinite, WrittenCountTooLarge, TooManyProducts}
use Rattle.std.specs.Prelude.{Result, Ok, Err, ℕ}
use Rattle.pebblelinen.specs.Actions.{listed_of}
use Rattle.pebblelinen.specs.Bases.{kept_of}
use Rattle.pebblelinen.specs.Markets.{written_of}
use Rattle.pebblelinen.specs.declared.markets.WrittenText.{WrittenText}
use Rattle.pebblelinen.specs.declared.actions.ListedWords.{ListedWords}
use Rattle.pebblelinen.specs.declared.bases.KeptEntries.{KeptEntries}
use Rattle.demands.specs.Calls.{Accepted}

-- no cause has the number 0
pub numbered : (q : Refusal) → (cause_of q).number ≡ 0 → ⊥
numbered (TooManyQubits count max) e = omega (arith, e)
numbered (WrongLength expected got) e = omega (arith, e)
numbered (InvalidPauliByte byte place) e = omega (arith, e)
numbered (InvalidPauliCode code) e = omega (arith, e)
numbered (NegativeRate index) e = omega (arith, e)
numbered (EmptyLincomb index) e = omega (arith, e)
numbered (NumberOutOfRange index) e = omega (arith, e)
numbered (CountAboveLimit count) e = omega (arith, e)
numbered (LengthMismatch needed given) e = omega (arith, e)
numbered (KMatrixNotHermitian n m) e = omega (arith, e)
numbered (WordOutsideRegister position) e = omega (arith, e)
numbered (RepeatedBasisWord position) e = omega (arith, e)
numbered (TableFull table places) e = omega (arith, e)
numbered (SumNotFinite position) e = omega (arith, e)
numbered (WrittenCountTooLarge entry) e = omega (arith, e)
numbered (TooManyProducts m s) e = omega (arith, e)

pub kept_accepts : (a : Result ℕ Refusal) (r : KeptEntries) → r ≡ kept_of a → Accepted r.status → a ≡ Ok r.entries
kept_accepts (Ok n) r e h = ap Ok (sym (ap (λ (x : KeptEntries). x.entries) e))
kept_accepts (Err q) r e h = absurd (numbered q (sym (ap (λ (x : KeptEntries). x.status.refusal) e) ∙ h))

pub acted_accepts : (a : Result ℕ Refusal) (r : ListedWords) → r ≡ listed_of a → Accepted r.status → a ≡ Ok r.count
acted_accepts (Ok n) r e h = ap Ok (sym (ap (λ (x : ListedWords). x.count) e))
acted_accepts (Err q) r e h = absurd (numbered q (sym (ap (λ (x : ListedWords). x.status.refusal) e) ∙ h))

pub written_accepts : (a : Result ℕ Refusal) (r : WrittenText) → r ≡ written_of a → Accepted r.status → a ≡ Ok r.bytes
written_accepts (Ok n) r e h = ap Ok (sym (ap (λ (x : WrittenText). x.bytes) e))
written_accepts (Err q) r e h = absurd (numbered q (sym (ap (λ (x : WrittenText). x.status.refusal) e) ∙ h))
