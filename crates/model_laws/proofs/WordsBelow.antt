-- SPDX-FileCopyrightText: 2026 The PPVM Authors
-- SPDX-License-Identifier: Apache-2.0

-- Words without letters at or above qubit n: what a text gives, and the product of two. Assumes nothing.
use mathlib.Core.Path.{◌≡◌, ap₂, ◌∙◌}
use mathlib.Core.Bool.{false, ◌&&◌}
use Prim.Native.Nat.{ℕ, ◌≤◌, ◌<◌}
use native.Mathlib.Omega.{arith}
use native.Mathlib.Decide.{dec_lt}
use borrow.Author.Tests.{lt-leb, le-leb, eqb-true, not-false}
use lib.Dec.{leb}
use Rattle.word.specs.Letter.{mul_letter}
use Rattle.word.specs.Product.{mul}
use Rattle.word.specs.Register.{reaches, acts_on}
use Rattle.word.specs.Word.{max_qubits, letter_at}
use Rattle.word.specs.declared.word.Word.{Word}
use Rattle.word.proofs.Sums.{any_none, any_false}
use Rattle.word.proofs.WordLaws.{letter_mul}

module _ (w : Word) (n : ℕ) where
  pub none_reaches : ((q : ℕ) → q < max_qubits → n ≤ q → letter_at w q ≡ 0) → reaches w n ≡ false
  unfolding reaches
  none_reaches h = any_none max_qubits _ (λ q l. go q l (dec_lt q n))
    where
      go : (q : ℕ) → q < max_qubits → Dec (q < n) → (leb n q && acts_on w q) ≡ false
      go q l (yes k) = rw (lt-leb n q k)
      go q l (no k) = rw (le-leb n q (omega arith), h q l (omega arith))

  pub reaches_none : reaches w n ≡ false → (q : ℕ) → q < max_qubits → n ≤ q → letter_at w q ≡ 0
  unfolding reaches
  reaches_none e q h k = eqb-true (letter_at w q) 0 (not-false _ (rw (le-leb n q k) at (any_false max_qubits (λ (q : ℕ). leb n q && acts_on w q) e q h)))

pub reaches_mul : (a b : Word) (n : ℕ) → reaches a n ≡ false → reaches b n ≡ false → reaches (mul a b) n ≡ false
unfolding mul_letter
reaches_mul a b n h k =
    none_reaches (mul a b) n (λ q l m. letter_mul a b q l ∙ ap₂ mul_letter (reaches_none a n h q l m) (reaches_none b n k q l m))
