-- SPDX-FileCopyrightText: 2026 The PPVM Authors
-- SPDX-License-Identifier: Apache-2.0

-- Operators: finite sums of a Gaussian number times a word.
use Rattle.std.specs.Prelude.{ℕ, Bool, true, false, List, [], ◌∷◌, ◌++◌, map}
use Rattle.number.specs.Numbers.{Numbers, Cx}
use Rattle.number.specs.Whole.{whole}
use Rattle.gksl.specs.Gauss.{Gauss, zero_g, one_g, add_g, neg_g, mul_g, conj_g, turn}

-- words, with their product up to a power of i: the product of the operators a and b is i^(phase a b) times mul a b
pub record Words : Type 1 where
  pub Word : Type 0
  pub mul : Word → Word → Word
  pub phase : Word → Word → ℕ
  -- are they one word; does the first come before; do they share a qubit
  pub alike : Word → Word → Bool
  pub below : Word → Word → Bool
  pub meets : Word → Word → Bool

-- a number onto a word
pub record Onto (N : Numbers) (S : Words) : Type 0 where
  pub num : Cx N
  pub word : S.Word

abbrev pub Term : Words → Type 0
Term S = Onto whole S

abbrev pub Op : Words → Type 0
Op S = List (Term S)

abbrev pub at : (S : Words) → Gauss → S.Word → Term S
at S z w = record { num = z; word = w }

-- one word, as an operator
abbrev pub single : (S : Words) → S.Word → Op S
single S p = at S one_g p ∷ []

abbrev pub times : (S : Words) → Term S → Term S → Term S
times S t u = at S (turn (S.phase t.word u.word) (mul_g t.num u.num)) (S.mul t.word u.word)

unfoldable pub product : (S : Words) → Op S → Op S → Op S
product S [] B = []
product S (a ∷ A) B = map (times S a) B ++ product S A B

abbrev pub conj_term : (S : Words) → Term S → Term S
conj_term S t = at S (conj_g t.num) t.word

-- words are Hermitian
unfoldable pub adjoint : (S : Words) → Op S → Op S
adjoint S A = map (conj_term S) A

unfoldable pub scale : (S : Words) → Gauss → Op S → Op S
scale S k A = map (λ t. at S (mul_g k t.num) t.word) A

unfoldable pub minus : (S : Words) → Op S → Op S
minus S A = map (λ t. at S (neg_g t.num) t.word) A

abbrev pub pick : Bool → Gauss → Gauss
pick true z = z
pick false z = zero_g

-- the number that stands at w
unfoldable pub coeff : (S : Words) → S.Word → Op S → Gauss
coeff S w [] = zero_g
coeff S w (t ∷ A) = add_g (pick (S.alike t.word w) t.num) (coeff S w A)
