-- SPDX-FileCopyrightText: 2026 The PPVM Authors
-- SPDX-License-Identifier: Apache-2.0

-- Statements between laws: the numbers that are stored for a jump and for a pair, over any numbers.
use Rattle.std.specs.Prelude.{cond, List, [], ◌∷◌, ◌++◌, map}
use Rattle.number.specs.Numbers.{Numbers, Cx, mul_c}
use Rattle.gksl.specs.Operator.{Words, Onto}
use Rattle.gksl.specs.Model.{JumpOver}
use Rattle.gksl.specs.Rules.{pairs_over, formed_over, bare, on_word}

pub record StoredJump (N : Numbers) (S : Words) : Type 0 where
  pub rate : N.Num
  pub terms : List (Onto N S)

module _ (N : Numbers) (S : Words) where
  -- one real term c at rate g, stored as g × c × c
  abbrev pub stored_pauli : N.Num → Onto N S → StoredJump N S
  stored_pauli g t = record { rate = N.times (N.times g t.num.re) t.num.re; terms = t ∷ [] }

  abbrev pub stored_general : N.Num → List (Onto N S) → StoredJump N S
  stored_general g op = record { rate = g; terms = op ++ formed_over N S op op }

  unfoldable pub stored_shape : N.Num → List (Onto N S) → StoredJump N S
  stored_shape g [] = stored_general g []
  stored_shape g (t ∷ []) = cond (N.is_zero t.num.im) (stored_pauli g t) (stored_general g (t ∷ []))
  stored_shape g (t ∷ u ∷ op) = stored_general g (t ∷ u ∷ op)

  abbrev pub stored_jump : JumpOver N S → StoredJump N S
  stored_jump j = stored_shape j.rate j.op

  -- the conjugate of a's number × b's number × K, then K × the number of each thinned word
  unfoldable pub stored_pair : Cx N → List (Onto N S) → List (Onto N S) → List (Onto N S)
  stored_pair k A B =
      pairs_over N S (λ a b. on_word N S (mul_c N (bare N S a b) k) b.word) A B ++ map (λ c. on_word N S (mul_c N k c.num) c.word) (formed_over N S A B)
