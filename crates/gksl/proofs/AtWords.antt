-- SPDX-FileCopyrightText: 2026 The PPVM Authors
-- SPDX-License-Identifier: Apache-2.0

-- The product's words meet what the generator asks of words, and the two theorems hold of them. Assumes nothing.
use mathlib.Core.Path.{◌≡◌}
use mathlib.Core.List.{List, [], ◌∷◌}
use native.Mathlib.Omega.{arith}
use lib.IntN.{pos}
use Rattle.number.specs.Whole.{◌⊞◌, whole}
use Rattle.word.specs.Word.{Sound}
use Rattle.word.specs.declared.word.Word.{Word}
use Rattle.word.proofs.WordLaws.{mul_comm, mul_assoc, mul_back, phase_cocycle, phase_opposite, phase_undone, apart_phase}
use Rattle.word.proofs.OrderLaws.{same_self, same_eq}
use Rattle.gksl.specs.Operator.{Op, coeff}
use Rattle.gksl.specs.Model.{JumpOver, ModelOver, AllModerate}
use Rattle.gksl.specs.Rules.{action_over}
use Rattle.gksl.specs.Generator.{generator2}
use Rattle.gksl.specs.Words.{pauli}
use Rattle.gksl.proofs.Totals.{Every}
use Rattle.gksl.proofs.WordLaws.{Laws, Back}
use Rattle.gksl.proofs.ModelLaws.{Backs}
use Rattle.gksl.proofs.OverLaws.{action_exact, exact_real}

pub laws : Laws pauli
laws = record {
  comm = mul_comm;
  assoc = mul_assoc;
  cocycle = phase_cocycle;
  opposite = phase_opposite;
  undone = phase_undone;
  own = same_self;
  known = same_eq;
  apart = λ a b h. let e = apart_phase a b h in omega arith;
}

-- twice any word from a sound p is back at p
pub back : (p a : Word) → Sound p → Back pauli p a
back p a s = mul_back a p s

module _ (p : Word) (sound : Sound p) where
  words_back : (A : Op pauli) → Every pauli (Back pauli p) A
  words_back [] = tt
  words_back (t ∷ A) = (back p t.word sound, words_back A)

  pub all_back : (J : List (JumpOver whole pauli)) → Backs pauli p J
  all_back [] = tt
  all_back (j ∷ J) = (words_back j.op, all_back J)

  module _ (m : ModelOver whole pauli) (moderate : AllModerate pauli m.matrices) where
    -- at every word the action's number, doubled, is that of twice the exact generator
    pub action_is : (w : Word) → (coeff pauli w (action_over whole pauli m p)).re ⊞ (coeff pauli w (action_over whole pauli m p)).re ≡ (coeff pauli w (generator2 pauli m p)).re
    action_is = action_exact pauli laws m moderate p (all_back m.jumps)

    -- and the exact number is real
    pub action_real : (w : Word) → (coeff pauli w (generator2 pauli m p)).im ≡ pos 0
    action_real = exact_real pauli laws m moderate p (all_back m.jumps)
