-- SPDX-FileCopyrightText: 2026 The PPVM Authors
-- SPDX-License-Identifier: Apache-2.0

-- What is stored for a jump: a Pauli with g × c × c, or a general jump with its terms and thinned L†L.
use Rattle.std.specs.Prelude.{ℕ, ◌+◌, cond, List, [], ◌∷◌, ◌++◌, Float, length}
use Rattle.number.specs.Floats.{floats, float0}
use Rattle.gksl.specs.Model.{JumpOver}
use Rattle.gksl.specs.Rules.{formed_over}
use Rattle.gksl.specs.Words.{pauli}
use Rattle.model.specs.Stored.{range, entry}
use Rattle.model.specs.Terms.{Term}

-- an entry of the table of jumps and pairs for terms that are stored from a place on, and these terms
pub record Compiled : Type 0 where
  pub rate : Float
  pub numbers : ℕ → List ℕ
  pub terms : List Term

-- one real term c at rate g, stored as g × c × c
abbrev pub pauli_jump : Float → Term → Compiled
pauli_jump g t = record {
  rate = floats.times (floats.times g t.num.re) t.num.re;
  numbers = λ at. entry 0 (range at (at + 1)) (range 0 0) 0 (range 0 0);
  terms = t ∷ [];
}

abbrev pub general_jump : Float → List Term → Compiled
general_jump g op =
    let product : List Term = formed_over floats pauli op op in
    record {
      rate = g;
      numbers = λ at. entry 1 (range at (at + length op)) (range 0 0) 0 (range (at + length op) (at + length op + length product));
      terms = op ++ product;
    }

unfoldable pub compile_jump : JumpOver floats pauli → Compiled
compile_jump j = shape j.rate j.op
  where
    shape : Float → List Term → Compiled
    shape g [] = general_jump g []
    shape g (t ∷ []) = cond (floats.is_zero t.num.im) (pauli_jump g t) (general_jump g (t ∷ []))
    shape g (t ∷ u ∷ op) = general_jump g (t ∷ u ∷ op)

-- how many terms are stored for an operator, whatever its rate
abbrev pub term_count : List Term → ℕ
term_count op = length (compile_jump (record { rate = float0; op = op })).terms
