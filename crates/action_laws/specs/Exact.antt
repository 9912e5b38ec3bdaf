-- SPDX-FileCopyrightText: 2026 The PPVM Authors
-- SPDX-License-Identifier: Apache-2.0

-- What it means that a list of words and numbers is exactly the adjoint GKSL generator's at a word p. The generator is doubled, so
-- that no halves arise.
use Rattle.std.specs.Prelude.{ℕ, ◌≡◌, false, cond, List, [], ◌∷◌, map, ℤ, pos, Float, take}
use Rattle.word.specs.Flat.{words}
use Rattle.word.specs.Order.{same}
use Rattle.word.specs.declared.word.Word.{Word}
use Rattle.number.specs.Numbers.{real_c}
use Rattle.number.specs.Whole.{◌⊞◌, whole}
use Rattle.number.specs.Floats.{floats, float0}
use Rattle.number.specs.Exact.{Is}
use Rattle.gksl.specs.Operator.{coeff}
use Rattle.gksl.specs.Model.{ModelOver}
use Rattle.gksl.specs.Generator.{generator2}
use Rattle.gksl.specs.Words.{pauli}
use Rattle.sums.specs.Sums.{rows, Rising}
use Rattle.model.specs.Terms.{Term}
use Rattle.lent.specs.Every.{Every}

-- the number listed for a word; 0 where it is not listed
unfoldable pub listed_at : Word → List Term → Float
listed_at v [] = float0
listed_at v (c ∷ L) = cond (same c.word v) c.num.re (listed_at v L)

-- the list that the first n places of the tables for words and values hold
abbrev pub list_in : ℕ → List ℕ → List Float → List Term
list_in n outWords outValues = take n (rows (words outWords) (map (real_c floats) outValues))

pub record ListsGenerator (w : ModelOver whole pauli) (p : Word) (L : List Term) : Type 0 where
  -- at every word the number listed is the generator's, so each word whose number is not 0 is listed with it
  pub value : (v : Word) → (z : ℤ) × Is (listed_at v L) z × (z ⊞ z ≡ (coeff pauli v (generator2 pauli w p)).re)
  -- and no other word is, and each once
  pub not_zero : Every (λ c. floats.is_zero c.num.re ≡ false) L
  pub once : Rising L
  -- the generator's number is real
  pub real : (v : Word) → (coeff pauli v (generator2 pauli w p)).im ≡ pos 0
