-- SPDX-FileCopyrightText: 2026 The PPVM Authors
-- SPDX-License-Identifier: Apache-2.0

-- No item of any model shares a qubit with the identity, so nothing is added for it. Assumes nothing.
use mathlib.Core.Path.{◌≡◌, refl, ap, ap₂, ◌∙◌}
use mathlib.Core.Bool.{Bool, true, false, not, ◌&&◌, ◌||◌, cond}
use mathlib.Core.List.{List, [], ◌∷◌, ◌++◌}
use Prim.Native.Nat.{ℕ}
use lib.Dec.{eqb}
use Rattle.word.specs.Word.{max_qubits, identity}
use Rattle.word.specs.Register.{acts_on, share}
use Rattle.word.specs.declared.word.Word.{Word}
use Rattle.word.proofs.Sums.{any_none}
use Rattle.word.proofs.WordLaws.{letter_identity}
use Rattle.number.specs.Floats.{floats}
use Rattle.gksl.specs.Model.{RealTerm}
use Rattle.gksl.specs.Rules.{overlaps_over, terms_over}
use Rattle.gksl.specs.Words.{pauli}
use Rattle.model.specs.Terms.{Term}
use Rattle.model.specs.Stored.{ModelTables}
use Rattle.model.specs.declared.stored.Model.{Model}
use Rattle.model.specs.declared.stored.Jump.{Jump}
use Rattle.model.specs.declared.stored.Jump.TheVariants.{Pauli, General, Pair}
use Rattle.rule_terms.specs.Adds.{op, reals_in, jumps_in, jump_adds, pair_adds, gather_jumps, rules_stored}

shares_none : (w : Word) → share w identity ≡ false
unfolding share
shares_none w = any_none max_qubits _ (λ q l. ap (λ (n : ℕ). acts_on w q && not (eqb n 0)) (letter_identity q) ∙ never (acts_on w q))
  where
    never : (b : Bool) → (b && false) ≡ false
    never true = refl
    never false = refl

overlaps_none : (A : List Term) → overlaps_over floats pauli A identity ≡ false
unfolding overlaps_over
overlaps_none [] = refl
overlaps_none (a ∷ A) = ap₂ ◌||◌ (shares_none a.word) (overlaps_none A)

-- ---- the items
terms_none : (H : List (RealTerm floats pauli)) → terms_over floats pauli H identity ≡ []
unfolding terms_over
terms_none [] = refl
terms_none (h ∷ H) = rw (shares_none h.word, terms_none H) refl

module _ (t : ModelTables) where
  jump_none : (j : Jump) → jump_adds identity t j ≡ []
  unfolding jump_adds
  jump_none (Pauli rate term) = rw (shares_none _) refl
  jump_none (General rate terms product) = rw (overlaps_none (op identity t terms)) refl
  jump_none (Pair left right factors product) = refl

  pair_none : (j : Jump) → pair_adds identity t j ≡ []
  unfolding pair_adds
  pair_none (Pauli rate term) = refl
  pair_none (General rate terms product) = refl
  pair_none (Pair left right factors product) = rw (overlaps_none (op identity t left), overlaps_none (op identity t right)) (same_none (eqb left.start right.start && eqb left.end right.end))
    where
      same_none : (b : Bool) → cond {A = List Term} b [] [] ≡ []
      same_none true = refl
      same_none false = refl

gather_none : (f : Jump → List Term) → ((j : Jump) → f j ≡ []) → (J : List Jump) → gather_jumps f J ≡ []
unfolding gather_jumps
gather_none f h [] = refl
gather_none f h (j ∷ J) = ap₂ ◌++◌ (h j) (gather_none f h J)

pub identity_nothing : (m : Model) (t : ModelTables) → rules_stored m t identity ≡ []
unfolding rules_stored
identity_nothing m t =
    ap₂ ◌++◌ (terms_none (reals_in m t)) (ap₂ ◌++◌ (gather_none (jump_adds identity t) (jump_none t) (jumps_in m t)) (gather_none (pair_adds identity t) (pair_none t) (jumps_in m t)))
