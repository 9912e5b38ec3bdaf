-- SPDX-FileCopyrightText: 2026 The PPVM Authors
-- SPDX-License-Identifier: Apache-2.0

-- A tested model acts inside its register: every word that its action lists for a word of the register is one. Assumes nothing.
use mathlib.Core.Path.{◌≡◌, ◌∙◌}
use mathlib.Core.Bool.{false}
use mathlib.Core.List.{List, [], ◌∷◌}
use Prim.Native.Nat.{ℕ, ◌≤◌, ◌<◌}
use Rattle.std.specs.Prelude.{Ok}
use Rattle.word.specs.Word.{max_qubits, letter_at}
use Rattle.word.specs.Register.{reaches}
use Rattle.word.specs.declared.word.Word.{Word}
use Rattle.lent.specs.Every.{Every}
use Rattle.lent.proofs.Lists.{every_weaken}
use Rattle.model.specs.Stored.{ModelTables}
use Rattle.model.specs.Stands.{Stands}
use Rattle.model.specs.Terms.{Term}
use Rattle.model.specs.Tested.{test_model}
use Rattle.model.specs.declared.stored.Model.{Model}
use Rattle.model.proofs.StandsLaws.{tested_stands}
use Rattle.model_laws.proofs.WordsBelow.{none_reaches, reaches_none}
use Rattle.action.specs.Acts.{action_of}
use Rattle.action_laws.proofs.ReachedListed.{listed_near}

-- words without a letter at any qubit from n on
each_inside : (n : ℕ) (A : List Term) → ((q : ℕ) → q < max_qubits → n ≤ q → Every (λ c. letter_at c.word q ≡ 0) A) → Every (λ c. reaches c.word n ≡ false) A
each_inside n [] h = tt
each_inside n (c ∷ A) h = (none_reaches c.word n (λ q l k. (h q l k).0), each_inside n A (λ q l k. (h q l k).1))

-- from n on no stored word has a letter, so that each word listed has p's, which is none
pub action_inside : (m : Model) (t : ModelTables) → test_model m t ≡ Ok tt → (p : Word) → reaches p m.qubits ≡ false → Every (λ c. reaches c.word m.qubits ≡ false) (action_of m t p)
action_inside m t ok p below =
    let n : ℕ = m.qubits in
    let s : Stands m t = tested_stands m t ok in
    each_inside n (action_of m t p)
    (λ q low high.
    every_weaken (λ (c : Term). letter_at c.word q ≡ letter_at p q) (λ (c : Term). letter_at c.word q ≡ 0) (λ c e. e ∙ reaches_none p n below q low high) (action_of m t p)
    (listed_near m t ok q low (λ i l. reaches_none _ n (s.reals i l).below q low high) (λ i l. reaches_none _ n (s.terms i l).below q low high) p))
