-- SPDX-FileCopyrightText: 2026 The PPVM Authors
-- SPDX-License-Identifier: Apache-2.0

-- Demand 2: products by the letter table, and the action as a call. Assumes nothing.
use mathlib.Core.Path.{ap, ap₂, subst⁻¹, ◌∙◌}
use mathlib.Core.List.{List}
use Prim.Native.Nat.{ℕ}
use lib.Ieee.{Float}
use Rattle.word.specs.Product.{phase_sum, phase}
use Rattle.word.specs.Word.{letter_at}
use Rattle.word.specs.declared.algebra.Phased.{Phased}
use Rattle.word.proofs.WordLaws.{letter_mul}
use Rattle.action.specs.Acts.{Acting, act}
use Rattle.action_laws.specs.Exact.{list_in, ListsGenerator}
use Rattle.action_laws.proofs.CallExact.{call_exact}
use Rattle.demands.specs.Demands.{ProductsByLetters, ActionIsGenerator}
use Rattle.demands.proofs.Accepts.{acted_accepts}

pub products_by_letters : ProductsByLetters
unfolding phase phase_sum
products_by_letters p q r e = record {
  letters = λ k h. ap (λ (x : Phased). letter_at x.word k) e ∙ letter_mul p q k h;
  phases = ap (λ (x : Phased). x.phase) e;
}

pub action_is_generator : ActionIsGenerator
action_is_generator c ok g made w wholes =
    let done : Acting = act c.out_words c.out_values c.work_words c.work_sums c.model c.tables c.word in
    subst⁻¹ (ListsGenerator w c.word) (ap₂ (λ (ws : List ℕ) (xs : List Float). list_in c.answer.count ws xs) c.leaves.out_words c.leaves.out_values)
    (call_exact g c.model c.tables made w wholes c.word c.word_sound c.out_words c.out_values c.work_words c.work_sums c.answer.count (acted_accepts done.answer c.answer c.leaves.answers ok))
