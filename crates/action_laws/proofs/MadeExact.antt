-- SPDX-FileCopyrightText: 2026 The PPVM Authors
-- SPDX-License-Identifier: Apache-2.0

-- The action of a model that was built: that of the rules over what was given, and of whole numbers with parts of at most 256
-- exactly that of the adjoint GKSL generator. Assumes nothing.
use mathlib.Core.Path.{◌≡◌, ap, subst⁻¹}
use mathlib.Core.List.{List, []}
use Rattle.word.specs.Word.{Sound}
use Rattle.word.specs.declared.word.Word.{Word}
use Rattle.number.specs.Floats.{floats}
use Rattle.number.specs.Whole.{whole}
use Rattle.gksl.specs.Model.{ModelOver}
use Rattle.gksl.specs.Table.{put_all_over}
use Rattle.gksl.specs.Rules.{action_over}
use Rattle.gksl.specs.Words.{pauli}
use Rattle.model.specs.Stored.{ModelTables}
use Rattle.model.specs.Terms.{Term}
use Rattle.model.specs.declared.stored.Model.{Model}
use Rattle.action.specs.Acts.{listed, sums_of, action_of}
use Rattle.action_laws.specs.Made.{Made}
use Rattle.action_laws.specs.WholeModel.{WholeModel}
use Rattle.action_laws.specs.Exact.{ListsGenerator}
use Rattle.action_laws.proofs.MadeRules.{made_rules}
use Rattle.action_laws.proofs.MadeLimits.{made_limits, made_moderate}
use Rattle.action_laws.proofs.WholeListed.{lists_generator}

module _ (g : ModelOver floats pauli) (m : Model) (t : ModelTables) (made : Made g m t) (p : Word) where
  pub made_action : action_of m t p ≡ action_over floats pauli g p
  unfolding action_of sums_of action_over
  made_action = ap (λ (A : List Term). listed (put_all_over floats pauli A [])) (made_rules g m t made p)

  -- what the action lists is exactly the generator's
  pub made_exact : (w : ModelOver whole pauli) → WholeModel g w → Sound p → ListsGenerator w p (action_of m t p)
  made_exact w numbers sound =
      subst⁻¹ (λ (L : List Term). ListsGenerator w p L) made_action (lists_generator g w numbers (made_limits g m t made) (made_moderate g m t made w numbers) p sound)
