-- SPDX-FileCopyrightText: 2026 The PPVM Authors
-- SPDX-License-Identifier: Apache-2.0

-- A model of whole numbers with parts of at most 256: its rules and its action over f64 are exactly those over the whole
-- numbers. Assumes nothing.
use mathlib.Core.List.{[]}
use Prim.Native.Nat.{◌^◌}
use native.Mathlib.Omega.{arith}
use Rattle.word.specs.declared.word.Word.{Word}
use Rattle.number.specs.Whole.{whole}
use Rattle.number.specs.Floats.{floats}
use Rattle.number.proofs.ExactLaws.{zero_is}
use Rattle.gksl.specs.Model.{ModelOver}
use Rattle.gksl.specs.Table.{put_all_over}
use Rattle.gksl.specs.Rules.{rules_over, action_over}
use Rattle.gksl.specs.Words.{pauli}
use Rattle.model_laws.proofs.RelatedLaws.{like_without}
use Rattle.action_laws.specs.WholeModel.{WholeModel, Limits}
use Rattle.action_laws.proofs.WholeWeights.{weight, Alike, alike_put_all}
use Rattle.action_laws.proofs.WholeAdds.{Agree, agree_mono, append}
use Rattle.action_laws.proofs.WholeRules.{terms_agree, jumps_agree}
use Rattle.action_laws.proofs.WholeMatrices.{matrices_agree}

module _ (g : ModelOver floats pauli) (w : ModelOver whole pauli) (h : WholeModel g w) (l : Limits g) (p : Word) where
  pub rules_whole : Agree (2 ^ 53) (rules_over floats pauli g p) (rules_over whole pauli w p)
  unfolding rules_over
  rules_whole =
      agree_mono (omega (arith, l.reals, l.together))
      (append (terms_agree g.terms w.terms h.terms p)
      (append (jumps_agree g.jumps w.jumps h.jumps l.jump_terms p) (matrices_agree g.matrices w.matrices h.matrices l.operator_terms p)))

  pub action_whole : Alike (action_over floats pauli g p) (action_over whole pauli w p)
  unfolding action_over weight
  action_whole =
      like_without floats whole pauli _ (λ c. floats.is_zero c.num.re) (λ c. whole.is_zero c.num.re) (λ a b e r. zero_is r.re)
      (put_all_over floats pauli (rules_over floats pauli g p) []) (put_all_over whole pauli (rules_over whole pauli w p) [])
      (alike_put_all (rules_over floats pauli g p) (rules_over whole pauli w p) rules_whole.like [] [] tt (omega (arith, rules_whole.most)))
