-- SPDX-FileCopyrightText: 2026 The PPVM Authors
-- SPDX-License-Identifier: Apache-2.0

-- Statements between laws: a model over f64 with numbers of at most 2^200 and operators of at most 16 terms.
use Rattle.std.specs.Prelude.{◌≤◌, List, length}
use Rattle.number.specs.Floats.{floats}
use Rattle.number.specs.Bounds.{AtMost, AtMostC}
use Rattle.gksl.specs.Model.{ModelOver}
use Rattle.gksl.specs.Words.{pauli}
use Rattle.model_build.specs.Given.{max_terms}
use Rattle.lent.specs.Every.{Every}
use Rattle.model.specs.Terms.{Term}

pub record RangedOp (op : List Term) : Type 0 where
  pub few : length op ≤ max_terms
  pub terms : Every (λ z. AtMostC 200 z.num) op

pub record Ranged (m : ModelOver floats pauli) : Type 0 where
  pub terms : Every (λ h. AtMost 200 h.num) m.terms
  pub jumps : Every (λ j. AtMost 200 j.rate × RangedOp j.op) m.jumps
  pub matrices : Every (λ k. Every RangedOp k.ops × Every (AtMostC 200) k.entries) m.matrices
