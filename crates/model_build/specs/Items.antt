-- SPDX-FileCopyrightText: 2026 The PPVM Authors
-- SPDX-License-Identifier: Apache-2.0

-- Contracts between functions: what testing items answers.
use Rattle.std.specs.Prelude.{ℕ, List, Ok, Err}
use Rattle.refusal.specs.Cause.{Answer}
use Rattle.model_build.specs.Given.{GivenTerm, read_term}
use Rattle.lent.specs.Read.{Read, got, refused, each}
use Rattle.model.specs.Terms.{Term}

module _ {A : Type 0} where
  -- whether there is a value
  abbrev pub answer_of : Read A → Answer
  answer_of (got a) = (Ok tt)
  answer_of (refused r) = Err r

-- the terms of jump or operator i
abbrev pub read_terms : ℕ → ℕ → List GivenTerm → Read (List Term)
read_terms n i terms = each (λ _. read_term n i) 0 terms
