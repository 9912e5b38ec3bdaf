-- SPDX-FileCopyrightText: 2026 The PPVM Authors
-- SPDX-License-Identifier: Apache-2.0

-- Accepted and refused answers told apart, and what `?` hands on. Assumes nothing.
use mathlib.Core.Path.{◌≡◌, ap, ◌∙◌}
use Prim.Native.Nat.{ℕ}
use native.Mathlib.Omega.{arith}
use Rattle.std.specs.Prelude.{Result, Ok, Err, IsErrAnd}
use Rattle.std.proofs.lemmas.Result.{err_from_is_err_and}
use Rattle.refusal.specs.declared.Refusal.{Refusal}

module _ {A : Type 0} where
  pub refused_not : (q : Refusal) (x : A) → ◌≡◌ {A = Result A Refusal} (Err q) (Ok x) → ⊥
  refused_not q x e = let z : ◌≡◌ {A = ℕ} 0 1 = cc in omega arith

  pub refused_same : (q r : Refusal) → ◌≡◌ {A = Result A Refusal} (Err q) (Err r) → q ≡ r
  refused_same q r e = cc

  pub accepted_same : (x y : A) → ◌≡◌ {A = Result A Refusal} (Ok x) (Ok y) → x ≡ y
  accepted_same x y e = cc

  -- the exit of a `?`: the refusal that a call answered
  pub handed_on : (r : Result A Refusal) (q : Refusal) → IsErrAnd r (λ d. d ≡ q) → r ≡ Err q
  handed_on r q e = let p = err_from_is_err_and r e in p.1 ∙ ap Err p.2
