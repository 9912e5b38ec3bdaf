-- SPDX-FileCopyrightText: 2026 The PPVM Authors
-- SPDX-License-Identifier: Apache-2.0

-- The kinds of entries. Assumes nothing.
use mathlib.Core.Path.{◌≡◌, refl}
use Prim.Native.Nat.{ℕ, zero, suc}
use Rattle.model.specs.Stored.{by_kind}
use Rattle.model.specs.declared.stored.Jump.{Jump}

-- neither 0 nor 1
pub kind_other : (k : ℕ) (a b c : Jump) → (k ≡ 0 → ⊥) → (k ≡ 1 → ⊥) → c ≡ by_kind k a b c
kind_other zero a b c p q = absurd (p refl)
kind_other (suc zero) a b c p q = absurd (q refl)
kind_other (suc (suc k)) a b c p q = refl
