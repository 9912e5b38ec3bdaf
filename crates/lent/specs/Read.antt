-- SPDX-FileCopyrightText: 2026 The PPVM Authors
-- SPDX-License-Identifier: Apache-2.0

-- What reading gives: a value, or the refusal.
use Rattle.std.specs.Prelude.{ℕ, suc, Bool, true, false, List, [], ◌∷◌}
use Rattle.refusal.specs.declared.Refusal.{Refusal}

pub data Read (A : Type 0) : Type 0 where
  got : A → Read A
  refused : Refusal → Read A

module _ {A : Type 0} where
  abbrev pub refuse_if : Bool → Refusal → Read A → Read A
  refuse_if true r after = refused r
  refuse_if false r after = after

module _ {A B : Type 0} where
  -- go on with the value
  abbrev pub onward : Read A → (A → Read B) → Read B
  onward (got a) f = f a
  onward (refused r) f = refused r

module _ {A B : Type 0} where
  -- each of a list, from index i on, up to the first refusal
  unfoldable pub each : (ℕ → A → Read B) → ℕ → List A → Read (List B)
  each f i [] = got []
  each f i (a ∷ l) = onward (f i a) (λ b. onward (each f (suc i) l) (λ bs. got (b ∷ bs)))
