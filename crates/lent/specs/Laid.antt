-- SPDX-FileCopyrightText: 2026 The PPVM Authors
-- SPDX-License-Identifier: Apache-2.0

-- Values laid into a lent table one by one, from a place on; the other places stay.
use Rattle.std.specs.Prelude.{ℕ, suc, ◌+◌, List, [], ◌∷◌}

module _ {A B : Type 0} where
  unfoldable pub laid : (List A → ℕ → B → List A) → ℕ → List B → List A → List A
  laid store k [] l = l
  laid store k (b ∷ bs) l = laid store (suc k) bs (store l k b)

-- the places that values of these lengths take together
unfoldable pub total : List ℕ → ℕ
total [] = 0
total (n ∷ ns) = n + total ns
