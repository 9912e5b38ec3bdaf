-- SPDX-FileCopyrightText: 2026 The PPVM Authors
-- SPDX-License-Identifier: Apache-2.0

-- Filling a list from the front. Assumes nothing.
use mathlib.Core.Path.{◌≡◌, refl, ap, ◌∙◌}
use mathlib.Core.List.{List, [], ◌∷◌, ◌++◌, append-nil}
use Prim.Native.Nat.{ℕ, zero, suc, ◌+◌, ◌<◌}
use native.Mathlib.Omega.{arith}
use native.Mathlib.Numerals.{add-one}
use lib.ListN.{length, set, drop, replicate, drop_of_length-le}

module _ {A : Type 0} where
  suc_filled : (v : A) (i : ℕ) (l : List A) → i < length l → set (replicate i v ++ drop i l) i v ≡ replicate (suc i) v ++ drop (suc i) l
  suc_filled v i [] h = absurd (omega arith)
  suc_filled v zero (x ∷ l) h = refl
  suc_filled v (suc i) (x ∷ l) h = ap (λ (t : List A). v ∷ t) (suc_filled v i l (omega arith))

  pub filled_more : (v : A) (i : ℕ) (l₀ l : List A) → l ≡ replicate i v ++ drop i l₀ → i < length l₀ → set l i v ≡ replicate (i + 1) v ++ drop (i + 1) l₀
  filled_more v i l₀ l e h = rw (e, add-one) (suc_filled v i l₀ h)

  pub filled : (v : A) (i : ℕ) (l₀ l : List A) → l ≡ replicate i v ++ drop i l₀ → i ≡ length l₀ → l ≡ replicate (length l₀) v
  filled v i l₀ l e h =
      let z : drop (length l₀) l₀ ≡ [] = drop_of_length-le l₀ {i = length l₀} (omega arith) in
      e ∙ rw (h, z, append-nil)
