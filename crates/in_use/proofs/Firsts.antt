-- SPDX-FileCopyrightText: 2026 The PPVM Authors
-- SPDX-License-Identifier: Apache-2.0

-- The first elements of a list: a part of them, and two lists that begin alike. Assumes nothing.
use mathlib.Core.Path.{◌≡◌, refl, sym, ap, ◌∙◌}
use mathlib.Core.List.{List, [], ◌∷◌}
use Prim.Native.Nat.{ℕ, zero, suc, ◌+◌, ◌≤◌, ◌<◌}
use native.Mathlib.Omega.{arith}
use lib.ListN.{length, get_or, take, drop, length-take}
use lib.Seq.{length-take-le, take-take, get_or-take}

module _ {A : Type 0} where
  -- a part of the first k
  part_inside : (m n k : ℕ) (l : List A) → n + m ≤ k → take m (drop n (take k l)) ≡ take m (drop n l)
  part_inside m zero k l h = take-take m k l (omega arith)
  part_inside m (suc n) zero l h = absurd (omega arith)
  part_inside m (suc n) (suc k) [] h = refl
  part_inside m (suc n) (suc k) (a ∷ l) h = part_inside m n k l (omega arith)

  module _ (n : ℕ) (l l' : List A) (same : take n l ≡ take n l') where
    pub same_at : (i : ℕ) (d : A) → i < n → get_or l i d ≡ get_or l' i d
    same_at i d h = sym (get_or-take n l i d h) ∙ ap (λ (k : List A). get_or k i d) same ∙ get_or-take n l' i d h

    -- the other has as many
    pub same_long : n ≤ length l → n ≤ length l'
    same_long h =
        let e : length (take n l') ≡ n = ap length (sym same) ∙ length-take-le n l h in
        omega (arith, e, length-take n l')

    pub same_part : (s k : ℕ) → s + k ≤ n → take k (drop s l) ≡ take k (drop s l')
    same_part s k h = sym (part_inside k s n l h) ∙ ap (λ (q : List A). take k (drop s q)) same ∙ part_inside k s n l' h
