-- SPDX-FileCopyrightText: 2026 The PPVM Authors
-- SPDX-License-Identifier: Apache-2.0

-- Copying the first places of a table, and a table lent in its first places. Assumes nothing.
use mathlib.Core.Path.{◌≡◌, sym, ◌∙◌}
use mathlib.Core.List.{List, [], ◌∷◌, ◌++◌, append_assoc}
use Prim.Native.Nat.{ℕ, suc, ◌+◌, ◌≤◌}
use native.Mathlib.Omega.{arith}
use lib.ListN.{length, take, drop, set, length-set, take-append-drop}
use lib.Seq.{take-suc-set, drop-set-lt, length-take-le}
use Rattle.lent.specs.Laid.{laid}

module _ {A : Type 0} where
  -- what is laid from place k on, between what stands before it and behind it
  laid_between : (bs : List A) (k : ℕ) (l : List A) → k + length bs ≤ length l → laid set k bs l ≡ take k l ++ (bs ++ drop (k + length bs) l)
  unfolding laid
  laid_between [] k l h = let z : k + 0 ≡ k = omega arith in rw z (sym (take-append-drop k l))
  laid_between (b ∷ bs) k l h =
      let n : k + suc (length bs) ≡ suc k + length bs = omega arith in
      laid_between bs (suc k) (set l k b) (omega (arith, length-set l k b))
      ∙ rw (n, take-suc-set l k b (omega arith), drop-set-lt (suc k + length bs) l k b (omega arith)) (append_assoc (take k l) (b ∷ []) (bs ++ drop (suc k + length bs) l))

  pub copied_first : (source : List A) (count : ℕ) (l new : List A) → count ≤ length source → count ≤ length l → new ≡ take count source → new ++ drop count l ≡ laid set 0 (take count source) l
  copied_first source count l new long room e =
      let n : length (take count source) ≡ count = length-take-le count source long in
      let z : 0 + length (take count source) ≡ count = omega (arith, n) in
      rw e (sym (laid_between (take count source) 0 l (omega (arith, n)) ∙ rw z))
