-- SPDX-FileCopyrightText: 2026 The PPVM Authors
-- SPDX-License-Identifier: Apache-2.0

-- The positions whose flag is 0, laid down one turn at a time; all are below the number of flags. Assumes nothing.
use mathlib.Core.Path.{◌≡◌, refl, ap, ◌∙◌}
use mathlib.Core.Bool.{Bool, true, false, cond}
use mathlib.Core.List.{List, [], ◌∷◌, ◌++◌, append-nil}
use Prim.Native.Nat.{ℕ, zero, suc, ◌+◌, ◌<◌}
use native.Mathlib.Omega.{arith}
use native.Mathlib.Numerals.{add-one}
use lib.Dec.{eqb}
use mir.Val.{bool_byte}
use lib.ListN.{length, get_or, set, take}
use lib.Seq.{take-set-le, take-suc-set}
use Rattle.order.specs.Between.{All, AllBelow}
use Rattle.keep.specs.Between.{unflagged_to, unflagged}
use Rattle.order.proofs.Members.{all_append, all_more}

pub laid_start : (ks out : List ℕ) → take 0 out ≡ unflagged_to ks 0
unfolding unflagged_to
laid_start ks out = refl

-- i is laid down where the next position goes, and counts if its flag is 0
pub laid_next : (ks out : List ℕ) (held i k : ℕ) → held < length out → take held out ≡ unflagged_to ks i → k ≡ bool_byte (eqb (get_or ks i 0) 0) → take (held + k) (set out held i) ≡ unflagged_to ks (i + 1)
unfolding unflagged_to
laid_next ks out held i k h e f = rw add-one (go (eqb (get_or ks i 0) 0) f)
  where
    go : (b : Bool) → k ≡ bool_byte b → take (held + k) (set out held i) ≡ unflagged_to ks i ++ cond b (i ∷ []) []
    go true z =
        let o : held + k ≡ suc held = omega arith in
        rw o (take-suc-set out held i h ∙ ap (λ (t : List ℕ). t ++ (i ∷ [])) e)
    go false z =
        let o : held + k ≡ held = omega arith in
        rw (o, append-nil) (take-set-le held out held i (omega arith) ∙ e)

below_to : (ks : List ℕ) (n : ℕ) → AllBelow n (unflagged_to ks n)
unfolding unflagged_to All
below_to ks zero = tt
below_to ks (suc n) =
    all_append (λ x. x < suc n) (unflagged_to ks n) (cond (eqb (get_or ks n 0) 0) (n ∷ []) []) (all_more (λ x. x < n) (λ x. x < suc n) (λ x h. omega arith) (unflagged_to ks n) (below_to ks n)) (go (eqb (get_or ks n 0) 0))
  where
    go : (b : Bool) → AllBelow (suc n) (cond b (n ∷ []) [])
    go true = (omega arith, tt)
    go false = tt

pub unflagged_below : (ks : List ℕ) → AllBelow (length ks) (unflagged ks)
unflagged_below ks = below_to ks (length ks)
