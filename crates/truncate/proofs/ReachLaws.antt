-- SPDX-FileCopyrightText: 2026 The PPVM Authors
-- SPDX-License-Identifier: Apache-2.0

-- A word with a bit that no word of a list has is none of them. Assumes nothing.
use mathlib.Core.Path.{◌≡◌, refl, ap, sym, ◌∙◌}
use mathlib.Core.Bool.{Bool, true, false, ◌||◌}
use mathlib.Core.List.{List, [], ◌∷◌}
use Prim.Native.Nat.{ℕ, suc, ◌+◌, ◌<◌}
use native.Mathlib.Omega.{arith}
use native.Mathlib.Decide.{ℕ_discrete}
use lib.ListN.{length, get_or}
use Rattle.word.specs.Between.{join, covers}
use Rattle.word.specs.Order.{same}
use Rattle.word.specs.Word.{identity}
use Rattle.word.specs.declared.word.Word.{Word}
use Rattle.word.proofs.CoverLaws.{covers_joined, covers_still}
use Rattle.word.proofs.OrderLaws.{same_eq}
use Rattle.order.specs.Places.{is_among}

-- ---- one word more
pub reach_next : (ws : List Word) (u w r : Word) (k : ℕ) → w ≡ get_or ws k identity → r ≡ join u w → ((j : ℕ) → j < k → covers u (get_or ws j identity) ≡ true)
    → (j : ℕ) → j < k + 1 → covers r (get_or ws j identity) ≡ true
reach_next ws u w r k e f h j l = go (ℕ_discrete j k)
  where
    go : Dec (j ≡ k) → covers r (get_or ws j identity) ≡ true
    go (yes p) = ap (λ (t : Word). covers t (get_or ws j identity)) f ∙ ap (covers (join u w)) (ap (λ (i : ℕ). get_or ws i identity) p ∙ sym e) ∙ covers_joined u w
    go (no p) = ap (λ (t : Word). covers t (get_or ws j identity)) f ∙ covers_still u (get_or ws j identity) w (h j (omega arith))

-- ---- what is not reached
pub none_reached : (u w : Word) (ws : List Word) → ((k : ℕ) → k < length ws → covers u (get_or ws k identity) ≡ true) → covers u w ≡ false → is_among w ws ≡ false
unfolding is_among
none_reached u w [] h n = refl
none_reached u w (v ∷ ws) h n = go (same v w) refl (none_reached u w ws (λ k l. h (suc k) (omega arith)) n)
  where
    go : (b : Bool) → same v w ≡ b → is_among w ws ≡ false → (b || is_among w ws) ≡ false
    go true e r = sym (h 0 (omega arith)) ∙ ap (covers u) (same_eq v w e) ∙ n
    go false e r = r
