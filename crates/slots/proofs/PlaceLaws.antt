-- SPDX-FileCopyrightText: 2026 The PPVM Authors
-- SPDX-License-Identifier: Apache-2.0

-- The last place of a word among the first of a list: what stands there, and that there is one exactly if these hold the word.
-- Assumes nothing.
use mathlib.Core.Path.{◌≡◌, refl, ap, ap₂, sym, ◌∙◌}
use mathlib.Core.Bool.{Bool, true, false, not, cond}
use mathlib.Core.List.{List}
use Prim.Native.Nat.{ℕ, zero, suc, ◌≤◌, ◌<◌}
use native.Mathlib.Omega.{arith}
use native.Mathlib.Decide.{ℕ_discrete}
use lib.Dec.{eqb}
use lib.ListN.{length, get_or, take}
use lib.Seq.{get_or-take, length-take-le}
use Rattle.word.specs.Order.{same}
use Rattle.word.specs.Word.{identity}
use Rattle.word.specs.declared.word.Word.{Word}
use Rattle.word.proofs.OrderLaws.{same_eq, same_self}
use Rattle.order.specs.Places.{is_among}
use Rattle.slots.specs.Slots.{last_of}
use Rattle.slots.proofs.SlotLaws.{holds}

module _ (w : Word) (ws : List Word) where
  pub last_inside : (b : ℕ) → last_of w ws b ≤ b
  unfolding last_of
  last_inside zero = omega arith
  last_inside (suc b) = go (same (get_or ws b identity) w) (last_inside b)
    where
      go : (c : Bool) → last_of w ws b ≤ b → cond c (suc b) (last_of w ws b) ≤ suc b
      go true h = omega arith
      go false h = omega arith

  -- the word stands there
  pub last_word : (b r : ℕ) → last_of w ws b ≡ suc r → get_or ws r identity ≡ w
  unfolding last_of
  last_word zero r e = absurd (omega arith)
  last_word (suc b) r e = go (same (get_or ws b identity) w) refl e (last_word b r)
    where
      go : (c : Bool) → same (get_or ws b identity) w ≡ c → cond c (suc b) (last_of w ws b) ≡ suc r → (last_of w ws b ≡ suc r → get_or ws r identity ≡ w) → get_or ws r identity ≡ w
      go true s f i = let k : r ≡ b = omega (arith, f) in ap (λ (i : ℕ). get_or ws i identity) k ∙ same_eq (get_or ws b identity) w s
      go false s f i = i f

  -- and at no later place
  pub last_after : (b r : ℕ) → r < b → get_or ws r identity ≡ w → suc r ≤ last_of w ws b
  unfolding last_of
  last_after zero r h e = absurd (omega arith)
  last_after (suc b) r h e = go (same (get_or ws b identity) w) refl (ℕ_discrete r b) (λ k. last_after b r k e)
    where
      go : (c : Bool) → same (get_or ws b identity) w ≡ c → Dec (r ≡ b) → (r < b → suc r ≤ last_of w ws b) → suc r ≤ cond c (suc b) (last_of w ws b)
      go true s d i = omega arith
      go false s (yes q) i =
          let z : true ≡ false = sym (same_self w) ∙ ap (λ (v : Word). same v w) (sym e ∙ ap (λ (i : ℕ). get_or ws i identity) q) ∙ s in
          absurd (let f : ◌≡◌ {A = ℕ} 0 1 = cc in omega arith)
      go false s (no q) i = i (omega arith)

  last_first : (n b : ℕ) → b ≤ n → last_of w ws b ≡ last_of w (take n ws) b
  unfolding last_of
  last_first n zero h = refl
  last_first n (suc b) h =
      ap₂ (λ (v : Word) (k : ℕ). cond (same v w) (suc b) k) (sym (get_or-take n ws b identity (omega arith))) (last_first n b (omega arith))

  pub last_among : (b : ℕ) → b ≤ length ws → not (eqb (last_of w ws b) 0) ≡ is_among w (take b ws)
  last_among b h =
      ap (λ (k : ℕ). not (eqb k 0)) (last_first b b (omega arith) ∙ ap (last_of w (take b ws)) (sym (length-take-le b ws h)))
      ∙ holds w (take b ws)
