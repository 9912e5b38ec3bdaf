-- SPDX-FileCopyrightText: 2026 The PPVM Authors
-- SPDX-License-Identifier: Apache-2.0

-- Tables that are zero; a word that comes again, found by comparing with all before it and by slots. Assumes nothing.
use mathlib.Core.Path.{◌≡◌, refl, sym, ap, ap₂, ◌∙◌}
use mathlib.Core.Bool.{Bool, true, false, not, ◌&&◌, ◌||◌}
use mathlib.Core.List.{List, [], ◌∷◌}
use Prim.Native.Nat.{ℕ, suc, ◌+◌, ◌≤◌, ◌<◌}
use native.Mathlib.Numerals.{add-one}
use native.Mathlib.Omega.{arith}
use borrow.Author.Tests.{eqb-true}
use lib.Dec.{eqb}
use lib.ListN.{length, get_or, take, drop, replicate, drop_of_length-le}
use lib.Seq.{drop-cons, get_or-take, length-take-le}
use Rattle.word.specs.Order.{same}
use Rattle.word.specs.Word.{identity}
use Rattle.word.specs.declared.word.Word.{Word}
use Rattle.order.specs.Places.{is_among}
use Rattle.slots.specs.Slots.{last_of}
use Rattle.slots.proofs.PlaceLaws.{last_among}
use Rattle.lent.specs.Tests.{first_to}
use Rattle.columns.specs.Repeats.{repeats_at, first_repeat}
use Rattle.columns.specs.Between.{all_zero, LaysDistinct}
use Rattle.slots.specs.Between.{Slotted}

-- ---- tables that are zero
pub zero_all : (l : List ℕ) → all_zero l ≡ true → l ≡ replicate (length l) 0
unfolding all_zero
zero_all [] e = refl
zero_all (x ∷ l) e = go (eqb x 0) refl e (zero_all l)
  where
    go : (b : Bool) → eqb x 0 ≡ b → (b && all_zero l) ≡ true → (all_zero l ≡ true → l ≡ replicate (length l) 0) → x ∷ l ≡ 0 ∷ replicate (length l) 0
    go true f g i = ap₂ (λ (y : ℕ) (m : List ℕ). y ∷ m) (eqb-true x 0 f) (i g)
    go false f g i = absurd (let z : ◌≡◌ {A = ℕ} 0 1 = cc in omega arith)

pub both_first : (a b : Bool) → (a && b) ≡ true → a ≡ true
both_first true b e = refl
both_first false b e = e

pub both_second : (a b : Bool) → (a && b) ≡ true → b ≡ true
both_second true b e = e
both_second false b e = absurd (let z : ◌≡◌ {A = ℕ} 0 1 = cc in omega arith)

-- ---- comparing with all before
-- what is left to compare from place i on
pub record Comparing (w : Word) (ws : List Word) (k i : ℕ) : Type 0 where
  pub left : is_among w (drop i (take k ws)) ≡ is_among w (take k ws)

module _ (w : Word) (ws : List Word) (k : ℕ) where
  module _ (is : w ≡ get_or ws k identity) (inside : k < length ws) (i : ℕ) (s : Comparing w ws k i) where
    module _ (h : i < k) (v : Word) (e : v ≡ get_or ws i identity) where
      by_test : (b : Bool) → same v w ≡ b → is_among w (drop i (take k ws)) ≡ (b || is_among w (drop (i + 1) (take k ws)))
      unfolding is_among
      by_test b t =
          let n = length-take-le k ws (omega arith) in
          rw (add-one i)
          (ap (is_among w) (drop-cons (take k ws) i identity (omega (arith, n)))
          ∙ ap (λ (u : Word). same u w || is_among w (drop (suc i) (take k ws))) (get_or-take k ws i identity h ∙ sym e)
          ∙ ap (λ (c : Bool). c || is_among w (drop (suc i) (take k ws))) t)

      pub compare_found : same v w ≡ true → true ≡ repeats_at ws k
      unfolding repeats_at
      compare_found t = sym (by_test true t) ∙ s.left ∙ ap (λ (u : Word). is_among u (take k ws)) is

      pub compare_on : same v w ≡ false → Comparing w ws k (i + 1)
      compare_on t = record { left = sym (by_test false t) ∙ s.left }

    pub compare_end : k ≤ i → false ≡ repeats_at ws k
    unfolding repeats_at is_among
    compare_end h =
        let n = length-take-le k ws (omega arith) in
        ap (is_among w) (sym (drop_of_length-le (take k ws) {i = i} (omega (arith, n)))) ∙ s.left ∙ ap (λ (u : Word). is_among u (take k ws)) is

-- ---- by slots
pub slots_repeat : (ws : List Word) (k : ℕ) {place : ℕ} → k < length ws → place ≡ last_of (get_or ws k identity) ws k → not (eqb place 0) ≡ repeats_at ws k
unfolding repeats_at
slots_repeat ws k h e = ap (λ (p : ℕ). not (eqb p 0)) e ∙ last_among (get_or ws k identity) ws k (omega arith)

-- ---- the answers
module _ (ws : List Word) (heads nexts heads' nexts' : List ℕ) (r : ℕ) (first : r ≡ first_repeat ws) where
  pub lays_unchanged : r < length ws → heads' ≡ heads → nexts' ≡ nexts → LaysDistinct ws heads nexts heads' nexts' r
  lays_unchanged h eh en = record { first = first; unchanged = λ _. (eh, en); slots = λ l. absurd (omega arith) }

  pub lays_slots : length ws ≤ r → Slotted ws heads' nexts' → LaysDistinct ws heads nexts heads' nexts' r
  lays_slots h s = record { first = first; unchanged = λ l. absurd (omega arith); slots = λ _. s }

pub first_is : (ws : List Word) (n : ℕ) {r : ℕ} → n ≡ length ws → r ≡ first_to n (repeats_at ws) → r ≡ first_repeat ws
unfolding first_repeat
first_is ws n e f = f ∙ ap (λ (k : ℕ). first_to k (repeats_at ws)) e
