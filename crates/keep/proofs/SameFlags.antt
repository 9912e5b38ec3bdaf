-- SPDX-FileCopyrightText: 2026 The PPVM Authors
-- SPDX-License-Identifier: Apache-2.0

-- Two lists of flags, each 0 or 1, that flag as many: they are the same, unless each flags a position that the other does not. Assumes nothing.
use mathlib.Core.Path.{◌≡◌, refl, ap₂}
use mathlib.Core.Bool.{Bool, true, false, cond}
use mathlib.Core.List.{List, [], ◌∷◌, map}
use Prim.Native.Nat.{ℕ, zero, suc, ◌+◌, ◌≤◌, ◌<◌}
use native.Mathlib.Omega.{arith}
use lib.Dec.{eqb, ltb}
use lib.ListN.{length, get_or, set, get_or-map}
use Rattle.keep.specs.Retained.{flagged}
use Rattle.keep.specs.Chosen.{flag_of, walked, chosen}
use Rattle.keep.proofs.FlagLaws.{Kept, flag_small}

-- each is 0 or 1
abbrev pub Bits : List ℕ → Type 0
Bits l = (i : ℕ) → get_or l i 0 ≤ 1

-- how many positions the first flags and the second does not
unfoldable apart : List ℕ → List ℕ → ℕ
apart [] g = 0
apart (a ∷ f) [] = 0
apart (a ∷ f) (b ∷ g) = cond (ltb b a) 1 0 + apart f g

count_apart : (f g : List ℕ) → length f ≡ length g → Bits f → Bits g → flagged f + apart g f ≡ flagged g + apart f g
unfolding flagged apart
count_apart [] [] e b c = refl
count_apart [] (y ∷ g) e b c = absurd (omega arith)
count_apart (x ∷ f) [] e b c = absurd (omega arith)
count_apart (x ∷ f) (y ∷ g) e b c = go x y (b 0) (c 0) (count_apart f g (omega arith) (λ i. b (suc i)) (λ i. c (suc i)))
  where
    go : (x y : ℕ) → x ≤ 1 → y ≤ 1 → flagged f + apart g f ≡ flagged g + apart f g
        → cond (eqb x 0) (flagged f) (suc (flagged f)) + (cond (ltb x y) 1 0 + apart g f) ≡ cond (eqb y 0) (flagged g) (suc (flagged g)) + (cond (ltb y x) 1 0 + apart f g)
    go zero zero h k i = omega arith
    go zero (suc zero) h k i = omega arith
    go (suc zero) zero h k i = omega arith
    go (suc zero) (suc zero) h k i = omega arith
    go (suc (suc x)) y h k i = absurd (omega arith)
    go zero (suc (suc y)) h k i = absurd (omega arith)
    go (suc zero) (suc (suc y)) h k i = absurd (omega arith)

apart_none : (f g : List ℕ) → length f ≡ length g → Bits f → Bits g → apart f g ≡ 0 → apart g f ≡ 0 → f ≡ g
unfolding apart
apart_none [] [] e b c s t = refl
apart_none [] (y ∷ g) e b c s t = absurd (omega arith)
apart_none (x ∷ f) [] e b c s t = absurd (omega arith)
apart_none (x ∷ f) (y ∷ g) e b c s t =
    ap₂ (λ (z : ℕ) (l : List ℕ). z ∷ l) (go x y (b 0) (c 0) (omega arith) (omega arith)) (apart_none f g (omega arith) (λ i. b (suc i)) (λ i. c (suc i)) (omega arith) (omega arith))
  where
    go : (x y : ℕ) → x ≤ 1 → y ≤ 1 → ◌≡◌ {A = ℕ} (cond (ltb y x) 1 0) 0 → ◌≡◌ {A = ℕ} (cond (ltb x y) 1 0) 0 → x ≡ y
    go zero zero h k s t = refl
    go zero (suc zero) h k s t = absurd (omega arith)
    go (suc zero) zero h k s t = absurd (omega arith)
    go (suc zero) (suc zero) h k s t = refl
    go (suc (suc x)) y h k s t = absurd (omega arith)
    go zero (suc (suc y)) h k s t = absurd (omega arith)
    go (suc zero) (suc (suc y)) h k s t = absurd (omega arith)

-- a position that the first flags and the second does not
record Differs (f g : List ℕ) : Type 0 where
  at : ℕ
  inside : at < length f
  first : Kept f at
  second : get_or g at 0 ≡ 0

apart_some : (f g : List ℕ) → Bits f → Bits g → 0 < apart f g → Differs f g
unfolding apart
apart_some [] g b c h = absurd (omega arith)
apart_some (x ∷ f) [] b c h = absurd (omega arith)
apart_some (x ∷ f) (y ∷ g) b c h = go x y (b 0) (c 0) h (λ k. apart_some f g (λ i. b (suc i)) (λ i. c (suc i)) k)
  where
    further : (x y : ℕ) → Differs f g → Differs (x ∷ f) (y ∷ g)
    further x y d = record { at = suc d.at; inside = omega (arith, d.inside); first = d.first; second = d.second }

    go : (x y : ℕ) → x ≤ 1 → y ≤ 1 → 0 < cond (ltb y x) 1 0 + apart f g → (0 < apart f g → Differs f g) → Differs (x ∷ f) (y ∷ g)
    go zero zero s t k i = further 0 0 (i (omega arith))
    go zero (suc zero) s t k i = further 0 1 (i (omega arith))
    go (suc zero) zero s t k i = record { at = 0; inside = omega arith; first = λ z. omega arith; second = refl }
    go (suc zero) (suc zero) s t k i = further 1 1 (i (omega arith))
    go (suc (suc x)) y s t k i = absurd (omega arith)
    go zero (suc (suc y)) s t k i = absurd (omega arith)
    go (suc zero) (suc (suc y)) s t k i = absurd (omega arith)

pub same_flags : (f g : List ℕ) → length f ≡ length g → Bits f → Bits g → flagged f ≡ flagged g
    → ((p q : ℕ) → p < length f → q < length g → Kept f p → get_or g p 0 ≡ 0 → Kept g q → get_or f q 0 ≡ 0 → ⊥) → f ≡ g
same_flags f g e b c n never = go (apart f g) refl (apart g f) refl
  where
    go : (s : ℕ) → apart f g ≡ s → (t : ℕ) → apart g f ≡ t → f ≡ g
    go zero u zero v = apart_none f g e b c u v
    go zero u (suc t) v = absurd (omega (arith, count_apart f g e b c))
    go (suc s) u zero v = absurd (omega (arith, count_apart f g e b c))
    go (suc s) u (suc t) v =
        let p = apart_some f g b c (omega arith) in
        let q = apart_some g f c b (omega arith) in
        absurd (never p.at q.at p.inside q.inside p.first p.second q.first q.second)

-- ---- what a walk leaves is 0 or 1
set_bits : (l : List ℕ) (q : ℕ) → Bits l → Bits (set l q 1)
set_bits [] q b i = b i
set_bits (x ∷ l) zero b zero = omega arith
set_bits (x ∷ l) zero b (suc i) = b (suc i)
set_bits (x ∷ l) (suc q) b zero = b 0
set_bits (x ∷ l) (suc q) b (suc i) = set_bits l q (λ j. b (suc j)) i

walked_bits : (fixed order : List ℕ) (s : ℕ) (flags : List ℕ) → Bits flags → Bits (walked fixed order s flags)
unfolding walked
walked_bits fixed [] s flags b = b
walked_bits fixed (q ∷ order) zero flags b = b
walked_bits fixed (q ∷ order) (suc s) flags b =
    go (eqb (get_or fixed q 0) 0) (walked_bits fixed order s (set flags q 1) (set_bits flags q b)) (walked_bits fixed order (suc s) flags b)
  where
    go : (t : Bool) → Bits (walked fixed order s (set flags q 1)) → Bits (walked fixed order (suc s) flags) → Bits (cond t (walked fixed order s (set flags q 1)) (walked fixed order (suc s) flags))
    go true x y = x
    go false x y = y

pub chosen_bits : (order fixed : List ℕ) (slots : ℕ) → Bits (chosen order fixed slots)
chosen_bits order fixed slots = walked_bits fixed order slots (map flag_of fixed) (λ i. rw (get_or-map flag_of fixed i 0) (flag_small (get_or fixed i 0)))
