-- SPDX-FileCopyrightText: 2026 The PPVM Authors
-- SPDX-License-Identifier: Apache-2.0

-- The first number below n that passes a test: none before it does, and it does where it is below n. Assumes nothing.
use mathlib.Core.Path.{◌≡◌, refl, sym, ap, ap₂, ◌∙◌}
use mathlib.Core.Bool.{Bool, true, false, ◌||◌, cond}
use Prim.Native.Nat.{ℕ, zero, suc, ◌+◌, ◌≤◌, ◌<◌, min}
use native.Mathlib.Nat.{min-eq_left, min-eq_right}
use native.Mathlib.Omega.{arith}
use native.Mathlib.Decide.{ℕ_discrete, dec_lt}
use Rattle.lent.specs.Tests.{first_to}

-- none of the first i passes
abbrev pub NoneBefore : (ℕ → Bool) → ℕ → Type 0
NoneBefore f i = (k : ℕ) → k < i → f k ≡ false

pub none_start : (f : ℕ → Bool) → NoneBefore f 0
none_start f k l = absurd (omega arith)

pub none_more : (f : ℕ → Bool) (i : ℕ) → NoneBefore f i → f i ≡ false → NoneBefore f (i + 1)
none_more f i h e k l = go (ℕ_discrete k i)
  where
    go : Dec (k ≡ i) → f k ≡ false
    go (yes m) = ap f m ∙ e
    go (no m) = h k (omega arith)

-- where none passes, and where i is the first that does
pub first_none : (n : ℕ) (f : ℕ → Bool) → NoneBefore f n → first_to n f ≡ n
unfolding first_to
first_none zero f h = refl
first_none (suc n) f h = rw (h 0 (omega arith)) (ap suc (first_none n (λ k. f (suc k)) (λ k l. h (suc k) (omega arith))))

pub first_here : (n : ℕ) (f : ℕ → Bool) (i : ℕ) → i < n → NoneBefore f i → f i ≡ true → first_to n f ≡ i
unfolding first_to
first_here zero f i l h e = absurd (omega arith)
first_here (suc n) f zero l h e = rw e
first_here (suc n) f (suc i) l h e = rw (h 0 (omega arith)) (ap suc (first_here n (λ k. f (suc k)) i (omega arith) (λ k m. h (suc k) (omega arith)) e))

-- a search that stops at i, or has passed all
pub stops_here : (n : ℕ) (f : ℕ → Bool) (i : ℕ) {r : Bool} → i < n → NoneBefore f i → r ≡ f i → r ≡ true → i ≡ first_to n f
stops_here n f i l h e t = sym (first_here n f i l h (sym e ∙ t))

pub goes_on : (f : ℕ → Bool) (i : ℕ) {r : Bool} → NoneBefore f i → r ≡ f i → r ≡ false → NoneBefore f (i + 1)
goes_on f i h e t = none_more f i h (sym e ∙ t)

pub stops_last : (n : ℕ) (f : ℕ → Bool) (i : ℕ) → n ≤ i → NoneBefore f i → n ≡ first_to n f
stops_last n f i l h = sym (first_none n f (λ k m. h k (omega arith)))

pub first_inside : (n : ℕ) (f : ℕ → Bool) → first_to n f ≤ n
unfolding first_to
first_inside zero f = omega arith
first_inside (suc n) f = go (f 0) (first_inside n (λ k. f (suc k)))
  where
    go : (b : Bool) → first_to n (λ k. f (suc k)) ≤ n → cond b 0 (suc (first_to n (λ k. f (suc k)))) ≤ suc n
    go true h = omega arith
    go false h = omega arith

-- none before the first passes
pub first_before : (n : ℕ) (f : ℕ → Bool) → NoneBefore f (first_to n f)
unfolding first_to
first_before zero f k l = absurd (omega arith)
first_before (suc n) f k l = go (f 0) refl (first_before n (λ k. f (suc k))) k l
  where
    go : (b : Bool) → f 0 ≡ b → NoneBefore (λ k. f (suc k)) (first_to n (λ k. f (suc k)))
        → (k : ℕ) → k < cond b 0 (suc (first_to n (λ k. f (suc k)))) → f k ≡ false
    go true e h k l = absurd (omega arith)
    go false e h zero l = e
    go false e h (suc k) l = h k (omega arith)

-- the first passes where it is below n
pub first_passes : (n : ℕ) (f : ℕ → Bool) → first_to n f < n → f (first_to n f) ≡ true
unfolding first_to
first_passes zero f l = absurd (omega arith)
first_passes (suc n) f l = go (f 0) refl (first_passes n (λ k. f (suc k))) l
  where
    go : (b : Bool) → f 0 ≡ b → (first_to n (λ k. f (suc k)) < n → f (suc (first_to n (λ k. f (suc k)))) ≡ true)
        → cond b 0 (suc (first_to n (λ k. f (suc k)))) < suc n → f (cond b 0 (suc (first_to n (λ k. f (suc k))))) ≡ true
    go true e h l = e
    go false e h l = h (omega arith)

-- equal tests have the same first
pub first_cong : (n : ℕ) (f g : ℕ → Bool) → ((k : ℕ) → k < n → f k ≡ g k) → first_to n f ≡ first_to n g
unfolding first_to
first_cong zero f g h = refl
first_cong (suc n) f g h =
    ap₂ (λ (b : Bool) (m : ℕ). cond b 0 (suc m)) (h 0 (omega arith)) (first_cong n (λ k. f (suc k)) (λ k. g (suc k)) (λ k l. h (suc k) (omega arith)))

-- the first that passes one of two tests is the smaller of the two firsts
pub first_either : (n : ℕ) (f g : ℕ → Bool) → first_to n (λ k. f k || g k) ≡ min (first_to n f) (first_to n g)
first_either n f g = go (dec_lt (first_to n f) (first_to n g)) (dec_lt (first_to n g) n)
  where
    neither : (i : ℕ) → i ≤ first_to n f → i ≤ first_to n g → NoneBefore (λ k. f k || g k) i
    neither i p q k l = ap₂ ◌||◌ (first_before n f k (omega arith)) (first_before n g k (omega arith))

    go : Dec (first_to n f < first_to n g) → Dec (first_to n g < n) → first_to n (λ k. f k || g k) ≡ min (first_to n f) (first_to n g)
    go (yes l) d =
        let i = first_inside n g in
        let m : first_to n f ≤ first_to n g = omega arith in
        rw (min-eq_left m)
        (first_here n (λ k. f k || g k) (first_to n f) (omega arith) (neither (first_to n f) (omega arith) m)
        (ap (λ (b : Bool). b || g (first_to n f)) (first_passes n f (omega arith))))
    go (no l) (yes d) =
        let m : first_to n g ≤ first_to n f = omega arith in
        rw (min-eq_right m)
        (first_here n (λ k. f k || g k) (first_to n g) d (neither (first_to n g) m (omega arith)) (either_right (f (first_to n g)) (first_passes n g d)))
      where
        either_right : (b : Bool) {c : Bool} → c ≡ true → (b || c) ≡ true
        either_right true e = refl
        either_right false e = e
    go (no l) (no d) =
        let m : first_to n g ≤ first_to n f = omega arith in
        let i = first_inside n f in
        let e : first_to n g ≡ n = omega arith in
        rw (min-eq_right m)
        (first_none n (λ k. f k || g k) (λ k l. neither (first_to n g) m (omega arith) k (omega arith)) ∙ sym e)
