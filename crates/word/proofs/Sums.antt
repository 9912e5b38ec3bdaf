-- SPDX-FileCopyrightText: 2026 The PPVM Authors
-- SPDX-License-Identifier: Apache-2.0

-- Laws of sums, tests and lists over the numbers below n. Assumes nothing.
use mathlib.Core.Path.{◌≡◌, refl, sym, ap, ap₂, ◌∙◌}
use mathlib.Core.Bool.{Bool, true, false, ◌||◌, or_assoc, or-false, or-true}
use mathlib.Core.List.{List, [], ◌∷◌}
use Prim.Native.Nat.{ℕ, zero, suc, ◌+◌, ◌*◌, ◌<◌, ◌%◌}
use native.Mathlib.Nat.{add-zero, add-suc, mul-suc, mul-zero}
use native.Mathlib.Omega.{arith}
use native.Mathlib.Decide.{ℕ_discrete}
use lib.ListN.{length, get_or, replicate}
use Rattle.word.specs.Count.{sum_to, any_to, tabulate}

-- ---- sums
pub sum_cong : (n : ℕ) (f g : ℕ → ℕ) → ((k : ℕ) → k < n → f k ≡ g k) → sum_to n f ≡ sum_to n g
unfolding sum_to
sum_cong zero f g h = refl
sum_cong (suc n) f g h = ap₂ ◌+◌ (sum_cong n f g (λ k l. h k (omega arith))) (h n (omega arith))

pub sum_add : (n : ℕ) (f g : ℕ → ℕ) → sum_to n (λ k. f k + g k) ≡ sum_to n f + sum_to n g
unfolding sum_to
sum_add zero f g = refl
sum_add (suc n) f g = omega (arith, sum_add n f g)

pub sum_mul : (n c : ℕ) (f : ℕ → ℕ) → sum_to n (λ k. c * f k) ≡ c * sum_to n f
unfolding sum_to
sum_mul zero c f = omega arith
sum_mul (suc n) c f = omega (arith, sum_mul n c f)

-- equal modulo 4 at each place
pub sum_mod : (n : ℕ) (f g : ℕ → ℕ) → ((k : ℕ) → f k % 4 ≡ g k % 4) → sum_to n f % 4 ≡ sum_to n g % 4
unfolding sum_to
sum_mod zero f g h = refl
sum_mod (suc n) f g h = let e = sum_mod n f g h in let d = h n in omega arith

pub sum_none : (n : ℕ) (f : ℕ → ℕ) → ((k : ℕ) → k < n → f k ≡ 0) → sum_to n f ≡ 0
unfolding sum_to
sum_none zero f h = refl
sum_none (suc n) f h = let e = sum_none n f (λ k l. h k (omega arith)) in let d = h n (omega arith) in omega arith

sum_cat : (n m : ℕ) (f : ℕ → ℕ) → sum_to (n + m) f ≡ sum_to n f + sum_to m (λ k. f (n + k))
unfolding sum_to
sum_cat n zero f = rw (add-zero n, add-zero (sum_to n f))
sum_cat n (suc m) f = rw (add-suc) (omega (arith, sum_cat n m f))

pub sum_first : (n : ℕ) (f : ℕ → ℕ) → sum_to (suc n) f ≡ f 0 + sum_to n (λ k. f (suc k))
unfolding sum_to
sum_first zero f = omega arith
sum_first (suc n) f = omega (arith, sum_first n f)

-- n runs of w
pub sum_runs : (w n : ℕ) (f : ℕ → ℕ) → sum_to (w * n) f ≡ sum_to n (λ i. sum_to w (λ k. f (w * i + k)))
unfolding sum_to
sum_runs w zero f = rw mul-zero
sum_runs w (suc n) f = rw mul-suc (sum_cat (w * n) w f ∙ ap (λ (s : ℕ). s + sum_to w (λ k. f (w * n + k))) (sum_runs w n f))

-- ---- tests
pub or_left : (a b : Bool) → (a || b) ≡ false → a ≡ false
or_left true b h = h
or_left false b h = refl

pub or_right : (a b : Bool) → (a || b) ≡ false → b ≡ false
or_right true b h = cc
or_right false b h = h

pub any_cong : (n : ℕ) (f g : ℕ → Bool) → ((k : ℕ) → k < n → f k ≡ g k) → any_to n f ≡ any_to n g
unfolding any_to
any_cong zero f g h = refl
any_cong (suc n) f g h = ap₂ ◌||◌ (any_cong n f g (λ k l. h k (omega arith))) (h n (omega arith))

pub any_none : (n : ℕ) (f : ℕ → Bool) → ((k : ℕ) → k < n → f k ≡ false) → any_to n f ≡ false
unfolding any_to
any_none zero f h = refl
any_none (suc n) f h = ap₂ ◌||◌ (any_none n f (λ k l. h k (omega arith))) (h n (omega arith))

any_cat : (n m : ℕ) (f : ℕ → Bool) → any_to (n + m) f ≡ (any_to n f || any_to m (λ k. f (n + k)))
unfolding any_to
any_cat n zero f = rw add-zero (sym (or-false (any_to n f)))
any_cat n (suc m) f = rw add-suc (ap (λ (b : Bool). b || f (n + m)) (any_cat n m f) ∙ or_assoc (any_to n f) (any_to m (λ k. f (n + k))) (f (n + m)))

pub any_first : (n : ℕ) (f : ℕ → Bool) → any_to (suc n) f ≡ (f 0 || any_to n (λ k. f (suc k)))
unfolding any_to
any_first zero f = sym (or-false (f 0))
any_first (suc n) f = ap (λ (b : Bool). b || f (suc n)) (any_first n f) ∙ or_assoc (f 0) (any_to n (λ k. f (suc k))) (f (suc n))

pub any_runs : (w n : ℕ) (f : ℕ → Bool) → any_to (w * n) f ≡ any_to n (λ i. any_to w (λ k. f (w * i + k)))
unfolding any_to
any_runs w zero f = rw mul-zero
any_runs w (suc n) f = rw mul-suc (any_cat (w * n) w f ∙ ap (λ (b : Bool). b || any_to w (λ k. f (w * n + k))) (any_runs w n f))

-- where one holds
pub any_there : (n : ℕ) (f : ℕ → Bool) (k : ℕ) → k < n → f k ≡ true → any_to n f ≡ true
unfolding any_to
any_there zero f k l h = absurd (omega arith)
any_there (suc n) f k l h = go (ℕ_discrete k n) (any_there n f k)
  where
    go : Dec (k ≡ n) → (k < n → f k ≡ true → any_to n f ≡ true) → (any_to n f || f n) ≡ true
    go (yes e) r = ap (λ (b : Bool). any_to n f || b) (sym (ap f e) ∙ h) ∙ or-true (any_to n f)
    go (no m) r = ap (λ (b : Bool). b || f n) (r (omega arith) h)

-- where none holds
pub any_false : (n : ℕ) (f : ℕ → Bool) → any_to n f ≡ false → (k : ℕ) → k < n → f k ≡ false
unfolding any_to
any_false zero f h k l = absurd (omega arith)
any_false (suc n) f h k l = go (any_false n f (or_left (any_to n f) (f n) h) k) (ℕ_discrete k n)
  where
    go : (k < n → f k ≡ false) → Dec (k ≡ n) → f k ≡ false
    go r (yes e) = ap f e ∙ or_right (any_to n f) (f n) h
    go r (no m) = r (omega arith)

-- ---- lists
module _ {A : Type 0} where
  pub length_tabulate : (n : ℕ) (f : ℕ → A) → length (tabulate n f) ≡ n
  unfolding tabulate
  length_tabulate zero f = refl
  length_tabulate (suc n) f = ap suc (length_tabulate n (λ k. f (suc k)))

  pub get_d_tabulate : (d : A) (n : ℕ) (f : ℕ → A) (i : ℕ) → i < n → get_or (tabulate n f) i d ≡ f i
  unfolding tabulate
  get_d_tabulate d zero f i h = absurd (omega arith)
  get_d_tabulate d (suc n) f zero h = refl
  get_d_tabulate d (suc n) f (suc i) h = get_d_tabulate d n (λ k. f (suc k)) i (omega arith)

  pub tabulate_cong : (n : ℕ) (f g : ℕ → A) → ((k : ℕ) → k < n → f k ≡ g k) → tabulate n f ≡ tabulate n g
  unfolding tabulate
  tabulate_cong zero f g h = refl
  tabulate_cong (suc n) f g h = ap₂ ◌∷◌ (h 0 (omega arith)) (tabulate_cong n (λ k. f (suc k)) (λ k. g (suc k)) (λ k l. h (suc k) (omega arith)))

  -- a list of n elements is its elements in turn
  pub tabulate_is : (d : A) (n : ℕ) (f : ℕ → A) (l : List A) → length l ≡ n → ((k : ℕ) → k < n → f k ≡ get_or l k d) → tabulate n f ≡ l
  unfolding tabulate
  tabulate_is d zero f [] e h = refl
  tabulate_is d zero f (a ∷ l) e h = absurd (omega arith)
  tabulate_is d (suc n) f [] e h = absurd (omega arith)
  tabulate_is d (suc n) f (a ∷ l) e h = ap₂ ◌∷◌ (h 0 (omega arith)) (tabulate_is d n (λ k. f (suc k)) l (omega arith) (λ k m. h (suc k) (omega arith)))

-- what every element satisfies, and 0 past them
pub tabulate_lt : (b n : ℕ) (f : ℕ → ℕ) → 0 < b → ((k : ℕ) → f k < b) → (i : ℕ) → get_or (tabulate n f) i 0 < b
unfolding tabulate
tabulate_lt b zero f z h i = z
tabulate_lt b (suc n) f z h zero = h 0
tabulate_lt b (suc n) f z h (suc i) = tabulate_lt b n (λ k. f (suc k)) z (λ k. h (suc k)) i

pub zeros_at : (n i : ℕ) → ◌≡◌ {A = ℕ} (get_or (replicate n 0) i 0) 0
zeros_at zero i = refl
zeros_at (suc n) zero = refl
zeros_at (suc n) (suc i) = zeros_at n i
