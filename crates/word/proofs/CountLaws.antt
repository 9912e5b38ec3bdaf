-- SPDX-FileCopyrightText: 2026 The PPVM Authors
-- SPDX-License-Identifier: Apache-2.0

-- Lists over the numbers below n, and tests that hold at one of them. Assumes nothing.
use mathlib.Core.Path.{◌≡◌, refl, sym, ap, ◌∙◌}
use mathlib.Core.Bool.{Bool, true, false, ◌||◌, true≢false}
use mathlib.Core.List.{List, [], ◌∷◌, ◌++◌, map, map-append}
use Prim.Native.Nat.{ℕ, zero, suc, ◌+◌, ◌<◌}
use native.Mathlib.Omega.{arith}
use lib.ListN.{length, get_or}
use Rattle.word.specs.Count.{any_to, up_to}
use Rattle.word.proofs.Sums.{any_false}

up_last : (k n : ℕ) → up_to k (suc n) ≡ up_to k n ++ ((k + n) ∷ [])
unfolding up_to
up_last k zero = let e : k ≡ k + 0 = omega arith in ap (λ (i : ℕ). i ∷ []) e
up_last k (suc n) =
    let e : suc k + n ≡ k + suc n = omega arith in
    ap (λ (l : List ℕ). k ∷ l) (up_last (suc k) n ∙ ap (λ (i : ℕ). up_to (suc k) n ++ (i ∷ [])) e)

module _ {A : Type 0} (f : ℕ → A) where
  map_length : (k n : ℕ) → length (map f (up_to k n)) ≡ n
  unfolding up_to
  map_length k zero = refl
  map_length k (suc n) = ap suc (map_length (suc k) n)

  map_at : (k n j : ℕ) (d : A) → j < n → get_or (map f (up_to k n)) j d ≡ f (k + j)
  unfolding up_to
  map_at k zero j d h = absurd (omega arith)
  map_at k (suc n) zero d h = let e : k ≡ k + 0 = omega arith in ap f e
  map_at k (suc n) (suc j) d h = let e : suc k + j ≡ k + suc j = omega arith in map_at (suc k) n j d (omega arith) ∙ ap f e

  pub items_length : (n : ℕ) → length (map f (up_to 0 n)) ≡ n
  items_length n = map_length 0 n

  pub items_at : (n j : ℕ) (d : A) → j < n → get_or (map f (up_to 0 n)) j d ≡ f j
  items_at n j d h = let e : 0 + j ≡ j = omega arith in map_at 0 n j d h ∙ ap f e

  pub items_next : (n : ℕ) → map f (up_to 0 (n + 1)) ≡ map f (up_to 0 n) ++ (f n ∷ [])
  items_next n =
      let e : n + 1 ≡ suc n = omega arith in
      let z : 0 + n ≡ n = omega arith in
      ap (λ (i : ℕ). map f (up_to 0 i)) e ∙ ap (map f) (up_last 0 n ∙ ap (λ (i : ℕ). up_to 0 n ++ (i ∷ [])) z) ∙ map-append f (up_to 0 n) (n ∷ [])

pub any_one : (n : ℕ) (f : ℕ → Bool) (j : ℕ) → j < n → f j ≡ true → any_to n f ≡ true
any_one n f j l e = go (any_to n f) refl
  where
    go : (b : Bool) → any_to n f ≡ b → b ≡ true
    go true h = refl
    go false h = absurd (true≢false (sym e ∙ any_false n f h j l))

pub any_some : (n : ℕ) (f : ℕ → Bool) → any_to n f ≡ true → (j : ℕ) × (j < n) × (f j ≡ true)
unfolding any_to
any_some zero f e = absurd (true≢false (sym e))
any_some (suc n) f e = go (any_to n f) (f n) (any_some n f) refl e
  where
    go : (a b : Bool) → (a ≡ true → (j : ℕ) × (j < n) × (f j ≡ true)) → f n ≡ b → (a || b) ≡ true → (j : ℕ) × (j < suc n) × (f j ≡ true)
    go true b h k t = let s = h refl in (s.0, omega (arith, s.1), s.2)
    go false true h k t = (n, omega arith, k)
    go false false h k t = absurd (true≢false (sym t))
