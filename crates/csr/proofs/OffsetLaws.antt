-- SPDX-FileCopyrightText: 2026 The PPVM Authors
-- SPDX-License-Identifier: Apache-2.0

-- Offsets that pass: the first is 0, none is below the one before it, the last is the count of entries. Assumes nothing.
use mathlib.Core.Path.{◌≡◌, refl, sym, ap, ◌∙◌}
use mathlib.Core.Bool.{Bool, true, false, not, ◌&&◌, ◌||◌, false≢true}
use mathlib.Core.List.{List}
use Prim.Native.Nat.{ℕ, zero, suc, ◌+◌, ◌-◌, ◌≤◌, ◌<◌}
use native.Mathlib.Omega.{arith}
use native.Mathlib.Decide.{ℕ_discrete, dec_lt}
use borrow.Author.Tests.{eq-eqb, ne_eqb, lt-ltb, le-ltb, ltb-false, eqb-true, eqb-false}
use lib.Dec.{eqb, ltb}
use lib.ListN.{get_or}
use Rattle.lent.proofs.Firsts.{NoneBefore}
use Rattle.csr.specs.Lent.{offset_fails, bad_offset}

-- ---- one offset, test by test
module _ (rows count k before here : ℕ) where
  pub first_fails : k ≡ 0 → 0 < here → true ≡ offset_fails rows count k before here
  unfolding offset_fails
  first_fails e h = rw (eq-eqb k 0 e, lt-ltb 0 here h)

  first_passes : (k ≡ 0 → here ≤ 0) → (eqb k 0 && ltb 0 here) ≡ false
  first_passes h = go (ℕ_discrete k 0)
    where
      go : Dec (k ≡ 0) → (eqb k 0 && ltb 0 here) ≡ false
      go (yes e) = rw (eq-eqb k 0 e, le-ltb 0 here (h e))
      go (no n) = rw (ne_eqb k 0 n)

  module _ (f : k ≡ 0 → here ≤ 0) where
    pub falls : here < before → true ≡ offset_fails rows count k before here
    unfolding offset_fails
    falls h = rw (first_passes f, lt-ltb here before h)

    module _ (g : before ≤ here) where
      pub last_tested : k ≡ rows → not (eqb here count) ≡ offset_fails rows count k before here
      unfolding offset_fails
      last_tested h = rw (first_passes f, le-ltb here before g, eq-eqb k rows h)

      pub not_last : (k ≡ rows → ⊥) → eqb k rows ≡ offset_fails rows count k before here
      unfolding offset_fails
      not_last h = rw (first_passes f, le-ltb here before g, ne_eqb k rows h)

-- ---- all offsets
module _ (rows count : ℕ) (offsets : List ℕ) where
  abbrev bad : ℕ → Bool
  bad = bad_offset rows count offsets

  abbrev offset : ℕ → ℕ
  offset k = get_or offsets k 0

  pub record Rising : Type 0 where
    pub first : offset 0 ≡ 0
    pub rises : (k : ℕ) → k < rows → offset k ≤ offset (k + 1)
    pub last : offset rows ≡ count

  -- what is known where an offset passes
  record Passes (k before here : ℕ) : Type 0 where
    pub begins : k ≡ 0 → here ≤ 0
    pub follows : before ≤ here
    pub ends : k ≡ rows → here ≡ count

  passes : (k before here : ℕ) → offset_fails rows count k before here ≡ false → Passes k before here
  unfolding offset_fails
  passes k before here e = go (eqb k 0) refl (ltb 0 here) refl (ltb here before) refl (eqb k rows) refl (eqb here count) refl e
    where
      go : (a : Bool) → eqb k 0 ≡ a → (b : Bool) → ltb 0 here ≡ b → (d : Bool) → ltb here before ≡ d → (l : Bool) → eqb k rows ≡ l → (m : Bool) → eqb here count ≡ m → ((a && b) || (d || (l && not m))) ≡ false → Passes k before here
      go true ea true eb d ed l el m em h = absurd (false≢true (sym h))
      go true ea false eb true ed l el m em h = absurd (false≢true (sym h))
      go true ea false eb false ed true el false em h = absurd (false≢true (sym h))
      go true ea false eb false ed true el true em h = record { begins = λ _. ltb-false 0 here eb; follows = ltb-false here before ed; ends = λ _. eqb-true here count em }
      go true ea false eb false ed false el m em h = record { begins = λ _. ltb-false 0 here eb; follows = ltb-false here before ed; ends = λ n. absurd (eqb-false k rows el n) }
      go false ea b eb true ed l el m em h = absurd (false≢true (sym h))
      go false ea b eb false ed true el false em h = absurd (false≢true (sym h))
      go false ea b eb false ed true el true em h = record { begins = λ n. absurd (eqb-false k 0 ea n); follows = ltb-false here before ed; ends = λ _. eqb-true here count em }
      go false ea b eb false ed false el m em h = record { begins = λ n. absurd (eqb-false k 0 ea n); follows = ltb-false here before ed; ends = λ n. absurd (eqb-false k rows el n) }

  pub rising : NoneBefore bad (rows + 1) → Rising
  unfolding bad_offset
  rising none =
      let at : (k : ℕ) → k < rows + 1 → Passes k (offset (k - 1)) (offset k) = λ k h. passes k (offset (k - 1)) (offset k) (none k h) in
      record {
        first = omega (arith, (at 0 (omega arith)).begins refl);
        rises = λ k h.
            let e : k + 1 - 1 ≡ k = omega arith in
            rw (ap (λ (i : ℕ). offset i) e) at (at (k + 1) (omega arith)).follows;
        last = (at rows (omega arith)).ends refl;
      }

  passed : (k before here : ℕ) → (k ≡ 0 → here ≤ 0) → before ≤ here → (k ≡ rows → here ≡ count) → offset_fails rows count k before here ≡ false
  unfolding offset_fails
  passed k before here f g l = rw (first_passes rows count k before here f, le-ltb here before g) (go (ℕ_discrete k rows))
    where
      go : Dec (k ≡ rows) → (eqb k rows && not (eqb here count)) ≡ false
      go (yes e) = rw (eq-eqb k rows e, eq-eqb here count (l e))
      go (no n) = rw (ne_eqb k rows n)

  pub none_bad : Rising → NoneBefore bad (rows + 1)
  unfolding bad_offset
  none_bad R zero h = passed 0 (offset 0) (offset 0) (λ _. omega (arith, R.first)) (omega arith) (λ e. ap (λ (i : ℕ). offset i) e ∙ R.last)
  none_bad R (suc k) h =
      let e : k + 1 ≡ suc k = omega arith in
      let d : suc k - 1 ≡ k = omega arith in
      let r = R.rises k (omega arith) in
      passed (suc k) (offset (suc k - 1)) (offset (suc k)) (λ z. absurd (omega arith)) (rw (ap (λ (i : ℕ). offset i) d, ap (λ (i : ℕ). offset i) (sym e)) r) (λ z. ap (λ (i : ℕ). offset i) z ∙ R.last)

  module _ (R : Rising) where
    more : (i d : ℕ) → i + d ≤ rows → offset i ≤ offset (i + d)
    more i zero h = let e : i + 0 ≡ i = omega arith in omega (arith, ap (λ (j : ℕ). offset j) e)
    more i (suc d) h =
        let e : i + suc d ≡ i + d + 1 = omega arith in
        omega (arith, more i d (omega arith), R.rises (i + d) (omega arith), ap (λ (j : ℕ). offset j) e)

    pub never_falls : (i j : ℕ) → i ≤ j → j ≤ rows → offset i ≤ offset j
    never_falls i j h l =
        let e : i + (j - i) ≡ j = omega arith in
        omega (arith, more i (j - i) (omega arith), ap (λ (k : ℕ). offset k) e)

    pub offset_inside : (k : ℕ) → k ≤ rows → offset k ≤ count
    offset_inside k h = omega (arith, never_falls k rows h (omega arith), R.last)

    -- what fails nowhere in a row fails nowhere
    module _ (f : ℕ → Bool) (h : (r k : ℕ) → r < rows → k < offset (r + 1) - offset r → f (offset r + k) ≡ false) where
      one_more : (r : ℕ) → r < rows → NoneBefore f (offset r) → NoneBefore f (offset (suc r))
      one_more r m p e i = go (dec_lt e (offset r))
        where
          go : Dec (e < offset r) → f e ≡ false
          go (yes d) = p e d
          go (no d) =
              let s : r + 1 ≡ suc r = omega arith in
              let o = ap (λ (j : ℕ). offset j) s in
              let q : offset r + (e - offset r) ≡ e = omega arith in
              ap f (sym q) ∙ h r (e - offset r) m (omega arith)

      up_to : (r : ℕ) → r ≤ rows → NoneBefore f (offset r)
      up_to zero m e i = absurd (omega (arith, R.first))
      up_to (suc r) m e i = one_more r (omega arith) (up_to r (omega arith)) e i

      pub by_rows : NoneBefore f count
      by_rows k l = up_to rows (omega arith) k (omega (arith, R.last))
