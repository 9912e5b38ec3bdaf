-- SPDX-FileCopyrightText: 2026 The PPVM Authors
-- SPDX-License-Identifier: Apache-2.0

-- What is visited: exactly the items that share a qubit with p, each once, in rising order. Assumes nothing.
use Rattle.std.specs.Prelude.{Some, Option}
use mathlib.Core.Path.{◌≡◌, refl, sym, ap, ap₂, ◌∙◌}
use mathlib.Core.Bool.{Bool, true, false, ◌&&◌, ◌||◌, or-false, and-false}
use mathlib.Core.List.{List, [], ◌∷◌}
use Prim.Native.Nat.{ℕ, zero, suc, ◌+◌, ◌-◌, ◌*◌, ◌<◌, ◌≤◌, min, max}
use native.Mathlib.Omega.{arith}
use borrow.Author.Tests.{le-leb}
use lib.Dec.{leb}
use lib.ListN.{length, get_or, get_or-eq_default}
use Rattle.word.specs.Count.{any_to}
use Rattle.word.specs.Word.{max_qubits}
use Rattle.word.specs.Register.{acts_on, reaches, share}
use Rattle.word.specs.declared.word.Word.{Word}
use Rattle.word.proofs.Sums.{any_false}
use Rattle.index.specs.declared.Cursor.{Cursor}
use Rattle.index.specs.Index.{flag, digit, acts, acts_any, shares_any, unites, Indexed, United}
use Rattle.index.specs.Visit.{up_from, keep, flagged, left, Steps, AllBelow}
use Rattle.index.proofs.Kept.{keep_short, keep_below}
use Rattle.index.proofs.Cursors.{stepped}

digit_or : (a b : Bool) → digit (a || b) ≡ max (digit a) (digit b)
digit_or true b = go b
  where
    go : (b : Bool) → ◌≡◌ {A = ℕ} 1 (max 1 (digit b))
    go true = refl
    go false = refl
digit_or false b = sym (zero_max (digit b))
  where
    zero_max : (a : ℕ) → max 0 a ≡ a
    zero_max a = omega arith

digit_and : (a b : Bool) → digit (a && b) ≡ min (digit a) (digit b)
digit_and true true = refl
digit_and true false = refl
digit_and false true = refl
digit_and false false = refl

-- ---- the union of p's rows: over the words of an item, and over the qubits below n
-- does one of the words act with p on a qubit below n
unfoldable meets : ℕ → List Word → Word → Bool
meets n [] p = false
meets n (w ∷ W) p = any_to n (λ k. acts_on w k && acts_on p k) || meets n W p

meets_more : (n : ℕ) (W : List Word) (p : Word) → digit (meets (suc n) W p) ≡ max (digit (meets n W p)) (min (acts p n) (acts_any W n))
unfolding meets acts_any any_to acts
meets_more n [] p = omega arith
meets_more n (w ∷ W) p =
    let a : ℕ = digit (any_to n (λ k. acts_on w k && acts_on p k)) in
    let b : ℕ = digit (acts_on w n) in
    let c : ℕ = digit (acts_on p n) in
    digit_or (any_to n (λ k. acts_on w k && acts_on p k) || (acts_on w n && acts_on p n)) (meets (suc n) W p)
    ∙ ap₂ max (digit_or (any_to n (λ k. acts_on w k && acts_on p k)) (acts_on w n && acts_on p n) ∙ ap (max a) (digit_and (acts_on w n) (acts_on p n))) (meets_more n W p)
    ∙ regroup a b c (digit (meets n W p)) (acts_any W n)
    ∙ ap (λ (x : ℕ). max x (min c (max b (acts_any W n)))) (sym (digit_or (any_to n (λ k. acts_on w k && acts_on p k)) (meets n W p)))
  where
    spread : (b c e : ℕ) → max (min b c) (min c e) ≡ min c (max b e)
    spread b c e = omega arith

    swap : (a x d y : ℕ) → max (max a x) (max d y) ≡ max (max a d) (max x y)
    swap a x d y = omega arith

    regroup : (a b c d e : ℕ) → max (max a (min b c)) (max d (min c e)) ≡ max (max a d) (min c (max b e))
    regroup a b c d e = swap a (min b c) d (min c e) ∙ ap (max (max a d)) (spread b c e)

meets_none : (W : List Word) (p : Word) → meets 0 W p ≡ false
unfolding meets any_to
meets_none [] p = refl
meets_none (w ∷ W) p = meets_none W p

unites_meets : (row n : ℕ) (p : Word) (items : List (List Word)) (index : List ℕ) (j : ℕ) → Indexed row n items index → j < row * 64
    → (k : ℕ) → k ≤ n → unites row (acts p) k index j ≡ digit (meets k (get_or items j []) p)
unfolding unites
unites_meets row n p items index j x h zero l = sym (ap digit (meets_none (get_or items j []) p))
unites_meets row n p items index j x h (suc k) l =
    ap₂ (λ (a b : ℕ). max a (min (acts p k) b)) (unites_meets row n p items index j x h k (omega arith)) (x.marks k j (omega arith) h)
    ∙ sym (meets_more k (get_or items j []) p)

-- ---- where p does not reach beyond n, sharing a qubit is sharing one below n
any_front : (n d : ℕ) (f : ℕ → Bool) → ((k : ℕ) → n ≤ k → k < n + d → f k ≡ false) → any_to (n + d) f ≡ any_to n f
unfolding any_to
any_front n zero f h = let e : n + 0 ≡ n = omega arith in rw e
any_front n (suc d) f h =
    let e : n + suc d ≡ suc (n + d) = omega arith in
    rw (e, h (n + d) (omega arith) (omega arith), any_front n d f (λ k a b. h k a (omega arith))) (or-false (any_to n f))

module _ (n : ℕ) (p : Word) (few : n ≤ max_qubits) (low : reaches p n ≡ false) where
  idle : (k : ℕ) → n ≤ k → k < max_qubits → acts_on p k ≡ false
  unfolding reaches
  idle k h l = sym (ap (λ (b : Bool). b && acts_on p k) (le-leb n k h)) ∙ any_false max_qubits (λ q. leb n q && acts_on p q) low k l

  shares_below : (w : Word) → any_to n (λ k. acts_on w k && acts_on p k) ≡ share w p
  unfolding share
  shares_below w =
      let e : max_qubits ≡ n + (max_qubits - n) = omega arith in
      sym (ap (λ (m : ℕ). any_to m (λ k. acts_on w k && acts_on p k)) e
      ∙ any_front n (max_qubits - n) (λ k. acts_on w k && acts_on p k) (λ k h l. ap (λ (b : Bool). acts_on w k && b) (idle k h (omega arith)) ∙ and-false (acts_on w k)))

  meets_shares : (W : List Word) → meets n W p ≡ shares_any W p
  unfolding meets shares_any
  meets_shares [] = refl
  meets_shares (w ∷ W) = ap₂ ◌||◌ (shares_below w) (meets_shares W)

  -- bit j of the mask is set exactly if one of the words of item j shares a qubit with p
  module _ (row : ℕ) (items : List (List Word)) (index mask : List ℕ) (x : Indexed row n items index) (u : United row n p index mask) where
    pub united_shares : (j : ℕ) → j < row * 64 → flag mask j ≡ digit (shares_any (get_or items j []) p)
    united_shares j h = u.flags j h ∙ unites_meets row n p items index j x h n (omega arith) ∙ ap digit (meets_shares (get_or items j []))

    past_items : (j : ℕ) → length items ≤ j → j < row * 64 → flag mask j ≡ 0
    unfolding shares_any
    past_items j h l = united_shares j l ∙ ap (λ (W : List Word). digit (shares_any W p)) (get_or-eq_default items [] h)

    -- so the places visited are those of the items, in rising order, without those whose bit is not set
    pub flagged_items : length items ≤ row * 64 → flagged row mask 0 ≡ keep (flag mask) (up_from (length items) 0)
    unfolding flagged
    flagged_items h =
        let a : row * 64 - 0 ≡ length items + (row * 64 - length items) = omega arith in
        rw a (keep_short (flag mask) (row * 64 - length items) (length items) 0 (λ j l k. past_items j (omega arith) (omega arith)))

    pub flagged_below : length items ≤ row * 64 → AllBelow (length items) (flagged row mask 0)
    flagged_below h = rw (flagged_items h) (keep_below (flag mask) (length items) (length items) 0 (omega arith))

-- ---- each visit is below what all were
pub step_below : (row : ℕ) (mask : List ℕ) (c : Cursor) (r : Option (ℕ × Cursor)) → Steps row mask c r → (n j : ℕ) (d : Cursor) → r ≡ Some (j, d) → AllBelow n (left row mask c) → (j < n) × AllBelow n (left row mask d)
unfolding AllBelow
step_below row mask c r s n j d e a = rw (stepped row mask c r j d e s).0 at a
