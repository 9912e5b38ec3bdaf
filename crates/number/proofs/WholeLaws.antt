-- SPDX-FileCopyrightText: 2026 The PPVM Authors
-- SPDX-License-Identifier: Apache-2.0

-- The whole numbers are a commutative ring: the laws of ⊞, neg and ⊠, and rulesets of them for simp. Assumes nothing.
use mathlib.Core.Path.{◌≡◌, refl, sym, ap, ap₂, ◌∙◌}
use Prim.Native.Nat.{zero, suc}
use lib.IntN.{ℤ, pos, negsuc, neg_ℤ, ◌+ℤ◌, ◌*ℤ◌, suc_ℤ-+ℤ, pred_ℤ-+ℤ, suc_ℤ-*ℤ, pred_ℤ-*ℤ, +ℤ_idl, +ℤ_idr, +ℤ_assoc, +ℤ_comm, +ℤ_invr, +ℤ_invl, zero-*ℤ, *ℤ-zero, *ℤ_comm, *ℤ-one, one, neg_ℤ-+ℤ, neg_ℤ-neg_ℤ}
use Rattle.number.specs.Whole.{◌⊞◌, neg, ◌⊠◌}

left_comm : (a b c : ℤ) → a +ℤ (b +ℤ c) ≡ b +ℤ (a +ℤ c)
left_comm a b c = sym (+ℤ_assoc a b c) ∙ ap (λ (x : ℤ). x +ℤ c) (+ℤ_comm a b) ∙ +ℤ_assoc b a c

right_comm : (a b c : ℤ) → (a +ℤ b) +ℤ c ≡ (a +ℤ c) +ℤ b
right_comm a b c = +ℤ_assoc a b c ∙ ap (λ (x : ℤ). a +ℤ x) (+ℤ_comm b c) ∙ sym (+ℤ_assoc a c b)

-- two sums, added
interchange : (a b c d : ℤ) → (a +ℤ b) +ℤ (c +ℤ d) ≡ (a +ℤ c) +ℤ (b +ℤ d)
interchange a b c d = +ℤ_assoc a b (c +ℤ d) ∙ ap (λ (x : ℤ). a +ℤ x) (left_comm b c d) ∙ sym (+ℤ_assoc a c (b +ℤ d))

mul_add : (m n k : ℤ) → (m +ℤ n) *ℤ k ≡ m *ℤ k +ℤ n *ℤ k
mul_add (pos zero) n k = ap (λ (x : ℤ). x *ℤ k) (+ℤ_idl n) ∙ sym (ap (λ (x : ℤ). x +ℤ n *ℤ k) (zero-*ℤ k) ∙ +ℤ_idl (n *ℤ k))
mul_add (pos (suc m)) n k =
    ap (λ (x : ℤ). x *ℤ k) (suc_ℤ-+ℤ (pos m) n)
    ∙ suc_ℤ-*ℤ (pos m +ℤ n) k
    ∙ ap (λ (x : ℤ). x +ℤ k) (mul_add (pos m) n k)
    ∙ right_comm (pos m *ℤ k) (n *ℤ k) k
    ∙ sym (ap (λ (x : ℤ). x +ℤ n *ℤ k) (suc_ℤ-*ℤ (pos m) k))
mul_add (negsuc zero) n k =
    ap (λ (x : ℤ). x *ℤ k) (pred_ℤ-+ℤ (pos zero) n)
    ∙ pred_ℤ-*ℤ (pos zero +ℤ n) k
    ∙ ap (λ (x : ℤ). x *ℤ k +ℤ neg_ℤ k) (+ℤ_idl n)
    ∙ +ℤ_comm (n *ℤ k) (neg_ℤ k)
    ∙ sym (ap (λ (x : ℤ). x +ℤ n *ℤ k) (pred_ℤ-*ℤ (pos zero) k ∙ ap (λ (x : ℤ). x +ℤ neg_ℤ k) (zero-*ℤ k) ∙ +ℤ_idl (neg_ℤ k)))
mul_add (negsuc (suc m)) n k =
    ap (λ (x : ℤ). x *ℤ k) (pred_ℤ-+ℤ (negsuc m) n)
    ∙ pred_ℤ-*ℤ (negsuc m +ℤ n) k
    ∙ ap (λ (x : ℤ). x +ℤ neg_ℤ k) (mul_add (negsuc m) n k)
    ∙ right_comm (negsuc m *ℤ k) (n *ℤ k) (neg_ℤ k)
    ∙ sym (ap (λ (x : ℤ). x +ℤ n *ℤ k) (pred_ℤ-*ℤ (negsuc m) k))

-- what is added to b to make 0
unique : (a b : ℤ) → a +ℤ b ≡ pos 0 → a ≡ neg_ℤ b
unique a b h =
    sym (+ℤ_idr a) ∙ ap (λ (x : ℤ). a +ℤ x) (sym (+ℤ_invr b)) ∙ sym (+ℤ_assoc a b (neg_ℤ b)) ∙ ap (λ (x : ℤ). x +ℤ neg_ℤ b) h ∙ +ℤ_idl (neg_ℤ b)

mul_neg : (m k : ℤ) → neg_ℤ m *ℤ k ≡ neg_ℤ (m *ℤ k)
mul_neg m k = unique (neg_ℤ m *ℤ k) (m *ℤ k) (sym (mul_add (neg_ℤ m) m k) ∙ ap (λ (x : ℤ). x *ℤ k) (+ℤ_invl m) ∙ zero-*ℤ k)

mul_neg_r : (m k : ℤ) → m *ℤ neg_ℤ k ≡ neg_ℤ (m *ℤ k)
mul_neg_r m k = *ℤ_comm m (neg_ℤ k) ∙ mul_neg k m ∙ ap neg_ℤ (*ℤ_comm k m)

mul_assoc_z : (m n k : ℤ) → (m *ℤ n) *ℤ k ≡ m *ℤ (n *ℤ k)
mul_assoc_z (pos zero) n k = ap (λ (x : ℤ). x *ℤ k) (zero-*ℤ n) ∙ zero-*ℤ k ∙ sym (zero-*ℤ (n *ℤ k))
mul_assoc_z (pos (suc m)) n k =
    ap (λ (x : ℤ). x *ℤ k) (suc_ℤ-*ℤ (pos m) n)
    ∙ mul_add (pos m *ℤ n) n k
    ∙ ap (λ (x : ℤ). x +ℤ n *ℤ k) (mul_assoc_z (pos m) n k)
    ∙ sym (suc_ℤ-*ℤ (pos m) (n *ℤ k))
mul_assoc_z (negsuc zero) n k =
    ap (λ (x : ℤ). x *ℤ k) (below n) ∙ mul_neg n k ∙ sym (below (n *ℤ k))
  where
    below : (n : ℤ) → negsuc zero *ℤ n ≡ neg_ℤ n
    below n = pred_ℤ-*ℤ (pos zero) n ∙ ap (λ (x : ℤ). x +ℤ neg_ℤ n) (zero-*ℤ n) ∙ +ℤ_idl (neg_ℤ n)
mul_assoc_z (negsuc (suc m)) n k =
    ap (λ (x : ℤ). x *ℤ k) (pred_ℤ-*ℤ (negsuc m) n)
    ∙ mul_add (negsuc m *ℤ n) (neg_ℤ n) k
    ∙ ap₂ ◌+ℤ◌ (mul_assoc_z (negsuc m) n k) (mul_neg n k)
    ∙ sym (pred_ℤ-*ℤ (negsuc m) (n *ℤ k))

mul_one : (m : ℤ) → m *ℤ pos 1 ≡ m
unfolding one
mul_one m = *ℤ-one m

-- a number that is its own double, or its own opposite, is 0
own_double : (a : ℤ) → a ≡ a +ℤ a → a ≡ pos 0
own_double a h = sym (+ℤ_idr a) ∙ ap (λ (x : ℤ). a +ℤ x) (sym (+ℤ_invr a)) ∙ sym (+ℤ_assoc a a (neg_ℤ a)) ∙ ap (λ (x : ℤ). x +ℤ neg_ℤ a) (sym h) ∙ +ℤ_invr a

own_opposite : (a : ℤ) → a ≡ neg_ℤ a → a ≡ pos 0
own_opposite (pos zero) h = refl
own_opposite (pos (suc n)) h = cc
own_opposite (negsuc n) h = cc

-- ---- the laws, over the shut names
pub add_assoc : (a b c : ℤ) → (a ⊞ b) ⊞ c ≡ a ⊞ (b ⊞ c)
unfolding ◌⊞◌
add_assoc a b c = +ℤ_assoc a b c

pub add_comm : (a b : ℤ) → a ⊞ b ≡ b ⊞ a
unfolding ◌⊞◌
add_comm a b = +ℤ_comm a b

pub add_left_comm : (a b c : ℤ) → a ⊞ (b ⊞ c) ≡ b ⊞ (a ⊞ c)
unfolding ◌⊞◌
add_left_comm a b c = left_comm a b c

pub swap_inner : (a b c d : ℤ) → (a ⊞ b) ⊞ (c ⊞ d) ≡ (a ⊞ c) ⊞ (b ⊞ d)
unfolding ◌⊞◌
swap_inner a b c d = interchange a b c d

pub add_zero : (a : ℤ) → a ⊞ pos 0 ≡ a
unfolding ◌⊞◌
add_zero a = +ℤ_idr a

pub zero_add : (a : ℤ) → pos 0 ⊞ a ≡ a
unfolding ◌⊞◌
zero_add a = +ℤ_idl a

pub add_neg : (a : ℤ) → a ⊞ neg a ≡ pos 0
unfolding ◌⊞◌ neg
add_neg a = +ℤ_invr a

pub neg_add : (a b : ℤ) → neg (a ⊞ b) ≡ neg a ⊞ neg b
unfolding ◌⊞◌ neg
neg_add a b = neg_ℤ-+ℤ a b

pub neg_neg : (a : ℤ) → neg (neg a) ≡ a
unfolding neg
neg_neg a = neg_ℤ-neg_ℤ a

pub neg_zero : neg (pos 0) ≡ pos 0
unfolding neg
neg_zero = refl

pub mul_comm : (a b : ℤ) → a ⊠ b ≡ b ⊠ a
unfolding ◌⊠◌
mul_comm a b = *ℤ_comm a b

pub add_mul : (a b c : ℤ) → (a ⊞ b) ⊠ c ≡ a ⊠ c ⊞ b ⊠ c
unfolding ◌⊞◌ ◌⊠◌
add_mul a b c = mul_add a b c

pub neg_mul : (a b : ℤ) → neg a ⊠ b ≡ neg (a ⊠ b)
unfolding neg ◌⊠◌
neg_mul a b = mul_neg a b

pub mul_neg_right : (a b : ℤ) → a ⊠ neg b ≡ neg (a ⊠ b)
unfolding neg ◌⊠◌
mul_neg_right a b = mul_neg_r a b

pub mul_unit : (a : ℤ) → a ⊠ pos 1 ≡ a
unfolding ◌⊠◌
mul_unit a = mul_one a

pub mul_nought : (a : ℤ) → a ⊠ pos 0 ≡ pos 0
unfolding ◌⊠◌
mul_nought a = *ℤ-zero a

pub mul_assoc : (a b c : ℤ) → (a ⊠ b) ⊠ c ≡ a ⊠ (b ⊠ c)
unfolding ◌⊠◌
mul_assoc a b c = mul_assoc_z a b c

pub mul_left_comm : (a b c : ℤ) → a ⊠ (b ⊠ c) ≡ b ⊠ (a ⊠ c)
mul_left_comm a b c = sym (mul_assoc a b c) ∙ ap (λ (x : ℤ). x ⊠ c) (mul_comm a b) ∙ mul_assoc b a c

pub mul_sum : (a b c : ℤ) → a ⊠ (b ⊞ c) ≡ a ⊠ b ⊞ a ⊠ c
mul_sum a b c = mul_comm a (b ⊞ c) ∙ add_mul b c a ∙ ap₂ ◌⊞◌ (mul_comm b a) (mul_comm c a)

pub unit_mul : (a : ℤ) → pos 1 ⊠ a ≡ a
unit_mul a = mul_comm (pos 1) a ∙ mul_unit a

pub nought_mul : (a : ℤ) → pos 0 ⊠ a ≡ pos 0
nought_mul a = mul_comm (pos 0) a ∙ mul_nought a

pub doubled_none : (a : ℤ) → a ≡ a ⊞ a → a ≡ pos 0
unfolding ◌⊞◌
doubled_none a h = own_double a h

pub opposite_none : (a : ℤ) → a ≡ neg a → a ≡ pos 0
unfolding neg
opposite_none a h = own_opposite a h

pub neg_self : (a : ℤ) → neg a ⊞ a ≡ pos 0
neg_self a = add_comm (neg a) a ∙ add_neg a

pub cancel : (a b : ℤ) → a ⊞ (neg a ⊞ b) ≡ b
cancel a b = sym (add_assoc a (neg a) b) ∙ ap (λ (x : ℤ). x ⊞ b) (add_neg a) ∙ zero_add b

pub cancel_neg : (a b : ℤ) → neg a ⊞ (a ⊞ b) ≡ b
cancel_neg a b = sym (add_assoc (neg a) a b) ∙ ap (λ (x : ℤ). x ⊞ b) (neg_self a) ∙ zero_add b

pub cancel_far : (a b : ℤ) → a ⊞ (b ⊞ neg a) ≡ b
cancel_far a b = add_left_comm a b (neg a) ∙ ap (λ (x : ℤ). b ⊞ x) (add_neg a) ∙ add_zero b

pub cancel_far_neg : (a b : ℤ) → neg a ⊞ (b ⊞ a) ≡ b
cancel_far_neg a b = add_left_comm (neg a) b a ∙ ap (λ (x : ℤ). b ⊞ x) (neg_self a) ∙ add_zero b

pub ruleset cancels = (add_neg, neg_self, cancel, cancel_neg, cancel_far, cancel_far_neg)

pub ruleset sums = (add_assoc, add_comm, add_left_comm, add_zero, zero_add, neg_add, neg_neg, neg_zero)

pub ruleset products = (mul_comm, mul_assoc, mul_left_comm, add_mul, mul_sum, unit_mul, nought_mul, neg_mul, mul_neg_right, mul_unit, mul_nought)
