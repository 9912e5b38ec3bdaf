-- SPDX-FileCopyrightText: 2026 The PPVM Authors
-- SPDX-License-Identifier: Apache-2.0

-- Tests of lanes against 0 are tests of letters: sharing a qubit, reaching beyond a register, equality. Assumes nothing.
use mathlib.Core.Path.{◌≡◌, refl, sym, ap, ap₂, ◌∙◌}
use mathlib.Core.Bool.{Bool, true, false, not, ◌&&◌, ◌||◌, beq}
use Prim.Native.Nat.{ℕ, zero, suc, ◌+◌, ◌-◌, ◌*◌, ◌^◌, ◌<◌, ◌≤◌, min, max}
use native.Mathlib.Omega.{arith}
use native.Mathlib.Decide.{ℕ_discrete}
use borrow.Author.Tests.{eq-eqb, ne_eqb, lt-leb}
use lib.Dec.{T, eqb, leb}
use lib.Bits.{bit_and, bit_or, bit_xor, or_add_and, xor_add_and, and_le_l, and_le_r, and_lt, or_lt, xor_self}
use lib.ListN.{get_or}
use lib.Seq.{ext_get_or}
use Rattle.word.specs.Count.{any_to}
use Rattle.word.specs.Word.{lane_count, max_qubits, bit, Sound}
use Rattle.word.specs.Register.{acts_on, reaches, share}
use Rattle.word.specs.Between.{DigitsFrom}
use Rattle.word.specs.Order.{same}
use Rattle.word.specs.declared.word.Word.{Word}
use Rattle.word.proofs.Sums.{any_none, any_cong, any_runs}
use Rattle.word.proofs.Digits.{at_bits, bit_lt, bit_and_lem, bit_or_lem, any_digit}
use Rattle.word.proofs.Lanes.{letter_in_lem}
use Rattle.word.proofs.Words.{word_eq}
use Rattle.word.proofs.NextLaws.{acting, lane_reaches}
use Rattle.word.proofs.OrderLaws.{same_self, same_eq}

beq_eq : (a b : Bool) → T (beq a b) → a ≡ b
beq_eq true true t = refl
beq_eq true false t = absurd t
beq_eq false true t = absurd t
beq_eq false false t = refl

-- ---- a | b is 0 exactly if both are
pub or_zero : (a b : ℕ) → bit_or a b ≡ 0 → (a ≡ 0) × (b ≡ 0)
or_zero a b h =
    let e = or_add_and a b in
    let l = and_le_l a b in
    let r = and_le_r a b in
    (omega arith, omega arith)

or_test : (a b : ℕ) → not (eqb (bit_or a b) 0) ≡ (not (eqb a 0) || not (eqb b 0))
or_test a b = go (ℕ_discrete a 0) (ℕ_discrete b 0)
  where
    go : Dec (a ≡ 0) → Dec (b ≡ 0) → not (eqb (bit_or a b) 0) ≡ (not (eqb a 0) || not (eqb b 0))
    go (yes p) (yes q) = rw (p, q)
    go (yes p) (no q) = simp (ne_eqb (bit_or a b) 0 (λ h. q (or_zero a b h).1), eq-eqb a 0 p, ne_eqb b 0 q)
    go (no p) d = simp (ne_eqb (bit_or a b) 0 (λ h. p (or_zero a b h).0), ne_eqb a 0 p)

-- f 0 | f 1 | .. | f n
unfoldable pub or_to : ℕ → (ℕ → ℕ) → ℕ
or_to zero f = f 0
or_to (suc n) f = bit_or (or_to n f) (f (suc n))

or_any : (n : ℕ) (f : ℕ → ℕ) → not (eqb (or_to n f) 0) ≡ any_to (suc n) (λ i. not (eqb (f i) 0))
unfolding or_to any_to
or_any zero f = refl
or_any (suc n) f = or_test (or_to n f) (f (suc n)) ∙ ap (λ (b : Bool). b || not (eqb (f (suc n)) 0)) (or_any n f)

or_none : (n : ℕ) (f : ℕ → ℕ) → or_to n f ≡ 0 → (i : ℕ) → i ≤ n → f i ≡ 0
unfolding or_to
or_none zero f h i l = let z : i ≡ 0 = omega arith in rw z h
or_none (suc n) f h i l = let o = or_zero (or_to n f) (f (suc n)) h in go (ℕ_discrete i (suc n)) o.1 (or_none n f o.0 i)
  where
    go : Dec (i ≡ suc n) → f (suc n) ≡ 0 → (i ≤ n → f i ≡ 0) → f i ≡ 0
    go (yes e) z r = ap f e ∙ z
    go (no m) z r = r (omega arith)

or_zeros : (n : ℕ) (f : ℕ → ℕ) → ((i : ℕ) → f i ≡ 0) → or_to n f ≡ 0
unfolding or_to
or_zeros zero f h = h 0
or_zeros (suc n) f h = rw (or_zeros n f h, h (suc n))

-- ---- a ^ b is 0 exactly if they are equal
xor_zero : (a b : ℕ) → bit_xor a b ≡ 0 → a ≡ b
xor_zero a b h =
    let e = xor_add_and a b in
    let l = and_le_l a b in
    let r = and_le_r a b in
    omega arith

-- ---- sharing a qubit
lane_shares : (p q : Word) (i : ℕ) → Sound p → Sound q
    → not (eqb (bit_and (acting p i) (acting q i)) 0) ≡ any_to 64 (λ k. acts_on p (64 * i + k) && acts_on q (64 * i + k))
lane_shares p q i sp sq =
    any_digit 64 _ (and_lt 64 _ _ (or_lt 64 _ _ (sp.x_fits i) (sp.z_fits i)) (or_lt 64 _ _ (sq.x_fits i) (sq.z_fits i)))
    ∙ any_cong 64 _ _ (λ k h. at k ∙ sym (ap₂ (λ (l m : ℕ). not (eqb l 0) && not (eqb m 0)) (letter_in_lem p.x p.z i k h) (letter_in_lem q.x q.z i k h)))
  where
    at : (k : ℕ) → not (eqb (bit (bit_and (acting p i) (acting q i)) k) 0)
        ≡ (not (eqb (bit (get_or p.x i 0) k + 2 * bit (get_or p.z i 0) k) 0) && not (eqb (bit (get_or q.x i 0) k + 2 * bit (get_or q.z i 0) k) 0))
    at k =
        simp (bit_and_lem, bit_or_lem)
        (beq_eq _ _
        (at_bits (λ a b c d. beq (not (eqb (min (max a b) (max c d)) 0)) (not (eqb (a + 2 * b) 0) && not (eqb (c + 2 * d) 0))) tt
        (bit (get_or p.x i 0) k) (bit (get_or p.z i 0) k) (bit (get_or q.x i 0) k) (bit (get_or q.z i 0) k)
        (bit_lt _ _) (bit_lt _ _) (bit_lt _ _) (bit_lt _ _)))

pub share_is : (p q : Word) → Sound p → Sound q → not (eqb (or_to (lane_count - 1) (λ i. bit_and (acting p i) (acting q i))) 0) ≡ share p q
unfolding share
share_is p q sp sq =
    or_any (lane_count - 1) (λ i. bit_and (acting p i) (acting q i))
    ∙ any_cong lane_count _ _ (λ i h. lane_shares p q i sp sq)
    ∙ sym (any_runs 64 lane_count (λ k. acts_on p k && acts_on q k))

-- ---- reaching beyond a register
pub none_beyond : (w : Word) (n : ℕ) → max_qubits ≤ n → false ≡ reaches w n
unfolding reaches
none_beyond w n h = sym (any_none max_qubits (λ q. leb n q && acts_on w q) (λ q l. ap (λ (b : Bool). b && acts_on w q) (lt-leb n q (omega (arith, h, l)))))

pub reaches_is : (w : Word) → Sound w → (n : ℕ) (mask : ℕ → ℕ) → ((i : ℕ) → i < lane_count → (mask i < 2 ^ 64) × DigitsFrom (64 * i) n (mask i))
    → not (eqb (or_to (lane_count - 1) (λ i. bit_and (acting w i) (mask i))) 0) ≡ reaches w n
unfolding reaches
reaches_is w s n mask d =
    or_any (lane_count - 1) (λ i. bit_and (acting w i) (mask i))
    ∙ any_cong lane_count _ _ (λ i h. lane_reaches w s i n (mask i) (d i h).0 (d i h).1)
    ∙ sym (any_runs 64 lane_count (λ q. leb n q && acts_on w q))

-- ---- equality
abbrev pub differing : Word → Word → ℕ → ℕ
differing p q i = bit_or (bit_xor (get_or p.x i 0) (get_or q.x i 0)) (bit_xor (get_or p.z i 0) (get_or q.z i 0))

none_differing : (p q : Word) → Sound p → Sound q → or_to (lane_count - 1) (differing p q) ≡ 0 → p ≡ q
none_differing p q sp sq h =
    word_eq
    (ext_get_or 0 p.x q.x (sp.x_lanes ∙ sym sq.x_lanes) (λ i l. xor_zero _ _ (lane i (omega (arith, sp.x_lanes))).0))
    (ext_get_or 0 p.z q.z (sp.z_lanes ∙ sym sq.z_lanes) (λ i l. xor_zero _ _ (lane i (omega (arith, sp.z_lanes))).1))
  where
    lane : (i : ℕ) → i < lane_count → (bit_xor (get_or p.x i 0) (get_or q.x i 0) ≡ 0) × (bit_xor (get_or p.z i 0) (get_or q.z i 0) ≡ 0)
    lane i l = or_zero _ _ (or_none (lane_count - 1) (differing p q) h i (omega arith))

self_differing : (p : Word) → or_to (lane_count - 1) (differing p p) ≡ 0
self_differing p = or_zeros (lane_count - 1) (differing p p) (λ i. simp xor_self)

pub same_is : (p q : Word) → Sound p → Sound q → eqb (or_to (lane_count - 1) (differing p q)) 0 ≡ same p q
same_is p q sp sq = go (ℕ_discrete (or_to (lane_count - 1) (differing p q)) 0) (same p q) refl
  where
    go : Dec (or_to (lane_count - 1) (differing p q) ≡ 0) → (b : Bool) → same p q ≡ b → eqb (or_to (lane_count - 1) (differing p q)) 0 ≡ same p q
    go (yes h) b e = eq-eqb _ 0 h ∙ sym (ap (same p) (sym (none_differing p q sp sq h)) ∙ same_self p)
    go (no h) true e = absurd (h (ap (λ (v : Word). or_to (lane_count - 1) (differing p v)) (sym (same_eq p q e)) ∙ self_differing p))
    go (no h) false e = ne_eqb _ 0 h ∙ sym e
