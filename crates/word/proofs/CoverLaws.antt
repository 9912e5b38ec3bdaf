-- SPDX-FileCopyrightText: 2026 The PPVM Authors
-- SPDX-License-Identifier: Apache-2.0

-- A word that others are joined to covers each of them, and keeps covering what it covered. Assumes nothing.
use mathlib.Core.Path.{◌≡◌, ap, ap₂, sym, ◌∙◌}
use mathlib.Core.Bool.{true}
use Prim.Native.Nat.{ℕ, zero, suc, ◌+◌, ◌-◌, ◌^◌, ◌<◌, ◌≤◌, min, max}
use native.Mathlib.Omega.{arith}
use lib.Bits.{differ, bit_and, bit_or, bit_xor, and_lt, or_lt, xor_lt}
use lib.Dec.{eqb, eqb→eq}
use lib.ListN.{get_or}
use Rattle.word.specs.Count.{tabulate}
use Rattle.word.specs.Word.{lane_count, bit, Sound}
use Rattle.word.specs.Order.{same}
use Rattle.word.specs.Between.{join, covers}
use Rattle.word.specs.declared.word.Word.{Word}
use Rattle.word.proofs.Sums.{length_tabulate, get_d_tabulate, tabulate_lt}
use Rattle.word.proofs.Digits.{at_bits, bit_lt, bit_and_lem, bit_or_lem, bit_xor_lem, bit_not, same_digits}
use Rattle.word.proofs.Words.{word_eq}
use Rattle.word.proofs.Tests.{or_to, differing, same_is}
use Rattle.word.proofs.OrderLaws.{same_eq, same_self}

below_power : (n : ℕ) → n < 2 ^ n
below_power zero = omega arith
below_power (suc n) = let h = below_power n in omega arith

or_swap : (a b c : ℕ) → bit_or (bit_or a b) c ≡ bit_or (bit_or a c) b
or_swap a b c =
    let w : ℕ = a + b + c in
    let l = below_power w in
    let ha : a < 2 ^ w = omega arith in
    let hb : b < 2 ^ w = omega arith in
    let hc : c < 2 ^ w = omega arith in
    same_digits w (bit_or (bit_or a b) c) (bit_or (bit_or a c) b) (or_lt w _ _ (or_lt w a b ha hb) hc) (or_lt w _ _ (or_lt w a c ha hc) hb)
    (λ k l. simp bit_or_lem (eqb→eq _ _ (at_bits (λ a b c d. eqb (max (max a b) c) (max (max a c) b)) tt (bit a k) (bit b k) (bit c k) 0 (bit_lt _ _) (bit_lt _ _) (bit_lt _ _) (omega arith))))

or_again : (a b : ℕ) → bit_or (bit_or a b) b ≡ bit_or a b
or_again a b =
    let w : ℕ = a + b in
    let l = below_power w in
    let ha : a < 2 ^ w = omega arith in
    let hb : b < 2 ^ w = omega arith in
    same_digits w (bit_or (bit_or a b) b) (bit_or a b) (or_lt w _ _ (or_lt w a b ha hb) hb) (or_lt w a b ha hb)
    (λ k l. simp bit_or_lem (eqb→eq _ _ (at_bits (λ a b c d. eqb (max (max a b) b) (max a b)) tt (bit a k) (bit b k) 0 0 (bit_lt _ _) (bit_lt _ _) (omega arith) (omega arith))))

join_swap : (u v w : Word) → join (join u v) w ≡ join (join u w) v
unfolding join tabulate
join_swap u v w = word_eq (simp or_swap) (simp or_swap)

join_again : (u w : Word) → join (join u w) w ≡ join u w
unfolding join tabulate
join_again u w = word_eq (simp or_again) (simp or_again)

pub covers_joined : (u w : Word) → covers (join u w) w ≡ true
covers_joined u w = ap (λ (v : Word). same v (join u w)) (join_again u w) ∙ same_self (join u w)

pub covers_still : (u v w : Word) → covers u v ≡ true → covers (join u w) v ≡ true
covers_still u v w h =
    ap (λ (t : Word). same t (join u w)) (join_swap u w v ∙ ap (λ (t : Word). join t w) (same_eq (join u v) u h)) ∙ same_self (join u w)

-- ---- as lanes tell it: no bit of w is one that u has not
abbrev missing : Word → Word → ℕ → ℕ
missing u w i = bit_or (bit_and (get_or w.x i 0) ((2 ^ 64 - 1) - get_or u.x i 0)) (bit_and (get_or w.z i 0) ((2 ^ 64 - 1) - get_or u.z i 0))

lane_missing : (a x : ℕ) → a < 2 ^ 64 → x < 2 ^ 64 → bit_and x ((2 ^ 64 - 1) - a) ≡ bit_xor (bit_or a x) a
lane_missing a x ha hx =
    same_digits 64 (bit_and x ((2 ^ 64 - 1) - a)) (bit_xor (bit_or a x) a) (and_lt 64 x _ hx (omega arith)) (xor_lt 64 _ _ (or_lt 64 a x ha hx) ha)
    (λ k l.
    bit_and_lem x ((2 ^ 64 - 1) - a) k ∙ ap (min (bit x k)) (bit_not 64 a k ha l)
    ∙ eqb→eq _ _ (at_bits (λ a x c d. eqb (min x (1 - a)) (differ (max a x) a)) tt (bit a k) (bit x k) 0 0 (bit_lt _ _) (bit_lt _ _) (omega arith) (omega arith))
    ∙ sym (bit_xor_lem (bit_or a x) a k ∙ ap (λ (y : ℕ). differ y (bit a k)) (bit_or_lem a x k)))

or_cong : (n : ℕ) (f g : ℕ → ℕ) → ((i : ℕ) → i ≤ n → f i ≡ g i) → or_to n f ≡ or_to n g
unfolding or_to
or_cong zero f g h = h 0 (omega arith)
or_cong (suc n) f g h = ap₂ bit_or (or_cong n f g (λ i l. h i (omega arith))) (h (suc n) (omega arith))

module _ (u w : Word) (su : Sound u) (sw : Sound w) where
  sound_join : Sound (join u w)
  unfolding join
  sound_join = record {
    x_lanes = length_tabulate lane_count _;
    z_lanes = length_tabulate lane_count _;
    x_fits = tabulate_lt (2 ^ 64) lane_count _ (omega arith) (λ i. or_lt 64 _ _ (su.x_fits i) (sw.x_fits i));
    z_fits = tabulate_lt (2 ^ 64) lane_count _ (omega arith) (λ i. or_lt 64 _ _ (su.z_fits i) (sw.z_fits i));
  }

  missing_is : (i : ℕ) → i ≤ lane_count - 1 → missing u w i ≡ differing (join u w) u i
  unfolding join
  missing_is i h =
      ap₂ bit_or
      (lane_missing _ _ (su.x_fits i) (sw.x_fits i)
      ∙ ap (λ (y : ℕ). bit_xor y (get_or u.x i 0)) (sym (get_d_tabulate 0 lane_count (λ k. bit_or (get_or u.x k 0) (get_or w.x k 0)) i (omega arith))))
      (lane_missing _ _ (su.z_fits i) (sw.z_fits i)
      ∙ ap (λ (y : ℕ). bit_xor y (get_or u.z i 0)) (sym (get_d_tabulate 0 lane_count (λ k. bit_or (get_or u.z k 0) (get_or w.z k 0)) i (omega arith))))

  pub covers_is : eqb (or_to (lane_count - 1) (missing u w)) 0 ≡ covers u w
  covers_is = ap (λ (n : ℕ). eqb n 0) (or_cong (lane_count - 1) (missing u w) (differing (join u w) u) missing_is) ∙ same_is (join u w) u sound_join su
