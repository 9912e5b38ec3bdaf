-- SPDX-FileCopyrightText: 2026 The PPVM Authors
-- SPDX-License-Identifier: Apache-2.0

-- Sums modulo 4 in two bit planes, and what they give for words. Assumes nothing.
use mathlib.Core.Path.{◌≡◌, refl, sym, ap, ap₂, ◌∙◌}
use mathlib.Core.List.{List}
use Prim.Native.Nat.{ℕ, zero, suc, ◌+◌, ◌-◌, ◌*◌, ◌/◌, ◌%◌, ◌^◌, ◌<◌}
use native.Mathlib.Omega.{arith}
use native.Mathlib.Decide.{dec_lt}
use lib.Dec.{eqb, eqb→eq}
use lib.Ieee.{Float}
use lib.Bits.{bit_and, bit_or, bit_xor, and_lt, xor_lt}
use lib.Count.{ones}
use lib.ListN.{get_or, length, get_or-eq_default}
use Rattle.word.specs.Count.{sum_to, tabulate}
use Rattle.word.specs.Letter.{mul_letter, mul_phase}
use Rattle.word.specs.Word.{lane_count, bit, letter_at, Sound}
use Rattle.word.specs.Product.{mul, phase, product, anti_commute, factor, commutator}
use Rattle.word.specs.Steps.{lane_phase, lane_phase_at, plane_phase}
use Rattle.word.specs.declared.word.Word.{Word}
use Rattle.word.specs.declared.algebra.Phased.{Phased}
use Rattle.word.specs.declared.algebra.Planes.{Planes}
use Rattle.word.proofs.Sums.{sum_none, length_tabulate, get_d_tabulate, tabulate_lt}
use Rattle.word.proofs.Digits.{at_bits, bit_lt, zero_bit, ones_xor}
use Rattle.word.proofs.Lanes.{imag, sign, imag_lt, sign_lt, lane_counts, lane_odd, lanes_phase, letter_xor}
use Rattle.word.proofs.Words.{word_is}
use Rattle.word.proofs.WordLaws.{phase_lt}
use Rattle.word.proofs.Tests.{or_zero}

-- ---- one lane's phases added
module _ (low high a b c d : ℕ) (hl : low < 2 ^ 64) (hh : high < 2 ^ 64)
    (ha : a < 2 ^ 64) (hb : b < 2 ^ 64) (hc : c < 2 ^ 64) (hd : d < 2 ^ 64) where
  pub lane_added : (ones (bit_xor low (imag a b c d)) + 2 * ones (bit_xor (bit_xor high (bit_and low (imag a b c d))) (sign a b c d))) % 4
      ≡ ((ones low + 2 * ones high) % 4 + lane_phase a b c d) % 4
  lane_added =
      let i = imag a b c d in
      let s = sign a b c d in
      let hi = imag_lt a b c d ha hb hc hd in
      let hs = sign_lt a b c d ha hb hc hd in
      let k = and_lt 64 low i hl hi in
      let e = ones_xor 64 low i hl hi in
      let f = ones_xor 64 high (bit_and low i) hh k in
      let g = ones_xor 64 (bit_xor high (bit_and low i)) s (xor_lt 64 high (bit_and low i) hh k) hs in
      let l = lane_counts a b c d ha hb hc hd in
      omega arith

-- no letter on the left, no phase
pub lane_none : (a b c d : ℕ) → a ≡ 0 → b ≡ 0 → lane_phase a b c d ≡ 0
unfolding lane_phase mul_phase
lane_none a b c d ha hb = rw (ha, hb) (sum_none 64 _ (λ k l. simp zero_bit
    (eqb→eq _ _ (at_bits (λ a b c d. eqb (mul_phase 0 (c + 2 * d)) 0) tt 0 0 (bit c k) (bit d k) (omega arith) (omega arith) (bit_lt _ _) (bit_lt _ _)))))

pub none_added : (a b c d e f g h : ℕ) (t : Planes) → bit_or (bit_or a b) (bit_or e f) ≡ 0 → plane_phase t ≡ (plane_phase t + (lane_phase a b c d + lane_phase e f g h)) % 4
unfolding plane_phase
none_added a b c d e f g h t n =
    let o = or_zero (bit_or a b) (bit_or e f) n in
    let l = or_zero a b o.0 in
    let m = or_zero e f o.1 in
    omega (arith, lane_none a b c d l.0 l.1, lane_none e f g h m.0 m.1)

-- ---- lane by lane
abbrev lane : Word → Word → ℕ → ℕ
lane p q i = lane_phase_at p q i

-- the phases of the first n lanes are added
pub record Added (p q : Word) (n : ℕ) (t : Planes) : Type 0 where
  pub sum : plane_phase t ≡ sum_to n (lane p q) % 4

pub added_none : (p q : Word) → Added p q 0 (record { low = 0; high = 0 })
unfolding sum_to plane_phase ones
added_none p q = record { sum = refl }

pub added_more : {p q : Word} {n : ℕ} {t u : Planes} → Added p q n t → plane_phase u ≡ (plane_phase t + lane p q n) % 4 → Added p q (suc n) u
unfolding sum_to
added_more h e = record { sum = omega (arith, h.sum, e) }

pub added_two : {p q : Word} {n : ℕ} {t u : Planes} → Added p q n t → plane_phase u ≡ (plane_phase t + (lane p q n + lane p q (suc n))) % 4 → Added p q (suc (suc n)) u
unfolding sum_to
added_two h e = record { sum = omega (arith, h.sum, e) }

pub phase_is : {p q : Word} {t : Planes} {r : ℕ} → Added p q lane_count t → r ≡ plane_phase t → r ≡ phase p q
unfolding phase
phase_is {p} {q} h e = e ∙ h.sum ∙ ap (λ (m : ℕ). m % 4) (lanes_phase lane_count p.x p.z q.x q.z)

-- ---- the exclusive or, lane by lane
abbrev xored : List ℕ → List ℕ → List ℕ
xored xs us = tabulate lane_count (λ i. bit_xor (get_or xs i 0) (get_or us i 0))

xored_at : (xs us : List ℕ) → length xs ≡ lane_count → length us ≡ lane_count → (i : ℕ) → get_or (xored xs us) i 0 ≡ bit_xor (get_or xs i 0) (get_or us i 0)
xored_at xs us hx hu i = go (dec_lt i lane_count)
  where
    go : Dec (i < lane_count) → get_or (xored xs us) i 0 ≡ bit_xor (get_or xs i 0) (get_or us i 0)
    go (yes h) = get_d_tabulate 0 lane_count (λ i. bit_xor (get_or xs i 0) (get_or us i 0)) i h
    go (no h) =
        get_or-eq_default (xored xs us) 0 (omega (arith, length_tabulate lane_count (λ i. bit_xor (get_or xs i 0) (get_or us i 0))))
        ∙ sym (ap₂ bit_xor (get_or-eq_default xs 0 (omega (arith, hx))) (get_or-eq_default us 0 (omega (arith, hu))))

xored_lt : (xs us : List ℕ) → ((i : ℕ) → get_or xs i 0 < 2 ^ 64) → ((i : ℕ) → get_or us i 0 < 2 ^ 64) → (i : ℕ) → get_or (xored xs us) i 0 < 2 ^ 64
xored_lt xs us hx hu = tabulate_lt (2 ^ 64) lane_count _ (omega arith) (λ i. xor_lt 64 _ _ (hx i) (hu i))

-- the exclusive or of two words is the word of the table's letters
pub mul_is : (p q : Word) → Sound p → Sound q → record { x = xored p.x q.x; z = xored p.z q.z } ≡ mul p q
unfolding mul
mul_is p q sp sq =
    word_is (record { x = xored p.x q.x; z = xored p.z q.z }) (λ k. mul_letter (letter_at p k) (letter_at q k))
    (record { x_lanes = length_tabulate lane_count _; z_lanes = length_tabulate lane_count _; x_fits = xored_lt p.x q.x sp.x_fits sq.x_fits; z_fits = xored_lt p.z q.z sp.z_fits sq.z_fits })
    (λ k h. letter_xor p.x p.z q.x q.z (xored p.x q.x) (xored p.z q.z) k
    (xored_at p.x q.x sp.x_lanes sq.x_lanes (k / 64))
    (xored_at p.z q.z sp.z_lanes sq.z_lanes (k / 64)))

pub phased_eq : {a b : Phased} → a.word ≡ b.word → a.phase ≡ b.phase → a ≡ b
phased_eq p q = λ i. record { word = p i; phase = q i }

-- ---- whether the phase is odd
abbrev clash : Word → Word → ℕ → ℕ
clash p q i = imag (get_or p.x i 0) (get_or p.z i 0) (get_or q.x i 0) (get_or q.z i 0)

-- f 0 ^ f 1 ^ .. ^ f n
unfoldable pub xor_to : ℕ → (ℕ → ℕ) → ℕ
xor_to zero f = f 0
xor_to (suc n) f = bit_xor (xor_to n f) (f (suc n))

module _ (f g : ℕ → ℕ) (lt : (i : ℕ) → f i < 2 ^ 64) (odd : (i : ℕ) → ones (f i) % 2 ≡ g i % 2) where
  xors_lt : (n : ℕ) → xor_to n f < 2 ^ 64
  unfolding xor_to
  xors_lt zero = lt 0
  xors_lt (suc n) = xor_lt 64 (xor_to n f) (f (suc n)) (xors_lt n) (lt (suc n))

  xors_odd : (n : ℕ) → ones (xor_to n f) % 2 ≡ sum_to (suc n) g % 2
  unfolding xor_to sum_to
  xors_odd zero = omega (arith, odd 0)
  xors_odd (suc n) = omega (arith, xors_odd n, odd (suc n), ones_xor 64 (xor_to n f) (f (suc n)) (xors_lt n) (lt (suc n)))

pub odd_is : (p q : Word) → Sound p → Sound q → eqb (ones (xor_to (lane_count - 1) (clash p q)) % 2) 1 ≡ anti_commute p q
unfolding anti_commute phase
odd_is p q sp sq =
    let e = xors_odd (clash p q) (lane p q)
    (λ i. imag_lt _ _ _ _ (sp.x_fits i) (sp.z_fits i) (sq.x_fits i) (sq.z_fits i))
    (λ i. lane_odd _ _ _ _ (sp.x_fits i) (sp.z_fits i) (sq.x_fits i) (sq.z_fits i))
    (lane_count - 1) in
    ap (λ (m : ℕ). eqb m 1) (halves _ _ e ∙ ap (λ (m : ℕ). m % 4 % 2) (lanes_phase lane_count p.x p.z q.x q.z))
  where
    halves : (a b : ℕ) → a % 2 ≡ b % 2 → a % 2 ≡ b % 4 % 2
    halves a b e = omega arith

-- ---- i times the commutator
pub factor_none : (k : ℕ) → k < 4 → (k ≡ 1 → ⊥) → (k ≡ 3 → ⊥) → factor 0 ≡ factor k
factor_none zero h a b = refl
factor_none (suc zero) h a b = absurd (a refl)
factor_none (suc (suc zero)) h a b = refl
factor_none (suc (suc (suc zero))) h a b = absurd (b refl)
factor_none (suc (suc (suc (suc k)))) h a b = absurd (omega arith)

pub commuted : (h p : Word) (r : Phased) (e : Float) → r ≡ product h p → e ≡ factor (r.phase % 4) → record { word = r.word; eps = e } ≡ commutator h p
commuted h p r e hr he =
    let k : phase h p % 4 ≡ phase h p = small (phase h p) (phase_lt h p) in
    λ i. record { word = ap (λ (t : Phased). t.word) hr i; eps = (he ∙ ap (λ (t : Phased). factor (t.phase % 4)) hr ∙ ap factor k) i }
  where
    small : (k : ℕ) → k < 4 → k % 4 ≡ k
    small k l = omega arith
