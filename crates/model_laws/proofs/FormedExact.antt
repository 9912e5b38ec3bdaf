-- SPDX-FileCopyrightText: 2026 The PPVM Authors
-- SPDX-License-Identifier: Apache-2.0

-- Whole numbers with parts of at most 256: what building makes of them over f64 is exactly what it makes over the whole
-- numbers, and thinning drops the same. Assumes nothing.
use mathlib.Core.List.{List}
use Prim.Native.Nat.{ℕ, ◌+◌, ◌*◌, ◌^◌, ◌≤◌}
use native.Mathlib.Nat.{le_trans, mul-le-mul, mul-le-mul_right}
use native.Mathlib.Omega.{arith}
use lib.Dec.{lit≤}
use lib.IntN.{ℤ, nat_abs}
use lib.Ieee.{Float}
use lib.ListN.{length}
use Rattle.number.specs.Numbers.{Cx, add_c, mul_c, conj_c, zero_c, unit_c}
use Rattle.number.specs.Whole.{◌⊠◌, whole}
use Rattle.number.specs.Floats.{floats}
use Rattle.number.specs.Exact.{Is, IsG, Within}
use Rattle.number.proofs.ExactLaws.{is_nought_lem, is_mul}
use Rattle.number.proofs.ExactComplex.{times, within_mono, within_add, within_mul, within_conj, within_unit, is_sum, is_product, is_conjugate, is_power}
use Rattle.number.proofs.ToleranceLaws.{small_is}
use Rattle.gksl.specs.Operator.{Onto}
use Rattle.gksl.specs.Rules.{formed_over}
use Rattle.gksl.specs.Words.{pauli}
use Rattle.model_laws.specs.Exactly.{Exactly}
use Rattle.model_laws.proofs.RelatedLaws.{like_formed}

-- a Gaussian integer, exactly, with parts of at most b
abbrev ExactC : ℕ → Cx floats → Cx whole → Type 0
ExactC b x g = IsG x g × Within b g

exact_mul : {b c : ℕ} {x y : Cx floats} {g h : Cx whole} → 2 * (b * c) ≤ 2 ^ 53 → ExactC b x g → ExactC c y h → ExactC (2 * (b * c)) (mul_c floats x y) (mul_c whole g h)
exact_mul l p q = (is_product p.0 q.0 p.1 q.1 l, within_mul p.1 q.1)

exact_conj : {b : ℕ} {x : Cx floats} {g : Cx whole} → ExactC b x g → ExactC b (conj_c floats x) (conj_c whole g)
exact_conj p = (is_conjugate p.0, within_conj p.1)

exact_unit : (n : ℕ) → ExactC 1 (unit_c floats n) (unit_c whole n)
exact_unit n = (is_power n, within_unit n)

exact_add : {b c : ℕ} {x y : Cx floats} {g h : Cx whole} → b + c ≤ 2 ^ 53 → ExactC b x g → ExactC c y h → ExactC (b + c) (add_c floats x y) (add_c whole g h)
exact_add l p q = let w = within_add p.1 q.1 in (is_sum p.0 q.0 (within_mono l w), w)

exact_zero : ExactC 0 (zero_c floats) (zero_c whole)
exact_zero = (record { re = is_nought_lem; im = is_nought_lem }, record { re = lit≤ tt; im = lit≤ tt })

-- ---- the product of two operators, thinned: the same words, and exactly the same numbers
pub formed_exact : (A B : List (Onto floats pauli)) (G H : List (Onto whole pauli)) → length A ≤ 16 → length B ≤ 16 → Exactly 256 A G → Exactly 256 B H
    → Exactly (2 ^ 26) (formed_over floats pauli A B) (formed_over whole pauli G H)
formed_exact A B G H la lb a b =
    like_formed floats whole pauli (λ _. ExactC (2 ^ 18)) (λ n _. ExactC (n * 2 ^ 18)) 256
    (λ w x g q. exact_add (lit≤ tt) exact_zero q)
    (λ n l w v x x' g g' r q.
    let s = exact_add (omega arith) r q in
    (s.0, within_mono (omega arith) s.1))
    (λ m n l w x g r. (r.0, within_mono (mul-le-mul_right (2 ^ 18) l) r.1))
    (λ _. ExactC 256) (λ _. ExactC 256)
    (λ v w x x' g g' p q. exact_mul (lit≤ tt) (exact_mul (lit≤ tt) (exact_conj p) q) (exact_unit _))
    (λ w x g r. small_is r.0 r.1)
    A B G H (mul-le-mul la lb) a b

-- ---- the other compiled numbers
-- g × c × c
pub rate_exact : {g c : Float} {z y : ℤ} → Is g z → nat_abs z ≤ 256 → Is c y → nat_abs y ≤ 256
    → Is (floats.times (floats.times g c) c) (whole.times (whole.times z y) y) × (nat_abs (whole.times (whole.times z y) y) ≤ 2 ^ 24)
rate_exact {z} {y} p l q k =
    let one = times z y l k in
    let two = times (z ⊠ y) y one k in
    (is_mul (is_mul p q (le_trans one (lit≤ tt))) q (le_trans two (lit≤ tt)), two)

-- the conjugate of a × b × K
pub factor_exact : {a b k : Cx floats} {g h z : Cx whole} → IsG a g → Within 256 g → IsG b h → Within 256 h → IsG k z → Within 256 z
    → IsG (mul_c floats (mul_c floats (conj_c floats a) b) k) (mul_c whole (mul_c whole (conj_c whole g) h) z) × Within (2 ^ 26) (mul_c whole (mul_c whole (conj_c whole g) h) z)
factor_exact a g b h k z = exact_mul (lit≤ tt) (exact_mul (lit≤ tt) (exact_conj (a, g)) (b, h)) (k, z)

-- K × a number of a product
pub product_exact : {k c : Cx floats} {z g : Cx whole} → IsG k z → Within 256 z → IsG c g → Within (2 ^ 26) g
    → IsG (mul_c floats k c) (mul_c whole z g) × Within (2 ^ 35) (mul_c whole z g)
product_exact k z c g = exact_mul (lit≤ tt) (k, z) (c, g)
