-- SPDX-FileCopyrightText: 2026 The PPVM Authors
-- SPDX-License-Identifier: Apache-2.0

-- What an action adds stays finite: from numbers in range and compiled numbers of at most 2^620, each value that a rule adds
-- is at most 2^822, and however many of them are added onto a word, their sum is at most 2^876. Assumes nothing.
use mathlib.Core.Path.{ap, ap₂}
use mathlib.Core.List.{List, []}
use Prim.Native.Nat.{ℕ, ◌+◌, ◌≤◌}
use native.Mathlib.Omega.{arith}
use lib.Dec.{T, lit≤, lit<}
use lib.Ieee.{Float}
use lib.ListN.{length}
use Rattle.number.specs.Numbers.{Cx, add_c, neg_c, mul_c, conj_c, zero_c, real_c, unit_c}
use Rattle.number.specs.Floats.{floats, is_finite}
use Rattle.number.specs.Bounds.{AtMost, AtMostC}
use Rattle.number.proofs.RangeLaws.{at_most_finite, at_most_neg, at_most_mul, at_most_nought, at_most_unit, at_most_two, at_most_c_mono, at_most_c_mul, at_most_c_neg, at_most_c_conj, at_most_c_real, at_most_c_unit, at_most_c_settled}
use Rattle.gksl.specs.Table.{put_all_over}
use Rattle.gksl.specs.Words.{pauli}
use Rattle.model.specs.Terms.{Term}
use Rattle.lent.specs.Every.{Every}
use Rattle.lent.proofs.Lists.{every_weaken}
use Rattle.model_laws.proofs.RelatedLaws.{like_put_all, Own, every_like, like_every}

-- ---- the value that each rule adds
-- a Hamiltonian term's coefficient, or plus or minus the imaginary part of a pair's stored product, × a factor of ±2
pub factored_value : {x f : Float} → AtMost 620 x → AtMost 1 f → AtMostC 822 (real_c floats (floats.times x f))
factored_value p q = at_most_c_mono (lit≤ tt) (at_most_c_real (at_most_mul (lit≤ tt) p q))

-- Pauli: −2 × the stored rate
pub pauli_value : {g f : Float} → AtMost 1 f → AtMost 620 g → AtMostC 822 (real_c floats (floats.times f g))
pauli_value p q = at_most_c_mono (lit≤ tt) (at_most_c_real (at_most_mul (lit≤ tt) p q))

-- general: the conjugate of a × b × i^phase × rate
pub sandwich_value : {a b : Cx floats} {g : Float} (n : ℕ) → AtMostC 200 a → AtMostC 200 b → AtMost 200 g
    → AtMostC 822 (mul_c floats (mul_c floats (mul_c floats (conj_c floats a) b) (unit_c floats n)) (real_c floats g))
sandwich_value n p q r = at_most_c_mono (lit≤ tt) (at_most_c_mul (lit< tt) (at_most_c_mul (lit< tt) (at_most_c_mul (lit< tt) (at_most_c_conj p) q) (at_most_c_unit n)) (at_most_c_real r))

-- minus a word's number × rate × sign
pub product_value : {c : Cx floats} {g s : Float} → AtMostC 620 c → AtMost 200 g → AtMost 0 s
    → AtMostC 822 (mul_c floats (mul_c floats (neg_c floats c) (real_c floats g)) (real_c floats s))
product_value p q r = at_most_c_mul (lit< tt) (at_most_c_mul (lit< tt) (at_most_c_neg p) (at_most_c_real q)) (at_most_c_real r)

-- a pair's stored factor × i^phase, and twice its real part
pub factor_value : {f : Cx floats} (n : ℕ) → AtMostC 620 f → AtMostC 822 (mul_c floats f (unit_c floats n))
factor_value n p = at_most_c_mono (lit≤ tt) (at_most_c_mul (lit< tt) p (at_most_c_unit n))

pub twice_value : {f : Cx floats} {d : Float} (n : ℕ) → AtMost 1 d → AtMostC 620 f → AtMostC 822 (real_c floats (floats.times d (mul_c floats f (unit_c floats n)).re))
twice_value n p q = at_most_c_mono (lit≤ tt) (at_most_c_real (at_most_mul (lit≤ tt) p (at_most_c_mul (lit< tt) q (at_most_c_unit n)).re))

-- minus a stored product's number × sign, and minus 2 × real part × sign
pub diagonal_value : {c : Cx floats} {s : Float} → AtMostC 620 c → AtMost 0 s → AtMostC 822 (neg_c floats (mul_c floats c (real_c floats s)))
diagonal_value p q = at_most_c_mono (lit≤ tt) (at_most_c_neg (at_most_c_mul (lit< tt) p (at_most_c_real q)))

pub both_value : {c : Cx floats} {d s : Float} → AtMost 1 d → AtMostC 620 c → AtMost 0 s → AtMostC 822 (real_c floats (floats.opposite (floats.times (floats.times d c.re) s)))
both_value p q r = at_most_c_mono (lit≤ tt) (at_most_c_real (at_most_neg (at_most_mul (lit≤ tt) (at_most_mul (lit≤ tt) p q.re) r)))

-- the factors themselves
pub sign_minus : AtMost 0 (floats.opposite floats.unit)
sign_minus = at_most_neg at_most_unit

pub two_minus : AtMost 1 (floats.opposite floats.two)
two_minus = at_most_neg at_most_two

-- ---- sums: however many numbers of at most 2^b are put to a table, each of its numbers is at most 2^(b + 54)
pub sums_settled : (b : ℕ) → b ≤ 969 → (A T : List Term) → Every (λ a. AtMostC b a.num) A → Every (λ c. AtMostC (b + 54) c.num) T
    → Every (λ c. AtMostC (b + 54) c.num) (put_all_over floats pauli A T)
sums_settled b l A T a t =
    like_every floats pauli (λ _ z. AtMostC (b + 54) z) (put_all_over floats pauli A T) (put_all_over floats pauli A T)
    (like_put_all floats floats pauli (Own floats pauli (λ _ z. AtMostC b z)) (λ _. Own floats pauli (λ _ z. AtMostC (b + 54) z)) (length A)
    (λ w x y q. (ap (add_c floats (zero_c floats)) q.0, at_most_c_settled l (at_most_c_real (at_most_nought (b + 54))) q.1))
    (λ n _ w v x x' y y' r q. (ap₂ (add_c floats) r.0 q.0, at_most_c_settled l r.1 q.1))
    (λ _ _ _ w x y r. r)
    A A (every_like floats pauli (λ _ z. AtMostC b z) A a) 0 (omega arith) T T (every_like floats pauli (λ _ z. AtMostC (b + 54) z) T t))

-- a sum of what the rules add is finite
pub sums_finite : (A : List Term) → Every (λ a. AtMostC 822 a.num) A → Every (λ c. T (is_finite c.num.re) × T (is_finite c.num.im)) (put_all_over floats pauli A [])
sums_finite A a =
    every_weaken (λ c. AtMostC 876 c.num) _ (λ c s. (at_most_finite s.re, at_most_finite s.im)) (put_all_over floats pauli A [])
    (sums_settled 822 (lit≤ tt) A [] a tt)
