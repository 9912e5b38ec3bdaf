-- SPDX-FileCopyrightText: 2026 The PPVM Authors
-- SPDX-License-Identifier: Apache-2.0

-- Building never makes a number above 2^620: from numbers in range, a Pauli's rate, the factors of a pair, and the product of
-- two operators of at most 16 terms, before and after K. Assumes nothing.
use mathlib.Core.Path.{◌≡◌, ap, ap₂}
use mathlib.Core.Bool.{true}
use mathlib.Core.List.{List}
use Prim.Native.Nat.{ℕ, ◌*◌, ◌%◌, ◌^◌, ◌≤◌}
use native.Mathlib.Nat.{mul-le-mul, mul-le-mul_right}
use native.Mathlib.Omega.{arith}
use lib.Dec.{lit≤, lit<}
use lib.Ieee.{Float}
use lib.ListN.{length}
use Rattle.word.specs.Product.{mul, phase}
use Rattle.word.specs.declared.word.Word.{Word}
use Rattle.number.specs.Numbers.{Cx, add_c, mul_c, conj_c, zero_c, square, unit_c}
use Rattle.number.specs.Floats.{floats, in_range, bounded}
use Rattle.number.specs.Bounds.{UpToC, AtMostC}
use Rattle.number.proofs.RangeLaws.{in_range_at_most, at_most_bounded, at_most_mul, at_most_c_mul, at_most_c_conj, at_most_c_unit, up_to_c_nought, up_to_c_more, up_to_c_mono, up_to_c_at_most}
use Rattle.gksl.specs.Rules.{formed_over}
use Rattle.gksl.specs.Words.{pauli}
use Rattle.model.specs.Terms.{Term}
use Rattle.model.specs.Stands.{InRange, Bounded}
use Rattle.lent.specs.Every.{Every}
use Rattle.lent.proofs.Lists.{every_weaken}
use Rattle.model_laws.proofs.RelatedLaws.{like_formed, Own, every_like, like_every}

pub in_range_at_most_c : {z : Cx floats} → InRange z → AtMostC 200 z
in_range_at_most_c {z} h = record { re = in_range_at_most z.re h.re; im = in_range_at_most z.im h.im }

pub at_most_c_bounded : {k : ℕ} {z : Cx floats} → k ≤ 620 → AtMostC k z → Bounded z
at_most_c_bounded l h = record { re = at_most_bounded l h.re; im = at_most_bounded l h.im }

-- ---- the product of two operators, with what is kept by products of words
module _ (W : Word → Type 0) (closed : (v w : Word) → W v → W w → W (mul v w)) where
  -- a term's word and number, and those of a sum of n products
  abbrev Sum : ℕ → Word → Cx floats → Type 0
  Sum n w z = W w × UpToC (n * 2 ^ 402) z

  pub formed_bound : (A B : List Term) → length A ≤ 16 → length B ≤ 16 → Every (λ a. W a.word × AtMostC 200 a.num) A → Every (λ b. W b.word × AtMostC 200 b.num) B
      → Every (λ c. W c.word × AtMostC 410 c.num) (formed_over floats pauli A B)
  formed_bound A B la lb a b =
      let few : length A * length B ≤ 256 = mul-le-mul la lb in
      every_weaken (λ c. Sum 256 c.word c.num) (λ c. W c.word × AtMostC 410 c.num) (λ c s. (s.0, up_to_c_at_most s.1)) (formed_over floats pauli A B)
      (like_every floats pauli (Sum 256) (formed_over floats pauli A B) (formed_over floats pauli A B)
      (like_formed floats floats pauli (Own floats pauli (λ w z. W w × AtMostC 402 z)) (λ n. Own floats pauli (Sum n)) 256
      (λ w x y q. (ap (add_c floats (zero_c floats)) q.0, (q.1.0, up_to_c_more {m = 0} (lit< tt) (lit≤ tt) (up_to_c_nought 0) q.1.1)))
      (λ n l w v x x' y y' r q. (ap₂ (add_c floats) r.0 q.0, (r.1.0, up_to_c_more (omega arith) (lit≤ tt) r.1.1 q.1.1)))
      (λ m n l w x y r. (r.0, (r.1.0, up_to_c_mono (mul-le-mul_right (2 ^ 402) l) r.1.1)))
      (Own floats pauli (λ w z. W w × AtMostC 200 z)) (Own floats pauli (λ w z. W w × AtMostC 200 z))
      (λ v w x x' y y' p q. (
        ap₂ (λ (z z' : Cx floats). mul_c floats (mul_c floats (conj_c floats z) z') (unit_c floats (phase v w % 4))) p.0 q.0,
        (closed v w p.1.0 q.1.0, at_most_c_mul (lit< tt) (at_most_c_mul (lit< tt) (at_most_c_conj p.1.1) q.1.1) (at_most_c_unit (phase v w % 4))),
      ))
      (λ w x y r. ap (λ (z : Cx floats). floats.small (square floats z)) r.0)
      A B A B few
      (every_like floats pauli (λ w z. W w × AtMostC 200 z) A a) (every_like floats pauli (λ w z. W w × AtMostC 200 z) B b)))

-- ---- the other compiled numbers
-- g × c × c
pub rate_bounded : (g c : Float) → in_range g ≡ true → in_range c ≡ true → bounded (floats.times (floats.times g c) c) ≡ true
rate_bounded g c p q =
    at_most_bounded (lit≤ tt) (at_most_mul {j = 400} {k = 200} (lit≤ tt) (at_most_mul {j = 200} {k = 200} (lit≤ tt) (in_range_at_most g p) (in_range_at_most c q)) (in_range_at_most c q))

-- the conjugate of a × b × K
pub factor_bounded : {a b k : Cx floats} → AtMostC 200 a → AtMostC 200 b → AtMostC 200 k → Bounded (mul_c floats (mul_c floats (conj_c floats a) b) k)
factor_bounded p q r = at_most_c_bounded (lit≤ tt) (at_most_c_mul (lit< tt) (at_most_c_mul (lit< tt) (at_most_c_conj p) q) r)

-- K × a number of a product
pub product_bounded : {k c : Cx floats} → AtMostC 200 k → AtMostC 410 c → Bounded (mul_c floats k c)
product_bounded p q = at_most_c_bounded (lit≤ tt) (at_most_c_mul (lit< tt) p q)
