-- SPDX-FileCopyrightText: 2026 The PPVM Authors
-- SPDX-License-Identifier: Apache-2.0

-- The weight of a list over the whole numbers, the sum of its numbers' sizes: putting a list to a table adds at most its weight,
-- so sums over f64 are exact while the weights stay within 2 ^ 53. Assumes nothing.
use mathlib.Core.Path.{◌≡◌, sym, ap₂}
use mathlib.Core.Bool.{Bool, true, false, cond}
use mathlib.Core.List.{List, [], ◌∷◌, ◌++◌}
use Prim.Native.Nat.{ℕ, ◌+◌, ◌^◌, ◌≤◌}
use native.Mathlib.Omega.{arith}
use native.Mathlib.Nat.{le_refl}
use Rattle.number.specs.Numbers.{Cx, add_c, zero_c}
use Rattle.number.specs.Whole.{whole}
use Rattle.number.specs.Floats.{floats}
use Rattle.number.specs.Exact.{IsG, Within}
use Rattle.gksl.specs.Operator.{Onto, Op}
use Rattle.gksl.specs.Table.{put_over, put_all_over, without_over}
use Rattle.gksl.specs.Words.{pauli}
use Rattle.model.specs.Terms.{Term}
use Rattle.lent.specs.Every.{Every}
use Rattle.lent.proofs.Lists.{every_weaken}
use Rattle.model_laws.specs.Related.{Like}
use Rattle.action_laws.proofs.WholeSizes.{size, size_within, size_add, sized_sum, sized_zero}

unfoldable pub weight : Op pauli → ℕ
weight [] = 0
weight (c ∷ A) = size c.num + weight A

pub weight_append : (A B : Op pauli) → weight (A ++ B) ≡ weight A + weight B
unfolding weight
weight_append [] B = omega arith
weight_append (c ∷ A) B = omega (arith, weight_append A B)

-- each number is within the weight
pub weight_within : (A : Op pauli) → Every (λ c. Within (weight A) c.num) A
unfolding weight
weight_within [] = tt
weight_within (c ∷ A) =
    (size_within (omega arith), every_weaken (λ d. Within (weight A) d.num) (λ d. Within (size c.num + weight A) d.num) (λ d w. record { re = omega (arith, w.re); im = omega (arith, w.im) }) A (weight_within A))

-- ---- tables
zero_size : (g : Cx whole) → size (add_c whole (zero_c whole) g) ≤ size g
zero_size g = omega (arith, size_add (zero_c whole) g, sized_zero.most)

weight_put : (u : Onto whole pauli) (U : Op pauli) → weight (put_over whole pauli u U) ≤ size u.num + weight U
unfolding weight put_over
weight_put u [] = omega (arith, zero_size u.num)
weight_put u (d ∷ U) = go (pauli.alike d.word u.word) (pauli.below u.word d.word) (weight_put u U)
  where
    go : (a b : Bool) → weight (put_over whole pauli u U) ≤ size u.num + weight U
        → weight (cond a (record { num = add_c whole d.num u.num; word = d.word } ∷ U) (cond b (record { num = add_c whole (zero_c whole) u.num; word = u.word } ∷ (d ∷ U)) (d ∷ put_over whole pauli u U)))
        ≤ size u.num + (size d.num + weight U)
    go true b k = omega (arith, size_add d.num u.num)
    go false true k = omega (arith, zero_size u.num)
    go false false k = omega (arith, k)

pub weight_put_all : (G U : Op pauli) → weight (put_all_over whole pauli G U) ≤ weight G + weight U
unfolding weight put_all_over
weight_put_all [] U = omega arith
weight_put_all (u ∷ G) U = omega (arith, weight_put u U, weight_put_all G (put_over whole pauli u U))

pub weight_without : (drop : Onto whole pauli → Bool) (U : Op pauli) → weight (without_over whole pauli drop U) ≤ weight U
unfolding weight without_over
weight_without drop [] = omega arith
weight_without drop (d ∷ U) = go (drop d) (weight_without drop U)
  where
    go : (b : Bool) → weight (without_over whole pauli drop U) ≤ weight U → weight (cond b (without_over whole pauli drop U) (d ∷ without_over whole pauli drop U)) ≤ size d.num + weight U
    go true k = omega (arith, k)
    go false k = omega (arith, k)

-- ---- the same words over f64, and exactly the numbers
abbrev pub Alike : List Term → Op pauli → Type 0
Alike = Like floats whole pauli (λ _ x g. IsG x g)

exact_sum : {x y : Cx floats} {g h : Cx whole} → IsG x g → IsG y h → size g + size h ≤ 2 ^ 53 → IsG (add_c floats x y) (add_c whole g h)
exact_sum {g} {h} p q l = sized_sum l (record { value = p; most = le_refl (size g) }) (record { value = q; most = le_refl (size h) })

module _ (t : Term) (u : Onto whole pauli) (e : t.word ≡ u.word) (q : IsG t.num u.num) where
  fresh : size u.num ≤ 2 ^ 53 → IsG (add_c floats (zero_c floats) t.num) (add_c whole (zero_c whole) u.num)
  fresh l = exact_sum sized_zero.value q (omega (arith, l, sized_zero.most))

  alike_put : (T : List Term) (U : Op pauli) → Alike T U → size u.num + weight U ≤ 2 ^ 53 → Alike (put_over floats pauli t T) (put_over whole pauli u U)
  unfolding weight put_over
  alike_put [] [] h l = (e, fresh (omega (arith, l)), tt)
  alike_put [] (d ∷ U) h l = absurd h
  alike_put (c ∷ T) [] h l = absurd h
  alike_put (c ∷ T) (d ∷ U) h l =
      rw (ap₂ pauli.alike (sym h.0) (sym e), ap₂ pauli.below (sym e) (sym h.0))
      (go (pauli.alike c.word t.word) (pauli.below t.word c.word) (alike_put T U h.2 (omega (arith, l))))
    where
      go : (a b : Bool) → Alike (put_over floats pauli t T) (put_over whole pauli u U)
          → Alike
          (cond a (record { num = add_c floats c.num t.num; word = c.word } ∷ T) (cond b (record { num = add_c floats (zero_c floats) t.num; word = t.word } ∷ (c ∷ T)) (c ∷ put_over floats pauli t T)))
          (cond a (record { num = add_c whole d.num u.num; word = d.word } ∷ U) (cond b (record { num = add_c whole (zero_c whole) u.num; word = u.word } ∷ (d ∷ U)) (d ∷ put_over whole pauli u U)))
      go true b k = (h.0, exact_sum h.1 q (omega (arith, l)), h.2)
      go false true k = (e, fresh (omega (arith, l)), h)
      go false false k = (h.0, h.1, k)

pub alike_put_all : (A : List Term) (G : Op pauli) → Alike A G → (T : List Term) (U : Op pauli) → Alike T U → weight G + weight U ≤ 2 ^ 53
    → Alike (put_all_over floats pauli A T) (put_all_over whole pauli G U)
unfolding weight put_all_over
alike_put_all [] [] h T U k l = k
alike_put_all [] (u ∷ G) h T U k l = absurd h
alike_put_all (t ∷ A) [] h T U k l = absurd h
alike_put_all (t ∷ A) (u ∷ G) h T U k l =
    alike_put_all A G h.2 (put_over floats pauli t T) (put_over whole pauli u U) (alike_put t u h.0 h.1 T U k (omega (arith, l))) (omega (arith, l, weight_put u U))
