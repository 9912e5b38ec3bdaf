-- SPDX-FileCopyrightText: 2026 The PPVM Authors
-- SPDX-License-Identifier: Apache-2.0

-- What a word of a pair's product adds: nothing, or one term. Assumes nothing.
use mathlib.Core.Path.{◌≡◌, refl, sym, ap, ◌∙◌}
use mathlib.Core.Bool.{true, false}
use mathlib.Core.List.{List, [], ◌∷◌}
use Prim.Native.Nat.{ℕ, zero, suc, ◌%◌}
use native.Mathlib.Omega.{arith}
use lib.Ieee.{Float, binary64, of_bits, eq, mul, neg}
use Rattle.word.specs.Product.{phase, product, factor, commutator}
use Rattle.word.specs.Product as Words
use Rattle.word.specs.declared.word.Word.{Word}
use Rattle.word.specs.declared.algebra.Phased.{Phased}
use Rattle.word.specs.declared.algebra.CommProduct.{CommProduct}
use Rattle.word.proofs.WordLaws.{phase_lt}
use Rattle.number.specs.Numbers.{Cx, mul_c, neg_c, real_c, unit_c}
use Rattle.number.specs.Floats.{floats, float0, float2, cx}
use Rattle.number.specs.declared.scalar.Complex.{Complex}
use Rattle.gksl.specs.Rules.{signed, factored}
use Rattle.gksl.specs.Words.{pauli}
use Rattle.model.specs.Terms.{Term}
use Rattle.model.proofs.TermLaws.{onto_eq}
use Rattle.rule_terms.specs.Adds.{diagonal, both_sides, one_side}
use Rattle.rule_terms.proofs.AddLaws.{false_true, factored_none, factored_one}

abbrev term : Cx floats → Word → Term
term z w = record { num = z; word = w }

-- ---- the real part of i^phase is the sign, 0 where the phase is odd
module _ (f : Float → Cx floats) (w : Word) where
  signed_none : (n : ℕ) → eq (unit_c floats n).re float0 ≡ true → signed floats pauli n f w ≡ []
  unfolding signed unit_c eq neg of_bits
  signed_none zero e = absurd (false_true e)
  signed_none (suc zero) e = refl
  signed_none (suc (suc zero)) e = absurd (false_true e)
  signed_none (suc (suc (suc n))) e = refl

  signed_one : (n : ℕ) → eq (unit_c floats n).re float0 ≡ false → signed floats pauli n f w ≡ term (f (unit_c floats n).re) w ∷ []
  unfolding signed unit_c eq of_bits
  signed_one zero e = refl
  signed_one (suc zero) e = absurd (false_true (sym e))
  signed_one (suc (suc zero)) e = refl
  signed_one (suc (suc (suc n))) e = absurd (false_true (sym e))

module _ (p : Word) (c : Term) where
  abbrev turns : ℕ
  turns = phase c.word p % 4

  abbrev sign : Float
  sign = (unit_c floats turns).re

  module _ (r : Phased) (u : Complex) (hr : r ≡ product c.word p) (hu : cx u ≡ unit_c floats (r.phase % 4)) where
    sign_is : u.re ≡ sign
    sign_is = ap (λ (z : Cx floats). z.re) hu ∙ ap (λ (k : Phased). (unit_c floats (k.phase % 4)).re) hr

    module _ (f : Float → Cx floats) where
      abbrev own : List Term
      own = signed floats pauli turns f (Words.mul c.word p)

      sign_none : eq u.re float0 ≡ true → own ≡ []
      sign_none e = signed_none f (Words.mul c.word p) turns (ap (λ (x : Float). eq x float0) (sym sign_is) ∙ e)

      sign_one : eq u.re float0 ≡ false → (z : Complex) → cx z ≡ f u.re → own ≡ term (cx z) r.word ∷ []
      sign_one e z hz =
          signed_one f (Words.mul c.word p) turns (ap (λ (x : Float). eq x float0) (sym sign_is) ∙ e)
          ∙ ap (λ (t : Term). t ∷ []) (sym (onto_eq (hz ∙ ap f sign_is) (ap (λ (k : Phased). k.word) hr)))

    -- ---- a diagonal pair
    pub diagonal_none : eq u.re float0 ≡ true → diagonal p c ≡ []
    unfolding diagonal
    diagonal_none e = sign_none (λ s. neg_c floats (mul_c floats c.num (real_c floats s))) e

    pub diagonal_one : eq u.re float0 ≡ false → (x y z : Complex) → cx x ≡ real_c floats u.re → cx y ≡ mul_c floats c.num (cx x) → cx z ≡ neg_c floats (cx y)
        → diagonal p c ≡ term (cx z) r.word ∷ []
    unfolding diagonal
    diagonal_one e x y z hx hy hz = sign_one (λ s. neg_c floats (mul_c floats c.num (real_c floats s))) e z (hz ∙ ap (neg_c floats) (hy ∙ ap (mul_c floats c.num) hx))

    -- ---- p on both sides
    pub both_none : floats.slight c.num.re ≡ false → eq u.re float0 ≡ true → both_sides p c ≡ []
    unfolding both_sides
    both_none h e = rw h (sign_none (λ s. real_c floats (neg (mul binary64 (mul binary64 float2 c.num.re) s))) e)

    pub both_one : floats.slight c.num.re ≡ false → eq u.re float0 ≡ false → (z : Complex) → cx z ≡ real_c floats (neg (mul binary64 (mul binary64 float2 c.num.re) u.re))
        → both_sides p c ≡ term (cx z) r.word ∷ []
    unfolding both_sides
    both_one h e z hz = rw h (sign_one (λ s. real_c floats (neg (mul binary64 (mul binary64 float2 c.num.re) s))) e z hz)

  pub both_slight : floats.slight c.num.re ≡ true → both_sides p c ≡ []
  unfolding both_sides
  both_slight h = rw h

  -- ---- p on one side
  module _ (f : Float → Float) where
    pub one_slight : floats.slight c.num.im ≡ true → one_side p f c ≡ []
    unfolding one_side
    one_slight h = rw h

    turns_own : turns ≡ phase c.word p
    turns_own = omega (arith, phase_lt c.word p)

    one_is : floats.slight c.num.im ≡ false → one_side p f c ≡ factored floats pauli (phase c.word p) (f c.num.im) (Words.mul c.word p)
    unfolding one_side
    one_is h = rw (h, turns_own)

    module _ (h : floats.slight c.num.im ≡ false) (k : CommProduct) (hk : k ≡ commutator c.word p) where
      eps_is : eq (factor (phase c.word p)) float0 ≡ eq k.eps float0
      eps_is = ap (λ (m : CommProduct). eq m.eps float0) (sym hk)

      pub one_none : eq k.eps float0 ≡ true → one_side p f c ≡ []
      one_none e = one_is h ∙ factored_none (f c.num.im) (Words.mul c.word p) (phase c.word p) (eps_is ∙ e)

      pub one_one : eq k.eps float0 ≡ false → (y : Float) (z : Complex) → y ≡ f c.num.im → cx z ≡ real_c floats (mul binary64 y k.eps) → one_side p f c ≡ term (cx z) k.word ∷ []
      one_one e y z hy hz =
          one_is h ∙ factored_one (f c.num.im) (Words.mul c.word p) (phase c.word p) (eps_is ∙ e)
          ∙ ap (λ (t : Term). t ∷ [])
          (sym (onto_eq (hz ∙ ap (λ (v : Float). real_c floats (mul binary64 v k.eps)) hy ∙ ap (λ (m : CommProduct). real_c floats (mul binary64 (f c.num.im) m.eps)) hk) (ap (λ (m : CommProduct). m.word) hk)))
