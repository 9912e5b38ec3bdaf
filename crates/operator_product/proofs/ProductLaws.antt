-- SPDX-FileCopyrightText: 2026 The PPVM Authors
-- SPDX-License-Identifier: Apache-2.0

-- Terms and their products, over plain values. Assumes nothing.
use mathlib.Core.Path.{◌≡◌, ap, ap₂, ◌∙◌}
use Prim.Native.Nat.{◌%◌}
use Rattle.word.specs.Product.{product}
use Rattle.word.specs.declared.algebra.Phased.{Phased}
use Rattle.number.specs.Numbers.{Cx, mul_c, conj_c, unit_c}
use Rattle.number.specs.Floats.{floats, cx}
use Rattle.number.specs.declared.scalar.Complex.{Complex}
use Rattle.gksl.specs.Operator.{Onto}
use Rattle.gksl.specs.Words.{pauli}
use Rattle.operator_product.specs.Product.{formed_term}
use Rattle.model.specs.declared.term.Term.{Term}
use Rattle.model.specs.Between.{onto}
use Rattle.model.proofs.TermLaws.{onto_eq}

pub formed : (a b : Term) (r : Phased) (c m u n : Complex)
    → r ≡ product a.word b.word
    → cx c ≡ conj_c floats (cx a.number)
    → cx m ≡ mul_c floats (cx c) (cx b.number)
    → cx u ≡ unit_c floats (r.phase % 4)
    → cx n ≡ mul_c floats (cx m) (cx u)
    → ◌≡◌ {A = Onto floats pauli} (record { num = cx n; word = r.word }) (formed_term (onto a) (onto b))
unfolding formed_term
formed a b r c m u n hr hc hm hu hn =
    onto_eq
    (hn ∙ ap₂ (mul_c floats) (hm ∙ ap (λ (z : Cx floats). mul_c floats z (cx b.number)) hc) (hu ∙ ap (λ (p : Phased). unit_c floats (p.phase % 4)) hr))
    (ap (λ (p : Phased). p.word) hr)
