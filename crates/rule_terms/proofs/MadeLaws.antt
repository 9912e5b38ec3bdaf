-- SPDX-FileCopyrightText: 2026 The PPVM Authors
-- SPDX-License-Identifier: Apache-2.0

-- A sandwich and a factor as the code makes them, number by number, are those of the rules.
use mathlib.Core.Path.{◌≡◌, ap, ap₂, ◌∙◌}
use Prim.Native.Nat.{◌+◌, ◌%◌}
use lib.Ieee.{Float, binary64, mul}
use Rattle.word.specs.Product.{product}
use Rattle.word.specs.Product as Words
use Rattle.word.specs.declared.word.Word.{Word}
use Rattle.word.specs.declared.algebra.Phased.{Phased}
use Rattle.number.specs.Numbers.{Cx, mul_c, conj_c, real_c, unit_c}
use Rattle.number.specs.Floats.{floats, float2, cx}
use Rattle.number.specs.declared.scalar.Complex.{Complex}
use Rattle.model.specs.Terms.{Term}
use Rattle.model.proofs.TermLaws.{onto_eq}
use Rattle.model.specs.declared.term.Term as Stored
use Rattle.rule_terms.specs.Adds.{folded, doubled}
use Rattle.rule_terms.specs.Steps.{sandwich_from}
use Rattle.model.specs.Between.{onto}

-- ---- a sandwich
pub sandwich_made : (a b : Stored.Term) (l : Phased) (g : Float) (r : Phased) (c m u t v n : Complex)
    → r ≡ product l.word b.word
    → cx c ≡ conj_c floats (cx a.number)
    → cx m ≡ mul_c floats (cx c) (cx b.number)
    → cx u ≡ unit_c floats ((l.phase + r.phase) % 4)
    → cx t ≡ mul_c floats (cx m) (cx u)
    → cx v ≡ real_c floats g
    → cx n ≡ mul_c floats (cx t) (cx v)
    → ◌≡◌ {A = Term} (record { num = cx n; word = r.word }) (sandwich_from l g (onto a) (onto b))
unfolding sandwich_from
sandwich_made a b l g r c m u t v n hr hc hm hu ht hv hn =
    onto_eq
    (hn ∙ ap₂ (mul_c floats) (ht ∙ ap₂ (mul_c floats) (hm ∙ ap (λ (z : Cx floats). mul_c floats z (cx b.number)) hc) (hu ∙ ap (λ (q : Phased). unit_c floats ((l.phase + q.phase) % 4)) hr)) hv)
    (ap (λ (q : Phased). q.word) hr)

-- ---- one factor
module _ (a p : Word) (left : Phased) (f : Term) (r : Phased) (u z : Complex) (hr : r ≡ product left.word f.word) (hu : cx u ≡ unit_c floats ((left.phase + r.phase) % 4)) (hz : cx z ≡ mul_c floats f.num (cx u)) (ha : left ≡ product a p) where
  pub folded_is : ◌≡◌ {A = Term} (record { num = cx z; word = r.word }) (folded p a f)
  unfolding folded
  folded_is =
      let both : r ≡ product (Words.mul a p) f.word = hr ∙ ap (λ (k : Phased). product k.word f.word) ha in
      onto_eq (hz ∙ ap (mul_c floats f.num) (hu ∙ ap₂ (λ (k m : Phased). unit_c floats ((k.phase + m.phase) % 4)) ha both)) (ap (λ (k : Phased). k.word) both)

  pub doubled_is : (y : Complex) → cx y ≡ real_c floats (mul binary64 float2 z.re) → ◌≡◌ {A = Term} (record { num = cx y; word = r.word }) (doubled p a f)
  unfolding doubled
  doubled_is y hy = onto_eq (hy ∙ ap (λ (t : Term). real_c floats (mul binary64 float2 t.num.re)) folded_is) (ap (λ (t : Term). t.word) folded_is)
