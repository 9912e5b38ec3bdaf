-- SPDX-FileCopyrightText: 2026 The PPVM Authors
-- SPDX-License-Identifier: Apache-2.0

-- What a course that is not refused leaves: the words given, those that entered, and the given numbers evolved once. Assumes nothing.
use mathlib.Core.Path.{◌≡◌, refl, sym, ap, subst, ◌∙◌}
use mathlib.Core.Bool.{Bool, true, false, cond}
use mathlib.Core.List.{List, [], ◌∷◌, ◌++◌, append_assoc}
use Prim.Native.Nat.{ℕ, ◌+◌}
use native.Mathlib.Omega.{arith}
use lib.Dec.{eqb}
use lib.Ieee.{Float}
use lib.ListN.{length}
use Rattle.refusal.specs.declared.Refusal.{Refusal}
use Rattle.word.specs.declared.word.Word.{Word}
use Rattle.lent.specs.Read.{Read, got, refused, onward}
use Rattle.step_laws.specs.Steps.{Outcome, Stepped, with_zeros, second_hop, corrector, predictor, course_by}
use Rattle.step_laws.specs.Kept.{FromGiven}

module _ {A : Type 0} where
  pub no_value : (q : Refusal) (a : A) → refused q ≡ got a → ⊥
  no_value q a e = let z : ◌≡◌ {A = ℕ} 0 1 = cc in omega arith

  pub same_value : (a b : A) → got a ≡ got b → a ≡ b
  same_value a b e = cc

  pub same_refused : (q r : Refusal) → ◌≡◌ {A = Read A} (refused q) (refused r) → q ≡ r
  same_refused q r e = cc

-- ---- what went on: the value before, and what followed it
pub record Through {A B : Type 0} (r : Read A) (f : A → Read B) (b : B) : Type 0 where
  pub value : A
  pub before : r ≡ got value
  pub behind : f value ≡ got b

pub through : {A B : Type 0} (r : Read A) (f : A → Read B) (b : B) → onward r f ≡ got b → Through r f b
through (got a) f b e = record { value = a; before = refl; behind = e }
through (refused q) f b e = absurd (no_value q b e)

end : (l : List Word) → l ++ [] ≡ l
end [] = refl
end (x ∷ l) = ap (λ (r : List Word). x ∷ r) (end l)

module _ (entering : List Word → List Float → Read (List Word)) (evolving : List Word → List Float → Read Outcome) (limit : ℕ) (cs : List Float) where
  corrector_leaves : (ws : List Word) (predicted : Outcome) (second : List Word) (s : Stepped) → evolving ws (with_zeros cs ws) ≡ got predicted
      → corrector entering evolving limit cs ws predicted second ≡ got s → FromGiven evolving ws cs s
  unfolding corrector
  corrector_leaves ws predicted second s given e = go (eqb (length second) 0) e
    where
      go : (b : Bool) → cond b (got (record { words = ws; numbers = predicted.numbers; products = predicted.products }))
          (onward (evolving (ws ++ second) (with_zeros cs (ws ++ second)))
          (λ corrected. got (record { words = ws ++ second; numbers = corrected.numbers; products = predicted.products + corrected.products }))) ≡ got s → FromGiven evolving ws cs s
      go true e = subst (FromGiven evolving ws cs) (same_value _ s e) (record { entered = []; words_are = sym (end ws); last = predicted; evolves = given; numbers_are = refl })
      go false e =
          let t = through (evolving (ws ++ second) (with_zeros cs (ws ++ second))) _ s e in
          subst (FromGiven evolving ws cs) (same_value _ s t.behind) (record { entered = second; words_are = refl; last = t.value; evolves = t.before; numbers_are = refl })

  predictor_leaves : (ws : List Word) (s : Stepped) → predictor entering evolving limit cs ws ≡ got s → FromGiven evolving ws cs s
  unfolding predictor
  predictor_leaves ws s e =
      let t = through (evolving ws (with_zeros cs ws)) _ s e in
      let u = through (second_hop entering evolving limit ws t.value.numbers) (corrector entering evolving limit cs ws t.value) s t.behind in
      corrector_leaves ws t.value u.value s t.before u.behind

  pub course_leaves : (ws : List Word) (s : Stepped) → course_by entering evolving limit ws cs ≡ got s → FromGiven evolving ws cs s
  unfolding course_by
  course_leaves ws s e =
      let t = through (entering ws cs) (λ (first : List Word). predictor entering evolving limit cs (ws ++ first)) s e in
      let f = predictor_leaves (ws ++ t.value) s t.behind in
      record {
        entered = t.value ++ f.entered;
        words_are = f.words_are ∙ append_assoc ws t.value f.entered;
        last = f.last;
        evolves = f.evolves;
        numbers_are = f.numbers_are;
      }
