-- SPDX-FileCopyrightText: 2026 The PPVM Authors
-- SPDX-License-Identifier: Apache-2.0

-- A model of whole numbers with parts of at most 256: its action over f64 lists exactly the numbers of the GKSL generator, each
-- word that has one once, in word order. Assumes nothing.
use mathlib.Core.Path.{◌≡◌, refl, sym, ap, ◌∙◌, subst}
use mathlib.Core.Bool.{Bool, true, false, cond, false≢true}
use mathlib.Core.List.{List, [], ◌∷◌}
use lib.IntN.{ℤ, pos}
use Rattle.word.specs.Order.{before, same}
use Rattle.word.specs.Word.{Sound}
use Rattle.word.specs.declared.word.Word.{Word}
use Rattle.word.proofs.OrderLaws.{before_self, same_eq}
use Rattle.number.specs.Whole.{◌⊞◌, whole}
use Rattle.number.specs.Floats.{floats}
use Rattle.number.specs.Exact.{Is}
use Rattle.number.proofs.ExactLaws.{is_nought_lem}
use Rattle.number.proofs.WholeLaws.{add_zero, zero_add}
use Rattle.gksl.specs.Operator.{Onto, Op, pick, coeff}
use Rattle.gksl.specs.Model.{ModelOver, AllModerate}
use Rattle.gksl.specs.Table.{put_all_over, without_over}
use Rattle.gksl.specs.Rules.{rules_over, action_over}
use Rattle.gksl.specs.Words.{pauli}
use Rattle.gksl.proofs.GaussLaws.{re_add}
use Rattle.gksl.proofs.AtWords.{action_is, action_real}
use Rattle.sums.specs.Sums.{AllAfter, Rising}
use Rattle.sums.proofs.SumLaws.{rising_none, rising_put_all}
use Rattle.model.specs.Terms.{Term}
use Rattle.lent.specs.Every.{Every}
use Rattle.action_laws.specs.Exact.{listed_at, ListsGenerator}
use Rattle.action_laws.specs.WholeModel.{WholeModel, Limits}
use Rattle.action_laws.proofs.WholeWeights.{Alike}
use Rattle.action_laws.proofs.WholeAction.{action_whole}

-- ---- thinning keeps the order, and keeps only what passes
module _ (drop : Term → Bool) where
  after_without : (u : Word) (T : List Term) → AllAfter u T → AllAfter u (without_over floats pauli drop T)
  unfolding AllAfter without_over
  after_without u [] h = tt
  after_without u (c ∷ T) h = go (drop c) (after_without u T h.1)
    where
      go : (b : Bool) → AllAfter u (without_over floats pauli drop T) → AllAfter u (cond b (without_over floats pauli drop T) (c ∷ without_over floats pauli drop T))
      go true k = k
      go false k = (h.0, k)

  rising_without : (T : List Term) → Rising T → Rising (without_over floats pauli drop T)
  unfolding Rising without_over
  rising_without [] h = tt
  rising_without (c ∷ T) h = go (drop c) (rising_without T h.1)
    where
      go : (b : Bool) → Rising (without_over floats pauli drop T) → Rising (cond b (without_over floats pauli drop T) (c ∷ without_over floats pauli drop T))
      go true k = k
      go false k = (after_without c.word T h.0, k)

  without_passes : (T : List Term) → Every (λ c. drop c ≡ false) (without_over floats pauli drop T)
  unfolding without_over
  without_passes [] = tt
  without_passes (c ∷ T) = go (drop c) refl (without_passes T)
    where
      go : (b : Bool) → drop c ≡ b → Every (λ c. drop c ≡ false) (without_over floats pauli drop T) → Every (λ c. drop c ≡ false) (cond b (without_over floats pauli drop T) (c ∷ without_over floats pauli drop T))
      go true e k = k
      go false e k = (e, k)

-- ---- the number listed at a word is its coefficient
later_apart : (u v : Word) → before u v ≡ true → same v u ≡ false
later_apart u v h = go (same v u) refl
  where
    go : (b : Bool) → same v u ≡ b → b ≡ false
    go true e = absurd (false≢true (sym (before_self u) ∙ ap (before u) (sym (same_eq v u e)) ∙ h))
    go false e = refl

-- the real part at a word
abbrev re_at : Word → Op pauli → ℤ
re_at v G = (coeff pauli v G).re

-- a term of the same word adds its number there
next_re : (v : Word) (c : Term) (d : Onto whole pauli) (G : Op pauli) → c.word ≡ d.word → (b : Bool) → same c.word v ≡ b → re_at v (d ∷ G) ≡ (pick b d.num).re ⊞ re_at v G
unfolding coeff
next_re v c d G h b e = re_add _ _ ∙ ap (λ (b : Bool). (pick b d.num).re ⊞ re_at v G) (ap (λ (w : Word). same w v) (sym h) ∙ e)

none_later : (u : Word) (L : List Term) (G : Op pauli) → Alike L G → AllAfter u L → re_at u G ≡ pos 0
unfolding AllAfter coeff
none_later u [] [] h a = refl
none_later u [] (d ∷ G) h a = absurd h
none_later u (c ∷ L) [] h a = absurd h
none_later u (c ∷ L) (d ∷ G) h a = next_re u c d G h.0 false (later_apart u c.word a.0) ∙ zero_add (re_at u G) ∙ none_later u L G h.2 a.1

listed_is : (v : Word) (L : List Term) (G : Op pauli) → Alike L G → Rising L → Is (listed_at v L) (re_at v G)
unfolding listed_at coeff Rising
listed_is v [] [] h r = is_nought_lem
listed_is v [] (d ∷ G) h r = absurd h
listed_is v (c ∷ L) [] h r = absurd h
listed_is v (c ∷ L) (d ∷ G) h r = go (same c.word v) refl (listed_is v L G h.2 r.1)
  where
    go : (b : Bool) → same c.word v ≡ b → Is (listed_at v L) (re_at v G) → Is (cond b c.num.re (listed_at v L)) (re_at v (d ∷ G))
    go true e i =
        let z : re_at v G ≡ pos 0 = subst (λ (w : Word). re_at w G ≡ pos 0) (same_eq c.word v e) (none_later c.word L G h.2 r.0) in
        subst (Is c.num.re) (sym (next_re v c d G h.0 true e ∙ ap (λ (y : ℤ). d.num.re ⊞ y) z ∙ add_zero d.num.re)) h.1.re
    go false e i = subst (Is (listed_at v L)) (sym (next_re v c d G h.0 false e ∙ zero_add (re_at v G))) i

pub lists_generator : (g : ModelOver floats pauli) (w : ModelOver whole pauli) → WholeModel g w → Limits g → AllModerate pauli w.matrices → (p : Word) → Sound p
    → ListsGenerator w p (action_over floats pauli g p)
unfolding action_over
lists_generator g w h l moderate p sound =
    let T : List Term = put_all_over floats pauli (rules_over floats pauli g p) [] in
    let zero : Term → Bool = λ c. floats.is_zero c.num.re in
    let rises : Rising (action_over floats pauli g p) = rising_without zero T (rising_put_all (rules_over floats pauli g p) [] rising_none) in
    record {
      value = λ v. ((coeff pauli v (action_over whole pauli w p)).re, listed_is v (action_over floats pauli g p) (action_over whole pauli w p) (action_whole g w h l p) rises, action_is p sound w moderate v);
      not_zero = without_passes zero T;
      once = rises;
      real = action_real p sound w moderate;
    }
