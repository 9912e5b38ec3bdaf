-- SPDX-FileCopyrightText: 2026 The PPVM Authors
-- SPDX-License-Identifier: Apache-2.0

-- Every word that the action on p lists is a product of words, so of two x and two z lanes, or p itself. Assumes nothing.
use mathlib.Core.Path.{◌≡◌, refl, sym, subst}
use mathlib.Core.Bool.{Bool, true, false, cond, ◌&&◌}
use mathlib.Core.List.{List, [], ◌∷◌, ◌++◌, map}
use mathlib.Core.Logic.{◌⊎◌, inl, inr}
use Prim.Native.Nat.{ℕ, zero, suc, ◌+◌, ◌*◌}
use lib.Dec.{eqb}
use lib.Ieee.{Float}
use lib.ListN.{get_or, take, drop}
use Rattle.word.specs.Product.{mul}
use Rattle.word.specs.Word.{identity, Sound}
use Rattle.word.specs.Flat.{words}
use Rattle.word.specs.Register.{share}
use Rattle.word.specs.declared.word.Word.{Word}
use Rattle.word.proofs.WordLaws.{sound_mul}
use Rattle.number.specs.Numbers.{Cx, add_c, zero_c}
use Rattle.number.specs.Floats.{floats}
use Rattle.gksl.specs.Model.{RealTerm}
use Rattle.gksl.specs.Table.{put_over, put_all_over}
use Rattle.gksl.specs.Rules.{pairs_over, gather_over, signed, factored, overlaps_over, terms_over, clash_over}
use Rattle.gksl.specs.Words.{pauli}
use Rattle.model.specs.Terms.{Term, terms_in}
use Rattle.model.specs.Stored.{ModelTables}
use Rattle.model.specs.Tested.{width}
use Rattle.model.specs.declared.stored.Model.{Model}
use Rattle.model.specs.declared.stored.Jump.{Jump}
use Rattle.model.specs.declared.stored.Jump.TheVariants.{Pauli, General, Pair}
use Rattle.lent.specs.Every.{Every}
use Rattle.lent.proofs.Lists.{every_all, every_append, every_map, every_weaken}
use Rattle.model_laws.proofs.RuleBounds.{every_without}
use Rattle.rule_terms.specs.Adds.{reals_in, jumps_in, op, sandwich, dampen, folded, doubled, each_factor, diagonal, both_sides, one_side, jump_adds, pair_adds, gather_jumps, rules_stored}
use Rattle.action.specs.Acts.{sums_of, action_of}

module _ (p : Word) where
  -- a product, or p
  abbrev pub Formed : Word → Type 0
  Formed w = Sound w ⊎ (w ≡ p)

  abbrev pub OfFormed : Term → Type 0
  OfFormed c = Formed c.word

  record AllFormed (A : List Term) : Type 0 where
    each : Every OfFormed A

  none : AllFormed []
  none = record { each = tt }

  one : {c : Term} → OfFormed c → AllFormed (c ∷ [])
  one h = record { each = (h, tt) }

  append : {A B : List Term} → AllFormed A → AllFormed B → AllFormed (A ++ B)
  append {A} {B} h k = record { each = every_append OfFormed A B h.each k.each }

  choose : (b : Bool) {A B : List Term} → AllFormed A → AllFormed B → AllFormed (cond b A B)
  choose true h k = h
  choose false h k = k

  -- ---- lists of what is added
  maps : (f : Term → Term) → ((c : Term) → OfFormed (f c)) → (A : List Term) → AllFormed (map f A)
  maps f make A = record { each = every_map OfFormed f A (every_all (λ c. OfFormed (f c)) make A) }

  pairs : (f : Term → Term → Term) → ((a b : Term) → OfFormed (f a b)) → (A B : List Term) → AllFormed (pairs_over floats pauli f A B)
  unfolding pairs_over
  pairs f make [] B = none
  pairs f make (a ∷ A) B = append (maps (f a) (make a) B) (pairs f make A B)

  gathers : (f : Term → List Term) → ((c : Term) → AllFormed (f c)) → (M : List Term) → AllFormed (gather_over floats pauli f M)
  unfolding gather_over
  gathers f make [] = none
  gathers f make (c ∷ M) = append (make c) (gathers f make M)

  factors_of : (f : Word → Term → Term) → ((a : Word) (c : Term) → OfFormed (f a c)) → (n : ℕ) (A F : List Term) → AllFormed (each_factor p f n A F)
  unfolding each_factor
  factors_of f make n [] F = none
  factors_of f make n (a ∷ A) F = append (maps (f a.word) (make a.word) (take n F)) (factors_of f make n A (drop n F))

  -- ---- by the phase
  signed_formed : (n : ℕ) (f : Float → Cx floats) (w : Word) → Formed w → AllFormed (signed floats pauli n f w)
  unfolding signed
  signed_formed zero f w h = one h
  signed_formed (suc zero) f w h = none
  signed_formed (suc (suc zero)) f w h = one h
  signed_formed (suc (suc (suc n))) f w h = none

  factored_formed : (n : ℕ) (x : Float) (w : Word) → Formed w → AllFormed (factored floats pauli n x w)
  unfolding factored
  factored_formed zero x w h = none
  factored_formed (suc zero) x w h = one h
  factored_formed (suc (suc zero)) x w h = none
  factored_formed (suc (suc (suc n))) x w h = one h

  clash_formed : (n : ℕ) (g : Float) → AllFormed (clash_over floats pauli n g p)
  unfolding clash_over
  clash_formed zero g = none
  clash_formed (suc n) g = one (inr refl)

  by_mul : (a b : Word) → Formed (mul a b)
  by_mul a b = inl (sound_mul a b)

  terms_formed : (H : List (RealTerm floats pauli)) → AllFormed (terms_over floats pauli H p)
  unfolding terms_over
  terms_formed [] = none
  terms_formed (x ∷ H) = append (choose (pauli.meets x.word p) (factored_formed _ x.num (mul x.word p) (by_mul x.word p)) none) (terms_formed H)

  -- ---- what a stored term adds
  dampen_formed : (g : Float) (c : Term) → AllFormed (dampen p g c)
  unfolding dampen
  dampen_formed g c = signed_formed _ _ (mul c.word p) (by_mul c.word p)

  diagonal_formed : (c : Term) → AllFormed (diagonal p c)
  unfolding diagonal
  diagonal_formed c = signed_formed _ _ (mul c.word p) (by_mul c.word p)

  both_formed : (c : Term) → AllFormed (both_sides p c)
  unfolding both_sides
  both_formed c = choose (floats.slight c.num.re) none (signed_formed _ _ (mul c.word p) (by_mul c.word p))

  one_formed : (f : Float → Float) (c : Term) → AllFormed (one_side p f c)
  unfolding one_side
  one_formed f c = choose (floats.slight c.num.im) none (factored_formed _ _ (mul c.word p) (by_mul c.word p))

  folded_formed : (a : Word) (c : Term) → OfFormed (folded p a c)
  unfolding folded
  folded_formed a c = by_mul (mul a p) c.word

  doubled_formed : (a : Word) (c : Term) → OfFormed (doubled p a c)
  unfolding doubled folded
  doubled_formed a c = by_mul (mul a p) c.word

  sandwich_formed : (g : Float) (a b : Term) → OfFormed (sandwich p g a b)
  unfolding sandwich
  sandwich_formed g a b = by_mul (mul a.word p) b.word

  -- ---- the items of a model
  module _ (t : ModelTables) where
    jump_formed : (j : Jump) → AllFormed (jump_adds p t j)
    unfolding jump_adds
    jump_formed (Pauli rate term) = choose (share (get_or (words t.t_words) term identity) p) (clash_formed _ rate) none
    jump_formed (General rate terms product) =
        choose (overlaps_over floats pauli (op p t terms) p)
        (append (pairs (sandwich p rate) (sandwich_formed rate) (op p t terms) (op p t terms)) (gathers (dampen p rate) (dampen_formed rate) (op p t product))) none
    jump_formed (Pair left right factors product) = none

    pair_formed : (j : Jump) → AllFormed (pair_adds p t j)
    unfolding pair_adds
    pair_formed (Pauli rate term) = none
    pair_formed (General rate terms product) = none
    pair_formed (Pair left right factors product) =
        let A : List Term = op p t left in
        let M : List Term = op p t product in
        let F : List Term = terms_in t.t_words t.t_numbers factors (factors + width left * width right) in
        choose (eqb left.start right.start && eqb left.end right.end)
        (choose (overlaps_over floats pauli A p) (append (factors_of (folded p) folded_formed (width right) A F) (gathers (diagonal p) diagonal_formed M)) none)
        (choose (overlaps_over floats pauli A p)
        (choose (overlaps_over floats pauli (op p t right) p)
        (append (factors_of (doubled p) doubled_formed (width right) A F) (gathers (both_sides p) both_formed M))
        (gathers (one_side p (λ x. x)) (one_formed (λ x. x)) M))
        (choose (overlaps_over floats pauli (op p t right) p) (gathers (one_side p floats.opposite) (one_formed floats.opposite) M) none))

  jumps_formed : (f : Jump → List Term) → ((j : Jump) → AllFormed (f j)) → (J : List Jump) → AllFormed (gather_jumps f J)
  unfolding gather_jumps
  jumps_formed f make [] = none
  jumps_formed f make (j ∷ J) = append (make j) (jumps_formed f make J)

  rules_formed : (m : Model) (t : ModelTables) → AllFormed (rules_stored m t p)
  unfolding rules_stored
  rules_formed m t = append (terms_formed (reals_in m t)) (append (jumps_formed (jump_adds p t) (jump_formed t) (jumps_in m t)) (jumps_formed (pair_adds p t) (pair_formed t) (jumps_in m t)))

  -- ---- and so of their sums
  put_formed : (c : Term) (R : List Term) → OfFormed c → Every OfFormed R → Every OfFormed (put_over floats pauli c R)
  unfolding put_over
  put_formed c [] h k = (h, tt)
  put_formed c (d ∷ R) h k = go (pauli.alike d.word c.word) (pauli.below c.word d.word) (put_formed c R h k.1)
    where
      go : (a b : Bool) → Every OfFormed (put_over floats pauli c R)
          → Every OfFormed (cond a (record { num = add_c floats d.num c.num; word = d.word } ∷ R) (cond b (record { num = add_c floats (zero_c floats) c.num; word = c.word } ∷ (d ∷ R)) (d ∷ put_over floats pauli c R)))
      go true b i = k
      go false true i = (h, k)
      go false false i = (k.0, i)

  put_all_formed : (A R : List Term) → Every OfFormed A → Every OfFormed R → Every OfFormed (put_all_over floats pauli A R)
  unfolding put_all_over
  put_all_formed [] R h k = k
  put_all_formed (c ∷ A) R h k = put_all_formed A (put_over floats pauli c R) h.1 (put_formed c R h.0 k)

  pub listed_formed : (m : Model) (t : ModelTables) → Every OfFormed (action_of m t p)
  unfolding action_of sums_of
  listed_formed m t = every_without OfFormed _ _ (put_all_formed (rules_stored m t p) [] (rules_formed m t).each tt)

-- so the action on a word of two x and two z lanes lists only such
pub listed_sound : (p : Word) (m : Model) (t : ModelTables) → Sound p → Every (λ c. Sound c.word) (action_of m t p)
listed_sound p m t s = every_weaken (OfFormed p) (λ c. Sound c.word) (λ c h. sound c.word h) (action_of m t p) (listed_formed p m t)
  where
    sound : (w : Word) → Formed p w → Sound w
    sound w (inl h) = h
    sound w (inr e) = subst Sound (sym e) s
