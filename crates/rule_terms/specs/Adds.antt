-- SPDX-FileCopyrightText: 2026 The PPVM Authors
-- SPDX-License-Identifier: Apache-2.0

-- The rules over what is stored: what the Hamiltonian terms, jumps and pairs of a model add for a word p, in the order in
-- which it is added.
use Rattle.std.specs.Prelude.{ℕ, ◌+◌, ◌*◌, ◌%◌, Bool, cond, ◌&&◌, List, [], ◌∷◌, ◌++◌, map, eqb, Float, get_or, take, drop}
use Rattle.std.specs.Float.{nan}
use Rattle.word.specs.Word.{identity}
use Rattle.word.specs.Flat.{words}
use Rattle.word.specs.Product.{phase, mul}
use Rattle.word.specs.Register.{share}
use Rattle.word.specs.declared.word.Word.{Word}
use Rattle.number.specs.Numbers.{mul_c, neg_c, real_c, unit_c}
use Rattle.number.specs.Floats.{floats}
use Rattle.gksl.specs.Model.{RealTerm}
use Rattle.gksl.specs.Rules.{pairs_over, gather_over, on_word, bare, through, onto, signed, factored, overlaps_over, terms_over, clash_over}
use Rattle.gksl.specs.Words.{pauli}
use Rattle.model.specs.Stored.{ModelTables, jump_at}
use Rattle.model.specs.Tested.{width}
use Rattle.model.specs.Terms.{Term, term_at, terms_in, terms_of}
use Rattle.model.specs.declared.stored.Model.{Model}
use Rattle.model.specs.declared.stored.Range.{Range}
use Rattle.model.specs.declared.stored.Jump.{Jump}
use Rattle.model.specs.declared.stored.Jump.TheVariants.{Pauli, General, Pair}
use Rattle.word.specs.Count.{up_to}

-- ---- the lists that are stored
abbrev pub real_at : ModelTables → ℕ → RealTerm floats pauli
real_at t i = record { num = get_or t.h_coeffs i nan; word = get_or (words t.h_words) i identity }

abbrev pub reals_in : Model → ModelTables → List (RealTerm floats pauli)
reals_in m t = map (real_at t) (up_to 0 m.hamiltonian)

abbrev pub jumps_in : Model → ModelTables → List Jump
jumps_in m t = map (jump_at t.jumps t.rates) (up_to 0 m.jumps)

module _ (p : Word) where
  -- ---- a general jump: conjugate of a's number × b's number × i^phase × rate; then minus L†L's number × rate × sign
  unfoldable pub sandwich : Float → Term → Term → Term
  sandwich g a b =
      on_word floats pauli (mul_c floats (mul_c floats (bare floats pauli a b) (unit_c floats (through pauli a.word p b.word % 4))) (real_c floats g)) (onto pauli a.word p b.word)

  unfoldable pub dampen : Float → Term → List Term
  dampen g c = signed floats pauli (phase c.word p % 4) (λ s. mul_c floats (mul_c floats (neg_c floats c.num) (real_c floats g)) (real_c floats s)) (mul c.word p)

  -- ---- a pair: a factor f of the left word a, whose own word is the right one; phase comes last
  unfoldable pub folded : Word → Term → Term
  folded a f = on_word floats pauli (mul_c floats f.num (unit_c floats (through pauli a p f.word % 4))) (onto pauli a p f.word)

  -- twice the real part
  unfoldable pub doubled : Word → Term → Term
  doubled a f = on_word floats pauli (real_c floats (floats.times floats.two (folded a f).num.re)) (folded a f).word

  -- each left term with its own factors, so many for each
  unfoldable pub each_factor : (Word → Term → Term) → ℕ → List Term → List Term → List Term
  each_factor f n [] F = []
  each_factor f n (a ∷ A) F = map (f a.word) (take n F) ++ each_factor f n A (drop n F)

  -- a diagonal pair: minus its number × sign for each word of the product after K
  unfoldable pub diagonal : Term → List Term
  diagonal c = signed floats pauli (phase c.word p % 4) (λ s. neg_c floats (mul_c floats c.num (real_c floats s))) (mul c.word p)

  -- p on both sides: minus 2 × real part × sign, for real parts above 1e-14
  unfoldable pub both_sides : Term → List Term
  both_sides c =
      cond (floats.slight c.num.re) []
      (signed floats pauli (phase c.word p % 4) (λ s. real_c floats (floats.opposite (floats.times (floats.times floats.two c.num.re) s))) (mul c.word p))

  -- p on one side: the imaginary part × factor, by f plus or minus, for imaginary parts above 1e-14
  unfoldable pub one_side : (Float → Float) → Term → List Term
  one_side f c = cond (floats.slight c.num.im) [] (factored floats pauli (phase c.word p % 4) (f c.num.im) (mul c.word p))

  module _ (t : ModelTables) where
    abbrev pub op : Range → List Term
    op r = terms_of t.t_words t.t_numbers r

    abbrev same_range : Range → Range → Bool
    same_range r s = eqb r.start s.start && eqb r.end s.end

    -- ---- a jump
    unfoldable pub jump_adds : Jump → List Term
    jump_adds (Pauli rate term) =
        let w : Word = (term_at t.t_words t.t_numbers term).word in
        cond (share w p) (clash_over floats pauli (phase w p % 2) rate p) []
    jump_adds (General rate terms product) =
        cond (overlaps_over floats pauli (op terms) p)
        (pairs_over floats pauli (sandwich rate) (op terms) (op terms) ++ gather_over floats pauli (dampen rate) (op product)) []
    jump_adds (Pair left right factors product) = []

    -- ---- a pair, diagonal where its two ranges are one
    unfoldable pub pair_adds : Jump → List Term
    pair_adds (Pauli rate term) = []
    pair_adds (General rate terms product) = []
    pair_adds (Pair left right factors product) =
        let F : List Term = terms_in t.t_words t.t_numbers factors (factors + width left * width right) in
        let M : List Term = op product in
        cond (same_range left right)
        (cond (overlaps_over floats pauli (op left) p) (each_factor folded (width right) (op left) F ++ gather_over floats pauli diagonal M) [])
        (cond (overlaps_over floats pauli (op left) p)
        (cond (overlaps_over floats pauli (op right) p) (each_factor doubled (width right) (op left) F ++ gather_over floats pauli both_sides M) (gather_over floats pauli (one_side (λ x. x)) M))
        (cond (overlaps_over floats pauli (op right) p) (gather_over floats pauli (one_side floats.opposite) M) []))

-- ---- all items, in their order
unfoldable pub gather_jumps : (Jump → List Term) → List Jump → List Term
gather_jumps f [] = []
gather_jumps f (j ∷ J) = f j ++ gather_jumps f J

unfoldable pub rules_stored : Model → ModelTables → Word → List Term
rules_stored m t p =
    terms_over floats pauli (reals_in m t) p ++ (gather_jumps (jump_adds p t) (jumps_in m t) ++ gather_jumps (pair_adds p t) (jumps_in m t))
