-- SPDX-FileCopyrightText: 2026 The PPVM Authors
-- SPDX-License-Identifier: Apache-2.0

-- The operators of a matrix that were read: each has as many terms as its count says, at least one and at most 16, and the words
-- of what is stored for their pairs are read back. Assumes nothing.
use mathlib.Core.Path.{◌≡◌, refl, ap, ◌∙◌, subst, subst⁻¹}
use mathlib.Core.List.{List, [], ◌∷◌, map}
use Prim.Native.Nat.{ℕ, ◌+◌, ◌*◌, ◌/◌, ◌%◌, ◌≤◌, ◌<◌}
use native.Mathlib.Omega.{arith}
use lib.ListN.{length, get_or, drop, length-map, length-drop}
use lib.Seq.{length-take-le}
use Rattle.word.specs.Word.{Sound}
use Rattle.number.specs.Numbers.{Cx}
use Rattle.number.specs.Floats.{floats}
use Rattle.gksl.specs.Model.{entry_in}
use Rattle.gksl.specs.Rules.{pairs_over, formed_over}
use Rattle.gksl.specs.Words.{pauli}
use Rattle.model_build.specs.Given.{GivenTerm, read_operator}
use Rattle.lent.specs.Laid.{total}
use Rattle.lent.specs.Every.{Every}
use Rattle.lent.proofs.Lists.{every_at, every_weaken, every_append, every_map}
use Rattle.model_build.specs.Built.{parts, entries_from, terms_of}
use Rattle.model_build.specs.Taken.{term_taken}
use Rattle.model_build.specs.Work.{operator_taken}
use Rattle.model.specs.declared.stored.Range.{Range}
use Rattle.model_build.proofs.TakenLaws.{operator_taken_lem, operator_few}
use Rattle.k_matrix.specs.Matrix.{is_pair, pair_places}
use Rattle.k_matrix.specs.Pairs.{factor_of, factors_of, scaled, product_after, compile_pair, range_of, pair_at, pairs_of}
use Rattle.k_matrix.specs.Added.{Input, operators_given, read_operators, all_terms}
use Rattle.k_matrix.proofs.MatrixLaws.{row_below, column_below}
use Rattle.kossakowski.proofs.AddLaws.{operators_are, all_are, all_length}
use Rattle.model_laws.proofs.ReadItems.{GivenGood, operator_read, each_every}
use Rattle.model_laws.proofs.CompiledLaws.{formed_sizes, terms_every}
use Rattle.model_laws.proofs.PairsGood.{passing_below}
use Rattle.model_laws.proofs.AddedLaws.{all_every}
use Rattle.action_laws.proofs.MatrixRules.{Counted}
use Rattle.lent.specs.Read.{got}
use Rattle.model.specs.Terms.{Term}

-- a term whose word is read back
abbrev pub Laid : Term → Type 0
Laid z = Sound z.word

-- ---- a pair
factors_laid : (f : Term → Term → Term) → ((a b : Term) → (f a b).word ≡ b.word) → (A B : List Term) → Every Laid B → Every Laid (pairs_over floats pauli f A B)
unfolding pairs_over
factors_laid f h [] B e = tt
factors_laid f h (a ∷ A) B e =
    every_append Laid (map (f a) B) (pairs_over floats pauli f A B)
    (every_map Laid (f a) B (every_weaken Laid (λ b. Laid (f a b)) (λ b s. subst⁻¹ Sound (h a b) s) B e)) (factors_laid f h A B e)

-- an operator as it was read
abbrev pub OperatorGood : ℕ → List Term → Type 0
OperatorGood n A = (length A ≤ 16) × Every (GivenGood n) A

pair_laid : (n : ℕ) (k : Cx floats) (left right : Range) (A B : List Term) → OperatorGood n A → OperatorGood n B → Every Laid (compile_pair k left right A B).terms
unfolding compile_pair factor_of scaled
pair_laid n k left right A B a b =
    every_append Laid (factors_of k A B) (product_after k A B)
    (factors_laid (factor_of k) (λ x y. refl) A B (every_weaken (GivenGood n) Laid (λ z g. g.word.sound) B b.1))
    (every_map Laid (scaled k) (formed_over floats pauli A B)
    (every_weaken _ (λ c. Laid (scaled k c)) (λ c s. s.0.sound) (formed_over floats pauli A B) (formed_sizes n A B a.0 b.0 a.1 b.1)))

-- ---- all pairs of a matrix
module _ (n from : ℕ) (counts : List ℕ) (K : List (Cx floats)) (As : List (List Term)) (many : length As ≡ length counts) (good : Every (OperatorGood n) As) where
  pub pairs_laid : Every Laid (terms_of (pairs_of from counts K As))
  pairs_laid =
      let k : ℕ = length counts in
      let places : List ℕ = pair_places floats k K in
      let one : (j : ℕ) → j < k → OperatorGood n (get_or As j []) = λ j l. every_at (OperatorGood n) As j [] good (omega (arith, l, many)) in
      terms_every Laid (pairs_of from counts K As)
      (every_map (λ c. Every Laid c.terms) (pair_at from counts K As) places
      (every_weaken (λ q. q < 0 + k * k) (λ q. Every Laid (pair_at from counts K As q).terms)
      (λ q l.
      let below : q < k * k = omega arith in
      pair_laid n (entry_in floats k K (q / k) (q % k)) (range_of from counts (q / k)) (range_of from counts (q % k)) (get_or As (q / k) []) (get_or As (q % k) [])
      (one (q / k) (row_below k q below)) (one (q % k) (column_below k q below)))
      places (passing_below (is_pair floats k K) 0 (k * k))))

-- an entry has eight numbers
pub pairs_eight : (from : ℕ) (counts : List ℕ) (K : List (Cx floats)) (As : List (List Term)) (ps : List ℕ) (at : ℕ) → Every (λ e. length e ≡ 8) (entries_from at (map (pair_at from counts K As) ps))
unfolding entries_from compile_pair
pairs_eight from counts K As [] at = tt
pairs_eight from counts K As (q ∷ ps) at = (refl, pairs_eight from counts K As ps (at + length (pair_at from counts K As q).terms))

-- ---- the operators that were read
counted_parts : (ns : List ℕ) (l : List Term) → total ns ≤ length l → Every (λ A. 0 < length A) (parts ns l) → Counted (parts ns l) ns
unfolding parts total
counted_parts [] l h e = tt
counted_parts (n ∷ ns) l h e = (length-take-le n l (omega arith), e.0, counted_parts ns (drop n l) (omega (arith, h, length-drop n l)) e.1)

operator_some : (n i : ℕ) (gs : List GivenTerm) (op : List Term) → read_operator n i gs ≡ got op → 0 < length op
operator_some n i gs op e =
    let many : length op ≡ length gs = ap length (operator_taken_lem n i gs op e) ∙ length-map gs (term_taken n) in
    omega (arith, many, (operator_few n i gs op e).0)

module _ (n : ℕ) (i : Input) (As : List (List Term)) (read : read_operators n i ≡ got As) where
  pub operators_good : Every (OperatorGood n) As
  operators_good = each_every (OperatorGood n) (read_operator n) (operator_read n) 0 (operators_given i) As read

  pub operators_laid : Every Laid (all_terms As)
  operators_laid = all_every Laid As (every_weaken (OperatorGood n) (Every Laid) (λ A g. every_weaken (GivenGood n) Laid (λ z h. h.word.sound) A g.1) As operators_good)

  pub operators_counted : total i.counts ≡ length i.lengths → length i.numbers ≡ 2 * length i.lengths → Counted As i.counts
  operators_counted whole two =
      let L : List Term = operator_taken n i.lengths i.texts i.numbers in
      let is : As ≡ parts i.counts L = operators_are n i As read in
      let all : length (all_terms As) ≡ length L = ap length (all_are n i As read whole two) in
      let some : Every (λ A. 0 < length A) As = each_every (λ A. 0 < length A) (read_operator n) (operator_some n) 0 (operators_given i) As read in
      subst⁻¹ (λ (Bs : List (List Term)). Counted Bs i.counts) is
      (counted_parts i.counts L (omega (arith, whole, all, all_length n i As read whole two)) (subst (Every (λ A. 0 < length A)) is some))
