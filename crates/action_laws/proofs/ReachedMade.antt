-- SPDX-FileCopyrightText: 2026 The PPVM Authors
-- SPDX-License-Identifier: Apache-2.0

-- A model that was built, and a qubit on which none of the given words acts: every word that is added for p has p's letter there.
-- Assumes nothing.
use mathlib.Core.Path.{◌≡◌, ◌∙◌, subst⁻¹}
use mathlib.Core.List.{List, [], ◌∷◌}
use Prim.Native.Nat.{ℕ, suc, ◌<◌}
use lib.Ieee.{Float}
use Rattle.word.specs.Word.{max_qubits, letter_at}
use Rattle.word.specs.declared.word.Word.{Word}
use Rattle.number.specs.Numbers.{Cx, mul_c, square, largest_over}
use Rattle.number.specs.Floats.{floats}
use Rattle.gksl.specs.Model.{JumpOver, MatrixOver, ModelOver, Row, rows_over, entry_over}
use Rattle.gksl.specs.Table.{put_all_over}
use Rattle.gksl.specs.Rules.{overlaps_over, formed_over, general_over, shape_over, jumps_over, diagonal_over, both_over, one_over, pair_over, row_over, matrix_over, matrices_over, rules_over}
use Rattle.gksl.specs.Words.{pauli}
use Rattle.model.specs.Terms.{Term}
use Rattle.model.specs.Stored.{ModelTables}
use Rattle.model.specs.declared.stored.Model.{Model}
use Rattle.lent.specs.Every.{Every}
use Rattle.model_laws.proofs.RuleBounds.{every_without}
use Rattle.rule_terms.specs.Adds.{rules_stored}
use Rattle.action_laws.specs.Made.{Made}
use Rattle.action_laws.specs.Untouched.{Clear, Untouched}
use Rattle.action_laws.proofs.MadeRules.{made_rules}
use Rattle.action_laws.proofs.ReachedNear.{Near, none, append, choose, keeps, through_near, pairs_near, gather_near, signed_near, factored_near, clash_near, terms_near, put_all_near}

abbrev ClearRow : ℕ → Row floats pauli → Type 0
ClearRow q r = Every (Clear q) r.op

rows_clear : (q n : ℕ) (ops : List (List Term)) → Every (Every (Clear q)) ops → Every (ClearRow q) (rows_over floats pauli n ops)
unfolding rows_over
rows_clear q n [] h = tt
rows_clear q n (A ∷ ops) h = (h.0, rows_clear q (suc n) ops h.1)

module _ (q : ℕ) (low : q < max_qubits) (p : Word) where
  -- only words with p's letter
  abbrev Keeps : List Term → Type 0
  Keeps A = Near q (letter_at p q) A

  -- a product of words that do not act on the qubit does not either
  formed_clear : (A B : List Term) → Every (Clear q) A → Every (Clear q) B → Every (Clear q) (formed_over floats pauli A B)
  unfolding formed_over
  formed_clear A B a b = every_without (Clear q) _ _ (put_all_near q 0 _ [] (pairs_near q low p {l = 0} _ (λ x y h k. keeps q low p x.word y.word h ∙ k) A B a b).each tt)

  -- ---- jumps
  general_near : (g : Float) (A : List Term) → Every (Clear q) A → Keeps (general_over floats pauli g A p)
  unfolding general_over
  general_near g A a =
      append
      (pairs_near q low p _ (λ x y h k. through_near q low p x.word y.word h k) A A a a)
      (gather_near q low p _ (λ c h. signed_near q low p _ _ _ (keeps q low p c.word p h)) (formed_over floats pauli A A) (formed_clear A A a a))

  shape_near : (g : Float) (A : List Term) → Every (Clear q) A → Keeps (shape_over floats pauli g A p)
  unfolding shape_over
  shape_near g [] a = none
  shape_near g (z ∷ []) a = choose (floats.is_zero z.num.im) (clash_near q low p _ _) (general_near g (z ∷ []) a)
  shape_near g (z ∷ (u ∷ A)) a = general_near g (z ∷ (u ∷ A)) a

  jumps_near : (J : List (JumpOver floats pauli)) → Every (λ j. Every (Clear q) j.op) J → Keeps (jumps_over floats pauli J p)
  unfolding jumps_over
  jumps_near [] h = none
  jumps_near (j ∷ J) h = append (choose (overlaps_over floats pauli j.op p) (shape_near j.rate j.op h.0) none) (jumps_near J h.1)

  -- ---- matrices
  module _ (k : Cx floats) (A B : List Term) (a : Every (Clear q) A) (b : Every (Clear q) B) where
    both_near : Keeps (both_over floats pauli k A B p)
    unfolding both_over
    both_near =
        append
        (pairs_near q low p _ (λ x y h k. through_near q low p x.word y.word h k) A B a b)
        (gather_near q low p _ (λ c h. choose (floats.slight (mul_c floats k c.num).re) none (signed_near q low p _ _ _ (keeps q low p c.word p h))) (formed_over floats pauli A B) (formed_clear A B a b))

    one_near : (f : Float → Float) → Keeps (one_over floats pauli f k A B p)
    unfolding one_over
    one_near f =
        gather_near q low p _ (λ c h. choose (floats.slight (mul_c floats k c.num).im) none (factored_near q low p _ _ _ (keeps q low p c.word p h))) (formed_over floats pauli A B) (formed_clear A B a b)

    pair_near : (big : Float) → Keeps (pair_over floats pauli big k A B p)
    unfolding pair_over
    pair_near big =
        choose (floats.slighter (square floats k) big) none
        (choose (overlaps_over floats pauli A p)
        (choose (overlaps_over floats pauli B p) both_near (one_near (λ x. x)))
        (choose (overlaps_over floats pauli B p) (one_near floats.opposite) none))

  diagonal_near : (big : Float) (k : Cx floats) (A : List Term) → Every (Clear q) A → Keeps (diagonal_over floats pauli big k A p)
  unfolding diagonal_over
  diagonal_near big k A a =
      choose (floats.slighter (square floats k) big) none
      (choose (overlaps_over floats pauli A p)
      (append
      (pairs_near q low p _ (λ x y h k. through_near q low p x.word y.word h k) A A a a)
      (gather_near q low p _ (λ c h. signed_near q low p _ _ _ (keeps q low p c.word p h)) (formed_over floats pauli A A) (formed_clear A A a a)))
      none)

  module _ (big : Float) (K : ℕ → ℕ → Cx floats) where
    row_near : (x : Row floats pauli) (Y : List (Row floats pauli)) → ClearRow q x → Every (ClearRow q) Y → Keeps (row_over floats pauli big K x Y p)
    unfolding row_over
    row_near x [] a b = none
    row_near x (y ∷ Y) a b = append (pair_near (K x.row y.row) x.op y.op a b.0 big) (row_near x Y a b.1)

    matrix_near : (X : List (Row floats pauli)) → Every (ClearRow q) X → Keeps (matrix_over floats pauli big K X p)
    unfolding matrix_over
    matrix_near [] a = none
    matrix_near (x ∷ X) a = append (append (diagonal_near big (K x.row x.row) x.op a.0) (row_near x X a.0 a.1)) (matrix_near X a.1)

  matrices_near : (Ks : List (MatrixOver floats pauli)) → Every (λ k. Every (Every (Clear q)) k.ops) Ks → Keeps (matrices_over floats pauli Ks p)
  unfolding matrices_over
  matrices_near [] h = none
  matrices_near (k ∷ Ks) h =
      append (matrix_near (largest_over floats k.entries) (entry_over floats pauli k) (rows_over floats pauli 0 k.ops) (rows_clear q 0 k.ops h.0)) (matrices_near Ks h.1)

  -- ---- all of them
  rules_near : (g : ModelOver floats pauli) → Untouched g q → Keeps (rules_over floats pauli g p)
  unfolding rules_over
  rules_near g u = append (terms_near q low p g.terms u.terms) (append (jumps_near g.jumps u.jumps) (matrices_near g.matrices u.matrices))

module _ (g : ModelOver floats pauli) (m : Model) (t : ModelTables) (made : Made g m t) (q : ℕ) (low : q < max_qubits) (untouched : Untouched g q) (p : Word) where
  pub reached_made : Every (λ c. letter_at c.word q ≡ letter_at p q) (rules_stored m t p)
  reached_made = (subst⁻¹ (λ (A : List Term). Near q (letter_at p q) A) (made_rules g m t made p) (rules_near q low p g untouched)).each

  -- and so of the rows of their sums
  pub sums_made : Every (λ c. letter_at c.word q ≡ letter_at p q) (put_all_over floats pauli (rules_stored m t p) [])
  sums_made = put_all_near q (letter_at p q) (rules_stored m t p) [] reached_made tt
