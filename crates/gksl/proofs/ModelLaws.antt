-- SPDX-FileCopyrightText: 2026 The PPVM Authors
-- SPDX-License-Identifier: Apache-2.0

-- The rules of a model give its exact generator, and its numbers are real. Assumes nothing.
use mathlib.Core.Path.{◌≡◌, refl, sym, ap, ap₂, ◌∙◌}
use mathlib.Core.Bool.{Bool, true, false, cond, ◌||◌}
use mathlib.Core.List.{List, [], ◌∷◌, ◌++◌, map}
use Prim.Native.Nat.{ℕ, zero, suc, ◌*◌, ◌%◌, ◌<◌}
use native.Mathlib.Omega.{arith}
use lib.Dec.{T, leb, leb→le}
use lib.IntN.{ℤ, pos, negsuc, ◌+ℤ◌, ◌*ℤ◌}
use Rattle.number.specs.Numbers.{square, unit_c, real_c, largest_over}
use Rattle.number.specs.Whole.{◌⊞◌, neg, ◌⊠◌, whole, is_nought, at_most, ten_to28}
use Rattle.gksl.specs.Gauss.{Gauss, zero_g, mul_g, conj_g}
use Rattle.gksl.specs.Operator.{Words, Op, at, product, adjoint, coeff}
use Rattle.gksl.specs.Rules.{overlaps_over, formed_over}
use Rattle.gksl.specs.Model.{RealTerm, JumpOver, MatrixOver, ModelOver, Row, rows_over, entry_over, AllModerate}
use Rattle.gksl.specs.Generator.{commutator2, dissipator2, exact_jumps, exact_row, exact_matrix, exact_matrices, generator2, as_term}
use Rattle.gksl.proofs.GaussLaws.{same, parts, times_assoc}
use Rattle.gksl.proofs.WholeRules.{oddly, hamiltonian, pauli, overlaps, formed, rule_terms, rule_shape, rule_jumps, rule_diagonal, rule_pair, rule_row, rule_matrix, rule_matrices, rules, skips}
use Rattle.number.proofs.WholeLaws.{swap_inner, add_zero, products, neg_zero}
use Rattle.gksl.proofs.Totals.{total, Additive, Same, Every, additive_zero, total_none, total_append, total_pairs, total_gather, total_product, total_adjoint, total_scale, total_cong, total_zero, both_cong}
use Rattle.gksl.proofs.WordLaws.{Laws, Back}
use Rattle.gksl.proofs.Parity.{total_oddly, unit_turn}
use Rattle.gksl.proofs.ExactTerms.{weight}
use Rattle.gksl.proofs.RuleLaws.{Clear, general_exact, both_exact, right_exact, left_exact, skip_exact}
use Rattle.gksl.proofs.SingleLaws.{odd_none, hamiltonian_exact, pauli_exact}
use Rattle.gksl.proofs.Tables.{total_table, total_without}
use Rattle.gksl.proofs.Triangle.{over, upper, upper_cong, triangle}
use Rattle.gksl.proofs.Reality.{Real, conj_additive, real_append, real_dissipator, real_folded, real_commutator}
use Rattle.gksl.proofs.Coefficients.{real_coeff}

-- ---- tests
cond_case : {X : Type 0} (P : X → Type 0) (b : Bool) (x y : X) → (b ≡ true → P x) → (b ≡ false → P y) → P (cond b x y)
cond_case P true x y f g = f refl
cond_case P false x y f g = g refl

pub nought : (z : ℤ) → is_nought z ≡ true → z ≡ pos 0
unfolding is_nought
nought (pos zero) h = refl
nought (pos (suc n)) h = cc
nought (negsuc n) h = cc

or_left : (a b : Bool) → (a || b) ≡ false → a ≡ false
or_left true b h = h
or_left false b h = refl

or_right : (a b : Bool) → (a || b) ≡ false → b ≡ false
or_right true b h = cc
or_right false b h = h

positive : (m n : ℕ) → pos m ≡ pos n → ¬ (m ≡ n) → ⊥
positive m n h k = k cc

-- a squared magnitude of 0 is that of 0 alone
squares : (a b : ℤ) → a *ℤ a +ℤ b *ℤ b ≡ pos 0 → (a ≡ pos 0) × (b ≡ pos 0)
squares (pos zero) (pos zero) h = (refl, refl)
squares (pos zero) (pos (suc b)) h = absurd (positive _ _ h (omega arith))
squares (pos zero) (negsuc b) h = absurd (positive _ _ h (omega arith))
squares (pos (suc a)) (pos b) h = absurd (positive _ _ h (omega arith))
squares (pos (suc a)) (negsuc b) h = absurd (positive _ _ h (omega arith))
squares (negsuc a) (pos b) h = absurd (positive _ _ h (omega arith))
squares (negsuc a) (negsuc b) h = absurd (positive _ _ h (omega arith))

pub none : (z : Gauss) → square whole z ≡ pos 0 → z ≡ zero_g
unfolding ◌⊞◌ ◌⊠◌
none z h = let e = squares z.re z.im h in same e.0 e.1

-- beside a largest squared magnitude below 1e28 only 0 is left out
squared : (a b : ℤ) → (n : ℕ) × (a *ℤ a +ℤ b *ℤ b ≡ pos n)
squared (pos a) (pos b) = (_, refl)
squared (pos a) (negsuc b) = (_, refl)
squared (negsuc a) (pos b) = (_, refl)
squared (negsuc a) (negsuc b) = (_, refl)

pub only_zero : (k : Gauss) (largest : ℤ) (size : ℕ) → largest ≡ pos size → size < ten_to28 → skips largest k ≡ true → k ≡ zero_g
unfolding ◌⊞◌ ◌⊠◌ at_most
only_zero k largest size is below h =
    let s = squared k.re k.im in
    let e : leb (s.0 * ten_to28) size ≡ true = ap₂ (λ (z b : ℤ). at_most (z *ℤ pos ten_to28) b) (sym s.1) (sym is) ∙ h in
    let l = leb→le (s.0 * ten_to28) size (is_true _ e) in
    let z : s.0 ≡ 0 = omega arith in
    none k (s.1 ∙ ap pos z)
  where
    is_true : (b : Bool) → b ≡ true → T b
    is_true true h = tt
    is_true false h = let z : ◌≡◌ {A = ℕ} 0 1 = cc in absurd (omega arith)

zero_times : (x : Gauss) → mul_g zero_g x ≡ zero_g
zero_times x = same (simp (parts, products)) (simp (parts, products))

real_weight : (k c : Gauss) → is_nought c.im ≡ true → mul_g (mul_g k c) c ≡ weight k c c
real_weight k c h =
    times_assoc k c c ∙ ap (λ (z : Gauss). mul_g k (mul_g z c)) (same (sym (simp parts)) (nought c.im h ∙ sym (simp parts (ap neg (nought c.im h) ∙ neg_zero))))

-- every word of every jump, twice from p, is back at p
abbrev pub Backs : (S : Words) → S.Word → List (JumpOver whole S) → Type 0
Backs S p [] = Unit {0}
Backs S p (j ∷ J) = Every S (Back S p) j.op × Backs S p J

conj_zero : conj_g zero_g ≡ zero_g
conj_zero = same (simp parts) (simp parts)

module _ (S : Words) (L : Laws S) where
  clear : (A : Op S) (p : S.Word) → overlaps S A p ≡ false → Every S (Clear S p) A
  unfolding overlaps_over
  clear [] p h = tt
  clear (t ∷ A) p h = (L.apart t.word p (or_left _ _ h), clear A p (or_right (S.meets t.word p) _ h))

  -- the table of A† B stands for A† B
  pub formed_same : (A B : Op S) → Same S (formed S A B) (product S (adjoint S A) B)
  unfolding formed_over
  formed_same A B F add =
      total_without S F _ (λ t h. ap (λ (z : Gauss). F z t.word) (none t.num (nought _ h)) ∙ additive_zero S add t.word) _
      ∙ total_table S L F add _
      ∙ total_pairs S F (λ a b. at S (mul_g (mul_g (conj_g a.num) b.num) (unit_c whole (S.phase a.word b.word % 4))) (S.mul a.word b.word)) A B
      ∙ both_cong S _ _ A B (λ x u y v. ap (λ (z : Gauss). F z (S.mul u v)) (unit_turn (S.phase u v) (mul_g (conj_g x) y)))
      ∙ sym (total_product S F (adjoint S A) B ∙ total_adjoint S _ A)

  module _ (F : Gauss → S.Word → ℤ) (add : Additive S F) where
    abbrev twice : Op S → ℤ
    twice R = total S F R ⊞ total S F R

    twice_append : (A B : Op S) → twice (A ++ B) ≡ twice A ⊞ twice B
    twice_append A B = ap (λ (z : ℤ). z ⊞ z) (total_append S F A B) ∙ swap_inner _ _ _ _

    twice_none : twice [] ≡ pos 0
    twice_none = ap (λ (z : ℤ). z ⊞ z) (total_none S F) ∙ add_zero (pos 0)

    exact_none : (k : Gauss) (A B : Op S) (p : S.Word) → k ≡ zero_g → total S F (dissipator2 S k A B p) ≡ pos 0
    unfolding dissipator2
    exact_none k A B p h =
        ap (λ (l : Gauss). total S F (dissipator2 S l A B p)) h
        ∙ total_scale S F zero_g _
        ∙ total_cong S _ (λ x u. pos 0) _ (λ x u. ap (λ (z : Gauss). F z u) (zero_times x) ∙ additive_zero S add u)
        ∙ total_zero S _

    -- ---- the Hamiltonian
    terms_exact : (H : Op S) (p : S.Word) → twice (rule_terms S H p) ≡ total S F (commutator2 S H p)
    unfolding rule_terms hamiltonian
    terms_exact H p =
        ap (λ (z : ℤ). z ⊞ z)
        (total_gather S F _ H
        ∙ total_cong S _ _ H (λ x u. cond_case (λ R. total S F R ≡ total S F (oddly S (S.phase u p % 4) x (S.mul u p))) (S.meets u p) _ _
        (λ h. refl)
        (λ h. let e = L.apart u p h in total_none S F ∙ sym (total_oddly S F add (S.phase u p % 4) x (S.mul u p) ∙ ap (λ (z : Gauss). F z (S.mul u p)) (odd_none (S.phase u p % 4) x (omega arith) (omega arith)) ∙ additive_zero S add (S.mul u p))))
        ∙ sym (total_gather S F _ H))
        ∙ hamiltonian_exact S L F add H p

    -- ---- jumps
    shape_exact : (k : Gauss) (A : Op S) (p : S.Word) → Every S (Back S p) A → twice (rule_shape S k A p) ≡ total S F (dissipator2 S k A A p)
    unfolding rule_shape
    shape_exact k [] p home = twice_none ∙ sym (skip_exact S L F add k [] [] p tt tt)
    shape_exact k (t ∷ []) p home =
        cond_case (λ R. twice R ≡ total S F (dissipator2 S k (t ∷ []) (t ∷ []) p)) (is_nought t.num.im) _ _
        (λ h. ap (λ (g : Gauss). twice (pauli S g t.word p)) (real_weight k t.num h) ∙ pauli_exact S L F add k t.num t.word p home.0)
        (λ h. general_exact S L F add k (t ∷ []) (t ∷ []) _ p (formed_same (t ∷ []) (t ∷ [])))
    shape_exact k (t ∷ (u ∷ A)) p home = general_exact S L F add k (t ∷ (u ∷ A)) (t ∷ (u ∷ A)) _ p (formed_same (t ∷ (u ∷ A)) (t ∷ (u ∷ A)))

    jumps_exact : (J : List (JumpOver whole S)) (p : S.Word) → Backs S p J → twice (rule_jumps S J p) ≡ total S F (exact_jumps S J p)
    unfolding rule_jumps exact_jumps
    jumps_exact [] p home = twice_none ∙ sym (total_none S F)
    jumps_exact (j ∷ J) p home =
        twice_append _ _
        ∙ ap₂ ◌⊞◌
        (cond_case (λ R. twice R ≡ total S F (dissipator2 S (real_c whole j.rate) j.op j.op p)) (overlaps S j.op p) _ _
        (λ h. shape_exact (real_c whole j.rate) j.op p home.0)
        (λ h. twice_none ∙ sym (skip_exact S L F add (real_c whole j.rate) j.op j.op p (clear j.op p h) (clear j.op p h))))
        (jumps_exact J p home.1)
        ∙ sym (total_append S F _ _)

    -- ---- pairs
    diagonal_exact : (drop : Gauss → Bool) (k : Gauss) (A : Op S) (p : S.Word) → (drop k ≡ true → k ≡ zero_g) → twice (rule_diagonal S drop k A p) ≡ total S F (dissipator2 S k A A p)
    unfolding rule_diagonal
    diagonal_exact drop k A p zeros =
        cond_case (λ R. twice R ≡ total S F (dissipator2 S k A A p)) (drop k) _ _
        (λ h. twice_none ∙ sym (exact_none k A A p (zeros h)))
        (λ h. cond_case (λ R. twice R ≡ total S F (dissipator2 S k A A p)) (overlaps S A p) _ _
        (λ e. general_exact S L F add k A A _ p (formed_same A A))
        (λ e. twice_none ∙ sym (skip_exact S L F add k A A p (clear A p e) (clear A p e))))

    pair_exact : (drop : Gauss → Bool) (k l : Gauss) (A B : Op S) (p : S.Word) → l ≡ conj_g k → (drop k ≡ true → k ≡ zero_g)
        → twice (rule_pair S drop k A B p) ≡ total S F (dissipator2 S k A B p) ⊞ total S F (dissipator2 S l B A p)
    unfolding rule_pair
    pair_exact drop k l A B p hl zeros =
        cond_case Right (drop k) _ _
        (λ h. twice_none ∙ sym (ap₂ ◌⊞◌ (exact_none k A B p (zeros h)) (exact_none l B A p (hl ∙ ap conj_g (zeros h) ∙ conj_zero)) ∙ add_zero (pos 0)))
        (λ h. cond_case Right (overlaps S A p) _ _
        (λ a. cond_case Right (overlaps S B p) _ _
        (λ b. both_exact S L F add k A B _ p (formed_same A B) ∙ mirror)
        (λ b. left_exact S L F add k A B _ p (formed_same A B) (clear B p b) ∙ mirror))
        (λ a. cond_case Right (overlaps S B p) _ _
        (λ b. right_exact S L F add k A B _ p (formed_same A B) (clear A p a) ∙ mirror)
        (λ b. twice_none ∙ sym (ap₂ ◌⊞◌ (skip_exact S L F add k A B p (clear A p a) (clear B p b)) (skip_exact S L F add l B A p (clear B p b) (clear A p a)) ∙ add_zero (pos 0)))))
      where
        Right : Op S → Type 0
        Right R = twice R ≡ total S F (dissipator2 S k A B p) ⊞ total S F (dissipator2 S l B A p)

        mirror : total S F (dissipator2 S k A B p) ⊞ total S F (dissipator2 S (conj_g k) B A p) ≡ total S F (dissipator2 S k A B p) ⊞ total S F (dissipator2 S l B A p)
        mirror = ap (λ (z : Gauss). total S F (dissipator2 S k A B p) ⊞ total S F (dissipator2 S z B A p)) (sym hl)

    module _ (K : ℕ → ℕ → Gauss) (hermitian : (i j : ℕ) → K j i ≡ conj_g (K i j)) (drop : Gauss → Bool) (zeros : (i j : ℕ) → drop (K i j) ≡ true → K i j ≡ zero_g) (p : S.Word) where
      abbrev entries : Row whole S → Row whole S → ℤ
      entries x y = total S F (dissipator2 S (K x.row y.row) x.op y.op p)

      row_is : (x : Row whole S) (Y : List (Row whole S)) → total S F (exact_row S K x Y p) ≡ over (entries x) Y
      unfolding exact_row over
      row_is x [] = total_none S F
      row_is x (y ∷ Y) = total_append S F _ _ ∙ ap (λ (z : ℤ). entries x y ⊞ z) (row_is x Y)

      matrix_is : (X Y : List (Row whole S)) → total S F (exact_matrix S K X Y p) ≡ over (λ x. over (entries x) Y) X
      unfolding exact_matrix over
      matrix_is [] Y = total_none S F
      matrix_is (x ∷ X) Y = total_append S F _ _ ∙ ap₂ ◌⊞◌ (row_is x Y) (matrix_is X Y)

      row_exact : (x : Row whole S) (Y : List (Row whole S)) → twice (rule_row S drop K x Y p) ≡ over (λ y. entries x y ⊞ entries y x) Y
      unfolding rule_row over
      row_exact x [] = twice_none
      row_exact x (y ∷ Y) = twice_append _ _ ∙ ap₂ ◌⊞◌ (pair_exact drop (K x.row y.row) (K y.row x.row) x.op y.op p (hermitian x.row y.row) (zeros x.row y.row)) (row_exact x Y)

      upper_exact : (X : List (Row whole S)) → twice (rule_matrix S drop K X p) ≡ upper entries X
      unfolding rule_matrix upper
      upper_exact [] = twice_none
      upper_exact (x ∷ X) =
          twice_append _ _
          ∙ ap₂ ◌⊞◌ (twice_append _ _ ∙ ap₂ ◌⊞◌ (diagonal_exact drop (K x.row x.row) x.op p (zeros x.row x.row)) (row_exact x X)) (upper_exact X)

      matrix_exact : (X : List (Row whole S)) → twice (rule_matrix S drop K X p) ≡ total S F (exact_matrix S K X X p)
      matrix_exact X = upper_exact X ∙ sym (triangle entries X) ∙ sym (matrix_is X X)

    matrices_exact : (Ks : List (MatrixOver whole S)) (p : S.Word) → AllModerate S Ks → twice (rule_matrices S Ks p) ≡ total S F (exact_matrices S Ks p)
    unfolding rule_matrices exact_matrices
    matrices_exact [] p ok = twice_none ∙ sym (total_none S F)
    matrices_exact (k ∷ Ks) p ok =
        twice_append _ _
        ∙ ap₂ ◌⊞◌ (matrix_exact (entry_over whole S k) ok.0.hermitian (skips (largest_over whole k.entries)) (λ i j. only_zero (entry_over whole S k i j) (largest_over whole k.entries) ok.0.size ok.0.is ok.0.below) p (rows_over whole S 0 k.ops)) (matrices_exact Ks p ok.1)
        ∙ sym (total_append S F _ _)

  -- ---- real numbers
  real_num : (x : ℤ) → conj_g (real_c whole x) ≡ real_c whole x
  real_num x = same (simp parts) (simp parts)

  real_terms : (H : List (RealTerm whole S)) → Real S (map (as_term S) H)
  unfolding total
  real_terms [] F add = refl
  real_terms (h ∷ H) F add = ap₂ ◌⊞◌ (ap (λ (z : Gauss). F z h.word) (sym (real_num h.num))) (real_terms H F add)

  real_jumps : (J : List (JumpOver whole S)) (p : S.Word) → Real S (exact_jumps S J p)
  unfolding exact_jumps
  real_jumps [] p F add = total_none S F ∙ sym (total_none S _)
  real_jumps (j ∷ J) p F add = real_append S _ _ (real_dissipator S L (real_c whole j.rate) j.op p (real_num j.rate)) (real_jumps J p) F add

  real_matrix : (K : ℕ → ℕ → Gauss) (hermitian : (i j : ℕ) → K j i ≡ conj_g (K i j)) (X : List (Row whole S)) (p : S.Word) → Real S (exact_matrix S K X X p)
  real_matrix K hermitian X p F add =
      let G : Gauss → S.Word → ℤ = λ z w. F (conj_g z) w in
      let more : Additive S G = conj_additive S add in
      let keep : Gauss → Bool = λ k. false in
      let kept : (i j : ℕ) → false ≡ true → K i j ≡ zero_g = λ i j h. cc in
      matrix_is F add K hermitian keep kept p X X
      ∙ triangle (entries F add K hermitian keep kept p) X
      ∙ upper_cong (entries F add K hermitian keep kept p) (entries G more K hermitian keep kept p) X
      (λ x. real_dissipator S L (K x.row x.row) x.op p (sym (hermitian x.row x.row)) F add)
      (λ x y.
      ap (λ (k : Gauss). total S F (dissipator2 S (K x.row y.row) x.op y.op p) ⊞ total S F (dissipator2 S k y.op x.op p)) (hermitian x.row y.row)
      ∙ sym (total_append S F _ _)
      ∙ real_folded S L (K x.row y.row) x.op y.op p F add
      ∙ total_append S G _ _
      ∙ sym (ap (λ (k : Gauss). total S G (dissipator2 S (K x.row y.row) x.op y.op p) ⊞ total S G (dissipator2 S k y.op x.op p)) (hermitian x.row y.row)))
      ∙ sym (matrix_is G more K hermitian keep kept p X X ∙ triangle (entries G more K hermitian keep kept p) X)

  real_matrices : (Ks : List (MatrixOver whole S)) (p : S.Word) → AllModerate S Ks → Real S (exact_matrices S Ks p)
  unfolding exact_matrices
  real_matrices [] p ok F add = total_none S F ∙ sym (total_none S _)
  real_matrices (k ∷ Ks) p ok F add = real_append S _ _ (real_matrix (entry_over whole S k) ok.0.hermitian (rows_over whole S 0 k.ops) p) (real_matrices Ks p ok.1) F add

  module _ (m : ModelOver whole S) (moderate : AllModerate S m.matrices) (p : S.Word) (home : Backs S p m.jumps) where
    -- the rules, doubled, are the exact generator, doubled
    pub rules_exact : (F : Gauss → S.Word → ℤ) → Additive S F → total S F (rules S m p) ⊞ total S F (rules S m p) ≡ total S F (generator2 S m p)
    unfolding rules generator2
    rules_exact F add =
        twice_append F add _ _
        ∙ ap₂ ◌⊞◌ (terms_exact F add (map (as_term S) m.terms) p)
        (twice_append F add _ _ ∙ ap₂ ◌⊞◌ (jumps_exact F add m.jumps p home) (matrices_exact F add m.matrices p moderate) ∙ sym (total_append S F _ _))
        ∙ sym (total_append S F _ _)

    pub real_generator : Real S (generator2 S m p)
    unfolding generator2
    real_generator =
        real_append S _ _ (real_commutator S L (map (as_term S) m.terms) p (real_terms m.terms))
        (real_append S _ _ (real_jumps m.jumps p) (real_matrices m.matrices p moderate))

    -- the exact number is real
    pub generator_real : (w : S.Word) → (coeff S w (generator2 S m p)).im ≡ pos 0
    generator_real w = real_coeff S w (generator2 S m p) real_generator
