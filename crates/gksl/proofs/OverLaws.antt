-- SPDX-FileCopyrightText: 2026 The PPVM Authors
-- SPDX-License-Identifier: Apache-2.0

-- Over whole numbers the rules are the exact ones. Assumes nothing.
use mathlib.Core.Path.{◌≡◌, refl, sym, ap, ap₂, ◌∙◌}
use mathlib.Core.Bool.{Bool, true, false, cond}
use mathlib.Core.List.{List, [], ◌∷◌, ◌++◌, map}
use Prim.Native.Nat.{ℕ, zero, suc, ◌%◌}
use lib.Dec.{T}
use lib.IntN.{ℤ, pos}
use Rattle.number.specs.Numbers.{real_c, largest_over}
use Rattle.number.specs.Whole.{◌⊞◌, neg, ◌⊠◌, whole, is_nought}
use Rattle.gksl.specs.Gauss.{Gauss, zero_g, add_g, neg_g, mul_g}
use Rattle.gksl.specs.Operator.{Words, Term, Op, at, coeff}
use Rattle.gksl.specs.Model.{RealTerm, JumpOver, Row, MatrixOver, ModelOver, rows_over, entry_over, AllModerate}
use Rattle.gksl.specs.Table.{put_all}
use Rattle.gksl.specs.Rules.{pairs_over, gather_over, through, onto, signed, factored, bare, terms_over, clash_over, general_over, shape_over, jumps_over, diagonal_over, both_over, one_over, pair_over, row_over, matrix_over, matrices_over, rules_over, action_over}
use Rattle.gksl.specs.Generator.{generator2, as_term}
use Rattle.gksl.proofs.GaussLaws.{twice_re, im_of, same, parts, turn_times, times_comm, re_twice, im_twice}
use Rattle.gksl.proofs.WholeRules.{pairs, gather, evenly, oddly, clashing, pauli, sandwich, general, both_sided, right_only, left_only, formed, overlaps, rule_terms, rule_shape, rule_jumps, rule_diagonal, rule_pair, rule_row, rule_matrix, rule_matrices, rules, skips}
use Rattle.number.proofs.WholeLaws.{products, mul_sum, mul_unit, mul_comm, mul_neg_right}
use Rattle.gksl.proofs.Parity.{even_num, odd_num, total_evenly, total_oddly, unit_turn}
use Rattle.gksl.proofs.Totals.{total, Additive, additive_zero, total_none, total_append, total_gather, total_cong}
use Rattle.gksl.proofs.ModelLaws.{nought, Backs, rules_exact, generator_real}
use Rattle.gksl.proofs.WordLaws.{Laws}
use Rattle.gksl.proofs.Tables.{total_table, total_without}
use Rattle.gksl.proofs.Coefficients.{re_at, re_none, re_additive, re_coeff}

-- ---- 2 times
two_times : (x : ℤ) → x ⊠ pos 2 ≡ x ⊞ x
two_times x = ap (λ (y : ℤ). x ⊠ y) split ∙ mul_sum x (pos 1) (pos 1) ∙ ap₂ ◌⊞◌ (mul_unit x) (mul_unit x)
  where
    split : pos 2 ≡ pos 1 ⊞ pos 1
    split = unfold ◌⊞◌ in refl

times_two : (x : ℤ) → pos 2 ⊠ x ≡ x ⊞ x
times_two x = simp (products) (two_times x)

cond_same : {X : Type 0} (b : Bool) (x y u v : X) → (b ≡ true → x ≡ u) → (b ≡ false → y ≡ v) → cond b x y ≡ cond b u v
cond_same true x y u v f g = f refl
cond_same false x y u v f g = g refl

-- ---- one number
real_two : (x : ℤ) → real_c whole (x ⊠ pos 2) ≡ add_g (real_c whole x) (real_c whole x)
real_two x = same (two_times x ∙ sym (simp parts)) (simp parts)

real_minus_two : (x : ℤ) → real_c whole (x ⊠ neg (pos 2)) ≡ neg_g (add_g (real_c whole x) (real_c whole x))
real_minus_two x = same (simp products (ap neg (two_times x) ∙ sym (simp parts))) (simp parts)

minus_two_re : (z : Gauss) → real_c whole (neg (pos 2 ⊠ z.re ⊠ pos 1)) ≡ neg_g (twice_re z)
minus_two_re z = same (ap neg (mul_unit _ ∙ times_two z.re) ∙ sym (simp parts)) (sym (simp parts))

plus_two_re : (z : Gauss) → real_c whole (neg (pos 2 ⊠ z.re ⊠ neg (pos 1))) ≡ neg_g (neg_g (twice_re z))
plus_two_re z = same (ap neg (mul_neg_right _ _ ∙ ap neg (mul_unit _ ∙ times_two z.re)) ∙ sym (simp parts)) (sym (simp parts))

gone_re : (z : Gauss) → z.re ≡ pos 0 → neg_g (twice_re z) ≡ zero_g
gone_re z h = same (simp (parts, h)) (simp parts)

im_real : (z : Gauss) → real_c whole z.im ≡ im_of z
im_real z = same (sym (simp parts)) (sym (simp parts))

im_opposite : (z : Gauss) → real_c whole (neg z.im) ≡ neg_g (im_of z)
im_opposite z = same (sym (simp parts)) (sym (simp parts))

even_zero : (n : ℕ) → even_num n zero_g ≡ zero_g
unfolding even_num
even_zero zero = refl
even_zero (suc zero) = refl
even_zero (suc (suc zero)) = same (simp parts) (simp parts)
even_zero (suc (suc (suc n))) = refl

odd_zero : (n : ℕ) → odd_num n zero_g ≡ zero_g
unfolding odd_num
odd_zero zero = refl
odd_zero (suc zero) = same (simp parts) (simp parts)
odd_zero (suc (suc zero)) = refl
odd_zero (suc (suc (suc n))) = same (simp parts) (simp parts)

module _ (S : Words) where
  factored_is : (n : ℕ) (x : ℤ) (w : S.Word) → factored whole S n x w ≡ oddly S n (real_c whole x) w
  unfolding factored oddly
  factored_is zero x w = refl
  factored_is (suc zero) x w = ap (λ (z : Gauss). at S z w ∷ []) (real_minus_two x)
  factored_is (suc (suc zero)) x w = refl
  factored_is (suc (suc (suc n))) x w = ap (λ (z : Gauss). at S z w ∷ []) (real_two x)

  signed_is : (n : ℕ) (f : ℤ → Gauss) (z : Gauss) (w : S.Word) → f (pos 1) ≡ z → f (neg (pos 1)) ≡ neg_g z → signed whole S n f w ≡ evenly S n z w
  unfolding signed evenly
  signed_is zero f z w a b = ap (λ (y : Gauss). at S y w ∷ []) a
  signed_is (suc zero) f z w a b = refl
  signed_is (suc (suc zero)) f z w a b = ap (λ (y : Gauss). at S y w ∷ []) b
  signed_is (suc (suc (suc n))) f z w a b = refl

  pairs_same : (f g : Term S → Term S → Term S) (A B : Op S) → ((a b : Term S) → f a b ≡ g a b) → pairs S f A B ≡ pairs S g A B
  unfolding pairs_over
  pairs_same f g [] B h = refl
  pairs_same f g (a ∷ A) B h = ap₂ ◌++◌ (maps B) (pairs_same f g A B h)
    where
      maps : (B : Op S) → map (f a) B ≡ map (g a) B
      maps [] = refl
      maps (b ∷ B) = ap₂ ◌∷◌ (h a b) (maps B)

  gather_same : (f g : Term S → Op S) (M : Op S) → ((c : Term S) → f c ≡ g c) → gather S f M ≡ gather S g M
  unfolding gather_over
  gather_same f g [] h = refl
  gather_same f g (c ∷ M) h = ap₂ ◌++◌ (h c) (gather_same f g M h)

  -- ---- the Hamiltonian
  terms_are : (H : List (RealTerm whole S)) (p : S.Word) → terms_over whole S H p ≡ rule_terms S (map (as_term S) H) p
  unfolding terms_over rule_terms gather_over
  terms_are [] p = refl
  terms_are (h ∷ H) p = ap₂ ◌++◌ (ap (λ (R : Op S). cond (S.meets h.word p) R []) (factored_is (S.phase h.word p % 4) h.num (S.mul h.word p))) (terms_are H p)

  -- ---- jumps
  general_is : (g : ℤ) (A : Op S) (p : S.Word) → general_over whole S g A p ≡ general S (real_c whole g) A A (formed S A A) p
  unfolding general_over general sandwich
  general_is g A p =
      ap₂ ◌++◌
      (pairs_same _ _ A A (λ a b. ap (λ (z : Gauss). at S z (onto S a.word p b.word)) (ap (λ (z : Gauss). mul_g z (real_c whole g)) (unit_turn (through S a.word p b.word) (bare whole S a b)) ∙ turn_times (through S a.word p b.word) (bare whole S a b) (real_c whole g))))
      (gather_same _ _ (formed S A A) (λ c. signed_is (S.phase c.word p % 4) _ (neg_g (mul_g c.num (real_c whole g))) (S.mul c.word p) (plain c.num g) (turned c.num g)))
    where
      plain : (c : Gauss) (g : ℤ) → mul_g (mul_g (neg_g c) (real_c whole g)) (real_c whole (pos 1)) ≡ neg_g (mul_g c (real_c whole g))
      plain c g = same (simp (parts, products)) (simp (parts, products))

      turned : (c : Gauss) (g : ℤ) → mul_g (mul_g (neg_g c) (real_c whole g)) (real_c whole (neg (pos 1))) ≡ neg_g (neg_g (mul_g c (real_c whole g)))
      turned c g = same (simp (parts, products)) (simp (parts, products))

  clash_is : (g : ℤ) (c : Gauss) (n : ℕ) (p : S.Word) → is_nought c.im ≡ true
      → clash_over whole S n (g ⊠ c.re ⊠ c.re) p ≡ clashing S n (mul_g (mul_g (real_c whole g) c) c) p
  unfolding clash_over clashing
  clash_is g c zero p h = refl
  clash_is g c (suc n) p h = ap (λ (y : Gauss). at S y p ∷ [])
      (ap (real_c whole) (mul_comm (neg (pos 2)) (g ⊠ c.re ⊠ c.re)) ∙ real_minus_two (g ⊠ c.re ⊠ c.re) ∙ ap (λ (z : Gauss). neg_g (add_g z z)) (sym (ap (λ (z : Gauss). mul_g (mul_g (real_c whole g) z) z) real ∙ cube g c.re)))
    where
      real : c ≡ real_c whole c.re
      real = same refl (nought c.im h)

      cube : (g r : ℤ) → mul_g (mul_g (real_c whole g) (real_c whole r)) (real_c whole r) ≡ real_c whole (g ⊠ r ⊠ r)
      cube g r = same (simp (parts, products)) (simp (parts, products))

  shape_is : (g : ℤ) (A : Op S) (p : S.Word) → shape_over whole S g A p ≡ rule_shape S (real_c whole g) A p
  unfolding shape_over rule_shape pauli
  shape_is g [] p = refl
  shape_is g (t ∷ []) p =
      cond_same (is_nought t.num.im) _ _ _ _
      (λ h. clash_is g t.num (S.phase t.word p % 2) p h)
      (λ h. general_is g (t ∷ []) p)
  shape_is g (t ∷ (u ∷ A)) p = general_is g (t ∷ (u ∷ A)) p

  jumps_are : (J : List (JumpOver whole S)) (p : S.Word) → jumps_over whole S J p ≡ rule_jumps S J p
  unfolding jumps_over rule_jumps
  jumps_are [] p = refl
  jumps_are (j ∷ J) p = ap₂ ◌++◌ (ap (λ (R : Op S). cond (overlaps S j.op p) R []) (shape_is j.rate j.op p)) (jumps_are J p)

  -- ---- pairs
  diagonal_is : (big : ℤ) (k : Gauss) (A : Op S) (p : S.Word) → diagonal_over whole S big k A p ≡ rule_diagonal S (skips big) k A p
  unfolding diagonal_over rule_diagonal general sandwich
  diagonal_is big k A p =
      ap (λ (R : Op S). cond (skips big k) [] (cond (overlaps S A p) R []))
      (ap₂ ◌++◌
      (pairs_same _ _ A A (λ a b. ap (λ (z : Gauss). at S z (onto S a.word p b.word)) (unit_turn (through S a.word p b.word) (mul_g (bare whole S a b) k))))
      (gather_same _ _ (formed S A A) (λ c. signed_is (S.phase c.word p % 4) _ (neg_g (mul_g c.num k)) (S.mul c.word p) (plain c.num k) (turned c.num k))))
    where
      plain : (c k : Gauss) → neg_g (mul_g (mul_g k c) (real_c whole (pos 1))) ≡ neg_g (mul_g c k)
      plain c k = same (simp (parts, products)) (simp (parts, products))

      turned : (c k : Gauss) → neg_g (mul_g (mul_g k c) (real_c whole (neg (pos 1)))) ≡ neg_g (neg_g (mul_g c k))
      turned c k = same (simp (parts, products)) (simp (parts, products))

  module _ (F : Gauss → S.Word → ℤ) (add : Additive S F) where
    -- a number that was dropped is 0
    dropped : (b : Bool) (R T : Op S) → (b ≡ true → total S F T ≡ pos 0) → R ≡ T → total S F (cond b [] R) ≡ total S F T
    dropped true R T f e = total_none S F ∙ sym (f refl)
    dropped false R T f e = ap (total S F) e

    both_is : (k : Gauss) (A B : Op S) (p : S.Word) → total S F (both_over whole S k A B p) ≡ total S F (both_sided S k A B (formed S A B) p)
    unfolding both_over both_sided
    both_is k A B p =
        total_append S F _ _
        ∙ ap₂ ◌⊞◌
        (ap (total S F) (pairs_same _ _ A B (λ a b. ap (λ (z : Gauss). at S z (onto S a.word p b.word)) (same (times_two _ ∙ ap (λ (z : Gauss). z.re ⊞ z.re) (unit_turn (through S a.word p b.word) (mul_g (bare whole S a b) k)) ∙ sym (re_twice _)) (sym (im_twice _))))))
        (total_gather S F _ (formed S A B)
        ∙ total_cong S _ _ (formed S A B) (λ x u. dropped (is_nought (mul_g k x).re) _ _
        (λ h. total_evenly S F add (S.phase u p % 4) _ (S.mul u p) ∙ ap (λ (z : Gauss). F z (S.mul u p)) (ap (even_num (S.phase u p % 4)) (gone_re (mul_g x k) (ap (λ (z : Gauss). z.re) (times_comm x k) ∙ nought _ h)) ∙ even_zero (S.phase u p % 4)) ∙ additive_zero S add (S.mul u p))
        (signed_is (S.phase u p % 4) _ (neg_g (twice_re (mul_g x k))) (S.mul u p) (minus_two_re (mul_g k x) ∙ ap (λ (z : Gauss). neg_g (twice_re z)) (times_comm k x)) (plus_two_re (mul_g k x) ∙ ap (λ (z : Gauss). neg_g (neg_g (twice_re z))) (times_comm k x))))
        ∙ sym (total_gather S F _ (formed S A B)))
        ∙ sym (total_append S F _ _)

    -- f is the number, or its opposite
    one_is : (f : ℤ → ℤ) (g : Gauss → Gauss) (k : Gauss) (A B : Op S) (p : S.Word)
        → ((z : Gauss) → real_c whole (f z.im) ≡ g z) → ((z : Gauss) → z.im ≡ pos 0 → g z ≡ zero_g)
        → total S F (one_over whole S f k A B p) ≡ total S F (gather S (λ c. oddly S (S.phase c.word p % 4) (g (mul_g c.num k)) (S.mul c.word p)) (formed S A B))
    unfolding one_over
    one_is f g k A B p is gone =
        total_gather S F _ (formed S A B)
        ∙ total_cong S _ _ (formed S A B) (λ x u. dropped (is_nought (mul_g k x).im) _ _
        (λ h. total_oddly S F add (S.phase u p % 4) _ (S.mul u p) ∙ ap (λ (z : Gauss). F z (S.mul u p)) (ap (odd_num (S.phase u p % 4)) (gone (mul_g x k) (ap (λ (z : Gauss). z.im) (times_comm x k) ∙ nought _ h)) ∙ odd_zero (S.phase u p % 4)) ∙ additive_zero S add (S.mul u p))
        (factored_is (S.phase u p % 4) (f (mul_g k x).im) (S.mul u p) ∙ ap (λ (z : Gauss). oddly S (S.phase u p % 4) z (S.mul u p)) (is (mul_g k x) ∙ ap g (times_comm k x))))
        ∙ sym (total_gather S F _ (formed S A B))

    cond_total : (b : Bool) (A B C D : Op S) → total S F A ≡ total S F C → total S F B ≡ total S F D → total S F (cond b A B) ≡ total S F (cond b C D)
    cond_total true A B C D h k = h
    cond_total false A B C D h k = k

    pair_is : (big : ℤ) (k : Gauss) (A B : Op S) (p : S.Word) → total S F (pair_over whole S big k A B p) ≡ total S F (rule_pair S (skips big) k A B p)
    unfolding pair_over rule_pair left_only right_only
    pair_is big k A B p =
        cond_total (skips big k) _ _ _ _ refl
        (cond_total (overlaps S A p) _ _ _ _
        (cond_total (overlaps S B p) _ _ _ _ (both_is k A B p) (one_is (λ x. x) im_of k A B p im_real (λ z h. same (simp (parts, h)) (simp parts))))
        (cond_total (overlaps S B p) _ _ _ _ (one_is neg (λ z. neg_g (im_of z)) k A B p im_opposite (λ z h. same (simp (parts, h)) (simp parts))) refl))

    row_is_rule : (big : ℤ) (K : ℕ → ℕ → Gauss) (x : Row whole S) (Y : List (Row whole S)) (p : S.Word) → total S F (row_over whole S big K x Y p) ≡ total S F (rule_row S (skips big) K x Y p)
    unfolding row_over rule_row
    row_is_rule big K x [] p = refl
    row_is_rule big K x (y ∷ Y) p = total_append S F _ _ ∙ ap₂ ◌⊞◌ (pair_is big (K x.row y.row) x.op y.op p) (row_is_rule big K x Y p) ∙ sym (total_append S F _ _)

    matrix_is_rule : (big : ℤ) (K : ℕ → ℕ → Gauss) (X : List (Row whole S)) (p : S.Word) → total S F (matrix_over whole S big K X p) ≡ total S F (rule_matrix S (skips big) K X p)
    unfolding matrix_over rule_matrix
    matrix_is_rule big K [] p = refl
    matrix_is_rule big K (x ∷ X) p =
        total_append S F _ _
        ∙ ap₂ ◌⊞◌ (total_append S F _ _ ∙ ap₂ ◌⊞◌ (ap (total S F) (diagonal_is big (K x.row x.row) x.op p)) (row_is_rule big K x X p) ∙ sym (total_append S F _ _)) (matrix_is_rule big K X p)
        ∙ sym (total_append S F _ _)

    matrices_are_rules : (Ks : List (MatrixOver whole S)) (p : S.Word) → total S F (matrices_over whole S Ks p) ≡ total S F (rule_matrices S Ks p)
    unfolding matrices_over rule_matrices
    matrices_are_rules [] p = refl
    matrices_are_rules (k ∷ Ks) p =
        total_append S F _ _
        ∙ ap₂ ◌⊞◌ (matrix_is_rule (largest_over whole k.entries) (entry_over whole S k) (rows_over whole S 0 k.ops) p) (matrices_are_rules Ks p)
        ∙ sym (total_append S F _ _)

    -- the rules as they are rounded, over whole numbers
    pub rules_over_lem : (m : ModelOver whole S) (p : S.Word) → total S F (rules_over whole S m p) ≡ total S F (rules S m p)
    unfolding rules_over rules
    rules_over_lem m p =
        total_append S F _ _
        ∙ ap₂ ◌⊞◌ (ap (total S F) (terms_are m.terms p))
        (total_append S F _ _ ∙ ap₂ ◌⊞◌ (ap (total S F) (jumps_are m.jumps p)) (matrices_are_rules m.matrices p) ∙ sym (total_append S F _ _))
        ∙ sym (total_append S F _ _)

  -- ---- the action
  module _ (L : Laws S) (m : ModelOver whole S) (moderate : AllModerate S m.matrices) (p : S.Word) (home : Backs S p m.jumps) where
    -- at every word the action's number, doubled, is that of twice the exact generator
    pub action_exact : (w : S.Word) → (coeff S w (action_over whole S m p)).re ⊞ (coeff S w (action_over whole S m p)).re ≡ (coeff S w (generator2 S m p)).re
    unfolding action_over
    action_exact w =
        ap (λ (z : ℤ). z ⊞ z)
        (re_coeff S w _
        ∙ total_without S (re_at S w) (λ c. is_nought c.num.re) (λ t h. re_none S w t.num t.word (nought t.num.re h)) (put_all S (rules_over whole S m p) [])
        ∙ total_table S L (re_at S w) (re_additive S w) (rules_over whole S m p)
        ∙ rules_over_lem (re_at S w) (re_additive S w) m p)
        ∙ rules_exact S L m moderate p home (re_at S w) (re_additive S w)
        ∙ sym (re_coeff S w (generator2 S m p))

    -- and the exact number is real
    pub exact_real : (w : S.Word) → (coeff S w (generator2 S m p)).im ≡ pos 0
    exact_real w = generator_real S L m moderate p home w
