-- SPDX-FileCopyrightText: 2026 The PPVM Authors
-- SPDX-License-Identifier: Apache-2.0

-- K over whole numbers with parts of at most 256: each test over f64 is that over the whole numbers, an accepted K is exactly
-- Hermitian, and only zeros are skipped. Assumes nothing.
use Rattle.refusal.specs.Cause.{Answer}
use mathlib.Core.Path.{◌≡◌, refl, sym, ap, ap₂, ◌∙◌, subst}
use mathlib.Core.Bool.{Bool, true, false, not, ◌&&◌, cond}
use mathlib.Core.List.{List, [], ◌∷◌}
use Prim.Native.Nat.{ℕ, zero, suc, ◌+◌, ◌*◌, ◌/◌, ◌%◌, ◌≤◌, ◌<◌}
use native.Mathlib.Nat.{lt_of_le_of_lt}
use native.Mathlib.Decide.{dec_lt, dec_le}
use native.Mathlib.Omega.{arith}
use borrow.Author.Tests.{ltb-true, ltb-false, leb-true, le-leb, not-false}
use lib.Arith.{digits_lt, digits_div, digits_mod}
use lib.IntN.{ℤ, pos}
use lib.Dec.{ltb, leb, lit≤}
use lib.ListN.{get_or, length}
use lib.Ieee.{Float, binary64}
use lib.Ieee.Fits.{add-fits}
use Rattle.refusal.specs.declared.Refusal.TheVariants.{KMatrixNotHermitian}
use Rattle.std.specs.Prelude.{Ok, Err}
use Rattle.number.specs.Numbers.{Cx, sub_c, conj_c, zero_c, square, largest_from, largest_over}
use Rattle.number.specs.Floats.{floats, float0}
use Rattle.number.specs.Whole.{◌⊞◌, ◌⊠◌, neg, at_most, ten_to20, whole}
use Rattle.number.specs.Exact.{Is, IsG, Within, norm_g}
use Rattle.number.proofs.ExactLaws.{is_nought_lem}
use Rattle.number.proofs.ExactComplex.{within_mono, within_sub, within_conj, is_difference, is_conjugate, is_square, square_is, norm_le, norm_zero}
use Rattle.number.proofs.ToleranceLaws.{slighter_is, larger_is, larger_one, near_is}
use Rattle.number.proofs.WholeLaws.{add_assoc, add_zero, zero_add, neg_self, neg_neg, neg_zero}
use Rattle.gksl.specs.Model.{MatrixOver, entry_in, Moderate}
use Rattle.gksl.specs.Words.{pauli}
use Rattle.gksl.proofs.ModelLaws.{only_zero}
use Rattle.lent.specs.Tests.{first_to}
use Rattle.lent.proofs.Firsts.{first_before}
use Rattle.k_matrix.specs.Matrix.{apart, apart_at, hermitian, skipped}
use Rattle.kossakowski.specs.Whole.{WholeEntries}

-- ---- the largest squared magnitude
pub record Largest (b : Float) (z : ℤ) : Type 0 where
  pub size : ℕ
  pub is : z ≡ pos size
  pub value : Is b (pos size)
  pub most : size ≤ 131072

largest_from_lem : (K : List (Cx floats)) (G : List (Cx whole)) → WholeEntries K G → (b : Float) (z : ℤ) → Largest b z → Largest (largest_from floats b K) (largest_from whole z G)
unfolding largest_from
largest_from_lem [] [] w b z l = l
largest_from_lem [] (g ∷ G) w b z l = absurd w
largest_from_lem (x ∷ K) [] w b z l = absurd w
largest_from_lem (x ∷ K) (g ∷ G) w b z l =
    let one = larger_one l.size (norm_g g) in
    let sq : Is (square floats x) (pos (norm_g g)) = subst (Is (square floats x)) (square_is g) (is_square w.0 w.1 (lit≤ tt)) in
    let e : whole.larger z (square whole g) ≡ pos one.0 = ap₂ whole.larger l.is (square_is g) ∙ one.1 in
    largest_from_lem K G w.2 (floats.larger b (square floats x)) (whole.larger z (square whole g))
    (record { size = one.0; is = e; value = subst (Is _) one.1 (larger_is l.value sq); most = one.3 131072 l.most (norm_le w.1) })

module _ (K : List (Cx floats)) (G : List (Cx whole)) (w : WholeEntries K G) where
  pub largest_is : Largest (largest_over floats K) (largest_over whole G)
  largest_is = largest_from_lem K G w float0 (pos 0) (record { size = 0; is = refl; value = is_nought_lem; most = omega arith })

-- ---- an entry
record Entry (x : Cx floats) (g : Cx whole) : Type 0 where
  value : IsG x g
  most : Within 256 g

nought_entry : Entry (zero_c floats) (zero_c whole)
nought_entry = record { value = record { re = is_nought_lem; im = is_nought_lem }; most = record { re = omega arith; im = omega arith } }

at_place : (K : List (Cx floats)) (G : List (Cx whole)) → WholeEntries K G → (p : ℕ) → Entry (get_or K p (zero_c floats)) (get_or G p (zero_c whole))
at_place [] [] w p = nought_entry
at_place [] (g ∷ G) w p = absurd w
at_place (x ∷ K) [] w p = absurd w
at_place (x ∷ K) (g ∷ G) w zero = record { value = w.0; most = w.1 }
at_place (x ∷ K) (g ∷ G) w (suc p) = at_place K G w.2 p

module _ (ops : ℕ) (K : List (Cx floats)) (G : List (Cx whole)) (w : WholeEntries K G) (n m : ℕ) where
  entry_is : Entry (entry_in floats ops K n m) (entry_in whole ops G n m)
  unfolding entry_in
  entry_is = go (ltb n ops && ltb m ops)
    where
      go : (b : Bool) → Entry (cond b (get_or K (n * ops + m) (zero_c floats)) (zero_c floats)) (cond b (get_or G (n * ops + m) (zero_c whole)) (zero_c whole))
      go true = at_place K G w (n * ops + m)
      go false = nought_entry

module _ (ops : ℕ) (K : List (Cx floats)) (G : List (Cx whole)) (w : WholeEntries K G) (n m : ℕ) where
  abbrev own : Entry (entry_in floats ops K n m) (entry_in whole ops G n m)
  own = entry_is ops K G w n m

  abbrev mirror : Entry (entry_in floats ops K m n) (entry_in whole ops G m n)
  mirror = entry_is ops K G w m n

  -- the test of an entry beside its mirror entry, and that for skipping it
  pub apart_is : apart floats ops K n m ≡ apart whole ops G n m
  unfolding apart
  apart_is =
      let l = largest_is K G w in
      let d : Cx whole = sub_c whole (entry_in whole ops G n m) (conj_c whole (entry_in whole ops G m n)) in
      let v : Within 512 d = within_sub own.most (within_conj mirror.most) in
      let x = is_difference own.value (is_conjugate mirror.value) (within_mono (lit≤ tt) v) in
      let sq = subst (Is _) (square_is d) (is_square x v (lit≤ tt)) in
      ap not
      (near_is (add-fits binary64 _ _) sq l.value (omega (arith, l.most))
      ∙ ap₂ whole.near (sym (square_is d)) (sym l.is))

  pub skipped_is : skipped floats ops K n m ≡ skipped whole ops G n m
  unfolding skipped
  skipped_is =
      let l = largest_is K G w in
      let g : Cx whole = entry_in whole ops G n m in
      let sq = subst (Is _) (square_is g) (is_square own.value own.most (lit≤ tt)) in
      slighter_is (add-fits binary64 _ _) sq l.value (omega (arith, l.most))
      ∙ ap₂ whole.slighter (sym (square_is g)) (sym l.is)

-- ---- over the whole numbers
same_parts : (a b : ℤ) → a ⊞ neg b ≡ pos 0 → a ≡ b
same_parts a b e = sym (add_zero a) ∙ ap (λ (z : ℤ). a ⊞ z) (sym (neg_self b)) ∙ sym (add_assoc a (neg b) b) ∙ ap (λ (z : ℤ). z ⊞ b) e ∙ zero_add b

same_numbers : (g h : Cx whole) → sub_c whole g h ≡ zero_c whole → g ≡ h
unfolding sub_c
same_numbers g h e = (λ k. record { re = same_parts g.re h.re (ap (λ (z : Cx whole). z.re) e) k; im = same_parts g.im h.im (ap (λ (z : Cx whole). z.im) e) k })

conj_twice : (g : Cx whole) → conj_c whole (conj_c whole g) ≡ g
unfolding conj_c
conj_twice g = (λ k. record { re = g.re; im = neg_neg g.im k })

conj_none : conj_c whole (zero_c whole) ≡ zero_c whole
unfolding conj_c
conj_none = (λ k. record { re = pos 0; im = neg_zero k })

module _ (ops : ℕ) (K : List (Cx floats)) (G : List (Cx whole)) (w : WholeEntries K G) where
  -- an entry that passes is the conjugate of its mirror entry
  entry_exact : (n m : ℕ) → apart whole ops G n m ≡ false → entry_in whole ops G n m ≡ conj_c whole (entry_in whole ops G m n)
  unfolding apart at_most ◌⊠◌
  entry_exact n m e =
      let l = largest_is K G w in
      let d : Cx whole = sub_c whole (entry_in whole ops G n m) (conj_c whole (entry_in whole ops G m n)) in
      let one = larger_one 1 l.size in
      let h : leb (norm_g d * ten_to20) one.0 ≡ true = ap₂ at_most (ap (λ (z : ℤ). z ⊠ pos ten_to20) (sym (square_is d))) (sym one.1 ∙ ap (whole.larger (pos 1)) (sym l.is)) ∙ not-false _ e in
      let z : norm_g d ≡ 0 = omega (arith, leb-true (norm_g d * ten_to20) one.0 h, one.3 131072 (lit≤ tt) l.most) in
      same_numbers _ _ (norm_zero d z)

  -- only zeros are skipped
  pub skips_zeros : (n m : ℕ) → skipped floats ops K n m ≡ true → entry_in whole ops G n m ≡ zero_c whole
  unfolding skipped
  skips_zeros n m e =
      let l = largest_is K G w in
      only_zero (entry_in whole ops G n m) (largest_over whole G) l.size l.is (omega (arith, l.most)) (sym (skipped_is ops K G w n m) ∙ e)

  module _ (passes : (p : ℕ) → p < ops * ops → apart_at floats ops K p ≡ false) where
    -- a K that passes is exactly Hermitian
    upper : (n m : ℕ) → n ≤ m → m < ops → entry_in whole ops G n m ≡ conj_c whole (entry_in whole ops G m n)
    unfolding apart_at
    upper n m h k =
        let row : (n * ops + m) / ops ≡ n = digits_div n k in
        let column : (n * ops + m) % ops ≡ m = digits_mod n k in
        let e : leb n m && apart floats ops K n m ≡ false = ap₂ (λ (a b : ℕ). leb a b && apart floats ops K a b) (sym row) (sym column) ∙ passes (n * ops + m) (digits_lt (lt_of_le_of_lt h k) k) in
        entry_exact n m (sym (apart_is ops K G w n m) ∙ ap (λ (b : Bool). b && apart floats ops K n m) (sym (le-leb n m h)) ∙ e)

    past : (n m : ℕ) → (n < ops → m < ops → ⊥) → entry_in whole ops G n m ≡ zero_c whole
    unfolding entry_in
    past n m h = go (ltb n ops) (ltb m ops) refl refl
      where
        go : (a b : Bool) → ltb n ops ≡ a → ltb m ops ≡ b → cond (a && b) (get_or G (n * ops + m) (zero_c whole)) (zero_c whole) ≡ zero_c whole
        go true true e f = absurd (h (ltb-true n ops e) (ltb-true m ops f))
        go true false e f = refl
        go false b e f = refl

    pub hermitian_exact : (i j : ℕ) → entry_in whole ops G j i ≡ conj_c whole (entry_in whole ops G i j)
    hermitian_exact i j = go (dec_lt i ops) (dec_lt j ops) (dec_le j i)
      where
        go : Dec (i < ops) → Dec (j < ops) → Dec (j ≤ i) → entry_in whole ops G j i ≡ conj_c whole (entry_in whole ops G i j)
        go (yes a) (yes b) (yes c) = upper j i c a
        go (yes a) (yes b) (no c) = sym (ap (conj_c whole) (upper i j (omega arith) b) ∙ conj_twice (entry_in whole ops G j i))
        go (yes a) (no b) c = past j i (λ h k. b h) ∙ sym (ap (conj_c whole) (past i j (λ h k. b k)) ∙ conj_none)
        go (no a) b c = past j i (λ h k. a k) ∙ sym (ap (conj_c whole) (past i j (λ h k. a h)) ∙ conj_none)

-- ---- a K that was accepted meets what the exact theorem asks
module _ (k : MatrixOver whole pauli) (K : List (Cx floats)) (w : WholeEntries K k.entries) where
  abbrev places : ℕ
  places = length k.ops * length k.ops

  abbrev first : ℕ
  first = first_to places (apart_at floats (length k.ops) K)

  accepted_passes : hermitian (length k.ops) K (Ok tt) ≡ Ok tt → (p : ℕ) → p < places → apart_at floats (length k.ops) K p ≡ false
  unfolding hermitian
  accepted_passes e p h = go (ltb first places) refl e
    where
      go : (b : Bool) → ltb first places ≡ b → ◌≡◌ {A = Answer} (cond b (Err (KMatrixNotHermitian (first / length k.ops) (first % length k.ops))) (Ok tt)) (Ok tt) → apart_at floats (length k.ops) K p ≡ false
      go true l e = let z : ◌≡◌ {A = ℕ} 0 1 = cc in absurd (omega arith)
      go false l e = first_before places (apart_at floats (length k.ops) K) p (omega (arith, ltb-false first places l))

  pub accepted_moderate : hermitian (length k.ops) K (Ok tt) ≡ Ok tt → Moderate pauli k
  accepted_moderate e =
      let l = largest_is K k.entries w in
      record {
        hermitian = hermitian_exact (length k.ops) K k.entries w (accepted_passes e);
        size = l.size;
        is = l.is;
        below = omega (arith, l.most);
      }
