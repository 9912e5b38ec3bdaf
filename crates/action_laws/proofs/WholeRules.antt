-- SPDX-FileCopyrightText: 2026 The PPVM Authors
-- SPDX-License-Identifier: Apache-2.0

-- Each rule over f64, for whole numbers with parts of at most 256: it adds exactly what it adds over the whole numbers, at most
-- 2 ^ 9 for a Hamiltonian term, 2 ^ 35 for a jump and 2 ^ 37 for a pair. Assumes nothing.
use mathlib.Core.Path.{◌≡◌, refl, sym}
use mathlib.Core.Bool.{Bool, true, false, cond}
use mathlib.Core.List.{List, [], ◌∷◌}
use Prim.Native.Nat.{ℕ, zero, suc, ◌*◌, ◌^◌, ◌%◌, ◌≤◌}
use native.Mathlib.Nat.{le_trans, le_refl, add-mul}
use native.Mathlib.Omega.{arith}
use lib.Dec.{lit≤}
use lib.IntN.{ℤ}
use lib.Ieee.{Float, binary64}
use lib.Ieee.Fits.{add-fits, sub-fits}
use lib.ListN.{length}
use Rattle.word.specs.declared.word.Word.{Word}
use Rattle.number.specs.Numbers.{Cx, mul_c, conj_c, real_c, square, unit_c}
use Rattle.number.specs.Whole.{whole}
use Rattle.number.specs.Floats.{floats}
use Rattle.number.specs.Exact.{IsG}
use Rattle.number.proofs.ExactLaws.{zero_is}
use Rattle.number.proofs.ToleranceLaws.{slight_is}
use Rattle.gksl.specs.Operator.{Onto, Op}
use Rattle.gksl.specs.Model.{RealTerm, JumpOver}
use Rattle.gksl.specs.Table.{put_all_over}
use Rattle.gksl.specs.Rules.{pairs_over, bare, on_word, formed_over, terms_over, clash_over, general_over, shape_over, jumps_over, overlaps_over, diagonal_over, both_over, one_over, pair_over}
use Rattle.gksl.specs.Words.{pauli}
use Rattle.model.specs.Terms.{Term}
use Rattle.lent.specs.Every.{Every}
use Rattle.model_laws.specs.Exactly.{Exactly}
use Rattle.model_laws.proofs.FormedExact.{formed_exact}
use Rattle.action_laws.specs.WholeModel.{Beside, WholeReal, WholeJump, FewTerms}
use Rattle.action_laws.proofs.WholeSizes.{size, size_re, size_im, Sized, Sure, sized_mono, sized_mul, sized_conj, sized_neg, sized_unit, sized_real, sure_mul}
use Rattle.action_laws.proofs.WholeWeights.{weight, weight_put_all, weight_without}
use Rattle.action_laws.proofs.WholeAdds.{Agree, agree_mono, none, one, append, choose, Operand, overlaps_same, pairs, gather, sure_two, sure_neg, signed_agree, factored_agree}

-- ---- the product of two operators
formed_weight : (A B : List Term) (G H : Op pauli) → Operand A G → Operand B H → weight (formed_over whole pauli G H) ≤ 2 ^ 26
unfolding formed_over weight
formed_weight A B G H a b =
    let f : Term → Term → Term = λ a b. on_word floats pauli (mul_c floats (bare floats pauli a b) (unit_c floats (pauli.phase a.word b.word % 4))) (pauli.mul a.word b.word) in
    let g : Onto whole pauli → Onto whole pauli → Onto whole pauli = λ a b. on_word whole pauli (mul_c whole (bare whole pauli a b) (unit_c whole (pauli.phase a.word b.word % 4))) (pauli.mul a.word b.word) in
    let P : Agree (256 * 2 ^ 18) (pairs_over floats pauli f A B) (pairs_over whole pauli g G H) =
    pairs (2 ^ 18) f g (λ v w x x' y y' q r. (refl, sized_mul (lit≤ tt) (sized_mul (lit≤ tt) (sized_conj q) r) (sized_unit _))) A B G H a b in
    omega (
      arith,
      P.most,
      weight_put_all (pairs_over whole pauli g G H) [],
      weight_without (λ c. whole.small (square whole c.num)) (put_all_over whole pauli (pairs_over whole pauli g G H) []),
    )

formed : (A B : List Term) (G H : Op pauli) → Operand A G → Operand B H → Exactly (2 ^ 26) (formed_over floats pauli A B) (formed_over whole pauli G H)
formed A B G H a b = formed_exact A B G H a.few b.few a.exact b.exact

-- a number beside itself
own : {x : Cx floats} {y : Cx whole} → IsG x y → Sized (size y) x y
own {y} v = record { value = v; most = le_refl (size y) }

-- ---- Hamiltonian terms
pub terms_agree : (H : List (RealTerm floats pauli)) (W : List (RealTerm whole pauli)) → Beside WholeReal H W → (p : Word) → Agree (length H * 2 ^ 9) (terms_over floats pauli H p) (terms_over whole pauli W p)
unfolding terms_over
terms_agree [] [] h p = none
terms_agree [] (w ∷ W) h p = absurd h
terms_agree (x ∷ H) [] h p = absurd h
terms_agree (x ∷ H) (w ∷ W) h p =
    rw (sym h.0.same_word)
    (agree_mono (omega (arith, add-mul 1 (length H) (2 ^ 9)))
    (append {m = 256 * 2}
    (choose (pauli.meets x.word p) (pauli.meets x.word p) refl (factored_agree {b = 256} (pauli.phase x.word p % 4) (pauli.mul x.word p) (lit≤ tt) (record { value = h.0.value; most = h.0.most })) none)
    (terms_agree H W h.1 p)))

-- ---- jumps
module _ (g : Float) (z : ℤ) (rate : Sure 256 g z) (A : List Term) (G : Op pauli) (a : Operand A G) (p : Word) where
  abbrev real_rate : Sized 256 (real_c floats g) (real_c whole z)
  real_rate = sized_real rate.value rate.most

  general_agree : Agree (2 ^ 35) (general_over floats pauli g A p) (general_over whole pauli z G p)
  unfolding general_over
  general_agree =
      agree_mono (omega (arith, formed_weight A A G G a a))
      (append
      (pairs (2 ^ 26) _ _ (λ v w x x' y y' q r. (refl, sized_mul (lit≤ tt) (sized_mul (lit≤ tt) (sized_mul (lit≤ tt) (sized_conj q) r) (sized_unit _)) real_rate)) A A G G a a)
      (gather 256 _ _
      (λ w x y v l. signed_agree (pauli.phase w p % 4) _ _ (pauli.mul w p)
      (λ s e u. sized_mono (omega arith) (sized_mul {b = size y * 256} {c = 1} (omega (arith, l)) (sized_mul {b = size y} {c = 256} (omega (arith, l)) (sized_neg (own v)) real_rate) (sized_real u.value u.most))))
      (formed_over floats pauli A A) (formed_over whole pauli G G) (formed A A G G a a)))

clash_agree : (n : ℕ) (g : Float) (z : ℤ) → Sure (2 ^ 24) g z → (p : Word) → Agree (2 ^ 35) (clash_over floats pauli n g p) (clash_over whole pauli n z p)
unfolding clash_over
clash_agree zero g z h p = none
clash_agree (suc n) g z h p = let m = sure_mul {b = 2} {c = 2 ^ 24} (lit≤ tt) (sure_neg sure_two) h in one (sized_real m.value (le_trans m.most (lit≤ tt)))

shape_agree : (g : Float) (z : ℤ) → Sure 256 g z → (A : List Term) (G : Op pauli) → Operand A G → (p : Word) → Agree (2 ^ 35) (shape_over floats pauli g A p) (shape_over whole pauli z G p)
unfolding shape_over
shape_agree g z r [] [] a p = none
shape_agree g z r [] (d ∷ G) a p = absurd a.exact
shape_agree g z r (c ∷ A) [] a p = absurd a.exact
shape_agree g z r (c ∷ []) (d ∷ []) a p =
    let re : Sure 256 c.num.re d.num.re = record { value = a.exact.1.0.re; most = a.exact.1.1.re } in
    choose (floats.is_zero c.num.im) (whole.is_zero d.num.im) (zero_is a.exact.1.0.im)
    (rw (sym a.exact.0) (clash_agree _ _ _ (sure_mul {b = 2 ^ 16} {c = 256} (lit≤ tt) (sure_mul {b = 256} {c = 256} (lit≤ tt) r re) re) p))
    (general_agree g z r (c ∷ []) (d ∷ []) a p)
shape_agree g z r (c ∷ []) (d ∷ e ∷ G) a p = absurd a.exact.2
shape_agree g z r (c ∷ b ∷ A) (d ∷ []) a p = absurd a.exact.2
shape_agree g z r (c ∷ b ∷ A) (d ∷ e ∷ G) a p = general_agree g z r (c ∷ b ∷ A) (d ∷ e ∷ G) a p

pub jumps_agree : (J : List (JumpOver floats pauli)) (W : List (JumpOver whole pauli)) → Beside WholeJump J W → Every (λ j. FewTerms j.op) J → (p : Word)
    → Agree (length J * 2 ^ 35) (jumps_over floats pauli J p) (jumps_over whole pauli W p)
unfolding jumps_over
jumps_agree [] [] h l p = none
jumps_agree [] (w ∷ W) h l p = absurd h
jumps_agree (j ∷ J) [] h l p = absurd h
jumps_agree (j ∷ J) (w ∷ W) h l p =
    let a : Operand j.op w.op = record { few = l.0; exact = h.0.op } in
    agree_mono (omega (arith, add-mul 1 (length J) (2 ^ 35)))
    (append
    (choose (overlaps_over floats pauli j.op p) (overlaps_over whole pauli w.op p) (overlaps_same j.op w.op a.exact p)
    (shape_agree j.rate w.rate (record { value = h.0.value; most = h.0.most }) j.op w.op a p) none)
    (jumps_agree J W h.1 l.1 p))

-- ---- pairs
module _ (k : Cx floats) (z : Cx whole) (entry : Sized 512 k z) where
  -- K × a number of the product
  scaled : {x : Cx floats} {y : Cx whole} → IsG x y → size y ≤ 2 ^ 27 → Sized (size y * 512) (mul_c floats k x) (mul_c whole z y)
  scaled {y} v l = sized_mono (omega arith) (sized_mul {b = 512} {c = size y} (omega (arith, l)) entry (own v))

  scaled_re : {x : Cx floats} {y : Cx whole} → IsG x y → size y ≤ 2 ^ 27 → Sure (size y * 512) (mul_c floats k x).re (mul_c whole z y).re
  scaled_re {y} v l = let s = scaled v l in record { value = s.value.re; most = le_trans (size_re (mul_c whole z y)) s.most }

  scaled_im : {x : Cx floats} {y : Cx whole} → IsG x y → size y ≤ 2 ^ 27 → Sure (size y * 512) (mul_c floats k x).im (mul_c whole z y).im
  scaled_im {y} v l = let s = scaled v l in record { value = s.value.im; most = le_trans (size_im (mul_c whole z y)) s.most }

  re_slight : {x : Cx floats} {y : Cx whole} → IsG x y → size y ≤ 2 ^ 27 → floats.slight (mul_c floats k x).re ≡ whole.slight (mul_c whole z y).re
  unfolding mul_c
  re_slight v l = slight_is (sub-fits binary64 _ _) (scaled v l).value.re

  im_slight : {x : Cx floats} {y : Cx whole} → IsG x y → size y ≤ 2 ^ 27 → floats.slight (mul_c floats k x).im ≡ whole.slight (mul_c whole z y).im
  unfolding mul_c
  im_slight v l = slight_is (add-fits binary64 _ _) (scaled v l).value.im

  -- the conjugate of a × b × K × i^n
  folded : {x x' : Cx floats} {y y' : Cx whole} (n : ℕ) → Sized 512 x y → Sized 512 x' y'
      → Sized (2 ^ 27) (mul_c floats (mul_c floats (mul_c floats (conj_c floats x) x') k) (unit_c floats n)) (mul_c whole (mul_c whole (mul_c whole (conj_c whole y) y') z) (unit_c whole n))
  folded n q r = sized_mul (lit≤ tt) (sized_mul (lit≤ tt) (sized_mul (lit≤ tt) (sized_conj q) r) entry) (sized_unit n)

  module _ (A B : List Term) (G H : Op pauli) (a : Operand A G) (b : Operand B H) (p : Word) where
    both_agree : Agree (2 ^ 37) (both_over floats pauli k A B p) (both_over whole pauli z G H p)
    unfolding both_over
    both_agree =
        agree_mono (omega (arith, formed_weight A B G H a b))
        (append
        (pairs (2 ^ 28) _ _
        (λ v w x x' y y' q r.
        let s = folded _ q r in
        let m = sure_mul {b = 2} {c = 2 ^ 27} (lit≤ tt) sure_two (record { value = s.value.re; most = le_trans (size_re _) s.most }) in
        (refl, sized_real m.value m.most))
        A B G H a b)
        (gather 1024 _ _
        (λ w x y v l.
        choose (floats.slight (mul_c floats k x).re) (whole.slight (mul_c whole z y).re) (re_slight v l) none
        (signed_agree (pauli.phase w p % 4) _ _ (pauli.mul w p)
        (λ s e u.
        let m = sure_mul {b = 2 * (size y * 512)} {c = 1} (omega (arith, l)) (sure_mul {b = 2} {c = size y * 512} (omega (arith, l)) sure_two (scaled_re v l)) u in
        let n = sure_neg m in
        sized_mono (omega arith) (sized_real n.value n.most))))
        (formed_over floats pauli A B) (formed_over whole pauli G H) (formed A B G H a b)))

    one_agree : (f : Float → Float) (g : ℤ → ℤ) → ((n : ℕ) (x : Float) (y : ℤ) → Sure n x y → Sure n (f x) (g y)) → Agree (2 ^ 37) (one_over floats pauli f k A B p) (one_over whole pauli g z G H p)
    unfolding one_over
    one_agree f g keeps =
        agree_mono (omega (arith, formed_weight A B G H a b))
        (gather 1024 _ _
        (λ w x y v l.
        choose (floats.slight (mul_c floats k x).im) (whole.slight (mul_c whole z y).im) (im_slight v l) none
        (agree_mono (omega arith) (factored_agree {b = size y * 512} (pauli.phase w p % 4) (pauli.mul w p) (omega (arith, l)) (keeps (size y * 512) _ _ (scaled_im v l)))))
        (formed_over floats pauli A B) (formed_over whole pauli G H) (formed A B G H a b))

    -- an entry that is skipped adds nothing
    pub pair_agree : (big : Float) (most : ℤ) (skip : Bool) → floats.slighter (square floats k) big ≡ skip → whole.slighter (square whole z) most ≡ skip
        → Agree (cond skip 0 (2 ^ 37)) (pair_over floats pauli big k A B p) (pair_over whole pauli most z G H p)
    unfolding pair_over
    pair_agree big most true e f = rw (e, f) none
    pair_agree big most false e f =
        rw (e, f)
        (choose (overlaps_over floats pauli A p) (overlaps_over whole pauli G p) (overlaps_same A G a.exact p)
        (choose (overlaps_over floats pauli B p) (overlaps_over whole pauli H p) (overlaps_same B H b.exact p) both_agree (one_agree (λ x. x) (λ y. y) (λ n x y s. s)))
        (choose (overlaps_over floats pauli B p) (overlaps_over whole pauli H p) (overlaps_same B H b.exact p) (one_agree floats.opposite whole.opposite (λ n x y s. sure_neg s)) none))

  module _ (A : List Term) (G : Op pauli) (a : Operand A G) (p : Word) where
    pub diagonal_agree : (big : Float) (most : ℤ) (skip : Bool) → floats.slighter (square floats k) big ≡ skip → whole.slighter (square whole z) most ≡ skip
        → Agree (cond skip 0 (2 ^ 37)) (diagonal_over floats pauli big k A p) (diagonal_over whole pauli most z G p)
    unfolding diagonal_over
    diagonal_agree big most true e f = rw (e, f) none
    diagonal_agree big most false e f =
        rw (e, f)
        (choose (overlaps_over floats pauli A p) (overlaps_over whole pauli G p) (overlaps_same A G a.exact p)
        (agree_mono (omega (arith, formed_weight A A G G a a))
        (append
        (pairs (2 ^ 27) _ _ (λ v w x x' y y' q r. (refl, folded _ q r)) A A G G a a)
        (gather 512 _ _
        (λ w x y v l. signed_agree (pauli.phase w p % 4) _ _ (pauli.mul w p)
        (λ s e u. sized_neg (sized_mono (omega arith) (sized_mul {b = size y * 512} {c = 1} (omega (arith, l)) (scaled v l) (sized_real u.value u.most)))))
        (formed_over floats pauli A A) (formed_over whole pauli G G) (formed A A G G a a))))
        none)
