-- SPDX-FileCopyrightText: 2026 The PPVM Authors
-- SPDX-License-Identifier: Apache-2.0

-- The rules of matrices over f64, of whole numbers with parts of at most 256: they add exactly what they add over the whole
-- numbers, at most 2 ^ 37 for each place of a matrix that makes a pair. Assumes nothing.
use mathlib.Core.Path.{◌≡◌, refl, sym, ap, ap₂, ◌∙◌}
use mathlib.Core.Bool.{Bool, true, false, not, ◌&&◌, cond}
use mathlib.Core.List.{List, [], ◌∷◌}
use Prim.Native.Nat.{ℕ, zero, suc, ◌+◌, ◌*◌, ◌^◌, ◌≤◌, ◌<◌}
use native.Mathlib.Nat.{add-mul}
use native.Mathlib.Omega.{arith}
use borrow.Author.Tests.{le-leb}
use lib.Arith.{digits_div, digits_mod}
use lib.Dec.{ltb, leb, lit≤}
use lib.ListN.{length, get_or}
use Rattle.word.specs.declared.word.Word.{Word}
use Rattle.number.specs.Numbers.{Cx, zero_c, largest_over}
use Rattle.number.specs.Whole.{whole}
use Rattle.number.specs.Floats.{floats}
use Rattle.gksl.specs.Operator.{Op}
use Rattle.gksl.specs.Model.{MatrixOver, rows_over, entry_in}
use Rattle.gksl.specs.Rules.{row_over, matrix_over, matrices_over}
use Rattle.gksl.specs.Words.{pauli}
use Rattle.model.specs.Terms.{Term}
use Rattle.k_matrix.specs.Matrix.{skipped, is_pair, passing, pair_places}
use Rattle.kossakowski.specs.Whole.{WholeEntries}
use Rattle.kossakowski.proofs.WholeMatrix.{skipped_is}
use Rattle.lent.specs.Every.{Every}
use Rattle.model_laws.specs.Exactly.{Exactly}
use Rattle.action_laws.specs.WholeModel.{Beside, WholeMatrix, FewTerms, pair_count}
use Rattle.action_laws.proofs.WholeSizes.{Sized, sized_mono, sized_within, sized_zero}
use Rattle.action_laws.proofs.WholeAdds.{Agree, agree_mono, none, append, Operand}
use Rattle.action_laws.proofs.WholeRules.{pair_agree, diagonal_agree}

-- ---- how many of the places from p on pass a test
count_split : (f : ℕ → Bool) (p a b : ℕ) → length (passing f p (a + b)) ≡ length (passing f p a) + length (passing f (p + a) b)
unfolding passing
count_split f p zero b = let e : 0 + b ≡ b = omega arith in let d : p + 0 ≡ p = omega arith in rw (e, d) (omega arith)
count_split f p (suc a) b =
    let e : suc a + b ≡ suc (a + b) = omega arith in
    let d : p + suc a ≡ suc p + a = omega arith in
    rw (e, d) (go (f p) (count_split f (suc p) a b))
  where
    go : (c : Bool) → length (passing f (suc p) (a + b)) ≡ length (passing f (suc p) a) + length (passing f (suc p + a) b)
        → length (cond c (p ∷ passing f (suc p) (a + b)) (passing f (suc p) (a + b))) ≡ length (cond c (p ∷ passing f (suc p) a) (passing f (suc p) a)) + length (passing f (suc p + a) b)
    go true h = omega (arith, h)
    go false h = h

-- ---- entries
entry_at : (K : List (Cx floats)) (Z : List (Cx whole)) → WholeEntries K Z → (p : ℕ) → Sized 512 (get_or K p (zero_c floats)) (get_or Z p (zero_c whole))
entry_at [] [] w p = sized_mono (lit≤ tt) sized_zero
entry_at [] (z ∷ Z) w p = absurd w
entry_at (x ∷ K) [] w p = absurd w
entry_at (x ∷ K) (z ∷ Z) w zero = sized_within w.0 w.1
entry_at (x ∷ K) (z ∷ Z) w (suc p) = entry_at K Z w.2 p

module _ (ops : ℕ) (K : List (Cx floats)) (Z : List (Cx whole)) (w : WholeEntries K Z) where
  entry : (n m : ℕ) → Sized 512 (entry_in floats ops K n m) (entry_in whole ops Z n m)
  unfolding entry_in
  entry n m = go (ltb n ops && ltb m ops)
    where
      go : (b : Bool) → Sized 512 (cond b (get_or K (n * ops + m) (zero_c floats)) (zero_c floats)) (cond b (get_or Z (n * ops + m) (zero_c whole)) (zero_c whole))
      go true = entry_at K Z w (n * ops + m)
      go false = sized_mono (lit≤ tt) sized_zero

  -- the places that make pairs, n of them looked at from p on
  abbrev count : ℕ → ℕ → ℕ
  count p n = length (passing (is_pair floats ops K) p n)

  -- a place is one of them unless its entry is skipped
  one_more : (i j n : ℕ) → i ≤ j → j < ops → count (i * ops + j) (suc n) ≡ cond (skipped floats ops K i j) 0 1 + count (i * ops + suc j) n
  unfolding passing is_pair
  one_more i j n l h =
      let e : is_pair floats ops K (i * ops + j) ≡ not (skipped floats ops K i j) =
      ap₂ (λ (a b : ℕ). leb a b && not (skipped floats ops K a b)) (digits_div i h) (digits_mod i h) ∙ ap (λ (b : Bool). b && not (skipped floats ops K i j)) (le-leb i j l) in
      let d : i * ops + suc j ≡ suc (i * ops + j) = omega arith in
      rw (e, d) (go (skipped floats ops K i j))
    where
      go : (b : Bool) → length (cond (not b) ((i * ops + j) ∷ passing (is_pair floats ops K) (suc (i * ops + j)) n) (passing (is_pair floats ops K) (suc (i * ops + j)) n)) ≡ cond b 0 1 + count (suc (i * ops + j)) n
      go true = omega arith
      go false = omega arith

  share_of : (b : Bool) → cond b 0 (2 ^ 37) ≡ cond b 0 1 * 2 ^ 37
  share_of true = refl
  share_of false = refl

  module _ (p : Word) where
    row_agree : (i : ℕ) (A : List Term) (G : Op pauli) → Operand A G → (j : ℕ) (As : List (List Term)) (Gs : List (Op pauli)) → Beside Operand As Gs → i ≤ j → j + length As ≡ ops
        → Agree (count (i * ops + j) (length As) * 2 ^ 37)
        (row_over floats pauli (largest_over floats K) (entry_in floats ops K) (record { row = i; op = A }) (rows_over floats pauli j As) p)
        (row_over whole pauli (largest_over whole Z) (entry_in whole ops Z) (record { row = i; op = G }) (rows_over whole pauli j Gs) p)
    unfolding row_over rows_over skipped
    row_agree i A G a j [] [] h l e = none
    row_agree i A G a j [] (H ∷ Gs) h l e = absurd h
    row_agree i A G a j (B ∷ As) [] h l e = absurd h
    row_agree i A G a j (B ∷ As) (H ∷ Gs) h l e =
        agree_mono
        (omega (arith, one_more i j (length As) l (omega (arith, e)), share_of (skipped floats ops K i j), add-mul (cond (skipped floats ops K i j) 0 1) (count (i * ops + suc j) (length As)) (2 ^ 37)))
        (append
        (pair_agree (entry_in floats ops K i j) (entry_in whole ops Z i j) (entry i j) A B G H a h.0 p (largest_over floats K) (largest_over whole Z) (skipped floats ops K i j) refl (sym (skipped_is ops K Z w i j)))
        (row_agree i A G a (suc j) As Gs h.1 (omega (arith, l)) (omega (arith, e))))

    matrix_agree : (i : ℕ) (As : List (List Term)) (Gs : List (Op pauli)) → Beside Operand As Gs → i + length As ≡ ops
        → Agree (count (i * ops) (length As * ops) * 2 ^ 37)
        (matrix_over floats pauli (largest_over floats K) (entry_in floats ops K) (rows_over floats pauli i As) p)
        (matrix_over whole pauli (largest_over whole Z) (entry_in whole ops Z) (rows_over whole pauli i Gs) p)
    unfolding matrix_over rows_over skipped
    matrix_agree i [] [] h e = none
    matrix_agree i [] (G ∷ Gs) h e = absurd h
    matrix_agree i (A ∷ As) [] h e = absurd h
    matrix_agree i (A ∷ As) (G ∷ Gs) h e =
        let n : ℕ = length As in
        let d : suc n * ops ≡ ops + n * ops = omega (arith, add-mul 1 n ops) in
        let s : suc i * ops ≡ i * ops + ops = omega (arith, add-mul 1 i ops) in
        let o : ops ≡ i + suc n = sym e in
        let all : count (i * ops) (suc n * ops) ≡ count (i * ops) ops + count (suc i * ops) (n * ops) =
        rw (d, s) (count_split (is_pair floats ops K) (i * ops) ops (n * ops)) in
        let own : count (i * ops) ops ≡ count (i * ops) i + count (i * ops + i) (suc n) =
        ap (count (i * ops)) o ∙ count_split (is_pair floats ops K) (i * ops) i (suc n) in
        let more = one_more i i n (omega arith) (omega (arith, e)) in
        agree_mono
        (omega (arith, all, own, more, share_of (skipped floats ops K i i)))
        (append
        (append
        (diagonal_agree (entry_in floats ops K i i) (entry_in whole ops Z i i) (entry i i) A G h.0 p (largest_over floats K) (largest_over whole Z) (skipped floats ops K i i) refl (sym (skipped_is ops K Z w i i)))
        (row_agree i A G h.0 (suc i) As Gs h.1 (omega arith) (omega (arith, e))))
        (matrix_agree (suc i) As Gs h.1 (omega (arith, e))))

-- ---- all matrices
operands : (As : List (List Term)) (Gs : List (Op pauli)) → Beside (Exactly 256) As Gs → Every FewTerms As → Beside Operand As Gs
operands [] [] h l = tt
operands [] (G ∷ Gs) h l = absurd h
operands (A ∷ As) [] h l = absurd h
operands (A ∷ As) (G ∷ Gs) h l = (record { few = l.0; exact = h.0 }, operands As Gs h.1 l.1)

beside_length : {A B : Type 0} (R : A → B → Type 0) (l : List A) (k : List B) → Beside R l k → length l ≡ length k
beside_length R [] [] h = refl
beside_length R [] (b ∷ k) h = absurd h
beside_length R (a ∷ l) [] h = absurd h
beside_length R (a ∷ l) (b ∷ k) h = ap suc (beside_length R l k h.1)

pub matrices_agree : (Ks : List (MatrixOver floats pauli)) (Ws : List (MatrixOver whole pauli)) → Beside WholeMatrix Ks Ws → Every (λ k. Every FewTerms k.ops) Ks → (p : Word)
    → Agree (pair_count Ks * 2 ^ 37) (matrices_over floats pauli Ks p) (matrices_over whole pauli Ws p)
unfolding matrices_over pair_count
matrices_agree [] [] h l p = none
matrices_agree [] (w ∷ Ws) h l p = absurd h
matrices_agree (k ∷ Ks) [] h l p = absurd h
matrices_agree (k ∷ Ks) (w ∷ Ws) h l p =
    let n : ℕ = length k.ops in
    let e : length w.ops ≡ length k.ops = sym (beside_length (Exactly 256) k.ops w.ops h.0.ops) in
    let z : 0 * n ≡ 0 = omega arith in
    let start : length (passing (is_pair floats n k.entries) (0 * n) (n * n)) ≡ length (pair_places floats n k.entries) = ap (λ (q : ℕ). length (passing (is_pair floats n k.entries) q (n * n))) z in
    rw e
    (agree_mono (omega (arith, start))
    (append
    (matrix_agree (length k.ops) k.entries w.entries h.0.entries p 0 k.ops w.ops (operands k.ops w.ops h.0.ops l.0) (omega arith))
    (matrices_agree Ks Ws h.1 l.1 p)))
