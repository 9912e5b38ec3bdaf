-- SPDX-FileCopyrightText: 2026 The PPVM Authors
-- SPDX-License-Identifier: Apache-2.0

-- Bytes laid one after another: a run after a run is their join laid at once. Assumes nothing.
use Rattle.std.proofs.Common.{◌≡◌, ℕ, suc, ◌+◌, ◌≤◌, List, [], ◌∷◌, ◌++◌, length, take, drop, set, refl, sym, ap, ◌∙◌, arith, length-append}
use lib.Seq.{sets, sets-eq, take-append_seam}
use Rattle.lent.specs.Laid.{laid}

module _ {A : Type 0} where
  pub laid_append : (k : ℕ) (a b l : List A) → laid set (k + length a) b (laid set k a l) ≡ laid set k (a ++ b) l
  unfolding laid
  laid_append k [] b l = let e : k + 0 ≡ k = omega arith in rw e
  laid_append k (x ∷ a) b l = let e : k + suc (length a) ≡ suc k + length a = omega arith in rw e (laid_append (suc k) a b (set l k x))

  pub laid_one : (k : ℕ) (x : A) (l : List A) → set l k x ≡ laid set k (x ∷ []) l
  unfolding laid
  laid_one k x l = refl

  -- a run, then another from where it ended
  pub laid_then : (k j : ℕ) (a b l m n : List A) → m ≡ laid set k a l → j ≡ k + length a → n ≡ laid set j b m → n ≡ laid set k (a ++ b) l
  laid_then k j a b l m n e f g = g ∙ rw (e, f) (laid_append k a b l)

  -- and its end
  pub end_then : (k j i : ℕ) (a b : List A) → j ≡ k + length a → i ≡ j + length b → i ≡ k + length (a ++ b)
  end_then k j i a b e f = let l = length-append a b in omega (arith, l, e, f)

  -- room for a run and what comes after it
  pub room_first : (k n : ℕ) (a b : List A) → k + length (a ++ b) ≤ n → k + length a ≤ n
  room_first k n a b h = let l = length-append a b in omega (arith, l)

  pub room_rest : (k j n : ℕ) (a b : List A) → j ≡ k + length a → k + length (a ++ b) ≤ n → j + length b ≤ n
  room_rest k j n a b e h = let l = length-append a b in omega (arith, l, e)

  -- three runs
  pub three_laid : (k i j e : ℕ) (a b c l m n o : List A) → m ≡ laid set k a l → i ≡ k + length a → n ≡ laid set i b m → j ≡ i + length b → o ≡ laid set j c n → e ≡ j + length c
      → (o ≡ laid set k (a ++ (b ++ c)) l) × (e ≡ k + length (a ++ (b ++ c)))
  three_laid k i j e a b c l m n o p q r s t u =
      (laid_then k i a (b ++ c) l m o p q (laid_then i j b c m n o r s t), end_then k i e a (b ++ c) q (end_then i j e b c s u))

-- ---- what was laid at the front stands there
module _ {A : Type 0} where
  stored : (k : ℕ) (bs l : List A) → laid set k bs l ≡ sets l k bs
  unfolding laid
  stored k [] l = refl
  stored k (b ∷ bs) l = stored (suc k) bs (set l k b)

  -- laying a list from the front is to write it over the front
  pub laid_over : (bs l : List A) → length bs ≤ length l → bs ++ drop (length bs) l ≡ laid set 0 bs l
  laid_over bs l h =
      let e : 0 + length bs ≡ length bs = omega arith in
      sym (stored 0 bs l ∙ sets-eq bs l 0 (omega arith) ∙ rw e)

  pub laid_front : (bs l : List A) → length bs ≤ length l → take (length bs) (laid set 0 bs l) ≡ bs
  laid_front bs l h =
      ap (take (length bs)) (stored 0 bs l ∙ sets-eq bs l 0 (omega arith))
      ∙ take-append_seam bs (drop (0 + length bs) l)
