-- SPDX-FileCopyrightText: 2026 The PPVM Authors
-- SPDX-License-Identifier: Apache-2.0

-- Flags of protected words: listing the positions that are not flagged and giving each its flag marks them all, and so come about
-- the flags of a prune and of a cap. Assumes nothing.
use mathlib.Core.Path.{◌≡◌, refl, ap, ap₂, sym, ◌∙◌}
use mathlib.Core.Bool.{Bool, true, false, cond}
use mathlib.Core.List.{List, [], ◌∷◌, ◌++◌, map, append-nil}
use Prim.Native.Nat.{ℕ, zero, suc, ◌+◌, ◌*◌, ◌≤◌, ◌<◌}
use native.Mathlib.Omega.{arith}
use native.Mathlib.Numerals.{add-one}
use lib.Dec.{eqb}
use lib.Ieee.{Float, le}
use lib.ListN.{length, get_or, set, take, drop, replicate, length-map, drop_of_length-le}
use lib.Seq.{length-take-le, take_all, drop-cons, set-get_or}
use Rattle.word.specs.Word.{identity}
use Rattle.word.specs.Flat.{words, word_lanes}
use Rattle.word.specs.declared.word.Word.{Word}
use Rattle.word.proofs.FlatLaws.{words_high}
use Rattle.number.specs.Floats.{magnitude}
use Rattle.order.specs.Places.{is_among}
use Rattle.keep.specs.Between.{unflagged_to, unflagged}
use Rattle.keep.specs.Pruned.{large_flag, large_flags}
use Rattle.lent.proofs.WriteLaws.{write_next, unwritten}
use Rattle.truncate.specs.Prunes.{protected_flags, prune_flags}
use Rattle.truncate.specs.Marks.{protected_at, marked, reflagged}

-- ---- the loop over the positions listed
module _ (f : ℕ → ℕ) where
  reflagged_next : (list ks : List ℕ) (i : ℕ) → i < length list → reflagged f (drop i list) ks ≡ reflagged f (drop (i + 1) list) (set ks (get_or list i 0) (f (get_or list i 0)))
  unfolding reflagged
  reflagged_next list ks i h = rw (drop-cons list i 0 h, add-one)

  pub reflagged_end : (list ks : List ℕ) (i : ℕ) → length list ≤ i → reflagged f (drop i list) ks ≡ ks
  unfolding reflagged
  reflagged_end list ks i h = rw (drop_of_length-le list {i = i} h)

  reflagged_append : (a b ks : List ℕ) → reflagged f (a ++ b) ks ≡ reflagged f b (reflagged f a ks)
  unfolding reflagged
  reflagged_append [] b ks = refl
  reflagged_append (p ∷ a) b ks = reflagged_append a b (set ks p (f p))

  -- where new has the flag that f gives at each position that is not flagged, and the old one elsewhere
  module _ (new ks : List ℕ) (long : length new ≡ length ks) (at : (i : ℕ) → i < length ks → get_or new i 0 ≡ cond (eqb (get_or ks i 0) 0) (f i) (get_or ks i 0)) where
    reflagged_to : (n : ℕ) → n ≤ length ks → reflagged f (unflagged_to ks n) ks ≡ take n new ++ drop n ks
    unfolding reflagged unflagged_to
    reflagged_to zero h = refl
    reflagged_to (suc n) h =
        reflagged_append (unflagged_to ks n) (cond (eqb (get_or ks n 0) 0) (n ∷ []) []) ks
        ∙ go (eqb (get_or ks n 0) 0) (reflagged f (unflagged_to ks n) ks) (reflagged_to n (omega arith)) (at n (omega arith))
      where
        go : (b : Bool) (l : List ℕ) → l ≡ take n new ++ drop n ks → get_or new n 0 ≡ cond b (f n) (get_or ks n 0) → reflagged f (cond b (n ∷ []) []) l ≡ take (suc n) new ++ drop (suc n) ks
        go true l e v = rw (e, sym v) (write_next 0 new ks n (omega (arith, long)) (omega arith))
        go false l e v =
            sym (set-get_or l n 0) ∙ ap (set l n) (unwritten 0 new ks l n (omega (arith, long)) (omega arith) e ∙ sym v)
            ∙ ap (λ (t : List ℕ). set t n (get_or new n 0)) e ∙ write_next 0 new ks n (omega (arith, long)) (omega arith)

    reflagged_all : reflagged f (unflagged ks) ks ≡ new
    reflagged_all =
        reflagged_to (length ks) (omega arith)
        ∙ ap (λ (t : List ℕ). take (length ks) new ++ t) (drop_of_length-le ks {i = length ks} (omega arith))
        ∙ append-nil (take (length ks) new) ∙ take_all (length ks) new (omega (arith, long))

-- one turn: the position gets the flag of its word
pub marked_next : (P ws : List Word) (list ks : List ℕ) (i : ℕ) (w : Word) (r : ℕ) → i < length list → w ≡ get_or ws (get_or list i 0) identity → r ≡ cond (is_among w P) 1 0
    → reflagged (protected_at P ws) (drop (i + 1) list) (set ks (get_or list i 0) r) ≡ reflagged (protected_at P ws) (drop i list) ks
marked_next P ws list ks i w r h e f = rw (f, e) (sym (reflagged_next (protected_at P ws) list ks i h))

-- ---- all that are not flagged
module _ (P : List Word) where
  marked_length : (ws : List Word) (ks : List ℕ) → length (marked P ws ks) ≡ length ks
  unfolding marked
  marked_length [] ks = refl
  marked_length (w ∷ ws) [] = refl
  marked_length (w ∷ ws) (k ∷ ks) = ap suc (marked_length ws ks)

  marked_at : (ws : List Word) (ks : List ℕ) (i : ℕ) → i < length ks → i < length ws → get_or (marked P ws ks) i 0 ≡ cond (eqb (get_or ks i 0) 0) (protected_at P ws i) (get_or ks i 0)
  unfolding marked
  marked_at [] ks i h g = absurd (omega arith)
  marked_at (w ∷ ws) [] i h g = absurd (omega arith)
  marked_at (w ∷ ws) (k ∷ ks) zero h g = refl
  marked_at (w ∷ ws) (k ∷ ks) (suc i) h g = marked_at ws ks i (omega arith) (omega arith)

  pub all_marked : (ws : List Word) (ks list flags : List ℕ) → length ks ≤ length ws → list ≡ unflagged ks → flags ≡ reflagged (protected_at P ws) list ks → flags ≡ marked P ws ks
  all_marked ws ks list flags h e f =
      f ∙ ap (λ (l : List ℕ). reflagged (protected_at P ws) l ks) e
      ∙ reflagged_all (protected_at P ws) (marked P ws ks) ks (marked_length ws ks) (λ i g. marked_at ws ks i g (omega arith))

  abbrev flag : Word → ℕ
  flag w = cond (is_among w P) 1 0

  none_flagged : (ws : List Word) (len : ℕ) → len ≤ length ws → marked P ws (replicate len 0) ≡ map flag (take len ws)
  unfolding marked
  none_flagged [] zero h = refl
  none_flagged (w ∷ ws) zero h = refl
  none_flagged [] (suc len) h = absurd (omega arith)
  none_flagged (w ∷ ws) (suc len) h = ap (λ (t : List ℕ). flag w ∷ t) (none_flagged ws len (omega arith))

  -- a large entry stays flagged, and so does a protected one
  module _ (tol : Float) where
    either : (x : Float) (w : Word) → cond (eqb (large_flag tol x 0) 0) (flag w) (large_flag tol x 0) ≡ large_flag tol x (flag w)
    unfolding large_flag
    either x w = go (le tol (magnitude x)) (is_among w P)
      where
        go : (a b : Bool) → ◌≡◌ {A = ℕ} (cond (eqb (cond a 1 0) 0) (cond b 1 0) (cond a 1 0)) (cond (eqb (cond b 1 0) 0) (cond a 1 0) 1)
        go true true = refl
        go true false = refl
        go false true = refl
        go false false = refl

    large_flagged : (ws : List Word) (xs : List Float) (len : ℕ) → length xs ≡ len → len ≤ length ws → marked P ws (large_flags tol xs (replicate len 0)) ≡ large_flags tol xs (map flag (take len ws))
    unfolding marked large_flags
    large_flagged [] [] zero e h = refl
    large_flagged (w ∷ ws) [] zero e h = refl
    large_flagged [] xs (suc len) e h = absurd (omega arith)
    large_flagged ws (x ∷ xs) zero e h = absurd (omega arith)
    large_flagged (w ∷ ws) [] (suc len) e h = absurd (omega arith)
    large_flagged (w ∷ ws) (x ∷ xs) (suc len) e h = ap₂ (λ (k : ℕ) (t : List ℕ). k ∷ t) (either x w) (large_flagged ws xs len (omega arith) (omega arith))

-- ---- on lanes
module _ (len : ℕ) (lanes protected : List ℕ) (h : word_lanes * len ≤ length lanes) where
  pub protected_length : length (protected_flags len lanes protected) ≡ len
  unfolding protected_flags
  protected_length = length-map (take len (words lanes)) (flag (words protected)) ∙ length-take-le len (words lanes) (omega (arith, words_high lanes))

  pub protected_marked : (flags fixed : List ℕ) → fixed ≡ replicate len 0 → flags ≡ marked (words protected) (words lanes) fixed → flags ≡ protected_flags len lanes protected
  unfolding protected_flags
  protected_marked flags fixed z e = e ∙ rw z (none_flagged (words protected) (words lanes) len (omega (arith, words_high lanes)))

  pub prune_marked : (coeffs : List Float) (tol : Float) (large flags : List ℕ) (n : ℕ) → len ≤ length coeffs → n ≡ len → large ≡ large_flags tol (take n coeffs) (replicate n 0) → flags ≡ marked (words protected) (words lanes) large
      → flags ≡ prune_flags len lanes coeffs protected tol
  unfolding prune_flags protected_flags
  prune_marked coeffs tol large flags n l m z e =
      e ∙ rw (z, m) (large_flagged (words protected) tol (words lanes) (take len coeffs) len (length-take-le len coeffs l) (omega (arith, words_high lanes)))

-- no entries have no flags
pub none_kept : (len : ℕ) (lanes : List ℕ) (coeffs : List Float) (protected : List ℕ) (tol : Float) (kept : List ℕ) → len ≡ 0 → length kept ≡ len → kept ≡ prune_flags len lanes coeffs protected tol
unfolding prune_flags protected_flags large_flags
none_kept zero lanes coeffs protected tol [] z e = refl
none_kept zero lanes coeffs protected tol (k ∷ kept) z e = absurd (omega arith)
none_kept (suc len) lanes coeffs protected tol kept z e = absurd (omega arith)
