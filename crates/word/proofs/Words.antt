-- SPDX-FileCopyrightText: 2026 The PPVM Authors
-- SPDX-License-Identifier: Apache-2.0

-- A word is its letters: no site folds back, and equal letters at all qubits mean equal words. Assumes nothing.
use mathlib.Core.Path.{◌≡◌, refl, sym, ap, ◌∙◌}
use mathlib.Core.List.{List, [], ◌∷◌}
use Prim.Native.Nat.{ℕ, zero, suc, ◌/◌, ◌%◌, ◌^◌, ◌<◌, ◌≤◌}
use native.Mathlib.Omega.{arith}
use lib.Dec.{eqb}
use lib.ListN.{get_or, length, set, length-set}
use mir.Val.{Fits}
use mir.Syntax.{w64}
use Rattle.word.specs.Count.{tabulate}
use Rattle.word.specs.Steps.{chosen, Put}
use Rattle.word.specs.Word.{bit, lane_count, max_qubits, letter_at, word_of, Sound}
use Rattle.word.specs.declared.word.Word.{Word}
use Rattle.word.proofs.Sums.{tabulate_is}
use Rattle.word.proofs.Lanes.{letter_lt, letter_of, letter_of_beyond, lanes_length, lanes_lt, lanes_cong, same_lanes, letter_put}

pub sound : (w : Word) → length w.x ≡ lane_count → length w.z ≡ lane_count
    → ((i : ℕ) → Fits w64 (get_or w.x i 0)) → ((i : ℕ) → Fits w64 (get_or w.z i 0)) → Sound w
sound w lx lz hx hz = record { x_lanes = lx; z_lanes = lz; x_fits = λ i. (hx i).fits; z_fits = λ i. (hz i).fits }

pub word_eq : {v w : Word} → v.x ≡ w.x → v.z ≡ w.z → v ≡ w
word_eq p q = λ i. record { x = p i; z = q i }

-- ---- the word of given letters
module _ (f : ℕ → ℕ) where
  pub sound_word_of : Sound (word_of f)
  unfolding word_of
  sound_word_of = record {
    x_lanes = lanes_length lane_count f;
    z_lanes = lanes_length lane_count (λ q. f q / 2);
    x_fits = lanes_lt lane_count f;
    z_fits = lanes_lt lane_count (λ q. f q / 2);
  }

  pub letter_word_of : (q : ℕ) → q < max_qubits → f q < 4 → letter_at (word_of f) q ≡ f q
  unfolding word_of
  letter_word_of q h l = letter_of lane_count f q h l

  -- nothing above
  pub letter_beyond : (q : ℕ) → max_qubits ≤ q → letter_at (word_of f) q ≡ 0
  unfolding word_of
  letter_beyond q h = letter_of_beyond lane_count f q h

pub word_of_cong : (f g : ℕ → ℕ) → ((q : ℕ) → q < max_qubits → f q ≡ g q) → word_of f ≡ word_of g
unfolding word_of
word_of_cong f g h =
    word_eq
    (lanes_cong lane_count f g (λ q l. ap (λ (m : ℕ). m % 2) (h q l)))
    (lanes_cong lane_count (λ q. f q / 2) (λ q. g q / 2) (λ q l. ap (λ (m : ℕ). m / 2 % 2) (h q l)))

-- ---- equal letters at all qubits mean equal words
pub by_letters : (v w : Word) → Sound v → Sound w → ((q : ℕ) → q < max_qubits → letter_at v q ≡ letter_at w q) → v ≡ w
by_letters v w sv sw h =
    let e = same_lanes lane_count v.x v.z w.x w.z sv.x_lanes sv.z_lanes sw.x_lanes sw.z_lanes sv.x_fits sv.z_fits sw.x_fits sw.z_fits h in
    word_eq e.0 e.1

pub word_is : (w : Word) (f : ℕ → ℕ) → Sound w → ((q : ℕ) → q < max_qubits → letter_at w q ≡ f q) → w ≡ word_of f
word_is w f s h =
    by_letters w (word_of f) s (sound_word_of f)
    (λ q l. h q l ∙ sym (letter_word_of f q l (rw (← (h q l)) (letter_lt w.x w.z q))))

-- ---- lanes one by one
pub one_by_one : (l : List ℕ) → length l ≡ lane_count → tabulate lane_count (λ k. get_or l k 0) ≡ l
one_by_one l e = tabulate_is 0 lane_count (λ k. get_or l k 0) l e (λ k h. refl)

-- ---- one letter replaced
set_lt : (l : List ℕ) (j r : ℕ) → ((i : ℕ) → get_or l i 0 < 2 ^ 64) → r < 2 ^ 64 → (i : ℕ) → get_or (set l j r) i 0 < 2 ^ 64
set_lt [] j r h k i = h i
set_lt (a ∷ l) zero r h k zero = k
set_lt (a ∷ l) zero r h k (suc i) = h (suc i)
set_lt (a ∷ l) (suc j) r h k zero = h 0
set_lt (a ∷ l) (suc j) r h k (suc i) = set_lt l j r (λ i. h (suc i)) k i

pub letter_set : (w : Word) (q code r s : ℕ) → Sound w → q < max_qubits → r < 2 ^ 64 → s < 2 ^ 64
    → ((j : ℕ) → j < 64 → bit r j ≡ chosen (eqb j (q % 64)) (code % 2) (bit (get_or w.x (q / 64) 0) j))
    → ((j : ℕ) → j < 64 → bit s j ≡ chosen (eqb j (q % 64)) (code / 2) (bit (get_or w.z (q / 64) 0) j))
    → Put w q code (record { x = set w.x (q / 64) r; z = set w.z (q / 64) s })
letter_set w q code r s sw h fr fs hr hs = record {
  letters = letter_put w.x w.z q code r s (omega (arith, sw.x_lanes)) (omega (arith, sw.z_lanes)) hr hs;
  sound = record {
    x_lanes = length-set w.x (q / 64) r ∙ sw.x_lanes;
    z_lanes = length-set w.z (q / 64) s ∙ sw.z_lanes;
    x_fits = set_lt w.x (q / 64) r sw.x_fits fr;
    z_fits = set_lt w.z (q / 64) s sw.z_fits fs;
  };
}
