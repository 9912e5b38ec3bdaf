-- SPDX-FileCopyrightText: 2026 The PPVM Authors
-- SPDX-License-Identifier: Apache-2.0

-- The set bits that a cursor leaves. Assumes nothing.
use Rattle.std.specs.Prelude.{Some, None, Option}
use mathlib.Core.Path.{◌≡◌, refl, sym, ap, ap₂, ◌∙◌}
use mathlib.Core.List.{List, [], ◌∷◌, ◌++◌}
use Prim.Native.Nat.{ℕ, suc, ◌+◌, ◌-◌, ◌*◌, ◌/◌, ◌%◌, ◌<◌, ◌≤◌}
use native.Mathlib.Omega.{arith}
use native.Mathlib.Decide.{ℕ_discrete}
use lib.Bits.{bit_and}
use lib.ListN.{get_or}
use Rattle.word.specs.Word.{bit}
use Rattle.index.specs.declared.Cursor.{Cursor}
use Rattle.index.specs.Index.{flag}
use Rattle.index.specs.Visit.{up_from, keep, flagged, left, Steps}
use Rattle.word.proofs.Digits.{zero_bit}
use Rattle.word.proofs.Lowest.{Lowest}
use Rattle.index.proofs.Kept.{skip, hit, keep_cong, keep_cat, keep_none}

abbrev pub cursor : ℕ → ℕ → Cursor
cursor i m = record { lane = i; rest = m }

flagged_end : (row : ℕ) (mask : List ℕ) (k : ℕ) → row * 64 ≤ k → flagged row mask k ≡ []
unfolding flagged keep up_from
flagged_end row mask k l = let a : row * 64 - k ≡ 0 = omega arith in rw a

back : (b i : ℕ) → b + i - b ≡ i
back b i = omega arith

same_flag : (mask : List ℕ) (i j : ℕ) → i * 64 ≤ j → j < i * 64 + 64 → bit (get_or mask i 0) (j - i * 64) ≡ flag mask j
unfolding flag
same_flag mask i j l k =
    let a : j / 64 ≡ i = omega arith in
    let b : j % 64 ≡ j - i * 64 = omega arith in
    rw (a, b)

-- a whole lane
pub left_whole : (row : ℕ) (mask : List ℕ) (i : ℕ) → i < row → left row mask (cursor i (get_or mask i 0)) ≡ flagged row mask (i * 64)
unfolding left flagged
left_whole row mask i h =
    let a : row * 64 - i * 64 ≡ 64 + (row * 64 - (i * 64 + 64)) = omega arith in
    rw a
    (ap (λ (l : List ℕ). l ++ keep (flag mask) (up_from (row * 64 - (i * 64 + 64)) (i * 64 + 64)))
    (keep_cong (λ j. bit (get_or mask i 0) (j - i * 64)) (flag mask) 64 (i * 64) (same_flag mask i))
    ∙ sym (keep_cat (flag mask) 64 (row * 64 - (i * 64 + 64)) (i * 64)))

-- nothing left of a lane
left_none : (row : ℕ) (mask : List ℕ) (i : ℕ) → left row mask (cursor i 0) ≡ flagged row mask ((i + 1) * 64)
unfolding left
left_none row mask i =
    let a : (i + 1) * 64 ≡ i * 64 + 64 = omega arith in
    rw (a, keep_none (λ j. bit 0 (j - i * 64)) 64 (i * 64) (λ j l k. zero_bit (j - i * 64)))

-- the lowest set bit, and the rest of the lane
module _ (row : ℕ) (mask : List ℕ) (i m t : ℕ) (l : Lowest 64 m t) where
  t_keep : keep (λ j. bit m (j - i * 64)) (up_from 64 (i * 64)) ≡ (i * 64 + t) ∷ keep (λ j. bit m (j - i * 64)) (up_from (64 - suc t) (suc (i * 64 + t)))
  t_keep =
      let a : 64 ≡ t + suc (64 - suc t) = omega (arith, l.inside) in
      ap (λ (d : ℕ). keep (λ j. bit m (j - i * 64)) (up_from d (i * 64))) a
      ∙ skip (λ j. bit m (j - i * 64)) t (suc (64 - suc t)) (i * 64) (λ k h. ap (bit m) (back (i * 64) k) ∙ l.lower k h)
      ∙ hit (λ j. bit m (j - i * 64)) (64 - suc t) (i * 64 + t) (ap (bit m) (back (i * 64) t) ∙ l.there)

  cleared_below : (k : ℕ) → k < suc t → bit (bit_and m (m - 1)) k ≡ 0
  cleared_below k h = go (ℕ_discrete k t)
    where
      go : Dec (k ≡ t) → bit (bit_and m (m - 1)) k ≡ 0
      go (yes e) = ap (bit (bit_and m (m - 1))) e ∙ l.gone
      go (no n) = l.others k n ∙ l.lower k (omega arith)

  rest_keep : keep (λ j. bit (bit_and m (m - 1)) (j - i * 64)) (up_from 64 (i * 64)) ≡ keep (λ j. bit m (j - i * 64)) (up_from (64 - suc t) (suc (i * 64 + t)))
  rest_keep =
      let a : 64 ≡ suc t + (64 - suc t) = omega (arith, l.inside) in
      let b : i * 64 + suc t ≡ suc (i * 64 + t) = omega arith in
      ap (λ (d : ℕ). keep (λ j. bit (bit_and m (m - 1)) (j - i * 64)) (up_from d (i * 64))) a
      ∙ skip (λ j. bit (bit_and m (m - 1)) (j - i * 64)) (suc t) (64 - suc t) (i * 64) (λ k h. ap (bit (bit_and m (m - 1))) (back (i * 64) k) ∙ cleared_below k h)
      ∙ ap (λ (d : ℕ). keep (λ j. bit (bit_and m (m - 1)) (j - i * 64)) (up_from (64 - suc t) d)) b
      ∙ keep_cong (λ j. bit (bit_and m (m - 1)) (j - i * 64)) (λ j. bit m (j - i * 64)) (64 - suc t) (suc (i * 64 + t)) (λ j h k. l.others (j - i * 64) (λ e. omega arith))

  left_next : left row mask (cursor i m) ≡ (i * 64 + t) ∷ left row mask (cursor i (bit_and m (m - 1)))
  unfolding left
  left_next = ap₂ (λ (x y : List ℕ). x ++ y) (t_keep ∙ ap (λ (x : List ℕ). (i * 64 + t) ∷ x) (sym rest_keep)) refl

-- ---- the turns of `step`

module _ (row : ℕ) (mask : List ℕ) (c : Cursor) (i m : ℕ) (inv : left row mask c ≡ left row mask (cursor i m)) where
  pub step_turn : m ≡ 0 → i + 1 < row → left row mask c ≡ left row mask (cursor (i + 1) (get_or mask (i + 1) 0))
  step_turn z h = inv ∙ ap (λ (x : ℕ). left row mask (cursor i x)) z ∙ left_none row mask i ∙ sym (left_whole row mask (i + 1) h)

  pub step_done : m ≡ 0 → row ≤ i + 1 → left row mask c ≡ []
  step_done z h = inv ∙ ap (λ (x : ℕ). left row mask (cursor i x)) z ∙ left_none row mask i ∙ flagged_end row mask ((i + 1) * 64) (omega arith)

  pub step_item : (t : ℕ) → Lowest 64 m t → i < row → Steps row mask c (Some (i * 64 + t, cursor i (bit_and m (m - 1))))
  step_item t l h = (inv ∙ left_next row mask i m t l, omega (arith, l.inside), h)

-- ---- what a caller's loop uses

pub stepped : (row : ℕ) (mask : List ℕ) (c : Cursor) (r : Option (ℕ × Cursor)) (j : ℕ) (d : Cursor) → r ≡ Some (j, d) → Steps row mask c r → (left row mask c ≡ j ∷ left row mask d) × (j < row * 64) × (d.lane < row)
stepped row mask c r j d e s = rw e at s

pub ended : (row : ℕ) (mask : List ℕ) (c : Cursor) (r : Option (ℕ × Cursor)) → r ≡ None → Steps row mask c r → left row mask c ≡ []
ended row mask c r e s = rw e at s
