-- SPDX-FileCopyrightText: 2026 The PPVM Authors
-- SPDX-License-Identifier: Apache-2.0

-- A part of a list that is filled with one value: in the middle, and to the end. Assumes nothing.
use mathlib.Core.Path.{◌≡◌, ap, ◌∙◌}
use mathlib.Core.List.{List, [], ◌++◌, append-nil}
use Prim.Native.Nat.{ℕ, ◌+◌, ◌-◌, ◌≤◌}
use native.Mathlib.Omega.{arith}
use lib.ListN.{length, take, drop, replicate, length-drop, drop_of_length-le}
use lib.Seq.{length-take-le, drop-drop}
use borrow.Rule.Slice.PartMut.{put_mid}

module _ {A : Type 0} (v : A) (a : ℕ) (l y : List A) where
  pub part_filled : (k : ℕ) → a + k ≤ length l → y ≡ replicate (length (take k (drop a l))) v → put_mid a k l y ≡ take a l ++ (replicate k v ++ drop (a + k) l)
  part_filled k h e =
      let n : length (take k (drop a l)) ≡ k = length-take-le k (drop a l) (omega (arith, length-drop a l)) in
      rw (e, n, drop-drop k a l)

  pub rest_filled : a ≤ length l → y ≡ replicate (length (take (length l - a) (drop a l))) v → put_mid a (length l - a) l y ≡ take a l ++ replicate (length l - a) v
  rest_filled h e =
      let z : drop (a + (length l - a)) l ≡ [] = drop_of_length-le l {i = a + (length l - a)} (omega arith) in
      part_filled (length l - a) (omega arith) e
      ∙ ap (λ (t : List A). take a l ++ t) (ap (λ (t : List A). replicate (length l - a) v ++ t) z ∙ append-nil (replicate (length l - a) v))
