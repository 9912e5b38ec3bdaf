-- SPDX-FileCopyrightText: 2026 The PPVM Authors
-- SPDX-License-Identifier: Apache-2.0

-- Entries column by column, walked through: the sum so far, and the largest so far, beside what is left. Assumes nothing.
use mathlib.Core.Path.{◌≡◌, sym, ap, ◌∙◌}
use mathlib.Core.Bool.{Bool, true, false, cond}
use mathlib.Core.List.{List, [], ◌∷◌}
use Prim.Native.Nat.{ℕ, suc, ◌+◌, ◌-◌, ◌≤◌, ◌<◌}
use native.Mathlib.Numerals.{add-one}
use native.Mathlib.Omega.{arith}
use borrow.Author.Tests.{eq-eqb, ne_eqb}
use lib.Dec.{eqb}
use lib.Ieee.{Float, nan}
use lib.ListN.{length, get_or, drop, length-drop, drop_of_length-le}
use lib.Seq.{drop-cons, drop-drop}
use Rattle.number.specs.Floats.{floats, float0, magnitude}
use Rattle.column_norm.specs.Columns.{largest_from, largest}
use Rattle.raw_norm.specs.Between.{front_sum, front_size, raws_from, ColumnSummed}
use Rattle.raw_norm.specs.declared.ColumnRaw.{ColumnRaw}

size_inside : (c : ℕ) (ks : List ℕ) → front_size c ks ≤ length ks
unfolding front_size
size_inside c [] = omega arith
size_inside c (k ∷ ks) = go (eqb k c) (size_inside c ks)
  where
    go : (b : Bool) → front_size c ks ≤ length ks → cond b (suc (front_size c ks)) 0 ≤ length (k ∷ ks)
    go true h = omega arith
    go false h = omega arith

module _ (ks : List ℕ) (vs : List Float) (start c : ℕ) where
  -- ---- one column
  pub record Summing (raw : Float) (k : ℕ) : Type 0 where
    pub sums : front_sum c float0 (drop start ks) (drop start vs) ≡ front_sum c raw (drop k ks) (drop k vs)
    pub sizes : start + front_size c (drop start ks) ≡ k + front_size c (drop k ks)

  module _ (same : length vs ≡ length ks) (raw : Float) (k : ℕ) (s : Summing raw k) where
    module _ (low : k < length ks) where
      at_k : drop k ks ≡ get_or ks k 0 ∷ drop (suc k) ks
      at_k = drop-cons ks k 0 low

      at_v : drop k vs ≡ get_or vs k nan ∷ drop (suc k) vs
      at_v = drop-cons vs k nan (omega arith)

      pub summing_stop : (x : ℕ) → x ≡ get_or ks k 0 → (x ≡ c → ⊥) → ColumnSummed ks vs start c (record { next = k; raw = raw })
      unfolding front_sum front_size
      summing_stop x e n =
          let f = ne_eqb (get_or ks k 0) c (λ h. n (e ∙ h)) in
          let z : front_size c (drop k ks) ≡ 0 = rw (at_k, f) in
          record { summed = sym (s.sums ∙ rw (at_k, at_v, f)); passed = omega (arith, s.sizes, z) }

      pub summing_more : (x : ℕ) → x ≡ get_or ks k 0 → x ≡ c → (y : Float) → y ≡ magnitude (get_or vs k nan) → Summing (floats.plus raw y) (k + 1)
      unfolding front_sum front_size
      summing_more x e h y g =
          let f = eq-eqb (get_or ks k 0) c (sym e ∙ h) in
          let z : front_size c (drop k ks) ≡ suc (front_size c (drop (suc k) ks)) = rw (at_k, f) in
          record {
            sums = s.sums ∙ rw (at_k, at_v, f, add-one k, g);
            sizes = rw (add-one k) (omega (arith, s.sizes, z));
          }

    pub summing_end : k ≡ length ks → ColumnSummed ks vs start c (record { next = length ks; raw = raw })
    unfolding front_sum front_size
    summing_end h =
        let e : drop k ks ≡ [] = drop_of_length-le ks {i = k} (omega arith) in
        let z : front_size c (drop k ks) ≡ 0 = rw e in
        record { summed = sym (s.sums ∙ rw e); passed = omega (arith, s.sizes, z) }

-- ---- all columns
module _ (ks : List ℕ) (vs : List Float) (n : ℕ) where
  pub record Ranking (norm : Float) (k c : ℕ) : Type 0 where
    pub inside : k ≤ length ks
    pub left : largest (raws_from n 0 ks vs) ≡ largest_from norm (raws_from (n - c) c (drop k ks) (drop k vs))

  module _ (norm : Float) (k c : ℕ) (s : Ranking norm k c) where
    pub ranking_more : c < n → (r : ColumnRaw) → ColumnSummed ks vs k c r → (next : Float) → next ≡ floats.larger norm r.raw → Ranking next r.next (c + 1)
    unfolding largest_from raws_from
    ranking_more h r f next e =
        let i : n - c ≡ suc (n - suc c) = omega arith in
        let z = size_inside c (drop k ks) in
        record {
          inside = omega (arith, f.passed, z, long);
          left =
              s.left
              ∙ ap (λ (j : ℕ). largest_from norm (raws_from j c (drop k ks) (drop k vs))) i
              ∙ rw (e, f.summed, f.passed, add-one c, drop-drop (front_size c (drop k ks)) k ks, drop-drop (front_size c (drop k ks)) k vs);
        }
      where
        long : length (drop k ks) ≡ length ks - k
        long = length-drop k ks

    pub ranking_done : n ≤ c → norm ≡ largest (raws_from n 0 ks vs)
    unfolding largest_from raws_from
    ranking_done h = let i : n - c ≡ 0 = omega arith in sym (s.left ∙ ap (λ (j : ℕ). largest_from norm (raws_from j c (drop k ks) (drop k vs))) i)
