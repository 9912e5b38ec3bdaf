-- SPDX-FileCopyrightText: 2026 The PPVM Authors
-- SPDX-License-Identifier: Apache-2.0

-- The order by magnitude lists each position once, as choosing asks. Assumes nothing.
use mathlib.Core.Path.{◌≡◌, refl, sym, ap, ap₂, ◌∙◌}
use mathlib.Core.Bool.{Bool, true, false, cond}
use mathlib.Core.List.{List, [], ◌∷◌}
use Prim.Native.Nat.{ℕ, ◌+◌, ◌<◌}
use borrow.Author.Tests.{lt-ltb, eqb-true, eqb-false, eq-eqb, ne_eqb}
use lib.Dec.{eqb}
use lib.Ieee.{Float}
use lib.ListN.{length}
use Rattle.order.specs.Merge.{positions, count}
use Rattle.order.specs.Magnitudes.{falls_before, by_magnitude}
use Rattle.order.proofs.Members.{all_at, all_sort, positions_below}
use Rattle.order.proofs.CountLaws.{ordered_once}
use Rattle.keep.specs.Between.{Below, occurrences, EachOnce}

eqb_turned : (a b : ℕ) → eqb a b ≡ eqb b a
eqb_turned a b = go (eqb b a) refl
  where
    go : (t : Bool) → eqb b a ≡ t → eqb a b ≡ t
    go true e = eq-eqb a b (sym (eqb-true b a e))
    go false e = ne_eqb a b (λ d. eqb-false b a e (sym d))

occurs_count : (p : ℕ) (l : List ℕ) → occurrences p l ≡ count (eqb p) l
unfolding occurrences count
occurs_count p [] = refl
occurs_count p (q ∷ l) = ap₂ ◌+◌ (ap (λ (t : Bool). cond t 1 0) (eqb_turned q p)) (occurs_count p l)

pub magnitude_once : (values : List Float) → EachOnce (length values) (by_magnitude values)
magnitude_once values =
    let n : ℕ = length values in
    record {
      all_below = record { below = λ i h. all_at (λ x. x < n) (by_magnitude values) i (all_sort (λ x. x < n) (falls_before values) (length (positions n)) (positions n) (positions_below n)) h };
      once = λ p h. occurs_count p (by_magnitude values) ∙ ordered_once (falls_before values) n p ∙ ap (λ (t : Bool). cond t 1 0) (lt-ltb p n h);
    }

-- what walking that order asks
pub choose_asks : (values : List Float) (order fixed kept : List ℕ) → order ≡ by_magnitude values → length fixed ≡ length values → length kept ≡ length values
    → (length kept ≡ length fixed) × Below (length fixed) order
choose_asks values order fixed kept eo ef ek = (ek ∙ sym ef, rw (ef, eo) (magnitude_once values).all_below)
