-- SPDX-FileCopyrightText: 2026 The PPVM Authors
-- SPDX-License-Identifier: Apache-2.0

-- Prune and cap on a lent basis, the first `len` places of a table of words beside a table of coefficients: refusals in their
-- order, the answer, and every lent table afterwards.
use Rattle.std.specs.Prelude.{ℕ, ◌-◌, ◌*◌, ◌/◌, max, cond, List, map, [], ◌∷◌, leb, Float, length, take, replicate, Result, Ok, Err}
use Rattle.std.specs.Float.Ieee.{le}
use Rattle.refusal.specs.declared.Refusal.{Refusal}
use Rattle.refusal.specs.Cause.{Answer}
use Rattle.word.specs.Flat.{words, word_lanes}
use Rattle.number.specs.Floats.{float0}
use Rattle.order.specs.Magnitudes.{by_magnitude}
use Rattle.order.specs.Places.{is_among}
use Rattle.keep.specs.Retained.{flagged, retained_lanes, retained_numbers}
use Rattle.keep.specs.Chosen.{chosen}
use Rattle.keep.specs.Pruned.{large_flags}
use Rattle.lent.specs.Tests.{counted, lent, where_any, equal, in_turn, registered}
use Rattle.lent.specs.Words.{max_words, inside_to}
use Rattle.lent.specs.Numbers.{finite_to, finite_threshold}

-- ---- which entries stay
-- 1 for each of the first len words that is protected
unfoldable pub protected_flags : ℕ → List ℕ → List ℕ → List ℕ
protected_flags len lanes protected = map (λ w. cond (is_among w (words protected)) 1 0) (take len (words lanes))

-- magnitude at least drop_tol, or protected
unfoldable pub prune_flags : ℕ → List ℕ → List Float → List ℕ → Float → List ℕ
prune_flags len lanes coeffs protected tol = large_flags tol (take len coeffs) (protected_flags len lanes protected)

-- the protected, and the largest others: as many as the limit leaves slots; ties to the earlier
unfoldable pub cap_flags : ℕ → List ℕ → List Float → List ℕ → ℕ → List ℕ
cap_flags len lanes coeffs protected limit =
    let fixed : List ℕ = protected_flags len lanes protected in
    chosen (by_magnitude (take len coeffs)) fixed (limit - flagged fixed)

-- ---- what a call answers, and the lent tables afterwards
pub record Keeping : Type 0 where
  pub answer : Result ℕ Refusal
  pub lanes : List ℕ
  pub coeffs : List Float
  pub order : List ℕ
  pub work : List ℕ
  pub fixed : List ℕ
  pub kept : List ℕ

module _ (len : ℕ) (lanes : List ℕ) (coeffs : List Float) (order work fixed kept : List ℕ) where
  -- a refusal changes nothing
  abbrev pub unchanged : Refusal → Keeping
  unchanged r = record { answer = Err r; lanes = lanes; coeffs = coeffs; order = order; work = work; fixed = fixed; kept = kept }

  -- work tables are zero after acceptance
  abbrev pub left : ℕ → List ℕ → List Float → Keeping
  left r lanes' coeffs' = record {
    answer = Ok r;
    lanes = lanes';
    coeffs = coeffs';
    order = replicate (length order) 0;
    work = replicate (length work) 0;
    fixed = replicate (length fixed) 0;
    kept = replicate (length kept) 0;
  }

  -- the entries whose flag is not 0 stay; every place past them is 0
  abbrev pub retained : List ℕ → Keeping
  retained flags = left (flagged flags) (retained_lanes len flags lanes) (retained_numbers len flags coeffs)

  abbrev pub tested : Answer → Keeping → Keeping
  tested (Ok _) after = after
  tested (Err r) after = unchanged r

  -- 1, 8, 9, 11, 7: what prune and cap ask alike of a basis and a protected list; each work table has a place for each entry, and
  -- the two for ordering, where there is an entry, also one for each protected word
  module _ (n : ℕ) (protected : List ℕ) where
    abbrev pub order_places : ℕ
    order_places = where_any len (max len (length protected / word_lanes))

    abbrev pub length_tests : Answer → Answer
    length_tests after =
        in_turn (
        lent len (length lanes / word_lanes)
        ∷ lent len (length coeffs)
        ∷ equal (length protected / word_lanes * word_lanes) (length protected)
        ∷ lent order_places (length order)
        ∷ lent order_places (length work)
        ∷ lent len (length fixed)
        ∷ lent len (length kept)
        ∷ []) after

    abbrev pub entry_tests : Answer → Answer
    entry_tests after = inside_to len lanes n (inside_to (length protected / word_lanes) protected n (finite_to 0 len coeffs after))

    unfoldable pub prune_tests : Float → Answer
    prune_tests tol =
        in_turn (
        registered n
        ∷ counted max_words len
        ∷ counted max_words (length protected / word_lanes)
        ∷ length_tests
        ∷ entry_tests
        ∷ finite_threshold len tol
        ∷ []) (Ok tt)

    -- word limits are 0 to 65,536
    unfoldable pub cap_tests : ℕ → Answer
    cap_tests limit =
        in_turn (
        registered n
        ∷ counted max_words len
        ∷ counted max_words (length protected / word_lanes)
        ∷ counted max_words limit
        ∷ length_tests
        ∷ entry_tests
        ∷ []) (Ok tt)

    -- nothing if drop_tol ≤ 0
    unfoldable pub prune : Float → Keeping
    prune tol = tested (prune_tests tol) (cond (le tol float0) (left len lanes coeffs) (retained (prune_flags len lanes coeffs protected tol)))

    -- nothing at or under the limit
    unfoldable pub cap : ℕ → Keeping
    cap limit = tested (cap_tests limit) (cond (leb len limit) (left len lanes coeffs) (retained (cap_flags len lanes coeffs protected limit)))
