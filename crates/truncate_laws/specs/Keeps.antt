-- SPDX-FileCopyrightText: 2026 The PPVM Authors
-- SPDX-License-Identifier: Apache-2.0

-- What prune and cap keep of a lent basis, told by a flag for each position before the call: which entries stay, that nobody is
-- lost, and that the larger go first.
use Rattle.std.specs.Prelude.{ℕ, ◌≤◌, ◌<◌, ◌≡◌, cond, List, T, leb, Float, length, get_or, take, replicate, Ok}
use Rattle.std.specs.Float.{nan, binary64}
use Rattle.std.specs.Float.Ieee.{fits, le}
use Rattle.word.specs.Flat.{words}
use Rattle.number.specs.Floats.{float0}
use Rattle.order.specs.Magnitudes.{key_at}
use Rattle.keep.specs.Retained.{pick, flagged}
use Rattle.truncate.specs.Prunes.{prune_flags, cap_flags, Keeping}

-- ---- the flags of a call: all positions are kept where it does nothing
unfoldable pub pruned_flags : ℕ → List ℕ → List Float → List ℕ → Float → List ℕ
pruned_flags len lanes coeffs protected tol = cond (le tol float0) (replicate len 1) (prune_flags len lanes coeffs protected tol)

unfoldable pub capped_flags : ℕ → List ℕ → List Float → List ℕ → ℕ → List ℕ
capped_flags len lanes coeffs protected limit = cond (leb len limit) (replicate len 1) (cap_flags len lanes coeffs protected limit)

-- the position is kept
abbrev pub Flagged : List ℕ → ℕ → Type 0
Flagged flags p = get_or flags p 0 ≡ 0 → ⊥

-- the basis afterwards is the flagged entries, in order
pub record Stays (len : ℕ) (lanes : List ℕ) (coeffs : List Float) (flags : List ℕ) (after : Keeping) : Type 0 where
  pub each : length flags ≡ len
  pub answers : after.answer ≡ Ok (flagged flags)
  pub words_kept : take (flagged flags) (words after.lanes) ≡ pick flags (take len (words lanes))
  pub coeffs_kept : take (flagged flags) after.coeffs ≡ pick flags (take len coeffs)

-- every position kept by the one is kept by the other
pub record LosesNobody (flags flags' : List ℕ) : Type 0 where
  pub stays : (p : ℕ) → Flagged flags p → Flagged flags' p

-- of two positions that are not fixed, one kept and one not, the kept one is at least as large, and the earlier of equals
pub record LargerStay (coeffs : List Float) (fixed flags : List ℕ) : Type 0 where
  pub larger : (p q : ℕ) → p < length fixed → q < length fixed → get_or fixed p 0 ≡ 0 → get_or fixed q 0 ≡ 0
      → Flagged flags p → get_or flags q 0 ≡ 0 → (key_at coeffs q ≤ key_at coeffs p) × (key_at coeffs q ≡ key_at coeffs p → p < q)

-- numbers that an f64 can hold, as those of every lent table
abbrev pub Fitting : List Float → Type 0
Fitting coeffs = (i : ℕ) → i < length coeffs → T (fits binary64 (get_or coeffs i nan))
