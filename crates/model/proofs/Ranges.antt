-- SPDX-FileCopyrightText: 2026 The PPVM Authors
-- SPDX-License-Identifier: Apache-2.0

-- Ranges inside a table, and places for the factors of a pair without a product that could overflow. Assumes nothing.
use mathlib.Core.Path.{◌≡◌, refl, sym, ◌∙◌}
use mathlib.Core.Bool.{Bool, true, false, ◌&&◌}
use Prim.Native.Nat.{ℕ, ◌+◌, ◌-◌, ◌*◌, ◌/◌, ◌≤◌, ◌<◌}
use native.Mathlib.Nat.{le-div_iff_mul-le}
use native.Mathlib.Omega.{arith}
use native.Mathlib.Decide.{dec_lt}
use borrow.Author.Tests.{le-leb, lt-leb, leb-true}
use lib.Dec.{leb}
use Rattle.model.specs.Tested.{inside}
use Rattle.model.specs.declared.stored.Range.{Range}

module _ (places : ℕ) (r : Range) where
  pub inside_turned : r.end < r.start → false ≡ inside places r
  inside_turned h = rw (lt-leb r.start r.end h)

  pub inside_end : r.start ≤ r.end → leb r.end places ≡ inside places r
  inside_end h = rw (le-leb r.start r.end h)

  -- a range inside a table is not turned
  pub inside_order : inside places r ≡ true → r.start ≤ r.end
  inside_order h = leb-true r.start r.end (left (leb r.start r.end) (leb r.end places) h)
    where
      left : (a b : Bool) → (a && b) ≡ true → a ≡ true
      left true b e = refl
      left false b e = e

-- left × right factors from a first place on
module _ (factors left right places : ℕ) where
  pub factors_beyond : places < factors → false ≡ leb (factors + left * right) places
  factors_beyond h = sym (lt-leb (factors + left * right) places (omega arith))

  pub factors_none : factors ≤ places → right ≡ 0 → true ≡ leb (factors + left * right) places
  factors_none h e = let z : left * right ≡ 0 = rw e (omega arith) in sym (le-leb (factors + left * right) places (omega arith))

  pub factors_divided : factors ≤ places → (right ≡ 0 → ⊥) → leb left ((places - factors) / right) ≡ leb (factors + left * right) places
  factors_divided h n = go (dec_lt (places - factors) (left * right))
    where
      go : Dec (places - factors < left * right) → leb left ((places - factors) / right) ≡ leb (factors + left * right) places
      go (yes l) =
          let d : left ≤ (places - factors) / right → left * right ≤ places - factors = (le-div_iff_mul-le {k = right} {x = left} {y = places - factors} (omega arith)).0 in
          lt-leb left ((places - factors) / right) (above d) ∙ sym (lt-leb (factors + left * right) places (omega arith))
        where
          above : (left ≤ (places - factors) / right → left * right ≤ places - factors) → (places - factors) / right < left
          above d = case (dec_lt ((places - factors) / right) left)
            where
              case : Dec ((places - factors) / right < left) → (places - factors) / right < left
              case (yes b) = b
              case (no b) = absurd (omega (arith, d (omega arith)))
      go (no l) =
          let d : left * right ≤ places - factors → left ≤ (places - factors) / right = (le-div_iff_mul-le {k = right} {x = left} {y = places - factors} (omega arith)).1 in
          le-leb left ((places - factors) / right) (d (omega arith)) ∙ sym (le-leb (factors + left * right) places (omega arith))
