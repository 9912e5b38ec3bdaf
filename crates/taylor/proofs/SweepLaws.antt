-- SPDX-FileCopyrightText: 2026 The PPVM Authors
-- SPDX-License-Identifier: Apache-2.0

-- Rows of a list laid over a table as far as they are finite: the turns of such a loop. Assumes nothing.
use mathlib.Core.Path.{◌≡◌, refl, sym, ap, ap₂, ◌∙◌}
use mathlib.Core.Bool.{Bool, true, false, not}
use mathlib.Core.List.{List, [], ◌∷◌, ◌++◌, append-nil}
use Prim.Native.Nat.{ℕ, zero, suc, ◌+◌, ◌≤◌, ◌<◌}
use native.Mathlib.Omega.{arith}
use lib.Ieee.{Float, nan, binary64, add, mul}
use lib.ListN.{length, get_or, take, drop, set, length-map, drop_of_length-le}
use lib.Seq.{take_all}
use Rattle.number.specs.Floats.{is_finite}
use Rattle.lent.specs.Numbers.{not_finite}
use Rattle.lent.proofs.Firsts.{NoneBefore, none_more, first_here, first_none, first_before}
use Rattle.lent.proofs.WriteLaws.{written_more}
use Rattle.taylor.specs.Stages.{scaled, added}
use Rattle.taylor.specs.Between.{Sweeps}

-- ---- one row of each list
pub scaled_long : (x : Float) (l : List Float) → length (scaled x l) ≡ length l
unfolding scaled
scaled_long x l = length-map l (λ y. mul binary64 y x)

pub scaled_at : (x : Float) (l : List Float) (k : ℕ) → k < length l → get_or (scaled x l) k nan ≡ mul binary64 (get_or l k nan) x
unfolding scaled
scaled_at x [] k h = absurd (omega arith)
scaled_at x (y ∷ l) zero h = refl
scaled_at x (y ∷ l) (suc k) h = scaled_at x l k (omega arith)

pub added_long : (v b : List Float) → length v ≡ length b → length (added v b) ≡ length v
unfolding added
added_long [] b e = refl
added_long (x ∷ v) [] e = absurd (omega arith)
added_long (x ∷ v) (y ∷ b) e = ap suc (added_long v b (omega arith))

pub added_at : (v b : List Float) (k : ℕ) → length v ≡ length b → k < length v → get_or (added v b) k nan ≡ add binary64 (get_or v k nan) (get_or b k nan)
unfolding added
added_at [] b k e h = absurd (omega arith)
added_at (x ∷ v) [] k e h = absurd (omega arith)
added_at (x ∷ v) (y ∷ b) zero e h = refl
added_at (x ∷ v) (y ∷ b) (suc k) e h = added_at v b k (omega arith) (omega arith)

-- ---- the turns
module _ (l table : List Float) where
  -- the rows before k are finite and laid
  pub record Sweeping (k : ℕ) (table' : List Float) : Type 0 where
    pub none : NoneBefore (not_finite l) k
    pub laid : table' ≡ take k l ++ drop k table

  module _ (k : ℕ) (table' : List Float) (s : Sweeping k table') where
    module _ (low : k < length l) (x : Float) (x-is : x ≡ get_or l k nan) (finite : Bool) (told : finite ≡ is_finite x) where
      row_is : not finite ≡ not_finite l k
      unfolding not_finite
      row_is = ap not (told ∙ ap (λ (y : Float). is_finite y) x-is)

      pub sweep_stop : not finite ≡ true → Sweeps l table k table'
      sweep_stop t = record { first = sym (first_here (length l) (not_finite l) k low s.none (sym row_is ∙ t)); laid = s.laid }

      pub sweep_more : not finite ≡ false → k < length table → Sweeping (k + 1) (set table' k x)
      sweep_more t room = record {
        none = none_more (not_finite l) k s.none (sym row_is ∙ t);
        laid = written_more nan l table table' (set table' k x) k x low room s.laid x-is refl;
      }

    pub sweep_done : (r : ℕ) → r ≡ length l → r ≡ k → Sweeps l table r table'
    sweep_done r h e = record {
      first = h ∙ sym (first_none (length l) (not_finite l) (λ i m. s.none i (omega arith)));
      laid = rw e s.laid;
    }

-- ---- all rows passed
module _ (l table : List Float) (r : ℕ) (table' : List Float) (w : Sweeps l table r table') where
  pub sweep_all : length table ≡ length l → length l ≤ r → table' ≡ l
  sweep_all e h = w.laid ∙ ap₂ (λ (a b : List Float). a ++ b) (take_all r l h) (drop_of_length-le table {i = r} (omega arith)) ∙ append-nil l

  pub sweep_finite : length l ≤ r → NoneBefore (not_finite l) (length l)
  sweep_finite h k m = first_before (length l) (not_finite l) k (omega (arith, w.first))
