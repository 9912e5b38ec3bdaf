-- SPDX-FileCopyrightText: 2026 The PPVM Authors
-- SPDX-License-Identifier: Apache-2.0

-- The answer of a step, as it is given. Assumes nothing.
use mathlib.Core.Path.{◌≡◌, ap, ◌∙◌}
use mathlib.Core.List.{List}
use Prim.Native.Nat.{ℕ, ◌≤◌}
use native.Mathlib.Omega.{arith}
use lib.Ieee.{Float}
use lib.ListN.{take}
use Rattle.refusal.specs.declared.Refusal.{Refusal}
use Rattle.candidates.specs.Tables.{Rows, candidate_rows}
use Rattle.candidates.specs.Between.{in_word_order, Standing}
use Rattle.lent.specs.Read.{Read, got, refused}
use Rattle.passes.specs.Between.{rows_at, Placed, Stood, Took}
use Rattle.std.specs.Prelude.{Ok, Err}

module _ (room : ℕ) (course : Read Rows) (lanes : List ℕ) (sums : List Float) (order : List ℕ) where
  pub took_held : (n : ℕ) → n ≤ room → course ≡ got (rows_at lanes sums (take n order)) → Placed lanes sums (take n order) → Took room course lanes sums order (Ok n)
  took_held n h e p =
      record {
        held = λ m z. let q : n ≡ m = cc in (rw (← q) e, rw (← q) h, rw (← q) p);
        stopped = λ r z. let q : ◌≡◌ {A = ℕ} 0 1 = cc in absurd (omega arith);
      }

  pub took_refused : (r : Refusal) → course ≡ refused r → Took room course lanes sums order (Err r)
  took_refused r e =
      record {
        held = λ m z. let q : ◌≡◌ {A = ℕ} 0 1 = cc in absurd (omega arith);
        stopped = λ s z. let q : r ≡ s = cc in e ∙ ap refused q;
      }

module _ (room : ℕ) (course : Read Rows) (lanes : List ℕ) (sums : List Float) (heads nexts : List ℕ) where
  pub stood_held : (n : ℕ) → Standing room n lanes sums heads nexts → course ≡ got (in_word_order (candidate_rows n lanes sums)) → Stood room course lanes sums heads nexts (Ok n)
  stood_held n s e =
      record {
        held = λ m z. let q : n ≡ m = cc in (rw (← q) s, rw (← q) e);
        stopped = λ r z. let q : ◌≡◌ {A = ℕ} 0 1 = cc in absurd (omega arith);
      }

  pub stood_refused : (r : Refusal) → course ≡ refused r → Stood room course lanes sums heads nexts (Err r)
  stood_refused r e =
      record {
        held = λ m z. let q : ◌≡◌ {A = ℕ} 0 1 = cc in absurd (omega arith);
        stopped = λ s z. let q : r ≡ s = cc in e ∙ ap refused q;
      }
