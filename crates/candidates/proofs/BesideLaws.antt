-- SPDX-FileCopyrightText: 2026 The PPVM Authors
-- SPDX-License-Identifier: Apache-2.0

-- Rows in lent tables of exact lengths, and those that pass a test moved to the front of these. Assumes nothing.
use mathlib.Core.Path.{◌≡◌, refl, ap, sym, ◌∙◌}
use mathlib.Core.Bool.{Bool, true, false}
use mathlib.Core.List.{List}
use Prim.Native.Nat.{ℕ, ◌+◌, ◌*◌, ◌≤◌, ◌<◌}
use native.Mathlib.Omega.{arith}
use lib.Ieee.{Float, nan}
use lib.ListN.{length, get_or, set}
use lib.Seq.{take_all}
use Rattle.word.specs.Flat.{word_lanes, words}
use Rattle.word.specs.Word.{identity}
use Rattle.word.specs.declared.word.Word.{Word}
use Rattle.word.proofs.FlatLaws.{words_high, words_low}
use Rattle.candidates.specs.Sums.{Row, row}
use Rattle.candidates.specs.Tables.{Rows, rows, candidate_rows}
use Rattle.candidates.specs.Between.{those, row_at, stays_beside, PivotOf, CutTo}
use Rattle.candidates.proofs.RowLaws.{no_row, rows_set, rows_at, rows_long, rows_few}
use Rattle.candidates.proofs.ThoseLaws.{Fronted, fronted_start, fronted_takes, fronted_passes}

module _ (lanes : List ℕ) (sums : List Float) (each : length lanes ≡ word_lanes * length sums) where
  pub words_long : length (words lanes) ≡ length sums
  words_long = omega (arith, each, words_high lanes, words_low lanes)

  pub all_long : length (rows (words lanes) sums) ≡ length sums
  all_long = omega (arith, words_long, rows_long (words lanes) sums (length sums) (omega (arith, words_long)) (omega arith), rows_few (words lanes) sums)

  pub all_at : (i : ℕ) → i < length sums → get_or (rows (words lanes) sums) i no_row ≡ row_at (words lanes) sums i
  all_at i h = rows_at (words lanes) sums i (omega (arith, words_long)) h

module _ (p : Row Word Float → Bool) (lanes₀ : List ℕ) (sums₀ : List Float) where
  abbrev given : Rows
  given = rows (words lanes₀) sums₀

  -- after i turns
  pub record Retaining (lanes : List ℕ) (sums : List Float) (held i : ℕ) : Type 0 where
    pub lanes_same : length lanes ≡ length lanes₀
    pub sums_same : length sums ≡ length sums₀
    pub fronts : Fronted p (rows (words lanes₀) sums₀) (rows (words lanes) sums) held i

  pub retaining_start : Retaining lanes₀ sums₀ 0 0
  retaining_start = record { lanes_same = refl; sums_same = refl; fronts = fronted_start p given }

  module _ (lanes : List ℕ) (sums : List Float) (held i : ℕ) (r : Retaining lanes sums held i) (each : length lanes₀ ≡ word_lanes * length sums₀) where
    abbrev now : Rows
    now = rows (words lanes) sums

    here : i < length sums₀ → get_or now i no_row ≡ row_at (words lanes) sums i
    here h = all_at lanes sums (omega (arith, r.lanes_same, r.sums_same, each)) i (omega (arith, r.sums_same))

    pub retaining_takes : i < length sums₀ → (w : Word) (lanes' : List ℕ) (sums' : List Float) → w ≡ get_or (words lanes) i identity
        → (words lanes' ≡ set (words lanes) held w) × (sums' ≡ set sums held (get_or sums i nan)) → length lanes' ≡ length lanes → length sums' ≡ length sums
        → p (row_at (words lanes) sums i) ≡ true → Retaining lanes' sums' (held + 1) (i + 1)
    retaining_takes h w lanes' sums' is-w laid el es e =
        let z : rows (words lanes') sums' ≡ set now held (get_or now i no_row) =
        rw (laid.0, laid.1) (rows_set (words lanes) sums held w (get_or sums i nan)) ∙ ap (set now held) (ap (λ (v : Word). row v (get_or sums i nan)) is-w ∙ sym (here h)) in
        record {
          lanes_same = el ∙ r.lanes_same;
          sums_same = es ∙ r.sums_same;
          fronts = rw z (fronted_takes p given now held i no_row r.fronts (omega (arith, all_long lanes₀ sums₀ each)) (ap p (here h) ∙ e));
        }

    pub retaining_passes : i < length sums₀ → p (row_at (words lanes) sums i) ≡ false → Retaining lanes sums held (i + 1)
    retaining_passes h e = record {
      lanes_same = r.lanes_same;
      sums_same = r.sums_same;
      fronts = fronted_passes p given now held i no_row r.fronts (omega (arith, all_long lanes₀ sums₀ each)) (ap p (here h) ∙ e);
    }

    pub retaining_done : length sums₀ ≤ i → i ≤ length sums₀ → (held ≤ length sums₀) × (candidate_rows held lanes sums ≡ those p (rows (words lanes₀) sums₀))
    retaining_done h l = (omega (arith, r.fronts.few), r.fronts.front ∙ ap (those p) (take_all i given (omega (arith, all_long lanes₀ sums₀ each))))

-- ---- the row that is the last to stay
module _ (room : ℕ) (ws : List Word) (xs : List Float) (q : ℕ) (v : Word) (is-v : v ≡ get_or ws q identity) (r : ℕ) (lanes : List ℕ) (sums : List Float)
    (kept : (r ≤ length xs) × (candidate_rows r lanes sums ≡ those (stays_beside (row v (get_or xs q nan))) (rows ws xs))) where
  pub cut_by : PivotOf room ws xs q → CutTo room ws xs r lanes sums
  cut_by p = record { last = q; pivot = p; few = kept.0; left = rw (← is-v) kept.1 }

  -- found, and held against each row
  pub cut_counted : q < length xs → (taken : ℕ) → taken ≡ length (those (stays_beside (row v (get_or xs q nan))) (rows ws xs)) → taken ≡ room → CutTo room ws xs r lanes sums
  cut_counted h taken e f = cut_by (record { inside = h; count = rw (← is-v) (sym e ∙ f) })
