-- SPDX-FileCopyrightText: 2026 The PPVM Authors
-- SPDX-License-Identifier: Apache-2.0

-- The lengths of a matrix and its operators: where the input's own agree, what the lent tables answer is the answer; where
-- all agree, each of them is what is needed. Assumes nothing.
use mathlib.Core.Path.{◌≡◌, ap, ◌∙◌}
use mathlib.Core.List.{List}
use Prim.Native.Nat.{ℕ, ◌+◌, ◌*◌, ◌/◌, ◌≤◌, min}
use native.Mathlib.Numerals.{add-one}
use native.Mathlib.Omega.{arith}
use borrow.Author.Tests.{eq-eqb}
use lib.Ieee.{Float}
use lib.ListN.{length}
use Rattle.std.specs.Prelude.{Ok}
use Rattle.refusal.specs.Cause.{Answer}
use Rattle.word.specs.Flat.{word_lanes}
use Rattle.model.specs.Stored.{ModelTables}
use Rattle.model.specs.Tested.{max_jumps}
use Rattle.model_build.specs.Given.{max_terms}
use Rattle.lent.specs.Laid.{total}
use Rattle.model_build.specs.Built.{parts_fit}
use Rattle.model.specs.declared.stored.Model.{Model}
use Rattle.model_build.proofs.Parts.{fit_total}
use Rattle.lent.specs.Tests.{lent, where_any}
use Rattle.lent.proofs.Passed.{both, equal_passed, lent_passed}
use Rattle.k_matrix.specs.Added.{Input, operators, entries_needed, work_needed, lengths_answer}

-- ---- lengths that agree
pub record LengthsFit (m : Model) (i : Input) (t : ModelTables) (workWords : List ℕ) (workNumbers : List Float) : Type 0 where
  pub entries_all : length i.k ≡ 2 * (operators i * operators i)
  pub terms_counted : total i.counts ≡ length i.lengths
  pub numbers_two : length i.numbers ≡ 2 * length i.lengths
  pub texts_whole : total i.lengths ≤ length i.texts
  pub jumps_room : entries_needed m (operators i) ≤ length t.jumps / 8
  pub rates_room : entries_needed m (operators i) ≤ length t.rates
  pub work_words_room : work_needed (operators i) (length i.lengths) ≤ length workWords / word_lanes
  pub work_numbers_room : work_needed (operators i) (length i.lengths) ≤ length workNumbers / 2

module _ (m : Model) (i : Input) (t : ModelTables) (workWords : List ℕ) (workNumbers : List Float) where
  abbrev terms : ℕ
  terms = length i.numbers / 2

  -- what the lent tables answer, where so many entries and work places are needed
  abbrev pub tables_answer : ℕ → ℕ → Answer
  tables_answer needed work =
      lent needed (length t.jumps / 8)
      (lent needed (length t.rates)
      (lent work (length workWords / word_lanes)
      (lent work (length workNumbers / 2)
      (Ok tt))))

  pub own_agree : length i.k / 2 ≡ operators i * operators i → length i.k ≡ operators i * operators i * 2
      → length i.lengths ≡ terms → length i.numbers ≡ terms * 2
      → parts_fit i.counts terms ≡ Ok tt → parts_fit i.lengths (length i.texts) ≡ Ok tt
      → (needed : ℕ) → needed ≡ min max_jumps (m.jumps + operators i * (operators i + 1) / 2)
      → (few : ℕ) → few ≡ min terms (max_terms * operators i) → (work : ℕ) → work ≡ where_any (operators i) (256 + few)
      → lengths_answer m i t workWords workNumbers ≡ tables_answer needed work
  unfolding lengths_answer
  own_agree h k l x by_counts byLengths needed e few f work w =
      let n : needed ≡ entries_needed m (operators i) = e ∙ ap (λ (s : ℕ). min max_jumps (m.jumps + operators i * s / 2)) (add-one (operators i)) in
      rw (n, w, f, eq-eqb _ _ h, eq-eqb _ _ k, eq-eqb _ _ l, eq-eqb _ _ x, by_counts, byLengths)

  pub lengths_fit : lengths_answer m i t workWords workNumbers ≡ Ok tt → LengthsFit m i t workWords workNumbers
  unfolding lengths_answer
  lengths_fit e =
      let e1 = equal_passed (operators i * operators i) (length i.k / 2) _ e in
      let e2 = equal_passed (operators i * operators i * 2) (length i.k) _ e1.1 in
      let e3 = equal_passed terms (length i.lengths) _ e2.1 in
      let e4 = equal_passed (terms * 2) (length i.numbers) _ e3.1 in
      let e5 = both (parts_fit i.counts terms) _ e4.1 in
      let e6 = both (parts_fit i.lengths (length i.texts)) _ e5.1 in
      let e7 = lent_passed (entries_needed m (operators i)) (length t.jumps / 8) _ e6.1 in
      let e8 = lent_passed (entries_needed m (operators i)) (length t.rates) _ e7.1 in
      let e9 = lent_passed (work_needed (operators i) terms) (length workWords / word_lanes) _ e8.1 in
      let e10 = lent_passed (work_needed (operators i) terms) (length workNumbers / 2) _ e9.1 in
      record {
        entries_all = omega (arith, e2.0);
        terms_counted = omega (arith, fit_total i.counts terms e5.0, e3.0);
        numbers_two = omega (arith, e4.0, e3.0);
        texts_whole = omega (arith, fit_total i.lengths (length i.texts) e6.0);
        jumps_room = e7.0;
        rates_room = e8.0;
        work_words_room = rw e3.0 e9.0;
        work_numbers_room = rw e3.0 e10.0;
      }
