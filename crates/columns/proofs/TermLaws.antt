-- SPDX-FileCopyrightText: 2026 The PPVM Authors
-- SPDX-License-Identifier: Apache-2.0

-- The entries of a column laid one by one: what is laid, followed by what is left to lay, is the whole throughout. Assumes nothing.
use mathlib.Core.Path.{◌≡◌, sym, ap, ◌∙◌}
use mathlib.Core.Bool.{Bool, true, false, cond}
use mathlib.Core.List.{List, [], ◌∷◌, ◌++◌, append_assoc, append-nil}
use Prim.Native.Nat.{ℕ, ◌+◌, ◌-◌, ◌*◌, ◌≤◌, ◌<◌}
use native.Mathlib.Omega.{arith}
use borrow.Author.Tests.{lt-ltb, le-ltb, eq-eqb, ne_eqb}
use lib.Dec.{eqb}
use lib.Ieee.{Float}
use lib.ListN.{length, set, length-set, length-append}
use Rattle.word.specs.Flat.{word_lanes}
use Rattle.word.specs.declared.word.Word.{Word}
use Rattle.number.specs.Floats.{floats}
use Rattle.slots.proofs.PlaceLaws.{last_inside}
use Rattle.sums.specs.Sums as Terms
use Rattle.std.specs.Prelude.{Some, None}
use Rattle.model.specs.Terms.{Term, term_at}
use Rattle.action.specs.Acts.{listed}
use Rattle.action.proofs.ListLaws.{left, left_none, left_passed, left_listed}
use Rattle.columns.specs.Entries.{Entry, entry, staged}
use Rattle.columns.specs.Columns.{place_in, column_entries}
use Rattle.columns.specs.Between.{StageRoom, Lays}
use Rattle.columns.proofs.EntryLaws.{staged_long, staged_more}

module _ (bs : List Word) (column touched : ℕ) (lanes : List ℕ) (sums : List Float) (rows₀ columns₀ : List ℕ) (values₀ : List Float) (room count : ℕ) where
  -- what is left to lay from place i on, and the whole
  abbrev to_lay : ℕ → List Entry
  to_lay i = column_entries bs column (left touched lanes sums i)

  abbrev whole : List Entry
  whole = staged count rows₀ columns₀ values₀ ++ column_entries bs column (listed (Terms.sum_rows touched lanes sums))

  pub record TermState (rows columns : List ℕ) (values : List Float) (end i : ℕ) : Type 0 where
    pub rows_same : length rows ≡ length rows₀
    pub columns_same : length columns ≡ length columns₀
    pub values_same : length values ≡ length values₀
    pub inside : end ≤ room
    pub gives : staged end rows columns values ++ to_lay i ≡ whole

  module _ (hl : word_lanes * touched ≤ length lanes) (hs : 2 * touched ≤ length sums) (lent : StageRoom room rows₀ columns₀ values₀) (rows columns : List ℕ) (values : List Float) (end i : ℕ) (s : TermState rows columns values end i) where
    long : length (staged end rows columns values) ≡ end
    long =
        staged_long end rows columns values (omega (arith, s.inside, lent.rows_long, s.rows_same)) (omega (arith, s.inside, lent.columns_long, s.columns_same))
        (omega (arith, s.inside, lent.values_long, s.values_same))

    module _ (h : i < touched) (t : Term) (e : t ≡ term_at lanes sums i) where
      same_left : to_lay i ≡ to_lay (i + 1) → TermState rows columns values end (i + 1)
      same_left q =
          record {
            rows_same = s.rows_same;
            columns_same = s.columns_same;
            values_same = s.values_same;
            inside = s.inside;
            gives = ap (λ (L : List Entry). staged end rows columns values ++ L) (sym q) ∙ s.gives;
          }

      pub term_passes : floats.is_zero t.num.re ≡ true → TermState rows columns values end (i + 1)
      term_passes f = same_left (ap (column_entries bs column) (left_passed touched lanes sums hl hs i h t e f))

      module _ (f : floats.is_zero t.num.re ≡ false) (place : ℕ) (is : place ≡ place_in bs t.word) where
        abbrev found : Entry
        found = entry (place - 1) column t.num.re

        by_test : (b : Bool) → eqb place 0 ≡ b → to_lay i ≡ cond b (to_lay (i + 1)) (found ∷ to_lay (i + 1))
        unfolding column_entries
        by_test b g =
            ap (column_entries bs column) (left_listed touched lanes sums hl hs i h t e f)
            ∙ ap (λ (p : ℕ). cond (eqb p 0) (to_lay (i + 1)) (entry (p - 1) column t.num.re ∷ to_lay (i + 1))) (sym is)
            ∙ ap (λ (d : Bool). cond d (to_lay (i + 1)) (found ∷ to_lay (i + 1))) g

        pub term_skips : place ≡ 0 → TermState rows columns values end (i + 1)
        term_skips g = same_left (by_test true (eq-eqb place 0 g))

        module _ (g : place ≡ 0 → ⊥) where
          found_next : to_lay i ≡ found ∷ to_lay (i + 1)
          found_next = by_test false (ne_eqb place 0 g)

          -- no room for it
          pub term_full : end ≡ room → Lays room whole rows columns values None
          term_full q =
              let n : length whole ≡ end + length (to_lay i) = ap length (sym s.gives) ∙ length-append (staged end rows columns values) (to_lay i) ∙ ap (λ (k : ℕ). k + length (to_lay i)) long in
              let k = ap length found_next in
              record {
                answers = rw (lt-ltb room (length whole) (omega (arith, n, k, q)));
                held = λ m z. absurd (let d : ◌≡◌ {A = ℕ} 0 1 = cc in omega arith);
              }

          module _ (q : end ≡ room → ⊥) where
            pub term_place : (end < length rows) × (end < length columns) × (end < length values)
            term_place =
                (omega (arith, s.inside, lent.rows_long, s.rows_same), omega (arith, s.inside, lent.columns_long, s.columns_same), omega (arith, s.inside, lent.values_long, s.values_same))

            pub term_lays : TermState (set rows end (place - 1)) (set columns end column) (set values end t.num.re) (end + 1) (i + 1)
            term_lays =
                let T : List Entry = staged end rows columns values in
                let m = staged_more end rows columns values (place - 1) column t.num.re term_place.0 term_place.1 term_place.2 in
                record {
                  rows_same = length-set rows end (place - 1) ∙ s.rows_same;
                  columns_same = length-set columns end column ∙ s.columns_same;
                  values_same = length-set values end t.num.re ∙ s.values_same;
                  inside = omega (arith, s.inside);
                  gives =
                      ap (λ (L : List Entry). L ++ to_lay (i + 1)) m
                      ∙ append_assoc T (found ∷ []) (to_lay (i + 1))
                      ∙ ap (λ (L : List Entry). T ++ L) (sym found_next)
                      ∙ s.gives;
                }

    pub term_done : touched ≤ i → Lays room whole rows columns values (Some end)
    unfolding column_entries
    term_done h =
        let n : to_lay i ≡ [] = ap (column_entries bs column) (left_none touched lanes sums hl hs i h) in
        let g : staged end rows columns values ≡ whole = sym (append-nil (staged end rows columns values)) ∙ ap (λ (L : List Entry). staged end rows columns values ++ L) (sym n) ∙ s.gives in
        let k : length whole ≡ end = ap length (sym g) ∙ long in
        record {
          answers = rw (k, le-ltb room end s.inside);
          held = λ m z. let d : end ≡ m = cc in rw (← d) g;
        }

-- the position fits where the basis is short
pub place_low : (bs : List Word) (w : Word) {place : ℕ} → place ≡ place_in bs w → place ≤ length bs
place_low bs w e = let h = last_inside w bs (length bs) in omega (arith, e, h)
