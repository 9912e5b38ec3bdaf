-- SPDX-FileCopyrightText: 2026 The PPVM Authors
-- SPDX-License-Identifier: Apache-2.0

-- Raw and diagonal of one column, sum by sum. Assumes nothing.
use mathlib.Core.Path.{◌≡◌, refl, sym, ap, ◌∙◌, subst}
use mathlib.Core.Bool.{Bool, true, false, cond}
use mathlib.Core.List.{List, ◌∷◌, map}
use Prim.Native.Nat.{ℕ, ◌+◌, ◌*◌, ◌≤◌, ◌<◌}
use lib.Ieee.{Float}
use lib.ListN.{length}
use Rattle.word.specs.Flat.{word_lanes}
use Rattle.word.specs.Order.{same}
use Rattle.word.specs.declared.word.Word.{Word}
use Rattle.number.specs.Floats.{floats, float0, magnitude}
use Rattle.order.specs.Places.{is_among}
use Rattle.sums.specs.Sums.{sum_rows}
use Rattle.model.specs.Terms.{Term, term_at}
use Rattle.action.specs.Acts.{listed}
use Rattle.action.proofs.ListLaws.{left, left_none, left_passed, left_listed}
use Rattle.column_norm.specs.Columns.{sum_from, inside_of, raw_of, diag_of}

-- the magnitudes of the terms whose words are in a basis
abbrev sizes : List Word → List Term → List Float
sizes bs L = map (λ (c : Term). magnitude c.num.re) (inside_of bs L)

module _ (bs : List Word) (len : ℕ) (lanes : List ℕ) (sums : List Float) where
  abbrev all : Float
  all = raw_of bs (listed (sum_rows len lanes sums))

  -- what is added so far, and what is left to add
  pub record RawState (raw : Float) (i : ℕ) : Type 0 where
    pub added : sum_from raw (sizes bs (left len lanes sums i)) ≡ all

  pub raw_start : RawState float0 0
  unfolding raw_of
  raw_start = record { added = refl }

  module _ (hl : word_lanes * len ≤ length lanes) (hs : 2 * len ≤ length sums) (i : ℕ) (raw : Float) (s : RawState raw i) where
    module _ (h : i < len) (t : Term) (e : t ≡ term_at lanes sums i) where
      pub raw_passes : floats.is_zero t.num.re ≡ true → RawState raw (i + 1)
      raw_passes f = record { added = subst (λ (L : List Term). sum_from raw (sizes bs L) ≡ all) (left_passed len lanes sums hl hs i h t e f) s.added }

      module _ (f : floats.is_zero t.num.re ≡ false) where
        added_next : (b : Bool) → is_among t.word bs ≡ b → sum_from raw (map (λ (c : Term). magnitude c.num.re) (cond b (t ∷ inside_of bs (left len lanes sums (i + 1))) (inside_of bs (left len lanes sums (i + 1))))) ≡ all
        unfolding inside_of
        added_next b eb =
            ap (λ (c : Bool). sum_from raw (map (λ (k : Term). magnitude k.num.re) (cond c (t ∷ inside_of bs (left len lanes sums (i + 1))) (inside_of bs (left len lanes sums (i + 1)))))) (sym eb)
            ∙ subst (λ (L : List Term). sum_from raw (sizes bs L) ≡ all) (left_listed len lanes sums hl hs i h t e f) s.added

        pub raw_adds : is_among t.word bs ≡ true → (x : Float) → x ≡ magnitude t.num.re → RawState (floats.plus raw x) (i + 1)
        unfolding sum_from
        raw_adds eb x ex = record { added = rw ex (added_next true eb) }

        pub raw_leaves : is_among t.word bs ≡ false → RawState raw (i + 1)
        raw_leaves eb = record { added = added_next false eb }

    pub raw_done : len ≤ i → raw ≡ all
    unfolding sum_from inside_of
    raw_done h = subst (λ (L : List Term). sum_from raw (sizes bs L) ≡ all) (left_none len lanes sums hl hs i h) s.added

module _ (len : ℕ) (lanes : List ℕ) (sums : List Float) where
  -- the word was not passed yet
  pub record DiagState (w : Word) (i : ℕ) : Type 0 where
    pub ahead : diag_of w (left len lanes sums i) ≡ diag_of w (listed (sum_rows len lanes sums))

  module _ (hl : word_lanes * len ≤ length lanes) (hs : 2 * len ≤ length sums) (i : ℕ) where
    module _ (h : i < len) (t : Term) (e : t ≡ term_at lanes sums i) where
      module _ (f : floats.is_zero t.num.re ≡ true) where
        pub diag_passes : (w : Word) → DiagState w i → DiagState w (i + 1)
        diag_passes w s = record { ahead = subst (λ (L : List Term). diag_of w L ≡ diag_of w (listed (sum_rows len lanes sums))) (left_passed len lanes sums hl hs i h t e f) s.ahead }

      module _ (f : floats.is_zero t.num.re ≡ false) where
        module _ (w : Word) (s : DiagState w i) where
          here : (b : Bool) → same t.word w ≡ b → cond b t.num.re (diag_of w (left len lanes sums (i + 1))) ≡ diag_of w (listed (sum_rows len lanes sums))
          unfolding diag_of
          here b eb =
              ap (λ (c : Bool). cond c t.num.re (diag_of w (left len lanes sums (i + 1)))) (sym eb)
              ∙ subst (λ (L : List Term). diag_of w L ≡ diag_of w (listed (sum_rows len lanes sums))) (left_listed len lanes sums hl hs i h t e f) s.ahead

          pub diag_found : same t.word w ≡ true → t.num.re ≡ diag_of w (listed (sum_rows len lanes sums))
          diag_found eb = here true eb

          pub diag_other : same t.word w ≡ false → DiagState w (i + 1)
          diag_other eb = record { ahead = here false eb }

    module _ (h : len ≤ i) where
      pub diag_none : (w : Word) → DiagState w i → float0 ≡ diag_of w (listed (sum_rows len lanes sums))
      unfolding diag_of
      diag_none w s = subst (λ (L : List Term). diag_of w L ≡ diag_of w (listed (sum_rows len lanes sums))) (left_none len lanes sums hl hs i h) s.ahead
