-- SPDX-FileCopyrightText: 2026 The PPVM Authors
-- SPDX-License-Identifier: Apache-2.0

-- The entries of the generator, column by column, have the raws of its columns: a term of an action is an entry exactly where its word
-- is in the basis. Assumes nothing.
use mathlib.Core.Path.{◌≡◌, refl, sym, ap, ap₂}
use mathlib.Core.Bool.{Bool, true, false, cond}
use mathlib.Core.List.{List, [], ◌∷◌, ◌++◌, map}
use Prim.Native.Nat.{ℕ, suc, ◌-◌, ◌<◌}
use native.Mathlib.Omega.{arith}
use borrow.Author.Tests.{eq-eqb, ne_eqb}
use lib.Dec.{eqb}
use lib.Ieee.{Float}
use lib.ListN.{length, drop}
use Rattle.word.specs.declared.word.Word.{Word}
use Rattle.number.specs.Floats.{floats, float0, magnitude}
use Rattle.order.specs.Places.{is_among}
use Rattle.slots.proofs.SlotLaws.{holds}
use Rattle.model.specs.Stored.{ModelTables}
use Rattle.model.specs.Terms.{Term}
use Rattle.model.specs.declared.stored.Model.{Model}
use Rattle.action.specs.Acts.{action_of}
use Rattle.columns.specs.Entries.{Entry, entry}
use Rattle.columns.specs.Columns.{place_in, column_entries, columns_from, generator_of}
use Rattle.column_norm.specs.Columns.{sum_from, inside_of, raw_of, largest}
use Rattle.raw_norm.specs.Unshifted.{unshifted_norm}
use Rattle.raw_norm.specs.Between.{front_sum, front_size, raws_from}

abbrev columns_in : List Entry → List ℕ
columns_in E = map (λ (e : Entry). e.column) E

abbrev values_in : List Entry → List Float
values_in E = map (λ (e : Entry). e.value) E

-- no entry of column c at the front
abbrev Apart : ℕ → List Entry → Type 0
Apart c [] = Unit {0}
Apart c (e ∷ E) = e.column ≡ c → ⊥

apart_sum : (c : ℕ) (F : List Entry) → Apart c F → (x : Float) → front_sum c x (columns_in F) (values_in F) ≡ x
unfolding front_sum
apart_sum c [] h x = refl
apart_sum c (e ∷ F) h x = rw (ne_eqb e.column c h)

apart_size : (c : ℕ) (F : List Entry) → Apart c F → front_size c (columns_in F) ≡ 0
unfolding front_size
apart_size c [] h = refl
apart_size c (e ∷ F) h = rw (ne_eqb e.column c h)

module _ (bs : List Word) where
  -- ---- the columns further on
  apart_front : (c d : ℕ) (L : List Term) (F : List Entry) → c < d → Apart c F → Apart c (column_entries bs d L ++ F)
  unfolding column_entries
  apart_front c d [] F h a = a
  apart_front c d (t ∷ L) F h a = go (eqb (place_in bs t.word) 0) (apart_front c d L F h a)
    where
      go : (b : Bool) → Apart c (column_entries bs d L ++ F) → Apart c (cond b (column_entries bs d L) (entry (place_in bs t.word - 1) d t.num.re ∷ column_entries bs d L) ++ F)
      go true k = k
      go false k = λ e. omega arith

  apart_columns : (act : Word → List Term) (c d : ℕ) (ps : List Word) → c < d → Apart c (columns_from act bs d ps)
  unfolding columns_from
  apart_columns act c d [] h = tt
  apart_columns act c d (p ∷ ps) h = apart_front c d (act p) (columns_from act bs (suc d) ps) h (apart_columns act c (suc d) ps (omega arith))

  -- ---- one column
  module _ (c : ℕ) (F : List Entry) (apart : Apart c F) where
    column_sum : (L : List Term) (x : Float) → front_sum c x (columns_in (column_entries bs c L ++ F)) (values_in (column_entries bs c L ++ F)) ≡ sum_from x (map (λ (t : Term). magnitude t.num.re) (inside_of bs L))
    unfolding column_entries inside_of sum_from front_sum
    column_sum [] x = apart_sum c F apart x
    column_sum (t ∷ L) x = go (eqb (place_in bs t.word) 0) refl (λ y. column_sum L y)
      where
        go : (b : Bool) → eqb (place_in bs t.word) 0 ≡ b → ((y : Float) → front_sum c y (columns_in (column_entries bs c L ++ F)) (values_in (column_entries bs c L ++ F)) ≡ sum_from y (map (λ (u : Term). magnitude u.num.re) (inside_of bs L)))
            → front_sum c x (columns_in (cond b (column_entries bs c L) (entry (place_in bs t.word - 1) c t.num.re ∷ column_entries bs c L) ++ F)) (values_in (cond b (column_entries bs c L) (entry (place_in bs t.word - 1) c t.num.re ∷ column_entries bs c L) ++ F))
            ≡ sum_from x (map (λ (u : Term). magnitude u.num.re) (cond (is_among t.word bs) (t ∷ inside_of bs L) (inside_of bs L)))
        go true e r = rw (sym (holds t.word bs), e) (r x)
        go false e r = rw (sym (holds t.word bs), e, eq-eqb c c refl) (r (floats.plus x (magnitude t.num.re)))

    column_rest : (L : List Term)
        → (drop (front_size c (columns_in (column_entries bs c L ++ F))) (columns_in (column_entries bs c L ++ F)) ≡ columns_in F)
        × (drop (front_size c (columns_in (column_entries bs c L ++ F))) (values_in (column_entries bs c L ++ F)) ≡ values_in F)
    unfolding column_entries front_size
    column_rest [] = (rw (apart_size c F apart), rw (apart_size c F apart))
    column_rest (t ∷ L) = go (eqb (place_in bs t.word) 0) (column_rest L)
      where
        go : (b : Bool) → (drop (front_size c (columns_in (column_entries bs c L ++ F))) (columns_in (column_entries bs c L ++ F)) ≡ columns_in F) × (drop (front_size c (columns_in (column_entries bs c L ++ F))) (values_in (column_entries bs c L ++ F)) ≡ values_in F)
            → (drop (front_size c (columns_in (cond b (column_entries bs c L) (entry (place_in bs t.word - 1) c t.num.re ∷ column_entries bs c L) ++ F))) (columns_in (cond b (column_entries bs c L) (entry (place_in bs t.word - 1) c t.num.re ∷ column_entries bs c L) ++ F)) ≡ columns_in F)
            × (drop (front_size c (columns_in (cond b (column_entries bs c L) (entry (place_in bs t.word - 1) c t.num.re ∷ column_entries bs c L) ++ F))) (values_in (cond b (column_entries bs c L) (entry (place_in bs t.word - 1) c t.num.re ∷ column_entries bs c L) ++ F)) ≡ values_in F)
        go true r = r
        go false r = (rw (eq-eqb c c refl) r.0, rw (eq-eqb c c refl) r.1)

  -- ---- all columns
  raws_are : (act : Word → List Term) (c : ℕ) (ps : List Word) → raws_from (length ps) c (columns_in (columns_from act bs c ps)) (values_in (columns_from act bs c ps)) ≡ map (λ (p : Word). raw_of bs (act p)) ps
  unfolding raws_from columns_from raw_of
  raws_are act c [] = refl
  raws_are act c (p ∷ ps) =
      let F : List Entry = columns_from act bs (suc c) ps in
      let a = apart_columns act c (suc c) ps (omega arith) in
      let r = column_rest c F a (act p) in
      ap₂ (λ (x : Float) (l : List Float). x ∷ l) (column_sum c F a (act p) float0) (rw (r.0, r.1) (raws_are act (suc c) ps))

pub norm_is : (m : Model) (t : ModelTables) (bs : List Word) → largest (raws_from (length bs) 0 (columns_in (generator_of m t bs)) (values_in (generator_of m t bs))) ≡ unshifted_norm m t bs
unfolding generator_of unshifted_norm
norm_is m t bs = ap largest (raws_are bs (action_of m t) 0 bs)
