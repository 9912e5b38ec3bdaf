-- SPDX-FileCopyrightText: 2026 The PPVM Authors
-- SPDX-License-Identifier: Apache-2.0

-- The raw of a column is the sum of the magnitudes of its generator entries, in their order. Assumes nothing.
use mathlib.Core.Path.{◌≡◌, refl, sym, ap, ap₂, ◌∙◌, subst}
use mathlib.Core.Bool.{Bool, true, false, not}
use mathlib.Core.List.{List, [], ◌∷◌, ◌++◌, map}
use Prim.Native.Nat.{ℕ, zero, suc, ◌+◌, ◌-◌, ◌<◌}
use native.Mathlib.Nat.{le_of_suc-le-suc}
use native.Mathlib.Omega.{arith}
use borrow.Author.Tests.{ne_eqb}
use lib.Dec.{eqb, eqb_refl}
use lib.Ieee.{Float}
use lib.ListN.{length, get_or}
use lib.Seq.{take_all}
use Rattle.word.specs.Word.{identity}
use Rattle.word.specs.declared.word.Word.{Word}
use Rattle.number.specs.Floats.{magnitude}
use Rattle.number.proofs.Tests.{yes}
use Rattle.order.specs.Places.{is_among}
use Rattle.slots.proofs.PlaceLaws.{last_among}
use Rattle.model.specs.Stored.{ModelTables}
use Rattle.model.specs.Terms.{Term}
use Rattle.model.specs.declared.stored.Model.{Model}
use Rattle.action.specs.Acts.{action_of}
use Rattle.columns.specs.Entries.{Entry, entry}
use Rattle.columns.specs.Columns.{place_in, column_entries, columns_from, generator_of}
use Rattle.column_norm.specs.Columns.{total, inside_of, raw_of, raw_by}
use Rattle.norm_laws.specs.Yardstick.{in_column, column_sum}

abbrev sizes : List Term → List Float
sizes = map (λ (c : Term). magnitude c.num.re)

abbrev values : List Entry → List Float
values = map (λ (e : Entry). magnitude e.value)

-- a word is in a basis exactly where it has a place there
module _ (bs : List Word) (w : Word) where
  placed : is_among w bs ≡ not (eqb (place_in bs w) 0)
  placed = sym (last_among w bs (length bs) (omega arith) ∙ ap (is_among w) (take_all (length bs) bs (omega arith)))

-- ---- one column
column_sizes : (bs : List Word) (c : ℕ) (L : List Term) → sizes (inside_of bs L) ≡ values (column_entries bs c L)
unfolding inside_of column_entries
column_sizes bs c [] = refl
column_sizes bs c (t ∷ L) = go (eqb (place_in bs t.word) 0) refl (column_sizes bs c L)
  where
    go : (b : Bool) → eqb (place_in bs t.word) 0 ≡ b → sizes (inside_of bs L) ≡ values (column_entries bs c L) → sizes (inside_of bs (t ∷ L)) ≡ values (column_entries bs c (t ∷ L))
    go true e r = rw (placed bs t.word, e) r
    go false e r = rw (placed bs t.word, e) (ap (λ (l : List Float). magnitude t.num.re ∷ l) r)

-- ---- among all columns
own_entries : (bs : List Word) (c : ℕ) (L : List Term) → in_column c (column_entries bs c L) ≡ column_entries bs c L
unfolding in_column column_entries
own_entries bs c [] = refl
own_entries bs c (t ∷ L) = go (eqb (place_in bs t.word) 0) refl (own_entries bs c L)
  where
    go : (b : Bool) → eqb (place_in bs t.word) 0 ≡ b → in_column c (column_entries bs c L) ≡ column_entries bs c L → in_column c (column_entries bs c (t ∷ L)) ≡ column_entries bs c (t ∷ L)
    go true e r = rw e r
    go false e r = rw (e, yes {b = eqb c c} (eqb_refl c)) (ap (λ (E : List Entry). entry (place_in bs t.word - 1) c t.num.re ∷ E) r)

other_entries : (bs : List Word) (c d : ℕ) → eqb d c ≡ false → (L : List Term) → in_column c (column_entries bs d L) ≡ []
unfolding in_column column_entries
other_entries bs c d f [] = refl
other_entries bs c d f (t ∷ L) = go (eqb (place_in bs t.word) 0) refl (other_entries bs c d f L)
  where
    go : (b : Bool) → eqb (place_in bs t.word) 0 ≡ b → in_column c (column_entries bs d L) ≡ [] → in_column c (column_entries bs d (t ∷ L)) ≡ []
    go true e r = rw e r
    go false e r = rw (e, f) r

in_append : (c : ℕ) (E F : List Entry) → in_column c (E ++ F) ≡ in_column c E ++ in_column c F
unfolding in_column
in_append c [] F = refl
in_append c (e ∷ E) F = go (eqb e.column c) refl (in_append c E F)
  where
    go : (b : Bool) → eqb e.column c ≡ b → in_column c (E ++ F) ≡ in_column c E ++ in_column c F → in_column c ((e ∷ E) ++ F) ≡ in_column c (e ∷ E) ++ in_column c F
    go true i r = rw i (ap (λ (l : List Entry). e ∷ l) r)
    go false i r = rw i r

append_none : (E : List Entry) → E ++ [] ≡ E
append_none [] = refl
append_none (e ∷ E) = ap (λ (l : List Entry). e ∷ l) (append_none E)

module _ (act : Word → List Term) (bs : List Word) where
  later : (c d : ℕ) → c < d → (ps : List Word) → in_column c (columns_from act bs d ps) ≡ []
  unfolding in_column columns_from
  later c d h [] = refl
  later c d h (p ∷ ps) =
      let n : d ≡ c → ⊥ = λ e. omega (arith, h, e) in
      in_append c (column_entries bs d (act p)) (columns_from act bs (suc d) ps)
      ∙ ap₂ (λ (E F : List Entry). E ++ F) (other_entries bs c d (ne_eqb d c n) (act p)) (later c (suc d) (omega arith) ps)

  at : (d k : ℕ) (ps : List Word) → k < length ps → in_column (d + k) (columns_from act bs d ps) ≡ column_entries bs (d + k) (act (get_or ps k identity))
  unfolding columns_from
  at d k [] h = absurd (omega (arith, h))
  at d zero (p ∷ ps) h =
      let e : d + 0 ≡ d = omega arith in
      rw e
      (in_append d (column_entries bs d (act p)) (columns_from act bs (suc d) ps)
      ∙ ap₂ (λ (E F : List Entry). E ++ F) (own_entries bs d (act p)) (later d (suc d) (omega arith) ps)
      ∙ append_none (column_entries bs d (act p)))
  at d (suc k) (p ∷ ps) h =
      let n : d ≡ d + suc k → ⊥ = λ i. omega (arith, i) in
      let s : suc d + k ≡ d + suc k = omega arith in
      in_append (d + suc k) (column_entries bs d (act p)) (columns_from act bs (suc d) ps)
      ∙ ap (λ (E : List Entry). E ++ in_column (d + suc k) (columns_from act bs (suc d) ps)) (other_entries bs (d + suc k) d (ne_eqb d (d + suc k) n) (act p))
      ∙ subst (λ (j : ℕ). in_column j (columns_from act bs (suc d) ps) ≡ column_entries bs j (act (get_or ps k identity))) s (at (suc d) k ps (le_of_suc-le-suc h))

-- ---- the theorem
pub raw_is_column_sum : (m : Model) (t : ModelTables) (bs : List Word) (c : ℕ) → c < length bs → raw_by m t bs (get_or bs c identity) ≡ column_sum (in_column c (generator_of m t bs))
unfolding raw_of column_sum generator_of
raw_is_column_sum m t bs c h =
    let z : 0 + c ≡ c = omega arith in
    let e : in_column c (columns_from (action_of m t) bs 0 bs) ≡ column_entries bs c (action_of m t (get_or bs c identity)) =
    subst (λ (j : ℕ). in_column j (columns_from (action_of m t) bs 0 bs) ≡ column_entries bs j (action_of m t (get_or bs c identity))) z (at (action_of m t) bs 0 c bs h) in
    ap total (column_sizes bs c (action_of m t (get_or bs c identity)) ∙ ap values (sym e))
