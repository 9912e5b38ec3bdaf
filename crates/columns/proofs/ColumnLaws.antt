-- SPDX-FileCopyrightText: 2026 The PPVM Authors
-- SPDX-License-Identifier: Apache-2.0

-- Columns staged one after another: the entries that stand and the columns that are left are the whole, and so are the tests.
-- Assumes nothing.
use mathlib.Core.Path.{◌≡◌, refl, sym, ap, ◌∙◌}
use mathlib.Core.Bool.{Bool, true, false, cond}
use mathlib.Core.List.{List, [], ◌∷◌, ◌++◌, append_assoc, append-nil}
use Prim.Native.Nat.{ℕ, suc, ◌+◌, ◌≤◌, ◌<◌}
use native.Mathlib.Numerals.{add-one}
use native.Mathlib.Omega.{arith}
use borrow.Author.Tests.{lt-ltb, le-ltb, ltb-true, ltb-false}
use lib.Dec.{ltb}
use lib.Ieee.{Float}
use lib.ListN.{length, get_or, drop, length-append, drop_of_length-le}
use lib.Seq.{drop-cons}
use Rattle.refusal.specs.declared.Refusal.{Refusal}
use Rattle.refusal.specs.declared.Refusal.TheVariants.{TableFull}
use Rattle.std.specs.Prelude.{Option, Some, None, Result, Ok, Err}
use Rattle.refusal.specs.Cause.{Answer}
use Rattle.word.specs.Word.{identity}
use Rattle.word.specs.declared.word.Word.{Word}
use Rattle.model.specs.Stored.{ModelTables}
use Rattle.model.specs.Terms.{Term}
use Rattle.model.specs.declared.stored.Model.{Model}
use Rattle.action.specs.Acts.{action_of}
use Rattle.action.specs.Counts.{touched_by}
use Rattle.columns.specs.Entries.{Entry, staged}
use Rattle.columns.specs.Columns.{column_entries, columns_from, generator_of, column_tests, generator_room}
use Rattle.columns.specs.Stages.{answered}
use Rattle.columns.specs.Between.{answer, Lays, Stages}

-- ---- what laying a column answers
full_long : (room : ℕ) (E : List Entry) → None ≡ answer room E → room < length E
full_long room E e = go (ltb room (length E)) refl e
  where
    go : (b : Bool) → ltb room (length E) ≡ b → None ≡ cond b None (Some (length E)) → room < length E
    go true f g = ltb-true room (length E) f
    go false f g = absurd (let z : ◌≡◌ {A = ℕ} 0 1 = cc in omega arith)

held_long : (room n : ℕ) (E : List Entry) → Some n ≡ answer room E → (n ≡ length E) × (n ≤ room)
held_long room n E e = go (ltb room (length E)) refl e
  where
    go : (b : Bool) → ltb room (length E) ≡ b → Some n ≡ cond b None (Some (length E)) → (n ≡ length E) × (n ≤ room)
    go true f g = absurd (let z : ◌≡◌ {A = ℕ} 0 1 = cc in omega arith)
    go false f g = let k : n ≡ length E = cc in (k, omega (arith, k, ltb-false room (length E) f))

-- ---- answers of all
stages_refused : (tests : Answer) (E : List Entry) (rows columns : List ℕ) (values : List Float) (q : Refusal) → tests ≡ Err q → Stages tests E rows columns values (Err q)
stages_refused tests E rows columns values q e =
    record { answers = ap (λ (a : Answer). answered a (length E)) (sym e); held = λ n z. absurd (let d : ◌≡◌ {A = ℕ} 0 1 = cc in omega arith) }

stages_listed : (tests : Answer) (E : List Entry) (rows columns : List ℕ) (values : List Float) (n : ℕ) → tests ≡ Ok tt → staged n rows columns values ≡ E → length (staged n rows columns values) ≡ n
    → Stages tests E rows columns values (Ok n)
stages_listed tests E rows columns values n e g l =
    let k : n ≡ length E = sym l ∙ ap length g in
    record { answers = ap Ok k ∙ ap (λ (a : Answer). answered a (length E)) (sym e); held = λ m z. let d : n ≡ m = cc in rw (← d) g }

-- ---- the turns
module _ (touch : Word → ℕ) (act : Word → List Term) (bs : List Word) (sumRoom entryRoom : ℕ) where
  abbrev tests : ℕ → ℕ → List Word → Answer
  tests = column_tests touch act bs sumRoom entryRoom

  abbrev all : List Entry
  all = columns_from act bs 0 bs

  pub record ColumnState (rows columns : List ℕ) (values : List Float) (end c : ℕ) : Type 0 where
    pub inside : end ≤ entryRoom
    pub long : length (staged end rows columns values) ≡ end
    pub tests_left : tests c end (drop c bs) ≡ tests 0 0 bs
    pub gives : staged end rows columns values ++ columns_from act bs c (drop c bs) ≡ all

  module _ (rows columns : List ℕ) (values : List Float) (end c : ℕ) (s : ColumnState rows columns values end c) where
    module _ (h : c < length bs) (p : Word) (is : p ≡ get_or bs c identity) where
      next : drop c bs ≡ p ∷ drop (c + 1) bs
      next = rw (add-one c) (drop-cons bs c identity h ∙ ap (λ (q : Word). q ∷ drop (suc c) bs) (sym is))

      abbrev column : List Entry
      column = column_entries bs c (act p)

      tests_next : column_tests touch act bs sumRoom entryRoom c end (p ∷ drop (c + 1) bs) ≡ tests 0 0 bs
      tests_next = ap (tests c end) (sym next) ∙ s.tests_left

      -- table 1
      pub column_touched : sumRoom < touch p → Stages (tests 0 0 bs) all rows columns values (Err (TableFull 1 sumRoom))
      unfolding column_tests
      column_touched l =
          stages_refused (tests 0 0 bs) all rows columns values (TableFull 1 sumRoom)
          (sym (rw (lt-ltb sumRoom (touch p) l) at tests_next))

      module _ (fits : touch p ≤ sumRoom) (L : List Term) (listed : L ≡ act p) (rows' columns' : List ℕ) (values' : List Float) (r : Option ℕ)
          (laid : Lays entryRoom (staged end rows columns values ++ column_entries bs c L) rows' columns' values' r) where
        together : length (staged end rows columns values ++ column_entries bs c L) ≡ end + length column
        together =
            length-append (staged end rows columns values) (column_entries bs c L)
            ∙ ap (λ (k : ℕ). k + length (column_entries bs c L)) s.long
            ∙ ap (λ (T : List Term). end + length (column_entries bs c T)) listed

        -- table 3
        pub column_full : r ≡ None → Stages (tests 0 0 bs) all rows' columns' values' (Err (TableFull 3 entryRoom))
        unfolding column_tests
        column_full e =
            let k = full_long entryRoom (staged end rows columns values ++ column_entries bs c L) (sym e ∙ laid.answers) in
            stages_refused (tests 0 0 bs) all rows' columns' values' (TableFull 3 entryRoom)
            (sym (rw (le-ltb sumRoom (touch p) fits, lt-ltb entryRoom (end + length column) (omega (arith, k, together))) at tests_next))

        pub column_more : (n : ℕ) → r ≡ Some n → ColumnState rows' columns' values' n (c + 1)
        unfolding column_tests columns_from
        column_more n e =
            let k = held_long entryRoom n (staged end rows columns values ++ column_entries bs c L) (sym e ∙ laid.answers) in
            let w : n ≡ end + length column = k.0 ∙ together in
            let g : staged n rows' columns' values' ≡ staged end rows columns values ++ column = laid.held n e ∙ ap (λ (T : List Term). staged end rows columns values ++ column_entries bs c T) listed in
            record {
              inside = k.1;
              long = ap length (laid.held n e) ∙ sym k.0;
              tests_left =
                  rw (add-one c, w)
                  (rw (add-one c, le-ltb sumRoom (touch p) fits, le-ltb entryRoom (end + length column) (omega (arith, k.1, w))) at tests_next);
              gives =
                  ap (λ (E : List Entry). E ++ columns_from act bs (c + 1) (drop (c + 1) bs)) g
                  ∙ append_assoc (staged end rows columns values) column (columns_from act bs (c + 1) (drop (c + 1) bs))
                  ∙ ap (λ (k : ℕ). staged end rows columns values ++ (column ++ columns_from act bs k (drop (c + 1) bs))) (add-one c)
                  ∙ ap (λ (W : List Word). staged end rows columns values ++ columns_from act bs c W) (sym next)
                  ∙ s.gives;
            }

    pub column_done : length bs ≤ c → Stages (tests 0 0 bs) all rows columns values (Ok end)
    unfolding column_tests columns_from
    column_done h =
        let z : drop c bs ≡ [] = drop_of_length-le bs h in
        stages_listed (tests 0 0 bs) all rows columns values end (sym s.tests_left ∙ ap (tests c end) z)
        (sym (append-nil (staged end rows columns values)) ∙ ap (λ (W : List Word). staged end rows columns values ++ columns_from act bs c W) (sym z) ∙ s.gives) s.long

-- ---- of a model
pub stages_are : (m : Model) (t : ModelTables) (bs : List Word) (sumRoom entryRoom : ℕ) (rows columns : List ℕ) (values : List Float) (r : Result ℕ Refusal)
    → Stages (column_tests (touched_by m t) (action_of m t) bs sumRoom entryRoom 0 0 bs) (columns_from (action_of m t) bs 0 bs) rows columns values r
    → Stages (generator_room m t bs sumRoom entryRoom) (generator_of m t bs) rows columns values r
unfolding generator_room generator_of
stages_are m t bs sumRoom entryRoom rows columns values r k = k
