-- SPDX-FileCopyrightText: 2026 The PPVM Authors
-- SPDX-License-Identifier: Apache-2.0

-- The turns of a pass over its positions: what stands, and the positions that are left, give the whole. Assumes nothing.
use mathlib.Core.Path.{◌≡◌, ap, sym, ◌∙◌}
use mathlib.Core.List.{List, [], ◌∷◌}
use Prim.Native.Nat.{ℕ, suc, ◌+◌, ◌≤◌, ◌<◌}
use native.Mathlib.Omega.{arith}
use native.Mathlib.Numerals.{add-one}
use borrow.Author.Tests.{le-ltb, lt-ltb}
use lib.Ieee.{Float, nan}
use lib.ListN.{length, get_or, drop, drop_of_length-le}
use lib.Seq.{drop-cons}
use Rattle.refusal.specs.declared.Refusal.TheVariants.{TableFull}
use Rattle.word.specs.declared.word.Word.{Word}
use Rattle.word.specs.Word.{identity}
use Rattle.std.specs.Prelude.{Option, Some, None, Ok, Err}
use Rattle.candidates.specs.Tables.{Rows, candidate_rows, put_rows}
use Rattle.candidates.specs.Between.{in_word_order, Standing, Puts}
use Rattle.model.specs.Terms.{Term}
use Rattle.lent.specs.Read.{Read, refused}
use Rattle.model.specs.Stored.{ModelTables}
use Rattle.model.specs.declared.stored.Model.{Model}
use Rattle.action.specs.Acts.{action_of}
use Rattle.passes.specs.Leaks.{outside, leaked, taken_by, leaks_at}
use Rattle.passes.proofs.TookLaws.{stood_held, stood_refused}
use Rattle.passes.specs.Between.{Stood}

module _ (touched : ℕ → ℕ) (leaks : ℕ → Rows) (sumRoom room : ℕ) (positions : List ℕ) where
  abbrev taken : List ℕ → Rows → Read Rows
  taken = taken_by touched leaks sumRoom room

  pub record Passing (course : Read Rows) (i held : ℕ) (lanes : List ℕ) (sums : List Float) (heads nexts : List ℕ) : Type 0 where
    pub gives : taken_by touched leaks sumRoom room (drop i positions) (in_word_order (candidate_rows held lanes sums)) ≡ course
    pub stands : Standing room held lanes sums heads nexts

  module _ (course : Read Rows) (i held : ℕ) (lanes : List ℕ) (sums : List Float) (heads nexts : List ℕ) (o : Passing course i held lanes sums heads nexts) where
    abbrev T : Rows
    T = in_word_order (candidate_rows held lanes sums)

    pub passing_end : length positions ≤ i → Stood room course lanes sums heads nexts (Ok held)
    unfolding taken_by
    passing_end h =
        let z : drop i positions ≡ [] = drop_of_length-le positions {i = i} h in
        stood_held room course lanes sums heads nexts held o.stands (sym (ap (λ (ps : List ℕ). taken ps T) (sym z) ∙ o.gives))

    module _ (in-positions : i < length positions) (p : ℕ) (is-p : p ≡ get_or positions i 0) where
      next : taken (p ∷ drop (suc i) positions) T ≡ course
      next = rw (is-p, ← (drop-cons positions i 0 in-positions)) o.gives

      -- the action finds no room
      pub passing_stopped : (lanes' : List ℕ) (sums' : List Float) (heads' nexts' : List ℕ) → sumRoom < touched p → Stood room course lanes' sums' heads' nexts' (Err (TableFull 1 sumRoom))
      unfolding taken_by
      passing_stopped lanes' sums' heads' nexts' h =
          let e : refused (TableFull 1 sumRoom) ≡ course = rw (lt-ltb sumRoom (touched p) h) at next in
          stood_refused room course lanes' sums' heads' nexts' (TableFull 1 sumRoom) (sym e)

      module _ (fits : touched p ≤ sumRoom) (lanes' : List ℕ) (sums' : List Float) (heads' nexts' : List ℕ) (r : Option ℕ)
          (k : Puts room (put_rows (leaks p) (in_word_order (candidate_rows held lanes sums))) lanes' sums' heads' nexts' r) where
        -- what it adds finds no place
        pub passing_full : r ≡ None → Stood room course lanes' sums' heads' nexts' (Err (TableFull 2 room))
        unfolding taken_by
        passing_full z =
            let e : refused (TableFull 2 room) ≡ course = rw (le-ltb sumRoom (touched p) fits, lt-ltb room (length (put_rows (leaks p) T)) (k.full z)) at next in
            stood_refused room course lanes' sums' heads' nexts' (TableFull 2 room) (sym e)

        pub passing_next : (m : ℕ) → r ≡ Some m → Passing course (i + 1) m lanes' sums' heads' nexts'
        unfolding taken_by
        passing_next m z =
            let q = k.held m z in
            let l : length (put_rows (leaks p) T) ≤ room = omega (arith, ap length q.1, q.0.once, q.0.inside) in
            let e : taken (drop (suc i) positions) (put_rows (leaks p) T) ≡ course = rw (le-ltb sumRoom (touched p) fits, le-ltb room (length (put_rows (leaks p) T)) l) at next in
            record { gives = rw (add-one i, q.1) e; stands = q.0 }

-- ---- what one position adds
pub leaks_are : (m : Model) (t : ModelTables) (basis : List Word) (coeffs : List Float) (protected : List Word) (p : ℕ) (w : Word) (L : List Term) → w ≡ get_or basis p identity → L ≡ action_of m t w
    → leaked (outside basis protected) (get_or coeffs p nan) L ≡ leaks_at m t basis coeffs protected p
leaks_are m t basis coeffs protected p w L e f = rw (f, e)
