-- SPDX-FileCopyrightText: 2026 The PPVM Authors
-- SPDX-License-Identifier: Apache-2.0

-- Raws and diagonals of a basis, word by word; and what filling them answers. Assumes nothing.
use mathlib.Core.Path.{◌≡◌, sym, ap, ap₂, ◌∙◌, subst}
use mathlib.Core.Bool.{false}
use mathlib.Core.List.{List, [], ◌∷◌, ◌++◌, map, map-append}
use Prim.Native.Nat.{ℕ, zero, suc, ◌+◌, ◌*◌, ◌≤◌, ◌<◌, max}
use native.Mathlib.Nat.{le_of_suc-le-suc}
use native.Mathlib.Numerals.{add-one}
use native.Mathlib.Omega.{arith}
use borrow.Author.Tests.{lt-ltb, le-ltb}
use lib.Ieee.{Float}
use lib.ListN.{length, get_or, take, drop, set, drop_of_length-le}
use lib.Seq.{drop-cons, take-suc, take-suc-set, take_all, get_or-take, length-take-le}
use Rattle.refusal.specs.declared.Refusal.TheVariants.{TableFull}
use Rattle.std.specs.Prelude.{Ok, Err}
use Rattle.refusal.specs.Cause.{Answer}
use Rattle.word.specs.Word.{identity}
use Rattle.word.specs.Flat.{words, word_lanes}
use Rattle.word.specs.Register.{reaches}
use Rattle.word.specs.declared.word.Word.{Word}
use Rattle.word.proofs.FlatLaws.{words_high}
use Rattle.model.specs.Stored.{ModelTables}
use Rattle.model.specs.declared.stored.Model.{Model}
use Rattle.lent.proofs.Passed.{refused_not}
use Rattle.lent.specs.Words.{outside_at}
use Rattle.action.specs.Counts.{most, touched_by}
use Rattle.column_norm.specs.Columns.{raw_by, diag_by}
use Rattle.norm.specs.Between.{Fills}

-- ---- the first len words of a lent basis
pub words_are : (lanes : List ℕ) (len : ℕ) → word_lanes * len ≤ length lanes → length (take len (words lanes)) ≡ len
words_are lanes len h = length-take-le len (words lanes) (omega (arith, words_high lanes))

pub word_taken : (lanes : List ℕ) (len k : ℕ) → k < len → {p : Word} → p ≡ get_or (words lanes) k identity → p ≡ get_or (take len (words lanes)) k identity
word_taken lanes len k h e = e ∙ sym (get_or-take len (words lanes) k identity h)

pub word_inside : (lanes : List ℕ) (n len : ℕ) → ((k : ℕ) → k < len → outside_at lanes n k ≡ false) → (k : ℕ) → k < len → {p : Word} → p ≡ get_or (words lanes) k identity → reaches p n ≡ false
unfolding outside_at
word_inside lanes n len f k h e = ap (λ (v : Word). reaches v n) e ∙ f k h

-- ---- the most words that an action touches
most_at : (f : Word → ℕ) (ps : List Word) (k : ℕ) → k < length ps → f (get_or ps k identity) ≤ most f ps
unfolding most
most_at f [] k h = absurd (omega arith)
most_at f (p ∷ ps) zero h = omega arith
most_at f (p ∷ ps) (suc k) h = let m = most_at f ps k (le_of_suc-le-suc h) in omega arith

most_next : (f : Word → ℕ) (ps : List Word) (k : ℕ) → k < length ps → most f (drop k ps) ≡ max (f (get_or ps k identity)) (most f (drop (suc k) ps))
unfolding most
most_next f ps k h = ap (most f) (drop-cons ps k identity h)

most_none : (f : Word → ℕ) (ps : List Word) (k : ℕ) → length ps ≤ k → most f (drop k ps) ≡ 0
unfolding most
most_none f ps k h = ap (most f) (drop_of_length-le ps h)

-- one more place of a table, for one more word
place_more : (f : Word → Float) (ps : List Word) (l : List Float) (k : ℕ) (x : Float) → take k l ≡ map f (take k ps) → k < length ps → k < length l → x ≡ f (get_or ps k identity) → take (k + 1) (set l k x) ≡ map f (take (k + 1) ps)
place_more f ps l k x s h hl e =
    rw (add-one k)
    (take-suc-set l k x hl
    ∙ ap₂ (λ (u : List Float) (y : Float). u ++ (y ∷ [])) s e
    ∙ sym (map-append f (take k ps) (get_or ps k identity ∷ []))
    ∙ ap (map f) (sym (take-suc ps k identity h)))

-- ---- word by word
module _ (touch : Word → ℕ) (raw diag : Word → Float) (ps : List Word) (room : ℕ) where
  pub record FillState (raws diags : List Float) (k : ℕ) : Type 0 where
    pub fits : most touch ps ≤ max room (most touch (drop k ps))
    pub raws_so_far : take k raws ≡ map raw (take k ps)
    pub diags_so_far : take k diags ≡ map diag (take k ps)

  pub fill_more : (raws diags : List Float) (k : ℕ) → FillState raws diags k → (p : Word) → k < length ps → p ≡ get_or ps k identity → touch p ≤ room → (x y : Float) → x ≡ raw p → y ≡ diag p → k < length raws → k < length diags
      → FillState (set raws k x) (set diags k y) (k + 1)
  fill_more raws diags k s p h e f x y ex ey hr hd =
      let n = most_next touch ps k h in
      let g : touch (get_or ps k identity) ≤ room = rw e at f in
      record {
        fits = rw (add-one k) (omega (arith, n, g, s.fits));
        raws_so_far = place_more raw ps raws k x s.raws_so_far h hr (ex ∙ ap raw e);
        diags_so_far = place_more diag ps diags k y s.diags_so_far h hd (ey ∙ ap diag e);
      }

-- ---- the answers
pub fills_places : (m : Model) (t : ModelTables) (ps : List Word) (len : ℕ) (raws diags : List Float) (r : Answer) {room places : ℕ} → room ≡ places → Fills room m t ps len raws diags r → Fills places m t ps len raws diags r
fills_places m t ps len raws diags r e f = subst (λ (n : ℕ). Fills n m t ps len raws diags r) e f

module _ (m : Model) (t : ModelTables) (ps : List Word) (room len : ℕ) (raws diags : List Float) (k : ℕ) where
  pub fill_full : (p : Word) → k < length ps → p ≡ get_or ps k identity → room < touched_by m t p → Fills room m t ps len raws diags (Err (TableFull 1 room))
  fill_full p h e l =
      let a = most_at (touched_by m t) ps k h in
      let g : room < touched_by m t (get_or ps k identity) = rw e at l in
      record {
        answers = rw (lt-ltb room (most (touched_by m t) ps) (omega (arith, a, g)));
        raws_are = λ z. absurd (refused_not (TableFull 1 room) z);
        diags_are = λ z. absurd (refused_not (TableFull 1 room) z);
      }

  pub fill_done : FillState (touched_by m t) (raw_by m t ps) (diag_by m t) ps room raws diags k → length ps ≡ len → k ≡ len → Fills room m t ps len raws diags (Ok tt)
  fill_done s n i =
      let z = most_none (touched_by m t) ps k (omega arith) in
      let all : take k ps ≡ ps = take_all k ps (omega arith) in
      record {
        answers = rw (le-ltb room (most (touched_by m t) ps) (omega (arith, z, s.fits)));
        raws_are = λ e. ap (λ (j : ℕ). take j raws) (sym i) ∙ s.raws_so_far ∙ ap (map (raw_by m t ps)) all;
        diags_are = λ e. ap (λ (j : ℕ). take j diags) (sym i) ∙ s.diags_so_far ∙ ap (map (diag_by m t)) all;
      }
