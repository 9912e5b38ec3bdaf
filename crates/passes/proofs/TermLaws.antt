-- SPDX-FileCopyrightText: 2026 The PPVM Authors
-- SPDX-License-Identifier: Apache-2.0

-- Words outside, and what one position adds to candidates, term by term. Assumes nothing.
use mathlib.Core.Path.{◌≡◌, refl, sym, ap, ◌∙◌}
use mathlib.Core.Bool.{Bool, true, false, not, ◌&&◌, ◌||◌, cond}
use mathlib.Core.List.{List, [], ◌∷◌, ◌++◌}
use Prim.Native.Nat.{ℕ, ◌+◌, ◌*◌, ◌≤◌, ◌<◌}
use native.Mathlib.Omega.{arith}
use lib.Ieee.{Float}
use lib.ListN.{length}
use Rattle.word.specs.Flat.{word_lanes}
use Rattle.word.specs.Order.{before, same}
use Rattle.word.specs.declared.word.Word.{Word}
use Rattle.number.specs.Floats.{floats}
use Rattle.order.specs.Places.{is_among}
use Rattle.std.specs.Prelude.{Option, Some, None}
use Rattle.candidates.specs.Sums.{Row, row, put_all}
use Rattle.candidates.specs.Tables.{Rows, candidate_rows, put_row, put_rows}
use Rattle.candidates.specs.Between.{in_word_order, Standing, Puts}
use Rattle.candidates.proofs.PutLaws.{strict, all_grow}
use Rattle.candidates.proofs.StandLaws.{puts_held, puts_full}
use Rattle.model.specs.Terms.{Term, term_at}
use Rattle.action.proofs.ListLaws.{left, left_none, left_passed, left_listed}
use Rattle.passes.specs.Leaks.{outside, leaked}

-- ---- words outside
among_both : (w : Word) (basis protected : List Word) → is_among w (basis ++ protected) ≡ (is_among w basis || is_among w protected)
unfolding is_among
among_both w [] protected = refl
among_both w (v ∷ basis) protected = go (same v w) (among_both w basis protected)
  where
    go : (b : Bool) → is_among w (basis ++ protected) ≡ (is_among w basis || is_among w protected) → (b || is_among w (basis ++ protected)) ≡ ((b || is_among w basis) || is_among w protected)
    go true e = refl
    go false e = e

pub outside_both : (basis protected : List Word) (w : Word) (b : Bool) → b ≡ is_among w (basis ++ protected) → not b ≡ outside basis protected w
unfolding outside
outside_both basis protected w b e = ap not (e ∙ among_both w basis protected) ∙ go (is_among w basis)
  where
    go : (c : Bool) → not (c || is_among w protected) ≡ (not c && not (is_among w protected))
    go true = refl
    go false = refl

-- ---- the candidates
abbrev word_of : Row Word Float → Word
word_of r = r.word

abbrev sum_of : Row Word Float → Float
sum_of r = r.sum

pub grows : (l T : Rows) → length T ≤ length (put_rows l T)
grows l T = all_grow before floats.plus floats.nought strict word_of sum_of l T

-- what is left to put from place i on
abbrev to_put : (Word → Bool) → Float → ℕ → List ℕ → List Float → ℕ → Rows
to_put out c touched lanes sums i = leaked out c (left touched lanes sums i)

-- what stands, followed by what is left to put, is the whole throughout
pub record TermState (out : Word → Bool) (c : Float) (touched : ℕ) (lanes : List ℕ) (sums : List Float) (room : ℕ) (all : Rows) (candWords : List ℕ) (candSums : List Float) (heads nexts : List ℕ) (held i : ℕ) : Type 0 where
  pub stands : Standing room held candWords candSums heads nexts
  pub gives : put_rows (to_put out c touched lanes sums i) (in_word_order (candidate_rows held candWords candSums)) ≡ all

module _ (out : Word → Bool) (c : Float) (touched : ℕ) (lanes : List ℕ) (sums : List Float) (room : ℕ) where
  module _ (hl : word_lanes * touched ≤ length lanes) (hs : 2 * touched ≤ length sums) (all : Rows) (candWords : List ℕ) (candSums : List Float) (heads nexts : List ℕ) (held i : ℕ) (s : TermState out c touched lanes sums room all candWords candSums heads nexts held i) where
    abbrev T : Rows
    T = in_word_order (candidate_rows held candWords candSums)

    module _ (h : i < touched) (t : Term) (e : t ≡ term_at lanes sums i) where
      same_left : to_put out c touched lanes sums i ≡ to_put out c touched lanes sums (i + 1) → TermState out c touched lanes sums room all candWords candSums heads nexts held (i + 1)
      same_left q = record { stands = s.stands; gives = ap (λ (l : Rows). put_rows l T) (sym q) ∙ s.gives }

      pub term_passes : floats.is_zero t.num.re ≡ true → TermState out c touched lanes sums room all candWords candSums heads nexts held (i + 1)
      term_passes f = same_left (ap (leaked out c) (left_passed touched lanes sums hl hs i h t e f))

      module _ (f : floats.is_zero t.num.re ≡ false) where
        by_test : (b : Bool) → out t.word ≡ b → to_put out c touched lanes sums i ≡ cond b (row t.word (floats.times c t.num.re) ∷ to_put out c touched lanes sums (i + 1)) (to_put out c touched lanes sums (i + 1))
        unfolding leaked
        by_test b g =
            ap (leaked out c) (left_listed touched lanes sums hl hs i h t e f)
            ∙ ap (λ (d : Bool). cond d (row t.word (floats.times c t.num.re) ∷ to_put out c touched lanes sums (i + 1)) (to_put out c touched lanes sums (i + 1))) g

        pub term_skips : out t.word ≡ false → TermState out c touched lanes sums room all candWords candSums heads nexts held (i + 1)
        term_skips g = same_left (by_test false g)

        module _ (g : out t.word ≡ true) (candWords' : List ℕ) (candSums' : List Float) (heads' nexts' : List ℕ) (r : Option ℕ)
            (k : Puts room (put_row t.word (floats.times c t.num.re) (in_word_order (candidate_rows held candWords candSums))) candWords' candSums' heads' nexts' r) where
          after : put_rows (to_put out c touched lanes sums (i + 1)) (put_row t.word (floats.times c t.num.re) T) ≡ all
          unfolding put_all
          after = ap (λ (l : Rows). put_rows l T) (sym (by_test true g)) ∙ s.gives

          pub term_puts : (m : ℕ) → r ≡ Some m → TermState out c touched lanes sums room all candWords' candSums' heads' nexts' m (i + 1)
          term_puts m z =
              record { stands = (k.held m z).0; gives = ap (put_rows (to_put out c touched lanes sums (i + 1))) (k.held m z).1 ∙ after }

          pub term_full : r ≡ None → Puts room all candWords' candSums' heads' nexts' None
          term_full z =
              puts_full room all candWords' candSums' heads' nexts'
              (rw (← after) (omega (arith, k.full z, grows (to_put out c touched lanes sums (i + 1)) (put_row t.word (floats.times c t.num.re) T))))

    pub term_done : touched ≤ i → Puts room all candWords candSums heads nexts (Some held)
    unfolding leaked put_all
    term_done h =
        let n : to_put out c touched lanes sums i ≡ [] = ap (leaked out c) (left_none touched lanes sums hl hs i h) in
        puts_held room held all candWords candSums heads nexts s.stands (ap (λ (l : Rows). put_rows l T) (sym n) ∙ s.gives)
