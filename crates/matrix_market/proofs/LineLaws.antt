-- SPDX-FileCopyrightText: 2026 The PPVM Authors
-- SPDX-License-Identifier: Apache-2.0

-- Lines and their lengths: the entry at a place is the next line, and there are as many lines as entries. Assumes nothing.
use Rattle.std.proofs.Common.{◌≡◌, ℕ, zero, suc, ◌+◌, ◌<◌, ◌≤◌, true, false, not, ltb, List, [], ◌∷◌, ◌++◌, length, get_or, take, drop, set, sym, refl, ap, ◌∙◌, add-one, arith, length-append, drop_of_length-le, length-take-le, get_or-take, le-ltb, lt-ltb}
use lib.Ieee.{Float, nan}
use Rattle.lent.specs.Laid.{laid}
use Rattle.matrix_market.specs.Text.{Line, newline, space, natural, field, line_text, lines_text, size_line, header, text_of}
use Rattle.matrix_market.specs.Writes.{line_of, lines_of}
use Rattle.matrix_market.specs.Between.{count_text, Counts}
use Rattle.matrix_market.specs.declared.count.Count.{Count}
use Rattle.matrix_market.proofs.LaidLaws.{laid_append}

pub field_long : (after n : ℕ) → length (field after n) ≡ length (natural n) + 1
unfolding field
field_long after n = length-append (natural n) (after ∷ [])

pub size_long : (n entries : ℕ) → length (size_line n entries) ≡ length (natural n) + length (natural n) + length (natural entries) + 3
unfolding size_line
size_long n entries =
    let a = length-append (field space n) (field space n ++ field newline entries) in
    let b = length-append (field space n) (field newline entries) in
    let c = field_long space n in
    let d = field_long newline entries in
    omega (arith, a, b, c, d)

-- ---- a line
pub line_is : (row column : ℕ) (value : Float) (k : Count) → Counts value k
    → line_text (line_of row column value) ≡ field space (row + 1) ++ (field space (column + 1) ++ (count_text k ++ (newline ∷ [])))
unfolding line_text
line_is row column value k c =
    rw (add-one row, add-one column)
    (ap (λ (l : List ℕ). field space (suc row) ++ (field space (suc column) ++ (l ++ (newline ∷ [])))) (sym c.text_is))

pub line_long : (row column : ℕ) (value : Float) (k : Count) → Counts value k
    → length (line_text (line_of row column value)) ≡ length (natural (row + 1)) + length (natural (column + 1)) + length (count_text k) + 3
line_long row column value k c =
    let e = ap length (line_is row column value k c) in
    let a = length-append (field space (row + 1)) (field space (column + 1) ++ (count_text k ++ (newline ∷ []))) in
    let b = length-append (field space (column + 1)) (count_text k ++ (newline ∷ [])) in
    let d = length-append (count_text k) (newline ∷ []) in
    let f = field_long space (row + 1) in
    let g = field_long space (column + 1) in
    omega (arith, e, a, b, d, f, g)

-- ---- lines of tables
lines_drop : (i : ℕ) (rs cs : List ℕ) (vs : List Float) → i < length rs → i < length cs → i < length vs
    → drop i (lines_of rs cs vs) ≡ line_of (get_or rs i 0) (get_or cs i 0) (get_or vs i nan) ∷ drop (suc i) (lines_of rs cs vs)
unfolding lines_of
lines_drop i [] cs vs a b d = absurd (omega arith)
lines_drop i (r ∷ rs) [] vs a b d = absurd (omega arith)
lines_drop i (r ∷ rs) (c ∷ cs) [] a b d = absurd (omega arith)
lines_drop zero (r ∷ rs) (c ∷ cs) (v ∷ vs) a b d = refl
lines_drop (suc i) (r ∷ rs) (c ∷ cs) (v ∷ vs) a b d = lines_drop i rs cs vs (omega arith) (omega arith) (omega arith)

pub lines_count : (n : ℕ) (rs cs : List ℕ) (vs : List Float) → length rs ≡ n → length cs ≡ n → length vs ≡ n → length (lines_of rs cs vs) ≡ n
unfolding lines_of
lines_count n [] cs vs a b d = a
lines_count n (r ∷ rs) [] vs a b d = absurd (omega arith)
lines_count n (r ∷ rs) (c ∷ cs) [] a b d = absurd (omega arith)
lines_count zero (r ∷ rs) (c ∷ cs) (v ∷ vs) a b d = absurd (omega arith)
lines_count (suc n) (r ∷ rs) (c ∷ cs) (v ∷ vs) a b d = ap suc (lines_count n rs cs vs (omega arith) (omega arith) (omega arith))

-- the lines of the first so many entries; the line at a place; the bytes from a line on
module _ (count : ℕ) (rows columns : List ℕ) (values : List Float) where
  abbrev pub lines : List Line
  lines = lines_of (take count rows) (take count columns) (take count values)

  abbrev pub line_at : ℕ → Line
  line_at i = line_of (get_or rows i 0) (get_or columns i 0) (get_or values i nan)

  abbrev pub left : ℕ → List ℕ
  left i = lines_text (drop i lines)

  -- what is left of a room after the header, the size line and i lines
  abbrev pub Fits : ℕ → ℕ → ℕ → ℕ → Type 0
  Fits n room i rest = room + length (left i) ≡ rest + 49 + length (size_line n count) + length (left 0)

  -- i lines are laid from a place of a text on
  pub record LinesLaid (at : ℕ) (text : List ℕ) (i end : ℕ) (now : List ℕ) : Type 0 where
    pub bytes : laid set end (left i) now ≡ laid set at (left 0) text
    pub ends : end + length (left i) ≡ at + length (left 0)
    pub long : length now ≡ length text

module _ (count : ℕ) (rows columns : List ℕ) (values : List Float) (a : count ≤ length rows) (b : count ≤ length columns) (d : count ≤ length values) where
  abbrev Ls : List Line
  Ls = lines count rows columns values

  abbrev at_place : ℕ → Line
  at_place i = line_at count rows columns values i

  abbrev rest_from : ℕ → List ℕ
  rest_from i = left count rows columns values i

  pub lines_long : length Ls ≡ count
  lines_long = lines_count count (take count rows) (take count columns) (take count values) (length-take-le count rows a) (length-take-le count columns b) (length-take-le count values d)

  pub next_line : (i : ℕ) → i < count → drop i Ls ≡ at_place i ∷ drop (i + 1) Ls
  next_line i h =
      rw (add-one i)
      (lines_drop i (take count rows) (take count columns) (take count values) (omega (arith, length-take-le count rows a)) (omega (arith, length-take-le count columns b)) (omega (arith, length-take-le count values d))
      ∙ rw (get_or-take count rows i 0 h, get_or-take count columns i 0 h, get_or-take count values i nan h))

  pub next_left : (i : ℕ) → i < count → rest_from i ≡ line_text (at_place i) ++ rest_from (i + 1)
  unfolding lines_text
  next_left i h = ap lines_text (next_line i h)

  pub left_long : (i : ℕ) → i < count → length (rest_from i) ≡ length (line_text (at_place i)) + length (rest_from (i + 1))
  left_long i h = ap length (next_left i h) ∙ length-append (line_text (at_place i)) (rest_from (i + 1))

  pub none_left : (i : ℕ) → count ≤ i → rest_from i ≡ []
  unfolding lines_text
  none_left i h = ap lines_text (drop_of_length-le Ls {i = i} (omega (arith, lines_long)))

  -- the whole text
  pub text_long : (n : ℕ) → length (text_of n Ls) ≡ 49 + length (size_line n count) + length (rest_from 0)
  unfolding text_of header
  text_long n =
      let e = length-append header (size_line n (length Ls) ++ lines_text Ls) in
      let f = length-append (size_line n (length Ls)) (lines_text Ls) in
      let g : length (size_line n (length Ls)) ≡ length (size_line n count) = ap (λ (k : ℕ). length (size_line n k)) lines_long in
      omega (arith, e, f, g)

  -- ---- whether it fits
  module _ (n room : ℕ) where
    pub head_long : room < 49 + length (size_line n count) → false ≡ not (ltb room (length (text_of n Ls)))
    head_long h = rw (lt-ltb room (length (text_of n Ls)) (omega (arith, text_long n)))

    pub line_too_long : (i rest : ℕ) → i < count → Fits count rows columns values n room i rest → rest < length (line_text (at_place i)) → false ≡ not (ltb room (length (text_of n Ls)))
    line_too_long i rest h f l = rw (lt-ltb room (length (text_of n Ls)) (omega (arith, text_long n, left_long i h)))

    pub all_fit : (i rest : ℕ) → count ≤ i → Fits count rows columns values n room i rest → true ≡ not (ltb room (length (text_of n Ls)))
    all_fit i rest h f = rw (le-ltb room (length (text_of n Ls)) (omega (arith, text_long n, ap length (none_left i h))))

  -- ---- bytes laid from a line on
  module _ (at : ℕ) (text : List ℕ) where
    pub laid_start : LinesLaid count rows columns values at text 0 at text
    laid_start = record { bytes = refl; ends = refl; long = refl }

    pub laid_next : (i end : ℕ) (now : List ℕ) (end' : ℕ) (now' : List ℕ) → i < count → LinesLaid count rows columns values at text i end now
        → now' ≡ laid set end (line_text (at_place i)) now → end' ≡ end + length (line_text (at_place i)) → length now' ≡ length now → LinesLaid count rows columns values at text (i + 1) end' now'
    laid_next i end now end' now' h l e f g = record {
      bytes =
          rw (e, f) (laid_append end (line_text (at_place i)) (rest_from (i + 1)) now)
          ∙ ap (λ (b : List ℕ). laid set end b now) (sym (next_left i h))
          ∙ l.bytes;
      ends = omega (arith, l.ends, left_long i h);
      long = g ∙ l.long;
    }

    pub laid_end : (i end : ℕ) (now : List ℕ) → count ≤ i → LinesLaid count rows columns values at text i end now → (now ≡ laid set at (rest_from 0) text) × (end ≡ at + length (rest_from 0))
    unfolding laid
    laid_end i end now h l = (ap (λ (b : List ℕ). laid set end b now) (sym (none_left i h)) ∙ l.bytes, omega (arith, l.ends, ap length (none_left i h)))
