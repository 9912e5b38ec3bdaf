-- SPDX-FileCopyrightText: 2026 The PPVM Authors
-- SPDX-License-Identifier: Apache-2.0

-- What is written is read back: numbers, lines, the whole text. So a text determines its size and every line. Assumes nothing.
use Rattle.std.proofs.Common.{◌≡◌, ℕ, zero, suc, ◌+◌, ◌-◌, ◌*◌, ◌/◌, ◌%◌, ◌<◌, ◌≤◌, true, false, eqb, List, [], ◌∷◌, ◌++◌, length, drop, ℤ, pos, negsuc, neg_ℤ, sym, refl, ap, ◌∙◌, append_assoc, arith, ne_eqb, le-leb}
use native.Mathlib.Decide.{dec_lt}
use lib.Seq.{drop-append_seam}
use Rattle.matrix_market.specs.Text.{Line, newline, space, minus, digit, natural, whole, field, line_text, lines_text, size_line, header, text_of}
use Rattle.matrix_market.specs.Reading.{Read, is_digit, read_digits, read_natural, read_field, read_whole, read_line, read_lines, Matrix, read_text}
use Rattle.matrix_market.proofs.NaturalLaws.{natural_small, natural_more}

-- ---- digits
digit_is : (n : ℕ) → n < 10 → is_digit (digit n) ≡ true
digit_is n h = rw (le-leb 48 (48 + n) (omega arith), le-leb (48 + n) 57 (omega arith))

read_digit : (before n : ℕ) (rest : List ℕ) → n < 10 → read_digits before (digit n ∷ rest) ≡ read_digits (10 * before + n) rest
unfolding read_digits
read_digit before n rest h =
    let e : 48 + n - 48 ≡ n = omega arith in
    rw (digit_is n h, e)

-- the digits of n, read after none, say n; by a bound on n
read_small : (n : ℕ) (rest : List ℕ) → n < 10 → read_digits 0 (natural n ++ rest) ≡ read_digits n rest
read_small n rest l = let e : 10 * 0 + n ≡ n = omega arith in rw (natural_small n l) (read_digit 0 n rest l ∙ rw e refl)

read_to : (bound n : ℕ) → n ≤ bound → (rest : List ℕ) → read_digits 0 (natural n ++ rest) ≡ read_digits n rest
read_to zero n h rest = read_small n rest (omega arith)
read_to (suc bound) n h rest = go (dec_lt n 10) (read_to bound (n / 10) (omega arith) (digit (n % 10) ∷ rest))
  where
    go : Dec (n < 10) → read_digits 0 (natural (n / 10) ++ (digit (n % 10) ∷ rest)) ≡ read_digits (n / 10) (digit (n % 10) ∷ rest) → read_digits 0 (natural n ++ rest) ≡ read_digits n rest
    go (yes l) i = read_small n rest l
    go (no l) i =
        let e : 10 * (n / 10) + n % 10 ≡ n = omega arith in
        rw (natural_more n (omega arith), append_assoc (natural (n / 10)) (digit (n % 10) ∷ []) rest)
        (i ∙ read_digit (n / 10) (n % 10) rest (omega arith) ∙ rw e refl)

-- and a byte that is no digit ends them
pub read_natural_lem : (n b : ℕ) (rest : List ℕ) → is_digit b ≡ false → read_natural (natural n ++ (b ∷ rest)) ≡ record { value = n; rest = b ∷ rest }
unfolding read_digits
read_natural_lem n b rest h = read_to n n (omega arith) (b ∷ rest) ∙ rw h refl

-- ---- a field
join : (n b : ℕ) (rest : List ℕ) → field b n ++ rest ≡ natural n ++ (b ∷ rest)
unfolding field
join n b rest = append_assoc (natural n) (b ∷ []) rest

pub read_field_lem : (n b : ℕ) (rest : List ℕ) → is_digit b ≡ false → read_field (field b n ++ rest) ≡ record { value = n; rest = rest }
unfolding read_field
read_field_lem n b rest h =
    ap (λ (l : List ℕ). read_field l) (join n b rest)
    ∙ ap (λ (r : Read ℕ). record { value = r.value; rest = drop 1 r.rest }) (read_natural_lem n b rest h)

-- ---- a whole number: its first byte is a minus sign exactly where it is below zero
first_digit : (bound n : ℕ) → n ≤ bound → (rest : List ℕ) → (d : ℕ) × (tail : List ℕ) × (natural n ++ rest ≡ d ∷ tail) × (eqb d minus ≡ false)
first_digit zero n h rest = (digit n, rest, rw (natural_small n (omega arith)) refl, ne_eqb (digit n) minus (λ e. omega arith))
first_digit (suc bound) n h rest = go (dec_lt n 10) (first_digit bound (n / 10) (omega arith) (digit (n % 10) ∷ rest))
  where
    go : Dec (n < 10) → (d : ℕ) × (tail : List ℕ) × (natural (n / 10) ++ (digit (n % 10) ∷ rest) ≡ d ∷ tail) × (eqb d minus ≡ false) → (d : ℕ) × (tail : List ℕ) × (natural n ++ rest ≡ d ∷ tail) × (eqb d minus ≡ false)
    go (yes l) i = (digit n, rest, rw (natural_small n l) refl, ne_eqb (digit n) minus (λ e. omega arith))
    go (no l) i = (i.0, i.1, rw (natural_more n (omega arith), append_assoc (natural (n / 10)) (digit (n % 10) ∷ []) rest) i.2, i.3)

pub read_whole_lem : (z : ℤ) (b : ℕ) (rest : List ℕ) → is_digit b ≡ false → read_whole (whole z ++ (b ∷ rest)) ≡ record { value = z; rest = b ∷ rest }
unfolding read_whole whole
read_whole_lem (pos n) b rest h =
    let f = first_digit n n (omega arith) (b ∷ rest) in
    let r = read_natural_lem n b rest h in
    let r' : read_natural (f.0 ∷ f.1) ≡ record { value = n; rest = b ∷ rest } = ap read_natural (sym f.2) ∙ r in
    ap read_whole f.2 ∙ rw f.3 (ap (λ (q : Read ℕ). record { value = pos q.value; rest = q.rest }) r')
read_whole_lem (negsuc n) b rest h = ap (λ (q : Read ℕ). record { value = neg_ℤ (pos q.value); rest = q.rest }) (read_natural_lem (suc n) b rest h)

-- ---- lines
pub read_line_lem : (l : Line) (rest : List ℕ) → read_line (line_text l ++ rest) ≡ record { value = l; rest = rest }
unfolding read_line line_text
read_line_lem l rest =
    let a : List ℕ = field space l.column ++ (whole l.count ++ (newline ∷ [])) in
    let b : List ℕ = whole l.count ++ (newline ∷ []) in
    let e0 : (field space l.row ++ a) ++ rest ≡ field space l.row ++ (a ++ rest) = append_assoc (field space l.row) a rest in
    let e1 : a ++ rest ≡ field space l.column ++ (b ++ rest) = append_assoc (field space l.column) b rest in
    let e2 : b ++ rest ≡ whole l.count ++ (newline ∷ rest) = append_assoc (whole l.count) (newline ∷ []) rest in
    let r0 = read_field_lem l.row space (a ++ rest) refl in
    let r1 = read_field_lem l.column space (b ++ rest) refl in
    let r2 = read_whole_lem l.count newline rest refl in
    rw (e0, r0, e1, r1, e2, r2) refl

pub read_lines_lem : (ls : List Line) → read_lines (length ls) (lines_text ls) ≡ ls
unfolding read_lines lines_text
read_lines_lem [] = refl
read_lines_lem (l ∷ ls) = rw (read_line_lem l (lines_text ls)) (ap (λ (k : List Line). l ∷ k) (read_lines_lem ls))

-- ---- the whole text
pub read_text_lem : (n : ℕ) (ls : List Line) → read_text (text_of n ls) ≡ record { size = n; lines = ls }
unfolding read_text text_of size_line
read_text_lem n ls =
    let k : ℕ = length ls in
    let t : List ℕ = lines_text ls in
    let a : List ℕ = field space n ++ field newline k in
    let e0 : (field space n ++ a) ++ t ≡ field space n ++ (a ++ t) = append_assoc (field space n) a t in
    let e1 : a ++ t ≡ field space n ++ (field newline k ++ t) = append_assoc (field space n) (field newline k) t in
    let r0 = read_field_lem n space (a ++ t) refl in
    let r1 = read_field_lem n space (field newline k ++ t) refl in
    let r2 = read_field_lem k newline t refl in
    rw (drop-append_seam header ((field space n ++ a) ++ t), e0, r0, e1, r1, r2, read_lines_lem ls) refl

-- a text determines its size and every line
pub text_determines : (n n' : ℕ) (ls ls' : List Line) → text_of n ls ≡ text_of n' ls' → (n ≡ n') × (ls ≡ ls')
text_determines n n' ls ls' e =
    let m : ◌≡◌ {A = Matrix} (record { size = n; lines = ls }) (record { size = n'; lines = ls' }) = sym (read_text_lem n ls) ∙ ap read_text e ∙ read_text_lem n' ls' in
    (ap (λ (x : Matrix). x.size) m, ap (λ (x : Matrix). x.lines) m)
