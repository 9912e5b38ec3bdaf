-- SPDX-FileCopyrightText: 2026 The PPVM Authors
-- SPDX-License-Identifier: Apache-2.0

-- A text that was written is the text of the entries, and no longer than 49 bytes of header, 23 of a size line and 33 of each line, where
-- rows, columns and entries are as few as there may be. So two writings that left the same text had the same entries, rounded. Assumes
-- nothing.
use Rattle.std.proofs.Common.{◌≡◌, ℕ, suc, ◌+◌, ◌*◌, ◌^◌, ◌<◌, ◌≤◌, ltb, List, [], ◌∷◌, ◌++◌, length, take, set, ℤ, pos, negsuc, nat_abs, sym, refl, ◌∙◌, arith, length-append, ltb-false}
use lib.Ieee.{Float}
use Rattle.refusal.specs.declared.Refusal.TheVariants.{TableFull, WrittenCountTooLarge}
use Rattle.std.specs.Prelude.{Ok, Err}
use Rattle.refusal.specs.Cause.{Answer}
use Rattle.refusal.proofs.Told.{refused_not}
use Rattle.lent.specs.Laid.{laid}
use Rattle.lent.specs.Tests.{first_to}
use Rattle.lent.proofs.Passed.{passed}
use Rattle.matrix_market.specs.Text.{Line, space, newline, whole, field, line_text, lines_text, size_line, header, text_of}
use Rattle.matrix_market.specs.Writes.{lines_of, large_at, counts_written, text_room, text_after, writes}
use Rattle.matrix_market.proofs.NaturalLaws.{natural_short}
use Rattle.matrix_market.proofs.LaidLaws.{laid_front}
use Rattle.matrix_market.proofs.LineLaws.{size_long, field_long}
use Rattle.matrix_market.proofs.ReadingLaws.{text_determines}

-- ---- a text that was written
module _ (n : ℕ) (rows columns : List ℕ) (values : List Float) (text : List ℕ) where
  abbrev bytes : List ℕ
  bytes = text_of n (lines_of rows columns values)

  after_text : (a : Answer) (k : ℕ) → (text_after a bytes text).answer ≡ Ok k → (a ≡ Ok tt) × (length bytes ≡ k) × ((text_after a bytes text).text ≡ laid set 0 bytes text)
  after_text (Ok _) k e = (refl, cc, refl)
  after_text (Err q) k e = absurd (refused_not q k e)

  -- the first so many bytes of the table are the text
  pub text_written : (k : ℕ) → (writes n rows columns values text).answer ≡ Ok k → take k (writes n rows columns values text).text ≡ bytes
  unfolding writes
  text_written k e =
      let a = after_text (counts_written values (text_room (length text) (length bytes) (Ok tt))) k e in
      let c = passed (ltb (first_to (length values) (large_at values)) (length values)) (WrittenCountTooLarge (suc (first_to (length values) (large_at values)))) _ a.0 in
      let r = passed (ltb (length text) (length bytes)) (TableFull 5 (length text)) _ c.1 in
      rw (a.2, ← a.1) (laid_front bytes text (ltb-false (length text) (length bytes) r.0))

-- two writings with the same text had the same size and the same lines
pub same_text : (n n' : ℕ) (rs cs rs' cs' : List ℕ) (vs vs' : List Float) (text text' : List ℕ) (k k' : ℕ)
    → (writes n rs cs vs text).answer ≡ Ok k → (writes n' rs' cs' vs' text').answer ≡ Ok k'
    → take k (writes n rs cs vs text).text ≡ take k' (writes n' rs' cs' vs' text').text
    → (n ≡ n') × (lines_of rs cs vs ≡ lines_of rs' cs' vs')
same_text n n' rs cs rs' cs' vs vs' text text' k k' e e' s =
    text_determines n n' (lines_of rs cs vs) (lines_of rs' cs' vs') (sym (text_written n rs cs vs text k e) ∙ s ∙ text_written n' rs' cs' vs' text' k' e')

-- ---- how long it is at most
whole_short : (z : ℤ) → nat_abs z < 2 ^ 62 → length (whole z) ≤ 20
unfolding whole
whole_short (pos n) h = let l = natural_short 18 n (omega arith) in omega (arith, l)
whole_short (negsuc n) h = let l = natural_short 18 (suc n) (omega arith) in omega (arith, l)

-- an entry of at most 65,536 rows and columns, and a count that is not too large
pub line_short : (l : Line) → l.row ≤ 65536 → l.column ≤ 65536 → nat_abs l.count < 2 ^ 62 → length (line_text l) ≤ 33
unfolding line_text
line_short l r c h =
    let a = length-append (field space l.row) (field space l.column ++ (whole l.count ++ (newline ∷ []))) in
    let b = length-append (field space l.column) (whole l.count ++ (newline ∷ [])) in
    let d = length-append (whole l.count) (newline ∷ []) in
    let e = field_long space l.row in
    let f = field_long space l.column in
    let i = natural_short 4 l.row (omega arith) in
    let j = natural_short 4 l.column (omega arith) in
    let k = whole_short l.count h in
    omega (arith, a, b, d, e, f, i, j, k)

-- every line of a list is one
abbrev pub AllShort : List Line → Type 0
AllShort [] = Unit {0}
AllShort (l ∷ ls) = ((l.row ≤ 65536) × (l.column ≤ 65536) × (nat_abs l.count < 2 ^ 62)) × AllShort ls

lines_short : (ls : List Line) → AllShort ls → length (lines_text ls) ≤ 33 * length ls
unfolding lines_text
lines_short [] h = omega arith
lines_short (l ∷ ls) h =
    let a = length-append (line_text l) (lines_text ls) in
    let b = line_short l h.0.0 h.0.1 h.0.2 in
    let c = lines_short ls h.1 in
    omega (arith, a, b, c)

pub text_short : (n : ℕ) (ls : List Line) → n ≤ 65536 → length ls ≤ 4294967296 → AllShort ls → length (text_of n ls) ≤ 72 + 33 * length ls
unfolding text_of header
text_short n ls h k s =
    let a = length-append header (size_line n (length ls) ++ lines_text ls) in
    let b = length-append (size_line n (length ls)) (lines_text ls) in
    let c = size_long n (length ls) in
    let d = natural_short 4 n (omega arith) in
    let e = natural_short 9 (length ls) (omega arith) in
    let f = lines_short ls s in
    omega (arith, a, b, c, d, e, f)
