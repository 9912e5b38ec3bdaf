-- SPDX-FileCopyrightText: 2026 The PPVM Authors
-- SPDX-License-Identifier: Apache-2.0

-- What writing the first entries of three tables answers: 15, 13, or the text. Assumes nothing.
use Rattle.std.proofs.Common.{◌≡◌, ℕ, ◌+◌, ◌<◌, ◌≤◌, Bool, true, false, not, ltb, List, length, take, set, sym, ap, ◌∙◌, add-one, arith, length-take-le, get_or-take, ltb-false, le-ltb, lt-ltb}
use borrow.Author.Tests.{not-true, not-false}
use lib.Ieee.{Float, nan}
use Rattle.refusal.specs.declared.Refusal.TheVariants.{TableFull, WrittenCountTooLarge}
use Rattle.lent.specs.Laid.{laid}
use Rattle.lent.specs.Tests.{first_to}
use Rattle.lent.proofs.Firsts.{first_cong, first_before}
use Rattle.matrix_market.specs.Counts.{too_large}
use Rattle.matrix_market.specs.Text.{text_of}
use Rattle.matrix_market.specs.Writes.{lines_of, large_at, Writing, writes}
use Rattle.matrix_market.specs.Between.{Entries}
use Rattle.std.specs.Prelude.{Ok, Err}

module _ (count n : ℕ) (rows columns : List ℕ) (values : List Float) (text : List ℕ) (a : count ≤ length rows) (b : count ≤ length columns) (d : count ≤ length values) where
  abbrev bytes : List ℕ
  bytes = text_of n (lines_of (take count rows) (take count columns) (take count values))

  abbrev asked : Writing
  asked = writes n (take count rows) (take count columns) (take count values) text

  -- the same first place of the values taken
  first_is : first_to (length (take count values)) (large_at (take count values)) ≡ first_to count (large_at values)
  unfolding large_at
  first_is =
      rw (length-take-le count values d)
      (first_cong count (large_at (take count values)) (large_at values) (λ k h. ap too_large (get_or-take count values k nan h)))

  module _ (first : ℕ) (is : first ≡ first_to count (large_at values)) where
    found : first_to (length (take count values)) (large_at (take count values)) ≡ first
    found = first_is ∙ sym is

    pub too_large_lem : first < count → record { answer = Err (WrittenCountTooLarge (first + 1)); text = text } ≡ asked
    unfolding writes
    too_large_lem h = rw (found, length-take-le count values d, lt-ltb first count h, add-one first)

    module _ (h : count ≤ first) where
      pub entries : Entries count rows columns values
      entries = record { rows_long = a; columns_long = b; values_long = d; small = λ k l. first_before count (large_at values) k (omega (arith, is)) }

      module _ (fits : Bool) (e : fits ≡ not (ltb (length text) (length bytes))) where
        pub no_room : not fits ≡ true → record { answer = Err (TableFull 5 (length text)); text = text } ≡ asked
        unfolding writes
        no_room f =
            let t : ltb (length text) (length bytes) ≡ true = not-false _ (sym e ∙ not-true fits f) in
            rw (found, length-take-le count values d, le-ltb first count h, t)

        pub room : not fits ≡ false → length bytes ≤ length text
        room f = ltb-false (length text) (length bytes) (not-true _ (sym e ∙ not-false fits f))

        pub all_written : not fits ≡ false → (text' : List ℕ) (r : ℕ) → text' ≡ laid set 0 bytes text → r ≡ length bytes → record { answer = Ok r; text = text' } ≡ asked
        unfolding writes
        all_written f text' r p q =
            let t : ltb (length text) (length bytes) ≡ false = not-true _ (sym e ∙ not-false fits f) in
            rw (found, length-take-le count values d, le-ltb first count h, t, p, q)
