-- SPDX-FileCopyrightText: 2026 The PPVM Authors
-- SPDX-License-Identifier: Apache-2.0

-- What an item answers, by its tests in their order: the text before the number, the rate before the operator. Assumes nothing.
use mathlib.Core.Path.{◌≡◌, refl, sym, ◌∙◌}
use mathlib.Core.Bool.{Bool, true, false, not}
use mathlib.Core.List.{List}
use Prim.Native.Nat.{ℕ, ◌*◌, ◌<◌, ◌≤◌}
use borrow.Author.Tests.{lt-ltb, le-ltb, eq-eqb, ne_eqb}
use lib.Ieee.{Float, lt}
use lib.ListN.{length}
use Rattle.refusal.specs.declared.Refusal.{Refusal}
use Rattle.refusal.specs.declared.Refusal.TheVariants.{NegativeRate, EmptyLincomb, NumberOutOfRange, CountAboveLimit}
use Rattle.std.specs.Prelude.{Result, Ok, Err}
use Rattle.word.specs.declared.word.Word.{Word}
use Rattle.refusal.specs.Cause.{Answer}
use Rattle.notation.specs.Text.{parse}
use Rattle.number.specs.Floats.{float0, in_range}
use Rattle.model_build.specs.Given.{GivenReal, GivenTerm, GivenJump, read_real, read_term, read_operator, read_jump}
use Rattle.model_build.specs.Built.{parts, term_items}
use Rattle.sums.specs.Numbers.{complexes}
use Rattle.model_build.specs.Items.{answer_of, read_terms}
use Rattle.model_build.proofs.Parts.{length_parts, length_complexes, length_terms}
use Rattle.lent.specs.Read.{Read, got, refused, onward}

-- ---- an item of a Hamiltonian, whose text was read
module _ (n i : ℕ) (g : GivenReal) (p : Result Word Refusal) (is : p ≡ parse n g.text) where
  pub real_text : (r : Refusal) → p ≡ Err r → Err r ≡ answer_of (read_real n i g)
  unfolding read_real
  real_text r h = rw (← is, h)

  module _ (l : Word) (h : p ≡ Ok l) (x : Bool) (ranged : x ≡ in_range g.number) where
    pub real_number : not x ≡ true → Err (NumberOutOfRange i) ≡ answer_of (read_real n i g)
    unfolding read_real
    real_number t = rw (← is, h, ← ranged, t)

    pub real_accepted : not x ≡ false → (Ok tt) ≡ answer_of (read_real n i g)
    unfolding read_real
    real_accepted f = rw (← is, h, ← ranged, f)

-- ---- a term, whose text was read
module _ (n i : ℕ) (g : GivenTerm) (p : Result Word Refusal) (is : p ≡ parse n g.text) where
  pub term_text : (r : Refusal) → p ≡ Err r → Err r ≡ answer_of (read_term n i g)
  unfolding read_term
  term_text r h = rw (← is, h)

  module _ (l : Word) (h : p ≡ Ok l) (x : Bool) (rangedRe : x ≡ in_range g.number.re) where
    pub term_re : not x ≡ true → Err (NumberOutOfRange i) ≡ answer_of (read_term n i g)
    unfolding read_term
    term_re t = rw (← is, h, ← rangedRe, t)

    module _ (f : not x ≡ false) (y : Bool) (rangedIm : y ≡ in_range g.number.im) where
      pub term_im : not y ≡ true → Err (NumberOutOfRange i) ≡ answer_of (read_term n i g)
      unfolding read_term
      term_im t = rw (← is, h, ← rangedRe, f, ← rangedIm, t)

      pub term_accepted : not y ≡ false → (Ok tt) ≡ answer_of (read_term n i g)
      unfolding read_term
      term_accepted e = rw (← is, h, ← rangedRe, f, ← rangedIm, e)

-- ---- an operator of so many terms
-- a text and two numbers for each
pub terms_count : (ns l : List ℕ) (xs : List Float) → length xs ≡ 2 * length ns → length (term_items (parts ns l) (complexes xs)) ≡ length ns
terms_count ns l xs h =
    length_terms (parts ns l) (complexes xs) (length_parts ns l ∙ sym (length_complexes (length ns) xs h)) ∙ length_parts ns l

module _ (n i count : ℕ) (terms : List GivenTerm) (is : length terms ≡ count) where
  pub operator_empty : count ≡ 0 → Err (EmptyLincomb i) ≡ answer_of (read_operator n i terms)
  unfolding read_operator
  operator_empty h = rw (is, eq-eqb count 0 h)

  pub operator_long : (count ≡ 0 → ⊥) → 16 < count → Err (CountAboveLimit count) ≡ answer_of (read_operator n i terms)
  unfolding read_operator
  operator_long h l = rw (is, ne_eqb count 0 h, lt-ltb 16 count l)

  pub operator_terms : (a : Answer) → a ≡ answer_of (read_terms n i terms) → (count ≡ 0 → ⊥) → count ≤ 16 → a ≡ answer_of (read_operator n i terms)
  unfolding read_operator
  operator_terms a e h l = rw (is, ne_eqb count 0 h, le-ltb 16 count l) e

-- ---- a jump
module _ {A B : Type 0} where
  answer_got : (x : Read A) (f : A → B) → answer_of x ≡ answer_of (onward x (λ a. got (f a)))
  answer_got (got a) f = refl
  answer_got (refused r) f = refl

module _ (n i : ℕ) (j : GivenJump) where
  pub jump_negative : lt j.rate float0 ≡ true → Err (NegativeRate i) ≡ answer_of (read_jump n i j)
  unfolding read_jump
  jump_negative h = rw h

  module _ (h : lt j.rate float0 ≡ false) (x : Bool) (ranged : x ≡ in_range j.rate) where
    pub jump_range : not x ≡ true → Err (NumberOutOfRange i) ≡ answer_of (read_jump n i j)
    unfolding read_jump
    jump_range t = rw (h, ← ranged, t)

    pub jump_operator : not x ≡ false → answer_of (read_operator n i j.terms) ≡ answer_of (read_jump n i j)
    unfolding read_jump
    jump_operator f = rw (h, ← ranged, f) (answer_got (read_operator n i j.terms) _)
