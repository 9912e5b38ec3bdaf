-- SPDX-FileCopyrightText: 2026 The PPVM Authors
-- SPDX-License-Identifier: Apache-2.0

-- What tables hold passes the tests of a call where the plain lists do. Assumes nothing.
use mathlib.Core.Path.{◌≡◌, refl, sym, ap, ◌∙◌}
use mathlib.Core.Bool.{not}
use mathlib.Core.List.{List, [], ◌∷◌, ◌++◌}
use Prim.Native.Nat.{ℕ, zero, suc, ◌*◌, ◌/◌, ◌≤◌, ◌<◌}
use native.Mathlib.Omega.{arith}
use borrow.Author.Tests.{le-ltb, ltb-false}
use lib.Dec.{ltb}
use lib.Ieee.{Float, nan}
use lib.ListN.{length, get_or, length-append}
use lib.Seq.{get_or-take, length-take-le}
use Rattle.refusal.specs.declared.Refusal.TheVariants.{RepeatedBasisWord}
use Rattle.std.specs.Prelude.{Ok}
use Rattle.refusal.specs.Cause.{Answer}
use Rattle.word.specs.Word.{identity}
use Rattle.word.specs.Flat.{words, flat_lanes, word_lanes}
use Rattle.word.specs.Register.{reaches}
use Rattle.word.specs.declared.word.Word.{Word}
use Rattle.word.proofs.FlatLaws.{words_high, Whole}
use Rattle.number.specs.Floats.{is_finite}
use Rattle.lent.specs.Tests.{first_to, where_any}
use Rattle.lent.specs.Words.{outside_at, inside_to}
use Rattle.lent.specs.Numbers.{not_finite, finite_to}
use Rattle.lent.proofs.Firsts.{first_none, first_inside}
use Rattle.lent.proofs.Passed.{passed}
use Rattle.columns.specs.Repeats.{repeats_at, first_repeat}
use Rattle.generator.specs.Lent.{distinct}
use Rattle.step_laws.specs.Passing.{AreFinite, Inside, Held, GoodProtected}

module _ (lanes : List ℕ) (numbers : List Float) (len : ℕ) (ws : List Word) (cs : List Float) (h : Held lanes numbers len ws cs) where
  pub held_words : length ws ≡ len
  held_words = ap length (sym h.words_are) ∙ length-take-le len (words lanes) (omega (arith, h.lanes_long, words_high lanes))

  pub held_numbers : length cs ≡ len
  held_numbers = ap length (sym h.numbers_are) ∙ length-take-le len numbers h.numbers_long

  pub inside_passes : (n : ℕ) (after : Answer) → Inside n ws → inside_to len lanes n after ≡ after
  unfolding inside_to outside_at
  inside_passes n after f =
      rw (le-ltb (first_to len (outside_at lanes n)) len
      (omega (
        arith,
        first_none len (outside_at lanes n) (λ k l.
            ap (λ (w : Word). reaches w n) (sym (get_or-take len (words lanes) k identity l) ∙ ap (λ (us : List Word). get_or us k identity) h.words_are) ∙ f k (omega (arith, l, held_words))),
      )))

  pub finite_passes : (before : ℕ) (after : Answer) → AreFinite cs → finite_to before len numbers after ≡ after
  unfolding finite_to not_finite
  finite_passes before after f =
      rw (le-ltb (first_to len (not_finite numbers)) len
      (omega (
        arith,
        first_none len (not_finite numbers) (λ k l.
            ap (λ (x : Float). not (is_finite x)) (sym (get_or-take len numbers k nan l) ∙ ap (λ (us : List Float). get_or us k nan) h.numbers_are) ∙ ap not (f k (omega (arith, l, held_numbers)))),
      )))

pub protected_passes : (n : ℕ) (protected : List ℕ) (after : Answer) → GoodProtected n protected → inside_to (length protected / word_lanes) protected n after ≡ after
unfolding inside_to
protected_passes n protected after g =
    rw (le-ltb (first_to (length protected / word_lanes) (outside_at protected n)) (length protected / word_lanes) (omega (arith, first_none (length protected / word_lanes) (outside_at protected n) g.inside)))

-- a table that only a basis with words asks for
pub need_none : (count places have : ℕ) → (0 < count → places ≤ have) → where_any count places ≤ have
unfolding where_any
need_none zero places have h = omega arith
need_none (suc count) places have h = h (omega arith)

-- ---- 12 is not given exactly where the words differ
pub apart_passes : (ws : List Word) → first_repeat ws ≡ length ws → distinct ws ≡ Ok tt
unfolding distinct
apart_passes ws e = rw (le-ltb (first_repeat ws) (length ws) (omega (arith, e)))

pub passes_apart : (ws : List Word) → distinct ws ≡ Ok tt → first_repeat ws ≡ length ws
unfolding distinct first_repeat
passes_apart ws e =
    let p = passed (ltb (first_repeat ws) (length ws)) (RepeatedBasisWord (first_repeat ws)) (Ok tt) e in
    omega (arith, ltb-false (first_repeat ws) (length ws) p.0, first_inside (length ws) (repeats_at ws))

-- ---- the lanes of whole words
pub lanes_count : (ws : List Word) → Whole ws → length (flat_lanes ws) ≡ word_lanes * length ws
unfolding Whole flat_lanes
lanes_count [] h = refl
lanes_count (w ∷ ws) h = omega (arith, length-append (w.x ++ w.z) (flat_lanes ws), length-append w.x w.z, h.0.0, h.0.1, lanes_count ws h.1)
