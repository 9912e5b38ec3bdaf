-- SPDX-FileCopyrightText: 2026 The PPVM Authors
-- SPDX-License-Identifier: Apache-2.0

-- Of accepted items what is read is what is taken, and an accepted operator has 1 to 16 terms; the items of a
-- Hamiltonian laid one by one. Assumes nothing.
use mathlib.Core.Path.{◌≡◌, refl, sym, ap, ap₂, ◌∙◌}
use mathlib.Core.Bool.{Bool, true, false, not, ◌||◌}
use mathlib.Core.List.{List, [], ◌∷◌, map}
use Prim.Native.Nat.{ℕ, zero, suc, ◌+◌, ◌-◌, ◌<◌, ◌≤◌}
use native.Mathlib.Numerals.{add-one}
use native.Mathlib.Omega.{arith}
use borrow.Author.Tests.{eqb-false, ltb-false}
use lib.Dec.{eqb, ltb}
use lib.Ieee.{Float, nan, lt}
use lib.ListN.{get_or, length, take, drop, set, length-set}
use Rattle.refusal.specs.declared.Refusal.{Refusal}
use Rattle.refusal.specs.declared.Refusal.TheVariants.{NegativeRate, EmptyLincomb, NumberOutOfRange, CountAboveLimit}
use Rattle.word.specs.Flat.{lay_word}
use Rattle.notation.specs.Text.{parse}
use Rattle.word.specs.declared.word.Word.{Word}
use Rattle.std.specs.Prelude.{Result, Ok, Err}
use Rattle.number.specs.Floats.{floats, float0, in_range}
use Rattle.gksl.specs.Model.{RealTerm, JumpOver}
use Rattle.gksl.specs.Words.{pauli}
use Rattle.model_build.specs.Given.{GivenReal, GivenTerm, GivenJump, read_parsed, read_real, read_term, read_operator, read_jump, max_terms}
use Rattle.model_build.specs.Built.{parts, real_items}
use Rattle.lent.specs.Read.{Read, got, refused, refuse_if, onward, each}
use Rattle.model.specs.Terms.{Term}
use Rattle.lent.specs.Laid.{laid, total}
use Rattle.model_build.specs.Taken.{word_in, word_taken, real_taken, term_taken, jump_taken, RealsRoom, LaysReals}
use Rattle.model_build.proofs.Parts.{total_turn, part_is, real_turn, real_end}

-- ---- a value was read: no test refused
module _ {A : Type 0} where
  refused_not : (r : Refusal) (a : A) → refused r ≡ got a → ⊥
  refused_not r a e = let z : ◌≡◌ {A = ℕ} 0 1 = cc in omega arith

  pub got_is : (a b : A) → got a ≡ got b → b ≡ a
  got_is a b e = cc

  pub refuse_got : (t : Bool) (r : Refusal) (x : Read A) (a : A) → refuse_if t r x ≡ got a → (t ≡ false) × (x ≡ got a)
  refuse_got true r x a e = absurd (refused_not r a e)
  refuse_got false r x a e = (refl, e)

module _ {A B : Type 0} where
  pub onward_got : (x : Read A) (f : A → Read B) (b : B) → onward x f ≡ got b → (a : A) × (x ≡ got a) × (f a ≡ got b)
  onward_got (got a) f b e = (a, refl, e)
  onward_got (refused r) f b e = absurd (refused_not r b e)

module _ {A B : Type 0} where
  -- what is taken of each item that is read
  pub each_taken : (f : ℕ → A → Read B) (g : A → B) → ((i : ℕ) (a : A) (b : B) → f i a ≡ got b → b ≡ g a)
      → (i : ℕ) (l : List A) (bs : List B) → each f i l ≡ got bs → bs ≡ map g l
  unfolding each
  each_taken f g h i [] bs e = got_is [] bs e
  each_taken f g h i (a ∷ l) bs e =
      let one = onward_got (f i a) (λ (b : B). onward (each f (suc i) l) (λ (cs : List B). got (b ∷ cs))) bs e in
      let all = onward_got (each f (suc i) l) (λ (cs : List B). got (one.0 ∷ cs)) bs one.2 in
      got_is (one.0 ∷ all.0) bs all.2 ∙ ap₂ (λ (b : B) (cs : List B). b ∷ cs) (h i a one.0 one.1) (each_taken f g h (suc i) l all.0 all.1)

  -- item k was read
  pub each_read : (f : ℕ → A → Read B) (i : ℕ) (l : List A) (bs : List B) → each f i l ≡ got bs
      → (k : ℕ) (d : A) → k < length l → (b : B) × (f (i + k) (get_or l k d) ≡ got b)
  unfolding each
  each_read f i [] bs e k d h = absurd (omega arith)
  each_read f i (a ∷ l) bs e zero d h =
      let one = onward_got (f i a) (λ (b : B). onward (each f (suc i) l) (λ (cs : List B). got (b ∷ cs))) bs e in
      let z : i + 0 ≡ i = omega arith in
      (one.0, ap (λ (m : ℕ). f m a) z ∙ one.1)
  each_read f i (a ∷ l) bs e (suc k) d h =
      let one = onward_got (f i a) (λ (b : B). onward (each f (suc i) l) (λ (cs : List B). got (b ∷ cs))) bs e in
      let all = onward_got (each f (suc i) l) (λ (cs : List B). got (one.0 ∷ cs)) bs one.2 in
      let rest = each_read f (suc i) l all.0 all.1 k d (omega arith) in
      let z : i + suc k ≡ suc i + k = omega arith in
      (rest.0, ap (λ (m : ℕ). f m (get_or l k d)) z ∙ rest.1)

-- ---- a word, then a test of numbers
module _ {A : Type 0} where
  word_taken_lem : (p : Result Word Refusal) (t : Bool) (r : Refusal) (make : Word → A) (a : A)
      → onward (read_parsed p) (λ w. refuse_if t r (got (make w))) ≡ got a → a ≡ make (word_in p)
  word_taken_lem (Ok lanes) t r make a e = got_is _ a (refuse_got t r _ a e).1
  word_taken_lem (Err s) t r make a e = absurd (refused_not s a e)

real_taken_lem : (n i : ℕ) (g : GivenReal) (h : RealTerm floats pauli) → read_real n i g ≡ got h → h ≡ real_taken n g
unfolding read_real
real_taken_lem n i g h e =
    word_taken_lem (parse n g.text) (not (in_range g.number)) (NumberOutOfRange i) (λ (w : Word). record { num = g.number; word = w }) h e

term_taken_lem : (n i : ℕ) (g : GivenTerm) (t : Term) → read_term n i g ≡ got t → t ≡ term_taken n g
unfolding read_term
term_taken_lem n i g t e =
    word_taken_lem (parse n g.text) (not (in_range g.number.re) || not (in_range g.number.im)) (NumberOutOfRange i) (λ (w : Word). record { num = g.number; word = w }) t e

-- the items of a Hamiltonian
pub reals_taken : (n i : ℕ) (gs : List GivenReal) (hs : List (RealTerm floats pauli)) → each (read_real n) i gs ≡ got hs → hs ≡ map (real_taken n) gs
reals_taken n i gs hs e = each_taken (read_real n) (real_taken n) (real_taken_lem n) i gs hs e

-- the terms of jump or operator j
pub terms_taken : (n j i : ℕ) (gs : List GivenTerm) (ts : List Term) → each (λ _. read_term n j) i gs ≡ got ts → ts ≡ map (term_taken n) gs
terms_taken n j i gs ts e = each_taken (λ _. read_term n j) (term_taken n) (λ _. term_taken_lem n j) i gs ts e

-- ---- operators and jumps
module _ (n i : ℕ) (gs : List GivenTerm) (op : List Term) (e : read_operator n i gs ≡ got op) where
  pub operator_tested : (eqb (length gs) 0 ≡ false) × (ltb max_terms (length gs) ≡ false) × (each (λ _. read_term n i) 0 gs ≡ got op)
  unfolding read_operator
  operator_tested =
      let some = refuse_got (eqb (length gs) 0) (EmptyLincomb i) _ op e in
      let few = refuse_got (ltb max_terms (length gs)) (CountAboveLimit (length gs)) _ op some.1 in
      (some.0, few.0, few.1)

  pub operator_taken_lem : op ≡ map (term_taken n) gs
  operator_taken_lem = terms_taken n i 0 gs op operator_tested.2

  -- 1 to 16 terms
  pub operator_few : (0 < length gs) × (length gs ≤ 16)
  operator_few =
      let some = eqb-false (length gs) 0 operator_tested.0 in
      let few = ltb-false 16 (length gs) operator_tested.1 in
      (omega (arith, some), few)

module _ (n i : ℕ) (j : GivenJump) (x : JumpOver floats pauli) (e : read_jump n i j ≡ got x) where
  jump_read : (op : List Term) × (read_operator n i j.terms ≡ got op) × (x ≡ record { rate = j.rate; op = op })
  unfolding read_jump
  jump_read =
      let sign = refuse_got (lt j.rate float0) (NegativeRate i) _ x e in
      let range = refuse_got (not (in_range j.rate)) (NumberOutOfRange i) _ x sign.1 in
      let all = onward_got (read_operator n i j.terms) _ x range.1 in
      (all.0, all.1, got_is _ x all.2)

  jump_taken_lem : x ≡ jump_taken n j
  jump_taken_lem =
      jump_read.2 ∙ ap (λ (op : List Term). record { rate = j.rate; op = op }) (operator_taken_lem n i j.terms jump_read.0 jump_read.1)

  jump_few : (0 < length j.terms) × (length j.terms ≤ 16)
  jump_few = operator_few n i j.terms jump_read.0 jump_read.1

module _ (n i : ℕ) (js : List GivenJump) (xs : List (JumpOver floats pauli)) (e : each (read_jump n) i js ≡ got xs) where
  pub jumps_taken : xs ≡ map (jump_taken n) js
  jumps_taken = each_taken (read_jump n) (jump_taken n) (jump_taken_lem n) i js xs e

  -- 1 to 16 terms each
  pub jumps_few : (k : ℕ) (d : GivenJump) → k < length js → (0 < length (get_or js k d).terms) × (length (get_or js k d).terms ≤ 16)
  jumps_few k d h =
      let one = each_read (read_jump n) i js xs e k d h in
      jump_few n (i + k) (get_or js k d) one.0 one.1

-- ---- what is left of a Hamiltonian to be laid at item i, whose texts start at place p
module _ (n : ℕ) (ns l : List ℕ) (xs : List Float) where
  abbrev reals_from : ℕ → ℕ → List (RealTerm floats pauli)
  reals_from i p = map (real_taken n) (real_items (parts (drop i ns) (drop p l)) (drop i xs))

  abbrev words_from : ℕ → ℕ → List Word
  words_from i p = map (λ (h : RealTerm floats pauli). h.word) (reals_from i p)

  abbrev numbers_from : ℕ → ℕ → List Float
  numbers_from i p = map (λ (h : RealTerm floats pauli). h.num) (reals_from i p)

  pub record LayState (lanes₀ : List ℕ) (coeffs₀ : List Float) (lanes : List ℕ) (coeffs : List Float) (i p : ℕ) : Type 0 where
    pub high : i ≤ length ns
    pub texts_left : p + total (drop i ns) ≤ length l
    pub lanes_same : length lanes ≡ length lanes₀
    pub coeffs_same : length coeffs ≡ length coeffs₀
    pub lanes_left : laid lay_word 0 (words_from 0 0) lanes₀ ≡ laid lay_word i (words_from i p) lanes
    pub coeffs_left : laid set 0 (numbers_from 0 0) coeffs₀ ≡ laid set i (numbers_from i p) coeffs

  module _ (lanes₀ : List ℕ) (coeffs₀ : List Float) (room : RealsRoom l ns xs lanes₀ coeffs₀) where
    module _ (lanes : List ℕ) (coeffs : List Float) (i p : ℕ) (s : LayState lanes₀ coeffs₀ lanes coeffs i p) where
      pub lay_next : i < length ns → (w : Word) → w ≡ word_taken n (take (p + get_or ns i 0 - p) (drop p l))
          → (lanes' : List ℕ) → lanes' ≡ lay_word lanes i w → length lanes' ≡ length lanes
          → LayState lanes₀ coeffs₀ lanes' (set coeffs i (get_or xs i nan)) (i + 1) (p + get_or ns i 0)
      unfolding laid
      lay_next h w is lanes' el hl =
          let k : ℕ = get_or ns i 0 in
          let turn = real_turn ns l xs i p h (omega (arith, room.numbers_each)) in
          let word-is : word_taken n (take k (drop p l)) ≡ w = sym (is ∙ ap (λ (t : List ℕ). word_taken n t) (part_is l p k (p + k) refl)) in
          record {
            high = omega arith;
            texts_left = omega (arith, s.texts_left, total_turn ns i h);
            lanes_same = hl ∙ s.lanes_same;
            coeffs_same = length-set coeffs i (get_or xs i nan) ∙ s.coeffs_same;
            lanes_left =
                s.lanes_left
                ∙ ap (λ (gs : List GivenReal). laid lay_word i (map (λ (h : RealTerm floats pauli). h.word) (map (real_taken n) gs)) lanes) turn
                ∙ ap₂ (λ (m : ℕ) (t : List ℕ). laid lay_word m (words_from (i + 1) (p + k)) t) (sym (add-one i)) (ap (λ (v : Word). lay_word lanes i v) word-is ∙ sym el);
            coeffs_left =
                s.coeffs_left
                ∙ ap (λ (gs : List GivenReal). laid set i (map (λ (h : RealTerm floats pauli). h.num) (map (real_taken n) gs)) coeffs) turn
                ∙ ap (λ (m : ℕ). laid set m (numbers_from (i + 1) (p + k)) (set coeffs i (get_or xs i nan))) (sym (add-one i));
          }

      pub lay_done : length ns ≤ i → LaysReals (map (real_taken n) (real_items (parts ns l) xs)) lanes₀ coeffs₀ lanes coeffs
      unfolding laid
      lay_done h =
          let end = real_end ns (drop p l) xs i h in
          record {
            lanes_are = sym (s.lanes_left ∙ ap (λ (gs : List GivenReal). laid lay_word i (map (λ (h : RealTerm floats pauli). h.word) (map (real_taken n) gs)) lanes) end);
            coeffs_are = sym (s.coeffs_left ∙ ap (λ (gs : List GivenReal). laid set i (map (λ (h : RealTerm floats pauli). h.num) (map (real_taken n) gs)) coeffs) end);
          }
