-- SPDX-FileCopyrightText: 2026 The PPVM Authors
-- SPDX-License-Identifier: Apache-2.0

-- What was read passes: words of the register, numbers in range, operators of at most 16 terms. Assumes nothing.
use mathlib.Core.Path.{◌≡◌, refl, ap, ◌∙◌, subst⁻¹}
use mathlib.Core.Bool.{true, false, not, ◌||◌}
use mathlib.Core.List.{List, [], ◌∷◌}
use Prim.Native.Nat.{ℕ, suc, ◌≤◌}
use native.Mathlib.Omega.{arith}
use borrow.Author.Tests.{not-false}
use lib.Ieee.{lt}
use lib.ListN.{length, length-map}
use Rattle.refusal.specs.declared.Refusal.TheVariants.{NegativeRate, NumberOutOfRange}
use Rattle.word.specs.Register.{reaches}
use Rattle.notation.specs.Text.{parse}
use Rattle.word.specs.Word.{Sound}
use Rattle.word.specs.declared.word.Word.{Word}
use Rattle.std.specs.Prelude.{Result, Ok, Err}
use Rattle.refusal.specs.declared.Refusal.{Refusal}
use Rattle.notation.proofs.RoundTrips.{text_read}
use Rattle.word.proofs.Sums.{or_left, or_right}
use Rattle.number.specs.Floats.{floats, float0, in_range}
use Rattle.gksl.specs.Model.{RealTerm, JumpOver}
use Rattle.gksl.specs.Words.{pauli}
use Rattle.model_build.specs.Given.{GivenReal, GivenTerm, GivenJump, read_word, read_parsed, read_real, read_term, read_operator, read_jump}
use Rattle.model_build.specs.Taken.{term_taken}
use Rattle.model_build.proofs.TakenLaws.{got_is, refuse_got, onward_got, terms_taken, operator_tested, operator_few}
use Rattle.lent.specs.Every.{Every}
use Rattle.lent.specs.Read.{Read, got, onward, each}
use Rattle.model.specs.Terms.{Term}
use Rattle.model.specs.Stands.{InRange, GoodReal}
use Rattle.model_laws.proofs.WordsBelow.{none_reaches}

-- a word of n qubits, as it is stored
pub record Inside (n : ℕ) (w : Word) : Type 0 where
  pub sound : Sound w
  pub below : reaches w n ≡ false

-- a given term
pub record GivenGood (n : ℕ) (z : Term) : Type 0 where
  pub word : Inside n z.word
  pub number : InRange z.num

-- a given jump
pub record JumpGood (n : ℕ) (j : JumpOver floats pauli) : Type 0 where
  pub rate : in_range j.rate ≡ true
  pub few : length j.op ≤ 16
  pub terms : Every (GivenGood n) j.op

pub word_read : (n : ℕ) (text : List ℕ) (w : Word) → read_word n text ≡ got w → Inside n w
word_read n text w e = go (parse n text) refl e
  where
    go : (p : Result Word Refusal) → parse n text ≡ p → read_parsed p ≡ got w → Inside n w
    go (Ok lanes) f g =
        let r = text_read n text lanes f in
        subst⁻¹ (Inside n) (got_is lanes w g) (record { sound = r.sound; below = none_reaches lanes n (λ q _ k. r.above q k) })
    go (Err s) f g = let z : ◌≡◌ {A = ℕ} 0 1 = cc in absurd (omega arith)

pub real_read : (n i : ℕ) (g : GivenReal) (h : RealTerm floats pauli) → read_real n i g ≡ got h → Sound h.word × GoodReal n h.word h.num
unfolding read_real
real_read n i g h e =
    let o = onward_got (read_word n g.text) _ h e in
    let r = refuse_got (not (in_range g.number)) (NumberOutOfRange i) _ h o.2 in
    let w = word_read n g.text o.0 o.1 in
    subst⁻¹ (λ (h : RealTerm floats pauli). Sound h.word × GoodReal n h.word h.num) (got_is (record { num = g.number; word = o.0 }) h r.1)
    (w.sound, record { below = w.below; range = not-false _ r.0 })

pub term_read : (n i : ℕ) (g : GivenTerm) (z : Term) → read_term n i g ≡ got z → GivenGood n z
unfolding read_term
term_read n i g z e =
    let o = onward_got (read_word n g.text) _ z e in
    let r = refuse_got (not (in_range g.number.re) || not (in_range g.number.im)) (NumberOutOfRange i) _ z o.2 in
    subst⁻¹ (GivenGood n) (got_is (record { num = g.number; word = o.0 }) z r.1)
    (record {
      word = word_read n g.text o.0 o.1;
      number = record { re = not-false _ (or_left _ _ r.0); im = not-false _ (or_right (not (in_range g.number.re)) _ r.0) };
    })

module _ {A B : Type 0} (P : B → Type 0) (f : ℕ → A → Read B) (one : (i : ℕ) (a : A) (b : B) → f i a ≡ got b → P b) where
  pub each_every : (i : ℕ) (l : List A) (bs : List B) → each f i l ≡ got bs → Every P bs
  unfolding each
  each_every i [] bs e = subst⁻¹ (Every P) (got_is [] bs e) tt
  each_every i (a ∷ l) bs e =
      let o = onward_got (f i a) (λ (b : B). onward (each f (suc i) l) (λ (cs : List B). got (b ∷ cs))) bs e in
      let r = onward_got (each f (suc i) l) (λ (cs : List B). got (o.0 ∷ cs)) bs o.2 in
      subst⁻¹ (Every P) (got_is (o.0 ∷ r.0) bs r.2) (one i a o.0 o.1, each_every (suc i) l r.0 r.1)

pub operator_read : (n i : ℕ) (gs : List GivenTerm) (op : List Term) → read_operator n i gs ≡ got op → (length op ≤ 16) × Every (GivenGood n) op
operator_read n i gs op e =
    let all = (operator_tested n i gs op e).2 in
    let many : length op ≡ length gs = ap length (terms_taken n i 0 gs op all) ∙ length-map gs (term_taken n) in
    (omega (arith, many, (operator_few n i gs op e).1), each_every (GivenGood n) (λ _. read_term n i) (λ _ a b h. term_read n i a b h) 0 gs op all)

pub jump_read : (n i : ℕ) (j : GivenJump) (x : JumpOver floats pauli) → read_jump n i j ≡ got x → JumpGood n x
unfolding read_jump
jump_read n i j x e =
    let sign = refuse_got (lt j.rate float0) (NegativeRate i) _ x e in
    let range = refuse_got (not (in_range j.rate)) (NumberOutOfRange i) _ x sign.1 in
    let all = onward_got (read_operator n i j.terms) _ x range.1 in
    let op = operator_read n i j.terms all.0 all.1 in
    subst⁻¹ (JumpGood n) (got_is (record { rate = j.rate; op = all.0 }) x all.2) (record { rate = not-false _ range.0; few = op.0; terms = op.1 })
