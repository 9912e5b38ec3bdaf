-- SPDX-FileCopyrightText: 2026 The PPVM Authors
-- SPDX-License-Identifier: Apache-2.0

-- What a general jump adds: whether its terms share a qubit with p, a sandwich, a term of L†L, and all of them. Assumes nothing.
use mathlib.Core.Path.{◌≡◌, refl, sym, ap, ap₂, ◌∙◌}
use mathlib.Core.Bool.{Bool, true, false, cond, ◌||◌}
use mathlib.Core.List.{List, [], ◌∷◌, ◌++◌, map}
use Prim.Native.Nat.{ℕ, zero, suc, ◌+◌, ◌*◌, ◌%◌, ◌≤◌, ◌<◌}
use native.Mathlib.Omega.{arith}
use lib.Dec.{eqb}
use lib.Ieee.{Float, neg}
use lib.ListN.{length, get_or}
use Rattle.word.specs.Flat.{words, word_lanes}
use Rattle.word.specs.Product.{phase, product}
use Rattle.word.specs.Register.{share}
use Rattle.word.specs.Word.{identity}
use Rattle.word.specs.declared.word.Word.{Word}
use Rattle.word.specs.declared.algebra.Phased.{Phased}
use Rattle.word.proofs.WordLaws.{phase_lt}
use Rattle.number.specs.Numbers.{Cx, mul_c, neg_c, real_c}
use Rattle.number.specs.Floats.{floats, float1, cx}
use Rattle.number.specs.declared.scalar.Complex.{Complex}
use Rattle.gksl.specs.Rules.{overlaps_over, pairs_over, gather_over, signed}
use Rattle.gksl.specs.Words.{pauli}
use Rattle.model.specs.Terms.{Term, term_at, terms_in, terms_of}
use Rattle.model.proofs.TermLaws.{onto_eq, terms_none, terms_more}
use Rattle.model.specs.Stored.{ModelTables}
use Rattle.model.specs.declared.stored.Range.{Range}
use Rattle.model.specs.declared.stored.Jump.TheVariants.{General}
use Rattle.rule_terms.specs.Adds.{sandwich, dampen, jump_adds}
use Rattle.rule_terms.specs.Steps.{sandwich_from}
use Rattle.rules_by_scan.proofs.GatherLaws.{terms_parted, map_gathered}

-- ---- sharing a qubit: none of the terms before place i does
overlaps_append : (A B : List Term) (p : Word) → overlaps_over floats pauli (A ++ B) p ≡ overlaps_over floats pauli A p || overlaps_over floats pauli B p
unfolding overlaps_over
overlaps_append [] B p = refl
overlaps_append (t ∷ A) B p = ap (λ (b : Bool). share t.word p || b) (overlaps_append A B p) ∙ sym (or_assoc (share t.word p) (overlaps_over floats pauli A p) (overlaps_over floats pauli B p))
  where
    or_assoc : (a b c : Bool) → (a || b) || c ≡ a || (b || c)
    or_assoc true b c = refl
    or_assoc false b c = refl

overlaps_last : (A : List Term) (t : Term) (p : Word) → overlaps_over floats pauli A p ≡ false → overlaps_over floats pauli (A ++ (t ∷ [])) p ≡ share t.word p
unfolding overlaps_over
overlaps_last A t p e = overlaps_append A (t ∷ []) p ∙ ap (λ (b : Bool). b || (share t.word p || false)) e ∙ or_false (share t.word p)
  where
    or_false : (a : Bool) → a || false ≡ a
    or_false true = refl
    or_false false = refl

pub record NoneBefore (lanes : List ℕ) (range : Range) (p : Word) (i : ℕ) : Type 0 where
  pub low : range.start ≤ i
  pub high : i ≤ range.end
  pub none : (numbers : List Float) → 2 * range.end ≤ length numbers → overlaps_over floats pauli (terms_in lanes numbers range.start i) p ≡ false

module _ (lanes : List ℕ) (range : Range) (p : Word) (order : range.start ≤ range.end) (long : word_lanes * range.end ≤ length lanes) where
  pub none_start : NoneBefore lanes range p range.start
  unfolding overlaps_over
  none_start = record {
    low = omega arith;
    high = order;
    none = λ numbers h. ap (λ (A : List Term). overlaps_over floats pauli A p) (terms_none lanes numbers range.start);
  }

  module _ (i : ℕ) (s : NoneBefore lanes range p i) where
    module _ (k : i < range.end) (w : Word) (e : w ≡ get_or (words lanes) i identity) where
      next : (numbers : List Float) → 2 * range.end ≤ length numbers → overlaps_over floats pauli (terms_in lanes numbers range.start (i + 1)) p ≡ share w p
      next numbers h =
          ap (λ (A : List Term). overlaps_over floats pauli A p) (terms_more lanes numbers range.start i s.low (omega arith) (omega arith))
          ∙ overlaps_last (terms_in lanes numbers range.start i) (term_at lanes numbers i) p (s.none numbers h) ∙ ap (λ (v : Word). share v p) (sym e)

      pub none_next : share w p ≡ false → NoneBefore lanes range p (i + 1)
      none_next f = record {
        low = omega (arith, s.low);
        high = omega arith;
        none = λ numbers h. next numbers h ∙ f;
      }

      pub one_found : share w p ≡ true → (numbers : List Float) → 2 * range.end ≤ length numbers → true ≡ overlaps_over floats pauli (terms_of lanes numbers range) p
      one_found f numbers h =
          let A : List Term = terms_in lanes numbers range.start (i + 1) in
          let B : List Term = terms_in lanes numbers (i + 1) range.end in
          sym (ap (λ (l : List Term). overlaps_over floats pauli l p) (terms_parted lanes numbers range.start (i + 1) range.end (omega (arith, s.low)) (omega arith))
          ∙ overlaps_append A B p ∙ ap (λ (b : Bool). b || overlaps_over floats pauli B p) (next numbers h ∙ f))

-- ---- the sandwiches of a with each of B, by the product of a and p
pub sandwich_row : (a : Term) (p : Word) (l : Phased) (g : Float) (B : List Term) → l ≡ product a.word p → gather_over floats pauli (λ b. sandwich_from l g a b ∷ []) B ≡ map (sandwich p g a) B
unfolding sandwich_from sandwich
sandwich_row a p l g B e = map_gathered (sandwich_from l g a) B ∙ ap (λ (q : Phased). map (sandwich_from q g a) B) e

-- ---- a term of L†L
module _ (f : Float → Cx floats) (w : Word) where
  signed_none : (n : ℕ) → n < 4 → n % 2 ≡ 1 → signed floats pauli n f w ≡ []
  unfolding signed
  signed_none zero h e = absurd (omega arith)
  signed_none (suc zero) h e = refl
  signed_none (suc (suc zero)) h e = absurd (omega arith)
  signed_none (suc (suc (suc n))) h e = refl

  signed_one : (n : ℕ) → n < 4 → (n % 2 ≡ 1 → ⊥) → signed floats pauli n f w ≡ record { num = f (cond (eqb n 0) float1 (neg float1)); word = w } ∷ []
  unfolding signed
  signed_one zero h e = refl
  signed_one (suc zero) h e = absurd (e refl)
  signed_one (suc (suc zero)) h e = refl
  signed_one (suc (suc (suc zero))) h e = absurd (e refl)
  signed_one (suc (suc (suc (suc n)))) h e = absurd (omega arith)

module _ (p : Word) (g : Float) (c : Term) (r : Phased) (e : r ≡ product c.word p) where
  abbrev weight : Float → Cx floats
  weight s = mul_c floats (mul_c floats (neg_c floats c.num) (real_c floats g)) (real_c floats s)

  phase_own : phase c.word p % 4 ≡ r.phase
  phase_own = let h : r.phase ≡ phase c.word p = ap (λ (q : Phased). q.phase) e in omega (arith, phase_lt c.word p)

  phase_small : r.phase < 4
  phase_small = let h : r.phase ≡ phase c.word p = ap (λ (q : Phased). q.phase) e in omega (arith, phase_lt c.word p)

  dampen_is : dampen p g c ≡ signed floats pauli r.phase weight r.word
  unfolding dampen
  dampen_is = ap₂ (λ (n : ℕ) (w : Word). signed floats pauli n weight w) phase_own (ap (λ (q : Phased). q.word) (sym e))

  pub dampen_none : r.phase % 2 ≡ 1 → dampen p g c ≡ []
  dampen_none h = dampen_is ∙ signed_none weight r.word r.phase phase_small h

  pub dampen_one : (r.phase % 2 ≡ 1 → ⊥) → dampen p g c ≡ record { num = weight (cond (eqb r.phase 0) float1 (neg float1)); word = r.word } ∷ []
  dampen_one h = dampen_is ∙ signed_one weight r.word r.phase phase_small h

  pub dampen_number : (s : Float) (n x m y z : Complex) → s ≡ cond (eqb r.phase 0) float1 (neg float1)
      → cx n ≡ neg_c floats c.num → cx x ≡ real_c floats g → cx m ≡ mul_c floats (cx n) (cx x) → cx y ≡ real_c floats s → cx z ≡ mul_c floats (cx m) (cx y)
      → ◌≡◌ {A = Term} (record { num = cx z; word = r.word }) (record { num = weight (cond (eqb r.phase 0) float1 (neg float1)); word = r.word })
  dampen_number s n x m y z hs hn hx hm hy hz = onto_eq (hz ∙ ap₂ (mul_c floats) (hm ∙ ap₂ (mul_c floats) hn hx) (hy ∙ ap (λ (q : Float). real_c floats q) hs)) refl

-- ---- a general jump
module _ (p : Word) (t : ModelTables) (g : Float) (terms prod : Range) (lanes : List ℕ) (numbers : List Float) (ew : t.t_words ≡ lanes) (en : t.t_numbers ≡ numbers) where
  pub general_none : overlaps_over floats pauli (terms_of lanes numbers terms) p ≡ false → jump_adds p t (General g terms prod) ≡ []
  unfolding jump_adds
  general_none e = rw (ew, en, e)

  pub general_all : overlaps_over floats pauli (terms_of lanes numbers terms) p ≡ true
      → jump_adds p t (General g terms prod) ≡ pairs_over floats pauli (sandwich p g) (terms_of lanes numbers terms) (terms_of lanes numbers terms) ++ gather_over floats pauli (dampen p g) (terms_of lanes numbers prod)
  unfolding jump_adds
  general_all e = rw (ew, en, e)
