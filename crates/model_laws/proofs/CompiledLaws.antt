-- SPDX-FileCopyrightText: 2026 The PPVM Authors
-- SPDX-License-Identifier: Apache-2.0

-- What is stored for jumps passes: their entries, and their terms one after another. Assumes nothing.
use mathlib.Core.Path.{◌≡◌, refl, ap, ◌∙◌, subst, subst⁻¹}
use mathlib.Core.Bool.{Bool, true, false, not}
use mathlib.Core.List.{List, [], ◌∷◌, ◌++◌}
use Prim.Native.Nat.{ℕ, zero, suc, ◌+◌, ◌-◌, ◌≤◌, ◌<◌}
use native.Mathlib.Omega.{arith}
use borrow.Author.Tests.{leb-true, ltb-true, eqb-true, lt-ltb, le-leb}
use lib.Dec.{leb}
use lib.Ieee.{Float, nan}
use lib.ListN.{length, get_or, length-append, get_or-append}
use lib.Seq.{get_or-append-add}
use Rattle.word.specs.Product.{mul}
use Rattle.word.specs.Word.{Sound}
use Rattle.word.specs.declared.word.Word.{Word}
use Rattle.word.proofs.WordLaws.{sound_mul}
use Rattle.number.specs.Floats.{floats}
use Rattle.number.specs.Bounds.{AtMostC}
use Rattle.gksl.specs.Model.{JumpOver}
use Rattle.gksl.specs.Rules.{formed_over}
use Rattle.gksl.specs.Words.{pauli}
use Rattle.model.specs.Stored.{jump_at}
use Rattle.model.specs.Tested.{bad_jump}
use Rattle.model.specs.Terms.{Term}
use Rattle.model.specs.Stands.{InRange, GoodTerm}
use Rattle.model_build.specs.Compiled.{Compiled, compile_jump, pauli_jump, general_jump}
use Rattle.model_build.specs.Built.{entries_from, terms_of, rates_of}
use Rattle.model_build.specs.Work.{is_pauli}
use Rattle.model_build.proofs.OperatorLaws.{pauli_length, compile_pauli, compile_general}
use Rattle.lent.specs.Every.{Every}
use Rattle.lent.proofs.Lists.{every_at, every_weaken, every_append}
use Rattle.model_laws.specs.Extended.{no_term, GoodEntry}
use Rattle.model_laws.proofs.JumpTests.{both, together, fits_more, given_inside}
use Rattle.model_laws.proofs.WordsBelow.{reaches_mul}
use Rattle.model_laws.proofs.FormedBounds.{in_range_at_most_c, at_most_c_bounded, formed_bound, rate_bounded}
use Rattle.model_laws.proofs.ReadItems.{Inside, GivenGood, JumpGood}

-- a term as it is stored
abbrev pub TermGood : ℕ → Term → Type 0
TermGood n z = Sound z.word × GoodTerm n z.word z.num

pub given_term : (n : ℕ) (z : Term) → GivenGood n z → TermGood n z
given_term n z g = (g.word.sound, record { below = g.word.below; bound = at_most_c_bounded (omega arith) (in_range_at_most_c g.number) })

inside_mul : (n : ℕ) (v w : Word) → Inside n v → Inside n w → Inside n (mul v w)
inside_mul n v w p q = record { sound = sound_mul v w; below = reaches_mul v w n p.below q.below }

-- the product of two given operators
pub formed_sizes : (n : ℕ) (A B : List Term) → length A ≤ 16 → length B ≤ 16 → Every (GivenGood n) A → Every (GivenGood n) B
    → Every (λ c. Inside n c.word × AtMostC 410 c.num) (formed_over floats pauli A B)
formed_sizes n A B la lb a b = formed_bound (Inside n) (inside_mul n) A B la lb (numbers A a) (numbers B b)
  where
    numbers : (A : List Term) → Every (GivenGood n) A → Every (λ z. Inside n z.word × AtMostC 200 z.num) A
    numbers A a = every_weaken (GivenGood n) (λ z. Inside n z.word × AtMostC 200 z.num) (λ z g. (g.word, in_range_at_most_c g.number)) A a

formed_good : (n : ℕ) (A B : List Term) → length A ≤ 16 → length B ≤ 16 → Every (GivenGood n) A → Every (GivenGood n) B → Every (TermGood n) (formed_over floats pauli A B)
formed_good n A B la lb a b =
    every_weaken _ (TermGood n) (λ c s. (s.0.sound, record { below = s.0.below; bound = at_most_c_bounded (omega arith) s.1 })) (formed_over floats pauli A B)
    (formed_sizes n A B la lb a b)

-- ---- one jump
-- its entry, for terms that are stored from a place on, and its terms
pub record CompiledGood (n : ℕ) (c : Compiled) : Type 0 where
  pub terms : Every (TermGood n) c.terms
  pub entry : (at : ℕ) → GoodEntry at c.terms (c.numbers at) c.rate

pauli_good : (n : ℕ) (g : Float) (t : Term) → JumpGood n (record { rate = g; op = t ∷ [] }) → CompiledGood n (pauli_jump g t)
unfolding bad_jump jump_at
pauli_good n g t h = record {
  terms = (given_term n t h.terms.0, tt);
  entry = λ at. record {
    eight = refl;
    kind = omega arith;
    fits = ap not (together (lt-ltb at (at + 1) (omega arith)) (rate_bounded g t.num.re h.rate h.terms.0.number.re));
    givens = λ i k. let e = eqb-true at i k in let z : i - at ≡ 0 = omega arith in (omega arith, subst⁻¹ (λ (p : ℕ). InRange (get_or (t ∷ []) p no_term).num) z h.terms.0.number);
  };
}

general_good : (n : ℕ) (g : Float) (op : List Term) → JumpGood n (record { rate = g; op = op }) → CompiledGood n (general_jump g op)
unfolding bad_jump jump_at
general_good n g op h =
    let product : List Term = formed_over floats pauli op op in
    record {
      terms = every_append (TermGood n) op product (every_weaken (GivenGood n) (TermGood n) (given_term n) op h.terms) (formed_good n op op h.few h.few h.terms h.terms);
      entry = λ at.
          let all : ℕ = length (op ++ product) in
          let many : all ≡ length op + length product = length-append op product in
          record {
            eight = refl;
            kind = omega arith;
            fits = ap not
                (together (together (le-leb at (at + length op) (omega arith)) (le-leb (at + length op) (at + all) (omega (arith, many))))
                (together (together (le-leb (at + length op) (at + length op + length product) (omega arith)) (le-leb (at + length op + length product) (at + all) (omega (arith, many))))
                h.rate));
            givens = λ i k.
                let e = both (leb at i) k in
                let low = leb-true at i e.0 in
                let high = ltb-true i (at + length op) e.1 in
                let inside : i - at < length op = omega (arith, low, high) in
                (low, subst⁻¹ (λ (z : Term). InRange z.num) (get_or-append op product no_term (i - at) inside) (every_at (GivenGood n) op (i - at) no_term h.terms inside).number);
          };
    }

pub compiled_good : (n : ℕ) (j : JumpOver floats pauli) → JumpGood n j → CompiledGood n (compile_jump j)
compiled_good n j h = go (is_pauli j.op) refl j.op refl
  where
    go : (b : Bool) → is_pauli j.op ≡ b → (op : List Term) → j.op ≡ op → CompiledGood n (compile_jump j)
    go false e op f = subst⁻¹ (CompiledGood n) (compile_general j.rate j.op e) (general_good n j.rate j.op h)
    go true e [] f = absurd (omega (arith, pauli_length j.op e, ap length f))
    go true e (t ∷ []) f =
        subst⁻¹ (CompiledGood n) (compile_pauli j.rate j.op t f e)
        (pauli_good n j.rate t (subst (λ (op : List Term). JumpGood n (record { rate = j.rate; op = op })) f h))
    go true e (t ∷ u ∷ op) f = absurd (omega (arith, pauli_length j.op e, ap length f))

-- ---- all of them
-- more terms after the own ones, and before them
entry_before : (at : ℕ) (A B : List Term) (e : List ℕ) (g : Float) → GoodEntry at A e g → GoodEntry at (A ++ B) e g
entry_before at A B e g h =
    let many = length-append A B in
    record {
      eight = h.eight;
      kind = h.kind;
      fits = fits_more (jump_at e (g ∷ []) 0) (omega (arith, many)) h.fits;
      givens = λ i k.
          let r = h.givens i k in
          let low = r.0 in
          let high = given_inside (jump_at e (g ∷ []) 0) i h.fits k in
          (low, subst⁻¹ (λ (z : Term). InRange z.num) (get_or-append A B no_term (i - at) (omega arith)) r.1);
    }

entry_after : (at : ℕ) (A B : List Term) (e : List ℕ) (g : Float) → GoodEntry (at + length A) B e g → GoodEntry at (A ++ B) e g
entry_after at A B e g h =
    let many = length-append A B in
    record {
      eight = h.eight;
      kind = h.kind;
      fits = fits_more (jump_at e (g ∷ []) 0) (omega (arith, many)) h.fits;
      givens = λ i k.
          let r = h.givens i k in
          let low = r.0 in
          let p : i - at ≡ length A + (i - (at + length A)) = omega arith in
          (omega arith, subst⁻¹ (λ (z : Term). InRange z.num) (ap (λ (q : ℕ). get_or (A ++ B) q no_term) p ∙ get_or-append-add A B (i - (at + length A)) no_term) r.1);
    }

pub entries_length : (at : ℕ) (cs : List Compiled) → length (entries_from at cs) ≡ length cs
unfolding entries_from
entries_length at [] = refl
entries_length at (c ∷ cs) = ap suc (entries_length (at + length c.terms) cs)

pub terms_every : (P : Term → Type 0) (cs : List Compiled) → Every (λ c. Every P c.terms) cs → Every P (terms_of cs)
unfolding terms_of
terms_every P [] h = tt
terms_every P (c ∷ cs) h = every_append P c.terms (terms_of cs) h.0 (terms_every P cs h.1)

pub terms_good : (n : ℕ) (cs : List Compiled) → Every (CompiledGood n) cs → Every (TermGood n) (terms_of cs)
terms_good n cs h = terms_every (TermGood n) cs (every_weaken (CompiledGood n) _ (λ c g. g.terms) cs h)

pub entries_good : (n at : ℕ) (cs : List Compiled) → Every (CompiledGood n) cs → (j : ℕ) → j < length cs
    → GoodEntry at (terms_of cs) (get_or (entries_from at cs) j []) (get_or (rates_of cs) j nan)
unfolding terms_of entries_from
entries_good n at [] h j l = absurd (omega arith)
entries_good n at (c ∷ cs) h zero l = entry_before at c.terms (terms_of cs) (c.numbers at) c.rate (h.0.entry at)
entries_good n at (c ∷ cs) h (suc j) l =
    entry_after at c.terms (terms_of cs) (get_or (entries_from (at + length c.terms) cs) j []) (get_or (rates_of cs) j nan)
    (entries_good n (at + length c.terms) cs h.1 j (omega arith))
