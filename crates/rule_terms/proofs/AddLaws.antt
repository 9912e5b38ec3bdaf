-- SPDX-FileCopyrightText: 2026 The PPVM Authors
-- SPDX-License-Identifier: Apache-2.0

-- What a Hamiltonian term and a one-term jump add: nothing, or one term. Assumes nothing.
use mathlib.Core.Path.{◌≡◌, refl, sym, ap, ◌∙◌}
use mathlib.Core.Bool.{Bool, true, false, cond}
use mathlib.Core.List.{List, [], ◌∷◌, append-nil}
use Prim.Native.Nat.{ℕ, zero, suc, ◌%◌, ◌<◌}
use native.Mathlib.Omega.{arith}
use lib.Dec.{eqb}
use lib.Ieee.{Float, binary64, of_bits, eq, mul, neg}
use Rattle.word.specs.Product.{phase, factor, commutator, anti_commute}
use Rattle.word.specs.Product as Words
use Rattle.word.specs.Register.{share}
use Rattle.word.specs.declared.word.Word.{Word}
use Rattle.word.specs.declared.algebra.CommProduct.{CommProduct}
use Rattle.word.proofs.WordLaws.{phase_lt, apart_phase}
use Rattle.number.specs.Numbers.{real_c}
use Rattle.number.specs.Floats.{floats, float0, float2, cx}
use Rattle.number.specs.declared.scalar.Complex.{Complex}
use Rattle.gksl.specs.Rules.{terms_over, clash_over, factored}
use Rattle.gksl.specs.Words.{pauli}
use Rattle.model.specs.Terms.{Term}
use Rattle.model.proofs.TermLaws.{onto_eq}

pub false_true : false ≡ true → ⊥
false_true e = let z : ◌≡◌ {A = ℕ} 0 1 = cc in omega arith

-- ---- a Hamiltonian term
module _ (x : Float) (w : Word) where
  pub factored_none : (n : ℕ) → eq (factor n) float0 ≡ true → factored floats pauli n x w ≡ []
  unfolding factored eq neg of_bits
  factored_none zero e = refl
  factored_none (suc zero) e = absurd (false_true e)
  factored_none (suc (suc zero)) e = refl
  factored_none (suc (suc (suc n))) e = absurd (false_true e)

  pub factored_one : (n : ℕ) → eq (factor n) float0 ≡ false → factored floats pauli n x w ≡ record { num = real_c floats (mul binary64 x (factor n)); word = w } ∷ []
  unfolding factored eq of_bits
  factored_one zero e = absurd (false_true (sym e))
  factored_one (suc zero) e = refl
  factored_one (suc (suc zero)) e = absurd (false_true (sym e))
  factored_one (suc (suc (suc n))) e = refl

module _ (h : Word) (x : Float) (p : Word) where
  abbrev own : List Term
  own = terms_over floats pauli (record { num = x; word = h } ∷ []) p

  phase_own : phase h p % 4 ≡ phase h p
  phase_own = omega (arith, phase_lt h p)

  hamiltonian_apart : share h p ≡ false → own ≡ []
  unfolding terms_over
  hamiltonian_apart e = rw e

  hamiltonian_meets : share h p ≡ true → own ≡ factored floats pauli (phase h p) x (Words.mul h p)
  unfolding terms_over
  hamiltonian_meets e = rw (e, phase_own) (append-nil (factored floats pauli (phase h p) x (Words.mul h p)))

  -- words that commute, and so those that share no qubit
  even_none : (n : ℕ) → n < 4 → eqb (n % 2) 1 ≡ false → eq (factor n) float0 ≡ true
  unfolding eq neg of_bits
  even_none zero l e = refl
  even_none (suc zero) l e = absurd (false_true (sym e))
  even_none (suc (suc zero)) l e = refl
  even_none (suc (suc (suc zero))) l e = absurd (false_true (sym e))
  even_none (suc (suc (suc (suc n)))) l e = absurd (omega arith)

  pub hamiltonian_none : anti_commute h p ≡ false → own ≡ []
  unfolding anti_commute
  hamiltonian_none e = go (share h p) refl
    where
      go : (s : Bool) → share h p ≡ s → own ≡ []
      go false f = hamiltonian_apart f
      go true f = hamiltonian_meets f ∙ factored_none x (Words.mul h p) (phase h p) (even_none (phase h p) (phase_lt h p) e)

  -- those that do not
  odd_one : (n : ℕ) → n < 4 → eqb (n % 2) 1 ≡ true → eq (factor n) float0 ≡ false
  unfolding eq neg of_bits
  odd_one zero l e = absurd (false_true e)
  odd_one (suc zero) l e = refl
  odd_one (suc (suc zero)) l e = absurd (false_true e)
  odd_one (suc (suc (suc zero))) l e = refl
  odd_one (suc (suc (suc (suc n)))) l e = absurd (omega arith)

  pub hamiltonian_one : anti_commute h p ≡ true → own ≡ record { num = real_c floats (mul binary64 x (factor (phase h p))); word = Words.mul h p } ∷ []
  unfolding anti_commute
  hamiltonian_one e = go (share h p) refl
    where
      go : (s : Bool) → share h p ≡ s → own ≡ record { num = real_c floats (mul binary64 x (factor (phase h p))); word = Words.mul h p } ∷ []
      go false f = absurd (false_true (sym (ap (λ (n : ℕ). eqb (n % 2) 1) (apart_phase h p f)) ∙ e))
      go true f = hamiltonian_meets f ∙ factored_one x (Words.mul h p) (phase h p) (odd_one (phase h p) (phase_lt h p) e)

  -- the number that is put for it
  pub hamiltonian_number : (k : CommProduct) (z : Complex) → k ≡ commutator h p → cx z ≡ real_c floats (mul binary64 x k.eps)
      → ◌≡◌ {A = Term} (record { num = cx z; word = k.word }) (record { num = real_c floats (mul binary64 x (factor (phase h p))); word = Words.mul h p })
  hamiltonian_number k z hk hz = onto_eq (hz ∙ ap (λ (c : CommProduct). real_c floats (mul binary64 x c.eps)) hk) (ap (λ (c : CommProduct). c.word) hk)

-- ---- a jump of one real term
module _ (w : Word) (g : Float) (p : Word) where
  abbrev clash : List Term
  clash = cond (share w p) (clash_over floats pauli (phase w p % 2) g p) []

  pub pauli_none : anti_commute w p ≡ false → clash ≡ []
  unfolding anti_commute clash_over
  pauli_none e = go (phase w p % 2) (share w p) (omega arith) e
    where
      go : (n : ℕ) (s : Bool) → n < 2 → eqb n 1 ≡ false → cond s (clash_over floats pauli n g p) [] ≡ []
      go n false h e = refl
      go zero true h e = refl
      go (suc zero) true h e = let z : ◌≡◌ {A = ℕ} 0 1 = cc in absurd (omega arith)
      go (suc (suc n)) true h e = absurd (omega arith)

  pub pauli_one : anti_commute w p ≡ true → clash ≡ record { num = real_c floats (mul binary64 (neg float2) g); word = p } ∷ []
  unfolding anti_commute clash_over
  pauli_one e = go (phase w p % 2) (share w p) (λ s. ap (λ (n : ℕ). n % 2) (apart_phase w p s)) (omega arith) e
    where
      go : (n : ℕ) (s : Bool) → (s ≡ false → n ≡ 0) → n < 2 → eqb n 1 ≡ true
          → cond s (clash_over floats pauli n g p) [] ≡ record { num = real_c floats (mul binary64 (neg float2) g); word = p } ∷ []
      go zero s a h e = let z : ◌≡◌ {A = ℕ} 0 1 = cc in absurd (omega arith)
      go (suc n) false a h e = absurd (omega (arith, a refl))
      go (suc n) true a h e = refl
