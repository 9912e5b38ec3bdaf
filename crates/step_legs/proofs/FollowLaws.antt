-- SPDX-FileCopyrightText: 2026 The PPVM Authors
-- SPDX-License-Identifier: Apache-2.0

-- What follows a hop: its refusal, nothing, or the evolution. Assumes nothing.
use mathlib.Core.Path.{◌≡◌, refl, sym, ap, subst, ◌∙◌}
use mathlib.Core.Bool.{Bool, true, false, not, false≢true, ◌&&◌}
use mathlib.Core.List.{List}
use Prim.Native.Nat.{ℕ}
use native.Mathlib.Omega.{arith}
use lib.Dec.{eqb}
use lib.Ieee.{Float}
use Rattle.refusal.specs.declared.Refusal.{Refusal}
use Rattle.lent.specs.Read.{Read}
use Rattle.std.specs.Prelude.{Result, Ok, Err}
use Rattle.step_parts.specs.declared.taken.Step.{Step}
use Rattle.step_laws.specs.Steps.{Outcome}
use Rattle.step_parts.specs.Between.{EvolvesTo}
use Rattle.step_legs.specs.Between.{Follows}

pub no_entries : (hopped : Result ℕ Refusal) (q : Refusal) → hopped ≡ Err q → (k : ℕ) → hopped ≡ Ok k → ⊥
no_entries hopped q e k f = let z : ◌≡◌ {A = ℕ} 0 1 = cc in omega arith

same_entries : (hopped : Result ℕ Refusal) (j k : ℕ) → hopped ≡ Ok j → hopped ≡ Ok k → j ≡ k
same_entries hopped j k e f = cc

same_refusal : (hopped : Result ℕ Refusal) (p q : Refusal) → hopped ≡ Err p → hopped ≡ Err q → p ≡ q
same_refusal hopped p q e f = cc

module _ (hopped : Result ℕ Refusal) (always : Bool) (len : ℕ) where
  abbrev all : ℕ → Bool
  all k = not always && eqb k len

  -- a refusal is passed on
  pub follows_turned : (q : Refusal) → hopped ≡ Err q → (evolved : List Float) → Follows hopped always len (Err q) evolved evolved
  follows_turned q e evolved = record {
    turned = λ p f. (ap Err (same_refusal hopped q p e f), refl);
    stays = λ k f t. absurd (no_entries hopped q e k f);
  }

  module _ (j : ℕ) (e : hopped ≡ Ok j) where
    all_same : (k : ℕ) → hopped ≡ Ok k → all j ≡ all k
    all_same k f = ap all (same_entries hopped j k e f)

    -- no word entered, and that is to be all
    pub follows_all : (evolved : List Float) → Follows hopped always len (Ok (record { entries = j; products = 0 })) evolved evolved
    follows_all evolved = record {
      turned = λ q f. absurd (no_entries hopped q f j e);
      stays = λ k f t. (ap (λ (i : ℕ). Ok (record { entries = i; products = 0 })) (same_entries hopped j k e f), refl);
    }

    pub no_more : all j ≡ true → (k : ℕ) → hopped ≡ Ok k → all k ≡ false → ⊥
    no_more a k f b = false≢true (sym b ∙ sym (all_same k f) ∙ a)

    -- an evolution follows, of which nothing is said here
    pub follows_on : all j ≡ false → (r : Result Step Refusal) (evolved evolved' : List Float) → Follows hopped always len r evolved evolved'
    follows_on a r evolved evolved' = record {
      turned = λ q f. absurd (no_entries hopped q f j e);
      stays = λ k f t. absurd (false≢true (sym a ∙ all_same k f ∙ t));
    }

-- the evolution is over the words that stand after the hop
pub evolves_entries : (hopped : Result ℕ Refusal) (j : ℕ) → hopped ≡ Ok j → (plain : ℕ → Read Outcome) (r : Result Step Refusal) (evolved : List Float) → EvolvesTo (plain j) j r evolved → (k : ℕ) → hopped ≡ Ok k → EvolvesTo (plain k) k r evolved
evolves_entries hopped j e plain r evolved h k f = subst (λ (i : ℕ). EvolvesTo (plain i) i r evolved) (same_entries hopped j k e f) h
