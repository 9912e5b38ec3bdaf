-- SPDX-FileCopyrightText: 2026 The PPVM Authors
-- SPDX-License-Identifier: Apache-2.0

-- All that a model adds: the Hamiltonian terms, then the jumps, then the pairs, put to the sums in this order. Assumes nothing.
use mathlib.Core.Path.{◌≡◌, refl}
use mathlib.Core.List.{List, ◌++◌}
use Prim.Native.Nat.{ℕ}
use lib.Ieee.{Float}
use lib.ListN.{length}
use Rattle.word.specs.declared.word.Word.{Word}
use Rattle.number.specs.Floats.{floats}
use Rattle.gksl.specs.Rules.{terms_over}
use Rattle.gksl.specs.Words.{pauli}
use Rattle.std.specs.Prelude.{Option, Some, None}
use Rattle.model.specs.Terms.{Term}
use Rattle.model.specs.Stored.{ModelTables}
use Rattle.model.specs.declared.stored.Model.{Model}
use Rattle.rule_terms.specs.Adds.{reals_in, jumps_in, jump_adds, pair_adds, gather_jumps, rules_stored}
use Rattle.rule_terms.specs.Sums.{SumsRoom, PutsAll}
use Rattle.rule_terms.proofs.PutsLaws.{puts_same, puts_room, puts_full, puts_more}

module _ (m : Model) (t : ModelTables) (p : Word) (room : ℕ) (lanes₀ : List ℕ) (sums₀ : List Float) (s : SumsRoom room 0 lanes₀ sums₀) where
  abbrev A : List Term
  A = terms_over floats pauli (reals_in m t) p

  abbrev B : List Term
  B = gather_jumps (jump_adds p t) (jumps_in m t)

  abbrev C : List Term
  C = gather_jumps (pair_adds p t) (jumps_in m t)

  in_order : A ++ (B ++ C) ≡ rules_stored m t p
  unfolding rules_stored
  in_order = refl

  all_puts : (lanes' : List ℕ) (sums' : List Float) (r : Option ℕ) → PutsAll room 0 (A ++ (B ++ C)) lanes₀ sums₀ lanes' sums' r → PutsAll room 0 (rules_stored m t p) lanes₀ sums₀ lanes' sums' r
  all_puts lanes' sums' r g = puts_same room 0 lanes₀ sums₀ s lanes' sums' (A ++ (B ++ C)) (rules_stored m t p) r in_order g

  -- ---- after the Hamiltonian terms
  module _ (lanes₁ : List ℕ) (sums₁ : List Float) (r₁ : Option ℕ) (g₁ : PutsAll room 0 A lanes₀ sums₀ lanes₁ sums₁ r₁) where
    pub reals_full : r₁ ≡ None → PutsAll room 0 (rules_stored m t p) lanes₀ sums₀ lanes₁ sums₁ None
    reals_full e = all_puts lanes₁ sums₁ None (puts_full room 0 lanes₀ sums₀ s lanes₁ sums₁ A (B ++ C) r₁ g₁ e)

    module _ (k₁ : ℕ) (e₁ : r₁ ≡ Some k₁) (l₁ : length lanes₁ ≡ length lanes₀) (n₁ : length sums₁ ≡ length sums₀) where
      pub reals_room : SumsRoom room k₁ lanes₁ sums₁
      reals_room = puts_room room 0 lanes₀ sums₀ s lanes₁ sums₁ A k₁ r₁ g₁ e₁ l₁ n₁

      pub rest_puts : (lanes' : List ℕ) (sums' : List Float) (r : Option ℕ) → PutsAll room k₁ (B ++ C) lanes₁ sums₁ lanes' sums' r → PutsAll room 0 (rules_stored m t p) lanes₀ sums₀ lanes' sums' r
      rest_puts lanes' sums' r h = all_puts lanes' sums' r (puts_more room 0 lanes₀ sums₀ s lanes₁ sums₁ A (B ++ C) k₁ r₁ g₁ e₁ lanes' sums' r h)

      -- ---- after the jumps
      module _ (lanes₂ : List ℕ) (sums₂ : List Float) (r₂ : Option ℕ) (g₂ : PutsAll room k₁ B lanes₁ sums₁ lanes₂ sums₂ r₂) where
        pub jumps_full : r₂ ≡ None → PutsAll room 0 (rules_stored m t p) lanes₀ sums₀ lanes₂ sums₂ None
        jumps_full e = rest_puts lanes₂ sums₂ None (puts_full room k₁ lanes₁ sums₁ reals_room lanes₂ sums₂ B C r₂ g₂ e)

        module _ (k₂ : ℕ) (e₂ : r₂ ≡ Some k₂) (l₂ : length lanes₂ ≡ length lanes₁) (n₂ : length sums₂ ≡ length sums₁) where
          pub jumps_room : SumsRoom room k₂ lanes₂ sums₂
          jumps_room = puts_room room k₁ lanes₁ sums₁ reals_room lanes₂ sums₂ B k₂ r₂ g₂ e₂ l₂ n₂

          -- ---- after the pairs
          pub pairs_puts : (lanes₃ : List ℕ) (sums₃ : List Float) (r₃ : Option ℕ) → PutsAll room k₂ C lanes₂ sums₂ lanes₃ sums₃ r₃ → PutsAll room 0 (rules_stored m t p) lanes₀ sums₀ lanes₃ sums₃ r₃
          pairs_puts lanes₃ sums₃ r₃ g₃ = rest_puts lanes₃ sums₃ r₃ (puts_more room k₁ lanes₁ sums₁ reals_room lanes₂ sums₂ B C k₂ r₂ g₂ e₂ lanes₃ sums₃ r₃ g₃)
