-- SPDX-FileCopyrightText: 2026 The PPVM Authors
-- SPDX-License-Identifier: Apache-2.0

-- Jumps whose terms stand in the terms table add what the rules over the given jumps do. Assumes nothing.
use mathlib.Core.Path.{◌≡◌, refl, ap₂}
use mathlib.Core.Bool.{Bool, true, false, ◌||◌, cond, or-false}
use mathlib.Core.List.{List, [], ◌∷◌, ◌++◌, map}
use Prim.Native.Nat.{ℕ, ◌+◌, ◌%◌}
use lib.Ieee.{Float}
use lib.ListN.{length}
use Rattle.word.specs.Flat.{words}
use Rattle.word.specs.Product.{phase}
use Rattle.word.specs.Register.{share}
use Rattle.word.specs.declared.word.Word.{Word}
use Rattle.number.specs.Floats.{floats}
use Rattle.gksl.specs.Model.{JumpOver}
use Rattle.gksl.specs.Rules.{overlaps_over, formed_over, clash_over, general_over, shape_over, jumps_over}
use Rattle.gksl.specs.Words.{pauli}
use Rattle.sums.specs.Numbers.{complexes}
use Rattle.sums.specs.Sums.{rows}
use Rattle.model.specs.Stored.{ModelTables, jump_at}
use Rattle.model.specs.Terms.{Term}
use Rattle.model_build.specs.Compiled.{Compiled, compile_jump, pauli_jump, general_jump}
use Rattle.model_build.specs.Built.{terms_of}
use Rattle.model.specs.declared.stored.Jump.{Jump}
use Rattle.rule_terms.specs.Adds.{sandwich, dampen, jump_adds, pair_adds, gather_jumps}
use Rattle.action_laws.proofs.LaidTerms.{Holds, holds_left, holds_right, holds_part, holds_word}
use Rattle.action_laws.proofs.ExtendedItems.{jumps_from}

-- the entry of a compiled jump or pair, whose terms stand from a place on
abbrev pub jump_of : Compiled → ℕ → Jump
jump_of c at = jump_at (c.numbers at) (c.rate ∷ []) 0

module _ (p : Word) (t : ModelTables) where
  abbrev R : List Term
  R = rows (words t.t_words) (complexes t.t_numbers)

  general_adds : (g : Float) (op : List Term) (at : ℕ) → Holds R at (general_jump g op).terms
      → jump_adds p t (jump_of (general_jump g op) at) ≡ cond (overlaps_over floats pauli op p) (general_over floats pauli g op p) []
  unfolding jump_at jump_adds sandwich dampen general_over
  general_adds g op at h =
      let product : List Term = formed_over floats pauli op op in
      rw (
        holds_part R at (at + length op) op (holds_left R at op product h) refl,
        holds_part R (at + length op) (at + length op + length product) product (holds_right R at op product h) refl,
      ) refl

  pauli_adds : (g : Float) (c : Term) (at : ℕ) → Holds R at (c ∷ [])
      → jump_adds p t (jump_of (pauli_jump g c) at) ≡ cond (share c.word p || false) (clash_over floats pauli (phase c.word p % 2) (pauli_jump g c).rate p) []
  unfolding jump_at jump_adds
  pauli_adds g c at h = rw (holds_word (words t.t_words) (complexes t.t_numbers) at c h, or-false (share c.word p)) refl

  -- a jump adds what the rule of its shape does, where it shares a qubit with p
  jump_adds_lem : (g : Float) (op : List Term) (at : ℕ) → Holds R at (compile_jump (record { rate = g; op = op })).terms
      → jump_adds p t (jump_of (compile_jump (record { rate = g; op = op })) at) ≡ cond (overlaps_over floats pauli op p) (shape_over floats pauli g op p) []
  unfolding compile_jump overlaps_over shape_over
  jump_adds_lem g [] at h = general_adds g [] at h
  jump_adds_lem g (c ∷ []) at h = go (floats.is_zero c.num.im) h
    where
      go : (b : Bool) → Holds R at (cond b (pauli_jump g c) (general_jump g (c ∷ []))).terms
          → jump_adds p t (jump_of (cond b (pauli_jump g c) (general_jump g (c ∷ []))) at)
          ≡ cond (share c.word p || false) (cond b (clash_over floats pauli (phase c.word p % 2) (pauli_jump g c).rate p) (general_over floats pauli g (c ∷ []) p)) []
      go true h = pauli_adds g c at h
      go false h = general_adds g (c ∷ []) at h
  jump_adds_lem g (c ∷ d ∷ op) at h = general_adds g (c ∷ d ∷ op) at h

  no_pair : (g : Float) (op : List Term) (at : ℕ) → pair_adds p t (jump_of (compile_jump (record { rate = g; op = op })) at) ≡ []
  unfolding compile_jump jump_at pair_adds
  no_pair g [] at = refl
  no_pair g (c ∷ []) at = go (floats.is_zero c.num.im)
    where
      go : (b : Bool) → pair_adds p t (jump_of (cond b (pauli_jump g c) (general_jump g (c ∷ []))) at) ≡ []
      go true = refl
      go false = refl
  no_pair g (c ∷ d ∷ op) at = refl

  -- ---- all of them
  pub jumps_add : (js : List (JumpOver floats pauli)) (at : ℕ) → Holds R at (terms_of (map compile_jump js))
      → gather_jumps (jump_adds p t) (jumps_from at (map compile_jump js)) ≡ jumps_over floats pauli js p
  unfolding terms_of gather_jumps jumps_from jumps_over
  jumps_add [] at h = refl
  jumps_add (j ∷ js) at h =
      let own : List Term = (compile_jump j).terms in
      ap₂ (λ (a b : List Term). a ++ b) (jump_adds_lem j.rate j.op at (holds_left R at own (terms_of (map compile_jump js)) h))
      (jumps_add js (at + length own) (holds_right R at own (terms_of (map compile_jump js)) h))

  pub jumps_no_pairs : (js : List (JumpOver floats pauli)) (at : ℕ) → gather_jumps (pair_adds p t) (jumps_from at (map compile_jump js)) ≡ []
  unfolding gather_jumps jumps_from
  jumps_no_pairs [] at = refl
  jumps_no_pairs (j ∷ js) at = ap₂ (λ (a b : List Term). a ++ b) (no_pair j.rate j.op at) (jumps_no_pairs js (at + length (compile_jump j).terms))
