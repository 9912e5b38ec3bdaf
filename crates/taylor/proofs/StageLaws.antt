-- SPDX-FileCopyrightText: 2026 The PPVM Authors
-- SPDX-License-Identifier: Apache-2.0

-- The terms of a stage and the stages of a time step, turn by turn: what is left to do gives what all of it gives. Assumes nothing.
use mathlib.Core.Path.{◌≡◌, refl, sym, ap, ◌∙◌, subst}
use mathlib.Core.List.{List}
use Prim.Native.Nat.{ℕ, suc, ◌+◌, ◌-◌, ◌≤◌, ◌<◌}
use native.Mathlib.Numerals.{add-one}
use native.Mathlib.Omega.{arith}
use lib.Ieee.{Float}
use lib.ListN.{length, take}
use lib.Seq.{take_all}
use Rattle.taylor.specs.Stages.{Evolution, evolved, added, factor, next_of, terms, stage, stages}
use Rattle.taylor.specs.Between.{AllFinite, Matrix, follows, TermLeaves, StageReady, StageLeaves, StagesLeave}
use Rattle.taylor.proofs.TermLaws.{goes_on, ends}

module _ (offsets columns : List ℕ) (values : List Float) (m s : ℕ) (dt : Float) where
  abbrev terms_of : ℕ → ℕ → List Float → List Float → (List Float → Evolution) → Evolution
  terms_of = terms offsets columns values m s dt

  abbrev stages_of : ℕ → List Float → Evolution
  stages_of = stages offsets columns values m s dt

  -- ---- tables of a stage, of as many places as v has at its start
  pub record Tables (v₀ b product v : List Float) : Type 0 where
    pub matrix : Matrix (length v₀) offsets columns values
    pub b_long : length b ≡ length v₀
    pub product_long : length product ≡ length v₀
    pub v_long : length v ≡ length v₀
    pub v_finite : AllFinite v

  -- ---- terms
  module _ (v₀ : List Float) where
    pub record Going (b product v : List Float) (j : ℕ) : Type 0 where
      pub tables : Tables v₀ b product v
      pub b_finite : AllFinite b
      pub left : (after : List Float → Evolution) → stage offsets columns values m s dt v₀ after ≡ terms_of (m + 1 - j) j b v after

    pub going_start : (b₀ product b : List Float) → StageReady offsets columns values m s b₀ product v₀ → b ≡ take (length b₀) v₀ → Going b product v₀ 1
    unfolding stage
    going_start b₀ product b r e =
        let f : b ≡ v₀ = e ∙ take_all (length b₀) v₀ (omega (arith, r.b_long)) in
        let k : m + 1 - 1 ≡ m = omega arith in
        record {
          tables = record { matrix = r.matrix; b_long = ap length f; product_long = r.product_long; v_long = refl; v_finite = r.finite };
          b_finite = subst AllFinite (sym f) r.finite;
          left = λ after. rw (k, f);
        }

    module _ (b product v : List Float) (j : ℕ) (g : Going b product v j) where
      -- one more term
      module _ (more : j ≤ m) (r : ℕ) (b' v' : List Float) (leaves : TermLeaves offsets columns values (factor dt s j) b v r b' v') where
        next_terms : (after : List Float → Evolution) → stage offsets columns values m s dt v₀ after ≡ follows (length v₀) r (terms_of (m - j) (suc j) (next_of offsets columns values m s dt j b) (added v (next_of offsets columns values m s dt j b)) after)
        unfolding terms next_of
        next_terms after =
            let k : m + 1 - j ≡ suc (m - j) = omega arith in
            let N : List Float = next_of offsets columns values m s dt j b in
            let X : Evolution = terms_of (m - j) (suc j) N (added v N) after in
            g.left after
            ∙ ap (λ (n : ℕ). terms_of n j b v after) k
            ∙ leaves.follow X
            ∙ ap (λ (n : ℕ). follows n r X) g.tables.b_long

        pub going_stop : r < length v₀ → StageLeaves offsets columns values m s dt v₀ r v'
        going_stop h = record {
          follow = λ after. next_terms after ∙ ends (length v₀) r (terms_of (m - j) (suc j) (next_of offsets columns values m s dt j b) (added v (next_of offsets columns values m s dt j b)) after) (after v') h;
          finite = λ k. absurd (omega arith);
        }

        pub going_more : length v₀ ≤ r → (product' : List Float) → length b' ≡ length b → length product' ≡ length product → length v' ≡ length v → Going b' product' v' (j + 1)
        unfolding next_of
        going_more h product' eb ep ev =
            let t = g.tables in
            let z : length b ≤ r = omega (arith, t.b_long) in
            let k : m + 1 - (j + 1) ≡ m - j = omega arith in
            record {
              tables = record { matrix = t.matrix; b_long = eb ∙ t.b_long; product_long = ep ∙ t.product_long; v_long = ev ∙ t.v_long; v_finite = leaves.v_finite z };
              b_finite = leaves.b_finite z;
              left = λ after.
                  next_terms after
                  ∙ goes_on (length v₀) r (terms_of (m - j) (suc j) (next_of offsets columns values m s dt j b) (added v (next_of offsets columns values m s dt j b)) after) h
                  ∙ rw (k, add-one j, leaves.b_is z, leaves.v_is z);
            }

      -- all terms
      pub going_done : m < j → StageLeaves offsets columns values m s dt v₀ (length v₀) v
      unfolding terms
      going_done h =
          let k : m + 1 - j ≡ 0 = omega arith in
          record {
            follow = λ after. g.left after ∙ ap (λ (n : ℕ). terms_of n j b v after) k ∙ sym (goes_on (length v₀) (length v₀) (after v) (omega arith));
            finite = λ _. g.tables.v_finite;
          }

    -- ---- stages
    pub record Running (b product v : List Float) (k : ℕ) : Type 0 where
      pub tables : Tables v₀ b product v
      pub left : stages_of s v₀ ≡ stages_of (s - k) v

    module _ (b product v : List Float) (k : ℕ) (g : Running b product v k) where
      module _ (more : k < s) (r : ℕ) (v' : List Float) (leaves : StageLeaves offsets columns values m s dt v r v') where
        next_stages : stages_of s v₀ ≡ follows (length v₀) r (stages_of (s - suc k) v')
        unfolding stages
        next_stages =
            let e : s - k ≡ suc (s - suc k) = omega arith in
            g.left ∙ ap (λ (n : ℕ). stages_of n v) e ∙ leaves.follow (stages_of (s - suc k)) ∙ ap (λ (n : ℕ). follows n r (stages_of (s - suc k) v')) g.tables.v_long

        pub running_stop : r < length v₀ → StagesLeave offsets columns values m s dt v₀ r v'
        running_stop h = next_stages ∙ ends (length v₀) r (stages_of (s - suc k) v') (evolved v') h

        pub running_more : length v₀ ≤ r → (b' product' : List Float) → length b' ≡ length b → length product' ≡ length product → length v' ≡ length v → Running b' product' v' (k + 1)
        running_more h b' product' eb ep ev =
            let t = g.tables in
            record {
              tables = record { matrix = t.matrix; b_long = eb ∙ t.b_long; product_long = ep ∙ t.product_long; v_long = ev ∙ t.v_long; v_finite = leaves.finite (omega (arith, t.v_long)) };
              left = next_stages ∙ goes_on (length v₀) r (stages_of (s - suc k) v') h ∙ rw (add-one k);
            }

      pub running_done : s ≤ k → StagesLeave offsets columns values m s dt v₀ (length v₀) v
      unfolding stages
      running_done h =
          let e : s - k ≡ 0 = omega arith in
          g.left ∙ ap (λ (n : ℕ). stages_of n v) e ∙ sym (goes_on (length v₀) (length v₀) (evolved v) (omega arith))
