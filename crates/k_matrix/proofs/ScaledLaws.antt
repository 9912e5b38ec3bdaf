-- SPDX-FileCopyrightText: 2026 The PPVM Authors
-- SPDX-License-Identifier: Apache-2.0

-- K × the sums that thinning leaves, laid one after another in the terms table.
use mathlib.Core.Path.{◌≡◌, refl, ap, ◌∙◌, subst, subst⁻¹}
use mathlib.Core.List.{List, [], ◌∷◌, ◌++◌, map, map-append}
use Prim.Native.Nat.{ℕ, ◌+◌, ◌*◌, ◌≤◌, ◌<◌}
use native.Mathlib.Omega.{arith}
use lib.Ieee.{Float}
use lib.ListN.{length, length-append, length-map}
use Rattle.word.specs.Flat.{lay_word, word_lanes}
use Rattle.number.specs.Numbers.{Cx, mul_c, square}
use Rattle.number.specs.Floats.{floats, cx}
use Rattle.number.specs.declared.scalar.Complex.{Complex}
use Rattle.gksl.specs.Table.{without_over}
use Rattle.sums.specs.Numbers.{lay_number}
use Rattle.sums.specs.Sums.{sum_rows}
use mathlib.Core.Bool.{true, false}
use Rattle.model.specs.Terms.{Term, term_at}
use Rattle.model_build.specs.Thinned.{thinned, LaysTerms, KeepRoom, Keeps}
use Rattle.model.specs.declared.term.Term as Held
use Rattle.model_build.proofs.StoreLaws.{lays_none, lays_one, lays_append, thinned_drops, thinned_keeps, thinned_fewer}
use Rattle.k_matrix.specs.Pairs.{scaled}
use Rattle.model.specs.Between.{onto}

-- a thinned term after K, laid
pub scaled_lays : (k : Cx floats) (t : Held.Term) (n : Complex) (at : ℕ) (lanes lanes' : List ℕ) (numbers numbers' : List Float) → cx n ≡ mul_c floats k (cx t.number)
    → lanes' ≡ lay_word lanes at t.word → numbers' ≡ lay_number numbers at (cx n) → LaysTerms (scaled k (onto t) ∷ []) at lanes numbers lanes' numbers'
unfolding scaled
scaled_lays k t n at lanes lanes' numbers numbers' h p q = lays_one (scaled k (onto t)) at lanes lanes' numbers numbers' p (q ∙ ap (lay_number numbers at) h)

-- ---- K × the sums that thinning leaves, laid one after another
pub record ScaledState (k : Cx floats) (len at : ℕ) (lanes : List ℕ) (numbers : List Float) (tLanes₀ : List ℕ) (tNumbers₀ : List Float) (tLanes : List ℕ) (tNumbers : List Float) (place i : ℕ) : Type 0 where
  pub high : i ≤ len
  pub lanes_same : length tLanes ≡ length tLanes₀
  pub numbers_same : length tNumbers ≡ length tNumbers₀
  pub keeps : Keeps (map (scaled k) (thinned (sum_rows i lanes numbers))) at tLanes₀ tNumbers₀ place tLanes tNumbers

module _ (k : Cx floats) (len at : ℕ) (lanes : List ℕ) (numbers : List Float) (tLanes₀ : List ℕ) (tNumbers₀ : List Float) (room : KeepRoom len lanes numbers at tLanes₀ tNumbers₀) where
  pub scaled_start : ScaledState k len at lanes numbers tLanes₀ tNumbers₀ tLanes₀ tNumbers₀ at 0
  unfolding without_over
  scaled_start = record { high = omega arith; lanes_same = refl; numbers_same = refl; keeps = record { end = omega arith; lays = lays_none at tLanes₀ tNumbers₀ } }

  module _ (tLanes : List ℕ) (tNumbers : List Float) (place i : ℕ) (s : ScaledState k len at lanes numbers tLanes₀ tNumbers₀ tLanes tNumbers place i) (h : i < len) (t : Term) (e : t ≡ term_at lanes numbers i) where
    abbrev kept : ℕ → List Term
    kept m = thinned (sum_rows m lanes numbers)

    pub scaled_drops : floats.small (square floats t.num) ≡ true → ScaledState k len at lanes numbers tLanes₀ tNumbers₀ tLanes tNumbers place (i + 1)
    scaled_drops f =
        let d = thinned_drops lanes numbers i (omega (arith, room.lanes_long)) (omega (arith, room.numbers_long)) t e f in
        record {
          high = omega arith;
          lanes_same = s.lanes_same;
          numbers_same = s.numbers_same;
          keeps = subst⁻¹ (λ (T : List Term). Keeps (map (scaled k) T) at tLanes₀ tNumbers₀ place tLanes tNumbers) d s.keeps;
        }

    module _ (f : floats.small (square floats t.num) ≡ false) where
      one_more : kept (i + 1) ≡ kept i ++ (t ∷ [])
      one_more = thinned_keeps lanes numbers i (omega (arith, room.lanes_long)) (omega (arith, room.numbers_long)) t e f

      -- there is a place for it
      pub scaled_room : (word_lanes * place + word_lanes ≤ length tLanes) × (2 * place + 2 ≤ length tNumbers)
      scaled_room =
          let g = thinned_fewer (i + 1) len lanes numbers (omega arith) in
          let n = ap length one_more ∙ length-append (kept i) (t ∷ []) in
          let m = length-map (kept i) (scaled k) in
          (omega (arith, s.lanes_same, room.lanes_room, s.keeps.end), omega (arith, s.numbers_same, room.numbers_room, s.keeps.end))

      pub scaled_keeps : (tLanes' : List ℕ) (tNumbers' : List Float) → LaysTerms (scaled k t ∷ []) place tLanes tNumbers tLanes' tNumbers'
          → length tLanes' ≡ length tLanes → length tNumbers' ≡ length tNumbers → ScaledState k len at lanes numbers tLanes₀ tNumbers₀ tLanes' tNumbers' (place + 1) (i + 1)
      scaled_keeps tLanes' tNumbers' g hl hn =
          let T : List Term = map (scaled k) (kept i) in
          let n = length-append T (scaled k t ∷ []) in
          record {
            high = omega arith;
            lanes_same = hl ∙ s.lanes_same;
            numbers_same = hn ∙ s.numbers_same;
            keeps = subst⁻¹ (λ (U : List Term). Keeps U at tLanes₀ tNumbers₀ (place + 1) tLanes' tNumbers') (ap (map (scaled k)) one_more ∙ map-append (scaled k) (kept i) (t ∷ []))
                (record {
                  end = omega (arith, s.keeps.end, n);
                  lays = lays_append T (scaled k t ∷ []) at place tLanes₀ tLanes tLanes' tNumbers₀ tNumbers tNumbers' s.keeps.end s.keeps.lays g;
                });
          }

  pub scaled_done : (tLanes : List ℕ) (tNumbers : List Float) (place i : ℕ) → ScaledState k len at lanes numbers tLanes₀ tNumbers₀ tLanes tNumbers place i → len ≤ i
      → Keeps (map (scaled k) (thinned (sum_rows len lanes numbers))) at tLanes₀ tNumbers₀ place tLanes tNumbers
  scaled_done tLanes tNumbers place i s h =
      let e : i ≡ len = omega (arith, s.high) in
      subst (λ (m : ℕ). Keeps (map (scaled k) (thinned (sum_rows m lanes numbers))) at tLanes₀ tNumbers₀ place tLanes tNumbers) e s.keeps
