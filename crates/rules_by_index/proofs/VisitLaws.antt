-- SPDX-FileCopyrightText: 2026 The PPVM Authors
-- SPDX-License-Identifier: Apache-2.0

-- The items at the set bits of a mask taken one after another, each with what is put to the sums for it. Assumes nothing.
use mathlib.Core.Path.{◌≡◌, refl, sym, ap, ◌∙◌, subst}
use mathlib.Core.Bool.{Bool, false}
use mathlib.Core.List.{List, [], ◌∷◌, ◌++◌, append-nil, append_assoc}
use Prim.Native.Nat.{ℕ, ◌<◌}
use native.Mathlib.Omega.{arith}
use lib.Ieee.{Float}
use lib.ListN.{length}
use lib.Seq.{append_snoc}
use Rattle.index.specs.Visit.{flagged, left, Steps, AllBelow}
use Rattle.index.specs.declared.Cursor.{Cursor}
use Rattle.index.proofs.Cursors.{stepped, ended}
use Rattle.index.proofs.Sharing.{step_below}
use Rattle.std.specs.Prelude.{Option, Some, None}
use Rattle.model.specs.Terms.{Term}
use Rattle.rule_terms.specs.Sums.{SumsRoom, PutsAll}
use Rattle.rule_terms.proofs.PutsLaws.{puts_nothing, puts_same, puts_room, puts_full, puts_more}
use Rattle.rules_by_scan.proofs.ItemLaws.{each}

each_append : (g : ℕ → List Term) (A B : List ℕ) → each g (A ++ B) ≡ each g A ++ each g B
unfolding each
each_append g [] B = refl
each_append g (k ∷ A) B = ap (λ (l : List Term). g k ++ l) (each_append g A B) ∙ sym (append_assoc (g k) (each g A) (each g B))

each_last : (g : ℕ → List Term) (A : List ℕ) (j : ℕ) → each g (A ++ (j ∷ [])) ≡ each g A ++ g j
unfolding each
each_last g A j = each_append g A (j ∷ []) ∙ ap (λ (l : List Term). each g A ++ l) (append-nil (g j))

-- ---- some of the visits are put, and the cursor leaves the others
pub record VisitState (g : ℕ → List Term) (all room len row : ℕ) (mask : List ℕ) (lanes₀ : List ℕ) (sums₀ : List Float) (lanes' : List ℕ) (sums' : List Float) (count : ℕ) (c : Cursor) : Type 0 where
  pub done : List ℕ
  pub rest : done ++ left row mask c ≡ flagged row mask 0
  pub below : AllBelow all (left row mask c)
  pub inside : c.lane < row
  pub lanes_same : length lanes' ≡ length lanes₀
  pub sums_same : length sums' ≡ length sums₀
  pub puts : PutsAll room len (each g done) lanes₀ sums₀ lanes' sums' (Some count)

module _ (g : ℕ → List Term) (all room len row : ℕ) (mask : List ℕ) (lanes₀ : List ℕ) (sums₀ : List Float) (s : SumsRoom room len lanes₀ sums₀) where
  abbrev State : List ℕ → List Float → ℕ → Cursor → Type 0
  State lanes' sums' count c = VisitState g all room len row mask lanes₀ sums₀ lanes' sums' count c

  pub visit_start : (c : Cursor) → (left row mask c ≡ flagged row mask 0) × (c.lane < row) → AllBelow all (flagged row mask 0) → State lanes₀ sums₀ len c
  unfolding each
  visit_start c e b = record {
    done = [];
    rest = e.0;
    below = subst (AllBelow all) (sym e.0) b;
    inside = e.1;
    lanes_same = refl;
    sums_same = refl;
    puts = puts_nothing room len lanes₀ sums₀ s (each g []) refl;
  }

  module _ (lanes' : List ℕ) (sums' : List Float) (count : ℕ) (c : Cursor) (t : State lanes' sums' count c) where
    pub visit_room : SumsRoom room count lanes' sums'
    visit_room = puts_room room len lanes₀ sums₀ s lanes' sums' (each g t.done) count (Some count) t.puts refl t.lanes_same t.sums_same

    module _ (n : Option (ℕ × Cursor)) (v : Steps row mask c n) where
      pub visit_done : n ≡ None → PutsAll room len (each g (flagged row mask 0)) lanes₀ sums₀ lanes' sums' (Some count)
      visit_done e =
          let f : t.done ≡ flagged row mask 0 = sym (append-nil t.done) ∙ ap (λ (l : List ℕ). t.done ++ l) (sym (ended row mask c n e v)) ∙ t.rest in
          subst (λ (K : List ℕ). PutsAll room len (each g K) lanes₀ sums₀ lanes' sums' (Some count)) f t.puts

      module _ (j : ℕ) (d : Cursor) (e : n ≡ Some (j, d)) where
        pub visit_below : j < all
        visit_below = (step_below row mask c n v all j d e t.below).0

        pub visit_less : length (left row mask d) < length (left row mask c)
        visit_less = omega (arith, ap length (stepped row mask c n j d e v).0)

        more : (t.done ++ (j ∷ [])) ++ left row mask d ≡ flagged row mask 0
        more = append_snoc t.done j (left row mask d) ∙ ap (λ (l : List ℕ). t.done ++ l) (sym (stepped row mask c n j d e v).0) ∙ t.rest

        module _ (A : List Term) (f : A ≡ g j) (lanes'' : List ℕ) (sums'' : List Float) (r : Option ℕ) (p : PutsAll room count A lanes' sums' lanes'' sums'' r) where
          next_puts : PutsAll room len (each g (t.done ++ (j ∷ []))) lanes₀ sums₀ lanes'' sums'' r
          next_puts =
              puts_same room len lanes₀ sums₀ s lanes'' sums'' (each g t.done ++ A) (each g (t.done ++ (j ∷ []))) r (ap (λ (l : List Term). each g t.done ++ l) f ∙ sym (each_last g t.done j))
              (puts_more room len lanes₀ sums₀ s lanes' sums' (each g t.done) A count (Some count) t.puts refl lanes'' sums'' r p)

          pub visit_next : (m : ℕ) → r ≡ Some m → length lanes'' ≡ length lanes' → length sums'' ≡ length sums' → State lanes'' sums'' m d
          visit_next m h el es = record {
            done = t.done ++ (j ∷ []);
            rest = more;
            below = (step_below row mask c n v all j d e t.below).1;
            inside = (stepped row mask c n j d e v).2;
            lanes_same = el ∙ t.lanes_same;
            sums_same = es ∙ t.sums_same;
            puts = subst (λ (q : Option ℕ). PutsAll room len (each g (t.done ++ (j ∷ []))) lanes₀ sums₀ lanes'' sums'' q) h next_puts;
          }

          pub visit_full : r ≡ None → PutsAll room len (each g (flagged row mask 0)) lanes₀ sums₀ lanes'' sums'' None
          visit_full h =
              let K : List ℕ = t.done ++ (j ∷ []) in
              let B : List Term = each g (left row mask d) in
              puts_same room len lanes₀ sums₀ s lanes'' sums'' (each g K ++ B) (each g (flagged row mask 0)) None (sym (each_append g K (left row mask d)) ∙ ap (each g) more)
              (puts_full room len lanes₀ sums₀ s lanes'' sums'' (each g K) B r next_puts h)

-- ---- while no pair is met, the visits that are left add what all do
abbrev pub Quiet : (ℕ → List Term) → ℕ → List ℕ → Bool → Cursor → Type 0
Quiet h row mask met c = met ≡ false → each h (left row mask c) ≡ each h (flagged row mask 0)

module _ (h : ℕ → List Term) (row : ℕ) (mask : List ℕ) where
  pub quiet_start : (c : Cursor) → left row mask c ≡ flagged row mask 0 → Quiet h row mask false c
  quiet_start c e _ = ap (each h) e

  pub quiet_next : (met after : Bool) (c : Cursor) (n : Option (ℕ × Cursor)) → Steps row mask c n → (j : ℕ) (d : Cursor) → n ≡ Some (j, d) → Quiet h row mask met c → (after ≡ false → (met ≡ false) × (h j ≡ [])) → Quiet h row mask after d
  unfolding each
  quiet_next met after c n v j d e q f g =
      let k = f g in
      ap (λ (l : List Term). l ++ each h (left row mask d)) (sym k.1) ∙ ap (each h) (sym (stepped row mask c n j d e v).0) ∙ q k.0

  pub quiet_done : (met : Bool) (c : Cursor) (n : Option (ℕ × Cursor)) → Steps row mask c n → n ≡ None → Quiet h row mask met c → met ≡ false → each h (flagged row mask 0) ≡ []
  unfolding each
  quiet_done met c n v e q g = sym (q g) ∙ ap (each h) (ended row mask c n e v)
