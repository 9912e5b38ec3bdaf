-- SPDX-FileCopyrightText: 2026 The PPVM Authors
-- SPDX-License-Identifier: Apache-2.0

-- Items that share no qubit with p add nothing: what the visited items add is what all items add. Assumes nothing.
use mathlib.Core.Path.{◌≡◌, refl, sym, ap, ap₂, ◌∙◌, subst}
use mathlib.Core.Bool.{Bool, true, false, cond, ◌&&◌, ◌||◌, false≢true}
use mathlib.Core.List.{List, [], ◌∷◌, ◌++◌, map}
use Prim.Native.Nat.{ℕ, zero, suc, ◌+◌, ◌*◌, ◌≤◌, ◌<◌}
use native.Mathlib.Omega.{arith}
use lib.Dec.{eqb}
use lib.Ieee.{Float}
use lib.ListN.{length, get_or, take, drop}
use lib.Seq.{take-nil, drop-nil}
use Rattle.word.specs.Word.{max_qubits, identity}
use Rattle.word.specs.Flat.{words}
use Rattle.word.specs.Register.{reaches, share}
use Rattle.word.specs.declared.word.Word.{Word}
use Rattle.word.proofs.Sums.{or_left, or_right}
use Rattle.number.specs.Numbers.{Cx}
use Rattle.number.specs.Floats.{floats}
use Rattle.gksl.specs.Rules.{overlaps_over, terms_over}
use Rattle.gksl.specs.Words.{pauli}
use Rattle.index.specs.Index.{row_lanes, flag, digit, shares_any, Indexed, United}
use Rattle.index.specs.Visit.{up_from, keep, flagged, AllBelow}
use Rattle.index.proofs.Sharing.{united_shares, flagged_items, flagged_below}
use Rattle.sums.specs.Numbers.{complexes}
use Rattle.std.specs.Prelude.{Option}
use Rattle.sums.specs.Sums.{rows}
use Rattle.model.specs.Terms.{Term}
use Rattle.model.specs.Stands.{Stands}
use Rattle.model.specs.Stored.{ModelTables, jump_at}
use Rattle.model.specs.Tested.{width}
use Rattle.model.specs.declared.stored.Model.{Model}
use Rattle.model.specs.declared.stored.Range.{Range}
use Rattle.model.specs.declared.stored.Jump.{Jump}
use Rattle.model.specs.declared.stored.Jump.TheVariants.{Pauli, General, Pair}
use Rattle.rule_terms.specs.Adds.{real_at, reals_in, jumps_in, op, jump_adds, pair_adds, gather_jumps}
use Rattle.rules_by_index.specs.Near.{words_of, jump_words, pair_met, ModelIndexed}
use Rattle.rule_terms.specs.Sums.{PutsAll}
use Rattle.rules_by_scan.proofs.ItemLaws.{each, real_adds, reals_each, jumps_each}
use Rattle.word.specs.Count.{up_to}
use Rattle.word.proofs.CountLaws.{items_length, items_at}

-- ---- what is gathered over the numbers that a test keeps, where the others add nothing
each_keep : (g : ℕ → List Term) (t : ℕ → ℕ) (d k : ℕ) → ((j : ℕ) → k ≤ j → j < k + d → eqb (t j) 1 ≡ false → g j ≡ []) → each g (keep t (up_from d k)) ≡ each g (up_to k d)
unfolding each keep up_from up_to
each_keep g t zero k h = refl
each_keep g t (suc d) k h = go (eqb (t k) 1) refl (each_keep g t d (suc k) (λ j a b. h j (omega arith) (omega arith)))
  where
    go : (b : Bool) → eqb (t k) 1 ≡ b → each g (keep t (up_from d (suc k))) ≡ each g (up_to (suc k) d) → each g (cond b (k ∷ keep t (up_from d (suc k))) (keep t (up_from d (suc k)))) ≡ g k ++ each g (up_to (suc k) d)
    go true e ih = ap (λ (l : List Term). g k ++ l) ih
    go false e ih = ih ∙ ap (λ (l : List Term). l ++ each g (up_to (suc k) d)) (sym (h k (omega arith) (omega arith) e))

digit_false : (b : Bool) → eqb (digit b) 1 ≡ false → b ≡ false
digit_false true e = e
digit_false false e = refl

module _ (row n count : ℕ) (p : Word) (f : ℕ → List Word) (index mask : List ℕ) (few : n ≤ max_qubits) (low : reaches p n ≡ false) (limit : count ≤ row * 64)
    (x : Indexed row n (map f (up_to 0 count)) index) (u : United row n p index mask) where
  few_items : length (map f (up_to 0 count)) ≤ row * 64
  few_items = rw (items_length f count) limit

  items_below : AllBelow count (flagged row mask 0)
  items_below = subst (λ (k : ℕ). AllBelow k (flagged row mask 0)) (items_length f count) (flagged_below n p few low row (map f (up_to 0 count)) index mask x u few_items)

  items_near : (g : ℕ → List Term) → ((j : ℕ) → shares_any (f j) p ≡ false → g j ≡ []) → each g (flagged row mask 0) ≡ each g (up_to 0 count)
  items_near g h =
      ap (each g) (flagged_items n p few low row (map f (up_to 0 count)) index mask x u few_items ∙ ap (λ (k : ℕ). keep (flag mask) (up_from k 0)) (items_length f count))
      ∙ each_keep g (flag mask) count 0 (λ j a b e. h j (apart j (omega arith) e))
    where
      apart : (j : ℕ) → j < count → eqb (flag mask j) 1 ≡ false → shares_any (f j) p ≡ false
      apart j l e =
          digit_false (shares_any (f j) p)
          (ap (λ (i : ℕ). eqb i 1) (sym (united_shares n p few low row (map f (up_to 0 count)) index mask x u j (omega arith) ∙ ap (λ (W : List Word). digit (shares_any W p)) (items_at f count j [] l))) ∙ e)

-- ---- an item none of whose words shares a qubit with p
module _ (p : Word) where
  no_rows : (s w : ℕ) → overlaps_over floats pauli (take w (drop s [])) p ≡ false
  unfolding overlaps_over
  no_rows s w = ap (λ (A : List Term). overlaps_over floats pauli A p) (ap (take w) (drop-nil s) ∙ take-nil w)

  rows_apart : (W : List Word) (Z : List (Cx floats)) (s w : ℕ) → shares_any (take w (drop s W)) p ≡ false → overlaps_over floats pauli (take w (drop s (rows W Z))) p ≡ false
  unfolding rows shares_any overlaps_over
  rows_apart [] Z s w h = no_rows s w
  rows_apart (v ∷ W) [] s w h = no_rows s w
  rows_apart (v ∷ W) (z ∷ Z) (suc s) w h = rows_apart W Z s w h
  rows_apart (v ∷ W) (z ∷ Z) zero zero h = refl
  rows_apart (v ∷ W) (z ∷ Z) zero (suc w) h =
      ap₂ ◌||◌ {x = share v p} (or_left (share v p) (shares_any (take w W) p) h) (rows_apart W Z zero w (or_right (share v p) (shares_any (take w W) p) h))

  shares_left : (W X : List Word) → shares_any (W ++ X) p ≡ false → shares_any W p ≡ false
  unfolding shares_any
  shares_left [] X h = refl
  shares_left (w ∷ W) X h =
      ap₂ ◌||◌ {x = share w p} (or_left (share w p) (shares_any (W ++ X) p) h) (shares_left W X (or_right (share w p) (shares_any (W ++ X) p) h))

  shares_right : (W X : List Word) → shares_any (W ++ X) p ≡ false → shares_any X p ≡ false
  unfolding shares_any
  shares_right [] X h = h
  shares_right (w ∷ W) X h = shares_right W X (or_right (share w p) (shares_any (W ++ X) p) h)

  real_apart : (lanes : List ℕ) (coeffs : List Float) (i : ℕ) → shares_any (get_or (words lanes) i identity ∷ []) p ≡ false → real_adds lanes coeffs p i ≡ []
  unfolding terms_over shares_any
  real_apart lanes coeffs i h = rw (or_left (share (get_or (words lanes) i identity) p) false h)

  module _ (t : ModelTables) where
    range_apart : (r : Range) → shares_any (words_of t.t_words r) p ≡ false → overlaps_over floats pauli (op p t r) p ≡ false
    range_apart r h = rows_apart (words t.t_words) (complexes t.t_numbers) r.start (width r) h

    jump_apart : (j : Jump) → shares_any (jump_words t.t_words j) p ≡ false → jump_adds p t j ≡ []
    unfolding jump_adds jump_words shares_any
    jump_apart (Pauli rate term) h = rw (or_left (share (get_or (words t.t_words) term identity) p) false h)
    jump_apart (General rate terms product) h = rw (range_apart terms h)
    jump_apart (Pair left right factors product) h = refl

    pair_apart : (j : Jump) → shares_any (jump_words t.t_words j) p ≡ false → pair_adds p t j ≡ []
    unfolding pair_adds jump_words
    pair_apart (Pauli rate term) h = refl
    pair_apart (General rate terms product) h = refl
    pair_apart (Pair left right factors product) h =
        rw (range_apart left (shares_left (words_of t.t_words left) (words_of t.t_words right) h), range_apart right (shares_right (words_of t.t_words left) (words_of t.t_words right) h)) (same (eqb left.start right.start && eqb left.end right.end))
      where
        same : (b : Bool) → ◌≡◌ {A = List Term} (cond b [] []) []
        same true = refl
        same false = refl

-- ---- an entry before which and at which no pair is met
pub no_pair : (p : Word) (t : ModelTables) (met : Bool) (jump : Jump) → pair_met met jump ≡ false → (met ≡ false) × (pair_adds p t jump ≡ [])
unfolding pair_adds
no_pair p t met (Pauli rate term) e = (e, refl)
no_pair p t met (General rate terms product) e = (e, refl)
no_pair p t met (Pair left right factors product) e = absurd (false≢true (sym e))

-- ---- a model that stands, with its index
puts_as : {room len : ℕ} {lanes : List ℕ} {sums : List Float} {lanes' : List ℕ} {sums' : List Float} {r : Option ℕ} → {A B : List Term} → A ≡ B → PutsAll room len A lanes sums lanes' sums' r → PutsAll room len B lanes sums lanes' sums' r
puts_as {room} {len} {lanes} {sums} {lanes'} {sums'} {r} e g = subst (λ (T : List Term). PutsAll room len T lanes sums lanes' sums' r) e g

module _ (m : Model) (t : ModelTables) (p : Word) (hIndex jIndex : List ℕ) (s : Stands m t) (x : ModelIndexed m t hIndex jIndex) (low : reaches p m.qubits ≡ false) (mask : List ℕ) where
  abbrev real_word : ℕ → List Word
  real_word i = get_or (words t.h_words) i identity ∷ []

  abbrev entry_words : ℕ → List Word
  entry_words j = jump_words t.t_words (jump_at t.jumps t.rates j)

  module _ (row : ℕ) (e : row ≡ row_lanes m.hamiltonian) (u : United row m.qubits p hIndex mask) where
    pub reals_below : AllBelow m.hamiltonian (flagged row mask 0)
    reals_below = items_below row m.qubits m.hamiltonian p real_word hIndex mask s.qubits low (omega (arith, e)) (rw e x.reals) u

    reals_near : terms_over floats pauli (map (real_at t) (flagged row mask 0)) p ≡ terms_over floats pauli (reals_in m t) p
    reals_near =
        sym (reals_each t t.h_words t.h_coeffs p (flagged row mask 0) refl refl)
        ∙ items_near row m.qubits m.hamiltonian p real_word hIndex mask s.qubits low (omega (arith, e)) (rw e x.reals) u (real_adds t.h_words t.h_coeffs p) (λ i h. real_apart p t.h_words t.h_coeffs i h)
        ∙ reals_each t t.h_words t.h_coeffs p (up_to 0 m.hamiltonian) refl refl

    pub near_reals : {room len : ℕ} {lanes : List ℕ} {sums : List Float} {lanes' : List ℕ} {sums' : List Float} {r : Option ℕ} → PutsAll room len (terms_over floats pauli (map (real_at t) (flagged row mask 0)) p) lanes sums lanes' sums' r
        → PutsAll room len (terms_over floats pauli (reals_in m t) p) lanes sums lanes' sums' r
    near_reals g = puts_as reals_near g

  module _ (row : ℕ) (e : row ≡ row_lanes m.jumps) (u : United row m.qubits p jIndex mask) where
    pub jumps_below : AllBelow m.jumps (flagged row mask 0)
    jumps_below = items_below row m.qubits m.jumps p entry_words jIndex mask s.qubits low (omega (arith, e)) (rw e x.jumps) u

    entries_near : (f : Jump → List Term) → ((j : Jump) → shares_any (jump_words t.t_words j) p ≡ false → f j ≡ [])
        → gather_jumps f (map (jump_at t.jumps t.rates) (flagged row mask 0)) ≡ gather_jumps f (jumps_in m t)
    entries_near f h =
        sym (jumps_each f f (λ j. refl) t.jumps t.rates (flagged row mask 0))
        ∙ items_near row m.qubits m.jumps p entry_words jIndex mask s.qubits low (omega (arith, e)) (rw e x.jumps) u (λ k. f (jump_at t.jumps t.rates k)) (λ j e. h (jump_at t.jumps t.rates j) e)
        ∙ jumps_each f f (λ j. refl) t.jumps t.rates (up_to 0 m.jumps)

    pub near_entries : {room len : ℕ} {lanes : List ℕ} {sums : List Float} {lanes' : List ℕ} {sums' : List Float} {r : Option ℕ}
        → PutsAll room len (gather_jumps (jump_adds p t) (map (jump_at t.jumps t.rates) (flagged row mask 0)) ++ gather_jumps (pair_adds p t) (map (jump_at t.jumps t.rates) (flagged row mask 0))) lanes sums lanes' sums' r
        → PutsAll room len (gather_jumps (jump_adds p t) (jumps_in m t) ++ gather_jumps (pair_adds p t) (jumps_in m t)) lanes sums lanes' sums' r
    near_entries g = puts_as (ap₂ (λ (A B : List Term). A ++ B) (entries_near (jump_adds p t) (jump_apart p t)) (entries_near (pair_adds p t) (pair_apart p t))) g
