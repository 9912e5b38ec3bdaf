-- SPDX-FileCopyrightText: 2026 The PPVM Authors
-- SPDX-License-Identifier: Apache-2.0

-- Unions of rows. Assumes nothing.
use mathlib.Core.Path.{◌≡◌, refl, sym, ap, ap₂, ◌∙◌}
use mathlib.Core.List.{List}
use Prim.Native.Nat.{ℕ, zero, suc, ◌+◌, ◌*◌, ◌/◌, ◌%◌, ◌<◌, ◌≤◌, min, max}
use native.Mathlib.Omega.{arith}
use native.Mathlib.Decide.{ℕ_discrete}
use lib.Bits.{bit_or}
use lib.ListN.{get_or}
use Rattle.word.specs.Word.{max_qubits}
use Rattle.word.specs.Between.{NextQubit}
use Rattle.word.specs.declared.word.Word.{Word}
use Rattle.word.proofs.Digits.{zero_bit, bit_or_lem}
use Rattle.index.specs.Index.{flag, mark, acts, unites, United}
use Rattle.index.proofs.Walk.{acts_before, Stands, none_before, passed, not_yet, elsewhere, all_before}
use Rattle.index.proofs.MarkLaws.{mark_lt}
use Rattle.index.proofs.Rows.{Cleared}

unites_cong : (row : ℕ) (f g : ℕ → ℕ) (n : ℕ) (index : List ℕ) (j : ℕ) → ((q : ℕ) → q < n → f q ≡ g q) → unites row f n index j ≡ unites row g n index j
unfolding unites
unites_cong row f g zero index j h = refl
unites_cong row f g (suc n) index j h =
    ap₂ (λ (x y : ℕ). max x (min y (mark row index n j))) (unites_cong row f g n index j (λ q l. h q (omega arith))) (h n (omega arith))

unites_none : (row : ℕ) (f : ℕ → ℕ) (n : ℕ) (index : List ℕ) (j : ℕ) → ((q : ℕ) → f q ≡ 0) → unites row f n index j ≡ 0
unfolding unites
unites_none row f zero index j h = refl
unites_none row f (suc n) index j h = omega (arith, unites_none row f n index j h, h n)

-- one row taken out of a union
module _ (row : ℕ) (f g : ℕ → ℕ) (k : ℕ) (f1 : f k ≡ 1) (g0 : g k ≡ 0) (same : (q : ℕ) → (q ≡ k → ⊥) → g q ≡ f q) (index : List ℕ) (j : ℕ) where
  unites_take : (n : ℕ) → k < n → max (mark row index k j) (unites row g n index j) ≡ unites row f n index j
  unfolding unites
  unites_take zero h = absurd (omega arith)
  unites_take (suc n) h = go (ℕ_discrete k n) (λ l. unites_take n l)
    where
      go : Dec (k ≡ n) → (k < n → max (mark row index k j) (unites row g n index j) ≡ unites row f n index j)
          → max (mark row index k j) (max (unites row g n index j) (min (g n) (mark row index n j))) ≡ max (unites row f n index j) (min (f n) (mark row index n j))
      go (yes e) ih =
          let gn : g n ≡ 0 = sym (ap g e) ∙ g0 in
          let fn : f n ≡ 1 = sym (ap f e) ∙ f1 in
          rw e (omega (arith, gn, fn, mark_lt row index n j, unites_cong row g f n index j (λ q l. same q (λ d. omega arith))))
      go (no d) ih = omega (arith, ih (omega arith), same n (λ e. d (sym e)))

-- ---- the turns of `union_rows`: the rows of the qubits before q are united

flag_or : (row : ℕ) (mask mask' index : List ℕ) (q : ℕ) → ((i : ℕ) → i < row → get_or mask' i 0 ≡ bit_or (get_or mask i 0) (get_or index (q * row + i) 0))
    → (j : ℕ) → j < row * 64 → flag mask' j ≡ max (flag mask j) (mark row index q j)
unfolding flag mark
flag_or row mask mask' index q h j l = rw (h (j / 64) (omega arith)) (bit_or_lem (get_or mask (j / 64) 0) (get_or index (q * row + j / 64) 0) (j % 64))

flag_clear : (row : ℕ) (mask : List ℕ) → Cleared mask row → (j : ℕ) → j < row * 64 → flag mask j ≡ 0
unfolding flag
flag_clear row mask o j l = rw (o (j / 64) (omega arith)) (zero_bit (j % 64))

abbrev pub Uniting : ℕ → ℕ → Word → List ℕ → List ℕ → ℕ → Type 0
Uniting row n p index mask q = (j : ℕ) → j < row * 64 → flag mask j ≡ unites row (acts_before p q) n index j

pub uniting_start : (row n : ℕ) (p : Word) (index mask : List ℕ) (q : ℕ) → Cleared mask row → NextQubit p 0 q → Uniting row n p index mask q
uniting_start row n p index mask q o h j k =
    flag_clear row mask o j k ∙ sym (unites_none row (acts_before p q) n index j (none_before p q h))

module _ (row n : ℕ) (p : Word) (index mask : List ℕ) (q : ℕ) (s : Stands p q) (inv : Uniting row n p index mask q) where
  pub uniting_turn : (q' : ℕ) → q < min n max_qubits → NextQubit p (q + 1) q' → (mask' : List ℕ)
      → ((i : ℕ) → i < row → get_or mask' i 0 ≡ bit_or (get_or mask i 0) (get_or index (q * row + i) 0)) → Uniting row n p index mask' q'
  uniting_turn q' l h mask' r j k =
      let m : q < max_qubits = omega arith in
      let t = unites_take row (acts_before p q') (acts_before p q) q (passed p q q' s m h) (not_yet p q q' s m h) (λ r d. elsewhere p q q' s m h r d) index j n (omega arith) in
      omega (arith, flag_or row mask mask' index q r j k, t, inv j k)

  pub uniting_done : min n max_qubits ≤ q → United row n p index mask
  uniting_done h = record { flags = λ j k. inv j k ∙ unites_cong row (acts_before p q) (acts p) n index j (λ r l. all_before p n q s h r l) }
