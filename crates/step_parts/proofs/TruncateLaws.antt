-- SPDX-FileCopyrightText: 2026 The PPVM Authors
-- SPDX-License-Identifier: Apache-2.0

-- Prune and cap of a grown basis pass their tests, and leave of it what the step says of plain lists. Assumes nothing.
use mathlib.Core.Path.{◌≡◌, refl, sym, ap, subst, ◌∙◌}
use mathlib.Core.Bool.{Bool, true, false, cond}
use mathlib.Core.List.{List}
use Prim.Native.Nat.{ℕ, ◌/◌, ◌≤◌}
use native.Mathlib.Omega.{arith}
use lib.Ieee.{Float, le}
use lib.ListN.{length, take, replicate, length-replicate}
use Rattle.refusal.specs.declared.Refusal.{Refusal}
use Rattle.word.specs.Flat.{words, word_lanes}
use Rattle.word.specs.declared.word.Word.{Word}
use Rattle.number.specs.Floats.{float0}
use Rattle.truncate.specs.Prunes.{Keeping, prune, cap}
use Rattle.std.specs.Prelude.{Result, Ok, Err}
use Rattle.truncate_laws.proofs.AcceptedCalls.{entries_same}
use Rattle.step_laws.specs.Steps.{Stepped, kept_by, pruned_by, capped_by}
use Rattle.step_laws.specs.Passing.{Held, EndPlaces, EndCall}
use Rattle.step_laws.proofs.EndCall.{pruned_fit, prune_call, cap_call}
use Rattle.step_laws.proofs.HeldLaws.{held_numbers}
use Rattle.step_parts.specs.Between.{EndReady, Truncates, grown}
use Rattle.step_parts.proofs.CheckLaws.{where_any_lem}

entries_not : (q : Refusal) (k : ℕ) → ◌≡◌ {A = Result ℕ Refusal} (Ok k) (Err q) → ⊥
entries_not q k e = let z : ◌≡◌ {A = ℕ} 0 1 = cc in omega arith

-- a prune takes no product
pub pruned_products : (protected : List Word) (tol : Float) (s : Stepped) → (pruned_by protected tol s).products ≡ s.products
unfolding pruned_by
pruned_products protected tol s = go (le tol float0) _
  where
    go : (b : Bool) (flags : List ℕ) → (cond b s (kept_by protected flags s)).products ≡ s.products
    go true flags = refl
    go false flags = refl

-- ---- prune
module _ (n : ℕ) (protected : List ℕ) (tol : Float) (limit len : ℕ) (lanes : List ℕ) (coeffs : List Float) (order heads nexts places : List ℕ) (ready : EndReady n protected tol limit len lanes coeffs order heads nexts places) where
  abbrev ws : List Word
  ws = take len (words lanes)

  abbrev cs : List Float
  cs = take len coeffs

  abbrev count : ℕ
  count = length protected / word_lanes

  held : Held lanes coeffs len ws cs
  held = record { lanes_long = ready.grown_long; numbers_long = ready.evolved_long; words_are = refl; numbers_are = refl }

  heads_long : len ≤ length heads
  heads_long = where_any_lem len (length heads) (λ a. omega (arith, ready.heads_long a))

  nexts_long : len ≤ length nexts
  nexts_long = where_any_lem len (length nexts) (λ a. omega (arith, ready.nexts_long a))

  room : EndPlaces len count heads nexts order places
  room = record {
    order_long = heads_long;
    order_protected = λ a. omega (arith, ready.heads_long a);
    work_long = nexts_long;
    work_protected = λ a. omega (arith, ready.nexts_long a);
    fixed_long = ready.order_long;
    kept_long = ready.places_long;
  }

  abbrev first : Keeping
  first = prune len lanes coeffs heads nexts order places n protected tol

  abbrev pruned : ℕ → Stepped
  pruned products = pruned_by (words protected) tol (grown len lanes coeffs products)

  first_call : (products : ℕ) → EndCall lanes coeffs len heads nexts order places first (pruned products)
  first_call products = prune_call n lanes coeffs len ws cs held heads nexts order places protected products ready.register ready.fit ready.good room tol ready.drop_finite

  module _ (r₁ : Result ℕ Refusal) (lanes₁ : List ℕ) (coeffs₁ : List Float) (heads₁ nexts₁ order₁ places₁ : List ℕ)
      (is₁ : record { answer = r₁; lanes = lanes₁; coeffs = coeffs₁; order = heads₁; work = nexts₁; fixed = order₁; kept = places₁ } ≡ first) where
    pub prune_not : (q : Refusal) → r₁ ≡ Err q → ⊥
    prune_not q e = entries_not q _ (sym (first_call 0).answers ∙ sym (ap (λ (x : Keeping). x.answer) is₁) ∙ e)

    heads_same : length heads₁ ≡ length heads
    heads_same = ap length (ap (λ (x : Keeping). x.order) is₁ ∙ (first_call 0).order_zero) ∙ length-replicate (length heads) 0

    nexts_same : length nexts₁ ≡ length nexts
    nexts_same = ap length (ap (λ (x : Keeping). x.work) is₁ ∙ (first_call 0).work_zero) ∙ length-replicate (length nexts) 0

    order_same : length order₁ ≡ length order
    order_same = ap length (ap (λ (x : Keeping). x.fixed) is₁ ∙ (first_call 0).fixed_zero) ∙ length-replicate (length order) 0

    places_same : length places₁ ≡ length places
    places_same = ap length (ap (λ (x : Keeping). x.kept) is₁ ∙ (first_call 0).kept_zero) ∙ length-replicate (length places) 0

    -- ---- and cap of what stays
    module _ (k : ℕ) (told₁ : r₁ ≡ Ok k) where
      k_is : (products : ℕ) → k ≡ length (pruned products).words
      k_is products = entries_same k _ (sym told₁ ∙ ap (λ (x : Keeping). x.answer) is₁ ∙ (first_call products).answers)

      k_few : k ≤ len
      k_few = omega (arith, k_is 0, (first_call 0).fewer)

      held₁ : (products : ℕ) → Held lanes₁ coeffs₁ k (pruned products).words (pruned products).numbers
      held₁ products =
          subst (λ (x : Keeping). Held x.lanes x.coeffs k (pruned products).words (pruned products).numbers) (sym is₁)
          (subst (λ (i : ℕ). Held first.lanes first.coeffs i (pruned products).words (pruned products).numbers) (sym (k_is products)) (first_call products).holds)

      room₁ : EndPlaces k count heads₁ nexts₁ order₁ places₁
      room₁ = record {
        order_long = omega (arith, k_few, heads_same, heads_long);
        order_protected = λ a. omega (arith, heads_same, ready.heads_long (omega (arith, a, k_few)));
        work_long = omega (arith, k_few, nexts_same, nexts_long);
        work_protected = λ a. omega (arith, nexts_same, ready.nexts_long (omega (arith, a, k_few)));
        fixed_long = omega (arith, k_few, order_same, ready.order_long);
        kept_long = omega (arith, k_few, places_same, ready.places_long);
      }

      abbrev second : Keeping
      second = cap k lanes₁ coeffs₁ heads₁ nexts₁ order₁ places₁ n protected limit

      second_call : (products : ℕ) → EndCall lanes₁ coeffs₁ k heads₁ nexts₁ order₁ places₁ second (capped_by (words protected) limit (pruned products))
      second_call products =
          let s : Stepped = pruned products in
          subst (λ (p : ℕ). EndCall lanes₁ coeffs₁ k heads₁ nexts₁ order₁ places₁ second (capped_by (words protected) limit (record { words = s.words; numbers = s.numbers; products = p }))) (sym (pruned_products (words protected) tol (grown len lanes coeffs products)))
          (cap_call n lanes₁ coeffs₁ k s.words s.numbers (held₁ products) heads₁ nexts₁ order₁ places₁ protected products ready.register (pruned_fit n (grown len lanes coeffs products) ready.fit (words protected) tol) ready.good room₁ limit ready.limit_few)

      module _ (r₂ : Result ℕ Refusal) (lanes₂ : List ℕ) (coeffs₂ : List Float) (heads₂ nexts₂ order₂ places₂ : List ℕ)
          (is₂ : record { answer = r₂; lanes = lanes₂; coeffs = coeffs₂; order = heads₂; work = nexts₂; fixed = order₂; kept = places₂ } ≡ second) where
        pub cap_not : (q : Refusal) → r₂ ≡ Err q → ⊥
        cap_not q e = entries_not q _ (sym (second_call 0).answers ∙ sym (ap (λ (x : Keeping). x.answer) is₂) ∙ e)

        pub order_clear : order₂ ≡ replicate (length order) 0
        order_clear = ap (λ (x : Keeping). x.fixed) is₂ ∙ (second_call 0).fixed_zero ∙ ap (λ (i : ℕ). replicate i 0) order_same

        pub heads_clear : heads₂ ≡ replicate (length heads) 0
        heads_clear = ap (λ (x : Keeping). x.order) is₂ ∙ (second_call 0).order_zero ∙ ap (λ (i : ℕ). replicate i 0) heads_same

        pub nexts_clear : nexts₂ ≡ replicate (length nexts) 0
        nexts_clear = ap (λ (x : Keeping). x.work) is₂ ∙ (second_call 0).work_zero ∙ ap (λ (i : ℕ). replicate i 0) nexts_same

        pub places_clear : places₂ ≡ replicate (length places) 0
        places_clear = ap (λ (x : Keeping). x.kept) is₂ ∙ (second_call 0).kept_zero ∙ ap (λ (i : ℕ). replicate i 0) places_same

        pub truncates : (j : ℕ) → r₂ ≡ Ok j → (products : ℕ) → Truncates (capped_by (words protected) limit (pruned products)) len j lanes₂ coeffs₂
        truncates j told products =
            let s : Stepped = capped_by (words protected) limit (pruned products) in
            let call = second_call products in
            let j-is : j ≡ length s.words = entries_same j _ (sym told ∙ ap (λ (x : Keeping). x.answer) is₂ ∙ call.answers) in
            let h = call.holds in
            record {
              count = j-is;
              each = held_numbers second.lanes second.coeffs (length s.words) s.words s.numbers h;
              fewer = omega (arith, j-is, call.fewer, k_few);
              words_are = ap (λ (x : Keeping). take j (words x.lanes)) is₂ ∙ ap (λ (i : ℕ). take i (words second.lanes)) j-is ∙ h.words_are;
              numbers_are = ap (λ (x : Keeping). take j x.coeffs) is₂ ∙ ap (λ (i : ℕ). take i second.coeffs) j-is ∙ h.numbers_are;
            }
