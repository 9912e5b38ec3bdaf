-- SPDX-FileCopyrightText: 2026 The PPVM Authors
-- SPDX-License-Identifier: Apache-2.0

-- The answer for items in a row is the first refusal: what is left after accepted ones answers for all. Assumes nothing.
use mathlib.Core.Path.{◌≡◌, refl, sym, ap, ap₂, ◌∙◌}
use mathlib.Core.List.{List, [], ◌∷◌}
use Prim.Native.Nat.{ℕ, suc, ◌+◌, ◌-◌, ◌*◌, ◌<◌, ◌≤◌}
use native.Mathlib.Numerals.{add-one}
use lib.Ieee.{Float, nan}
use lib.ListN.{get_or, length, take, drop}
use Rattle.refusal.specs.declared.Refusal.{Refusal}
use Rattle.std.specs.Prelude.{Ok, Err}
use Rattle.refusal.specs.Cause.{Answer}
use Rattle.model_build.specs.Given.{GivenTerm, read_real, read_term, read_jump}
use Rattle.model_build.specs.Built.{parts, real_items, term_items, jump_items}
use Rattle.sums.specs.Numbers.{complexes}
use Rattle.model_build.specs.Items.{answer_of, read_terms}
use Rattle.model_build.proofs.Parts.{part_is, rest_is, real_turn, real_end, term_turn, term_end, jump_turn, jump_end}
use Rattle.lent.specs.Tests.{and_then}
use Rattle.lent.specs.Read.{Read, got, refused, onward, each}
use Rattle.lent.specs.Laid.{total}

module _ {A : Type 0} where
  -- the answer for each of a list, from index i on, up to the first refusal
  unfoldable pub each_answer : (ℕ → A → Answer) → ℕ → List A → Answer
  each_answer f i [] = (Ok tt)
  each_answer f i (a ∷ l) = and_then (f i a) (each_answer f (suc i) l)

  module _ (f : ℕ → A → Answer) (i : ℕ) (a : A) (rest l : List A) (is : l ≡ a ∷ rest) where
    -- the first is accepted: what the others answer
    pub each_on : f i a ≡ Ok tt → each_answer f i l ≡ each_answer f (i + 1) rest
    unfolding each_answer
    each_on h = rw (is, add-one i, h)

    -- it is refused
    pub each_stop : (r : Refusal) → f i a ≡ Err r → each_answer f i l ≡ Err r
    unfolding each_answer
    each_stop r h = rw (is, h)

  pub each_end : (f : ℕ → A → Answer) (i : ℕ) (l : List A) → l ≡ [] → each_answer f i l ≡ Ok tt
  unfolding each_answer
  each_end f i l h = rw h

module _ {B : Type 0} where
  answer_onward : (x : Read B) (y : Read (List B)) (z : Answer) → answer_of y ≡ z
      → answer_of (onward x (λ b. onward y (λ bs. got (b ∷ bs)))) ≡ and_then (answer_of x) z
  answer_onward (got b) (got bs) z e = e
  answer_onward (got b) (refused r) z e = e
  answer_onward (refused r) y z e = refl

module _ {A B : Type 0} where
  pub each_answer_lem : (f : ℕ → A → Read B) (i : ℕ) (l : List A) → answer_of (each f i l) ≡ each_answer (λ k a. answer_of (f k a)) i l
  unfolding each each_answer
  each_answer_lem f i [] = refl
  each_answer_lem f i (a ∷ l) = answer_onward (f i a) (each f (suc i) l) _ (each_answer_lem f (suc i) l)

-- ---- what is left of a Hamiltonian at item i, whose texts start at place p
module _ (n : ℕ) (ns l : List ℕ) (xs : List Float) where
  abbrev pub reals_left : ℕ → ℕ → Answer
  reals_left i p = each_answer (λ k g. answer_of (read_real n k g)) i (real_items (parts (drop i ns) (drop p l)) (drop i xs))

  pub reals_start : answer_of (each (read_real n) 0 (real_items (parts ns l) xs)) ≡ reals_left 0 0
  reals_start = each_answer_lem (read_real n) 0 (real_items (parts ns l) xs)

  pub reals_end : (i p : ℕ) → length ns ≤ i → reals_left i p ≡ Ok tt
  reals_end i p h = each_end _ i _ (real_end ns (drop p l) xs i h)

  module _ (i p : ℕ) (inNs : i < length ns) (inXs : i < length xs) (a : Answer)
      (is : a ≡ answer_of (read_real n i (record { text = take (p + get_or ns i 0 - p) (drop p l); number = get_or xs i nan }))) where
    real_is : a ≡ answer_of (read_real n i (record { text = take (get_or ns i 0) (drop p l); number = get_or xs i nan }))
    real_is = is ∙ ap (λ (t : List ℕ). answer_of (read_real n i (record { text = t; number = get_or xs i nan }))) (part_is l p (get_or ns i 0) (p + get_or ns i 0) refl)

    pub reals_on : a ≡ Ok tt → reals_left i p ≡ reals_left (i + 1) (p + get_or ns i 0)
    reals_on h = each_on _ i _ _ _ (real_turn ns l xs i p inNs inXs) (sym real_is ∙ h)

    pub reals_stop : (r : Refusal) → a ≡ Err r → reals_left i p ≡ Err r
    reals_stop r h = each_stop _ i _ _ _ (real_turn ns l xs i p inNs inXs) r (sym real_is ∙ h)

-- ---- what is left of the terms of jump or operator at
module _ (n at : ℕ) (ns l : List ℕ) (xs : List Float) where
  abbrev pub terms_left : ℕ → ℕ → Answer
  terms_left i p = each_answer (λ _ g. answer_of (read_term n at g)) i (term_items (parts (drop i ns) (drop p l)) (complexes (drop (2 * i) xs)))

  pub terms_start : answer_of (read_terms n at (term_items (parts ns l) (complexes xs))) ≡ terms_left 0 0
  terms_start = each_answer_lem (λ _. read_term n at) 0 (term_items (parts ns l) (complexes xs))

  pub terms_end : (i p : ℕ) → length ns ≤ i → terms_left i p ≡ Ok tt
  terms_end i p h = each_end _ i _ (term_end ns (drop p l) (complexes (drop (2 * i) xs)) i h)

  module _ (i p : ℕ) (inNs : i < length ns) (inXs : 2 * i + 1 < length xs) (a : Answer)
      (is : a ≡ answer_of (read_term n at (record { text = take (p + get_or ns i 0 - p) (drop p l); number = record { re = get_or xs (2 * i) nan; im = get_or xs (2 * i + 1) nan } }))) where
    term_is : a ≡ answer_of (read_term n at (record { text = take (get_or ns i 0) (drop p l); number = record { re = get_or xs (2 * i) nan; im = get_or xs (2 * i + 1) nan } }))
    term_is =
        is
        ∙ ap (λ (t : List ℕ). answer_of (read_term n at (record { text = t; number = record { re = get_or xs (2 * i) nan; im = get_or xs (2 * i + 1) nan } })))
        (part_is l p (get_or ns i 0) (p + get_or ns i 0) refl)

    pub terms_on : a ≡ Ok tt → terms_left i p ≡ terms_left (i + 1) (p + get_or ns i 0)
    terms_on h = each_on _ i _ _ _ (term_turn ns l xs i p inNs inXs) (sym term_is ∙ h)

    pub terms_stop : (r : Refusal) → a ≡ Err r → terms_left i p ≡ Err r
    terms_stop r h = each_stop _ i _ _ _ (term_turn ns l xs i p inNs inXs) r (sym term_is ∙ h)

-- ---- what is left of the jumps at jump j, whose terms start at place t and their texts at place p
module _ (n : ℕ) (gs : List Float) (cs ns l : List ℕ) (xs : List Float) where
  abbrev pub jumps_left : ℕ → ℕ → ℕ → Answer
  jumps_left j t p =
      each_answer (λ k g. answer_of (read_jump n k g)) j
      (jump_items (drop j gs) (parts (drop j cs) (term_items (parts (drop t ns) (drop p l)) (complexes (drop (2 * t) xs)))))

  pub jumps_start : answer_of (each (read_jump n) 0 (jump_items gs (parts cs (term_items (parts ns l) (complexes xs))))) ≡ jumps_left 0 0 0
  jumps_start = each_answer_lem (read_jump n) 0 (jump_items gs (parts cs (term_items (parts ns l) (complexes xs))))

  pub jumps_end : (j t p : ℕ) → length cs ≤ j → jumps_left j t p ≡ Ok tt
  jumps_end j t p h = each_end _ j _ (jump_end gs cs _ j h)

  -- the parts that are tested for jump j, of k terms
  abbrev own : ℕ → ℕ → List ℕ
  own t k = take (t + k - t) (drop t ns)

  abbrev tested : ℕ → ℕ → ℕ → List GivenTerm
  tested t p k = term_items (parts (own t k) (take (length l - p) (drop p l))) (complexes (take (2 * t + 2 * k - 2 * t) (drop (2 * t) xs)))

  pub tested_is : (t p k : ℕ) → tested t p k ≡ term_items (parts (take k (drop t ns)) (drop p l)) (complexes (take (2 * k) (drop (2 * t) xs)))
  tested_is t p k =
      ap₂ term_items
      (ap₂ parts (part_is ns t k (t + k) refl) (rest_is l p))
      (ap complexes (part_is xs (2 * t) (2 * k) (2 * t + 2 * k) refl))

  module _ (j t p : ℕ) (inGs : j < length gs) (inCs : j < length cs) (a : Answer)
      (is : a ≡ answer_of (read_jump n j (record { rate = get_or gs j nan; terms = tested t p (get_or cs j 0) }))) where
    abbrev jump : List GivenTerm → Answer
    jump ts = answer_of (read_jump n j (record { rate = get_or gs j nan; terms = ts }))

    jump_is : a ≡ jump (term_items (parts (take (get_or cs j 0) (drop t ns)) (drop p l)) (complexes (take (2 * get_or cs j 0) (drop (2 * t) xs))))
    jump_is = is ∙ ap jump (tested_is t p (get_or cs j 0))

    pub jumps_on : a ≡ Ok tt → (sum : ℕ) → sum ≡ total (own t (get_or cs j 0)) → jumps_left j t p ≡ jumps_left (j + 1) (t + get_or cs j 0) (p + sum)
    jumps_on h sum e =
        each_on _ j _ _ _ (jump_turn gs cs ns l xs j t p inGs inCs) (sym jump_is ∙ h)
        ∙ ap (λ (q : ℕ). jumps_left (j + 1) (t + get_or cs j 0) (p + q)) (sym (e ∙ ap total (part_is ns t (get_or cs j 0) (t + get_or cs j 0) refl)))

    pub jumps_stop : (r : Refusal) → a ≡ Err r → jumps_left j t p ≡ Err r
    jumps_stop r h = each_stop _ j _ _ _ (jump_turn gs cs ns l xs j t p inGs inCs) r (sym jump_is ∙ h)
