-- SPDX-FileCopyrightText: 2026 The PPVM Authors
-- SPDX-License-Identifier: Apache-2.0

-- The answer for the operators of a matrix: those that are left after accepted ones answer for all. Assumes nothing.
use mathlib.Core.Path.{◌≡◌, refl, sym, ap, ap₂, ◌∙◌}
use mathlib.Core.List.{List, ◌∷◌}
use Prim.Native.Nat.{ℕ, suc, ◌+◌, ◌-◌, ◌*◌, ◌<◌, ◌≤◌}
use native.Mathlib.Numerals.{add-one}
use lib.Ieee.{Float}
use lib.ListN.{get_or, length, take, drop}
use lib.Seq.{drop-cons}
use Rattle.refusal.specs.declared.Refusal.{Refusal}
use Rattle.std.specs.Prelude.{Ok, Err}
use Rattle.refusal.specs.Cause.{Answer}
use Rattle.sums.specs.Numbers.{complexes}
use Rattle.model_build.specs.Given.{GivenTerm, read_operator}
use Rattle.model_build.specs.Built.{parts, term_items}
use Rattle.model_build.specs.Items.{answer_of}
use Rattle.model_build.proofs.Parts.{parts_end, part_is, terms_from, take_terms_from, drop_terms_from}
use Rattle.model_build.proofs.FirstRefusal.{each_answer, each_on, each_stop, each_end, each_answer_lem, tested_is}
use Rattle.lent.specs.Read.{each}
use Rattle.lent.specs.Laid.{total}

-- what is left of the operators at operator j, whose terms start at place t and their texts at place p
module _ (n : ℕ) (cs ns l : List ℕ) (xs : List Float) where
  abbrev pub operators_left : ℕ → ℕ → ℕ → Answer
  operators_left j t p = each_answer (λ k g. answer_of (read_operator n k g)) j (parts (drop j cs) (terms_from ns l xs t p))

  pub operators_start : answer_of (each (read_operator n) 0 (parts cs (term_items (parts ns l) (complexes xs)))) ≡ operators_left 0 0 0
  operators_start = each_answer_lem (read_operator n) 0 (parts cs (term_items (parts ns l) (complexes xs)))

  pub operators_end : (j t p : ℕ) → length cs ≤ j → operators_left j t p ≡ Ok tt
  operators_end j t p h = each_end _ j _ (parts_end cs _ j h)

  module _ (j t p : ℕ) (inCs : j < length cs) where
    -- the terms of operator j, and the lengths of their texts
    abbrev own : List ℕ
    own = take (get_or cs j 0) (drop t ns)

    abbrev terms : List GivenTerm
    terms = term_items (parts own (drop p l)) (complexes (take (2 * get_or cs j 0) (drop (2 * t) xs)))

    operator_turn : parts (drop j cs) (terms_from ns l xs t p) ≡ terms ∷ parts (drop (j + 1) cs) (terms_from ns l xs (t + get_or cs j 0) (p + total own))
    unfolding parts
    operator_turn =
        rw (add-one j, drop-cons cs j 0 inCs)
        (ap₂ (λ (a b : List GivenTerm). a ∷ parts (drop (suc j) cs) b) (take_terms_from ns l xs t p (get_or cs j 0)) (drop_terms_from ns l xs t p (get_or cs j 0)))

    module _ (a : Answer)
        (is : a ≡ answer_of (read_operator n j (term_items (parts (take (t + get_or cs j 0 - t) (drop t ns)) (take (length l - p) (drop p l)))
        (complexes (take (2 * t + 2 * get_or cs j 0 - 2 * t) (drop (2 * t) xs)))))) where
      operator_is : a ≡ answer_of (read_operator n j terms)
      operator_is = is ∙ ap (λ (ts : List GivenTerm). answer_of (read_operator n j ts)) (tested_is n xs cs ns l xs t p (get_or cs j 0))

      pub operators_on : a ≡ Ok tt → (sum : ℕ) → sum ≡ total (take (t + get_or cs j 0 - t) (drop t ns)) → operators_left j t p ≡ operators_left (j + 1) (t + get_or cs j 0) (p + sum)
      operators_on h sum e =
          each_on _ j _ _ _ operator_turn (sym operator_is ∙ h)
          ∙ ap (λ (q : ℕ). operators_left (j + 1) (t + get_or cs j 0) (p + q)) (sym (e ∙ ap total (part_is ns t (get_or cs j 0) (t + get_or cs j 0) refl)))

      pub operators_stop : (r : Refusal) → a ≡ Err r → operators_left j t p ≡ Err r
      operators_stop r h = each_stop _ j _ _ _ operator_turn r (sym operator_is ∙ h)
