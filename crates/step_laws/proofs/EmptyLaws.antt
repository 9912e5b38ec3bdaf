-- SPDX-FileCopyrightText: 2026 The PPVM Authors
-- SPDX-License-Identifier: Apache-2.0

-- The step of an empty basis: an empty basis, by no product, whatever is lent. Assumes nothing.
use mathlib.Core.Path.{◌≡◌, refl, ap, ◌∙◌}
use mathlib.Core.Bool.{Bool, true, false, cond}
use mathlib.Core.List.{List, [], ◌∷◌, ◌++◌}
use Prim.Native.Nat.{ℕ, ◌+◌, ◌-◌}
use native.Mathlib.Omega.{arith}
use borrow.Author.Tests.{le-ltb, le-leb}
use lib.Dec.{ltb}
use lib.Ieee.{Float, le}
use lib.ListN.{length}
use Rattle.refusal.specs.declared.Refusal.TheVariants.{TableFull}
use Rattle.word.specs.declared.word.Word.{Word}
use Rattle.number.specs.Floats.{float0}
use Rattle.order.specs.Magnitudes.{by_magnitude}
use Rattle.keep.specs.Retained.{pick, flagged}
use Rattle.keep.specs.Chosen.{chosen}
use Rattle.keep.specs.Pruned.{large_flags}
use Rattle.truncate.specs.Admissions.{admit_flags}
use Rattle.lent.specs.Read.{Read, got, onward, refuse_if}
use Rattle.model.specs.Stored.{ModelTables}
use Rattle.model.specs.declared.stored.Model.{Model}
use Rattle.candidates.specs.Tables.{Rows}
use Rattle.passes.specs.Leaks.{passes, candidates_of, above}
use Rattle.limits.specs.Defaults.{limit_of, tau_of}
use Rattle.limits.specs.declared.Limits.{Limits}
use Rattle.columns.specs.Columns.{column_tests, generator_room}
use Rattle.taylor.specs.Evolves.{evolve_by}
use Rattle.step_laws.specs.Steps.{Places, Outcome, Stepped, second_hop, corrector, predictor, course_by, kept_by, pruned_by, capped_by, leakage, admitted, hop, evolution, course_of, before_cap, step_of}

module _ (m : Model) (t : ModelTables) (protected : List Word) (dt : Float) (places : Places) where
  abbrev none : Stepped
  none = record { words = []; numbers = []; products = 0 }

  never : (n : ℕ) → ltb n 0 ≡ false
  never n = le-ltb n 0 (omega arith)

  leaks_none : (limit : ℕ) (tau : Float) → leakage m t protected dt places limit tau [] [] ≡ got []
  unfolding leakage candidates_of passes above
  leaks_none limit tau = ap (λ (b : Bool). refuse_if b (TableFull 3 places.listed) (got [])) (never places.listed)

  pick_none : (ks : List ℕ) → pick {A = Word} ks [] ≡ []
  unfolding pick
  pick_none [] = refl
  pick_none (k ∷ ks) = refl

  admits_none : (limit : ℕ) → admitted m t protected dt places limit [] [] ≡ got []
  unfolding admitted
  admits_none limit =
      ap (λ (ws : List Word). refuse_if (ltb places.basis (0 + length ws)) (TableFull 3 places.basis) (got ws)) (pick_none (admit_flags 0 [] limit))
      ∙ ap (λ (b : Bool). refuse_if b (TableFull 3 places.basis) (got [])) (never places.basis)

  pub hop_none : (limit : ℕ) (tau : Float) → hop m t protected dt places limit tau [] [] ≡ got []
  hop_none limit tau = ap (λ (r : Read Rows). onward r (admitted m t protected dt places limit [])) (leaks_none limit tau) ∙ admits_none limit

  evolves_none : (dropTol : Float) → evolution m t protected dt places dropTol [] [] ≡ got (record { numbers = []; products = 0 })
  unfolding evolution generator_room column_tests evolve_by
  evolves_none dropTol = refl

  module _ (l : Limits) (dropTol : Float) where
    abbrev entering : List Word → List Float → Read (List Word)
    entering = hop m t protected dt places (limit_of l) (tau_of l)

    abbrev evolving : List Word → List Float → Read Outcome
    evolving = evolution m t protected dt places dropTol

    second_none : second_hop entering evolving (limit_of l) [] [] ≡ got []
    unfolding second_hop
    second_none = go (ltb 0 (limit_of l))
      where
        go : (b : Bool) → cond b (entering [] []) (got []) ≡ got []
        go true = hop_none (limit_of l) (tau_of l)
        go false = refl

    predicts_none : predictor entering evolving (limit_of l) [] [] ≡ got none
    unfolding predictor corrector
    predicts_none =
        ap (λ (r : Read Outcome). onward r (λ o. onward (second_hop entering evolving (limit_of l) [] o.numbers) (corrector entering evolving (limit_of l) [] [] o))) (evolves_none dropTol)
        ∙ ap (λ (r : Read (List Word)). onward r (corrector entering evolving (limit_of l) [] [] (record { numbers = []; products = 0 }))) second_none

    course_none : course_of m t protected dt places l dropTol [] [] ≡ got none
    unfolding course_of course_by
    course_none = ap (λ (r : Read (List Word)). onward r (λ first. predictor entering evolving (limit_of l) [] ([] ++ first))) (hop_none (limit_of l) (tau_of l)) ∙ predicts_none

    prune_none : pruned_by protected dropTol none ≡ none
    unfolding pruned_by large_flags pick
    prune_none = go (le dropTol float0)
      where
        go : (b : Bool) → cond b none (kept_by protected (large_flags dropTol [] []) none) ≡ none
        go true = refl
        go false = refl

    cap_none : capped_by protected l.max_basis none ≡ none
    unfolding capped_by
    cap_none = ap (λ (b : Bool). cond b none (kept_by protected (chosen (by_magnitude []) [] (l.max_basis - flagged [])) none)) (le-leb 0 l.max_basis (omega arith))

    pub empty_step : step_of m t protected dt places l dropTol [] [] ≡ got (record { words = []; numbers = []; products = 0 })
    unfolding step_of before_cap
    empty_step =
        ap (λ (r : Read Stepped). onward (onward r (λ g. got (pruned_by protected dropTol g))) (λ b. got (capped_by protected l.max_basis b))) course_none
        ∙ ap (λ (s : Stepped). got (capped_by protected l.max_basis s)) prune_none
        ∙ ap got cap_none
