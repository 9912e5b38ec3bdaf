-- SPDX-FileCopyrightText: 2026 The PPVM Authors
-- SPDX-License-Identifier: Apache-2.0

-- A step is turned away for 13, 14 and 16 only. Assumes nothing.
use mathlib.Core.Path.{◌≡◌, subst}
use mathlib.Core.Bool.{Bool, true, false, cond}
use mathlib.Core.List.{List, [], ◌∷◌, ◌++◌, map}
use Prim.Native.Nat.{ℕ, zero, suc, ◌+◌, ◌-◌, ◌*◌}
use lib.Dec.{eqb, ltb}
use lib.Ieee.{Float}
use lib.ListN.{length, take, drop}
use Rattle.refusal.specs.declared.Refusal.{Refusal}
use Rattle.refusal.specs.declared.Refusal.TheVariants.{TableFull, SumNotFinite, TooManyProducts}
use Rattle.std.specs.Prelude.{Result, Ok, Err}
use Rattle.refusal.specs.Cause.{Answer}
use Rattle.word.specs.declared.word.Word.{Word}
use Rattle.number.specs.Floats.{floats, magnitude}
use Rattle.keep.specs.Retained.{pick}
use Rattle.truncate.specs.Admissions.{admit_flags}
use Rattle.lent.specs.Tests.{first_to}
use Rattle.lent.specs.Numbers.{not_finite}
use Rattle.lent.specs.Read.{Read, got, refused, onward, refuse_if}
use Rattle.model.specs.Stored.{ModelTables}
use Rattle.model.specs.Terms.{Term}
use Rattle.model.specs.declared.stored.Model.{Model}
use Rattle.candidates.specs.Tables.{Rows, put_rows}
use Rattle.passes.specs.Leaks.{taken_by, ended, largest, pass_size, passes, candidates_of, above, words_of, sums_of}
use Rattle.limits.specs.Defaults.{limit_of, tau_of}
use Rattle.limits.specs.declared.Limits.{Limits}
use Rattle.columns.specs.Columns.{column_entries, column_tests, generator_of, generator_room, room_for}
use Rattle.columns.specs.Entries.{Entry}
use Rattle.csr_build.specs.Rows.{rows_to, offsets_of}
use Rattle.raw_norm.specs.Unshifted.{unshifted_norm}
use Rattle.action.specs.Acts.{action_of}
use Rattle.action.specs.Counts.{touched_by}
use Rattle.expm.specs.Selects.{under_ceiling, degree_by, table_for, max_products, cost, chosen}
use Rattle.expm.specs.declared.Degree.{Degree}
use Rattle.taylor.specs.Stages.{Evolution, evolved, stopped, stages}
use Rattle.taylor.specs.Evolves.{answer_after, evolve_with, evolve_by}
use Rattle.evolution.specs.Evolutions.{room_then, by_generator}
use Rattle.step_laws.specs.Steps.{Places, Outcome, Stepped, with_zeros, second_hop, corrector, predictor, course_by, admitted, leakage, hop, outcome_of, evolution, course_of, before_cap, step_of}
use Rattle.step_laws.specs.Kept.{Turned, full, sum_not_finite, many_products}

-- what is refused is refused for one of the three
abbrev Turns : {A : Type 0} → Read A → Type 0
Turns (got a) = Unit {0}
Turns (refused q) = Turned q

abbrev AnswerTurns : Answer → Type 0
AnswerTurns (Ok _) = Unit {0}
AnswerTurns (Err q) = Turned q

abbrev EvolvedTurns : Result ℕ Refusal → Type 0
EvolvedTurns (Ok k) = Unit {0}
EvolvedTurns (Err q) = Turned q

onward_turns : {A B : Type 0} (r : Read A) (f : A → Read B) → Turns r → ((a : A) → Turns (f a)) → Turns (onward r f)
onward_turns (got a) f h g = g a
onward_turns (refused q) f h g = h

refuse_turns : {A : Type 0} (b : Bool) (q : Refusal) (after : Read A) → Turned q → Turns after → Turns (refuse_if b q after)
refuse_turns true q after h g = h
refuse_turns false q after h g = g

-- ---- leakage
taken_turns : (touched : ℕ → ℕ) (leaks : ℕ → Rows) (sumRoom candidateRoom : ℕ) (ps : List ℕ) (T : Rows) → Turns (taken_by touched leaks sumRoom candidateRoom ps T)
unfolding taken_by
taken_turns touched leaks sumRoom candidateRoom [] T = tt
taken_turns touched leaks sumRoom candidateRoom (p ∷ ps) T =
    refuse_turns (ltb sumRoom (touched p)) (TableFull 1 sumRoom) _ (full 1 sumRoom)
    (refuse_turns (ltb candidateRoom (length (put_rows (leaks p) T))) (TableFull 2 candidateRoom) _ (full 2 candidateRoom) (taken_turns touched leaks sumRoom candidateRoom ps (put_rows (leaks p) T)))

ended_turns : (room : ℕ) (T : Rows) → Turns (ended room T)
unfolding ended
ended_turns room T =
    refuse_turns (ltb (first_to (length T) (not_finite (sums_of T))) (length T)) (SumNotFinite (first_to (length T) (not_finite (sums_of T)))) (got (largest room T)) (sum_not_finite (first_to (length T) (not_finite (sums_of T)))) tt

passes_turn : (touched : ℕ → ℕ) (leaks : ℕ → Rows) (sumRoom candidateRoom room k : ℕ) (ps : List ℕ) (T : Rows) → Turns (passes touched leaks sumRoom candidateRoom room k ps T)
unfolding passes
passes_turn touched leaks sumRoom candidateRoom room zero ps T = tt
passes_turn touched leaks sumRoom candidateRoom room (suc k) ps T =
    onward_turns (taken_by touched leaks sumRoom candidateRoom (take pass_size ps) T) _ (taken_turns touched leaks sumRoom candidateRoom (take pass_size ps) T)
    (λ T'. onward_turns (ended room T') (passes touched leaks sumRoom candidateRoom room k (drop pass_size ps)) (ended_turns room T') (passes_turn touched leaks sumRoom candidateRoom room k (drop pass_size ps)))

-- ---- the matrix
column_turns : (touched : Word → ℕ) (act : Word → List Term) (bs : List Word) (sumRoom entryRoom c before : ℕ) (ps : List Word) → AnswerTurns (column_tests touched act bs sumRoom entryRoom c before ps)
unfolding column_tests
column_turns touched act bs sumRoom entryRoom c before [] = tt
column_turns touched act bs sumRoom entryRoom c before (p ∷ ps) =
    room 1 sumRoom (touched p) _ (room 3 entryRoom _ _ (column_turns touched act bs sumRoom entryRoom (suc c) (before + length (column_entries bs c (act p))) ps))
  where
    room : (table places needed : ℕ) (after : Answer) → AnswerTurns after → AnswerTurns (room_for table places needed after)
    room table places needed after h = go (ltb places needed)
      where
        go : (b : Bool) → AnswerTurns (cond b (Err (TableFull table places)) after)
        go true = full table places
        go false = h

-- ---- the evolution
evolve_turns : (offsets columns : List ℕ) (values : List Float) (dt : Float) (cs out : List Float) (norm dropTol : Float) → EvolvedTurns (evolve_by offsets columns values dt cs out norm dropTol).answer
unfolding evolve_by chosen under_ceiling
evolve_turns offsets columns values dt cs out norm dropTol = go (eqb (length cs) 0)
  where
    stage_turns : (k : ℕ) (e : Evolution) → EvolvedTurns (answer_after k e)
    stage_turns k (evolved v) = tt
    stage_turns k (stopped r) = sum_not_finite r

    pair : (d : Degree) (b : Bool) → EvolvedTurns (evolve_with offsets columns values dt cs out (cond b (Err (TooManyProducts d.m d.s)) (Ok d))).answer
    pair d true = many_products d.m d.s
    pair d false = stage_turns (d.m * d.s) (stages offsets columns values d.m d.s dt d.s cs)

    go : (b : Bool) → EvolvedTurns (cond b (record { answer = Ok 0; out = out }) (evolve_with offsets columns values dt cs out (chosen dropTol (floats.times (magnitude dt) norm)))).answer
    go true = tt
    go false = pair (degree_by (table_for dropTol) (floats.times (magnitude dt) norm)) (ltb max_products (cost (degree_by (table_for dropTol) (floats.times (magnitude dt) norm))))

-- ---- the course
module _ (entering : List Word → List Float → Read (List Word)) (evolving : List Word → List Float → Read Outcome) (limit : ℕ) (enters : (ws : List Word) (cs : List Float) → Turns (entering ws cs))
    (evolves : (ws : List Word) (cs : List Float) → Turns (evolving ws cs)) where
  second_turns : (ws : List Word) (cs : List Float) → Turns (second_hop entering evolving limit ws cs)
  unfolding second_hop
  second_turns ws cs = go (ltb (length ws) limit)
    where
      go : (b : Bool) → Turns (cond b (entering ws cs) (got []))
      go true = enters ws cs
      go false = tt

  corrector_turns : (cs : List Float) (ws : List Word) (predicted : Outcome) (second : List Word) → Turns (corrector entering evolving limit cs ws predicted second)
  unfolding corrector
  corrector_turns cs ws predicted second = go (eqb (length second) 0)
    where
      go : (b : Bool)
          → Turns {A = Stepped} (cond b (got (record { words = ws; numbers = predicted.numbers; products = predicted.products }))
          (onward (evolving (ws ++ second) (with_zeros cs (ws ++ second)))
          (λ corrected. got (record { words = ws ++ second; numbers = corrected.numbers; products = predicted.products + corrected.products }))))
      go true = tt
      go false = onward_turns (evolving (ws ++ second) (with_zeros cs (ws ++ second))) _ (evolves (ws ++ second) (with_zeros cs (ws ++ second))) (λ o. tt)

  predictor_turns : (cs : List Float) (ws : List Word) → Turns (predictor entering evolving limit cs ws)
  unfolding predictor
  predictor_turns cs ws =
      onward_turns (evolving ws (with_zeros cs ws)) _ (evolves ws (with_zeros cs ws))
      (λ o. onward_turns (second_hop entering evolving limit ws o.numbers) (corrector entering evolving limit cs ws o) (second_turns ws o.numbers) (corrector_turns cs ws o))

  course_turns : (ws : List Word) (cs : List Float) → Turns (course_by entering evolving limit ws cs)
  unfolding course_by
  course_turns ws cs = onward_turns (entering ws cs) (λ (first : List Word). predictor entering evolving limit cs (ws ++ first)) (enters ws cs) (λ first. predictor_turns cs (ws ++ first))

-- ---- of a model
module _ (m : Model) (t : ModelTables) (protected : List Word) (dt : Float) (places : Places) where
  leakage_turns : (limit : ℕ) (tau : Float) (ws : List Word) (cs : List Float) → Turns (leakage m t protected dt places limit tau ws cs)
  unfolding leakage candidates_of
  leakage_turns limit tau ws cs =
      onward_turns (candidates_of m t ws cs protected places.touched places.candidates (limit - length ws)) _ (passes_turn _ _ places.touched places.candidates (limit - length ws) _ _ [])
      (λ held. refuse_turns (ltb places.listed (length (above tau held))) _ _ (full 3 places.listed) tt)

  admitted_turns : (limit : ℕ) (ws : List Word) (list : Rows) → Turns (admitted m t protected dt places limit ws list)
  unfolding admitted
  admitted_turns limit ws list =
      let entered : List Word = pick (admit_flags (length ws) (sums_of list) limit) (words_of list) in
      refuse_turns (ltb places.basis (length ws + length entered)) (TableFull 3 places.basis) (got entered) (full 3 places.basis) tt

  evolution_turns : (dropTol : Float) (ws : List Word) (cs : List Float) → Turns (evolution m t protected dt places dropTol ws cs)
  unfolding evolution generator_room
  evolution_turns dropTol ws cs =
      go (generator_room m t ws places.touched places.entries) (column_turns (touched_by m t) (action_of m t) ws places.touched places.entries 0 0 ws)
    where
      answers : (out : List Float) (a : Result ℕ Refusal) → EvolvedTurns a → Turns (outcome_of m t protected dt places out a)
      answers out (Ok k) h = tt
      answers out (Err q) h = h

      go : (a : Answer) → AnswerTurns a → Turns (outcome_of m t protected dt places (room_then m t ws (length ws) cs dt dropTol a cs).out (room_then m t ws (length ws) cs dt dropTol a cs).answer)
      go (Ok _) h =
          let E : List Entry = generator_of m t ws in
          answers (by_generator m t ws (length ws) cs dt dropTol cs).out (by_generator m t ws (length ws) cs dt dropTol cs).answer
          (evolve_turns (offsets_of (length ws) E) (map (λ e. e.column) (rows_to (length ws) E)) (map (λ e. e.value) (rows_to (length ws) E)) dt cs cs (unshifted_norm m t ws) dropTol)
      go (Err q) h = h

  step_turns : (l : Limits) (dropTol : Float) (ws : List Word) (cs : List Float) → Turns (step_of m t protected dt places l dropTol ws cs)
  unfolding step_of before_cap course_of
  step_turns l dropTol ws cs =
      onward_turns (before_cap m t protected dt places l dropTol ws cs) _
      (onward_turns (course_of m t protected dt places l dropTol ws cs) _
      (course_turns (hop m t protected dt places (limit_of l) (tau_of l)) (evolution m t protected dt places dropTol) (limit_of l)
      (λ us ns. onward_turns (leakage m t protected dt places (limit_of l) (tau_of l) us ns) (admitted m t protected dt places (limit_of l) us) (leakage_turns (limit_of l) (tau_of l) us ns) (admitted_turns (limit_of l) us))
      (evolution_turns dropTol) ws cs) (λ g. tt)) (λ b. tt)

  -- 13, 14, 16
  pub turned_away : (l : Limits) (dropTol : Float) (ws : List Word) (cs : List Float) (q : Refusal) → step_of m t protected dt places l dropTol ws cs ≡ refused q → Turned q
  turned_away l dropTol ws cs q e = subst (λ (r : Read Stepped). Turns r) e (step_turns l dropTol ws cs)
