-- SPDX-FileCopyrightText: 2026 The PPVM Authors
-- SPDX-License-Identifier: Apache-2.0

-- The predictor-corrector step over plain lists: leakage, admission, predictor, second leakage if there is room, corrector if anything
-- entered, prune, cap. Each part is what the call of its own does; here stands the order in which they follow one another.
use Rattle.std.specs.Prelude.{ℕ, ◌+◌, ◌-◌, cond, List, [], ◌++◌, map, eqb, ltb, leb, Float, length, replicate, Result, Ok, Err}
use Rattle.std.specs.Float.Ieee.{le}
use Rattle.refusal.specs.declared.Refusal.TheVariants.{TableFull}
use Rattle.word.specs.declared.word.Word.{Word}
use Rattle.number.specs.Floats.{float0}
use Rattle.order.specs.Magnitudes.{by_magnitude}
use Rattle.order.specs.Places.{is_among}
use Rattle.keep.specs.Retained.{pick, flagged}
use Rattle.keep.specs.Chosen.{chosen}
use Rattle.keep.specs.Pruned.{large_flags}
use Rattle.truncate.specs.Admissions.{admit_flags}
use Rattle.lent.specs.Read.{Read, got, refused, onward, refuse_if}
use Rattle.model.specs.Stored.{ModelTables}
use Rattle.model.specs.declared.stored.Model.{Model}
use Rattle.candidates.specs.Tables.{Rows}
use Rattle.passes.specs.Leaks.{candidates_of, above, words_of, sums_of}
use Rattle.limits.specs.Defaults.{limit_of, tau_of}
use Rattle.limits.specs.declared.Limits.{Limits}
use Rattle.columns.specs.Columns.{generator_room}
use Rattle.taylor.specs.Evolves.{Evolves}
use Rattle.refusal.specs.declared.Refusal.{Refusal}
use Rattle.evolution.specs.Evolutions.{room_then}

-- ---- what is lent, and what comes out
-- places of table 1, words touched by one action; of table 2, candidates; and of what is table 3 in its turn: a leakage list, the basis
-- that admission appends to, the entries of the matrix
pub record Places : Type 0 where
  pub touched : ℕ
  pub candidates : ℕ
  pub listed : ℕ
  pub basis : ℕ
  pub entries : ℕ

-- numbers evolved, by so many matrix products
pub record Outcome : Type 0 where
  pub numbers : List Float
  pub products : ℕ

-- a basis, and how many matrix products it took
pub record Stepped : Type 0 where
  pub words : List Word
  pub numbers : List Float
  pub products : ℕ

-- ---- the course, over any way in which words enter and numbers evolve
-- the numbers given, with a zero for each word that entered
abbrev pub with_zeros : List Float → List Word → List Float
with_zeros cs ws = cs ++ replicate (length ws - length cs) float0

module _ (entering : List Word → List Float → Read (List Word)) (evolving : List Word → List Float → Read Outcome) (limit : ℕ) where
  -- the second hop, from the predicted numbers, if there is room
  unfoldable pub second_hop : List Word → List Float → Read (List Word)
  second_hop ws predicted = cond (ltb (length ws) limit) (entering ws predicted) (got [])

  -- the corrector, if anything entered: from the numbers given, with zeros for the words of both hops
  unfoldable pub corrector : List Float → List Word → Outcome → List Word → Read Stepped
  corrector cs ws predicted second =
      cond (eqb (length second) 0)
      (got (record { words = ws; numbers = predicted.numbers; products = predicted.products }))
      (onward (evolving (ws ++ second) (with_zeros cs (ws ++ second)))
      (λ corrected. got (record { words = ws ++ second; numbers = corrected.numbers; products = predicted.products + corrected.products })))

  -- the predictor, and what follows it, over the words after the first hop
  unfoldable pub predictor : List Float → List Word → Read Stepped
  predictor cs ws = onward (evolving ws (with_zeros cs ws)) (λ predicted. onward (second_hop ws predicted.numbers) (corrector cs ws predicted))

  -- the first hop, room or not, and what follows it
  unfoldable pub course_by : List Word → List Float → Read Stepped
  course_by ws cs = onward (entering ws cs) (λ first. predictor cs (ws ++ first))

-- ---- the end: which entries stay
module _ (protected : List Word) where
  -- 1 for each word that is protected
  abbrev pub protected_in : List Word → List ℕ
  protected_in ws = map (λ w. cond (is_among w protected) 1 0) ws

  -- the entries whose flag is not 0, in order
  abbrev pub kept_by : List ℕ → Stepped → Stepped
  kept_by flags s = record { words = pick flags s.words; numbers = pick flags s.numbers; products = s.products }

  -- magnitude at least drop_tol, or protected; nothing if drop_tol ≤ 0
  unfoldable pub pruned_by : Float → Stepped → Stepped
  pruned_by tol s = cond (le tol float0) s (kept_by (large_flags tol s.numbers (protected_in s.words)) s)

  -- the protected, and the largest others, as many as the limit leaves slots; nothing at or under the limit
  unfoldable pub capped_by : ℕ → Stepped → Stepped
  capped_by limit s =
      let fixed : List ℕ = protected_in s.words in
      cond (leb (length s.words) limit) s (kept_by (chosen (by_magnitude s.numbers) fixed (limit - flagged fixed)) s)

-- ---- of a model
module _ (m : Model) (t : ModelTables) (protected : List Word) (dt : Float) (places : Places) where
  -- leakage and admission: the listed words that find room, in listed order
  unfoldable pub admitted : ℕ → List Word → Rows → Read (List Word)
  admitted limit ws list =
      let entered : List Word = pick (admit_flags (length ws) (sums_of list) limit) (words_of list) in
      refuse_if (ltb places.basis (length ws + length entered)) (TableFull 3 places.basis) (got entered)

  unfoldable pub leakage : ℕ → Float → List Word → List Float → Read Rows
  leakage limit tau ws cs =
      onward (candidates_of m t ws cs protected places.touched places.candidates (limit - length ws))
      (λ held. refuse_if (ltb places.listed (length (above tau held))) (TableFull 3 places.listed) (got (above tau held)))

  abbrev pub hop : ℕ → Float → List Word → List Float → Read (List Word)
  hop limit tau ws cs = onward (leakage limit tau ws cs) (admitted limit ws)

  -- the evolution over the generator of the words
  abbrev pub outcome_of : List Float → Result ℕ Refusal → Read Outcome
  outcome_of out (Ok k) = got (record { numbers = out; products = k })
  outcome_of out (Err r) = refused r

  unfoldable pub evolution : Float → List Word → List Float → Read Outcome
  evolution dropTol ws cs =
      let e : Evolves = room_then m t ws (length ws) cs dt dropTol (generator_room m t ws places.touched places.entries) cs in
      outcome_of e.out e.answer

  -- room counts against admit_basis, the cap goes by max_basis, the table follows drop_tol
  unfoldable pub course_of : Limits → Float → List Word → List Float → Read Stepped
  course_of l dropTol = course_by (hop (limit_of l) (tau_of l)) (evolution dropTol) (limit_of l)

  -- the basis that the cap gets
  unfoldable pub before_cap : Limits → Float → List Word → List Float → Read Stepped
  before_cap l dropTol ws cs = onward (course_of l dropTol ws cs) (λ s. got (pruned_by protected dropTol s))

  unfoldable pub step_of : Limits → Float → List Word → List Float → Read Stepped
  step_of l dropTol ws cs = onward (before_cap l dropTol ws cs) (λ s. got (capped_by protected l.max_basis s))
