-- SPDX-FileCopyrightText: 2026 The PPVM Authors
-- SPDX-License-Identifier: Apache-2.0

-- A leakage list is never longer than the room, so that admission appends all of it. Assumes nothing.
use mathlib.Core.Path.{◌≡◌, sym, ap, ◌∙◌}
use mathlib.Core.Bool.{Bool, true, false, cond}
use mathlib.Core.List.{List, [], ◌∷◌}
use Prim.Native.Nat.{ℕ, zero, suc, ◌+◌, ◌-◌, ◌≤◌}
use native.Mathlib.Omega.{arith}
use lib.Dec.{ltb}
use lib.Ieee.{Float}
use lib.ListN.{length, take, drop, replicate, length-map, length-replicate}
use Rattle.refusal.specs.declared.Refusal.{Refusal}
use Rattle.refusal.specs.declared.Refusal.TheVariants.{TableFull}
use Rattle.word.specs.declared.word.Word.{Word}
use Rattle.order.specs.Magnitudes.{by_magnitude}
use Rattle.keep.specs.Retained.{pick}
use Rattle.keep.specs.Chosen.{chosen}
use Rattle.keep.proofs.ChosenLaws.{chosen_unfixed}
use Rattle.keep.proofs.OrderOnce.{magnitude_once}
use Rattle.truncate.specs.Admissions.{admit_flags}
use Rattle.lent.specs.Read.{Read, got, refuse_if}
use Rattle.lent.specs.Tests.{first_to}
use Rattle.lent.specs.Numbers.{not_finite}
use Rattle.model.specs.Stored.{ModelTables}
use Rattle.model.specs.declared.stored.Model.{Model}
use Rattle.candidates.specs.Tables.{Rows}
use Rattle.passes.specs.Leaks.{taken_by, ended, largest, pass_size, passes, candidates_of, above, words_of, sums_of}
use Rattle.passes.proofs.RoomLaws.{largest_count}
use Rattle.limits.specs.Defaults.{is_above}
use Rattle.step_laws.specs.Steps.{Places, leakage, admitted, hop}
use Rattle.step_laws.specs.Kept.{AllEnter}
use Rattle.step_laws.proofs.CourseLaws.{no_value, same_value, through}
use Rattle.step_laws.proofs.EndLaws.{chosen_long}
use Rattle.step_laws.proofs.RankLaws.{flagged_gap}
use Rattle.step_laws.proofs.PlaceLaws.{pick_all}

-- what was not refused
pub not_refused : {A : Type 0} (b : Bool) (q : Refusal) (after : Read A) (a : A) → refuse_if b q after ≡ got a → after ≡ got a
not_refused true q after a e = absurd (no_value q a e)
not_refused false q after a e = e

-- ---- the list is no longer than the room
ended_few : (room : ℕ) (T S : Rows) → ended room T ≡ got S → length S ≤ room
unfolding ended
ended_few room T S e =
    let i = same_value (largest room T) S (not_refused (ltb (first_to (length T) (not_finite (sums_of T))) (length T)) _ (got (largest room T)) S e) in
    omega (arith, ap length i, largest_count room T)

passes_few : (touched : ℕ → ℕ) (leaks : ℕ → Rows) (sumRoom candidateRoom room k : ℕ) (ps : List ℕ) (T S : Rows) → length T ≤ room → passes touched leaks sumRoom candidateRoom room k ps T ≡ got S → length S ≤ room
unfolding passes
passes_few touched leaks sumRoom candidateRoom room zero ps T S h e = omega (arith, h, ap length (same_value T S e))
passes_few touched leaks sumRoom candidateRoom room (suc k) ps T S h e =
    let a = through (taken_by touched leaks sumRoom candidateRoom (take pass_size ps) T) _ S e in
    let b = through (ended room a.value) (passes touched leaks sumRoom candidateRoom room k (drop pass_size ps)) S a.behind in
    passes_few touched leaks sumRoom candidateRoom room k (drop pass_size ps) b.value S (ended_few room a.value b.value b.before) b.behind

pub above_few : (tau : Float) (T : Rows) → length (above tau T) ≤ length T
unfolding above
above_few tau [] = omega arith
above_few tau (r ∷ T) = go (is_above tau r.sum) (above_few tau T)
  where
    go : (b : Bool) → length (above tau T) ≤ length T → length (cond b (r ∷ above tau T) (above tau T)) ≤ suc (length T)
    go true h = omega arith
    go false h = omega arith

-- ---- with room for all, all are appended
all_admitted : (len limit : ℕ) (list : Rows) → length list ≤ limit - len → pick (admit_flags len (sums_of list) limit) (words_of list) ≡ words_of list
unfolding admit_flags
all_admitted len limit list h =
    let n : length (sums_of list) ≡ length list = length-map list (λ r. r.sum) in
    let w : length (words_of list) ≡ length list = length-map list (λ r. r.word) in
    let l : length (chosen (by_magnitude (sums_of list)) (replicate (length (sums_of list)) 0) (limit - len)) ≡ length (sums_of list) =
    chosen_long (by_magnitude (sums_of list)) (replicate (length (sums_of list)) 0) (limit - len) ∙ length-replicate (length (sums_of list)) 0 in
    let c = chosen_unfixed (length (sums_of list)) (by_magnitude (sums_of list)) (magnitude_once (sums_of list)) (limit - len) in
    pick_all (chosen (by_magnitude (sums_of list)) (replicate (length (sums_of list)) 0) (limit - len)) (words_of list) (omega (arith, n, w, l))
    (λ p i z. omega (arith, n, l, c, h, flagged_gap (chosen (by_magnitude (sums_of list)) (replicate (length (sums_of list)) 0) (limit - len)) p (omega (arith, i, w, n, l)) z))

module _ (m : Model) (t : ModelTables) (protected : List Word) (dt : Float) (places : Places) (limit : ℕ) (tau : Float) (ws : List Word) (cs : List Float) where
  pub list_few : (list : Rows) → leakage m t protected dt places limit tau ws cs ≡ got list → length list ≤ limit - length ws
  unfolding leakage candidates_of
  list_few list e =
      let a = through (candidates_of m t ws cs protected places.touched places.candidates (limit - length ws)) _ list e in
      let i = same_value (above tau a.value) list (not_refused (ltb places.listed (length (above tau a.value))) _ (got (above tau a.value)) list a.behind) in
      omega (arith, ap length i, above_few tau a.value, passes_few _ _ places.touched places.candidates (limit - length ws) _ _ [] a.value (omega arith) a.before)

  pub all_enter : (entered : List Word) → hop m t protected dt places limit tau ws cs ≡ got entered → AllEnter (leakage m t protected dt places limit tau ws cs) (limit - length ws) entered
  unfolding admitted
  all_enter entered e =
      let a = through (leakage m t protected dt places limit tau ws cs) (admitted m t protected dt places limit ws) entered e in
      let few = list_few a.value a.before in
      let i = same_value (pick (admit_flags (length ws) (sums_of a.value) limit) (words_of a.value)) entered
      (not_refused (ltb places.basis (length ws + length (pick (admit_flags (length ws) (sums_of a.value) limit) (words_of a.value)))) (TableFull 3 places.basis) _ entered a.behind) in
      record { list = a.value; listed = a.before; few = few; all = sym i ∙ all_admitted (length ws) limit a.value few }
