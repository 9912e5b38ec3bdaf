-- SPDX-FileCopyrightText: 2026 The PPVM Authors
-- SPDX-License-Identifier: Apache-2.0

-- Contracts between functions: which part of a step is due, and how far it has come.
use Rattle.std.specs.Prelude.{ℕ, ◌+◌, ◌/◌, ◌≤◌, ◌<◌, ◌≡◌, true, cond, List, eqb, leb, Float, length, take, Result, Ok, Err}
use Rattle.refusal.specs.declared.Refusal.{Refusal}
use Rattle.step_parts.specs.declared.taken.Step.{Step}
use Rattle.refusal.specs.Cause.{Answer}
use Rattle.word.specs.Flat.{words, word_lanes}
use Rattle.word.specs.declared.word.Word.{Word}
use Rattle.model.specs.Stored.{ModelTables}
use Rattle.model.specs.declared.stored.Model.{Model}
use Rattle.lent.specs.Read.{Read}
use Rattle.limits.specs.Defaults.{limit_of, tau_of}
use Rattle.limits.specs.declared.Limits.{Limits}
use Rattle.step_laws.specs.Steps.{Places, Outcome, Stepped, course_by, hop, evolution}
use Rattle.step_parts.specs.Lent.{Work, places_of, grown_places, step_tests}
use Rattle.step_parts.specs.Between.{SameLong, shared_of, none, Holds, Hops, leg_by, Ends, Told}
use Rattle.step.specs.Calls.{step}

-- ---- the parts by their numbers
-- after the predictor, part 2: the second hop if there is room, else the end
abbrev pub after_first : ℕ → Result Step Refusal → ℕ
after_first limit (Ok step) = cond (leb limit step.entries) 5 3
after_first limit (Err q) = 5

unfoldable pub due_of : (part limit : ℕ) → Result Step Refusal → ℕ
due_of part limit taken = cond (eqb part 3) (after_first limit taken) part

abbrev pub entries_in : Result Step Refusal → ℕ
entries_in (Ok step) = step.entries
entries_in (Err q) = 0

abbrev pub products_in : Result Step Refusal → ℕ
products_in (Ok step) = step.products
products_in (Err q) = 0

abbrev pub added_to : Result Step Refusal → Result Step Refusal → Result Step Refusal
added_to taken (Ok step) = Ok (record { entries = step.entries; products = (products_in taken + step.products) })
added_to taken (Err q) = Err q

-- ---- what a step was given
pub record Start : Type 0 where
  pub model : Model
  pub tables : ModelTables
  pub lanes : List ℕ
  pub coeffs : List Float
  pub len : ℕ
  pub protected : List ℕ
  pub limits : Limits
  pub dt : Float
  pub drop_tol : Float
  pub work : Work

abbrev pub start_of : Model → ModelTables → List ℕ → List Float → ℕ → List ℕ → Limits → Float → Float → Work → Start
start_of m t lanes coeffs len protected l dt dropTol w = record { model = m; tables = t; lanes = lanes; coeffs = coeffs; len = len; protected = protected; limits = l; dt = dt; drop_tol = dropTol; work = w }

module _ (s : Start) where
  abbrev pub tests_of : Answer
  tests_of = step_tests s.model s.tables s.lanes s.coeffs s.len s.protected s.limits s.dt s.drop_tol (length s.work.h_index) (length s.work.j_index) (length s.work.mask) (length s.work.order) (length s.work.heads) (length s.work.nexts) (length s.work.place_order) (length s.work.cand_sums) (length s.work.list_values) (length s.work.work_sums) (length s.work.grown_words) (length s.work.start) (length s.work.evolved)

  abbrev pub places_in : Places
  places_in = places_of s.lanes s.coeffs s.protected s.work

  abbrev pub grown_to : ℕ
  grown_to = grown_places (length s.lanes) (length s.coeffs) (length s.work.grown_words) (length s.work.start) (length s.work.evolved) (length s.work.order) (length s.work.heads) (length s.work.nexts) (length s.work.place_order) (length s.work.cand_sums) (length s.work.list_values) (length s.work.work_sums) (length s.protected / word_lanes)

  abbrev pub given_words : List Word
  given_words = take s.len (words s.lanes)

  abbrev pub given_numbers : List Float
  given_numbers = take s.len s.coeffs

  abbrev pub entering : List Word → List Float → Read (List Word)
  entering = hop s.model s.tables (words s.protected) s.dt places_in (limit_of s.limits) (tau_of s.limits)

  abbrev pub evolving : List Word → List Float → Read Outcome
  evolving = evolution s.model s.tables (words s.protected) s.dt places_in s.drop_tol

  abbrev pub first_leg : Read Stepped
  first_leg = leg_by entering evolving true given_words given_numbers given_numbers

  abbrev pub course : Read Stepped
  course = course_by entering evolving (limit_of s.limits) given_words given_numbers

  -- ---- how far it has come
  -- the copy holds the given basis
  pub record Copied (taken : Result Step Refusal) (w : Work) : Type 0 where
    pub taken_is : taken ≡ Ok (record { entries = s.len; products = 0 })
    pub words_are : take s.len (words w.grown_words) ≡ given_words
    pub start_is : take s.len w.start ≡ given_numbers
    pub evolved_is : take s.len w.evolved ≡ given_numbers

  -- a hop from k words, which stood in other tables
  pub record Hopped (k : ℕ) (hopped : Result ℕ Refusal) (before w : Work) : Type 0 where
    pub same : SameLong s.work before
    pub held : Holds s.model.qubits grown_to k before.grown_words before.start before.evolved
    pub hops : Hops (entering (take k (words before.grown_words)) (take k before.evolved)) s.model.qubits grown_to k before.grown_words before.start hopped w.grown_words w.start
    pub unchanged : w.evolved ≡ before.evolved
    pub clear : shared_of w ≡ none (shared_of s.work)

  pub record FirstHop (taken : Result Step Refusal) (hopped : Result ℕ Refusal) (w : Work) : Type 0 where
    pub before : Work
    pub copied : Copied taken before
    pub leaves : Hopped s.len hopped before w

  pub record SecondHop (taken : Result Step Refusal) (hopped : Result ℕ Refusal) (w : Work) : Type 0 where
    pub before : Work
    pub k : ℕ
    pub products : ℕ
    pub taken_is : taken ≡ Ok (record { entries = k; products = products })
    pub room : k < limit_of s.limits
    pub first : Ends first_leg s.model.qubits grown_to s.len given_numbers taken before
    pub leaves : Hopped k hopped before w

  -- the predictor is done
  pub record Predicted (taken : Result Step Refusal) (w : Work) : Type 0 where
    pub first : Ends first_leg s.model.qubits grown_to s.len given_numbers taken w
    pub clear : shared_of w ≡ none (shared_of s.work)

  -- all is done but the end
  pub record Courses (taken : Result Step Refusal) (w : Work) : Type 0 where
    pub told : Told course taken w.grown_words w.evolved
    pub holds : (k products : ℕ) → taken ≡ Ok (record { entries = k; products = products }) → Holds s.model.qubits grown_to k w.grown_words w.start w.evolved × (0 < k → 0 < s.len)
    pub clear : shared_of w ≡ none (shared_of s.work)

  pub record Standing (part : ℕ) (taken : Result Step Refusal) (hopped : Result ℕ Refusal) (lanes : List ℕ) (coeffs : List Float) (w : Work) : Type 0 where
    pub few : part ≤ 6
    pub same : SameLong s.work w
    pub lanes_long : length lanes ≡ length s.lanes
    pub coeffs_long : length coeffs ≡ length s.coeffs
    pub lanes_stay : part < 6 → lanes ≡ s.lanes
    pub coeffs_stay : part < 6 → coeffs ≡ s.coeffs
    pub accepted : 0 < part → tests_of ≡ Ok tt
    pub nothing : part ≡ 0 → (taken ≡ Ok (record { entries = s.len; products = 0 })) × (w ≡ s.work)
    pub copied : part ≡ 1 → Copied taken w
    pub first_hop : part ≡ 2 → FirstHop taken hopped w
    pub predicted : part ≡ 3 → Predicted taken w
    pub second_hop : part ≡ 4 → SecondHop taken hopped w
    pub course_done : part ≡ 5 → Courses taken w
    pub done : part ≡ 6 → record { answer = taken; lanes = lanes; coeffs = coeffs; work = w } ≡ step s.model s.tables s.lanes s.coeffs s.len s.protected s.limits s.dt s.drop_tol s.work
