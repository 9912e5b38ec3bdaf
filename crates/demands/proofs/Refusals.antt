-- SPDX-FileCopyrightText: 2026 The PPVM Authors
-- SPDX-License-Identifier: Apache-2.0

-- Demand 1, second sentence: a call that is not accepted answers with the refusal that its definition names, by number and values, and
-- leaves models, bases and outputs as they were. Assumes nothing.
use mathlib.Core.Path.{◌≡◌, refl, sym, ap, ◌∙◌}
use mathlib.Core.Bool.{Bool, true, false, not, cond}
use mathlib.Core.List.{List, ◌++◌, map}
use Prim.Native.Nat.{ℕ, ◌+◌, ◌<◌}
use borrow.Author.Tests.{ltb-true}
use lib.Dec.{ltb, leb}
use lib.Ieee.{Float, le}
use lib.ListN.{length, set}
use Rattle.refusal.specs.Cause.{status_of, answer_status}
use Rattle.refusal.specs.declared.Refusal.{Refusal}
use Rattle.refusal.proofs.Told.{refused_not}
use Rattle.refusal.specs.declared.Refusal.TheVariants.{TooManyQubits, TableFull, SumNotFinite}
use Rattle.std.specs.Prelude.{Result, Ok, Err}
use Rattle.matrix_row.specs.declared.rows.Row.{Row}
use Rattle.expm.specs.declared.Degree.{Degree}
use Rattle.action.specs.declared.count.Counted.{Counted}
use Rattle.norm.specs.declared.norm.Normed.{Normed}
use Rattle.norm.specs.declared.degree.Selected.{Selected}
use Rattle.step_parts.specs.declared.taken.Step.{Step}
use Rattle.refusal.specs.Cause.{Answer}
use Rattle.refusal.specs.declared.Status.{Status}
use Rattle.notation.specs.Codes.{write_answer, write_for, written}
use Rattle.word.specs.Register.{reaches}
use Rattle.word.specs.Word.{max_qubits, identity}
use Rattle.word.specs.Flat.{lay_word}
use Rattle.word.specs.declared.word.Word.{Word}
use Rattle.number.specs.Floats.{floats, float0}
use Rattle.gksl.specs.Model.{RealTerm, JumpOver}
use Rattle.gksl.specs.Words.{pauli}
use Rattle.model.specs.Stored.{ModelTables}
use Rattle.model.specs.Terms.{Term}
use Rattle.lent.specs.Read.{Read, got, refused}
use Rattle.lent.specs.Laid.{laid}
use Rattle.model.specs.Tested.{max_hamiltonian, max_jumps, test_model}
use Rattle.model_build.specs.Compiled.{Compiled, compile_jump}
use Rattle.model_build.specs.Built as Building
use Rattle.model.specs.declared.stored.Model.{Model}
use Rattle.k_matrix.specs.Pairs.{pairs_of}
use Rattle.k_matrix.specs.Added as Adding
use Rattle.keep.specs.Retained.{flagged, retained_lanes, retained_numbers}
use Rattle.keep.specs.Admitted.{appended_lanes, appended_zeros, picked}
use Rattle.action.specs.Acts as Acts
use Rattle.lent.specs.Tests.{counted, first_to}
use Rattle.lent.specs.Numbers.{not_finite}
use Rattle.truncate.specs.Prunes as Prunes
use Rattle.truncate.specs.Admissions as Admissions
use Rattle.candidates.specs.Tables.{Rows}
use Rattle.passes.specs.Leaks.{words_of, sums_of, above}
use Rattle.leakage.specs.Leakages as Leakage
use Rattle.limits.specs.Defaults.{tau_of}
use Rattle.limits.specs.declared.Limits.{Limits}
use Rattle.columns.specs.Entries.{Entry}
use Rattle.columns.specs.Columns.{generator_of, generator_room}
use Rattle.columns.specs.Stages.{answered}
use Rattle.generator.specs.Lent.{Work, basis_of, generator_tests, csr_tests, stage_places}
use Rattle.generator.specs.Generators as Generators
use Rattle.generator_export.specs.Exports as Exports
use Rattle.matrix_market.specs.Text.{text_of}
use Rattle.matrix_market.specs.Writes as Markets
use Rattle.csr.specs.Products as Products
use Rattle.evolution_laws.proofs.SameMatrix.{evolve_kept}
use Rattle.step.specs.Calls.{Stepping}
use Rattle.step.specs.Exports.{stepped_of}
use Rattle.step.specs.declared.steps.SteppedBasis.{SteppedBasis}
use Rattle.step.proofs.PlainLaws.{Turned, by_test, by_part, step_turned}
use Rattle.expm.specs.Selects.{chosen}
use Rattle.pebblelinen.specs.Words.{parsed_of, fitting_of}
use Rattle.pebblelinen.specs.Models.{built_of}
use Rattle.pebblelinen.specs.Actions.{listed_of, counted_of}
use Rattle.pebblelinen.specs.Bases.{kept_of}
use Rattle.pebblelinen.specs.Markets.{written_of}
use Rattle.pebblelinen.specs.Products.{found_of}
use Rattle.pebblelinen.specs.Norms.{normed_of, partition_of, choice_of}
use Rattle.pebblelinen.specs.Evolutions.{evolved_of}
use Rattle.pebblelinen.specs.declared.evolutions.EvolvedBasis.{EvolvedBasis}
use Rattle.pebblelinen.specs.declared.words.Parsed.{Parsed}
use Rattle.pebblelinen.specs.declared.words.Fitting.{Fitting}
use Rattle.pebblelinen.specs.declared.actions.CountedPlaces.{CountedPlaces}
use Rattle.pebblelinen.specs.declared.products.FoundRow.{FoundRow}
use Rattle.pebblelinen.specs.declared.norms.NormOfBasis.{NormOfBasis}
use Rattle.pebblelinen.specs.declared.norms.Partition.{Partition}
use Rattle.pebblelinen.specs.declared.norms.DegreeChoice.{DegreeChoice}
use Rattle.pebblelinen.specs.declared.actions.ListedWords.{ListedWords}
use Rattle.pebblelinen.specs.declared.bases.KeptEntries.{KeptEntries}
use Rattle.pebblelinen.specs.declared.markets.WrittenText.{WrittenText}
use Rattle.pebblelinen.specs.declared.models.BuiltModel.{BuiltModel}
use Rattle.demands.specs.Calls.{Refused, StepCall}
use Rattle.demands.specs.Demands.{Refuses, ChangesNothing}

either : {A : Type 0} (P : A → Type 0) (b : Bool) (x y : A) → P x → P y → P (cond b x y)
either P true x y p q = p
either P false x y p q = q

-- ---- an answer whose number is not 0 is a refusal
pub record Cause (A : Type 0) (refuse : Refusal → A) (a : A) (s : Status) : Type 0 where
  pub cause : Refusal
  pub named : a ≡ refuse cause
  pub numbered : s ≡ status_of cause

tests_cause : (a : Answer) (s : Status) → s ≡ answer_status a → Refused s → Cause Answer Err a s
tests_cause (Ok _) s e h = absurd (h (ap (λ (x : Status). x.refusal) e))
tests_cause (Err q) s e h = record { cause = q; named = refl; numbered = e }

built_cause : (a : Result Model Refusal) (r : BuiltModel) → r ≡ built_of a → Refused r.status → Cause (Result Model Refusal) Err a r.status
built_cause (Ok m) r e h = absurd (h (ap (λ (x : BuiltModel). x.status.refusal) e))
built_cause (Err q) r e h = record { cause = q; named = refl; numbered = ap (λ (x : BuiltModel). x.status) e }

acted_cause : (a : Result ℕ Refusal) (r : ListedWords) → r ≡ listed_of a → Refused r.status → Cause (Result ℕ Refusal) Err a r.status
acted_cause (Ok n) r e h = absurd (h (ap (λ (x : ListedWords). x.status.refusal) e))
acted_cause (Err q) r e h = record { cause = q; named = refl; numbered = ap (λ (x : ListedWords). x.status) e }

written_cause : (a : Result ℕ Refusal) (r : WrittenText) → r ≡ written_of a → Refused r.status → Cause (Result ℕ Refusal) Err a r.status
written_cause (Ok n) r e h = absurd (h (ap (λ (x : WrittenText). x.status.refusal) e))
written_cause (Err q) r e h = record { cause = q; named = refl; numbered = ap (λ (x : WrittenText). x.status) e }

kept_cause : (a : Result ℕ Refusal) (r : KeptEntries) → r ≡ kept_of a → Refused r.status → Cause (Result ℕ Refusal) Err a r.status
kept_cause (Ok n) r e h = absurd (h (ap (λ (x : KeptEntries). x.status.refusal) e))
kept_cause (Err q) r e h = record { cause = q; named = refl; numbered = ap (λ (x : KeptEntries). x.status) e }

evolved_cause : (a : Result ℕ Refusal) (r : EvolvedBasis) → r ≡ evolved_of a → Refused r.status → Cause (Result ℕ Refusal) Err a r.status
evolved_cause (Ok n) r e h = absurd (h (ap (λ (x : EvolvedBasis). x.status.refusal) e))
evolved_cause (Err q) r e h = record { cause = q; named = refl; numbered = ap (λ (x : EvolvedBasis). x.status) e }

stepped_cause : (a : Result Step Refusal) (r : SteppedBasis) → r ≡ stepped_of a → Refused r.status → Cause (Result Step Refusal) Err a r.status
stepped_cause (Ok step) r e h = absurd (h (ap (λ (x : SteppedBasis). x.status.refusal) e))
stepped_cause (Err q) r e h = record { cause = q; named = refl; numbered = ap (λ (x : SteppedBasis). x.status) e }

-- a step that is refused, by a test or by a part, leaves the basis
step_kept : (c : StepCall) (q : Refusal) → Turned c.model c.tables c.lanes c.coeffs c.len c.protected c.limits c.dt c.drop_tol c.work q → (c.lanes' ≡ c.lanes) × (c.coeffs' ≡ c.coeffs)
step_kept c q (by_test e f) = (c.leaves.words_are ∙ ap (λ (x : Stepping). x.lanes) f, c.leaves.coeffs_are ∙ ap (λ (x : Stepping). x.coeffs) f)
step_kept c q (by_part e f) = (c.leaves.words_are ∙ ap (λ (x : Stepping). x.lanes) f, c.leaves.coeffs_are ∙ ap (λ (x : Stepping). x.coeffs) f)

-- ---- calls that return numbers or a word: those beside a refusal
read_refused : (d : Result Word Refusal) (r : Parsed) → r ≡ parsed_of d → Refused r.status → Refuses r.status (λ q. d ≡ Err q) (r.word ≡ identity)
read_refused (Ok lanes) r e h = absurd (h (ap (λ (x : Parsed). x.status.refusal) e))
read_refused (Err q) r e h = record { cause = q; named = refl; numbered = ap (λ (x : Parsed). x.status) e; unchanged = ap (λ (x : Parsed). x.word) e }

fit_refused : (w : Word) (n : ℕ) (r : Fitting) → r ≡ fitting_of w n → Refused r.status → Refuses r.status (λ q. (max_qubits < n) × (q ≡ TooManyQubits n max_qubits)) (r.fits ≡ false)
unfolding fitting_of
fit_refused w n r e h = go (ltb max_qubits n) refl e
  where
    go : (b : Bool) → ltb max_qubits n ≡ b → r ≡ cond b (record { status = status_of (TooManyQubits n max_qubits); fits = false }) (record { status = answer_status (Ok tt); fits = not (reaches w n) })
        → Refuses r.status (λ q. (max_qubits < n) × (q ≡ TooManyQubits n max_qubits)) (r.fits ≡ false)
    go true f e = record { cause = TooManyQubits n max_qubits; named = (ltb-true max_qubits n f, refl); numbered = ap (λ (x : Fitting). x.status) e; unchanged = ap (λ (x : Fitting). x.fits) e }
    go false f e = absurd (h (ap (λ (x : Fitting). x.status.refusal) e))

count_refused : (d : Result Counted Refusal) (r : CountedPlaces) → r ≡ counted_of d → Refused r.status → Refuses r.status (λ q. d ≡ Err q) ((r.touched ≡ 0) × (r.listed ≡ 0))
count_refused (Ok counted) r e h = absurd (h (ap (λ (x : CountedPlaces). x.status.refusal) e))
count_refused (Err q) r e h =
    record { cause = q; named = refl; numbered = ap (λ (x : CountedPlaces). x.status) e; unchanged = (ap (λ (x : CountedPlaces). x.touched) e, ap (λ (x : CountedPlaces). x.listed) e) }

norm_refused : (d : Result Normed Refusal) (r : NormOfBasis) → r ≡ normed_of d → Refused r.status → Refuses r.status (λ q. d ≡ Err q) ((r.mu ≡ float0) × (r.norm ≡ float0))
norm_refused (Ok normed) r e h = absurd (h (ap (λ (x : NormOfBasis). x.status.refusal) e))
norm_refused (Err q) r e h = record { cause = q; named = refl; numbered = ap (λ (x : NormOfBasis). x.status) e; unchanged = (ap (λ (x : NormOfBasis). x.mu) e, ap (λ (x : NormOfBasis). x.norm) e) }

degree_refused : (d : Result Selected Refusal) (r : Partition) → r ≡ partition_of d → Refused r.status → Refuses r.status (λ q. d ≡ Err q) ((r.mu ≡ float0) × (r.norm ≡ float0) × (r.m ≡ 0) × (r.s ≡ 0))
degree_refused (Ok selected) r e h = absurd (h (ap (λ (x : Partition). x.status.refusal) e))
degree_refused (Err q) r e h = record {
  cause = q;
  named = refl;
  numbered = ap (λ (x : Partition). x.status) e;
  unchanged = (ap (λ (x : Partition). x.mu) e, ap (λ (x : Partition). x.norm) e, ap (λ (x : Partition). x.m) e, ap (λ (x : Partition). x.s) e);
}

choice_refused : (d : Result Degree Refusal) (r : DegreeChoice) → r ≡ choice_of d → Refused r.status → Refuses r.status (λ q. d ≡ Err q) ((r.m ≡ 0) × (r.s ≡ 0))
choice_refused (Ok d) r e h = absurd (h (ap (λ (x : DegreeChoice). x.status.refusal) e))
choice_refused (Err q) r e h = record { cause = q; named = refl; numbered = ap (λ (x : DegreeChoice). x.status) e; unchanged = (ap (λ (x : DegreeChoice). x.m) e, ap (λ (x : DegreeChoice). x.s) e) }

row_refused : (d : Result Row Refusal) (r : FoundRow) → r ≡ found_of d → Refused r.status → Refuses r.status (λ q. d ≡ Err q) ((r.start ≡ 0) × (r.end ≡ 0))
row_refused (Ok row) r e h = absurd (h (ap (λ (x : FoundRow). x.status.refusal) e))
row_refused (Err q) r e h = record { cause = q; named = refl; numbered = ap (λ (x : FoundRow). x.status) e; unchanged = (ap (λ (x : FoundRow). x.start) e, ap (λ (x : FoundRow). x.end) e) }

-- ---- an accepted answer is no refusal
accepted_not : {A : Type 0} (x : A) (q : Refusal) → ◌≡◌ {A = Result A Refusal} (Ok x) (Err q) → ⊥
accepted_not x q e = refused_not q x (sym e)

-- ---- writing codes
write_kept : (a : Answer) (w : Word) (n : ℕ) (out : List ℕ) (q : Refusal) → a ≡ Err q → write_for a w n out ≡ out
write_kept (Ok _) w n out q e = absurd (accepted_not tt q e)
write_kept (Err r) w n out q e = refl

written_kept : (w : Word) (n : ℕ) (out : List ℕ) (q : Refusal) → write_answer w n out ≡ Err q → written w n out ≡ out
unfolding written
written_kept w n out q e = write_kept (write_answer w n out) w n out q e

-- ---- building and adding
module _ (t : ModelTables) (ww : List ℕ) (wn : List Float) where
  abbrev SafeModel : Building.Building → Type 0
  SafeModel b = (q : Refusal) → b.answer ≡ Err q → b.tables ≡ t

  tested_model : (a : Answer) (after : Building.Building) → SafeModel after → SafeModel (Building.tested t ww wn a after)
  tested_model (Ok _) after s = s
  tested_model (Err r) after s = λ q e. refl

  read_model : {A : Type 0} (r : Read A) (f : A → Building.Building) → ((a : A) → SafeModel (f a)) → SafeModel (Building.when_read t ww wn r f)
  read_model (got a) f s = s a
  read_model (refused r) f s = λ q e. refl

  finished_model : (b : Bool) (q : Refusal) (m : Model) (after : ModelTables)
      → SafeModel (cond b (Building.finished t ww wn (Err q) t) (Building.finished t ww wn (Ok m) after))
  finished_model b q m after = either SafeModel b (Building.finished t ww wn (Err q) t) (Building.finished t ww wn (Ok m) after) (λ r e. refl) (λ r e. absurd (accepted_not m r e))

  abbrev limits : ℕ → Building.Input → Answer
  limits n i =
      cond (ltb max_qubits n) (Err (TooManyQubits n max_qubits)) (counted max_hamiltonian (length i.h_numbers) (counted max_jumps (length i.rates) (Building.lengths_answer i t ww wn)))

  abbrev after_jumps : ℕ → Building.Input → List (RealTerm floats pauli) → List (JumpOver floats pauli) → Building.Building
  after_jumps n i hs js = Building.compiled_model n i t ww wn hs (map compile_jump js)

  abbrev after_reals : ℕ → Building.Input → List (RealTerm floats pauli) → Building.Building
  after_reals n i hs = Building.when_read t ww wn (Building.read_jumps n i) (after_jumps n i hs)

  build_kept : (n : ℕ) (i : Building.Input) → SafeModel (Building.build n i t ww wn)
  unfolding Building.build
  build_kept n i =
      tested_model (limits n i) (Building.when_read t ww wn (Building.read_hamiltonian n i) (after_reals n i)) (read_model (Building.read_hamiltonian n i) (after_reals n i) (λ hs. read_model (Building.read_jumps n i) (after_jumps n i hs) (λ js.
      let cs : List Compiled = map compile_jump js in
      finished_model (ltb (Building.term_places t) (length (Building.terms_of cs))) (TableFull 4 (Building.term_places t)) (record { qubits = n; hamiltonian = length hs; jumps = length cs; terms = length (Building.terms_of cs) }) (Building.stored hs cs t))))

  abbrev after_operators : Model → Adding.Input → List (List Term) → Building.Building
  after_operators m i As = Building.tested t ww wn (Adding.pairs_test m i t ww wn) (Adding.compiled_matrix m i t ww wn As)

  add_kept : (m : Model) (i : Adding.Input) → SafeModel (Adding.add m i t ww wn)
  unfolding Adding.add
  add_kept m i =
      tested_model (Adding.matrix_tests m i t ww wn) (Building.when_read t ww wn (Adding.read_operators m.qubits i) (after_operators m i)) (read_model (Adding.read_operators m.qubits i) (after_operators m i) (λ As.
      let cs : List Compiled = pairs_of m.terms i.counts (Adding.matrix i) As in
      let terms : ℕ = m.terms + length (Adding.all_terms As ++ Building.terms_of cs) in
      tested_model (Adding.pairs_test m i t ww wn) (Adding.compiled_matrix m i t ww wn As)
      (finished_model (ltb (Building.term_places t) terms) (TableFull 4 (Building.term_places t)) (record { qubits = m.qubits; hamiltonian = m.hamiltonian; jumps = m.jumps + length cs; terms = terms }) (Adding.stored m i t ww wn As cs))))

-- ---- the action
module _ (outWords : List ℕ) (outValues : List Float) (ww : List ℕ) (ws : List Float) where
  abbrev SafeList : Acts.Acting → Type 0
  SafeList a = (q : Refusal) → a.answer ≡ Err q → (a.out_words ≡ outWords) × (a.out_values ≡ outValues)

  tested_list : (a : Answer) (after : Acts.Acting) → SafeList after → SafeList (Acts.tested outWords outValues ww ws a after)
  tested_list (Ok _) after s = s
  tested_list (Err r) after s = λ q e. (refl, refl)

  act_kept : (m : Model) (t : ModelTables) (p : Word) → SafeList (Acts.act outWords outValues ww ws m t p)
  unfolding Acts.act
  act_kept m t p =
      tested_list (test_model m t) _
      (either SafeList (reaches p m.qubits) _ _ (λ q e. (refl, refl))
      (either SafeList (ltb (Acts.sum_places ww ws) (length (Acts.sums_of m t p))) _ _ (λ q e. (refl, refl))
      (either SafeList (ltb (Acts.list_places outWords outValues) (length (Acts.action_of m t p))) _ _ (λ q e. (refl, refl)) (λ q e. absurd (accepted_not _ q e)))))

-- ---- prune and cap
module _ (len : ℕ) (lanes : List ℕ) (coeffs : List Float) (order work fixed kept : List ℕ) where
  abbrev SafeBasis : Prunes.Keeping → Type 0
  SafeBasis k = (q : Refusal) → k.answer ≡ Err q → (k.lanes ≡ lanes) × (k.coeffs ≡ coeffs)

  tested_basis : (a : Answer) (after : Prunes.Keeping) → SafeBasis after → SafeBasis (Prunes.tested len lanes coeffs order work fixed kept a after)
  tested_basis (Ok _) after s = s
  tested_basis (Err r) after s = λ q e. (refl, refl)

  either_basis : (b : Bool) (n n' : ℕ) (l l' : List ℕ) (c c' : List Float)
      → SafeBasis (cond b (Prunes.left len lanes coeffs order work fixed kept n l c) (Prunes.left len lanes coeffs order work fixed kept n' l' c'))
  either_basis b n n' l l' c c' =
      either SafeBasis b (Prunes.left len lanes coeffs order work fixed kept n l c) (Prunes.left len lanes coeffs order work fixed kept n' l' c') (λ q e. absurd (accepted_not n q e)) (λ q e. absurd (accepted_not n' q e))

  -- where nothing is done, or entries are retained by flags
  by_flags : (a : Answer) (b : Bool) (flags : List ℕ)
      → SafeBasis (Prunes.tested len lanes coeffs order work fixed kept a (cond b (Prunes.left len lanes coeffs order work fixed kept len lanes coeffs) (Prunes.retained len lanes coeffs order work fixed kept flags)))
  by_flags a b flags =
      tested_basis a (cond b (Prunes.left len lanes coeffs order work fixed kept len lanes coeffs) (Prunes.retained len lanes coeffs order work fixed kept flags))
      (either_basis b len (flagged flags) lanes (retained_lanes len flags lanes) coeffs (retained_numbers len flags coeffs))

  prune_kept : (n : ℕ) (protected : List ℕ) (tol : Float) → SafeBasis (Prunes.prune len lanes coeffs order work fixed kept n protected tol)
  unfolding Prunes.prune
  prune_kept n protected tol = by_flags (Prunes.prune_tests len lanes coeffs order work fixed kept n protected tol) (le tol float0) (Prunes.prune_flags len lanes coeffs protected tol)

  cap_kept : (n : ℕ) (protected : List ℕ) (limit : ℕ) → SafeBasis (Prunes.cap len lanes coeffs order work fixed kept n protected limit)
  unfolding Prunes.cap
  cap_kept n protected limit = by_flags (Prunes.cap_tests len lanes coeffs order work fixed kept n protected limit) (leb len limit) (Prunes.cap_flags len lanes coeffs protected limit)

-- ---- admission
module _ (len : ℕ) (lanes : List ℕ) (coeffs : List Float) (list : List ℕ) (values : List Float) (order work kept : List ℕ) where
  abbrev SafeAdmitted : Admissions.Admitting → Type 0
  SafeAdmitted k = (q : Refusal) → k.answer ≡ Err q → (k.lanes ≡ lanes) × (k.coeffs ≡ coeffs)

  tested_admitted : (a : Answer) (after : Admissions.Admitting) → SafeAdmitted after → SafeAdmitted (Admissions.tested len lanes coeffs list values order work kept a after)
  tested_admitted (Ok _) after s = s
  tested_admitted (Err r) after s = λ q e. (refl, refl)

  admit_kept : (n limit : ℕ) → SafeAdmitted (Admissions.admit len lanes coeffs list values order work kept n limit)
  unfolding Admissions.admit
  admit_kept n limit =
      let flags : List ℕ = Admissions.admit_flags len values limit in
      let places : ℕ = Admissions.basis_places len lanes coeffs list values order work kept in
      let full : Admissions.Admitting = Admissions.left len lanes coeffs list values order work kept (Err (TableFull 3 places)) lanes coeffs in
      let done : Admissions.Admitting = Admissions.left len lanes coeffs list values order work kept (Ok (len + flagged flags)) (appended_lanes len (picked (length values) flags list) lanes) (appended_zeros len (flagged flags) coeffs) in
      tested_admitted (Admissions.admit_tests len lanes coeffs list values order work kept n limit) (cond (ltb places (len + flagged flags)) full done)
      (either SafeAdmitted (ltb places (len + flagged flags)) full done (λ q e. (refl, refl)) (λ q e. absurd (accepted_not (len + flagged flags) q e)))

-- ---- leakage
module _ (outWords : List ℕ) (outValues : List Float) (w : Leakage.Work) where
  abbrev SafeOut : Leakage.Out → Type 0
  SafeOut o = (q : Refusal) → o.answer ≡ Err q → (o.out_words ≡ outWords) × (o.out_values ≡ outValues)

  tested_out : (a : Answer) (o : Leakage.Out) → SafeOut o → SafeOut (Leakage.tested outWords outValues w a o).out
  tested_out (Ok _) o s = s
  tested_out (Err r) o s = λ q e. (refl, refl)

  listing_kept : (tau : Float) (R : Read Rows) → SafeOut (Leakage.listing tau outWords outValues R)
  unfolding Leakage.listing
  listing_kept tau (refused r) = λ q e. (refl, refl)
  listing_kept tau (got T) =
      let places : ℕ = Acts.list_places outWords outValues in
      either SafeOut (ltb places (length (above tau T))) (record { answer = Err (TableFull 3 places); out_words = outWords; out_values = outValues })
      (record { answer = Ok (length (above tau T)); out_words = laid lay_word 0 (words_of (above tau T)) outWords; out_values = laid set 0 (sums_of (above tau T)) outValues })
      (λ q e. (refl, refl)) (λ q e. absurd (accepted_not (length (above tau T)) q e))

  leak_kept : (m : Model) (t : ModelTables) (b : Leakage.Basis) (l : Limits) → SafeOut (Leakage.leak outWords outValues w m t b l).out
  unfolding Leakage.leak
  leak_kept m t b l = tested_out (Leakage.leak_tests m t b l w) (Leakage.listing (tau_of l) outWords outValues (Leakage.leak_course m t b l w)) (listing_kept (tau_of l) (Leakage.leak_course m t b l w))

-- ---- the generator and the matrix by rows
module _ (rows columns : List ℕ) (values : List Float) (w : Work) where
  abbrev SafeEntries : Generators.Out → Type 0
  SafeEntries o = (q : Refusal) → o.answer ≡ Err q → (o.rows ≡ rows) × (o.columns ≡ columns) × (o.values ≡ values)

  entries_kept : (a : Result ℕ Refusal) (E : List Entry) → SafeEntries (Generators.listing rows columns values a E)
  entries_kept (Ok n) E = λ q e. absurd (accepted_not n q e)
  entries_kept (Err r) E = λ q e. (refl, refl, refl)

  tested_entries : (a : Answer) (o : Generators.Out) → SafeEntries o → SafeEntries (Generators.tested rows columns values w a o).out
  tested_entries (Ok _) o s = s
  tested_entries (Err r) o s = λ q e. (refl, refl, refl)

  generate_kept : (m : Model) (t : ModelTables) (lanes : List ℕ) (len : ℕ) → SafeEntries (Generators.generate rows columns values w m t lanes len).out
  unfolding Generators.generate Generators.listed_over
  generate_kept m t lanes len =
      let bs : List Word = basis_of lanes len in
      let a : Result ℕ Refusal = answered (generator_room m t bs (Acts.sum_places w.work_words w.work_sums) (Generators.entry_places w rows columns values)) (length (generator_of m t bs)) in
      tested_entries (generator_tests m t lanes len w) (Generators.listing rows columns values a (generator_of m t bs)) (entries_kept a (generator_of m t bs))

module _ (offsets columns : List ℕ) (values : List Float) (w : Work) where
  abbrev SafeRows : Generators.CsrOut → Type 0
  SafeRows o = (q : Refusal) → o.answer ≡ Err q → (o.offsets ≡ offsets) × (o.columns ≡ columns) × (o.values ≡ values)

  rows_kept : (n : ℕ) (a : Result ℕ Refusal) (E : List Entry) → SafeRows (Generators.by_rows n offsets columns values a E)
  rows_kept n (Ok k) E = λ q e. absurd (accepted_not k q e)
  rows_kept n (Err r) E = λ q e. (refl, refl, refl)

  tested_rows : (a : Answer) (o : Generators.CsrOut) → SafeRows o → SafeRows (Generators.csr_tested offsets columns values w a o).out
  tested_rows (Ok _) o s = s
  tested_rows (Err r) o s = λ q e. (refl, refl, refl)

  csr_kept : (m : Model) (t : ModelTables) (lanes : List ℕ) (len : ℕ) → SafeRows (Generators.build_csr offsets columns values w m t lanes len).out
  unfolding Generators.build_csr Generators.csr_over
  csr_kept m t lanes len =
      let bs : List Word = basis_of lanes len in
      let a : Result ℕ Refusal = answered (generator_room m t bs (Acts.sum_places w.work_words w.work_sums) (Generators.csr_places w columns values)) (length (generator_of m t bs)) in
      tested_rows (csr_tests m t lanes len w offsets) (Generators.by_rows len offsets columns values a (generator_of m t bs)) (rows_kept len a (generator_of m t bs))

-- ---- the generator as a text
module _ (text : List ℕ) (w : Work) where
  abbrev SafeText : Markets.Writing → Type 0
  SafeText o = (q : Refusal) → o.answer ≡ Err q → o.text ≡ text

  after_kept : (a : Answer) (bytes : List ℕ) → SafeText (Markets.text_after a bytes text)
  after_kept (Ok _) bytes = λ q e. absurd (accepted_not (length bytes) q e)
  after_kept (Err r) bytes = λ q e. refl

  writes_kept : (n : ℕ) (rows columns : List ℕ) (values : List Float) → SafeText (Markets.writes n rows columns values text)
  unfolding Markets.writes
  writes_kept n rows columns values =
      let bytes : List ℕ = text_of n (Markets.lines_of rows columns values) in
      after_kept (Markets.counts_written values (Markets.text_room (length text) (length bytes) (Ok tt))) bytes

  entries_text_kept : (n : ℕ) (a : Result ℕ Refusal) (E : List Entry) → SafeText (Exports.entries_text n text a E)
  entries_text_kept n (Ok k) E = writes_kept n (map (λ e. e.row) E) (map (λ e. e.column) E) (map (λ e. e.value) E)
  entries_text_kept n (Err r) E = λ q e. refl

  tested_text : (a : Answer) (o : Markets.Writing) → SafeText o → SafeText (Exports.tested text w a o).out
  tested_text (Ok _) o s = s
  tested_text (Err r) o s = λ q e. refl

  export_kept : (m : Model) (t : ModelTables) (lanes : List ℕ) (len : ℕ) → SafeText (Exports.export_generator text w m t lanes len).out
  unfolding Exports.export_generator Exports.text_over
  export_kept m t lanes len =
      let bs : List Word = basis_of lanes len in
      let a : Result ℕ Refusal = answered (generator_room m t bs (Acts.sum_places w.work_words w.work_sums) (stage_places w)) (length (generator_of m t bs)) in
      tested_text (generator_tests m t lanes len w) (Exports.entries_text len text a (generator_of m t bs)) (entries_text_kept len a (generator_of m t bs))

-- ---- the product
module _ (rows : ℕ) (offsets columns : List ℕ) (values input : List Float) (overwrite : Bool) (output work : List Float) where
  abbrev SafeProduct : Products.Multiplying → Type 0
  SafeProduct p = (q : Refusal) → p.answer ≡ Err q → p.output ≡ output

  tested_product : (a : Answer) (after : Products.Multiplying) → SafeProduct after → SafeProduct (Products.tested rows offsets columns values input overwrite output work a after)
  tested_product (Ok _) after s = s
  tested_product (Err r) after s = λ q e. refl

  multiply_kept : SafeProduct (Products.multiply rows offsets columns values input overwrite output work)
  unfolding Products.multiply Products.finished
  multiply_kept =
      let sums : List Float = Products.product rows offsets columns values input overwrite output in
      let bad : ℕ = first_to rows (not_finite sums) in
      let full : Products.Multiplying = Products.left rows offsets columns values input overwrite output work (Err (SumNotFinite bad)) output in
      let done : Products.Multiplying = Products.left rows offsets columns values input overwrite output work (Ok tt) sums in
      tested_product (Products.length_tests rows offsets columns values input output work (Products.table_tests rows offsets columns values input overwrite output (Ok tt))) (cond (ltb bad rows) full done)
      (either SafeProduct (ltb bad rows) full done (λ q e. refl) (λ q e. absurd (accepted_not tt q e)))

-- ---- all of them
pub refused_changes_nothing : ChangesNothing
refused_changes_nothing = record {
  writing = λ c h.
      let k = tests_cause _ _ c.leaves.answers h in
      record { cause = k.cause; named = k.named; numbered = k.numbered; unchanged = c.leaves.places ∙ written_kept c.word c.qubits c.out k.cause k.named };
  building = λ c h.
      let k = built_cause _ _ c.leaves.answers h in
      record { cause = k.cause; named = k.named; numbered = k.numbered; unchanged = c.leaves.tables_are ∙ build_kept c.tables c.work_words c.work_numbers c.qubits c.given k.cause k.named };
  adding = λ c h.
      let k = built_cause _ _ c.leaves.answers h in
      record { cause = k.cause; named = k.named; numbered = k.numbered; unchanged = c.leaves.tables_are ∙ add_kept c.tables c.work_words c.work_numbers c.model c.given k.cause k.named };
  acting = λ c h.
      let k = acted_cause _ _ c.leaves.answers h in
      let s = act_kept c.out_words c.out_values c.work_words c.work_sums c.model c.tables c.word k.cause k.named in
      record { cause = k.cause; named = k.named; numbered = k.numbered; unchanged = (c.leaves.out_words ∙ s.0, c.leaves.out_values ∙ s.1) };
  pruning = λ c h.
      let k = kept_cause _ _ c.leaves.answers h in
      let s = prune_kept c.basis.len c.basis.lanes c.basis.coeffs c.order c.work c.fixed c.kept c.qubits c.basis.protected c.drop_tol k.cause k.named in
      record { cause = k.cause; named = k.named; numbered = k.numbered; unchanged = (c.leaves.lanes_are ∙ s.0, c.leaves.coeffs_are ∙ s.1) };
  capping = λ c h.
      let k = kept_cause _ _ c.leaves.answers h in
      let s = cap_kept c.basis.len c.basis.lanes c.basis.coeffs c.order c.work c.fixed c.kept c.qubits c.basis.protected c.limit k.cause k.named in
      record { cause = k.cause; named = k.named; numbered = k.numbered; unchanged = (c.leaves.lanes_are ∙ s.0, c.leaves.coeffs_are ∙ s.1) };
  admitting = λ c h.
      let k = kept_cause _ _ c.leaves.answers h in
      let s = admit_kept c.len c.lanes c.coeffs c.list c.values c.order c.work c.kept c.qubits c.limit k.cause k.named in
      record { cause = k.cause; named = k.named; numbered = k.numbered; unchanged = (c.leaves.lanes_are ∙ s.0, c.leaves.coeffs_are ∙ s.1) };
  leaking = λ c h.
      let k = acted_cause _ _ c.leaves.answers h in
      let s = leak_kept c.out_words c.out_values c.work c.model c.tables c.basis c.limits k.cause k.named in
      record { cause = k.cause; named = k.named; numbered = k.numbered; unchanged = (c.leaves.out_words ∙ s.0, c.leaves.out_values ∙ s.1) };
  generating = λ c h.
      let k = acted_cause _ _ c.leaves.answers h in
      let s = generate_kept c.rows c.columns c.values c.work c.model c.tables c.lanes c.len k.cause k.named in
      record { cause = k.cause; named = k.named; numbered = k.numbered; unchanged = (c.leaves.rows_are ∙ s.0, c.leaves.columns_are ∙ s.1, c.leaves.values_are ∙ s.2) };
  by_rows = λ c h.
      let k = acted_cause _ _ c.leaves.answers h in
      let s = csr_kept c.offsets c.columns c.values c.work c.model c.tables c.lanes c.len k.cause k.named in
      record { cause = k.cause; named = k.named; numbered = k.numbered; unchanged = (c.leaves.offsets_are ∙ s.0, c.leaves.columns_are ∙ s.1, c.leaves.values_are ∙ s.2) };
  exporting = λ c h.
      let k = written_cause _ _ c.leaves.answers h in
      record { cause = k.cause; named = k.named; numbered = k.numbered; unchanged = c.leaves.text_is ∙ export_kept c.text c.work c.model c.tables c.lanes c.len k.cause k.named };
  multiplying = λ c h.
      let k = tests_cause _ _ c.leaves.answers h in
      record { cause = k.cause; named = k.named; numbered = k.numbered; unchanged = c.leaves.output_is ∙ multiply_kept c.rows c.offsets c.columns c.values c.input c.overwrite c.output c.work k.cause k.named };
  evolving = λ c h.
      let k = evolved_cause _ _ c.leaves.answers h in
      record { cause = k.cause; named = k.named; numbered = k.numbered; unchanged = c.leaves.out_is ∙ evolve_kept c.work c.out c.model c.tables c.lanes c.coeffs c.len c.dt c.drop_tol k.cause k.named };
  stepping = λ c h.
      let k = stepped_cause _ _ c.leaves.answers h in
      record { cause = k.cause; named = k.named; numbered = k.numbered; unchanged = step_kept c k.cause (step_turned c.model c.tables c.lanes c.coeffs c.len c.protected c.limits c.dt c.drop_tol c.work k.cause k.named) };
  testing = λ d r e h. let k = tests_cause d r e h in record { cause = k.cause; named = k.named; numbered = k.numbered; unchanged = tt };
  reading = read_refused;
  fitting = fit_refused;
  counting = λ d r h j m w x l. count_refused d.answer r l.answers;
  norming = λ d r w l. norm_refused d.answer r l.answers;
  selecting = λ d r w l. degree_refused d.answer r l.answers;
  choosing = λ dropTol t r. choice_refused (chosen dropTol t) r;
  row_read = row_refused;
}
