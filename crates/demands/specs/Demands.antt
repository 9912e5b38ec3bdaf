-- SPDX-FileCopyrightText: 2026 The PPVM Authors
-- SPDX-License-Identifier: Apache-2.0

-- The three demands, sentence by sentence and in their order; a sentence in quotes is the demand's own. Behind it stands the theorem
-- in proofs/ that proves what is stated. What "shown by runs of both" asks for is no theorem: docs/DIFFERENCES.md.
use Rattle.std.specs.Prelude.{ℕ, suc, ◌+◌, ◌-◌, ◌%◌, ◌≤◌, ◌<◌, min, max, ◌≡◌, Bool, true, false, List, ◌++◌, Float, length, get_or, take, replicate, Result, Ok, Err}
use Rattle.std.specs.Float.{nan}
use Rattle.std.specs.Float.Ieee.{le}
use Rattle.refusal.specs.Cause.{status_of, answer_status}
use Rattle.refusal.specs.declared.Refusal.{Refusal}
use Rattle.refusal.specs.declared.Refusal.TheVariants.{TooManyQubits}
use Rattle.refusal.specs.Cause.{Answer}
use Rattle.refusal.specs.declared.Status.{Status}
use Rattle.word.specs.Count.{sum_to}
use Rattle.word.specs.Letter.{mul_letter, mul_phase}
use Rattle.word.specs.Word.{letter_at, max_qubits, identity}
use Rattle.word.specs.Product.{product}
use Rattle.notation.specs.Codes.{write_answer}
use Rattle.word.specs.Flat.{words}
use Rattle.word.specs.declared.word.Word.{Word}
use Rattle.word.specs.declared.algebra.Phased.{Phased}
use Rattle.number.specs.Whole.{whole}
use Rattle.number.specs.Floats.{floats, float0, magnitude}
use Rattle.gksl.specs.Model.{ModelOver}
use Rattle.gksl.specs.Words.{pauli}
use Rattle.model.specs.Stored.{ModelTables}
use Rattle.model_build.specs.Built as Building
use Rattle.model.specs.declared.stored.Model.{Model}
use Rattle.k_matrix.specs.Added as Adding
use Rattle.keep.specs.Retained.{pick, flagged}
use Rattle.action.specs.Acts.{action_of, Acting, act}
use Rattle.action.specs.Counts.{Counting}
use Rattle.truncate.specs.Prunes.{Keeping, protected_flags, prune, cap}
use Rattle.truncate.specs.Admissions.{Admitting, admit_flags, admit}
use Rattle.leakage.specs.Leakages as Leakage
use Rattle.passes.specs.Leaks.{words_of, pass_size, pass_count}
use Rattle.candidates.specs.Sums.{Row}
use Rattle.matrix_row.specs.declared.rows.Row.{Row as RowBounds}
use Rattle.candidates.specs.Tables.{Rows, candidate_rows}
use Rattle.generator.specs.Lent as Generator
use Rattle.generator.specs.Lent.{basis_of}
use Rattle.generator.specs.Generators.{Generating, CsrBuilding, generate, build_csr}
use Rattle.generator_export.specs.Exports.{Exporting, export_generator}
use Rattle.csr.specs.Products.{Multiplying, length_tests, table_tests, multiply}
use Rattle.evolution.specs.Lent as Evolution
use Rattle.evolution.specs.Evolutions.{Evolving, evolve}
use Rattle.step_parts.specs.Lent as Step
use Rattle.step.specs.Calls.{Stepping, step}
use Rattle.step.specs.Exports.{LeavesStep}
use Rattle.step.specs.declared.steps.SteppedBasis.{SteppedBasis}
use Rattle.expm.specs.Selects.{chosen}
use Rattle.norm.specs.Norms as Norm
use Rattle.norm.specs.Norms.{Norming, Selecting}
use Rattle.pebblelinen.specs.Words.{parsed_of, Writes, fitting_of}
use Rattle.pebblelinen.specs.Models.{Leaves}
use Rattle.pebblelinen.specs.Actions.{LeavesList, LeavesCount}
use Rattle.pebblelinen.specs.Bases.{LeavesBasis, LeavesAdmitted}
use Rattle.pebblelinen.specs.Leakages.{LeavesLeakage}
use Rattle.pebblelinen.specs.Generators.{LeavesGenerator, LeavesCsr}
use Rattle.pebblelinen.specs.Markets.{LeavesMarket}
use Rattle.pebblelinen.specs.Evolutions.{LeavesEvolution}
use Rattle.pebblelinen.specs.declared.evolutions.EvolvedBasis.{EvolvedBasis}
use Rattle.pebblelinen.specs.Products.{found_of, LeavesProduct}
use Rattle.pebblelinen.specs.Norms.{LeavesNorm, LeavesPartition, choice_of}
use Rattle.pebblelinen.specs.declared.words.Parsed.{Parsed}
use Rattle.pebblelinen.specs.declared.words.Fitting.{Fitting}
use Rattle.pebblelinen.specs.declared.actions.CountedPlaces.{CountedPlaces}
use Rattle.pebblelinen.specs.declared.products.FoundRow.{FoundRow}
use Rattle.pebblelinen.specs.declared.norms.NormOfBasis.{NormOfBasis}
use Rattle.pebblelinen.specs.declared.norms.Partition.{Partition}
use Rattle.pebblelinen.specs.declared.norms.DegreeChoice.{DegreeChoice}
use Rattle.pebblelinen.specs.declared.actions.ListedWords.{ListedWords}
use Rattle.pebblelinen.specs.declared.bases.KeptEntries.{KeptEntries}
use Rattle.pebblelinen.specs.declared.markets.WrittenText.{WrittenText}
use Rattle.pebblelinen.specs.declared.models.BuiltModel.{BuiltModel}
use Rattle.in_use.specs.InUse.{SameModel}
use Rattle.action_laws.specs.Made.{Made}
use Rattle.action_laws.specs.WholeModel.{WholeModel}
use Rattle.action_laws.specs.Exact.{list_in, ListsGenerator}
use Rattle.truncate_laws.specs.Keeps.{pruned_flags, capped_flags, Flagged}
use Rattle.truncate_laws.specs.Keeps as Flags
use Rattle.order.specs.Members.{Member}
use Rattle.leakage_laws.specs.Calls.{basis_words, basis_coeffs, room_of, stay_after, held_in, list_of, SameBasis, Looser, TauBelowZero, RoomForAll}
use Rattle.leakage_laws.specs.Calls as Leak
use Rattle.generator_laws.specs.Matrices.{Lists, InRow, Grown, Unchanged}
use Rattle.accounting.specs.Homes.{Accounted, AccountedWithoutRoom}
use Rattle.demands.specs.Calls.{Accepted, Refused, AllFinite, WriteCall, BuildCall, AddCall, ActionCall, PruneCall, CapCall, AdmitCall, LeakCall, GeneratorCall, CsrCall, MarketCall, ProductCall, EvolveCall, StepCall}

-- ==== 1
-- "Every accepted call ends with the one answer that document 01 gives for its input." (OneAnswer: one_answer)
-- A contract is an equation with a definition for the answer and for every lent table, work tables too, so it allows one answer and
-- one content of each. (A call that is lent no table to write returns what a definition gives for its input: there is nothing to
-- show.)
pub record OneAnswer : Type 0 where
  pub writing : (w : Word) (n : ℕ) (out : List ℕ) (r r' : Status) (o o' : List ℕ) → Writes w n out r o → Writes w n out r' o' → (r ≡ r') × (o ≡ o')
  pub building : (d : Building.Building) (r r' : BuiltModel) (t t' : ModelTables) (w w' : List ℕ) (x x' : List Float)
      → Leaves d r t w x → Leaves d r' t' w' x' → (r ≡ r') × (t ≡ t') × (w ≡ w') × (x ≡ x')
  pub acting : (d : Acting) (r r' : ListedWords) (o o' : List ℕ) (v v' : List Float) (w w' : List ℕ) (x x' : List Float)
      → LeavesList d r o v w x → LeavesList d r' o' v' w' x' → (r ≡ r') × (o ≡ o') × (v ≡ v') × (w ≡ w') × (x ≡ x')
  pub keeping : (d : Keeping) (r r' : KeptEntries) (l l' : List ℕ) (c c' : List Float) (o o' w w' f f' k k' : List ℕ)
      → LeavesBasis d r l c o w f k → LeavesBasis d r' l' c' o' w' f' k' → (r ≡ r') × (l ≡ l') × (c ≡ c') × (o ≡ o') × (w ≡ w') × (f ≡ f') × (k ≡ k')
  pub admitting : (d : Admitting) (r r' : KeptEntries) (l l' : List ℕ) (c c' : List Float) (o o' w w' k k' : List ℕ)
      → LeavesAdmitted d r l c o w k → LeavesAdmitted d r' l' c' o' w' k' → (r ≡ r') × (l ≡ l') × (c ≡ c') × (o ≡ o') × (w ≡ w') × (k ≡ k')
  pub leaking : (d : Leakage.Leaking) (r r' : ListedWords) (o o' : List ℕ) (v v' : List Float) (w w' : Leakage.Work)
      → LeavesLeakage d r o v w → LeavesLeakage d r' o' v' w' → (r ≡ r') × (o ≡ o') × (v ≡ v') × (w ≡ w')
  pub generating : (d : Generating) (r r' : ListedWords) (a a' b b' : List ℕ) (v v' : List Float) (w w' : Generator.Work)
      → LeavesGenerator d r a b v w → LeavesGenerator d r' a' b' v' w' → (r ≡ r') × (a ≡ a') × (b ≡ b') × (v ≡ v') × (w ≡ w')
  pub by_rows : (d : CsrBuilding) (r r' : ListedWords) (a a' b b' : List ℕ) (v v' : List Float) (w w' : Generator.Work)
      → LeavesCsr d r a b v w → LeavesCsr d r' a' b' v' w' → (r ≡ r') × (a ≡ a') × (b ≡ b') × (v ≡ v') × (w ≡ w')
  pub exporting : (d : Exporting) (r r' : WrittenText) (t t' : List ℕ) (w w' : Generator.Work)
      → LeavesMarket d r t w → LeavesMarket d r' t' w' → (r ≡ r') × (t ≡ t') × (w ≡ w')
  pub multiplying : (d : Multiplying) (r r' : Status) (o o' w w' : List Float) → LeavesProduct d r o w → LeavesProduct d r' o' w' → (r ≡ r') × (o ≡ o') × (w ≡ w')
  pub counting : (d : Counting) (r r' : CountedPlaces) (h h' j j' m m' w w' : List ℕ) (x x' : List Float)
      → LeavesCount d r h j m w x → LeavesCount d r' h' j' m' w' x' → (r ≡ r') × (h ≡ h') × (j ≡ j') × (m ≡ m') × (w ≡ w') × (x ≡ x')
  pub evolving : (d : Evolving) (r r' : EvolvedBasis) (o o' : List Float) (w w' : Evolution.Work) → LeavesEvolution d r o w → LeavesEvolution d r' o' w' → (r ≡ r') × (o ≡ o') × (w ≡ w')
  pub stepping : (d : Stepping) (r r' : SteppedBasis) (l l' : List ℕ) (c c' : List Float) (w w' : Step.Work) → LeavesStep d r l c w → LeavesStep d r' l' c' w' → (r ≡ r') × (l ≡ l') × (c ≡ c') × (w ≡ w')
  pub norming : (d : Norming) (r r' : NormOfBasis) (w w' : Norm.Work) → LeavesNorm d r w → LeavesNorm d r' w' → (r ≡ r') × (w ≡ w')
  pub selecting : (d : Selecting) (r r' : Partition) (w w' : Norm.Work) → LeavesPartition d r w → LeavesPartition d r' w' → (r ≡ r') × (w ≡ w')

-- "Every other call tests its input itself, gives the numbered refusal 01 names, and changes no model, basis or output."
-- (Refusals: refused_changes_nothing)
-- (No exported call has a precondition.) The refusal is the one that the definition names, its number and values are the status, and
-- the tables are as they were; a call that returns numbers or a word has 0, or the identity, beside a refusal
pub record Refuses (status : Status) (Named : Refusal → Type 0) (Unchanged : Type 0) : Type 0 where
  pub cause : Refusal
  pub named : Named cause
  pub numbered : status ≡ status_of cause
  pub unchanged : Unchanged

pub record ChangesNothing : Type 0 where
  pub writing : (c : WriteCall) → Refused c.status → Refuses c.status (λ q. write_answer c.word c.qubits c.out ≡ Err q) (c.out' ≡ c.out)
  pub building : (c : BuildCall) → Refused c.answer.status
      → Refuses c.answer.status (λ q. (Building.build c.qubits c.given c.tables c.work_words c.work_numbers).answer ≡ Err q) (c.tables' ≡ c.tables)
  pub adding : (c : AddCall) → Refused c.answer.status
      → Refuses c.answer.status (λ q. (Adding.add c.model c.given c.tables c.work_words c.work_numbers).answer ≡ Err q) (c.tables' ≡ c.tables)
  pub acting : (c : ActionCall) → Refused c.answer.status
      → Refuses c.answer.status (λ q. (act c.out_words c.out_values c.work_words c.work_sums c.model c.tables c.word).answer ≡ Err q)
      ((c.out_words' ≡ c.out_words) × (c.out_values' ≡ c.out_values))
  pub pruning : (c : PruneCall) → Refused c.answer.status
      → Refuses c.answer.status (λ q. (prune c.basis.len c.basis.lanes c.basis.coeffs c.order c.work c.fixed c.kept c.qubits c.basis.protected c.drop_tol).answer ≡ Err q)
      ((c.lanes' ≡ c.basis.lanes) × (c.coeffs' ≡ c.basis.coeffs))
  pub capping : (c : CapCall) → Refused c.answer.status
      → Refuses c.answer.status (λ q. (cap c.basis.len c.basis.lanes c.basis.coeffs c.order c.work c.fixed c.kept c.qubits c.basis.protected c.limit).answer ≡ Err q)
      ((c.lanes' ≡ c.basis.lanes) × (c.coeffs' ≡ c.basis.coeffs))
  pub admitting : (c : AdmitCall) → Refused c.answer.status
      → Refuses c.answer.status (λ q. (admit c.len c.lanes c.coeffs c.list c.values c.order c.work c.kept c.qubits c.limit).answer ≡ Err q)
      ((c.lanes' ≡ c.lanes) × (c.coeffs' ≡ c.coeffs))
  pub leaking : (c : LeakCall) → Refused c.answer.status
      → Refuses c.answer.status (λ q. (Leakage.leak c.out_words c.out_values c.work c.model c.tables c.basis c.limits).out.answer ≡ Err q)
      ((c.out_words' ≡ c.out_words) × (c.out_values' ≡ c.out_values))
  pub generating : (c : GeneratorCall) → Refused c.answer.status
      → Refuses c.answer.status (λ q. (generate c.rows c.columns c.values c.work c.model c.tables c.lanes c.len).out.answer ≡ Err q)
      ((c.rows' ≡ c.rows) × (c.columns' ≡ c.columns) × (c.values' ≡ c.values))
  pub by_rows : (c : CsrCall) → Refused c.answer.status
      → Refuses c.answer.status (λ q. (build_csr c.offsets c.columns c.values c.work c.model c.tables c.lanes c.len).out.answer ≡ Err q)
      ((c.offsets' ≡ c.offsets) × (c.columns' ≡ c.columns) × (c.values' ≡ c.values))
  pub exporting : (c : MarketCall) → Refused c.answer.status
      → Refuses c.answer.status (λ q. (export_generator c.text c.work c.model c.tables c.lanes c.len).out.answer ≡ Err q) (c.text' ≡ c.text)
  pub multiplying : (c : ProductCall) → Refused c.status
      → Refuses c.status (λ q. (multiply c.rows c.offsets c.columns c.values c.input c.overwrite c.output c.work).answer ≡ Err q) (c.output' ≡ c.output)
  pub evolving : (c : EvolveCall) → Refused c.answer.status
      → Refuses c.answer.status (λ q. (evolve c.work c.out c.model c.tables c.lanes c.coeffs c.len c.dt c.drop_tol).answer ≡ Err q) (c.out' ≡ c.out)
  pub stepping : (c : StepCall) → Refused c.answer.status
      → Refuses c.answer.status (λ q. (step c.model c.tables c.lanes c.coeffs c.len c.protected c.limits c.dt c.drop_tol c.work).answer ≡ Err q)
      ((c.lanes' ≡ c.lanes) × (c.coeffs' ≡ c.coeffs))
  -- a lent model tested, of which nothing is written
  pub testing : (d : Answer) (r : Status) → r ≡ answer_status d → Refused r → Refuses r (λ q. d ≡ Err q) (Unit {0})
  -- texts and codes read
  pub reading : (d : Result Word Refusal) (r : Parsed) → r ≡ parsed_of d → Refused r.status → Refuses r.status (λ q. d ≡ Err q) (r.word ≡ identity)
  -- whether a word fits a register
  pub fitting : (w : Word) (n : ℕ) (r : Fitting) → r ≡ fitting_of w n → Refused r.status → Refuses r.status (λ q. (max_qubits < n) × (q ≡ TooManyQubits n max_qubits)) (r.fits ≡ false)
  pub counting : (d : Counting) (r : CountedPlaces) (h j m w : List ℕ) (x : List Float) → LeavesCount d r h j m w x → Refused r.status
      → Refuses r.status (λ q. d.answer ≡ Err q) ((r.touched ≡ 0) × (r.listed ≡ 0))
  pub norming : (d : Norming) (r : NormOfBasis) (w : Norm.Work) → LeavesNorm d r w → Refused r.status
      → Refuses r.status (λ q. d.answer ≡ Err q) ((r.mu ≡ float0) × (r.norm ≡ float0))
  pub selecting : (d : Selecting) (r : Partition) (w : Norm.Work) → LeavesPartition d r w → Refused r.status
      → Refuses r.status (λ q. d.answer ≡ Err q) ((r.mu ≡ float0) × (r.norm ≡ float0) × (r.m ≡ 0) × (r.s ≡ 0))
  -- the degree for a norm
  pub choosing : (dropTol t : Float) (r : DegreeChoice) → r ≡ choice_of (chosen dropTol t) → Refused r.status
      → Refuses r.status (λ q. chosen dropTol t ≡ Err q) ((r.m ≡ 0) × (r.s ≡ 0))
  -- a row of a lent matrix
  pub row_read : (d : Result RowBounds Refusal) (r : FoundRow) → r ≡ found_of d → Refused r.status → Refuses r.status (λ q. d ≡ Err q) ((r.start ≡ 0) × (r.end ≡ 0))

-- ==== 2
-- "Where port and Rust may differ, docs/DIFFERENCES.md lists it and document 01 decides; on all other accepted inputs they are equal,
-- shown by runs of both." Runs, not theorems.

-- "Pauli products are proved against the letter table": of every product that is returned (Exact: products_by_letters)
pub record ByLetters (p q : Word) (r : Phased) : Type 0 where
  pub letters : (k : ℕ) → k < max_qubits → letter_at r.word k ≡ mul_letter (letter_at p k) (letter_at q k)
  pub phases : r.phase ≡ sum_to max_qubits (λ k. mul_phase (letter_at p k) (letter_at q k)) % 4

abbrev pub ProductsByLetters : Type 0
ProductsByLetters = (p q : Word) (r : Phased) → r ≡ product p q → ByLetters p q r

-- "and the action is proved equal to the exact adjoint GKSL generator wherever the model was built by the port and all given numbers
-- are whole with parts of at most 256 in magnitude": the first words and values of the tables that the call leaves
-- (Exact: action_is_generator)
abbrev pub ActionIsGenerator : Type 0
ActionIsGenerator =
    (c : ActionCall) → Accepted c.answer.status → (g : ModelOver floats pauli) → Made g c.model c.tables → (w : ModelOver whole pauli) → WholeModel g w
    → ListsGenerator w c.word (list_in c.answer.count c.out_words' c.out_values')

-- ==== 3
-- A model or a basis may be lent twice in tables of other lengths: it is the same if the places in use are
pub record SameModelLent (m : Model) (t : ModelTables) (m' : Model) (t' : ModelTables) : Type 0 where
  pub same_model : m ≡ m'
  pub same_places : SameModel m t t'

-- ---- which entries a call keeps
-- prune and cap: a flag for each position before the call; admission: one for each listed word
abbrev pub pruned_by : PruneCall → List ℕ
pruned_by c = pruned_flags c.basis.len c.basis.lanes c.basis.coeffs c.basis.protected c.drop_tol

abbrev pub capped_by : CapCall → List ℕ
capped_by c = capped_flags c.basis.len c.basis.lanes c.basis.coeffs c.basis.protected c.limit

abbrev pub admitted_by : AdmitCall → List ℕ
admitted_by c = admit_flags c.len c.values c.limit

-- the basis afterwards is the flagged entries, each word with the coefficient that it had, in order
pub record Keeps (b : Leakage.Basis) (flags : List ℕ) (answer : KeptEntries) (lanes' : List ℕ) (coeffs' : List Float) : Type 0 where
  pub each : length flags ≡ b.len
  pub count : answer.entries ≡ flagged flags
  pub words_kept : take answer.entries (words lanes') ≡ pick flags (basis_words b)
  pub coeffs_kept : take answer.entries coeffs' ≡ pick flags (basis_coeffs b)

-- the basis afterwards is the entries that stood, and behind them the flagged words of the list in its order, each with coefficient 0
pub record Admits (c : AdmitCall) : Type 0 where
  pub each : length (admitted_by c) ≡ length c.values
  pub count : c.answer.entries ≡ c.len + flagged (admitted_by c)
  pub words_are : take c.answer.entries (words c.lanes') ≡ take c.len (words c.lanes) ++ pick (admitted_by c) (words c.list)
  pub coeffs_are : take c.answer.entries c.coeffs' ≡ take c.len c.coeffs ++ replicate (flagged (admitted_by c)) float0

-- one basis, and one list, in two admissions
pub record SameListed (c c' : AdmitCall) : Type 0 where
  pub same_len : c.len ≡ c'.len
  pub same_words : take c.len (words c.lanes) ≡ take c'.len (words c'.lanes)
  pub same_coeffs : take c.len c.coeffs ≡ take c'.len c'.coeffs
  pub same_list : words c.list ≡ words c'.list
  pub same_values : c.values ≡ c'.values

-- the words that leakage lists, each with its value
abbrev pub leaked_by : LeakCall → Rows
leaked_by c = candidate_rows c.answer.count c.out_words' c.out_values'

-- "Of two accepted calls of leakage over at most 4,096 words, of admission, prune or cap, alike but for a raised word limit, a lowered
-- threshold or both, whatever places each was lent, the second keeps every word that the first kept, with the same coefficient."
-- (Limits: loses_nobody)
pub record LosesNobody : Type 0 where
  pub leakage : (c c' : LeakCall) → Accepted c.answer.status → Accepted c'.answer.status
      → SameModelLent c.model c.tables c'.model c'.tables → SameBasis c.basis c'.basis → c.basis.len ≤ pass_size → Looser c.limits c'.limits
      → Leak.LosesNobody (leaked_by c) (leaked_by c')
  pub admission : (c c' : AdmitCall) → Accepted c.answer.status → Accepted c'.answer.status → SameListed c c' → c.limit ≤ c'.limit
      → Admits c × Admits c' × Flags.LosesNobody (admitted_by c) (admitted_by c')
  pub prune : (c c' : PruneCall) → Accepted c.answer.status → Accepted c'.answer.status → SameBasis c.basis c'.basis → le c'.drop_tol c.drop_tol ≡ true
      → Keeps c.basis (pruned_by c) c.answer c.lanes' c.coeffs' × Keeps c'.basis (pruned_by c') c'.answer c'.lanes' c'.coeffs' × Flags.LosesNobody (pruned_by c) (pruned_by c')
  pub cap : (c c' : CapCall) → Accepted c.answer.status → Accepted c'.answer.status → SameBasis c.basis c'.basis → c.limit ≤ c'.limit
      → Keeps c.basis (capped_by c) c.answer c.lanes' c.coeffs' × Keeps c'.basis (capped_by c') c'.answer c'.lanes' c'.coeffs' × Flags.LosesNobody (capped_by c) (capped_by c')

-- ---- the entries that a call of the generator, or of the matrix by rows, left in its tables
abbrev pub Generated : GeneratorCall → ℕ → ℕ → Float → Type 0
Generated c = Lists (record { answer = Ok c.answer.count; rows = c.rows'; columns = c.columns'; values = c.values' })

abbrev pub ByRows : CsrCall → ℕ → ℕ → Float → Type 0
ByRows c = InRow (record { answer = Ok c.answer.count; offsets = c.offsets'; columns = c.columns'; values = c.values' })

-- "Whatever words a basis gains, wherever they stand, an accepted generator or CSR has, for every row and column whose words are old,
-- the same entry as before, and none where there was none." (Matrices: keeps_entries)
pub record KeepsEntries : Type 0 where
  pub generator : (c c' : GeneratorCall) → Accepted c.answer.status → Accepted c'.answer.status
      → SameModelLent c.model c.tables c'.model c'.tables → Grown (basis_of c.lanes c.len) (basis_of c'.lanes c'.len)
      → Unchanged (basis_of c.lanes c.len) (Generated c) (basis_of c'.lanes c'.len) (Generated c')
  pub generator_to_csr : (c : GeneratorCall) (c' : CsrCall) → Accepted c.answer.status → Accepted c'.answer.status
      → SameModelLent c.model c.tables c'.model c'.tables → Grown (basis_of c.lanes c.len) (basis_of c'.lanes c'.len)
      → Unchanged (basis_of c.lanes c.len) (Generated c) (basis_of c'.lanes c'.len) (ByRows c')
  pub csr_to_generator : (c : CsrCall) (c' : GeneratorCall) → Accepted c.answer.status → Accepted c'.answer.status
      → SameModelLent c.model c.tables c'.model c'.tables → Grown (basis_of c.lanes c.len) (basis_of c'.lanes c'.len)
      → Unchanged (basis_of c.lanes c.len) (ByRows c) (basis_of c'.lanes c'.len) (Generated c')
  pub csr : (c c' : CsrCall) → Accepted c.answer.status → Accepted c'.answer.status
      → SameModelLent c.model c.tables c'.model c'.tables → Grown (basis_of c.lanes c.len) (basis_of c'.lanes c'.len)
      → Unchanged (basis_of c.lanes c.len) (ByRows c) (basis_of c'.lanes c'.len) (ByRows c')

-- What the matrix by rows leaves passes the product's tests, with every input and output of as many finite numbers as there are rows
-- (Products: makes_products)
pub record MakesProducts : Type 0 where
  pub tests_passed : (c : CsrCall) → Accepted c.answer.status → (input : List Float) (overwrite : Bool) (output work : List Float)
      → length input ≡ c.len → length output ≡ c.len → c.len ≤ length work → AllFinite input → (overwrite ≡ false → AllFinite output)
      → let offsets : List ℕ = take (c.len + 1) c.offsets' in
      let columns : List ℕ = take c.answer.count c.columns' in
      let values : List Float = take c.answer.count c.values' in
      length_tests c.len offsets columns values input output work (table_tests c.len offsets columns values input overwrite output (Ok tt)) ≡ Ok tt

-- "Each limit keeps exactly the number 01 states" (Limits: keeps_exactly)
pub record KeepsExactly : Type 0 where
  -- after a pass min(room, candidates) stay; those above tau_add after the last one are listed
  pub leakage_pass : (c : LeakCall) → Accepted c.answer.status → (k : ℕ) → k < pass_count c.basis.len
      → length (stay_after c.model c.tables c.basis c.limits (suc k)) ≡ min (room_of c.basis c.limits) (length (held_in c.model c.tables c.basis c.limits k))
  pub leakage_list : (c : LeakCall) → Accepted c.answer.status → leaked_by c ≡ list_of c.model c.tables c.basis c.limits
  -- admission appends min(room, listed)
  pub admission : (c : AdmitCall) → Accepted c.answer.status → c.answer.entries ≡ c.len + min (c.limit - c.len) (length c.values)
  -- cap: nothing at or under the limit; else exactly max(limit, protected positions)
  pub cap_under : (c : CapCall) → Accepted c.answer.status → c.basis.len ≤ c.limit → c.answer.entries ≡ c.basis.len
  pub cap_above : (c : CapCall) → Accepted c.answer.status → c.limit < c.basis.len
      → c.answer.entries ≡ max c.limit (flagged (protected_flags c.basis.len c.basis.lanes c.basis.protected))

-- "and every unprotected word kept is at least as large as every unprotected word dropped, in leakage within each pass, in admission
-- among the words listed." (Limits: keeps_largest)
abbrev pub AtLeast : Float → Float → Type 0
AtLeast x y = le (magnitude y) (magnitude x) ≡ true

-- by flags: fixed for those that are protected, flags for those that are kept
abbrev pub LargerKept : List Float → List ℕ → List ℕ → Type 0
LargerKept values fixed flags =
    (p q : ℕ) → p < length fixed → q < length fixed → get_or fixed p 0 ≡ 0 → get_or fixed q 0 ≡ 0 → Flagged flags p → get_or flags q 0 ≡ 0 → AtLeast (get_or values p nan) (get_or values q nan)

-- by rows: of those that were held, some are left
abbrev pub LargerLeft : Rows → Rows → Type 0
LargerLeft held left = (r s : Row Word Float) → Member r left → Member s held → (Member s left → ⊥) → AtLeast r.sum s.sum

pub record KeepsLargest : Type 0 where
  pub leakage_pass : (c : LeakCall) → Accepted c.answer.status → (k : ℕ) → k < pass_count c.basis.len
      → LargerLeft (held_in c.model c.tables c.basis c.limits k) (stay_after c.model c.tables c.basis c.limits (suc k))
  pub leakage_list : (c : LeakCall) → Accepted c.answer.status → LargerLeft (stay_after c.model c.tables c.basis c.limits (pass_count c.basis.len)) (leaked_by c)
  pub admission : (c : AdmitCall) → Accepted c.answer.status → LargerKept c.values (replicate (length c.values) 0) (admitted_by c)
  pub prune : (c : PruneCall) → Accepted c.answer.status → LargerKept c.basis.coeffs (protected_flags c.basis.len c.basis.lanes c.basis.protected) (pruned_by c)
  pub cap : (c : CapCall) → Accepted c.answer.status → LargerKept c.basis.coeffs (protected_flags c.basis.len c.basis.lanes c.basis.protected) (capped_by c)

-- "Where generator and leakage accept one model and one basis of distinct words, and tau_add is below zero, a word reached by a nonzero
-- term of a basis word's action is exactly one of these: generator row, protected word outside the basis, or, given room for all,
-- leakage entry; only reached words are generator rows or leakage entries." (Matrices: one_home) That the words are distinct the
-- generator tests.
pub record OneHome : Type 0 where
  pub room_for_all : (g : GeneratorCall) (c : LeakCall) → Accepted g.answer.status → Accepted c.answer.status
      → SameModelLent g.model g.tables c.model c.tables → basis_of g.lanes g.len ≡ basis_words c.basis → TauBelowZero c.limits
      → RoomForAll c.model c.tables c.basis c.limits
      → Accounted (action_of c.model c.tables) (basis_words c.basis) (words c.basis.protected) (Generated g) (words_of (leaked_by c))
  -- without room for all, and whatever tau_add: only a reached word outside the basis and unprotected may be none of the three
  pub any_room : (g : GeneratorCall) (c : LeakCall) → Accepted g.answer.status → Accepted c.answer.status
      → SameModelLent g.model g.tables c.model c.tables → basis_of g.lanes g.len ≡ basis_words c.basis
      → AccountedWithoutRoom (action_of c.model c.tables) (basis_words c.basis) (words c.basis.protected) (Generated g) (words_of (leaked_by c))
