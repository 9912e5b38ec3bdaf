-- SPDX-FileCopyrightText: 2026 The PPVM Authors
-- SPDX-License-Identifier: Apache-2.0

-- The exported calls that are lent tables to write: what each was lent, what it answered, and what the lent tables hold afterwards,
-- which is what its contract says. A primed name is the table afterwards. A number that is given is one that an f64 can hold, and a
-- word has lanes of 64 bits, as many for x as for z.
use Rattle.std.specs.Prelude.{ℕ, ◌<◌, ◌≡◌, Bool, true, List, T, Float, length, get_or}
use Rattle.std.specs.Float.{nan, binary64}
use Rattle.std.specs.Float.Ieee.{fits}
use Rattle.refusal.specs.declared.Status.{Status}
use Rattle.word.specs.Word.{Sound}
use Rattle.word.specs.declared.word.Word.{Word}
use Rattle.number.specs.Floats.{is_finite}
use Rattle.model.specs.Stored.{ModelTables}
use Rattle.model_build.specs.Built as Building
use Rattle.model.specs.declared.stored.Model.{Model}
use Rattle.k_matrix.specs.Added as Adding
use Rattle.action.specs.Acts.{act}
use Rattle.truncate.specs.Prunes.{prune, cap}
use Rattle.truncate.specs.Admissions.{admit}
use Rattle.leakage.specs.Leakages as Leakage
use Rattle.limits.specs.declared.Limits.{Limits}
use Rattle.generator.specs.Lent as Generator
use Rattle.generator.specs.Generators.{generate, build_csr}
use Rattle.generator_export.specs.Exports.{export_generator}
use Rattle.csr.specs.Products.{multiply}
use Rattle.evolution.specs.Lent as Evolution
use Rattle.evolution.specs.Evolutions.{evolve}
use Rattle.step_parts.specs.Lent as Step
use Rattle.step.specs.Calls.{step}
use Rattle.step.specs.Exports.{LeavesStep}
use Rattle.step.specs.declared.steps.SteppedBasis.{SteppedBasis}
use Rattle.pebblelinen.specs.Words.{Writes}
use Rattle.pebblelinen.specs.Models.{Leaves}
use Rattle.pebblelinen.specs.Actions.{LeavesList}
use Rattle.pebblelinen.specs.Bases.{LeavesBasis, LeavesAdmitted}
use Rattle.pebblelinen.specs.Leakages.{LeavesLeakage}
use Rattle.pebblelinen.specs.Generators.{LeavesGenerator, LeavesCsr}
use Rattle.pebblelinen.specs.Markets.{LeavesMarket}
use Rattle.pebblelinen.specs.Evolutions.{LeavesEvolution}
use Rattle.pebblelinen.specs.declared.evolutions.EvolvedBasis.{EvolvedBasis}
use Rattle.pebblelinen.specs.Products.{LeavesProduct}
use Rattle.pebblelinen.specs.declared.actions.ListedWords.{ListedWords}
use Rattle.pebblelinen.specs.declared.bases.KeptEntries.{KeptEntries}
use Rattle.pebblelinen.specs.declared.markets.WrittenText.{WrittenText}
use Rattle.pebblelinen.specs.declared.models.BuiltModel.{BuiltModel}

-- a call is accepted if the number of the refusal is 0
abbrev pub Accepted : Status → Type 0
Accepted s = s.refusal ≡ 0

abbrev pub Refused : Status → Type 0
Refused s = s.refusal ≡ 0 → ⊥

abbrev pub Fit : Float → Type 0
Fit x = T (fits binary64 x)

abbrev pub AllFit : List Float → Type 0
AllFit l = (i : ℕ) → i < length l → Fit (get_or l i nan)

abbrev pub AllFinite : List Float → Type 0
AllFinite l = (i : ℕ) → i < length l → is_finite (get_or l i nan) ≡ true

-- ---- pebblelinen_codes_from_word
pub record WriteCall : Type 0 where
  pub word : Word
  pub qubits : ℕ
  pub out : List ℕ
  pub status : Status
  pub out' : List ℕ
  pub leaves : Writes word qubits out status out'

-- ---- pebblelinen_build_model
pub record BuildCall : Type 0 where
  pub qubits : ℕ
  pub given : Building.Input
  pub tables : ModelTables
  pub work_words : List ℕ
  pub work_numbers : List Float
  pub answer : BuiltModel
  pub tables' : ModelTables
  pub work_words' : List ℕ
  pub work_numbers' : List Float
  pub leaves : Leaves (Building.build qubits given tables work_words work_numbers) answer tables' work_words' work_numbers'

-- ---- pebblelinen_add_kossakowski
pub record AddCall : Type 0 where
  pub model : Model
  pub given : Adding.Input
  pub tables : ModelTables
  pub work_words : List ℕ
  pub work_numbers : List Float
  pub answer : BuiltModel
  pub tables' : ModelTables
  pub work_words' : List ℕ
  pub work_numbers' : List Float
  pub leaves : Leaves (Adding.add model given tables work_words work_numbers) answer tables' work_words' work_numbers'

-- ---- pebblelinen_compute_action_terms
pub record ActionCall : Type 0 where
  pub model : Model
  pub tables : ModelTables
  pub word : Word
  pub out_words : List ℕ
  pub out_values : List Float
  pub work_words : List ℕ
  pub work_sums : List Float
  pub answer : ListedWords
  pub out_words' : List ℕ
  pub out_values' : List Float
  pub work_words' : List ℕ
  pub work_sums' : List Float
  pub leaves : LeavesList (act out_words out_values work_words work_sums model tables word) answer out_words' out_values' work_words' work_sums'
  pub word_sound : Sound word

-- ---- pebblelinen_prune_basis
pub record PruneCall : Type 0 where
  pub qubits : ℕ
  pub basis : Leakage.Basis
  pub drop_tol : Float
  pub order : List ℕ
  pub work : List ℕ
  pub fixed : List ℕ
  pub kept : List ℕ
  pub answer : KeptEntries
  pub lanes' : List ℕ
  pub coeffs' : List Float
  pub order' : List ℕ
  pub work' : List ℕ
  pub fixed' : List ℕ
  pub kept' : List ℕ
  pub leaves : LeavesBasis (prune basis.len basis.lanes basis.coeffs order work fixed kept qubits basis.protected drop_tol) answer lanes' coeffs' order' work' fixed' kept'
  pub coeffs_fit : AllFit basis.coeffs
  pub tol_fits : Fit drop_tol

-- ---- pebblelinen_cap_basis
pub record CapCall : Type 0 where
  pub qubits : ℕ
  pub basis : Leakage.Basis
  pub limit : ℕ
  pub order : List ℕ
  pub work : List ℕ
  pub fixed : List ℕ
  pub kept : List ℕ
  pub answer : KeptEntries
  pub lanes' : List ℕ
  pub coeffs' : List Float
  pub order' : List ℕ
  pub work' : List ℕ
  pub fixed' : List ℕ
  pub kept' : List ℕ
  pub leaves : LeavesBasis (cap basis.len basis.lanes basis.coeffs order work fixed kept qubits basis.protected limit) answer lanes' coeffs' order' work' fixed' kept'
  pub coeffs_fit : AllFit basis.coeffs

-- ---- pebblelinen_add_leakage_capped
pub record AdmitCall : Type 0 where
  pub qubits : ℕ
  pub len : ℕ
  pub lanes : List ℕ
  pub coeffs : List Float
  pub list : List ℕ
  pub values : List Float
  pub limit : ℕ
  pub order : List ℕ
  pub work : List ℕ
  pub kept : List ℕ
  pub answer : KeptEntries
  pub lanes' : List ℕ
  pub coeffs' : List Float
  pub order' : List ℕ
  pub work' : List ℕ
  pub kept' : List ℕ
  pub leaves : LeavesAdmitted (admit len lanes coeffs list values order work kept qubits limit) answer lanes' coeffs' order' work' kept'
  pub values_fit : AllFit values

-- ---- pebblelinen_leakage_with_prune
pub record LeakCall : Type 0 where
  pub model : Model
  pub tables : ModelTables
  pub basis : Leakage.Basis
  pub limits : Limits
  pub work : Leakage.Work
  pub out_words : List ℕ
  pub out_values : List Float
  pub answer : ListedWords
  pub out_words' : List ℕ
  pub out_values' : List Float
  pub work' : Leakage.Work
  pub leaves : LeavesLeakage (Leakage.leak out_words out_values work model tables basis limits) answer out_words' out_values' work'
  pub tau_fits : Fit limits.tau_add

-- ---- pebblelinen_generator
pub record GeneratorCall : Type 0 where
  pub model : Model
  pub tables : ModelTables
  pub lanes : List ℕ
  pub len : ℕ
  pub work : Generator.Work
  pub rows : List ℕ
  pub columns : List ℕ
  pub values : List Float
  pub answer : ListedWords
  pub rows' : List ℕ
  pub columns' : List ℕ
  pub values' : List Float
  pub work' : Generator.Work
  pub leaves : LeavesGenerator (generate rows columns values work model tables lanes len) answer rows' columns' values' work'

-- ---- pebblelinen_build_csr
pub record CsrCall : Type 0 where
  pub model : Model
  pub tables : ModelTables
  pub lanes : List ℕ
  pub len : ℕ
  pub work : Generator.Work
  pub offsets : List ℕ
  pub columns : List ℕ
  pub values : List Float
  pub answer : ListedWords
  pub offsets' : List ℕ
  pub columns' : List ℕ
  pub values' : List Float
  pub work' : Generator.Work
  pub leaves : LeavesCsr (build_csr offsets columns values work model tables lanes len) answer offsets' columns' values' work'

-- ---- pebblelinen_matrix_market
pub record MarketCall : Type 0 where
  pub model : Model
  pub tables : ModelTables
  pub lanes : List ℕ
  pub len : ℕ
  pub work : Generator.Work
  pub text : List ℕ
  pub answer : WrittenText
  pub text' : List ℕ
  pub work' : Generator.Work
  pub leaves : LeavesMarket (export_generator text work model tables lanes len) answer text' work'

-- ---- pebblelinen_dot
pub record ProductCall : Type 0 where
  pub rows : ℕ
  pub offsets : List ℕ
  pub columns : List ℕ
  pub values : List Float
  pub input : List Float
  pub overwrite : Bool
  pub output : List Float
  pub work : List Float
  pub status : Status
  pub output' : List Float
  pub work' : List Float
  pub leaves : LeavesProduct (multiply rows offsets columns values input overwrite output work) status output' work'

-- ---- pebblelinen_evolve
pub record EvolveCall : Type 0 where
  pub model : Model
  pub tables : ModelTables
  pub lanes : List ℕ
  pub coeffs : List Float
  pub len : ℕ
  pub dt : Float
  pub drop_tol : Float
  pub work : Evolution.Work
  pub out : List Float
  pub answer : EvolvedBasis
  pub out' : List Float
  pub work' : Evolution.Work
  pub leaves : LeavesEvolution (evolve work out model tables lanes coeffs len dt drop_tol) answer out' work'

pub record StepCall : Type 0 where
  pub model : Model
  pub tables : ModelTables
  pub lanes : List ℕ
  pub coeffs : List Float
  pub len : ℕ
  pub protected : List ℕ
  pub limits : Limits
  pub dt : Float
  pub drop_tol : Float
  pub work : Step.Work
  pub answer : SteppedBasis
  pub lanes' : List ℕ
  pub coeffs' : List Float
  pub work' : Step.Work
  pub leaves : LeavesStep (step model tables lanes coeffs len protected limits dt drop_tol work) answer lanes' coeffs' work'
