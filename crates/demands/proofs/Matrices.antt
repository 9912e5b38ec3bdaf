-- SPDX-FileCopyrightText: 2026 The PPVM Authors
-- SPDX-License-Identifier: Apache-2.0

-- Demand 3 of the generator and the matrix by rows, as calls: entries between old words stay, from either to either; and the home of
-- every reached word. Assumes nothing.
use mathlib.Core.Path.{◌≡◌, sym, subst, subst⁻¹, ◌∙◌}
use Prim.Native.Nat.{ℕ}
use lib.Ieee.{Float}
use Rattle.std.specs.Prelude.{Ok}
use Rattle.word.specs.Flat.{words}
use Rattle.word.specs.declared.word.Word.{Word}
use Rattle.model.specs.Stored.{ModelTables}
use Rattle.model.specs.Tested.{test_model}
use Rattle.model.specs.declared.stored.Model.{Model}
use Rattle.action.specs.Acts.{action_of}
use Rattle.candidates.specs.Tables.{Rows}
use Rattle.in_use.specs.InUse.{SameModel}
use Rattle.in_use.proofs.SameModels.{same_action}
use Rattle.passes.specs.Leaks.{words_of}
use Rattle.leakage.specs.Leakages.{Leaking, leak}
use Rattle.generator.specs.Lent.{basis_of}
use Rattle.generator.specs.Generators.{Out, CsrOut, Generating, CsrBuilding, generate, build_csr}
use Rattle.generator_laws.specs.Matrices.{Lists, InRow}
use Rattle.generator_laws.proofs.Growth.{Exact, growth}
use Rattle.generator_laws.proofs.Calls.{generator_model, generator_exact, csr_model, csr_exact}
use Rattle.leakage_laws.specs.Calls.{basis_words, listed_by, TauBelowZero, RoomForAll}
use Rattle.accounting.specs.Homes.{Accounted, AccountedWithoutRoom}
use Rattle.accounting.proofs.CallLaws.{every_reached_word_has_one_home, no_word_has_two_homes}
use Rattle.demands.specs.Calls.{Accepted, LeakCall, GeneratorCall, CsrCall}
use Rattle.demands.specs.Demands.{SameModelLent, leaked_by, Generated, ByRows, KeepsEntries, OneHome}
use Rattle.demands.proofs.Accepts.{acted_accepts}
use Rattle.demands.proofs.Leaks.{leak_answer, leaked_is}

-- ---- the tables of an accepted call are those of its definition
module _ (c : GeneratorCall) (ok : Accepted c.answer.status) where
  abbrev made : Generating
  made = generate c.rows c.columns c.values c.work c.model c.tables c.lanes c.len

  generator_answer : made.out.answer ≡ Ok c.answer.count
  generator_answer = acted_accepts made.out.answer c.answer c.leaves.answers ok

  out_is : ◌≡◌ {A = Out} (record { answer = Ok c.answer.count; rows = c.rows'; columns = c.columns'; values = c.values' }) made.out
  out_is = λ i. record { answer = sym generator_answer i; rows = c.leaves.rows_are i; columns = c.leaves.columns_are i; values = c.leaves.values_are i }

  tested_generator : test_model c.model c.tables ≡ Ok tt
  tested_generator = generator_model c.rows c.columns c.values c.work c.model c.tables c.lanes c.len c.answer.count generator_answer

  holds_generator : Exact c.model c.tables (basis_of c.lanes c.len) (Generated c)
  holds_generator =
      subst⁻¹ (λ (o : Out). Exact c.model c.tables (basis_of c.lanes c.len) (Lists o)) out_is
      (generator_exact c.rows c.columns c.values c.work c.model c.tables c.lanes c.len c.answer.count generator_answer)

module _ (c : CsrCall) (ok : Accepted c.answer.status) where
  abbrev made_rows : CsrBuilding
  made_rows = build_csr c.offsets c.columns c.values c.work c.model c.tables c.lanes c.len

  pub csr_answer : made_rows.out.answer ≡ Ok c.answer.count
  csr_answer = acted_accepts made_rows.out.answer c.answer c.leaves.answers ok

  rows_is : ◌≡◌ {A = CsrOut} (record { answer = Ok c.answer.count; offsets = c.offsets'; columns = c.columns'; values = c.values' }) made_rows.out
  rows_is = λ i. record { answer = sym csr_answer i; offsets = c.leaves.offsets_are i; columns = c.leaves.columns_are i; values = c.leaves.values_are i }

  tested_csr : test_model c.model c.tables ≡ Ok tt
  tested_csr = csr_model c.offsets c.columns c.values c.work c.model c.tables c.lanes c.len c.answer.count csr_answer

  holds_csr : Exact c.model c.tables (basis_of c.lanes c.len) (ByRows c)
  holds_csr =
      subst⁻¹ (λ (o : CsrOut). Exact c.model c.tables (basis_of c.lanes c.len) (InRow o)) rows_is
      (csr_exact c.offsets c.columns c.values c.work c.model c.tables c.lanes c.len c.answer.count csr_answer)

-- ---- one model in two lendings acts alike
acts_alike : (m m' : Model) (t t' : ModelTables) → SameModelLent m t m' t' → test_model m t ≡ Ok tt → (q : Word) → action_of m t q ≡ action_of m' t' q
acts_alike m m' t t' same passes q = same_action m t t' same.same_places passes q ∙ (λ i. action_of (same.same_model i) t' q)

pub keeps_entries : KeepsEntries
keeps_entries = record {
  generator = λ c c' ok ok' same grown.
      growth c.model c'.model c.tables c'.tables (acts_alike c.model c'.model c.tables c'.tables same (tested_generator c ok))
      (basis_of c.lanes c.len) (basis_of c'.lanes c'.len) (Generated c) (Generated c') (holds_generator c ok) (holds_generator c' ok') grown;
  generator_to_csr = λ c c' ok ok' same grown.
      growth c.model c'.model c.tables c'.tables (acts_alike c.model c'.model c.tables c'.tables same (tested_generator c ok))
      (basis_of c.lanes c.len) (basis_of c'.lanes c'.len) (Generated c) (ByRows c') (holds_generator c ok) (holds_csr c' ok') grown;
  csr_to_generator = λ c c' ok ok' same grown.
      growth c.model c'.model c.tables c'.tables (acts_alike c.model c'.model c.tables c'.tables same (tested_csr c ok))
      (basis_of c.lanes c.len) (basis_of c'.lanes c'.len) (ByRows c) (Generated c') (holds_csr c ok) (holds_generator c' ok') grown;
  csr = λ c c' ok ok' same grown.
      growth c.model c'.model c.tables c'.tables (acts_alike c.model c'.model c.tables c'.tables same (tested_csr c ok))
      (basis_of c.lanes c.len) (basis_of c'.lanes c'.len) (ByRows c) (ByRows c') (holds_csr c ok) (holds_csr c' ok') grown;
}

-- ---- the home of every reached word
module _ (g : GeneratorCall) (c : LeakCall) (ok : Accepted g.answer.status) (ok' : Accepted c.answer.status) (same-words : basis_of g.lanes g.len ≡ basis_words c.basis) where
  -- over the generator's model, and what leakage over it left
  abbrev leaks : Model → Leaking
  leaks m = leak c.out_words c.out_values c.work m c.tables c.basis c.limits

  abbrev Entries : ℕ → ℕ → Float → Type 0
  Entries = Lists (made g ok).out

  Answers : Model → Type 0
  Answers m = (leaks m).out.answer ≡ Ok c.answer.count

  module _ (same-places : SameModel g.model g.tables c.tables) where
    without_room : (m : Model) → g.model ≡ m → Answers m
        → AccountedWithoutRoom (action_of m c.tables) (basis_words c.basis) (words c.basis.protected) Entries (words_of (listed_by (leaks m) c.answer.count))
    unfolding Answers
    without_room m e =
        subst (λ (x : Model). Answers x → AccountedWithoutRoom (action_of x c.tables) (basis_words c.basis) (words c.basis.protected) Entries (words_of (listed_by (leaks x) c.answer.count))) e
        (no_word_has_two_homes g.model g.tables c.tables same-places g.lanes g.len c.basis same-words g.rows g.columns g.values g.work g.answer.count (generator_answer g ok)
        c.out_words c.out_values c.work c.limits c.answer.count)

    with_room : (m : Model) → g.model ≡ m → Answers m → RoomForAll m c.tables c.basis c.limits → TauBelowZero c.limits
        → Accounted (action_of m c.tables) (basis_words c.basis) (words c.basis.protected) Entries (words_of (listed_by (leaks m) c.answer.count))
    unfolding Answers
    with_room m e =
        subst (λ (x : Model). Answers x → RoomForAll x c.tables c.basis c.limits → TauBelowZero c.limits
        → Accounted (action_of x c.tables) (basis_words c.basis) (words c.basis.protected) Entries (words_of (listed_by (leaks x) c.answer.count))) e
        (every_reached_word_has_one_home g.model g.tables c.tables same-places g.lanes g.len c.basis same-words g.rows g.columns g.values g.work g.answer.count (generator_answer g ok)
        c.out_words c.out_values c.work c.limits c.answer.count)

pub one_home : OneHome
one_home = record {
  room_for_all = λ g c ok ok' same same-words low room.
      subst⁻¹ (λ (o : Out). Accounted (action_of c.model c.tables) (basis_words c.basis) (words c.basis.protected) (Lists o) (words_of (leaked_by c))) (out_is g ok)
      (subst⁻¹ (λ (R : Rows). Accounted (action_of c.model c.tables) (basis_words c.basis) (words c.basis.protected) (Lists (made g ok).out) (words_of R)) (leaked_is c ok')
      (with_room g c ok ok' same-words same.same_places c.model same.same_model (unfold Answers in leak_answer c ok') room low));
  any_room = λ g c ok ok' same same-words.
      subst⁻¹ (λ (o : Out). AccountedWithoutRoom (action_of c.model c.tables) (basis_words c.basis) (words c.basis.protected) (Lists o) (words_of (leaked_by c))) (out_is g ok)
      (subst⁻¹ (λ (R : Rows). AccountedWithoutRoom (action_of c.model c.tables) (basis_words c.basis) (words c.basis.protected) (Lists (made g ok).out) (words_of R)) (leaked_is c ok')
      (without_room g c ok ok' same-words same.same_places c.model same.same_model (unfold Answers in leak_answer c ok')));
}
