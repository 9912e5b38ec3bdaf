-- SPDX-FileCopyrightText: 2026 The PPVM Authors
-- SPDX-License-Identifier: Apache-2.0

-- What an action lists: nothing for the identity, only words that differ from p on qubits of the model's words, and only finite
-- numbers. Assumes nothing.
use mathlib.Core.Path.{◌≡◌}
use mathlib.Core.List.{[]}
use Prim.Native.Nat.{ℕ, ◌<◌}
use lib.Dec.{T}
use lib.ListN.{get_or}
use Rattle.std.specs.Prelude.{Ok}
use Rattle.word.specs.Word.{max_qubits, letter_at, identity}
use Rattle.word.specs.Flat.{words}
use Rattle.word.specs.declared.word.Word.{Word}
use Rattle.number.specs.Floats.{floats, is_finite}
use Rattle.gksl.specs.Model.{ModelOver}
use Rattle.gksl.specs.Words.{pauli}
use Rattle.gksl.specs.Table.{put_all_over, without_over}
use Rattle.model.specs.Stored.{ModelTables}
use Rattle.model.specs.Tested.{test_model}
use Rattle.model.specs.declared.stored.Model.{Model}
use Rattle.lent.specs.Every.{Every}
use Rattle.model_laws.proofs.RuleBounds.{every_without}
use Rattle.action.specs.Acts.{sums_of, action_of}
use Rattle.action_laws.specs.Made.{Made}
use Rattle.action_laws.specs.Untouched.{Untouched}
use Rattle.action_laws.proofs.ReachedNothing.{identity_nothing}
use Rattle.action_laws.proofs.ReachedMade.{sums_made}
use Rattle.action_laws.proofs.FiniteSums.{sums_finite_stored}
use Rattle.action_laws.proofs.ReachedNear.{sums_near}

pub identity_action : (m : Model) (t : ModelTables) → action_of m t identity ≡ []
unfolding action_of sums_of put_all_over without_over
identity_action m t = rw (identity_nothing m t)

-- a qubit on which none of the model's words acts keeps p's letter
pub listed_near : (m : Model) (t : ModelTables) → test_model m t ≡ Ok tt → (q : ℕ) → q < max_qubits
    → ((i : ℕ) → i < m.hamiltonian → letter_at (get_or (words t.h_words) i identity) q ≡ 0)
    → ((i : ℕ) → i < m.terms → letter_at (get_or (words t.t_words) i identity) q ≡ 0)
    → (p : Word) → Every (λ c. letter_at c.word q ≡ letter_at p q) (action_of m t p)
unfolding action_of sums_of
listed_near m t ok q low reals terms p = every_without _ _ _ (sums_near m t ok q low reals terms p)

-- and of a model that was built, a qubit on which nothing given acts
pub made_near : (g : ModelOver floats pauli) (m : Model) (t : ModelTables) → Made g m t → (q : ℕ) → q < max_qubits → Untouched g q
    → (p : Word) → Every (λ c. letter_at c.word q ≡ letter_at p q) (action_of m t p)
unfolding action_of sums_of
made_near g m t made q low untouched p = every_without _ _ _ (sums_made g m t made q low untouched p)

-- however many items a model that passed its test has
pub listed_finite : (m : Model) (t : ModelTables) → test_model m t ≡ Ok tt → (p : Word) → Every (λ c. T (is_finite c.num.re) × T (is_finite c.num.im)) (action_of m t p)
unfolding action_of sums_of
listed_finite m t ok p = every_without _ _ _ (sums_finite_stored m t ok p)
