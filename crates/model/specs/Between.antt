-- SPDX-FileCopyrightText: 2026 The PPVM Authors
-- SPDX-License-Identifier: Apache-2.0

-- Contracts between functions: the tests of a lent model, each over the slices that it reads; tables and terms as the code has them.
use Rattle.std.specs.Prelude.{ℕ, ◌+◌, ◌*◌, Bool, not, ◌&&◌, ◌||◌, List, ltb, Float, get_or}
use Rattle.std.specs.Float.{nan}
use Rattle.word.specs.Count.{any_to}
use Rattle.word.specs.Word.{identity}
use Rattle.word.specs.Register.{reaches}
use Rattle.word.specs.Flat.{words}
use Rattle.word.specs.declared.word.Word.{Word}
use Rattle.number.specs.Floats.{in_range, bounded, cx}
use Rattle.model.specs.Stored.{kind_at, jump_at, holds, given, ModelTables}
use Rattle.model.specs.Tested.{bad_jump}
use Rattle.model.specs.declared.stored.Range.{Range}
use Rattle.model.specs.declared.stored.Jump.{Jump}
use Rattle.model.specs.Fails.{number_fails}
use Rattle.model.specs.Terms.{Term}
use Rattle.model.specs.declared.term.Term as Stored

-- a Hamiltonian term
abbrev pub fails_real : Word → Float → ℕ → Bool
fails_real w x n = reaches w n || not (in_range x)

unfoldable pub real_fails : ℕ → List ℕ → List Float → ℕ → Bool
real_fails n hWords hCoeffs i = fails_real (get_or (words hWords) i identity) (get_or hCoeffs i nan) n

-- an entry of the table of jumps and pairs
unfoldable pub entry_fails : ℕ → List ℕ → List Float → ℕ → Bool
entry_fails places jumps rates j = ltb 2 (kind_at jumps j) || bad_jump places (jump_at jumps rates j)

-- a term, given or not
abbrev pub fails_term : Word → Float → Float → ℕ → Bool
fails_term w re im n = reaches w n || (not (bounded re) || not (bounded im))

unfoldable pub term_fails : ℕ → List ℕ → List Float → ℕ → Bool
term_fails n tWords tNumbers i = fails_term (get_or (words tWords) i identity) (get_or tNumbers (i * 2) nan) (get_or tNumbers (i * 2 + 1) nan) n

-- the given terms at one place, in a range, of a jump, and of the first jumps
unfoldable pub fails_in : Range → List Float → ℕ → Bool
fails_in r tNumbers i = holds r i && number_fails tNumbers i

unfoldable pub fails_of : Jump → List Float → ℕ → Bool
fails_of jump tNumbers i = given jump i && number_fails tNumbers i

unfoldable pub given_fails : ℕ → List ℕ → List Float → List Float → ℕ → Bool
given_fails count jumps rates tNumbers i = any_to count (λ j. given (jump_at jumps rates j) i) && number_fails tNumbers i

-- a term, with the test of given ones
unfoldable pub any_fails : ℕ → ℕ → List ℕ → List Float → List ℕ → List Float → ℕ → Bool
any_fails n count jumps rates tWords tNumbers i = term_fails n tWords tNumbers i || given_fails count jumps rates tNumbers i

abbrev pub model_tables : List ℕ → List Float → List ℕ → List Float → List ℕ → List Float → ModelTables
model_tables hWords hCoeffs jumps rates tWords tNumbers =
    record { h_words = hWords; h_coeffs = hCoeffs; jumps = jumps; rates = rates; t_words = tWords; t_numbers = tNumbers }

abbrev pub onto : Stored.Term → Term
onto t = record { num = cx t.number; word = t.word }
