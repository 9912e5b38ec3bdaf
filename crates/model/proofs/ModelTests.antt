-- SPDX-FileCopyrightText: 2026 The PPVM Authors
-- SPDX-License-Identifier: Apache-2.0

-- The tests of a lent model's tables, over the tables and over the slices that each reads. Assumes nothing.
use mathlib.Core.Path.{◌≡◌, refl, ap, ◌∙◌}
use mathlib.Core.List.{List}
use mathlib.Core.Bool.{Bool, true, not, ◌||◌, or_assoc}
use Prim.Native.Nat.{ℕ, ◌+◌, ◌*◌, ◌≤◌, ◌<◌}
use borrow.Author.Tests.{lt-ltb, le-ltb}
use lib.ListN.{get_or}
use lib.Ieee.{Float, nan}
use Rattle.word.specs.Word.{identity}
use Rattle.word.specs.Register.{reaches}
use Rattle.word.specs.Flat.{words}
use Rattle.word.specs.declared.word.Word.{Word}
use Rattle.model.specs.declared.stored.Jump.{Jump}
use Rattle.number.specs.Floats.{bounded}
use Rattle.model.specs.Stored.{ModelTables, kind_at, jump_at}
use Rattle.model.specs.Tested.{bad_real, bad_jump, bad_entry, is_given, bad_term}
use Rattle.model.specs.Fails.{fails_given, number_fails}
use Rattle.lent.specs.Tests.{first_to}
use Rattle.lent.proofs.Firsts.{first_cong}
use Rattle.model.specs.Between.{fails_real, real_fails, entry_fails, fails_term, term_fails, given_fails, any_fails}

-- ---- what is read at a place
pub real_at : (n : ℕ) (lanes : List ℕ) (coeffs : List Float) (i : ℕ) {w : Word} {r : Bool}
    → w ≡ get_or (words lanes) i identity → r ≡ fails_real w (get_or coeffs i nan) n → r ≡ real_fails n lanes coeffs i
unfolding real_fails
real_at n lanes coeffs i e f = f ∙ ap (λ (w : Word). fails_real w (get_or coeffs i nan) n) e

pub term_at : (n : ℕ) (lanes : List ℕ) (numbers : List Float) (i : ℕ) {w : Word} {r : Bool}
    → w ≡ get_or (words lanes) i identity → r ≡ fails_term w (get_or numbers (i * 2) nan) (get_or numbers (i * 2 + 1) nan) n → r ≡ term_fails n lanes numbers i
unfolding term_fails
term_at n lanes numbers i e f = f ∙ ap (λ (w : Word). fails_term w (get_or numbers (i * 2) nan) (get_or numbers (i * 2 + 1) nan) n) e

pub number_at : (numbers : List Float) (i : ℕ) {r : Bool} → r ≡ fails_given (get_or numbers (i * 2) nan) (get_or numbers (i * 2 + 1) nan) → r ≡ number_fails numbers i
unfolding number_fails
number_at numbers i f = f

module _ (places : ℕ) (jumps : List ℕ) (rates : List Float) (j : ℕ) where
  -- a kind that there is not
  pub entry_kind : 2 < kind_at jumps j → true ≡ entry_fails places jumps rates j
  unfolding entry_fails
  entry_kind h = rw (lt-ltb 2 (kind_at jumps j) h)

  pub entry_jump : {jump : Jump} {r : Bool} → kind_at jumps j ≤ 2 → jump ≡ jump_at jumps rates j → r ≡ bad_jump places jump → r ≡ entry_fails places jumps rates j
  unfolding entry_fails
  entry_jump h e f = rw (le-ltb 2 (kind_at jumps j) h) (f ∙ ap (bad_jump places) e)

-- ---- the same test of the tables and of the slices
module _ (n : ℕ) (t : ModelTables) where
  pub real_first : (count : ℕ) → first_to count (real_fails n t.h_words t.h_coeffs) ≡ first_to count (bad_real n t)
  unfolding real_fails bad_real
  real_first count = first_cong count (real_fails n t.h_words t.h_coeffs) (bad_real n t) (λ k l. refl)

  pub entry_first : (count : ℕ) → first_to count (entry_fails n t.jumps t.rates) ≡ first_to count (bad_entry n t)
  unfolding entry_fails bad_entry
  entry_first count = first_cong count (entry_fails n t.jumps t.rates) (bad_entry n t) (λ k l. refl)

  pub term_first : (jumps count : ℕ) → first_to count (any_fails n jumps t.jumps t.rates t.t_words t.t_numbers) ≡ first_to count (bad_term n jumps t)
  unfolding any_fails term_fails given_fails number_fails bad_term is_given
  term_first jumps count = first_cong count (any_fails n jumps t.jumps t.rates t.t_words t.t_numbers) (bad_term n jumps t) (λ k l. grouped k)
    where
      grouped : (k : ℕ) → any_fails n jumps t.jumps t.rates t.t_words t.t_numbers k ≡ bad_term n jumps t k
      grouped k = four (reaches (get_or (words t.t_words) k identity) n) (not (bounded (get_or t.t_numbers (k * 2) nan))) (not (bounded (get_or t.t_numbers (k * 2 + 1) nan))) _
        where
          four : (a b c d : Bool) → (a || (b || c) || d) ≡ (a || (b || (c || d)))
          four a b c d = or_assoc a (b || c) d ∙ ap (λ (x : Bool). a || x) (or_assoc b c d)
