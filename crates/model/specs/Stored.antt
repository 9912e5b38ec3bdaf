-- SPDX-FileCopyrightText: 2026 The PPVM Authors
-- SPDX-License-Identifier: Apache-2.0

-- What the tables of a lent model mean.
use Rattle.std.specs.Prelude.{ℕ, zero, suc, ◌+◌, ◌*◌, Bool, ◌&&◌, ◌||◌, List, [], ◌∷◌, eqb, ltb, leb, Float, get_or, set}
use Rattle.std.specs.Float.{nan}
use Rattle.lent.specs.Laid.{laid}
use Rattle.model.specs.declared.stored.Range.{Range}
use Rattle.model.specs.declared.stored.Jump.{Jump}
use Rattle.model.specs.declared.stored.Jump.TheVariants.{Pauli, General, Pair}

-- the six lent slices: Hamiltonian terms, jumps and pairs, terms
pub record ModelTables : Type 0 where
  pub h_words : List ℕ
  pub h_coeffs : List Float
  pub jumps : List ℕ
  pub rates : List Float
  pub t_words : List ℕ
  pub t_numbers : List Float

-- the numbers of an entry of the table of jumps and pairs
abbrev pub jump_numbers : ℕ
jump_numbers = 8

-- number k of entry j
abbrev pub entry_number : List ℕ → ℕ → ℕ → ℕ
entry_number jumps j k = get_or jumps (j * jump_numbers + k) 0

abbrev pub kind_at : List ℕ → ℕ → ℕ
kind_at jumps j = get_or jumps (j * jump_numbers) 0

abbrev pub range : ℕ → ℕ → Range
range s e = record { start = s; end = e }

-- the eight numbers of an entry
abbrev pub entry : ℕ → Range → Range → ℕ → Range → List ℕ
entry kind left right factors product =
    kind ∷ left.start ∷ left.end ∷ right.start ∷ right.end ∷ factors ∷ product.start ∷ product.end ∷ []

-- the numbers of entry j, laid
abbrev pub lay_entry : List ℕ → ℕ → List ℕ → List ℕ
lay_entry l j e = laid set (j * jump_numbers) e l

abbrev pub by_kind : ℕ → Jump → Jump → Jump → Jump
by_kind zero a b c = a
by_kind (suc zero) a b c = b
by_kind (suc (suc k)) a b c = c

-- entry j: its kind (0 Pauli, 1 general, 2 pair), the places of its left and its right operator, the place of the
-- first of its factors, and the places of its product
unfoldable pub jump_at : List ℕ → List Float → ℕ → Jump
jump_at jumps rates j =
    by_kind (kind_at jumps j)
    (Pauli (get_or rates j nan) (entry_number jumps j 1))
    (General (get_or rates j nan) (range (entry_number jumps j 1) (entry_number jumps j 2)) (range (entry_number jumps j 6) (entry_number jumps j 7)))
    (Pair (range (entry_number jumps j 1) (entry_number jumps j 2)) (range (entry_number jumps j 3) (entry_number jumps j 4)) (entry_number jumps j 5) (range (entry_number jumps j 6) (entry_number jumps j 7)))

-- is a place of the terms table in a range
abbrev pub holds : Range → ℕ → Bool
holds r t = leb r.start t && ltb t r.end

-- is it the place of a given term of a jump: not of a factor or a product
abbrev pub given : Jump → ℕ → Bool
given (Pauli rate term) t = eqb term t
given (General rate terms product) t = holds terms t
given (Pair left right factors product) t = holds left t || holds right t
