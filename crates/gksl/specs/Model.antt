-- SPDX-FileCopyrightText: 2026 The PPVM Authors
-- SPDX-License-Identifier: Apache-2.0

-- A model, over any numbers: Hamiltonian terms, jumps, and matrices K over operators, added one after the other.
use Rattle.std.specs.Prelude.{ℕ, suc, ◌+◌, ◌*◌, ◌<◌, ◌≡◌, ◌&&◌, cond, List, [], ◌∷◌, ltb, length, get_or, pos}
use Rattle.number.specs.Numbers.{Numbers, Cx, conj_c, zero_c, largest_over}
use Rattle.number.specs.Whole.{whole, ten_to28}
use Rattle.gksl.specs.Operator.{Words, Onto}

-- a real number and a word
pub record RealTerm (N : Numbers) (S : Words) : Type 0 where
  pub num : N.Num
  pub word : S.Word

-- a rate and an operator
pub record JumpOver (N : Numbers) (S : Words) : Type 0 where
  pub rate : N.Num
  pub op : List (Onto N S)

-- a matrix K over operators
pub record MatrixOver (N : Numbers) (S : Words) : Type 0 where
  pub ops : List (List (Onto N S))
  -- row by row, as many of each as there are operators
  pub entries : List (Cx N)

-- the entry in a row and a column, of so many; 0 past them
unfoldable pub entry_in : (N : Numbers) → ℕ → List (Cx N) → ℕ → ℕ → Cx N
entry_in N k K i j = cond (ltb i k && ltb j k) (get_or K (i * k + j) (zero_c N)) (zero_c N)

abbrev pub entry_over : (N : Numbers) (S : Words) → MatrixOver N S → ℕ → ℕ → Cx N
entry_over N S k = entry_in N (length k.ops) k.entries

pub record ModelOver (N : Numbers) (S : Words) : Type 0 where
  pub terms : List (RealTerm N S)
  pub jumps : List (JumpOver N S)
  pub matrices : List (MatrixOver N S)

-- an operator with its row in the matrix
pub record Row (N : Numbers) (S : Words) : Type 0 where
  pub row : ℕ
  pub op : List (Onto N S)

-- rows from n on
unfoldable pub rows_over : (N : Numbers) (S : Words) → ℕ → List (List (Onto N S)) → List (Row N S)
rows_over N S n [] = []
rows_over N S n (A ∷ As) = record { row = n; op = A } ∷ rows_over N S (suc n) As

-- ---- what the exact theorem asks of a matrix over the whole numbers: it is Hermitian, and its largest squared magnitude
-- is below 1e28, so that no entry but 0 is skipped
pub record Moderate (S : Words) (k : MatrixOver whole S) : Type 0 where
  pub hermitian : (i j : ℕ) → entry_over whole S k j i ≡ conj_c whole (entry_over whole S k i j)
  pub size : ℕ
  pub is : largest_over whole k.entries ≡ pos size
  pub below : size < ten_to28

abbrev pub AllModerate : (S : Words) → List (MatrixOver whole S) → Type 0
AllModerate S [] = Unit {0}
AllModerate S (k ∷ Ks) = Moderate S k × AllModerate S Ks
