-- SPDX-FileCopyrightText: 2026 The PPVM Authors
-- SPDX-License-Identifier: Apache-2.0

-- K by its places, row by row: which rows and columns disagree with their mirror entries, and which make pairs.
use Rattle.std.specs.Prelude.{ℕ, zero, suc, ◌*◌, ◌/◌, ◌%◌, Bool, not, ◌&&◌, cond, List, [], ◌∷◌, ltb, leb, Err}
use Rattle.refusal.specs.declared.Refusal.TheVariants.{KMatrixNotHermitian}
use Rattle.refusal.specs.Cause.{Answer}
use Rattle.number.specs.Numbers.{Numbers, Cx, sub_c, conj_c, square, largest_over}
use Rattle.number.specs.Floats.{floats}
use Rattle.gksl.specs.Model.{entry_in}
use Rattle.lent.specs.Tests.{first_to}

-- an entry less the conjugate of its mirror entry has too large a squared magnitude, beside the larger of 1 and the largest
unfoldable pub apart : (N : Numbers) → ℕ → List (Cx N) → ℕ → ℕ → Bool
apart N ops K n m = not (N.near (square N (sub_c N (entry_in N ops K n m) (conj_c N (entry_in N ops K m n)))) (largest_over N K))

-- at place p, row p / ops and column p % ops, the row not above the column
unfoldable pub apart_at : (N : Numbers) → ℕ → List (Cx N) → ℕ → Bool
apart_at N ops K p = leb (p / ops) (p % ops) && apart N ops K (p / ops) (p % ops)

-- 10 names the first failing row and column, in row order
unfoldable pub hermitian : ℕ → List (Cx floats) → Answer → Answer
hermitian ops K after =
    let p : ℕ = first_to (ops * ops) (apart_at floats ops K) in
    cond (ltb p (ops * ops)) (Err (KMatrixNotHermitian (p / ops) (p % ops))) after

-- ---- pairs, the row not above the column; an entry is skipped if it is negligible beside the largest one
unfoldable pub skipped : (N : Numbers) → ℕ → List (Cx N) → ℕ → ℕ → Bool
skipped N ops K n m = N.slighter (square N (entry_in N ops K n m)) (largest_over N K)

unfoldable pub is_pair : (N : Numbers) → ℕ → List (Cx N) → ℕ → Bool
is_pair N ops K p = leb (p / ops) (p % ops) && not (skipped N ops K (p / ops) (p % ops))

-- of n numbers from p on, those that pass a test
unfoldable pub passing : (ℕ → Bool) → ℕ → ℕ → List ℕ
passing f p zero = []
passing f p (suc n) = cond (f p) (p ∷ passing f (suc p) n) (passing f (suc p) n)

-- the places of K that make pairs, in row order
abbrev pub pair_places : (N : Numbers) → ℕ → List (Cx N) → List ℕ
pair_places N ops K = passing (is_pair N ops K) 0 (ops * ops)
