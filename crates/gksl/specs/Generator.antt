-- SPDX-FileCopyrightText: 2026 The PPVM Authors
-- SPDX-License-Identifier: Apache-2.0

-- The exact adjoint generator of a model over the whole numbers, from the GKSL equation alone. It is twice the generator of a
-- word p, so that no halves arise.
use Rattle.std.specs.Prelude.{ℕ, List, [], ◌∷◌, ◌++◌, map}
use Rattle.number.specs.Numbers.{real_c}
use Rattle.number.specs.Whole.{whole}
use Rattle.gksl.specs.Gauss.{Gauss, one_g, i_g}
use Rattle.gksl.specs.Operator.{Words, Term, Op, at, single, product, adjoint, scale, minus}
use Rattle.gksl.specs.Model.{RealTerm, JumpOver, MatrixOver, ModelOver, Row, rows_over, entry_over}

-- 2 i (H p - p H)
unfoldable pub commutator2 : (S : Words) → Op S → S.Word → Op S
commutator2 S H p =
    let C : Op S = product S H (single S p) ++ minus S (product S (single S p) H) in
    scale S (i_g one_g) (C ++ C)

-- k (2 A† p B - (A†B p + p A†B))
unfoldable pub dissipator2 : (S : Words) → Gauss → Op S → Op S → S.Word → Op S
dissipator2 S k A B p =
    let M : Op S = product S (adjoint S A) B in
    let L : Op S = product S (product S (adjoint S A) (single S p)) B in
    scale S k ((L ++ L) ++ minus S (product S M (single S p) ++ product S (single S p) M))

-- ---- a model

-- a real number as a complex one
abbrev pub as_term : (S : Words) → RealTerm whole S → Term S
as_term S h = at S (real_c whole h.num) h.word

unfoldable pub exact_jumps : (S : Words) → List (JumpOver whole S) → S.Word → Op S
exact_jumps S [] p = []
exact_jumps S (j ∷ J) p = dissipator2 S (real_c whole j.rate) j.op j.op p ++ exact_jumps S J p

-- over all n and m
unfoldable pub exact_row : (S : Words) → (ℕ → ℕ → Gauss) → Row whole S → List (Row whole S) → S.Word → Op S
exact_row S K x [] p = []
exact_row S K x (y ∷ Y) p = dissipator2 S (K x.row y.row) x.op y.op p ++ exact_row S K x Y p

unfoldable pub exact_matrix : (S : Words) → (ℕ → ℕ → Gauss) → List (Row whole S) → List (Row whole S) → S.Word → Op S
exact_matrix S K [] Y p = []
exact_matrix S K (x ∷ X) Y p = exact_row S K x Y p ++ exact_matrix S K X Y p

unfoldable pub exact_matrices : (S : Words) → List (MatrixOver whole S) → S.Word → Op S
exact_matrices S [] p = []
exact_matrices S (k ∷ Ks) p =
    let X : List (Row whole S) = rows_over whole S 0 k.ops in
    exact_matrix S (entry_over whole S k) X X p ++ exact_matrices S Ks p

-- twice the generator
unfoldable pub generator2 : (S : Words) → ModelOver whole S → S.Word → Op S
generator2 S m p = commutator2 S (map (as_term S) m.terms) p ++ (exact_jumps S m.jumps p ++ exact_matrices S m.matrices p)
