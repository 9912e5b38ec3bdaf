-- SPDX-FileCopyrightText: 2026 The PPVM Authors
-- SPDX-License-Identifier: Apache-2.0

-- The rules over the whole numbers, as they are written on paper: a middle step between the rules as they are rounded and
-- the exact generator.
use Prim.Native.Nat.{ℕ, zero, suc, ◌%◌}
use mathlib.Core.Bool.{Bool, cond}
use mathlib.Core.List.{List, [], ◌∷◌, ◌++◌, map}
use lib.IntN.{ℤ}
use Rattle.number.specs.Numbers.{real_c, square, largest_over}
use Rattle.number.specs.Whole.{whole, is_nought}
use Rattle.gksl.specs.Gauss.{Gauss, add_g, neg_g, mul_g, conj_g, turn}
use Rattle.gksl.specs.Operator.{Words, Term, Op, at}
use Rattle.gksl.specs.Model.{JumpOver, MatrixOver, ModelOver, Row, rows_over, entry_over}
use Rattle.gksl.specs.Rules.{pairs_over, gather_over, through, onto, overlaps_over, formed_over}
use Rattle.gksl.specs.Generator.{as_term}
use Rattle.gksl.proofs.GaussLaws.{twice_re, im_of}

abbrev pub pairs : (S : Words) → (Term S → Term S → Term S) → Op S → Op S → Op S
pairs S f A B = pairs_over whole S f A B

abbrev pub gather : (S : Words) → (Term S → Op S) → Op S → Op S
gather S f M = gather_over whole S f M

-- sign times z where the phase is even
unfoldable pub evenly : (S : Words) → ℕ → Gauss → S.Word → Op S
evenly S zero z w = at S z w ∷ []
evenly S (suc zero) z w = []
evenly S (suc (suc zero)) z w = at S (neg_g z) w ∷ []
evenly S (suc (suc (suc n))) z w = []

-- the commutator's factor times z: -2 at phase 1, 2 at phase 3
unfoldable pub oddly : (S : Words) → ℕ → Gauss → S.Word → Op S
oddly S zero z w = []
oddly S (suc zero) z w = at S (neg_g (add_g z z)) w ∷ []
oddly S (suc (suc zero)) z w = []
oddly S (suc (suc (suc n))) z w = at S (add_g z z) w ∷ []

-- coefficient × factor onto h p
unfoldable pub hamiltonian : (S : Words) → Op S → S.Word → Op S
hamiltonian S H p = gather S (λ h. oddly S (S.phase h.word p % 4) h.num (S.mul h.word p)) H

-- -2 × g at an odd phase
unfoldable pub clashing : (S : Words) → ℕ → Gauss → S.Word → Op S
clashing S zero g p = []
clashing S (suc n) g p = at S (neg_g (add_g g g)) p ∷ []

-- -2 × g onto p if the words anticommute
unfoldable pub pauli : (S : Words) → Gauss → S.Word → S.Word → Op S
pauli S g a p = clashing S (S.phase a p % 2) g p

-- the sandwich, and minus the sign times each number of M where the phase is even
unfoldable pub sandwich : (S : Words) → Gauss → Op S → Op S → S.Word → Op S
sandwich S k A B p =
    pairs S (λ a b. at S (turn (through S a.word p b.word) (mul_g (mul_g (conj_g a.num) b.num) k)) (onto S a.word p b.word)) A B

unfoldable pub general : (S : Words) → Gauss → Op S → Op S → Op S → S.Word → Op S
general S k A B M p =
    sandwich S k A B p
    ++ gather S (λ c. evenly S (S.phase c.word p % 4) (neg_g (mul_g c.num k)) (S.mul c.word p)) M

-- both sides: twice the real part of each product, then minus twice the real part of each number after k
unfoldable pub both_sided : (S : Words) → Gauss → Op S → Op S → Op S → S.Word → Op S
both_sided S k A B M p =
    pairs S (λ a b. at S (twice_re (turn (through S a.word p b.word) (mul_g (mul_g (conj_g a.num) b.num) k))) (onto S a.word p b.word)) A B
    ++ gather S (λ c. evenly S (S.phase c.word p % 4) (neg_g (twice_re (mul_g c.num k))) (S.mul c.word p)) M

-- the right only: minus the imaginary part × factor
unfoldable pub right_only : (S : Words) → Gauss → Op S → S.Word → Op S
right_only S k M p = gather S (λ c. oddly S (S.phase c.word p % 4) (neg_g (im_of (mul_g c.num k))) (S.mul c.word p)) M

-- the left only: plus it
unfoldable pub left_only : (S : Words) → Gauss → Op S → S.Word → Op S
left_only S k M p = gather S (λ c. oddly S (S.phase c.word p % 4) (im_of (mul_g c.num k)) (S.mul c.word p)) M

-- ---- a model

-- does a word of A share a qubit with p
abbrev pub overlaps : (S : Words) → Op S → S.Word → Bool
overlaps S A p = overlaps_over whole S A p

-- A† B, each word once, without zeros
abbrev pub formed : (S : Words) → Op S → Op S → Op S
formed S A B = formed_over whole S A B

unfoldable pub rule_terms : (S : Words) → Op S → S.Word → Op S
rule_terms S H p = gather S (λ h. cond (S.meets h.word p) (oddly S (S.phase h.word p % 4) h.num (S.mul h.word p)) []) H

-- one real term, or a general jump
unfoldable pub rule_shape : (S : Words) → Gauss → Op S → S.Word → Op S
rule_shape S k [] p = []
rule_shape S k (t ∷ []) p = cond (is_nought t.num.im) (pauli S (mul_g (mul_g k t.num) t.num) t.word p) (general S k (t ∷ []) (t ∷ []) (formed S (t ∷ []) (t ∷ [])) p)
rule_shape S k (t ∷ (u ∷ A)) p = general S k (t ∷ (u ∷ A)) (t ∷ (u ∷ A)) (formed S (t ∷ (u ∷ A)) (t ∷ (u ∷ A))) p

unfoldable pub rule_jumps : (S : Words) → List (JumpOver whole S) → S.Word → Op S
rule_jumps S [] p = []
rule_jumps S (j ∷ J) p = cond (overlaps S j.op p) (rule_shape S (real_c whole j.rate) j.op p) [] ++ rule_jumps S J p

-- the entries that are left out beside the largest
abbrev pub skips : ℤ → Gauss → Bool
skips largest k = whole.slighter (square whole k) largest

unfoldable pub rule_diagonal : (S : Words) → (Gauss → Bool) → Gauss → Op S → S.Word → Op S
rule_diagonal S drop k A p = cond (drop k) [] (cond (overlaps S A p) (general S k A A (formed S A A) p) [])

unfoldable pub rule_pair : (S : Words) → (Gauss → Bool) → Gauss → Op S → Op S → S.Word → Op S
rule_pair S drop k A B p =
    cond (drop k) []
    (cond (overlaps S A p)
    (cond (overlaps S B p) (both_sided S k A B (formed S A B) p) (left_only S k (formed S A B) p))
    (cond (overlaps S B p) (right_only S k (formed S A B) p) []))

unfoldable pub rule_row : (S : Words) → (Gauss → Bool) → (ℕ → ℕ → Gauss) → Row whole S → List (Row whole S) → S.Word → Op S
rule_row S drop K x [] p = []
rule_row S drop K x (y ∷ Y) p = rule_pair S drop (K x.row y.row) x.op y.op p ++ rule_row S drop K x Y p

-- pairs, n not above m, in row order
unfoldable pub rule_matrix : (S : Words) → (Gauss → Bool) → (ℕ → ℕ → Gauss) → List (Row whole S) → S.Word → Op S
rule_matrix S drop K [] p = []
rule_matrix S drop K (x ∷ X) p = (rule_diagonal S drop (K x.row x.row) x.op p ++ rule_row S drop K x X p) ++ rule_matrix S drop K X p

unfoldable pub rule_matrices : (S : Words) → List (MatrixOver whole S) → S.Word → Op S
rule_matrices S [] p = []
rule_matrices S (k ∷ Ks) p = rule_matrix S (skips (largest_over whole k.entries)) (entry_over whole S k) (rows_over whole S 0 k.ops) p ++ rule_matrices S Ks p

unfoldable pub rules : (S : Words) → ModelOver whole S → S.Word → Op S
rules S m p = rule_terms S (map (as_term S) m.terms) p ++ (rule_jumps S m.jumps p ++ rule_matrices S m.matrices p)
