-- SPDX-FileCopyrightText: 2026 The PPVM Authors
-- SPDX-License-Identifier: Apache-2.0

-- How many terms are stored at most, by the numbers of jumps, operators and their terms alone. Assumes nothing.
use mathlib.Core.Path.{subst}
use mathlib.Core.List.{List, [], ◌∷◌, ◌++◌, map}
use Prim.Native.Nat.{ℕ, zero, suc, ◌+◌, ◌*◌, ◌/◌, ◌≤◌}
use native.Mathlib.Nat.{le_trans, suc-mul, mul-le-mul, mul-le-mul_right}
use native.Mathlib.Omega.{arith}
use lib.ListN.{length, get_or, take, drop, length-append, length-map, length-take}
use Rattle.number.specs.Numbers.{Cx}
use Rattle.number.specs.Floats.{floats}
use Rattle.gksl.specs.Model.{JumpOver}
use Rattle.gksl.specs.Rules.{formed_over}
use Rattle.gksl.specs.Words.{pauli}
use Rattle.model.specs.Terms.{Term}
use Rattle.model_build.specs.Compiled.{Compiled, compile_jump}
use Rattle.model_build.specs.Built.{parts, terms_of}
use Rattle.model.specs.declared.stored.Range.{Range}
use Rattle.model_build.proofs.SizeLaws.{formed_few, compiled_few}
use Rattle.lent.specs.Every.{Every}
use Rattle.lent.proofs.Lists.{every_all, every_weaken, every_map}
use Rattle.k_matrix.specs.Matrix.{pair_places}
use Rattle.k_matrix.specs.Pairs.{factor_of, factors_of, scaled, product_after, compile_pair, pair_at, pairs_of}
use Rattle.k_matrix.specs.Added.{all_terms}
use Rattle.k_matrix.proofs.MatrixLaws.{pairs_few}
use Rattle.model_laws.specs.AddedFrom.{pairs_up_to, matrix_places}
use Rattle.model_laws.proofs.RelatedLaws.{pairs_length}

-- ---- terms one after another
terms_most : (n : ℕ) (cs : List Compiled) → Every (λ c. length c.terms ≤ n) cs → length (terms_of cs) ≤ length cs * n
unfolding terms_of
terms_most n [] h = omega arith
terms_most n (c ∷ cs) h = omega (arith, h.0, terms_most n cs h.1, length-append c.terms (terms_of cs), suc-mul (length cs) n)

all_most : (n : ℕ) (As : List (List Term)) → Every (λ A. length A ≤ n) As → length (all_terms As) ≤ length As * n
unfolding all_terms
all_most n [] h = omega arith
all_most n (A ∷ As) h = omega (arith, h.0, all_most n As h.1, length-append A (all_terms As), suc-mul (length As) n)

-- what holds of lengths, and of smaller ones, holds of the parts
pub parts_every : {A : Type 0} (P : ℕ → Type 0) → ((a b : ℕ) → a ≤ b → P b → P a) → (ns : List ℕ) (l : List A) → ((j : ℕ) → P (get_or ns j 0)) → Every (λ p. P (length p)) (parts ns l)
unfolding parts
parts_every P down [] l h = tt
parts_every P down (k ∷ ns) l h = (down (length (take k l)) k (omega (arith, length-take k l)) (h 0), parts_every P down ns (drop k l) (λ j. h (suc j)))

-- ---- jumps: the operator's terms and its product
jump_most : (c : ℕ) (j : JumpOver floats pauli) → length j.op ≤ c → length (compile_jump j).terms ≤ c + c * c
jump_most c j h = omega (arith, h, compiled_few j.rate j.op, mul-le-mul h h)

pub jumps_fit : (c : ℕ) (js : List (JumpOver floats pauli)) → Every (λ j. length j.op ≤ c) js → length (terms_of (map compile_jump js)) ≤ length js * (c + c * c)
jumps_fit c js h =
    subst (λ (n : ℕ). length (terms_of (map compile_jump js)) ≤ n * (c + c * c)) (length-map js compile_jump)
    (terms_most (c + c * c) (map compile_jump js) (every_map (λ x. length x.terms ≤ c + c * c) compile_jump js (every_weaken _ (λ j. length (compile_jump j).terms ≤ c + c * c) (jump_most c) js h)))

-- ---- pairs: a factor and a term of the product for each two terms at most
pair_most : (c : ℕ) (k : Cx floats) (left right : Range) (A B : List Term) → length A ≤ c → length B ≤ c → length (compile_pair k left right A B).terms ≤ 2 * (c * c)
unfolding compile_pair
pair_most c k left right A B a b =
    omega (arith, length-append (factors_of k A B) (product_after k A B), pairs_length floats pauli (factor_of k) A B, length-map (formed_over floats pauli A B) (scaled k), formed_few A B, mul-le-mul a b)

operator_most : (c : ℕ) (As : List (List Term)) → Every (λ A. length A ≤ c) As → (n : ℕ) → length (get_or As n []) ≤ c
operator_most c [] h n = omega arith
operator_most c (A ∷ As) h zero = h.0
operator_most c (A ∷ As) h (suc n) = operator_most c As h.1 n

pub pairs_up : (ops k : ℕ) → ops ≤ k → ops * suc ops / 2 ≤ pairs_up_to k
pairs_up ops k h = let up : ops * suc ops ≤ k * (k + 1) = mul-le-mul h (omega arith) in omega (arith, up)

pub pairs_fit : (from k c : ℕ) (counts : List ℕ) (K : List (Cx floats)) (As : List (List Term)) → length counts ≤ k → length As ≤ k → Every (λ A. length A ≤ c) As
    → length (all_terms As ++ terms_of (pairs_of from counts K As)) ≤ matrix_places k c
pairs_fit from k c counts K As few ops h =
    let P : List ℕ = pair_places floats (length counts) K in
    let cs : List Compiled = pairs_of from counts K As in
    let each : Every (λ x. length x.terms ≤ 2 * (c * c)) cs =
    every_map (λ x. length x.terms ≤ 2 * (c * c)) (pair_at from counts K As) P
    (every_all (λ p. length (pair_at from counts K As p).terms ≤ 2 * (c * c)) (λ p. pair_most c _ _ _ _ _ (operator_most c As h _) (operator_most c As h _)) P) in
    let number : length cs ≤ pairs_up_to k = omega (arith, length-map P (pair_at from counts K As), pairs_few (length counts) K, pairs_up (length counts) k few) in
    let own : length (all_terms As) ≤ k * c = le_trans (all_most c As h) (mul-le-mul_right c ops) in
    let more : length (terms_of cs) ≤ pairs_up_to k * (2 * (c * c)) = le_trans (terms_most (2 * (c * c)) cs each) (mul-le-mul_right (2 * (c * c)) number) in
    omega (arith, length-append (all_terms As) (terms_of cs), own, more)
