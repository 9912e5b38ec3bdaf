-- SPDX-FileCopyrightText: 2026 The PPVM Authors
-- SPDX-License-Identifier: Apache-2.0

-- How many terms are stored at most: k and k × k for a jump of k terms. Whether places hold the terms of jumps. Assumes nothing.
use mathlib.Core.Path.{◌≡◌, sym, ap}
use mathlib.Core.Bool.{Bool, true, false, cond}
use mathlib.Core.List.{List, [], ◌∷◌, map}
use Prim.Native.Nat.{ℕ, ◌+◌, ◌*◌, ◌≤◌, ◌<◌}
use native.Mathlib.Nat.{le_trans, le_refl, mul-le-mul, add-le-add}
use native.Mathlib.Numerals.{add-one}
use native.Mathlib.Omega.{arith}
use borrow.Author.Tests.{le-leb}
use lib.Dec.{leb}
use lib.Ieee.{Float}
use lib.ListN.{length, get_or, take, drop, length-append, length-map, length-take, drop_of_length-le}
use lib.Seq.{drop-cons}
use Rattle.number.specs.Floats.{floats}
use Rattle.gksl.specs.Rules.{formed_over}
use Rattle.gksl.specs.Table.{put_all_over}
use Rattle.gksl.specs.Words.{pauli}
use Rattle.sums.proofs.SumLaws.{length_put_all_high}
use Rattle.model_build.specs.Given.{GivenTerm}
use Rattle.model_build.specs.Compiled.{compile_jump, general_jump, pauli_jump}
use Rattle.model_build.specs.Built.{parts, jump_items, terms_of}
use Rattle.model_build.specs.Taken.{term_taken, jump_taken}
use Rattle.model_build.specs.Work.{CountsJumps, places_for, FitsJumps, terms_given}
use Rattle.model_build.proofs.OperatorLaws.{pairs_few, without_fewer}
use Rattle.model.specs.Terms.{Term}

-- ---- a product has no more terms than there are pairs
put_few : (A : List Term) → length (put_all_over floats pauli A []) ≤ length A
put_few A = omega (arith, length_put_all_high A [])

pub formed_few : (A B : List Term) → length (formed_over floats pauli A B) ≤ length A * length B
unfolding formed_over
formed_few A B = le_trans (without_fewer _ _) (le_trans (put_few _) (pairs_few _ A B (length B) (le_refl (length B))))

-- ---- a jump stores its terms and its product
general_few : (g : Float) (op : List Term) → length (general_jump g op).terms ≤ length op + length op * length op
general_few g op = omega (arith, length-append op (formed_over floats pauli op op), formed_few op op)

pub compiled_few : (g : Float) (op : List Term) → length (compile_jump (record { rate = g; op = op })).terms ≤ length op + length op * length op
unfolding compile_jump
compiled_few g [] = general_few g []
compiled_few g (t ∷ []) = go (floats.is_zero t.num.im)
  where
    go : (b : Bool) → length (cond b (pauli_jump g t) (general_jump g (t ∷ []))).terms ≤ 2
    go true = omega arith
    go false = general_few g (t ∷ [])
compiled_few g (t ∷ u ∷ op) = general_few g (t ∷ u ∷ op)

-- ---- all jumps, of at most so many terms each
given_few : (n : ℕ) (gs : List Float) (cs : List ℕ) (ts : List GivenTerm) → length (terms_of (map (λ j. compile_jump (jump_taken n j)) (jump_items gs (parts cs ts)))) ≤ places_for cs
unfolding terms_of places_for jump_items parts
given_few n [] cs ts = omega arith
given_few n (g ∷ gs) [] ts = omega arith
given_few n (g ∷ gs) (c ∷ cs) ts =
    let op : List Term = map (term_taken n) (take c ts) in
    let k : length op ≤ c = omega (arith, length-map (take c ts) (term_taken n), length-take c ts) in
    omega (arith, length-append (compile_jump (record { rate = g; op = op })).terms (terms_of (map (λ j. compile_jump (jump_taken n j)) (jump_items gs (parts cs (drop c ts))))), compiled_few g op, add-le-add k (mul-le-mul k k), given_few n gs cs (drop c ts))

pub places_turn : (cs : List ℕ) (j : ℕ) → j < length cs → places_for (drop j cs) ≡ get_or cs j 0 + get_or cs j 0 * get_or cs j 0 + places_for (drop (j + 1) cs)
unfolding places_for
places_turn cs j h = rw (add-one j) (ap places_for (drop-cons cs j 0 h))

pub places_end : (cs : List ℕ) (j : ℕ) → length cs ≤ j → places_for (drop j cs) ≡ 0
unfolding places_for
places_end cs j h = ap places_for (drop_of_length-le cs h)

pub square_few : (k : ℕ) → k ≤ 16 → k * k ≤ 256
square_few k h = mul-le-mul h h

-- ---- whether so many places hold the terms
module _ (n : ℕ) (cs ns l : List ℕ) (xs : List Float) (places : ℕ) where
  pub fits_ample : places_for cs ≤ places → FitsJumps n cs ns l xs places true
  fits_ample h = record { fits = λ gs e. sym (le-leb _ places (le_trans (given_few n gs cs (terms_given ns l xs)) h)) }

  pub fits_counted : (kept : ℕ) → CountsJumps n cs ns l xs kept → FitsJumps n cs ns l xs places (leb kept places)
  fits_counted kept c = record { fits = λ gs e. ap (λ (m : ℕ). leb m places) (c.counts gs e) }
