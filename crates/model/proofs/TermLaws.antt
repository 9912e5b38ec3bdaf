-- SPDX-FileCopyrightText: 2026 The PPVM Authors
-- SPDX-License-Identifier: Apache-2.0

-- Terms in flat tables: how many there are, one of them, one more of them. Assumes nothing.
use mathlib.Core.Path.{◌≡◌, refl, ap, ◌∙◌}
use mathlib.Core.List.{List, [], ◌∷◌, ◌++◌}
use Prim.Native.Nat.{ℕ, zero, suc, ◌+◌, ◌-◌, ◌*◌, ◌≤◌, ◌<◌, zero-le, suc-le-suc}
use native.Mathlib.Omega.{arith}
use lib.Ieee.{Float}
use lib.ListN.{length, get_or, take, drop, length-drop}
use lib.Seq.{get_or-drop, take-suc}
use Rattle.word.specs.Word.{identity}
use Rattle.word.specs.Flat.{words, word_lanes}
use Rattle.word.specs.declared.word.Word.{Word}
use Rattle.word.proofs.FlatLaws.{words_high}
use Rattle.number.specs.Numbers.{Cx}
use Rattle.number.specs.Floats.{floats}
use Rattle.gksl.specs.Operator.{Onto}
use Rattle.gksl.specs.Words.{pauli}
use Rattle.sums.specs.Numbers.{complexes, no_number}
use Rattle.sums.specs.Sums.{rows}
use Rattle.sums.proofs.NumberLaws.{complexes_high}
use Rattle.model.specs.Terms.{term_at, terms_in}

pub onto_eq : {z z' : Cx floats} {w w' : Word} → z ≡ z' → w ≡ w' → ◌≡◌ {A = Onto floats pauli} (record { num = z; word = w }) (record { num = z'; word = w' })
onto_eq p q = λ i. record { num = p i; word = q i }

pub rows_length : (a : List Word) (b : List (Cx floats)) (m : ℕ) → m ≤ length a → m ≤ length b → m ≤ length (rows a b)
unfolding rows
rows_length a b zero p q = zero-le
rows_length [] b (suc m) p q = absurd (omega arith)
rows_length (w ∷ a) [] (suc m) p q = absurd (omega arith)
rows_length (w ∷ a) (z ∷ b) (suc m) p q = suc-le-suc (rows_length a b m (omega arith) (omega arith))

pub rows_at : (a : List Word) (b : List (Cx floats)) (i : ℕ) (d : Onto floats pauli) → i < length a → i < length b
    → get_or (rows a b) i d ≡ record { num = get_or b i no_number; word = get_or a i identity }
unfolding rows
rows_at [] b i d p q = absurd (omega arith)
rows_at (w ∷ a) [] i d p q = absurd (omega arith)
rows_at (w ∷ a) (z ∷ b) zero d p q = refl
rows_at (w ∷ a) (z ∷ b) (suc i) d p q = rows_at a b i d (omega arith) (omega arith)

pub terms_none : (lanes : List ℕ) (numbers : List Float) (s : ℕ) → terms_in lanes numbers s s ≡ []
terms_none lanes numbers s = let e : s - s ≡ 0 = omega arith in ap (λ (m : ℕ). take m (drop s (rows (words lanes) (complexes numbers)))) e

pub terms_more : (lanes : List ℕ) (numbers : List Float) (s j : ℕ) → s ≤ j → word_lanes * (j + 1) ≤ length lanes → 2 * (j + 1) ≤ length numbers
    → terms_in lanes numbers s (j + 1) ≡ terms_in lanes numbers s j ++ (term_at lanes numbers j ∷ [])
terms_more lanes numbers s j h hl hn =
    let R : List (Onto floats pauli) = rows (words lanes) (complexes numbers) in
    let d : Onto floats pauli = term_at lanes numbers j in
    let e : (j + 1) - s ≡ suc (j - s) = omega arith in
    let k : s + (j - s) ≡ j = omega arith in
    let lw : j < length (words lanes) = omega (arith, words_high lanes) in
    let ln : j < length (complexes numbers) = omega (arith, complexes_high numbers) in
    let lr : suc j ≤ length R = rows_length (words lanes) (complexes numbers) (suc j) lw ln in
    ap (λ (m : ℕ). take m (drop s R)) e
    ∙ take-suc (drop s R) (j - s) d (omega (arith, length-drop s R))
    ∙ ap (λ (t : Onto floats pauli). take (j - s) (drop s R) ++ (t ∷ []))
    (get_or-drop s R (j - s) d ∙ ap (λ (m : ℕ). get_or R m d) k ∙ rows_at (words lanes) (complexes numbers) j d lw ln)

-- ---- the first numbers, and those past them
twice_suc : (k : ℕ) → 2 * suc k ≡ suc (suc (2 * k))
twice_suc k = omega arith

pub take_complexes : (k : ℕ) (xs : List Float) → take k (complexes xs) ≡ complexes (take (2 * k) xs)
unfolding complexes
take_complexes zero xs = refl
take_complexes (suc k) [] = rw (twice_suc k)
take_complexes (suc k) (x ∷ []) = rw (twice_suc k)
take_complexes (suc k) (x ∷ y ∷ xs) = rw (twice_suc k) (ap (λ (r : List (Cx floats)). record { re = x; im = y } ∷ r) (take_complexes k xs))

pub drop_complexes : (k : ℕ) (xs : List Float) → drop k (complexes xs) ≡ complexes (drop (2 * k) xs)
unfolding complexes
drop_complexes zero xs = refl
drop_complexes (suc k) [] = rw (twice_suc k)
drop_complexes (suc k) (x ∷ []) = rw (twice_suc k)
drop_complexes (suc k) (x ∷ y ∷ xs) = rw (twice_suc k) (drop_complexes k xs)
