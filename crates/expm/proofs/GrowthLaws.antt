-- SPDX-FileCopyrightText: 2026 The PPVM Authors
-- SPDX-License-Identifier: Apache-2.0

-- A norm that is not larger asks for no more products: m × s of the pair for x is at most that of the pair for y, where x is at most
-- y or not above 0. Assumes nothing.
use Rattle.std.proofs.Common.{◌≡◌, ℕ, zero, suc, ◌*◌, ◌<◌, ◌≤◌, Bool, true, false, cond, ◌&&◌, ◌||◌, T, eqb, ltb, List, [], ◌∷◌, map, length, get_or, ℤ, sym, refl, ap, ◌∙◌, subst, inl, inr, le_trans, le_of_eq, le_refl, le_of_suc-le-suc, le_of_lt, lt_irrefl, mul-le-mul_right, mul_comm, mul-le-mul_left, mul-pos, mul_right_comm, le_of_mul-le-mul_right, arith, eqb→eq, ltb→lt, lt→ltb, ltb-true, ne_eqb}
use native.Mathlib.Nat.{mul-mul-mul_comm}
use lib.Ieee.{Float, nan, inf, fin, Format, binary64, up, down, lt, le, div, round, of_bits}
use lib.Ieee.Fits.{up_pos, down_pos, and_l, and_r}
use lib.Ieee.Order.{round_mono}
use lib.Ieee.Positive.{positive, first_pos, above_of_le}
use Rattle.number.specs.Floats.{float0}
use Rattle.number.proofs.Tests.{or_cases}
use Rattle.number.proofs.KeyLaws.{unsigned, round_unsigned}
use Rattle.expm.specs.Theta.{Row, decimal, theta, theta_loose}
use Rattle.expm.specs.Selects.{max_steps, ceiling, steps_of, pair_of, cost, degree_by, table_for, FirstLeast}
use Rattle.expm.specs.declared.Degree.{Degree}
use Rattle.expm.proofs.StepLaws.{ceiling_le, ceiling_gt}
use Rattle.expm.proofs.LeastLaws.{sound, degree_least, degree_none}

-- ---- a number rounded up
covers : (a b : ℕ) → 0 < b → a ≤ ceiling a b * b
covers a b B =
    let g : ceiling a b * b < a → ⊥ = λ h. lt_irrefl (ceiling a b) (ceiling_gt a b B (ceiling a b) h) in
    omega (arith, g)

ceiling_mono : (a b c d : ℕ) → 0 < b → 0 < d → a * d ≤ c * b → ceiling a b ≤ ceiling c d
ceiling_mono a b c d B D h =
    ceiling_le a b B (ceiling c d)
    (le_of_mul-le-mul_right
    (le_trans h (le_trans (mul-le-mul_right b (covers c d D)) (le_of_eq (mul_right_comm (ceiling c d) d b))))
    D)

steps_low : (x : Float) → 1 ≤ steps_of x
unfolding steps_of
steps_low nan = omega arith
steps_low (inf true) = omega arith
steps_low (inf false) = omega arith
steps_low (fin true m e) = omega arith
steps_low (fin false m e) = omega arith

steps_high : (x : Float) → steps_of x ≤ max_steps
unfolding steps_of
steps_high nan = omega arith
steps_high (inf true) = omega arith
steps_high (inf false) = omega arith
steps_high (fin true m e) = omega arith
steps_high (fin false m e) = omega arith

most : (x : Float) → steps_of x ≤ steps_of (inf false)
unfolding steps_of
most x = steps_high x

cross : (a b : ℕ) → T (ltb a b || (eqb a b && true)) → a ≤ b
cross a b t = elim (or_cases (ltb a b) (eqb a b && true) t) [ inl u ↦ le_of_lt (ltb→lt a b u) | inr u ↦ le_of_eq (eqb→eq a b (and_l (eqb a b) true u)) ]

steps_mono : (x y : Float) → T (unsigned x) → T (unsigned y) → T (le x y) → steps_of x ≤ steps_of y
unfolding le
steps_mono x nan X Y h = absurd Y
steps_mono x (inf true) X Y h = absurd Y
steps_mono x (inf false) X Y h = most x
steps_mono x (fin true n d) X Y h = absurd Y
steps_mono nan (fin false n d) X Y h = absurd X
steps_mono (inf true) (fin false n d) X Y h = absurd X
steps_mono (inf false) (fin false n d) X Y h = absurd h
steps_mono (fin true m e) (fin false n d) X Y h = absurd X
steps_mono (fin false m e) (fin false n d) X Y h =
    unfold steps_of in
    let c = ceiling_mono (m * up e) (down e) (n * up d) (down d) (down_pos e) (down_pos d) (cross (m * up e * down d) (n * up d * down e) h) in
    omega (arith, c)

-- ---- a quotient by a number above 0
above : (m : ℕ) (e : ℤ) → lt float0 (fin false m e) ≡ true → T (positive (fin false m e))
unfolding lt of_bits
above m e h = lt→ltb 0 m (first_pos m (up e) (first_pos (m * up e) 1 (let l = ltb-true (0 * down e) (m * up e * 1) h in omega (arith, l))))

scaled : (x y s t n d : ℕ) → x * t ≤ y * s → x * d * (n * t) ≤ y * d * (n * s)
scaled x y s t n d h =
    le_trans (le_of_eq (ap (λ (z : ℕ). x * d * z) (mul_comm n t) ∙ mul-mul-mul_comm x d t n))
    (le_trans (mul-le-mul_right (d * n) h) (le_of_eq (sym (ap (λ (z : ℕ). y * d * z) (mul_comm n s) ∙ mul-mul-mul_comm y d s n))))

quotient : (f : Format) (x y z : Float) → T (positive z) → lt float0 x ≡ true → T (le x y) → steps_of (div f x z) ≤ steps_of (div f y z)
unfolding lt le of_bits div
quotient f x y nan p l h = absurd p
quotient f x y (inf s) p l h = absurd p
quotient f x y (fin true n d) p l h = absurd p
quotient f nan y (fin false n d) p l h = absurd (subst T (sym l) tt)
quotient f (inf true) y (fin false n d) p l h = absurd (subst T (sym l) tt)
quotient f (inf false) nan (fin false n d) p l h = absurd h
quotient f (inf false) (inf true) (fin false n d) p l h = absurd h
quotient f (inf false) (inf false) (fin false n d) p l h = le_refl (steps_of (inf false))
quotient f (inf false) (fin t k g) (fin false n d) p l h = absurd h
quotient f (fin true m e) y (fin false n d) p l h = absurd (subst T (sym l) tt)
quotient f (fin false m e) nan (fin false n d) p l h = absurd h
quotient f (fin false m e) (inf true) (fin false n d) p l h = absurd h
quotient f (fin false m e) (inf false) (fin false n d) p l h = most (div f (fin false m e) (fin false n d))
quotient f (fin false m e) (fin true k g) (fin false n d) p l h = absurd (above_of_le (fin false m e) (fin true k g) (above m e l) h)
quotient f (fin false m e) (fin false k g) (fin false n d) p l h =
    let z : n ≡ 0 → ⊥ = λ i. lt_irrefl 0 (subst (λ (j : ℕ). 0 < j) i (ltb→lt 0 n p)) in
    let N : 0 < n * up d = mul-pos (ltb→lt 0 n p) (up_pos d) in
    let c : m * up e * down g ≤ k * up g * down e = cross (m * up e * down g) (k * up g * down e) h in
    rw (ne_eqb n 0 z)
    (steps_mono _ _ (round_unsigned f (m * up e * down d) (n * up d * down e)) (round_unsigned f (k * up g * down d) (n * up d * down g))
    (round_mono f (m * up e * down d) (n * up d * down e) (k * up g * down d) (n * up d * down g) (mul-pos N (down_pos e)) (mul-pos N (down_pos g))
    (scaled (m * up e) (k * up g) (down e) (down g) (n * up d) (down d) c)))

-- ---- row by row
rows_mono : (x y : Float) → lt float0 x ≡ true → T (le x y) → (rs : List Row) → T (sound rs) → (d e : Degree) (k : ℕ) → k < length rs
    → cost (get_or (map (pair_of x) rs) k d) ≤ cost (get_or (map (pair_of y) rs) k e)
unfolding sound
rows_mono x y l h [] s d e k i = absurd (omega (arith, i))
rows_mono x y l h (r ∷ rs) s d e zero i =
    let a = and_l (ltb 0 r.m && positive r.threshold) (sound rs) s in
    mul-le-mul_left r.m (quotient binary64 x y r.threshold (and_r (ltb 0 r.m) (positive r.threshold) a) l h)
rows_mono x y l h (r ∷ rs) s d e (suc k) i = rows_mono x y l h rs (and_r (ltb 0 r.m && positive r.threshold) (sound rs) s) d e k (le_of_suc-le-suc i)

rows_low : (y : Float) (rs : List Row) → T (sound rs) → (e : Degree) (k : ℕ) → k < length rs → 1 ≤ cost (get_or (map (pair_of y) rs) k e)
unfolding sound
rows_low y [] s e k i = absurd (omega (arith, i))
rows_low y (r ∷ rs) s e zero i =
    let a = and_l (ltb 0 r.m && positive r.threshold) (sound rs) s in
    mul-pos (ltb→lt 0 r.m (and_l (ltb 0 r.m) (positive r.threshold) a)) (steps_low (div binary64 y r.threshold))
rows_low y (r ∷ rs) s e (suc k) i = rows_low y rs (and_r (ltb 0 r.m && positive r.threshold) (sound rs) s) e k (le_of_suc-le-suc i)

length_rows : (y : Float) (rs : List Row) → length (map (pair_of y) rs) ≡ length rs
length_rows y [] = refl
length_rows y (r ∷ rs) = ap suc (length_rows y rs)

table_sound : (dropTol : Float) → T (sound (table_for dropTol))
unfolding table_for theta theta_loose round sound
table_sound dropTol = go (le (decimal 1 4) dropTol)
  where
    go : (b : Bool) → T (sound (cond b theta_loose theta))
    go true = tt
    go false = tt

-- ---- the theorem
pub products_mono : (dropTol x y : Float) → (lt float0 x ≡ true → T (le x y)) → cost (degree_by (table_for dropTol) x) ≤ cost (degree_by (table_for dropTol) y)
products_mono dropTol x y h = go (lt float0 x) refl
  where
    rows : List Row
    rows = table_for dropTol

    at : FirstLeast (map (pair_of y) (table_for dropTol)) (degree_by (table_for dropTol) y)
    at = degree_least dropTol y

    inside : at.place < length (table_for dropTol)
    inside = let n = length_rows y (table_for dropTol) in let i = at.inside in omega (arith, n, i)

    go : (b : Bool) → lt float0 x ≡ b → cost (degree_by (table_for dropTol) x) ≤ cost (degree_by (table_for dropTol) y)
    go true e =
        let l = degree_least dropTol x in
        let n = length_rows x (table_for dropTol) in
        le_trans (l.least at.place (omega (arith, n, inside)))
        (le_trans (rows_mono x y e (h e) (table_for dropTol) (table_sound dropTol) (degree_by (table_for dropTol) x) (degree_by (table_for dropTol) y) at.place inside) (le_of_eq (ap cost at.stands)))
    go false e =
        le_trans (le_of_eq (ap cost (degree_none dropTol x e)))
        (le_trans (rows_low y (table_for dropTol) (table_sound dropTol) (degree_by (table_for dropTol) y) at.place inside) (le_of_eq (ap cost at.stands)))
