-- SPDX-FileCopyrightText: 2026 The PPVM Authors
-- SPDX-License-Identifier: Apache-2.0

-- The rules over any numbers, each operation in the order in which it is rounded.
use Rattle.std.specs.Prelude.{ℕ, zero, suc, ◌+◌, ◌%◌, Bool, false, cond, ◌||◌, List, [], ◌∷◌, ◌++◌, map}
use Rattle.number.specs.Numbers.{Numbers, Cx, neg_c, mul_c, conj_c, real_c, square, unit_c, largest_over}
use Rattle.gksl.specs.Operator.{Words, Onto}
use Rattle.gksl.specs.Model.{RealTerm, JumpOver, MatrixOver, ModelOver, Row, rows_over, entry_over}
use Rattle.gksl.specs.Table.{put_all_over, without_over}

-- each term of A with each of B, A's the outer
unfoldable pub pairs_over : (N : Numbers) (S : Words) → (Onto N S → Onto N S → Onto N S) → List (Onto N S) → List (Onto N S) → List (Onto N S)
pairs_over N S f [] B = []
pairs_over N S f (a ∷ A) B = map (f a) B ++ pairs_over N S f A B

-- what f makes of each term of M, one after the other
unfoldable pub gather_over : (N : Numbers) (S : Words) → (Onto N S → List (Onto N S)) → List (Onto N S) → List (Onto N S)
gather_over N S f [] = []
gather_over N S f (c ∷ M) = f c ++ gather_over N S f M

-- the phase of (a p) b, and its word
abbrev pub through : (S : Words) → S.Word → S.Word → S.Word → ℕ
through S a p b = S.phase a p + S.phase (S.mul a p) b

abbrev pub onto : (S : Words) → S.Word → S.Word → S.Word → S.Word
onto S a p b = S.mul (S.mul a p) b

module _ (N : Numbers) (S : Words) where
  abbrev pub on_word : Cx N → S.Word → Onto N S
  on_word z w = record { num = z; word = w }

  -- +1 at 0, -1 at 2, nothing else
  unfoldable pub signed : ℕ → (N.Num → Cx N) → S.Word → List (Onto N S)
  signed zero f w = on_word (f N.unit) w ∷ []
  signed (suc zero) f w = []
  signed (suc (suc zero)) f w = on_word (f (N.opposite N.unit)) w ∷ []
  signed (suc (suc (suc n))) f w = []

  -- -2 at 1, +2 at 3, nothing else
  unfoldable pub factored : ℕ → N.Num → S.Word → List (Onto N S)
  factored zero x w = []
  factored (suc zero) x w = on_word (real_c N (N.times x (N.opposite N.two))) w ∷ []
  factored (suc (suc zero)) x w = []
  factored (suc (suc (suc n))) x w = on_word (real_c N (N.times x N.two)) w ∷ []

  unfoldable pub overlaps_over : List (Onto N S) → S.Word → Bool
  overlaps_over [] p = false
  overlaps_over (t ∷ A) p = S.meets t.word p || overlaps_over A p

  -- the conjugate of a's number × b's number
  abbrev pub bare : Onto N S → Onto N S → Cx N
  bare a b = mul_c N (conj_c N a.num) b.num

  -- the product of a, p and b: the conjugate of a's number × b's number × k, phase last
  abbrev pub sandwiched : Cx N → Onto N S → S.Word → Onto N S → Cx N
  sandwiched k a p b = mul_c N (mul_c N (bare a b) k) (unit_c N (through S a.word p b.word % 4))

  abbrev pub between : Onto N S → S.Word → Onto N S → S.Word
  between a p b = onto S a.word p b.word

  -- a thinned word's number after k, and its word onto p with the phase of that product
  abbrev pub after_k : Cx N → Onto N S → Cx N
  after_k k c = mul_c N k c.num

  abbrev pub ahead : Onto N S → S.Word → S.Word
  ahead c p = S.mul c.word p

  abbrev pub turned : Onto N S → S.Word → ℕ
  turned c p = S.phase c.word p % 4

  abbrev pub twice : N.Num → N.Num
  twice x = N.times N.two x

  -- the adjoint of A times B, thinned
  unfoldable pub formed_over : List (Onto N S) → List (Onto N S) → List (Onto N S)
  formed_over A B =
      without_over N S (λ c. N.small (square N c.num))
      (put_all_over N S (pairs_over N S (λ a b. on_word (mul_c N (bare a b) (unit_c N (S.phase a.word b.word % 4))) (S.mul a.word b.word)) A B) [])

  unfoldable pub terms_over : List (RealTerm N S) → S.Word → List (Onto N S)
  terms_over [] p = []
  terms_over (h ∷ H) p = cond (S.meets h.word p) (factored (S.phase h.word p % 4) h.num (S.mul h.word p)) [] ++ terms_over H p

  unfoldable pub clash_over : ℕ → N.Num → S.Word → List (Onto N S)
  clash_over zero g p = []
  clash_over (suc n) g p = on_word (real_c N (N.times (N.opposite N.two) g)) p ∷ []

  unfoldable pub general_over : N.Num → List (Onto N S) → S.Word → List (Onto N S)
  general_over g A p =
      pairs_over N S (λ a b. on_word (mul_c N (mul_c N (bare a b) (unit_c N (through S a.word p b.word % 4))) (real_c N g)) (onto S a.word p b.word)) A A
      ++ gather_over N S (λ c. signed (S.phase c.word p % 4) (λ s. mul_c N (mul_c N (neg_c N c.num) (real_c N g)) (real_c N s)) (S.mul c.word p)) (formed_over A A)

  unfoldable pub shape_over : N.Num → List (Onto N S) → S.Word → List (Onto N S)
  shape_over g [] p = []
  shape_over g (t ∷ []) p = cond (N.is_zero t.num.im) (clash_over (S.phase t.word p % 2) (N.times (N.times g t.num.re) t.num.re) p) (general_over g (t ∷ []) p)
  shape_over g (t ∷ (u ∷ A)) p = general_over g (t ∷ (u ∷ A)) p

  unfoldable pub jumps_over : List (JumpOver N S) → S.Word → List (Onto N S)
  jumps_over [] p = []
  jumps_over (j ∷ J) p = cond (overlaps_over j.op p) (shape_over j.rate j.op p) [] ++ jumps_over J p

  -- a diagonal pair: a general jump without rate
  unfoldable pub diagonal_over : N.Num → Cx N → List (Onto N S) → S.Word → List (Onto N S)
  diagonal_over big k A p =
      cond (N.slighter (square N k) big) []
      (cond (overlaps_over A p)
      (pairs_over N S (λ a b. on_word (sandwiched k a p b) (between a p b)) A A
      ++ gather_over N S (λ c. signed (turned c p) (λ s. neg_c N (mul_c N (after_k k c) (real_c N s))) (ahead c p)) (formed_over A A))
      [])

  -- p overlaps both sides: twice the real part of each product, then minus 2 × real part × sign for each thinned word whose
  -- real part after k is not slight
  unfoldable pub both_over : Cx N → List (Onto N S) → List (Onto N S) → S.Word → List (Onto N S)
  both_over k A B p =
      pairs_over N S (λ a b. on_word (real_c N (twice (sandwiched k a p b).re)) (between a p b)) A B
      ++ gather_over N S (λ c. cond (N.slight (after_k k c).re) [] (signed (turned c p) (λ s. real_c N (N.opposite (N.times (twice (after_k k c).re) s))) (ahead c p))) (formed_over A B)

  -- p overlaps one side: the imaginary part after k × factor, by f plus or minus, where it is not slight
  unfoldable pub one_over : (N.Num → N.Num) → Cx N → List (Onto N S) → List (Onto N S) → S.Word → List (Onto N S)
  one_over f k A B p =
      gather_over N S (λ c. cond (N.slight (after_k k c).im) [] (factored (turned c p) (f (after_k k c).im) (ahead c p))) (formed_over A B)

  unfoldable pub pair_over : N.Num → Cx N → List (Onto N S) → List (Onto N S) → S.Word → List (Onto N S)
  pair_over big k A B p =
      cond (N.slighter (square N k) big) []
      (cond (overlaps_over A p)
      (cond (overlaps_over B p) (both_over k A B p) (one_over (λ x. x) k A B p))
      (cond (overlaps_over B p) (one_over N.opposite k A B p) []))

  unfoldable pub row_over : N.Num → (ℕ → ℕ → Cx N) → Row N S → List (Row N S) → S.Word → List (Onto N S)
  row_over big K x [] p = []
  row_over big K x (y ∷ Y) p = pair_over big (K x.row y.row) x.op y.op p ++ row_over big K x Y p

  unfoldable pub matrix_over : N.Num → (ℕ → ℕ → Cx N) → List (Row N S) → S.Word → List (Onto N S)
  matrix_over big K [] p = []
  matrix_over big K (x ∷ X) p = (diagonal_over big (K x.row x.row) x.op p ++ row_over big K x X p) ++ matrix_over big K X p

  -- one matrix after the other
  unfoldable pub matrices_over : List (MatrixOver N S) → S.Word → List (Onto N S)
  matrices_over [] p = []
  matrices_over (k ∷ Ks) p = matrix_over (largest_over N k.entries) (entry_over N S k) (rows_over N S 0 k.ops) p ++ matrices_over Ks p

  unfoldable pub rules_over : ModelOver N S → S.Word → List (Onto N S)
  rules_over m p = terms_over m.terms p ++ (jumps_over m.jumps p ++ matrices_over m.matrices p)

  -- real parts that are not 0, in word order
  unfoldable pub action_over : ModelOver N S → S.Word → List (Onto N S)
  action_over m p = without_over N S (λ c. N.is_zero c.num.re) (put_all_over N S (rules_over m p) [])
