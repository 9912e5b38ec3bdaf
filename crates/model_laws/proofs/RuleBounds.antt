-- SPDX-FileCopyrightText: 2026 The PPVM Authors
-- SPDX-License-Identifier: Apache-2.0

-- The rules over f64, of a model with numbers in range: each value that they add is at most 2^822, and every number of the
-- action is finite. Assumes nothing.
use mathlib.Core.Path.{subst⁻¹}
use mathlib.Core.Bool.{Bool, true, false, ◌&&◌, cond}
use mathlib.Core.List.{List, [], ◌∷◌, ◌++◌, map}
use Prim.Native.Nat.{ℕ, zero, suc, ◌+◌, ◌*◌, ◌<◌}
use native.Mathlib.Omega.{arith}
use native.Mathlib.Decide.{dec_lt}
use lib.Dec.{T, ltb, lit≤, lit<}
use lib.Ieee.{Float}
use lib.ListN.{length, get_or, get_or-eq_default}
use Rattle.word.specs.declared.word.Word.{Word}
use Rattle.number.specs.Numbers.{Cx, mul_c, conj_c, zero_c, square, largest_over}
use Rattle.number.specs.Floats.{floats, is_finite}
use Rattle.number.specs.Bounds.{AtMost, AtMostC}
use Rattle.number.proofs.RangeLaws.{at_most_mono, at_most_neg, at_most_mul, at_most_nought, at_most_unit, at_most_two, at_most_c_mono, at_most_c_mul, at_most_c_conj, at_most_c_real}
use Rattle.gksl.specs.Model.{RealTerm, JumpOver, MatrixOver, ModelOver, Row, rows_over, entry_in, entry_over}
use Rattle.gksl.specs.Table.{put_all_over, without_over}
use Rattle.gksl.specs.Rules.{pairs_over, gather_over, signed, factored, overlaps_over, formed_over, terms_over, clash_over, general_over, shape_over, jumps_over, diagonal_over, both_over, one_over, pair_over, row_over, matrix_over, matrices_over, rules_over, action_over}
use Rattle.gksl.specs.Words.{pauli}
use Rattle.model.specs.Terms.{Term}
use Rattle.lent.specs.Every.{Every}
use Rattle.lent.proofs.Lists.{every_at, every_weaken, every_append, every_map}
use Rattle.model_laws.specs.Ranged.{RangedOp, Ranged}
use Rattle.model_laws.proofs.FormedBounds.{formed_bound}
use Rattle.model_laws.proofs.ActionBounds.{factored_value, pauli_value, sandwich_value, product_value, factor_value, twice_value, diagonal_value, both_value, two_minus, sign_minus, sums_finite}

-- a term, by the size of its number
abbrev pub Small : ℕ → Term → Type 0
Small k z = AtMostC k z.num

-- what the rules add
pub record Added (A : List Term) : Type 0 where
  pub each : Every (Small 822) A

-- ---- lists of what is added
pub none : Added []
none = record { each = tt }

one : {z : Cx floats} {w : Word} → AtMostC 822 z → Added (record { num = z; word = w } ∷ [])
one h = record { each = (h, tt) }

pub append : {A B : List Term} → Added A → Added B → Added (A ++ B)
append {A} {B} h k = record { each = every_append (Small 822) A B h.each k.each }

pub choose : (b : Bool) {A B : List Term} → Added A → Added B → Added (cond b A B)
choose true h k = h
choose false h k = k

pub pairs : (f : Term → Term → Term) (A B : List Term) → Every (Small 200) A → Every (Small 200) B → ((a b : Term) → Small 200 a → Small 200 b → Small 822 (f a b)) → Added (pairs_over floats pauli f A B)
unfolding pairs_over
pairs f [] B h k make = none
pairs f (a ∷ A) B h k make =
    append {A = map (f a) B} (record { each = every_map (Small 822) (f a) B (every_weaken (Small 200) (λ b. Small 822 (f a b)) (λ b q. make a b h.0 q) B k) }) (pairs f A B h.1 k make)

pub gather : (k : ℕ) (f : Term → List Term) (M : List Term) → Every (Small k) M → ((c : Term) → Small k c → Added (f c)) → Added (gather_over floats pauli f M)
unfolding gather_over
gather k f [] h make = none
gather k f (c ∷ M) h make = append (make c h.0) (gather k f M h.1 make)

pub every_without : (P : Term → Type 0) (drop : Term → Bool) (A : List Term) → Every P A → Every P (without_over floats pauli drop A)
unfolding without_over
every_without P drop [] h = tt
every_without P drop (a ∷ A) h = go (drop a) (every_without P drop A h.1)
  where
    go : (b : Bool) → Every P (without_over floats pauli drop A) → Every P (cond b (without_over floats pauli drop A) (a ∷ without_over floats pauli drop A))
    go true k = k
    go false k = (h.0, k)

pub signed_small : (n : ℕ) (f : Float → Cx floats) (w : Word) → ((s : Float) → AtMost 0 s → AtMostC 822 (f s)) → Added (signed floats pauli n f w)
unfolding signed
signed_small zero f w h = one (h floats.unit at_most_unit)
signed_small (suc zero) f w h = none
signed_small (suc (suc zero)) f w h = one (h (floats.opposite floats.unit) sign_minus)
signed_small (suc (suc (suc n))) f w h = none

pub factored_small : (n : ℕ) (x : Float) (w : Word) → AtMost 620 x → Added (factored floats pauli n x w)
unfolding factored
factored_small zero x w h = none
factored_small (suc zero) x w h = one (factored_value h two_minus)
factored_small (suc (suc zero)) x w h = none
factored_small (suc (suc (suc n))) x w h = one (factored_value h at_most_two)

formed_small : (A B : List Term) → RangedOp A → RangedOp B → Every (Small 410) (formed_over floats pauli A B)
formed_small A B a b =
    every_weaken (λ c. Unit {0} × Small 410 c) (Small 410) (λ c s. s.1) (formed_over floats pauli A B)
    (formed_bound (λ _. Unit {0}) (λ _ _ _ _. tt) A B a.few b.few (plain A a) (plain B b))
  where
    plain : (A : List Term) → RangedOp A → Every (λ z. Unit {0} × AtMostC 200 z.num) A
    plain A a = every_weaken (Small 200) (λ z. Unit {0} × AtMostC 200 z.num) (λ z s. (tt, s)) A a.terms

-- ---- each rule
pub terms_small : (H : List (RealTerm floats pauli)) (p : Word) → Every (λ h. AtMost 200 h.num) H → Added (terms_over floats pauli H p)
unfolding terms_over
terms_small [] p h = none
terms_small (x ∷ H) p h = append (choose (pauli.meets x.word p) (factored_small _ _ _ (at_most_mono (lit≤ tt) h.0)) none) (terms_small H p h.1)

general_small : (g : Float) (A : List Term) (p : Word) → AtMost 200 g → RangedOp A → Added (general_over floats pauli g A p)
unfolding general_over
general_small g A p h a =
    append
    (pairs _ A A a.terms a.terms (λ x y q r. sandwich_value _ q r h))
    (gather 410 _ (formed_over floats pauli A A) (formed_small A A a a) (λ c s. signed_small _ _ _ (λ _ k. product_value (at_most_c_mono (lit≤ tt) s) h k)))

pub clash_small : (n : ℕ) (g : Float) (p : Word) → AtMost 620 g → Added (clash_over floats pauli n g p)
unfolding clash_over
clash_small zero g p h = none
clash_small (suc n) g p h = one (pauli_value two_minus h)

shape_small : (g : Float) (A : List Term) (p : Word) → AtMost 200 g → RangedOp A → Added (shape_over floats pauli g A p)
unfolding shape_over
shape_small g [] p h a = none
shape_small g (z ∷ []) p h a =
    choose (floats.is_zero z.num.im)
    (clash_small _ _ p (at_most_mono (lit≤ tt) (at_most_mul {j = 400} {k = 200} (lit≤ tt) (at_most_mul {j = 200} {k = 200} (lit≤ tt) h a.terms.0.re) a.terms.0.re)))
    (general_small g (z ∷ []) p h a)
shape_small g (z ∷ (u ∷ A)) p h a = general_small g (z ∷ (u ∷ A)) p h a

jumps_small : (J : List (JumpOver floats pauli)) (p : Word) → Every (λ j. AtMost 200 j.rate × RangedOp j.op) J → Added (jumps_over floats pauli J p)
unfolding jumps_over
jumps_small [] p h = none
jumps_small (j ∷ J) p h = append (choose (overlaps_over floats pauli j.op p) (shape_small j.rate j.op p h.0.0 h.0.1) none) (jumps_small J p h.1)

-- ---- pairs
module _ (k : Cx floats) (h : AtMostC 200 k) where
  -- a factor, and a number of the product, after K
  stored_factor : {x y : Cx floats} → AtMostC 200 x → AtMostC 200 y → AtMostC 620 (mul_c floats (mul_c floats (conj_c floats x) y) k)
  stored_factor q r = at_most_c_mono (lit≤ tt) (at_most_c_mul (lit< tt) (at_most_c_mul (lit< tt) (at_most_c_conj q) r) h)

  stored_product : {c : Cx floats} → AtMostC 410 c → AtMostC 620 (mul_c floats k c)
  stored_product s = at_most_c_mono (lit≤ tt) (at_most_c_mul (lit< tt) h s)

  module _ (A B : List Term) (p : Word) (a : RangedOp A) (b : RangedOp B) where
    both_small : Added (both_over floats pauli k A B p)
    unfolding both_over
    both_small =
        append
        (pairs _ A B a.terms b.terms (λ x y q r. twice_value _ at_most_two (stored_factor q r)))
        (gather 410 _ (formed_over floats pauli A B) (formed_small A B a b) (λ c s. choose (floats.slight (mul_c floats k c.num).re) none (signed_small _ _ _ (λ _ t. both_value at_most_two (stored_product s) t))))

    one_small : (f : Float → Float) → ((x : Float) → AtMost 620 x → AtMost 620 (f x)) → Added (one_over floats pauli f k A B p)
    unfolding one_over
    one_small f keeps = gather 410 _ (formed_over floats pauli A B) (formed_small A B a b) (λ c s. choose (floats.slight (mul_c floats k c.num).im) none (factored_small _ _ _ (keeps _ (stored_product s).im)))

    pair_small : (big : Float) → Added (pair_over floats pauli big k A B p)
    unfolding pair_over
    pair_small big =
        choose (floats.slighter (square floats k) big) none
        (choose (overlaps_over floats pauli A p)
        (choose (overlaps_over floats pauli B p) both_small (one_small (λ x. x) (λ x l. l)))
        (choose (overlaps_over floats pauli B p) (one_small floats.opposite (λ x l. at_most_neg l)) none))

  diagonal_small : (A : List Term) (p : Word) → RangedOp A → (big : Float) → Added (diagonal_over floats pauli big k A p)
  unfolding diagonal_over
  diagonal_small A p a big =
      choose (floats.slighter (square floats k) big) none
      (choose (overlaps_over floats pauli A p)
      (append
      (pairs _ A A a.terms a.terms (λ x y q r. factor_value _ (stored_factor q r)))
      (gather 410 _ (formed_over floats pauli A A) (formed_small A A a a) (λ c s. signed_small _ _ _ (λ _ t. diagonal_value (stored_product s) t))))
      none)

-- ---- a matrix
abbrev RangedRow : Row floats pauli → Type 0
RangedRow r = RangedOp r.op

rows_ranged : (n : ℕ) (ops : List (List Term)) → Every RangedOp ops → Every RangedRow (rows_over floats pauli n ops)
unfolding rows_over
rows_ranged n [] h = tt
rows_ranged n (A ∷ ops) h = (h.0, rows_ranged (suc n) ops h.1)

module _ (big : Float) (K : ℕ → ℕ → Cx floats) (h : (i j : ℕ) → AtMostC 200 (K i j)) (p : Word) where
  row_small : (x : Row floats pauli) (Y : List (Row floats pauli)) → RangedRow x → Every RangedRow Y → Added (row_over floats pauli big K x Y p)
  unfolding row_over
  row_small x [] a b = none
  row_small x (y ∷ Y) a b = append (pair_small (K x.row y.row) (h x.row y.row) x.op y.op p a b.0 big) (row_small x Y a b.1)

  matrix_small : (X : List (Row floats pauli)) → Every RangedRow X → Added (matrix_over floats pauli big K X p)
  unfolding matrix_over
  matrix_small [] a = none
  matrix_small (x ∷ X) a =
      append
      (append (diagonal_small (K x.row x.row) (h x.row x.row) x.op p a.0 big) (row_small x X a.0 a.1))
      (matrix_small X a.1)

entry_small : (ops : ℕ) (K : List (Cx floats)) → Every (AtMostC 200) K → (i j : ℕ) → AtMostC 200 (entry_in floats ops K i j)
unfolding entry_in
entry_small ops K h i j = go (ltb i ops && ltb j ops) (dec_lt (i * ops + j) (length K))
  where
    nought : AtMostC 200 (zero_c floats)
    nought = at_most_c_real (at_most_nought 200)

    go : (b : Bool) → Dec (i * ops + j < length K) → AtMostC 200 (cond b (get_or K (i * ops + j) (zero_c floats)) (zero_c floats))
    go true (yes l) = every_at (AtMostC 200) K (i * ops + j) (zero_c floats) h l
    go true (no l) = subst⁻¹ (AtMostC 200) (get_or-eq_default K (zero_c floats) {n = i * ops + j} (omega arith)) nought
    go false d = nought

matrices_small : (Ks : List (MatrixOver floats pauli)) (p : Word) → Every (λ k. Every RangedOp k.ops × Every (AtMostC 200) k.entries) Ks → Added (matrices_over floats pauli Ks p)
unfolding matrices_over
matrices_small [] p h = none
matrices_small (k ∷ Ks) p h =
    append (matrix_small (largest_over floats k.entries) (entry_over floats pauli k) (entry_small (length k.ops) k.entries h.0.1) p (rows_over floats pauli 0 k.ops) (rows_ranged 0 k.ops h.0.0)) (matrices_small Ks p h.1)

-- ---- all of them
module _ (m : ModelOver floats pauli) (h : Ranged m) (p : Word) where
  pub rules_small : Added (rules_over floats pauli m p)
  unfolding rules_over
  rules_small = append (terms_small m.terms p h.terms) (append (jumps_small m.jumps p h.jumps) (matrices_small m.matrices p h.matrices))

  -- every number of the action is finite
  pub action_finite : Every (λ c. T (is_finite c.num.re) × T (is_finite c.num.im)) (action_over floats pauli m p)
  unfolding action_over
  action_finite =
      every_without (λ c. T (is_finite c.num.re) × T (is_finite c.num.im)) (λ c. floats.is_zero c.num.re) (put_all_over floats pauli (rules_over floats pauli m p) [])
      (sums_finite (rules_over floats pauli m p) rules_small.each)
