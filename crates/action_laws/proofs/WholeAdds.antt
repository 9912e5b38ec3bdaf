-- SPDX-FileCopyrightText: 2026 The PPVM Authors
-- SPDX-License-Identifier: Apache-2.0

-- What the rules add over f64 beside what they add over the whole numbers: the same words, exactly the numbers, and at most a
-- weight. Assumes nothing.
use mathlib.Core.Path.{◌≡◌, refl, ap, ap₂, subst}
use mathlib.Core.Bool.{Bool, true, false, cond, ◌||◌}
use mathlib.Core.List.{List, [], ◌∷◌, ◌++◌, map}
use Prim.Native.Nat.{ℕ, zero, suc, ◌+◌, ◌*◌, ◌^◌, ◌≤◌}
use native.Mathlib.Nat.{le_trans, add-mul, mul-le-mul, mul-le-mul_right}
use native.Mathlib.Omega.{arith}
use lib.Dec.{lit≤}
use lib.IntN.{ℤ}
use lib.Ieee.{Float}
use lib.ListN.{length}
use Rattle.word.specs.declared.word.Word.{Word}
use Rattle.number.specs.Numbers.{Cx}
use Rattle.number.specs.Whole.{whole}
use Rattle.number.specs.Floats.{floats}
use Rattle.number.specs.Exact.{IsG}
use Rattle.number.proofs.ExactLaws.{is_unit, is_two, is_neg}
use Rattle.gksl.specs.Operator.{Onto, Op}
use Rattle.gksl.specs.Rules.{pairs_over, gather_over, on_word, signed, factored, overlaps_over}
use Rattle.gksl.specs.Words.{pauli}
use Rattle.model.specs.Terms.{Term}
use Rattle.model_laws.specs.Related.{Like}
use Rattle.model_laws.specs.Exactly.{Exactly}
use Rattle.model_laws.proofs.RelatedLaws.{like_append, like_weaken}
use Rattle.action_laws.proofs.WholeSizes.{size, Sized, Sure, abs_opposite, sized_real, sized_within, sure_mul}
use Rattle.action_laws.proofs.WholeWeights.{weight, weight_append, Alike}

pub record Agree (n : ℕ) (A : List Term) (G : Op pauli) : Type 0 where
  pub like : Alike A G
  pub most : weight G ≤ n

-- ---- lists
pub agree_mono : {m n : ℕ} {A : List Term} {G : Op pauli} → m ≤ n → Agree m A G → Agree n A G
agree_mono l h = record { like = h.like; most = le_trans h.most l }

pub none : {n : ℕ} → Agree n [] []
unfolding weight
none = record { like = tt; most = omega arith }

pub one : {n : ℕ} {x : Cx floats} {g : Cx whole} {w : Word} → Sized n x g → Agree n (on_word floats pauli x w ∷ []) (on_word whole pauli g w ∷ [])
unfolding weight
one h = record { like = (refl, h.value, tt); most = omega (arith, h.most) }

pub append : {m n : ℕ} {A B : List Term} {G H : Op pauli} → Agree m A G → Agree n B H → Agree (m + n) (A ++ B) (G ++ H)
append {A} {B} {G} {H} h k =
    record {
      like = like_append floats whole pauli _ A B G H h.like k.like;
      most = omega (arith, weight_append G H, h.most, k.most);
    }

-- tests that agree choose the same
pub choose : {n : ℕ} {A B : List Term} {G H : Op pauli} (b c : Bool) → b ≡ c → Agree n A G → Agree n B H → Agree n (cond b A B) (cond c G H)
choose {n} {A} {B} {G} {H} b c e h k = subst (λ (d : Bool). Agree n (cond b A B) (cond d G H)) e (go b)
  where
    go : (b : Bool) → Agree n (cond b A B) (cond b G H)
    go true = h
    go false = k

-- ---- operators of at most 16 terms with parts of at most 256
pub record Operand (A : List Term) (G : Op pauli) : Type 0 where
  pub few : length A ≤ 16
  pub exact : Exactly 256 A G

abbrev Terms : List Term → Op pauli → Type 0
Terms = Like floats whole pauli (λ _ x g. Sized 512 x g)

sized_terms : (A : List Term) (G : Op pauli) → Exactly 256 A G → Terms A G
sized_terms A G h = like_weaken floats whole pauli _ _ (λ w x g r. sized_within r.0 r.1) A G h

pub overlaps_same : (A : List Term) (G : Op pauli) → Exactly 256 A G → (p : Word) → overlaps_over floats pauli A p ≡ overlaps_over whole pauli G p
unfolding overlaps_over
overlaps_same [] [] h p = refl
overlaps_same [] (d ∷ G) h p = absurd h
overlaps_same (c ∷ A) [] h p = absurd h
overlaps_same (c ∷ A) (d ∷ G) h p = ap₂ ◌||◌ (ap (λ (w : Word). pauli.meets w p) h.0) (overlaps_same A G h.2 p)

-- ---- each with each
module _ (k : ℕ) (f : Term → Term → Term) (g : Onto whole pauli → Onto whole pauli → Onto whole pauli)
    (make : (v w : Word) (x x' : Cx floats) (y y' : Cx whole) → Sized 512 x y → Sized 512 x' y'
    → ((f (on_word floats pauli x v) (on_word floats pauli x' w)).word ≡ (g (on_word whole pauli y v) (on_word whole pauli y' w)).word)
    × Sized k (f (on_word floats pauli x v) (on_word floats pauli x' w)).num (g (on_word whole pauli y v) (on_word whole pauli y' w)).num) where
  row_agree : (a : Term) (c : Onto whole pauli) → a.word ≡ c.word → Sized 512 a.num c.num → (B : List Term) (D : Op pauli) → Terms B D → Agree (length B * k) (map (f a) B) (map (g c) D)
  unfolding weight
  row_agree a c e s [] [] h = none
  row_agree a c e s [] (d ∷ D) h = absurd h
  row_agree a c e s (b ∷ B) [] h = absurd h
  row_agree a c e s (b ∷ B) (d ∷ D) h =
      let i = row_agree a c e s B D h.2 in
      let m : ((f a b).word ≡ (g c d).word) × Sized k (f a b).num (g c d).num =
      subst (λ (u : Word). ((f a b).word ≡ (g (on_word whole pauli c.num u) d).word) × Sized k (f a b).num (g (on_word whole pauli c.num u) d).num) e
      (subst (λ (u : Word). ((f a b).word ≡ (g (on_word whole pauli c.num a.word) (on_word whole pauli d.num u)).word) × Sized k (f a b).num (g (on_word whole pauli c.num a.word) (on_word whole pauli d.num u)).num) h.0
      (make a.word b.word a.num b.num c.num d.num s h.1)) in
      record { like = (m.0, m.1.value, i.like); most = omega (arith, m.1.most, i.most, add-mul 1 (length B) k) }

  each_agree : (A B : List Term) (C D : Op pauli) → Terms A C → Terms B D → Agree (length A * (length B * k)) (pairs_over floats pauli f A B) (pairs_over whole pauli g C D)
  unfolding pairs_over
  each_agree [] B [] D h t = none
  each_agree [] B (c ∷ C) D h t = absurd h
  each_agree (a ∷ A) B [] D h t = absurd h
  each_agree (a ∷ A) B (c ∷ C) D h t =
      agree_mono (omega (arith, add-mul 1 (length A) (length B * k))) (append (row_agree a c h.0 h.1 B D t) (each_agree A B C D h.2 t))

  pub pairs : (A B : List Term) (C D : Op pauli) → Operand A C → Operand B D → Agree (256 * k) (pairs_over floats pauli f A B) (pairs_over whole pauli g C D)
  pairs A B C D a b =
      agree_mono (le_trans (mul-le-mul a.few (mul-le-mul_right k b.few)) (omega arith)) (each_agree A B C D (sized_terms A C a.exact) (sized_terms B D b.exact))

-- ---- what f and g make of each term, k times its size at most
module _ (k : ℕ) (f : Term → List Term) (g : Onto whole pauli → Op pauli)
    (make : (w : Word) (x : Cx floats) (y : Cx whole) → IsG x y → size y ≤ 2 ^ 27 → Agree (size y * k) (f (on_word floats pauli x w)) (g (on_word whole pauli y w))) where
  pub gather : (M : List Term) (W : Op pauli) → Exactly (2 ^ 26) M W → Agree (weight W * k) (gather_over floats pauli f M) (gather_over whole pauli g W)
  unfolding gather_over weight
  gather [] [] h = none
  gather [] (d ∷ W) h = absurd h
  gather (c ∷ M) [] h = absurd h
  gather (c ∷ M) (d ∷ W) h =
      agree_mono (omega (arith, add-mul (size d.num) (weight W) k))
      (append
      (subst (λ (w : Word). Agree (size d.num * k) (f c) (g (on_word whole pauli d.num w))) h.0 (make c.word c.num d.num h.1.0 (sized_within h.1.0 h.1.1).most))
      (gather M W h.2))

-- ---- by the phase
sure_unit : Sure 1 floats.unit whole.unit
sure_unit = record { value = is_unit; most = lit≤ tt }

pub sure_two : Sure 2 floats.two whole.two
sure_two = record { value = is_two; most = lit≤ tt }

pub sure_neg : {b : ℕ} {x : Float} {z : ℤ} → Sure b x z → Sure b (floats.opposite x) (whole.opposite z)
sure_neg {z} h = record { value = is_neg h.value; most = omega (arith, abs_opposite z, h.most) }

pub signed_agree : {b : ℕ} (n : ℕ) (f : Float → Cx floats) (g : ℤ → Cx whole) (w : Word) → ((s : Float) (z : ℤ) → Sure 1 s z → Sized b (f s) (g z))
    → Agree b (signed floats pauli n f w) (signed whole pauli n g w)
unfolding signed
signed_agree zero f g w h = one (h floats.unit whole.unit sure_unit)
signed_agree (suc zero) f g w h = none
signed_agree (suc (suc zero)) f g w h = one (h (floats.opposite floats.unit) (whole.opposite whole.unit) (sure_neg sure_unit))
signed_agree (suc (suc (suc n))) f g w h = none

pub factored_agree : {b : ℕ} (n : ℕ) {x : Float} {z : ℤ} (w : Word) → b * 2 ≤ 2 ^ 53 → Sure b x z → Agree (b * 2) (factored floats pauli n x w) (factored whole pauli n z w)
unfolding factored
factored_agree zero w l h = none
factored_agree (suc zero) w l h = let m = sure_mul l h (sure_neg sure_two) in one (sized_real m.value m.most)
factored_agree (suc (suc zero)) w l h = none
factored_agree (suc (suc (suc n))) w l h = let m = sure_mul l h sure_two in one (sized_real m.value m.most)
