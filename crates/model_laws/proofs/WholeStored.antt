-- SPDX-FileCopyrightText: 2026 The PPVM Authors
-- SPDX-License-Identifier: Apache-2.0

-- Whole numbers with parts of at most 256: every number that is stored for a jump or a pair is exactly the whole number that the
-- same rule gives over the whole numbers, and the same words are stored. Assumes nothing.
use mathlib.Core.Path.{◌≡◌, refl, sym, ap}
use mathlib.Core.Bool.{Bool, true, false, not, ◌&&◌, cond}
use mathlib.Core.List.{List, [], ◌∷◌, map}
use Prim.Native.Nat.{ℕ, zero, suc, ◌^◌, ◌*◌, ◌/◌, ◌%◌, ◌≤◌}
use lib.Dec.{leb, lit≤}
use lib.IntN.{ℤ, nat_abs}
use lib.Ieee.{Float}
use lib.ListN.{length}
use Rattle.number.specs.Numbers.{Cx, mul_c}
use Rattle.number.specs.Whole.{whole}
use Rattle.number.specs.Floats.{floats}
use Rattle.number.specs.Exact.{Is, IsG, Within}
use Rattle.number.proofs.ExactLaws.{zero_is}
use Rattle.number.proofs.ExactComplex.{within_mono}
use Rattle.gksl.specs.Operator.{Onto}
use Rattle.gksl.specs.Model.{JumpOver}
use Rattle.gksl.specs.Rules.{pairs_over, formed_over, bare, on_word}
use Rattle.gksl.specs.Words.{pauli}
use Rattle.model.specs.Terms.{Term}
use Rattle.model_build.specs.Compiled.{compile_jump, pauli_jump, general_jump}
use Rattle.model.specs.declared.stored.Range.{Range}
use Rattle.k_matrix.specs.Matrix.{is_pair, passing, pair_places}
use Rattle.k_matrix.specs.Pairs.{factor_of, scaled, compile_pair}
use Rattle.kossakowski.specs.Whole.{WholeEntries}
use Rattle.kossakowski.proofs.WholeMatrix.{skipped_is}
use Rattle.model_laws.specs.Exactly.{Exactly}
use Rattle.model_laws.specs.StoredOver.{stored_pauli, stored_general, stored_shape, stored_jump, stored_pair}
use Rattle.model_laws.proofs.RelatedLaws.{like_append, like_map, like_weaken, like_pairs}
use Rattle.model_laws.proofs.FormedExact.{formed_exact, rate_exact, factor_exact, product_exact}

-- larger bounds
exactly_mono : {b c : ℕ} → b ≤ c → (A : List (Onto floats pauli)) (G : List (Onto whole pauli)) → Exactly b A G → Exactly c A G
exactly_mono l A G h = like_weaken floats whole pauli _ _ (λ w x g r. (r.0, within_mono l r.1)) A G h

-- ---- a jump: the rule over f64 is what is compiled
shape_compiled : (g : Float) (op : List Term) → ((compile_jump (record { rate = g; op = op })).rate ≡ (stored_shape floats pauli g op).rate) × ((compile_jump (record { rate = g; op = op })).terms ≡ (stored_shape floats pauli g op).terms)
unfolding compile_jump stored_shape
shape_compiled g [] = (refl, refl)
shape_compiled g (t ∷ []) = go (floats.is_zero t.num.im)
  where
    go : (b : Bool) → ((cond b (pauli_jump g t) (general_jump g (t ∷ []))).rate ≡ (cond b (stored_pauli floats pauli g t) (stored_general floats pauli g (t ∷ []))).rate)
        × ((cond b (pauli_jump g t) (general_jump g (t ∷ []))).terms ≡ (cond b (stored_pauli floats pauli g t) (stored_general floats pauli g (t ∷ []))).terms)
    go true = (refl, refl)
    go false = (refl, refl)
shape_compiled g (t ∷ u ∷ op) = (refl, refl)

pub jump_compiled : (j : JumpOver floats pauli) → ((compile_jump j).rate ≡ (stored_jump floats pauli j).rate) × ((compile_jump j).terms ≡ (stored_jump floats pauli j).terms)
jump_compiled j = shape_compiled j.rate j.op

-- ---- and what it gives is exact
module _ {g : Float} {z : ℤ} (value : Is g z) (most : nat_abs z ≤ 256) where
  general_exact : (A : List (Onto floats pauli)) (G : List (Onto whole pauli)) → length A ≤ 16 → Exactly 256 A G
      → Is (stored_general floats pauli g A).rate (stored_general whole pauli z G).rate × Exactly (2 ^ 26) (stored_general floats pauli g A).terms (stored_general whole pauli z G).terms
  general_exact A G l h =
      (value, like_append floats whole pauli _ A (formed_over floats pauli A A) G (formed_over whole pauli G G) (exactly_mono (lit≤ tt) A G h) (formed_exact A A G G l l h h))

  shape_exact : (A : List (Onto floats pauli)) (G : List (Onto whole pauli)) → length A ≤ 16 → Exactly 256 A G
      → Is (stored_shape floats pauli g A).rate (stored_shape whole pauli z G).rate × Exactly (2 ^ 26) (stored_shape floats pauli g A).terms (stored_shape whole pauli z G).terms
  unfolding stored_shape
  shape_exact [] [] l h = general_exact [] [] l h
  shape_exact [] (u ∷ G) l h = absurd h
  shape_exact (t ∷ A) [] l h = absurd h
  shape_exact (t ∷ []) (u ∷ []) l h = rw (sym (zero_is h.1.0.im)) (go (floats.is_zero t.num.im))
    where
      go : (b : Bool) → Is (cond b (stored_pauli floats pauli g t) (stored_general floats pauli g (t ∷ []))).rate (cond b (stored_pauli whole pauli z u) (stored_general whole pauli z (u ∷ []))).rate
          × Exactly (2 ^ 26) (cond b (stored_pauli floats pauli g t) (stored_general floats pauli g (t ∷ []))).terms (cond b (stored_pauli whole pauli z u) (stored_general whole pauli z (u ∷ []))).terms
      go true = ((rate_exact value most h.1.0.re h.1.1.re).0, exactly_mono (lit≤ tt) (t ∷ []) (u ∷ []) h)
      go false = general_exact (t ∷ []) (u ∷ []) l h
  shape_exact (t ∷ []) (u ∷ v ∷ G) l h = absurd h.2
  shape_exact (t ∷ s ∷ A) (u ∷ []) l h = absurd h.2
  shape_exact (t ∷ s ∷ A) (u ∷ v ∷ G) l h = general_exact (t ∷ s ∷ A) (u ∷ v ∷ G) l h

pub jump_exact : (j : JumpOver floats pauli) (w : JumpOver whole pauli) → Is j.rate w.rate → nat_abs w.rate ≤ 256 → length j.op ≤ 16 → Exactly 256 j.op w.op
    → Is (compile_jump j).rate (stored_jump whole pauli w).rate × Exactly (2 ^ 26) (compile_jump j).terms (stored_jump whole pauli w).terms
jump_exact j w value most l h = let c = jump_compiled j in rw (c.0, c.1) (shape_exact value most j.op w.op l h)

-- ---- a pair
pub pair_compiled : (k : Cx floats) (left right : Range) (A B : List Term) → (compile_pair k left right A B).terms ≡ stored_pair floats pauli k A B
unfolding compile_pair stored_pair factor_of scaled
pair_compiled k left right A B = refl

module _ {k : Cx floats} {z : Cx whole} (value : IsG k z) (most : Within 256 z) where
  stored_exact : (A B : List (Onto floats pauli)) (G H : List (Onto whole pauli)) → length A ≤ 16 → length B ≤ 16 → Exactly 256 A G → Exactly 256 B H
      → Exactly (2 ^ 35) (stored_pair floats pauli k A B) (stored_pair whole pauli z G H)
  unfolding stored_pair
  stored_exact A B G H la lb a b =
      let f : Onto floats pauli → Onto floats pauli → Onto floats pauli = λ a b. on_word floats pauli (mul_c floats (bare floats pauli a b) k) b.word in
      let g : Onto whole pauli → Onto whole pauli → Onto whole pauli = λ a b. on_word whole pauli (mul_c whole (bare whole pauli a b) z) b.word in
      let p : Onto floats pauli → Onto floats pauli = λ c. on_word floats pauli (mul_c floats k c.num) c.word in
      let q : Onto whole pauli → Onto whole pauli = λ c. on_word whole pauli (mul_c whole z c.num) c.word in
      like_append floats whole pauli _ (pairs_over floats pauli f A B) (map p (formed_over floats pauli A B)) (pairs_over whole pauli g G H) (map q (formed_over whole pauli G H))
      (like_pairs floats whole pauli _ _ _ f g
      (λ a b c d e r e' s. let x = factor_exact r.0 r.1 s.0 s.1 value most in (e', (x.0, within_mono (lit≤ tt) x.1)))
      A B G H a b)
      (like_map floats whole pauli _ _ p q (λ c d e r. (e, product_exact value most r.0 r.1)) (formed_over floats pauli A B) (formed_over whole pauli G H) (formed_exact A B G H la lb a b))

  pub pair_exact : (left right : Range) (A B : List (Onto floats pauli)) (G H : List (Onto whole pauli)) → length A ≤ 16 → length B ≤ 16 → Exactly 256 A G → Exactly 256 B H
      → Exactly (2 ^ 35) (compile_pair k left right A B).terms (stored_pair whole pauli z G H)
  pair_exact left right A B G H la lb a b = rw (pair_compiled k left right A B) (stored_exact A B G H la lb a b)

-- ---- the same places of K make pairs
passing_same : (f g : ℕ → Bool) → ((p : ℕ) → f p ≡ g p) → (p n : ℕ) → passing f p n ≡ passing g p n
unfolding passing
passing_same f g h p zero = refl
passing_same f g h p (suc n) = rw (h p, passing_same f g h (suc p) n)

pub places_exact : (ops : ℕ) (K : List (Cx floats)) (G : List (Cx whole)) → WholeEntries K G → pair_places floats ops K ≡ pair_places whole ops G
unfolding is_pair
places_exact ops K G w =
    passing_same (is_pair floats ops K) (is_pair whole ops G) (λ p. ap (λ (b : Bool). leb (p / ops) (p % ops) && not b) (skipped_is ops K G w (p / ops) (p % ops))) 0 (ops * ops)
