-- SPDX-FileCopyrightText: 2026 The PPVM Authors
-- SPDX-License-Identifier: Apache-2.0

-- Operators that are alike have products that are alike: what holds of each number put to a table, and is kept by addition,
-- holds of the table's numbers. Assumes nothing.
use mathlib.Core.Path.{◌≡◌, refl, sym, ap, ap₂}
use mathlib.Core.Bool.{Bool, true, false, cond}
use mathlib.Core.List.{List, [], ◌∷◌, ◌++◌, map}
use Prim.Native.Nat.{ℕ, suc, ◌+◌, ◌*◌, ◌%◌, ◌≤◌, ◌<◌}
use native.Mathlib.Nat.{add-mul}
use native.Mathlib.Omega.{arith}
use lib.ListN.{length, length-append, length-map}
use Rattle.number.specs.Numbers.{Numbers, Cx, add_c, mul_c, conj_c, zero_c, square, unit_c}
use Rattle.gksl.specs.Operator.{Words, Onto}
use Rattle.gksl.specs.Table.{put_over, put_all_over, without_over}
use Rattle.gksl.specs.Rules.{pairs_over, on_word, bare, formed_over}
use Rattle.lent.specs.Every.{Every}
use Rattle.model_laws.specs.Related.{Like}

pub pairs_length : (N : Numbers) (S : Words) (f : Onto N S → Onto N S → Onto N S) (A B : List (Onto N S)) → length (pairs_over N S f A B) ≡ length A * length B
unfolding pairs_over
pairs_length N S f [] B = omega arith
pairs_length N S f (a ∷ A) B =
    omega (arith, length-append (map (f a) B) (pairs_over N S f A B), length-map B (f a), pairs_length N S f A B, add-mul 1 (length A) (length B))

module _ (N M : Numbers) (S : Words) where
  -- ---- lists
  module _ (R : S.Word → Cx N → Cx M → Type 0) where
    pub like_append : (A C : List (Onto N S)) (B D : List (Onto M S)) → Like N M S R A B → Like N M S R C D → Like N M S R (A ++ C) (B ++ D)
    like_append [] C [] D h k = k
    like_append [] C (b ∷ B) D h k = absurd h
    like_append (a ∷ A) C [] D h k = absurd h
    like_append (a ∷ A) C (b ∷ B) D h k = (h.0, h.1, like_append A C B D h.2 k)

    pub like_length : (A : List (Onto N S)) (B : List (Onto M S)) → Like N M S R A B → length A ≡ length B
    like_length [] [] h = refl
    like_length [] (b ∷ B) h = absurd h
    like_length (a ∷ A) [] h = absurd h
    like_length (a ∷ A) (b ∷ B) h = ap suc (like_length A B h.2)

    pub like_words : (A : List (Onto N S)) (B : List (Onto M S)) → Like N M S R A B → map (λ a. a.word) A ≡ map (λ b. b.word) B
    like_words [] [] h = refl
    like_words [] (b ∷ B) h = absurd h
    like_words (a ∷ A) [] h = absurd h
    like_words (a ∷ A) (b ∷ B) h = ap₂ ◌∷◌ h.0 (like_words A B h.2)

    -- tests that agree drop the same
    pub like_without : (f : Onto N S → Bool) (g : Onto M S → Bool) → ((a : Onto N S) (b : Onto M S) → a.word ≡ b.word → R a.word a.num b.num → f a ≡ g b)
        → (A : List (Onto N S)) (B : List (Onto M S)) → Like N M S R A B → Like N M S R (without_over N S f A) (without_over M S g B)
    unfolding without_over
    like_without f g same [] [] h = tt
    like_without f g same [] (b ∷ B) h = absurd h
    like_without f g same (a ∷ A) [] h = absurd h
    like_without f g same (a ∷ A) (b ∷ B) h = rw (sym (same a b h.0 h.1)) (go (f a) (like_without f g same A B h.2))
      where
        go : (c : Bool) → Like N M S R (without_over N S f A) (without_over M S g B) → Like N M S R (cond c (without_over N S f A) (a ∷ without_over N S f A)) (cond c (without_over M S g B) (b ∷ without_over M S g B))
        go true k = k
        go false k = (h.0, h.1, k)

  -- what f and g make of each
  module _ (P R : S.Word → Cx N → Cx M → Type 0) (f : Onto N S → Onto N S) (g : Onto M S → Onto M S)
      (make : (a : Onto N S) (b : Onto M S) → a.word ≡ b.word → P a.word a.num b.num → ((f a).word ≡ (g b).word) × R (f a).word (f a).num (g b).num) where
    pub like_map : (A : List (Onto N S)) (B : List (Onto M S)) → Like N M S P A B → Like N M S R (map f A) (map g B)
    like_map [] [] h = tt
    like_map [] (b ∷ B) h = absurd h
    like_map (a ∷ A) [] h = absurd h
    like_map (a ∷ A) (b ∷ B) h = let m = make a b h.0 h.1 in (m.0, m.1, like_map A B h.2)

  pub like_weaken : (P R : S.Word → Cx N → Cx M → Type 0) → ((w : S.Word) (x : Cx N) (y : Cx M) → P w x y → R w x y) → (A : List (Onto N S)) (B : List (Onto M S)) → Like N M S P A B → Like N M S R A B
  like_weaken P R f [] [] h = tt
  like_weaken P R f [] (b ∷ B) h = absurd h
  like_weaken P R f (a ∷ A) [] h = absurd h
  like_weaken P R f (a ∷ A) (b ∷ B) h = (h.0, f a.word a.num b.num h.1, like_weaken P R f A B h.2)

  -- ---- each with each
  module _ (P Q R : S.Word → Cx N → Cx M → Type 0) (f : Onto N S → Onto N S → Onto N S) (g : Onto M S → Onto M S → Onto M S)
      (make : (a b : Onto N S) (c d : Onto M S) → a.word ≡ c.word → P a.word a.num c.num → b.word ≡ d.word → Q b.word b.num d.num
      → ((f a b).word ≡ (g c d).word) × R (f a b).word (f a b).num (g c d).num) where
    like_row : (a : Onto N S) (c : Onto M S) → a.word ≡ c.word → P a.word a.num c.num → (B : List (Onto N S)) (D : List (Onto M S)) → Like N M S Q B D → Like N M S R (map (f a) B) (map (g c) D)
    like_row a c e p B D h = like_map Q R (f a) (g c) (λ b d e' q. make a b c d e p e' q) B D h

    pub like_pairs : (A B : List (Onto N S)) (C D : List (Onto M S)) → Like N M S P A C → Like N M S Q B D → Like N M S R (pairs_over N S f A B) (pairs_over M S g C D)
    unfolding pairs_over
    like_pairs [] B [] D h k = tt
    like_pairs [] B (c ∷ C) D h k = absurd h
    like_pairs (a ∷ A) B [] D h k = absurd h
    like_pairs (a ∷ A) B (c ∷ C) D h k =
        like_append R (map (f a) B) (pairs_over N S f A B) (map (g c) D) (pairs_over M S g C D) (like_row a c h.0 h.1 B D k) (like_pairs A B C D h.2 k)

  -- ---- tables: Q holds of what is put in, R n of a sum of n or fewer numbers, n up to a limit
  module _ (Q : S.Word → Cx N → Cx M → Type 0) (R : ℕ → S.Word → Cx N → Cx M → Type 0) (limit : ℕ)
      (start : (w : S.Word) (x : Cx N) (y : Cx M) → Q w x y → R 1 w (add_c N (zero_c N) x) (add_c M (zero_c M) y))
      (more : (n : ℕ) → n < limit → (w v : S.Word) (x x' : Cx N) (y y' : Cx M) → R n w x y → Q v x' y' → R (suc n) w (add_c N x x') (add_c M y y'))
      (longer : (m n : ℕ) → m ≤ n → (w : S.Word) (x : Cx N) (y : Cx M) → R m w x y → R n w x y) where
    like_longer : (m n : ℕ) → m ≤ n → (T : List (Onto N S)) (U : List (Onto M S)) → Like N M S (R m) T U → Like N M S (R n) T U
    like_longer m n l T U h = like_weaken (R m) (R n) (longer m n l) T U h

    module _ (n : ℕ) (few : n < limit) (t : Onto N S) (u : Onto M S) (e : t.word ≡ u.word) (q : Q t.word t.num u.num) where
      fresh : R (suc n) t.word (add_c N (zero_c N) t.num) (add_c M (zero_c M) u.num)
      fresh = longer 1 (suc n) (omega arith) t.word (add_c N (zero_c N) t.num) (add_c M (zero_c M) u.num) (start t.word t.num u.num q)

      like_put : (T : List (Onto N S)) (U : List (Onto M S)) → Like N M S (R n) T U → Like N M S (R (suc n)) (put_over N S t T) (put_over M S u U)
      unfolding put_over
      like_put [] [] h = (e, fresh, tt)
      like_put [] (d ∷ U) h = absurd h
      like_put (c ∷ T) [] h = absurd h
      like_put (c ∷ T) (d ∷ U) h =
          rw (ap₂ S.alike (sym h.0) (sym e), ap₂ S.below (sym e) (sym h.0))
          (go (S.alike c.word t.word) (S.below t.word c.word) (like_put T U h.2))
        where
          go : (a b : Bool) → Like N M S (R (suc n)) (put_over N S t T) (put_over M S u U)
              → Like N M S (R (suc n))
              (cond a (record { num = add_c N c.num t.num; word = c.word } ∷ T) (cond b (record { num = add_c N (zero_c N) t.num; word = t.word } ∷ (c ∷ T)) (c ∷ put_over N S t T)))
              (cond a (record { num = add_c M d.num u.num; word = d.word } ∷ U) (cond b (record { num = add_c M (zero_c M) u.num; word = u.word } ∷ (d ∷ U)) (d ∷ put_over M S u U)))
          go true b k = (h.0, more n few c.word t.word c.num t.num d.num u.num h.1 q, like_longer n (suc n) (omega arith) T U h.2)
          go false true k = (e, fresh, like_longer n (suc n) (omega arith) (c ∷ T) (d ∷ U) h)
          go false false k = (h.0, longer n (suc n) (omega arith) c.word c.num d.num h.1, k)

    pub like_put_all : (A : List (Onto N S)) (B : List (Onto M S)) → Like N M S Q A B → (n : ℕ) → n + length A ≤ limit → (T : List (Onto N S)) (U : List (Onto M S)) → Like N M S (R n) T U
        → Like N M S (R limit) (put_all_over N S A T) (put_all_over M S B U)
    unfolding put_all_over
    like_put_all [] [] h n l T U k = like_longer n limit (omega arith) T U k
    like_put_all [] (b ∷ B) h n l T U k = absurd h
    like_put_all (a ∷ A) [] h n l T U k = absurd h
    like_put_all (a ∷ A) (b ∷ B) h n l T U k =
        like_put_all A B h.2 (suc n) (omega arith) (put_over N S a T) (put_over M S b U) (like_put n (omega arith) a b h.0 h.1 T U k)

    -- ---- the product of two operators, thinned
    pub like_formed : (P P' : S.Word → Cx N → Cx M → Type 0)
        → ((v w : S.Word) (x x' : Cx N) (y y' : Cx M) → P v x y → P' w x' y'
        → Q (S.mul v w) (mul_c N (mul_c N (conj_c N x) x') (unit_c N (S.phase v w % 4))) (mul_c M (mul_c M (conj_c M y) y') (unit_c M (S.phase v w % 4))))
        → ((w : S.Word) (x : Cx N) (y : Cx M) → R limit w x y → N.small (square N x) ≡ M.small (square M y))
        → (A B : List (Onto N S)) (C D : List (Onto M S)) → length A * length B ≤ limit → Like N M S P A C → Like N M S P' B D
        → Like N M S (R limit) (formed_over N S A B) (formed_over M S C D)
    unfolding formed_over
    like_formed P P' make same A B C D l h k =
        let f : Onto N S → Onto N S → Onto N S = λ a b. on_word N S (mul_c N (bare N S a b) (unit_c N (S.phase a.word b.word % 4))) (S.mul a.word b.word) in
        let g : Onto M S → Onto M S → Onto M S = λ a b. on_word M S (mul_c M (bare M S a b) (unit_c M (S.phase a.word b.word % 4))) (S.mul a.word b.word) in
        like_without (R limit) _ _ (λ a b e r. same a.word a.num b.num r) (put_all_over N S (pairs_over N S f A B) []) (put_all_over M S (pairs_over M S g C D) [])
        (like_put_all (pairs_over N S f A B) (pairs_over M S g C D)
        (like_pairs P P' Q f g
        (λ a b c d e p e' q. (ap₂ S.mul e e', rw (sym e, sym e') (make a.word b.word a.num b.num c.num d.num p q)))
        A B C D h k)
        0 (omega (arith, l, pairs_length N S f A B)) [] [] tt)

-- ---- one operator, beside itself
module _ (N : Numbers) (S : Words) (P : S.Word → Cx N → Type 0) where
  abbrev pub Own : S.Word → Cx N → Cx N → Type 0
  Own w x y = (x ≡ y) × P w x

  pub every_like : (A : List (Onto N S)) → Every (λ a. P a.word a.num) A → Like N N S Own A A
  every_like [] h = tt
  every_like (a ∷ A) h = (refl, (refl, h.0), every_like A h.1)

  pub like_every : (A B : List (Onto N S)) → Like N N S Own A B → Every (λ a. P a.word a.num) A
  like_every [] [] h = tt
  like_every [] (b ∷ B) h = absurd h
  like_every (a ∷ A) [] h = absurd h
  like_every (a ∷ A) (b ∷ B) h = (h.1.1, like_every A B h.2)
