-- SPDX-FileCopyrightText: 2026 The PPVM Authors
-- SPDX-License-Identifier: Apache-2.0

-- Two kinds of words that a relation ties, by which product, phase, order, equality and sharing are the same, have the same
-- action, word by word, with the same numbers. Assumes nothing.
use mathlib.Core.Path.{◌≡◌, refl, ap, ap₂, subst}
use mathlib.Core.Bool.{Bool, true, false, cond, ◌||◌}
use mathlib.Core.List.{List, [], ◌∷◌, ◌++◌, map}
use Prim.Native.Nat.{ℕ, zero, suc, ◌+◌, ◌%◌}
use lib.ListN.{length}
use Rattle.number.specs.Numbers.{Numbers, Cx, add_c, neg_c, mul_c, conj_c, real_c, zero_c, square, unit_c, largest_over}
use Rattle.gksl.specs.Operator.{Words, Onto}
use Rattle.gksl.specs.Model.{RealTerm, JumpOver, MatrixOver, ModelOver, Row, rows_over, entry_over, entry_in}
use Rattle.gksl.specs.Table.{put_over, put_all_over, without_over}
use Rattle.gksl.specs.Rules.{pairs_over, gather_over, through, signed, factored, overlaps_over, bare, sandwiched, between, formed_over, terms_over, clash_over, general_over, shape_over, jumps_over, diagonal_over, both_over, one_over, pair_over, row_over, matrix_over, matrices_over, rules_over, action_over}

-- what a relation of words keeps
pub record Keeps (S T : Words) (R : S.Word → T.Word → Type 0) : Type 0 where
  pub mul : {a b : S.Word} {c d : T.Word} → R a c → R b d → R (S.mul a b) (T.mul c d)
  pub phase : {a b : S.Word} {c d : T.Word} → R a c → R b d → S.phase a b ≡ T.phase c d
  pub alike : {a b : S.Word} {c d : T.Word} → R a c → R b d → S.alike a b ≡ T.alike c d
  pub below : {a b : S.Word} {c d : T.Word} → R a c → R b d → S.below a b ≡ T.below c d
  pub meets : {a b : S.Word} {c d : T.Word} → R a c → R b d → S.meets a b ≡ T.meets c d

-- ---- lists that are tied place by place
abbrev Zipped : {A B : Type 0} → (A → B → Type 0) → List A → List B → Type 0
Zipped R [] [] = Unit {0}
Zipped R [] (b ∷ m) = ⊥
Zipped R (a ∷ l) [] = ⊥
Zipped R (a ∷ l) (b ∷ m) = R a b × Zipped R l m

pub record Both {A B : Type 0} (R : A → B → Type 0) (l : List A) (m : List B) : Type 0 where
  pub places : Zipped R l m

module _ {A B : Type 0} {R : A → B → Type 0} where
  pub none : Both R [] []
  none = record { places = tt }

  pub more : {a : A} {b : B} {l : List A} {m : List B} → R a b → Both R l m → Both R (a ∷ l) (b ∷ m)
  more h g = record { places = (h, g.places) }

  pub head : {a : A} {b : B} {l : List A} {m : List B} → Both R (a ∷ l) (b ∷ m) → R a b
  head h = h.places.0

  pub tail : {a : A} {b : B} {l : List A} {m : List B} → Both R (a ∷ l) (b ∷ m) → Both R l m
  tail h = record { places = h.places.1 }

  pub short : {b : B} {m : List B} → Both R [] (b ∷ m) → ⊥
  short h = h.places

  pub long : {a : A} {l : List A} → Both R (a ∷ l) [] → ⊥
  long h = h.places

  both_append : (l l' : List A) (m m' : List B) → Both R l m → Both R l' m' → Both R (l ++ l') (m ++ m')
  both_append [] l' [] m' h g = g
  both_append [] l' (b ∷ m) m' h g = absurd (short h)
  both_append (a ∷ l) l' [] m' h g = absurd (long h)
  both_append (a ∷ l) l' (b ∷ m) m' h g = more (head h) (both_append l l' m m' (tail h) g)

  both_cond : (c d : Bool) (l l' : List A) (m m' : List B) → c ≡ d → Both R l m → Both R l' m' → Both R (cond c l l') (cond d m m')
  both_cond c d l l' m m' e h g = subst (λ (b : Bool). Both R (cond c l l') (cond b m m')) e (go c)
    where
      go : (b : Bool) → Both R (cond b l l') (cond b m m')
      go true = h
      go false = g

-- a number onto a word: the same number, and words that are tied
pub record Tied (N : Numbers) (S T : Words) (R : S.Word → T.Word → Type 0) (t : Onto N S) (u : Onto N T) : Type 0 where
  pub num : t.num ≡ u.num
  pub word : R t.word u.word

pub record TiedReal (N : Numbers) (S T : Words) (R : S.Word → T.Word → Type 0) (t : RealTerm N S) (u : RealTerm N T) : Type 0 where
  pub num : t.num ≡ u.num
  pub word : R t.word u.word

pub record TiedJump (N : Numbers) (S T : Words) (R : S.Word → T.Word → Type 0) (t : JumpOver N S) (u : JumpOver N T) : Type 0 where
  pub rate : t.rate ≡ u.rate
  pub op : Both (Tied N S T R) t.op u.op

pub record TiedRow (N : Numbers) (S T : Words) (R : S.Word → T.Word → Type 0) (t : Row N S) (u : Row N T) : Type 0 where
  pub row : t.row ≡ u.row
  pub op : Both (Tied N S T R) t.op u.op

pub record TiedMatrix (N : Numbers) (S T : Words) (R : S.Word → T.Word → Type 0) (t : MatrixOver N S) (u : MatrixOver N T) : Type 0 where
  pub ops : Both (Both (Tied N S T R)) t.ops u.ops
  pub entries : t.entries ≡ u.entries

pub record TiedModel (N : Numbers) (S T : Words) (R : S.Word → T.Word → Type 0) (t : ModelOver N S) (u : ModelOver N T) : Type 0 where
  pub terms : Both (TiedReal N S T R) t.terms u.terms
  pub jumps : Both (TiedJump N S T R) t.jumps u.jumps
  pub matrices : Both (TiedMatrix N S T R) t.matrices u.matrices

module _ (N : Numbers) (S T : Words) (R : S.Word → T.Word → Type 0) (K : Keeps S T R) where
  abbrev Same : List (Onto N S) → List (Onto N T) → Type 0
  Same l m = Both (Tied N S T R) l m

  abbrev tied : (x : Cx N) (y : Cx N) (v : S.Word) (w : T.Word) → x ≡ y → R v w → Tied N S T R (record { num = x; word = v }) (record { num = y; word = w })
  tied x y v w e h = record { num = e; word = h }

  -- ---- tables
  put_same : (t : Onto N S) (u : Onto N T) (l : List (Onto N S)) (m : List (Onto N T)) → Tied N S T R t u → Same l m → Same (put_over N S t l) (put_over N T u m)
  unfolding put_over
  put_same t u [] [] h g = more (tied _ _ _ _ (ap (add_c N (zero_c N)) h.num) h.word) none
  put_same t u [] (d ∷ m) h g = absurd (short g)
  put_same t u (c ∷ l) [] h g = absurd (long g)
  put_same t u (c ∷ l) (d ∷ m) h g =
      both_cond _ _ _ _ _ _ (K.alike (head g).word h.word)
      (more (tied _ _ _ _ (ap₂ (add_c N) (head g).num h.num) (head g).word) (tail g))
      (both_cond _ _ _ _ _ _ (K.below h.word (head g).word)
      (more (tied _ _ _ _ (ap (add_c N (zero_c N)) h.num) h.word) g)
      (more (head g) (put_same t u l m h (tail g))))

  puts_same : (A : List (Onto N S)) (B : List (Onto N T)) (l : List (Onto N S)) (m : List (Onto N T)) → Same A B → Same l m → Same (put_all_over N S A l) (put_all_over N T B m)
  unfolding put_all_over
  puts_same [] [] l m h g = g
  puts_same [] (u ∷ B) l m h g = absurd (short h)
  puts_same (t ∷ A) [] l m h g = absurd (long h)
  puts_same (t ∷ A) (u ∷ B) l m h g = puts_same A B (put_over N S t l) (put_over N T u m) (tail h) (put_same t u l m (head h) g)

  without_same : (f : Onto N S → Bool) (g : Onto N T → Bool) → ((t : Onto N S) (u : Onto N T) → Tied N S T R t u → f t ≡ g u)
      → (l : List (Onto N S)) (m : List (Onto N T)) → Same l m → Same (without_over N S f l) (without_over N T g m)
  unfolding without_over
  without_same f g e [] [] h = none
  without_same f g e [] (u ∷ m) h = absurd (short h)
  without_same f g e (t ∷ l) [] h = absurd (long h)
  without_same f g e (t ∷ l) (u ∷ m) h =
      let r = without_same f g e l m (tail h) in
      both_cond (f t) (g u) _ _ _ _ (e t u (head h)) r (more (head h) r)

  -- ---- lists made of terms
  map_same : (f : Onto N S → Onto N S) (g : Onto N T → Onto N T) → ((t : Onto N S) (u : Onto N T) → Tied N S T R t u → Tied N S T R (f t) (g u))
      → (l : List (Onto N S)) (m : List (Onto N T)) → Same l m → Same (map f l) (map g m)
  map_same f g e [] [] h = none
  map_same f g e [] (u ∷ m) h = absurd (short h)
  map_same f g e (t ∷ l) [] h = absurd (long h)
  map_same f g e (t ∷ l) (u ∷ m) h = more (e t u (head h)) (map_same f g e l m (tail h))

  pairs_same : (f : Onto N S → Onto N S → Onto N S) (g : Onto N T → Onto N T → Onto N T)
      → ((a b : Onto N S) (c d : Onto N T) → Tied N S T R a c → Tied N S T R b d → Tied N S T R (f a b) (g c d))
      → (A B : List (Onto N S)) (C D : List (Onto N T)) → Same A C → Same B D → Same (pairs_over N S f A B) (pairs_over N T g C D)
  unfolding pairs_over
  pairs_same f g e [] B [] D h k = none
  pairs_same f g e [] B (c ∷ C) D h k = absurd (short h)
  pairs_same f g e (a ∷ A) B [] D h k = absurd (long h)
  pairs_same f g e (a ∷ A) B (c ∷ C) D h k =
      both_append (map (f a) B) (pairs_over N S f A B) (map (g c) D) (pairs_over N T g C D)
      (map_same (f a) (g c) (λ b d i. e a b c d (head h) i) B D k)
      (pairs_same f g e A B C D (tail h) k)

  gather_same : (f : Onto N S → List (Onto N S)) (g : Onto N T → List (Onto N T))
      → ((t : Onto N S) (u : Onto N T) → Tied N S T R t u → Same (f t) (g u))
      → (l : List (Onto N S)) (m : List (Onto N T)) → Same l m → Same (gather_over N S f l) (gather_over N T g m)
  unfolding gather_over
  gather_same f g e [] [] h = none
  gather_same f g e [] (u ∷ m) h = absurd (short h)
  gather_same f g e (t ∷ l) [] h = absurd (long h)
  gather_same f g e (t ∷ l) (u ∷ m) h = both_append (f t) (gather_over N S f l) (g u) (gather_over N T g m) (e t u (head h)) (gather_same f g e l m (tail h))

  signed_same : (i j : ℕ) (f g : N.Num → Cx N) (v : S.Word) (w : T.Word) → i ≡ j → ((x : N.Num) → f x ≡ g x) → R v w → Same (signed N S i f v) (signed N T j g w)
  unfolding signed
  signed_same i j f g v w e q h = subst (λ (n : ℕ). Same (signed N S i f v) (signed N T n g w)) e (go i)
    where
      go : (n : ℕ) → Same (signed N S n f v) (signed N T n g w)
      go zero = more (tied _ _ _ _ (q N.unit) h) none
      go (suc zero) = none
      go (suc (suc zero)) = more (tied _ _ _ _ (q (N.opposite N.unit)) h) none
      go (suc (suc (suc n))) = none

  factored_same : (i j : ℕ) (x y : N.Num) (v : S.Word) (w : T.Word) → i ≡ j → x ≡ y → R v w → Same (factored N S i x v) (factored N T j y w)
  unfolding factored
  factored_same i j x y v w e q h = subst (λ (n : ℕ). Same (factored N S i x v) (factored N T n y w)) e (go i)
    where
      go : (n : ℕ) → Same (factored N S n x v) (factored N T n y w)
      go zero = none
      go (suc zero) = more (tied _ _ _ _ (ap (λ (u : N.Num). real_c N (N.times u (N.opposite N.two))) q) h) none
      go (suc (suc zero)) = none
      go (suc (suc (suc n))) = more (tied _ _ _ _ (ap (λ (u : N.Num). real_c N (N.times u N.two)) q) h) none

  overlaps_same : (A : List (Onto N S)) (B : List (Onto N T)) (p : S.Word) (q : T.Word) → Same A B → R p q → overlaps_over N S A p ≡ overlaps_over N T B q
  unfolding overlaps_over
  overlaps_same [] [] p q h r = refl
  overlaps_same [] (u ∷ B) p q h r = absurd (short h)
  overlaps_same (t ∷ A) [] p q h r = absurd (long h)
  overlaps_same (t ∷ A) (u ∷ B) p q h r = ap₂ ◌||◌ (K.meets (head h).word r) (overlaps_same A B p q (tail h) r)

  -- ---- numbers and words of products
  phase_same : {a b : S.Word} {c d : T.Word} → R a c → R b d → S.phase a b % 4 ≡ T.phase c d % 4
  phase_same h g = ap (λ (n : ℕ). n % 4) (K.phase h g)

  through_same : {a p b : S.Word} {c q d : T.Word} → R a c → R p q → R b d → through S a p b % 4 ≡ through T c q d % 4
  through_same h r g = ap (λ (n : ℕ). n % 4) (ap₂ ◌+◌ (K.phase h r) (K.phase (K.mul h r) g))

  bare_same : {a b : Onto N S} {c d : Onto N T} → Tied N S T R a c → Tied N S T R b d → bare N S a b ≡ bare N T c d
  bare_same h g = ap₂ (λ (x y : Cx N). mul_c N (conj_c N x) y) h.num g.num

  sandwiched_same : (k : Cx N) {a b : Onto N S} {c d : Onto N T} {p : S.Word} {q : T.Word} → Tied N S T R a c → R p q → Tied N S T R b d → sandwiched N S k a p b ≡ sandwiched N T k c q d
  sandwiched_same k h r g = ap₂ (λ (x : Cx N) (n : ℕ). mul_c N (mul_c N x k) (unit_c N n)) (bare_same h g) (through_same h.word r g.word)

  between_same : {a b : Onto N S} {c d : Onto N T} {p : S.Word} {q : T.Word} → Tied N S T R a c → R p q → Tied N S T R b d → R (between N S a p b) (between N T c q d)
  between_same h r g = K.mul (K.mul h.word r) g.word

  formed_same : (A B : List (Onto N S)) (C D : List (Onto N T)) → Same A C → Same B D → Same (formed_over N S A B) (formed_over N T C D)
  unfolding formed_over
  formed_same A B C D h g =
      without_same _ _ (λ t u i. ap (λ (x : Cx N). N.small (square N x)) i.num) _ _
      (puts_same _ _ [] []
      (pairs_same _ _ (λ a b c d i j. tied _ _ _ _ (ap₂ (λ (x : Cx N) (n : ℕ). mul_c N x (unit_c N n)) (bare_same i j) (phase_same i.word j.word)) (K.mul i.word j.word)) A B C D h g)
      none)

  -- ---- the rules
  module _ (p : S.Word) (q : T.Word) (r : R p q) where
    terms_same : (A : List (RealTerm N S)) (B : List (RealTerm N T)) → Both (TiedReal N S T R) A B → Same (terms_over N S A p) (terms_over N T B q)
    unfolding terms_over
    terms_same [] [] h = none
    terms_same [] (u ∷ B) h = absurd (short h)
    terms_same (t ∷ A) [] h = absurd (long h)
    terms_same (t ∷ A) (u ∷ B) h =
        both_append _ _ _ _
        (both_cond _ _ _ [] _ [] (K.meets (head h).word r)
        (factored_same _ _ _ _ _ _ (phase_same (head h).word r) (head h).num (K.mul (head h).word r)) none)
        (terms_same A B (tail h))

    clash_same : (i j : ℕ) (x y : N.Num) → i ≡ j → x ≡ y → Same (clash_over N S i x p) (clash_over N T j y q)
    unfolding clash_over
    clash_same i j x y e f = subst (λ (n : ℕ). Same (clash_over N S i x p) (clash_over N T n y q)) e (go i)
      where
        go : (n : ℕ) → Same (clash_over N S n x p) (clash_over N T n y q)
        go zero = none
        go (suc n) = more (tied _ _ _ _ (ap (λ (u : N.Num). real_c N (N.times (N.opposite N.two) u)) f) r) none

    general_same : (g : N.Num) (A : List (Onto N S)) (B : List (Onto N T)) → Same A B → Same (general_over N S g A p) (general_over N T g B q)
    unfolding general_over
    general_same g A B h =
        both_append _ _ _ _
        (pairs_same _ _ (λ a b c d i j. tied _ _ _ _
        (ap₂ (λ (x : Cx N) (n : ℕ). mul_c N (mul_c N x (unit_c N n)) (real_c N g)) (bare_same i j) (through_same i.word r j.word))
        (between_same i r j)) A A B B h h)
        (gather_same _ _ (λ t u i. signed_same _ _ _ _ _ _ (phase_same i.word r)
        (λ s. ap (λ (x : Cx N). mul_c N (mul_c N (neg_c N x) (real_c N g)) (real_c N s)) i.num) (K.mul i.word r))
        (formed_over N S A A) (formed_over N T B B) (formed_same A A B B h h))

    shape_same : (g : N.Num) (A : List (Onto N S)) (B : List (Onto N T)) → Same A B → Same (shape_over N S g A p) (shape_over N T g B q)
    unfolding shape_over
    shape_same g [] [] h = none
    shape_same g [] (u ∷ B) h = absurd (short h)
    shape_same g (t ∷ A) [] h = absurd (long h)
    shape_same g (t ∷ []) (u ∷ []) h =
        both_cond _ _ _ _ _ _ (ap (λ (x : Cx N). N.is_zero x.im) (head h).num)
        (clash_same _ _ _ _ (ap (λ (n : ℕ). n % 2) (K.phase (head h).word r)) (ap (λ (x : Cx N). N.times (N.times g x.re) x.re) (head h).num))
        (general_same g (t ∷ []) (u ∷ []) h)
    shape_same g (t ∷ []) (u ∷ (w ∷ B)) h = absurd (short (tail h))
    shape_same g (t ∷ (v ∷ A)) (u ∷ []) h = absurd (long (tail h))
    shape_same g (t ∷ (v ∷ A)) (u ∷ (w ∷ B)) h = general_same g (t ∷ (v ∷ A)) (u ∷ (w ∷ B)) h

    rate_same : (g f : N.Num) (A : List (Onto N S)) (B : List (Onto N T)) → g ≡ f → Same A B → Same (shape_over N S g A p) (shape_over N T f B q)
    rate_same g f A B e h = subst (λ (x : N.Num). Same (shape_over N S g A p) (shape_over N T x B q)) e (shape_same g A B h)

    jumps_same : (A : List (JumpOver N S)) (B : List (JumpOver N T)) → Both (TiedJump N S T R) A B → Same (jumps_over N S A p) (jumps_over N T B q)
    unfolding jumps_over
    jumps_same [] [] h = none
    jumps_same [] (u ∷ B) h = absurd (short h)
    jumps_same (t ∷ A) [] h = absurd (long h)
    jumps_same (t ∷ A) (u ∷ B) h =
        both_append _ _ _ _
        (both_cond _ _ _ [] _ [] (overlaps_same t.op u.op p q (head h).op r)
        (rate_same t.rate u.rate t.op u.op (head h).rate (head h).op) none)
        (jumps_same A B (tail h))

    diagonal_same : (big : N.Num) (k : Cx N) (A : List (Onto N S)) (B : List (Onto N T)) → Same A B → Same (diagonal_over N S big k A p) (diagonal_over N T big k B q)
    unfolding diagonal_over
    diagonal_same big k A B h =
        both_cond (N.slighter (square N k) big) (N.slighter (square N k) big) [] _ [] _ refl none
        (both_cond _ _ _ [] _ [] (overlaps_same A B p q h r)
        (both_append _ _ _ _
        (pairs_same _ _ (λ a b c d i j. tied _ _ _ _ (sandwiched_same k i r j) (between_same i r j)) A A B B h h)
        (gather_same _ _ (λ t u i. signed_same _ _ _ _ _ _ (phase_same i.word r)
        (λ s. ap (λ (x : Cx N). neg_c N (mul_c N (mul_c N k x) (real_c N s))) i.num) (K.mul i.word r))
        (formed_over N S A A) (formed_over N T B B) (formed_same A A B B h h)))
        none)

    both_same : (k : Cx N) (A B : List (Onto N S)) (C D : List (Onto N T)) → Same A C → Same B D → Same (both_over N S k A B p) (both_over N T k C D q)
    unfolding both_over
    both_same k A B C D h g =
        both_append _ _ _ _
        (pairs_same _ _ (λ a b c d i j. tied _ _ _ _ (ap (λ (x : Cx N). real_c N (N.times N.two x.re)) (sandwiched_same k i r j)) (between_same i r j)) A B C D h g)
        (gather_same _ _ (λ t u i. both_cond _ _ [] _ [] _ (ap (λ (x : Cx N). N.slight (mul_c N k x).re) i.num) none
        (signed_same _ _ _ _ _ _ (phase_same i.word r)
        (λ s. ap (λ (x : Cx N). real_c N (N.opposite (N.times (N.times N.two (mul_c N k x).re) s))) i.num) (K.mul i.word r)))
        (formed_over N S A B) (formed_over N T C D) (formed_same A B C D h g))

    one_same : (f : N.Num → N.Num) (k : Cx N) (A B : List (Onto N S)) (C D : List (Onto N T)) → Same A C → Same B D → Same (one_over N S f k A B p) (one_over N T f k C D q)
    unfolding one_over
    one_same f k A B C D h g =
        gather_same _ _ (λ t u i. both_cond _ _ [] _ [] _ (ap (λ (x : Cx N). N.slight (mul_c N k x).im) i.num) none
        (factored_same _ _ _ _ _ _ (phase_same i.word r) (ap (λ (x : Cx N). f (mul_c N k x).im) i.num) (K.mul i.word r)))
        (formed_over N S A B) (formed_over N T C D) (formed_same A B C D h g)

    pair_same : (big : N.Num) (k : Cx N) (A B : List (Onto N S)) (C D : List (Onto N T)) → Same A C → Same B D → Same (pair_over N S big k A B p) (pair_over N T big k C D q)
    unfolding pair_over
    pair_same big k A B C D h g =
        let a = overlaps_same A C p q h r in
        let b = overlaps_same B D p q g r in
        both_cond (N.slighter (square N k) big) (N.slighter (square N k) big) [] _ [] _ refl none
        (both_cond _ _ _ _ _ _ a
        (both_cond _ _ _ _ _ _ b (both_same k A B C D h g) (one_same (λ x. x) k A B C D h g))
        (both_cond _ _ _ [] _ [] b (one_same N.opposite k A B C D h g) none))

    -- ---- matrices
    module _ (big : N.Num) (E : ℕ → ℕ → Cx N) where
      row_same : (x : Row N S) (y : Row N T) (X : List (Row N S)) (Y : List (Row N T)) → TiedRow N S T R x y → Both (TiedRow N S T R) X Y → Same (row_over N S big E x X p) (row_over N T big E y Y q)
      unfolding row_over
      row_same x y [] [] i h = none
      row_same x y [] (v ∷ Y) i h = absurd (short h)
      row_same x y (u ∷ X) [] i h = absurd (long h)
      row_same x y (u ∷ X) (v ∷ Y) i h =
          both_append _ _ _ _
          (subst (λ (k : Cx N). Same (pair_over N S big (E x.row u.row) x.op u.op p) (pair_over N T big k y.op v.op q)) (ap₂ E i.row (head h).row)
          (pair_same big (E x.row u.row) x.op u.op y.op v.op i.op (head h).op))
          (row_same x y X Y i (tail h))

      matrix_same : (X : List (Row N S)) (Y : List (Row N T)) → Both (TiedRow N S T R) X Y → Same (matrix_over N S big E X p) (matrix_over N T big E Y q)
      unfolding matrix_over
      matrix_same [] [] h = none
      matrix_same [] (y ∷ Y) h = absurd (short h)
      matrix_same (x ∷ X) [] h = absurd (long h)
      matrix_same (x ∷ X) (y ∷ Y) h =
          both_append _ _ _ _
          (both_append _ _ _ _
          (subst (λ (k : Cx N). Same (diagonal_over N S big (E x.row x.row) x.op p) (diagonal_over N T big k y.op q)) (ap₂ E (head h).row (head h).row)
          (diagonal_same big (E x.row x.row) x.op y.op (head h).op))
          (row_same x y X Y (head h) (tail h)))
          (matrix_same X Y (tail h))

    rows_same : (n : ℕ) (A : List (List (Onto N S))) (B : List (List (Onto N T))) → Both (Both (Tied N S T R)) A B → Both (TiedRow N S T R) (rows_over N S n A) (rows_over N T n B)
    unfolding rows_over
    rows_same n [] [] h = none
    rows_same n [] (b ∷ B) h = absurd (short h)
    rows_same n (a ∷ A) [] h = absurd (long h)
    rows_same n (a ∷ A) (b ∷ B) h = more (record { row = refl; op = head h }) (rows_same (suc n) A B (tail h))

    many_same : {A B : Type 0} (Q : A → B → Type 0) (l : List A) (m : List B) → Both Q l m → length l ≡ length m
    many_same Q [] [] h = refl
    many_same Q [] (b ∷ m) h = absurd (short h)
    many_same Q (a ∷ l) [] h = absurd (long h)
    many_same Q (a ∷ l) (b ∷ m) h = ap suc (many_same Q l m (tail h))

    matrices_same : (A : List (MatrixOver N S)) (B : List (MatrixOver N T)) → Both (TiedMatrix N S T R) A B → Same (matrices_over N S A p) (matrices_over N T B q)
    unfolding matrices_over
    matrices_same [] [] h = none
    matrices_same [] (b ∷ B) h = absurd (short h)
    matrices_same (a ∷ A) [] h = absurd (long h)
    matrices_same (a ∷ A) (b ∷ B) h = both_append _ _ _ _ first (matrices_same A B (tail h))
      where
        first : Same (matrix_over N S (largest_over N a.entries) (entry_over N S a) (rows_over N S 0 a.ops) p) (matrix_over N T (largest_over N b.entries) (entry_over N T b) (rows_over N T 0 b.ops) q)
        first =
            subst (λ (E : List (Cx N)). Same (matrix_over N S (largest_over N a.entries) (entry_over N S a) (rows_over N S 0 a.ops) p) (matrix_over N T (largest_over N E) (entry_in N (length b.ops) E) (rows_over N T 0 b.ops) q)) (head h).entries
            (subst (λ (n : ℕ). Same (matrix_over N S (largest_over N a.entries) (entry_over N S a) (rows_over N S 0 a.ops) p) (matrix_over N T (largest_over N a.entries) (entry_in N n a.entries) (rows_over N T 0 b.ops) q)) (many_same (Both (Tied N S T R)) a.ops b.ops (head h).ops)
            (matrix_same (largest_over N a.entries) (entry_over N S a) (rows_over N S 0 a.ops) (rows_over N T 0 b.ops) (rows_same 0 a.ops b.ops (head h).ops)))

    -- ---- the action
    pub action_same : (m : ModelOver N S) (k : ModelOver N T) → TiedModel N S T R m k → Same (action_over N S m p) (action_over N T k q)
    unfolding action_over rules_over
    action_same m k h =
        without_same _ _ (λ t u i. ap (λ (x : Cx N). N.is_zero x.re) i.num) _ _
        (puts_same _ _ [] []
        (both_append _ _ _ _ (terms_same m.terms k.terms h.terms)
        (both_append _ _ _ _ (jumps_same m.jumps k.jumps h.jumps) (matrices_same m.matrices k.matrices h.matrices)))
        none)
