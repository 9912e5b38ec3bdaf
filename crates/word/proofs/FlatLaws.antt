-- SPDX-FileCopyrightText: 2026 The PPVM Authors
-- SPDX-License-Identifier: Apache-2.0

-- Words in flat lanes, whatever their number: how many there are, those at the front and those after, reading one, writing one,
-- and the lanes of words in turn. Assumes nothing.
use mathlib.Core.Path.{◌≡◌, refl, sym, ap, ap₂, ◌∙◌, subst⁻¹}
use mathlib.Core.List.{List, [], ◌∷◌, ◌++◌, append_assoc}
use Prim.Native.Nat.{ℕ, zero, suc, ◌+◌, ◌-◌, ◌*◌, ◌/◌, ◌^◌, ◌≤◌, ◌<◌}
use native.Mathlib.Nat.{add-zero, add-suc}
use native.Mathlib.Omega.{arith}
use native.Mathlib.Decide.{ℕ_discrete, dec_lt}
use lib.ListN.{length, get_or, set, take, drop, replicate, length-set, length-take, length-drop, length-append, length-replicate, get_or-replicate, get_or-append, get_or-eq_default}
use lib.Seq.{ext_get_or, length-take-le, get_or-take, get_or-drop, get_or-set_same, get_or-set_other, get_or-append-add, drop-cons, drop_at, drop-set-lt, take-add}
use Rattle.word.specs.Count.{tabulate}
use Rattle.word.specs.Word.{lane_count, identity, Sound}
use Rattle.word.specs.Flat.{word_lanes, word_at, words, flat_lanes, lay, lay_word}
use Rattle.word.specs.declared.word.Word.{Word}
use Rattle.word.proofs.Sums.{length_tabulate, get_d_tabulate, tabulate_cong, tabulate_is, tabulate_lt, zeros_at}
use Rattle.word.proofs.Words.{word_eq, one_by_one}
use Rattle.word.proofs.WordLaws.{sound_identity}
use Rattle.word.specs.Between.{LaysWord}

-- ---- so many whole words, and less than a word over
pub words_count : (lanes : List ℕ) → length (words lanes) ≡ length lanes / word_lanes
unfolding words
words_count lanes = length_tabulate (length lanes / word_lanes) (word_at lanes)

pub words_low : (l : List ℕ) → word_lanes * length (words l) ≤ length l
words_low l = omega (arith, words_count l)

pub words_high : (l : List ℕ) → length l < word_lanes * length (words l) + word_lanes
words_high l = omega (arith, words_count l)

-- ---- the word at a place
pub words_at : (l : List ℕ) (i : ℕ) → word_lanes * i + word_lanes ≤ length l → get_or (words l) i identity ≡ word_at l i
unfolding words
words_at l i h = get_d_tabulate identity (length l / word_lanes) (word_at l) i (omega arith)

-- as the code reads it
pub word_read : (l : List ℕ) (i : ℕ) → word_lanes * i + word_lanes ≤ length l
    → record { x = get_or l (i * word_lanes) 0 ∷ tabulate (lane_count - 1) (λ k. get_or l (i * word_lanes + suc k) 0); z = tabulate lane_count (λ k. get_or l (i * word_lanes + (lane_count + k)) 0) } ≡ get_or (words l) i identity
unfolding word_at tabulate
word_read l i h = sym (words_at l i h ∙ rw (add-zero (i * word_lanes)))

-- it depends on its lanes alone
at_cong : (l m : List ℕ) (i j : ℕ) → ((k : ℕ) → k < word_lanes → get_or l (i * word_lanes + k) 0 ≡ get_or m (j * word_lanes + k) 0) → word_at l i ≡ word_at m j
unfolding word_at
at_cong l m i j h = word_eq (tabulate_cong lane_count _ _ (λ k n. h k (omega arith))) (tabulate_cong lane_count _ _ (λ k n. h (lane_count + k) (omega arith)))

-- as many words, and the same at each place
words_eq : (l : List ℕ) (ws : List Word) → length ws ≡ length l / word_lanes
    → ((i : ℕ) → word_lanes * i + word_lanes ≤ length l → word_at l i ≡ get_or ws i identity) → words l ≡ ws
words_eq l ws n h = ext_get_or identity (words l) ws (words_count l ∙ sym n) at
  where
    at : (i : ℕ) → i < length (words l) → get_or (words l) i identity ≡ get_or ws i identity
    at i k = let r : word_lanes * i + word_lanes ≤ length l = omega (arith, words_count l) in words_at l i r ∙ h i r

-- ---- the first k words, and those after
pub words_take : (k : ℕ) (l : List ℕ) → words (take (word_lanes * k) l) ≡ take k (words l)
words_take k l = words_eq (take (word_lanes * k) l) (take k (words l)) many at
  where
    many : length (take k (words l)) ≡ length (take (word_lanes * k) l) / word_lanes
    many = omega (arith, length-take k (words l), words_count l, length-take (word_lanes * k) l)

    at : (i : ℕ) → word_lanes * i + word_lanes ≤ length (take (word_lanes * k) l) → word_at (take (word_lanes * k) l) i ≡ get_or (take k (words l)) i identity
    at i h =
        let n = length-take (word_lanes * k) l in
        at_cong (take (word_lanes * k) l) l i i (λ j m. get_or-take (word_lanes * k) l (i * word_lanes + j) 0 (omega arith))
        ∙ sym (words_at l i (omega arith)) ∙ sym (get_or-take k (words l) i identity (omega arith))

pub words_drop : (k : ℕ) (l : List ℕ) → words (drop (word_lanes * k) l) ≡ drop k (words l)
words_drop k l = words_eq (drop (word_lanes * k) l) (drop k (words l)) many at
  where
    many : length (drop k (words l)) ≡ length (drop (word_lanes * k) l) / word_lanes
    many = omega (arith, length-drop k (words l), words_count l, length-drop (word_lanes * k) l)

    at : (i : ℕ) → word_lanes * i + word_lanes ≤ length (drop (word_lanes * k) l) → word_at (drop (word_lanes * k) l) i ≡ get_or (drop k (words l)) i identity
    at i h = at_cong (drop (word_lanes * k) l) l i (k + i) lane ∙ sym (words_at l (k + i) (omega (arith, length-drop (word_lanes * k) l))) ∙ sym (get_or-drop k (words l) i identity)
      where
        lane : (j : ℕ) → j < word_lanes → get_or (drop (word_lanes * k) l) (i * word_lanes + j) 0 ≡ get_or l ((k + i) * word_lanes + j) 0
        lane j m =
            let e : word_lanes * k + (i * word_lanes + j) ≡ (k + i) * word_lanes + j = omega arith in
            get_or-drop (word_lanes * k) l (i * word_lanes + j) 0 ∙ ap (λ (p : ℕ). get_or l p 0) e

-- the first word, and those after it
words_first : (l : List ℕ) → word_lanes ≤ length l → words l ≡ word_at l 0 ∷ words (drop word_lanes l)
words_first l h = drop-cons (words l) 0 identity (omega (arith, words_count l)) ∙ ap₂ ◌∷◌ (words_at l 0 (omega arith)) (sym (words_drop 1 l))

-- ---- lanes of 0 are words of I
zero_at : (n i : ℕ) → word_at (replicate n 0) i ≡ identity
unfolding word_at
zero_at n i = word_eq (zeros _ (λ k. zeros_at n (i * word_lanes + k))) (zeros _ (λ k. zeros_at n (i * word_lanes + (lane_count + k))))
  where
    zeros : (f : ℕ → ℕ) → ((k : ℕ) → f k ≡ 0) → tabulate lane_count f ≡ replicate lane_count 0
    zeros f h = tabulate_is 0 lane_count f (replicate lane_count 0) (length-replicate {A = ℕ} lane_count 0) (λ k m. h k ∙ sym (zeros_at lane_count k))

pub words_zero : (n : ℕ) → words (replicate n 0) ≡ replicate (n / word_lanes) identity
words_zero n =
    words_eq (replicate n 0) (replicate (n / word_lanes) identity)
    (length-replicate (n / word_lanes) identity ∙ ap (λ (m : ℕ). m / word_lanes) (sym (length-replicate {A = ℕ} n 0)))
    (λ i h. zero_at n i ∙ sym (get_or-replicate (n / word_lanes) i identity identity (omega (arith, length-replicate {A = ℕ} n 0))))

-- ---- words of lanes of 64 bits are sound
at_sound : (l : List ℕ) → ((i : ℕ) → get_or l i 0 < 2 ^ 64) → (i : ℕ) → Sound (word_at l i)
unfolding word_at
at_sound l h i = record {
  x_lanes = length_tabulate lane_count _;
  z_lanes = length_tabulate lane_count _;
  x_fits = tabulate_lt (2 ^ 64) lane_count _ (omega arith) (λ k. h (i * word_lanes + k));
  z_fits = tabulate_lt (2 ^ 64) lane_count _ (omega arith) (λ k. h (i * word_lanes + (lane_count + k)));
}

pub words_sound : (l : List ℕ) → ((i : ℕ) → get_or l i 0 < 2 ^ 64) → (i : ℕ) → Sound (get_or (words l) i identity)
words_sound l h i = go (dec_lt i (length (words l)))
  where
    go : Dec (i < length (words l)) → Sound (get_or (words l) i identity)
    go (yes k) = subst⁻¹ Sound (words_at l i (omega (arith, words_low l))) (at_sound l h i)
    go (no k) = subst⁻¹ Sound (get_or-eq_default (words l) identity (omega arith)) sound_identity

-- ---- lanes laid from a place on
lay_long : (l : List ℕ) (p : ℕ) (a : List ℕ) → length (lay l p a) ≡ length l
unfolding lay
lay_long l p [] = refl
lay_long l p (x ∷ a) = lay_long (set l p x) (suc p) a ∙ length-set l p x

lay_other : (l : List ℕ) (p : ℕ) (a : List ℕ) (j : ℕ) → (p ≤ j → j < p + length a → ⊥) → get_or (lay l p a) j 0 ≡ get_or l j 0
unfolding lay
lay_other l p [] j h = refl
lay_other l p (x ∷ a) j h = lay_other (set l p x) (suc p) a j (λ b c. h (omega arith) (omega arith)) ∙ get_or-set_other l p j x 0 (λ e. h (omega arith) (omega arith))

lay_there : (l : List ℕ) (p : ℕ) (a : List ℕ) (k : ℕ) → k < length a → p + length a ≤ length l → get_or (lay l p a) (p + k) 0 ≡ get_or a k 0
unfolding lay
lay_there l p [] k h r = absurd (omega arith)
lay_there l p (x ∷ a) zero h r =
    rw (add-zero p) (lay_other (set l p x) (suc p) a p (λ b c. omega arith) ∙ get_or-set_same l p x 0 (omega arith))
lay_there l p (x ∷ a) (suc k) h r =
    let e : p + suc k ≡ suc p + k = omega arith in
    rw e (lay_there (set l p x) (suc p) a k (omega arith) (omega (arith, length-set l p x)))

-- from p + k on
unfoldable pub lay_from : List ℕ → ℕ → ℕ → List ℕ → List ℕ
lay_from l p k [] = l
lay_from l p k (a ∷ rest) = lay_from (set l (p + k) a) p (suc k) rest

lay_from_lem : (l : List ℕ) (p k : ℕ) (a : List ℕ) → lay_from l p k a ≡ lay l (p + k) a
unfolding lay_from lay
lay_from_lem l p k [] = refl
lay_from_lem l p k (x ∷ a) = lay_from_lem (set l (p + k) x) p (suc k) a ∙ ap (λ (j : ℕ). lay (set l (p + k) x) j a) (add-suc p k)

-- ---- a word laid
pub lay_length : (l : List ℕ) (i : ℕ) (w : Word) → length (lay_word l i w) ≡ length l
lay_length l i w = lay_long l (i * word_lanes) (w.x ++ w.z)

module _ (w : Word) (s : Sound w) where
  its_lanes : length (w.x ++ w.z) ≡ word_lanes
  its_lanes = omega (arith, length-append w.x w.z, s.x_lanes, s.z_lanes)

  module _ (l : List ℕ) (i : ℕ) (h : word_lanes * i + word_lanes ≤ length l) where
    laid_lane : (k : ℕ) → k < word_lanes → get_or (lay_word l i w) (i * word_lanes + k) 0 ≡ get_or (w.x ++ w.z) k 0
    laid_lane k m = lay_there l (i * word_lanes) (w.x ++ w.z) k (omega (arith, its_lanes)) (omega (arith, its_lanes))

    z_lane : (k : ℕ) → get_or (w.x ++ w.z) (lane_count + k) 0 ≡ get_or w.z k 0
    z_lane k = ap (λ (n : ℕ). get_or (w.x ++ w.z) (n + k) 0) (sym s.x_lanes) ∙ get_or-append-add w.x w.z k 0

    laid_here : word_at (lay_word l i w) i ≡ w
    unfolding word_at
    laid_here =
        word_eq
        (tabulate_is 0 lane_count _ w.x s.x_lanes (λ k m. laid_lane k (omega arith) ∙ get_or-append w.x w.z 0 k (omega (arith, s.x_lanes))))
        (tabulate_is 0 lane_count _ w.z s.z_lanes (λ k m. laid_lane (lane_count + k) (omega arith) ∙ z_lane k))

    laid_other : (j : ℕ) → (j ≡ i → ⊥) → word_at (lay_word l i w) j ≡ word_at l j
    laid_other j n = at_cong (lay_word l i w) l j j (λ k m. lay_other l (i * word_lanes) (w.x ++ w.z) (j * word_lanes + k) (λ b c. n (omega (arith, its_lanes))))

pub words_set : (l : List ℕ) (i : ℕ) (w : Word) → Sound w → word_lanes * i + word_lanes ≤ length l
    → words (lay_word l i w) ≡ set (words l) i w
words_set l i w s h =
    words_eq (lay_word l i w) (set (words l) i w)
    (length-set (words l) i w ∙ words_count l ∙ ap (λ (n : ℕ). n / word_lanes) (sym (lay_length l i w)))
    (λ j r. go j (ℕ_discrete j i) (omega (arith, lay_length l i w)))
  where
    go : (j : ℕ) → Dec (j ≡ i) → word_lanes * j + word_lanes ≤ length l → word_at (lay_word l i w) j ≡ get_or (set (words l) i w) j identity
    go j (yes e) r = rw e (laid_here w s l i h ∙ sym (get_or-set_same (words l) i w identity (omega (arith, words_count l))))
    go j (no n) r = laid_other w s l i h j n ∙ sym (words_at l j r) ∙ sym (get_or-set_other (words l) i j w identity n)

-- as the code lays it
pub word_laid : (l : List ℕ) (i : ℕ) (w : Word) → Sound w → word_lanes * i + word_lanes ≤ length l
    → LaysWord l i w (lay_from (set l (i * word_lanes) (get_or w.x 0 0)) (i * word_lanes) 1 (tabulate (lane_count - 1) (λ k. get_or w.x (suc k) 0) ++ tabulate lane_count (λ k. get_or w.z k 0)))
unfolding lay_from tabulate
word_laid l i w s h = record { lanes = e; list = ap words e ∙ words_set l i w s h }
  where
    e : lay_from (set l (i * word_lanes) (get_or w.x 0 0)) (i * word_lanes) 1 (tabulate (lane_count - 1) (λ k. get_or w.x (suc k) 0) ++ tabulate lane_count (λ k. get_or w.z k 0)) ≡ lay_word l i w
    e =
        ap (λ (j : ℕ). lay_from (set l j (get_or w.x 0 0)) (i * word_lanes) 1 (tabulate (lane_count - 1) (λ k. get_or w.x (suc k) 0) ++ tabulate lane_count (λ k. get_or w.z k 0))) (sym (add-zero (i * word_lanes)))
        ∙ lay_from_lem l (i * word_lanes) 0 (tabulate lane_count (λ k. get_or w.x k 0) ++ tabulate lane_count (λ k. get_or w.z k 0))
        ∙ ap₂ (λ (j : ℕ) (a : List ℕ). lay l j a) (add-zero (i * word_lanes)) (ap₂ ◌++◌ (one_by_one w.x s.x_lanes) (one_by_one w.z s.z_lanes))

-- ---- whole words: as many x lanes and z lanes as a word has
unfoldable pub Whole : List Word → Type 0
Whole [] = Unit {0}
Whole (w ∷ ws) = ((length w.x ≡ lane_count) × (length w.z ≡ lane_count)) × Whole ws

pub whole_words : (l : List ℕ) → Whole (words l)
unfolding words word_at Whole tabulate
whole_words l = go (length l / word_lanes) (word_at l) (λ i. (length_tabulate {A = ℕ} lane_count (λ k. get_or l (i * word_lanes + k) 0), length_tabulate {A = ℕ} lane_count (λ k. get_or l (i * word_lanes + (lane_count + k)) 0)))
  where
    go : (n : ℕ) (f : ℕ → Word) → ((i : ℕ) → (length (f i).x ≡ lane_count) × (length (f i).z ≡ lane_count)) → Whole (tabulate n f)
    go zero f h = tt
    go (suc n) f h = (h 0, go n (λ k. f (suc k)) (λ k. h (suc k)))

pub whole_take : (n : ℕ) (ws : List Word) → Whole ws → Whole (take n ws)
unfolding Whole
whole_take zero ws h = tt
whole_take (suc n) [] h = tt
whole_take (suc n) (w ∷ ws) h = (h.0, whole_take n ws h.1)

pub whole_at : (i : ℕ) (ws : List Word) → Whole ws → Whole (get_or ws i identity ∷ [])
unfolding Whole
whole_at i [] h = ((refl, refl), tt)
whole_at zero (w ∷ ws) h = (h.0, tt)
whole_at (suc i) (w ∷ ws) h = whole_at i ws h.1

-- past a word that is laid nothing has changed
pub lay_drop : (l : List ℕ) (k : ℕ) (w : Word) (n : ℕ) → Whole (w ∷ []) → k * word_lanes + word_lanes ≤ n → drop n (lay_word l k w) ≡ drop n l
unfolding Whole lay
lay_drop l k w n h r = go l (k * word_lanes) (w.x ++ w.z) (omega (arith, length-append w.x w.z, h.0.0, h.0.1))
  where
    go : (l : List ℕ) (p : ℕ) (a : List ℕ) → p + length a ≤ n → drop n (lay l p a) ≡ drop n l
    go l p [] m = refl
    go l p (x ∷ a) m = go (set l p x) (suc p) a (omega arith) ∙ drop-set-lt n l p x (omega arith)

-- ---- the lanes of words in turn
lanes_first : (l : List ℕ) → word_lanes ≤ length l → take word_lanes l ≡ (word_at l 0).x ++ (word_at l 0).z
unfolding word_at
lanes_first l h =
    take-add lane_count lane_count l
    ∙ ap₂ ◌++◌
    (sym (tabulate_is 0 lane_count (λ k. get_or l (0 * word_lanes + k) 0) (take lane_count l) (length-take-le lane_count l (omega arith)) x_at))
    (sym (tabulate_is 0 lane_count (λ k. get_or l (0 * word_lanes + (lane_count + k)) 0) (take lane_count (drop lane_count l)) (length-take-le lane_count (drop lane_count l) (omega (arith, length-drop lane_count l))) z_at))
  where
    x_at : (k : ℕ) → k < lane_count → get_or l (0 * word_lanes + k) 0 ≡ get_or (take lane_count l) k 0
    x_at k m = let z : 0 * word_lanes + k ≡ k = omega arith in ap (λ (p : ℕ). get_or l p 0) z ∙ sym (get_or-take lane_count l k 0 m)

    z_at : (k : ℕ) → k < lane_count → get_or l (0 * word_lanes + (lane_count + k)) 0 ≡ get_or (take lane_count (drop lane_count l)) k 0
    z_at k m =
        let z : 0 * word_lanes + (lane_count + k) ≡ lane_count + k = omega arith in
        ap (λ (p : ℕ). get_or l p 0) z ∙ sym (get_or-take lane_count (drop lane_count l) k 0 m ∙ get_or-drop lane_count l k 0)

-- the first lanes of a table are those of its first words
pub lanes_front : (l : List ℕ) (n p : ℕ) → p ≡ n * word_lanes → p ≤ length l → take p l ≡ flat_lanes (take n (words l))
unfolding flat_lanes
lanes_front l zero p e h = let z : p ≡ 0 = omega arith in rw z
lanes_front l (suc n) p e h =
    let z : p ≡ word_lanes + n * word_lanes = omega arith in
    let first = words_first l (omega arith) in
    ap (λ (m : ℕ). take m l) z
    ∙ take-add word_lanes (n * word_lanes) l
    ∙ ap₂ ◌++◌ (lanes_first l (omega arith)) (lanes_front (drop word_lanes l) n (n * word_lanes) refl (omega (arith, length-drop word_lanes l)))
    ∙ ap (λ (ws : List Word). flat_lanes (take (suc n) ws)) (sym first)

pub lanes_append : (v w : List Word) → flat_lanes (v ++ w) ≡ flat_lanes v ++ flat_lanes w
unfolding flat_lanes
lanes_append [] w = refl
lanes_append (u ∷ v) w = ap (λ (t : List ℕ). (u.x ++ u.z) ++ t) (lanes_append v w) ∙ sym (append_assoc (u.x ++ u.z) (flat_lanes v) (flat_lanes w))

-- words laid in turn are read back
pub words_lanes : (ws : List Word) (r : List ℕ) → Whole ws → words (flat_lanes ws ++ r) ≡ ws ++ words r
unfolding Whole flat_lanes word_at
words_lanes [] r h = refl
words_lanes (w ∷ ws) r h =
    let l : List ℕ = (w.x ++ w.z) ++ (flat_lanes ws ++ r) in
    let n : length (w.x ++ w.z) ≡ word_lanes = omega (arith, length-append w.x w.z, h.0.0, h.0.1) in
    ap words (append_assoc (w.x ++ w.z) (flat_lanes ws) r)
    ∙ words_first l (omega (arith, n, length-append (w.x ++ w.z) (flat_lanes ws ++ r)))
    ∙ ap₂ ◌∷◌ (front w (flat_lanes ws ++ r) h.0) (ap words (drop_at (w.x ++ w.z) (flat_lanes ws ++ r) word_lanes n) ∙ words_lanes ws r h.1)
  where
    front : (w : Word) (t : List ℕ) → (length w.x ≡ lane_count) × (length w.z ≡ lane_count) → word_at ((w.x ++ w.z) ++ t) 0 ≡ w
    front w t e = word_eq (tabulate_is 0 lane_count _ w.x e.0 x_at) (tabulate_is 0 lane_count _ w.z e.1 z_at)
      where
        both : length (w.x ++ w.z) ≡ word_lanes
        both = omega (arith, length-append w.x w.z, e.0, e.1)

        x_at : (k : ℕ) → k < lane_count → get_or ((w.x ++ w.z) ++ t) (0 * word_lanes + k) 0 ≡ get_or w.x k 0
        x_at k m =
            let z : 0 * word_lanes + k ≡ k = omega arith in
            rw z (get_or-append (w.x ++ w.z) t 0 k (omega (arith, both)) ∙ get_or-append w.x w.z 0 k (omega (arith, e.0)))

        z_at : (k : ℕ) → k < lane_count → get_or ((w.x ++ w.z) ++ t) (0 * word_lanes + (lane_count + k)) 0 ≡ get_or w.z k 0
        z_at k m =
            let z : 0 * word_lanes + (lane_count + k) ≡ length w.x + k = omega (arith, e.0) in
            rw z (get_or-append (w.x ++ w.z) t 0 (length w.x + k) (omega (arith, both, e.0)) ∙ get_or-append-add w.x w.z k 0)
