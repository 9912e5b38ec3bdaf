-- SPDX-FileCopyrightText: 2026 The PPVM Authors
-- SPDX-License-Identifier: Apache-2.0

-- The laws of products that the layers above cite: words multiply commutatively and associate with their phases, a
-- word times itself is the identity, p q and q p differ by a sign, words that share no qubit commute. Assumes nothing.
use mathlib.Core.Path.{◌≡◌, refl, sym, ap, ◌∙◌}
use mathlib.Core.Bool.{Bool, true, false, not, ◌&&◌}
use Prim.Native.Nat.{ℕ, zero, suc, ◌+◌, ◌/◌, ◌%◌, ◌^◌, ◌<◌}
use native.Mathlib.Omega.{arith}
use borrow.Author.Tests.{eqb-true, eqb-false}
use lib.Dec.{T, eqb, eqb→eq}
use lib.ListN.{get_or, replicate, length-replicate}
use Rattle.word.specs.Count.{sum_to}
use Rattle.word.specs.Letter.{mul_letter, mul_phase}
use Rattle.word.specs.Word.{lane_count, max_qubits, letter_in, letter_at, identity, Sound}
use Rattle.word.specs.Product.{phase_sum, mul, phase, anti_commute}
use Rattle.word.specs.Register.{share}
use Rattle.word.specs.declared.word.Word.{Word}
use Rattle.word.proofs.Sums.{sum_cong, sum_add, sum_mod, sum_none, any_false, zeros_at}
use Rattle.word.proofs.Digits.{zero_bit}
use Rattle.word.proofs.Lanes.{letter_lt}
use Rattle.word.proofs.Words.{sound_word_of, letter_word_of, word_of_cong, word_is}

-- ---- facts about letters, each one test over the table
abbrev all : ℕ → (ℕ → Bool) → Bool
all zero f = true
all (suc n) f = f 0 && all n (λ k. f (suc k))

all_at : (n : ℕ) (f : ℕ → Bool) → T (all n f) → (l : ℕ) → l < n → T (f l)
all_at zero f t l h = absurd (omega arith)
all_at (suc n) f t zero h = and_l (f 0) (all n (λ k. f (suc k))) t
  where
    and_l : (a b : Bool) → T (a && b) → T a
    and_l true b t = tt
    and_l false b t = t
all_at (suc n) f t (suc l) h = all_at n (λ k. f (suc k)) (and_r (f 0) (all n (λ k. f (suc k))) t) l (omega arith)
  where
    and_r : (a b : Bool) → T (a && b) → T b
    and_r true b t = t
    and_r false b t = absurd t

abbrev all3 : (ℕ → ℕ → ℕ → Bool) → Bool
all3 f = all 4 (λ l. all 4 (λ m. all 4 (λ n. f l m n)))

at3 : (f : ℕ → ℕ → ℕ → Bool) → T (all3 f) → (l m n : ℕ) → l < 4 → m < 4 → n < 4 → T (f l m n)
at3 f t l m n hl hm hn =
    all_at 4 (f l m)
    (all_at 4 (λ m. all 4 (f l m)) (all_at 4 (λ l. all 4 (λ m. all 4 (f l m))) t l hl) m hm)
    n hn

module _ (l m n : ℕ) (hl : l < 4) (hm : m < 4) (hn : n < 4) where
  table : (f g : ℕ → ℕ → ℕ → ℕ) → T (all3 (λ l m n. eqb (f l m n) (g l m n))) → f l m n ≡ g l m n
  table f g t = eqb→eq _ _ (at3 (λ l m n. eqb (f l m n) (g l m n)) t l m n hl hm hn)

  letter_comm : mul_letter l m ≡ mul_letter m l
  unfolding mul_letter
  letter_comm = table (λ l m n. mul_letter l m) (λ l m n. mul_letter m l) tt

  letter_assoc : mul_letter (mul_letter l m) n ≡ mul_letter l (mul_letter m n)
  unfolding mul_letter
  letter_assoc = table (λ l m n. mul_letter (mul_letter l m) n) (λ l m n. mul_letter l (mul_letter m n)) tt

  letter_self : mul_letter l l ≡ 0
  unfolding mul_letter
  letter_self = table (λ l m n. mul_letter l l) (λ l m n. 0) tt

  letter_one : mul_letter 0 l ≡ l
  unfolding mul_letter
  letter_one = table (λ l m n. mul_letter 0 l) (λ l m n. l) tt

  letter_mul_lt : mul_letter l m < 4
  unfolding mul_letter
  letter_mul_lt = let e = table (λ l m n. mul_letter l m / 4) (λ l m n. 0) tt in omega arith

  phase_assoc : (mul_phase l m + mul_phase (mul_letter l m) n) % 4 ≡ (mul_phase m n + mul_phase l (mul_letter m n)) % 4
  unfolding mul_phase mul_letter
  phase_assoc = table (λ l m n. (mul_phase l m + mul_phase (mul_letter l m) n) % 4) (λ l m n. (mul_phase m n + mul_phase l (mul_letter m n)) % 4) tt

  phase_turn : (mul_phase l m + mul_phase m l) % 4 ≡ 0
  unfolding mul_phase
  phase_turn = table (λ l m n. (mul_phase l m + mul_phase m l) % 4) (λ l m n. 0) tt

  phase_undo : (mul_phase l m + mul_phase l (mul_letter l m)) % 4 ≡ 0
  unfolding mul_phase mul_letter
  phase_undo = table (λ l m n. (mul_phase l m + mul_phase l (mul_letter l m)) % 4) (λ l m n. 0) tt

  phase_self : mul_phase l l ≡ 0
  unfolding mul_phase
  phase_self = table (λ l m n. mul_phase l l) (λ l m n. 0) tt

  phase_none : mul_phase 0 l ≡ 0
  unfolding mul_phase
  phase_none = table (λ l m n. mul_phase 0 l) (λ l m n. 0) tt

  none_phase : mul_phase l 0 ≡ 0
  unfolding mul_phase
  none_phase = table (λ l m n. mul_phase l 0) (λ l m n. 0) tt

-- ---- words
pub word_letter_lt : (w : Word) (q : ℕ) → letter_at w q < 4
word_letter_lt w q = letter_lt w.x w.z q

module _ (a b : Word) where
  letters : ℕ → ℕ
  letters k = mul_letter (letter_at a k) (letter_at b k)

  letters_lt : (k : ℕ) → letters k < 4
  unfolding letters
  letters_lt k = letter_mul_lt (letter_at a k) (letter_at b k) 0 (word_letter_lt a k) (word_letter_lt b k) (omega arith)

  pub sound_mul : Sound (mul a b)
  unfolding mul
  sound_mul = sound_word_of _

  -- the table's letter at every qubit
  pub letter_mul : (q : ℕ) → q < max_qubits → letter_at (mul a b) q ≡ mul_letter (letter_at a q) (letter_at b q)
  unfolding mul letters
  letter_mul q h = letter_word_of letters q h (letters_lt q)

  pub mul_comm : mul a b ≡ mul b a
  unfolding mul
  mul_comm = word_of_cong _ _ (λ q h. letter_comm (letter_at a q) (letter_at b q) 0 (word_letter_lt a q) (word_letter_lt b q) (omega arith))

  pub phase_lt : phase a b < 4
  unfolding phase
  phase_lt = omega arith

pub mul_assoc : (a b c : Word) → mul (mul a b) c ≡ mul a (mul b c)
unfolding mul
mul_assoc a b c =
    word_of_cong _ _
    (λ q h. ap (λ (l : ℕ). mul_letter l (letter_at c q)) (letter_mul a b q h)
    ∙ letter_assoc (letter_at a q) (letter_at b q) (letter_at c q) (word_letter_lt a q) (word_letter_lt b q) (word_letter_lt c q)
    ∙ sym (ap (mul_letter (letter_at a q)) (letter_mul b c q h)))

-- ---- the identity, and a word times itself
pub letter_identity : (q : ℕ) → letter_at identity q ≡ 0
unfolding letter_in
letter_identity q = rw (zeros_at lane_count (q / 64)) (omega (arith, zero_bit (q % 64)))

pub sound_identity : Sound identity
sound_identity = record { x_lanes = length-replicate {A = ℕ} lane_count 0; z_lanes = length-replicate {A = ℕ} lane_count 0; x_fits = low; z_fits = low }
  where
    low : (i : ℕ) → get_or (replicate lane_count 0) i 0 < 2 ^ 64
    low i = omega (arith, zeros_at lane_count i)

pub mul_self : (a : Word) → mul a a ≡ identity
unfolding mul
mul_self a =
    sym (word_is identity _ sound_identity
    (λ q h. letter_identity q ∙ sym (letter_self (letter_at a q) 0 0 (word_letter_lt a q) (omega arith) (omega arith))))

pub mul_identity : (a : Word) → Sound a → mul identity a ≡ a
unfolding mul
mul_identity a s =
    sym (word_is a _ s
    (λ q h. sym (ap (λ (l : ℕ). mul_letter l (letter_at a q)) (letter_identity q)
    ∙ letter_one (letter_at a q) 0 0 (word_letter_lt a q) (omega arith) (omega arith))))

-- a (a p) is the word p
pub mul_back : (a p : Word) → Sound p → mul a (mul a p) ≡ p
mul_back a p s = sym (mul_assoc a a p) ∙ ap (λ (w : Word). mul w p) (mul_self a) ∙ mul_identity p s

-- ---- phases
-- the sum over the qubits, before the remainder by 4
abbrev raw : Word → Word → ℕ
raw a b = phase_sum max_qubits a.x a.z b.x b.z

raw_left : (a b c : Word) → raw (mul a b) c ≡ sum_to max_qubits (λ q. mul_phase (mul_letter (letter_at a q) (letter_at b q)) (letter_at c q))
unfolding phase_sum
raw_left a b c = sum_cong max_qubits _ _ (λ q h. ap (λ (l : ℕ). mul_phase l (letter_at c q)) (letter_mul a b q h))

raw_right : (a b c : Word) → raw a (mul b c) ≡ sum_to max_qubits (λ q. mul_phase (letter_at a q) (mul_letter (letter_at b q) (letter_at c q)))
unfolding phase_sum
raw_right a b c = sum_cong max_qubits _ _ (λ q h. ap (mul_phase (letter_at a q)) (letter_mul b c q h))

raw_assoc : (a b c : Word) → (raw a b + raw (mul a b) c) % 4 ≡ (raw b c + raw a (mul b c)) % 4
unfolding phase_sum
raw_assoc a b c =
    let e = sum_mod max_qubits
    (λ q. mul_phase (letter_at a q) (letter_at b q) + mul_phase (mul_letter (letter_at a q) (letter_at b q)) (letter_at c q))
    (λ q. mul_phase (letter_at b q) (letter_at c q) + mul_phase (letter_at a q) (mul_letter (letter_at b q) (letter_at c q)))
    (λ q. phase_assoc (letter_at a q) (letter_at b q) (letter_at c q) (word_letter_lt a q) (word_letter_lt b q) (word_letter_lt c q)) in
    let l = raw_left a b c in
    let r = raw_right a b c in
    let s = sum_add max_qubits (λ q. mul_phase (letter_at a q) (letter_at b q)) (λ q. mul_phase (mul_letter (letter_at a q) (letter_at b q)) (letter_at c q)) in
    let t = sum_add max_qubits (λ q. mul_phase (letter_at b q) (letter_at c q)) (λ q. mul_phase (letter_at a q) (mul_letter (letter_at b q) (letter_at c q))) in
    omega arith

mods : (a b : ℕ) → (a % 4 + b % 4) % 4 ≡ (a + b) % 4
mods a b = omega arith

-- (a b) c and a (b c)
pub phase_cocycle : (a b c : Word) → (phase a b + phase (mul a b) c) % 4 ≡ (phase b c + phase a (mul b c)) % 4
unfolding phase
phase_cocycle a b c = mods (raw a b) (raw (mul a b) c) ∙ raw_assoc a b c ∙ sym (mods (raw b c) (raw a (mul b c)))

sum_zero : (n : ℕ) (f : ℕ → ℕ) → ((k : ℕ) → f k % 4 ≡ 0) → sum_to n f % 4 ≡ 0
sum_zero n f h = let e = sum_mod n f (λ k. 0) h in let z = sum_none n (λ k. 0) (λ k l. refl) in omega arith

-- p q and q p are adjoint
pub phase_opposite : (a b : Word) → (phase a b + phase b a) % 4 ≡ 0
unfolding phase phase_sum
phase_opposite a b =
    let e = sum_zero max_qubits (λ q. mul_phase (letter_at a q) (letter_at b q) + mul_phase (letter_at b q) (letter_at a q))
    (λ q. phase_turn (letter_at a q) (letter_at b q) 0 (word_letter_lt a q) (word_letter_lt b q) (omega arith)) in
    let s = sum_add max_qubits (λ q. mul_phase (letter_at a q) (letter_at b q)) (λ q. mul_phase (letter_at b q) (letter_at a q)) in
    omega arith

-- a (a b) has no phase
pub phase_undone : (a b : Word) → (phase a b + phase a (mul a b)) % 4 ≡ 0
unfolding phase phase_sum
phase_undone a b =
    let e = sum_zero max_qubits (λ q. mul_phase (letter_at a q) (letter_at b q) + mul_phase (letter_at a q) (mul_letter (letter_at a q) (letter_at b q)))
    (λ q. phase_undo (letter_at a q) (letter_at b q) 0 (word_letter_lt a q) (word_letter_lt b q) (omega arith)) in
    let r = raw_right a a b in
    let s = sum_add max_qubits (λ q. mul_phase (letter_at a q) (letter_at b q)) (λ q. mul_phase (letter_at a q) (mul_letter (letter_at a q) (letter_at b q))) in
    omega arith

pub phase_itself : (a : Word) → phase a a ≡ 0
unfolding phase phase_sum
phase_itself a =
    let e = sum_none max_qubits (λ q. mul_phase (letter_at a q) (letter_at a q)) (λ q h. phase_self (letter_at a q) 0 0 (word_letter_lt a q) (omega arith) (omega arith)) in
    omega arith

-- ---- exactly if the phase is odd, p q = - q p; else p q = q p
pub anticommute_sign : (a b : Word) → anti_commute a b ≡ true → phase b a ≡ (phase a b + 2) % 4
unfolding anti_commute
anticommute_sign a b h =
    let o = eqb-true (phase a b % 2) 1 h in
    let e = phase_opposite a b in
    let l = phase_lt b a in
    omega arith

pub commute_sign : (a b : Word) → anti_commute a b ≡ false → phase b a ≡ phase a b
unfolding anti_commute
commute_sign a b h =
    let o = eqb-false (phase a b % 2) 1 h in
    let e = phase_opposite a b in
    let l = phase_lt b a in
    let m = phase_lt a b in
    let d : (phase a b % 2 ≡ 0) = omega arith in
    omega arith

-- ---- words that share no qubit commute with phase 0
apart_letters : (l m : ℕ) → l < 4 → m < 4 → (not (eqb l 0) && not (eqb m 0)) ≡ false → mul_phase l m ≡ 0
apart_letters l m hl hm h = go (eqb l 0) (eqb m 0) refl refl h
  where
    go : (b c : Bool) → eqb l 0 ≡ b → eqb m 0 ≡ c → (not b && not c) ≡ false → mul_phase l m ≡ 0
    go true c e f h = ap (λ (k : ℕ). mul_phase k m) (eqb-true l 0 e) ∙ phase_none m 0 0 hm (omega arith) (omega arith)
    go false true e f h = ap (mul_phase l) (eqb-true m 0 f) ∙ none_phase l 0 0 hl (omega arith) (omega arith)
    go false false e f h = cc

pub apart_phase : (a b : Word) → share a b ≡ false → phase a b ≡ 0
unfolding phase phase_sum share
apart_phase a b h =
    let e = sum_none max_qubits (λ q. mul_phase (letter_at a q) (letter_at b q))
    (λ q l. apart_letters (letter_at a q) (letter_at b q) (word_letter_lt a q) (word_letter_lt b q) (any_false max_qubits _ h q l)) in
    omega arith
