-- SPDX-FileCopyrightText: 2026 The PPVM Authors
-- SPDX-License-Identifier: Apache-2.0

-- Values laid into a table one by one are read back, and what stands at the other places stays. Assumes nothing.
use mathlib.Core.Path.{◌≡◌, refl, ap, ◌∙◌}
use mathlib.Core.List.{List, []}
use Prim.Native.Nat.{ℕ, ◌+◌, ◌*◌, ◌≤◌, ◌<◌}
use native.Mathlib.Omega.{arith}
use lib.Ieee.{Float, nan}
use lib.ListN.{length, get_or, set, length-set}
use lib.Seq.{get_or-set_same, get_or-set_other}
use Rattle.word.specs.Word.{identity, Sound}
use Rattle.word.specs.Flat.{words, lay_word, word_lanes}
use Rattle.word.specs.declared.word.Word.{Word}
use Rattle.word.proofs.FlatLaws.{words_high, words_set, lay_length}
use Rattle.number.specs.Numbers.{Cx}
use Rattle.number.specs.Floats.{floats}
use Rattle.sums.specs.Numbers.{lay_number}
use Rattle.model.specs.Stored.{jump_at, by_kind, range, lay_entry}
use Rattle.model.specs.declared.stored.Jump.TheVariants.{Pauli, General, Pair}
use Rattle.lent.specs.Laid.{laid}
use Rattle.model.specs.Stands.{number_at}
use Rattle.lent.specs.Every.{Every}
use Rattle.lent.proofs.Lists.{every_all}
use Rattle.lent.proofs.LaidLaws.{laid_length, laid_other, laid_here, set_other, set_here}

-- ---- words
pub word_length : (l : List ℕ) (k : ℕ) (w : Word) → length (lay_word l k w) ≡ length l
word_length l k w = lay_length l k w

module _ (k : ℕ) (ws : List Word) (l : List ℕ) (sound : Every Sound ws) (room : word_lanes * (k + length ws) ≤ length l) where
  abbrev word_in : List ℕ → ℕ → Word
  word_in l j = get_or (words l) j identity

  word_keeps : (l : List ℕ) (k : ℕ) (w : Word) (j : ℕ) → word_lanes * j + word_lanes ≤ length l → word_lanes * j + word_lanes ≤ length (lay_word l k w)
  word_keeps l k w j h = omega (arith, h, word_length l k w)

  word_same : (l : List ℕ) (k : ℕ) (w : Word) → Sound w → word_lanes * k + word_lanes ≤ length l → word_in (lay_word l k w) k ≡ w
  word_same l k w s h = ap (λ (ws : List Word). get_or ws k identity) (words_set l k w s h) ∙ get_or-set_same (words l) k w identity (omega (arith, h, words_high l))

  word_apart : (l : List ℕ) (k : ℕ) (w : Word) (j : ℕ) → Sound w → word_lanes * k + word_lanes ≤ length l → (j ≡ k → ⊥) → word_in (lay_word l k w) j ≡ word_in l j
  word_apart l k w j s h e = ap (λ (ws : List Word). get_or ws j identity) (words_set l k w s h) ∙ get_or-set_other (words l) k j w identity e

  pub words_other : (j : ℕ) → (k ≤ j → j < k + length ws → ⊥) → word_in (laid lay_word k ws l) j ≡ word_in l j
  words_other j n = laid_other lay_word word_in (λ (w : Word). w) Sound (λ (l : List ℕ) (j : ℕ). word_lanes * j + word_lanes ≤ length l) word_keeps word_same word_apart k ws l j sound (λ i p q. omega arith) n

  pub words_here : (j i : ℕ) → j ≡ k + i → i < length ws → word_in (laid lay_word k ws l) j ≡ get_or ws i identity
  words_here j i e h = laid_here lay_word word_in (λ (w : Word). w) Sound (λ (l : List ℕ) (j : ℕ). word_lanes * j + word_lanes ≤ length l) word_keeps word_same word_apart k ws l j i identity sound (λ i p q. omega arith) e h

-- ---- numbers
pub number_length : (l : List Float) (k : ℕ) (z : Cx floats) → length (lay_number l k z) ≡ length l
number_length l k z = simp length-set

number_eq : {a a' b b' : Float} → a ≡ a' → b ≡ b' → ◌≡◌ {A = Cx floats} (record { re = a; im = b }) (record { re = a'; im = b' })
number_eq p q = λ i. record { re = p i; im = q i }

module _ (k : ℕ) (zs : List (Cx floats)) (l : List Float) (room : 2 * (k + length zs) ≤ length l) where
  number_keeps : (l : List Float) (k : ℕ) (z : Cx floats) (j : ℕ) → 2 * j + 2 ≤ length l → 2 * j + 2 ≤ length (lay_number l k z)
  number_keeps l k z j h = omega (arith, h, number_length l k z)

  number_same : (l : List Float) (k : ℕ) (z : Cx floats) → Unit {0} → 2 * k + 2 ≤ length l → number_at (lay_number l k z) k ≡ z
  number_same l k z _ h =
      number_eq
      (get_or-set_other (set l (k * 2) z.re) (k * 2 + 1) (k * 2) z.im nan (λ e. omega arith) ∙ get_or-set_same l (k * 2) z.re nan (omega arith))
      (get_or-set_same (set l (k * 2) z.re) (k * 2 + 1) z.im nan (omega (arith, h, length-set l (k * 2) z.re)))

  number_apart : (l : List Float) (k : ℕ) (z : Cx floats) (j : ℕ) → Unit {0} → 2 * k + 2 ≤ length l → (j ≡ k → ⊥) → number_at (lay_number l k z) j ≡ number_at l j
  number_apart l k z j _ h n = number_eq (one (j * 2) (λ e. n (omega arith)) (λ e. omega arith)) (one (j * 2 + 1) (λ e. omega arith) (λ e. n (omega arith)))
    where
      one : (p : ℕ) → (p ≡ k * 2 → ⊥) → (p ≡ k * 2 + 1 → ⊥) → get_or (lay_number l k z) p nan ≡ get_or l p nan
      one p a b = get_or-set_other (set l (k * 2) z.re) (k * 2 + 1) p z.im nan b ∙ get_or-set_other l (k * 2) p z.re nan a

  abbrev Any : Cx floats → Type 0
  Any z = Unit {0}

  pub numbers_other : (j : ℕ) → (k ≤ j → j < k + length zs → ⊥) → number_at (laid lay_number k zs l) j ≡ number_at l j
  numbers_other j n = laid_other lay_number number_at (λ (z : Cx floats). z) Any (λ (l : List Float) (j : ℕ). 2 * j + 2 ≤ length l) number_keeps number_same number_apart k zs l j (every_all Any (λ _. tt) zs) (λ i p q. omega arith) n

  pub numbers_here : (j i : ℕ) (d : Cx floats) → j ≡ k + i → i < length zs → number_at (laid lay_number k zs l) j ≡ get_or zs i d
  numbers_here j i d e h = laid_here lay_number number_at (λ (z : Cx floats). z) Any (λ (l : List Float) (j : ℕ). 2 * j + 2 ≤ length l) number_keeps number_same number_apart k zs l j i d (every_all Any (λ _. tt) zs) (λ i p q. omega arith) e h

-- ---- entries, by their numbers
pub entry_length : (l : List ℕ) (k : ℕ) (e : List ℕ) → length (lay_entry l k e) ≡ length l
entry_length l k e = laid_length set length-set (k * 8) e l

module _ (k : ℕ) (es : List (List ℕ)) (l : List ℕ) (eight : Every (λ e. length e ≡ 8) es) (room : 8 * (k + length es) ≤ length l) (c : ℕ) (few : c < 8) where
  abbrev number_in : List ℕ → ℕ → ℕ
  number_in l j = get_or l (j * 8 + c) 0

  entry_keeps : (l : List ℕ) (k : ℕ) (e : List ℕ) (j : ℕ) → 8 * j + 8 ≤ length l → 8 * j + 8 ≤ length (lay_entry l k e)
  entry_keeps l k e j h = omega (arith, h, entry_length l k e)

  entry_same : (l : List ℕ) (k : ℕ) (e : List ℕ) → length e ≡ 8 → 8 * k + 8 ≤ length l → number_in (lay_entry l k e) k ≡ get_or e c 0
  entry_same l k e n h = set_here 0 (k * 8) e l (omega arith) (k * 8 + c) c refl (omega arith)

  entry_apart : (l : List ℕ) (k : ℕ) (e : List ℕ) (j : ℕ) → length e ≡ 8 → 8 * k + 8 ≤ length l → (j ≡ k → ⊥) → number_in (lay_entry l k e) j ≡ number_in l j
  entry_apart l k e j n h d = set_other 0 (k * 8) e l (omega arith) (j * 8 + c) (λ p q. d (omega arith))

  pub entries_other : (j : ℕ) → (k ≤ j → j < k + length es → ⊥) → number_in (laid lay_entry k es l) j ≡ number_in l j
  entries_other j n = laid_other lay_entry number_in (λ (e : List ℕ). get_or e c 0) (λ (e : List ℕ). length e ≡ 8) (λ (l : List ℕ) (j : ℕ). 8 * j + 8 ≤ length l) entry_keeps entry_same entry_apart k es l j eight (λ i p q. omega arith) n

  pub entries_here : (j i : ℕ) → j ≡ k + i → i < length es → number_in (laid lay_entry k es l) j ≡ get_or (get_or es i []) c 0
  entries_here j i e h = laid_here lay_entry number_in (λ (e : List ℕ). get_or e c 0) (λ (e : List ℕ). length e ≡ 8) (λ (l : List ℕ) (j : ℕ). 8 * j + 8 ≤ length l) entry_keeps entry_same entry_apart k es l j i [] eight (λ i p q. omega arith) e h

-- an entry is known by its eight numbers and its rate
module _ (l l' : List ℕ) (r r' : List Float) (j j' : ℕ) (same : (c : ℕ) → c < 8 → get_or l (j * 8 + c) 0 ≡ get_or l' (j' * 8 + c) 0) where
  pub kind_same : get_or l (j * 8) 0 ≡ get_or l' (j' * 8) 0
  kind_same =
      let e : j * 8 ≡ j * 8 + 0 = omega arith in
      let f : j' * 8 + 0 ≡ j' * 8 = omega arith in
      ap (λ (p : ℕ). get_or l p 0) e ∙ same 0 (omega arith) ∙ ap (λ (p : ℕ). get_or l' p 0) f

  pub jump_same : get_or r j nan ≡ get_or r' j' nan → jump_at l r j ≡ jump_at l' r' j'
  unfolding jump_at
  jump_same rate =
      let at : (c : ℕ) → c < 8 → get_or l (j * 8 + c) 0 ≡ get_or l' (j' * 8 + c) 0 = same in
      λ i. by_kind (kind_same i)
      (Pauli (rate i) (at 1 (omega arith) i))
      (General (rate i) (range (at 1 (omega arith) i) (at 2 (omega arith) i)) (range (at 6 (omega arith) i) (at 7 (omega arith) i)))
      (Pair (range (at 1 (omega arith) i) (at 2 (omega arith) i)) (range (at 3 (omega arith) i) (at 4 (omega arith) i)) (at 5 (omega arith) i) (range (at 6 (omega arith) i) (at 7 (omega arith) i)))
