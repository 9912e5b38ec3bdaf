-- SPDX-FileCopyrightText: 2026 The PPVM Authors
-- SPDX-License-Identifier: Apache-2.0

-- Terms laid into the terms table are read back as they were, and the terms before them stay. Assumes nothing.
use mathlib.Core.Path.{◌≡◌, refl, sym, ap, ap₂, ◌∙◌}
use mathlib.Core.List.{List, [], ◌∷◌, ◌++◌, map}
use Prim.Native.Nat.{ℕ, zero, suc, ◌+◌, ◌-◌, ◌*◌, ◌≤◌, ◌<◌}
use native.Mathlib.Omega.{arith}
use lib.Ieee.{Float}
use lib.ListN.{length, get_or, take, drop, set, length-append, length-map}
use lib.Seq.{take-append_seam, drop-append_seam, take-set-le, take-take, take-add, drop-drop}
use Rattle.word.specs.Word.{identity, Sound}
use Rattle.word.specs.Flat.{words, lay_word, word_lanes}
use Rattle.word.specs.declared.word.Word.{Word}
use Rattle.word.proofs.FlatLaws.{words_high, words_set}
use Rattle.number.specs.Numbers.{Cx}
use Rattle.number.specs.Floats.{floats}
use Rattle.sums.specs.Numbers.{complexes, lay_number}
use Rattle.sums.specs.Sums.{rows, row}
use Rattle.sums.proofs.NumberLaws.{complexes_high, complexes_set}
use Rattle.model.specs.Terms.{Term}
use Rattle.lent.specs.Laid.{laid}
use Rattle.model.proofs.TermLaws.{rows_length}
use Rattle.model_build.proofs.Parts.{part_is}
use Rattle.lent.specs.Every.{Every}
use Rattle.lent.proofs.Lists.{every_map}
use Rattle.model_laws.proofs.LaidLaws.{word_length, number_length}
use Rattle.in_use.proofs.Firsts.{same_at, same_part}

-- ---- plain elements
module _ {A : Type 0} where
  laid_past : (k : ℕ) (bs l : List A) (a : A) → laid set (suc k) bs (a ∷ l) ≡ a ∷ laid set k bs l
  unfolding laid
  laid_past k [] l a = refl
  laid_past k (b ∷ bs) l a = laid_past (suc k) bs (set l k b) a

  laid_before : (k n : ℕ) (bs l : List A) → n ≤ k → take n (laid set k bs l) ≡ take n l
  unfolding laid
  laid_before k n [] l h = refl
  laid_before k n (b ∷ bs) l h = laid_before (suc k) n bs (set l k b) (omega arith) ∙ take-set-le n l k b h

  pub laid_first : (bs l : List A) → length bs ≤ length l → take (length bs) (laid set 0 bs l) ≡ bs
  unfolding laid
  laid_first [] l h = refl
  laid_first (b ∷ bs) [] h = absurd (omega arith)
  laid_first (b ∷ bs) (a ∷ l) h = ap (take (suc (length bs))) (laid_past 0 bs l b) ∙ ap (λ (r : List A). b ∷ r) (laid_first bs l (omega arith))

  laid_here : (k : ℕ) (bs l : List A) → k + length bs ≤ length l → take (length bs) (drop k (laid set k bs l)) ≡ bs
  laid_here zero bs l h = laid_first bs l (omega arith)
  laid_here (suc k) bs [] h = absurd (omega arith)
  laid_here (suc k) bs (a ∷ l) h = ap (λ (r : List A). take (length bs) (drop (suc k) r)) (laid_past k bs l a) ∙ laid_here k bs l (omega arith)

-- ---- words, numbers, and the rows that they make
pub words_laid : (k : ℕ) (ws : List Word) (l : List ℕ) → Every Sound ws → word_lanes * (k + length ws) ≤ length l → words (laid lay_word k ws l) ≡ laid set k ws (words l)
unfolding laid
words_laid k [] l s h = refl
words_laid k (w ∷ ws) l s h =
    words_laid (suc k) ws (lay_word l k w) s.1 (omega (arith, h, word_length l k w))
    ∙ ap (laid set (suc k) ws) (words_set l k w s.0 (omega arith))

complexes_laid : (k : ℕ) (zs : List (Cx floats)) (l : List Float) → 2 * (k + length zs) ≤ length l → complexes (laid lay_number k zs l) ≡ laid set k zs (complexes l)
unfolding laid
complexes_laid k [] l h = refl
complexes_laid k (z ∷ zs) l h =
    complexes_laid (suc k) zs (lay_number l k z) (omega (arith, h, number_length l k z))
    ∙ ap (laid set (suc k) zs) (complexes_set l k z.re z.im (omega arith))

rows_set : (i : ℕ) (ws : List Word) (zs : List (Cx floats)) (w : Word) (z : Cx floats) → rows (set ws i w) (set zs i z) ≡ set (rows ws zs) i (row w z)
unfolding rows
rows_set i [] zs w z = refl
rows_set zero (v ∷ ws) [] w z = refl
rows_set (suc i) (v ∷ ws) [] w z = refl
rows_set zero (v ∷ ws) (y ∷ zs) w z = refl
rows_set (suc i) (v ∷ ws) (y ∷ zs) w z = ap (λ (r : List Term). row v y ∷ r) (rows_set i ws zs w z)

pub rows_laid : (k : ℕ) (T : List Term) (ws : List Word) (zs : List (Cx floats))
    → rows (laid set k (map (λ (c : Term). c.word) T) ws) (laid set k (map (λ (c : Term). c.num) T) zs) ≡ laid set k T (rows ws zs)
unfolding laid
rows_laid k [] ws zs = refl
rows_laid k (c ∷ T) ws zs = rows_laid (suc k) T (set ws k c.word) (set zs k c.num) ∙ ap (laid set (suc k) T) (rows_set k ws zs c.word c.num)

-- ---- the terms T stand from a place on
abbrev pub Holds : List Term → ℕ → List Term → Type 0
Holds R at T = take (length T) (drop at R) ≡ T

pub holds_left : (R : List Term) (at : ℕ) (A B : List Term) → Holds R at (A ++ B) → Holds R at A
holds_left R at A B h =
    sym (take-take (length A) (length (A ++ B)) (drop at R) (omega (arith, length-append A B))) ∙ ap (take (length A)) h ∙ take-append_seam A B

pub holds_right : (R : List Term) (at : ℕ) (A B : List Term) → Holds R at (A ++ B) → Holds R (at + length A) B
holds_right R at A B h =
    let X : List Term = drop at R in
    let whole : take (length A) X ++ take (length B) (drop (length A) X) ≡ A ++ B =
    sym (take-add (length A) (length B) X) ∙ ap (λ (n : ℕ). take n X) (sym (length-append A B)) ∙ h in
    let left : take (length A) X ≡ A = holds_left R at A B h in
    let both : A ++ take (length B) (drop (length A) X) ≡ A ++ B = ap (λ (l : List Term). l ++ take (length B) (drop (length A) X)) (sym left) ∙ whole in
    ap (take (length B)) (sym (drop-drop (length A) at R))
    ∙ sym (drop-append_seam A (take (length B) (drop (length A) X))) ∙ ap (drop (length A)) both ∙ drop-append_seam A B

-- so they are the terms of that range
pub holds_part : (R : List Term) (at e : ℕ) (T : List Term) → Holds R at T → e ≡ at + length T → take (e - at) (drop at R) ≡ T
holds_part R at e T h k = part_is R at (length T) e k ∙ h

-- the word that stands at the place of a single term
pub holds_word : (ws : List Word) (zs : List (Cx floats)) (at : ℕ) (c : Term) → Holds (rows ws zs) at (c ∷ []) → get_or ws at identity ≡ c.word
unfolding rows
holds_word [] zs zero c h = absurd (let e = ap length h in omega (arith, e))
holds_word [] zs (suc at) c h = absurd (let e = ap length h in omega (arith, e))
holds_word (w ∷ ws) [] zero c h = absurd (let e = ap length h in omega (arith, e))
holds_word (w ∷ ws) [] (suc at) c h = absurd (let e = ap length h in omega (arith, e))
holds_word (w ∷ ws) (z ∷ zs) zero c h = ap (λ (l : List Term). (get_or l 0 c).word) h
holds_word (w ∷ ws) (z ∷ zs) (suc at) c h = holds_word ws zs at c h

-- ---- the terms table with T laid from a place on
module _ (k : ℕ) (T : List Term) (lanes : List ℕ) (numbers : List Float) (sound : Every (λ c. Sound c.word) T)
    (lanes-room : word_lanes * (k + length T) ≤ length lanes) (numbers-room : 2 * (k + length T) ≤ length numbers) where
  abbrev laid_words : List ℕ
  laid_words = laid lay_word k (map (λ (c : Term). c.word) T) lanes

  abbrev laid_numbers : List Float
  laid_numbers = laid lay_number k (map (λ (c : Term). c.num) T) numbers

  words_are : words laid_words ≡ laid set k (map (λ (c : Term). c.word) T) (words lanes)
  words_are = words_laid k (map (λ (c : Term). c.word) T) lanes (every_map Sound (λ (c : Term). c.word) T sound) (omega (arith, lanes-room, length-map T (λ (c : Term). c.word)))

  numbers_are : complexes laid_numbers ≡ laid set k (map (λ (c : Term). c.num) T) (complexes numbers)
  numbers_are = complexes_laid k (map (λ (c : Term). c.num) T) numbers (omega (arith, numbers-room, length-map T (λ (c : Term). c.num)))

  abbrev laid_rows : List Term
  laid_rows = rows (words laid_words) (complexes laid_numbers)

  rows_are : laid_rows ≡ laid set k T (rows (words lanes) (complexes numbers))
  rows_are = ap₂ rows words_are numbers_are ∙ rows_laid k T (words lanes) (complexes numbers)

  pub laid_holds : Holds laid_rows k T
  laid_holds =
      ap (λ (R : List Term). take (length T) (drop k R)) rows_are
      ∙ laid_here k T (rows (words lanes) (complexes numbers))
      (rows_length (words lanes) (complexes numbers) (k + length T) (omega (arith, lanes-room, words_high lanes)) (omega (arith, numbers-room, complexes_high numbers)))

  pub terms_kept : (s e : ℕ) → s ≤ e → e ≤ k → take (e - s) (drop s laid_rows) ≡ take (e - s) (drop s (rows (words lanes) (complexes numbers)))
  terms_kept s e h l =
      let R : List Term = rows (words lanes) (complexes numbers) in
      ap (λ (Q : List Term). take (e - s) (drop s Q)) rows_are ∙ same_part k (laid set k T R) R (laid_before k k T R (omega arith)) s (e - s) (omega arith)

  pub word_kept : (i : ℕ) → i < k → get_or (words laid_words) i identity ≡ get_or (words lanes) i identity
  word_kept i h =
      let ws : List Word = map (λ (c : Term). c.word) T in
      ap (λ (vs : List Word). get_or vs i identity) words_are ∙ same_at k (laid set k ws (words lanes)) (words lanes) (laid_before k k ws (words lanes) (omega arith)) i identity h
