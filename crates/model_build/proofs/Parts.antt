-- SPDX-FileCopyrightText: 2026 The PPVM Authors
-- SPDX-License-Identifier: Apache-2.0

-- Parts of given lengths, and the items made of them, from any place on: how many there are, the first and what is left,
-- and what taking and dropping some of them leaves. Assumes nothing.
use mathlib.Core.Path.{◌≡◌, refl, sym, ap, ap₂, ◌∙◌}
use mathlib.Core.List.{List, [], ◌∷◌}
use Prim.Native.Nat.{ℕ, zero, suc, ◌+◌, ◌-◌, ◌*◌, ◌<◌, ◌≤◌}
use native.Mathlib.Numerals.{add-one}
use native.Mathlib.Omega.{arith}
use native.Mathlib.Decide.{dec_lt}
use borrow.Author.Tests.{lt-ltb, le-ltb, eq-eqb, ne_eqb}
use lib.Ieee.{Float, nan}
use lib.ListN.{get_or, length, take, drop, length-drop, drop_of_length-le}
use lib.Seq.{drop-cons, drop-drop, take_all}
use Rattle.refusal.specs.declared.Refusal.TheVariants.{LengthMismatch}
use Rattle.refusal.proofs.Told.{refused_not}
use Rattle.std.specs.Prelude.{Ok, Err}
use Rattle.number.specs.Numbers.{Cx}
use Rattle.number.specs.Floats.{floats}
use Rattle.model_build.specs.Given.{GivenTerm}
use Rattle.model_build.specs.Built.{parts, real_items, term_items, jump_items, parts_fit}
use Rattle.sums.specs.Numbers.{complexes}
use Rattle.lent.specs.Laid.{total}
use Rattle.model.proofs.TermLaws.{take_complexes, drop_complexes}

-- ---- the total of lengths
-- of what is left at place i
pub total_turn : (ns : List ℕ) (i : ℕ) → i < length ns → total (drop i ns) ≡ get_or ns i 0 + total (drop (i + 1) ns)
unfolding total
total_turn ns i h = rw (add-one i) (ap total (drop-cons ns i 0 h))

pub total_end : (ns : List ℕ) (i : ℕ) → length ns ≤ i → total (drop i ns) ≡ 0
unfolding total
total_end ns i h = ap total (drop_of_length-le ns h)

-- of the first k and of the others
pub total_split : (k : ℕ) (ns : List ℕ) → total ns ≡ total (take k ns) + total (drop k ns)
unfolding total
total_split zero ns = omega arith
total_split (suc k) [] = refl
total_split (suc k) (n ∷ ns) = omega (arith, total_split k ns)

-- ---- lengths that make up a whole
pub fit_short : (ns : List ℕ) (i left : ℕ) → i < length ns → left < get_or ns i 0
    → parts_fit (drop i ns) left ≡ Err (LengthMismatch (get_or ns i 0) left)
unfolding parts_fit
fit_short ns i left h l = rw (drop-cons ns i 0 h, lt-ltb left (get_or ns i 0) l)

pub fit_turn : (ns : List ℕ) (i left : ℕ) → i < length ns → get_or ns i 0 ≤ left
    → parts_fit (drop i ns) left ≡ parts_fit (drop (i + 1) ns) (left - get_or ns i 0)
unfolding parts_fit
fit_turn ns i left h l = rw (add-one i, drop-cons ns i 0 h, le-ltb left (get_or ns i 0) l)

pub fit_over : (ns : List ℕ) (i left : ℕ) → length ns ≤ i → (left ≡ 0 → ⊥) → parts_fit (drop i ns) left ≡ Err (LengthMismatch 0 left)
unfolding parts_fit
fit_over ns i left h l = rw (drop_of_length-le ns h, ne_eqb left 0 l)

pub fit_end : (ns : List ℕ) (i left : ℕ) → length ns ≤ i → left ≡ 0 → parts_fit (drop i ns) left ≡ Ok tt
unfolding parts_fit
fit_end ns i left h l = rw (drop_of_length-le ns h, eq-eqb left 0 l)

-- then their total is the whole
pub fit_total : (ns : List ℕ) (have : ℕ) → parts_fit ns have ≡ Ok tt → total ns ≡ have
unfolding parts_fit total
fit_total [] zero e = refl
fit_total [] (suc have) e = absurd (refused_not _ tt (rw (ne_eqb (suc have) 0 (λ z. omega arith)) at e))
fit_total (n ∷ ns) have e = go (dec_lt have n) (fit_total ns (have - n))
  where
    go : Dec (have < n) → (parts_fit ns (have - n) ≡ Ok tt → total ns ≡ have - n) → n + total ns ≡ have
    go (yes h) rest = absurd (refused_not _ tt (rw (lt-ltb have n h) at e))
    go (no h) rest = omega (arith, rest (rw (le-ltb have n (omega arith)) at e))

-- ---- consecutive parts
module _ {A : Type 0} where
  pub length_parts : (ns : List ℕ) (l : List A) → length (parts ns l) ≡ length ns
  unfolding parts
  length_parts [] l = refl
  length_parts (n ∷ ns) l = ap suc (length_parts ns (drop n l))

  pub take_parts : (k : ℕ) (ns : List ℕ) (l : List A) → take k (parts ns l) ≡ parts (take k ns) l
  unfolding parts
  take_parts zero ns l = refl
  take_parts (suc k) [] l = refl
  take_parts (suc k) (n ∷ ns) l = ap (λ (r : List (List A)). take n l ∷ r) (take_parts k ns (drop n l))

  pub drop_parts : (k : ℕ) (ns : List ℕ) (l : List A) → drop k (parts ns l) ≡ parts (drop k ns) (drop (total (take k ns)) l)
  unfolding parts total
  drop_parts zero ns l = refl
  drop_parts (suc k) [] l = refl
  drop_parts (suc k) (n ∷ ns) l = drop_parts k ns (drop n l) ∙ ap (λ (r : List A). parts (drop k ns) r) (drop-drop (total (take k ns)) n l)

  -- the first of those that are left at place i, whose elements start at place p
  pub parts_turn : (ns : List ℕ) (l : List A) (i p : ℕ) → i < length ns
      → parts (drop i ns) (drop p l) ≡ take (get_or ns i 0) (drop p l) ∷ parts (drop (i + 1) ns) (drop (p + get_or ns i 0) l)
  unfolding parts
  parts_turn ns l i p h =
      rw (add-one i, drop-cons ns i 0 h)
      (ap (λ (r : List A). take (get_or ns i 0) (drop p l) ∷ parts (drop (suc i) ns) r) (drop-drop (get_or ns i 0) p l))

  pub parts_end : (ns : List ℕ) (l : List A) (i : ℕ) → length ns ≤ i → parts (drop i ns) l ≡ []
  unfolding parts
  parts_end ns l i h = ap (λ (r : List ℕ). parts r l) (drop_of_length-le ns h)

  -- a part of a slice, from its start to its end
  pub part_is : (l : List A) (p k e : ℕ) → e ≡ p + k → take (e - p) (drop p l) ≡ take k (drop p l)
  part_is l p k e h = let d : e - p ≡ k = omega arith in rw d

  -- from its start on
  pub rest_is : (l : List A) (p : ℕ) → take (length l - p) (drop p l) ≡ drop p l
  rest_is l p = take_all (length l - p) (drop p l) (omega (arith, length-drop p l))

-- the total of what is left at place p: of a part of k lengths, and of what is left after it
pub total_part : (ns : List ℕ) (p k : ℕ) → total (drop p ns) ≡ total (take (p + k - p) (drop p ns)) + total (drop (p + k) ns)
total_part ns p k = rw (part_is ns p k (p + k) refl, ← drop-drop k p ns) (total_split k (drop p ns))

-- ---- numbers in pairs
twice_suc : (k : ℕ) → 2 * suc k ≡ suc (suc (2 * k))
twice_suc k = omega arith

pub length_complexes : (n : ℕ) (xs : List Float) → length xs ≡ 2 * n → length (complexes xs) ≡ n
unfolding complexes
length_complexes zero [] h = refl
length_complexes zero (x ∷ xs) h = absurd (omega arith)
length_complexes (suc n) [] h = absurd (omega arith)
length_complexes (suc n) (x ∷ []) h = absurd (omega arith)
length_complexes (suc n) (x ∷ y ∷ xs) h = ap suc (length_complexes n xs (omega arith))

pub complexes_turn : (xs : List Float) (i : ℕ) → 2 * i + 1 < length xs
    → complexes (drop (2 * i) xs) ≡ record { re = get_or xs (2 * i) nan; im = get_or xs (2 * i + 1) nan } ∷ complexes (drop (2 * (i + 1)) xs)
unfolding complexes
complexes_turn xs i h =
    rw (add-one i, twice_suc i, add-one (2 * i), drop-cons xs (2 * i) nan (omega arith), drop-cons xs (suc (2 * i)) nan (omega arith))

-- ---- items
-- the first of those that are left at place i
pub real_turn : (ns l : List ℕ) (xs : List Float) (i p : ℕ) → i < length ns → i < length xs
    → real_items (parts (drop i ns) (drop p l)) (drop i xs)
    ≡ record { text = take (get_or ns i 0) (drop p l); number = get_or xs i nan } ∷ real_items (parts (drop (i + 1) ns) (drop (p + get_or ns i 0) l)) (drop (i + 1) xs)
unfolding real_items
real_turn ns l xs i p h k =
    ap₂ real_items (parts_turn ns l i p h) (drop-cons xs i nan k ∙ ap (λ (j : ℕ). get_or xs i nan ∷ drop j xs) (sym (add-one i)))

pub real_end : (ns l : List ℕ) (xs : List Float) (i : ℕ) → length ns ≤ i → real_items (parts (drop i ns) l) (drop i xs) ≡ []
unfolding real_items
real_end ns l xs i h = ap (λ (r : List (List ℕ)). real_items r (drop i xs)) (parts_end ns l i h)

reals_none : (ts : List (List ℕ)) → real_items ts [] ≡ []
unfolding real_items
reals_none [] = refl
reals_none (t ∷ ts) = refl

pub drop_reals : (k : ℕ) (ts : List (List ℕ)) (xs : List Float) → drop k (real_items ts xs) ≡ real_items (drop k ts) (drop k xs)
unfolding real_items
drop_reals zero ts xs = refl
drop_reals (suc k) [] xs = refl
drop_reals (suc k) (t ∷ ts) [] = sym (reals_none (drop k ts))
drop_reals (suc k) (t ∷ ts) (x ∷ xs) = drop_reals k ts xs

pub term_turn : (ns l : List ℕ) (xs : List Float) (i p : ℕ) → i < length ns → 2 * i + 1 < length xs
    → term_items (parts (drop i ns) (drop p l)) (complexes (drop (2 * i) xs))
    ≡ record { text = take (get_or ns i 0) (drop p l); number = record { re = get_or xs (2 * i) nan; im = get_or xs (2 * i + 1) nan } }
    ∷ term_items (parts (drop (i + 1) ns) (drop (p + get_or ns i 0) l)) (complexes (drop (2 * (i + 1)) xs))
unfolding term_items
term_turn ns l xs i p h k = ap₂ term_items (parts_turn ns l i p h) (complexes_turn xs i k)

pub term_end : (ns l : List ℕ) (xs : List (Cx floats)) (i : ℕ) → length ns ≤ i → term_items (parts (drop i ns) l) xs ≡ []
unfolding term_items
term_end ns l xs i h = ap (λ (r : List (List ℕ)). term_items r xs) (parts_end ns l i h)

terms_none : (ts : List (List ℕ)) → term_items ts [] ≡ []
unfolding term_items
terms_none [] = refl
terms_none (t ∷ ts) = refl

pub length_terms : (ts : List (List ℕ)) (xs : List (Cx floats)) → length ts ≡ length xs → length (term_items ts xs) ≡ length ts
unfolding term_items
length_terms [] xs h = refl
length_terms (t ∷ ts) [] h = absurd (omega arith)
length_terms (t ∷ ts) (x ∷ xs) h = ap suc (length_terms ts xs (omega arith))

pub take_terms : (k : ℕ) (ts : List (List ℕ)) (xs : List (Cx floats)) → take k (term_items ts xs) ≡ term_items (take k ts) (take k xs)
unfolding term_items
take_terms zero ts xs = refl
take_terms (suc k) [] xs = refl
take_terms (suc k) (t ∷ ts) [] = refl
take_terms (suc k) (t ∷ ts) (x ∷ xs) = ap (λ (r : List GivenTerm). record { text = t; number = x } ∷ r) (take_terms k ts xs)

pub drop_terms : (k : ℕ) (ts : List (List ℕ)) (xs : List (Cx floats)) → drop k (term_items ts xs) ≡ term_items (drop k ts) (drop k xs)
unfolding term_items
drop_terms zero ts xs = refl
drop_terms (suc k) [] xs = refl
drop_terms (suc k) (t ∷ ts) [] = sym (terms_none (drop k ts))
drop_terms (suc k) (t ∷ ts) (x ∷ xs) = drop_terms k ts xs

-- ---- jumps, each of so many terms
module _ (ns l : List ℕ) (xs : List Float) (t p : ℕ) where
  -- the terms that are left at place t, whose texts start at place p
  abbrev pub terms_from : List GivenTerm
  terms_from = term_items (parts (drop t ns) (drop p l)) (complexes (drop (2 * t) xs))

  pub take_terms_from : (k : ℕ) → take k terms_from ≡ term_items (parts (take k (drop t ns)) (drop p l)) (complexes (take (2 * k) (drop (2 * t) xs)))
  take_terms_from k =
      take_terms k (parts (drop t ns) (drop p l)) (complexes (drop (2 * t) xs))
      ∙ ap₂ term_items (take_parts k (drop t ns) (drop p l)) (take_complexes k (drop (2 * t) xs))

  pub drop_terms_from : (k : ℕ)
      → drop k terms_from ≡ term_items (parts (drop (t + k) ns) (drop (p + total (take k (drop t ns))) l)) (complexes (drop (2 * (t + k)) xs))
  drop_terms_from k =
      let e : 2 * t + 2 * k ≡ 2 * (t + k) = omega arith in
      drop_terms k (parts (drop t ns) (drop p l)) (complexes (drop (2 * t) xs))
      ∙ ap₂ term_items
      (drop_parts k (drop t ns) (drop p l) ∙ ap₂ parts (drop-drop k t ns) (drop-drop (total (take k (drop t ns))) p l))
      (drop_complexes k (drop (2 * t) xs) ∙ ap complexes (drop-drop (2 * k) (2 * t) xs ∙ ap (λ (m : ℕ). drop m xs) e))

jumps_none : (gs : List Float) → jump_items gs [] ≡ []
unfolding jump_items
jumps_none [] = refl
jumps_none (g ∷ gs) = refl

pub drop_jumps : (k : ℕ) (gs : List Float) (ts : List (List GivenTerm)) → drop k (jump_items gs ts) ≡ jump_items (drop k gs) (drop k ts)
unfolding jump_items
drop_jumps zero gs ts = refl
drop_jumps (suc k) [] ts = refl
drop_jumps (suc k) (g ∷ gs) [] = sym (jumps_none (drop k gs))
drop_jumps (suc k) (g ∷ gs) (t ∷ ts) = drop_jumps k gs ts

-- the first of those that are left at jump j
pub jump_turn : (gs : List Float) (cs ns l : List ℕ) (xs : List Float) (j t p : ℕ) → j < length gs → j < length cs
    → jump_items (drop j gs) (parts (drop j cs) (term_items (parts (drop t ns) (drop p l)) (complexes (drop (2 * t) xs))))
    ≡ record { rate = get_or gs j nan; terms = term_items (parts (take (get_or cs j 0) (drop t ns)) (drop p l)) (complexes (take (2 * get_or cs j 0) (drop (2 * t) xs))) }
    ∷ jump_items (drop (j + 1) gs)
    (parts (drop (j + 1) cs)
    (term_items (parts (drop (t + get_or cs j 0) ns) (drop (p + total (take (get_or cs j 0) (drop t ns))) l)) (complexes (drop (2 * (t + get_or cs j 0)) xs))))
unfolding jump_items parts
jump_turn gs cs ns l xs j t p h k =
    rw (add-one j, drop-cons gs j nan h, drop-cons cs j 0 k)
    (ap₂ (λ (a b : List GivenTerm). record { rate = get_or gs j nan; terms = a } ∷ jump_items (drop (suc j) gs) (parts (drop (suc j) cs) b))
    (take_terms_from ns l xs t p (get_or cs j 0)) (drop_terms_from ns l xs t p (get_or cs j 0)))

pub jump_end : (gs : List Float) (cs : List ℕ) (ts : List GivenTerm) (j : ℕ) → length cs ≤ j → jump_items (drop j gs) (parts (drop j cs) ts) ≡ []
jump_end gs cs ts j h = ap (jump_items (drop j gs)) (parts_end cs ts j h) ∙ jumps_none (drop j gs)
