-- SPDX-FileCopyrightText: 2026 The PPVM Authors
-- SPDX-License-Identifier: Apache-2.0

-- What is asked of words, and what follows for the phases of three of them. Assumes nothing.
use mathlib.Core.Path.{◌≡◌, sym, ap, ◌∙◌}
use mathlib.Core.Bool.{true, false}
use Prim.Native.Nat.{ℕ, ◌+◌, ◌%◌}
use native.Mathlib.Omega.{arith}
use Rattle.gksl.specs.Operator.{Words}
use Rattle.gksl.specs.Rules.{through, onto}

pub record Laws (S : Words) : Type 0 where
  pub comm : (a b : S.Word) → S.mul a b ≡ S.mul b a
  pub assoc : (a b c : S.Word) → S.mul (S.mul a b) c ≡ S.mul a (S.mul b c)
  -- (a b) c and a (b c)
  pub cocycle : (a b c : S.Word) → (S.phase a b + S.phase (S.mul a b) c) % 4 ≡ (S.phase b c + S.phase a (S.mul b c)) % 4
  -- a b and b a are adjoint
  pub opposite : (a b : S.Word) → (S.phase a b + S.phase b a) % 4 ≡ 0
  -- a (a b) has no phase
  pub undone : (a b : S.Word) → (S.phase a b + S.phase a (S.mul a b)) % 4 ≡ 0
  -- the test tells a word from the others
  pub own : (a : S.Word) → S.alike a a ≡ true
  pub known : (a b : S.Word) → S.alike a b ≡ true → a ≡ b
  -- words that share no qubit commute
  pub apart : (a b : S.Word) → S.meets a b ≡ false → S.phase a b % 2 ≡ 0

-- a (a p) is the word p
abbrev pub Back : (S : Words) → S.Word → S.Word → Type 0
Back S p a = S.mul a (S.mul a p) ≡ p

-- the phases of (u v) p and of p (u v)
abbrev pub before : (S : Words) → S.Word → S.Word → S.Word → ℕ
before S u v p = S.phase u v + S.phase (S.mul u v) p

abbrev pub after : (S : Words) → S.Word → S.Word → S.Word → ℕ
after S u v p = S.phase u v + S.phase p (S.mul u v)

module _ (S : Words) (L : Laws S) where
  -- all orders of three words are one word
  pub word_before : (u v p : S.Word) → S.mul (S.mul u v) p ≡ onto S u p v
  word_before u v p = L.assoc u v p ∙ ap (S.mul u) (L.comm v p) ∙ sym (L.assoc u p v)

  pub word_after : (u v p : S.Word) → S.mul p (S.mul u v) ≡ onto S u p v
  word_after u v p = L.comm p (S.mul u v) ∙ word_before u v p

  pub word_reverse : (u v p : S.Word) → onto S v p u ≡ onto S u p v
  word_reverse u v p = L.comm (S.mul v p) u ∙ ap (S.mul u) (L.comm v p) ∙ sym (L.assoc u p v)

  -- v p u is the adjoint of u p v
  pub through_reverse : (u v p : S.Word) → (through S u p v + through S v p u) % 4 ≡ 0
  through_reverse u v p =
      let e = L.cocycle u p v in
      let f = L.opposite p v in
      let g = L.opposite u (S.mul v p) in
      let h : S.phase u (S.mul p v) ≡ S.phase u (S.mul v p) = ap (S.phase u) (L.comm p v) in
      omega arith

  -- (v u) p is the adjoint of p (u v)
  pub before_reverse : (u v p : S.Word) → (before S v u p + after S u v p) % 4 ≡ 0
  before_reverse u v p =
      let e = L.opposite u v in
      let f = L.opposite p (S.mul u v) in
      let h : S.phase (S.mul v u) p ≡ S.phase (S.mul u v) p = ap (λ (w : S.Word). S.phase w p) (L.comm v u) in
      omega arith

  pub after_reverse : (u v p : S.Word) → (after S v u p + before S u v p) % 4 ≡ 0
  after_reverse u v p =
      let e = L.opposite u v in
      let f = L.opposite p (S.mul u v) in
      let h : S.phase p (S.mul v u) ≡ S.phase p (S.mul u v) = ap (S.phase p) (L.comm v u) in
      omega arith

  -- where p commutes with the left word, u p v is p (u v)
  pub through_after : (u v p : S.Word) → S.phase u p % 2 ≡ 0 → through S u p v % 4 ≡ after S u v p % 4
  through_after u v p h =
      let e = L.cocycle p u v in
      let f = L.opposite u p in
      let g : S.phase (S.mul p u) v ≡ S.phase (S.mul u p) v = ap (λ (w : S.Word). S.phase w v) (L.comm p u) in
      omega arith

  -- and with the right one, (u v) p
  pub through_before : (u v p : S.Word) → S.phase v p % 2 ≡ 0 → through S u p v % 4 ≡ before S u v p % 4
  through_before u v p h =
      let e = L.cocycle u v p in
      let f = L.opposite v p in
      let g = L.cocycle u p v in
      let d : S.phase u (S.mul v p) ≡ S.phase u (S.mul p v) = ap (S.phase u) (L.comm v p) in
      omega arith
