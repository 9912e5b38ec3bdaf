-- SPDX-FileCopyrightText: 2026 The PPVM Authors
-- SPDX-License-Identifier: Apache-2.0

-- What is stored for the pairs of a matrix passes: their terms, and their entries beside the terms of the operators. Assumes
-- nothing.
use mathlib.Core.Path.{◌≡◌, refl, ap, ap₂, subst⁻¹}
use mathlib.Core.Bool.{Bool, true, false, not, cond}
use mathlib.Core.List.{List, [], ◌∷◌, ◌++◌, map}
use Prim.Native.Nat.{ℕ, zero, suc, ◌+◌, ◌-◌, ◌*◌, ◌≤◌, ◌<◌}
use native.Mathlib.Omega.{arith}
use borrow.Author.Tests.{leb-true, ltb-true, le-leb}
use lib.Dec.{leb}
use lib.Ieee.{Float, nan}
use lib.ListN.{length, get_or, length-append, get_or-append}
use Rattle.number.specs.Numbers.{Cx}
use Rattle.number.specs.Floats.{floats}
use Rattle.number.specs.Bounds.{AtMostC}
use Rattle.gksl.specs.Rules.{pairs_over, formed_over}
use Rattle.gksl.specs.Words.{pauli}
use Rattle.model.specs.Stored.{kind_at, jump_at, holds, given}
use Rattle.model.specs.Tested.{bad_jump}
use Rattle.model.specs.Terms.{Term}
use Rattle.model.specs.Stands.{InRange}
use Rattle.model_build.specs.Compiled.{Compiled}
use Rattle.model_build.specs.Built.{entries_from, terms_of, rates_of}
use Rattle.model.specs.declared.stored.Range.{Range}
use Rattle.lent.specs.Every.{Every}
use Rattle.lent.proofs.Lists.{every_at, every_weaken, every_append, every_map}
use Rattle.k_matrix.specs.Matrix.{passing}
use Rattle.k_matrix.specs.Pairs.{factor_of, factors_of, scaled, product_after, compile_pair}
use Rattle.model_laws.specs.Extended.{no_term, GoodEntry}
use Rattle.model_laws.proofs.RelatedLaws.{pairs_length}
use Rattle.model_laws.proofs.JumpTests.{both, together, either}
use Rattle.model_laws.proofs.FormedBounds.{in_range_at_most_c, factor_bounded, product_bounded}
use Rattle.model_laws.proofs.ReadItems.{GivenGood}
use Rattle.model_laws.proofs.CompiledLaws.{TermGood, formed_sizes}

-- ---- the terms of a pair
pairs_every : (P Q : Term → Type 0) (f : Term → Term → Term) → ((a b : Term) → Q a → Q b → P (f a b)) → (A B : List Term) → Every Q A → Every Q B → Every P (pairs_over floats pauli f A B)
unfolding pairs_over
pairs_every P Q f h [] B a b = tt
pairs_every P Q f h (x ∷ A) B a b =
    every_append P (map (f x) B) (pairs_over floats pauli f A B)
    (every_map P (f x) B (every_weaken Q (λ y. P (f x y)) (λ y r. h x y a.0 r) B b)) (pairs_every P Q f h A B a.1 b)

module _ (n : ℕ) (k : Cx floats) (ranged : AtMostC 200 k) where
  factor_good : (a b : Term) → GivenGood n a → GivenGood n b → TermGood n (factor_of k a b)
  unfolding factor_of
  factor_good a b p q = (q.word.sound, record { below = q.word.below; bound = factor_bounded (in_range_at_most_c p.number) (in_range_at_most_c q.number) ranged })

  module _ (A B : List Term) (la : length A ≤ 16) (lb : length B ≤ 16) (a : Every (GivenGood n) A) (b : Every (GivenGood n) B) where
    product_good : Every (TermGood n) (product_after k A B)
    unfolding scaled
    product_good =
        every_map (TermGood n) (scaled k) (formed_over floats pauli A B)
        (every_weaken _ (λ c. TermGood n (scaled k c)) (λ c s. (s.0.sound, record { below = s.0.below; bound = product_bounded ranged s.1 })) (formed_over floats pauli A B)
        (formed_sizes n A B la lb a b))

    pub pair_terms : (left right : Range) → Every (TermGood n) (compile_pair k left right A B).terms
    unfolding compile_pair
    pair_terms left right = every_append (TermGood n) (factors_of k A B) (product_after k A B) (pairs_every (TermGood n) (GivenGood n) (factor_of k) factor_good A B a b) product_good

-- ---- the entry of a pair
-- so many places among those of the operators' terms, which are own places from a place on
pub record Among (from own many : ℕ) (r : Range) : Type 0 where
  pub low : from ≤ r.start
  pub count : r.end ≡ r.start + many
  pub high : r.end ≤ from + own

-- an entry that fits a table of so many places, and whose given terms are the operators'
pub record Placed (from own places : ℕ) (e : List ℕ) (rate : Float) : Type 0 where
  pub eight : length e ≡ 8
  pub kind : kind_at e 0 ≤ 2
  pub fits : bad_jump places (jump_at e (rate ∷ []) 0) ≡ false
  pub givens : (i : ℕ) → given (jump_at e (rate ∷ []) 0) i ≡ true → (from ≤ i) × (i < from + own)

among_held : {from own many : ℕ} (r : Range) → Among from own many r → (i : ℕ) → holds r i ≡ true → (from ≤ i) × (i < from + own)
among_held r h i k =
    let e = both (leb r.start i) k in
    (omega (arith, h.low, leb-true r.start i e.0), omega (arith, h.high, ltb-true i r.end e.1))

module _ (from own places : ℕ) (room : from + own ≤ places) (k : Cx floats) (left right : Range) (A B : List Term) (inLeft : Among from own (length A) left) (inRight : Among from own (length B) right) where
  pub pair_placed : (at : ℕ) → at + length (compile_pair k left right A B).terms ≤ places
      → Placed from own places ((compile_pair k left right A B).numbers at) (compile_pair k left right A B).rate
  unfolding bad_jump jump_at compile_pair
  pair_placed at fits =
      let F : List Term = factors_of k A B in
      let P : List Term = product_after k A B in
      let all : length (F ++ P) ≡ length F + length P = length-append F P in
      let wl : left.end - left.start ≡ length A = omega (arith, inLeft.count) in
      let wr : right.end - right.start ≡ length B = omega (arith, inRight.count) in
      let many : (left.end - left.start) * (right.end - right.start) ≡ length A * length B = ap₂ ◌*◌ wl wr in
      let factors : length F ≡ length A * length B = pairs_length floats pauli (factor_of k) A B in
      record {
        eight = refl;
        kind = omega arith;
        fits = ap not
            (together (together (le-leb left.start left.end (omega (arith, inLeft.count))) (le-leb left.end places (omega (arith, inLeft.high, room))))
            (together (together (le-leb right.start right.end (omega (arith, inRight.count))) (le-leb right.end places (omega (arith, inRight.high, room))))
            (together (together (le-leb (at + length F) (at + length F + length P) (omega arith)) (le-leb (at + length F + length P) places (omega (arith, fits, all))))
            (le-leb (at + (left.end - left.start) * (right.end - right.start)) places (omega (arith, fits, all, many, factors))))));
        givens = λ i h. either (holds left i) (holds right i) (among_held left inLeft i) (among_held right inRight i) h;
      }

-- ---- all of them
pub entries_placed : (from own places at : ℕ) (cs : List Compiled)
    → Every (λ c. (at : ℕ) → at + length c.terms ≤ places → Placed from own places (c.numbers at) c.rate) cs → at + length (terms_of cs) ≤ places
    → (j : ℕ) → j < length cs → Placed from own places (get_or (entries_from at cs) j []) (get_or (rates_of cs) j nan)
unfolding entries_from terms_of
entries_placed from own places at [] h room j l = absurd (omega arith)
entries_placed from own places at (c ∷ cs) h room zero l = h.0 at (omega (arith, room, length-append c.terms (terms_of cs)))
entries_placed from own places at (c ∷ cs) h room (suc j) l =
    entries_placed from own places (at + length c.terms) cs h.1 (omega (arith, room, length-append c.terms (terms_of cs))) j (omega arith)

-- beside the operators' terms, which are in range
pub placed_good : (from : ℕ) (own more : List Term) (e : List ℕ) (rate : Float) → Every (λ z. InRange z.num) own
    → Placed from (length own) (from + length (own ++ more)) e rate → GoodEntry from (own ++ more) e rate
placed_good from own more e rate all h = record {
  eight = h.eight;
  kind = h.kind;
  fits = h.fits;
  givens = λ i k.
      let r = h.givens i k in
      let low = r.0 in
      let high = r.1 in
      let inside : i - from < length own = omega (arith, low, high) in
      (low, subst⁻¹ (λ (z : Term). InRange z.num) (get_or-append own more no_term (i - from) inside) (every_at (λ z. InRange z.num) own (i - from) no_term all inside));
}

-- ---- the places of K
pub passing_below : (f : ℕ → Bool) (p n : ℕ) → Every (λ q. q < p + n) (passing f p n)
unfolding passing
passing_below f p zero = tt
passing_below f p (suc n) = step (f p) (every_weaken (λ q. q < suc p + n) (λ q. q < p + suc n) (λ q l. omega arith) (passing f (suc p) n) (passing_below f (suc p) n))
  where
    step : (b : Bool) → Every (λ q. q < p + suc n) (passing f (suc p) n) → Every (λ q. q < p + suc n) (cond b (p ∷ passing f (suc p) n) (passing f (suc p) n))
    step true h = (omega arith, h)
    step false h = h
