-- SPDX-FileCopyrightText: 2026 The PPVM Authors
-- SPDX-License-Identifier: Apache-2.0

-- What was kept of a grown basis, laid over the lent one. Assumes nothing.
use mathlib.Core.Path.{◌≡◌, refl, sym, ap, ap₂, ◌∙◌}
use mathlib.Core.Bool.{Bool, true, false, not, cond, ◌||◌}
use mathlib.Core.List.{List, ◌++◌}
use Prim.Native.Nat.{ℕ, ◌-◌, ◌*◌, ◌≤◌}
use native.Mathlib.Omega.{arith}
use borrow.Rule.Slice.PartMut.{put_mid}
use lib.Dec.{ltb, leb}
use lib.Ieee.{Float, le}
use lib.ListN.{length, take, drop, replicate, length-append, length-drop}
use lib.Seq.{take_at, length-take-le}
use Rattle.word.specs.Flat.{words, flat_lanes, word_lanes}
use Rattle.word.specs.declared.word.Word.{Word}
use Rattle.word.proofs.FlatLaws.{words_high, lanes_front}
use Rattle.number.specs.Floats.{float0}
use Rattle.keep.proofs.FillLaws.{rest_filled}
use Rattle.lent.specs.Read.{Read, got}
use Rattle.step_laws.specs.Steps.{Stepped, kept_by, pruned_by, capped_by}
use Rattle.std.specs.Prelude.{Ok}
use Rattle.step_parts.specs.Ends.{kept, acts, words_after, numbers_after, ending}
use Rattle.step_parts.specs.Between.{Truncates, grown}
use Rattle.step_parts.proofs.TruncateLaws.{pruned_products}

-- whether prune or cap acts goes by the length of the grown basis
pub acts_are : (tol : Float) (limit len : ℕ) (lanes : List ℕ) (coeffs : List Float) → word_lanes * len ≤ length lanes → (products : ℕ)
    → (not (le tol float0) || ltb limit len) ≡ acts tol limit (grown len lanes coeffs products)
unfolding acts
acts_are tol limit len lanes coeffs long products = ap (λ (k : ℕ). not (le tol float0) || ltb limit k) (sym (length-take-le len (words lanes) (omega (arith, long, words_high lanes))))

module _ {A : Type 0} (v : A) (r : ℕ) (kept table : List A) (kept-long : r ≤ length kept) (table-long : r ≤ length table) where
  -- a table whose first places were written, and whose others are filled then
  pub over_filled : (table₁ y : List A) → table₁ ≡ take r kept ++ drop r table → y ≡ replicate (length (take (length table₁ - r) (drop r table₁))) v
      → put_mid r (length table₁ - r) table₁ y ≡ take r kept ++ replicate (length table - r) v
  over_filled table₁ y f g =
      let front : length (take r kept) ≡ r = length-take-le r kept kept-long in
      let size : length table₁ ≡ length table = omega (arith, ap length f, length-append (take r kept) (drop r table), front, length-drop r table, table-long) in
      let head : take r table₁ ≡ take r kept = ap (take r) f ∙ take_at (take r kept) (drop r table) r front in
      rest_filled v r table₁ y (omega (arith, size, table-long)) g ∙ ap₂ (λ (t : List A) (k : ℕ). t ++ replicate (k - r) v) head size

module _ (s : Stepped) (len r : ℕ) (lanes' : List ℕ) (coeffs' : List Float) (h : Truncates s len r lanes' coeffs') where
  lanes_are : (p : ℕ) → p ≡ r * word_lanes → p ≤ length lanes' → take p lanes' ≡ flat_lanes s.words
  lanes_are p e long = lanes_front lanes' r p e long ∙ ap flat_lanes h.words_are

  numbers_long : r ≡ length s.numbers
  numbers_long = h.count ∙ sym h.each

  module _ (acted : Bool) (is : acted ≡ false) where
    pub words_stay : word_lanes * r ≤ length lanes' → (ws ws₁ : List ℕ) → ws₁ ≡ take (word_lanes * r) lanes' ++ drop (word_lanes * r) ws → ws₁ ≡ words_after acted s ws
    unfolding words_after
    words_stay long ws ws₁ f = rw is (f ∙ ap₂ (λ (t : List ℕ) (k : ℕ). t ++ drop (word_lanes * k) ws) (lanes_are (word_lanes * r) (omega arith) long) h.count)

    pub numbers_stay : (cs cs₁ : List Float) → cs₁ ≡ take r coeffs' ++ drop r cs → cs₁ ≡ numbers_after acted s cs
    unfolding numbers_after
    numbers_stay cs cs₁ f = rw is (f ∙ ap₂ (λ (t : List Float) (k : ℕ). t ++ drop k cs) h.numbers_are numbers_long)

  module _ (acted : Bool) (is : acted ≡ true) where
    pub words_clear : word_lanes * r ≤ length lanes' → (ws ws₁ y : List ℕ) → word_lanes * r ≤ length ws → ws₁ ≡ take (word_lanes * r) lanes' ++ drop (word_lanes * r) ws
        → y ≡ replicate (length (take (length ws₁ - r * word_lanes) (drop (r * word_lanes) ws₁))) 0 → put_mid (r * word_lanes) (length ws₁ - r * word_lanes) ws₁ y ≡ words_after acted s ws
    unfolding words_after
    words_clear long ws ws₁ y room f g =
        let k : word_lanes * r ≡ r * word_lanes = omega arith in
        let f' : ws₁ ≡ take (r * word_lanes) lanes' ++ drop (r * word_lanes) ws = f ∙ ap (λ (i : ℕ). take i lanes' ++ drop i ws) k in
        let rest : length ws - r * word_lanes ≡ length ws - word_lanes * length s.words = omega (arith, h.count) in
        rw is
        (over_filled 0 (r * word_lanes) lanes' ws (omega (arith, long)) (omega (arith, room)) ws₁ y f' g
        ∙ ap₂ (λ (t : List ℕ) (i : ℕ). t ++ replicate i 0) (lanes_are (r * word_lanes) (omega arith) (omega (arith, long))) rest)

    pub numbers_clear : r ≤ length coeffs' → (cs cs₁ y : List Float) → r ≤ length cs → cs₁ ≡ take r coeffs' ++ drop r cs
        → y ≡ replicate (length (take (length cs₁ - r) (drop r cs₁))) float0 → put_mid r (length cs₁ - r) cs₁ y ≡ numbers_after acted s cs
    unfolding numbers_after
    numbers_clear long cs cs₁ y room f g =
        rw is (over_filled float0 r coeffs' cs long room cs₁ y f g ∙ ap₂ (λ (t : List Float) (i : ℕ). t ++ replicate (length cs - i) float0) h.numbers_are numbers_long)

-- ---- what a course leaves, handed over
capped_products : (protected : List Word) (limit : ℕ) (s : Stepped) → (capped_by protected limit s).products ≡ s.products
unfolding capped_by
capped_products protected limit s = go (leb (length s.words) limit) _
  where
    go : (b : Bool) (flags : List ℕ) → (cond b s (kept_by protected flags s)).products ≡ s.products
    go true flags = refl
    go false flags = refl

module _ (protected : List Word) (tol : Float) (limit : ℕ) (lanes : List ℕ) (coeffs : List Float) (course : Read Stepped) where
  pub course_taken : (g : Stepped) → course ≡ got g → (r : ℕ) (lanes' : List ℕ) (coeffs' : List Float) → r ≡ length (kept protected tol limit g).words
      → lanes' ≡ words_after (acts tol limit g) (kept protected tol limit g) lanes → coeffs' ≡ numbers_after (acts tol limit g) (kept protected tol limit g) coeffs
      → record { answer = Ok (record { entries = r; products = g.products }); lanes = lanes'; coeffs = coeffs' } ≡ ending protected tol limit lanes coeffs course
  course_taken g e r lanes' coeffs' er el ec =
      let p : (kept protected tol limit g).products ≡ g.products = capped_products protected limit (pruned_by protected tol g) ∙ pruned_products protected tol g in
      rw (e, er, el, ec, p)
