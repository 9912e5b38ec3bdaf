-- SPDX-FileCopyrightText: 2026 The PPVM Authors
-- SPDX-License-Identifier: Apache-2.0

-- One pair: its factors laid row by row, its thinned product after K, how many terms it has, and its entry. Assumes nothing.
use mathlib.Core.Path.{◌≡◌, refl, sym, ap, ap₂, ◌∙◌, subst, subst⁻¹}
use mathlib.Core.List.{List, [], ◌∷◌, ◌++◌, map, map-append}
use Prim.Native.Nat.{ℕ, suc, ◌+◌, ◌-◌, ◌*◌, ◌≤◌, ◌<◌}
use native.Mathlib.Nat.{zero-mul, suc-mul, mul-le-mul}
use native.Mathlib.Omega.{arith}
use lib.Ieee.{Float}
use lib.ListN.{length, set, length-append, length-map, length-take}
use Rattle.word.specs.Flat.{words}
use Rattle.number.specs.Numbers.{Cx, mul_c, conj_c, square}
use Rattle.number.specs.Floats.{floats, float0, cx}
use Rattle.number.specs.declared.scalar.Complex.{Complex}
use Rattle.gksl.specs.Rules.{pairs_over, formed_over}
use Rattle.gksl.specs.Words.{pauli}
use Rattle.sums.specs.Numbers.{complexes}
use Rattle.sums.specs.Sums.{rows, sum_rows}
use Rattle.sums.proofs.SumLaws.{length_put_all_high}
use Rattle.model.specs.Terms.{Term, term_at, terms_in, terms_of}
use Rattle.model.proofs.TermLaws.{onto_eq, terms_none, terms_more}
use Rattle.model_build.specs.Compiled.{Compiled}
use Rattle.operator_product.specs.Product.{formed_term, PairRoom, Forms}
use Rattle.model.specs.Stored.{range, entry, lay_entry}
use Rattle.model_build.specs.Thinned.{thinned, LaysTerms, StoreRoom, KeepRoom, Keeps}
use Rattle.model_build.specs.Work.{JumpRoom, StoresJump}
use Rattle.model.specs.declared.term.Term as Held
use Rattle.model.specs.declared.stored.Range.{Range}
use Rattle.operator_product.proofs.WorkLaws.{pairs_more}
use Rattle.model_build.proofs.StoreLaws.{lays_none, lays_append, terms_length}
use Rattle.model_build.proofs.OperatorLaws.{without_fewer}
use Rattle.model.specs.Between.{onto}
use Rattle.k_matrix.specs.Pairs.{factor_of, factors_of, scaled, product_after, compile_pair}
use Rattle.k_matrix.specs.Work.{FactorsRoom, CountsPair, WorkStays}

-- ---- a factor
pub factor_is : (a b : Held.Term) (k c m n : Complex) → cx c ≡ conj_c floats (cx a.number) → cx m ≡ mul_c floats (cx c) (cx b.number) → cx n ≡ mul_c floats (cx m) (cx k)
    → ◌≡◌ {A = Term} (record { num = cx n; word = b.word }) (factor_of (cx k) (onto a) (onto b))
unfolding factor_of
factor_is a b k c m n hc hm hn = onto_eq (hn ∙ ap (λ (z : Cx floats). mul_c floats z (cx k)) (hm ∙ ap (λ (z : Cx floats). mul_c floats z (cx b.number)) hc)) refl

-- ---- what f makes of the terms in a range, laid one after another
pub record RowState (f : Term → Term) (right : Range) (at : ℕ) (lanes : List ℕ) (numbers : List Float) (tLanes₀ : List ℕ) (tNumbers₀ : List Float) (tLanes : List ℕ) (tNumbers : List Float) (j : ℕ) : Type 0 where
  pub low : right.start ≤ j
  pub high : j ≤ right.end
  pub lanes_same : length tLanes ≡ length tLanes₀
  pub numbers_same : length tNumbers ≡ length tNumbers₀
  pub lays : LaysTerms (map f (terms_in lanes numbers right.start j)) at tLanes₀ tNumbers₀ tLanes tNumbers

module _ (f : Term → Term) (right : Range) (at : ℕ) (lanes : List ℕ) (numbers : List Float) (tLanes₀ : List ℕ) (tNumbers₀ : List Float) (room : StoreRoom right.start right.end lanes numbers at tLanes₀ tNumbers₀) where
  pub row_start : RowState f right at lanes numbers tLanes₀ tNumbers₀ tLanes₀ tNumbers₀ right.start
  row_start = record {
    low = omega arith;
    high = room.order;
    lanes_same = refl;
    numbers_same = refl;
    lays = subst⁻¹ (λ (T : List Term). LaysTerms T at tLanes₀ tNumbers₀ tLanes₀ tNumbers₀) (ap (map f) (terms_none lanes numbers right.start)) (lays_none at tLanes₀ tNumbers₀);
  }

  module _ (tLanes : List ℕ) (tNumbers : List Float) (j : ℕ) (s : RowState f right at lanes numbers tLanes₀ tNumbers₀ tLanes tNumbers j) where
    pub row_next : (tLanes' : List ℕ) (tNumbers' : List Float) (t : Term) → j < right.end → t ≡ f (term_at lanes numbers j)
        → LaysTerms (t ∷ []) (at + (j - right.start)) tLanes tNumbers tLanes' tNumbers' → length tLanes' ≡ length tLanes → length tNumbers' ≡ length tNumbers
        → RowState f right at lanes numbers tLanes₀ tNumbers₀ tLanes' tNumbers' (j + 1)
    row_next tLanes' tNumbers' t h e g hl hn =
        let T : List Term = terms_in lanes numbers right.start j in
        let n = terms_length lanes numbers right.start j s.low (omega (arith, room.lanes_long)) (omega (arith, room.numbers_long)) in
        let more : map f (terms_in lanes numbers right.start (j + 1)) ≡ map f T ++ (t ∷ []) =
        ap (map f) (terms_more lanes numbers right.start j s.low (omega (arith, room.lanes_long)) (omega (arith, room.numbers_long)))
        ∙ map-append f T (term_at lanes numbers j ∷ []) ∙ ap (λ (u : Term). map f T ++ (u ∷ [])) (sym e) in
        record {
          low = omega (arith, s.low);
          high = omega arith;
          lanes_same = hl ∙ s.lanes_same;
          numbers_same = hn ∙ s.numbers_same;
          lays = subst⁻¹ (λ (U : List Term). LaysTerms U at tLanes₀ tNumbers₀ tLanes' tNumbers') more
              (lays_append (map f T) (t ∷ []) at (at + (j - right.start)) tLanes₀ tLanes tLanes' tNumbers₀ tNumbers tNumbers' (omega (arith, n, length-map T f)) s.lays g);
        }

-- ---- how many there are: a row for each term of A
pub pairs_length : (f : Term → Term → Term) (A B : List Term) → length (pairs_over floats pauli f A B) ≡ length A * length B
unfolding pairs_over
pairs_length f [] B = sym (zero-mul (length B))
pairs_length f (a ∷ A) B =
    let l = length-append (map (f a) B) (pairs_over floats pauli f A B) in
    let m = length-map B (f a) in
    let r = pairs_length f A B in
    omega (arith, l, m, r, suc-mul (length A) (length B))

-- ---- the factors of A with B, laid row by row
pub record FactorsState (k : Cx floats) (left right : Range) (at : ℕ) (lanes : List ℕ) (numbers : List Float) (tLanes₀ : List ℕ) (tNumbers₀ : List Float) (tLanes : List ℕ) (tNumbers : List Float) (i place : ℕ) : Type 0 where
  pub low : left.start ≤ i
  pub high : i ≤ left.end
  pub here : place ≡ at + (i - left.start) * (right.end - right.start)
  pub lanes_same : length tLanes ≡ length tLanes₀
  pub numbers_same : length tNumbers ≡ length tNumbers₀
  pub lays : LaysTerms (factors_of k (terms_in lanes numbers left.start i) (terms_of lanes numbers right)) at tLanes₀ tNumbers₀ tLanes tNumbers

module _ (k : Cx floats) (left right : Range) (at : ℕ) (lanes : List ℕ) (numbers : List Float) (tLanes₀ : List ℕ) (tNumbers₀ : List Float) (room : FactorsRoom left right lanes numbers at tLanes₀ tNumbers₀) where
  abbrev B : List Term
  B = terms_of lanes numbers right

  abbrev width : ℕ
  width = right.end - right.start

  pub factors_start : FactorsState k left right at lanes numbers tLanes₀ tNumbers₀ tLanes₀ tNumbers₀ left.start at
  unfolding pairs_over
  factors_start =
      let d : left.start - left.start ≡ 0 = omega arith in
      let z : (left.start - left.start) * width ≡ 0 = ap (λ (m : ℕ). m * width) d ∙ zero-mul width in
      record {
        low = omega arith;
        high = room.left_order;
        here = omega (arith, z);
        lanes_same = refl;
        numbers_same = refl;
        lays = subst⁻¹ (λ (T : List Term). LaysTerms (factors_of k T B) at tLanes₀ tNumbers₀ tLanes₀ tNumbers₀) (terms_none lanes numbers left.start) (lays_none at tLanes₀ tNumbers₀);
      }

  module _ (tLanes : List ℕ) (tNumbers : List Float) (i place : ℕ) (s : FactorsState k left right at lanes numbers tLanes₀ tNumbers₀ tLanes tNumbers i place) where
    module _ (h : i < left.end) where
      pub factors_next : (a : Term) (tLanes' : List ℕ) (tNumbers' : List Float) → a ≡ term_at lanes numbers i
          → LaysTerms (map (factor_of k a) B) place tLanes tNumbers tLanes' tNumbers' → length tLanes' ≡ length tLanes → length tNumbers' ≡ length tNumbers
          → FactorsState k left right at lanes numbers tLanes₀ tNumbers₀ tLanes' tNumbers' (i + 1) (place + width)
      factors_next a tLanes' tNumbers' e g hl hn =
          let A : List Term = terms_in lanes numbers left.start i in
          let la = terms_length lanes numbers left.start i s.low (omega (arith, room.lanes_long.0)) (omega (arith, room.numbers_long.0)) in
          let lb = terms_length lanes numbers right.start right.end room.right_order room.lanes_long.1 room.numbers_long.1 in
          let more : factors_of k (terms_in lanes numbers left.start (i + 1)) B ≡ factors_of k A B ++ map (factor_of k a) B =
          ap (λ (T : List Term). factors_of k T B) (terms_more lanes numbers left.start i s.low (omega (arith, room.lanes_long.0)) (omega (arith, room.numbers_long.0)))
          ∙ pairs_more (factor_of k) A (term_at lanes numbers i) B ∙ ap (λ (t : Term). factors_of k A B ++ map (factor_of k t) B) (sym e) in
          let long : length (factors_of k A B) ≡ (i - left.start) * width = pairs_length (factor_of k) A B ∙ ap₂ ◌*◌ la lb in
          let d : i + 1 - left.start ≡ suc (i - left.start) = omega (arith, s.low) in
          let m : (i + 1 - left.start) * width ≡ (i - left.start) * width + width = ap (λ (x : ℕ). x * width) d ∙ suc-mul (i - left.start) width in
          record {
            low = omega (arith, s.low);
            high = omega arith;
            here = omega (arith, s.here, m);
            lanes_same = hl ∙ s.lanes_same;
            numbers_same = hn ∙ s.numbers_same;
            lays = subst⁻¹ (λ (T : List Term). LaysTerms T at tLanes₀ tNumbers₀ tLanes' tNumbers') more
                (lays_append (factors_of k A B) (map (factor_of k a) B) at place tLanes₀ tLanes tLanes' tNumbers₀ tNumbers tNumbers' (omega (arith, s.here, long)) s.lays g);
          }

-- ---- the operators of a pair in the work table
module _ (left right : Range) (lanes : List ℕ) (numbers : List Float) (room : PairRoom left right lanes numbers) where
  abbrev lefts : List Term
  lefts = terms_of lanes numbers left

  abbrev rights : List Term
  rights = terms_of lanes numbers right

  abbrev many : ℕ
  many = (left.end - left.start) * (right.end - right.start)

  pub many_few : many ≤ 256
  many_few = mul-le-mul room.few.0 room.few.1

  many_is : (f : Term → Term → Term) → length (pairs_over floats pauli f lefts rights) ≡ many
  many_is f =
      pairs_length f lefts rights
      ∙ ap₂ ◌*◌ (terms_length lanes numbers left.start left.end room.left_order room.lanes_long.0 room.numbers_long.0)
      (terms_length lanes numbers right.start right.end room.right_order room.lanes_long.1 room.numbers_long.1)

  -- ---- their product
  module _ (r : ℕ) (lanes' : List ℕ) (numbers' : List Float) (forms : Forms (pairs_over floats pauli formed_term lefts rights) 0 lanes numbers r lanes' numbers') where
    abbrev left_over : List Term
    left_over = thinned (sum_rows r lanes' numbers')

    product_is : left_over ≡ formed_over floats pauli lefts rights
    unfolding formed_over formed_term
    product_is = ap thinned forms.sums

    pub product_few : r ≤ 256
    product_few = omega (arith, forms.count, length_put_all_high (pairs_over floats pauli formed_term lefts rights) (sum_rows 0 lanes numbers), many_is formed_term, many_few)

    left_few : length left_over ≤ 256
    left_few = omega (arith, product_few, without_fewer (λ c. floats.small (square floats c.num)) (sum_rows r lanes' numbers'), length-take r (rows (words lanes') (complexes numbers')))

    pub terms_are : (k : Cx floats) (own-left own-right : Range) → many + length left_over ≡ length (compile_pair k own-left own-right lefts rights).terms
    unfolding compile_pair
    terms_are k own-left own-right =
        let P : List Term = formed_over floats pauli lefts rights in
        omega (arith, many_is (factor_of k), ap length product_is, length-map P (scaled k), length-append (factors_of k lefts rights) (map (scaled k) P))

    pub pair_counted : CountsPair lefts rights (many + length left_over)
    pair_counted = record { counts = terms_are; few = omega (arith, many_few, left_few) }

    pub work_stays : WorkStays lanes numbers lanes' numbers'
    work_stays = record { lanes_stay = forms.lanes_stay; numbers_stay = forms.numbers_stay }

  -- ---- the pair stored
  module _ (k : Cx floats) (own-left own-right : Range) (j at : ℕ) (jumps : List ℕ) (rates : List Float) (tLanes : List ℕ) (tNumbers : List Float)
      (fits : JumpRoom (compile_pair k own-left own-right lefts rights) j at jumps rates tLanes tNumbers) where
    abbrev pair : Compiled
    pair = compile_pair k own-left own-right lefts rights

    factors_fit : many ≤ length pair.terms
    unfolding compile_pair
    factors_fit = omega (arith, many_is (factor_of k), length-append (factors_of k lefts rights) (product_after k lefts rights))

    pub pair_factors : FactorsRoom left right lanes numbers at tLanes tNumbers
    pair_factors = record {
      left_order = room.left_order;
      right_order = room.right_order;
      lanes_long = room.lanes_long;
      numbers_long = room.numbers_long;
      lanes_room = omega (arith, fits.lanes_room, factors_fit);
      numbers_room = omega (arith, fits.numbers_room, factors_fit);
    }

    module _ (tLanes' : List ℕ) (tNumbers' : List Float) (lays : LaysTerms (factors_of k lefts rights) at tLanes tNumbers tLanes' tNumbers')
        (r : ℕ) (workLanes : List ℕ) (workNumbers : List Float) (forms : Forms (pairs_over floats pauli formed_term lefts rights) 0 lanes numbers r workLanes workNumbers) where
      abbrev over : List Term
      over = thinned (sum_rows r workLanes workNumbers)

      pub pair_keeps : length workLanes ≡ length lanes → length workNumbers ≡ length numbers → length tLanes' ≡ length tLanes → length tNumbers' ≡ length tNumbers
          → KeepRoom r workLanes workNumbers (at + many) tLanes' tNumbers'
      pair_keeps wl wn el en =
          let few : r ≤ 256 = product_few r workLanes workNumbers forms in
          let all : many + length over ≡ length pair.terms = terms_are r workLanes workNumbers forms k own-left own-right in
          record {
            lanes_long = omega (arith, wl, few, room.lanes_long.0, room.left_past, room.left_order);
            numbers_long = omega (arith, wn, few, room.numbers_long.0, room.left_past, room.left_order);
            lanes_room = omega (arith, el, all, fits.lanes_room);
            numbers_room = omega (arith, en, all, fits.numbers_room);
          }

      pub pair_stored : (jumps' : List ℕ) (rates' : List Float) (last : ℕ) (tLanes'' : List ℕ) (tNumbers'' : List Float)
          → Keeps (map (scaled k) over) (at + many) tLanes' tNumbers' last tLanes'' tNumbers''
          → jumps' ≡ lay_entry jumps j (entry 2 own-left own-right at (range (at + many) last)) → rates' ≡ set rates j float0
          → StoresJump pair j at jumps rates tLanes tNumbers last jumps' rates' tLanes'' tNumbers''
      unfolding compile_pair
      pair_stored jumps' rates' last tLanes'' tNumbers'' keeps entry-is rate-is =
          let F : List Term = factors_of k lefts rights in
          let P : List Term = product_after k lefts rights in
          let after : map (scaled k) over ≡ P = ap (map (scaled k)) (product_is r workLanes workNumbers forms) in
          let here : at + many ≡ at + length F = ap (λ (m : ℕ). at + m) (sym (many_is (factor_of k))) in
          let ends : last ≡ at + length F + length P = keeps.end ∙ ap₂ ◌+◌ here (ap length after) in
          record {
            end = omega (arith, ends, length-append F P);
            entry_is = entry-is ∙ ap₂ (λ (m e : ℕ). lay_entry jumps j (entry 2 own-left own-right at (range m e))) here ends;
            rate_is = rate-is;
            lays = lays_append F P at (at + many) tLanes tLanes' tLanes'' tNumbers tNumbers' tNumbers'' here lays
                (subst (λ (T : List Term). LaysTerms T (at + many) tLanes' tNumbers' tLanes'' tNumbers'') after keeps.lays);
          }
