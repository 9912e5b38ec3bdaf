-- SPDX-FileCopyrightText: 2026 The PPVM Authors
-- SPDX-License-Identifier: Apache-2.0

-- A hop and an evolution of lent tables, one behind the other, are a leg of plain lists. Assumes nothing.
use mathlib.Core.Path.{◌≡◌, refl, sym, ap, ap₂, subst, ◌∙◌}
use mathlib.Core.Bool.{Bool, true, false, not, ◌&&◌}
use mathlib.Core.List.{List, [], ◌∷◌, ◌++◌, append-nil}
use Prim.Native.Nat.{ℕ, ◌+◌}
use native.Mathlib.Omega.{arith}
use borrow.Author.Tests.{eqb-true, eqb-false, eq-eqb, ne_eqb}
use lib.Dec.{eqb}
use lib.Ieee.{Float}
use lib.ListN.{length, take, replicate, length-replicate}
use Rattle.refusal.specs.declared.Refusal.{Refusal}
use Rattle.word.specs.Flat.{words}
use Rattle.word.specs.declared.word.Word.{Word}
use Rattle.number.specs.Floats.{float0}
use Rattle.lent.specs.Read.{Read, got, refused}
use Rattle.std.specs.Prelude.{Result, Ok, Err}
use Rattle.step_parts.specs.declared.taken.Step.{Step}
use Rattle.step_laws.specs.Steps.{Outcome, Stepped, with_zeros}
use Rattle.step_laws.specs.Passing.{AreFinite, GoodWords}
use Rattle.step_parts.specs.Lent.{Work}
use Rattle.step_parts.specs.Between.{Shared, shared_of, none, Holds, Entered, Hops, EvolvesTo, leg_by, Ended, Ends}
use Rattle.step_legs.specs.Between.{Follows}

-- ---- answers
taken_not : (q : Refusal) (k products : ℕ) → ◌≡◌ {A = Result Step Refusal} (Err q) (Ok (record { entries = k; products = products })) → ⊥
taken_not q k products e = let z : ◌≡◌ {A = ℕ} 0 1 = cc in omega arith

same_taken : (j k a b : ℕ) → ◌≡◌ {A = Result Step Refusal} (Ok (record { entries = j; products = a })) (Ok (record { entries = k; products = b })) → (j ≡ k) × (a ≡ b)
same_taken j k a b e =
    let h : ◌≡◌ {A = Step} (record { entries = j; products = a }) (record { entries = k; products = b }) = cc in
    (ap (λ (x : Step). x.entries) h, ap (λ (x : Step). x.products) h)

same_refused : {A : Type 0} (q r : Refusal) → ◌≡◌ {A = Result A Refusal} (Err q) (Err r) → q ≡ r
same_refused q r e = cc

module _ (plain : Read Stepped) (n places len : ℕ) (start : List Float) (w' : Work) where
  ends_refused : (q : Refusal) → plain ≡ refused q → Ends plain n places len start (Err q) w'
  ends_refused q f = record {
    ended = λ k products e. absurd (taken_not q k products e);
    stops = λ r e. f ∙ ap refused (same_refused q r e);
  }

  ends_taken : (k products : ℕ) → Ended plain n places len k products start w' → Ends plain n places len start (Ok (record { entries = k; products = products })) w'
  ends_taken k products h = record {
    ended = λ j more e.
        let s = same_taken k j products more e in
        subst (λ (i : ℕ). Ended plain n places len i more start w') s.0 (subst (λ (i : ℕ). Ended plain n places len k i start w') s.1 h);
    stops = λ q e. absurd (taken_not q k products (sym e));
  }

-- ---- over plain lists
module _ (entering : List Word → List Float → Read (List Word)) (evolving : List Word → List Float → Read Outcome) (always : Bool) (ws : List Word) (start numbers : List Float) where
  abbrev leg : Read Stepped
  leg = leg_by entering evolving always ws start numbers

  hop_refused : (q : Refusal) → entering ws numbers ≡ refused q → leg ≡ refused q
  unfolding leg_by
  hop_refused q e = rw e

  module _ (us : List Word) (e : entering ws numbers ≡ got us) where
    leg_stays : (not always && eqb (length us) 0) ≡ true → leg ≡ got (record { words = ws; numbers = numbers; products = 0 })
    unfolding leg_by
    leg_stays b = rw (e, b)

    module _ (goes : (not always && eqb (length us) 0) ≡ false) where
      leg_stops : (q : Refusal) → evolving (ws ++ us) (with_zeros start (ws ++ us)) ≡ refused q → leg ≡ refused q
      unfolding leg_by
      leg_stops q f = rw (e, goes, f)

      leg_goes : (o : Outcome) → evolving (ws ++ us) (with_zeros start (ws ++ us)) ≡ got o → leg ≡ got (record { words = ws ++ us; numbers = o.numbers; products = o.products })
      unfolding leg_by
      leg_goes o f = rw (e, goes, f)

nothing : (ws us : List Word) → length us ≡ 0 → ws ++ us ≡ ws
nothing ws [] z = append-nil ws
nothing ws (u ∷ us) z = absurd (omega arith)

both_right : (a b : Bool) → (a && b) ≡ true → b ≡ true
both_right true b e = e
both_right false b e = absurd (let z : ◌≡◌ {A = Bool} true false = sym e in let y : ◌≡◌ {A = ℕ} 0 1 = cc in omega arith)

-- whether any word entered goes by the length of the basis
entered_none : (always : Bool) (len count k : ℕ) → count ≡ len + k → (not always && eqb count len) ≡ (not always && eqb k 0)
entered_none true len count k e = refl
entered_none false len count k e = go (eqb count len) refl
  where
    go : (b : Bool) → eqb count len ≡ b → eqb count len ≡ eqb k 0
    go true f = f ∙ sym (eq-eqb k 0 (let z : count ≡ len = eqb-true count len f in omega (arith, e, z)))
    go false f = f ∙ sym (ne_eqb k 0 (λ z. eqb-false count len f (omega (arith, e, z))))

-- ---- over tables
module _ (entering : List Word → List Float → Read (List Word)) (evolving : List Word → List Float → Read Outcome) (always : Bool) (n places len : ℕ) (w : Work) where
  abbrev ws : List Word
  ws = take len (words w.grown_words)

  abbrev start : List Float
  start = take len w.start

  abbrev numbers : List Float
  numbers = take len w.evolved

  abbrev plain : Read Stepped
  plain = leg_by entering evolving always ws start numbers

  module _ (w₁ : Work) where
    -- no word may enter: the hop was refused
    ends_hop : (q : Refusal) → Hops (entering ws numbers) n places len w.grown_words w.start (Err q) w₁.grown_words w₁.start → Ends plain n places len start (Err q) w₁
    ends_hop q h = ends_refused plain n places len start w₁ q (hop_refused entering evolving always ws start numbers q (h.stops q refl))

    module _ (count : ℕ) (h : Entered (entering ws numbers) n places len count w.grown_words w.start w₁.grown_words w₁.start) where
      -- none entered, and that is all
      ends_there : Holds n places len w.grown_words w.start w.evolved → w₁.evolved ≡ w.evolved → (not always && eqb count len) ≡ true → Ends plain n places len start (Ok (record { entries = count; products = 0 })) w₁
      ends_there held same b =
          let b₁ : (not always && eqb (length h.entered) 0) ≡ true = sym (entered_none always len count (length h.entered) h.count) ∙ b in
          let z : length h.entered ≡ 0 = eqb-true (length h.entered) 0 (both_right (not always) _ b₁) in
          let ew : take count (words w₁.grown_words) ≡ ws = h.words_are ∙ nothing ws h.entered z in
          let ec : count ≡ len = omega (arith, h.count, z) in
          let en : take count w₁.evolved ≡ numbers = ap₂ (λ (k : ℕ) (xs : List Float). take k xs) ec same in
          ends_taken plain n places len start w₁ count 0
          (record {
            is = leg_stays entering evolving always ws start numbers h.entered h.is b₁
                ∙ ap₂ (λ (us : List Word) (xs : List Float). got (record { words = us; numbers = xs; products = 0 })) (sym ew) (sym en);
            start_is = h.start_is ∙ ap (with_zeros start) (sym h.words_are);
            holds = record { good = h.good; start_finite = h.start_finite; evolved_finite = subst AreFinite (sym en) held.evolved_finite; inside = h.inside };
            few = omega arith;
            grows = omega (arith, h.count);
            any = h.any;
          })

      -- and else the numbers are evolved
      module _ (goes : (not always && eqb count len) ≡ false) (w₂ : Work) (eg : w₂.grown_words ≡ w₁.grown_words) (es : w₂.start ≡ w₁.start) where
        goes₁ : (not always && eqb (length h.entered) 0) ≡ false
        goes₁ = sym (entered_none always len count (length h.entered) h.count) ∙ goes

        words₂ : take count (words w₂.grown_words) ≡ ws ++ h.entered
        words₂ = ap (λ (l : List ℕ). take count (words l)) eg ∙ h.words_are

        start₂ : take count w₂.start ≡ with_zeros start (ws ++ h.entered)
        start₂ = ap (take count) es ∙ h.start_is

        evolves_over : evolving (take count (words w₁.grown_words)) (take count w₁.start) ≡ evolving (ws ++ h.entered) (with_zeros start (ws ++ h.entered))
        evolves_over = ap₂ evolving h.words_are h.start_is

        ends_evolved : (r : Result Step Refusal) → EvolvesTo (evolving (take count (words w₁.grown_words)) (take count w₁.start)) count r w₂.evolved → Ends plain n places len start r w₂
        ends_evolved r v = record {
          ended = λ k products e.
              let o = v.taken k products e in
              subst (λ (i : ℕ). Ended plain n places len i products start w₂) (sym o.0)
              (record {
                is = leg_goes entering evolving always ws start numbers h.entered h.is goes₁ _ (sym evolves_over ∙ o.1.is)
                    ∙ ap (λ (us : List Word). got (record { words = us; numbers = take count w₂.evolved; products = products })) (sym words₂);
                start_is = start₂ ∙ ap (with_zeros start) (sym words₂);
                holds = record {
                  good = subst (GoodWords n) (h.words_are ∙ sym words₂) h.good;
                  start_finite = subst AreFinite (h.start_is ∙ sym start₂) h.start_finite;
                  evolved_finite = o.1.finite;
                  inside = h.inside;
                };
                few = o.1.few;
                grows = omega (arith, h.count);
                any = h.any;
              });
          stops = λ q e. leg_stops entering evolving always ws start numbers h.entered h.is goes₁ q (sym evolves_over ∙ v.stops q e);
        }

  -- a hop, and what follows it, in tables that the second leaves the basis in
  module _ (held : Holds n places len w.grown_words w.start w.evolved) (w₁ w₂ : Work) (unchanged : w₁.evolved ≡ w.evolved) (eg : w₂.grown_words ≡ w₁.grown_words) (es : w₂.start ≡ w₁.start) where
    pub leg_is : (hopped : Result ℕ Refusal) → Hops (entering ws numbers) n places len w.grown_words w.start hopped w₁.grown_words w₁.start → (r : Result Step Refusal) → Follows hopped always len r w₁.evolved w₂.evolved
        → ((k : ℕ) → hopped ≡ Ok k → (not always && eqb k len) ≡ false → EvolvesTo (evolving (take k (words w₁.grown_words)) (take k w₁.start)) k r w₂.evolved)
        → Ends plain n places len start r w₂
    leg_is (Err q) h r f v =
        subst (λ (x : Result Step Refusal). Ends plain n places len start x w₂) (sym (f.turned q refl).0) (ends_hop w₂ q (subst (λ (l : List ℕ). Hops (entering ws numbers) n places len w.grown_words w.start (Err q) l w₂.start) (sym eg) (subst (λ (xs : List Float). Hops (entering ws numbers) n places len w.grown_words w.start (Err q) w₁.grown_words xs) (sym es) h)))
    leg_is (Ok k) h r f v = go (not always && eqb k len) refl
      where
        go : (b : Bool) → (not always && eqb k len) ≡ b → Ends plain n places len start r w₂
        go true e =
            let s = f.stays k refl e in
            subst (λ (x : Result Step Refusal). Ends plain n places len start x w₂) (sym s.0)
            (ends_there w₂ k
            (subst (λ (l : List ℕ). Entered (entering ws numbers) n places len k w.grown_words w.start l w₂.start) (sym eg) (subst (λ (xs : List Float). Entered (entering ws numbers) n places len k w.grown_words w.start w₁.grown_words xs) (sym es) (h.enters k refl)))
            held (s.1 ∙ unchanged) e)
        go false e = ends_evolved w₁ k (h.enters k refl) e w₂ eg es r (v k refl e)

-- ---- the tables afterwards
again : {A : Type 0} (x : A) (k : ℕ) (l : List A) → l ≡ replicate k x → replicate (length l) x ≡ replicate k x
again x k l e = ap (λ (i : ℕ). replicate i x) (ap length e ∙ length-replicate k x)

-- an evolution leaves zero in those that it shares with a hop
pub clear_evolved : (w w₁ w₂ : Work) → shared_of w₁ ≡ none (shared_of w)
    → w₂.h_index ≡ replicate (length w₁.h_index) 0 → w₂.j_index ≡ replicate (length w₁.j_index) 0 → w₂.mask ≡ replicate (length w₁.mask) 0
    → w₂.work_words ≡ replicate (length w₁.work_words) 0 → w₂.work_sums ≡ replicate (length w₁.work_sums) float0
    → w₂.heads ≡ replicate (length w₁.heads) 0 → w₂.nexts ≡ replicate (length w₁.nexts) 0 → w₂.cand_sums ≡ replicate (length w₁.cand_sums) float0
    → w₂.place_order ≡ replicate (length w₁.place_order) 0 → w₂.list_values ≡ replicate (length w₁.list_values) float0
    → w₂.order ≡ w₁.order → w₂.cand_words ≡ w₁.cand_words → w₂.place_work ≡ w₁.place_work → w₂.list_words ≡ w₁.list_words
    → shared_of w₂ ≡ none (shared_of w)
clear_evolved w w₁ w₂ e eh ej em eww ews ehe ene ecs epo elv eo ecw epw elw =
    rw (
      eh ∙ again 0 (length w.h_index) w₁.h_index (ap (λ (s : Shared). s.h_index) e),
      ej ∙ again 0 (length w.j_index) w₁.j_index (ap (λ (s : Shared). s.j_index) e),
      em ∙ again 0 (length w.mask) w₁.mask (ap (λ (s : Shared). s.mask) e),
      eww ∙ again 0 (length w.work_words) w₁.work_words (ap (λ (s : Shared). s.work_words) e),
      ews ∙ again float0 (length w.work_sums) w₁.work_sums (ap (λ (s : Shared). s.work_sums) e),
      ehe ∙ again 0 (length w.heads) w₁.heads (ap (λ (s : Shared). s.heads) e),
      ene ∙ again 0 (length w.nexts) w₁.nexts (ap (λ (s : Shared). s.nexts) e),
      ecs ∙ again float0 (length w.cand_sums) w₁.cand_sums (ap (λ (s : Shared). s.cand_sums) e),
      epo ∙ again 0 (length w.place_order) w₁.place_order (ap (λ (s : Shared). s.place_order) e),
      elv ∙ again float0 (length w.list_values) w₁.list_values (ap (λ (s : Shared). s.list_values) e),
      eo ∙ ap (λ (s : Shared). s.order) e,
      ecw ∙ ap (λ (s : Shared). s.cand_words) e,
      epw ∙ ap (λ (s : Shared). s.place_work) e,
      elw ∙ ap (λ (s : Shared). s.list_words) e,
    )
