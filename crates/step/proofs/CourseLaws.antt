-- SPDX-FileCopyrightText: 2026 The PPVM Authors
-- SPDX-License-Identifier: Apache-2.0

-- A leg that always evolves, and behind it one that does if any word entered, are the course of a step. Assumes nothing.
use mathlib.Core.Path.{◌≡◌, refl, sym, ap, ap₂, subst, ◌∙◌}
use mathlib.Core.Bool.{Bool, true, false, cond}
use mathlib.Core.List.{List, [], ◌++◌}
use Prim.Native.Nat.{ℕ, ◌+◌, ◌*◌, ◌≤◌, ◌<◌}
use native.Mathlib.Omega.{arith}
use borrow.Author.Tests.{lt-ltb, le-ltb}
use lib.Dec.{eqb, ltb}
use lib.Ieee.{Float}
use lib.ListN.{length, take, length-append}
use lib.Seq.{length-take-le}
use Rattle.refusal.specs.declared.Refusal.{Refusal}
use Rattle.word.specs.Flat.{words, word_lanes}
use Rattle.word.specs.declared.word.Word.{Word}
use Rattle.word.proofs.FlatLaws.{words_high}
use Rattle.lent.specs.Read.{Read, got, refused, onward}
use Rattle.limits.specs.Defaults.{limit_of}
use Rattle.step_laws.specs.Steps.{Outcome, Stepped, with_zeros, second_hop, corrector, predictor, course_by}
use Rattle.step_laws.proofs.CourseLaws.{no_value, same_value, through}
use Rattle.step_laws.proofs.GrownLaws.{zeros_again}
use Rattle.step_parts.specs.Lent.{Work}
use Rattle.step_parts.specs.Between.{shared_of, none, Holds, leg_by, Ended, Ends, grown}
use Rattle.std.specs.Prelude.{Result, Err, Ok}
use Rattle.step_parts.specs.declared.taken.Step.{Step}
use Rattle.step.specs.Between.{Start, grown_to, given_words, given_numbers, entering, evolving, first_leg, course, Courses, products_in, added_to}

-- ---- over plain lists
module _ (entering : List Word → List Float → Read (List Word)) (evolving : List Word → List Float → Read Outcome) (limit : ℕ) (ws : List Word) (cs : List Float) where
  abbrev first : Read Stepped
  first = leg_by entering evolving true ws cs cs

  abbrev whole : Read Stepped
  whole = course_by entering evolving limit ws cs

  abbrev over : List Word → Outcome → Stepped
  over us o = record { words = us; numbers = o.numbers; products = o.products }

  course_stops : (q : Refusal) → first ≡ refused q → whole ≡ refused q
  unfolding leg_by course_by predictor
  course_stops q e = hops (entering ws cs) refl e
    where
      evolves : (us : List Word) (r : Read Outcome) → evolving (ws ++ us) (with_zeros cs (ws ++ us)) ≡ r
          → onward r (λ o. got (over (ws ++ us) o)) ≡ refused q → predictor entering evolving limit cs (ws ++ us) ≡ refused q
      evolves us (got o) i f = absurd (no_value q _ (sym f))
      evolves us (refused p) i f = rw i f

      hops : (r : Read (List Word)) → entering ws cs ≡ r
          → onward r (λ us. onward (evolving (ws ++ us) (with_zeros cs (ws ++ us))) (λ o. got (over (ws ++ us) o))) ≡ refused q
          → onward r (λ us. predictor entering evolving limit cs (ws ++ us)) ≡ refused q
      hops (got us) i f = evolves us (evolving (ws ++ us) (with_zeros cs (ws ++ us))) refl f
      hops (refused p) i f = f

  -- the second leg, and the products of both
  abbrev second : Stepped → Read Stepped
  second s = leg_by entering evolving false s.words (with_zeros cs s.words) s.numbers

  abbrev both : ℕ → Stepped → Stepped
  both products r = record { words = r.words; numbers = r.numbers; products = products + r.products }

  abbrev rest : Stepped → Read Stepped
  rest s = cond (ltb (length s.words) limit) (onward (second s) (λ r. got (both s.products r))) (got s)

  module _ (long : length cs ≤ length ws) (us : List Word) (o : Outcome) where
    abbrev vs : List Word
    vs = ws ++ us

    abbrev now : Stepped
    now = record { words = vs; numbers = o.numbers; products = o.products }

    evolves : (xs : List Word) (r : Read Outcome) → onward r (λ c. got (record { words = vs ++ xs; numbers = c.numbers; products = o.products + c.products }))
        ≡ onward (onward r (λ c. got (record { words = vs ++ xs; numbers = c.numbers; products = c.products }))) (λ s. got (both o.products s))
    evolves xs (got c) = refl
    evolves xs (refused q) = refl

    corrects : (xs : List Word) (b : Bool) → cond b (got now) (onward (evolving (vs ++ xs) (with_zeros cs (vs ++ xs))) (λ c. got (record { words = vs ++ xs; numbers = c.numbers; products = o.products + c.products })))
        ≡ onward (cond b (got (record { words = vs; numbers = o.numbers; products = 0 })) (onward (evolving (vs ++ xs) (with_zeros (with_zeros cs vs) (vs ++ xs))) (λ c. got (record { words = vs ++ xs; numbers = c.numbers; products = c.products })))) (λ s. got (both o.products s))
    corrects xs true = ap (λ (k : ℕ). got (record { words = vs; numbers = o.numbers; products = k })) (omega arith)
    corrects xs false =
        rw (zeros_again cs vs (vs ++ xs) (omega (arith, long, length-append ws us)) (omega (arith, length-append vs xs))) (evolves xs (evolving (vs ++ xs) (with_zeros cs (vs ++ xs))))

    hops : (r : Read (List Word)) → onward r (λ xs. cond (eqb (length xs) 0) (got now) (onward (evolving (vs ++ xs) (with_zeros cs (vs ++ xs))) (λ c. got (record { words = vs ++ xs; numbers = c.numbers; products = o.products + c.products }))))
        ≡ onward (onward r (λ xs. cond (eqb (length xs) 0) (got (record { words = vs; numbers = o.numbers; products = 0 })) (onward (evolving (vs ++ xs) (with_zeros (with_zeros cs vs) (vs ++ xs))) (λ c. got (record { words = vs ++ xs; numbers = c.numbers; products = c.products }))))) (λ s. got (both o.products s))
    hops (got xs) = corrects xs (eqb (length xs) 0)
    hops (refused q) = refl

    room : (b : Bool) → onward (cond b (entering vs o.numbers) (got [])) (λ xs. cond (eqb (length xs) 0) (got now) (onward (evolving (vs ++ xs) (with_zeros cs (vs ++ xs))) (λ c. got (record { words = vs ++ xs; numbers = c.numbers; products = o.products + c.products }))))
        ≡ cond b (onward (onward (entering vs o.numbers) (λ xs. cond (eqb (length xs) 0) (got (record { words = vs; numbers = o.numbers; products = 0 })) (onward (evolving (vs ++ xs) (with_zeros (with_zeros cs vs) (vs ++ xs))) (λ c. got (record { words = vs ++ xs; numbers = c.numbers; products = c.products }))))) (λ s. got (both o.products s))) (got now)
    room true = hops (entering vs o.numbers)
    room false = refl

    predicted : onward (second_hop entering evolving limit (ws ++ us) o.numbers) (corrector entering evolving limit cs (ws ++ us) o)
        ≡ rest (record { words = ws ++ us; numbers = o.numbers; products = o.products })
    unfolding leg_by second_hop corrector
    predicted = room (ltb (length vs) limit)

  course_goes : length cs ≤ length ws → (s : Stepped) → first ≡ got s → whole ≡ rest s
  unfolding leg_by course_by predictor
  course_goes long s e =
      let a = through (entering ws cs) (λ (us : List Word). onward (evolving (ws ++ us) (with_zeros cs (ws ++ us))) (λ o. got (over (ws ++ us) o))) s e in
      let b = through (evolving (ws ++ a.value) (with_zeros cs (ws ++ a.value))) (λ o. got (over (ws ++ a.value) o)) s a.behind in
      rw (a.before, b.before) (predicted long a.value b.value ∙ ap rest (same_value _ s b.behind))

-- ---- over tables
pub taken_not : (q : Refusal) (k products : ℕ) → ◌≡◌ {A = Result Step Refusal} (Err q) (Ok (record { entries = k; products = products })) → ⊥
taken_not q k products e = let z : ◌≡◌ {A = ℕ} 0 1 = cc in omega arith

pub same_taken : (j k a b : ℕ) → ◌≡◌ {A = Result Step Refusal} (Ok (record { entries = j; products = a })) (Ok (record { entries = k; products = b })) → (j ≡ k) × (a ≡ b)
same_taken j k a b e =
    let h : ◌≡◌ {A = Step} (record { entries = j; products = a }) (record { entries = k; products = b }) = cc in
    (ap (λ (x : Step). x.entries) h, ap (λ (x : Step). x.products) h)

module _ (s : Start) (w' : Work) (clear : shared_of w' ≡ none (shared_of s.work)) where
  -- a refusal of a leg is that of the course
  stopped : (r : Result Step Refusal) (q : Refusal) → r ≡ Err q → ((p : Refusal) → r ≡ Err p → course s ≡ refused p) → Courses s r w'
  stopped r q e f = record {
    told = record { taken = λ k products i. absurd (taken_not q k products (sym e ∙ i)); stops = f };
    holds = λ k products i. absurd (taken_not q k products (sym e ∙ i));
    clear = clear;
  }

  -- what a leg left is what the course leaves
  ended : (k products : ℕ) → course s ≡ got (grown k w'.grown_words w'.evolved products) → Holds s.model.qubits (grown_to s) k w'.grown_words w'.start w'.evolved → (0 < k → 0 < s.len) → Courses s (Ok (record { entries = k; products = products })) w'
  ended k products is h any = record {
    told = record {
      taken = λ j more e.
          let t = same_taken k j products more e in
          is ∙ ap₂ (λ (i : ℕ) (p : ℕ). got (grown i w'.grown_words w'.evolved p)) t.0 t.1;
      stops = λ q e. absurd (taken_not q k products (sym e));
    };
    holds = λ j more e.
        let t = same_taken k j products more e in
        subst (λ (i : ℕ). Holds s.model.qubits (grown_to s) i w'.grown_words w'.start w'.evolved × (0 < i → 0 < s.len)) t.0 (h, any);
    clear = clear;
  }

module _ (s : Start) (each : length (given_numbers s) ≤ length (given_words s)) (w₁ : Work) (r₁ : Result Step Refusal) (l : Ends (first_leg s) s.model.qubits (grown_to s) s.len (given_numbers s) r₁ w₁) where
  pub course_refused : shared_of w₁ ≡ none (shared_of s.work) → (q : Refusal) → r₁ ≡ Err q → Courses s r₁ w₁
  course_refused clear q e = stopped s w₁ clear r₁ q e (λ p i. course_stops (entering s) (evolving s) (limit_of s.limits) (given_words s) (given_numbers s) p (l.stops p i))

  module _ (k products : ℕ) (told : r₁ ≡ Ok (record { entries = k; products = products })) (long : word_lanes * k ≤ length w₁.grown_words) where
    h : Ended (first_leg s) s.model.qubits (grown_to s) s.len k products (given_numbers s) w₁
    h = l.ended k products told

    abbrev stood : Stepped
    stood = grown k w₁.grown_words w₁.evolved products

    abbrev again : Read Stepped
    again = onward (second (entering s) (evolving s) (limit_of s.limits) (given_words s) (given_numbers s) stood) (λ r. got (both (entering s) (evolving s) (limit_of s.limits) (given_words s) (given_numbers s) products r))

    course_rest : course s ≡ rest (entering s) (evolving s) (limit_of s.limits) (given_words s) (given_numbers s) stood
    course_rest = course_goes (entering s) (evolving s) (limit_of s.limits) (given_words s) (given_numbers s) each stood h.is

    words_count : length (take k (words w₁.grown_words)) ≡ k
    words_count = length-take-le k (words w₁.grown_words) (omega (arith, long, words_high w₁.grown_words))

    -- no room for a second hop
    pub course_full : shared_of w₁ ≡ none (shared_of s.work) → limit_of s.limits ≤ k → Courses s r₁ w₁
    course_full clear full =
        subst (λ (r : Result Step Refusal). Courses s r w₁) (sym told)
        (ended s w₁ clear k products
        (course_rest ∙ ap (λ (b : Bool). cond b again (got stood)) (le-ltb (length stood.words) (limit_of s.limits) (omega (arith, full, words_count))))
        h.holds h.any)

    module _ (room : k < limit_of s.limits) (w₂ : Work) (clear : shared_of w₂ ≡ none (shared_of s.work)) where
      course_second : course s ≡ again
      course_second = course_rest ∙ ap (λ (b : Bool). cond b again (got stood)) (lt-ltb (length stood.words) (limit_of s.limits) (omega (arith, room, words_count)))

      second_is : second (entering s) (evolving s) (limit_of s.limits) (given_words s) (given_numbers s) stood ≡ leg_by (entering s) (evolving s) false (take k (words w₁.grown_words)) (take k w₁.start) (take k w₁.evolved)
      second_is = ap (λ (xs : List Float). leg_by (entering s) (evolving s) false (take k (words w₁.grown_words)) xs (take k w₁.evolved)) (sym h.start_is)

      pub course_both : (r₂ : Result Step Refusal) → Ends (leg_by (entering s) (evolving s) false (take k (words w₁.grown_words)) (take k w₁.start) (take k w₁.evolved)) s.model.qubits (grown_to s) k (take k w₁.start) r₂ w₂ → Courses s (added_to r₁ r₂) w₂
      course_both (Err q) l₂ =
          stopped s w₂ clear (Err q) q refl
          (λ p i. course_second ∙ ap (λ (x : Read Stepped). onward x (λ r. got (both (entering s) (evolving s) (limit_of s.limits) (given_words s) (given_numbers s) products r))) (second_is ∙ l₂.stops p i))
      course_both (Ok step) l₂ =
          let h₂ = l₂.ended step.entries step.products refl in
          subst (λ (i : ℕ). Courses s (Ok (record { entries = step.entries; products = (i + step.products) })) w₂) (sym (ap products_in told))
          (ended s w₂ clear step.entries (products + step.products)
          (course_second ∙ ap (λ (x : Read Stepped). onward x (λ r. got (both (entering s) (evolving s) (limit_of s.limits) (given_words s) (given_numbers s) products r))) (second_is ∙ h₂.is))
          h₂.holds (λ a. h.any (h₂.any a)))
