-- SPDX-FileCopyrightText: 2026 The PPVM Authors
-- SPDX-License-Identifier: Apache-2.0

-- What the call of a step answers is what the step over plain lists says: so what holds of that, who stays and how many, holds of the call.
-- And what a refusal leaves. Assumes nothing.
use Rattle.std.specs.Prelude.{Result}
use mathlib.Core.Path.{◌≡◌, refl, sym, ap, ◌∙◌}
use mathlib.Core.List.{List}
use Prim.Native.Nat.{ℕ}
use lib.Ieee.{Float}
use lib.ListN.{length, take}
use Rattle.refusal.specs.declared.Refusal.{Refusal}
use Rattle.std.specs.Prelude.{Ok, Err}
use Rattle.refusal.specs.Cause.{Answer}
use Rattle.word.specs.Flat.{words}
use Rattle.model.specs.Stored.{ModelTables}
use Rattle.model.specs.declared.stored.Model.{Model}
use Rattle.lent.specs.Read.{Read, got, refused, onward}
use Rattle.limits.specs.declared.Limits.{Limits}
use Rattle.step_laws.specs.Steps.{Stepped, course_of, before_cap, step_of}
use Rattle.step_parts.specs.Lent.{Work, zeroed, places_of}
use Rattle.step_parts.specs.Ends.{kept, ending}
use Rattle.step.specs.Between.{start_of, tests_of}
use Rattle.step.specs.Calls.{Stepping, tested, step}
use Rattle.step.proofs.CourseLaws.{taken_not, same_taken}

same_refusal : {A : Type 0} (q r : Refusal) → ◌≡◌ {A = Result A Refusal} (Err q) (Err r) → q ≡ r
same_refusal q r e = cc

module _ (m : Model) (t : ModelTables) (lanes : List ℕ) (coeffs : List Float) (len : ℕ) (protected : List ℕ) (l : Limits) (dt dropTol : Float) (w : Work) where
  abbrev call : Stepping
  call = step m t lanes coeffs len protected l dt dropTol w

  abbrev plain : Read Stepped
  plain = step_of m t (words protected) dt (places_of lanes coeffs protected w) l dropTol (take len (words lanes)) (take len coeffs)

  abbrev course : Read Stepped
  course = course_of m t (words protected) dt (places_of lanes coeffs protected w) l dropTol (take len (words lanes)) (take len coeffs)

  abbrev tests : Answer
  tests = tests_of (start_of m t lanes coeffs len protected l dt dropTol w)

  plain_is : (c : Read Stepped) → course ≡ c → plain ≡ onward c (λ g. got (kept (words protected) dropTol l.max_basis g))
  unfolding step_of before_cap
  plain_is (got g) e = rw e
  plain_is (refused q) e = rw e

  -- accepted: the step over plain lists is accepted too, with as many words and products
  pub record Takes (k products : ℕ) : Type 0 where
    pub basis : Stepped
    pub is : plain ≡ got basis
    pub count : k ≡ length basis.words
    pub took : products ≡ basis.products

  -- refused by a test, with nothing changed, or by a part, with zero in the work tables and nothing else changed
  pub data Turned (q : Refusal) : Type 0 where
    by_test : tests ≡ Err q → call ≡ record { answer = Err q; lanes = lanes; coeffs = coeffs; work = w } → Turned q
    by_part : plain ≡ refused q → call ≡ record { answer = Err q; lanes = lanes; coeffs = coeffs; work = zeroed w } → Turned q

  call_is : (a : Answer) (c : Read Stepped) → tests ≡ a → course ≡ c → call ≡ tested lanes coeffs w a (ending (words protected) dropTol l.max_basis lanes coeffs c)
  unfolding step
  call_is a c e f = rw (e, f)

  pub step_takes : (k products : ℕ) → call.answer ≡ Ok (record { entries = k; products = products }) → Takes k products
  step_takes k products e = go tests course refl refl
    where
      go : (a : Answer) (c : Read Stepped) → tests ≡ a → course ≡ c → Takes k products
      go (Err q) c f g = absurd (taken_not q k products (sym (ap (λ (x : Stepping). x.answer) (call_is (Err q) c f g)) ∙ e))
      go (Ok _) (refused q) f g = absurd (taken_not q k products (sym (ap (λ (x : Stepping). x.answer) (call_is (Ok tt) (refused q) f g)) ∙ e))
      go (Ok _) (got s) f g =
          let b : Stepped = kept (words protected) dropTol l.max_basis s in
          let h = same_taken (length b.words) k b.products products (sym (ap (λ (x : Stepping). x.answer) (call_is (Ok tt) (got s) f g)) ∙ e) in
          record { basis = b; is = plain_is (got s) g; count = sym h.0; took = sym h.1 }

  pub step_turned : (q : Refusal) → call.answer ≡ Err q → Turned q
  step_turned q e = go tests course refl refl
    where
      go : (a : Answer) (c : Read Stepped) → tests ≡ a → course ≡ c → Turned q
      go (Err r) c f g =
          let h : r ≡ q = same_refusal r q (sym (ap (λ (x : Stepping). x.answer) (call_is (Err r) c f g)) ∙ e) in
          by_test (f ∙ ap Err h) (call_is (Err r) c f g ∙ ap (λ (x : Refusal). record { answer = Err x; lanes = lanes; coeffs = coeffs; work = w }) h)
      go (Ok _) (refused r) f g =
          let h : r ≡ q = same_refusal r q (sym (ap (λ (x : Stepping). x.answer) (call_is (Ok tt) (refused r) f g)) ∙ e) in
          by_part (plain_is (refused r) g ∙ ap refused h) (call_is (Ok tt) (refused r) f g ∙ ap (λ (x : Refusal). record { answer = Err x; lanes = lanes; coeffs = coeffs; work = zeroed w }) h)
      go (Ok _) (got s) f g = absurd (taken_not q _ _ (sym e ∙ ap (λ (x : Stepping). x.answer) (call_is (Ok tt) (got s) f g)))
