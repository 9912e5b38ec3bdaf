-- SPDX-FileCopyrightText: 2026 The PPVM Authors
-- SPDX-License-Identifier: Apache-2.0

-- Demand 3 of leakage, as calls: nobody is lost, how many stay after a pass and what is listed, and that those are the largest.
-- Assumes nothing.
use mathlib.Core.Path.{◌≡◌, refl, sym, ap, ap₂, subst, subst⁻¹, ◌∙◌}
use mathlib.Core.Bool.{Bool, true, false, cond}
use mathlib.Core.List.{List, [], ◌∷◌}
use mathlib.Core.Logic.{inl, inr}
use Prim.Native.Nat.{ℕ, zero, suc, ◌≤◌, ◌<◌, min}
use native.Mathlib.Omega.{arith}
use borrow.Author.Tests.{eqb-true, eqb-false}
use lib.Dec.{eqb}
use lib.Ieee.{Float, nan, binary64}
use lib.ListN.{length, get_or, get_or-map}
use Rattle.word.specs.Word.{identity}
use Rattle.word.specs.declared.word.Word.{Word}
use Rattle.number.specs.Key.{key}
use Rattle.order.specs.Magnitudes.{key_at}
use Rattle.keep.specs.Retained.{pick}
use Rattle.keep.proofs.PruneLaws.{Number}
use Rattle.candidates.specs.Sums.{Row, row}
use Rattle.candidates.specs.Tables.{Rows, candidate_rows}
use Rattle.model.specs.declared.stored.Model.{Model}
use Rattle.std.specs.Prelude.{Ok}
use Rattle.passes.specs.Leaks.{sums_of, pass_size, pass_count}
use Rattle.leakage.specs.Leakages.{Leaking, leak}
use Rattle.limits.specs.Defaults.{tau_of}
use Rattle.truncate_laws.proofs.LosesLaws.{number_of}
use Rattle.order.specs.Members.{Member}
use Rattle.leakage_laws.specs.Calls.{room_of, stay_after, held_in, list_of, listed_by, SameBasis, Looser}
use Rattle.leakage_laws.specs.Calls as Leak
use Rattle.leakage_laws.proofs.KeepLaws.{member_fits, member_finite, above_of}
use Rattle.leakage_laws.proofs.CourseLaws.{held_fits}
use Rattle.leakage_laws.proofs.CallLaws.{leakage_passes, leakage_finite, leakage_lists, leakage_larger, leakage_loses_nobody, stayed}
use Rattle.demands.specs.Calls.{Accepted, LeakCall}
use Rattle.demands.specs.Demands.{SameModelLent, leaked_by, LargerLeft}
use Rattle.demands.proofs.Accepts.{acted_accepts}
use Rattle.demands.proofs.Bases.{at_least}

-- ---- a row that is picked, and one that is not, stand at places with such a flag
record At (R : Rows) (r : Row Word Float) : Type 0 where
  place : ℕ
  low : place < length R
  is : get_or R place (row identity nan) ≡ r

abbrev further : (s : Row Word Float) (R : Rows) (r : Row Word Float) → At R r → At (s ∷ R) r
further s R r a = record { place = suc a.place; low = omega (arith, a.low); is = a.is }

picked_at : (flags : List ℕ) (R : Rows) (r : Row Word Float) → Member r (pick flags R) → (a : At R r) × (get_or flags a.place 0 ≡ 0 → ⊥)
unfolding pick Member
picked_at [] R r m = absurd m
picked_at (k ∷ ks) [] r m = absurd m
picked_at (k ∷ ks) (s ∷ R) r m = go (eqb k 0) refl m (picked_at ks R r)
  where
    go : (b : Bool) → eqb k 0 ≡ b → Member r (cond b (pick ks R) (s ∷ pick ks R)) → (Member r (pick ks R) → (a : At R r) × (get_or ks a.place 0 ≡ 0 → ⊥))
        → (a : At (s ∷ R) r) × (get_or (k ∷ ks) a.place 0 ≡ 0 → ⊥)
    go true e x ih = let i = ih x in (further s R r i.0, i.1)
    go false e (inl x) ih = (record { place = 0; low = omega arith; is = sym x }, eqb-false k 0 e)
    go false e (inr x) ih = let i = ih x in (further s R r i.0, i.1)

dropped_at : (flags : List ℕ) (R : Rows) (s : Row Word Float) → length flags ≡ length R → Member s R → (Member s (pick flags R) → ⊥) → (a : At R s) × (get_or flags a.place 0 ≡ 0)
unfolding pick Member
dropped_at flags [] s e m n = absurd m
dropped_at [] (r ∷ R) s e m n = absurd (omega (arith, e))
dropped_at (k ∷ ks) (r ∷ R) s e m n = go (eqb k 0) refl m n (dropped_at ks R s (omega (arith, e)))
  where
    go : (b : Bool) → eqb k 0 ≡ b → Member s (r ∷ R) → (Member s (cond b (pick ks R) (r ∷ pick ks R)) → ⊥) → (Member s R → (Member s (pick ks R) → ⊥) → (a : At R s) × (get_or ks a.place 0 ≡ 0))
        → (a : At (r ∷ R) s) × (get_or (k ∷ ks) a.place 0 ≡ 0)
    go true f (inl x) n ih = (record { place = 0; low = omega arith; is = sym x }, eqb-true k 0 f)
    go true f (inr x) n ih = let i = ih x n in (further r R s i.0, i.1)
    go false f (inl x) n ih = absurd (n (inl x))
    go false f (inr x) n ih = let i = ih x (λ y. n (inr y)) in (further r R s i.0, i.1)

key_at_lem : (R : Rows) (r : Row Word Float) (a : At R r) → key_at (sums_of R) a.place ≡ key binary64 r.sum
key_at_lem R r a = ap (key binary64) (get_or-map (λ (x : Row Word Float). x.sum) R a.place (row identity nan) ∙ ap (λ (x : Row Word Float). x.sum) a.is)

place_member : (R : Rows) (p : ℕ) (r : Row Word Float) → p < length R → get_or R p (row identity nan) ≡ r → Member r R
unfolding Member
place_member [] p r h e = absurd (omega (arith, h))
place_member (s ∷ R) zero r h e = inl (sym e)
place_member (s ∷ R) (suc p) r h e = inr (place_member R p r (omega (arith, h)) e)

-- ---- an accepted call
module _ (c : LeakCall) (ok : Accepted c.answer.status) where
  abbrev done : Leaking
  done = leak c.out_words c.out_values c.work c.model c.tables c.basis c.limits

  pub leak_answer : done.out.answer ≡ Ok c.answer.count
  leak_answer = acted_accepts done.out.answer c.answer c.leaves.answers ok

  -- the list in the tables that were lent
  pub leaked_is : leaked_by c ≡ listed_by done c.answer.count
  leaked_is = ap₂ (λ (ws : List ℕ) (xs : List Float). candidate_rows c.answer.count ws xs) c.leaves.out_words c.leaves.out_values

  pub leak_lists : leaked_by c ≡ list_of c.model c.tables c.basis c.limits
  leak_lists = leaked_is ∙ leakage_lists c.out_words c.out_values c.work c.model c.tables c.basis c.limits c.answer.count leak_answer

  module _ (k : ℕ) (h : k < pass_count c.basis.len) where
    abbrev held : Rows
    held = held_in c.model c.tables c.basis c.limits k

    stays : Leak.LargestStay (room_of c.basis c.limits) held (stay_after c.model c.tables c.basis c.limits (suc k))
    stays = leakage_passes c.out_words c.out_values c.work c.model c.tables c.basis c.limits c.answer.count leak_answer k h

    pub pass_count_lem : length (stay_after c.model c.tables c.basis c.limits (suc k)) ≡ min (room_of c.basis c.limits) (length held)
    pass_count_lem = stays.count

    number : (r : Row Word Float) → Member r held → Number r.sum
    number r m =
        number_of r.sum (member_fits r held (held_fits c.model c.tables c.basis c.limits k) m)
        (member_finite r held (leakage_finite c.out_words c.out_values c.work c.model c.tables c.basis c.limits c.answer.count leak_answer k h) m)

    pub pass_largest : LargerLeft held (stay_after c.model c.tables c.basis c.limits (suc k))
    pass_largest r s x y n =
        let p = picked_at stays.flags held r (subst (Member r) stays.stay_are x) in
        let q = dropped_at stays.flags held s stays.each y (λ z. n (subst⁻¹ (Member s) stays.stay_are z)) in
        let l = (stays.larger p.0.place q.0.place p.0.low q.0.low p.1 q.1).0 in
        at_least r.sum s.sum (number r (place_member held p.0.place r p.0.low p.0.is)) (number s y) (omega (arith, l, key_at_lem held r p.0, key_at_lem held s q.0))

  pub list_largest : LargerLeft (stay_after c.model c.tables c.basis c.limits (pass_count c.basis.len)) (leaked_by c)
  list_largest r s x y n =
      let fit : (u : Row Word Float) → Member u (stay_after c.model c.tables c.basis c.limits (pass_count c.basis.len)) → Number u.sum =
      λ u m. let f = stayed c.out_words c.out_values c.work c.model c.tables c.basis c.limits c.answer.count leak_answer (pass_count c.basis.len) (omega arith) u m in number_of u.sum f.0 f.1 in
      let x' : Member r (listed_by done c.answer.count) = subst (Member r) leaked_is x in
      let larger = leakage_larger c.model c.tables c.basis c.limits c.tau_fits c.out_words c.out_values c.work c.answer.count leak_answer r s x' y (λ z. n (subst⁻¹ (Member s) leaked_is z)) in
      at_least r.sum s.sum (fit r (listed_stayed r x)) (fit s y) (omega (arith, larger))
    where
      listed_stayed : (u : Row Word Float) → Member u (leaked_by c) → Member u (stay_after c.model c.tables c.basis c.limits (pass_count c.basis.len))
      listed_stayed u m = (above_of u (tau_of c.limits) (stay_after c.model c.tables c.basis c.limits (pass_count c.basis.len)) (subst (Member u) leak_lists m)).0

-- ---- two calls
pub leak_nobody : (c c' : LeakCall) → Accepted c.answer.status → Accepted c'.answer.status → SameModelLent c.model c.tables c'.model c'.tables
    → SameBasis c.basis c'.basis → c.basis.len ≤ pass_size → Looser c.limits c'.limits → Leak.LosesNobody (leaked_by c) (leaked_by c')
leak_nobody c c' ok ok' model basis few looser r x =
    subst⁻¹ (Member r) (leaked_is c' ok')
    (over c'.model model.same_model (leak_answer c' ok') r (subst (Member r) (leaked_is c ok) x))
  where
    over : (m' : Model) → c.model ≡ m' → (leak c'.out_words c'.out_values c'.work m' c'.tables c'.basis c'.limits).out.answer ≡ Ok c'.answer.count
        → Leak.LosesNobody (listed_by (done c ok) c.answer.count) (listed_by (leak c'.out_words c'.out_values c'.work m' c'.tables c'.basis c'.limits) c'.answer.count)
    over m' e =
        subst (λ (m : Model). (leak c'.out_words c'.out_values c'.work m c'.tables c'.basis c'.limits).out.answer ≡ Ok c'.answer.count
        → Leak.LosesNobody (listed_by (done c ok) c.answer.count) (listed_by (leak c'.out_words c'.out_values c'.work m c'.tables c'.basis c'.limits) c'.answer.count)) e
        (leakage_loses_nobody c.model c.tables c'.tables model.same_places c.basis c'.basis basis few c.limits c'.limits looser c.tau_fits c'.tau_fits
        c.out_words c.out_values c.work c.answer.count (leak_answer c ok) c'.out_words c'.out_values c'.work c'.answer.count)
