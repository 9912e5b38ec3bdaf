-- SPDX-FileCopyrightText: 2026 The PPVM Authors
-- SPDX-License-Identifier: Apache-2.0

-- Demand 3 of prune, cap and admission, as calls: what they keep, that a looser call loses nobody, how many stay, and that those are
-- the largest. Assumes nothing.
use mathlib.Core.Path.{◌≡◌, refl, sym, ap, ap₂, subst, ◌∙◌}
use mathlib.Core.Bool.{true}
use mathlib.Core.List.{List, ◌++◌, append_assoc}
use Prim.Native.Nat.{ℕ, ◌+◌, ◌-◌, ◌*◌, ◌/◌, ◌≤◌, ◌<◌, min, max}
use native.Mathlib.Omega.{arith}
use borrow.Author.Tests.{le-leb}
use denote.Floats.{is_true}
use lib.Ieee.{Float, nan, binary64, le}
use lib.ListN.{length, get_or, take, replicate, length-append, length-replicate}
use lib.Seq.{take_at, take_all, length-take-le}
use Rattle.word.specs.Flat.{words, word_lanes}
use Rattle.word.specs.declared.word.Word.{Word}
use Rattle.word.proofs.FlatLaws.{words_high, words_low}
use Rattle.number.specs.Floats.{float0, is_finite, magnitude}
use Rattle.number.specs.Key.{key}
use Rattle.number.proofs.KeyLaws.{magnitude_le}
use Rattle.keep.specs.Retained.{pick, flagged}
use Rattle.keep.specs.Admitted.{picked}
use Rattle.keep.proofs.PruneLaws.{Number}
use Rattle.truncate.specs.Prunes.{protected_flags, prune, cap}
use Rattle.truncate.specs.Admissions.{admit_flags, Admitting, admit}
use Rattle.std.specs.Prelude.{Ok}
use Rattle.truncate.proofs.PruneLaws.{prune_room}
use Rattle.truncate.proofs.CapLaws.{cap_room, cap_finite}
use Rattle.truncate.proofs.AdmitLaws.{admit_count}
use Rattle.truncate.proofs.AdmissionLaws.{values_finite, larger_first, words_after, coeffs_after, length_after, appended_count}
use Rattle.truncate_laws.specs.Keeps as Flags
use Rattle.truncate_laws.proofs.AcceptedCalls.{entries_same, prune_accepted, prune_finite, cap_accepted, admit_lent, admit_each}
use Rattle.truncate_laws.proofs.StaysLaws.{protected_long, admit_long, prune_stays, cap_stays}
use Rattle.truncate_laws.proofs.LosesLaws.{number_of, prune_loses_nobody, cap_loses_nobody, admit_loses_nobody}
use Rattle.truncate_laws.proofs.CapLaws.{cap_count, cap_nothing, cap_larger}
use Rattle.truncate_laws.proofs.PruneLaws.{prune_larger}
use Rattle.leakage.specs.Leakages.{Basis}
use Rattle.leakage_laws.specs.Calls.{SameBasis}
use Rattle.demands.specs.Calls.{Accepted, PruneCall, CapCall, AdmitCall}
use Rattle.demands.specs.Demands.{pruned_by, capped_by, admitted_by, Keeps, Admits, SameListed, LargerKept}
use Rattle.demands.proofs.Accepts.{kept_accepts}

-- ---- larger by key is larger by magnitude
pub at_least : (x y : Float) → Number x → Number y → key binary64 y ≤ key binary64 x → le (magnitude y) (magnitude x) ≡ true
at_least x y n k h = magnitude_le binary64 y x k.fits_f64 n.fits_f64 k.no_nan n.no_nan ∙ le-leb (key binary64 y) (key binary64 x) h

-- ---- prune
module _ (c : PruneCall) (ok : Accepted c.answer.status) where
  abbrev pruned : Basis
  pruned = c.basis

  prune_answer : (prune pruned.len pruned.lanes pruned.coeffs c.order c.work c.fixed c.kept c.qubits pruned.protected c.drop_tol).answer ≡ Ok c.answer.entries
  prune_answer = kept_accepts (prune pruned.len pruned.lanes pruned.coeffs c.order c.work c.fixed c.kept c.qubits pruned.protected c.drop_tol).answer c.answer c.leaves.answers ok

  pub prune_keeps : Keeps pruned (pruned_by c) c.answer c.lanes' c.coeffs'
  prune_keeps =
      let s = prune_stays pruned.len pruned.lanes pruned.coeffs c.order c.work c.fixed c.kept c.qubits pruned.protected c.drop_tol c.answer.entries prune_answer in
      let n : c.answer.entries ≡ flagged (pruned_by c) = entries_same c.answer.entries (flagged (pruned_by c)) (sym prune_answer ∙ s.answers) in
      record {
        each = s.each;
        count = n;
        words_kept = ap₂ (λ (k : ℕ) (l : List ℕ). take k (words l)) n c.leaves.lanes_are ∙ s.words_kept;
        coeffs_kept = ap₂ (λ (k : ℕ) (l : List Float). take k l) n c.leaves.coeffs_are ∙ s.coeffs_kept;
      }

  pub prune_largest : LargerKept pruned.coeffs (protected_flags pruned.len pruned.lanes pruned.protected) (pruned_by c)
  prune_largest p q hp hq fp fq k z =
      let finite = (prune_finite pruned.len pruned.lanes pruned.coeffs c.order c.work c.fixed c.kept c.qubits pruned.protected c.drop_tol c.answer.entries prune_answer).0 in
      let room = prune_room pruned.len pruned.lanes pruned.coeffs c.order c.work c.fixed c.kept c.qubits pruned.protected c.drop_tol (prune_accepted pruned.len pruned.lanes pruned.coeffs c.order c.work c.fixed c.kept c.qubits pruned.protected c.drop_tol c.answer.entries prune_answer) in
      let l = protected_long pruned.len pruned.lanes pruned.coeffs pruned.protected room.lanes_room in
      let number : (i : ℕ) → i < pruned.len → Number (get_or pruned.coeffs i nan) = λ i h. number_of (get_or pruned.coeffs i nan) (c.coeffs_fit i (omega (arith, h, room.coeffs_room))) (finite i h) in
      at_least (get_or pruned.coeffs p nan) (get_or pruned.coeffs q nan) (number p (omega (arith, hp, l))) (number q (omega (arith, hq, l)))
      ((prune_larger pruned.len pruned.lanes pruned.coeffs c.order c.work c.fixed c.kept c.qubits pruned.protected c.drop_tol c.answer.entries prune_answer c.coeffs_fit c.tol_fits).larger p q hp hq fp fq k z).0

pub prune_nobody : (c c' : PruneCall) → Accepted c.answer.status → Accepted c'.answer.status → SameBasis c.basis c'.basis → le c'.drop_tol c.drop_tol ≡ true → Flags.LosesNobody (pruned_by c) (pruned_by c')
prune_nobody c c' ok ok' same lowered =
    prune_loses_nobody c.basis.len c'.basis.len c.basis.lanes c'.basis.lanes c.basis.coeffs c'.basis.coeffs c.basis.protected c'.basis.protected same.same_len same.same_words same.same_coeffs same.same_protected
    c.coeffs_fit c.order c.work c.fixed c.kept c'.order c'.work c'.fixed c'.kept c.qubits c'.qubits c.drop_tol c'.drop_tol c.tol_fits c'.tol_fits lowered
    c.answer.entries c'.answer.entries (prune_answer c ok) (prune_answer c' ok')

-- ---- cap
module _ (c : CapCall) (ok : Accepted c.answer.status) where
  abbrev capped : Basis
  capped = c.basis

  cap_answer : (cap capped.len capped.lanes capped.coeffs c.order c.work c.fixed c.kept c.qubits capped.protected c.limit).answer ≡ Ok c.answer.entries
  cap_answer = kept_accepts (cap capped.len capped.lanes capped.coeffs c.order c.work c.fixed c.kept c.qubits capped.protected c.limit).answer c.answer c.leaves.answers ok

  pub cap_keeps : Keeps capped (capped_by c) c.answer c.lanes' c.coeffs'
  cap_keeps =
      let s = cap_stays capped.len capped.lanes capped.coeffs c.order c.work c.fixed c.kept c.qubits capped.protected c.limit c.answer.entries cap_answer in
      let n : c.answer.entries ≡ flagged (capped_by c) = entries_same c.answer.entries (flagged (capped_by c)) (sym cap_answer ∙ s.answers) in
      record {
        each = s.each;
        count = n;
        words_kept = ap₂ (λ (k : ℕ) (l : List ℕ). take k (words l)) n c.leaves.lanes_are ∙ s.words_kept;
        coeffs_kept = ap₂ (λ (k : ℕ) (l : List Float). take k l) n c.leaves.coeffs_are ∙ s.coeffs_kept;
      }

  pub cap_above : c.limit < capped.len → c.answer.entries ≡ max c.limit (flagged (protected_flags capped.len capped.lanes capped.protected))
  cap_above h = cap_count capped.len capped.lanes capped.coeffs c.order c.work c.fixed c.kept c.qubits capped.protected c.limit c.answer.entries cap_answer h

  pub cap_under : capped.len ≤ c.limit → c.answer.entries ≡ capped.len
  cap_under h = cap_nothing capped.len capped.lanes capped.coeffs c.order c.work c.fixed c.kept c.qubits capped.protected c.limit c.answer.entries cap_answer h

  pub cap_largest : LargerKept capped.coeffs (protected_flags capped.len capped.lanes capped.protected) (capped_by c)
  cap_largest p q hp hq fp fq k z =
      let passed = cap_accepted capped.len capped.lanes capped.coeffs c.order c.work c.fixed c.kept c.qubits capped.protected c.limit c.answer.entries cap_answer in
      let finite = cap_finite capped.len capped.lanes capped.coeffs c.order c.work c.fixed c.kept c.qubits capped.protected c.limit passed in
      let room = cap_room capped.len capped.lanes capped.coeffs c.order c.work c.fixed c.kept c.qubits capped.protected c.limit passed in
      let l = protected_long capped.len capped.lanes capped.coeffs capped.protected room.lanes_room in
      let number : (i : ℕ) → i < capped.len → Number (get_or capped.coeffs i nan) = λ i h. number_of (get_or capped.coeffs i nan) (c.coeffs_fit i (omega (arith, h, room.coeffs_room))) (finite i h) in
      at_least (get_or capped.coeffs p nan) (get_or capped.coeffs q nan) (number p (omega (arith, hp, l))) (number q (omega (arith, hq, l)))
      ((cap_larger capped.len capped.lanes capped.coeffs c.order c.work c.fixed c.kept c.qubits capped.protected c.limit c.answer.entries cap_answer c.coeffs_fit).larger p q hp hq fp fq k z).0

pub cap_nobody : (c c' : CapCall) → Accepted c.answer.status → SameBasis c.basis c'.basis → c.limit ≤ c'.limit → Flags.LosesNobody (capped_by c) (capped_by c')
cap_nobody c c' ok same raised =
    cap_loses_nobody c.basis.len c'.basis.len c.basis.lanes c'.basis.lanes c.basis.coeffs c'.basis.coeffs c.basis.protected c'.basis.protected same.same_len same.same_words same.same_coeffs same.same_protected
    c.order c.work c.fixed c.kept c.qubits c.limit c'.limit raised c.answer.entries (cap_answer c ok)

-- ---- admission
module _ (c : AdmitCall) (ok : Accepted c.answer.status) where
  abbrev admitted : Admitting
  admitted = admit c.len c.lanes c.coeffs c.list c.values c.order c.work c.kept c.qubits c.limit

  admit_answer : admitted.answer ≡ Ok c.answer.entries
  admit_answer = kept_accepts admitted.answer c.answer c.leaves.answers ok

  abbrev new : List Word
  new = picked (length c.values) (admitted_by c) c.list

  new_count : length new ≡ min (c.limit - c.len) (length c.list / word_lanes)
  new_count = appended_count c.len c.lanes c.coeffs c.list c.values c.order c.work c.kept c.qubits c.limit c.answer.entries admit_answer

  entries_are : c.answer.entries ≡ c.len + length new
  entries_are = length_after c.len c.lanes c.coeffs c.list c.values c.order c.work c.kept c.qubits c.limit c.answer.entries admit_answer

  lent : (word_lanes * c.len ≤ length c.lanes) × (c.len ≤ length c.coeffs)
  lent = admit_lent c.len c.lanes c.coeffs c.list c.values c.order c.work c.kept c.qubits c.limit c.answer.entries admit_answer

  listed_each : length c.list / word_lanes ≡ length c.values
  listed_each = sym (admit_each c.len c.lanes c.coeffs c.list c.values c.order c.work c.kept c.qubits c.limit c.answer.entries admit_answer)

  -- all listed words
  new_is : new ≡ pick (admitted_by c) (words c.list)
  new_is = ap (pick (admitted_by c)) (take_all (length c.values) (words c.list) (omega (arith, listed_each, words_low c.list)))

  new_flagged : length new ≡ flagged (admitted_by c)
  new_flagged = omega (arith, new_count, listed_each, admit_count c.len c.values c.limit)

  pub admission_count : c.answer.entries ≡ c.len + min (c.limit - c.len) (length c.values)
  admission_count = omega (arith, entries_are, new_count, listed_each)

  front : {A : Type 0} (k n : ℕ) (a b r : List A) → length a ≡ k → length b ≡ n → take (k + n) (a ++ (b ++ r)) ≡ a ++ b
  front k n a b r ea eb = ap (take (k + n)) (sym (append_assoc a b r)) ∙ take_at (a ++ b) r (k + n) (length-append a b ∙ ap₂ ◌+◌ ea eb)

  pub admits : Admits c
  admits =
      let w = words_after c.len c.lanes c.coeffs c.list c.values c.order c.work c.kept c.qubits c.limit c.answer.entries admit_answer in
      let x = coeffs_after c.len c.lanes c.coeffs c.list c.values c.order c.work c.kept c.qubits c.limit c.answer.entries admit_answer in
      let lw : length (take c.len (words c.lanes)) ≡ c.len = length-take-le c.len (words c.lanes) (omega (arith, lent.0, words_high c.lanes)) in
      let lc : length (take c.len c.coeffs) ≡ c.len = length-take-le c.len c.coeffs lent.1 in
      record {
        each = admit_long c.len c.values c.limit;
        count = omega (arith, entries_are, new_flagged);
        words_are = ap₂ (λ (k : ℕ) (l : List ℕ). take k (words l)) entries_are c.leaves.lanes_are ∙ ap (take (c.len + length new)) w
            ∙ front c.len (length new) (take c.len (words c.lanes)) new _ lw refl ∙ ap (λ (l : List Word). take c.len (words c.lanes) ++ l) new_is;
        coeffs_are = ap₂ (λ (k : ℕ) (l : List Float). take k l) entries_are c.leaves.coeffs_are ∙ ap (take (c.len + length new)) x
            ∙ front c.len (length new) (take c.len c.coeffs) (replicate (length new) float0) _ lc (length-replicate (length new) float0) ∙ ap (λ (n : ℕ). take c.len c.coeffs ++ replicate n float0) new_flagged;
      }

  pub admission_largest : LargerKept c.values (replicate (length c.values) 0) (admitted_by c)
  admission_largest p q hp hq fp fq k z =
      let all = values_finite c.len c.lanes c.coeffs c.list c.values c.order c.work c.kept c.qubits c.limit c.answer.entries admit_answer c.values_fit in
      let l = length-replicate {A = ℕ} (length c.values) 0 in
      let number : (i : ℕ) → i < length c.values → Number (get_or c.values i nan) = λ i h. number_of (get_or c.values i nan) (all.fitting i h) (is_true (is_finite (get_or c.values i nan)) (all.numbers i h)) in
      at_least (get_or c.values p nan) (get_or c.values q nan) (number p (omega (arith, hp, l))) (number q (omega (arith, hq, l)))
      (larger_first c.len c.values c.limit all p q (omega (arith, hp, l)) (omega (arith, hq, l)) k z).0

pub admission_nobody : (c c' : AdmitCall) → SameListed c c' → c.limit ≤ c'.limit → Flags.LosesNobody (admitted_by c) (admitted_by c')
admission_nobody c c' same raised =
    subst (Flags.LosesNobody (admitted_by c)) (ap₂ (λ (n : ℕ) (vs : List Float). admit_flags n vs c'.limit) same.same_len same.same_values) (admit_loses_nobody c.len c.values c.limit c'.limit raised)
