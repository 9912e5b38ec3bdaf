-- SPDX-FileCopyrightText: 2026 The PPVM Authors
-- SPDX-License-Identifier: Apache-2.0

-- A course that is not refused is its passes one after another, whatever places it was lent; each keeps the largest. Assumes nothing.
use mathlib.Core.Path.{◌≡◌, refl, sym, ap, subst, ◌∙◌}
use mathlib.Core.List.{List}
use Prim.Native.Nat.{ℕ, zero, suc, ◌+◌, ◌*◌, ◌≤◌, ◌<◌}
use native.Mathlib.Omega.{arith}
use native.Mathlib.Decide.{dec_lt}
use lib.ListN.{length, drop}
use lib.Seq.{drop-drop}
use Rattle.word.specs.Order.{before}
use Rattle.word.specs.Flat.{words}
use Rattle.order.specs.Magnitudes.{by_magnitude}
use Rattle.candidates.specs.Sums.{Rising}
use Rattle.candidates.specs.Tables.{Rows}
use Rattle.model.specs.Stored.{ModelTables}
use Rattle.lent.specs.Read.{Read, got, refused, onward}
use Rattle.model.specs.declared.stored.Model.{Model}
use Rattle.passes.specs.Leaks.{taken_by, largest, ended, pass_size, pass_count, passes, touched_at, candidates_of}
use Rattle.passes.proofs.RoomLaws.{largest_count, largest_rising}
use Rattle.leakage.specs.Leakages.{Basis}
use Rattle.limits.specs.declared.Limits.{Limits}
use Rattle.leakage_laws.specs.Calls.{basis_words, basis_coeffs, leaks_of, room_of, pass_of, stay_after, held_in, LargestStay}
use Rattle.leakage_laws.proofs.KeepLaws.{room_flags, flags_each, largest_flagged, largest_first, largest_fits, SumsFit, gathered_fits, gathered_rising, taken_same, no_rows, ended_finite, ended_compared}

module _ (m : Model) (t : ModelTables) (b : Basis) (l : Limits) where
  abbrev room : ℕ
  room = room_of b l

  abbrev order : List ℕ
  order = by_magnitude (basis_coeffs b)

  -- pass k is not refused
  abbrev pub Ends : ℕ → Type 0
  Ends k = ended room (held_in m t b l k) ≡ got (stay_after m t b l (suc k))

  -- ---- the room rule: the largest of what a pass holds stay
  pub stay_largest : (k : ℕ) → stay_after m t b l (suc k) ≡ largest room (held_in m t b l k)
  unfolding stay_after
  stay_largest k = refl

  -- ---- sums are numbers of the code
  pub stay_fits : (k : ℕ) → SumsFit (stay_after m t b l k)
  unfolding stay_after SumsFit
  stay_fits zero = tt
  stay_fits (suc k) = subst SumsFit (sym (stay_largest k)) (largest_fits room (held_in m t b l k) (gathered_fits (leaks_of m t b) (pass_of b k) (stay_after m t b l k) (stay_fits k)))

  pub held_fits : (k : ℕ) → SumsFit (held_in m t b l k)
  held_fits k = gathered_fits (leaks_of m t b) (pass_of b k) (stay_after m t b l k) (stay_fits k)

  -- ---- candidates stand in word order
  stay_rising : (k : ℕ) → Rising before (stay_after m t b l k)
  unfolding stay_after Rising
  stay_rising zero = tt
  stay_rising (suc k) = subst (Rising before) (sym (stay_largest k)) (largest_rising room (held_in m t b l k) (gathered_rising (leaks_of m t b) (pass_of b k) (stay_after m t b l k) (stay_rising k)))

  pub held_rising : (k : ℕ) → Rising before (held_in m t b l k)
  held_rising k = gathered_rising (leaks_of m t b) (pass_of b k) (stay_after m t b l k) (stay_rising k)

  pub keeps_largest : (k : ℕ) → Ends k → LargestStay room (held_in m t b l k) (stay_after m t b l (suc k))
  keeps_largest k e =
      let R : Rows = held_in m t b l k in
      record {
        rising = held_rising k;
        flags = room_flags room R;
        each = flags_each room R;
        stay_are = stay_largest k ∙ largest_flagged room R;
        count = ap length (stay_largest k) ∙ largest_count room R;
        larger = λ p q hp hq h z. largest_first room R (ended_compared room R (stay_after m t b l (suc k)) e (held_fits k)) p q hp hq h z;
      }

  -- ---- the passes from the k-th on
  module _ (sumRoom candidateRoom : ℕ) where
    abbrev touched : ℕ → ℕ
    touched = touched_at m t (basis_words b) (basis_coeffs b) (words b.protected)

    abbrev left : ℕ → List ℕ → Rows → Read Rows
    left = passes touched (leaks_of m t b) sumRoom candidateRoom room

    abbrev from : ℕ → List ℕ
    from k = drop (k * pass_size) order

    next_from : (k : ℕ) → drop pass_size (from k) ≡ from (suc k)
    next_from k = let e : k * pass_size + pass_size ≡ suc k * pass_size = omega arith in drop-drop pass_size (k * pass_size) order ∙ ap (λ (n : ℕ). drop n order) e

    one_pass : (j k : ℕ) (S : Rows) → left (suc j) (from k) (stay_after m t b l k) ≡ got S → Ends k × (left j (from (suc k)) (stay_after m t b l (suc k)) ≡ got S)
    unfolding passes
    one_pass j k S e = go (taken_by touched (leaks_of m t b) sumRoom candidateRoom (pass_of b k) (stay_after m t b l k)) refl e
      where
        finish : (a : Read Rows) → ended room (held_in m t b l k) ≡ a → onward a (left j (drop pass_size (from k))) ≡ got S → Ends k × (left j (from (suc k)) (stay_after m t b l (suc k)) ≡ got S)
        finish (refused q) f g = absurd (no_rows q S g)
        finish (got Q) f g =
            let is : Q ≡ stay_after m t b l (suc k) = (ended_finite room (held_in m t b l k) Q f).0 ∙ sym (stay_largest k) in
            (f ∙ ap got is, rw (← is, ← (next_from k)) g)

        go : (a : Read Rows) → taken_by touched (leaks_of m t b) sumRoom candidateRoom (pass_of b k) (stay_after m t b l k) ≡ a
            → onward a (λ R. onward (ended room R) (left j (drop pass_size (from k)))) ≡ got S → Ends k × (left j (from (suc k)) (stay_after m t b l (suc k)) ≡ got S)
        go (refused q) f g = absurd (no_rows q S g)
        go (got R) f g =
            let same : R ≡ held_in m t b l k = taken_same (leaks_of m t b) touched sumRoom candidateRoom (pass_of b k) (stay_after m t b l k) R f in
            finish (ended room (held_in m t b l k)) refl (rw (← same) g)

    all_passes : (j k : ℕ) (S : Rows) → left j (from k) (stay_after m t b l k) ≡ got S → (S ≡ stay_after m t b l (k + j)) × ((i : ℕ) → k ≤ i → i < k + j → Ends i)
    unfolding passes
    all_passes zero k S e =
        let z : k ≡ k + 0 = omega arith in
        let is : S ≡ stay_after m t b l k = cc in
        (is ∙ ap (stay_after m t b l) z, λ i h u. absurd (omega arith))
    all_passes (suc j) k S e =
        let o = one_pass j k S e in
        let r = all_passes j (suc k) S o.1 in
        let z : suc k + j ≡ k + suc j = omega arith in
        (r.0 ∙ ap (stay_after m t b l) z, λ i h u. each i h u o.0 r.1)
      where
        each : (i : ℕ) → k ≤ i → i < k + suc j → Ends k → ((i : ℕ) → suc k ≤ i → i < suc k + j → Ends i) → Ends i
        each i h u first rest = go (dec_lt k i)
          where
            go : Dec (k < i) → Ends i
            go (yes a) = rest i (omega arith) (omega arith)
            go (no a) = let z : k ≡ i = omega arith in subst Ends z first

    -- ---- of the candidates
    pub course_passes : length (basis_coeffs b) ≡ b.len → (S : Rows) → candidates_of m t (basis_words b) (basis_coeffs b) (words b.protected) sumRoom candidateRoom room ≡ got S
        → (S ≡ stay_after m t b l (pass_count b.len)) × ((i : ℕ) → i < pass_count b.len → Ends i)
    unfolding candidates_of stay_after
    course_passes long S e =
        let r = all_passes (pass_count (length (basis_coeffs b))) 0 S e in
        let z : 0 + pass_count (length (basis_coeffs b)) ≡ pass_count b.len = omega (arith, long) in
        (r.0 ∙ ap (stay_after m t b l) z, λ i h. r.1 i (omega arith) (omega (arith, h, long)))
