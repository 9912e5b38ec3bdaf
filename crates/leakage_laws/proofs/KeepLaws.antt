-- SPDX-FileCopyrightText: 2026 The PPVM Authors
-- SPDX-License-Identifier: Apache-2.0

-- Which candidates a pass keeps: the largest; and that more room, or a lower tau_add, loses nobody. Assumes nothing.
use mathlib.Core.Path.{◌≡◌, refl, sym, ap, ap₂, subst, ◌∙◌}
use mathlib.Core.Bool.{Bool, true, false, not, cond}
use mathlib.Core.List.{List, [], ◌∷◌, map}
use mathlib.Core.Logic.{inl, inr}
use Prim.Native.Nat.{ℕ, zero, suc, ◌-◌, ◌≤◌, ◌<◌}
use native.Mathlib.Omega.{arith}
use borrow.Author.Tests.{ltb-false, not-false, eqb-true, eqb-false}
use denote.Floats.{passes as holds}
use lib.Dec.{T, eqb, ltb}
use lib.Ieee.{Float, nan, inf, fin, binary64, fits, le, is_nan}
use lib.Ieee.Fits.{add-fits}
use lib.ListN.{length, get_or, replicate, length-map, length-replicate}
use Rattle.refusal.specs.declared.Refusal.{Refusal}
use Rattle.refusal.specs.declared.Refusal.TheVariants.{TableFull, SumNotFinite}
use Rattle.word.specs.declared.word.Word.{Word}
use Rattle.word.specs.Order.{before}
use Rattle.number.specs.Floats.{floats, magnitude, is_finite}
use Rattle.number.specs.Key.{nonneg}
use Rattle.number.proofs.KeyLaws.{magnitude_nonneg, magnitude_fits}
use Rattle.order.specs.Magnitudes.{by_magnitude, key_at}
use Rattle.keep.specs.Retained.{pick}
use Rattle.keep.specs.Chosen.{flag_of, chosen}
use Rattle.keep.proofs.FlagLaws.{Kept}
use Rattle.keep.proofs.ChosenLaws.{walked_length, chosen_more}
use Rattle.keep.proofs.PruneLaws.{Number}
use Rattle.candidates.specs.Sums.{Row, row, put_over, put_all, Rising}
use Rattle.candidates.specs.Tables.{Rows, put_row, put_rows}
use Rattle.candidates.proofs.RisingLaws.{rising_rows}
use Rattle.lent.specs.Read.{got, refused, refuse_if}
use Rattle.lent.specs.Tests.{first_to}
use Rattle.lent.proofs.Firsts.{first_before}
use Rattle.lent.specs.Numbers.{not_finite}
use Rattle.truncate.specs.Admissions.{admit_flags}
use Rattle.truncate.proofs.AdmissionLaws.{larger_first}
use Rattle.truncate.proofs.ThresholdLaws.{finite_number, lower_lt}
use Rattle.passes.specs.Leaks.{taken_by, sums_of, largest, ended, above}
use Rattle.limits.specs.Defaults.{is_above}
use Rattle.order.specs.Members.{Member}
use Rattle.leakage_laws.specs.Calls.{gathered}
use Rattle.order.specs.Between.{AllFinite}

-- ---- the room rule by flags, one for each candidate
abbrev pub room_flags : ℕ → Rows → List ℕ
room_flags room R = chosen (by_magnitude (sums_of R)) (replicate (length R) 0) room

pub largest_flagged : (room : ℕ) (R : Rows) → largest room R ≡ pick (room_flags room R) R
unfolding largest
largest_flagged room R = refl

pub flags_each : (room : ℕ) (R : Rows) → length (room_flags room R) ≡ length R
flags_each room R =
    walked_length (replicate (length R) 0) (by_magnitude (sums_of R)) room (map flag_of (replicate (length R) 0)) ∙ length-map (replicate (length R) 0) flag_of ∙ length-replicate (length R) 0

-- the same flags as those of an admission into an empty basis
flags_admit : (room : ℕ) (R : Rows) → admit_flags 0 (sums_of R) room ≡ room_flags room R
unfolding admit_flags
flags_admit room R =
    let long : length (sums_of R) ≡ length R = length-map R (λ r. r.sum) in
    let all : room - 0 ≡ room = omega arith in
    ap₂ (λ (n slots : ℕ). chosen (by_magnitude (sums_of R)) (replicate n 0) slots) long all

-- a candidate that stays is at least as large as one that does not, and before it where they are equal
pub largest_first : (room : ℕ) (R : Rows) → AllFinite (sums_of R) → (p q : ℕ) → p < length R → q < length R → Kept (room_flags room R) p → get_or (room_flags room R) q 0 ≡ 0
    → (key_at (sums_of R) q ≤ key_at (sums_of R) p) × (key_at (sums_of R) q ≡ key_at (sums_of R) p → p < q)
largest_first room R finite p q hp hq k z =
    let long : length (sums_of R) ≡ length R = length-map R (λ r. r.sum) in
    larger_first 0 (sums_of R) room finite p q (omega (arith, hp, long)) (omega (arith, hq, long))
    (subst (λ (l : List ℕ). Kept l p) (sym (flags_admit room R)) k) (ap (λ (l : List ℕ). get_or l q 0) (flags_admit room R) ∙ z)

-- ---- answers
pub no_rows : (q : Refusal) (R : Rows) → refused q ≡ got R → ⊥
no_rows q R e = let z : ◌≡◌ {A = ℕ} 0 1 = cc in omega arith

pub same_rows : (R S : Rows) → got R ≡ got S → R ≡ S
same_rows R S e = cc

-- ---- every sum is a number of the code, since it comes out of an addition
unfoldable pub SumsFit : Rows → Type 0
SumsFit [] = Unit {0}
SumsFit (r ∷ R) = T (fits binary64 r.sum) × SumsFit R

put_fits : (w : Word) (v : Float) (R : Rows) → SumsFit R → SumsFit (put_row w v R)
unfolding SumsFit put_over
put_fits w v [] h = (add-fits binary64 floats.nought v, tt)
put_fits w v (r ∷ R) h = go (put_fits w v R h.1) (before r.word w) (before w r.word)
  where
    go : SumsFit (put_row w v R) → (a b : Bool) → SumsFit (cond a (r ∷ put_row w v R) (cond b (row w (floats.plus floats.nought v) ∷ r ∷ R) (row r.word (floats.plus r.sum v) ∷ R)))
    go rest true b = (h.0, rest)
    go rest false true = (add-fits binary64 floats.nought v, h)
    go rest false false = (add-fits binary64 r.sum v, h.1)

rows_fit : (l R : Rows) → SumsFit R → SumsFit (put_rows l R)
unfolding put_all
rows_fit [] R h = h
rows_fit (e ∷ l) R h = rows_fit l (put_row e.word e.sum R) (put_fits e.word e.sum R h)

-- ---- a pass that is not refused takes the same whatever room it had
module _ (leaks : ℕ → Rows) where
  pub gathered_fits : (ps : List ℕ) (R : Rows) → SumsFit R → SumsFit (gathered leaks ps R)
  unfolding gathered
  gathered_fits [] R h = h
  gathered_fits (p ∷ ps) R h = gathered_fits ps (put_rows (leaks p) R) (rows_fit (leaks p) R h)

  pub taken_same : (touched : ℕ → ℕ) (sumRoom candidateRoom : ℕ) (ps : List ℕ) (R S : Rows) → taken_by touched leaks sumRoom candidateRoom ps R ≡ got S → S ≡ gathered leaks ps R
  unfolding taken_by gathered
  taken_same touched sumRoom candidateRoom [] R S e = sym (same_rows R S e)
  taken_same touched sumRoom candidateRoom (p ∷ ps) R S e =
      go (taken_same touched sumRoom candidateRoom ps (put_rows (leaks p) R) S) (ltb sumRoom (touched p)) (ltb candidateRoom (length (put_rows (leaks p) R))) e
    where
      go : (taken_by touched leaks sumRoom candidateRoom ps (put_rows (leaks p) R) ≡ got S → S ≡ gathered leaks ps (put_rows (leaks p) R)) → (a b : Bool)
          → refuse_if a (TableFull 1 sumRoom) (refuse_if b (TableFull 2 candidateRoom) (taken_by touched leaks sumRoom candidateRoom ps (put_rows (leaks p) R))) ≡ got S
          → S ≡ gathered leaks ps (put_rows (leaks p) R)
      go rest true b f = absurd (no_rows (TableFull 1 sumRoom) S f)
      go rest false true f = absurd (no_rows (TableFull 2 candidateRoom) S f)
      go rest false false f = rest f

pick_fits : (ks : List ℕ) (R : Rows) → SumsFit R → SumsFit (pick ks R)
unfolding SumsFit pick
pick_fits [] R h = tt
pick_fits (k ∷ ks) [] h = tt
pick_fits (k ∷ ks) (r ∷ R) h = go (eqb k 0) (pick_fits ks R h.1)
  where
    go : (b : Bool) → SumsFit (pick ks R) → SumsFit (cond b (pick ks R) (r ∷ pick ks R))
    go true rest = rest
    go false rest = (h.0, rest)

pub largest_fits : (room : ℕ) (R : Rows) → SumsFit R → SumsFit (largest room R)
unfolding largest
largest_fits room R = pick_fits (room_flags room R) R

pub fits_at : (R : Rows) → SumsFit R → (i : ℕ) → i < length (sums_of R) → T (fits binary64 (get_or (sums_of R) i nan))
unfolding SumsFit
fits_at [] h i l = absurd (omega arith)
fits_at (r ∷ R) h zero l = h.0
fits_at (r ∷ R) h (suc i) l = fits_at R h.1 i (omega arith)

-- ---- candidates stand in word order
pub gathered_rising : (leaks : ℕ → Rows) (ps : List ℕ) (R : Rows) → Rising before R → Rising before (gathered leaks ps R)
unfolding gathered
gathered_rising leaks [] R h = h
gathered_rising leaks (p ∷ ps) R h = gathered_rising leaks ps (put_rows (leaks p) R) (rising_rows (leaks p) R h)

-- ---- a pass's end that is not refused
pub ended_finite : (room : ℕ) (R S : Rows) → ended room R ≡ got S → (S ≡ largest room R) × ((i : ℕ) → i < length R → is_finite (get_or (sums_of R) i nan) ≡ true)
unfolding ended not_finite
ended_finite room R S e = go (ltb (first_to (length R) (not_finite (sums_of R))) (length R)) refl e
  where
    go : (b : Bool) → ltb (first_to (length R) (not_finite (sums_of R))) (length R) ≡ b → refuse_if b (SumNotFinite (first_to (length R) (not_finite (sums_of R)))) (got (largest room R)) ≡ got S
        → (S ≡ largest room R) × ((i : ℕ) → i < length R → is_finite (get_or (sums_of R) i nan) ≡ true)
    go true t f = absurd (no_rows _ S f)
    go false t f =
        let l = ltb-false (first_to (length R) (not_finite (sums_of R))) (length R) t in
        (sym (same_rows (largest room R) S f), λ i h. not-false (is_finite (get_or (sums_of R) i nan)) (first_before (length R) (not_finite (sums_of R)) i (omega (arith, l, h))))

-- so the candidates before the room rule are compared exactly
pub ended_compared : (room : ℕ) (R S : Rows) → ended room R ≡ got S → SumsFit R → AllFinite (sums_of R)
ended_compared room R S e h =
    let long : length (sums_of R) ≡ length R = length-map R (λ r. r.sum) in
    record { fitting = fits_at R h; numbers = λ i l. holds (is_finite (get_or (sums_of R) i nan)) ((ended_finite room R S e).1 i (omega (arith, l, long))) }

-- ---- members
module _ (r : Row Word Float) where
  pub member_fits : (R : Rows) → SumsFit R → Member r R → T (fits binary64 r.sum)
  unfolding Member SumsFit
  member_fits [] h m = absurd m
  member_fits (s ∷ R) h (inl e) = subst (λ (q : Row Word Float). T (fits binary64 q.sum)) (sym e) h.0
  member_fits (s ∷ R) h (inr m) = member_fits R h.1 m

  pub member_finite : (R : Rows) → ((i : ℕ) → i < length R → is_finite (get_or (sums_of R) i nan) ≡ true) → Member r R → is_finite r.sum ≡ true
  unfolding Member
  member_finite [] h m = absurd m
  member_finite (s ∷ R) h (inl e) = ap (λ (q : Row Word Float). is_finite q.sum) e ∙ h 0 (omega arith)
  member_finite (s ∷ R) h (inr m) = member_finite R (λ i l. h (suc i) (omega arith)) m

  pick_in : (ks : List ℕ) (R : Rows) → Member r (pick ks R) → Member r R
  unfolding Member pick
  pick_in [] R m = absurd m
  pick_in (k ∷ ks) [] m = absurd m
  pick_in (k ∷ ks) (s ∷ R) m = go (pick_in ks R) (eqb k 0) m
    where
      go : (Member r (pick ks R) → Member r R) → (b : Bool) → Member r (cond b (pick ks R) (s ∷ pick ks R)) → Member r (s ∷ R)
      go rest true m = inr (rest m)
      go rest false (inl e) = inl e
      go rest false (inr m) = inr (rest m)

  pick_more : (ks ks' : List ℕ) (R : Rows) → length ks ≡ length ks' → ((p : ℕ) → Kept ks p → Kept ks' p) → Member r (pick ks R) → Member r (pick ks' R)
  unfolding Member pick
  pick_more [] ks' R e h m = absurd m
  pick_more (k ∷ ks) [] R e h m = absurd (omega arith)
  pick_more (k ∷ ks) (k' ∷ ks') [] e h m = m
  pick_more (k ∷ ks) (k' ∷ ks') (s ∷ R) e h m = go (pick_more ks ks' R (omega arith) (λ p. h (suc p))) (eqb k 0) refl (eqb k' 0) refl m
    where
      go : (Member r (pick ks R) → Member r (pick ks' R)) → (a : Bool) → eqb k 0 ≡ a → (b : Bool) → eqb k' 0 ≡ b → Member r (cond a (pick ks R) (s ∷ pick ks R)) → Member r (cond b (pick ks' R) (s ∷ pick ks' R))
      go rest true x true y m = rest m
      go rest true x false y m = inr (rest m)
      go rest false x true y m = absurd (h 0 (eqb-false k 0 x) (eqb-true k' 0 y))
      go rest false x false y (inl e) = inl e
      go rest false x false y (inr m) = inr (rest m)

  -- more room loses nobody
  pub largest_more : (room room' : ℕ) (R : Rows) → room ≤ room' → Member r (largest room R) → Member r (largest room' R)
  unfolding largest
  largest_more room room' R h =
      pick_more (room_flags room R) (room_flags room' R) R (flags_each room R ∙ sym (flags_each room' R)) (chosen_more (by_magnitude (sums_of R)) (replicate (length R) 0) room room' h)

  pub largest_in : (room : ℕ) (R : Rows) → Member r (largest room R) → Member r R
  unfolding largest
  largest_in room R = pick_in (room_flags room R) R

  pub above_of : (tau : Float) (R : Rows) → Member r (above tau R) → Member r R × (is_above tau r.sum ≡ true)
  unfolding Member above
  above_of tau [] m = absurd m
  above_of tau (s ∷ R) m = go (above_of tau R) (is_above tau s.sum) refl m
    where
      go : (Member r (above tau R) → Member r R × (is_above tau r.sum ≡ true)) → (b : Bool) → is_above tau s.sum ≡ b → Member r (cond b (s ∷ above tau R) (above tau R))
          → Member r (s ∷ R) × (is_above tau r.sum ≡ true)
      go rest true t (inl e) = (inl e, ap (λ (q : Row Word Float). is_above tau q.sum) e ∙ t)
      go rest true t (inr m) = (inr (rest m).0, (rest m).1)
      go rest false t m = (inr (rest m).0, (rest m).1)

  pub above_in : (tau : Float) (R : Rows) → Member r R → is_above tau r.sum ≡ true → Member r (above tau R)
  unfolding Member above
  above_in tau [] m e = absurd m
  above_in tau (s ∷ R) m e = go (λ k. above_in tau R k e) (is_above tau s.sum) refl m
    where
      go : (Member r R → Member r (above tau R)) → (b : Bool) → is_above tau s.sum ≡ b → Member r (s ∷ R) → Member r (cond b (s ∷ above tau R) (above tau R))
      go rest true t (inl f) = inl f
      go rest true t (inr m) = inr (rest m)
      go rest false t (inl f) = absurd (holds false (sym t ∙ ap (λ (q : Row Word Float). is_above tau q.sum) (sym f) ∙ e))
      go rest false t (inr m) = rest m

-- ---- a lower threshold
nonneg_number : (x : Float) → T (nonneg x) → T (not (is_nan x))
unfolding is_nan
nonneg_number nan h = absurd h
nonneg_number (inf s) h = tt
nonneg_number (fin s m e) h = tt

pub above_lower : (tau tau' x : Float) → Number tau → Number tau' → le tau' tau ≡ true → T (fits binary64 x) → is_finite x ≡ true → is_above tau x ≡ true → is_above tau' x ≡ true
above_lower tau tau' x n n' lowered f e =
    let size : Number (magnitude x) = record { fits_f64 = magnitude_fits binary64 x f; no_nan = nonneg_number (magnitude x) (magnitude_nonneg x (finite_number x e)) } in
    lower_lt tau' tau (magnitude x) n' n size lowered
