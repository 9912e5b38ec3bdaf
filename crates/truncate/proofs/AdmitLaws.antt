-- SPDX-FileCopyrightText: 2026 The PPVM Authors
-- SPDX-License-Identifier: Apache-2.0

-- Admission step by step: the largest are chosen and appended, the work tables are cleared.
-- Assumes nothing.
use mathlib.Core.Path.{◌≡◌, sym, ap, subst, ◌∙◌}
use mathlib.Core.Bool.{true, false}
use mathlib.Core.List.{List, ◌++◌}
use Prim.Native.Nat.{ℕ, ◌+◌, ◌-◌, ◌*◌, ◌/◌, ◌≤◌, ◌<◌, min}
use native.Mathlib.Omega.{arith}
use borrow.Author.Tests.{lt-ltb, le-ltb}
use lib.Dec.{ltb}
use lib.Ieee.{Float}
use lib.ListN.{length, take, drop, replicate, length-append, length-drop}
use lib.Seq.{take_all, length-take-le}
use Rattle.refusal.specs.declared.Refusal.{Refusal}
use Rattle.refusal.specs.declared.Refusal.TheVariants.{TableFull}
use Rattle.std.specs.Prelude.{Ok, Err}
use Rattle.word.specs.Flat.{word_lanes}
use Rattle.order.specs.Magnitudes.{by_magnitude}
use Rattle.keep.specs.Retained.{flagged}
use Rattle.keep.specs.Chosen.{chosen}
use Rattle.keep.specs.Admitted.{appended_zeros}
use Rattle.keep.proofs.ChosenLaws.{chosen_unfixed}
use Rattle.truncate.specs.Admissions.{admit_flags, admit_tests, admit}
use Rattle.keep.specs.Between.{AdmitRoom, Admits}
pub use Rattle.keep.proofs.OrderOnce.{magnitude_once}

-- ---- choosing and appending
module _ (len : ℕ) (lanes : List ℕ) (coeffs : List Float) (list : List ℕ) (values : List Float) (room : ℕ) where
  abbrev flags : List ℕ
  flags = chosen (by_magnitude values) (replicate (length values) 0) room

  module _ (fixed kept : List ℕ) (m : ℕ) (ef : fixed ≡ replicate m 0) (em : m ≡ length values) (ek : kept ≡ chosen (by_magnitude values) fixed room) (long : length kept ≡ length values) where
    kept_are : kept ≡ flags
    kept_are = ek ∙ rw (ef, em)

    kept_count : flagged (take (length values) kept) ≡ min room (length values)
    kept_count =
        ap flagged (take_all (length values) kept (omega (arith, long)) ∙ kept_are)
        ∙ chosen_unfixed (length values) (by_magnitude values) (magnitude_once values) room

    pub append_asks : word_lanes * length values ≤ length list → word_lanes * (len + min room (length values)) ≤ length lanes → len + min room (length values) ≤ length coeffs
        → AdmitRoom len (length values) list kept lanes × (len + flagged (take (length values) kept) ≤ length coeffs)
    append_asks h i j =
        let n = kept_count in
        (record { listed = h; flags = omega (arith, long); places = omega (arith, n, i) }, omega (arith, n, j))

    pub appended_are : (r : ℕ) (lanes' : List ℕ) (coeffs' : List Float) → Admits len (length values) list kept lanes coeffs r lanes' coeffs'
        → Admits len (length values) list flags lanes coeffs r lanes' coeffs' × (length flags ≡ length values)
    appended_are r lanes' coeffs' h =
        (subst (λ (k : List ℕ). Admits len (length values) list k lanes coeffs r lanes' coeffs') kept_are h, ap length (sym kept_are) ∙ long)

-- ---- how many come in
pub admit_count : (len : ℕ) (values : List Float) (limit : ℕ) → flagged (admit_flags len values limit) ≡ min (limit - len) (length values)
unfolding admit_flags
admit_count len values limit = chosen_unfixed (length values) (by_magnitude values) (magnitude_once values) (limit - len)

flags_are : (len : ℕ) (values : List Float) (limit room : ℕ) → room ≡ limit - len → chosen (by_magnitude values) (replicate (length values) 0) room ≡ admit_flags len values limit
unfolding admit_flags
flags_are len values limit room e = rw e

-- zeros in a table whose first places were lent and kept their number
pub cleared : (t : List ℕ) (k : ℕ) (l part : List ℕ) → k ≤ length l → length part ≡ length (take k l) → t ≡ replicate (length (part ++ drop k l)) 0 → t ≡ replicate (length l) 0
cleared t k l part h e z =
    let same : length (part ++ drop k l) ≡ length l = omega (arith, length-append part (drop k l), e, h, length-take-le k l h, length-drop k l) in
    z ∙ ap (λ (j : ℕ). replicate j 0) same

-- ---- the answers
module _ (len : ℕ) (lanes : List ℕ) (coeffs : List Float) (list : List ℕ) (values : List Float) (order work kept : List ℕ) (n limit : ℕ) where
  pub admit_refused : (r : Refusal) → admit_tests len lanes coeffs list values order work kept n limit ≡ Err r
      → record { answer = Err r; lanes = lanes; coeffs = coeffs; order = order; work = work; kept = kept } ≡ admit len lanes coeffs list values order work kept n limit
  unfolding admit
  admit_refused r e = rw e

  module _ (ok : admit_tests len lanes coeffs list values order work kept n limit ≡ Ok tt) (places room more : ℕ)
      (is-places : places ≡ min (length lanes / word_lanes) (length coeffs)) (is-room : room ≡ limit - len) (is-more : more ≡ min room (length values)) (order' work' kept' : List ℕ)
      (eo : order' ≡ replicate (length order) 0) (ew : work' ≡ replicate (length work) 0) (ek : kept' ≡ replicate (length kept) 0) where
    abbrev all_flags : List ℕ
    all_flags = admit_flags len values limit

    pub admit_full : places < len + more
        → record { answer = Err (TableFull 3 places); lanes = lanes; coeffs = coeffs; order = order'; work = work'; kept = kept' } ≡ admit len lanes coeffs list values order work kept n limit
    unfolding admit
    admit_full l =
        let c = admit_count len values limit in
        let t : ltb (min (length lanes / word_lanes) (length coeffs)) (len + flagged all_flags) ≡ true = lt-ltb (min (length lanes / word_lanes) (length coeffs)) (len + flagged all_flags) (omega (arith, c, l, is-places, is-room, is-more)) in
        rw (ok, t, is-places, eo, ew, ek)

    pub admit_done : len + more ≤ places → (r : ℕ) (lanes' : List ℕ) (coeffs' : List Float)
        → Admits len (length values) list (chosen (by_magnitude values) (replicate (length values) 0) room) lanes coeffs r lanes' coeffs'
        × (length (chosen (by_magnitude values) (replicate (length values) 0) room) ≡ length values)
        → record { answer = Ok r; lanes = lanes'; coeffs = coeffs'; order = order'; work = work'; kept = kept' } ≡ admit len lanes coeffs list values order work kept n limit
    unfolding admit
    admit_done l r lanes' coeffs' h =
        let c = admit_count len values limit in
        let e = flags_are len values limit room is-room in
        let a : Admits len (length values) list all_flags lanes coeffs r lanes' coeffs' = subst (λ (k : List ℕ). Admits len (length values) list k lanes coeffs r lanes' coeffs') e h.0 in
        let long : length all_flags ≡ length values = ap length (sym e) ∙ h.1 in
        let all : take (length values) all_flags ≡ all_flags = take_all (length values) all_flags (omega (arith, long)) in
        let er : r ≡ len + flagged all_flags = a.answers ∙ ap (λ (k : List ℕ). len + flagged k) all in
        let en : coeffs' ≡ appended_zeros len (flagged all_flags) coeffs = a.numbers_left ∙ ap (λ (k : List ℕ). appended_zeros len (flagged k) coeffs) all in
        let t : ltb (min (length lanes / word_lanes) (length coeffs)) (len + flagged all_flags) ≡ false = le-ltb (min (length lanes / word_lanes) (length coeffs)) (len + flagged all_flags) (omega (arith, c, l, is-places, is-room, is-more)) in
        rw (ok, t, er, a.words_left, en, eo, ew, ek)
