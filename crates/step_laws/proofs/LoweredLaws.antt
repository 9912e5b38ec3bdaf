-- SPDX-FileCopyrightText: 2026 The PPVM Authors
-- SPDX-License-Identifier: Apache-2.0

-- A lowered drop_tol loses nobody in a prune and a cap behind it: what the prune keeps beyond is smaller than every unprotected entry kept
-- before, so that each of these has the same rank. Assumes nothing.
use mathlib.Core.Path.{◌≡◌, refl, sym, ap, ap₂, subst, ◌∙◌}
use mathlib.Core.Bool.{Bool, true, false, cond}
use mathlib.Core.List.{List, [], ◌∷◌}
use Prim.Native.Nat.{ℕ, zero, suc, ◌-◌, ◌<◌}
use native.Mathlib.Omega.{arith}
use borrow.Author.Tests.{leb-true, leb-false, eqb-true, eqb-false}
use denote.Floats.{passes}
use lib.Dec.{eqb, leb}
use lib.Ieee.{Float, nan, binary64, le, is_nan, of_bits}
use lib.Ieee.Bits.{of_bits-fits}
use lib.ListN.{length, get_or, replicate, length-map, length-replicate, get_or-replicate}
use Rattle.word.specs.declared.word.Word.{Word}
use Rattle.number.specs.Floats.{float0, magnitude, is_finite}
use Rattle.number.specs.Key.{key}
use Rattle.number.proofs.KeyLaws.{le_key, magnitude_nonneg, magnitude_fits, magnitude_key}
use Rattle.order.specs.Magnitudes.{by_magnitude, key_at}
use Rattle.order.specs.Members.{Member}
use Rattle.order.specs.Places.{is_among}
use Rattle.order.specs.Between as Between
use Rattle.keep.specs.Retained.{pick, flagged}
use Rattle.keep.specs.Chosen.{chosen}
use Rattle.keep.specs.Pruned.{large_flag, large_flags}
use Rattle.keep.proofs.FlagLaws.{Kept}
use Rattle.keep.proofs.ChosenLaws.{chosen_fixed, chosen_count}
use Rattle.keep.proofs.OrderOnce.{magnitude_once}
use Rattle.keep.proofs.PruneLaws.{Number, large_length, prune_more}
use Rattle.truncate.proofs.ThresholdLaws.{finite_number, lower_le, above_zero}
use Rattle.step_laws.specs.Steps.{Stepped, protected_in, kept_by, pruned_by, capped_by}
use Rattle.step_laws.specs.Kept.{Finite, AllFinite}
use Rattle.step_laws.proofs.EndLaws.{chosen_long, large_stands}
use Rattle.step_laws.proofs.RankLaws.{rank_in, flagged_gap, kept_rank, rank_kept}
use Rattle.step_laws.proofs.PlaceLaws.{place_of, pick_all, pick_each, picked_at, found, stands, pick_map, pick_alike, pick_flagged, Beyond, rank_same}

number_of : (x : Float) → Finite x → Number x
number_of x f = record { fits_f64 = f.fitting; no_nan = finite_number x f.finite }

zero_number : Number float0
zero_number = record { fits_f64 = of_bits-fits binary64 0; no_nan = unfold is_nan of_bits in tt }

compared : (xs : List Float) → AllFinite xs → Between.AllFinite xs
compared xs f = record { fitting = λ i h. (f i h).fitting; numbers = λ i h. passes (is_finite (get_or xs i nan)) (f i h).finite }

-- ---- the flags of a prune, all raised where it does nothing
unfoldable keep_flags : Float → List Float → List ℕ → List ℕ
keep_flags tol xs fs = cond (le tol float0) (replicate (length xs) 1) (large_flags tol xs fs)

ones_kept : (n p : ℕ) → p < n → Kept (replicate n 1) p
ones_kept n p h z = omega (arith, sym (get_or-replicate n p 1 0 h) ∙ z)

large_at : (tol : Float) (xs : List Float) (ks : List ℕ) (i : ℕ) → i < length xs → i < length ks → get_or (large_flags tol xs ks) i 0 ≡ large_flag tol (get_or xs i nan) (get_or ks i 0)
unfolding large_flags
large_at tol [] ks i h g = absurd (omega arith)
large_at tol (x ∷ xs) [] i h g = absurd (omega arith)
large_at tol (x ∷ xs) (k ∷ ks) zero h g = refl
large_at tol (x ∷ xs) (k ∷ ks) (suc i) h g = large_at tol xs ks i (omega arith) (omega arith)

flag_inside : (flags : List ℕ) (p : ℕ) → Kept flags p → p < length flags
flag_inside [] p k = absurd (k refl)
flag_inside (f ∷ flags) zero k = omega arith
flag_inside (f ∷ flags) (suc p) k = omega (arith, flag_inside flags p k)

module _ (xs : List Float) (finite : AllFinite xs) (fs : List ℕ) (long : length fs ≡ length xs) where
  keep_long : (tol : Float) → length (keep_flags tol xs fs) ≡ length xs
  unfolding keep_flags
  keep_long tol = go (le tol float0)
    where
      go : (b : Bool) → length (cond b (replicate (length xs) 1) (large_flags tol xs fs)) ≡ length xs
      go true = length-replicate (length xs) 1
      go false = large_length tol xs fs ∙ long

  keep_fixed : (tol : Float) (p : ℕ) → Kept fs p → Kept (keep_flags tol xs fs) p
  unfolding keep_flags
  keep_fixed tol p n = go (le tol float0)
    where
      go : (b : Bool) → Kept (cond b (replicate (length xs) 1) (large_flags tol xs fs)) p
      go true = ones_kept (length xs) p (omega (arith, flag_inside fs p n, long))
      go false = large_stands tol xs fs p n

  keep_more : (tol tol' : Float) → Finite tol → Finite tol' → le tol' tol ≡ true → (p : ℕ) → Kept (keep_flags tol xs fs) p → Kept (keep_flags tol' xs fs) p
  unfolding keep_flags
  keep_more tol tol' n n' lowered p k = go (le tol' float0) refl (le tol float0) refl k
    where
      go : (b' : Bool) → le tol' float0 ≡ b' → (b : Bool) → le tol float0 ≡ b → Kept (cond b (replicate (length xs) 1) (large_flags tol xs fs)) p → Kept (cond b' (replicate (length xs) 1) (large_flags tol' xs fs)) p
      go true u true v k = k
      go true u false v k = ones_kept (length xs) p (omega (arith, flag_inside (large_flags tol xs fs) p k, large_length tol xs fs, long))
      go false u true v k = absurd (passes false (sym u ∙ lower_le tol' tol float0 (number_of tol' n') (number_of tol n) zero_number lowered v))
      go false u false v k =
          prune_more tol' tol n'.fitting n.fitting (above_zero tol' (number_of tol' n').no_nan u) (above_zero tol (number_of tol n).no_nan v) lowered xs fs (λ i h. number_of (get_or xs i nan) (finite i h)) p k

  -- ---- of two that are not fixed, one kept and one not, the kept one is larger
  module _ (tol : Float) (n : Finite tol) where
    flag_is : le tol float0 ≡ false → (i : ℕ) → i < length xs → get_or fs i 0 ≡ 0 → get_or (large_flags tol xs fs) i 0 ≡ cond (leb (key binary64 tol) (key_at xs i)) 1 0
    unfolding large_flag
    flag_is z i h f =
        let x = number_of (get_or xs i nan) (finite i h) in
        large_at tol xs fs i h (omega (arith, h, long))
        ∙ ap (λ (k : ℕ). large_flag tol (get_or xs i nan) k) f
        ∙ ap (λ (b : Bool). cond {A = ℕ} b 1 0)
        (le_key binary64 tol (magnitude (get_or xs i nan)) n.fitting (magnitude_fits binary64 (get_or xs i nan) x.fits_f64) (above_zero tol (number_of tol n).no_nan z) (magnitude_nonneg (get_or xs i nan) x.no_nan)
        ∙ ap (leb (key binary64 tol)) (magnitude_key binary64 (get_or xs i nan)))

    keep_larger : (p q : ℕ) → p < length xs → q < length xs → get_or fs p 0 ≡ 0 → get_or fs q 0 ≡ 0 → Kept (keep_flags tol xs fs) p → get_or (keep_flags tol xs fs) q 0 ≡ 0 → key_at xs q < key_at xs p
    unfolding keep_flags
    keep_larger p q hp hq fp fq k z = go (le tol float0) refl k z
      where
        large : (b : Bool) → (◌≡◌ {A = ℕ} (cond b 1 0) 0 → ⊥) → b ≡ true
        large true h = refl
        large false h = absurd (h refl)

        small : (b : Bool) → ◌≡◌ {A = ℕ} (cond b 1 0) 0 → b ≡ false
        small true h = absurd (omega arith)
        small false h = refl

        go : (b : Bool) → le tol float0 ≡ b → Kept (cond b (replicate (length xs) 1) (large_flags tol xs fs)) p → get_or (cond b (replicate (length xs) 1) (large_flags tol xs fs)) q 0 ≡ 0 → key_at xs q < key_at xs p
        go true e k z = absurd (ones_kept (length xs) q hq z)
        go false e k z =
            let a = leb-true (key binary64 tol) (key_at xs p) (large (leb (key binary64 tol) (key_at xs p)) (λ y. k (flag_is e p hp fp ∙ y))) in
            let b = leb-false (key binary64 tol) (key_at xs q) (small (leb (key binary64 tol) (key_at xs q)) (sym (flag_is e q hq fq) ∙ z)) in
            omega (arith, a, b)

-- ---- prune and cap by flags alone: where they do nothing, all flags are raised
module _ (protected : List Word) (s : Stepped) (long : length s.numbers ≡ length s.words) where
  abbrev fixed : List ℕ
  fixed = protected_in protected s.words

  fixed_long : length fixed ≡ length s.words
  fixed_long = length-map s.words (λ (w : Word). cond (is_among w protected) 1 0)

  abbrev cap_flags : ℕ → List ℕ
  cap_flags limit = chosen (by_magnitude s.numbers) fixed (limit - flagged fixed)

  all_kept : (flags : List ℕ) → length flags ≡ length s.words → ((p : ℕ) → p < length s.words → Kept flags p) → s ≡ kept_by protected flags s
  all_kept flags e n =
      ap₂ (λ (ws : List Word) (xs : List Float). record { words = ws; numbers = xs; products = s.products })
      (sym (pick_all flags s.words (omega (arith, e)) n)) (sym (pick_all flags s.numbers (omega (arith, e, long)) (λ p h. n p (omega (arith, h, long)))))

  prune_flags : (tol : Float) → pruned_by protected tol s ≡ kept_by protected (keep_flags tol s.numbers fixed) s
  unfolding pruned_by keep_flags
  prune_flags tol = go (le tol float0)
    where
      go : (b : Bool) → cond b s (kept_by protected (large_flags tol s.numbers fixed) s) ≡ kept_by protected (cond b (replicate (length s.numbers) 1) (large_flags tol s.numbers fixed)) s
      go true = all_kept (replicate (length s.numbers) 1) (length-replicate (length s.numbers) 1 ∙ long) (λ p h. ones_kept (length s.numbers) p (omega (arith, h, long)))
      go false = refl

  cap_flags_lem : (limit : ℕ) → capped_by protected limit s ≡ kept_by protected (cap_flags limit) s
  unfolding capped_by
  cap_flags_lem limit = go (leb (length s.words) limit) refl
    where
      go : (b : Bool) → leb (length s.words) limit ≡ b → cond b s (kept_by protected (cap_flags limit) s) ≡ kept_by protected (cap_flags limit) s
      go false t = refl
      go true t =
          let l : length (cap_flags limit) ≡ length s.words = chosen_long (by_magnitude s.numbers) fixed (limit - flagged fixed) ∙ fixed_long in
          let c = chosen_count (length s.numbers) (by_magnitude s.numbers) fixed (magnitude_once s.numbers) (fixed_long ∙ sym long) (limit - flagged fixed) in
          all_kept (cap_flags limit) l (λ p h z. omega (arith, c, l, long, leb-true (length s.words) limit t, flagged_gap (cap_flags limit) p (omega (arith, h, l)) z))

-- ---- a prune and a cap behind it
module _ (protected : List Word) (s : Stepped) (long : length s.numbers ≡ length s.words) (finite : AllFinite s.numbers) (limit : ℕ) where
  abbrev xs : List Float
  xs = s.numbers

  abbrev fs : List ℕ
  fs = protected_in protected s.words

  fs_long : length fs ≡ length xs
  fs_long = length-map s.words (λ (w : Word). cond (is_among w protected) 1 0) ∙ sym long

  -- the cap of what flags pick
  abbrev cap_of : List ℕ → List ℕ
  cap_of A = chosen (by_magnitude (pick A xs)) (pick A fs) (limit - flagged (pick A fs))

  ends_are : (tol : Float) → (capped_by protected limit (pruned_by protected tol s)).words ≡ pick (cap_of (keep_flags tol xs fs)) (pick (keep_flags tol xs fs) s.words)
  ends_are tol =
      ap (λ (x : Stepped). (capped_by protected limit x).words) (prune_flags protected s long tol)
      ∙ ap (λ (x : Stepped). x.words) (cap_flags_lem protected (kept_by protected (keep_flags tol xs fs) s) (pick_alike (keep_flags tol xs fs) xs s.words long) limit)
      ∙ ap (λ (g : List ℕ). pick (chosen (by_magnitude (pick (keep_flags tol xs fs) xs)) g (limit - flagged g)) (pick (keep_flags tol xs fs) s.words))
      (pick_map (λ (w : Word). cond (is_among w protected) 1 0) (keep_flags tol xs fs) s.words)

  module _ (tol tol' : Float) (n : Finite tol) (n' : Finite tol') (lowered : le tol' tol ≡ true) where
    abbrev A : List ℕ
    A = keep_flags tol xs fs

    abbrev B : List ℕ
    B = keep_flags tol' xs fs

    A_long : length A ≡ length xs
    A_long = keep_long xs finite fs fs_long tol

    B_long : length B ≡ length xs
    B_long = keep_long xs finite fs fs_long tol'

    more : (p : ℕ) → Kept A p → Kept B p
    more = keep_more xs finite fs fs_long tol tol' n n' lowered

    same_slots : flagged (pick A fs) ≡ flagged (pick B fs)
    same_slots =
        pick_flagged A fs (A_long ∙ sym fs_long) (keep_fixed xs finite fs fs_long tol)
        ∙ sym (pick_flagged B fs (B_long ∙ sym fs_long) (keep_fixed xs finite fs fs_long tol'))

    -- a position that the first prune and its cap keep
    module _ (p : ℕ) (h : p < length xs) (k : Kept A p) (c : Kept (cap_of A) (place_of p A)) where
      free : get_or fs p 0 ≡ 0 → Kept (cap_of B) (place_of p B)
      free z =
          let ax = picked_at A xs p nan A_long h k in
          let bx = picked_at B xs p nan B_long h (more p k) in
          let af = picked_at A fs p 0 (A_long ∙ sym fs_long) (omega (arith, h, fs_long)) k in
          let bf = picked_at B fs p 0 (B_long ∙ sym fs_long) (omega (arith, h, fs_long)) (more p k) in
          let ak : key_at (pick A xs) (place_of p A) ≡ key_at xs p = ap (key binary64) ax.1 in
          let bk : key_at (pick B xs) (place_of p B) ≡ key_at xs p = ap (key binary64) bx.1 in
          let r =
          kept_rank (pick A xs) (compared (pick A xs) (pick_each Finite nan A xs finite)) (pick A fs) (pick_alike A fs xs fs_long) (limit - flagged (pick A fs)) (place_of p A) ax.0 (af.1 ∙ z) c in
          let beyond : Beyond (key_at xs p) xs fs A B =
          record { fs_long = fs_long; A_long = A_long; B_long = B_long; more = more; small = λ q hq fq zq. keep_larger xs finite fs fs_long tol n p q h hq z fq k zq } in
          let e = rank_same (key_at xs p) p xs fs A B beyond h k in
          let a : rank_in (key_at (pick A xs) (place_of p A)) (place_of p A) (pick A xs) (pick A fs) ≡ rank_in (key_at xs p) (place_of p A) (pick A xs) (pick A fs) =
          ap (λ (j : ℕ). rank_in j (place_of p A) (pick A xs) (pick A fs)) ak in
          let b : rank_in (key_at (pick B xs) (place_of p B)) (place_of p B) (pick B xs) (pick B fs) ≡ rank_in (key_at xs p) (place_of p B) (pick B xs) (pick B fs) =
          ap (λ (j : ℕ). rank_in j (place_of p B) (pick B xs) (pick B fs)) bk in
          rank_kept (pick B xs) (compared (pick B xs) (pick_each Finite nan B xs finite)) (pick B fs) (pick_alike B fs xs fs_long) (limit - flagged (pick B fs)) (place_of p B) bx.0 (bf.1 ∙ z) (omega (arith, r, a, b, e, same_slots))

      held : (get_or fs p 0 ≡ 0 → ⊥) → Kept (cap_of B) (place_of p B)
      held f =
          let bf = picked_at B fs p 0 (B_long ∙ sym fs_long) (omega (arith, h, fs_long)) (more p k) in
          chosen_fixed (by_magnitude (pick B xs)) (pick B fs) (limit - flagged (pick B fs)) (place_of p B) (λ y. f (sym bf.1 ∙ y))

      still : Kept (cap_of B) (place_of p B)
      still = go (eqb (get_or fs p 0) 0) refl
        where
          go : (b : Bool) → eqb (get_or fs p 0) 0 ≡ b → Kept (cap_of B) (place_of p B)
          go true e = free (eqb-true (get_or fs p 0) 0 e)
          go false e = held (eqb-false (get_or fs p 0) 0 e)

    pub lowered_stays : (w : Word) → Member w (capped_by protected limit (pruned_by protected tol s)).words → Member w (capped_by protected limit (pruned_by protected tol' s)).words
    lowered_stays w m =
        let f = found w A (cap_of A) s.words (subst (Member w) (ends_are tol) m) in
        let h : f.at < length xs = omega (arith, f.inside, long) in
        subst (Member w) (sym (ends_are tol'))
        (stands w B (cap_of B) s.words f.at (B_long ∙ long) f.inside f.is (more f.at f.first) (still f.at h f.first f.second))
