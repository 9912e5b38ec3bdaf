-- SPDX-FileCopyrightText: 2026 The PPVM Authors
-- SPDX-License-Identifier: Apache-2.0

-- Positions held against the last one to stay: one turn at a time; and where the count is right, they are the chosen ones. With a slot for
-- each all are chosen. Assumes nothing.
use mathlib.Core.Path.{◌≡◌, refl, ap, sym, subst, ◌∙◌}
use mathlib.Core.Bool.{Bool, true, false, not, cond}
use mathlib.Core.List.{List, map}
use mathlib.Core.Logic.{◌⊎◌, inl, inr}
use Prim.Native.Nat.{ℕ, zero, suc, ◌+◌, ◌≤◌, ◌<◌}
use native.Mathlib.Omega.{arith}
use native.Mathlib.Decide.{dec_lt}
use borrow.Author.Tests.{ltb-true, ltb-false, eqb-true, eqb-false, eq-eqb, ne_eqb}
use lib.Dec.{eqb, ltb}
use mir.Val.{bool_byte}
use lib.Ieee.{Float, nan, lt}
use lib.ListN.{length, get_or, set, take, replicate, length-set, length-map, length-replicate, get_or-replicate, get_or-eq_default}
use lib.Seq.{take-set-le, get_or-set_same, get_or-set_other}
use Rattle.number.specs.Floats.{magnitude}
use Rattle.order.specs.Magnitudes.{by_magnitude, key_at}
use Rattle.order.proofs.MagnitudeLaws.{by_magnitude_lem, size_lt}
use Rattle.keep.specs.Retained.{flagged}
use Rattle.keep.specs.Chosen.{flag_of, chosen}
use Rattle.keep.specs.Largest.{stays_flag, KeepsTo}
use Rattle.keep.proofs.FlagLaws.{Kept, flagged_few, flagged_all}
use Rattle.keep.proofs.PickLaws.{flagged_next}
use Rattle.keep.proofs.ChosenLaws.{chosen_fixed, chosen_count, chosen_earlier, walked_length}
use Rattle.keep.proofs.SameFlags.{Bits, same_flags, chosen_bits}
use Rattle.keep.proofs.OrderOnce.{magnitude_once}
use Rattle.order.specs.Between.{AllFinite, rank}

-- ---- the loop
flag_same : (k : ℕ) → k ≤ 1 → flag_of k ≡ k
flag_same zero h = refl
flag_same (suc zero) h = refl
flag_same (suc (suc k)) h = absurd (omega arith)

stays_small : (cut : Float) (last i : ℕ) (x : Float) (k : ℕ) → stays_flag cut last i x k ≤ 1
unfolding stays_flag
stays_small cut last i x k = go (eqb k 0) (ltb last i) (lt cut (magnitude x)) (lt (magnitude x) cut)
  where
    go : (a b c d : Bool) → cond a (cond b (cond c 1 0) (cond d 0 1)) 1 ≤ 1
    go true true true d = omega arith
    go true true false d = omega arith
    go true false c true = omega arith
    go true false c false = omega arith
    go false b c d = omega arith

-- the number of the test whether a position stays is its flag
pub beside_number : (cut : Float) (last i : ℕ) (x : Float) (b : Bool) → b ≡ cond (ltb last i) (lt cut (magnitude x)) (not (lt (magnitude x) cut)) → bool_byte b ≡ stays_flag cut last i x 0
unfolding stays_flag
beside_number cut last i x b e = ap bool_byte e ∙ go (ltb last i) (lt cut (magnitude x)) (lt (magnitude x) cut)
  where
    go : (a c d : Bool) → bool_byte (cond a c (not d)) ≡ cond a (cond c 1 0) (cond d 0 1)
    go true true d = refl
    go true false d = refl
    go false c true = refl
    go false c false = refl

module _ (cut : Float) (coeffs : List Float) (fixed : List ℕ) (last : ℕ) where
  abbrev stay : ℕ → ℕ
  stay j = stays_flag cut last j (get_or coeffs j nan) (get_or fixed j 0)

  -- after i turns
  pub record Keeping (taken i : ℕ) (kept : List ℕ) : Type 0 where
    pub few : taken ≤ i
    pub long : length kept ≡ length fixed
    pub flags : (j : ℕ) → j < i → get_or kept j 0 ≡ stay j
    pub others : taken + flagged (take i fixed) ≡ flagged (take i kept)

  module _ (taken i : ℕ) (kept : List ℕ) (m : Keeping taken i kept) (h : i < length fixed) where
    next : (k v : ℕ) → k ≤ 1 → v ≡ stay i → k + flag_of (get_or fixed i 0) ≡ flag_of v → Keeping (taken + k) (i + 1) (set kept i v)
    next k v s e f = record { few = omega (arith, m.few); long = length-set kept i v ∙ m.long; flags = λ j g. at j g (dec_lt j i); others = counts }
      where
        inside : i < length kept
        inside = omega (arith, m.long)

        at : (j : ℕ) → j < i + 1 → Dec (j < i) → get_or (set kept i v) j 0 ≡ stay j
        at j g (yes l) = get_or-set_other kept i j v 0 (λ z. omega arith) ∙ m.flags j l
        at j g (no l) = let z : j ≡ i = omega arith in rw z (get_or-set_same kept i v 0 inside ∙ e)

        counts : taken + k + flagged (take (i + 1) fixed) ≡ flagged (take (i + 1) (set kept i v))
        counts =
            let a = flagged_next fixed i h in
            let b = flagged_next (set kept i v) i (omega (arith, inside, length-set kept i v)) in
            let c : flagged (take i (set kept i v)) ≡ flagged (take i kept) = ap flagged (take-set-le i kept i v (omega arith)) in
            let d : flag_of (get_or (set kept i v) i 0) ≡ flag_of v = ap flag_of (get_or-set_same kept i v 0 inside) in
            omega (arith, a, b, c, d, f, m.others)

    pub next_free : (v : ℕ) → get_or fixed i 0 ≡ 0 → v ≡ stays_flag cut last i (get_or coeffs i nan) 0 → Keeping (taken + v) (i + 1) (set kept i v)
    next_free v z e =
        let b : v ≤ 1 = rw e (stays_small cut last i (get_or coeffs i nan) 0) in
        next v v b (e ∙ rw z) (rw z (omega (arith, flag_same v b)))

    pub next_fixed : (get_or fixed i 0 ≡ 0 → ⊥) → Keeping taken (i + 1) (set kept i 1)
    unfolding stays_flag
    next_fixed z =
        let n : eqb (get_or fixed i 0) 0 ≡ false = ne_eqb (get_or fixed i 0) 0 z in
        let o : taken + 0 ≡ taken = omega arith in
        rw (← o) (next 0 1 (omega arith) (rw n) (rw n))

-- ---- of two that are not fixed, one chosen and one not, the chosen one is at least as large, and the earlier of equals
module _ (values : List Float) (finite : AllFinite values) (fixed : List ℕ) (long : length fixed ≡ length values) (slots : ℕ) where
  abbrev order : List ℕ
  order = by_magnitude values

  abbrev flags : List ℕ
  flags = chosen order fixed slots

  pub chosen_larger : (p q : ℕ) → p < length values → q < length values → get_or fixed p 0 ≡ 0 → get_or fixed q 0 ≡ 0 → Kept flags p → get_or flags q 0 ≡ 0
      → (key_at values q ≤ key_at values p) × (key_at values q ≡ key_at values p → p < q)
  chosen_larger p q hp hq fp fq k z =
      let f = by_magnitude_lem values finite in
      let i : ℕ = rank values p in
      let j : ℕ = rank values q in
      let pi = f.placed p hp in
      let qj = f.placed q hq in
      let l : i < j =
      chosen_earlier (length values) order fixed (magnitude_once values) long slots i j (omega (arith, pi.0, f.size)) (omega (arith, qj.0, f.size))
      (ap (λ (x : ℕ). get_or fixed x 0) pi.1 ∙ fp) (ap (λ (x : ℕ). get_or fixed x 0) qj.1 ∙ fq) (subst (λ (x : ℕ). Kept flags x) (sym pi.1) k) (ap (λ (x : ℕ). get_or flags x 0) qj.1 ∙ z) in
      let a : key_at values (get_or order j 0) ≡ key_at values q = ap (key_at values) qj.1 in
      let b : key_at values (get_or order i 0) ≡ key_at values p = ap (key_at values) pi.1 in
      (omega (arith, f.falls i j l qj.0, a, b), λ (e : key_at values q ≡ key_at values p). omega (arith, f.ties i j l qj.0 (a ∙ e ∙ sym b), pi.1, qj.1))

  flags_long : length flags ≡ length fixed
  flags_long = walked_length fixed order slots (map flag_of fixed) ∙ length-map fixed flag_of

  -- ---- with a slot for each, all are chosen
  abbrev ones : List ℕ
  ones = replicate (length values) 1

  one_at : (p : ℕ) → p < length values → get_or ones p 0 ≡ 1
  one_at p m = get_or-replicate (length values) p 1 0 m

  one_bits : Bits ones
  one_bits i = go (dec_lt i (length values))
    where
      go : Dec (i < length values) → get_or ones i 0 ≤ 1
      go (yes m) = omega (arith, one_at i m)
      go (no m) = let l : length ones ≡ length values = length-replicate (length values) 1 in rw (get_or-eq_default ones 0 {n = i} (omega arith)) (omega arith)

  pub chosen_all : length values ≤ slots → ones ≡ chosen (by_magnitude values) fixed slots
  chosen_all h =
      let l : length ones ≡ length values = length-replicate (length values) 1 in
      same_flags ones flags (l ∙ sym (flags_long ∙ long)) one_bits (chosen_bits order fixed slots)
      (omega (arith, h, flagged_few fixed, flagged_all ones (λ p m e. omega (arith, one_at p (omega arith))), chosen_count (length values) order fixed (magnitude_once values) long slots))
      (λ p q hp hq kp zp kq zq. omega (arith, one_at q (omega (arith, flags_long))))

  -- ---- the flags beside a last one, in keys
  module _ (last : ℕ) (inside : last < length values) (kept : List ℕ) (k : KeepsTo values fixed last slots kept) where
    abbrev key : ℕ → ℕ
    key = key_at values

    abbrev Stays : ℕ → Type 0
    Stays p = ((last < p) × (key last < key p)) ⊎ ((p ≤ last) × (key last ≤ key p))

    abbrev Goes : ℕ → Type 0
    Goes q = ((last < q) × (key q ≤ key last)) ⊎ ((q ≤ last) × (key q < key last))

    flag_is : (i : ℕ) → i < length values → get_or fixed i 0 ≡ 0 → get_or kept i 0 ≡ cond (ltb last i) (cond (ltb (key last) (key i)) 1 0) (cond (ltb (key i) (key last)) 0 1)
    unfolding stays_flag
    flag_is i h z =
        let e : eqb (get_or fixed i 0) 0 ≡ true = eq-eqb (get_or fixed i 0) 0 z in
        k.flags i (omega (arith, long)) ∙ rw (e, size_lt values finite last i inside h, size_lt values finite i last h inside)

    stays : (p : ℕ) → p < length values → get_or fixed p 0 ≡ 0 → Kept kept p → Stays p
    stays p h z n = go (ltb last p) refl (ltb (key last) (key p)) refl (ltb (key p) (key last)) refl (flag_is p h z)
      where
        go : (a : Bool) → ltb last p ≡ a → (b : Bool) → ltb (key last) (key p) ≡ b → (c : Bool) → ltb (key p) (key last) ≡ c → get_or kept p 0 ≡ cond a (cond b 1 0) (cond c 0 1) → Stays p
        go true u true v c w e = inl (ltb-true last p u, ltb-true (key last) (key p) v)
        go true u false v c w e = absurd (n e)
        go false u b v true w e = absurd (n e)
        go false u b v false w e = inr (ltb-false last p u, ltb-false (key p) (key last) w)

    goes : (q : ℕ) → q < length values → get_or fixed q 0 ≡ 0 → get_or kept q 0 ≡ 0 → Goes q
    goes q h z n = go (ltb last q) refl (ltb (key last) (key q)) refl (ltb (key q) (key last)) refl (sym n ∙ flag_is q h z)
      where
        go : (a : Bool) → ltb last q ≡ a → (b : Bool) → ltb (key last) (key q) ≡ b → (c : Bool) → ltb (key q) (key last) ≡ c → ◌≡◌ {A = ℕ} 0 (cond a (cond b 1 0) (cond c 0 1)) → Goes q
        go true u true v c w e = absurd (omega arith)
        go true u false v c w e = inl (ltb-true last q u, ltb-false (key last) (key q) v)
        go false u b v true w e = inr (ltb-false last q u, ltb-true (key q) (key last) w)
        go false u b v false w e = absurd (omega arith)

    -- a position that is not chosen is not fixed, nor is one whose flag is 0
    free_left : (p : ℕ) → get_or flags p 0 ≡ 0 → get_or fixed p 0 ≡ 0
    free_left p z = go (eqb (get_or fixed p 0) 0) refl
      where
        go : (b : Bool) → eqb (get_or fixed p 0) 0 ≡ b → get_or fixed p 0 ≡ 0
        go true e = eqb-true (get_or fixed p 0) 0 e
        go false e = absurd (chosen_fixed order fixed slots p (eqb-false (get_or fixed p 0) 0 e) z)

    free_gone : (q : ℕ) → q < length values → get_or kept q 0 ≡ 0 → get_or fixed q 0 ≡ 0
    unfolding stays_flag
    free_gone q h z = go (eqb (get_or fixed q 0) 0) refl
      where
        go : (b : Bool) → eqb (get_or fixed q 0) 0 ≡ b → get_or fixed q 0 ≡ 0
        go true e = eqb-true (get_or fixed q 0) 0 e
        go false e = let one : get_or kept q 0 ≡ 1 = k.flags q (omega (arith, long)) ∙ rw e in absurd (omega arith)

    never : (p q : ℕ) → p < length values → q < length values → Kept kept p → get_or flags p 0 ≡ 0 → Kept flags q → get_or kept q 0 ≡ 0 → ⊥
    never p q hp hq kp zp kq zq =
        let fp = free_left p zp in
        let fq = free_gone q hq zq in
        let l = chosen_larger q p hq hp fq fp kq zp in
        go l.0 l.1 (stays p hp fp kp) (goes q hq fq zq)
      where
        go : key p ≤ key q → (key p ≡ key q → q < p) → Stays p → Goes q → ⊥
        go a b (inl s) (inl g) = omega (arith, s.1, g.1)
        go a b (inl s) (inr g) = omega (arith, s.1, g.1)
        go a b (inr s) (inl g) = omega (arith, s.0, g.0, b (omega (arith, s.1, g.1)))
        go a b (inr s) (inr g) = omega (arith, s.1, g.1)

    kept_bits : Bits kept
    kept_bits i = go (dec_lt i (length fixed))
      where
        go : Dec (i < length fixed) → get_or kept i 0 ≤ 1
        go (yes h) = rw (k.flags i h) (stays_small (magnitude (get_or values last nan)) last i (get_or values i nan) (get_or fixed i 0))
        go (no h) = rw (get_or-eq_default kept 0 {n = i} (omega (arith, k.long))) (omega arith)

    pub chosen_by_last : kept ≡ chosen (by_magnitude values) fixed slots
    chosen_by_last =
        same_flags kept flags (k.long ∙ sym flags_long) kept_bits (chosen_bits order fixed slots)
        (omega (arith, k.others, flagged_few kept, k.long, long, chosen_count (length values) order fixed (magnitude_once values) long slots))
        (λ p q hp hq. never p q (omega (arith, hp, k.long, long)) (omega (arith, hq, flags_long, long)))
