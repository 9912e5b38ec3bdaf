-- SPDX-FileCopyrightText: 2026 The PPVM Authors
-- SPDX-License-Identifier: Apache-2.0

-- The last place of a word lies in the chain of its slot; laying chains, following one, whether a list holds a word, and one word more. Assumes nothing.
use mathlib.Core.Path.{◌≡◌, refl, ap, sym, ◌∙◌}
use mathlib.Core.Bool.{Bool, true, false, not, ◌||◌, cond}
use mathlib.Core.List.{List, [], ◌∷◌, ◌++◌}
use Prim.Native.Nat.{ℕ, zero, suc, ◌+◌, ◌-◌, ◌≤◌, ◌<◌}
use native.Mathlib.Numerals.{add-one}
use native.Mathlib.Omega.{arith}
use native.Mathlib.Decide.{ℕ_discrete}
use borrow.Author.Tests.{eqb-true, eqb-false, eq-eqb, ne_eqb}
use lib.Dec.{eqb, eqb-suc-zero}
use lib.ListN.{length, get_or, set, take, replicate, length-append, length-set, get_or-replicate, length-replicate, get_or-append}
use lib.Seq.{get_or-set_same, get_or-set_other, get_or_at, length-take-le, take-suc-set}
use Rattle.word.specs.Order.{same}
use Rattle.word.specs.Word.{identity}
use Rattle.word.specs.declared.word.Word.{Word}
use Rattle.word.proofs.OrderLaws.{same_eq}
use Rattle.order.specs.Places.{is_among}
use Rattle.slots.specs.Slots.{last_of}
use Rattle.slots.specs.Between.{slot_of, last_in, Slotted}

-- ---- chains
module _ (slots : ℕ) (ws : List Word) where
  abbrev slot_at : ℕ → ℕ
  slot_at i = slot_of slots (get_or ws i identity)

  last_low : (s b : ℕ) → last_in slots s ws b ≤ b
  unfolding last_in
  last_low s zero = omega arith
  last_low s (suc b) = go (eqb (slot_at b) s) (last_low s b)
    where
      go : (c : Bool) → last_in slots s ws b ≤ b → cond c (suc b) (last_in slots s ws b) ≤ suc b
      go true h = omega arith
      go false h = omega (arith, h)

  last_slot : (s b i : ℕ) → last_in slots s ws b ≡ suc i → slot_at i ≡ s
  unfolding last_in
  last_slot s zero i e = absurd (omega arith)
  last_slot s (suc b) i e = go (eqb (slot_at b) s) refl e (last_slot s b i)
    where
      go : (c : Bool) → eqb (slot_at b) s ≡ c → cond c (suc b) (last_in slots s ws b) ≡ suc i → (last_in slots s ws b ≡ suc i → slot_at i ≡ s) → slot_at i ≡ s
      go true t f h = let k : i ≡ b = omega (arith, f) in rw k (eqb-true (slot_at b) s t)
      go false t f h = h f

  -- a word in another slot is another word
  other : (w : Word) (b : ℕ) → eqb (slot_at b) (slot_of slots w) ≡ false → same (get_or ws b identity) w ≡ false
  other w b e = go (same (get_or ws b identity) w) refl
    where
      go : (c : Bool) → same (get_or ws b identity) w ≡ c → c ≡ false
      go true f = absurd (eqb-false (slot_at b) (slot_of slots w) e (ap (slot_of slots) (same_eq (get_or ws b identity) w f)))
      go false f = refl

  -- places outside the chain may be skipped
  skips : (w : Word) (b : ℕ) → last_of w ws b ≡ last_of w ws (last_in slots (slot_of slots w) ws b)
  unfolding last_in last_of
  skips w zero = refl
  skips w (suc b) = go (eqb (slot_at b) (slot_of slots w)) refl (skips w b)
    where
      go : (c : Bool) → eqb (slot_at b) (slot_of slots w) ≡ c → last_of w ws b ≡ last_of w ws (last_in slots (slot_of slots w) ws b)
          → last_of w ws (suc b) ≡ last_of w ws (cond c (suc b) (last_in slots (slot_of slots w) ws b))
      go true e h = refl
      go false e h = ap (λ (c : Bool). cond c (suc b) (last_of w ws b)) (other w b e) ∙ h

-- ---- following a chain
-- of the first b places w stands last at `at` or before, and `at` is in its chain
pub record Follows (slots : ℕ) (w : Word) (ws : List Word) (b at : ℕ) : Type 0 where
  pub low : at ≤ length ws
  pub slot : (i : ℕ) → at ≡ suc i → slot_of slots (get_or ws i identity) ≡ slot_of slots w
  pub left : last_of w ws at ≡ last_of w ws b

module _ (slots : ℕ) (w : Word) (ws : List Word) (b : ℕ) where
  follow : (k : ℕ) → k ≤ length ws → last_of w ws k ≡ last_of w ws b → Follows slots w ws b (last_in slots (slot_of slots w) ws k)
  follow k h e = record { low = omega (arith, last_low slots ws (slot_of slots w) k); slot = λ i f. last_slot slots ws (slot_of slots w) k i f; left = sym (skips slots ws w k) ∙ e }

module _ (w : Word) (ws : List Word) (heads nexts : List ℕ) (laid : Slotted ws heads nexts) where
  pub follow_start : (s : ℕ) → s ≡ slot_of (length heads) w → s < length heads → Follows (length heads) w ws (length ws) (get_or heads s 0)
  follow_start s e h = rw (laid.heads_are s h, e) (follow (length heads) w ws (length ws) (length ws) (omega arith) refl)

  -- from the place of w itself
  pub follow_before : (i : ℕ) → i < length ws → w ≡ get_or ws i identity → Follows (length heads) w ws i (get_or nexts i 0)
  follow_before i h e =
      let n : get_or nexts i 0 ≡ last_in (length heads) (slot_of (length heads) w) ws i = laid.nexts_are i h ∙ ap (λ (v : Word). last_in (length heads) (slot_of (length heads) v) ws i) (sym e) in
      rw n (follow (length heads) w ws i i (omega arith) refl)

  module _ {b : ℕ} (at : ℕ) (p : 0 < at) (f : Follows (length heads) w ws b at) (v : Word) (e : v ≡ get_or ws (at - 1) identity) where
    before_at : at ≡ suc (at - 1)
    before_at = omega arith

    by_test : (c : Bool) → same v w ≡ c → last_of w ws at ≡ cond c at (last_of w ws (at - 1))
    unfolding last_of
    by_test c t =
        ap (last_of w ws) before_at
        ∙ ap (λ (u : Word). cond (same u w) (suc (at - 1)) (last_of w ws (at - 1))) (sym e)
        ∙ ap (λ (b : Bool). cond b (suc (at - 1)) (last_of w ws (at - 1))) t
        ∙ ap (λ (k : ℕ). cond c k (last_of w ws (at - 1))) (sym before_at)

    pub follow_found : same v w ≡ true → at ≡ last_of w ws b
    follow_found t = sym (by_test true t) ∙ f.left

    pub next_is : get_or nexts (at - 1) 0 ≡ last_in (length heads) (slot_of (length heads) w) ws (at - 1)
    next_is =
        laid.nexts_are (at - 1) (omega (arith, f.low))
        ∙ ap (λ (s : ℕ). last_in (length heads) s ws (at - 1)) (f.slot (at - 1) before_at)

    pub follow_falls : get_or nexts (at - 1) 0 < at
    follow_falls = omega (arith, next_is, last_low (length heads) ws (slot_of (length heads) w) (at - 1))

    pub follow_on : same v w ≡ false → Follows (length heads) w ws b (get_or nexts (at - 1) 0)
    follow_on t = rw next_is (follow (length heads) w ws b (at - 1) (omega (arith, f.low)) (sym (by_test false t) ∙ f.left))

  pub follow_end : {b : ℕ} (at : ℕ) → at ≤ 0 → Follows (length heads) w ws b at → 0 ≡ last_of w ws b
  unfolding last_of
  follow_end at h f = let z : at ≡ 0 = omega arith in ap (last_of w ws) (sym z) ∙ f.left

  pub no_slots : length heads ≡ 0 → 0 ≡ last_of w ws (length ws)
  unfolding last_of
  no_slots h = let z : length ws ≡ 0 = omega (arith, laid.enough) in ap (last_of w ws) (sym z)

-- ---- whether a list holds a word
holds_from : (w v : Word) (ws : List Word) (b : ℕ) → not (eqb (last_of w (v ∷ ws) (suc b)) 0) ≡ (same v w || not (eqb (last_of w ws b) 0))
unfolding last_of
holds_from w v ws zero = go (same v w)
  where
    go : (c : Bool) → not (eqb (cond c 1 0) 0) ≡ (c || false)
    go true = refl
    go false = refl
holds_from w v ws (suc b) = go (same (get_or ws b identity) w) (same v w) (holds_from w v ws b)
  where
    go : (c d : Bool) → not (eqb (last_of w (v ∷ ws) (suc b)) 0) ≡ (d || not (eqb (last_of w ws b) 0))
        → not (eqb (cond c (suc (suc b)) (last_of w (v ∷ ws) (suc b))) 0) ≡ (d || not (eqb (cond c (suc b) (last_of w ws b)) 0))
    go true true i = rw (eqb-suc-zero (suc b))
    go true false i = rw (eqb-suc-zero (suc b), eqb-suc-zero b)
    go false d i = i

pub holds : (w : Word) (ws : List Word) → not (eqb (last_of w ws (length ws)) 0) ≡ is_among w ws
unfolding last_of is_among
holds w [] = refl
holds w (v ∷ ws) = holds_from w v ws (length ws) ∙ ap (λ (c : Bool). same v w || c) (holds w ws)

-- ---- laying chains
-- the chains of the first i places
pub record Laying (ws : List Word) (heads₀ nexts₀ heads nexts : List ℕ) (i : ℕ) : Type 0 where
  pub heads_laid : (s : ℕ) → s < length heads₀ → get_or heads s 0 ≡ last_in (length heads₀) s ws i
  pub nexts_laid : (k : ℕ) → k < i → get_or nexts k 0 ≡ last_in (length heads₀) (slot_of (length heads₀) (get_or ws k identity)) ws k

module _ (ws : List Word) (heads₀ nexts₀ : List ℕ) where
  abbrev n : ℕ
  n = length heads₀

  pub lay_start : (m : ℕ) → heads₀ ≡ replicate m 0 → Laying ws heads₀ nexts₀ heads₀ nexts₀ 0
  unfolding last_in
  lay_start m e =
      let k : length heads₀ ≡ m = ap length e ∙ length-replicate m 0 in
      record {
        heads_laid = λ s h. ap (λ (l : List ℕ). get_or l s 0) e ∙ get_or-replicate m s 0 0 (omega (arith, k));
        nexts_laid = λ j h. absurd (omega arith);
      }

  module _ (heads nexts : List ℕ) (i : ℕ) (heads_same : length heads ≡ length heads₀) (nexts_same : length nexts ≡ length nexts₀) (l : Laying ws heads₀ nexts₀ heads nexts i) where
    pub lay_more : (s : ℕ) → s ≡ slot_of n (get_or ws i identity) → s < n → i < length ws → length nexts₀ ≡ length ws
        → Laying ws heads₀ nexts₀ (set heads s (i + 1)) (set nexts i (get_or heads s 0)) (i + 1)
    unfolding last_in
    lay_more s e h k m =
        record {
          heads_laid = λ t u. rw (add-one i) (head t u (ℕ_discrete t s));
          nexts_laid = λ j u. next j (omega arith) (ℕ_discrete j i);
        }
      where
        head : (t : ℕ) → t < n → Dec (t ≡ s) → get_or (set heads s (suc i)) t 0 ≡ last_in n t ws (suc i)
        head t u (yes q) =
            rw (q, eq-eqb (slot_of n (get_or ws i identity)) s (sym e))
            (get_or-set_same heads s (suc i) 0 (omega arith))
        head t u (no q) =
            rw (ne_eqb (slot_of n (get_or ws i identity)) t (λ z. q (sym z ∙ sym e)))
            (get_or-set_other heads s t (suc i) 0 q ∙ l.heads_laid t u)

        next : (j : ℕ) → j < suc i → Dec (j ≡ i) → get_or (set nexts i (get_or heads s 0)) j 0 ≡ last_in n (slot_of n (get_or ws j identity)) ws j
        next j u (yes q) =
            rw q
            (get_or-set_same nexts i (get_or heads s 0) 0 (omega arith) ∙ l.heads_laid s h ∙ ap (λ (t : ℕ). last_in n t ws i) e)
        next j u (no q) = get_or-set_other nexts i j (get_or heads s 0) 0 q ∙ l.nexts_laid j (omega arith)

    pub lay_done : i ≡ length ws → length nexts₀ ≡ length ws → length ws ≤ n → Slotted ws heads nexts
    lay_done h m r =
        record {
          each = nexts_same ∙ m;
          enough = omega arith;
          heads_are = λ s u. rw (heads_same, ← h) (l.heads_laid s (omega arith));
          nexts_are = λ k u. rw heads_same (l.nexts_laid k (omega arith));
        }

-- ---- no word
pub none_slotted : (m : ℕ) → Slotted [] (replicate m 0) []
unfolding last_in
none_slotted m =
    record {
      each = refl;
      enough = omega arith;
      heads_are = λ s h. get_or-replicate m s 0 0 (omega (arith, length-replicate {A = ℕ} m 0));
      nexts_are = λ i h. absurd (omega arith);
    }

-- ---- one word more
module _ (slots : ℕ) (ws : List Word) (w : Word) where
  last_longer : (s b : ℕ) → b ≤ length ws → last_in slots s (ws ++ (w ∷ [])) b ≡ last_in slots s ws b
  unfolding last_in
  last_longer s zero h = refl
  last_longer s (suc b) h = rw (get_or-append ws (w ∷ []) identity b (omega arith), last_longer s b (omega arith))

module _ (ws : List Word) (w : Word) (heads nexts : List ℕ) (n s : ℕ) (long : length ws ≡ n) (is : s ≡ slot_of (length heads) w) (low : s < length heads) (few : n < length heads) (free : n < length nexts) (laid : Slotted ws heads (take n nexts)) where
  abbrev more : List Word
  more = ws ++ (w ∷ [])

  more_long : length more ≡ suc n
  more_long = omega (arith, length-append ws (w ∷ []), long)

  pub slot_added : Slotted (ws ++ (w ∷ [])) (set heads s (n + 1)) (take (n + 1) (set nexts n (get_or heads s 0)))
  unfolding last_in
  slot_added =
      rw (add-one n, take-suc-set nexts n (get_or heads s 0) free)
      (record {
        each = omega (arith, more_long, length-append (take n nexts) (get_or heads s 0 ∷ []), length-take-le n nexts (omega arith));
        enough = omega (arith, more_long, length-set heads s (suc n));
        heads_are = λ t u. rw (length-set heads s (suc n), more_long) (head t (omega (arith, length-set heads s (suc n))) (ℕ_discrete t s));
        nexts_are = λ k u. rw (length-set heads s (suc n)) (next k (omega (arith, more_long)) (ℕ_discrete k n));
      })
    where
      here : get_or more n identity ≡ w
      here = get_or_at ws w [] identity n long

      head : (t : ℕ) → t < length heads → Dec (t ≡ s) → get_or (set heads s (suc n)) t 0 ≡ cond (eqb (slot_of (length heads) (get_or more n identity)) t) (suc n) (last_in (length heads) t more n)
      head t u (yes q) = rw (q, here, eq-eqb (slot_of (length heads) w) s (sym is)) (get_or-set_same heads s (suc n) 0 low)
      head t u (no q) =
          rw (here, ne_eqb (slot_of (length heads) w) t (λ z. q (sym z ∙ sym is)), last_longer (length heads) ws w t n (omega arith))
          (get_or-set_other heads s t (suc n) 0 q ∙ laid.heads_are t u ∙ ap (last_in (length heads) t ws) long)

      next : (k : ℕ) → k < suc n → Dec (k ≡ n) → get_or (take n nexts ++ (get_or heads s 0 ∷ [])) k 0 ≡ last_in (length heads) (slot_of (length heads) (get_or more k identity)) more k
      next k u (yes q) =
          rw (q, here, last_longer (length heads) ws w (slot_of (length heads) w) n (omega arith), ← is)
          (get_or_at (take n nexts) (get_or heads s 0) [] 0 n (length-take-le n nexts (omega arith)) ∙ laid.heads_are s low ∙ ap (last_in (length heads) s ws) long)
      next k u (no q) =
          let h : k < n = omega arith in
          let l : k < length ws = omega arith in
          rw (get_or-append ws (w ∷ []) identity k l, last_longer (length heads) ws w (slot_of (length heads) (get_or ws k identity)) k (omega arith))
          (get_or-append (take n nexts) (get_or heads s 0 ∷ []) 0 k (omega (arith, length-take-le n nexts (omega arith))) ∙ laid.nexts_are k l)
