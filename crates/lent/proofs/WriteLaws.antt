-- SPDX-FileCopyrightText: 2026 The PPVM Authors
-- SPDX-License-Identifier: Apache-2.0

-- A list written over from the front, one element at a time. Assumes nothing.
use mathlib.Core.Path.{◌≡◌, refl, ap, sym, ◌∙◌}
use mathlib.Core.List.{List, [], ◌∷◌, ◌++◌}
use Prim.Native.Nat.{ℕ, zero, suc, ◌+◌, ◌≤◌, ◌<◌}
use native.Mathlib.Omega.{arith}
use native.Mathlib.Numerals.{add-one}
use lib.ListN.{length, get_or, set, take, drop, take-append-drop}
use lib.Seq.{length-take-le, drop-cons, get_or_at}

module _ {A : Type 0} where
  pub write_next : (d : A) (new old : List A) (i : ℕ) → i < length new → i < length old → set (take i new ++ drop i old) i (get_or new i d) ≡ take (suc i) new ++ drop (suc i) old
  write_next d [] old i h g = absurd (omega arith)
  write_next d (x ∷ new) [] i h g = absurd (omega arith)
  write_next d (x ∷ new) (y ∷ old) zero h g = refl
  write_next d (x ∷ new) (y ∷ old) (suc i) h g = ap (λ (t : List A). x ∷ t) (write_next d new old i (omega arith) (omega arith))

  -- one turn
  pub written_more : (d : A) (new old l l' : List A) (i : ℕ) (v : A) → i < length new → i < length old → l ≡ take i new ++ drop i old → v ≡ get_or new i d → l' ≡ set l i v
      → l' ≡ take (i + 1) new ++ drop (i + 1) old
  written_more d new old l l' i v h g e f s = rw (s, e, f, add-one i) (write_next d new old i h g)

  -- what stands at i is still the old element
  pub unwritten : (d : A) (new old l : List A) (i : ℕ) → i ≤ length new → i < length old → l ≡ take i new ++ drop i old → get_or l i d ≡ get_or old i d
  unwritten d new old l i h g e = rw (e, drop-cons old i d g) (get_or_at (take i new) (get_or old i d) (drop (suc i) old) d i (length-take-le i new h))

  -- all that differs has been written
  pub written : (new old l : List A) (i : ℕ) → drop i new ≡ drop i old → l ≡ take i new ++ drop i old → l ≡ new
  written new old l i same e = e ∙ ap (λ (t : List A). take i new ++ t) (sym same) ∙ take-append-drop i new
