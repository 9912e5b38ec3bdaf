-- SPDX-FileCopyrightText: 2026 The PPVM Authors
-- SPDX-License-Identifier: Apache-2.0

-- A jump or pair that fits a terms table fits a larger one, and its given terms stand in the table. Assumes nothing.
use mathlib.Core.Path.{◌≡◌, refl, sym, ap}
use mathlib.Core.Bool.{Bool, true, false, not, ◌&&◌, ◌||◌, true≢false}
use Prim.Native.Nat.{ℕ, ◌+◌, ◌*◌, ◌≤◌, ◌<◌}
use native.Mathlib.Omega.{arith}
use borrow.Author.Tests.{ltb-true, leb-true, eqb-true, lt-ltb, le-leb, not-false}
use lib.Dec.{ltb, leb}
use Rattle.model.specs.Stored.{given, holds}
use Rattle.model.specs.Tested.{inside, width, bad_jump}
use Rattle.model.specs.declared.stored.Range.{Range}
use Rattle.model.specs.declared.stored.Jump.{Jump}
use Rattle.model.specs.declared.stored.Jump.TheVariants.{Pauli, General, Pair}

pub both : (a : Bool) {b : Bool} → (a && b) ≡ true → (a ≡ true) × (b ≡ true)
both true h = (refl, h)
both false h = absurd (true≢false (sym h))

pub together : {a b : Bool} → a ≡ true → b ≡ true → (a && b) ≡ true
together p q = rw (p, q)

-- one of two tests
pub either : {P : Type 0} (a b : Bool) → (a ≡ true → P) → (b ≡ true → P) → (a || b) ≡ true → P
either true b f g h = f refl
either false b f g h = g h

inside_more : {p q : ℕ} (r : Range) → p ≤ q → inside p r ≡ true → inside q r ≡ true
inside_more {p} {q} r l h = let e = both (leb r.start r.end) h in together e.0 (le-leb r.end q (omega (arith, leb-true r.end p e.1)))

-- ---- a larger table
pub fits_more : {p q : ℕ} (j : Jump) → p ≤ q → bad_jump p j ≡ false → bad_jump q j ≡ false
unfolding bad_jump
fits_more {p} {q} (Pauli rate term) l h =
    let e = both (ltb term p) (not-false _ h) in
    ap not (together (lt-ltb term q (omega (arith, ltb-true term p e.0))) e.1)
fits_more {p} {q} (General rate terms product) l h =
    let e = both (inside p terms) (not-false _ h) in
    let f = both (inside p product) e.1 in
    ap not (together (inside_more terms l e.0) (together (inside_more product l f.0) f.1))
fits_more {p} {q} (Pair left right factors product) l h =
    let e = both (inside p left) (not-false _ h) in
    let f = both (inside p right) e.1 in
    let g = both (inside p product) f.1 in
    ap not
    (together (inside_more left l e.0)
    (together (inside_more right l f.0)
    (together (inside_more product l g.0) (le-leb (factors + width left * width right) q (omega (arith, leb-true (factors + width left * width right) p g.1))))))

-- ---- the places of given terms
held_inside : {p : ℕ} (r : Range) (i : ℕ) → inside p r ≡ true → holds r i ≡ true → i < p
held_inside {p} r i h k = omega (arith, leb-true r.end p (both (leb r.start r.end) h).1, ltb-true i r.end (both (leb r.start i) k).1)

pub given_inside : {p : ℕ} (j : Jump) (i : ℕ) → bad_jump p j ≡ false → given j i ≡ true → i < p
unfolding bad_jump
given_inside {p} (Pauli rate term) i h k = omega (arith, ltb-true term p (both (ltb term p) (not-false _ h)).0, eqb-true term i k)
given_inside {p} (General rate terms product) i h k = held_inside terms i (both (inside p terms) (not-false _ h)).0 k
given_inside {p} (Pair left right factors product) i h k =
    let e = both (inside p left) (not-false _ h) in
    either (holds left i) (holds right i) (held_inside left i e.0) (held_inside right i (both (inside p right) e.1).0) k
