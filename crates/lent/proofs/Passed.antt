-- SPDX-FileCopyrightText: 2026 The PPVM Authors
-- SPDX-License-Identifier: Apache-2.0

-- What is known where a test is passed. Assumes nothing.
use Rattle.std.specs.Prelude.{Result}
use mathlib.Core.Path.{◌≡◌, refl}
use mathlib.Core.Bool.{Bool, true, false, cond}
use Prim.Native.Nat.{ℕ, ◌≤◌}
use native.Mathlib.Omega.{arith}
use borrow.Author.Tests.{ltb-false, eqb-true}
use lib.Dec.{eqb, ltb}
use Rattle.refusal.specs.declared.Refusal.{Refusal}
use Rattle.refusal.specs.declared.Refusal.TheVariants.{CountAboveLimit, LengthMismatch}
use Rattle.std.specs.Prelude.{Ok, Err}
use Rattle.refusal.specs.Cause.{Answer}
use Rattle.lent.specs.Tests.{and_then, counted, lent, equal}

pub refused_not : (r : Refusal) → ◌≡◌ {A = Answer} (Err r) (Ok tt) → ⊥
refused_not r e = let z : ◌≡◌ {A = ℕ} 0 1 = cc in omega arith

pub refused_same : {A : Type 0} (r s : Refusal) → ◌≡◌ {A = Result A Refusal} (Err r) (Err s) → r ≡ s
refused_same r s e = cc

kept : (b : Bool) (r : Refusal) (after : Answer) → cond b after (Err r) ≡ Ok tt → (b ≡ true) × (after ≡ Ok tt)
kept true r after e = (refl, e)
kept false r after e = absurd (refused_not r e)

pub passed : (b : Bool) (r : Refusal) (after : Answer) → cond b (Err r) after ≡ Ok tt → (b ≡ false) × (after ≡ Ok tt)
passed true r after e = absurd (refused_not r e)
passed false r after e = (refl, e)

pub both : (a after : Answer) → and_then a after ≡ Ok tt → (a ≡ Ok tt) × (after ≡ Ok tt)
both (Ok _) after e = (refl, e)
both (Err r) after e = absurd (refused_not r e)

pub equal_passed : (needed have : ℕ) (after : Answer) → equal needed have after ≡ Ok tt → (have ≡ needed) × (after ≡ Ok tt)
equal_passed needed have after e =
    let k = kept (eqb have needed) (LengthMismatch needed have) after e in
    (eqb-true have needed k.0, k.1)

pub lent_passed : (needed places : ℕ) (after : Answer) → lent needed places after ≡ Ok tt → (needed ≤ places) × (after ≡ Ok tt)
lent_passed needed places after e =
    let k = passed (ltb places needed) (LengthMismatch needed places) after e in
    (ltb-false places needed k.0, k.1)

pub counted_passed : (limit count : ℕ) (after : Answer) → counted limit count after ≡ Ok tt → (count ≤ limit) × (after ≡ Ok tt)
counted_passed limit count after e =
    let k = passed (ltb limit count) (CountAboveLimit count) after e in
    (ltb-false limit count k.0, k.1)
