-- SPDX-FileCopyrightText: 2026 The PPVM Authors
-- SPDX-License-Identifier: Apache-2.0

-- Where building or adding answers a model, the model passes the test: a refusal answers none, and so what is left to show is
-- what follows the tests, the reading and the room. Assumes nothing.
use Rattle.std.specs.Prelude.{Result}
use mathlib.Core.Path.{◌≡◌, refl, subst}
use mathlib.Core.Bool.{Bool, true, false, cond}
use mathlib.Core.List.{List}
use Prim.Native.Nat.{ℕ, ◌≤◌}
use native.Mathlib.Omega.{arith}
use borrow.Author.Tests.{ltb-false}
use lib.Dec.{ltb}
use lib.Ieee.{Float}
use Rattle.refusal.specs.declared.Refusal.{Refusal}
use Rattle.refusal.specs.declared.Refusal.TheVariants.{TableFull}
use Rattle.std.specs.Prelude.{Ok, Err}
use Rattle.refusal.specs.Cause.{Answer}
use Rattle.model.specs.Stored.{ModelTables}
use Rattle.model.specs.Tested.{test_model}
use Rattle.lent.specs.Read.{Read, got, refused}
use Rattle.model_build.specs.Built.{Building, refusal, finished, tested, when_read}
use Rattle.model.specs.declared.stored.Model.{Model}

abbrev pub Passes : Building → Type 0
Passes b = (m : Model) → b.answer ≡ Ok m → test_model m b.tables ≡ Ok tt

refusal_passes : (r : Refusal) (b : Building) → b.answer ≡ Err r → Passes b
refusal_passes r b e m h = let z : ◌≡◌ {A = ℕ} 0 1 = cc in absurd (omega arith)

module _ (t : ModelTables) (workWords : List ℕ) (workNumbers : List Float) where
  pub by_test : (a : Answer) (after : Building) → (a ≡ Ok tt → Passes after) → Passes (tested t workWords workNumbers a after)
  by_test (Ok _) after h = h refl
  by_test (Err r) after h = refusal_passes r (refusal t workWords workNumbers (Err r)) refl

  pub by_read : {A : Type 0} (x : Read A) (f : A → Building) → ((a : A) → x ≡ got a → Passes (f a)) → Passes (when_read t workWords workNumbers x f)
  by_read (got a) f h = h a refl
  by_read (refused r) f h = refusal_passes r (refusal t workWords workNumbers (Err r)) refl

  pub by_room : (places terms : ℕ) (made : Model) (after : ModelTables) → (terms ≤ places → test_model made after ≡ Ok tt)
      → Passes (cond (ltb places terms) (finished t workWords workNumbers (Err (TableFull 4 places)) t) (finished t workWords workNumbers (Ok made) after))
  by_room places terms made after h = go (ltb places terms) refl
    where
      go : (b : Bool) → ltb places terms ≡ b → Passes (cond b (finished t workWords workNumbers (Err (TableFull 4 places)) t) (finished t workWords workNumbers (Ok made) after))
      go true e = refusal_passes (TableFull 4 places) (finished t workWords workNumbers (Err (TableFull 4 places)) t) refl
      go false e =
          λ (m : Model) (k : ◌≡◌ {A = Result Model Refusal} (Ok made) (Ok m)).
          let same : made ≡ m = cc in
          subst (λ (m : Model). test_model m after ≡ Ok tt) same (h (ltb-false places terms e))
