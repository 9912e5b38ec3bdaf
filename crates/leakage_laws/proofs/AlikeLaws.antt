-- SPDX-FileCopyrightText: 2026 The PPVM Authors
-- SPDX-License-Identifier: Apache-2.0

-- Two calls over one model and one basis leak, hold, keep and list the same, whatever stands in the places that are not in use.
-- Assumes nothing.
use mathlib.Core.Path.{◌≡◌, refl}
use Prim.Native.Nat.{ℕ, zero, suc, ◌-◌, ◌*◌}
use lib.Ieee.{nan}
use lib.ListN.{get_or, take, drop}
use Rattle.std.specs.Prelude.{Ok}
use Rattle.word.specs.Word.{identity}
use Rattle.order.specs.Magnitudes.{by_magnitude}
use Rattle.model.specs.Stored.{ModelTables}
use Rattle.model.specs.Tested.{test_model}
use Rattle.model.specs.declared.stored.Model.{Model}
use Rattle.in_use.specs.InUse.{SameModel}
use Rattle.in_use.proofs.SameModels.{same_action}
use Rattle.passes.specs.Leaks.{outside, leaked, largest, pass_size, pass_count, above}
use Rattle.leakage.specs.Leakages.{Basis}
use Rattle.limits.specs.Defaults.{limit_of, tau_of}
use Rattle.limits.specs.declared.Limits.{Limits}
use Rattle.leakage_laws.specs.Calls.{gathered, leaks_of, stay_after, list_of, SameBasis}

module _ (m : Model) (t t' : ModelTables) (same : SameModel m t t') (passes : test_model m t ≡ Ok tt) (b b' : Basis) (alike : SameBasis b b') where
  leaks_alike : leaks_of m t b ≡ leaks_of m t' b'
  leaks_alike = λ i p.
      leaked
      (outside (alike.same_words i) (alike.same_protected i))
      (get_or (alike.same_coeffs i) p nan)
      (same_action m t t' same passes (get_or (alike.same_words i) p identity) i)

  module _ (l : Limits) where
    stay_alike : (k : ℕ) → stay_after m t b l k ≡ stay_after m t' b' l k
    unfolding stay_after
    stay_alike zero = refl
    stay_alike (suc k) = λ i.
        largest
        (limit_of l - alike.same_len i)
        (gathered (leaks_alike i) (take pass_size (drop (k * pass_size) (by_magnitude (alike.same_coeffs i)))) (stay_alike k i))

    pub list_alike : list_of m t b l ≡ list_of m t' b' l
    list_alike = λ i. above (tau_of l) (stay_alike (pass_count (alike.same_len i)) i)
