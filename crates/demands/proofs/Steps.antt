-- SPDX-FileCopyrightText: 2026 The PPVM Authors
-- SPDX-License-Identifier: Apache-2.0

-- What an accepted step leaves: few words, and every protected one. Assumes nothing.
use mathlib.Core.Path.{◌≡◌, sym, ap, ap₂, ◌∙◌}
use lib.ListN.{take}
use Rattle.word.specs.Flat.{words}
use Rattle.step_laws.proofs.StepLaws.{few, protected_stay}
use Rattle.step_parts.specs.Lent.{places_of}
use Rattle.std.specs.Prelude.{ℕ, Result, Err, Ok}
use Rattle.refusal.specs.declared.Refusal.{Refusal}
use Rattle.step_parts.specs.declared.taken.Step.{Step}
use Rattle.step.specs.Exports.{stepped_of}
use Rattle.step.specs.declared.steps.SteppedBasis.{SteppedBasis}
use Rattle.step.proofs.PlainLaws.{step_takes}
use Rattle.demands.specs.Calls.{Accepted}
use Rattle.demands.specs.Requests.{given_to, StepsKeep}
use Rattle.demands.proofs.Accepts.{numbered}

stepped_accepts : (a : Result Step Refusal) (r : SteppedBasis) → r ≡ stepped_of a → Accepted r.status → a ≡ Ok (record { entries = r.entries; products = r.products })
stepped_accepts (Ok step) r e h = ap₂ (λ (k products : ℕ). Ok (record { entries = k; products = products })) (sym (ap (λ (x : SteppedBasis). x.entries) e)) (sym (ap (λ (x : SteppedBasis). x.products) e))
stepped_accepts (Err q) r e h = absurd (numbered q (sym (ap (λ (x : SteppedBasis). x.status.refusal) e) ∙ h))

pub step_keeps : StepsKeep
step_keeps c h =
    let k = step_takes c.model c.tables c.lanes c.coeffs c.len c.protected c.limits c.dt c.drop_tol c.work c.answer.entries c.answer.products (stepped_accepts _ _ c.leaves.answers h) in
    record {
      basis = k.basis;
      is = k.is;
      entries = k.count;
      products = k.took;
      few = few c.model c.tables (words c.protected) c.dt (places_of c.lanes c.coeffs c.protected c.work) c.limits c.drop_tol (given_to c) (take c.len c.coeffs) k.basis k.is;
      stays = protected_stay c.model c.tables (words c.protected) c.dt (places_of c.lanes c.coeffs c.protected c.work) c.limits c.drop_tol (given_to c) (take c.len c.coeffs) k.basis k.is;
    }
