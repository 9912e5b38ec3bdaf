-- SPDX-FileCopyrightText: 2026 The PPVM Authors
-- SPDX-License-Identifier: Apache-2.0

-- An empty basis has norm 0 and degree (1,1), never 16. Assumes nothing.
use mathlib.Core.Path.{◌≡◌, refl, ap, ◌∙◌}
use mathlib.Core.Bool.{false}
use mathlib.Core.List.{List, []}
use Prim.Native.Nat.{ℕ, ◌/◌}
use native.Mathlib.Omega.{arith}
use borrow.Author.Tests.{le-ltb}
use lib.Ieee.{Float, nan, inf, fin, binary64, lt, mul, of_bits}
use lib.ListN.{length}
use Rattle.std.specs.Prelude.{Ok}
use Rattle.refusal.specs.Cause.{Answer}
use Rattle.word.specs.Flat.{word_lanes}
use Rattle.number.specs.Floats.{float0, magnitude}
use Rattle.number.proofs.ExactLaws.{is_nought_lem}
use Rattle.number.proofs.WholeFloats.{whole_nought, is_lt}
use Rattle.expm.proofs.CeilingLaws.{chosen_none}
use Rattle.model.specs.Stored.{ModelTables}
use Rattle.model.specs.Tested.{test_model}
use Rattle.model.specs.declared.stored.Model.{Model}
use Rattle.action.specs.Counts.{most}
use Rattle.column_norm.specs.Columns.{mean_of, largest_from, mu_of, norm_of}
use Rattle.norm.specs.Norms.{Work, zeroed, norm_tests, finite_tests, norm_tested, norm_answer, partition, degree_answer, norming, selecting}
use Rattle.lent.specs.Tests.{lent, where_any, first_to}
use Rattle.lent.specs.Words.{inside_to}

none : (room : ℕ) (m : Model) (t : ModelTables) → norm_answer room m t [] ≡ Ok (record { mu = float0; norm = float0 })
unfolding norm_answer most mean_of largest_from mu_of norm_of
none room m t = rw (le-ltb room 0 (omega arith))

-- nothing times 0 is above 0
times_zero : (x : Float) → lt float0 (mul binary64 x float0) ≡ false
unfolding lt mul of_bits
times_zero nan = refl
times_zero (inf s) = refl
times_zero (fin s m e) = is_lt is_nought_lem (whole_nought binary64 (fin s m e) tt is_nought_lem)

none_degree : (dt dropTol : Float) → degree_answer dt dropTol (Ok (record { mu = float0; norm = float0 })) ≡ Ok (record { mu = float0; norm = float0; m = 1; s = 1 })
unfolding degree_answer
none_degree dt dropTol = ap (partition float0 float0) (chosen_none dropTol (mul binary64 (magnitude dt) float0) (times_zero (magnitude dt)))

-- no table is too short for no words
lent_none : (places : ℕ) (after : Answer) → lent 0 places after ≡ after
lent_none places after = rw (le-ltb places 0 (omega arith))

-- ---- the calls, whatever they are lent to work with
module _ (w : Work) (m : Model) (t : ModelTables) (lanes : List ℕ) (ok : test_model m t ≡ Ok tt) where
  none_asked : norm_tested m t lanes 0 w ≡ Ok tt
  unfolding norm_tests inside_to first_to where_any
  none_asked = rw ok (
      lent_none (length lanes / word_lanes) _ ∙ lent_none (length w.h_index) _ ∙ lent_none (length w.j_index) _ ∙ lent_none (length w.mask) _ ∙ lent_none (length w.heads) _ ∙ lent_none (length w.nexts) _ ∙ lent_none (length w.raws) _ ∙ lent_none (length w.diags) _)

  pub norm_empty : norming w m t lanes 0 ≡ record { answer = Ok (record { mu = float0; norm = float0 }); work = zeroed w }
  unfolding norming
  norm_empty = rw (none_asked, none _ m t)

  pub degree_empty : (dt dropTol : Float) → finite_tests dt dropTol ≡ Ok tt → selecting w m t lanes 0 dt dropTol ≡ record { answer = Ok (record { mu = float0; norm = float0; m = 1; s = 1 }); work = zeroed w }
  unfolding selecting
  degree_empty dt dropTol e = rw (none_asked, e, none _ m t, none_degree dt dropTol)
