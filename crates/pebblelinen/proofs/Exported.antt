-- SPDX-FileCopyrightText: 2026 The PPVM Authors
-- SPDX-License-Identifier: Apache-2.0

-- What builders, actions, leakage, calls on a basis, generators, their texts, products and norms answer and leave in the lent tables, part by part. Assumes nothing.
use mathlib.Core.Path.{◌≡◌, ap, ◌∙◌}
use Rattle.model_build.specs.Built.{Building}
use Rattle.action.specs.Acts.{Acting}
use Rattle.action.specs.Counts.{Counting}
use Rattle.truncate.specs.Prunes.{Keeping}
use Rattle.truncate.specs.Admissions.{Admitting}
use Rattle.leakage.specs.Leakages.{Leaking}
use Rattle.generator.specs.Generators.{Generating, CsrBuilding}
use Rattle.generator_export.specs.Exports.{Exporting}
use Rattle.csr.specs.Products.{Multiplying}
use Rattle.norm.specs.Norms.{Norming, Selecting}
use Rattle.refusal.specs.Cause.{answer_status}
use Rattle.refusal.specs.declared.Status.{Status}
use Rattle.pebblelinen.specs.Models.{built_of, Leaves}
use Rattle.pebblelinen.specs.Actions.{listed_of, LeavesList, counted_of, LeavesCount}
use Rattle.pebblelinen.specs.Bases.{kept_of, LeavesBasis, LeavesAdmitted}
use Rattle.pebblelinen.specs.Leakages.{LeavesLeakage}
use Rattle.pebblelinen.specs.Generators.{LeavesGenerator, LeavesCsr}
use Rattle.pebblelinen.specs.Markets.{written_of, LeavesMarket}
use Rattle.pebblelinen.specs.Products.{LeavesProduct}
use Rattle.pebblelinen.specs.Norms.{normed_of, LeavesNorm, partition_of, LeavesPartition}
use Rattle.pebblelinen.specs.declared.actions.ListedWords.{ListedWords}
use Rattle.pebblelinen.specs.declared.actions.CountedPlaces.{CountedPlaces}
use Rattle.pebblelinen.specs.declared.bases.KeptEntries.{KeptEntries}
use Rattle.pebblelinen.specs.declared.markets.WrittenText.{WrittenText}
use Rattle.pebblelinen.specs.declared.models.BuiltModel.{BuiltModel}
use Rattle.pebblelinen.specs.declared.norms.NormOfBasis.{NormOfBasis}
use Rattle.pebblelinen.specs.declared.norms.Partition.{Partition}
use Rattle.evolution.specs.Evolutions.{Evolving}
use Rattle.pebblelinen.specs.Evolutions.{evolved_of, LeavesEvolution}
use Rattle.pebblelinen.specs.declared.evolutions.EvolvedBasis.{EvolvedBasis}

pub leaves : (b made : Building) (r : BuiltModel) → r ≡ built_of made.answer → made ≡ b → Leaves b r made.tables made.work_words made.work_numbers
leaves b made r a e = record {
  answers = a ∙ ap (λ (x : Building). built_of x.answer) e;
  tables_are = ap (λ (x : Building). x.tables) e;
  work_words = ap (λ (x : Building). x.work_words) e;
  work_numbers = ap (λ (x : Building). x.work_numbers) e;
}

pub leaves_list : (a made : Acting) (r : ListedWords) → r ≡ listed_of made.answer → made ≡ a → LeavesList a r made.out_words made.out_values made.work_words made.work_sums
leaves_list a made r l e = record {
  answers = l ∙ ap (λ (x : Acting). listed_of x.answer) e;
  out_words = ap (λ (x : Acting). x.out_words) e;
  out_values = ap (λ (x : Acting). x.out_values) e;
  work_words = ap (λ (x : Acting). x.work_words) e;
  work_sums = ap (λ (x : Acting). x.work_sums) e;
}

pub leaves_count : (a made : Counting) (r : CountedPlaces) → r ≡ counted_of made.answer → made ≡ a
    → LeavesCount a r made.h_index made.j_index made.mask made.work_words made.work_sums
leaves_count a made r l e = record {
  answers = l ∙ ap (λ (x : Counting). counted_of x.answer) e;
  h_index = ap (λ (x : Counting). x.h_index) e;
  j_index = ap (λ (x : Counting). x.j_index) e;
  mask_is = ap (λ (x : Counting). x.mask) e;
  work_words = ap (λ (x : Counting). x.work_words) e;
  work_sums = ap (λ (x : Counting). x.work_sums) e;
}

pub leaves_basis : (k made : Keeping) (r : KeptEntries) → r ≡ kept_of made.answer → made ≡ k
    → LeavesBasis k r made.lanes made.coeffs made.order made.work made.fixed made.kept
leaves_basis k made r l e = record {
  answers = l ∙ ap (λ (x : Keeping). kept_of x.answer) e;
  lanes_are = ap (λ (x : Keeping). x.lanes) e;
  coeffs_are = ap (λ (x : Keeping). x.coeffs) e;
  order_is = ap (λ (x : Keeping). x.order) e;
  work_is = ap (λ (x : Keeping). x.work) e;
  fixed_is = ap (λ (x : Keeping). x.fixed) e;
  kept_is = ap (λ (x : Keeping). x.kept) e;
}

pub leaves_admitted : (a made : Admitting) (r : KeptEntries) → r ≡ kept_of made.answer → made ≡ a
    → LeavesAdmitted a r made.lanes made.coeffs made.order made.work made.kept
leaves_admitted a made r l e = record {
  answers = l ∙ ap (λ (x : Admitting). kept_of x.answer) e;
  lanes_are = ap (λ (x : Admitting). x.lanes) e;
  coeffs_are = ap (λ (x : Admitting). x.coeffs) e;
  order_is = ap (λ (x : Admitting). x.order) e;
  work_is = ap (λ (x : Admitting). x.work) e;
  kept_is = ap (λ (x : Admitting). x.kept) e;
}

pub leaves_leakage : (k made : Leaking) (r : ListedWords) → r ≡ listed_of made.out.answer → made ≡ k → LeavesLeakage k r made.out.out_words made.out.out_values made.work
leaves_leakage k made r l e = record {
  answers = l ∙ ap (λ (x : Leaking). listed_of x.out.answer) e;
  out_words = ap (λ (x : Leaking). x.out.out_words) e;
  out_values = ap (λ (x : Leaking). x.out.out_values) e;
  work_is = ap (λ (x : Leaking). x.work) e;
}

pub leaves_generator : (k made : Generating) (r : ListedWords) → r ≡ listed_of made.out.answer → made ≡ k
    → LeavesGenerator k r made.out.rows made.out.columns made.out.values made.work
leaves_generator k made r l e = record {
  answers = l ∙ ap (λ (x : Generating). listed_of x.out.answer) e;
  rows_are = ap (λ (x : Generating). x.out.rows) e;
  columns_are = ap (λ (x : Generating). x.out.columns) e;
  values_are = ap (λ (x : Generating). x.out.values) e;
  work_is = ap (λ (x : Generating). x.work) e;
}

pub leaves_csr : (k made : CsrBuilding) (r : ListedWords) → r ≡ listed_of made.out.answer → made ≡ k
    → LeavesCsr k r made.out.offsets made.out.columns made.out.values made.work
leaves_csr k made r l e = record {
  answers = l ∙ ap (λ (x : CsrBuilding). listed_of x.out.answer) e;
  offsets_are = ap (λ (x : CsrBuilding). x.out.offsets) e;
  columns_are = ap (λ (x : CsrBuilding). x.out.columns) e;
  values_are = ap (λ (x : CsrBuilding). x.out.values) e;
  work_is = ap (λ (x : CsrBuilding). x.work) e;
}

pub leaves_market : (k made : Exporting) (r : WrittenText) → r ≡ written_of made.out.answer → made ≡ k → LeavesMarket k r made.out.text made.work
leaves_market k made r l e = record {
  answers = l ∙ ap (λ (x : Exporting). written_of x.out.answer) e;
  text_is = ap (λ (x : Exporting). x.out.text) e;
  work_is = ap (λ (x : Exporting). x.work) e;
}

pub leaves_evolution : (k made : Evolving) (r : EvolvedBasis) → r ≡ evolved_of made.answer → made ≡ k → LeavesEvolution k r made.out made.work
leaves_evolution k made r l e = record {
  answers = l ∙ ap (λ (x : Evolving). evolved_of x.answer) e;
  out_is = ap (λ (x : Evolving). x.out) e;
  work_is = ap (λ (x : Evolving). x.work) e;
}

pub leaves_product : (k made : Multiplying) (r : Status) → r ≡ answer_status made.answer → made ≡ k → LeavesProduct k r made.output made.work
leaves_product k made r l e = record {
  answers = l ∙ ap (λ (x : Multiplying). answer_status x.answer) e;
  output_is = ap (λ (x : Multiplying). x.output) e;
  work_is = ap (λ (x : Multiplying). x.work) e;
}

pub leaves_norm : (k made : Norming) (r : NormOfBasis) → r ≡ normed_of made.answer → made ≡ k → LeavesNorm k r made.work
leaves_norm k made r l e = record {
  answers = l ∙ ap (λ (x : Norming). normed_of x.answer) e;
  work_is = ap (λ (x : Norming). x.work) e;
}

pub leaves_partition : (k made : Selecting) (r : Partition) → r ≡ partition_of made.answer → made ≡ k → LeavesPartition k r made.work
leaves_partition k made r l e = record {
  answers = l ∙ ap (λ (x : Selecting). partition_of x.answer) e;
  work_is = ap (λ (x : Selecting). x.work) e;
}
