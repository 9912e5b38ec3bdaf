-- SPDX-FileCopyrightText: 2026 The PPVM Authors
-- SPDX-License-Identifier: Apache-2.0

-- Answers about norm and degree in plain numbers.
use Rattle.std.specs.Prelude.{◌≡◌, Result, Ok, Err}
use Rattle.refusal.specs.Cause.{status_of, answer_status}
use Rattle.refusal.specs.declared.Refusal.{Refusal}
use Rattle.expm.specs.declared.Degree.{Degree}
use Rattle.norm.specs.declared.norm.Normed.{Normed}
use Rattle.norm.specs.declared.degree.Selected.{Selected}
use Rattle.number.specs.Floats.{float0}
use Rattle.norm.specs.Norms.{Work, Norming, Selecting}
use Rattle.pebblelinen.specs.declared.norms.NormOfBasis.{NormOfBasis}
use Rattle.pebblelinen.specs.declared.norms.Partition.{Partition}
use Rattle.pebblelinen.specs.declared.norms.DegreeChoice.{DegreeChoice}

-- mu and the norm, or the refusal and 0
abbrev pub normed_of : Result Normed Refusal → NormOfBasis
normed_of (Ok normed) = record { status = answer_status (Ok tt); mu = normed.mu; norm = normed.norm }
normed_of (Err refusal) = record { status = status_of refusal; mu = float0; norm = float0 }

-- what the norm answers, and the lent tables afterwards
pub record LeavesNorm (n : Norming) (r : NormOfBasis) (w : Work) : Type 0 where
  pub answers : r ≡ normed_of n.answer
  pub work_is : w ≡ n.work

-- with the degree for a step
abbrev pub partition_of : Result Selected Refusal → Partition
partition_of (Ok selected) = record { status = answer_status (Ok tt); mu = selected.mu; norm = selected.norm; m = selected.m; s = selected.s }
partition_of (Err refusal) = record { status = status_of refusal; mu = float0; norm = float0; m = 0; s = 0 }

pub record LeavesPartition (n : Selecting) (r : Partition) (w : Work) : Type 0 where
  pub answers : r ≡ partition_of n.answer
  pub work_is : w ≡ n.work

-- the degree for a norm, or the refusal and 0
abbrev pub choice_of : Result Degree Refusal → DegreeChoice
choice_of (Ok d) = record { status = answer_status (Ok tt); m = d.m; s = d.s }
choice_of (Err refusal) = record { status = status_of refusal; m = 0; s = 0 }
