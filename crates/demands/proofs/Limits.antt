-- SPDX-FileCopyrightText: 2026 The PPVM Authors
-- SPDX-License-Identifier: Apache-2.0

-- Demand 3 of limits and thresholds: nobody is lost, each limit keeps exactly its number, and those are the largest. Assumes nothing.
use Rattle.demands.specs.Demands.{LosesNobody, KeepsExactly, KeepsLargest}
use Rattle.demands.proofs.Bases.{prune_keeps, prune_nobody, prune_largest, cap_keeps, cap_nobody, cap_above, cap_under, cap_largest, admits, admission_nobody, admission_count, admission_largest}
use Rattle.demands.proofs.Leaks.{leak_nobody, leak_lists, pass_count_lem, pass_largest, list_largest}

pub loses_nobody : LosesNobody
loses_nobody = record {
  leakage = leak_nobody;
  admission = λ c c' ok ok' same raised. (admits c ok, admits c' ok', admission_nobody c c' same raised);
  prune = λ c c' ok ok' same lowered. (prune_keeps c ok, prune_keeps c' ok', prune_nobody c c' ok ok' same lowered);
  cap = λ c c' ok ok' same raised. (cap_keeps c ok, cap_keeps c' ok', cap_nobody c c' ok same raised);
}

pub keeps_exactly : KeepsExactly
keeps_exactly = record {
  leakage_pass = pass_count_lem;
  leakage_list = leak_lists;
  admission = admission_count;
  cap_under = cap_under;
  cap_above = cap_above;
}

pub keeps_largest : KeepsLargest
keeps_largest = record {
  leakage_pass = pass_largest;
  leakage_list = list_largest;
  admission = admission_largest;
  prune = prune_largest;
  cap = cap_largest;
}
