-- SPDX-FileCopyrightText: 2026 The PPVM Authors
-- SPDX-License-Identifier: Apache-2.0

-- `indexed::index_model` meets its contract: nothing is owed for no words; else the terms are indexed, then the jumps and pairs.
-- Assumes nothing.
use mathlib.Core.List.{[]}
use native.Mathlib.Omega.{arith}
use Rattle.model.specs.Between.{model_tables}
use Rattle.rules_by_index.proofs.IndexLaws.{model_indexed}
use Rattle.rules_by_index.proofs.indexed.index_model.Goals as goal

pub returns-then-words-eq0 : goal.returns-then-words-eq0
returns-then-words-eq0 c = λ h. absurd (omega (arith, c.if-words-eq0.true))

pub index_reals-requires : goal.index_reals-requires
index_reals-requires c = let h = c.requires (omega arith) in (h.0, h.2, h.4)

pub index_jumps-requires : goal.index_jumps-requires
index_jumps-requires c = let h = c.requires (omega arith) in (h.1, h.3, h.5, h.6, h.7, h.8)

pub returns : goal.returns
returns c = λ w t eh ej er ew.
    let a = c.args in
    model_indexed a.m t (model_tables a.h_words.now [] a.jumps.now a.rates.now a.t_words.now []) _ _ eh ej er ew
    (record { reals = c.index_reals.ensures; jumps = c.index_jumps.ensures })
