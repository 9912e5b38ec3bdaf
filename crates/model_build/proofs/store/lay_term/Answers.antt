-- SPDX-FileCopyrightText: 2026 The PPVM Authors
-- SPDX-License-Identifier: Apache-2.0

-- `store::lay_term` meets its contract. Assumes nothing.
use Rattle.model.specs.Between.{onto}
use Rattle.model_build.proofs.StoreLaws.{lays_one}
use Rattle.model_build.proofs.store.lay_term.Goals as goal

pub returns : goal.returns
returns c = lays_one (onto c.args.t) _ _ _ _ _ c.set_word.ensures.lanes c.set_complex.ensures.floats_are
