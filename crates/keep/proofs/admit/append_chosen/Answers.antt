-- SPDX-FileCopyrightText: 2026 The PPVM Authors
-- SPDX-License-Identifier: Apache-2.0

-- `admit::append_chosen` meets its contract. Assumes nothing.
use lib.ListN.{take}
use Rattle.keep.specs.Retained.{flagged}
use Rattle.keep.proofs.AdmitLaws.{zeros_done}
use Rattle.keep.proofs.admit.append_chosen.Goals as goal

pub returns : goal.returns
returns c =
    let w = c.append_words-end in
    record {
      answers = w.ensures.0;
      words_left = w.ensures.1;
      numbers_left = zeros_done c.args.len (flagged (take c.args.count c.args.kept.now)) w.result c.args.coeffs.now _ w.ensures.0 c.requires.1 c.clear_numbers.ensures;
    }
