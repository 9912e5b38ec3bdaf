-- SPDX-FileCopyrightText: 2026 The PPVM Authors
-- SPDX-License-Identifier: Apache-2.0

-- `copy::copy_given` meets its contract: the words, and their numbers twice. Assumes nothing.
use Rattle.step_parts.proofs.CopyLaws.{copied_words, copied_numbers}
use Rattle.step_parts.proofs.copy.copy_given.Goals as goal

pub copy_basis-requires : goal.copy_basis-requires
copy_basis-requires c =
    let p = c.requires in
    (p.0, p.1, p.2, p.3)

pub copy_first-requires : goal.copy_first-requires
copy_first-requires c = (c.requires.1, c.requires.4)

pub returns : goal.returns
returns c =
    let a = c.args in
    let p = c.requires in
    let b = c.copy_basis.ensures in (
      copied_words a.len a.words.now a.grown_words.now _ p.0 b.0,
      copied_numbers a.len a.coeffs.now a.start.now _ p.1 b.1,
      copied_numbers a.len a.coeffs.now a.evolved.now _ p.1 c.copy_first.ensures,
    )
