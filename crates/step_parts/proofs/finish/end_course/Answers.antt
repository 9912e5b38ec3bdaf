-- SPDX-FileCopyrightText: 2026 The PPVM Authors
-- SPDX-License-Identifier: Apache-2.0

-- `finish::end_course` meets its contract: what is kept of the basis that a course left, or its refusal. Assumes nothing.
use Rattle.word.specs.Flat.{words as words_in}
use Rattle.step_parts.proofs.FinishLaws.{course_taken}
use Rattle.step_parts.proofs.finish.end_course.Goals as goal

pub finish-kept-requires : goal.finish-kept-requires
finish-kept-requires c = c.requires.0 _ _ c.in_ok-entries.was

pub returns : goal.returns
returns c =
    let a = c.args in
    let f = c.finish-kept.ensures in (
      (λ course told.
          let k = f.0 c.in_ok-entries.field-0.products in
          course_taken (words_in a.protected.now) a.drop_tol a.max_basis a.words.now a.coeffs.now course _ (told.taken _ _ c.in_ok-entries.was) _ _ _ k.0 k.1 k.2),
      f.1,
      f.2,
      f.3,
      f.4,
    )
