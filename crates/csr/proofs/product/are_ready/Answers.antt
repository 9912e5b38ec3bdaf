-- SPDX-FileCopyrightText: 2026 The PPVM Authors
-- SPDX-License-Identifier: Apache-2.0

-- `product::are_ready` meets its contract: all three searches came to their end. Assumes nothing.
use mathlib.Core.Path.{sym, ◌∙◌}
use mathlib.Core.Bool.{false≢true}
use borrow.Author.Tests.{leb-true}
use lib.ListN.{length}
use Rattle.lent.specs.Numbers.{not_finite}
use Rattle.csr.specs.Walks.{not_clear}
use Rattle.csr.proofs.PassLaws.{all_first}
use Rattle.csr.proofs.product.are_ready.Goals as goal

pub returns-then-clear-rows : goal.returns-then-clear-rows
returns-then-clear-rows c e = absurd (false≢true e)

pub returns-then-finite-rows : goal.returns-then-finite-rows
returns-then-finite-rows c e = absurd (false≢true e)

pub returns-then-overwrite : goal.returns-then-overwrite
returns-then-overwrite c e =
    let a = c.args in
    record {
      clear = all_first (length a.input.now) (not_clear a.work.now) c.first_not_clear-clear.ensures c.if-clear-rows.false;
      finite = all_first (length a.input.now) (not_finite a.input.now) c.first_not_finite-finite.ensures c.if-finite-rows.false;
      added = λ f. absurd (false≢true (sym f ∙ c.if-overwrite.true));
    }

pub returns : goal.returns
returns c e =
    let a = c.args in
    record {
      clear = all_first (length a.input.now) (not_clear a.work.now) c.first_not_clear-clear.ensures c.if-clear-rows.false;
      finite = all_first (length a.input.now) (not_finite a.input.now) c.first_not_finite-finite.ensures c.if-finite-rows.false;
      added = λ _. all_first (length a.input.now) (not_finite a.output.now) c.first_not_finite-added.ensures (leb-true (length a.input.now) _ e);
    }
