-- SPDX-FileCopyrightText: 2026 The PPVM Authors
-- SPDX-License-Identifier: Apache-2.0

-- `cap::count_flagged` meets its contract: it counts the flags that are not 0. Assumes nothing.
use mathlib.Core.Path.{◌≡◌, refl, sym, ◌∙◌}
use mathlib.Core.Bool.{Bool, true, false, not, cond}
use Prim.Native.Nat.{ℕ, suc, ◌+◌}
use lib.Dec.{eqb}
use borrow.Author.Rules.{rules}
use native.Mathlib.Omega.{arith}
use Rattle.std.specs.List.{count_by}
use Rattle.std.proofs.lemmas.List.Recursion.{is_count_by}
use Rattle.keep.specs.Retained.{flagged}
use Rattle.truncate.proofs.cap.count_flagged.Goals as goal

one_more : (b : Bool) (n : ℕ) → cond b n (suc n) ≡ cond (not b) (1 + n) n
one_more true n = refl
one_more false n = omega arith

pub returns : goal.returns
unfolding flagged
returns c =
    let e : c.count.result ≡ count_by (λ (k : ℕ). not (eqb k 0)) c.args.flags.now = search rules in
    e ∙ sym (is_count_by flagged (λ (k : ℕ). not (eqb k 0)) refl (λ k ks. one_more (eqb k 0) (flagged ks)) c.args.flags.now)
