-- SPDX-FileCopyrightText: 2026 The PPVM Authors
-- SPDX-License-Identifier: Apache-2.0

-- `finish::finish` meets its contract: what is kept over the lent basis, and zero past it where prune or cap acted. Assumes nothing.
use mathlib.Core.Path.{◌≡◌, sym, ◌∙◌}
use Prim.Native.Nat.{ℕ, ◌*◌, ◌≤◌}
use native.Mathlib.Omega.{arith}
use borrow.Author.Tests.{not-true, not-false}
use lib.ListN.{length}
use Rattle.word.specs.Flat.{word_lanes}
use Rattle.step_parts.specs.Ends.{acts as acts_on}
use Rattle.step_parts.specs.Between.{grown}
use Rattle.step_parts.proofs.FinishLaws.{acts_are, words_stay, numbers_stay, words_clear, numbers_clear}
use borrow.Author.Rules.{rules}
use Rattle.step_parts.proofs.finish.finish.Goals as goal

pub truncate_grown-entries-requires : goal.truncate_grown-entries-requires
truncate_grown-entries-requires c = c.requires.0

pub copy_basis-requires : goal.copy_basis-requires
copy_basis-requires c =
    let p = c.requires in
    let k = c.truncate_grown-entries in
    let few = (k.ensures.0 0).fewer in
    (omega (arith, few, p.0.grown_long, k.auto.grown_words), omega (arith, few, p.0.evolved_long, k.auto.evolved), omega (arith, few, p.1), omega (arith, few, p.2))

pub returns-then-not-acted : goal.returns-then-not-acted
returns-then-not-acted c =
    let a = c.args in
    let p = c.requires in
    let k = c.truncate_grown-entries in
    let b = c.copy_basis in
    let few = (k.ensures.0 0).fewer in
    let lanes-long : word_lanes * k.result ≤ length k.new.grown_words = omega (arith, few, p.0.grown_long, k.auto.grown_words) in
    let told : (products : ℕ) → c.acts-acted.result ≡ acts_on a.drop_tol a.max_basis (grown a.len a.grown_words.now a.evolved.now products) =
    λ products. c.acts-acted.ensures ∙ acts_are a.drop_tol a.max_basis a.len a.grown_words.now a.evolved.now p.0.grown_long products in (
      (λ products. (
        (k.ensures.0 products).count,
        words_stay _ a.len k.result k.new.grown_words k.new.evolved (k.ensures.0 products) _ (sym (told products) ∙ not-true c.acts-acted.result c.if-not-acted.true-raw) lanes-long a.words.now b.new.to_words b.ensures.0,
        numbers_stay _ a.len k.result k.new.grown_words k.new.evolved (k.ensures.0 products) _ (sym (told products) ∙ not-true c.acts-acted.result c.if-not-acted.true-raw) a.coeffs.now b.new.to_coeffs b.ensures.1,
      )),
      k.ensures.1,
      k.ensures.2,
      k.ensures.3,
      k.ensures.4,
    )

pub overflow_mul-end : goal.overflow_mul-end
overflow_mul-end c =
    let k = c.truncate_grown-entries in
    let h : word_lanes * k.result ≤ length c.args.words.now = omega (arith, (k.ensures.0 0).fewer, c.requires.1) in
    let i : word_lanes * k.result ≤ length c.copy_basis.new.to_words = omega (arith, h, c.copy_basis.auto.to_words) in
    search (h, i, c.well_formed.1.1.1.1.1.0, rules)

pub offset_bounds-words-end : goal.offset_bounds-words-end
offset_bounds-words-end c =
    let k = c.truncate_grown-entries in
    let h : word_lanes * k.result ≤ length c.args.words.now = omega (arith, (k.ensures.0 0).fewer, c.requires.1) in
    let i : word_lanes * k.result ≤ length c.copy_basis.new.to_words = omega (arith, h, c.copy_basis.auto.to_words) in
    search (h, i, c.well_formed.1.1.1.1.1.0, rules)

pub slice_bounds-clear_lanes-count : goal.slice_bounds-clear_lanes-count
slice_bounds-clear_lanes-count c =
    let k = c.truncate_grown-entries in
    let h : word_lanes * k.result ≤ length c.args.words.now = omega (arith, (k.ensures.0 0).fewer, c.requires.1) in
    let i : word_lanes * k.result ≤ length c.copy_basis.new.to_words = omega (arith, h, c.copy_basis.auto.to_words) in
    search (h, i, c.well_formed.1.1.1.1.1.0, rules)

pub slice_bounds-clear_lanes-start : goal.slice_bounds-clear_lanes-start
slice_bounds-clear_lanes-start c =
    let k = c.truncate_grown-entries in
    let h : word_lanes * k.result ≤ length c.args.words.now = omega (arith, (k.ensures.0 0).fewer, c.requires.1) in
    let i : word_lanes * k.result ≤ length c.copy_basis.new.to_words = omega (arith, h, c.copy_basis.auto.to_words) in
    search (h, i, c.well_formed.1.1.1.1.1.0, rules)

pub offset_bounds-coeffs-entries : goal.offset_bounds-coeffs-entries
offset_bounds-coeffs-entries c =
    let k = c.truncate_grown-entries in
    let h : k.result ≤ length c.args.coeffs.now = omega (arith, (k.ensures.0 0).fewer, c.requires.2) in
    let i : k.result ≤ length c.copy_basis.new.to_coeffs = omega (arith, h, c.copy_basis.auto.to_coeffs) in
    search (h, i, c.well_formed.1.1.1.1.1.1.0, rules)

pub slice_bounds-clear_numbers-count : goal.slice_bounds-clear_numbers-count
slice_bounds-clear_numbers-count c =
    let k = c.truncate_grown-entries in
    let i : k.result ≤ length c.copy_basis.new.to_coeffs = omega (arith, (k.ensures.0 0).fewer, c.requires.2, c.copy_basis.auto.to_coeffs) in
    search (i, rules)

pub slice_bounds-clear_numbers-start : goal.slice_bounds-clear_numbers-start
slice_bounds-clear_numbers-start c =
    let k = c.truncate_grown-entries in
    let i : k.result ≤ length c.copy_basis.new.to_coeffs = omega (arith, (k.ensures.0 0).fewer, c.requires.2, c.copy_basis.auto.to_coeffs) in
    search (i, rules)

pub returns : goal.returns
returns c =
    let a = c.args in
    let p = c.requires in
    let k = c.truncate_grown-entries in
    let b = c.copy_basis in
    let few = (k.ensures.0 0).fewer in
    let lanes-long : word_lanes * k.result ≤ length k.new.grown_words = omega (arith, few, p.0.grown_long, k.auto.grown_words) in
    let told : (products : ℕ) → c.acts-acted.result ≡ acts_on a.drop_tol a.max_basis (grown a.len a.grown_words.now a.evolved.now products) =
    λ products. c.acts-acted.ensures ∙ acts_are a.drop_tol a.max_basis a.len a.grown_words.now a.evolved.now p.0.grown_long products in (
      (λ products. (
        (k.ensures.0 products).count,
        words_clear _ a.len k.result k.new.grown_words k.new.evolved (k.ensures.0 products) _ (sym (told products) ∙ not-false c.acts-acted.result c.if-not-acted.false-raw) lanes-long a.words.now b.new.to_words _ (omega (arith, few, p.1)) b.ensures.0 c.clear_lanes.ensures,
        numbers_clear _ a.len k.result k.new.grown_words k.new.evolved (k.ensures.0 products) _ (sym (told products) ∙ not-false c.acts-acted.result c.if-not-acted.false-raw) (omega (arith, few, p.0.evolved_long, k.auto.evolved)) a.coeffs.now b.new.to_coeffs _ (omega (arith, few, p.2)) b.ensures.1 c.clear_numbers.ensures,
      )),
      k.ensures.1,
      k.ensures.2,
      k.ensures.3,
      k.ensures.4,
    )
