-- SPDX-FileCopyrightText: 2026 The PPVM Authors
-- SPDX-License-Identifier: Apache-2.0

-- In work tables of the lengths that `basis_sizes` names, no work table decides what prune, cap and admission test: of any two
-- such lendings the tests end alike. Assumes nothing.
use Prim.Native.Nat.{ℕ, zero, suc, ◌/◌, ◌≤◌, max}
use mathlib.Core.Path.{◌≡◌, refl}
use mathlib.Core.Bool.{false}
use mathlib.Core.List.{List}
use native.Mathlib.Omega.{arith}
use borrow.Author.Tests.{le-ltb}
use lib.Dec.{ltb}
use lib.Ieee.{Float}
use lib.ListN.{length}
use Rattle.word.specs.Flat.{word_lanes}
use Rattle.lent.specs.Tests.{where_any}
use Rattle.truncate.specs.Prunes.{prune_tests, cap_tests}
use Rattle.truncate.specs.Admissions.{admit_tests}
use Rattle.pebblelinen.specs.Bases.{basis_sizes}
use Rattle.pebblelinen.specs.declared.bases.BasisSizes.{BasisSizes}

-- tables at least as long
pub record AtLeast (s : BasisSizes) (order work fixed kept : List ℕ) : Type 0 where
  pub order_holds : s.order ≤ length order
  pub work_holds : s.work ≤ length work
  pub fixed_holds : s.fixed ≤ length fixed
  pub kept_holds : s.kept ≤ length kept

-- the larger of two numbers of places, where there is an entry
either_asked : (entries protected : ℕ) → where_any entries (max entries protected) ≡ max entries (where_any entries protected)
unfolding where_any
either_asked zero protected = omega arith
either_asked (suc entries) protected = refl

-- ---- the test of each table passes
module _ (entries protected listed : ℕ) (order work fixed kept : List ℕ) (a : AtLeast (basis_sizes entries protected listed) order work fixed kept) where
  record Passes : Type 0 where
    order_entries : ltb (length order) (where_any entries (max entries protected)) ≡ false
    work_entries : ltb (length work) (where_any entries (max entries protected)) ≡ false
    fixed_entries : ltb (length fixed) entries ≡ false
    kept_entries : ltb (length kept) entries ≡ false
    order_listed : ltb (length order) listed ≡ false
    work_listed : ltb (length work) listed ≡ false
    kept_listed : ltb (length kept) listed ≡ false

  passes : Passes
  unfolding basis_sizes
  passes = record {
    order_entries = le-ltb (length order) (where_any entries (max entries protected)) (omega (arith, a.order_holds, either_asked entries protected));
    work_entries = le-ltb (length work) (where_any entries (max entries protected)) (omega (arith, a.work_holds, either_asked entries protected));
    fixed_entries = le-ltb (length fixed) entries a.fixed_holds;
    kept_entries = le-ltb (length kept) entries (omega (arith, a.kept_holds));
    order_listed = le-ltb (length order) listed (omega (arith, a.order_holds));
    work_listed = le-ltb (length work) listed (omega (arith, a.work_holds));
    kept_listed = le-ltb (length kept) listed (omega (arith, a.kept_holds));
  }

-- ---- so the tests end alike
module _ (len : ℕ) (lanes : List ℕ) (coeffs : List Float) (order work fixed kept order' work' fixed' kept' : List ℕ) where
  module _ (protected : List ℕ) (listed : ℕ) (a : AtLeast (basis_sizes len (length protected / word_lanes) listed) order work fixed kept) (b : AtLeast (basis_sizes len (length protected / word_lanes) listed) order' work' fixed' kept') where
    pub prune_enough : (n : ℕ) (tol : Float)
        → prune_tests len lanes coeffs order work fixed kept n protected tol ≡ prune_tests len lanes coeffs order' work' fixed' kept' n protected tol
    unfolding prune_tests
    prune_enough n tol =
        let p = passes len (length protected / word_lanes) listed order work fixed kept a in
        let q = passes len (length protected / word_lanes) listed order' work' fixed' kept' b in
        rw (p.order_entries, p.work_entries, p.fixed_entries, p.kept_entries, q.order_entries, q.work_entries, q.fixed_entries, q.kept_entries) refl

    pub cap_enough : (n limit : ℕ)
        → cap_tests len lanes coeffs order work fixed kept n protected limit ≡ cap_tests len lanes coeffs order' work' fixed' kept' n protected limit
    unfolding cap_tests
    cap_enough n limit =
        let p = passes len (length protected / word_lanes) listed order work fixed kept a in
        let q = passes len (length protected / word_lanes) listed order' work' fixed' kept' b in
        rw (p.order_entries, p.work_entries, p.fixed_entries, p.kept_entries, q.order_entries, q.work_entries, q.fixed_entries, q.kept_entries) refl

  module _ (list : List ℕ) (values : List Float) (protected : ℕ) (a : AtLeast (basis_sizes len protected (length values)) order work fixed kept) (b : AtLeast (basis_sizes len protected (length values)) order' work' fixed' kept') where
    pub admit_enough : (n limit : ℕ)
        → admit_tests len lanes coeffs list values order work kept n limit ≡ admit_tests len lanes coeffs list values order' work' kept' n limit
    unfolding admit_tests
    admit_enough n limit =
        let p = passes len protected (length values) order work fixed kept a in
        let q = passes len protected (length values) order' work' fixed' kept' b in
        rw (p.order_listed, p.work_listed, p.kept_listed, q.order_listed, q.work_listed, q.kept_listed) refl
