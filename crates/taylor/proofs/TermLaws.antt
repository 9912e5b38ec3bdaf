-- SPDX-FileCopyrightText: 2026 The PPVM Authors
-- SPDX-License-Identifier: Apache-2.0

-- One term of a stage: its product, b and v, each looked through before the next. Assumes nothing.
use mathlib.Core.Path.{◌≡◌, refl, sym, ap, ◌∙◌, subst}
use mathlib.Core.Bool.{true}
use mathlib.Core.List.{List, ◌++◌}
use Prim.Native.Nat.{ℕ, ◌≤◌, ◌<◌}
use native.Mathlib.Omega.{arith}
use borrow.Author.Tests.{lt-ltb, le-ltb}
use lib.Ieee.{Float}
use lib.ListN.{length, take, drop}
use Rattle.lent.specs.Tests.{first_to}
use Rattle.lent.specs.Numbers.{not_finite}
use Rattle.csr.specs.Walks.{Walked}
use Rattle.csr.proofs.CheckLaws.{accepted_sound}
use Rattle.csr.proofs.PassLaws.{stops_first, full_product_lem, product_length}
use Rattle.taylor.specs.Stages.{Evolution, swept, scaled, added, product_of}
use Rattle.taylor.specs.Between.{AllFinite, Sweeps, follows, TermReady, TermLeaves, term_of}
use Rattle.taylor.proofs.SweepLaws.{scaled_long, added_long, sweep_all, sweep_finite}

-- ---- whether it goes on
pub goes_on : (n r : ℕ) (X : Evolution) → n ≤ r → follows n r X ≡ X
goes_on n r X h = rw (le-ltb r n h)

pub ends : (n r : ℕ) (X Y : Evolution) → r < n → follows n r X ≡ follows n r Y
ends n r X Y h = rw (lt-ltb r n h)

-- a list looked through
pub swept_is : (l table : List Float) (r : ℕ) (table' : List Float) (n : ℕ) → Sweeps l table r table' → length l ≡ n → (X : Evolution) → swept l X ≡ follows n r X
unfolding swept
swept_is l table r table' n w e X = rw (← w.first, e)

module _ (offsets columns : List ℕ) (values b product v : List Float) (ready : TermReady offsets columns values b product v) (x : Float) where
  abbrev rows : ℕ
  rows = length b

  abbrev P : List Float
  P = product_of offsets columns values b

  abbrev B : List Float
  B = term_of offsets columns values x b

  P_long : length P ≡ rows
  P_long = product_length rows offsets columns values b true b

  B_long : length B ≡ rows
  B_long = scaled_long x P ∙ P_long

  V_long : length (added v B) ≡ rows
  V_long = added_long v B (ready.v_long ∙ sym B_long) ∙ ready.v_long

  module _ (r1 : ℕ) (product' : List Float) (walked : Walked offsets columns values b true b product r1 product') where
    product_swept : Sweeps P product r1 product'
    product_swept =
        let t = ready.matrix in
        let s = accepted_sound rows offsets columns values b true b (t.passes b refl ready.finite) in
        record {
          first = walked.stopped ∙ stops_first offsets columns values b true b t.offsets_long t.values_long s ∙ ap (λ (n : ℕ). first_to n (not_finite P)) (sym P_long);
          laid = walked.laid ∙ ap (λ (l : List Float). take r1 l ++ drop r1 product) (full_product_lem offsets columns values b true b t.offsets_long t.values_long s);
        }

    never : {A : Type 0} (r : ℕ) → r < rows → rows ≤ r → A
    never r h k = absurd (omega arith)

    -- the product is not finite
    pub term_first : r1 < rows → TermLeaves offsets columns values x b v r1 b v
    term_first h = record {
      follow = λ X. swept_is P product r1 product' rows product_swept P_long (swept B (swept (added v B) X)) ∙ ends rows r1 (swept B (swept (added v B) X)) X h;
      b_is = never r1 h;
      v_is = never r1 h;
      b_finite = never r1 h;
      v_finite = never r1 h;
    }

    module _ (all1 : rows ≤ r1) (r2 : ℕ) (b' : List Float) (scales : Sweeps (scaled x product') b r2 b') where
      product_is : product' ≡ P
      product_is = sweep_all P product r1 product' product_swept (ready.product_long ∙ sym P_long) (omega (arith, P_long))

      b_swept : Sweeps B b r2 b'
      b_swept = rw product_is at scales

      on1 : (X : Evolution) → swept P X ≡ X
      on1 X = swept_is P product r1 product' rows product_swept P_long X ∙ goes_on rows r1 X all1

      -- b is not finite
      pub term_second : r2 < rows → TermLeaves offsets columns values x b v r2 b' v
      term_second h = record {
        follow = λ X. on1 (swept B (swept (added v B) X)) ∙ swept_is B b r2 b' rows b_swept B_long (swept (added v B) X) ∙ ends rows r2 (swept (added v B) X) X h;
        b_is = never r2 h;
        v_is = never r2 h;
        b_finite = never r2 h;
        v_finite = never r2 h;
      }

      module _ (all2 : rows ≤ r2) (r3 : ℕ) (v' : List Float) (adds : Sweeps (added v b') v r3 v') where
        next_is : b' ≡ B
        next_is = sweep_all B b r2 b' b_swept (sym B_long) (omega (arith, B_long))

        v_swept : Sweeps (added v B) v r3 v'
        v_swept = rw next_is at adds

        V_is : rows ≤ r3 → v' ≡ added v B
        V_is h = sweep_all (added v B) v r3 v' v_swept (ready.v_long ∙ sym V_long) (omega (arith, V_long))

        pub term_third : TermLeaves offsets columns values x b v r3 b' v'
        term_third = record {
          follow = λ X.
              on1 (swept B (swept (added v B) X))
              ∙ swept_is B b r2 b' rows b_swept B_long (swept (added v B) X)
              ∙ goes_on rows r2 (swept (added v B) X) all2
              ∙ swept_is (added v B) v r3 v' rows v_swept V_long X;
          b_is = λ _. next_is;
          v_is = V_is;
          b_finite = λ _. subst AllFinite (sym next_is) (sweep_finite B b r2 b' b_swept (omega (arith, B_long)));
          v_finite = λ h. subst AllFinite (sym (V_is h)) (sweep_finite (added v B) v r3 v' v_swept (omega (arith, V_long)));
        }
