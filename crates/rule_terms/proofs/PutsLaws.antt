-- SPDX-FileCopyrightText: 2026 The PPVM Authors
-- SPDX-License-Identifier: Apache-2.0

-- Terms put to the sums one after another: none, one, some and then more; where some find no room, more find none. Assumes nothing.
use mathlib.Core.Path.{◌≡◌, sym, ap, ◌∙◌, subst, subst⁻¹}
use mathlib.Core.List.{List, [], ◌∷◌, ◌++◌}
use Prim.Native.Nat.{ℕ}
use native.Mathlib.Omega.{arith}
use lib.Ieee.{Float}
use lib.ListN.{length}
use Rattle.number.specs.Floats.{floats}
use Rattle.gksl.specs.Table.{put_all_over}
use Rattle.gksl.specs.Words.{pauli}
use Rattle.sums.specs.Sums.{sum_rows, Rising}
use Rattle.std.specs.Prelude.{Option, Some, None}
use Rattle.sums.proofs.SumLaws.{rising_put_all, put_all_append, length_part, held_answer, full_answer, answer_held, answer_full, table_long}
use Rattle.model.specs.Terms.{Term}
use Rattle.rule_terms.specs.Sums.{SumsRoom, PutsAll}
use Rattle.sums.specs.Between.{answer, Puts}

module _ (room len : ℕ) (lanes : List ℕ) (sums : List Float) (s : SumsRoom room len lanes sums) where
  sums_count : length (sum_rows len lanes sums) ≡ len
  sums_count = table_long len lanes sums (omega (arith, s.lanes_long, s.inside)) (omega (arith, s.sums_long, s.inside))

  -- none
  pub puts_none : PutsAll room len [] lanes sums lanes sums (Some len)
  unfolding put_all_over
  puts_none = record {
    answers = held_answer room len (sum_rows len lanes sums) sums_count s.inside;
    held = λ n e. ap (λ (k : ℕ). sum_rows k lanes sums) (same e);
  }
    where
      same : {n : ℕ} → Some len ≡ Some n → n ≡ len
      same e = cc

  pub puts_nothing : (A : List Term) → A ≡ [] → PutsAll room len A lanes sums lanes sums (Some len)
  puts_nothing A e = subst⁻¹ (λ (T : List Term). PutsAll room len T lanes sums lanes sums (Some len)) e puts_none

  module _ (lanes' : List ℕ) (sums' : List Float) where
    -- one
    pub puts_one : (t : Term) (r : Option ℕ) → Puts room len t lanes sums lanes' sums' r → PutsAll room len (t ∷ []) lanes sums lanes' sums' r
    unfolding put_all_over
    puts_one t r g = record { answers = g.answers; held = g.held }

    -- the same terms
    pub puts_same : (A B : List Term) (r : Option ℕ) → A ≡ B → PutsAll room len A lanes sums lanes' sums' r → PutsAll room len B lanes sums lanes' sums' r
    puts_same A B r e g = subst (λ (T : List Term). PutsAll room len T lanes sums lanes' sums' r) e g

    pub puts_single : (A : List Term) (t u : Term) (r : Option ℕ) → A ≡ u ∷ [] → t ≡ u → Puts room len t lanes sums lanes' sums' r → PutsAll room len A lanes sums lanes' sums' r
    puts_single A t u r e f g = puts_same (t ∷ []) A r (ap (λ (v : Term). v ∷ []) f ∙ sym e) (puts_one t r g)

    -- where some are put, there is room as before
    pub puts_room : (A : List Term) (k : ℕ) (r : Option ℕ) → PutsAll room len A lanes sums lanes' sums' r → r ≡ Some k
        → length lanes' ≡ length lanes → length sums' ≡ length sums → SumsRoom room k lanes' sums'
    puts_room A k r g e el es =
        let h = answer_held room k (put_all_over floats pauli A (sum_rows len lanes sums)) (sym e ∙ g.answers) in
        record {
          lanes_long = omega (arith, s.lanes_long, el);
          sums_long = omega (arith, s.sums_long, es);
          inside = omega (arith, h.0, h.1);
          rises = subst Rising (sym (g.held k e)) (rising_put_all A (sum_rows len lanes sums) s.rises);
        }

    -- where some find no room, more find none
    pub puts_full : (A B : List Term) (r : Option ℕ) → PutsAll room len A lanes sums lanes' sums' r → r ≡ None → PutsAll room len (A ++ B) lanes sums lanes' sums' None
    puts_full A B r g e =
        let T : List Term = sum_rows len lanes sums in
        let l = answer_full room (put_all_over floats pauli A T) (sym e ∙ g.answers) in
        record {
          answers = full_answer room (put_all_over floats pauli (A ++ B) T) (omega (arith, l, length_part A B T));
          held = λ n q. absurd (apart q);
        }
      where
        apart : {n : ℕ} → None ≡ Some n → ⊥
        apart e = let z : ◌≡◌ {A = ℕ} 0 1 = cc in omega arith

    -- some, then more
    pub puts_more : (A B : List Term) (k : ℕ) (r : Option ℕ) → PutsAll room len A lanes sums lanes' sums' r → r ≡ Some k
        → (lanes'' : List ℕ) (sums'' : List Float) (q : Option ℕ) → PutsAll room k B lanes' sums' lanes'' sums'' q → PutsAll room len (A ++ B) lanes sums lanes'' sums'' q
    puts_more A B k r g e lanes'' sums'' q h =
        let T : List Term = sum_rows len lanes sums in
        let is : put_all_over floats pauli B (sum_rows k lanes' sums') ≡ put_all_over floats pauli (A ++ B) T = ap (put_all_over floats pauli B) (g.held k e) ∙ sym (put_all_append A B T) in
        record {
          answers = h.answers ∙ ap (answer room) is;
          held = λ n f. h.held n f ∙ is;
        }
