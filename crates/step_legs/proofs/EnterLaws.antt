-- SPDX-FileCopyrightText: 2026 The PPVM Authors
-- SPDX-License-Identifier: Apache-2.0

-- What a leakage listed is admitted to the first places of the basis tables, and a refusal is passed on. Assumes nothing.
use mathlib.Core.Path.{◌≡◌, refl, sym, ap, ◌∙◌}
use mathlib.Core.List.{List, ◌++◌}
use Prim.Native.Nat.{ℕ, ◌*◌}
use lib.Ieee.{Float}
use lib.ListN.{take, drop}
use Rattle.refusal.specs.declared.Refusal.{Refusal}
use Rattle.word.specs.Flat.{word_lanes}
use Rattle.std.specs.Prelude.{Result, Ok, Err}
use Rattle.truncate.specs.Admissions.{Admitting, admit}
use Rattle.step_laws.proofs.LeakCall.{no_list, same_count, same_answer}
use Rattle.step_legs.specs.Between.{Enters}

module _ (leaked : Result ℕ Refusal) (n limit places len : ℕ) (candWords placeOrder placeWork listWords : List ℕ) (listValues : List Float) (grownWords : List ℕ) (start : List Float) where
  abbrev entering : ℕ → Admitting
  entering k = admit len (take (places * word_lanes) grownWords) (take places start) (take (k * word_lanes) listWords) (take k listValues) placeOrder placeWork candWords n limit

  pub enters_listed : (k : ℕ) → leaked ≡ Ok k → (x : Admitting) → x ≡ entering k
      → Enters leaked n limit places len candWords placeOrder placeWork listWords listValues grownWords start x.answer x.kept x.order x.work (x.lanes ++ drop (places * word_lanes) grownWords) (x.coeffs ++ drop places start)
  enters_listed k e x a = record {
    listed = λ j f.
        let b : x ≡ entering j = a ∙ ap entering (same_count k j (sym e ∙ f)) in
        record {
          answers = ap (λ (y : Admitting). y.answer) b;
          words_are = ap (λ (y : Admitting). y.lanes ++ drop (places * word_lanes) grownWords) b;
          start_is = ap (λ (y : Admitting). y.coeffs ++ drop places start) b;
          order_is = ap (λ (y : Admitting). y.order) b;
          work_is = ap (λ (y : Admitting). y.work) b;
          kept_is = ap (λ (y : Admitting). y.kept) b;
        };
    refused = λ q f. absurd (no_list q k (sym f ∙ e));
  }

  pub enters_refused : (q : Refusal) → leaked ≡ Err q → Enters leaked n limit places len candWords placeOrder placeWork listWords listValues grownWords start (Err q) candWords placeOrder placeWork grownWords start
  enters_refused q e = record {
    listed = λ k f. absurd (no_list q k (sym e ∙ f));
    refused = λ r f. record {
      answers = ap Err (same_answer q r (sym e ∙ f));
      cand_same = refl;
      order_same = refl;
      work_same = refl;
      words_same = refl;
      start_same = refl;
    };
  }
