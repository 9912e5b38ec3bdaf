-- SPDX-FileCopyrightText: 2026 The PPVM Authors
-- SPDX-License-Identifier: Apache-2.0

-- The prune and the cap of a step are accepted over lent tables where the basis passes, and leave what plain lists keep; what is kept
-- passes again. Assumes nothing.
use mathlib.Core.Path.{◌≡◌, refl, sym, ap, subst, ◌∙◌}
use mathlib.Core.Bool.{Bool, true, false, cond}
use mathlib.Core.List.{List, [], ◌∷◌, ◌++◌}
use Prim.Native.Nat.{ℕ, suc, ◌-◌, ◌*◌, ◌/◌, ◌≤◌, max}
use native.Mathlib.Omega.{arith}
use borrow.Author.Tests.{le-ltb, eq-eqb}
use lib.Dec.{eqb, leb}
use lib.Ieee.{Float, nan, le}
use lib.ListN.{length, take, replicate, length-append, length-replicate}
use lib.Seq.{take_all, take_at}
use Rattle.std.specs.Prelude.{Ok}
use Rattle.word.specs.Word.{max_qubits, identity}
use Rattle.word.specs.Flat.{words, flat_lanes, word_lanes}
use Rattle.word.specs.Register.{reaches}
use Rattle.word.specs.declared.word.Word.{Word}
use Rattle.word.proofs.FlatLaws.{whole_words, whole_take}
use Rattle.number.specs.Floats.{float0, is_finite}
use Rattle.order.specs.Magnitudes.{by_magnitude}
use Rattle.keep.specs.Retained.{pick, flagged}
use Rattle.keep.specs.Chosen.{chosen}
use Rattle.keep.specs.Pruned.{large_flags}
use Rattle.keep.proofs.FlagLaws.{flagged_few}
use Rattle.keep.proofs.PickLaws.{pick_length, whole_pick}
use Rattle.keep.proofs.RetainLaws.{retained_words}
use Rattle.lent.specs.Tests.{where_any}
use Rattle.lent.specs.Words.{max_words}
use Rattle.truncate.specs.Prunes.{protected_flags, prune_flags, cap_flags, Keeping, left, retained, prune_tests, cap_tests, prune, cap}
use Rattle.truncate_laws.proofs.StaysLaws.{prune_long, cap_long}
use Rattle.step_laws.specs.Steps.{Stepped, protected_in, kept_by, pruned_by, capped_by}
use Rattle.step_laws.specs.Passing.{Fit, Held, GoodProtected, EndPlaces, EndCall}
use Rattle.step_laws.proofs.PlaceLaws.{pick_each, pick_alike}
use Rattle.step_laws.proofs.HeldLaws.{held_words, held_numbers, inside_passes, finite_passes, protected_passes, need_none, lanes_count}

pick_short : {A : Type 0} (ks : List ℕ) (l : List A) → length (pick ks l) ≤ length l
unfolding pick
pick_short [] l = omega arith
pick_short (k ∷ ks) [] = omega arith
pick_short (k ∷ ks) (a ∷ l) = go (eqb k 0) (pick_short ks l)
  where
    go : (b : Bool) → length (pick ks l) ≤ length l → length (cond b (pick ks l) (a ∷ pick ks l)) ≤ suc (length l)
    go true h = omega arith
    go false h = omega arith

-- ---- what is kept passes where the basis did
module _ (n : ℕ) (s : Stepped) (f : Fit n s.words s.numbers) where
  flags_fit : (protected : List Word) (flags : List ℕ) → Fit n (kept_by protected flags s).words (kept_by protected flags s).numbers
  flags_fit protected flags = record {
    few = omega (arith, f.few, pick_short flags s.words);
    inside = pick_each (λ w. reaches w n ≡ false) identity flags s.words f.inside;
    each = pick_alike flags s.numbers s.words f.each;
    finite = pick_each (λ x. is_finite x ≡ true) nan flags s.numbers f.finite;
  }

  either_fit : (protected : List Word) (b : Bool) (flags : List ℕ) → Fit n (cond b s (kept_by protected flags s)).words (cond b s (kept_by protected flags s)).numbers
  either_fit protected true flags = f
  either_fit protected false flags = flags_fit protected flags

  pub pruned_fit : (protected : List Word) (tol : Float) → Fit n (pruned_by protected tol s).words (pruned_by protected tol s).numbers
  unfolding pruned_by
  pruned_fit protected tol = either_fit protected (le tol float0) _

  pub capped_fit : (protected : List Word) (limit : ℕ) → Fit n (capped_by protected limit s).words (capped_by protected limit s).numbers
  unfolding capped_by
  capped_fit protected limit = either_fit protected (leb (length s.words) limit) _

-- ---- over lent tables
module _ (n : ℕ) (lanes : List ℕ) (coeffs : List Float) (len : ℕ) (ws : List Word) (cs : List Float) (h : Held lanes coeffs len ws cs) (order work fixed kept : List ℕ) (protected : List ℕ) (products : ℕ) where
  abbrev given : Stepped
  given = record { words = ws; numbers = cs; products = products }

  -- nothing is done
  idle : EndCall lanes coeffs len order work fixed kept (left len lanes coeffs order work fixed kept len lanes coeffs) given
  idle =
      let e : length ws ≡ len = held_words lanes coeffs len ws cs h in
      record {
        answers = ap Ok (sym e);
        holds = subst (λ (k : ℕ). Held lanes coeffs k ws cs) (sym e) h;
        fewer = omega (arith, e);
        lanes_long = refl;
        coeffs_long = refl;
        order_zero = refl;
        work_zero = refl;
        fixed_zero = refl;
        kept_zero = refl;
      }

  module _ (flags : List ℕ) (flags_long : length flags ≡ len) where
    abbrev after : Keeping
    after = retained len lanes coeffs order work fixed kept flags

    all_flags : take len flags ≡ flags
    all_flags = take_all len flags (omega (arith, flags_long))

    words_count : length (pick flags ws) ≡ flagged flags
    words_count = pick_length flags ws (omega (arith, flags_long, held_words lanes coeffs len ws cs h)) ∙ ap (λ (k : ℕ). flagged (take k flags)) (held_words lanes coeffs len ws cs h) ∙ ap flagged all_flags

    numbers_count : length (pick flags cs) ≡ flagged flags
    numbers_count = pick_length flags cs (omega (arith, flags_long, held_numbers lanes coeffs len ws cs h)) ∙ ap (λ (k : ℕ). flagged (take k flags)) (held_numbers lanes coeffs len ws cs h) ∙ ap flagged all_flags

    few : flagged flags ≤ len
    few = omega (arith, flagged_few flags, flags_long)

    lanes_same : length after.lanes ≡ length lanes
    lanes_same =
        let c : length (flat_lanes (pick flags (take len (words lanes)))) ≡ word_lanes * flagged flags =
        lanes_count (pick flags (take len (words lanes))) (whole_pick flags (take len (words lanes)) (whole_take len (words lanes) (whole_words lanes)))
        ∙ ap (λ (us : List Word). word_lanes * length (pick flags us)) h.words_are
        ∙ ap (λ (k : ℕ). word_lanes * k) words_count in
        omega (arith, length-append (flat_lanes (pick flags (take len (words lanes)))) (replicate (length lanes - word_lanes * flagged (take len flags)) 0), length-replicate {A = ℕ} (length lanes - word_lanes * flagged (take len flags)) 0, c, ap flagged all_flags, few, h.lanes_long)

    coeffs_same : length after.coeffs ≡ length coeffs
    coeffs_same =
        let c : length (pick flags (take len coeffs)) ≡ flagged flags = ap (λ (us : List Float). length (pick flags us)) h.numbers_are ∙ numbers_count in
        omega (arith, length-append (pick flags (take len coeffs)) (replicate (length coeffs - flagged (take len flags)) float0), length-replicate (length coeffs - flagged (take len flags)) float0, c, ap flagged all_flags, few, h.numbers_long)

    acted : EndCall lanes coeffs len order work fixed kept after (kept_by (words protected) flags given)
    acted = record {
      answers = ap Ok (sym words_count);
      holds = record {
        lanes_long = omega (arith, lanes_same, words_count, few, h.lanes_long);
        numbers_long = omega (arith, coeffs_same, words_count, few, h.numbers_long);
        words_are =
            ap (take (length (pick flags ws))) (retained_words len flags lanes ∙ ap (λ (us : List Word). pick flags us ++ replicate ((length lanes - word_lanes * flagged (take len flags)) / word_lanes) identity) h.words_are)
            ∙ take_at (pick flags ws) _ (length (pick flags ws)) refl;
        numbers_are =
            ap (λ (us : List Float). take (length (pick flags ws)) (pick flags us ++ replicate (length coeffs - flagged (take len flags)) float0)) h.numbers_are
            ∙ take_at (pick flags cs) _ (length (pick flags ws)) (numbers_count ∙ sym words_count);
      };
      fewer = omega (arith, words_count, few);
      lanes_long = lanes_same;
      coeffs_long = coeffs_same;
      order_zero = refl;
      work_zero = refl;
      fixed_zero = refl;
      kept_zero = refl;
    }

  prune_flags_lem : (tol : Float) → prune_flags len lanes coeffs protected tol ≡ large_flags tol cs (protected_in (words protected) ws)
  unfolding prune_flags protected_flags
  prune_flags_lem tol = rw (h.words_are, h.numbers_are)

  cap_flags_lem : (limit : ℕ) → cap_flags len lanes coeffs protected limit ≡ chosen (by_magnitude cs) (protected_in (words protected) ws) (limit - flagged (protected_in (words protected) ws))
  unfolding cap_flags protected_flags
  cap_flags_lem limit = rw (h.words_are, h.numbers_are)

  either : (b : Bool) (flags : List ℕ) → length flags ≡ len
      → EndCall lanes coeffs len order work fixed kept (cond b (left len lanes coeffs order work fixed kept len lanes coeffs) (retained len lanes coeffs order work fixed kept flags)) (cond b given (kept_by (words protected) flags given))
  either true flags e = idle
  either false flags e = acted flags e

  -- ---- the tests, and the calls
  module _ (register : n ≤ max_qubits) (fit : Fit n ws cs) (good : GoodProtected n protected) (lent : EndPlaces len (length protected / word_lanes) order work fixed kept) where
    abbrev count : ℕ
    count = length protected / word_lanes

    order_room : where_any len (max len count) ≤ length order
    order_room = need_none len (max len count) (length order) (λ a. omega (arith, lent.order_long, lent.order_protected a))

    work_room : where_any len (max len count) ≤ length work
    work_room = need_none len (max len count) (length work) (λ a. omega (arith, lent.work_long, lent.work_protected a))

    pub prune_accepted : (tol : Float) → is_finite tol ≡ true → prune_tests len lanes coeffs order work fixed kept n protected tol ≡ Ok tt
    unfolding prune_tests
    prune_accepted tol tol-finite =
        rw (
          le-ltb max_qubits n register,
          le-ltb max_words len (omega (arith, fit.few, held_words lanes coeffs len ws cs h)),
          le-ltb max_words count good.few,
          le-ltb (length lanes / word_lanes) len (omega (arith, h.lanes_long)),
          le-ltb (length coeffs) len h.numbers_long,
          eq-eqb (length protected) (count * word_lanes) good.whole,
          le-ltb (length order) (where_any len (max len count)) order_room,
          le-ltb (length work) (where_any len (max len count)) work_room,
          le-ltb (length fixed) len lent.fixed_long,
          le-ltb (length kept) len lent.kept_long,
        )
        (inside_passes lanes coeffs len ws cs h n _ fit.inside ∙ protected_passes n protected _ good ∙ finite_passes lanes coeffs len ws cs h 0 _ fit.finite ∙ rw tol-finite)

    pub cap_accepted : (limit : ℕ) → limit ≤ max_words → cap_tests len lanes coeffs order work fixed kept n protected limit ≡ Ok tt
    unfolding cap_tests
    cap_accepted limit low =
        rw (
          le-ltb max_qubits n register,
          le-ltb max_words len (omega (arith, fit.few, held_words lanes coeffs len ws cs h)),
          le-ltb max_words count good.few,
          le-ltb max_words limit low,
          le-ltb (length lanes / word_lanes) len (omega (arith, h.lanes_long)),
          le-ltb (length coeffs) len h.numbers_long,
          eq-eqb (length protected) (count * word_lanes) good.whole,
          le-ltb (length order) (where_any len (max len count)) order_room,
          le-ltb (length work) (where_any len (max len count)) work_room,
          le-ltb (length fixed) len lent.fixed_long,
          le-ltb (length kept) len lent.kept_long,
        )
        (inside_passes lanes coeffs len ws cs h n _ fit.inside ∙ protected_passes n protected _ good ∙ finite_passes lanes coeffs len ws cs h 0 (Ok tt) fit.finite)

    pub prune_call : (tol : Float) → is_finite tol ≡ true → EndCall lanes coeffs len order work fixed kept (prune len lanes coeffs order work fixed kept n protected tol) (pruned_by (words protected) tol given)
    unfolding prune pruned_by
    prune_call tol tol-finite =
        subst (λ (flags : List ℕ). EndCall lanes coeffs len order work fixed kept (prune len lanes coeffs order work fixed kept n protected tol) (cond (le tol float0) given (kept_by (words protected) flags given)))
        (prune_flags_lem tol)
        (rw (prune_accepted tol tol-finite) (either (le tol float0) (prune_flags len lanes coeffs protected tol) (prune_long len lanes coeffs protected h.lanes_long tol)))

    pub cap_call : (limit : ℕ) → limit ≤ max_words → EndCall lanes coeffs len order work fixed kept (cap len lanes coeffs order work fixed kept n protected limit) (capped_by (words protected) limit given)
    unfolding cap capped_by
    cap_call limit low =
        let e : leb len limit ≡ leb (length ws) limit = ap (λ (k : ℕ). leb k limit) (sym (held_words lanes coeffs len ws cs h)) in
        subst (λ (flags : List ℕ). EndCall lanes coeffs len order work fixed kept (cap len lanes coeffs order work fixed kept n protected limit) (cond (leb (length ws) limit) given (kept_by (words protected) flags given)))
        (cap_flags_lem limit)
        (subst (λ (b : Bool). EndCall lanes coeffs len order work fixed kept (cap len lanes coeffs order work fixed kept n protected limit) (cond b given (kept_by (words protected) (cap_flags len lanes coeffs protected limit) given)))
        e
        (rw (cap_accepted limit low) (either (leb len limit) (cap_flags len lanes coeffs protected limit) (cap_long len lanes coeffs protected h.lanes_long limit))))
