-- SPDX-FileCopyrightText: 2026 The PPVM Authors
-- SPDX-License-Identifier: Apache-2.0

-- What a step that is not refused keeps: how many words, the protected ones, and that nobody is lost where only max_basis is raised, up to
-- admit_basis, or only drop_tol lowered, on one side of 1e-4. Assumes nothing.
use mathlib.Core.Path.{◌≡◌, sym, ap, ap₂, subst, ◌∙◌}
use mathlib.Core.Bool.{true, false}
use mathlib.Core.List.{List}
use Prim.Native.Nat.{ℕ, ◌≤◌, max}
use native.Mathlib.Omega.{arith}
use borrow.Author.Tests.{ne_eqb}
use lib.Dec.{eqb}
use lib.Ieee.{Float, le}
use lib.ListN.{length, length-append}
use Rattle.word.specs.declared.word.Word.{Word}
use Rattle.order.specs.Places.{is_among}
use Rattle.order.specs.Members.{Member}
use Rattle.keep.specs.Retained.{flagged}
use Rattle.expm.specs.Theta.{decimal}
use Rattle.lent.specs.Read.{Read, got, onward}
use Rattle.model.specs.Stored.{ModelTables}
use Rattle.model.specs.declared.stored.Model.{Model}
use Rattle.limits.specs.Defaults.{limit_of, tau_of}
use Rattle.limits.specs.declared.Limits.{Limits}
use Rattle.step_laws.specs.Steps.{Places, Outcome, Stepped, with_zeros, course_by, protected_in, pruned_by, capped_by, hop, evolution, course_of, before_cap, step_of}
use Rattle.step_laws.specs.Kept.{FromGiven, Few, LosesNobody, Finite, AllFinite}
use Rattle.step_laws.proofs.PickLaws.{member_append}
use Rattle.step_laws.proofs.CourseLaws.{through, same_value, course_leaves}
use Rattle.step_laws.proofs.EndLaws.{prune_protected, cap_protected, cap_few, cap_raised}
use Rattle.step_laws.proofs.LoweredLaws.{lowered_stays}
use Rattle.step_laws.proofs.EvolvedLaws.{zeros_finite, zeros_long, evolution_leaves, evolution_same}

module _ (m : Model) (t : ModelTables) (protected : List Word) (dt : Float) (places : Places) where
  -- ---- the parts of a step that is not refused
  pub record Parts (l : Limits) (dropTol : Float) (ws : List Word) (cs : List Float) (s : Stepped) : Type 0 where
    pub grown : Stepped
    pub course : course_of m t protected dt places l dropTol ws cs ≡ got grown
    pub reached : before_cap m t protected dt places l dropTol ws cs ≡ got (pruned_by protected dropTol grown)
    pub is : s ≡ capped_by protected l.max_basis (pruned_by protected dropTol grown)

  pub parts : (l : Limits) (dropTol : Float) (ws : List Word) (cs : List Float) (s : Stepped) → step_of m t protected dt places l dropTol ws cs ≡ got s → Parts l dropTol ws cs s
  unfolding step_of before_cap
  parts l dropTol ws cs s e =
      let a = through (before_cap m t protected dt places l dropTol ws cs) (λ (b : Stepped). got (capped_by protected l.max_basis b)) s e in
      let b = through (course_of m t protected dt places l dropTol ws cs) (λ (g : Stepped). got (pruned_by protected dropTol g)) a.value a.before in
      let p = same_value (pruned_by protected dropTol b.value) a.value b.behind in
      record {
        grown = b.value;
        course = b.before;
        reached = a.before ∙ ap got (sym p);
        is = sym (same_value (capped_by protected l.max_basis a.value) s a.behind) ∙ ap (capped_by protected l.max_basis) (sym p);
      }

  -- before prune and cap: the words given, those that entered, and the given numbers with zeros for them, evolved once
  pub from_given : (l : Limits) (dropTol : Float) (ws : List Word) (cs : List Float) (s : Stepped) → course_of m t protected dt places l dropTol ws cs ≡ got s
      → FromGiven (evolution m t protected dt places dropTol) ws cs s
  unfolding course_of
  from_given l dropTol ws cs s e = course_leaves (hop m t protected dt places (limit_of l) (tau_of l)) (evolution m t protected dt places dropTol) (limit_of l) cs ws s e

  module _ (l : Limits) (dropTol : Float) (ws : List Word) (cs : List Float) (s : Stepped) (accepted : step_of m t protected dt places l dropTol ws cs ≡ got s) where
    -- at most max(max_basis, protected positions at the cap) words
    pub few : Few protected l.max_basis (before_cap m t protected dt places l dropTol ws cs) s
    few =
        let p = parts l dropTol ws cs s accepted in
        let b : Stepped = pruned_by protected dropTol p.grown in
        record {
          capped = b;
          reached = p.reached;
          few = subst (λ (x : Stepped). length x.words ≤ max l.max_basis (flagged (protected_in protected b.words))) (sym p.is) (cap_few protected b l.max_basis);
        }

    -- every protected word that was present remains
    pub protected_stay : (w : Word) → is_among w protected ≡ true → Member w ws → Member w s.words
    protected_stay w e h =
        let p = parts l dropTol ws cs s accepted in
        let f = from_given l dropTol ws cs p.grown p.course in
        subst (λ (x : Stepped). Member w x.words) (sym p.is)
        (cap_protected protected (pruned_by protected dropTol p.grown) l.max_basis w e
        (prune_protected protected p.grown dropTol w e
        (subst (Member w) (sym f.words_are) (member_append w ws f.entered h))))

    -- ---- only max_basis is raised, and stays at or below admit_basis
    module _ (l' : Limits) (given : l.admit_given ≡ 0 → ⊥) (raised : l.max_basis ≤ l'.max_basis) (below : l'.max_basis ≤ l.admit_basis)
        (same-given : l'.admit_given ≡ l.admit_given) (same-admit : l'.admit_basis ≡ l.admit_basis)
        (same-tau-given : l'.tau_given ≡ l.tau_given) (same-tau : l'.tau_add ≡ l.tau_add) where
      limit_same : limit_of l' ≡ limit_of l
      unfolding limit_of
      limit_same =
          let a : eqb l.admit_given 0 ≡ false = ne_eqb l.admit_given 0 given in
          let b : eqb l'.admit_given 0 ≡ false = rw same-given a in
          rw (a, b) (omega (arith, raised, below, same-admit))

      tau_same : tau_of l' ≡ tau_of l
      unfolding tau_of
      tau_same = rw (same-tau-given, same-tau)

      course_same : course_of m t protected dt places l' dropTol ws cs ≡ course_of m t protected dt places l dropTol ws cs
      unfolding course_of
      course_same =
          ap₂ (λ (limit : ℕ) (tau : Float). course_by (hop m t protected dt places limit tau) (evolution m t protected dt places dropTol) limit ws cs) limit_same tau_same

      pub max_basis_loses_nobody : LosesNobody s (step_of m t protected dt places l' dropTol ws cs)
      unfolding step_of before_cap
      max_basis_loses_nobody =
          let p = parts l dropTol ws cs s accepted in
          let pruned : Stepped = pruned_by protected dropTol p.grown in
          record {
            after = capped_by protected l'.max_basis pruned;
            accepted = ap (λ (r : Read Stepped). onward (onward r (λ g. got (pruned_by protected dropTol g))) (λ b. got (capped_by protected l'.max_basis b))) (course_same ∙ p.course);
            stays = λ w h. cap_raised protected pruned l.max_basis l'.max_basis raised w (subst (λ (x : Stepped). Member w x.words) p.is h);
          }

    -- ---- only drop_tol is lowered, on one side of 1e-4
    module _ (each : length cs ≡ length ws) (numbers : AllFinite cs) (dropTol' : Float) (finite : Finite dropTol) (finite' : Finite dropTol')
        (lowered : le dropTol' dropTol ≡ true) (one_side : le (decimal 1 4) dropTol ≡ le (decimal 1 4) dropTol') where
      -- the numbers before prune and cap: one for each word, all finite
      grown_leaves : (g : Stepped) → course_of m t protected dt places l dropTol ws cs ≡ got g → (length g.numbers ≡ length g.words) × AllFinite g.numbers
      grown_leaves g e =
          let f = from_given l dropTol ws cs g e in
          let k : length cs ≤ length g.words = omega (arith, each, ap length f.words_are, length-append ws f.entered) in
          let v = evolution_leaves m t protected dt places dropTol g.words (with_zeros cs g.words) f.last (zeros_finite cs g.words numbers) f.evolves in
          (ap length f.numbers_are ∙ v.long ∙ zeros_long cs g.words k, subst AllFinite (sym f.numbers_are) v.each)

      course_alike : course_of m t protected dt places l dropTol ws cs ≡ course_of m t protected dt places l dropTol' ws cs
      unfolding course_of
      course_alike =
          ap (λ (e : List Word → List Float → Read Outcome). course_by (hop m t protected dt places (limit_of l) (tau_of l)) e (limit_of l) ws cs)
          (evolution_same m t protected dt places dropTol dropTol' one_side)

      pub drop_tol_loses_nobody : LosesNobody s (step_of m t protected dt places l dropTol' ws cs)
      unfolding step_of before_cap
      drop_tol_loses_nobody =
          let p = parts l dropTol ws cs s accepted in
          let g = grown_leaves p.grown p.course in
          record {
            after = capped_by protected l.max_basis (pruned_by protected dropTol' p.grown);
            accepted = ap (λ (r : Read Stepped). onward (onward r (λ g. got (pruned_by protected dropTol' g))) (λ b. got (capped_by protected l.max_basis b))) (sym course_alike ∙ p.course);
            stays = λ w h.
                lowered_stays protected p.grown g.0 g.1 l.max_basis dropTol dropTol' finite finite' lowered w (subst (λ (x : Stepped). Member w x.words) p.is h);
          }
