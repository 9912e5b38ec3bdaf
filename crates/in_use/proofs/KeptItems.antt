-- SPDX-FileCopyrightText: 2026 The PPVM Authors
-- SPDX-License-Identifier: Apache-2.0

-- Jumps and pairs whose ranges lie in the first places of the terms table add the same over any tables that hold the same terms
-- there. Assumes nothing.
use mathlib.Core.Path.{◌≡◌, refl, ap, ap₂}
use mathlib.Core.Bool.{true, false, cond}
use mathlib.Core.List.{List, [], ◌∷◌, ◌++◌, map}
use Prim.Native.Nat.{ℕ, zero, suc, ◌+◌, ◌*◌, ◌%◌, ◌≤◌, ◌<◌}
use native.Mathlib.Omega.{arith}
use borrow.Author.Tests.{leb-true, ltb-true, not-false}
use lib.Dec.{leb, ltb}
use lib.ListN.{get_or}
use Rattle.word.specs.Word.{identity}
use Rattle.word.specs.Flat.{words}
use Rattle.word.specs.Product.{phase}
use Rattle.word.specs.Register.{share}
use Rattle.word.specs.declared.word.Word.{Word}
use Rattle.number.specs.Floats.{floats}
use Rattle.gksl.specs.Rules.{clash_over}
use Rattle.gksl.specs.Words.{pauli}
use Rattle.model.specs.Stored.{ModelTables, jump_at}
use Rattle.model.specs.Tested.{bad_jump, inside, width}
use Rattle.model.specs.Terms.{Term, terms_in}
use Rattle.model.specs.Stands.{Stands}
use Rattle.model.specs.declared.stored.Model.{Model}
use Rattle.model.specs.declared.stored.Range.{Range}
use Rattle.model.specs.declared.stored.Jump.{Jump}
use Rattle.model.specs.declared.stored.Jump.TheVariants.{Pauli, General, Pair}
use Rattle.lent.specs.Every.{Every}
use Rattle.model_laws.proofs.JumpTests.{both}
use Rattle.word.specs.Count.{up_to}
use Rattle.rule_terms.specs.Adds.{jumps_in, jump_adds, pair_adds, gather_jumps}

-- ---- a list by its places
pub read_same : {A : Type 0} (f g : ℕ → A) (k n : ℕ) → ((i : ℕ) → k ≤ i → i < k + n → f i ≡ g i) → map f (up_to k n) ≡ map g (up_to k n)
unfolding up_to
read_same f g k zero h = refl
read_same {A} f g k (suc n) h =
    ap₂ (λ (a : A) (l : List A). a ∷ l) (h k (omega arith) (omega arith)) (read_same f g (suc k) n (λ i p q. h i (omega arith) (omega arith)))

every_up_to : (P : Jump → Type 0) (f : ℕ → Jump) (k n : ℕ) → ((i : ℕ) → k ≤ i → i < k + n → P (f i)) → Every P (map f (up_to k n))
unfolding up_to
every_up_to P f k zero h = tt
every_up_to P f k (suc n) h = (h k (omega arith) (omega arith), every_up_to P f (suc k) n (λ i p q. h i (omega arith) (omega arith)))

gathered_same : (f g : Jump → List Term) (P : Jump → Type 0) → ((j : Jump) → P j → f j ≡ g j) → (J : List Jump) → Every P J → gather_jumps f J ≡ gather_jumps g J
unfolding gather_jumps
gathered_same f g P h [] e = refl
gathered_same f g P h (j ∷ J) e = ap₂ (λ (a b : List Term). a ++ b) (h j e.0) (gathered_same f g P h J e.1)

-- ---- over tables u that hold the same first n terms as t
module _ (p : Word) (t u : ModelTables) (n : ℕ)
    (terms : (s e : ℕ) → s ≤ e → e ≤ n → terms_in u.t_words u.t_numbers s e ≡ terms_in t.t_words t.t_numbers s e)
    (word : (i : ℕ) → i < n → get_or (words u.t_words) i identity ≡ get_or (words t.t_words) i identity) where
  range_kept : (r : Range) → inside n r ≡ true → terms_in u.t_words u.t_numbers r.start r.end ≡ terms_in t.t_words t.t_numbers r.start r.end
  range_kept r h = let e = both (leb r.start r.end) h in terms r.start r.end (leb-true r.start r.end e.0) (leb-true r.end n e.1)

  jump_kept : (j : Jump) → bad_jump n j ≡ false → jump_adds p u j ≡ jump_adds p t j
  unfolding bad_jump jump_adds
  jump_kept (Pauli rate place) h =
      ap (λ (w : Word). cond (share w p) (clash_over floats pauli (phase w p % 2) rate p) []) (word place (ltb-true place n (both (ltb place n) (not-false _ h)).0))
  jump_kept (General rate op product) h =
      let e = both (inside n op) (not-false _ h) in
      rw (range_kept op e.0, range_kept product (both (inside n product) e.1).0) refl
  jump_kept (Pair left right factors product) h = refl

  pair_kept : (j : Jump) → bad_jump n j ≡ false → pair_adds p u j ≡ pair_adds p t j
  unfolding bad_jump pair_adds
  pair_kept (Pauli rate place) h = refl
  pair_kept (General rate op product) h = refl
  pair_kept (Pair left right factors product) h =
      let e = both (inside n left) (not-false _ h) in
      let f = both (inside n right) e.1 in
      let g = both (inside n product) f.1 in
      rw (
        range_kept left e.0,
        range_kept right f.0,
        range_kept product g.0,
        terms factors (factors + width left * width right) (omega arith) (leb-true (factors + width left * width right) n g.1),
      ) refl

-- ---- the jumps and pairs of a model that stands
module _ (p : Word) (m : Model) (t u : ModelTables) (s : Stands m t)
    (terms : (b e : ℕ) → b ≤ e → e ≤ m.terms → terms_in u.t_words u.t_numbers b e ≡ terms_in t.t_words t.t_numbers b e)
    (word : (i : ℕ) → i < m.terms → get_or (words u.t_words) i identity ≡ get_or (words t.t_words) i identity) where
  abbrev Fits : Jump → Type 0
  Fits j = bad_jump m.terms j ≡ false

  all_fit : Every Fits (jumps_in m t)
  all_fit = every_up_to Fits (jump_at t.jumps t.rates) 0 m.jumps (λ i q l. s.fits i (omega arith))

  pub jumps_kept : gather_jumps (jump_adds p u) (jumps_in m t) ≡ gather_jumps (jump_adds p t) (jumps_in m t)
  jumps_kept = gathered_same _ _ Fits (jump_kept p t u m.terms terms word) (jumps_in m t) all_fit

  pub pairs_kept : gather_jumps (pair_adds p u) (jumps_in m t) ≡ gather_jumps (pair_adds p t) (jumps_in m t)
  pairs_kept = gathered_same _ _ Fits (pair_kept p t u m.terms terms word) (jumps_in m t) all_fit
