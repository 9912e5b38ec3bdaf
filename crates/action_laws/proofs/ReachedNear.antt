-- SPDX-FileCopyrightText: 2026 The PPVM Authors
-- SPDX-License-Identifier: Apache-2.0

-- At a qubit on which no stored word acts, every word that is added for p has p's letter: nothing is reached beyond the qubits
-- of the model. Assumes nothing.
use mathlib.Core.Path.{◌≡◌, refl, ap, ◌∙◌}
use mathlib.Core.Bool.{Bool, true, false, cond, ◌&&◌}
use mathlib.Core.List.{List, [], ◌∷◌, ◌++◌, map}
use Prim.Native.Nat.{ℕ, zero, suc, ◌+◌, ◌-◌, ◌*◌, ◌≤◌, ◌<◌}
use native.Mathlib.Omega.{arith}
use borrow.Author.Tests.{leb-true, not-false}
use lib.Dec.{eqb, leb}
use lib.Ieee.{Float}
use lib.ListN.{get_or, take, drop}
use Rattle.std.specs.Prelude.{Ok}
use Rattle.word.specs.Letter.{mul_letter}
use Rattle.word.specs.Product.{mul}
use Rattle.word.specs.Word.{max_qubits, identity, letter_at}
use Rattle.word.specs.Flat.{words}
use Rattle.word.specs.Register.{share}
use Rattle.word.specs.declared.word.Word.{Word}
use Rattle.word.proofs.WordLaws.{word_letter_lt, letter_mul, mul_comm}
use Rattle.number.specs.Numbers.{Cx, add_c, zero_c}
use Rattle.number.specs.Floats.{floats}
use Rattle.gksl.specs.Model.{RealTerm}
use Rattle.gksl.specs.Table.{put_over, put_all_over}
use Rattle.gksl.specs.Rules.{pairs_over, gather_over, onto, signed, factored, overlaps_over, terms_over, clash_over}
use Rattle.gksl.specs.Words.{pauli}
use Rattle.sums.specs.Numbers.{complexes}
use Rattle.sums.specs.Sums.{rows}
use Rattle.model.specs.Terms.{Term, terms_in}
use Rattle.model.proofs.StandsLaws.{tested_stands}
use Rattle.model.specs.Stored.{ModelTables, jump_at}
use Rattle.model.specs.Tested.{inside, width, bad_jump, test_model}
use Rattle.model.specs.declared.stored.Model.{Model}
use Rattle.model.specs.declared.stored.Range.{Range}
use Rattle.model.specs.declared.stored.Jump.{Jump}
use Rattle.model.specs.declared.stored.Jump.TheVariants.{Pauli, General, Pair}
use Rattle.lent.specs.Every.{Every}
use Rattle.lent.proofs.Lists.{every_weaken, every_append, every_map}
use Rattle.model_laws.proofs.JumpTests.{both}
use Rattle.rule_terms.specs.Adds.{real_at, reals_in, jumps_in, op, sandwich, dampen, folded, doubled, each_factor, diagonal, both_sides, one_side, jump_adds, pair_adds, gather_jumps, rules_stored}
use Rattle.action_laws.specs.Untouched.{Clear}
use Rattle.action_laws.proofs.Runs.{every_up, every_first, every_within, every_rest}
use Rattle.word.specs.Count.{up_to}

-- ---- I times a letter
letter_one : (l : ℕ) → l < 4 → mul_letter 0 l ≡ l
unfolding mul_letter
letter_one zero h = refl
letter_one (suc zero) h = refl
letter_one (suc (suc zero)) h = refl
letter_one (suc (suc (suc zero))) h = refl
letter_one (suc (suc (suc (suc l)))) h = absurd (omega arith)

-- words with the letter l at q
pub record Near (q l : ℕ) (A : List Term) : Type 0 where
  pub each : Every (λ c. letter_at c.word q ≡ l) A

pub none : {q l : ℕ} → Near q l []
none = record { each = tt }

one : {q l : ℕ} {c : Term} → letter_at c.word q ≡ l → Near q l (c ∷ [])
one h = record { each = (h, tt) }

pub append : {q l : ℕ} {A B : List Term} → Near q l A → Near q l B → Near q l (A ++ B)
append {q} {l} {A} {B} h k = record { each = every_append (λ c. letter_at c.word q ≡ l) A B h.each k.each }

pub choose : {q l : ℕ} (b : Bool) {A B : List Term} → Near q l A → Near q l B → Near q l (cond b A B)
choose true h k = h
choose false h k = k

module _ (q : ℕ) (low : q < max_qubits) (p : Word) where
  -- p's letter
  abbrev own : ℕ
  own = letter_at p q

  pub keeps : (a w : Word) → letter_at a q ≡ 0 → letter_at (mul a w) q ≡ letter_at w q
  keeps a w h = letter_mul a w q low ∙ ap (λ (l : ℕ). mul_letter l (letter_at w q)) h ∙ letter_one (letter_at w q) (word_letter_lt w q)

  pub through_near : (a b : Word) → letter_at a q ≡ 0 → letter_at b q ≡ 0 → letter_at (onto pauli a p b) q ≡ own
  through_near a b h k = ap (λ (w : Word). letter_at w q) (mul_comm (mul a p) b) ∙ keeps b (mul a p) k ∙ keeps a p h

  -- ---- lists of what is added
  map_near : {l : ℕ} (f : Term → Term) → ((c : Term) → Clear q c → letter_at (f c).word q ≡ l) → (A : List Term) → Every (Clear q) A → Near q l (map f A)
  map_near {l} f make A h = record { each = every_map (λ c. letter_at c.word q ≡ l) f A (every_weaken (Clear q) (λ c. letter_at (f c).word q ≡ l) make A h) }

  pub pairs_near : {l : ℕ} (f : Term → Term → Term) → ((a b : Term) → Clear q a → Clear q b → letter_at (f a b).word q ≡ l) → (A B : List Term) → Every (Clear q) A → Every (Clear q) B → Near q l (pairs_over floats pauli f A B)
  unfolding pairs_over
  pairs_near f make [] B h k = none
  pairs_near f make (a ∷ A) B h k = append (map_near (f a) (λ b l. make a b h.0 l) B k) (pairs_near f make A B h.1 k)

  pub gather_near : (f : Term → List Term) → ((c : Term) → Clear q c → Near q own (f c)) → (M : List Term) → Every (Clear q) M → Near q own (gather_over floats pauli f M)
  unfolding gather_over
  gather_near f make [] h = none
  gather_near f make (c ∷ M) h = append (make c h.0) (gather_near f make M h.1)

  -- each left term with its own factors
  factors_near : (f : Word → Term → Term) → ((a : Word) (c : Term) → letter_at a q ≡ 0 → Clear q c → letter_at (f a c).word q ≡ own) → (n : ℕ) (A F : List Term) → Every (Clear q) A → Every (Clear q) F
      → Near q own (each_factor p f n A F)
  unfolding each_factor
  factors_near f make n [] F h k = none
  factors_near f make n (a ∷ A) F h k =
      append (map_near (f a.word) (λ c l. make a.word c h.0 l) (take n F) (every_first (Clear q) n F k)) (factors_near f make n A (drop n F) h.1 (every_rest (Clear q) n F k))

  -- ---- by the phase
  pub signed_near : (n : ℕ) (f : Float → Cx floats) (w : Word) → letter_at w q ≡ own → Near q own (signed floats pauli n f w)
  unfolding signed
  signed_near zero f w h = one h
  signed_near (suc zero) f w h = none
  signed_near (suc (suc zero)) f w h = one h
  signed_near (suc (suc (suc n))) f w h = none

  pub factored_near : (n : ℕ) (x : Float) (w : Word) → letter_at w q ≡ own → Near q own (factored floats pauli n x w)
  unfolding factored
  factored_near zero x w h = none
  factored_near (suc zero) x w h = one h
  factored_near (suc (suc zero)) x w h = none
  factored_near (suc (suc (suc n))) x w h = one h

  pub clash_near : (n : ℕ) (g : Float) → Near q own (clash_over floats pauli n g p)
  unfolding clash_over
  clash_near zero g = none
  clash_near (suc n) g = one refl

  pub terms_near : (H : List (RealTerm floats pauli)) → Every (λ h. letter_at h.word q ≡ 0) H → Near q own (terms_over floats pauli H p)
  unfolding terms_over
  terms_near [] h = none
  terms_near (x ∷ H) h = append (choose (pauli.meets x.word p) (factored_near _ x.num (mul x.word p) (keeps x.word p h.0)) none) (terms_near H h.1)

  -- ---- what a stored term adds
  dampen_near : (g : Float) (c : Term) → Clear q c → Near q own (dampen p g c)
  unfolding dampen
  dampen_near g c h = signed_near _ _ (mul c.word p) (keeps c.word p h)

  diagonal_near : (c : Term) → Clear q c → Near q own (diagonal p c)
  unfolding diagonal
  diagonal_near c h = signed_near _ _ (mul c.word p) (keeps c.word p h)

  both_near : (c : Term) → Clear q c → Near q own (both_sides p c)
  unfolding both_sides
  both_near c h = choose (floats.slight c.num.re) none (signed_near _ _ (mul c.word p) (keeps c.word p h))

  one_near : (f : Float → Float) (c : Term) → Clear q c → Near q own (one_side p f c)
  unfolding one_side
  one_near f c h = choose (floats.slight c.num.im) none (factored_near _ _ (mul c.word p) (keeps c.word p h))

  folded_near : (a : Word) (c : Term) → letter_at a q ≡ 0 → Clear q c → letter_at (folded p a c).word q ≡ own
  unfolding folded
  folded_near a c h k = through_near a c.word h k

  doubled_near : (a : Word) (c : Term) → letter_at a q ≡ 0 → Clear q c → letter_at (doubled p a c).word q ≡ own
  unfolding doubled folded
  doubled_near a c h k = through_near a c.word h k

  sandwich_near : (g : Float) (a b : Term) → Clear q a → Clear q b → letter_at (sandwich p g a b).word q ≡ own
  unfolding sandwich
  sandwich_near g a b h k = through_near a.word b.word h k

  -- ---- the items of a model
  module _ (places : ℕ) (t : ModelTables) (clear : (i : ℕ) → i < places → letter_at (get_or (words t.t_words) i identity) q ≡ 0) where
    rows_clear : (n : ℕ) (ws : List Word) (zs : List (Cx floats)) → ((i : ℕ) → i < n → letter_at (get_or ws i identity) q ≡ 0) → Every (Clear q) (take n (rows ws zs))
    unfolding rows
    rows_clear zero ws zs h = tt
    rows_clear (suc n) [] zs h = tt
    rows_clear (suc n) (w ∷ ws) [] h = tt
    rows_clear (suc n) (w ∷ ws) (z ∷ zs) h = (h 0 (omega arith), rows_clear n ws zs (λ i l. h (suc i) (omega arith)))

    places_clear : (s e : ℕ) → s ≤ e → e ≤ places → Every (Clear q) (terms_in t.t_words t.t_numbers s e)
    places_clear s e h l =
        every_within (Clear q) s (e - s) places (rows (words t.t_words) (complexes t.t_numbers)) (omega arith) (rows_clear places (words t.t_words) (complexes t.t_numbers) clear)

    range_clear : (r : Range) → inside places r ≡ true → Every (Clear q) (op p t r)
    range_clear r h = let e = both (leb r.start r.end) h in places_clear r.start r.end (leb-true r.start r.end e.0) (leb-true r.end places e.1)

    jump_near : (j : Jump) → bad_jump places j ≡ false → Near q own (jump_adds p t j)
    unfolding jump_adds bad_jump
    jump_near (Pauli rate term) h = choose (share (get_or (words t.t_words) term identity) p) (clash_near _ rate) none
    jump_near (General rate terms product) h =
        let e = both (inside places terms) (not-false _ h) in
        let f = both (inside places product) e.1 in
        let A : Every (Clear q) (op p t terms) = range_clear terms e.0 in
        choose (overlaps_over floats pauli (op p t terms) p)
        (append (pairs_near (sandwich p rate) (sandwich_near rate) (op p t terms) (op p t terms) A A) (gather_near (dampen p rate) (dampen_near rate) (op p t product) (range_clear product f.0))) none
    jump_near (Pair left right factors product) h = none

    pair_near : (j : Jump) → bad_jump places j ≡ false → Near q own (pair_adds p t j)
    unfolding pair_adds bad_jump
    pair_near (Pauli rate term) h = none
    pair_near (General rate terms product) h = none
    pair_near (Pair left right factors product) h =
        let e = both (inside places left) (not-false _ h) in
        let f = both (inside places right) e.1 in
        let g = both (inside places product) f.1 in
        let n : ℕ = width left * width right in
        let A : List Term = op p t left in
        let M : List Term = op p t product in
        let F : List Term = terms_in t.t_words t.t_numbers factors (factors + n) in
        let a : Every (Clear q) A = range_clear left e.0 in
        let m : Every (Clear q) M = range_clear product g.0 in
        let c : Every (Clear q) F = places_clear factors (factors + n) (omega arith) (leb-true (factors + n) places g.1) in
        choose (eqb left.start right.start && eqb left.end right.end)
        (choose (overlaps_over floats pauli A p) (append (factors_near (folded p) folded_near (width right) A F a c) (gather_near (diagonal p) diagonal_near M m)) none)
        (choose (overlaps_over floats pauli A p)
        (choose (overlaps_over floats pauli (op p t right) p)
        (append (factors_near (doubled p) doubled_near (width right) A F a c) (gather_near (both_sides p) both_near M m))
        (gather_near (one_side p (λ x. x)) (one_near (λ x. x)) M m))
        (choose (overlaps_over floats pauli (op p t right) p) (gather_near (one_side p floats.opposite) (one_near floats.opposite) M m) none))

jumps_near : {q l : ℕ} (f : Jump → List Term) (J : List Jump) → Every (λ j. Near q l (f j)) J → Near q l (gather_jumps f J)
unfolding gather_jumps
jumps_near f [] h = none
jumps_near f (j ∷ J) h = append h.0 (jumps_near f J h.1)

-- ---- sums
module _ (q l : ℕ) where
  abbrev Has : Term → Type 0
  Has c = letter_at c.word q ≡ l

  put_near : (c : Term) (T : List Term) → Has c → Every Has T → Every Has (put_over floats pauli c T)
  unfolding put_over
  put_near c [] h k = (h, tt)
  put_near c (d ∷ T) h k = go (pauli.alike d.word c.word) (pauli.below c.word d.word) (put_near c T h k.1)
    where
      go : (a b : Bool) → Every Has (put_over floats pauli c T)
          → Every Has (cond a (record { num = add_c floats d.num c.num; word = d.word } ∷ T) (cond b (record { num = add_c floats (zero_c floats) c.num; word = c.word } ∷ (d ∷ T)) (d ∷ put_over floats pauli c T)))
      go true b i = k
      go false true i = (h, k)
      go false false i = (k.0, i)

  pub put_all_near : (A T : List Term) → Every Has A → Every Has T → Every Has (put_all_over floats pauli A T)
  unfolding put_all_over
  put_all_near [] T h k = k
  put_all_near (c ∷ A) T h k = put_all_near A (put_over floats pauli c T) h.1 (put_near c T h.0 k)

-- ---- a model whose tables were accepted, and a qubit on which none of its words acts
module _ (m : Model) (t : ModelTables) (accepted : test_model m t ≡ Ok tt) (q : ℕ) (low : q < max_qubits)
    (reals : (i : ℕ) → i < m.hamiltonian → letter_at (get_or (words t.h_words) i identity) q ≡ 0)
    (terms : (i : ℕ) → i < m.terms → letter_at (get_or (words t.t_words) i identity) q ≡ 0) (p : Word) where
  each_jump : (f : Jump → List Term) → ((j : Jump) → bad_jump m.terms j ≡ false → Near q (letter_at p q) (f j)) → Near q (letter_at p q) (gather_jumps f (jumps_in m t))
  each_jump f make =
      jumps_near f (jumps_in m t)
      (every_map (λ j. Near q (letter_at p q) (f j)) (jump_at t.jumps t.rates) (up_to 0 m.jumps)
      (every_up _ 0 m.jumps (λ i l u. make (jump_at t.jumps t.rates i) ((tested_stands m t accepted).fits i (omega arith)))))

  rules_near : Near q (letter_at p q) (rules_stored m t p)
  unfolding rules_stored
  rules_near =
      append
      (terms_near q low p (reals_in m t) (every_map (λ h. letter_at h.word q ≡ 0) (real_at t) (up_to 0 m.hamiltonian) (every_up _ 0 m.hamiltonian (λ i l u. reals i (omega arith)))))
      (append (each_jump (jump_adds p t) (jump_near q low p m.terms t terms)) (each_jump (pair_adds p t) (pair_near q low p m.terms t terms)))

  pub reached_near : Every (λ c. letter_at c.word q ≡ letter_at p q) (rules_stored m t p)
  reached_near = rules_near.each

  -- and so of the rows of their sums
  pub sums_near : Every (λ c. letter_at c.word q ≡ letter_at p q) (put_all_over floats pauli (rules_stored m t p) [])
  sums_near = put_all_near q (letter_at p q) (rules_stored m t p) [] reached_near tt
