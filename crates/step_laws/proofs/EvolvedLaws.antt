-- SPDX-FileCopyrightText: 2026 The PPVM Authors
-- SPDX-License-Identifier: Apache-2.0

-- What an evolution that is not refused leaves: as many numbers, all finite; the same on one side of 1e-4. Assumes nothing.
use mathlib.Core.Path.{◌≡◌, refl, sym, ap, subst, fun_ext, ◌∙◌}
use mathlib.Core.Bool.{Bool, true, false, cond}
use mathlib.Core.List.{List, ◌++◌, append-nil}
use Prim.Native.Nat.{ℕ, zero, suc, ◌+◌, ◌-◌, ◌*◌, ◌≤◌, ◌<◌}
use native.Mathlib.Omega.{arith}
use native.Mathlib.Decide.{dec_lt}
use borrow.Author.Tests.{ltb-false, not-false}
use lib.Dec.{eqb, ltb}
use lib.Ieee.{Float, nan, binary64, add, le, of_bits}
use lib.Ieee.Bits.{of_bits-fits}
use lib.Ieee.Fits.{add-fits}
use lib.ListN.{length, get_or, drop, replicate, length-append, length-replicate, get_or-replicate, drop_of_length-le, get_or-append}
use lib.Seq.{get_or-append-add}
use Rattle.refusal.specs.declared.Refusal.{Refusal}
use Rattle.std.specs.Prelude.{Result, Ok, Err}
use Rattle.expm.specs.declared.Degree.{Degree}
use Rattle.refusal.specs.Cause.{Answer}
use Rattle.word.specs.declared.word.Word.{Word}
use Rattle.number.specs.Floats.{floats, float0, magnitude, is_finite}
use Rattle.lent.specs.Read.{got}
use Rattle.lent.specs.Tests.{first_to}
use Rattle.lent.specs.Numbers.{not_finite}
use Rattle.lent.proofs.Firsts.{first_before}
use Rattle.expm.specs.Theta.{Row, decimal}
use Rattle.expm.specs.Selects.{degree_by, table_for, under_ceiling, chosen}
use Rattle.csr.proofs.PassLaws.{product_length}
use Rattle.taylor.specs.Stages.{Evolution, evolved, stopped, swept, added, product_of, next_of, terms, stage, stages}
use Rattle.taylor.specs.Evolves.{Evolves, answer_after, out_after, evolve_with, evolve_by}
use Rattle.taylor.proofs.SweepLaws.{scaled_long, added_long, added_at}
use Rattle.model.specs.Stored.{ModelTables}
use Rattle.model.specs.declared.stored.Model.{Model}
use Rattle.columns.specs.Columns.{generator_room}
use Rattle.evolution.specs.Evolutions.{room_then, by_generator}
use Rattle.step_laws.specs.Steps.{Places, Outcome, with_zeros, outcome_of, evolution}
use Rattle.step_laws.specs.Kept.{Finite, AllFinite}
use Rattle.step_laws.specs.Passing.{AreFinite}
use Rattle.step_laws.proofs.CourseLaws.{no_value, same_value}

-- as many numbers as before, each with a property
pub record Numbers (P : Float → Type 0) (v v' : List Float) : Type 0 where
  pub long : length v' ≡ length v
  pub each : (i : ℕ) → i < length v' → P (get_or v' i nan)

-- ---- the numbers given with zeros
pub zeros_each : (P : Float → Type 0) → P float0 → (cs : List Float) (ws : List Word) → ((i : ℕ) → i < length cs → P (get_or cs i nan)) → (i : ℕ) → i < length (with_zeros cs ws) → P (get_or (with_zeros cs ws) i nan)
zeros_each P z cs ws f i h = go (dec_lt i (length cs))
  where
    go : Dec (i < length cs) → P (get_or (with_zeros cs ws) i nan)
    go (yes l) = subst P (sym (get_or-append cs (replicate (length ws - length cs) float0) nan i l)) (f i l)
    go (no l) =
        let e : length cs + (i - length cs) ≡ i = omega arith in
        let b : i - length cs < length ws - length cs = omega (arith, h, length-append cs (replicate (length ws - length cs) float0), length-replicate (length ws - length cs) float0) in
        subst P
        (sym (ap (λ (k : ℕ). get_or (with_zeros cs ws) k nan) (sym e) ∙ get_or-append-add cs (replicate (length ws - length cs) float0) (i - length cs) nan ∙ get_or-replicate (length ws - length cs) (i - length cs) float0 nan b))
        z

pub zero_finite : is_finite float0 ≡ true
zero_finite = unfold of_bits in refl

pub zeros_finite : (cs : List Float) (ws : List Word) → AllFinite cs → AllFinite (with_zeros cs ws)
zeros_finite = zeros_each Finite (record { fitting = of_bits-fits binary64 0; finite = zero_finite })

pub zeros_long : (cs : List Float) (ws : List Word) → length cs ≤ length ws → length (with_zeros cs ws) ≡ length ws
zeros_long cs ws h = omega (arith, length-append cs (replicate (length ws - length cs) float0), length-replicate (length ws - length cs) float0)

-- ---- the stages
never_evolved : (r : ℕ) (v : List Float) → stopped r ≡ evolved v → ⊥
never_evolved r v e = let z : ◌≡◌ {A = ℕ} 0 1 = cc in omega arith

swept_passed : (l : List Float) (after : Evolution) (v : List Float) → swept l after ≡ evolved v → ((k : ℕ) → k < length l → is_finite (get_or l k nan) ≡ true) × (after ≡ evolved v)
unfolding swept not_finite
swept_passed l after v e = go (ltb (first_to (length l) (not_finite l)) (length l)) refl e
  where
    go : (b : Bool) → ltb (first_to (length l) (not_finite l)) (length l) ≡ b → cond b (stopped (first_to (length l) (not_finite l))) after ≡ evolved v
        → ((k : ℕ) → k < length l → is_finite (get_or l k nan) ≡ true) × (after ≡ evolved v)
    go true t f = absurd (never_evolved _ v f)
    go false t f =
        (λ k h. not-false (is_finite (get_or l k nan)) (first_before (length l) (not_finite l) k (omega (arith, h, ltb-false (first_to (length l) (not_finite l)) (length l) t))), f)

-- a property that every finite sum has
abbrev pub OfSums : (Float → Type 0) → Type 0
OfSums P = (x y : Float) → is_finite (add binary64 x y) ≡ true → P (add binary64 x y)

module _ (P : Float → Type 0) (of-sums : OfSums P) (offsets columns : List ℕ) (values : List Float) (m s : ℕ) (dt : Float) where
  -- where a stage goes on from
  record Reached (v : List Float) (after : List Float → Evolution) (v' : List Float) : Type 0 where
    value : List Float
    leaves : Numbers P v value
    behind : after value ≡ evolved v'

  since : {u v : List Float} {after : List Float → Evolution} {v' : List Float} → length u ≡ length v → Reached u after v' → Reached v after v'
  since e r = record { value = r.value; leaves = record { long = r.leaves.long ∙ e; each = r.leaves.each }; behind = r.behind }

  added_each : (v c : List Float) → length v ≡ length c → AreFinite (added v c) → (i : ℕ) → i < length (added v c) → P (get_or (added v c) i nan)
  added_each v c l f i h =
      let at = added_at v c i l (omega (arith, h, added_long v c l)) in
      subst P (sym at) (of-sums (get_or v i nan) (get_or c i nan) (ap is_finite (sym at) ∙ f i h))

  next_long : (j : ℕ) (b : List Float) → length (next_of offsets columns values m s dt j b) ≡ length b
  unfolding next_of
  next_long j b = scaled_long _ (product_of offsets columns values b) ∙ product_length (length b) offsets columns values b true b

  terms_leave : (n j : ℕ) (b v : List Float) (after : List Float → Evolution) (v' : List Float) → length b ≡ length v → ((i : ℕ) → i < length v → P (get_or v i nan))
      → terms offsets columns values m s dt n j b v after ≡ evolved v' → Reached v after v'
  unfolding terms
  terms_leave zero j b v after v' l f e = record { value = v; leaves = record { long = refl; each = f }; behind = e }
  terms_leave (suc n) j b v after v' l f e =
      let p1 = swept_passed (product_of offsets columns values b) _ v' e in
      let p2 = swept_passed (next_of offsets columns values m s dt j b) _ v' p1.1 in
      let p3 = swept_passed (added v (next_of offsets columns values m s dt j b)) _ v' p2.1 in
      let cl : length v ≡ length (next_of offsets columns values m s dt j b) = sym l ∙ sym (next_long j b) in
      let ul : length (added v (next_of offsets columns values m s dt j b)) ≡ length v = added_long v (next_of offsets columns values m s dt j b) cl in
      since ul (terms_leave n (suc j) (next_of offsets columns values m s dt j b) (added v (next_of offsets columns values m s dt j b)) after v' (sym cl ∙ sym ul) (added_each v (next_of offsets columns values m s dt j b) cl p3.0) p3.1)

  pub stages_leave : (k : ℕ) (v v' : List Float) → ((i : ℕ) → i < length v → P (get_or v i nan)) → stages offsets columns values m s dt k v ≡ evolved v' → Numbers P v v'
  unfolding stages stage
  stages_leave zero v v' f e = let i : v ≡ v' = cc in subst (Numbers P v) i (record { long = refl; each = f })
  stages_leave (suc k) v v' f e =
      let r = terms_leave m 1 v v (stages offsets columns values m s dt k) v' refl f e in
      let i = stages_leave k r.value v' r.leaves.each r.behind in
      record { long = i.long ∙ r.leaves.long; each = i.each }

-- ---- the degree chosen, and what is written out
module _ (P : Float → Type 0) (of-sums : OfSums P) (offsets columns : List ℕ) (values : List Float) (dt : Float) (cs : List Float) (f : (i : ℕ) → i < length cs → P (get_or cs i nan)) where
  no_products : (q : Refusal) (k : ℕ) → ◌≡◌ {A = Result ℕ Refusal} (Err q) (Ok k) → ⊥
  no_products q k e = let z : ◌≡◌ {A = ℕ} 0 1 = cc in omega arith

  with_leaves : (c : Result Degree Refusal) (k : ℕ) → (evolve_with offsets columns values dt cs cs c).answer ≡ Ok k → Numbers P cs (evolve_with offsets columns values dt cs cs c).out
  with_leaves (Ok d) k e = go (stages offsets columns values d.m d.s dt d.s cs) refl e
    where
      go : (x : Evolution) → stages offsets columns values d.m d.s dt d.s cs ≡ x → answer_after (d.m * d.s) x ≡ Ok k → Numbers P cs (out_after (length cs) cs x)
      go (evolved v) t a =
          let i : v ++ drop (length cs) cs ≡ v = ap (λ (l : List Float). v ++ l) (drop_of_length-le cs {i = length cs} (omega arith)) ∙ append-nil v in
          subst (Numbers P cs) (sym i) (stages_leave P of-sums offsets columns values d.m d.s dt d.s cs v f t)
      go (stopped r) t a = absurd (no_products _ k a)
  with_leaves (Err q) k e = absurd (no_products q k e)

  evolve_leaves : (norm dropTol : Float) (k : ℕ) → (evolve_by offsets columns values dt cs cs norm dropTol).answer ≡ Ok k → Numbers P cs (evolve_by offsets columns values dt cs cs norm dropTol).out
  unfolding evolve_by
  evolve_leaves norm dropTol k e = go (eqb (length cs) 0) e
    where
      go : (b : Bool) → (cond b (record { answer = Ok 0; out = cs }) (evolve_with offsets columns values dt cs cs (chosen dropTol (floats.times (magnitude dt) norm)))).answer ≡ Ok k
          → Numbers P cs (cond b (record { answer = Ok 0; out = cs }) (evolve_with offsets columns values dt cs cs (chosen dropTol (floats.times (magnitude dt) norm)))).out
      go true e = record { long = refl; each = f }
      go false e = with_leaves (chosen dropTol (floats.times (magnitude dt) norm)) k e

-- ---- of a model
module _ (m : Model) (t : ModelTables) (protected : List Word) (dt : Float) (places : Places) where
  evolution_each : (P : Float → Type 0) → OfSums P → (dropTol : Float) (ws : List Word) (cs : List Float) (o : Outcome) → ((i : ℕ) → i < length cs → P (get_or cs i nan))
      → evolution m t protected dt places dropTol ws cs ≡ got o → Numbers P cs o.numbers
  unfolding evolution
  evolution_each P of-sums dropTol ws cs o f e = go (generator_room m t ws places.touched places.entries) e
    where
      answers : (x : Evolves) (a : Result ℕ Refusal) → x.answer ≡ a → ((k : ℕ) → x.answer ≡ Ok k → Numbers P cs x.out) → outcome_of m t protected dt places x.out a ≡ got o → Numbers P cs o.numbers
      answers x (Ok k) i h g = subst (Numbers P cs) (ap (λ (r : Outcome). r.numbers) (same_value _ o g)) (h k i)
      answers x (Err q) i h g = absurd (no_value q o g)

      go : (a : Answer) → outcome_of m t protected dt places (room_then m t ws (length ws) cs dt dropTol a cs).out (room_then m t ws (length ws) cs dt dropTol a cs).answer ≡ got o → Numbers P cs o.numbers
      go (Ok _) g = answers (by_generator m t ws (length ws) cs dt dropTol cs) _ refl (λ k i. evolve_leaves P of-sums _ _ _ dt cs f _ dropTol k i) g
      go (Err q) g = absurd (no_value q o g)

  pub evolution_leaves : (dropTol : Float) (ws : List Word) (cs : List Float) (o : Outcome) → AllFinite cs → evolution m t protected dt places dropTol ws cs ≡ got o → Numbers Finite cs o.numbers
  evolution_leaves = evolution_each Finite (λ x y h. record { fitting = add-fits binary64 x y; finite = h })

  -- numbers that are finite, whatever else is known of them
  pub evolution_finite : (dropTol : Float) (ws : List Word) (cs : List Float) (o : Outcome) → AreFinite cs → evolution m t protected dt places dropTol ws cs ≡ got o → Numbers (λ x. is_finite x ≡ true) cs o.numbers
  evolution_finite = evolution_each (λ x. is_finite x ≡ true) (λ x y h. h)

  -- ---- on one side of 1e-4 the Taylor table is the same, and so are the numbers
  module _ (dropTol dropTol' : Float) (one_side : le (decimal 1 4) dropTol ≡ le (decimal 1 4) dropTol') where
    table_same : table_for dropTol ≡ table_for dropTol'
    unfolding table_for
    table_same = rw one_side

    evolve_same : (offsets columns : List ℕ) (values : List Float) (cs out : List Float) (norm : Float) → evolve_by offsets columns values dt cs out norm dropTol ≡ evolve_by offsets columns values dt cs out norm dropTol'
    unfolding evolve_by chosen
    evolve_same offsets columns values cs out norm =
        ap (λ (table : List Row). cond (eqb (length cs) 0) (record { answer = Ok 0; out = out }) (evolve_with offsets columns values dt cs out (under_ceiling (degree_by table (floats.times (magnitude dt) norm))))) table_same

    room_same : (ws : List Word) (cs : List Float) (a : Answer) → room_then m t ws (length ws) cs dt dropTol a cs ≡ room_then m t ws (length ws) cs dt dropTol' a cs
    room_same ws cs (Ok _) = evolve_same _ _ _ cs cs _
    room_same ws cs (Err q) = refl

    pub evolution_same : evolution m t protected dt places dropTol ≡ evolution m t protected dt places dropTol'
    unfolding evolution
    evolution_same =
        fun_ext (λ ws. fun_ext (λ cs. ap (λ (e : Evolves). outcome_of m t protected dt places e.out e.answer) (room_same ws cs (generator_room m t ws places.touched places.entries))))
