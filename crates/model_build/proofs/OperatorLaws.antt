-- SPDX-FileCopyrightText: 2026 The PPVM Authors
-- SPDX-License-Identifier: Apache-2.0

-- What is stored for the operator in the work table: a Pauli's one term, or all terms and the thinned product. Assumes nothing.
use mathlib.Core.Path.{◌≡◌, refl, sym, ap, ap₂, ◌∙◌, subst, subst⁻¹}
use mathlib.Core.Bool.{Bool, true, false, cond}
use mathlib.Core.List.{List, [], ◌∷◌, ◌++◌, map}
use Prim.Native.Nat.{ℕ, suc, ◌+◌, ◌-◌, ◌*◌, ◌≤◌}
use native.Mathlib.Nat.{suc-mul}
use native.Mathlib.Omega.{arith}
use lib.Ieee.{Float}
use lib.ListN.{length, set, length-append, length-map, length-take}
use Rattle.word.specs.Flat.{words}
use Rattle.number.specs.Numbers.{square}
use Rattle.number.specs.Floats.{floats}
use Rattle.gksl.specs.Rules.{formed_over, pairs_over}
use Rattle.gksl.specs.Table.{without_over}
use Rattle.gksl.specs.Words.{pauli}
use Rattle.sums.specs.Numbers.{complexes}
use Rattle.sums.specs.Sums.{rows, sum_rows}
use Rattle.sums.proofs.SumLaws.{length_put_all_high}
use Rattle.model.specs.Terms.{Term, term_at}
use Rattle.model.proofs.TermLaws.{terms_none, terms_more}
use Rattle.model_build.specs.Compiled.{Compiled, compile_jump, pauli_jump, general_jump, term_count}
use Rattle.operator_product.specs.Product.{formed_term, Forms}
use Rattle.model.specs.Stored.{range, entry, lay_entry}
use Rattle.model_build.specs.Thinned.{thinned, LaysTerms, StoreRoom, KeepRoom, Keeps}
use Rattle.model_build.specs.Work.{operator_in, is_pauli, WorkRoom, JumpRoom, StoresJump}
use Rattle.model_build.proofs.StoreLaws.{terms_length, lays_append}

-- ---- Pauli or general
pub pauli_other : (op : List Term) → (length op ≡ 1 → ⊥) → is_pauli op ≡ false
unfolding is_pauli
pauli_other [] h = refl
pauli_other (t ∷ []) h = absurd (h refl)
pauli_other (t ∷ u ∷ op) h = refl

pub pauli_length : (op : List Term) → is_pauli op ≡ true → length op ≡ 1
unfolding is_pauli
pauli_length [] h = let z : ◌≡◌ {A = ℕ} 0 1 = cc in absurd (omega arith)
pauli_length (t ∷ []) h = refl
pauli_length (t ∷ u ∷ op) h = let z : ◌≡◌ {A = ℕ} 0 1 = cc in absurd (omega arith)

pub compile_pauli : (g : Float) (op : List Term) (t : Term) → op ≡ t ∷ [] → is_pauli op ≡ true → compile_jump (record { rate = g; op = op }) ≡ pauli_jump g t
unfolding compile_jump is_pauli
compile_pauli g op t e h = let p : floats.is_zero t.num.im ≡ true = sym (ap is_pauli e) ∙ h in rw (e, p)

pub compile_general : (g : Float) (op : List Term) → is_pauli op ≡ false → compile_jump (record { rate = g; op = op }) ≡ general_jump g op
unfolding compile_jump is_pauli
compile_general g [] h = refl
compile_general g (t ∷ []) h = rw h
compile_general g (t ∷ u ∷ op) h = refl

-- ---- how many sums and terms there can be
pub pairs_few : (f : Term → Term → Term) (A B : List Term) (c : ℕ) → length B ≤ c → length (pairs_over floats pauli f A B) ≤ length A * c
unfolding pairs_over
pairs_few f [] B c h = omega arith
pairs_few f (a ∷ A) B c h = omega (arith, h, length-append (map (f a) B) (pairs_over floats pauli f A B), length-map B (f a), pairs_few f A B c h, suc-mul (length A) c)

pub without_fewer : (p : Term → Bool) (T : List Term) → length (without_over floats pauli p T) ≤ length T
unfolding without_over
without_fewer p [] = omega arith
without_fewer p (t ∷ T) = step (p t) (without_fewer p T)
  where
    step : (b : Bool) → length (without_over floats pauli p T) ≤ length T → length (cond b (without_over floats pauli p T) (t ∷ without_over floats pauli p T)) ≤ suc (length T)
    step true h = omega (arith, h)
    step false h = omega (arith, h)

-- ---- the operator in the work table
module _ (k : ℕ) (lanes : List ℕ) (numbers : List Float) (room : WorkRoom k lanes numbers) where
  pub operator_length : length (operator_in k lanes numbers) ≡ k
  operator_length =
      terms_length lanes numbers 256 (256 + k) (omega arith) (omega (arith, room.lanes_long, room.few)) (omega (arith, room.numbers_long, room.few))
      ∙ less_same
    where
      less_same : 256 + k - 256 ≡ k
      less_same = omega arith

  pub operator_one : k ≡ 1 → operator_in k lanes numbers ≡ term_at lanes numbers 256 ∷ []
  operator_one e =
      ap (λ (m : ℕ). operator_in m lanes numbers) e
      ∙ terms_more lanes numbers 256 256 (omega arith) (omega (arith, room.lanes_long)) (omega (arith, room.numbers_long))
      ∙ ap (λ (T : List Term). T ++ (term_at lanes numbers 256 ∷ [])) (terms_none lanes numbers 256)

  pub not_pauli : (k ≡ 1 → ⊥) → is_pauli (operator_in k lanes numbers) ≡ false
  not_pauli h = pauli_other (operator_in k lanes numbers) (λ e. h (sym operator_length ∙ e))

  pub maybe_pauli : k ≡ 1 → is_pauli (operator_in k lanes numbers) ≡ floats.is_zero (term_at lanes numbers 256).num.im
  unfolding is_pauli
  maybe_pauli e = ap is_pauli (operator_one e)

  pub pauli_is : is_pauli (operator_in k lanes numbers) ≡ true → operator_in k lanes numbers ≡ term_at lanes numbers 256 ∷ []
  pauli_is h = operator_one (sym operator_length ∙ pauli_length (operator_in k lanes numbers) h)

  pub count_pauli : is_pauli (operator_in k lanes numbers) ≡ true → 1 ≡ term_count (operator_in k lanes numbers)
  count_pauli h = ap (λ (c : Compiled). length c.terms) (sym (compile_pauli _ (operator_in k lanes numbers) (term_at lanes numbers 256) (pauli_is h) h))

  -- ---- its product
  module _ (r : ℕ) (lanes' : List ℕ) (numbers' : List Float)
      (forms : Forms (pairs_over floats pauli formed_term (operator_in k lanes numbers) (operator_in k lanes numbers)) 0 lanes numbers r lanes' numbers') where
    pub product_is : thinned (sum_rows r lanes' numbers') ≡ formed_over floats pauli (operator_in k lanes numbers) (operator_in k lanes numbers)
    unfolding formed_over formed_term
    product_is = ap thinned forms.sums

    pub sums_few : r ≤ 256
    sums_few =
        let op : List Term = operator_in k lanes numbers in
        omega (arith, forms.count, length_put_all_high (pairs_over floats pauli formed_term op op) (sum_rows 0 lanes numbers), pairs_few formed_term op op 16 (omega (arith, operator_length, room.few)), operator_length, room.few)

    pub stored_few : k + length (thinned (sum_rows r lanes' numbers')) ≤ 272
    stored_few = omega (arith, room.few, sums_few, without_fewer (λ c. floats.small (square floats c.num)) (sum_rows r lanes' numbers'), length-take r (rows (words lanes') (complexes numbers')))

    pub count_general : is_pauli (operator_in k lanes numbers) ≡ false → k + length (thinned (sum_rows r lanes' numbers')) ≡ term_count (operator_in k lanes numbers)
    count_general h =
        ap₂ ◌+◌ (sym operator_length) (ap length product_is)
        ∙ sym (length-append (operator_in k lanes numbers) (formed_over floats pauli (operator_in k lanes numbers) (operator_in k lanes numbers)))
        ∙ ap (λ (c : Compiled). length c.terms) (sym (compile_general _ (operator_in k lanes numbers) h))

-- ---- a jump stored
module _ (g : Float) (k : ℕ) (lanes : List ℕ) (numbers : List Float) (room : WorkRoom k lanes numbers) where
  abbrev op : List Term
  op = operator_in k lanes numbers

  abbrev product : List Term
  product = formed_over floats pauli op op

  abbrev jump : Compiled
  jump = compile_jump (record { rate = g; op = op })

  -- the given terms are stored, and for a general jump its product
  pub terms_pauli : is_pauli op ≡ true → jump.terms ≡ op
  terms_pauli h = ap (λ (c : Compiled). c.terms) (compile_pauli g op (term_at lanes numbers 256) (pauli_is k lanes numbers room h) h) ∙ sym (pauli_is k lanes numbers room h)

  pub terms_general : is_pauli op ≡ false → jump.terms ≡ op ++ product
  terms_general h = ap (λ (c : Compiled). c.terms) (compile_general g op h)

  pub given_fit : k ≤ length jump.terms
  given_fit = by (is_pauli op) refl
    where
      by : (b : Bool) → is_pauli op ≡ b → k ≤ length jump.terms
      by true h = omega (arith, operator_length k lanes numbers room, ap length (terms_pauli h))
      by false h = omega (arith, operator_length k lanes numbers room, ap length (terms_general h), length-append op product)

  module _ (j at : ℕ) (jumps : List ℕ) (rates : List Float) (tLanes : List ℕ) (tNumbers : List Float) (fits : JumpRoom jump j at jumps rates tLanes tNumbers) where
    pub terms_room : StoreRoom 256 (256 + k) lanes numbers at tLanes tNumbers
    terms_room = record {
      order = omega arith;
      lanes_long = omega (arith, room.lanes_long, room.few);
      numbers_long = omega (arith, room.numbers_long, room.few);
      lanes_room = omega (arith, fits.lanes_room, given_fit);
      numbers_room = omega (arith, fits.numbers_room, given_fit);
    }

    module _ (tLanes' : List ℕ) (tNumbers' : List Float) (lays : LaysTerms op at tLanes tNumbers tLanes' tNumbers') where
      -- a Pauli's entry refers to its one term
      pub pauli_stored : (jumps' : List ℕ) (rates' : List Float) (h : is_pauli op ≡ true) (t : Term) → t ≡ term_at lanes numbers 256
          → jumps' ≡ lay_entry jumps j (entry 0 (range at (at + k)) (range 0 0) 0 (range 0 0))
          → rates' ≡ set rates j (floats.times (floats.times g t.num.re) t.num.re)
          → StoresJump jump j at jumps rates tLanes tNumbers (at + k) jumps' rates' tLanes' tNumbers'
      pauli_stored jumps' rates' h t is entry-is rate-is =
          let one : k ≡ 1 = sym (operator_length k lanes numbers room) ∙ pauli_length op h in
          subst⁻¹ (λ (c : Compiled). StoresJump c j at jumps rates tLanes tNumbers (at + k) jumps' rates' tLanes' tNumbers')
          (compile_pauli g op t (pauli_is k lanes numbers room h ∙ ap (λ (u : Term). u ∷ []) (sym is)) h)
          (record {
            end = ap (λ (m : ℕ). at + m) one;
            entry_is = entry-is ∙ ap (λ (m : ℕ). lay_entry jumps j (entry 0 (range at (at + m)) (range 0 0) 0 (range 0 0))) one;
            rate_is = rate-is;
            lays = subst (λ (T : List Term). LaysTerms T at tLanes tNumbers tLanes' tNumbers') (pauli_is k lanes numbers room h ∙ ap (λ (u : Term). u ∷ []) (sym is)) lays;
          })

      -- a general jump's entry refers to its terms and its product
      module _ (h : is_pauli op ≡ false) (r : ℕ) (workLanes : List ℕ) (workNumbers : List Float)
          (forms : Forms (pairs_over floats pauli formed_term op op) 0 lanes numbers r workLanes workNumbers) where
        kept_is : thinned (sum_rows r workLanes workNumbers) ≡ product
        kept_is = product_is k lanes numbers room r workLanes workNumbers forms

        pub kept_room : length workLanes ≡ length lanes → length workNumbers ≡ length numbers → length tLanes' ≡ length tLanes → length tNumbers' ≡ length tNumbers
            → KeepRoom r workLanes workNumbers (at + k) tLanes' tNumbers'
        kept_room wl wn el en =
            let few : r ≤ 256 = sums_few k lanes numbers room r workLanes workNumbers forms in
            let all : length jump.terms ≡ k + length (thinned (sum_rows r workLanes workNumbers)) =
            ap length (terms_general h) ∙ length-append op product ∙ ap₂ ◌+◌ (operator_length k lanes numbers room) (ap length (sym kept_is)) in
            record {
              lanes_long = omega (arith, wl, few, room.lanes_long);
              numbers_long = omega (arith, wn, few, room.numbers_long);
              lanes_room = omega (arith, el, all, fits.lanes_room);
              numbers_room = omega (arith, en, all, fits.numbers_room);
            }

        pub general_stored : (jumps' : List ℕ) (rates' : List Float) (last : ℕ) (tLanes'' : List ℕ) (tNumbers'' : List Float)
            → Keeps (thinned (sum_rows r workLanes workNumbers)) (at + k) tLanes' tNumbers' last tLanes'' tNumbers''
            → jumps' ≡ lay_entry jumps j (entry 1 (range at (at + k)) (range 0 0) 0 (range (at + k) last)) → rates' ≡ set rates j g
            → StoresJump jump j at jumps rates tLanes tNumbers last jumps' rates' tLanes'' tNumbers''
        general_stored jumps' rates' last tLanes'' tNumbers'' keeps entry-is rate-is =
            let long : k ≡ length op = sym (operator_length k lanes numbers room) in
            let here : at + k ≡ at + length op = ap (λ (m : ℕ). at + m) long in
            let ends : last ≡ at + length op + length product = keeps.end ∙ ap₂ ◌+◌ here (ap length kept_is) in
            subst⁻¹ (λ (c : Compiled). StoresJump c j at jumps rates tLanes tNumbers last jumps' rates' tLanes'' tNumbers'') (compile_general g op h)
            (record {
              end = omega (arith, ends, length-append op product);
              entry_is = entry-is ∙ ap₂ (λ (m e : ℕ). lay_entry jumps j (entry 1 (range at m) (range 0 0) 0 (range m e))) here ends;
              rate_is = rate-is;
              lays = lays_append op product at (at + k) tLanes tLanes' tLanes'' tNumbers tNumbers' tNumbers'' here lays
                  (subst (λ (T : List Term). LaysTerms T (at + k) tLanes' tNumbers' tLanes'' tNumbers'') kept_is keeps.lays);
            })
