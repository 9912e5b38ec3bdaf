-- SPDX-FileCopyrightText: 2026 The PPVM Authors
-- SPDX-License-Identifier: Apache-2.0

-- Jumps counted and stored in turn: what is left after each makes up what is wanted. Assumes nothing.
use mathlib.Core.Path.{◌≡◌, refl, sym, ap, ap₂, ◌∙◌}
use mathlib.Core.Bool.{Bool, true, false, cond}
use mathlib.Core.List.{List, [], ◌∷◌, ◌++◌, map, map-append}
use Prim.Native.Nat.{ℕ, suc, ◌+◌, ◌-◌, ◌*◌, ◌≤◌, ◌<◌}
use native.Mathlib.Numerals.{add-one}
use native.Mathlib.Omega.{arith}
use lib.Ieee.{Float, nan}
use lib.ListN.{length, get_or, set, take, drop, length-append, length-drop, length-map}
use lib.Seq.{length-take-le}
use Rattle.word.specs.Flat.{lay_word}
use Rattle.number.specs.Floats.{floats}
use Rattle.sums.specs.Numbers.{complexes, lay_number}
use Rattle.model_build.specs.Given.{GivenTerm, GivenJump}
use Rattle.model_build.specs.Built.{parts, term_items, jump_items, entries_from, terms_of, rates_of}
use Rattle.model_build.specs.Taken.{term_taken, jump_taken}
use Rattle.model_build.specs.Compiled.{Compiled, pauli_jump, general_jump, compile_jump, term_count}
use Rattle.model.specs.Terms.{Term}
use Rattle.lent.specs.Laid.{laid, total}
use Rattle.model.specs.Stored.{lay_entry}
use Rattle.model_build.specs.Work.{operator_in, WorkRoom, JumpsWork, ReadRoom, TextsFit, operator_taken, JumpRoom, StoresJump, JumpsFit, jumps_compiled, CountsJumps, JumpsRoom, StoresJumps}
use Rattle.model_build.proofs.Parts.{total_turn, total_part, part_is, jump_turn, jump_end}
use Rattle.model_build.proofs.FirstRefusal.{tested_is}
use Rattle.model_build.proofs.StoreLaws.{laid_append}

-- ---- the number of terms of a jump does not depend on its rate
pub rate_free : (g h : Float) (op : List Term) → length (compile_jump (record { rate = g; op = op })).terms ≡ length (compile_jump (record { rate = h; op = op })).terms
unfolding compile_jump
rate_free g h [] = refl
rate_free g h (t ∷ []) = go (floats.is_zero t.num.im)
  where
    go : (b : Bool) → length (cond b (pauli_jump g t) (general_jump g (t ∷ []))).terms ≡ length (cond b (pauli_jump h t) (general_jump h (t ∷ []))).terms
    go true = refl
    go false = refl
rate_free g h (t ∷ u ∷ op) = refl

pub count_is : (g : Float) (op : List Term) → term_count op ≡ length (compile_jump (record { rate = g; op = op })).terms
count_is g op = rate_free _ g op

-- ---- values laid after others
laid_mapped : {A B C : Type 0} (store : List A → ℕ → B → List A) (f : C → B) (k : ℕ) (qs bs : List C) (l : List A)
    → laid store k (map f (qs ++ bs)) l ≡ laid store (k + length qs) (map f bs) (laid store k (map f qs) l)
laid_mapped store f k qs bs l =
    ap (λ (xs : List _). laid store k xs l) (map-append f qs bs) ∙ laid_append store k (map f qs) (map f bs) l
    ∙ ap (λ (m : ℕ). laid store (k + m) (map f bs) (laid store k (map f qs) l)) (length-map qs f)

-- ---- where jump j stands: its terms at place t, and their texts at place p
pub record Stands (cs ns l : List ℕ) (j t p : ℕ) : Type 0 where
  pub high : j ≤ length cs
  pub terms_left : t + total (drop j cs) ≡ length ns
  pub texts_left : p + total (drop t ns) ≤ length l

-- the work table keeps its room
pub work_same : (cs lanes lanes' : List ℕ) (numbers numbers' : List Float) → JumpsWork cs lanes numbers → length lanes' ≡ length lanes → length numbers' ≡ length numbers → JumpsWork cs lanes' numbers'
work_same cs lanes lanes' numbers numbers' w a b some = record { lanes_long = omega (arith, (w some).lanes_long); numbers_long = omega (arith, (w some).numbers_long); few = omega arith }

module _ (cs ns l : List ℕ) (xs : List Float) (fit : JumpsFit cs ns l xs) where
  module _ (j t p : ℕ) (s : Stands cs ns l j t p) (h : j < length cs) where
    -- its terms, their numbers and their texts are there
    pub own_terms : t + get_or cs j 0 ≤ length ns
    own_terms = omega (arith, s.terms_left, total_turn cs j h)

    pub own_numbers : 2 * t + 2 * get_or cs j 0 ≤ length xs
    own_numbers = omega (arith, own_terms, fit.texts.two)

    pub own_texts : p + total (take (t + get_or cs j 0 - t) (drop t ns)) ≤ length l
    own_texts = omega (arith, s.texts_left, total_part ns t (get_or cs j 0))

    pub own_length : length (take (t + get_or cs j 0 - t) (drop t ns)) ≡ get_or cs j 0
    own_length = length-take-le (t + get_or cs j 0 - t) (drop t ns) (omega (arith, length-drop t ns, own_terms)) ∙ omega arith

    -- its parts fit one another
    pub own_fits : TextsFit (take (t + get_or cs j 0 - t) (drop t ns)) (take (length l - p) (drop p l)) (take (2 * t + 2 * get_or cs j 0 - 2 * t) (drop (2 * t) xs))
    own_fits =
        let a = length-take-le (2 * t + 2 * get_or cs j 0 - 2 * t) (drop (2 * t) xs) (omega (arith, length-drop (2 * t) xs, own_numbers)) in
        let b = length-take-le (length l - p) (drop p l) (omega (arith, length-drop p l)) in
        record {
          two = omega (arith, a, own_length);
          whole = omega (arith, b, own_texts);
        }

    -- the work table has room for it, before it is read and afterwards
    pub own_work : (lanes : List ℕ) (numbers : List Float) → JumpsWork cs lanes numbers → WorkRoom (get_or cs j 0) lanes numbers
    own_work lanes numbers w = let r = w (omega arith) in record { lanes_long = r.lanes_long; numbers_long = r.numbers_long; few = fit.few j }

    pub own_reads : (lanes : List ℕ) (numbers : List Float) → JumpsWork cs lanes numbers → ReadRoom (length (take (t + get_or cs j 0 - t) (drop t ns))) lanes numbers
    own_reads lanes numbers w = let r = w (omega arith) in record { lanes_long = omega (arith, own_length, fit.few j, r.lanes_long); numbers_long = omega (arith, own_length, fit.few j, r.numbers_long) }

    pub stands_next : (sum : ℕ) → sum ≡ total (take (t + get_or cs j 0 - t) (drop t ns)) → Stands cs ns l (j + 1) (t + get_or cs j 0) (p + sum)
    stands_next sum e = record {
      high = omega arith;
      terms_left = omega (arith, s.terms_left, total_turn cs j h);
      texts_left = omega (arith, e, s.texts_left, total_part ns t (get_or cs j 0));
    }

-- ---- the jumps that are left from there on
module _ (n : ℕ) (cs ns l : List ℕ) (xs gs : List Float) where
  abbrev pub compiled_left : ℕ → ℕ → ℕ → List Compiled
  compiled_left j t p = map (λ g. compile_jump (jump_taken n g)) (jump_items (drop j gs) (parts (drop j cs) (term_items (parts (drop t ns) (drop p l)) (complexes (drop (2 * t) xs)))))

  -- the operator of the next, of k terms
  abbrev pub own_taken : ℕ → ℕ → ℕ → List Term
  own_taken t p k = operator_taken n (take (t + k - t) (drop t ns)) (take (length l - p) (drop p l)) (take (2 * t + 2 * k - 2 * t) (drop (2 * t) xs))

  pub left_turn : (j t p sum : ℕ) → j < length gs → j < length cs → sum ≡ total (take (t + get_or cs j 0 - t) (drop t ns))
      → compiled_left j t p ≡ compile_jump (record { rate = get_or gs j nan; op = own_taken t p (get_or cs j 0) }) ∷ compiled_left (j + 1) (t + get_or cs j 0) (p + sum)
  left_turn j t p sum hg hc e =
      let k : ℕ = get_or cs j 0 in
      let q : total (take k (drop t ns)) ≡ sum = sym (e ∙ ap total (part_is ns t k (t + k) refl)) in
      ap (map (λ (g : GivenJump). compile_jump (jump_taken n g))) (jump_turn gs cs ns l xs j t p hg hc)
      ∙ ap₂ (λ (ts : List GivenTerm) (m : ℕ). compile_jump (record { rate = get_or gs j nan; op = map (term_taken n) ts }) ∷ compiled_left (j + 1) (t + k) (p + m))
      (sym (tested_is n gs cs ns l xs t p k)) q

  pub left_end : (j t p : ℕ) → length cs ≤ j → compiled_left j t p ≡ []
  left_end j t p h = ap (map (λ (g : GivenJump). compile_jump (jump_taken n g))) (jump_end gs cs _ j h)

-- ---- counting: the terms so far and those that are left
pub terms_turn : (c : Compiled) (rest : List Compiled) → length (terms_of (c ∷ rest)) ≡ length c.terms + length (terms_of rest)
unfolding terms_of
terms_turn c rest = length-append c.terms (terms_of rest)

pub terms_end : length (terms_of []) ≡ 0
unfolding terms_of
terms_end = refl

pub record CountState (n : ℕ) (cs ns l : List ℕ) (xs : List Float) (lanes₀ : List ℕ) (numbers₀ : List Float) (lanes : List ℕ) (numbers : List Float) (kept p t j : ℕ) : Type 0 where
  pub stands : Stands cs ns l j t p
  pub work : JumpsWork cs lanes numbers
  pub lanes_same : length lanes ≡ length lanes₀
  pub numbers_same : length numbers ≡ length numbers₀
  pub few : kept ≤ 272 * j
  pub counted : (gs : List Float) → length gs ≡ length cs
      → kept + length (terms_of (compiled_left n cs ns l xs gs j t p)) ≡ length (terms_of (jumps_compiled n gs cs ns l xs))

module _ (n : ℕ) (cs ns l : List ℕ) (xs : List Float) (lanes₀ : List ℕ) (numbers₀ : List Float) (fit : JumpsFit cs ns l xs) (work₀ : JumpsWork cs lanes₀ numbers₀) where
  module _ (lanes : List ℕ) (numbers : List Float) (kept p t j : ℕ) (s : CountState n cs ns l xs lanes₀ numbers₀ lanes numbers kept p t j) where
    -- jump j is read and counted, whatever its rate
    pub count_next : j < length cs → (lanes₁ lanes₂ : List ℕ) (numbers₁ numbers₂ : List Float)
        → operator_in (length (take (t + get_or cs j 0 - t) (drop t ns))) lanes₁ numbers₁ ≡ own_taken n cs ns l xs [] t p (get_or cs j 0)
        → length lanes₁ ≡ length lanes → length numbers₁ ≡ length numbers
        → (r : ℕ) → r ≡ term_count (operator_in (get_or cs j 0) lanes₁ numbers₁) → r ≤ 272
        → length lanes₂ ≡ length lanes₁ → length numbers₂ ≡ length numbers₁
        → (sum : ℕ) → sum ≡ total (take (t + get_or cs j 0 - t) (drop t ns))
        → CountState n cs ns l xs lanes₀ numbers₀ lanes₂ numbers₂ (kept + r) (p + sum) (t + get_or cs j 0) (j + 1)
    count_next h lanes₁ lanes₂ numbers₁ numbers₂ reads al an r e few bl bn sum es =
        let k : ℕ = get_or cs j 0 in
        let op : List Term = own_taken n cs ns l xs [] t p k in
        let is : r ≡ term_count op = e ∙ ap term_count (ap (λ (m : ℕ). operator_in m lanes₁ numbers₁) (sym (own_length cs ns l xs fit j t p s.stands h)) ∙ reads) in
        record {
          stands = stands_next cs ns l xs fit j t p s.stands h sum es;
          work = work_same cs lanes lanes₂ numbers numbers₂ s.work (bl ∙ al) (bn ∙ an);
          lanes_same = bl ∙ al ∙ s.lanes_same;
          numbers_same = bn ∙ an ∙ s.numbers_same;
          few = omega (arith, few, s.few);
          counted = λ gs eg.
              let c : Compiled = compile_jump (record { rate = get_or gs j nan; op = op }) in
              let rest : List Compiled = compiled_left n cs ns l xs gs (j + 1) (t + k) (p + sum) in
              let turn = ap (λ (x : List Compiled). length (terms_of x)) (left_turn n cs ns l xs gs j t p sum (omega arith) h es) ∙ terms_turn c rest in
              omega (arith, s.counted gs eg, turn, is, count_is (get_or gs j nan) op);
        }

    pub count_done : length cs ≤ j → CountsJumps n cs ns l xs kept
    count_done h = record {
      counts = λ gs eg.
          let e = ap (λ (x : List Compiled). length (terms_of x)) (left_end n cs ns l xs gs j t p h) ∙ terms_end in
          omega (arith, s.counted gs eg, e);
    }

-- ---- storing: laying what is left into the tables makes up the tables that are wanted
pub record Storing (all left : List Compiled) (jumps₀ : List ℕ) (rates₀ : List Float) (tLanes₀ : List ℕ) (tNumbers₀ : List Float) (place₀ j₀ : ℕ) (jumps : List ℕ) (rates : List Float) (tLanes : List ℕ) (tNumbers : List Float) (place j : ℕ) : Type 0 where
  pub jumps_same : length jumps ≡ length jumps₀
  pub rates_same : length rates ≡ length rates₀
  pub lanes_same : length tLanes ≡ length tLanes₀
  pub numbers_same : length tNumbers ≡ length tNumbers₀
  pub many : j + length left ≡ j₀ + length all
  pub placed : place + length (terms_of left) ≡ place₀ + length (terms_of all)
  pub entries_are : laid lay_entry j (entries_from place left) jumps ≡ laid lay_entry j₀ (entries_from place₀ all) jumps₀
  pub rates_are : laid set j (rates_of left) rates ≡ laid set j₀ (rates_of all) rates₀
  pub lanes_are : laid lay_word place (map (λ z. z.word) (terms_of left)) tLanes ≡ laid lay_word place₀ (map (λ z. z.word) (terms_of all)) tLanes₀
  pub numbers_are : laid lay_number place (map (λ z. z.num) (terms_of left)) tNumbers ≡ laid lay_number place₀ (map (λ z. z.num) (terms_of all)) tNumbers₀

-- one entry, one rate and the terms of one jump laid
entries_turn : (c : Compiled) (rest : List Compiled) (place j : ℕ) (jumps : List ℕ)
    → laid lay_entry j (entries_from place (c ∷ rest)) jumps ≡ laid lay_entry (suc j) (entries_from (place + length c.terms) rest) (lay_entry jumps j (c.numbers place))
unfolding laid entries_from
entries_turn c rest place j jumps = refl

rates_turn : (c : Compiled) (rest : List Compiled) (j : ℕ) (rates : List Float) → laid set j (rates_of (c ∷ rest)) rates ≡ laid set (suc j) (rates_of rest) (set rates j c.rate)
unfolding laid
rates_turn c rest j rates = refl

laid_turn : {A B : Type 0} (store : List A → ℕ → B → List A) (f : Term → B) (c : Compiled) (rest : List Compiled) (place : ℕ) (l : List A)
    → laid store place (map f (terms_of (c ∷ rest))) l ≡ laid store (place + length c.terms) (map f (terms_of rest)) (laid store place (map f c.terms) l)
unfolding terms_of
laid_turn store f c rest place l = laid_mapped store f place c.terms (terms_of rest) l

module _ (all : List Compiled) (jumps₀ : List ℕ) (rates₀ : List Float) (tLanes₀ : List ℕ) (tNumbers₀ : List Float) (place₀ j₀ : ℕ) where
  module _ (left : List Compiled) (jumps : List ℕ) (rates : List Float) (tLanes : List ℕ) (tNumbers : List Float) (place j : ℕ)
      (s : Storing all left jumps₀ rates₀ tLanes₀ tNumbers₀ place₀ j₀ jumps rates tLanes tNumbers place j) where
    module _ (c : Compiled) (rest : List Compiled) (is : left ≡ c ∷ rest) where
      -- there is room for the next
      pub storing_room : JumpsRoom all j₀ place₀ jumps₀ rates₀ tLanes₀ tNumbers₀ → JumpRoom c j place jumps rates tLanes tNumbers
      storing_room room =
          let m = ap length is in
          let q = ap (λ (x : List Compiled). length (terms_of x)) is ∙ terms_turn c rest in
          record {
            entry_room = omega (arith, m, s.many, s.jumps_same, room.entries_room);
            rate_room = omega (arith, m, s.many, s.rates_same, room.rates_room);
            lanes_room = omega (arith, q, s.placed, s.lanes_same, room.lanes_room);
            numbers_room = omega (arith, q, s.placed, s.numbers_same, room.numbers_room);
          }

      pub storing_next : (r : ℕ) (jumps' : List ℕ) (rates' : List Float) (tLanes' : List ℕ) (tNumbers' : List Float)
          → StoresJump c j place jumps rates tLanes tNumbers r jumps' rates' tLanes' tNumbers'
          → length jumps' ≡ length jumps → length rates' ≡ length rates → length tLanes' ≡ length tLanes → length tNumbers' ≡ length tNumbers
          → Storing all rest jumps₀ rates₀ tLanes₀ tNumbers₀ place₀ j₀ jumps' rates' tLanes' tNumbers' r (j + 1)
      storing_next r jumps' rates' tLanes' tNumbers' g hj hr hl hn =
          let m = ap length is in
          let q = ap (λ (x : List Compiled). length (terms_of x)) is ∙ terms_turn c rest in
          record {
            jumps_same = hj ∙ s.jumps_same;
            rates_same = hr ∙ s.rates_same;
            lanes_same = hl ∙ s.lanes_same;
            numbers_same = hn ∙ s.numbers_same;
            many = omega (arith, m, s.many);
            placed = omega (arith, q, s.placed, g.end);
            entries_are = sym
                (sym s.entries_are ∙ ap (λ (x : List Compiled). laid lay_entry j (entries_from place x) jumps) is ∙ entries_turn c rest place j jumps
                ∙ ap₂ (λ (a b : ℕ). laid lay_entry a (entries_from b rest) (lay_entry jumps j (c.numbers place))) (sym (add-one j)) (sym g.end)
                ∙ ap (λ (x : List ℕ). laid lay_entry (j + 1) (entries_from r rest) x) (sym g.entry_is));
            rates_are = sym
                (sym s.rates_are ∙ ap (λ (x : List Compiled). laid set j (rates_of x) rates) is ∙ rates_turn c rest j rates
                ∙ ap₂ (λ (a : ℕ) (x : List Float). laid set a (rates_of rest) x) (sym (add-one j)) (sym g.rate_is));
            lanes_are = sym
                (sym s.lanes_are ∙ ap (λ (x : List Compiled). laid lay_word place (map (λ (z : Term). z.word) (terms_of x)) tLanes) is ∙ laid_turn lay_word (λ (z : Term). z.word) c rest place tLanes
                ∙ ap₂ (λ (a : ℕ) (x : List ℕ). laid lay_word a (map (λ (z : Term). z.word) (terms_of rest)) x) (sym g.end) (sym g.lays.lanes_are));
            numbers_are = sym
                (sym s.numbers_are ∙ ap (λ (x : List Compiled). laid lay_number place (map (λ (z : Term). z.num) (terms_of x)) tNumbers) is ∙ laid_turn lay_number (λ (z : Term). z.num) c rest place tNumbers
                ∙ ap₂ (λ (a : ℕ) (x : List Float). laid lay_number a (map (λ (z : Term). z.num) (terms_of rest)) x) (sym g.end) (sym g.lays.numbers_are));
          }

    pub storing_done : left ≡ [] → StoresJumps all j₀ place₀ jumps₀ rates₀ tLanes₀ tNumbers₀ jumps rates tLanes tNumbers
    unfolding laid entries_from terms_of
    storing_done is = record {
      entries_are = sym (sym s.entries_are ∙ ap (λ (x : List Compiled). laid lay_entry j (entries_from place x) jumps) is);
      rates_are = sym (sym s.rates_are ∙ ap (λ (x : List Compiled). laid set j (rates_of x) rates) is);
      lays = record {
        lanes_are = sym (sym s.lanes_are ∙ ap (λ (x : List Compiled). laid lay_word place (map (λ (z : Term). z.word) (terms_of x)) tLanes) is);
        numbers_are = sym (sym s.numbers_are ∙ ap (λ (x : List Compiled). laid lay_number place (map (λ (z : Term). z.num) (terms_of x)) tNumbers) is);
      };
    }

-- ---- the jumps stored in turn
pub record StoreJumpsState (n : ℕ) (cs ns l : List ℕ) (xs gs : List Float) (lanes₀ : List ℕ) (numbers₀ : List Float) (jumps₀ : List ℕ) (rates₀ : List Float) (tLanes₀ : List ℕ) (tNumbers₀ : List Float)
    (lanes : List ℕ) (numbers : List Float) (jumps : List ℕ) (rates : List Float) (tLanes : List ℕ) (tNumbers : List Float) (place p t j : ℕ) : Type 0 where
  pub stands : Stands cs ns l j t p
  pub work : JumpsWork cs lanes numbers
  pub lanes_same : length lanes ≡ length lanes₀
  pub numbers_same : length numbers ≡ length numbers₀
  pub storing : Storing (jumps_compiled n gs cs ns l xs) (compiled_left n cs ns l xs gs j t p) jumps₀ rates₀ tLanes₀ tNumbers₀ 0 0 jumps rates tLanes tNumbers place j

module _ (n : ℕ) (cs ns l : List ℕ) (xs gs : List Float) (lanes₀ : List ℕ) (numbers₀ : List Float) (jumps₀ : List ℕ) (rates₀ : List Float) (tLanes₀ : List ℕ) (tNumbers₀ : List Float)
    (fit : JumpsFit cs ns l xs) (same : length gs ≡ length cs) (work₀ : JumpsWork cs lanes₀ numbers₀) (room : JumpsRoom (jumps_compiled n gs cs ns l xs) 0 0 jumps₀ rates₀ tLanes₀ tNumbers₀) where
  module _ (lanes : List ℕ) (numbers : List Float) (jumps : List ℕ) (rates : List Float) (tLanes : List ℕ) (tNumbers : List Float) (place p t j : ℕ)
      (s : StoreJumpsState n cs ns l xs gs lanes₀ numbers₀ jumps₀ rates₀ tLanes₀ tNumbers₀ lanes numbers jumps rates tLanes tNumbers place p t j) where
    module _ (h : j < length cs) (lanes₁ : List ℕ) (numbers₁ : List Float)
        (reads : operator_in (length (take (t + get_or cs j 0 - t) (drop t ns))) lanes₁ numbers₁ ≡ own_taken n cs ns l xs gs t p (get_or cs j 0))
        (al : length lanes₁ ≡ length lanes) (an : length numbers₁ ≡ length numbers) where
      -- the jump that is stored is the first of those that are left
      abbrev in_work : Compiled
      in_work = compile_jump (record { rate = get_or gs j nan; op = operator_in (get_or cs j 0) lanes₁ numbers₁ })

      left_first : (sum : ℕ) → sum ≡ total (take (t + get_or cs j 0 - t) (drop t ns))
          → compiled_left n cs ns l xs gs j t p ≡ in_work ∷ compiled_left n cs ns l xs gs (j + 1) (t + get_or cs j 0) (p + sum)
      left_first sum es =
          let k : ℕ = get_or cs j 0 in
          let is : own_taken n cs ns l xs gs t p k ≡ operator_in k lanes₁ numbers₁ = sym reads ∙ ap (λ (m : ℕ). operator_in m lanes₁ numbers₁) (own_length cs ns l xs fit j t p s.stands h) in
          left_turn n cs ns l xs gs j t p sum (omega arith) h es
          ∙ ap (λ (op : List Term). compile_jump (record { rate = get_or gs j nan; op = op }) ∷ compiled_left n cs ns l xs gs (j + 1) (t + k) (p + sum)) is

      -- jump j is read: there is room for it
      pub store_jumps_work : WorkRoom (get_or cs j 0) lanes₁ numbers₁
      store_jumps_work = own_work cs ns l xs fit j t p s.stands h lanes₁ numbers₁ (work_same cs lanes lanes₁ numbers numbers₁ s.work al an)

      pub store_jumps_room : JumpRoom (compile_jump (record { rate = get_or gs j nan; op = operator_in (get_or cs j 0) lanes₁ numbers₁ })) j place jumps rates tLanes tNumbers
      store_jumps_room =
          let k : ℕ = get_or cs j 0 in
          let sum : ℕ = total (take (t + k - t) (drop t ns)) in
          storing_room (jumps_compiled n gs cs ns l xs) jumps₀ rates₀ tLanes₀ tNumbers₀ 0 0 (compiled_left n cs ns l xs gs j t p) jumps rates tLanes tNumbers place j s.storing
          in_work (compiled_left n cs ns l xs gs (j + 1) (t + k) (p + sum)) (left_first sum refl) room

      -- and stored
      pub store_jumps_next : (lanes₂ : List ℕ) (numbers₂ : List Float) → length lanes₂ ≡ length lanes₁ → length numbers₂ ≡ length numbers₁
          → (r : ℕ) (jumps' : List ℕ) (rates' : List Float) (tLanes' : List ℕ) (tNumbers' : List Float)
          → StoresJump (compile_jump (record { rate = get_or gs j nan; op = operator_in (get_or cs j 0) lanes₁ numbers₁ })) j place jumps rates tLanes tNumbers r jumps' rates' tLanes' tNumbers'
          → length jumps' ≡ length jumps → length rates' ≡ length rates → length tLanes' ≡ length tLanes → length tNumbers' ≡ length tNumbers
          → (sum : ℕ) → sum ≡ total (take (t + get_or cs j 0 - t) (drop t ns))
          → StoreJumpsState n cs ns l xs gs lanes₀ numbers₀ jumps₀ rates₀ tLanes₀ tNumbers₀ lanes₂ numbers₂ jumps' rates' tLanes' tNumbers' r (p + sum) (t + get_or cs j 0) (j + 1)
      store_jumps_next lanes₂ numbers₂ bl bn r jumps' rates' tLanes' tNumbers' g hj hr hl hn sum es = record {
        stands = stands_next cs ns l xs fit j t p s.stands h sum es;
        work = work_same cs lanes lanes₂ numbers numbers₂ s.work (bl ∙ al) (bn ∙ an);
        lanes_same = bl ∙ al ∙ s.lanes_same;
        numbers_same = bn ∙ an ∙ s.numbers_same;
        storing = storing_next (jumps_compiled n gs cs ns l xs) jumps₀ rates₀ tLanes₀ tNumbers₀ 0 0 (compiled_left n cs ns l xs gs j t p) jumps rates tLanes tNumbers place j s.storing
            in_work (compiled_left n cs ns l xs gs (j + 1) (t + get_or cs j 0) (p + sum)) (left_first sum es) r jumps' rates' tLanes' tNumbers' g hj hr hl hn;
      }

    pub store_jumps_done : length cs ≤ j → StoresJumps (jumps_compiled n gs cs ns l xs) 0 0 jumps₀ rates₀ tLanes₀ tNumbers₀ jumps rates tLanes tNumbers
        × (place ≡ length (terms_of (jumps_compiled n gs cs ns l xs)))
    store_jumps_done h =
        let none : compiled_left n cs ns l xs gs j t p ≡ [] = left_end n cs ns l xs gs j t p h in (
          storing_done (jumps_compiled n gs cs ns l xs) jumps₀ rates₀ tLanes₀ tNumbers₀ 0 0 (compiled_left n cs ns l xs gs j t p) jumps rates tLanes tNumbers place j s.storing none,
          omega (arith, s.storing.placed, ap (λ (x : List Compiled). length (terms_of x)) none ∙ terms_end),
        )
