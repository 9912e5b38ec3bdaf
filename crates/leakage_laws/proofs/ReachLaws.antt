-- SPDX-FileCopyrightText: 2026 The PPVM Authors
-- SPDX-License-Identifier: Apache-2.0

-- Which words the candidates have: every one is reached, and with room for all no pass drops one, so that every reached word stays
-- to the end. Assumes nothing.
use mathlib.Core.Path.{◌≡◌, refl, sym, ap, subst, ◌∙◌}
use mathlib.Core.Bool.{Bool, true, false, cond}
use mathlib.Core.List.{List, [], ◌∷◌, map}
use mathlib.Core.Logic.{◌⊎◌, inl, inr}
use Prim.Native.Nat.{ℕ, zero, suc, ◌+◌, ◌-◌, ◌*◌, ◌/◌, ◌%◌, ◌≤◌, ◌<◌}
use native.Mathlib.Omega.{arith}
use borrow.Author.Tests.{eqb-true}
use denote.Floats.{passes as holds}
use lib.Dec.{eqb}
use lib.Ieee.{Float, nan}
use lib.ListN.{length, get_or, drop, length-drop, length-take, length-map}
use lib.Seq.{get_or-take, get_or-drop}
use Rattle.word.specs.Order.{before}
use Rattle.word.specs.Word.{identity}
use Rattle.word.specs.Flat.{words}
use Rattle.word.specs.declared.word.Word.{Word}
use Rattle.word.proofs.OrderLaws.{before_self, trichotomy}
use Rattle.number.specs.Floats.{floats}
use Rattle.order.specs.Merge.{positions}
use Rattle.order.specs.Magnitudes.{falls_before, by_magnitude}
use Rattle.order.proofs.Fuel.{sort_length}
use Rattle.order.proofs.Members.{all_sort, all_take, all_drop, all_more, positions_length, positions_below}
use Rattle.keep.specs.Retained.{pick}
use Rattle.order.specs.Between.{All}
use Rattle.keep.specs.Between.{occurrences}
use Rattle.truncate.proofs.OrderOnce.{magnitude_once}
use Rattle.candidates.specs.Sums.{row, put_over, put_all, AllAfter, Rising}
use Rattle.candidates.specs.Tables.{Rows, put_row, put_rows}
use Rattle.model.specs.Stored.{ModelTables}
use Rattle.model.specs.Terms.{Term}
use Rattle.model.specs.declared.stored.Model.{Model}
use Rattle.lent.specs.Every.{Every}
use Rattle.action.specs.Acts.{action_of}
use Rattle.passes.specs.Leaks.{outside, leaked, words_of, largest, pass_size, pass_count, above}
use Rattle.limits.specs.Defaults.{is_above}
use Rattle.passes.proofs.RoomLaws.{largest_all}
use Rattle.leakage.specs.Leakages.{Basis}
use Rattle.limits.specs.declared.Limits.{Limits}
use Rattle.order.specs.Members.{Member, Differ}
use Rattle.leakage_laws.specs.Calls.{gathered, basis_words, basis_coeffs, leaks_of, room_of, pass_of, stay_after, held_in, ReachedOutside, RoomForAll}
use Rattle.leakage_laws.proofs.KeepLaws.{room_flags}
use Rattle.leakage_laws.proofs.CourseLaws.{stay_largest, held_rising}

-- no pass drops a candidate
abbrev pub NoneDropped : Model → ModelTables → Basis → Limits → Type 0
NoneDropped m t b l = (k : ℕ) → k < pass_count b.len → length (held_in m t b l k) ≤ room_of b l

module _ (u : Word) where
  abbrev pub HasRow : Rows → Type 0
  HasRow R = Member u (words_of R)

  -- ---- one entry
  put_old : (w : Word) (v : Float) (R : Rows) → HasRow R → HasRow (put_row w v R)
  unfolding Member put_over
  put_old w v [] h = absurd h
  put_old w v (r ∷ R) h = go (put_old w v R) (before r.word w) (before w r.word) h
    where
      go : (HasRow R → HasRow (put_row w v R)) → (a b : Bool) → HasRow (r ∷ R)
          → HasRow (cond a (r ∷ put_row w v R) (cond b (row w (floats.plus floats.nought v) ∷ r ∷ R) (row r.word (floats.plus r.sum v) ∷ R)))
      go rest true b (inl e) = inl e
      go rest true b (inr k) = inr (rest k)
      go rest false true k = inr k
      go rest false false k = k

  put_new : (w : Word) (v : Float) (R : Rows) → u ≡ w → HasRow (put_row w v R)
  unfolding Member put_over
  put_new w v [] e = inl e
  put_new w v (r ∷ R) e = go (put_new w v R e) (before r.word w) refl (before w r.word) refl
    where
      equal : before r.word w ≡ false → before w r.word ≡ false → ((before r.word w ≡ true) ⊎ ((r.word ≡ w) ⊎ (before w r.word ≡ true))) → u ≡ r.word
      equal a b (inl x) = absurd (holds false (sym a ∙ x))
      equal a b (inr (inl x)) = e ∙ sym x
      equal a b (inr (inr x)) = absurd (holds false (sym b ∙ x))

      go : HasRow (put_row w v R) → (a : Bool) → before r.word w ≡ a → (b : Bool) → before w r.word ≡ b
          → HasRow (cond a (r ∷ put_row w v R) (cond b (row w (floats.plus floats.nought v) ∷ r ∷ R) (row r.word (floats.plus r.sum v) ∷ R)))
      go rest true x b y = inr rest
      go rest false x true y = inl e
      go rest false x false y = inl (equal x y (trichotomy r.word w))

  put_only : (w : Word) (v : Float) (R : Rows) → HasRow (put_row w v R) → (u ≡ w) ⊎ HasRow R
  unfolding Member put_over
  put_only w v [] (inl e) = inl e
  put_only w v [] (inr h) = absurd h
  put_only w v (r ∷ R) h = go (put_only w v R) (before r.word w) (before w r.word) h
    where
      later : (u ≡ w) ⊎ HasRow R → (u ≡ w) ⊎ HasRow (r ∷ R)
      later (inl e) = inl e
      later (inr k) = inr (inr k)

      go : (HasRow (put_row w v R) → (u ≡ w) ⊎ HasRow R) → (a b : Bool)
          → HasRow (cond a (r ∷ put_row w v R) (cond b (row w (floats.plus floats.nought v) ∷ r ∷ R) (row r.word (floats.plus r.sum v) ∷ R))) → (u ≡ w) ⊎ HasRow (r ∷ R)
      go rest true b (inl e) = inr (inl e)
      go rest true b (inr k) = later (rest k)
      go rest false true (inl e) = inl e
      go rest false true (inr k) = inr k
      go rest false false k = inr k

  -- ---- the entries of a log
  rows_old : (l R : Rows) → HasRow R → HasRow (put_rows l R)
  unfolding put_all
  rows_old [] R h = h
  rows_old (e ∷ l) R h = rows_old l (put_row e.word e.sum R) (put_old e.word e.sum R h)

  rows_new : (l R : Rows) → HasRow l → HasRow (put_rows l R)
  unfolding put_all Member
  rows_new [] R h = absurd h
  rows_new (e ∷ l) R (inl z) = rows_old l (put_row e.word e.sum R) (put_new e.word e.sum R z)
  rows_new (e ∷ l) R (inr h) = rows_new l (put_row e.word e.sum R) h

  rows_only : (l R : Rows) → HasRow (put_rows l R) → HasRow l ⊎ HasRow R
  unfolding put_all Member
  rows_only [] R h = inr h
  rows_only (e ∷ l) R h = go (rows_only l (put_row e.word e.sum R) h)
    where
      first : (u ≡ e.word) ⊎ HasRow R → HasRow (e ∷ l) ⊎ HasRow R
      first (inl z) = inl (inl z)
      first (inr k) = inr k

      go : HasRow l ⊎ HasRow (put_row e.word e.sum R) → HasRow (e ∷ l) ⊎ HasRow R
      go (inl k) = inl (inr k)
      go (inr k) = first (put_only e.word e.sum R k)

  -- ---- positions one after another
  module _ (leaks : ℕ → Rows) where
    gathered_old : (ps : List ℕ) (R : Rows) → HasRow R → HasRow (gathered leaks ps R)
    unfolding gathered
    gathered_old [] R h = h
    gathered_old (p ∷ ps) R h = gathered_old ps (put_rows (leaks p) R) (rows_old (leaks p) R h)

    gathered_new : (ps : List ℕ) (R : Rows) (i : ℕ) → i < length ps → HasRow (leaks (get_or ps i 0)) → HasRow (gathered leaks ps R)
    unfolding gathered
    gathered_new [] R i l h = absurd (omega arith)
    gathered_new (p ∷ ps) R zero l h = gathered_old ps (put_rows (leaks p) R) (rows_new (leaks p) R h)
    gathered_new (p ∷ ps) R (suc i) l h = gathered_new ps (put_rows (leaks p) R) i (omega arith) h

    gathered_only : (Q : Type 0) (ps : List ℕ) (R : Rows) → All (λ p. HasRow (leaks p) → Q) ps → (HasRow R → Q) → HasRow (gathered leaks ps R) → Q
    unfolding gathered All
    gathered_only Q [] R a f h = f h
    gathered_only Q (p ∷ ps) R a f h = gathered_only Q ps (put_rows (leaks p) R) a.1 (λ k. go (rows_only (leaks p) R k)) h
      where
        go : HasRow (leaks p) ⊎ HasRow R → Q
        go (inl k) = a.0 k
        go (inr k) = f k

  -- ---- one position
  leaked_of : (out : Word → Bool) (c : Float) (L : List Term) → HasRow (leaked out c L) → Member u (map (λ (x : Term). x.word) L) × (out u ≡ true)
  unfolding leaked Member
  leaked_of out c [] h = absurd h
  leaked_of out c (x ∷ L) h = go (leaked_of out c L) (out x.word) refl h
    where
      go : (HasRow (leaked out c L) → Member u (map (λ (y : Term). y.word) L) × (out u ≡ true)) → (b : Bool) → out x.word ≡ b
          → HasRow (cond b (row x.word (floats.times c x.num.re) ∷ leaked out c L) (leaked out c L)) → Member u (map (λ (y : Term). y.word) (x ∷ L)) × (out u ≡ true)
      go rest true e (inl z) = (inl z, ap out z ∙ e)
      go rest true e (inr k) = (inr (rest k).0, (rest k).1)
      go rest false e k = (inr (rest k).0, (rest k).1)

  leaked_in : (out : Word → Bool) (c : Float) (L : List Term) → Member u (map (λ (x : Term). x.word) L) → out u ≡ true → HasRow (leaked out c L)
  unfolding leaked Member
  leaked_in out c [] h o = absurd h
  leaked_in out c (x ∷ L) h o = go (λ k. leaked_in out c L k o) (out x.word) refl h
    where
      go : (Member u (map (λ (y : Term). y.word) L) → HasRow (leaked out c L)) → (b : Bool) → out x.word ≡ b → Member u (map (λ (y : Term). y.word) (x ∷ L))
          → HasRow (cond b (row x.word (floats.times c x.num.re) ∷ leaked out c L) (leaked out c L))
      go rest true e (inl z) = inl z
      go rest true e (inr k) = inr (rest k)
      go rest false e (inl z) = absurd (holds false (sym e ∙ ap out (sym z) ∙ o))
      go rest false e (inr k) = rest k

  -- ---- what stays, and what is listed
  pick_has : (ks : List ℕ) (R : Rows) → HasRow (pick ks R) → HasRow R
  unfolding Member pick
  pick_has [] R h = absurd h
  pick_has (k ∷ ks) [] h = absurd h
  pick_has (k ∷ ks) (r ∷ R) h = go (pick_has ks R) (eqb k 0) h
    where
      go : (HasRow (pick ks R) → HasRow R) → (b : Bool) → HasRow (cond b (pick ks R) (r ∷ pick ks R)) → HasRow (r ∷ R)
      go rest true m = inr (rest m)
      go rest false (inl e) = inl e
      go rest false (inr m) = inr (rest m)

  largest_has : (room : ℕ) (R : Rows) → HasRow (largest room R) → HasRow R
  unfolding largest
  largest_has room R = pick_has (room_flags room R) R

  pub above_has : (tau : Float) (R : Rows) → HasRow (above tau R) → HasRow R
  unfolding Member above
  above_has tau [] h = absurd h
  above_has tau (r ∷ R) h = go (above_has tau R) (is_above tau r.sum) h
    where
      go : (HasRow (above tau R) → HasRow R) → (b : Bool) → HasRow (cond b (r ∷ above tau R) (above tau R)) → HasRow (r ∷ R)
      go rest true (inl e) = inl e
      go rest true (inr k) = inr (rest k)
      go rest false k = inr (rest k)

  -- ---- the passes of a call
  module _ (m : Model) (t : ModelTables) (b : Basis) (l : Limits) where
    leaks_reached : (p : ℕ) → p < b.len → HasRow (leaks_of m t b p) → ReachedOutside m t b u
    leaks_reached p h k =
        let q = leaked_of (outside (basis_words b) (words b.protected)) (get_or (basis_coeffs b) p nan) (action_of m t (get_or (basis_words b) p identity)) k in
        record { is_outside = q.1; position = p; in_basis = h; by_action = q.0 }

    module _ (coeffs-long : length (basis_coeffs b) ≡ b.len) where
      abbrev order : List ℕ
      order = by_magnitude (basis_coeffs b)

      order_below : All (λ p. p < b.len) order
      order_below =
          let n : ℕ = length (basis_coeffs b) in
          all_more (λ p. p < n) (λ p. p < b.len) (λ p h. omega (arith, h, coeffs-long)) order
          (all_sort (λ x. x < n) (falls_before (basis_coeffs b)) (length (positions n)) (positions n) (positions_below n))

      -- every candidate's word is reached
      from_stay : (k : ℕ) → (HasRow (stay_after m t b l k) → ReachedOutside m t b u) → HasRow (held_in m t b l k) → ReachedOutside m t b u
      from_stay k rest =
          gathered_only (leaks_of m t b) (ReachedOutside m t b u) (pass_of b k) (stay_after m t b l k)
          (all_more (λ p. p < b.len) (λ p. HasRow (leaks_of m t b p) → ReachedOutside m t b u) leaks_reached (pass_of b k) (all_take (λ p. p < b.len) pass_size (drop (k * pass_size) order) (all_drop (λ p. p < b.len) (k * pass_size) order order_below)))
          rest

      pub stay_reached : (k : ℕ) → HasRow (stay_after m t b l k) → ReachedOutside m t b u
      unfolding stay_after Member
      stay_reached zero h = absurd h
      stay_reached (suc k) h = from_stay k (stay_reached k) (largest_has (room_of b l) (held_in m t b l k) h)

      pub held_reached : (k : ℕ) → HasRow (held_in m t b l k) → ReachedOutside m t b u
      held_reached k = from_stay k (stay_reached k)

      -- ---- with room for all
      module _ (enough : NoneDropped m t b l) where
        pub stay_all : (k : ℕ) → k < pass_count b.len → stay_after m t b l (suc k) ≡ held_in m t b l k
        stay_all k h = stay_largest m t b l k ∙ largest_all (room_of b l) (held_in m t b l k) (enough k h)

        -- a word that is held stays to the end
        stays_on : (j k : ℕ) → k + j ≤ pass_count b.len → HasRow (stay_after m t b l k) → HasRow (stay_after m t b l (k + j))
        stays_on zero k h x = let z : k ≡ k + 0 = omega arith in subst (λ (n : ℕ). HasRow (stay_after m t b l n)) z x
        stays_on (suc j) k h x =
            let z : suc k + j ≡ k + suc j = omega arith in
            let y : HasRow (stay_after m t b l (suc k)) = subst HasRow (sym (stay_all k (omega arith))) (gathered_old (leaks_of m t b) (pass_of b k) (stay_after m t b l k) x) in
            subst (λ (n : ℕ). HasRow (stay_after m t b l n)) z (stays_on j (suc k) (omega arith) y)

        place_of : (p : ℕ) (ps : List ℕ) → occurrences p ps ≡ 1 → (Q : Type 0) → ((i : ℕ) → i < length ps → get_or ps i 0 ≡ p → Q) → Q
        unfolding occurrences
        place_of p [] e Q f = absurd (omega arith)
        place_of p (q ∷ ps) e Q f = go (λ y. place_of p ps y Q (λ i h z. f (suc i) (omega arith) z)) (eqb q p) refl e
          where
            go : (occurrences p ps ≡ 1 → Q) → (a : Bool) → eqb q p ≡ a → cond a 1 0 + occurrences p ps ≡ 1 → Q
            go rest true x y = f 0 (omega arith) (eqb-true q p x)
            go rest false x y = rest (omega (arith, y))

        order_long : length order ≡ b.len
        order_long =
            let n : ℕ = length (basis_coeffs b) in
            sort_length (falls_before (basis_coeffs b)) (length (positions n)) (positions n) ∙ positions_length n ∙ coeffs-long

        at_place : (i : ℕ) → i < length order → HasRow (leaks_of m t b (get_or order i 0)) → HasRow (stay_after m t b l (pass_count b.len))
        at_place i h x =
            let k : ℕ = i / pass_size in
            let d = length-drop (k * pass_size) order in
            let n = length-take pass_size (drop (k * pass_size) order) in
            let c : k < pass_count b.len = omega (arith, h, order_long) in
            let a : k * pass_size + i % pass_size ≡ i = omega arith in
            let s : i % pass_size < length (pass_of b k) = omega (arith, h, d, n) in
            let is : get_or (pass_of b k) (i % pass_size) 0 ≡ get_or order i 0 = get_or-take pass_size (drop (k * pass_size) order) (i % pass_size) 0 (omega arith) ∙ get_or-drop (k * pass_size) order (i % pass_size) 0 ∙ ap (λ (j : ℕ). get_or order j 0) a in
            let held : HasRow (held_in m t b l k) = gathered_new (leaks_of m t b) (pass_of b k) (stay_after m t b l k) (i % pass_size) s (subst (λ (p : ℕ). HasRow (leaks_of m t b p)) (sym is) x) in
            let on : HasRow (stay_after m t b l (suc k)) = subst HasRow (sym (stay_all k c)) held in
            let z : suc k + (pass_count b.len - suc k) ≡ pass_count b.len = omega (arith, c) in
            subst (λ (j : ℕ). HasRow (stay_after m t b l j)) z (stays_on (pass_count b.len - suc k) (suc k) (omega (arith, c)) on)

        pub reached_stays : ReachedOutside m t b u → HasRow (stay_after m t b l (pass_count b.len))
        reached_stays r =
            let x : HasRow (leaks_of m t b r.position) = leaked_in (outside (basis_words b) (words b.protected)) (get_or (basis_coeffs b) r.position nan) (action_of m t (get_or (basis_words b) r.position identity)) r.by_action r.is_outside in
            place_of r.position order ((magnitude_once (basis_coeffs b)).once r.position (omega (arith, r.in_basis, coeffs-long))) (HasRow (stay_after m t b l (pass_count b.len)))
            (λ i h e. at_place i h (subst (λ (p : ℕ). HasRow (leaks_of m t b p)) (sym e) x))

-- ---- room for all: what a pass holds are reached words that differ, so no pass drops one
rising_differ : (R : Rows) → Rising before R → Differ (words_of R)
unfolding Rising Differ AllAfter Member
rising_differ [] h = tt
rising_differ (r ∷ R) h = (not_later r.word R h.0, rising_differ R h.1)
  where
    not_later : (w : Word) (R : Rows) → AllAfter before w R → Member w (words_of R) → ⊥
    not_later w [] a h = h
    not_later w (s ∷ R) a (inl e) = holds false (sym (before_self w) ∙ ap (before w) e ∙ a.0)
    not_later w (s ∷ R) a (inr h) = not_later w R a.1 h

every_has : (P : Word → Type 0) (ws : List Word) → ((w : Word) → Member w ws → P w) → Every P ws
unfolding Member
every_has P [] h = tt
every_has P (w ∷ ws) h = (h w (inl refl), every_has P ws (λ v k. h v (inr k)))

module _ (m : Model) (t : ModelTables) (b : Basis) (l : Limits) (coeffs-long : length (basis_coeffs b) ≡ b.len) where
  pub none_dropped : RoomForAll m t b l → NoneDropped m t b l
  none_dropped enough k h =
      let R : Rows = held_in m t b l k in
      let long : length (words_of R) ≡ length R = length-map R (λ r. r.word) in
      let room = enough (words_of R) (rising_differ R (held_rising m t b l k)) (every_has (ReachedOutside m t b) (words_of R) (λ w x. held_reached w m t b l coeffs-long k x)) in
      omega (arith, long, room)
