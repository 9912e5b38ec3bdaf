-- SPDX-FileCopyrightText: 2026 The PPVM Authors
-- SPDX-License-Identifier: Apache-2.0

-- What leakage lists: words inside the register, in word order, none of them in the basis, with finite sums. So a basis that passes the
-- tests passes them again with the words that enter. Assumes nothing.
use mathlib.Core.Path.{◌≡◌, refl, sym, ap, ap₂, subst, ◌∙◌}
use mathlib.Core.Bool.{Bool, true, false, not, cond, ◌||◌, ◌&&◌}
use mathlib.Core.List.{List, [], ◌∷◌, ◌++◌, append_assoc}
use Prim.Native.Nat.{ℕ, zero, suc, ◌+◌, ◌-◌, ◌≤◌, ◌<◌}
use native.Mathlib.Omega.{arith}
use native.Mathlib.Decide.{dec_lt}
use denote.Floats.{passes as holds}
use lib.Dec.{eqb, ltb}
use lib.Ieee.{Float, nan}
use lib.ListN.{length, get_or, take, drop, replicate, replicate-append-replicate, length-append, length-map, get_or-append, get_or-eq_default}
use lib.Seq.{take-append-le, take-append-add, get_or-append-add}
use Rattle.refusal.specs.declared.Refusal.TheVariants.{TableFull}
use Rattle.std.specs.Prelude.{Ok}
use Rattle.word.specs.Order.{before, same}
use Rattle.word.specs.Word.{identity}
use Rattle.word.specs.Register.{reaches}
use Rattle.word.specs.declared.word.Word.{Word}
use Rattle.word.proofs.OrderLaws.{before_self, same_eq}
use Rattle.word.proofs.WordLaws.{letter_identity}
use Rattle.number.specs.Floats.{floats, float0, is_finite}
use Rattle.order.specs.Places.{is_among}
use Rattle.keep.specs.Retained.{pick}
use Rattle.lent.specs.Every.{Every}
use Rattle.lent.specs.Read.{got}
use Rattle.lent.specs.Words.{max_words}
use Rattle.lent.proofs.Lists.{every_at, every_map}
use Rattle.lent.proofs.Firsts.{first_none, first_before}
use Rattle.model.specs.Stored.{ModelTables}
use Rattle.model.specs.Terms.{Term}
use Rattle.model.specs.Tested.{test_model}
use Rattle.model.specs.declared.stored.Model.{Model}
use Rattle.model_laws.proofs.WordsBelow.{none_reaches}
use Rattle.action.specs.Acts.{action_of}
use Rattle.candidates.specs.Sums.{Row, row, put_over, put_all, AllAfter, Rising}
use Rattle.candidates.specs.Tables.{Rows, put_row, put_rows}
use Rattle.candidates.proofs.RisingLaws.{rising_rows}
use Rattle.columns.specs.Repeats.{repeats_at, first_repeat}
use Rattle.limits.specs.Defaults.{is_above}
use Rattle.passes.specs.Leaks.{outside, leaked, taken_by, ended, largest, pass_size, passes, leaks_at, candidates_of, above, words_of, sums_of}
use Rattle.passes.proofs.RoomLaws.{largest_rising}
use Rattle.leakage_laws.proofs.KeepLaws.{ended_finite}
use Rattle.step_laws.specs.Steps.{Places, Outcome, with_zeros, leakage, hop, evolution}
use Rattle.step_laws.specs.Passing.{Inside, AreFinite, Fit, Good, GoodWords}
use Rattle.step_laws.proofs.CourseLaws.{same_value, through}
use Rattle.step_laws.proofs.EvolvedLaws.{zeros_each, zero_finite, zeros_long, evolution_finite}
use Rattle.step_laws.proofs.AdmissionLaws.{not_refused, list_few, all_enter}
use Rattle.step_laws.proofs.InsideLaws.{action_inside}

-- ---- of rows, what is picked and what is above a threshold
module _ (Q : Row Word Float → Type 0) where
  pick_every : (ks : List ℕ) (R : Rows) → Every Q R → Every Q (pick ks R)
  unfolding pick
  pick_every [] R h = tt
  pick_every (k ∷ ks) [] h = tt
  pick_every (k ∷ ks) (r ∷ R) h = go (eqb k 0) (pick_every ks R h.1)
    where
      go : (b : Bool) → Every Q (pick ks R) → Every Q (cond b (pick ks R) (r ∷ pick ks R))
      go true rest = rest
      go false rest = (h.0, rest)

  largest_every : (room : ℕ) (R : Rows) → Every Q R → Every Q (largest room R)
  unfolding largest
  largest_every room R = pick_every _ R

  above_every : (tau : Float) (R : Rows) → Every Q R → Every Q (above tau R)
  unfolding above
  above_every tau [] h = tt
  above_every tau (r ∷ R) h = go (is_above tau r.sum) (above_every tau R h.1)
    where
      go : (b : Bool) → Every Q (above tau R) → Every Q (cond b (r ∷ above tau R) (above tau R))
      go true rest = (h.0, rest)
      go false rest = rest

above_after : (w : Word) (tau : Float) (R : Rows) → AllAfter before w R → AllAfter before w (above tau R)
unfolding AllAfter above
above_after w tau [] h = tt
above_after w tau (r ∷ R) h = go (is_above tau r.sum) (above_after w tau R h.1)
  where
    go : (b : Bool) → AllAfter before w (above tau R) → AllAfter before w (cond b (r ∷ above tau R) (above tau R))
    go true rest = (h.0, rest)
    go false rest = rest

above_rising : (tau : Float) (R : Rows) → Rising before R → Rising before (above tau R)
unfolding AllAfter Rising above
above_rising tau [] h = tt
above_rising tau (r ∷ R) h = go (is_above tau r.sum) (above_rising tau R h.1)
  where
    go : (b : Bool) → Rising before (above tau R) → Rising before (cond b (r ∷ above tau R) (above tau R))
    go true rest = (above_after r.word tau R h.0, rest)
    go false rest = rest

-- ---- candidates in word order, whose words have a property, through all passes
module _ (P : Word → Type 0) where
  abbrev Words : Rows → Type 0
  Words R = Every (λ (r : Row Word Float). P r.word) R

  put_words : (w : Word) (v : Float) (R : Rows) → P w → Words R → Words (put_row w v R)
  unfolding put_over
  put_words w v [] s h = (s, tt)
  put_words w v (r ∷ R) s h = go (put_words w v R s h.1) (before r.word w) (before w r.word)
    where
      go : Words (put_row w v R) → (a b : Bool) → Words (cond a (r ∷ put_row w v R) (cond b (row w (floats.plus floats.nought v) ∷ r ∷ R) (row r.word (floats.plus r.sum v) ∷ R)))
      go rest true b = (h.0, rest)
      go rest false true = (s, h)
      go rest false false = h

  rows_words : (l R : Rows) → Words l → Words R → Words (put_rows l R)
  unfolding put_all
  rows_words [] R k h = h
  rows_words (e ∷ l) R k h = rows_words l (put_row e.word e.sum R) k.1 (put_words e.word e.sum R k.0 h)

  leaked_words : (out : Word → Bool) (c : Float) (L : List Term) → Every (λ x. out x.word ≡ true → P x.word) L → Words (leaked out c L)
  unfolding leaked
  leaked_words out c [] h = tt
  leaked_words out c (x ∷ L) h = go (out x.word) refl (leaked_words out c L h.1)
    where
      go : (b : Bool) → out x.word ≡ b → Words (leaked out c L) → Words (cond b (row x.word (floats.times c x.num.re) ∷ leaked out c L) (leaked out c L))
      go true e rest = (h.0 e, rest)
      go false e rest = rest

  record Fine (R : Rows) : Type 0 where
    rising : Rising before R
    each : Words R

  module _ (touched : ℕ → ℕ) (leaks : ℕ → Rows) (each : (p : ℕ) → Words (leaks p)) (sumRoom candidateRoom : ℕ) where
    taken_fine : (ps : List ℕ) (T S : Rows) → Fine T → taken_by touched leaks sumRoom candidateRoom ps T ≡ got S → Fine S
    unfolding taken_by
    taken_fine [] T S f e = subst Fine (same_value T S e) f
    taken_fine (p ∷ ps) T S f e =
        taken_fine ps (put_rows (leaks p) T) S (record { rising = rising_rows (leaks p) T f.rising; each = rows_words (leaks p) T (each p) f.each })
        (not_refused (ltb candidateRoom (length (put_rows (leaks p) T))) (TableFull 2 candidateRoom) _ S (not_refused (ltb sumRoom (touched p)) (TableFull 1 sumRoom) _ S e))

    passes_fine : (room k : ℕ) (ps : List ℕ) (T S : Rows) → Fine T → Every (λ (r : Row Word Float). is_finite r.sum ≡ true) T → passes touched leaks sumRoom candidateRoom room k ps T ≡ got S
        → Fine S × Every (λ (r : Row Word Float). is_finite r.sum ≡ true) S
    unfolding passes
    passes_fine room zero ps T S f s e = subst (λ (R : Rows). Fine R × Every (λ (r : Row Word Float). is_finite r.sum ≡ true) R) (same_value T S e) (f, s)
    passes_fine room (suc k) ps T S f s e =
        let a = through (taken_by touched leaks sumRoom candidateRoom (take pass_size ps) T) _ S e in
        let b = through (ended room a.value) (passes touched leaks sumRoom candidateRoom room k (drop pass_size ps)) S a.behind in
        let U : Rows = a.value in
        let g : Fine U = taken_fine (take pass_size ps) T U f a.before in
        let x = ended_finite room U b.value b.before in
        let sums : Every (λ (r : Row Word Float). is_finite r.sum ≡ true) U = finite_rows U x.1 in
        passes_fine room k (drop pass_size ps) b.value S
        (subst Fine (sym x.0) (record { rising = largest_rising room U g.rising; each = largest_every (λ r. P r.word) room U g.each }))
        (subst (λ (R : Rows). Every (λ (r : Row Word Float). is_finite r.sum ≡ true) R) (sym x.0) (largest_every (λ r. is_finite r.sum ≡ true) room U sums)) b.behind
      where
        finite_rows : (U : Rows) → ((i : ℕ) → i < length U → is_finite (get_or (sums_of U) i nan) ≡ true) → Every (λ (r : Row Word Float). is_finite r.sum ≡ true) U
        finite_rows [] h = tt
        finite_rows (r ∷ U) h = (h 0 (omega arith), finite_rows U (λ i k. h (suc i) (omega arith)))

-- ---- the words of one list behind those of another
rising_apart : (R : Rows) → Rising before R → (k : ℕ) → k < length R → repeats_at (words_of R) k ≡ false
unfolding repeats_at is_among Rising AllAfter
rising_apart [] h k l = absurd (omega arith)
rising_apart (r ∷ R) h zero l = refl
rising_apart (r ∷ R) h (suc k) l = ap₂ ◌||◌ (later R h.0 k (omega arith)) (rising_apart R h.1 k (omega arith))
  where
    other : (w v : Word) → before w v ≡ true → (b : Bool) → same w v ≡ b → b ≡ false
    other w v e true s = absurd (holds false (sym (before_self w) ∙ ap (before w) (same_eq w v s) ∙ e))
    other w v e false s = refl

    later : (R : Rows) → AllAfter before r.word R → (k : ℕ) → k < length R → same r.word (get_or (words_of R) k identity) ≡ false
    later [] h k l = absurd (omega arith)
    later (s ∷ R) h zero l = other r.word s.word h.0 (same r.word s.word) refl
    later (s ∷ R) h (suc k) l = later R h.1 k (omega arith)

among_both : (w : Word) (us vs : List Word) → is_among w us ≡ false → is_among w vs ≡ false → is_among w (us ++ vs) ≡ false
unfolding is_among
among_both w [] vs h k = k
among_both w (u ∷ us) vs h k = go (λ e. among_both w us vs e k) (same u w) h
  where
    go : (is_among w us ≡ false → is_among w (us ++ vs) ≡ false) → (b : Bool) → (b || is_among w us) ≡ false → (b || is_among w (us ++ vs)) ≡ false
    go rest true e = e
    go rest false e = rest e

grown_apart : (ws us : List Word) → first_repeat ws ≡ length ws → ((k : ℕ) → k < length us → repeats_at us k ≡ false) → ((k : ℕ) → k < length us → is_among (get_or us k identity) ws ≡ false)
    → first_repeat (ws ++ us) ≡ length (ws ++ us)
unfolding first_repeat repeats_at
grown_apart ws us e h o = first_none (length (ws ++ us)) (repeats_at (ws ++ us)) (λ k l. go k l (dec_lt k (length ws)))
  where
    go : (k : ℕ) → k < length (ws ++ us) → Dec (k < length ws) → repeats_at (ws ++ us) k ≡ false
    go k l (yes i) =
        ap₂ is_among (get_or-append ws us identity k i) (take-append-le k ws us (omega arith)) ∙ first_before (length ws) (repeats_at ws) k (omega (arith, e, i))
    go k l (no i) =
        let j : ℕ = k - length ws in
        let z : length ws + j ≡ k = omega arith in
        let low : j < length us = omega (arith, l, length-append ws us) in
        ap (λ (n : ℕ). is_among (get_or (ws ++ us) n identity) (take n (ws ++ us))) (sym z)
        ∙ ap₂ is_among (get_or-append-add ws us j identity) (take-append-add ws us j)
        ∙ among_both (get_or us j identity) ws (take j us) (o j low) (h j low)

-- ---- of a model
inside_at : (n : ℕ) (ws : List Word) → Inside n ws → (p : ℕ) → reaches (get_or ws p identity) n ≡ false
inside_at n ws h p = go (dec_lt p (length ws))
  where
    go : Dec (p < length ws) → reaches (get_or ws p identity) n ≡ false
    go (yes i) = h p i
    go (no i) = ap (λ (w : Word). reaches w n) (get_or-eq_default ws identity (omega arith)) ∙ none_reaches identity n (λ q l k. letter_identity q)

outside_not : (ws protected : List Word) (w : Word) → outside ws protected w ≡ true → is_among w ws ≡ false
unfolding outside
outside_not ws protected w e = go (is_among w ws) e
  where
    go : (b : Bool) → (not b && not (is_among w protected)) ≡ true → b ≡ false
    go true f = sym f
    go false f = refl

-- what leakage lists
pub record Lists (n : ℕ) (ws : List Word) (list : Rows) : Type 0 where
  pub inside : Inside n (words_of list)
  pub finite : AreFinite (sums_of list)
  pub apart : first_repeat ws ≡ length ws → first_repeat (ws ++ words_of list) ≡ length (ws ++ words_of list)

module _ (m : Model) (t : ModelTables) (ok : test_model m t ≡ Ok tt) (protected : List Word) (dt : Float) (places : Places) (limit : ℕ) (tau : Float) (ws : List Word) (cs : List Float) (below : Inside m.qubits ws) where
  -- inside the register, and not in the basis
  abbrev New : Word → Type 0
  New w = (reaches w m.qubits ≡ false) × (is_among w ws ≡ false)

  leaks_new : (p : ℕ) → Words New (leaks_at m t ws cs protected p)
  leaks_new p =
      leaked_words New (outside ws protected) (get_or cs p nan) (action_of m t (get_or ws p identity))
      (both (action_of m t (get_or ws p identity)) (action_inside m t ok (get_or ws p identity) (inside_at m.qubits ws below p)))
    where
      both : (L : List Term) → Every (λ c. reaches c.word m.qubits ≡ false) L → Every (λ c. outside ws protected c.word ≡ true → New c.word) L
      both [] h = tt
      both (c ∷ L) h = ((λ e. (h.0, outside_not ws protected c.word e)), both L h.1)

  pub leakage_lists : (list : Rows) → leakage m t protected dt places limit tau ws cs ≡ got list → Lists m.qubits ws list
  unfolding leakage candidates_of Rising
  leakage_lists list e =
      let a = through (candidates_of m t ws cs protected places.touched places.candidates (limit - length ws)) _ list e in
      let i = same_value (above tau a.value) list (not_refused (ltb places.listed (length (above tau a.value))) _ (got (above tau a.value)) list a.behind) in
      let f = passes_fine New _ (leaks_at m t ws cs protected) leaks_new places.touched places.candidates (limit - length ws) _ _ [] a.value (record { rising = tt; each = tt }) tt a.before in
      subst (Lists m.qubits ws) i (lists (above tau a.value) (above_rising tau a.value f.0.rising) (above_every (λ r. New r.word) tau a.value f.0.each) (above_every (λ r. is_finite r.sum ≡ true) tau a.value f.1))
    where
      lists : (R : Rows) → Rising before R → Words New R → Every (λ (r : Row Word Float). is_finite r.sum ≡ true) R → Lists m.qubits ws R
      lists R rising each finite =
          let words : Every New (words_of R) = every_map New (λ r. r.word) R each in
          let nw : length (words_of R) ≡ length R = length-map R (λ r. r.word) in
          record {
            inside = λ k h. (every_at New (words_of R) k identity words h).0;
            finite = λ k h. every_at (λ x. is_finite x ≡ true) (sums_of R) k nan (every_map (λ x. is_finite x ≡ true) (λ r. r.sum) R finite) h;
            apart = λ e. grown_apart ws (words_of R) e (λ k h. rising_apart R rising k (omega (arith, nw))) (λ k h. (every_at New (words_of R) k identity words h).1);
          }

  -- as admission asks of a list
  pub list_fit : limit ≤ max_words → (list : Rows) → leakage m t protected dt places limit tau ws cs ≡ got list → Fit m.qubits (words_of list) (sums_of list)
  list_fit low list e =
      let l = leakage_lists list e in
      let nw : length (words_of list) ≡ length list = length-map list (λ r. r.word) in
      let ns : length (sums_of list) ≡ length list = length-map list (λ r. r.sum) in
      record { few = omega (arith, low, nw, list_few m t protected dt places limit tau ws cs list e); inside = l.inside; each = ns ∙ sym nw; finite = l.finite }

  -- a basis that passes, with the words that enter
  pub hop_good : limit ≤ max_words → GoodWords m.qubits ws → (entered : List Word) → hop m t protected dt places limit tau ws cs ≡ got entered → GoodWords m.qubits (ws ++ entered)
  hop_good low g entered e =
      let a = all_enter m t protected dt places limit tau ws cs entered e in
      let l = leakage_lists a.list a.listed in
      let nw : length (words_of a.list) ≡ length a.list = length-map a.list (λ r. r.word) in
      subst (λ (us : List Word). GoodWords m.qubits (ws ++ us)) (sym a.all)
      (record {
        few = omega (arith, g.few, a.few, low, nw, length-append ws (words_of a.list));
        inside = inside_both m.qubits ws (words_of a.list) g.inside l.inside;
        apart = l.apart g.apart;
      })
    where
      inside_both : (n : ℕ) (us vs : List Word) → Inside n us → Inside n vs → Inside n (us ++ vs)
      inside_both n us vs h k i l = go (dec_lt i (length us))
        where
          go : Dec (i < length us) → reaches (get_or (us ++ vs) i identity) n ≡ false
          go (yes j) = ap (λ (w : Word). reaches w n) (get_or-append us vs identity i j) ∙ h i j
          go (no j) =
              let z : length us + (i - length us) ≡ i = omega arith in
              ap (λ (p : ℕ). reaches (get_or (us ++ vs) p identity) n) (sym z) ∙ ap (λ (w : Word). reaches w n) (get_or-append-add us vs (i - length us) identity) ∙ k (i - length us) (omega (arith, l, length-append us vs))

-- ---- the numbers beside the words
-- those given, with a zero for each word that entered
pub zeros_behind : (ws us : List Word) (cs : List Float) → length cs ≡ length ws → with_zeros cs (ws ++ us) ≡ cs ++ replicate (length us) float0
zeros_behind ws us cs e =
    let z : length (ws ++ us) - length cs ≡ length us = omega (arith, length-append ws us, e) in
    ap (λ (k : ℕ). cs ++ replicate k float0) z

-- and again for those of a second hop
pub zeros_again : (cs : List Float) (us vs : List Word) → length cs ≤ length us → length us ≤ length vs → with_zeros (with_zeros cs us) vs ≡ with_zeros cs vs
zeros_again cs us vs h k =
    let a : ℕ = length us - length cs in
    let b : ℕ = length vs - length (with_zeros cs us) in
    let z : a + b ≡ length vs - length cs = omega (arith, zeros_long cs us h, h, k) in
    append_assoc cs (replicate a float0) (replicate b float0) ∙ ap (λ (l : List Float). cs ++ l) (replicate-append-replicate a b float0 ∙ ap (λ (n : ℕ). replicate n float0) z)

pub zeros_good : (n : ℕ) (ws us : List Word) (cs : List Float) → Fit n ws cs → GoodWords n (ws ++ us) → Good n (ws ++ us) (with_zeros cs (ws ++ us))
zeros_good n ws us cs f g = record {
  fit = record {
    few = g.few;
    inside = g.inside;
    each = zeros_long cs (ws ++ us) (omega (arith, f.each, length-append ws us));
    finite = zeros_each (λ x. is_finite x ≡ true) zero_finite cs (ws ++ us) f.finite;
  };
  apart = g.apart;
}

-- those evolved
pub evolved_fit : (m : Model) (t : ModelTables) (protected : List Word) (dt : Float) (places : Places) (n : ℕ) (dropTol : Float) (ws : List Word) (cs : List Float) (o : Outcome) → Fit n ws cs
    → evolution m t protected dt places dropTol ws cs ≡ got o → Fit n ws o.numbers
evolved_fit m t protected dt places n dropTol ws cs o f e =
    let v = evolution_finite m t protected dt places dropTol ws cs o f.finite e in
    record { few = f.few; inside = f.inside; each = v.long ∙ f.each; finite = v.each }
