-- SPDX-FileCopyrightText: 2026 The PPVM Authors
-- SPDX-License-Identifier: Apache-2.0

-- A list laid into lent tables is read back from them; and what is listed has words of two x and two z lanes. Assumes nothing.
use mathlib.Core.Path.{◌≡◌, refl, sym, ap, ap₂, subst, ◌∙◌}
use mathlib.Core.Bool.{Bool, true, false, not, cond, ◌||◌, ◌&&◌}
use mathlib.Core.List.{List, [], ◌∷◌}
use mathlib.Core.Logic.{inl, inr}
use Prim.Native.Nat.{ℕ, zero, suc, ◌*◌, ◌≤◌, ◌<◌}
use native.Mathlib.Omega.{arith}
use borrow.Author.Tests.{ltb-true, ltb-false}
use denote.Floats.{passes as holds}
use lib.Dec.{eqb, ltb}
use lib.Ieee.{Float, nan}
use lib.ListN.{length, get_or, set, length-map, length-set, get_or-eq_default}
use lib.Seq.{ext_get_or}
use Rattle.word.specs.Order.{before, same}
use Rattle.word.specs.Word.{identity, Sound}
use Rattle.word.specs.Flat.{words, lay_word, word_lanes}
use Rattle.word.specs.declared.word.Word.{Word}
use Rattle.word.proofs.OrderLaws.{same_self}
use Rattle.word.proofs.WordLaws.{sound_identity}
use Rattle.number.specs.Floats.{floats}
use Rattle.order.specs.Places.{is_among}
use Rattle.keep.specs.Retained.{pick}
use Rattle.candidates.specs.Sums.{Row, row, put_over, put_all}
use Rattle.candidates.specs.Tables.{Rows, candidate_rows, put_row, put_rows}
use Rattle.candidates.proofs.RowLaws.{no_row, table_at, table_long}
use Rattle.model.specs.Stored.{ModelTables}
use Rattle.model.specs.Terms.{Term}
use Rattle.lent.specs.Laid.{laid}
use Rattle.model.specs.declared.stored.Model.{Model}
use Rattle.lent.specs.Every.{Every}
use Rattle.lent.proofs.LaidLaws.{laid_length, set_here}
use Rattle.model_laws.proofs.LaidLaws.{word_length, words_here}
use Rattle.action.specs.Acts.{action_of, list_places}
use Rattle.action_laws.proofs.ListedWords.{Formed, OfFormed, listed_formed}
use Rattle.passes.specs.Leaks.{outside, leaked, sums_of, words_of, largest, above}
use Rattle.limits.specs.Defaults.{is_above}
use Rattle.leakage.specs.Leakages.{Basis}
use Rattle.limits.specs.declared.Limits.{Limits}
use Rattle.leakage_laws.specs.Calls.{gathered, basis_words, basis_coeffs, leaks_of, room_of, pass_of, stay_after}
use Rattle.leakage_laws.proofs.KeepLaws.{room_flags}

-- ---- read back
row_at : (R : Rows) (i : ℕ) → i < length R → row (get_or (words_of R) i identity) (get_or (sums_of R) i nan) ≡ get_or R i no_row
row_at [] i h = absurd (omega arith)
row_at (r ∷ R) zero h = refl
row_at (r ∷ R) (suc i) h = row_at R i (omega arith)

pub read_back : (R : Rows) (outWords : List ℕ) (outValues : List Float) → Every Sound (words_of R) → length R ≤ list_places outWords outValues
    → candidate_rows (length R) (laid lay_word 0 (words_of R) outWords) (laid set 0 (sums_of R) outValues) ≡ R
read_back R outWords outValues sound room =
    let nw : length (words_of R) ≡ length R = length-map R (λ r. r.word) in
    let ns : length (sums_of R) ≡ length R = length-map R (λ r. r.sum) in
    let lw = laid_length lay_word word_length 0 (words_of R) outWords in
    let ls = laid_length set length-set 0 (sums_of R) outValues in
    let a : word_lanes * length R ≤ length (laid lay_word 0 (words_of R) outWords) = omega (arith, lw, room) in
    let c : length R ≤ length (laid set 0 (sums_of R) outValues) = omega (arith, ls, room) in
    let long = table_long (length R) (laid lay_word 0 (words_of R) outWords) (laid set 0 (sums_of R) outValues) a c in
    ext_get_or no_row (candidate_rows (length R) (laid lay_word 0 (words_of R) outWords) (laid set 0 (sums_of R) outValues)) R long
    (λ i h.
    let l : i < length R = omega (arith, h, long) in
    table_at (length R) (laid lay_word 0 (words_of R) outWords) (laid set 0 (sums_of R) outValues) i a c l
    ∙ ap₂ (λ (w : Word) (x : Float). row w x)
    (words_here 0 (words_of R) outWords sound (omega (arith, nw, room)) i i (omega arith) (omega (arith, nw)))
    (set_here nan 0 (sums_of R) outValues (omega (arith, ns, room)) i i (omega arith) (omega (arith, ns)))
    ∙ row_at R i l)

-- ---- words of two x and two z lanes
abbrev Sounds : Rows → Type 0
Sounds R = Every (λ (r : Row Word Float). Sound r.word) R

sounds_words : (R : Rows) → Sounds R → Every Sound (words_of R)
sounds_words [] h = tt
sounds_words (r ∷ R) h = (h.0, sounds_words R h.1)

put_sound : (w : Word) (v : Float) (R : Rows) → Sound w → Sounds R → Sounds (put_row w v R)
unfolding put_over
put_sound w v [] s h = (s, tt)
put_sound w v (r ∷ R) s h = go (put_sound w v R s h.1) (before r.word w) (before w r.word)
  where
    go : Sounds (put_row w v R) → (a b : Bool) → Sounds (cond a (r ∷ put_row w v R) (cond b (row w (floats.plus floats.nought v) ∷ r ∷ R) (row r.word (floats.plus r.sum v) ∷ R)))
    go rest true b = (h.0, rest)
    go rest false true = (s, h)
    go rest false false = h

rows_sound : (l R : Rows) → Sounds l → Sounds R → Sounds (put_rows l R)
unfolding put_all
rows_sound [] R k h = h
rows_sound (e ∷ l) R k h = rows_sound l (put_row e.word e.sum R) k.1 (put_sound e.word e.sum R k.0 h)

gathered_sound : (leaks : ℕ → Rows) → ((p : ℕ) → Sounds (leaks p)) → (ps : List ℕ) (R : Rows) → Sounds R → Sounds (gathered leaks ps R)
unfolding gathered
gathered_sound leaks each [] R h = h
gathered_sound leaks each (p ∷ ps) R h = gathered_sound leaks each ps (put_rows (leaks p) R) (rows_sound (leaks p) R (each p) h)

pick_sound : (ks : List ℕ) (R : Rows) → Sounds R → Sounds (pick ks R)
unfolding pick
pick_sound [] R h = tt
pick_sound (k ∷ ks) [] h = tt
pick_sound (k ∷ ks) (r ∷ R) h = go (eqb k 0) (pick_sound ks R h.1)
  where
    go : (b : Bool) → Sounds (pick ks R) → Sounds (cond b (pick ks R) (r ∷ pick ks R))
    go true rest = rest
    go false rest = (h.0, rest)

above_sound : (tau : Float) (R : Rows) → Sounds R → Sounds (above tau R)
unfolding above
above_sound tau [] h = tt
above_sound tau (r ∷ R) h = go (is_above tau r.sum) (above_sound tau R h.1)
  where
    go : (b : Bool) → Sounds (above tau R) → Sounds (cond b (r ∷ above tau R) (above tau R))
    go true rest = (h.0, rest)
    go false rest = rest

leaked_sound : (out : Word → Bool) (p : Word) → (out p ≡ true → Sound p) → (c : Float) (L : List Term) → Every (OfFormed p) L → Sounds (leaked out c L)
unfolding leaked
leaked_sound out p own c [] h = tt
leaked_sound out p own c (x ∷ L) h = go (out x.word) refl (leaked_sound out p own c L h.1)
  where
    formed : Formed p x.word → out x.word ≡ true → Sound x.word
    formed (inl s) e = s
    formed (inr z) e = subst Sound (sym z) (own (ap out (sym z) ∙ e))

    go : (b : Bool) → out x.word ≡ b → Sounds (leaked out c L) → Sounds (cond b (row x.word (floats.times c x.num.re) ∷ leaked out c L) (leaked out c L))
    go true e rest = (formed h.0 e, rest)
    go false e rest = rest

-- a basis word is not outside the basis
among_at : (ws : List Word) (i : ℕ) → i < length ws → is_among (get_or ws i identity) ws ≡ true
unfolding is_among
among_at [] i h = absurd (omega arith)
among_at (w ∷ ws) zero h = ap (λ (b : Bool). b || is_among w ws) (same_self w)
among_at (w ∷ ws) (suc i) h = ap (λ (b : Bool). same w (get_or ws i identity) || b) (among_at ws i (omega arith)) ∙ or_true (same w (get_or ws i identity))
  where
    or_true : (b : Bool) → b || true ≡ true
    or_true true = refl
    or_true false = refl

not_outside : (basis protected : List Word) (i : ℕ) → i < length basis → outside basis protected (get_or basis i identity) ≡ false
unfolding outside
not_outside basis protected i h = ap (λ (b : Bool). not b && not (is_among (get_or basis i identity) protected)) (among_at basis i h)

leaks_sound : (m : Model) (t : ModelTables) (b : Basis) (p : ℕ) → Sounds (leaks_of m t b p)
leaks_sound m t b p =
    leaked_sound (outside (basis_words b) (words b.protected)) (get_or (basis_words b) p identity) (own (ltb p (length (basis_words b))) refl) (get_or (basis_coeffs b) p nan) (action_of m t (get_or (basis_words b) p identity)) (listed_formed (get_or (basis_words b) p identity) m t)
  where
    own : (a : Bool) → ltb p (length (basis_words b)) ≡ a → outside (basis_words b) (words b.protected) (get_or (basis_words b) p identity) ≡ true → Sound (get_or (basis_words b) p identity)
    own true h e = absurd (holds false (sym (not_outside (basis_words b) (words b.protected) p (ltb-true p (length (basis_words b)) h)) ∙ e))
    own false h e = subst Sound (sym (get_or-eq_default (basis_words b) identity (ltb-false p (length (basis_words b)) h))) sound_identity

stay_sound : (m : Model) (t : ModelTables) (b : Basis) (l : Limits) (k : ℕ) → Sounds (stay_after m t b l k)
unfolding stay_after largest
stay_sound m t b l zero = tt
stay_sound m t b l (suc k) =
    let R : Rows = gathered (leaks_of m t b) (pass_of b k) (stay_after m t b l k) in
    pick_sound (room_flags (room_of b l) R) R (gathered_sound (leaks_of m t b) (leaks_sound m t b) (pass_of b k) (stay_after m t b l k) (stay_sound m t b l k))

pub list_sound : (m : Model) (t : ModelTables) (b : Basis) (l : Limits) (tau : Float) (k : ℕ) → Every Sound (words_of (above tau (stay_after m t b l k)))
list_sound m t b l tau k = sounds_words (above tau (stay_after m t b l k)) (above_sound tau (stay_after m t b l k) (stay_sound m t b l k))
