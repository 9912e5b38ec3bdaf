-- SPDX-FileCopyrightText: 2026 The PPVM Authors
-- SPDX-License-Identifier: Apache-2.0

-- An entry between two words of a basis whose words differ is a term of the action that links them, whatever else the basis has and
-- wherever its words stand. So a growing basis changes no entry between old words; and a word has an entry in its row exactly
-- if it is in the basis and reached. Assumes nothing.
use mathlib.Core.Path.{◌≡◌, refl, sym, ap, subst, ◌∙◌}
use mathlib.Core.Bool.{true, not, false≢true}
use mathlib.Core.List.{List}
use Prim.Native.Nat.{ℕ, zero, suc, ◌<◌}
use native.Mathlib.Omega.{arith}
use borrow.Author.Tests.{ne_eqb}
use lib.Dec.{eqb}
use lib.Ieee.{Float}
use lib.ListN.{length, get_or}
use Rattle.word.specs.Word.{identity}
use Rattle.word.specs.declared.word.Word.{Word}
use Rattle.order.specs.Places.{is_among}
use Rattle.slots.specs.Slots.{last_of}
use Rattle.slots.proofs.SlotLaws.{holds}
use Rattle.slots.proofs.PlaceLaws.{last_after}
use Rattle.model.specs.Stored.{ModelTables}
use Rattle.model.specs.Terms.{Term}
use Rattle.model.specs.declared.stored.Model.{Model}
use Rattle.action.specs.Acts.{action_of}
use Rattle.columns.specs.Entries.{entry}
use Rattle.columns.specs.Columns.{place_in, generator_of}
use Rattle.order.specs.Members.{Member}
use Rattle.columns.specs.Repeats.{first_repeat}
use Rattle.columns.proofs.MemberLaws.{entered, enters, place_is, place_word}
use Rattle.generator_laws.specs.Matrices.{Between, Grown, Unchanged, HasRow, Reached}
use Rattle.columns.specs.Between.{Entered}

-- ---- words of a basis
record At (bs : List Word) (w : Word) : Type 0 where
  pub place : ℕ
  pub low : place < length bs
  pub is : get_or bs place identity ≡ w

among_at : (bs : List Word) (w : Word) → is_among w bs ≡ true → At bs w
among_at bs w e = go (place_in bs w) refl
  where
    go : (p : ℕ) → place_in bs w ≡ p → At bs w
    go zero f = absurd (false≢true (ap (λ (k : ℕ). not (eqb k 0)) (sym f) ∙ holds w bs ∙ e))
    go (suc r) f = let p = place_word bs w r f in record { place = r; low = p.0; is = p.1 }

at_among : (bs : List Word) (w : Word) (r : ℕ) → r < length bs → get_or bs r identity ≡ w → is_among w bs ≡ true
at_among bs w r h e =
    let a = last_after w bs (length bs) r h e in
    sym (holds w bs) ∙ ap not (ne_eqb (last_of w bs (length bs)) 0 (λ z. omega (arith, a, z)))

-- ---- tables that hold exactly the entries of the generator
pub record Exact (m : Model) (t : ModelTables) (bs : List Word) (has : ℕ → ℕ → Float → Type 0) : Type 0 where
  pub differ : first_repeat bs ≡ length bs
  pub hold : (r c : ℕ) (v : Float) → r < length bs → Member (entry r c v) (generator_of m t bs) → has r c v
  pub held : (r c : ℕ) (v : Float) → r < length bs → has r c v → Member (entry r c v) (generator_of m t bs)

-- a term of the action on q whose word is p
record Linked (act : Word → List Term) (p q : Word) (v : Float) : Type 0 where
  pub term : Term
  pub listed : Member term (act q)
  pub word_is : term.word ≡ p
  pub value : v ≡ term.num.re

module _ (m : Model) (t : ModelTables) (bs : List Word) (has : ℕ → ℕ → Float → Type 0) (x : Exact m t bs has) where
  module _ (p q : Word) (v : Float) where
    linked : Between bs has p q v → Linked (action_of m t) p q v
    linked b =
        let e : Entered (action_of m t) bs b.row b.column v = entered m t bs b.row b.column v (x.held b.row b.column v b.row_low b.stands) in
        let w = place_word bs e.term.word b.row e.place in
        record { term = e.term; listed = rw (← b.column_word) e.reached; word_is = sym w.1 ∙ b.row_word; value = e.value }

    between : is_among p bs ≡ true → is_among q bs ≡ true → Linked (action_of m t) p q v → Between bs has p q v
    between hp hq l =
        let r = among_at bs p hp in
        let c = among_at bs q hq in
        let n : place_in bs l.term.word ≡ suc r.place = ap (place_in bs) (l.word_is ∙ sym r.is) ∙ place_is bs x.differ r.place r.low in
        let e : Entered (action_of m t) bs r.place c.place v = record { low = c.low; term = l.term; reached = rw c.is l.listed; place = n; value = l.value } in
        record {
          row = r.place;
          column = c.place;
          row_low = r.low;
          column_low = c.low;
          row_word = r.is;
          column_word = c.is;
          stands = x.hold r.place c.place v r.low (enters m t bs r.place c.place v e);
        }

  -- ---- generator rows
  pub row_reached : (w : Word) → HasRow bs has w → (is_among w bs ≡ true) × Reached (action_of m t) bs w
  row_reached w h =
      let b = h.entered in
      let l = linked w h.column h.value b in
      (at_among bs w b.row b.row_low b.row_word, record { column = b.column; low = b.column_low; term = l.term; listed = rw b.column_word l.listed; word_is = l.word_is })

  pub reached_row : (w : Word) → is_among w bs ≡ true → Reached (action_of m t) bs w → HasRow bs has w
  reached_row w e r =
      let q : Word = get_or bs r.column identity in
      record {
        column = q;
        value = r.term.num.re;
        entered = between w q r.term.num.re e (at_among bs q r.column r.low refl) (record { term = r.term; listed = r.listed; word_is = r.word_is; value = refl });
      }

-- ---- a growing basis
relinked : (act act' : Word → List Term) → ((q : Word) → act q ≡ act' q) → (p q : Word) (v : Float) → Linked act p q v → Linked act' p q v
relinked act act' same p q v l = record { term = l.term; listed = subst (Member l.term) (same q) l.listed; word_is = l.word_is; value = l.value }

-- over models that act alike
pub growth : (m m' : Model) (t t' : ModelTables) → ((q : Word) → action_of m t q ≡ action_of m' t' q) → (bs bs' : List Word) (has has' : ℕ → ℕ → Float → Type 0)
    → Exact m t bs has → Exact m' t' bs' has' → Grown bs bs' → Unchanged bs has bs' has'
growth m m' t t' same bs bs' has has' x x' g = record {
  kept = λ p q v hp hq b. between m' t' bs' has' x' p q v (g p hp) (g q hq) (relinked (action_of m t) (action_of m' t') same p q v (linked m t bs has x p q v b));
  none = λ p q v hp hq b. between m t bs has x p q v hp hq (relinked (action_of m' t') (action_of m t) (λ w. sym (same w)) p q v (linked m' t' bs' has' x' p q v b));
}
