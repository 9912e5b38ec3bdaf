-- SPDX-FileCopyrightText: 2026 The PPVM Authors
-- SPDX-License-Identifier: Apache-2.0

-- A reached word stands in the basis, is protected outside it, or is neither; the first have generator rows, the last are the words
-- that leakage lists, where it lists all that it reaches. Assumes nothing.
use Prim.Native.Nat.{ℕ}
use mathlib.Core.Path.{◌≡◌, refl, sym, ap, ◌∙◌}
use mathlib.Core.Bool.{Bool, true, false, not, ◌&&◌, false≢true}
use mathlib.Core.List.{List, [], ◌∷◌, map}
use mathlib.Core.Logic.{◌⊎◌, inl, inr}
use lib.Ieee.{Float}
use lib.ListN.{length, get_or}
use Rattle.word.specs.Flat.{words}
use Rattle.word.specs.Word.{identity}
use Rattle.word.specs.declared.word.Word.{Word}
use Rattle.order.specs.Places.{is_among}
use Rattle.model.specs.Stored.{ModelTables}
use Rattle.model.specs.Terms.{Term}
use Rattle.model.specs.declared.stored.Model.{Model}
use Rattle.action.specs.Acts.{action_of}
use Rattle.order.specs.Members.{Member}
use Rattle.passes.specs.Leaks.{outside, words_of}
use Rattle.candidates.specs.Tables.{Rows}
use Rattle.leakage.specs.Leakages.{Basis}
use Rattle.leakage_laws.specs.Calls as Leak
use Rattle.generator_laws.specs.Matrices.{HasRow, Reached}
use Rattle.accounting.specs.Homes.{AtMostOne, ProtectedOutside, OnlyReached, Accounted, AccountedWithoutRoom}

-- ---- a term of a list, and its word
record TermOf (w : Word) (L : List Term) : Type 0 where
  pub term : Term
  pub listed : Member term L
  pub word_is : term.word ≡ w

term_of : (w : Word) (L : List Term) → Member w (map (λ (c : Term). c.word) L) → TermOf w L
unfolding Member
term_of w [] h = elim h [ ]
term_of w (c ∷ L) (inl e) = record { term = c; listed = inl refl; word_is = sym e }
term_of w (c ∷ L) (inr h) = let r = term_of w L h in record { term = r.term; listed = inr r.listed; word_is = r.word_is }

has_term : (w : Word) (L : List Term) (c : Term) → Member c L → c.word ≡ w → Member w (map (λ (x : Term). x.word) L)
unfolding Member
has_term w [] c h e = elim h [ ]
has_term w (x ∷ L) c (inl h) e = inl (sym e ∙ ap (λ (y : Term). y.word) h)
has_term w (x ∷ L) c (inr h) e = inr (has_term w L c h e)

-- ---- leakage's reached words, and the generator's
outside_both : (a c : Bool) → (not a && not c) ≡ true → (a ≡ false) × (c ≡ false)
outside_both true c e = absurd (false≢true e)
outside_both false true e = absurd (false≢true e)
outside_both false false e = (refl, refl)

module _ (m : Model) (t : ModelTables) (b : Basis) (each : length (Leak.basis_words b) ≡ b.len) where
  outside_parts : (w : Word) → outside (Leak.basis_words b) (words b.protected) w ≡ true → (is_among w (Leak.basis_words b) ≡ false) × (is_among w (words b.protected) ≡ false)
  unfolding outside
  outside_parts w e = outside_both (is_among w (Leak.basis_words b)) (is_among w (words b.protected)) e

  outside_is : (w : Word) → is_among w (Leak.basis_words b) ≡ false → is_among w (words b.protected) ≡ false → outside (Leak.basis_words b) (words b.protected) w ≡ true
  unfolding outside
  outside_is w e f = rw (e, f) refl

  leaked_reached : (w : Word) → Leak.ReachedOutside m t b w → Reached (action_of m t) (Leak.basis_words b) w
  leaked_reached w r =
      let s = term_of w (action_of m t (get_or (Leak.basis_words b) r.position identity)) r.by_action in
      record { column = r.position; low = rw each r.in_basis; term = s.term; listed = s.listed; word_is = s.word_is }

  reached_leaked : (w : Word) → is_among w (Leak.basis_words b) ≡ false → is_among w (words b.protected) ≡ false → Reached (action_of m t) (Leak.basis_words b) w → Leak.ReachedOutside m t b w
  reached_leaked w e f r = record {
    is_outside = outside_is w e f;
    position = r.column;
    in_basis = rw (← each) r.low;
    by_action = has_term w (action_of m t (get_or (Leak.basis_words b) r.column identity)) r.term r.listed r.word_is;
  }

  -- the entries of the generator's tables: a word has one in its row exactly if it is in the basis and reached
  module _ (has : ℕ → ℕ → Float → Type 0)
      (row-reached : (w : Word) → HasRow (Leak.basis_words b) has w → (is_among w (Leak.basis_words b) ≡ true) × Reached (action_of m t) (Leak.basis_words b) w)
      (reached-row : (w : Word) → is_among w (Leak.basis_words b) ≡ true → Reached (action_of m t) (Leak.basis_words b) w → HasRow (Leak.basis_words b) has w) (R : Rows) where
    only_reached : ((w : Word) → Member w (words_of R) → Leak.ReachedOutside m t b w) → OnlyReached (action_of m t) (Leak.basis_words b) (words b.protected) has (words_of R)
    only_reached every = record {
      rows_reached = λ w h. (row-reached w h).1;
      entries_reached = λ w h. leaked_reached w (every w h);
    }

    -- ---- whatever the limits
    module _ (every : (w : Word) → Member w (words_of R) → Leak.ReachedOutside m t b w) where
      never_two : (w : Word) → AtMostOne (HasRow (Leak.basis_words b) has w) (ProtectedOutside (Leak.basis_words b) (words b.protected) w) (Member w (words_of R))
      never_two w = record {
        not_both = λ h p. false≢true (sym p.0 ∙ (row-reached w h).0);
        not_first_last = λ h e. false≢true (sym (outside_parts w (every w e).is_outside).0 ∙ (row-reached w h).0);
        not_later_both = λ p e. false≢true (sym (outside_parts w (every w e).is_outside).1 ∙ p.1);
      }

      homeless : (w : Word) → Reached (action_of m t) (Leak.basis_words b) w
          → (HasRow (Leak.basis_words b) has w ⊎ (ProtectedOutside (Leak.basis_words b) (words b.protected) w ⊎ Member w (words_of R)) → ⊥)
          → (a c : Bool) → is_among w (Leak.basis_words b) ≡ a → is_among w (words b.protected) ≡ c → (a ≡ false) × (c ≡ false)
      homeless w r h true c e f = absurd (h (inl (reached-row w e r)))
      homeless w r h false true e f = absurd (h (inr (inl (e, f))))
      homeless w r h false false e f = (refl, refl)

      pub accounted_without_room : AccountedWithoutRoom (action_of m t) (Leak.basis_words b) (words b.protected) has (words_of R)
      accounted_without_room = record {
        basis_word = λ w r e. (reached-row w e r, (never_two w).not_both (reached-row w e r), (never_two w).not_first_last (reached-row w e r));
        protected_word = λ w r p. (p, λ h. (never_two w).not_both h p, (never_two w).not_later_both p);
        never_two = never_two;
        none = λ w r h. homeless w r h (is_among w (Leak.basis_words b)) (is_among w (words b.protected)) refl refl;
        only = only_reached every;
      }

    -- ---- where leakage lists all that it reaches
    module _ (l : Leak.ListsReached m t b R) where
      stands : (w : Word) → Reached (action_of m t) (Leak.basis_words b) w → (a c : Bool) → is_among w (Leak.basis_words b) ≡ a → is_among w (words b.protected) ≡ c
          → HasRow (Leak.basis_words b) has w ⊎ (ProtectedOutside (Leak.basis_words b) (words b.protected) w ⊎ Member w (words_of R))
      stands w r true c e f = inl (reached-row w e r)
      stands w r false true e f = inr (inl (e, f))
      stands w r false false e f = inr (inr (l.all w (reached_leaked w e f r)))

      pub accounted : Accounted (action_of m t) (Leak.basis_words b) (words b.protected) has (words_of R)
      accounted = record {
        home = λ w r. record { some = stands w r (is_among w (Leak.basis_words b)) (is_among w (words b.protected)) refl refl; one = never_two l.every w };
        only = only_reached l.every;
      }
