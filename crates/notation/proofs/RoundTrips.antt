-- SPDX-FileCopyrightText: 2026 The PPVM Authors
-- SPDX-License-Identifier: Apache-2.0

-- No site folds back: a text read at n has at each qubit below n its own letter and nothing above; codes written and
-- read again give the word, and the other way round. Assumes nothing.
use mathlib.Core.Path.{◌≡◌, refl, sym, ap, ◌∙◌, subst⁻¹}
use mathlib.Core.Bool.{Bool, true, false, ◌&&◌}
use mathlib.Core.List.{List, [], ◌∷◌, ◌++◌}
use Prim.Native.Nat.{ℕ, zero, suc, ◌<◌, ◌≤◌}
use native.Mathlib.Omega.{arith}
use native.Mathlib.Decide.{dec_lt, ℕ_discrete}
use borrow.Author.Tests.{lt-ltb, le-ltb, le-leb, lt-leb, ltb-false, eqb-true, not-false}
use lib.Dec.{leb}
use lib.ListN.{get_or, length, drop, take, get_or-eq_default}
use lib.Seq.{ext_get_or, take_at}
use Rattle.refusal.specs.declared.Refusal.{Refusal}
use Rattle.std.specs.Prelude.{Result, Ok, Err}
use Rattle.refusal.specs.Cause.{Answer}
use Rattle.refusal.proofs.Told.{refused_not, accepted_same}
use Rattle.word.specs.Count.{tabulate}
use Rattle.word.specs.Word.{max_qubits, letter_at, word_of, Sound}
use Rattle.notation.specs.Text.{code_of, dropped, first_where, no_letter, read_letters, parse}
use Rattle.notation.specs.Codes.{no_code, read_codes, write_answer, write_for, written}
use Rattle.word.specs.Register.{acts_on, reaches}
use Rattle.word.specs.declared.word.Word.{Word}
use Rattle.notation.specs.Between.{scan_from}
use Rattle.word.proofs.Sums.{any_false, any_none, length_tabulate, get_d_tabulate}
use Rattle.notation.proofs.TextLaws.{first_here, first_later, refuse_first, refuse_none, letters_counted, parse_wide, parse_foreign, parse_length, parse_letters, codes_wide, write_wide, write_short, write_outside}
use Rattle.word.proofs.Words.{sound_word_of, letter_word_of, letter_beyond, word_is}
use Rattle.word.proofs.WordLaws.{word_letter_lt}

-- ---- texts
pub record Text (n : ℕ) (text : List ℕ) (w : Word) : Type 0 where
  pub whole : length (dropped text) ≡ n
  pub sound : Sound w
  pub below : (q : ℕ) → q < n → letter_at w q ≡ code_of (get_or (dropped text) q 73)
  pub above : (q : ℕ) → n ≤ q → letter_at w q ≡ 0

none_before : (p : ℕ → Bool) (s : List ℕ) → length s ≤ first_where p s → (q : ℕ) → q < length s → p (get_or s q 0) ≡ false
none_before p [] h q l = absurd (omega arith)
none_before p (b ∷ s) h q l = go (p b) refl (none_before p s) q l
  where
    go : (t : Bool) → p b ≡ t → (length s ≤ first_where p s → (q : ℕ) → q < length s → p (get_or s q 0) ≡ false) → (q : ℕ) → q < length (b ∷ s) → p (get_or (b ∷ s) q 0) ≡ false
    go true e r q l = absurd (omega (arith, first_here p b s e))
    go false e r zero l = e
    go false e r (suc q) l = r (omega (arith, first_later p b s e)) q (omega arith)

no_first : (p : ℕ → Bool) (s : List ℕ) → ((q : ℕ) → q < length s → p (get_or s q 0) ≡ false) → length s ≤ first_where p s
no_first p [] h = omega arith
no_first p (b ∷ s) h =
    let e = first_later p b s (h 0 (omega arith)) in
    let r = no_first p s (λ q l. h (suc q) (omega arith)) in
    omega arith

any_default : (s : List ℕ) (q c d : ℕ) → q < length s → get_or s q c ≡ get_or s q d
any_default [] q c d h = absurd (omega arith)
any_default (b ∷ s) zero c d h = refl
any_default (b ∷ s) (suc q) c d h = any_default s q c d (omega arith)

-- the word of a list of letters, with I above
module _ (f : ℕ → ℕ) (n : ℕ) (fits : n ≤ max_qubits) (below : (q : ℕ) → q < n → f q < 4) (above : (q : ℕ) → n ≤ q → f q ≡ 0) (l : Word) (e : word_of f ≡ l) where
  pub its_word : l ≡ word_of f
  its_word = sym e

  pub its_letters : (q : ℕ) → q < n → letter_at l q ≡ f q
  its_letters q h = ap (λ (w : Word). letter_at w q) its_word ∙ letter_word_of f q (omega arith) (below q h)

  pub none_above : (q : ℕ) → n ≤ q → letter_at l q ≡ 0
  none_above q h = ap (λ (w : Word). letter_at w q) its_word ∙ go (dec_lt q max_qubits)
    where
      go : Dec (q < max_qubits) → letter_at (word_of f) q ≡ 0
      go (yes k) = letter_word_of f q k (omega (arith, above q h)) ∙ above q h
      go (no k) = letter_beyond f q (omega arith)

past_letters : (s : List ℕ) (q : ℕ) → length s ≤ q → code_of (get_or s q 73) ≡ 0
unfolding code_of
past_letters s q h = ap code_of (get_or-eq_default s 73 h)

letter_code : (s : List ℕ) (q : ℕ) → q < length s → no_letter (get_or s q 0) ≡ false → code_of (get_or s q 73) < 4
letter_code s q h k = omega (arith, ltb-false 3 (code_of (get_or s q 0)) k, ap code_of (any_default s q 73 0 h))

module _ (n : ℕ) (text : List ℕ) (l : Word) (fits : n ≤ max_qubits) (whole : length (dropped text) ≡ n) where
  abbrev s : List ℕ
  s = dropped text

  abbrev f : ℕ → ℕ
  f q = code_of (get_or s q 73)

  all_letters : length s ≤ first_where no_letter s → word_of f ≡ l → Text n text l
  all_letters h e =
      let below : (q : ℕ) → q < n → f q < 4 = λ q k. letter_code s q (omega arith) (none_before no_letter s h q (omega arith)) in
      let above : (q : ℕ) → n ≤ q → f q ≡ 0 = λ q k. past_letters s q (omega arith) in
      record { whole = whole; sound = subst⁻¹ Sound (its_word f n fits below above l e) (sound_word_of f); below = its_letters f n fits below above l e; above = none_above f n fits below above l e }

  letters_are : read_letters s ≡ Ok l → Text n text l
  unfolding read_letters
  letters_are e = go (dec_lt (first_where no_letter s) (length s))
    where
      go : Dec (first_where no_letter s < length s) → Text n text l
      go (yes h) = absurd (refused_not _ _ (sym (refuse_first no_letter s _ h) ∙ e))
      go (no h) = all_letters (omega arith) (accepted_same _ _ (sym (refuse_none no_letter s _ (omega arith)) ∙ e))

pub text_read : (n : ℕ) (text : List ℕ) (l : Word) → parse n text ≡ Ok l → Text n text l
text_read n text l e = go (dec_lt max_qubits n) (scan_from 0 text) refl
  where
    counted : (k : ℕ) → n ≤ max_qubits → scan_from 0 text ≡ Ok k → Dec (k ≡ n) → Text n text l
    counted k fits f (yes m) = letters_are n text l fits (letters_counted n text k f ∙ m) (parse_letters n text fits k f m ∙ e)
    counted k fits f (no m) = absurd (refused_not _ _ (parse_length n text fits k f m ∙ e))

    go : Dec (max_qubits < n) → (found : Result ℕ Refusal) → scan_from 0 text ≡ found → Text n text l
    go (yes h) found f = absurd (refused_not _ _ (parse_wide n text h ∙ e))
    go (no h) (Err r) f = absurd (refused_not _ _ (parse_foreign n text (omega arith) r f ∙ e))
    go (no h) (Ok k) f = counted k (omega arith) f (ℕ_discrete k n)

-- ---- codes
pub record Codes (s : List ℕ) (w : Word) : Type 0 where
  pub few : length s ≤ max_qubits
  pub sound : Sound w
  pub below : (q : ℕ) → q < length s → letter_at w q ≡ get_or s q 0
  pub above : (q : ℕ) → length s ≤ q → letter_at w q ≡ 0

module _ (s : List ℕ) (l : Word) (fits : length s ≤ max_qubits) where
  abbrev g : ℕ → ℕ
  g q = get_or s q 0

  all_codes_are : length s ≤ first_where no_code s → word_of g ≡ l → Codes s l
  all_codes_are h e =
      let below : (q : ℕ) → q < length s → g q < 4 = λ q k. omega (arith, ltb-false 3 (get_or s q 0) (none_before no_code s h q k)) in
      let above : (q : ℕ) → length s ≤ q → g q ≡ 0 = λ q k. get_or-eq_default s 0 k in
      record {
        few = fits;
        sound = subst⁻¹ Sound (its_word g (length s) fits below above l e) (sound_word_of g);
        below = its_letters g (length s) fits below above l e;
        above = none_above g (length s) fits below above l e;
      }

  codes_are : read_codes s ≡ Ok l → Codes s l
  unfolding read_codes
  codes_are e = go (dec_lt (first_where no_code s) (length s))
    where
      go : Dec (first_where no_code s < length s) → Codes s l
      go (yes h) = absurd (refused_not _ _ (rw (le-ltb max_qubits (length s) fits, lt-ltb (first_where no_code s) (length s) h) at e))
      go (no h) = all_codes_are (omega arith) (accepted_same _ _ (rw (le-ltb max_qubits (length s) fits, le-ltb (first_where no_code s) (length s) (omega arith)) at e))

pub codes_read_are : (s : List ℕ) (l : Word) → read_codes s ≡ Ok l → Codes s l
codes_read_are s l e = go (dec_lt max_qubits (length s))
  where
    go : Dec (max_qubits < length s) → Codes s l
    go (yes h) = absurd (refused_not _ _ (codes_wide s h ∙ e))
    go (no h) = codes_are s l (omega arith) e

-- read, then written
module _ (s : List ℕ) (l : Word) (e : read_codes s ≡ Ok l) (out : List ℕ) (room : length s ≤ length out) where
  no_reach : reaches l (length s) ≡ false
  unfolding reaches
  no_reach = any_none max_qubits _ (λ q h. go q (dec_lt q (length s)))
    where
      go : (q : ℕ) → Dec (q < length s) → (leb (length s) q && acts_on l q) ≡ false
      go q (yes k) = rw (lt-leb (length s) q k)
      go q (no k) = rw (le-leb (length s) q (omega arith), (codes_read_are s l e).above q (omega arith))

  pub read_written : (write_answer l (length s) out ≡ Ok tt) × (written l (length s) out ≡ s ++ drop (length s) out)
  unfolding write_answer written
  read_written =
      let k = codes_read_are s l e in
      let a : write_answer l (length s) out ≡ Ok tt = rw (le-ltb max_qubits (length s) k.few, le-ltb (length out) (length s) room, no_reach) in
      let t : tabulate (length s) (letter_at l) ≡ s =
      ext_get_or 0 _ s (length_tabulate (length s) _) (λ i h. get_d_tabulate 0 (length s) _ i (omega (arith, length_tabulate (length s) (letter_at l))) ∙ k.below i (omega (arith, length_tabulate (length s) (letter_at l)))) in
      (a, ap (λ (b : Answer). write_for b l (length s) out) a ∙ ap (λ (c : List ℕ). c ++ drop (length s) out) t)

-- written, then read
module _ (w : Word) (n : ℕ) (out : List ℕ) (e : write_answer w n out ≡ Ok tt) where
  few : n ≤ max_qubits
  few = go (dec_lt max_qubits n)
    where
      go : Dec (max_qubits < n) → n ≤ max_qubits
      go (yes h) = absurd (refused_not _ tt ((write_wide w n out h).answers ∙ e))
      go (no h) = omega arith

  inside : reaches w n ≡ false
  inside = go (dec_lt (length out) n) (reaches w n) refl
    where
      go : Dec (length out < n) → (b : Bool) → reaches w n ≡ b → reaches w n ≡ false
      go (yes h) b f = absurd (refused_not _ tt ((write_short w n out few h).answers ∙ e))
      go (no h) true f = absurd (refused_not _ tt ((write_outside w n out few (omega arith) f).answers ∙ e))
      go (no h) false f = f

  above_none : (q : ℕ) → q < max_qubits → n ≤ q → letter_at w q ≡ 0
  unfolding reaches
  above_none q h k = eqb-true (letter_at w q) 0 (not-false _ (second (leb n q) (acts_on w q) (le-leb n q k) (any_false max_qubits _ inside q h)))
    where
      second : (a b : Bool) → a ≡ true → (a && b) ≡ false → b ≡ false
      second true b h e = e
      second false b h e = cc

  abbrev codes : List ℕ
  codes = tabulate n (letter_at w)

  code_at : (q : ℕ) → q < n → get_or codes q 0 ≡ letter_at w q
  code_at q h = get_d_tabulate 0 n (letter_at w) q h

  no_bad_code : length codes ≤ first_where no_code codes
  no_bad_code = no_first no_code codes (λ q h. le-ltb 3 (get_or codes q 0) (omega (arith, length_tabulate n (letter_at w), word_letter_lt w q, code_at q (omega (arith, length_tabulate n (letter_at w))))))

  same_letters : (q : ℕ) → q < max_qubits → letter_at w q ≡ get_or codes q 0
  same_letters q h = go (dec_lt q n)
    where
      go : Dec (q < n) → letter_at w q ≡ get_or codes q 0
      go (yes k) = sym (code_at q k)
      go (no k) = above_none q h (omega arith) ∙ sym (get_or-eq_default codes 0 (omega (arith, length_tabulate n (letter_at w))))

  pub written_read : Sound w → read_codes (take n (written w n out)) ≡ Ok w
  unfolding read_codes written
  written_read s =
      let t : take n (write_for (write_answer w n out) w n out) ≡ codes =
      ap (λ (a : Answer). take n (write_for a w n out)) e ∙ take_at codes (drop n out) n (length_tabulate n (letter_at w)) in
      rw (t, le-ltb max_qubits (length codes) (omega (arith, few, length_tabulate n (letter_at w))), le-ltb (first_where no_code codes) (length codes) no_bad_code)
      (ap (λ (v : Word). Ok v) (sym (word_is w (λ q. get_or codes q 0) s same_letters)))
