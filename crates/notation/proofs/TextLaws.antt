-- SPDX-FileCopyrightText: 2026 The PPVM Authors
-- SPDX-License-Identifier: Apache-2.0

-- Reading letter by letter: what is left of a text, the first place that fails a test, a word whose first letters are
-- read, and codes written place by place. Assumes nothing.
use mathlib.Core.Path.{◌≡◌, refl, sym, ap, ap₂, ◌∙◌, subst⁻¹}
use mathlib.Core.Bool.{Bool, true, false, cond}
use mathlib.Core.List.{List, [], ◌∷◌, ◌++◌}
use Prim.Native.Nat.{ℕ, zero, suc, ◌+◌, ◌<◌, ◌≤◌}
use native.Mathlib.Nat.{add-suc}
use native.Mathlib.Numerals.{add-one}
use native.Mathlib.Omega.{arith}
use native.Mathlib.Decide.{ℕ_discrete, dec_lt}
use borrow.Author.Tests.{lt-ltb, le-ltb, le-leb, lt-leb, eq-eqb, ne_eqb}
use lib.Dec.{eqb, ltb}
use lib.ListN.{get_or, length, drop, set, length-drop, get_or-eq_default}
use lib.Seq.{drop-cons, get_or-drop, drop-length, drop-drop, set_at, append_snoc}
use Rattle.refusal.specs.declared.Refusal.TheVariants.{TooManyQubits, WrongLength, InvalidPauliByte, InvalidPauliCode, LengthMismatch, WordOutsideRegister}
use Rattle.refusal.specs.declared.Refusal.{Refusal}
use Rattle.std.specs.Prelude.{Result, Ok, Err}
use Rattle.refusal.specs.Cause.{Answer}
use Rattle.word.specs.Count.{tabulate}
use Rattle.word.specs.Word.{max_qubits, letter_at, word_of, identity, Sound}
use Rattle.notation.specs.Text.{code_of, dropped, first_where, refuse_byte, foreign, no_letter, read_letters, parse}
use Rattle.notation.specs.Codes.{no_code, read_codes, write_answer, write_for, written}
use Rattle.word.specs.Register.{reaches}
use Rattle.word.specs.Steps.{chosen, Put}
use Rattle.notation.specs.Between.{scan_from, Wrote}
use Rattle.word.specs.declared.word.Word.{Word}
use Rattle.word.proofs.Sums.{length_tabulate}
use Rattle.word.proofs.Words.{word_is}
use Rattle.word.proofs.WordLaws.{letter_identity, sound_identity}

-- ---- the first place that passes a test
module _ (p : ℕ → Bool) where
  -- at the head
  pub first_here : (b : ℕ) (s : List ℕ) → p b ≡ true → first_where p (b ∷ s) ≡ 0
  unfolding first_where
  first_here b s h = rw h

  pub first_later : (b : ℕ) (s : List ℕ) → p b ≡ false → first_where p (b ∷ s) ≡ suc (first_where p s)
  unfolding first_where
  first_later b s h = rw h

  -- none of the first q passes
  pub record Passed (q : ℕ) (s : List ℕ) : Type 0 where
    pub inside : q ≤ length s
    pub none : first_where p s ≡ q + first_where p (drop q s)

  pub passed_none : (s : List ℕ) → Passed 0 s
  passed_none s = record { inside = omega arith; none = omega arith }

  pub passed_more : (q : ℕ) (s : List ℕ) → Passed q s → q < length s → p (get_or s q 0) ≡ false → Passed (q + 1) s
  passed_more q s h l f =
      let e = ap (first_where p) (drop-cons s q 0 l) ∙ first_later (get_or s q 0) (drop (suc q) s) f in
      rw (add-one q) (record { inside = l; none = omega (arith, h.none) })

  -- the first that does
  pub found_here : (q : ℕ) (s : List ℕ) → Passed q s → q < length s → p (get_or s q 0) ≡ true → first_where p s ≡ q
  found_here q s h l t =
      let e = ap (first_where p) (drop-cons s q 0 l) ∙ first_here (get_or s q 0) (drop (suc q) s) t in
      omega (arith, h.none)

  -- none at all
  pub found_none : (s : List ℕ) → Passed (length s) s → first_where p s ≡ length s
  unfolding first_where
  found_none s h = let e = ap (first_where p) (drop-length s) in omega (arith, h.none)

-- ---- a word whose first q letters are f 0, f 1, ..
abbrev up_to : ℕ → (ℕ → ℕ) → ℕ → ℕ
up_to q f k = chosen (ltb k q) (f k) 0

pub record ReadTo (f : ℕ → ℕ) (q : ℕ) (w : Word) : Type 0 where
  pub letters : (k : ℕ) → letter_at w k ≡ up_to q f k
  pub sound : Sound w

module _ (f : ℕ → ℕ) where
  pub read_none : (w : Word) → w ≡ identity → ReadTo f 0 w
  read_none w e = record {
    letters = λ k. ap (λ (v : Word). letter_at v k) e ∙ letter_identity k ∙ sym (rw (le-ltb k 0 (omega arith)));
    sound = subst⁻¹ Sound e sound_identity;
  }

  -- one letter more
  pub read_more : (q : ℕ) (w v : Word) (c : ℕ) → ReadTo f q w → c ≡ f q → Put w q c v → ReadTo f (q + 1) v
  read_more q w v c h e put = record { letters = λ k. put.letters k ∙ go k (ℕ_discrete k q) (dec_lt k q); sound = put.sound }
    where
      go : (k : ℕ) → Dec (k ≡ q) → Dec (k < q) → chosen (eqb k q) c (letter_at w k) ≡ up_to (q + 1) f k
      go k (yes i) d = rw (eq-eqb k q i, lt-ltb k (q + 1) (omega arith)) (e ∙ ap f (sym i))
      go k (no i) (yes l) = rw (ne_eqb k q i, lt-ltb k (q + 1) (omega arith)) (h.letters k ∙ rw (lt-ltb k q l))
      go k (no i) (no l) = rw (ne_eqb k q i, le-ltb k (q + 1) (omega arith)) (h.letters k ∙ rw (le-ltb k q (omega arith)))

  -- an I leaves the word as it is
  pub read_none_more : (q : ℕ) (w : Word) → ReadTo f q w → f q ≡ 0 → ReadTo f (q + 1) w
  read_none_more q w h z = record { letters = λ k. h.letters k ∙ go k (ℕ_discrete k q) (dec_lt k q); sound = h.sound }
    where
      go : (k : ℕ) → Dec (k ≡ q) → Dec (k < q) → up_to q f k ≡ up_to (q + 1) f k
      go k (yes i) d = rw (le-ltb k q (omega arith), lt-ltb k (q + 1) (omega arith)) (sym (ap f i ∙ z))
      go k (no i) (yes l) = rw (lt-ltb k q l, lt-ltb k (q + 1) (omega arith))
      go k (no i) (no l) = rw (le-ltb k q (omega arith), le-ltb k (q + 1) (omega arith))

  -- all letters read, and I above
  pub read_all : (q : ℕ) (w : Word) → ReadTo f q w → ((k : ℕ) → q ≤ k → f k ≡ 0) → w ≡ word_of f
  read_all q w h above = word_is w f h.sound (λ k l. h.letters k ∙ go k (dec_lt k q))
    where
      go : (k : ℕ) → Dec (k < q) → up_to q f k ≡ f k
      go k (yes l) = rw (lt-ltb k q l)
      go k (no l) = rw (le-ltb k q (omega arith)) (sym (above k (omega arith)))

-- ---- a first look at what is left of a text
module _ (text : List ℕ) (k i : ℕ) (h : i < length text) where
  left_from : drop i text ≡ get_or text i 0 ∷ drop (i + 1) text
  left_from = rw (add-one i) (drop-cons text i 0 h)

  pub scan_underscore : get_or text i 0 ≡ 95 → scan_from k (drop i text) ≡ scan_from k (drop (i + 1) text)
  unfolding scan_from
  scan_underscore e = ap (scan_from k) left_from ∙ rw (eq-eqb (get_or text i 0) 95 e)

  pub scan_letter : (get_or text i 0 ≡ 95 → ⊥) → get_or text i 0 < 128 → scan_from k (drop i text) ≡ scan_from (k + 1) (drop (i + 1) text)
  unfolding scan_from
  scan_letter n l = ap (scan_from k) left_from ∙ rw (ne_eqb (get_or text i 0) 95 n, lt-leb 128 (get_or text i 0) l, add-one k)

  pub scan_foreign : (get_or text i 0 ≡ 95 → ⊥) → 128 ≤ get_or text i 0 → scan_from k (drop i text) ≡ Err (InvalidPauliByte (get_or text i 0) k)
  unfolding scan_from
  scan_foreign n l = ap (scan_from k) left_from ∙ rw (ne_eqb (get_or text i 0) 95 n, le-leb 128 (get_or text i 0) l)

pub scan_end : (text : List ℕ) (k i : ℕ) → i ≡ length text → scan_from k (drop i text) ≡ Ok k
unfolding scan_from
scan_end text k i e = ap (λ (j : ℕ). scan_from k (drop j text)) e ∙ ap (scan_from k) (drop-length text)

-- what it finds: the first byte from 128 up, or how many letters there are
abbrev found : ℕ → List ℕ → Result ℕ Refusal
found k s =
    cond (ltb (first_where foreign s) (length s))
    (Err (InvalidPauliByte (get_or s (first_where foreign s) 0) (k + first_where foreign s)))
    (Ok (k + length s))

found_more : (k b : ℕ) (s : List ℕ) → b < 128 → found k (b ∷ s) ≡ found (suc k) s
found_more k b s l =
    let f = first_where foreign s in
    let e : first_where foreign (b ∷ s) ≡ suc f = first_later foreign b s (lt-leb 128 b l) in
    let m : suc (k + f) ≡ suc k + f = omega arith in
    let n : suc (k + length s) ≡ suc k + length s = omega arith in
    rw (e, add-suc k f, add-suc k (length s), m, n) (ap (λ (t : Bool). cond t (Err (InvalidPauliByte (get_or s f 0) (suc k + f))) (Ok (suc k + length s))) (ltb_suc f (length s)))
  where
    ltb_suc : (a b : ℕ) → ltb (suc a) (suc b) ≡ ltb a b
    ltb_suc a b = go (dec_lt a b)
      where
        go : Dec (a < b) → ltb (suc a) (suc b) ≡ ltb a b
        go (yes h) = lt-ltb (suc a) (suc b) (omega arith) ∙ sym (lt-ltb a b h)
        go (no h) = le-ltb (suc a) (suc b) (omega arith) ∙ sym (le-ltb a b (omega arith))

found_now : (k b : ℕ) (s : List ℕ) → 128 ≤ b → found k (b ∷ s) ≡ Err (InvalidPauliByte b k)
found_now k b s l =
    let e : first_where foreign (b ∷ s) ≡ 0 = first_here foreign b s (le-leb 128 b l) in
    let z : k + 0 ≡ k = omega arith in
    rw (e, z, lt-ltb 0 (suc (length s)) (omega arith))

found_end : (k : ℕ) → Ok k ≡ found k []
unfolding first_where
found_end k = let z : k + 0 ≡ k = omega arith in rw z

scan_finds : (k : ℕ) (text : List ℕ) → scan_from k text ≡ found k (dropped text)
unfolding scan_from dropped
scan_finds k [] = found_end k
scan_finds k (b ∷ s) = go (ℕ_discrete b 95) (dec_lt b 128) (scan_finds k s) (scan_finds (suc k) s)
  where
    go : Dec (b ≡ 95) → Dec (b < 128) → scan_from k s ≡ found k (dropped s) → scan_from (suc k) s ≡ found (suc k) (dropped s)
        → scan_from k (b ∷ s) ≡ found k (dropped (b ∷ s))
    go (yes e) d h g = rw (eq-eqb b 95 e) h
    go (no n) (yes l) h g = rw (ne_eqb b 95 n, lt-leb 128 b l) (g ∙ sym (found_more k b (dropped s) l))
    go (no n) (no l) h g = rw (ne_eqb b 95 n, le-leb 128 b (omega arith)) (sym (found_now k b (dropped s) (omega arith)))

-- ---- the text reader's answers
pub refuse_first : (p : ℕ → Bool) (s : List ℕ) (after : Result Word Refusal) → first_where p s < length s
    → refuse_byte p s after ≡ Err (InvalidPauliByte (get_or s (first_where p s) 0) (first_where p s))
unfolding refuse_byte
refuse_first p s after h = rw (lt-ltb (first_where p s) (length s) h)

pub refuse_none : (p : ℕ → Bool) (s : List ℕ) (after : Result Word Refusal) → length s ≤ first_where p s → refuse_byte p s after ≡ after
unfolding refuse_byte
refuse_none p s after h = rw (le-ltb (first_where p s) (length s) h)

module _ (n : ℕ) (text : List ℕ) where
  pub parse_wide : max_qubits < n → Err (TooManyQubits n max_qubits) ≡ parse n text
  unfolding parse
  parse_wide h = rw (lt-ltb max_qubits n h)

  abbrev s : List ℕ
  s = dropped text

  found_foreign : (r : Refusal) → found 0 s ≡ Err r → (first_where foreign s < length s) × (InvalidPauliByte (get_or s (first_where foreign s) 0) (first_where foreign s) ≡ r)
  found_foreign r e = go (dec_lt (first_where foreign s) (length s))
    where
      go : Dec (first_where foreign s < length s) → (first_where foreign s < length s) × (InvalidPauliByte (get_or s (first_where foreign s) 0) (first_where foreign s) ≡ r)
      go (yes l) =
          let f = (rw (lt-ltb (first_where foreign s) (length s) l) at e) in
          let z : 0 + first_where foreign s ≡ first_where foreign s = omega arith in
          (l, cc)
      go (no l) =
          let f = (rw (le-ltb (first_where foreign s) (length s) (omega arith)) at e) in
          let z : ◌≡◌ {A = ℕ} 0 1 = cc in absurd (omega arith)

  found_letters : (k : ℕ) → found 0 s ≡ Ok k → (length s ≤ first_where foreign s) × (length s ≡ k)
  found_letters k e = go (dec_lt (first_where foreign s) (length s))
    where
      go : Dec (first_where foreign s < length s) → (length s ≤ first_where foreign s) × (length s ≡ k)
      go (yes l) =
          let f = (rw (lt-ltb (first_where foreign s) (length s) l) at e) in
          let z : ◌≡◌ {A = ℕ} 0 1 = cc in absurd (omega arith)
      go (no l) =
          let f = (rw (le-ltb (first_where foreign s) (length s) (omega arith)) at e) in
          let z : 0 + length s ≡ length s = omega arith in
          (omega arith, sym z ∙ cc)

  pub letters_counted : (k : ℕ) → scan_from 0 text ≡ Ok k → length (dropped text) ≡ k
  letters_counted k e = (found_letters k (sym (scan_finds 0 text) ∙ e)).1

  module _ (fits : n ≤ max_qubits) where
    pub parse_foreign : (r : Refusal) → scan_from 0 text ≡ Err r → Err r ≡ parse n text
    unfolding parse
    parse_foreign r e =
        let f = found_foreign r (sym (scan_finds 0 text) ∙ e) in
        rw (le-ltb max_qubits n fits) (ap Err (sym f.1) ∙ sym (refuse_first foreign s _ f.0))

    pub parse_length : (k : ℕ) → scan_from 0 text ≡ Ok k → (k ≡ n → ⊥) → Err (WrongLength n k) ≡ parse n text
    unfolding parse
    parse_length k e m =
        let f = found_letters k (sym (scan_finds 0 text) ∙ e) in
        rw (le-ltb max_qubits n fits)
        (sym (refuse_none foreign s _ f.0 ∙ rw (ne_eqb (length s) n (λ h. m (sym f.1 ∙ h))) (ap (λ (k : ℕ). Err (WrongLength n k)) f.1)))

    pub parse_letters : (k : ℕ) → scan_from 0 text ≡ Ok k → k ≡ n → read_letters s ≡ parse n text
    unfolding parse
    parse_letters k e m =
        let f = found_letters k (sym (scan_finds 0 text) ∙ e) in
        rw (le-ltb max_qubits n fits) (sym (refuse_none foreign s _ f.0 ∙ rw (eq-eqb (length s) n (f.1 ∙ m))))

    pub counted : (k : ℕ) → scan_from 0 text ≡ Ok k → k ≡ n → length (dropped text) ≤ max_qubits
    counted k e m = omega (arith, letters_counted k e)

-- ---- letter by letter: s is the text without underscores, of which q letters are read
module _ (text s : List ℕ) (i q : ℕ) (h : i < length text) (e : dropped (drop i text) ≡ drop q s) where
  left_text : drop i text ≡ get_or text i 0 ∷ drop (i + 1) text
  left_text = rw (add-one i) (drop-cons text i 0 h)

  pub underscore_next : get_or text i 0 ≡ 95 → dropped (drop (i + 1) text) ≡ drop q s
  unfolding dropped
  underscore_next u = sym (ap dropped left_text ∙ rw (eq-eqb (get_or text i 0) 95 u)) ∙ e

  module _ (u : get_or text i 0 ≡ 95 → ⊥) where
    here : drop q s ≡ get_or text i 0 ∷ dropped (drop (i + 1) text)
    unfolding dropped
    here = sym e ∙ ap dropped left_text ∙ rw (ne_eqb (get_or text i 0) 95 u)

    pub letter_left : q < length s
    letter_left = omega (arith, sym (length-drop q s) ∙ ap length here)

    pub letter_next : dropped (drop (i + 1) text) ≡ drop (q + 1) s
    letter_next = sym (ap (drop 1) here) ∙ drop-drop 1 q s

    pub letter_here : (d : ℕ) → get_or s q d ≡ get_or text i 0
    letter_here d = let z : q + 0 ≡ q = omega arith in rw z at (sym (get_or-drop q s 0 d)) ∙ ap (λ (l : List ℕ). get_or l 0 d) here

pub letters_end : (text s : List ℕ) (i q : ℕ) → i ≡ length text → dropped (drop i text) ≡ drop q s → q ≤ length s → q ≡ length s
unfolding dropped
letters_end text s i q e h l =
    let f = ap (λ (j : ℕ). dropped (drop j text)) (sym e) in
    let g = ap dropped (sym (drop-length text)) in
    omega (arith, sym (length-drop q s) ∙ ap length (sym h ∙ sym f ∙ sym g))

-- the answer once all letters are read
pub letters_read : (s : List ℕ) (q : ℕ) (w : Word) → q ≡ length s → Passed no_letter q s → ReadTo (λ k. code_of (get_or s k 73)) q w
    → Ok w ≡ read_letters s
unfolding read_letters code_of
letters_read s q w e p r =
    let n = found_none no_letter s (rw e at p) in
    ap (λ (v : Word). Ok v) (read_all (λ k. code_of (get_or s k 73)) q w r (λ k l. ap code_of (get_or-eq_default s 73 (omega arith))))
    ∙ sym (refuse_none no_letter s _ (omega arith))

pub letter_refused : (s : List ℕ) (q b : ℕ) → Passed no_letter q s → q < length s → ((d : ℕ) → get_or s q d ≡ b) → 3 < code_of b → Err (InvalidPauliByte b q) ≡ read_letters s
unfolding read_letters
letter_refused s q b p l e h =
    let f = found_here no_letter q s p l (ap (λ (c : ℕ). ltb 3 (code_of c)) (e 0) ∙ lt-ltb 3 (code_of b) h) in
    sym (refuse_first no_letter s _ (omega arith)
    ∙ ap₂ (λ (b p : ℕ). Err (InvalidPauliByte b p)) (ap (λ (i : ℕ). get_or s i 0) f ∙ e 0) f)

pub not_refused : (b c : ℕ) → b ≡ c → code_of c ≤ 3 → no_letter b ≡ false
not_refused b c e h = ap no_letter e ∙ le-ltb 3 (code_of c) h

-- ---- code by code
pub codes_wide : (s : List ℕ) → max_qubits < length s → Err (TooManyQubits (length s) max_qubits) ≡ read_codes s
unfolding read_codes
codes_wide s h = rw (lt-ltb max_qubits (length s) h)

pub code_refused : (s : List ℕ) (q : ℕ) → length s ≤ max_qubits → Passed no_code q s → q < length s → 3 < get_or s q 0 → Err (InvalidPauliCode (get_or s q 0)) ≡ read_codes s
unfolding read_codes
code_refused s q n p l h =
    let f = found_here no_code q s p l (lt-ltb 3 (get_or s q 0) h) in
    rw (le-ltb max_qubits (length s) n, lt-ltb (first_where no_code s) (length s) (omega arith), f)

pub codes_read : (s : List ℕ) (q : ℕ) (w : Word) → length s ≤ max_qubits → q ≡ length s → Passed no_code q s → ReadTo (λ k. get_or s k 0) q w → Ok w ≡ read_codes s
unfolding read_codes
codes_read s q w n e p r =
    let f = found_none no_code s (rw e at p) in
    rw (le-ltb max_qubits (length s) n, le-ltb (first_where no_code s) (length s) (omega arith))
    (ap (λ (v : Word). Ok v) (read_all (λ k. get_or s k 0) q w r (λ k l. get_or-eq_default s 0 (omega arith))))

-- ---- codes written place by place
tabulate_more : (n : ℕ) (f : ℕ → ℕ) → tabulate (suc n) f ≡ tabulate n f ++ (f n ∷ [])
unfolding tabulate
tabulate_more zero f = refl
tabulate_more (suc n) f = ap (λ (l : List ℕ). f 0 ∷ l) (tabulate_more n (λ k. f (suc k)))

pub written_more : (out : List ℕ) (q : ℕ) (f : ℕ → ℕ) → q < length out
    → set (tabulate q f ++ drop q out) q (f q) ≡ tabulate (q + 1) f ++ drop (q + 1) out
written_more out q f h =
    ap (λ (l : List ℕ). set (tabulate q f ++ l) q (f q)) (drop-cons out q 0 h)
    ∙ set_at (tabulate q f) (get_or out q 0) (drop (suc q) out) (f q) q (length_tabulate q f)
    ∙ sym (rw (add-one q, tabulate_more q f) (append_snoc (tabulate q f) (f q) (drop (suc q) out)))

-- ---- what writing codes answers
module _ (w : Word) (n : ℕ) (out : List ℕ) where
  changed_not : (a : Answer) (r : Refusal) → a ≡ Err r → write_for a w n out ≡ out
  changed_not a r e = ap (λ (b : Answer). write_for b w n out) e

  refused : (r : Refusal) → write_answer w n out ≡ Err r → Wrote w n out (Err r) out
  unfolding written
  refused r e = record { answers = sym e; places = sym (changed_not (write_answer w n out) r e) }

  pub write_wide : max_qubits < n → Wrote w n out (Err (TooManyQubits n max_qubits)) out
  unfolding write_answer
  write_wide h = refused _ (rw (lt-ltb max_qubits n h))

  module _ (fits : n ≤ max_qubits) where
    pub write_short : length out < n → Wrote w n out (Err (LengthMismatch n (length out))) out
    unfolding write_answer
    write_short h = refused _ (rw (le-ltb max_qubits n fits, lt-ltb (length out) n h))

    module _ (room : n ≤ length out) where
      pub write_outside : reaches w n ≡ true → Wrote w n out (Err (WordOutsideRegister 0)) out
      unfolding write_answer
      write_outside h = refused _ (rw (le-ltb max_qubits n fits, le-ltb (length out) n room, h))

      pub write_accepted : reaches w n ≡ false → (after : List ℕ) → after ≡ tabulate n (letter_at w) ++ drop n out → Wrote w n out (Ok tt) after
      unfolding write_answer written
      write_accepted h after e =
          let f : write_answer w n out ≡ Ok tt = rw (le-ltb max_qubits n fits, le-ltb (length out) n room, h) in
          record { answers = sym f; places = e ∙ ap (λ (b : Answer). write_for b w n out) (sym f) }
