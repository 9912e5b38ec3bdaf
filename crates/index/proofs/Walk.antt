-- SPDX-FileCopyrightText: 2026 The PPVM Authors
-- SPDX-License-Identifier: Apache-2.0

-- From one qubit that a word acts on to the next, up to the first n: what is passed, and that nothing is left out. Assumes nothing.
use mathlib.Core.Path.{◌≡◌, sym, ap, ◌∙◌}
use mathlib.Core.Bool.{true, false, cond}
use Prim.Native.Nat.{ℕ, ◌+◌, ◌<◌, ◌≤◌, min}
use native.Mathlib.Omega.{arith}
use native.Mathlib.Decide.{dec_lt}
use borrow.Author.Tests.{lt-ltb, le-ltb}
use lib.Dec.{ltb}
use Rattle.word.specs.Word.{max_qubits}
use Rattle.word.specs.Register.{acts_on}
use Rattle.word.specs.declared.word.Word.{Word}
use Rattle.index.specs.Index.{digit, acts}
use Rattle.word.specs.Between.{NextQubit}

-- 1 where a word acts on r and r lies before q, else 0
unfoldable pub acts_before : Word → ℕ → ℕ → ℕ
acts_before w q r = cond (ltb r q) (acts w r) 0

-- the word acts on q, or q is past its qubits and it acts on none from there on
pub record Stands (w : Word) (q : ℕ) : Type 0 where
  pub few : q ≤ max_qubits
  pub here : q < max_qubits → acts w q ≡ 1
  pub past : q ≡ max_qubits → (r : ℕ) → q ≤ r → acts w r ≡ 0

module _ (w : Word) where
  is_one : (q : ℕ) → acts_on w q ≡ true → acts w q ≡ 1
  unfolding acts
  is_one q h = ap digit h

  is_none : (q : ℕ) → acts_on w q ≡ false → acts w q ≡ 0
  unfolding acts
  is_none q h = ap digit h

  within : (q r : ℕ) → r < q → acts_before w q r ≡ acts w r
  unfolding acts_before
  within q r h = rw (lt-ltb r q h)

  after : (q r : ℕ) → q ≤ r → acts_before w q r ≡ 0
  unfolding acts_before
  after q r h = rw (le-ltb r q h)

  pub stands : (from q : ℕ) → NextQubit w from q → from ≤ max_qubits → Stands w q
  stands from q n h = record {
    few = n.inside;
    here = λ l. is_one q (n.found l).1;
    past = λ e r l. is_none r (n.none e r (omega arith));
  }

  -- at the start nothing is passed
  pub none_before : (q : ℕ) → NextQubit w 0 q → (r : ℕ) → acts_before w q r ≡ 0
  none_before q n r = go (dec_lt r q)
    where
      go : Dec (r < q) → acts_before w q r ≡ 0
      go (yes h) = within q r h ∙ is_none r (n.before r (omega arith) h)
      go (no h) = after q r (omega arith)

  -- a turn passes one qubit
  module _ (q q' : ℕ) (s : Stands w q) (l : q < max_qubits) (n : NextQubit w (q + 1) q') where
    pub rises : q < q'
    rises = go (dec_lt q' max_qubits)
      where
        go : Dec (q' < max_qubits) → q < q'
        go (yes h) = omega (arith, (n.found h).0)
        go (no h) = omega arith

    pub passed : acts_before w q' q ≡ 1
    passed = within q' q rises ∙ s.here l

    pub not_yet : acts_before w q q ≡ 0
    not_yet = after q q (omega arith)

    pub elsewhere : (r : ℕ) → (r ≡ q → ⊥) → acts_before w q r ≡ acts_before w q' r
    elsewhere r d = go (dec_lt r q) (dec_lt r q')
      where
        go : Dec (r < q) → Dec (r < q') → acts_before w q r ≡ acts_before w q' r
        go (yes h) k = within q r h ∙ sym (within q' r (omega (arith, rises)))
        go (no h) (yes k) = after q r (omega arith) ∙ sym (within q' r k ∙ is_none r (n.before r (omega arith) k))
        go (no h) (no k) = after q r (omega arith) ∙ sym (after q' r (omega arith))

  -- at the end all are
  pub all_before : (n q : ℕ) → Stands w q → min n max_qubits ≤ q → (r : ℕ) → r < n → acts_before w q r ≡ acts w r
  all_before n q s h r l = go (dec_lt r q)
    where
      go : Dec (r < q) → acts_before w q r ≡ acts w r
      go (yes k) = within q r k
      go (no k) = after q r (omega arith) ∙ sym (s.past (omega (arith, s.few)) r (omega arith))
