-- SPDX-FileCopyrightText: 2026 The PPVM Authors
-- SPDX-License-Identifier: Apache-2.0

-- A site past the old width does not fold back. Words of any number of lanes; the same words with lanes of 0 added, to x and to
-- z; and what is the same with them as without: letters, products, phases, order, sharing, and the action of a model.
-- The words of the product have `lane_count` lanes.
use Rattle.std.specs.Prelude.{ℕ, ◌+◌, ◌*◌, ◌/◌, ◌%◌, ◌&&◌, ◌≡◌, List, [], ◌∷◌, ◌++◌, map, length, replicate}
use Rattle.number.specs.Numbers.{Numbers}
use Rattle.word.specs.Count.{any_to}
use Rattle.word.specs.Letter.{mul_letter}
use Rattle.word.specs.Word.{letter_at, lanes_of}
use Rattle.word.specs.Product.{phase_sum}
use Rattle.word.specs.Register.{acts_on}
use Rattle.word.specs.Order.{compare, before, same}
use Rattle.word.specs.declared.word.Word.{Word}
use Rattle.gksl.specs.Operator.{Words, Onto}
use Rattle.gksl.specs.Model.{RealTerm, JumpOver, MatrixOver, ModelOver}
use Rattle.gksl.specs.Rules.{action_over}

-- the word of n lanes that has the letter f q at each qubit q
unfoldable pub word_of_lanes : ℕ → (ℕ → ℕ) → Word
word_of_lanes n f = record { x = lanes_of n f; z = lanes_of n (λ q. f q / 2) }

-- words of n lanes, as words of the generator
abbrev pub lanes : ℕ → Words
lanes n = record {
  Word = Word;
  mul = λ p q. word_of_lanes n (λ k. mul_letter (letter_at p k) (letter_at q k));
  phase = λ p q. phase_sum (64 * n) p.x p.z q.x q.z % 4;
  alike = same;
  below = before;
  meets = λ p q. any_to (64 * n) (λ k. acts_on p k && acts_on q k);
}

-- n x lanes and n z lanes
pub record OfLanes (n : ℕ) (w : Word) : Type 0 where
  pub x_lanes : length w.x ≡ n
  pub z_lanes : length w.z ≡ n

-- k lanes of 0 added to x, and as many to z
unfoldable pub padded : ℕ → Word → Word
padded k w = record { x = w.x ++ replicate k 0; z = w.z ++ replicate k 0 }

-- what is the same of words of n lanes with k lanes of 0 added
pub record SameWords (n k : ℕ) : Type 0 where
  pub letters : (w : Word) (q : ℕ) → letter_at (padded k w) q ≡ letter_at w q
  pub products : (p q : Word) → OfLanes n p → OfLanes n q → (lanes (n + k)).mul (padded k p) (padded k q) ≡ padded k ((lanes n).mul p q)
  pub phases : (p q : Word) → OfLanes n p → OfLanes n q → (lanes (n + k)).phase (padded k p) (padded k q) ≡ (lanes n).phase p q
  pub orders : (p q : Word) → OfLanes n p → OfLanes n q → compare (padded k p) (padded k q) ≡ compare p q
  pub shared : (p q : Word) → OfLanes n p → OfLanes n q → (lanes (n + k)).meets (padded k p) (padded k q) ≡ (lanes n).meets p q

-- ---- models
abbrev pub Every : {A : Type 0} → (A → Type 0) → List A → Type 0
Every P [] = Unit {0}
Every P (a ∷ l) = P a × Every P l

module _ (N : Numbers) (n k : ℕ) where
  abbrev pub padded_term : Onto N (lanes n) → Onto N (lanes (n + k))
  padded_term t = record { num = t.num; word = padded k t.word }

  abbrev pub padded_real : RealTerm N (lanes n) → RealTerm N (lanes (n + k))
  padded_real t = record { num = t.num; word = padded k t.word }

  abbrev pub padded_jump : JumpOver N (lanes n) → JumpOver N (lanes (n + k))
  padded_jump j = record { rate = j.rate; op = map padded_term j.op }

  abbrev pub padded_matrix : MatrixOver N (lanes n) → MatrixOver N (lanes (n + k))
  padded_matrix c = record { ops = map (map padded_term) c.ops; entries = c.entries }

  -- every word with k lanes of 0 added
  abbrev pub padded_model : ModelOver N (lanes n) → ModelOver N (lanes (n + k))
  padded_model m = record { terms = map padded_real m.terms; jumps = map padded_jump m.jumps; matrices = map padded_matrix m.matrices }

  abbrev pub TermsOfLanes : List (Onto N (lanes n)) → Type 0
  TermsOfLanes A = Every (λ t. OfLanes n t.word) A

-- every word has n lanes
pub record ModelOfLanes (N : Numbers) (n : ℕ) (m : ModelOver N (lanes n)) : Type 0 where
  pub terms : Every (λ t. OfLanes n t.word) m.terms
  pub jumps : Every (λ j. Every (λ t. OfLanes n t.word) j.op) m.jumps
  pub matrices : Every (λ c. Every (Every (λ t. OfLanes n t.word)) c.ops) m.matrices

-- the action of the padded model on the padded word is the padded action: the same numbers, at the same words, in the same order
abbrev pub SameAction : ℕ → ℕ → Type 1
SameAction n k = (N : Numbers) (m : ModelOver N (lanes n)) (p : Word) → ModelOfLanes N n m → OfLanes n p
    → action_over N (lanes (n + k)) (padded_model N n k m) (padded k p) ≡ map (padded_term N n k) (action_over N (lanes n) m p)
