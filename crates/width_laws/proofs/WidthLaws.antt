-- SPDX-FileCopyrightText: 2026 The PPVM Authors
-- SPDX-License-Identifier: Apache-2.0

-- A site past the old width does not fold back: words with lanes of 0 added are the same words (`same_words` in Padding), and a
-- model of padded words has the padded action, over any numbers, for any number of lanes before and any number added. So a
-- model of at most 128 qubits, two lanes, has at four lanes the action that it had. Assumes nothing.
use mathlib.Core.Path.{◌≡◌, refl, sym, ap, ap₂, ◌∙◌}
use mathlib.Core.List.{List, [], ◌∷◌, map}
use Prim.Native.Nat.{ℕ, ◌+◌}
use Rattle.number.specs.Numbers.{Numbers}
use Rattle.word.specs.Word.{lane_count, word_of}
use Rattle.word.specs.Product.{mul, phase}
use Rattle.word.specs.Register.{share}
use Rattle.word.specs.Order.{before, same, is_equal, is_less}
use Rattle.word.specs.declared.word.Word.{Word}
use Rattle.word.proofs.Lanes.{lanes_length}
use Rattle.gksl.specs.Operator.{Words, Onto}
use Rattle.gksl.specs.Model.{RealTerm, JumpOver, MatrixOver, ModelOver}
use Rattle.gksl.specs.Rules.{action_over}
use Rattle.gksl.specs.Words.{pauli}
use Rattle.width_laws.specs.Width.{word_of_lanes, lanes, OfLanes, padded, Every, padded_term, padded_real, padded_jump, padded_matrix, padded_model, ModelOfLanes, SameAction}
use Rattle.width_laws.proofs.Related.{Keeps, Both, none, more, head, tail, short, long, Tied, TiedReal, TiedJump, TiedMatrix, TiedModel, action_same}
use Rattle.width_laws.proofs.Padding.{same_words}

-- the product's words are the words of laneCount lanes
pub its_words : ◌≡◌ {A = Words} pauli (lanes lane_count)
unfolding mul word_of word_of_lanes phase share
its_words = refl

-- a word of n lanes, and the same with k lanes of 0
pub record Padded (n k : ℕ) (w v : Word) : Type 0 where
  pub wide : OfLanes n w
  pub is : padded k w ≡ v

module _ (n k : ℕ) where
  made : (f : ℕ → ℕ) → OfLanes n (word_of_lanes n f)
  unfolding word_of_lanes
  made f = record { x_lanes = lanes_length n f; z_lanes = lanes_length n _ }

  keeps : Keeps (lanes n) (lanes (n + k)) (Padded n k)
  keeps = record {
    mul = λ h g. record { wide = made _; is = sym ((same_words n k).products _ _ h.wide g.wide) ∙ ap₂ (lanes (n + k)).mul h.is g.is };
    phase = λ h g. sym ((same_words n k).phases _ _ h.wide g.wide) ∙ ap₂ (lanes (n + k)).phase h.is g.is;
    alike = λ h g. ap is_equal (sym ((same_words n k).orders _ _ h.wide g.wide)) ∙ ap₂ same h.is g.is;
    below = λ h g. ap is_less (sym ((same_words n k).orders _ _ h.wide g.wide)) ∙ ap₂ before h.is g.is;
    meets = λ h g. sym ((same_words n k).shared _ _ h.wide g.wide) ∙ ap₂ (lanes (n + k)).meets h.is g.is;
  }

  module _ (N : Numbers) where
    abbrev Pad : Onto N (lanes n) → Onto N (lanes (n + k)) → Type 0
    Pad t u = Tied N (lanes n) (lanes (n + k)) (Padded n k) t u

    -- ---- what is padded is tied to what it was
    terms_tied : (A : List (Onto N (lanes n))) → Every (λ t. OfLanes n t.word) A → Both Pad A (map (padded_term N n k) A)
    terms_tied [] h = none
    terms_tied (t ∷ A) h = more (record { num = refl; word = record { wide = h.0; is = refl } }) (terms_tied A h.1)

    reals_tied : (A : List (RealTerm N (lanes n))) → Every (λ t. OfLanes n t.word) A → Both (TiedReal N (lanes n) (lanes (n + k)) (Padded n k)) A (map (padded_real N n k) A)
    reals_tied [] h = none
    reals_tied (t ∷ A) h = more (record { num = refl; word = record { wide = h.0; is = refl } }) (reals_tied A h.1)

    jumps_tied : (A : List (JumpOver N (lanes n))) → Every (λ j. Every (λ t. OfLanes n t.word) j.op) A → Both (TiedJump N (lanes n) (lanes (n + k)) (Padded n k)) A (map (padded_jump N n k) A)
    jumps_tied [] h = none
    jumps_tied (j ∷ A) h = more (record { rate = refl; op = terms_tied j.op h.0 }) (jumps_tied A h.1)

    ops_tied : (A : List (List (Onto N (lanes n)))) → Every (Every (λ t. OfLanes n t.word)) A → Both (Both Pad) A (map (map (padded_term N n k)) A)
    ops_tied [] h = none
    ops_tied (a ∷ A) h = more (terms_tied a h.0) (ops_tied A h.1)

    matrices_tied : (A : List (MatrixOver N (lanes n))) → Every (λ c. Every (Every (λ t. OfLanes n t.word)) c.ops) A → Both (TiedMatrix N (lanes n) (lanes (n + k)) (Padded n k)) A (map (padded_matrix N n k) A)
    matrices_tied [] h = none
    matrices_tied (c ∷ A) h = more (record { ops = ops_tied c.ops h.0; entries = refl }) (matrices_tied A h.1)

    model_tied : (m : ModelOver N (lanes n)) → ModelOfLanes N n m → TiedModel N (lanes n) (lanes (n + k)) (Padded n k) m (padded_model N n k m)
    model_tied m h = record { terms = reals_tied m.terms h.terms; jumps = jumps_tied m.jumps h.jumps; matrices = matrices_tied m.matrices h.matrices }

    -- ---- and what is tied is padded
    is_padded : (l : List (Onto N (lanes n))) (m : List (Onto N (lanes (n + k)))) → Both Pad l m → m ≡ map (padded_term N n k) l
    is_padded [] [] h = refl
    is_padded [] (u ∷ m) h = absurd (short h)
    is_padded (t ∷ l) [] h = absurd (long h)
    is_padded (t ∷ l) (u ∷ m) h = ap₂ ◌∷◌ (λ i. record { num = sym (head h).num i; word = sym (head h).word.is i }) (is_padded l m (tail h))

  pub same_action : SameAction n k
  same_action N m p h o =
      is_padded N _ _ (action_same N (lanes n) (lanes (n + k)) (Padded n k) keeps p (padded k p) (record { wide = o; is = refl }) m (padded_model N n k m) (model_tied N m h))

-- ---- two lanes before, four now, in the words of the product
two_keeps : Keeps (lanes 2) pauli (Padded 2 2)
unfolding mul word_of word_of_lanes phase share
two_keeps = keeps 2 2

-- where the words of a model and a word are those of two lanes with two lanes of 0 added, the action lists the same numbers, at
-- the same words with two lanes of 0 added, in the same order
pub as_before : (N : Numbers) (m : ModelOver N (lanes 2)) (wide : ModelOver N pauli) (p v : Word)
    → TiedModel N (lanes 2) pauli (Padded 2 2) m wide → Padded 2 2 p v
    → Both (Tied N (lanes 2) pauli (Padded 2 2)) (action_over N (lanes 2) m p) (action_over N pauli wide v)
as_before N m wide p v h r = action_same N (lanes 2) pauli (Padded 2 2) two_keeps p v r m wide h
