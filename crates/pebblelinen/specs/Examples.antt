-- SPDX-FileCopyrightText: 2026 The PPVM Authors
-- SPDX-License-Identifier: Apache-2.0

-- The examples of document 01 that are proved, as one table: what each says of the definitions.
use Rattle.std.specs.Prelude.{ℕ, suc, ◌-◌, ◌≡◌, Bool, true, false, ◌&&◌, List, [], ◌∷◌, ◌++◌, eqb, Float, length, take, replicate, Result, Ok, Err}
use Rattle.std.specs.Float.{binary64}
use Rattle.std.specs.Float.Ieee.{of_bits, eq}
use Rattle.notation.specs.Text.{parse}
use Rattle.word.specs.Flat.{word_lanes, words}
use Rattle.word.specs.Word.{max_qubits, identity}
use Rattle.word.specs.Product.{mul, phase}
use Rattle.word.specs.Order.{same}
use Rattle.word.specs.declared.word.Word.{Word}
use Rattle.refusal.specs.declared.Refusal.{Refusal}
use Rattle.number.specs.Numbers.{Cx}
use Rattle.number.specs.Floats.{floats, float0, float1}
use Rattle.gksl.specs.Operator.{Onto}
use Rattle.gksl.specs.Model.{ModelOver}
use Rattle.gksl.specs.Rules.{action_over}
use Rattle.gksl.specs.Words.{pauli}
use Rattle.model.specs.Stored.{ModelTables}
use Rattle.model.specs.declared.stored.Model.{Model}
use Rattle.order.specs.Merge.{positions}
use Rattle.truncate.specs.Prunes as Prunes
use Rattle.truncate.specs.Prunes.{Keeping}
use Rattle.action.specs.Acts.{action_of}

-- the bytes of the letters
abbrev I : ℕ
I = 73

abbrev X : ℕ
X = 88

abbrev Y : ℕ
Y = 89

abbrev Z : ℕ
Z = 90

-- numbers by their bits: 3, 0.25, 0.5, −0.5, −1 and −2
abbrev three : Float
three = of_bits binary64 0x4008_0000_0000_0000

abbrev quarter : Float
quarter = of_bits binary64 0x3fd0_0000_0000_0000

abbrev half : Float
half = of_bits binary64 0x3fe0_0000_0000_0000

abbrev minus_half : Float
minus_half = of_bits binary64 0xbfe0_0000_0000_0000

abbrev minus_one : Float
minus_one = of_bits binary64 0xbff0_0000_0000_0000

abbrev minus_two : Float
minus_two = of_bits binary64 0xc000_0000_0000_0000

-- the word of a text of as many letters as it has
abbrev word_or : Result Word Refusal → Word
word_or (Ok lanes) = lanes
word_or (Err r) = identity

abbrev read : List ℕ → Word
read text = word_or (parse (length text) text)

abbrev complex : Float → Float → Cx floats
complex x y = record { re = x; im = y }

abbrev term : Float → Float → List ℕ → Onto floats pauli
term x y text = record { num = complex x y; word = read text }

-- a word that is listed, with its number
pub record Entry : Type 0 where
  pub word : Word
  pub value : Float

abbrev entry : List ℕ → Float → Entry
entry text x = record { word = read text; value = x }

-- an example, with words as texts, qubit 0 first
pub data Example : Type 0 where
  -- left · right is a word with a phase
  product : (left right word : List ℕ) (phase : ℕ) → Example
  -- the action of a model on a word lists these
  action : (model : ModelOver floats pauli) (word : List ℕ) (listed : List Entry) → Example
  -- any model on the identity: nothing
  on_identity : Example
  -- of a basis with these coefficients, positions of it protected, a call of cap at the limit keeps these positions
  cap : (coefficients : List Float) (protected : List ℕ) (limit : ℕ) (kept : List ℕ) → Example

-- the lanes of a word for each position, no two alike
unfoldable pub lanes_for : List ℕ → List ℕ
lanes_for [] = []
lanes_for (p ∷ ps) = (suc p ∷ replicate (word_lanes - 1) 0) ++ lanes_for ps

-- the same words in the same order, with equal numbers
unfoldable pub lists : List (Onto floats pauli) → List Entry → Bool
lists [] [] = true
lists [] (e ∷ es) = false
lists (c ∷ L) [] = false
lists (c ∷ L) (e ∷ es) = same c.word e.word && (eq c.num.re e.value && lists L es)

-- what an example says
unfoldable pub Holds : Example → Type 0
Holds (product left right word k) = (same (mul (read left) (read right)) (read word) && eqb (phase (read left) (read right)) k) ≡ true
Holds (action model word listed) = lists (action_over floats pauli model (read word)) listed ≡ true
Holds on_identity = (m : Model) (t : ModelTables) → action_of m t identity ≡ []
Holds (cap coefficients protected limit kept) =
    let n : ℕ = length coefficients in
    let zeros : List ℕ = replicate n 0 in
    let after : Keeping = Prunes.cap n (lanes_for (positions n)) coefficients zeros zeros zeros zeros max_qubits (lanes_for protected) limit in
    (after.answer ≡ Ok (length kept)) × (take (length kept) (words after.lanes) ≡ words (lanes_for kept))

abbrev pub AllHold : List Example → Type 0
AllHold [] = Unit {0}
AllHold (e ∷ es) = Holds e × AllHold es

-- 3, −1, 1, 0.5
abbrev four : List Float
four = three ∷ minus_one ∷ float1 ∷ half ∷ []

-- P1 to P12
abbrev pub table : List Example
table =
    product (X ∷ []) (Z ∷ []) (Y ∷ []) 3 ∷
    product (Z ∷ []) (X ∷ []) (Y ∷ []) 1 ∷
    product (X ∷ []) (Y ∷ []) (Z ∷ []) 1 ∷
    product (X ∷ X ∷ []) (Z ∷ Z ∷ []) (Y ∷ Y ∷ []) 2 ∷
    action (record { terms = record { num = half; word = read (Z ∷ []) } ∷ []; jumps = []; matrices = [] }) (X ∷ []) (entry (Y ∷ []) minus_one ∷ []) ∷
    action (record { terms = []; jumps = record { rate = quarter; op = term float1 float0 (Z ∷ []) ∷ [] } ∷ []; matrices = [] }) (X ∷ []) (entry (X ∷ []) minus_half ∷ []) ∷
    action (record { terms = []; jumps = record { rate = float1; op = term half float0 (X ∷ []) ∷ term float0 half (Y ∷ []) ∷ [] } ∷ []; matrices = [] }) (Z ∷ []) (entry (I ∷ []) float1 ∷ entry (Z ∷ []) minus_one ∷ []) ∷
    on_identity ∷
    action (record {
      terms = [];
      jumps = [];
      matrices =
          record {
            ops = (term float1 float0 (X ∷ I ∷ []) ∷ []) ∷ (term float1 float0 (I ∷ X ∷ []) ∷ []) ∷ [];
            entries = complex float1 float0 ∷ complex float0 float1 ∷ complex float0 minus_one ∷ complex float1 float0 ∷ [];
          } ∷ [];
    }) (I ∷ Z ∷ []) (entry (I ∷ Z ∷ []) minus_two ∷ entry (X ∷ Y ∷ []) minus_two ∷ []) ∷
    cap four [] 2 (0 ∷ 1 ∷ []) ∷
    cap four (3 ∷ []) 2 (0 ∷ 3 ∷ []) ∷
    cap four (3 ∷ []) 0 (3 ∷ []) ∷ []
