-- SPDX-FileCopyrightText: 2026 The PPVM Authors
-- SPDX-License-Identifier: Apache-2.0

-- Reading a text: `_` bytes are dropped, then exactly n letters.
use Rattle.std.specs.Prelude.{ℕ, suc, Bool, cond, List, [], ◌∷◌, eqb, ltb, leb, length, get_or, Result, Ok, Err}
use Rattle.refusal.specs.declared.Refusal.TheVariants.{TooManyQubits, WrongLength, InvalidPauliByte}
use Rattle.word.specs.Word.{max_qubits, word_of}
use Rattle.refusal.specs.declared.Refusal.{Refusal}
use Rattle.word.specs.declared.word.Word.{Word}

-- the code of the letter that a byte stands for (I 73, X 88, Z 90, Y 89), and 4 for a byte that is no letter
unfoldable pub code_of : ℕ → ℕ
code_of b = cond (eqb b 73) 0 (cond (eqb b 88) 1 (cond (eqb b 90) 2 (cond (eqb b 89) 3 4)))

-- without the underscores, 95
unfoldable pub dropped : List ℕ → List ℕ
dropped [] = []
dropped (b ∷ s) = cond (eqb b 95) (dropped s) (b ∷ dropped s)

-- the first place whose element passes a test; the length where there is none
unfoldable pub first_where : (ℕ → Bool) → List ℕ → ℕ
first_where p [] = 0
first_where p (b ∷ s) = cond (p b) 0 (suc (first_where p s))

-- refusal 3 at the first byte that passes a test, and where there is none, what comes after
unfoldable pub refuse_byte : (ℕ → Bool) → List ℕ → Result Word Refusal → Result Word Refusal
refuse_byte p s after =
    cond (ltb (first_where p s) (length s))
    (Err (InvalidPauliByte (get_or s (first_where p s) 0) (first_where p s)))
    after

abbrev pub foreign : ℕ → Bool
foreign b = leb 128 b

abbrev pub no_letter : ℕ → Bool
no_letter b = ltb 3 (code_of b)

-- a text without underscores, of the right length
unfoldable pub read_letters : List ℕ → Result Word Refusal
read_letters s = refuse_byte no_letter s (Ok (word_of (λ q. code_of (get_or s q 73))))

-- 1, any byte from 128 up (3), 2, 3
unfoldable pub parse : ℕ → List ℕ → Result Word Refusal
parse n text =
    cond (ltb max_qubits n) (Err (TooManyQubits n max_qubits))
    (refuse_byte foreign (dropped text)
    (cond (eqb (length (dropped text)) n) (read_letters (dropped text))
    (Err (WrongLength n (length (dropped text))))))
