-- SPDX-FileCopyrightText: 2026 The PPVM Authors
-- SPDX-License-Identifier: Apache-2.0

-- Contracts between functions: flags of protected words, where a position is not flagged already.
use Rattle.std.specs.Prelude.{ℕ, ◌<◌, ◌≡◌, true, cond, List, [], ◌∷◌, eqb, length, get_or, set}
use Rattle.word.specs.Between.{covers}
use Rattle.word.specs.Word.{identity}
use Rattle.word.specs.declared.word.Word.{Word}
use Rattle.order.specs.Places.{is_among}

-- the flag of the word at a position
abbrev pub protected_at : List Word → List Word → ℕ → ℕ
protected_at protected ws p = cond (is_among (get_or ws p identity) protected) 1 0

-- each flag that is 0 gives way to that of its word
unfoldable pub marked : List Word → List Word → List ℕ → List ℕ
marked protected [] ks = ks
marked protected (w ∷ ws) [] = []
marked protected (w ∷ ws) (k ∷ ks) = cond (eqb k 0) (cond (is_among w protected) 1 0) k ∷ marked protected ws ks

-- each position listed gets the flag that f has for it
unfoldable pub reflagged : (ℕ → ℕ) → List ℕ → List ℕ → List ℕ
reflagged f [] ks = ks
reflagged f (p ∷ ps) ks = reflagged f ps (set ks p (f p))

-- u has the bits of all words of a list
pub record Reach (u : Word) (ws : List Word) : Type 0 where
  pub covered : (k : ℕ) → k < length ws → covers u (get_or ws k identity) ≡ true
