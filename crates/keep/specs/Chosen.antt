-- SPDX-FileCopyrightText: 2026 The PPVM Authors
-- SPDX-License-Identifier: Apache-2.0

-- Which positions stay: those that are fixed, and of the others the first ones in an order, as many as there are slots.
use Rattle.std.specs.Prelude.{ℕ, zero, suc, cond, List, [], ◌∷◌, map, eqb, get_or, set}

-- 0 stays 0, every other flag is 1
abbrev pub flag_of : ℕ → ℕ
flag_of k = cond (eqb k 0) 0 1

-- walking the order: a position that is not fixed takes a slot and is flagged, until no slot is left
unfoldable pub walked : List ℕ → List ℕ → ℕ → List ℕ → List ℕ
walked fixed [] slots flags = flags
walked fixed (p ∷ ps) zero flags = flags
walked fixed (p ∷ ps) (suc s) flags = cond (eqb (get_or fixed p 0) 0) (walked fixed ps s (set flags p 1)) (walked fixed ps (suc s) flags)

abbrev pub chosen : List ℕ → List ℕ → ℕ → List ℕ
chosen order fixed slots = walked fixed order slots (map flag_of fixed)
