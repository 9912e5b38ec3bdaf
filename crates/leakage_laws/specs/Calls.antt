-- SPDX-FileCopyrightText: 2026 The PPVM Authors
-- SPDX-License-Identifier: Apache-2.0

-- A call of leakage, pass by pass: which candidates are held and which stay, what is listed, when two calls are alike, what a looser
-- limit means, and which words a model reaches from a basis. No work table and no place shows in it.
use Rattle.std.specs.Prelude.{ℕ, zero, suc, ◌-◌, ◌*◌, ◌≤◌, ◌<◌, min, ◌≡◌, true, List, [], ◌∷◌, map, T, Float, length, get_or, take, drop}
use Rattle.std.specs.Float.{binary64}
use Rattle.std.specs.Float.Ieee.{fits, lt, le}
use Rattle.word.specs.Order.{before}
use Rattle.word.specs.Flat.{words}
use Rattle.word.specs.Word.{identity}
use Rattle.word.specs.declared.word.Word.{Word}
use Rattle.number.specs.Floats.{float0}
use Rattle.number.specs.Key.{key}
use Rattle.order.specs.Magnitudes.{by_magnitude, key_at}
use Rattle.keep.specs.Retained.{pick}
use Rattle.candidates.specs.Sums.{Row, Rising}
use Rattle.candidates.specs.Tables.{Rows, candidate_rows, put_rows}
use Rattle.model.specs.Stored.{ModelTables}
use Rattle.model.specs.Terms.{Term}
use Rattle.model.specs.declared.stored.Model.{Model}
use Rattle.lent.specs.Every.{Every}
use Rattle.action.specs.Acts.{action_of}
use Rattle.passes.specs.Leaks.{outside, sums_of, words_of, largest, pass_size, pass_count, above, leaks_at}
use Rattle.leakage.specs.Leakages.{Basis, Leaking}
use Rattle.limits.specs.Defaults.{limit_of, tau_of}
use Rattle.limits.specs.declared.Limits.{Limits}
use Rattle.order.specs.Members.{Member, Differ}

-- ---- the passes
-- positions one after another, each adding what it leaks
unfoldable pub gathered : (ℕ → Rows) → List ℕ → Rows → Rows
gathered leaks [] R = R
gathered leaks (p ∷ ps) R = gathered leaks ps (put_rows (leaks p) R)

abbrev pub basis_words : Basis → List Word
basis_words b = take b.len (words b.lanes)

abbrev pub basis_coeffs : Basis → List Float
basis_coeffs b = take b.len b.coeffs

abbrev pub leaks_of : Model → ModelTables → Basis → ℕ → Rows
leaks_of m t b = leaks_at m t (basis_words b) (basis_coeffs b) (words b.protected)

abbrev pub room_of : Basis → Limits → ℕ
room_of b l = limit_of l - b.len

-- the positions of pass k, counted from 0: 4,096 at a time, in falling magnitude
abbrev pub pass_of : Basis → ℕ → List ℕ
pass_of b k = take pass_size (drop (k * pass_size) (by_magnitude (basis_coeffs b)))

-- pass k on top of what stayed before it
abbrev pub take_pass : Model → ModelTables → Basis → ℕ → Rows → Rows
take_pass m t b k R = gathered (leaks_of m t b) (pass_of b k) R

module _ (m : Model) (t : ModelTables) (b : Basis) (l : Limits) where
  -- the candidates that stay after so many passes: after each the largest, as many as there is room for
  unfoldable pub stay_after : ℕ → Rows
  stay_after zero = []
  stay_after (suc k) = largest (room_of b l) (take_pass m t b k (stay_after k))

  -- those that pass k holds before the room rule
  abbrev pub held_in : ℕ → Rows
  held_in k = take_pass m t b k (stay_after k)

  -- after the last pass those above tau_add
  abbrev pub list_of : Rows
  list_of = above (tau_of l) (stay_after (pass_count b.len))

-- the first n words and values of the list, read from the lent tables afterwards
abbrev pub listed_by : Leaking → ℕ → Rows
listed_by k n = candidate_rows n k.out.out_words k.out.out_values

-- the room rule of one pass, by a flag for each candidate: as many stay as there is room for, or all; one that stays is at least as
-- large as one that does not, and the earlier of equals, where candidates stand in word order
pub record LargestStay (room : ℕ) (candidates stay : Rows) : Type 0 where
  pub rising : Rising before candidates
  pub flags : List ℕ
  pub each : length flags ≡ length candidates
  pub stay_are : stay ≡ pick flags candidates
  pub count : length stay ≡ min room (length candidates)
  pub larger : (p q : ℕ) → p < length candidates → q < length candidates → (get_or flags p 0 ≡ 0 → ⊥) → get_or flags q 0 ≡ 0
      → (key_at (sums_of candidates) q ≤ key_at (sums_of candidates) p) × (key_at (sums_of candidates) q ≡ key_at (sums_of candidates) p → p < q)

-- tau_add, a threshold: a candidate that is listed is larger than every one that stayed in the last pass and is not listed
abbrev pub LargerListed : Rows → Rows → Type 0
LargerListed stay list = (r s : Row Word Float) → Member r list → Member s stay → (Member s list → ⊥) → key binary64 s.sum < key binary64 r.sum

-- ---- calls that are alike, whatever places each was lent
-- one basis: the entries in use and the protected words
pub record SameBasis (b b' : Basis) : Type 0 where
  pub same_len : b.len ≡ b'.len
  pub same_words : basis_words b ≡ basis_words b'
  pub same_coeffs : basis_coeffs b ≡ basis_coeffs b'
  pub same_protected : words b.protected ≡ words b'.protected

-- ---- looser limits
-- a raised word limit, a lowered tau_add, or both, each given or absent
pub record Looser (l l' : Limits) : Type 0 where
  pub raised : limit_of l ≤ limit_of l'
  pub lowered : le (tau_of l') (tau_of l) ≡ true

-- tau_add is a number that an f64 can hold, as that of every call
abbrev pub TauFits : Limits → Type 0
TauFits l = T (fits binary64 l.tau_add)

-- tau_add is given and below 0
abbrev pub TauBelowZero : Limits → Type 0
TauBelowZero l = lt (tau_of l) float0 ≡ true

-- every word of the one list stands in the other, with the same value
abbrev pub LosesNobody : Rows → Rows → Type 0
LosesNobody R R' = (r : Row Word Float) → Member r R → Member r R'

-- ---- reached words
-- neither in the basis nor protected, and listed by the action on some basis word
pub record ReachedOutside (m : Model) (t : ModelTables) (b : Basis) (w : Word) : Type 0 where
  pub is_outside : outside (basis_words b) (words b.protected) w ≡ true
  pub position : ℕ
  pub in_basis : position < b.len
  pub by_action : Member w (map (λ (c : Term). c.word) (action_of m t (get_or (basis_words b) position identity)))

-- room for every word that leakage adds to: different words that are reached are never more than there is room for
abbrev pub RoomForAll : Model → ModelTables → Basis → Limits → Type 0
RoomForAll m t b l = (ws : List Word) → Differ ws → Every (ReachedOutside m t b) ws → length ws ≤ room_of b l

-- the words of a list are the reached ones
pub record ListsReached (m : Model) (t : ModelTables) (b : Basis) (R : Rows) : Type 0 where
  pub every : (w : Word) → Member w (words_of R) → ReachedOutside m t b w
  pub all : (w : Word) → ReachedOutside m t b w → Member w (words_of R)
