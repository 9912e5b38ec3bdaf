-- SPDX-FileCopyrightText: 2026 The PPVM Authors
-- SPDX-License-Identifier: Apache-2.0

-- Every word that a nonzero term of a basis word's action reaches has exactly one home: a row of the generator, the protected list
-- while outside the basis, or, given room for all, the list of leakage. Only reached words are generator rows or leakage entries.
use Rattle.std.specs.Prelude.{ℕ, ◌≡◌, true, false, List, ◌⊎◌, Float}
use Rattle.word.specs.declared.word.Word.{Word}
use Rattle.order.specs.Places.{is_among}
use Rattle.model.specs.Terms.{Term}
use Rattle.order.specs.Members.{Member}
use Rattle.generator_laws.specs.Matrices.{HasRow, Reached}

-- at most one of three
pub record AtMostOne (A B C : Type 0) : Type 0 where
  pub not_both : A → B → ⊥
  pub not_first_last : A → C → ⊥
  pub not_later_both : B → C → ⊥

-- exactly one of three
pub record ExactlyOne (A B C : Type 0) : Type 0 where
  pub some : A ⊎ (B ⊎ C)
  pub one : AtMostOne A B C

-- the first of three and nothing else
abbrev pub NothingElse : Type 0 → Type 0 → Type 0 → Type 0
NothingElse A B C = A × (B → ⊥) × (C → ⊥)

-- protected, and not in the basis
abbrev pub ProtectedOutside : List Word → List Word → Word → Type 0
ProtectedOutside bs protected w = (is_among w bs ≡ false) × (is_among w protected ≡ true)

-- over an action, a basis, a protected list, the entries that the generator's tables have, and the words that leakage lists
module _ (act : Word → List Term) (bs protected : List Word) (has : ℕ → ℕ → Float → Type 0) (listed : List Word) where
  pub record OnlyReached : Type 0 where
    pub rows_reached : (w : Word) → HasRow bs has w → Reached act bs w
    pub entries_reached : (w : Word) → Member w listed → Reached act bs w

  -- given room for all
  pub record Accounted : Type 0 where
    pub home : (w : Word) → Reached act bs w → ExactlyOne (HasRow bs has w) (ProtectedOutside bs protected w) (Member w listed)
    pub only : OnlyReached

  -- whatever the limits: a reached word of the basis, or one that is protected outside it, has its one home, no word has two, and only
  -- a reached word outside the basis and unprotected may have none
  pub record AccountedWithoutRoom : Type 0 where
    pub basis_word : (w : Word) → Reached act bs w → is_among w bs ≡ true → NothingElse (HasRow bs has w) (ProtectedOutside bs protected w) (Member w listed)
    pub protected_word : (w : Word) → Reached act bs w → ProtectedOutside bs protected w → NothingElse (ProtectedOutside bs protected w) (HasRow bs has w) (Member w listed)
    pub never_two : (w : Word) → AtMostOne (HasRow bs has w) (ProtectedOutside bs protected w) (Member w listed)
    pub none : (w : Word) → Reached act bs w → (HasRow bs has w ⊎ (ProtectedOutside bs protected w ⊎ Member w listed) → ⊥) → (is_among w bs ≡ false) × (is_among w protected ≡ false)
    pub only : OnlyReached
