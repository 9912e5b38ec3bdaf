-- SPDX-FileCopyrightText: 2026 The PPVM Authors
-- SPDX-License-Identifier: Apache-2.0

-- Demand 3's accounting, of two accepted calls: the generator and leakage over one model and one basis, each in tables of its own.
-- Assumes nothing.
use Prim.Native.Nat.{ℕ}
use mathlib.Core.Path.{◌≡◌, sym, subst}
use mathlib.Core.Bool.{true}
use mathlib.Core.List.{List}
use lib.Ieee.{Float}
use Rattle.word.specs.Flat.{words}
use Rattle.word.specs.declared.word.Word.{Word}
use Rattle.order.specs.Places.{is_among}
use Rattle.candidates.specs.Tables.{Rows}
use Rattle.model.specs.Terms.{Term}
use Rattle.model.specs.Stored.{ModelTables}
use Rattle.model.specs.declared.stored.Model.{Model}
use Rattle.action.specs.Acts.{action_of}
use Rattle.std.specs.Prelude.{Ok}
use Rattle.in_use.specs.InUse.{SameModel}
use Rattle.in_use.proofs.SameModels.{same_back, same_action}
use Rattle.passes.specs.Leaks.{words_of}
use Rattle.leakage.specs.Leakages as Leakage
use Rattle.limits.specs.declared.Limits.{Limits}
use Rattle.leakage_laws.specs.Calls.{basis_words, listed_by, TauBelowZero, RoomForAll}
use Rattle.leakage_laws.proofs.CallLaws.{leakage_model, words_each, leakage_only_reached, leakage_reaches}
use Rattle.generator.specs.Lent as Lent
use Rattle.generator.specs.Generators.{generate}
use Rattle.generator_laws.specs.Matrices.{Lists, HasRow, Reached}
use Rattle.generator_laws.proofs.Calls.{generator_row, reached_generator_row}
use Rattle.accounting.specs.Homes.{Accounted, AccountedWithoutRoom}
use Rattle.accounting.proofs.HomeLaws.{accounted_without_room, accounted}

-- the generator is lent t and lanes, leakage t' and b: the same in the places in use
module _ (m : Model) (t t' : ModelTables) (same : SameModel m t t') (lanes : List ℕ) (len : ℕ) (b : Leakage.Basis) (same-words : Lent.basis_of lanes len ≡ basis_words b)
    (rows columns : List ℕ) (values : List Float) (g : Lent.Work) (n : ℕ) (generated : (generate rows columns values g m t lanes len).out.answer ≡ Ok n)
    (outWords : List ℕ) (outValues : List Float) (w : Leakage.Work) (l : Limits) (k : ℕ) (leaked : (Leakage.leak outWords outValues w m t' b l).out.answer ≡ Ok k) where
  abbrev Has : ℕ → ℕ → Float → Type 0
  Has = Lists (generate rows columns values g m t lanes len).out

  abbrev listed : Rows
  listed = listed_by (Leakage.leak outWords outValues w m t' b l) k

  actions : action_of m t ≡ action_of m t'
  actions = λ i p. sym (same_action m t' t (same_back m t t' same) (leakage_model outWords outValues w m t' b l k leaked) p) i

  each_row : (v : Word) → HasRow (basis_words b) Has v → (is_among v (basis_words b) ≡ true) × Reached (action_of m t') (basis_words b) v
  each_row =
      subst (λ (act : Word → List Term). (v : Word) → HasRow (basis_words b) Has v → (is_among v (basis_words b) ≡ true) × Reached act (basis_words b) v) actions
      (subst (λ (bs : List Word). (v : Word) → HasRow bs Has v → (is_among v bs ≡ true) × Reached (action_of m t) bs v) same-words (generator_row rows columns values g m t lanes len n generated))

  reached_row : (v : Word) → is_among v (basis_words b) ≡ true → Reached (action_of m t') (basis_words b) v → HasRow (basis_words b) Has v
  reached_row =
      subst (λ (act : Word → List Term). (v : Word) → is_among v (basis_words b) ≡ true → Reached act (basis_words b) v → HasRow (basis_words b) Has v) actions
      (subst (λ (bs : List Word). (v : Word) → is_among v bs ≡ true → Reached (action_of m t) bs v → HasRow bs Has v) same-words (reached_generator_row rows columns values g m t lanes len n generated))

  -- whatever the limits: no word has two homes, and only a reached word outside the basis and unprotected may have none
  pub no_word_has_two_homes : AccountedWithoutRoom (action_of m t') (basis_words b) (words b.protected) (Lists (generate rows columns values g m t lanes len).out) (words_of (listed_by (Leakage.leak outWords outValues w m t' b l) k))
  no_word_has_two_homes =
      accounted_without_room m t' b (words_each outWords outValues w m t' b l k leaked) Has each_row reached_row listed (leakage_only_reached outWords outValues w m t' b l k leaked)

  -- with tau_add below zero and room for all, every reached word has exactly one home
  pub every_reached_word_has_one_home : RoomForAll m t' b l → TauBelowZero l
      → Accounted (action_of m t') (basis_words b) (words b.protected) (Lists (generate rows columns values g m t lanes len).out) (words_of (listed_by (Leakage.leak outWords outValues w m t' b l) k))
  every_reached_word_has_one_home enough low =
      accounted m t' b (words_each outWords outValues w m t' b l k leaked) Has each_row reached_row listed (leakage_reaches outWords outValues w m t' b l k leaked enough low)
