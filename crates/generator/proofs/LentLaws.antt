-- SPDX-FileCopyrightText: 2026 The PPVM Authors
-- SPDX-License-Identifier: Apache-2.0

-- What passed the tests is what the columns ask for: the model, the basis with its slots, places for entries. Assumes nothing.
use mathlib.Core.Path.{◌≡◌, ap, ◌∙◌}
use mathlib.Core.Bool.{false}
use mathlib.Core.List.{List, ◌++◌}
use Prim.Native.Nat.{ℕ, ◌*◌, ◌/◌, ◌≤◌, ◌<◌, min}
use native.Mathlib.Omega.{arith}
use borrow.Author.Tests.{lt-ltb, le-ltb}
use lib.Ieee.{Float}
use lib.ListN.{length, get_or, take, drop, take-append-drop}
use lib.Seq.{get_or-take, length-take-le, take_at}
use Rattle.refusal.specs.declared.Refusal.TheVariants.{RepeatedBasisWord}
use Rattle.std.specs.Prelude.{Result, Ok, Err}
use Rattle.refusal.specs.declared.Refusal.{Refusal}
use Rattle.word.specs.Word.{identity}
use Rattle.word.specs.Flat.{words, word_lanes}
use Rattle.word.specs.Register.{reaches}
use Rattle.word.specs.declared.word.Word.{Word}
use Rattle.word.proofs.FlatLaws.{words_low, words_high, words_take}
use Rattle.slots.specs.Between.{Slotted}
use Rattle.model.specs.Stored.{ModelTables}
use Rattle.model.specs.declared.stored.Model.{Model}
use Rattle.rules_by_index.specs.Near.{ModelIndexed}
use Rattle.action.specs.Acts.{sum_places}
use Rattle.lent.specs.Words.{outside_at}
use Rattle.columns.specs.Between.{LaysDistinct, ModelReady, BasisReady, SumRoom, Stages}
use Rattle.generator.specs.Between.{ModelLent, BasisLent}
use Rattle.columns.specs.Columns.{generator_of, generator_room}
use Rattle.generator.specs.Lent.{basis_of, distinct}
use Rattle.generator.proofs.CheckLaws.{Passed}

-- ---- after the tests
module _ (m : Model) (t : ModelTables) (lanes : List ℕ) (len : ℕ) (hIndex jIndex mask heads nexts : List ℕ) (p : Passed m t lanes len (length hIndex) (length jIndex) (length mask) (length heads) (length nexts)) where
  basis_long : length (take (len * word_lanes) lanes) ≡ len * word_lanes
  basis_long = length-take-le (len * word_lanes) lanes (omega (arith, p.words_long))

  pub model_lent : 0 < length (take (len * word_lanes) lanes) / word_lanes → ModelLent m t hIndex jIndex mask
  model_lent h = let a : 0 < len = omega (arith, basis_long) in record { accepted = p.model; h_rows = p.h_long a; j_rows = p.j_long a; row = p.mask_long a }

  first_words : words (take (len * word_lanes) lanes) ≡ basis_of lanes len
  first_words = let e : len * word_lanes ≡ word_lanes * len = omega arith in ap (λ (k : ℕ). words (take k lanes)) e ∙ words_take len lanes

  pub basis_words : words (take (len * word_lanes) lanes) ≡ basis_of lanes len
  basis_words = first_words

  pub basis_lent : ((k : ℕ) → k < len → outside_at lanes m.qubits k ≡ false) → BasisLent m.qubits len (take (len * word_lanes) lanes) heads nexts
  unfolding outside_at
  basis_lent inside =
      record {
        each = basis_long;
        few = p.few;
        inside = λ k h. let l : k < len = omega (arith, basis_long, h) in
            ap (λ (v : Word). reaches v m.qubits) (ap (λ (ws : List Word). get_or ws k identity) first_words ∙ get_or-take len (words lanes) k identity l) ∙ inside k l;
        heads_long = p.heads_long;
        nexts_long = p.nexts_long;
      }

-- ---- the index made
pub model_ready : (m : Model) (t : ModelTables) (hIndex hIndex' jIndex jIndex' mask : List ℕ) → ModelLent m t hIndex jIndex mask → ModelIndexed m t hIndex' jIndex' → length hIndex' ≡ length hIndex → length jIndex' ≡ length jIndex
    → ModelReady m t hIndex' jIndex' mask
model_ready m t hIndex hIndex' jIndex jIndex' mask l i eh ej =
    record { tested = l.accepted; indexed = i; h_rows = omega (arith, l.h_rows, eh); j_rows = omega (arith, l.j_rows, ej); row = l.row }

-- ---- the slots laid
module _ (n len : ℕ) (lanes heads nexts : List ℕ) (l : BasisLent n len lanes heads nexts) where
  pub basis_size : length (words lanes) ≡ len
  basis_size = omega (arith, l.each, words_low lanes, words_high lanes)

  pub slots_asked : (word_lanes * length (take len nexts) ≡ length lanes) × (length (take len nexts) ≤ length heads)
  slots_asked = let k = length-take-le len nexts l.nexts_long in (omega (arith, k, l.each), omega (arith, k, l.heads_long))

  module _ (heads' part : List ℕ) (r : ℕ) (d : LaysDistinct (words lanes) heads (take len nexts) heads' part r) where
    -- a word came before
    module _ (h : r < len) where
      pub repeated : distinct (words lanes) ≡ Err (RepeatedBasisWord r)
      unfolding distinct
      repeated = rw (← d.first, lt-ltb r (length (words lanes)) (omega (arith, basis_size)))

      pub heads_kept : heads' ≡ heads
      heads_kept = (d.unchanged (omega (arith, basis_size))).0

      pub nexts_kept : part ++ drop len nexts ≡ nexts
      nexts_kept = ap (λ (k : List ℕ). k ++ drop len nexts) (d.unchanged (omega (arith, basis_size))).1 ∙ take-append-drop len nexts

    module _ (h : len ≤ r) where
      pub differ : distinct (words lanes) ≡ Ok tt
      unfolding distinct
      differ = rw (← d.first, le-ltb r (length (words lanes)) (omega (arith, basis_size)))

      laid : Slotted (words lanes) heads' part
      laid = d.slots (omega (arith, basis_size))

      -- lent again in their first places
      part_again : take len (part ++ drop len nexts) ≡ part
      part_again = take_at part (drop len nexts) len (laid.each ∙ basis_size)

      pub basis_ready : BasisReady n lanes heads' (take len (part ++ drop len nexts))
      basis_ready = record { slots = rw part_again laid; inside = l.inside; few = omega (arith, basis_size, l.few) }

-- ---- the places of table 1
pub sums_room : {r : ℕ} (workWords : List ℕ) (workSums : List Float) → r ≡ min (length workWords / word_lanes) (length workSums / 2) → SumRoom r workWords workSums
sums_room workWords workSums e = record { words_long = omega (arith, e); sums_long = omega (arith, e) }

pub stages_room : (m : Model) (t : ModelTables) (bs : List Word) (workWords : List ℕ) (workSums : List Float) (entryRoom : ℕ) {s : ℕ} → s ≡ sum_places workWords workSums → (rows columns : List ℕ) (values : List Float) (r : Result ℕ Refusal)
    → Stages (generator_room m t bs s entryRoom) (generator_of m t bs) rows columns values r → Stages (generator_room m t bs (sum_places workWords workSums) entryRoom) (generator_of m t bs) rows columns values r
stages_room m t bs workWords workSums entryRoom e rows columns values r k = rw (← e) k
