-- SPDX-FileCopyrightText: 2026 The PPVM Authors
-- SPDX-License-Identifier: Apache-2.0

-- What leakage answers in plain numbers, and the lengths of its work tables.
use Rattle.std.specs.Prelude.{ℕ, ◌+◌, ◌*◌, min, ◌≡◌, List, Float}
use Rattle.word.specs.Flat.{word_lanes}
use Rattle.word.specs.Word.{max_qubits}
use Rattle.lent.specs.Tests.{where_any}
use Rattle.lent.specs.Words.{max_words}
use Rattle.action.specs.Counts.{row_lanes}
use Rattle.leakage.specs.Leakages.{Leaking, Work}
use Rattle.pebblelinen.specs.Actions.{listed_of}
use Rattle.pebblelinen.specs.declared.actions.ListedWords.{ListedWords}
use Rattle.pebblelinen.specs.declared.leakages.LeakageSizes.{LeakageSizes}

-- what leakage answers, and the lent tables afterwards
pub record LeavesLeakage (k : Leaking) (r : ListedWords) (outWords : List ℕ) (outValues : List Float) (w : Work) : Type 0 where
  pub answers : r ≡ listed_of k.out.answer
  pub out_words : outWords ≡ k.out.out_words
  pub out_values : outValues ≡ k.out.out_values
  pub work_is : w ≡ k.work

-- more places than any table of sums or candidates is lent
abbrev pub max_places : ℕ
max_places = 4294967295

-- the lengths for a register, a basis of so many entries, so many protected words, actions that touch so many words, and so many
-- candidates at a time: twice as many slots as words, of the basis and the protected words together, and of the candidates; for no entries
-- neither rows nor slots of the first
unfoldable pub leakage_sizes : ℕ → ℕ → ℕ → ℕ → ℕ → LeakageSizes
leakage_sizes qubits entries protected touched candidates =
    let rows : ℕ = where_any entries (row_lanes * min qubits max_qubits) in
    let e : ℕ = min entries max_words in
    let p : ℕ = min (where_any entries protected) max_words in
    let t : ℕ = min touched max_places in
    let c : ℕ = min candidates max_places in
    record {
      h_index = rows;
      j_index = rows;
      mask = where_any entries row_lanes;
      work_words = word_lanes * t;
      work_sums = 2 * t;
      order = e;
      heads = 2 * (e + p);
      nexts = e + p;
      cand_words = word_lanes * c;
      cand_sums = c;
      place_order = 2 * c;
      place_work = c;
    }
