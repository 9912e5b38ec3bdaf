-- SPDX-FileCopyrightText: 2026 The PPVM Authors
-- SPDX-License-Identifier: Apache-2.0

-- What is stored for a pair: a factor for each term of the left operator with each of the right one, and the thinned product after K.
use Rattle.std.specs.Prelude.{ℕ, ◌+◌, ◌/◌, ◌%◌, List, [], ◌++◌, map, length, get_or, take}
use Rattle.number.specs.Numbers.{Cx, mul_c}
use Rattle.number.specs.Floats.{floats, float0}
use Rattle.gksl.specs.Model.{entry_in}
use Rattle.gksl.specs.Rules.{pairs_over, formed_over, bare, on_word}
use Rattle.gksl.specs.Words.{pauli}
use Rattle.model.specs.Stored.{range, entry}
use Rattle.model.specs.Terms.{Term}
use Rattle.model_build.specs.Compiled.{Compiled}
use Rattle.lent.specs.Laid.{total}
use Rattle.model.specs.declared.stored.Range.{Range}
use Rattle.k_matrix.specs.Matrix.{pair_places}

-- the conjugate of a's number × b's number × K, with b's word
unfoldable pub factor_of : Cx floats → Term → Term → Term
factor_of k a b = on_word floats pauli (mul_c floats (bare floats pauli a b) k) b.word

abbrev pub factors_of : Cx floats → List Term → List Term → List Term
factors_of k A B = pairs_over floats pauli (factor_of k) A B

-- K × the number of a thinned word
unfoldable pub scaled : Cx floats → Term → Term
scaled k c = on_word floats pauli (mul_c floats k c.num) c.word

abbrev pub product_after : Cx floats → List Term → List Term → List Term
product_after k A B = map (scaled k) (formed_over floats pauli A B)

-- the pair of the operators A and B, whose terms stand in two ranges of the terms table
unfoldable pub compile_pair : Cx floats → Range → Range → List Term → List Term → Compiled
compile_pair k left right A B = record {
  rate = float0;
  numbers = λ at. entry 2 left right at (range (at + length (factors_of k A B)) (at + length (factors_of k A B) + length (product_after k A B)));
  terms = factors_of k A B ++ product_after k A B;
}

-- the places of operator n's terms, where those of the first start at a place and each has so many
abbrev pub range_of : ℕ → List ℕ → ℕ → Range
range_of from counts n = range (from + total (take n counts)) (from + total (take n counts) + get_or counts n 0)

-- the pairs of K over operators whose terms are stored from a place on
abbrev pub pair_at : ℕ → List ℕ → List (Cx floats) → List (List Term) → ℕ → Compiled
pair_at from counts K As p =
    let n : ℕ = p / length counts in
    let m : ℕ = p % length counts in
    compile_pair (entry_in floats (length counts) K n m) (range_of from counts n) (range_of from counts m) (get_or As n []) (get_or As m [])

abbrev pub pairs_of : ℕ → List ℕ → List (Cx floats) → List (List Term) → List Compiled
pairs_of from counts K As = map (pair_at from counts K As) (pair_places floats (length counts) K)
