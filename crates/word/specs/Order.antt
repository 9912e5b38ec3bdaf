-- SPDX-FileCopyrightText: 2026 The PPVM Authors
-- SPDX-License-Identifier: Apache-2.0

-- Word order: the x lanes, then the z lanes, as unsigned numbers; the first difference decides.
use Rattle.std.specs.Prelude.{ℕ, Bool, true, false, cond, List, [], ◌∷◌, ltb}
use Rattle.word.specs.declared.word.Word.{Word}
use Rattle.std.specs.declared.cmp.Ordering.{Ordering}
use Rattle.std.specs.declared.cmp.Ordering.TheVariants.{Less, Equal, Greater}

-- a against b, and where they are equal, what comes after
unfoldable pub compare_then : ℕ → ℕ → Ordering → Ordering
compare_then a b after = cond (ltb a b) Less (cond (ltb b a) Greater after)

-- lane by lane, over any number of lanes, and where all are equal, what comes after
unfoldable pub compare_lanes : List ℕ → List ℕ → Ordering → Ordering
compare_lanes [] [] after = after
compare_lanes [] (b ∷ bs) after = Less
compare_lanes (a ∷ l) [] after = Greater
compare_lanes (a ∷ l) (b ∷ bs) after = compare_then a b (compare_lanes l bs after)

unfoldable pub compare : Word → Word → Ordering
compare p q = compare_lanes p.x q.x (compare_lanes p.z q.z Equal)

abbrev pub is_equal : Ordering → Bool
is_equal Less = false
is_equal Equal = true
is_equal Greater = false

abbrev pub is_less : Ordering → Bool
is_less Less = true
is_less Equal = false
is_less Greater = false

abbrev pub before : Word → Word → Bool
before p q = is_less (compare p q)

abbrev pub same : Word → Word → Bool
same p q = is_equal (compare p q)
