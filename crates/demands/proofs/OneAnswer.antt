-- SPDX-FileCopyrightText: 2026 The PPVM Authors
-- SPDX-License-Identifier: Apache-2.0

-- Demand 1, first sentence: what two calls with one definition answer and leave is the same. Assumes nothing.
use mathlib.Core.Path.{◌≡◌, sym, ◌∙◌}
use Rattle.demands.specs.Demands.{OneAnswer}

via : {A : Type 0} {a b c : A} → a ≡ c → b ≡ c → a ≡ b
via p q = p ∙ sym q

pub one_answer : OneAnswer
one_answer = record {
  writing = λ w n out r r' o o' a b. (via a.answers b.answers, via a.places b.places);
  building = λ d r r' t t' w w' x x' a b. (via a.answers b.answers, via a.tables_are b.tables_are, via a.work_words b.work_words, via a.work_numbers b.work_numbers);
  acting = λ d r r' o o' v v' w w' x x' a b. (
    via a.answers b.answers,
    via a.out_words b.out_words,
    via a.out_values b.out_values,
    via a.work_words b.work_words,
    via a.work_sums b.work_sums,
  );
  keeping = λ d r r' l l' c c' o o' w w' f f' k k' a b. (
    via a.answers b.answers,
    via a.lanes_are b.lanes_are,
    via a.coeffs_are b.coeffs_are,
    via a.order_is b.order_is,
    via a.work_is b.work_is,
    via a.fixed_is b.fixed_is,
    via a.kept_is b.kept_is,
  );
  admitting = λ d r r' l l' c c' o o' w w' k k' a b. (
    via a.answers b.answers,
    via a.lanes_are b.lanes_are,
    via a.coeffs_are b.coeffs_are,
    via a.order_is b.order_is,
    via a.work_is b.work_is,
    via a.kept_is b.kept_is,
  );
  leaking = λ d r r' o o' v v' w w' a b. (via a.answers b.answers, via a.out_words b.out_words, via a.out_values b.out_values, via a.work_is b.work_is);
  generating = λ d r r' x x' y y' v v' w w' a b. (
    via a.answers b.answers,
    via a.rows_are b.rows_are,
    via a.columns_are b.columns_are,
    via a.values_are b.values_are,
    via a.work_is b.work_is,
  );
  by_rows = λ d r r' x x' y y' v v' w w' a b. (
    via a.answers b.answers,
    via a.offsets_are b.offsets_are,
    via a.columns_are b.columns_are,
    via a.values_are b.values_are,
    via a.work_is b.work_is,
  );
  exporting = λ d r r' t t' w w' a b. (via a.answers b.answers, via a.text_is b.text_is, via a.work_is b.work_is);
  multiplying = λ d r r' o o' w w' a b. (via a.answers b.answers, via a.output_is b.output_is, via a.work_is b.work_is);
  counting = λ d r r' h h' j j' m m' w w' x x' a b. (
    via a.answers b.answers,
    via a.h_index b.h_index,
    via a.j_index b.j_index,
    via a.mask_is b.mask_is,
    via a.work_words b.work_words,
    via a.work_sums b.work_sums,
  );
  evolving = λ d r r' o o' w w' a b. (via a.answers b.answers, via a.out_is b.out_is, via a.work_is b.work_is);
  stepping = λ d r r' l l' c c' w w' a b. (via a.answers b.answers, via a.words_are b.words_are, via a.coeffs_are b.coeffs_are, via a.work_is b.work_is);
  norming = λ d r r' w w' a b. (via a.answers b.answers, via a.work_is b.work_is);
  selecting = λ d r r' w w' a b. (via a.answers b.answers, via a.work_is b.work_is);
}
