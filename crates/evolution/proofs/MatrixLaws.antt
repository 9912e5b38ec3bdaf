-- SPDX-FileCopyrightText: 2026 The PPVM Authors
-- SPDX-License-Identifier: Apache-2.0

-- The matrix that an evolution builds: its rows are those of the call that builds a matrix by rows, its norm is the unshifted one, and it
-- passes the tests of a product with any finite numbers. Assumes nothing.
use mathlib.Core.Path.{◌≡◌, refl, sym, ap, ◌∙◌, subst}
use mathlib.Core.Bool.{true, false≢true}
use mathlib.Core.List.{List, [], ◌∷◌, map}
use Prim.Native.Nat.{ℕ, zero, suc, ◌+◌, ◌≤◌, ◌<◌}
use native.Mathlib.Omega.{arith}
use lib.Ieee.{Float}
use lib.ListN.{length, take, set}
use lib.Seq.{length-take-le}
use Rattle.refusal.specs.declared.Refusal.{Refusal}
use Rattle.std.specs.Prelude.{Result, Ok, Err}
use Rattle.refusal.specs.Cause.{Answer}
use Rattle.refusal.proofs.Told.{refused_not, refused_same, accepted_same}
use Rattle.word.specs.declared.word.Word.{Word}
use Rattle.model.specs.Stored.{ModelTables}
use Rattle.model.specs.Tested.{test_model}
use Rattle.model.specs.declared.stored.Model.{Model}
use Rattle.action.specs.Acts.{sum_places}
use Rattle.columns.specs.Entries.{Entry}
use Rattle.columns.specs.Columns.{generator_of, generator_room}
use Rattle.columns.specs.Between.{Stages, StageRoom}
use Rattle.columns.proofs.EntryLaws.{staged_columns, staged_values}
use Rattle.columns.proofs.GeneratorLaws.{generator_fits}
use Rattle.lent.specs.Laid.{laid}
use Rattle.csr_build.specs.Rows.{rows_to, offsets_of}
use Rattle.csr_build.proofs.SortLaws.{offsets_many}
use Rattle.column_norm.specs.Columns.{largest}
use Rattle.raw_norm.specs.Unshifted.{unshifted_norm}
use Rattle.raw_norm.specs.Between.{raws_from}
use Rattle.raw_norm.proofs.RawLaws.{norm_is}
use Rattle.generator.specs.Between.{HeldRows}
use Rattle.generator.specs.Lent as Generator
use Rattle.generator.specs.Generators.{CsrOut, by_rows, csr_over, csr_places, staged_entries}
use Rattle.generator.proofs.ListingLaws.{by_rows_is}
use Rattle.generator_laws.proofs.RowPlaces.{columns_by, values_by, values_many, first_offsets, first_columns, first_values}
use Rattle.generator_laws.proofs.SoundRows.{below, sized, generator_sound}
use Rattle.csr.proofs.CheckLaws.{sound_accepted}
use Rattle.taylor.specs.Between.{Matrix}
use Rattle.taylor.specs.Evolves.{Evolves, evolve_by}
use Rattle.evolution.specs.Evolutions.{room_then, evolve_over}
use Rattle.evolution.specs.Between.{count_of, StageHeld, NormRead, NumbersLent, RowsReady, built_then}
use Rattle.evolution.specs.declared.matrix.Built.{Built}

-- ---- what is staged
pub stage_held : (n : ℕ) (r : Result ℕ Refusal) (rows columns : List ℕ) (values : List Float) (columns' : List ℕ) (values' : List Float) → HeldRows n r rows columns values columns' values' → StageHeld r columns values
stage_held n r rows columns values columns' values' h k e = ((h.rowed k e).columns_long, (h.rowed k e).values_long)

-- what was built, by how many entries it has
pub record Counted (built : Result Built Refusal) (k : ℕ) : Type 0 where
  pub matrix : Built
  pub is : built ≡ Ok matrix
  pub count : matrix.count ≡ k

counted : (built : Result Built Refusal) (k : ℕ) → count_of built ≡ Ok k → Counted built k
counted (Ok x) k e = record { matrix = x; is = refl; count = accepted_same x.count k e }
counted (Err q) k e = absurd (refused_not q k e)

refused_by : (built : Result Built Refusal) (q : Refusal) → count_of built ≡ Err q → built ≡ Err q
refused_by (Ok x) q e = absurd (refused_not q x.count (sym e))
refused_by (Err p) q e = ap Err (refused_same p q e)

module _ (staged : Result ℕ Refusal) (columns : List ℕ) (values : List Float) (n : ℕ) where
  pub normed : (k : ℕ) (norm : Float) → staged ≡ Ok k → norm ≡ largest (raws_from n 0 (take k columns) (take k values)) → (count_of (Ok (record { count = k; norm = norm })) ≡ staged) × NormRead (Ok (record { count = k; norm = norm })) columns values n
  normed k norm e h = (sym e, λ x f. let y : Built = record { count = k; norm = norm } in subst (λ (z : Built). z.norm ≡ largest (raws_from n 0 (take z.count columns) (take z.count values))) (accepted_same y x f) h)

  pub not_normed : (q : Refusal) (built : Result Built Refusal) → staged ≡ Err q → built ≡ Err q → (count_of built ≡ staged) × NormRead built columns values n
  not_normed q built e f = (ap count_of f ∙ sym e, λ x g. absurd (refused_not q x (sym f ∙ g)))

-- no numbers take no product
none_evolved : (offsets columns : List ℕ) (values : List Float) (dt : Float) (coeffs out : List Float) (norm dropTol : Float) → length coeffs ≡ 0 → evolve_by offsets columns values dt coeffs out norm dropTol ≡ record { answer = Ok 0; out = out }
unfolding evolve_by
none_evolved offsets columns values dt coeffs out norm dropTol e = rw e

-- over a matrix that was built
module _ (len : ℕ) (offsets columns : List ℕ) (values coeffs : List Float) (dt dropTol : Float) (out : List Float) where
  pub then_listed : (built : Result Built Refusal) (x : Built) → built ≡ Ok x → (e : Evolves) → e ≡ evolve_by (take (len + 1) offsets) (take x.count columns) (take x.count values) dt coeffs out x.norm dropTol → e ≡ built_then len offsets columns values coeffs built dt dropTol out
  then_listed built x f e h = rw f h

  pub then_none : (built : Result Built Refusal) (x : Built) → built ≡ Ok x → length coeffs ≡ len → len ≡ 0 → record { answer = Ok 0; out = out } ≡ built_then len offsets columns values coeffs built dt dropTol out
  then_none built x f each none = rw f (sym (none_evolved (take (len + 1) offsets) (take x.count columns) (take x.count values) dt coeffs out x.norm dropTol (each ∙ none)))

  pub then_refused : (built : Result Built Refusal) (q : Refusal) → built ≡ Err q → record { answer = Err q; out = out } ≡ built_then len offsets columns values coeffs built dt dropTol out
  then_refused built q f = rw f

by_rows_answer : (n : ℕ) (offsets columns : List ℕ) (values : List Float) (r : Result ℕ Refusal) (E : List Entry) → (by_rows n offsets columns values r E).answer ≡ r
by_rows_answer n offsets columns values (Ok k) E = refl
by_rows_answer n offsets columns values (Err q) E = refl

pub acted_is : (n : ℕ) (offsets columns : List ℕ) (values : List Float) (acted : Result ℕ Refusal) (offsets' columns' : List ℕ) (values' : List Float) (r : Result ℕ Refusal) (E : List Entry) → ◌≡◌ {A = CsrOut} (record { answer = acted; offsets = offsets'; columns = columns'; values = values' }) (by_rows n offsets columns values r E) → acted ≡ r
acted_is n offsets columns values acted offsets' columns' values' r E e = ap (λ (o : CsrOut). o.answer) e ∙ by_rows_answer n offsets columns values r E

-- no rows, where no place was lent for where they start
laid_nowhere : (k : ℕ) (bs : List ℕ) → laid set k bs [] ≡ []
unfolding laid
laid_nowhere k [] = refl
laid_nowhere k (b ∷ bs) = laid_nowhere (suc k) bs

pub no_rows : (n : ℕ) (offsets columns : List ℕ) (values : List Float) (r : Result ℕ Refusal) (E : List Entry) → (0 < n → n < length offsets) → length offsets ≤ n
    → ◌≡◌ {A = CsrOut} (record { answer = r; offsets = offsets; columns = columns; values = values }) (by_rows n offsets columns values r E)
unfolding rows_to laid
no_rows zero [] columns values (Ok k) E h l = rw (laid_nowhere 0 (offsets_of 0 E))
no_rows zero (x ∷ offsets) columns values (Ok k) E h l = absurd (omega arith)
no_rows (suc n) offsets columns values (Ok k) E h l = absurd (let z = h (omega arith) in omega arith)
no_rows n offsets columns values (Err q) E h l = refl

-- its norm
module _ (m : Model) (t : ModelTables) (bs : List Word) (len : ℕ) (all : length bs ≡ len) (rows columns : List ℕ) (values : List Float) (r : Result ℕ Refusal) where
  pub norm_built : (tests : Answer) → Stages tests (generator_of m t bs) rows columns values r → (k : ℕ) → r ≡ Ok k → StageRoom k rows columns values → (x : Float) → x ≡ largest (raws_from len 0 (take k columns) (take k values)) → x ≡ unshifted_norm m t bs
  norm_built tests s k e room x n =
      let E : List Entry = generator_of m t bs in
      let h = s.held k e in
      let c : take k columns ≡ map (λ (y : Entry). y.column) E = sym (staged_columns k rows columns values room.rows_long room.columns_long room.values_long) ∙ ap (λ (l : List Entry). map (λ (y : Entry). y.column) l) h in
      let v : take k values ≡ map (λ (y : Entry). y.value) E = sym (staged_values k rows columns values room.rows_long room.columns_long room.values_long) ∙ ap (λ (l : List Entry). map (λ (y : Entry). y.value) l) h in
      n ∙ rw (c, v, ← all) (norm_is m t bs)

-- its rows
module _ (offsets columns : List ℕ) (values : List Float) (w : Generator.Work) (m : Model) (t : ModelTables) (n : ℕ) (bs : List Word) where
  pub rows_built : (out : CsrOut) (places : ℕ) (stageRows stageColumns : List ℕ) (stageValues : List Float) (r : Result ℕ Refusal) → places ≡ csr_places w columns values
      → Stages (generator_room m t bs (sum_places w.work_words w.work_sums) places) (generator_of m t bs) stageRows stageColumns stageValues r
      → out ≡ by_rows n offsets columns values r (staged_entries r stageRows stageColumns stageValues) → out ≡ csr_over offsets columns values w n m t bs
  unfolding csr_over
  rows_built out places stageRows stageColumns stageValues r p s o = rw (← p) (o ∙ by_rows_is _ _ stageRows stageColumns stageValues n offsets columns values r s)

-- ---- the tables of a matrix that was built
module _ (m : Model) (t : ModelTables) (passes : test_model m t ≡ Ok tt) (bs : List Word) (len : ℕ) (all : length bs ≡ len) where
  abbrev G : List Entry
  G = generator_of m t bs

  matrix_of : Matrix len (offsets_of len G) (columns_by len G) (values_by len G)
  matrix_of = record {
    offsets_long = let z = offsets_many len G in omega (arith, z);
    values_long = values_many len G (below m t bs len all) ∙ sym (sized m t bs len all);
    passes = λ b e f. sound_accepted len (offsets_of len G) (columns_by len G) (values_by len G) b true b
        (generator_sound m t bs len all passes b true b (λ k h. f k (omega arith)) (λ x. absurd (false≢true (sym x))));
  }

  module _ (w : Generator.Work) (offsets columns : List ℕ) (values : List Float) (offsets-long : 0 < len → len < length offsets) where
    abbrev tests : Answer
    tests = generator_room m t bs (sum_places w.work_words w.work_sums) (csr_places w columns values)

    -- the first places hold the generator by rows
    pub record Laid (offsets' columns' : List ℕ) (values' : List Float) : Type 0 where
      pub offsets_are : 0 < len → take (len + 1) offsets' ≡ offsets_of len G
      pub columns_are : take (length G) columns' ≡ columns_by len G
      pub values_are : take (length G) values' ≡ values_by len G
      pub columns_long : length G ≤ length columns'
      pub values_long : length G ≤ length values'

    module _ (built : Result Built Refusal) (offsets' columns' : List ℕ) (values' : List Float) (rows : ◌≡◌ {A = CsrOut} (record { answer = count_of built; offsets = offsets'; columns = columns'; values = values' }) (csr_over offsets columns values w len m t bs)) (ec : length columns' ≡ length columns) (ev : length values' ≡ length values) where
      abbrev acted : Result ℕ Refusal
      acted = count_of built

      acted_refused : (q : Refusal) → tests ≡ Err q → acted ≡ Err q
      unfolding csr_over
      acted_refused q f = ap (λ (o : CsrOut). o.answer) rows ∙ rw f

      acted_listed : tests ≡ Ok tt → acted ≡ Ok (length G)
      unfolding csr_over
      acted_listed f = ap (λ (o : CsrOut). o.answer) rows ∙ rw f

      laid_rows : tests ≡ Ok tt → Laid offsets' columns' values'
      unfolding csr_over
      laid_rows f =
          let k = generator_fits m t bs (sum_places w.work_words w.work_sums) (csr_places w columns values) f in
          let b = below m t bs len all in
          let o : ◌≡◌ {A = CsrOut} (record { answer = acted; offsets = offsets'; columns = columns'; values = values' }) (by_rows len offsets columns values (Ok (length G)) G) = rows ∙ rw f in
          record {
            offsets_are = λ some. ap (λ (x : CsrOut). take (len + 1) x.offsets) o ∙ first_offsets len G b offsets columns values (offsets-long some);
            columns_are = ap (λ (x : CsrOut). take (length G) x.columns) o ∙ first_columns len G b offsets columns values (omega (arith, k));
            values_are = ap (λ (x : CsrOut). take (length G) x.values) o ∙ first_values len G b offsets columns values (omega (arith, k));
            columns_long = omega (arith, k, ec);
            values_long = omega (arith, k, ev);
          }

      -- a count that was listed is that of all entries
      listed_all : (k : ℕ) → acted ≡ Ok k → (tests ≡ Ok tt) × (k ≡ length G)
      listed_all k e = go tests refl
        where
          go : (a : Answer) → tests ≡ a → (tests ≡ Ok tt) × (k ≡ length G)
          go (Ok _) f = (f, let g = acted_listed f in cc)
          go (Err q) f = absurd (let g = acted_refused q f in let z : ◌≡◌ {A = ℕ} 0 1 = cc in omega arith)

      pub rows_ready : (coeffs v b product out : List Float) → NumbersLent m t len coeffs offsets v b product out → length offsets' ≡ length offsets
          → RowsReady len offsets' columns' values' (take len coeffs) built v b product out
      rows_ready coeffs v b product out l eo = record {
        each = length-take-le len coeffs l.coeffs_long;
        offsets_long = λ some. let o = offsets-long some in omega (arith, o, eo);
        held = λ k e. let a = listed_all k e in let d = laid_rows a.0 in (omega (arith, a.1, d.columns_long), omega (arith, a.1, d.values_long));
        ready = λ some k e.
            let a = listed_all k e in
            let d = laid_rows a.0 in
            let z = length-take-le len coeffs l.coeffs_long in
            rw (a.1, d.offsets_are some, d.columns_are, d.values_are)
            (record {
              matrix = subst (λ (n : ℕ). Matrix n (offsets_of len G) (columns_by len G) (values_by len G)) (sym z) matrix_of;
              finite = l.finite;
              v_long = omega (arith, z, l.v_long);
              b_long = omega (arith, z, l.b_long);
              product_long = omega (arith, z, l.product_long);
              out_long = omega (arith, z, l.out_long);
            });
      }

      -- what is evolved over it
      pub evolved_over : ((x : Built) → built ≡ Ok x → x.norm ≡ unshifted_norm m t bs) → (coeffs : List Float) (dt dropTol : Float) (out : List Float)
          → built_then len offsets' columns' values' (take len coeffs) built dt dropTol out ≡ room_then m t bs len (take len coeffs) dt dropTol tests out
      evolved_over n coeffs dt dropTol out = go tests len refl refl
        where
          none : tests ≡ Ok tt → len ≡ 0 → built_then len offsets' columns' values' (take len coeffs) built dt dropTol out ≡ room_then m t bs len (take len coeffs) dt dropTol (Ok tt) out
          none f z =
              let y : length (take len coeffs) ≡ 0 = rw z in
              let x = counted built (length G) (acted_listed f) in
              rw x.is (none_evolved _ _ _ dt (take len coeffs) out x.matrix.norm dropTol y ∙ sym (none_evolved _ _ _ dt (take len coeffs) out (unshifted_norm m t bs) dropTol y))

          some : tests ≡ Ok tt → 0 < len → built_then len offsets' columns' values' (take len coeffs) built dt dropTol out ≡ room_then m t bs len (take len coeffs) dt dropTol (Ok tt) out
          some f h =
              let x = counted built (length G) (acted_listed f) in
              let d = laid_rows f in
              rw (x.is, x.count, d.offsets_are h, d.columns_are, d.values_are, n x.matrix x.is)

          go : (a : Answer) (k : ℕ) → tests ≡ a → len ≡ k → built_then len offsets' columns' values' (take len coeffs) built dt dropTol out ≡ room_then m t bs len (take len coeffs) dt dropTol a out
          go (Ok _) zero f z = none f z
          go (Ok _) (suc k) f z = some f (omega (arith, z))
          go (Err q) k f z = rw (refused_by built q (acted_refused q f))

      -- as the call has it
      pub course_is : (v b product : List Float) → ((x : Built) → built ≡ Ok x → x.norm ≡ unshifted_norm m t bs) → (coeffs : List Float) (dt dropTol : Float) (out : List Float) (e : Evolves)
          → e ≡ built_then len offsets' columns' values' (take len coeffs) built dt dropTol out
          → e ≡ evolve_over (record { generator = w; offsets = offsets; columns = columns; values = values; v = v; b = b; product = product }) out m t bs coeffs len dt dropTol
      unfolding evolve_over
      course_is v b product n coeffs dt dropTol out e h = h ∙ evolved_over n coeffs dt dropTol out
