-- SPDX-FileCopyrightText: 2026 The PPVM Authors
-- SPDX-License-Identifier: Apache-2.0

-- What an accepted call of the action leaves in its tables for words and values: of a model that was built, with whole numbers of parts
-- of at most 256, exactly the adjoint GKSL generator. Assumes nothing.
use mathlib.Core.Path.{◌≡◌, refl, sym, ap, ap₂, subst⁻¹, ◌∙◌}
use mathlib.Core.Bool.{Bool, true, false, cond}
use mathlib.Core.List.{List, [], ◌∷◌, map}
use Prim.Native.Nat.{ℕ, zero, suc, ◌≤◌}
use native.Mathlib.Omega.{arith}
use borrow.Author.Tests.{ltb-false}
use lib.Dec.{ltb}
use lib.Ieee.{Float}
use lib.ListN.{length, take, set, length-map}
use Rattle.refusal.specs.declared.Refusal.TheVariants.{WordOutsideRegister}
use Rattle.std.specs.Prelude.{Ok, Err}
use Rattle.refusal.specs.Cause.{Answer}
use Rattle.refusal.proofs.Told.{refused_not}
use Rattle.word.specs.Order.{same}
use Rattle.word.specs.Register.{reaches}
use Rattle.word.specs.Word.{Sound}
use Rattle.word.specs.Flat.{words, lay_word}
use Rattle.word.specs.declared.word.Word.{Word}
use Rattle.word.proofs.FlatLaws.{words_high}
use Rattle.number.specs.Numbers.{Cx, real_c}
use Rattle.number.specs.Whole.{whole}
use Rattle.number.specs.Floats.{floats}
use Rattle.number.specs.Exact.{Is}
use Rattle.gksl.specs.Model.{ModelOver}
use Rattle.gksl.specs.Words.{pauli}
use Rattle.sums.specs.Sums.{row, rows, AllAfter, Rising}
use Rattle.model.specs.Stored.{ModelTables}
use Rattle.model.specs.Terms.{Term}
use Rattle.lent.specs.Laid.{laid}
use Rattle.model.proofs.TermLaws.{rows_length}
use Rattle.model.specs.Tested.{test_model}
use Rattle.model.specs.declared.stored.Model.{Model}
use Rattle.lent.specs.Every.{Every}
use Rattle.lent.proofs.Lists.{every_map}
use Rattle.action.specs.Acts.{sums_of, action_of, sum_places, list_places, Acting, refusal, full, listing, tested, act}
use Rattle.action_laws.specs.Made.{Made}
use Rattle.action_laws.specs.WholeModel.{WholeModel}
use Rattle.action_laws.specs.Exact.{listed_at, list_in, ListsGenerator}
use Rattle.action_laws.proofs.LaidTerms.{laid_first, words_laid, rows_laid}
use Rattle.action_laws.proofs.ListedWords.{listed_sound}
use Rattle.action_laws.proofs.MadeExact.{made_exact}

-- ---- an accepted call lists the action, for which there is room
module _ (outWords : List ℕ) (outValues : List Float) (workWords : List ℕ) (workSums : List Float) (m : Model) (t : ModelTables) (p : Word) (n : ℕ) where
  record Accepts : Type 0 where
    count : n ≡ length (action_of m t p)
    places : length (action_of m t p) ≤ list_places outWords outValues
    is : act outWords outValues workWords workSums m t p ≡ listing outWords outValues workWords workSums (action_of m t p)

  accepts : (act outWords outValues workWords workSums m t p).answer ≡ Ok n → Accepts
  unfolding act
  accepts e =
      go (test_model m t) (reaches p m.qubits) (ltb (sum_places workWords workSums) (length (sums_of m t p)))
      (ltb (list_places outWords outValues) (length (action_of m t p))) refl refl e
    where
      result : Answer → Bool → Bool → Bool → Acting
      result a outside many over =
          tested outWords outValues workWords workSums a
          (cond outside (refusal outWords outValues workWords workSums (WordOutsideRegister 0))
          (cond many (full outWords outValues workWords workSums 1 (sum_places workWords workSums))
          (cond over (full outWords outValues workWords workSums 3 (list_places outWords outValues)) (listing outWords outValues workWords workSums (action_of m t p)))))

      go : (a : Answer) (outside many over : Bool) → act outWords outValues workWords workSums m t p ≡ result a outside many over
          → ltb (list_places outWords outValues) (length (action_of m t p)) ≡ over → (result a outside many over).answer ≡ Ok n → Accepts
      go (Err q) outside many over is z h = absurd (refused_not q n h)
      go (Ok _) true many over is z h = absurd (refused_not _ n h)
      go (Ok _) false true over is z h = absurd (refused_not _ n h)
      go (Ok _) false false true is z h = absurd (refused_not _ n h)
      go (Ok _) false false false is z h = record { count = cc; places = ltb-false (list_places outWords outValues) (length (action_of m t p)) z; is = is }

-- ---- a list by its words and real parts
abbrev only_real : Term → Term
only_real c = row c.word (real_c floats c.num.re)

listed_real : (v : Word) (L : List Term) → listed_at v (map only_real L) ≡ listed_at v L
unfolding listed_at
listed_real v [] = refl
listed_real v (c ∷ L) = ap (λ (x : Float). cond (same c.word v) c.num.re x) (listed_real v L)

after_real : (w : Word) (L : List Term) → AllAfter w L → AllAfter w (map only_real L)
unfolding AllAfter
after_real w [] h = tt
after_real w (c ∷ L) h = (h.0, after_real w L h.1)

rising_real : (L : List Term) → Rising L → Rising (map only_real L)
unfolding Rising
rising_real [] h = tt
rising_real (c ∷ L) h = (after_real c.word L h.0, rising_real L h.1)

lists_real : (w : ModelOver whole pauli) (p : Word) (L : List Term) → ListsGenerator w p L → ListsGenerator w p (map only_real L)
lists_real w p L g = record {
  value = λ v. let z = g.value v in (z.0, subst⁻¹ (λ (x : Float). Is x z.0) (listed_real v L) z.1, z.2);
  not_zero = every_map (λ c. floats.is_zero c.num.re ≡ false) only_real L g.not_zero;
  once = rising_real L g.once;
  real = g.real;
}

-- ---- what is laid is read back
real_set : (l : List Float) (k : ℕ) (x : Float) → map (real_c floats) (set l k x) ≡ set (map (real_c floats) l) k (real_c floats x)
real_set [] k x = refl
real_set (y ∷ l) zero x = refl
real_set (y ∷ l) (suc k) x = ap (λ (r : List (Cx floats)). real_c floats y ∷ r) (real_set l k x)

reals_laid : (k : ℕ) (xs l : List Float) → map (real_c floats) (laid set k xs l) ≡ laid set k (map (real_c floats) xs) (map (real_c floats) l)
unfolding laid
reals_laid k [] l = refl
reals_laid k (x ∷ xs) l = reals_laid (suc k) xs (set l k x) ∙ ap (laid set (suc k) (map (real_c floats) xs)) (real_set l k x)

read_back : (L : List Term) (outWords : List ℕ) (outValues : List Float) → Every (λ c. Sound c.word) L → length L ≤ list_places outWords outValues
    → list_in (length L) (laid lay_word 0 (map (λ (c : Term). c.word) L) outWords) (laid set 0 (map (λ (c : Term). c.num.re) L) outValues) ≡ map only_real L
read_back L outWords outValues sound room =
    let ws : List Word = map (λ (c : Term). c.word) L in
    let xs : List Float = map (λ (c : Term). c.num.re) L in
    let T : List Term = map only_real L in
    let W : List Word = words outWords in
    let Z : List (Cx floats) = map (real_c floats) outValues in
    let nw : length ws ≡ length L = length-map L (λ (c : Term). c.word) in
    let nt : length T ≡ length L = length-map L only_real in
    let nz : length Z ≡ length outValues = length-map outValues (real_c floats) in
    ap₂ (λ (a : List Word) (b : List (Cx floats)). take (length L) (rows a b))
    (words_laid 0 ws outWords (every_map Sound (λ (c : Term). c.word) L sound) (omega (arith, nw, room)) ∙ ap (λ (vs : List Word). laid set 0 vs W) (sym (words_real L)))
    (reals_laid 0 xs outValues ∙ ap (λ (zs : List (Cx floats)). laid set 0 zs Z) (sym (numbers_real L)))
    ∙ ap (take (length L)) (rows_laid 0 T W Z)
    ∙ ap (λ (k : ℕ). take k (laid set 0 T (rows W Z))) (sym nt)
    ∙ laid_first T (rows W Z) (rows_length W Z (length T) (omega (arith, nt, room, words_high outWords)) (omega (arith, nt, nz, room)))
  where
    words_real : (L : List Term) → map (λ (c : Term). c.word) (map only_real L) ≡ map (λ (c : Term). c.word) L
    words_real [] = refl
    words_real (c ∷ L) = ap (λ (r : List Word). c.word ∷ r) (words_real L)

    numbers_real : (L : List Term) → map (λ (c : Term). c.num) (map only_real L) ≡ map (real_c floats) (map (λ (c : Term). c.num.re) L)
    numbers_real [] = refl
    numbers_real (c ∷ L) = ap (λ (r : List (Cx floats)). real_c floats c.num.re ∷ r) (numbers_real L)

-- ---- the call
module _ (g : ModelOver floats pauli) (m : Model) (t : ModelTables) (made : Made g m t) (w : ModelOver whole pauli) (numbers : WholeModel g w) (p : Word) (sound : Sound p)
    (outWords : List ℕ) (outValues : List Float) (workWords : List ℕ) (workSums : List Float) (n : ℕ) (answers : (act outWords outValues workWords workSums m t p).answer ≡ Ok n) where
  -- the first n words and values of the lent tables are exactly the generator's
  pub call_exact : ListsGenerator w p (list_in n (act outWords outValues workWords workSums m t p).out_words (act outWords outValues workWords workSums m t p).out_values)
  call_exact =
      let L : List Term = action_of m t p in
      let a = accepts outWords outValues workWords workSums m t p n answers in
      let is : list_in n (act outWords outValues workWords workSums m t p).out_words (act outWords outValues workWords workSums m t p).out_values ≡ map only_real L =
      ap₂ (λ (k : ℕ) (r : Acting). list_in k r.out_words r.out_values) a.count a.is ∙ read_back L outWords outValues (listed_sound p m t sound) a.places in
      subst⁻¹ (λ (R : List Term). ListsGenerator w p R) is (lists_real w p L (made_exact g m t made p w numbers sound))
