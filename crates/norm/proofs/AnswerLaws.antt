-- SPDX-FileCopyrightText: 2026 The PPVM Authors
-- SPDX-License-Identifier: Apache-2.0

-- What norm and degree answer: from filled columns to the norm, from the norm to a pair, and the work tables zero. Assumes nothing.
use mathlib.Core.Path.{◌≡◌, refl, ap, ◌∙◌}
use mathlib.Core.Bool.{Bool, true, false}
use mathlib.Core.List.{List, [], ◌∷◌, map}
use Prim.Native.Nat.{ℕ}
use lib.Dec.{ltb}
use lib.Ieee.{Float}
use lib.ListN.{length, take, replicate}
use Rattle.refusal.specs.declared.Refusal.{Refusal}
use Rattle.std.specs.Prelude.{Result, Ok, Err}
use Rattle.norm.specs.declared.norm.Normed.{Normed}
use Rattle.norm.specs.declared.degree.Selected.{Selected}
use Rattle.refusal.specs.Cause.{Answer}
use Rattle.word.specs.declared.word.Word.{Word}
use Rattle.number.specs.Floats.{floats, float0, magnitude}
use Rattle.expm.specs.Selects.{chosen}
use Rattle.expm.specs.declared.Degree.{Degree}
use Rattle.model.specs.Stored.{ModelTables}
use Rattle.model.specs.declared.stored.Model.{Model}
use Rattle.action.specs.Counts.{most, touched_by}
use Rattle.column_norm.specs.Columns.{mean_of, column_norm, raw_by, diag_by, mu_of, norm_of}
use Rattle.norm.specs.Norms.{Work, work_of, zeroed, norm_tested, degree_tested, norm_answer, partition, degree_answer, norm_course, norming, selecting}
use Rattle.norm.specs.Between.{Fills, norm_from}
use Rattle.column_norm.specs.Between.{column_norms}

-- ---- from raws and diagonals
columns_are : (mu : Float) (f g : Word → Float) (ps : List Word) → column_norms mu (map f ps) (map g ps) ≡ map (λ p. column_norm mu (f p) (g p)) ps
unfolding column_norms
columns_are mu f g [] = refl
columns_are mu f g (p ∷ ps) = ap (λ (l : List Float). column_norm mu (f p) (g p) ∷ l) (columns_are mu f g ps)

pub normed_is : (room : ℕ) (m : Model) (t : ModelTables) (ps : List Word) (len : ℕ) (raws diags : List Float) (r : Answer) → Fills room m t ps len raws diags r → norm_from r (take len raws) (take len diags) ≡ norm_answer room m t ps
unfolding norm_answer mu_of norm_of
normed_is room m t ps len raws diags r f = go (ltb room (most (touched_by m t) ps)) refl
  where
    go : (b : Bool) → ltb room (most (touched_by m t) ps) ≡ b → norm_from r (take len raws) (take len diags) ≡ norm_answer room m t ps
    go true e = rw (f.answers, e)
    go false e =
        let a : r ≡ Ok tt = f.answers ∙ (rw e) in
        rw (a, e, f.raws_are a, f.diags_are a, columns_are (mean_of (map (diag_by m t) ps)) (raw_by m t ps) (diag_by m t) ps)

-- ---- from the norm
module _ (mu norm : Float) (d : Result Degree Refusal) where
  pub pair_some : (e : Degree) → d ≡ Ok e → Ok (record { mu = mu; norm = norm; m = e.m; s = e.s }) ≡ partition mu norm d
  pair_some e i = rw i

  pub pair_refused : (r : Refusal) → d ≡ Err r → Err r ≡ partition mu norm d
  pair_refused r i = rw i

module _ (dt dropTol : Float) (normed : Result Normed Refusal) where
  pub degree_some : (mu norm x : Float) → normed ≡ Ok (record { mu = mu; norm = norm }) → x ≡ magnitude dt → (d : Result Degree Refusal) → d ≡ chosen dropTol (floats.times x norm) → (r : Result Selected Refusal) → r ≡ partition mu norm d → r ≡ degree_answer dt dropTol normed
  unfolding degree_answer
  degree_some mu norm x e ex d ed r er = rw (er, e, ed, ex)

  pub degree_refused : (r : Refusal) → normed ≡ Err r → Err r ≡ degree_answer dt dropTol normed
  unfolding degree_answer
  degree_refused r e = rw e

-- ---- the work tables
pub work_zero : (hIndex jIndex mask heads nexts workWords : List ℕ) (workSums raws diags : List Float) (hIndex' jIndex' mask' heads' nexts' workWords' : List ℕ) (workSums' raws' diags' : List Float)
    → hIndex' ≡ replicate (length hIndex) 0 → jIndex' ≡ replicate (length jIndex) 0 → mask' ≡ replicate (length mask) 0 → heads' ≡ replicate (length heads) 0 → nexts' ≡ replicate (length nexts) 0
    → workWords' ≡ replicate (length workWords) 0 → workSums' ≡ replicate (length workSums) float0 → raws' ≡ replicate (length raws) float0 → diags' ≡ replicate (length diags) float0
    → work_of hIndex' jIndex' mask' heads' nexts' workWords' workSums' raws' diags' ≡ zeroed (work_of hIndex jIndex mask heads nexts workWords workSums raws diags)
work_zero hIndex jIndex mask heads nexts workWords workSums raws diags hIndex' jIndex' mask' heads' nexts' workWords' workSums' raws' diags' e1 e2 e3 e4 e5 e6 e7 e8 e9 = rw (e1, e2, e3, e4, e5, e6, e7, e8, e9)

-- ---- the calls
module _ (w : Work) (m : Model) (t : ModelTables) (lanes : List ℕ) (len : ℕ) where
  pub norm_stops : (r : Refusal) → norm_tested m t lanes len w ≡ Err r → record { answer = Err r; work = w } ≡ norming w m t lanes len
  unfolding norming
  norm_stops r e = rw e

  pub norm_goes : norm_tested m t lanes len w ≡ Ok tt → (r : Result Normed Refusal) (w' : Work) → r ≡ norm_course w m t lanes len → w' ≡ zeroed w → record { answer = r; work = w' } ≡ norming w m t lanes len
  unfolding norming
  norm_goes e r w' er ew = rw (e, er, ew)

  module _ (dt dropTol : Float) where
    pub degree_stops : (r : Refusal) → degree_tested m t lanes len dt dropTol w ≡ Err r → record { answer = Err r; work = w } ≡ selecting w m t lanes len dt dropTol
    unfolding selecting
    degree_stops r e = rw e

    pub degree_goes : degree_tested m t lanes len dt dropTol w ≡ Ok tt → (n : Result Normed Refusal) → n ≡ norm_course w m t lanes len → (r : Result Selected Refusal) (w' : Work) → r ≡ degree_answer dt dropTol n → w' ≡ zeroed w → record { answer = r; work = w' } ≡ selecting w m t lanes len dt dropTol
    unfolding selecting
    degree_goes e n en r w' er ew = rw (e, er, en, ew)
