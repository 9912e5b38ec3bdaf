-- SPDX-FileCopyrightText: 2026 The PPVM Authors
-- SPDX-License-Identifier: Apache-2.0

-- The norm over a basis is never above the norm that counts all words, in f64, for every model that passes its test; nor are the
-- products that a step asks for. Assumes nothing.
use mathlib.Core.Path.{◌≡◌, refl, sym, ap, ◌∙◌, subst}
use mathlib.Core.Logic.{◌⊎◌, inl, inr}
use mathlib.Core.Bool.{Bool, true, false, not, ◌||◌, cond, true≢false}
use mathlib.Core.List.{List, [], ◌∷◌, map}
use Prim.Native.Nat.{ℕ, zero, suc, ◌+◌, ◌*◌, ◌^◌, ◌≤◌, ◌<◌, zero-le}
use native.Mathlib.Nat.{le_trans, le_of_eq, le_of_lt, le_refl, le_of_suc-le-suc, zero-mul, mul-zero, mul-pos, eq-zero-or-pos, eq_of_mul-eq-mul_right}
use native.Mathlib.Omega.{arith}
use borrow.Author.Tests.{ltb-true, ltb-false, ne_eqb}
use lib.Dec.{T, ltb, eqb, ltb→lt, lt→ltb, le→leb, eqb→eq}
use lib.IntN.{ℤ, pos}
use lib.Pow.{pow_pos}
use lib.Ieee.{Float, nan, inf, fin, Format, binary64, prec, emax, low, up, down, round, add, sub, mul, neg, lt, le, eq, fits, is_nan, of_bits, unlike}
use lib.Ieee.Exact.{HasValue, round_exact}
use lib.Ieee.Fits.{add-fits, sub-fits, mul-fits, down_pos}
use lib.Ieee.Order.{le_of_values}
use lib.Ieee.Positive.{positive, mul_mono, above_of_le}
use lib.Ieee.Scale.{finite}
use lib.ListN.{length, get_or}
use Rattle.std.specs.Prelude.{Ok}
use Rattle.word.specs.Order.{same}
use Rattle.word.specs.Word.{identity}
use Rattle.word.specs.declared.word.Word.{Word}
use Rattle.word.proofs.OrderLaws.{same_self, same_eq}
use Rattle.number.specs.Numbers.{add_c}
use Rattle.number.specs.Floats.{floats, float0, magnitude, larger_float, is_finite}
use Rattle.number.specs.Key.{nonneg, key}
use Rattle.number.proofs.Tests.{no, passes}
use Rattle.number.proofs.KeyLaws.{lt_key, le_key, unsigned_nonneg, magnitude_fits, magnitude_nonneg, magnitude_key}
use Rattle.gksl.specs.Table.{put_over, put_all_over}
use Rattle.gksl.specs.Words.{pauli}
use Rattle.lent.specs.Every.{Every}
use Rattle.lent.proofs.Lists.{every_of}
use Rattle.model.specs.Stored.{ModelTables}
use Rattle.model.specs.Tested.{test_model}
use Rattle.model.specs.Terms.{Term}
use Rattle.model.specs.declared.stored.Model.{Model}
use Rattle.model_laws.proofs.RuleBounds.{every_without}
use Rattle.order.specs.Places.{is_among}
use Rattle.rule_terms.specs.Adds.{rules_stored}
use Rattle.action.specs.Acts.{sums_of, action_of}
use Rattle.action_laws.proofs.ReachedListed.{listed_finite}
use Rattle.expm.specs.Selects.{cost, degree_by, table_for, chosen}
use Rattle.expm.specs.declared.Degree.{Degree}
use Rattle.expm.proofs.CeilingLaws.{chosen_under, answers}
use Rattle.expm.proofs.GrowthLaws.{products_mono}
use Rattle.column_norm.specs.Columns.{sum_from, total, inside_of, raw_of, diag_of, column_norm, largest_from, raw_by, diag_by, mu_of, norm_of}
use Rattle.norm_laws.specs.Yardstick.{raw_of_all, norm_of_all}
use Rattle.norm_laws.proofs.KeySums.{Plain, Finite, round_plain, under_top, inf_not, zero_key, sum_plain, sum_mono, sum_grows, sum_covers, less_plain, less_mono}

abbrev k : Float → ℕ
k = key binary64

-- ---- the numbers of an action: each is a sum, so binary64 holds it; and it is finite
pub record Good (c : Term) : Type 0 where
  pub held : T (fits binary64 c.num.re)
  pub ends : T (is_finite c.num.re)

abbrev Held : Term → Type 0
Held c = T (fits binary64 c.num.re)

put_held : (t : Term) (L : List Term) → Every Held L → Every Held (put_over floats pauli t L)
unfolding put_over add_c
put_held t [] h = (add-fits binary64 float0 t.num.re, tt)
put_held t (c ∷ L) h = go (pauli.alike c.word t.word) (pauli.below t.word c.word) (put_held t L h.1)
  where
    go : (a b : Bool) → Every Held (put_over floats pauli t L) → Every Held (cond a (record { num = add_c floats c.num t.num; word = c.word } ∷ L) (cond b (record { num = add_c floats (record { re = float0; im = float0 }) t.num; word = t.word } ∷ (c ∷ L)) (c ∷ put_over floats pauli t L)))
    go true b r = (add-fits binary64 c.num.re t.num.re, h.1)
    go false true r = (add-fits binary64 float0 t.num.re, h)
    go false false r = (h.0, r)

sums_held : (A L : List Term) → Every Held L → Every Held (put_all_over floats pauli A L)
unfolding put_all_over
sums_held [] L h = h
sums_held (t ∷ A) L h = sums_held A (put_over floats pauli t L) (put_held t L h)

good : (m : Model) (t : ModelTables) → test_model m t ≡ Ok tt → (p : Word) → Every Good (action_of m t p)
good m t ok p = go (action_of m t p) (held m t p) (listed_finite m t ok p)
  where
    held : (m : Model) (t : ModelTables) (p : Word) → Every Held (action_of m t p)
    held m t p = unfold action_of in unfold sums_of in every_without Held _ (put_all_over floats pauli (rules_stored m t p) []) (sums_held (rules_stored m t p) [] tt)

    go : (L : List Term) → Every Held L → Every (λ c. T (is_finite c.num.re) × T (is_finite c.num.im)) L → Every Good L
    go [] h f = tt
    go (c ∷ L) h f = (record { held = h.0; ends = f.0.0 }, go L h.1 f.1)

-- ---- magnitudes
not_nan : (x : Float) → T (finite x) → T (not (is_nan x))
unfolding is_nan
not_nan nan h = absurd h
not_nan (inf s) h = absurd h
not_nan (fin s m e) h = tt

magnitude_ends : (x : Float) → T (finite x) → T (finite (magnitude x))
unfolding magnitude neg
magnitude_ends nan h = absurd h
magnitude_ends (inf s) h = absurd h
magnitude_ends (fin s m e) h = go (lt (fin s m e) float0)
  where
    go : (b : Bool) → T (finite (cond b (fin (not s) m e) (fin s m e)))
    go true = tt
    go false = tt

sized : (x : Float) → T (fits binary64 x) → T (finite x) → Finite binary64 (magnitude x)
sized x F e = record { held = magnitude_fits binary64 x F; high = magnitude_nonneg x (not_nan x e); ends = magnitude_ends x e }

term_size : (c : Term) → Good c → Finite binary64 (magnitude c.num.re)
term_size c g = sized c.num.re g.held g.ends

abbrev sizes : List Term → List Float
sizes = map (λ (c : Term). magnitude c.num.re)

-- ---- sums
sums_plain : (x : Float) → Plain binary64 x → (L : List Term) → Every Good L → Plain binary64 (sum_from x (sizes L))
unfolding sum_from
sums_plain x X [] g = X
sums_plain x X (c ∷ L) g = sums_plain (add binary64 x (magnitude c.num.re)) (sum_plain binary64 _ (term_size c g.0) x X) L g.1

inside_good : (bs : List Word) (L : List Term) → Every Good L → Every Good (inside_of bs L)
unfolding inside_of
inside_good bs [] g = tt
inside_good bs (c ∷ L) g = go (is_among c.word bs) (inside_good bs L g.1)
  where
    go : (b : Bool) → Every Good (inside_of bs L) → Every Good (cond b (c ∷ inside_of bs L) (inside_of bs L))
    go true r = (g.0, r)
    go false r = r

-- a sum is no smaller than what it starts from
sums_grow : (x : Float) → Plain binary64 x → (L : List Term) → Every Good L → k x ≤ k (sum_from x (sizes L))
unfolding sum_from
sums_grow x X [] g = le_refl (k x)
sums_grow x X (c ∷ L) g =
    let C = term_size c g.0 in
    le_trans (sum_grows binary64 (magnitude c.num.re) C x X) (sums_grow (add binary64 x (magnitude c.num.re)) (sum_plain binary64 (magnitude c.num.re) C x X) L g.1)

plain : (c : Term) → Good c → (x : Float) → Plain binary64 x → Plain binary64 (add binary64 x (magnitude c.num.re))
plain c g x X = sum_plain binary64 (magnitude c.num.re) (term_size c g) x X

-- fewer terms, a sum that is not larger
fewer : (bs : List Word) (x y : Float) → Plain binary64 x → Plain binary64 y → k x ≤ k y → (L : List Term) → Every Good L → k (sum_from x (sizes (inside_of bs L))) ≤ k (sum_from y (sizes L))
unfolding sum_from inside_of
fewer bs x y X Y h [] g = h
fewer bs x y X Y h (c ∷ L) g =
    go (is_among c.word bs)
    (fewer bs (add binary64 x (magnitude c.num.re)) (add binary64 y (magnitude c.num.re)) (plain c g.0 x X) (plain c g.0 y Y) (sum_mono binary64 (magnitude c.num.re) (term_size c g.0) x y X Y h) L g.1)
    (fewer bs x (add binary64 y (magnitude c.num.re)) X (plain c g.0 y Y) (le_trans h (sum_grows binary64 (magnitude c.num.re) (term_size c g.0) y Y)) L g.1)
  where
    go : (b : Bool) → k (sum_from (add binary64 x (magnitude c.num.re)) (sizes (inside_of bs L))) ≤ k (sum_from (add binary64 y (magnitude c.num.re)) (sizes L))
        → k (sum_from x (sizes (inside_of bs L))) ≤ k (sum_from (add binary64 y (magnitude c.num.re)) (sizes L))
        → k (sum_from x (sizes (cond b (c ∷ inside_of bs L) (inside_of bs L)))) ≤ k (sum_from (add binary64 y (magnitude c.num.re)) (sizes L))
    go true a r = a
    go false a r = r

-- ---- the diagonal of a basis word is among what is added
nought_key : k (magnitude float0) ≡ 0
unfolding of_bits
nought_key = magnitude_key binary64 float0 ∙ zero_key binary64 false (pos 0)

covered : (bs : List Word) (w : Word) → is_among w bs ≡ true → (x : Float) → Plain binary64 x → (L : List Term) → Every Good L → k (magnitude (diag_of w L)) ≤ k (sum_from x (sizes (inside_of bs L)))
unfolding diag_of sum_from inside_of
covered bs w a x X [] g = le_trans (le_of_eq nought_key) zero-le
covered bs w a x X (c ∷ L) g =
    go (same c.word w) refl (is_among c.word bs) refl
    (covered bs w a (add binary64 x (magnitude c.num.re)) (plain c g.0 x X) L g.1) (covered bs w a x X L g.1)
  where
    go : (b : Bool) → same c.word w ≡ b → (d : Bool) → is_among c.word bs ≡ d
        → k (magnitude (diag_of w L)) ≤ k (sum_from (add binary64 x (magnitude c.num.re)) (sizes (inside_of bs L)))
        → k (magnitude (diag_of w L)) ≤ k (sum_from x (sizes (inside_of bs L)))
        → k (magnitude (cond b c.num.re (diag_of w L))) ≤ k (sum_from x (sizes (cond d (c ∷ inside_of bs L) (inside_of bs L))))
    go true e true f l r = le_trans (sum_covers binary64 (magnitude c.num.re) (term_size c g.0) x X) (sums_grow (add binary64 x (magnitude c.num.re)) (plain c g.0 x X) (inside_of bs L) (inside_good bs L g.1))
    go true e false f l r = absurd (true≢false (sym a ∙ ap (λ (v : Word). is_among v bs) (sym (same_eq c.word w e)) ∙ f))
    go false e true f l r = l
    go false e false f l r = r

diag_good : (w : Word) (L : List Term) → Every Good L → T (fits binary64 (diag_of w L)) × T (finite (diag_of w L))
unfolding diag_of of_bits
diag_good w [] g = (unfold fits in tt, tt)
diag_good w (c ∷ L) g = go (same c.word w) (diag_good w L g.1)
  where
    go : (b : Bool) → T (fits binary64 (diag_of w L)) × T (finite (diag_of w L)) → T (fits binary64 (cond b c.num.re (diag_of w L))) × T (finite (cond b c.num.re (diag_of w L)))
    go true r = (g.0.held, g.0.ends)
    go false r = r

-- ---- one column
-- two values in order, or both no number
abbrev Below : Float → Float → Type 0
Below x y = (Plain binary64 x × Plain binary64 y × (k x ≤ k y)) ⊎ ((x ≡ nan) × (y ≡ nan))

inf_plain : Plain binary64 (inf false)
unfolding fits
inf_plain = record { held = tt; sign = tt }

add_nan : (x : Float) → add binary64 x nan ≡ nan
unfolding add
add_nan nan = refl
add_nan (inf s) = refl
add_nan (fin s m e) = refl

add_inf : (x : Float) → Plain binary64 x → add binary64 x (inf false) ≡ inf false
unfolding add
add_inf nan X = absurd X.sign
add_inf (inf true) X = absurd X.sign
add_inf (inf false) X = refl
add_inf (fin s m e) X = refl

shifted : (u v z : Float) → Plain binary64 u → Plain binary64 v → k u ≤ k v → T (fits binary64 z) → (z ≡ nan) ⊎ T (nonneg z) → Below (add binary64 u z) (add binary64 v z)
shifted u v nan pu pv h F c = inr (add_nan u, add_nan v)
shifted u v (inf true) pu pv h F (inl e) = absurd (subst (λ (y : Float). T (not (infinite y))) (sym e) tt)
  where
    infinite : Float → Bool
    infinite nan = false
    infinite (inf s) = true
    infinite (fin s m e) = false
shifted u v (inf true) pu pv h F (inr n) = absurd n
shifted u v (inf false) pu pv h F c = inl (rw (add_inf u pu) inf_plain, rw (add_inf v pv) inf_plain, rw (add_inf u pu, add_inf v pv) (le_refl (k (inf false))))
shifted u v (fin s m e) pu pv h F (inl i) = absurd (subst (λ (y : Float). T (finite y)) i tt)
shifted u v (fin s m e) pu pv h F (inr n) =
    let C : Finite binary64 (fin s m e) = record { held = F; high = n; ends = tt } in
    inl (sum_plain binary64 (fin s m e) C u pu, sum_plain binary64 (fin s m e) C v pv, sum_mono binary64 (fin s m e) C u v pu pv h)

magnitude_cases : (x : Float) → (magnitude x ≡ nan) ⊎ T (nonneg (magnitude x))
unfolding magnitude lt
magnitude_cases nan = inl refl
magnitude_cases (inf s) = inr (magnitude_nonneg (inf s) (unfold is_nan in tt))
magnitude_cases (fin s m e) = inr (magnitude_nonneg (fin s m e) (unfold is_nan in tt))

column_below : (mu less more diag : Float) → Plain binary64 less → Plain binary64 more → k less ≤ k more → Finite binary64 (magnitude diag) → k (magnitude diag) ≤ k less
    → Below (column_norm mu less diag) (column_norm mu more diag)
unfolding column_norm
column_below mu less more diag L M h D d =
    shifted (sub binary64 less (magnitude diag)) (sub binary64 more (magnitude diag)) (magnitude (sub binary64 diag mu))
    (less_plain binary64 (magnitude diag) D less L d) (less_plain binary64 (magnitude diag) D more M (le_trans d h))
    (less_mono binary64 (magnitude diag) D less more L M d h)
    (magnitude_fits binary64 (sub binary64 diag mu) (sub-fits binary64 diag mu)) (magnitude_cases (sub binary64 diag mu))

-- ---- the largest of all
lt_nan : (x : Float) → lt x nan ≡ false
unfolding lt
lt_nan nan = refl
lt_nan (inf s) = refl
lt_nan (fin s m e) = refl

record Ordered (x y : Float) : Type 0 where
  left : Plain binary64 x
  right : Plain binary64 y
  under : k x ≤ k y

larger_below : (x y u v : Float) → Ordered x y → Below u v → Ordered (larger_float x u) (larger_float y v)
unfolding larger_float
larger_below x y u v o (inr n) = rw (n.0, n.1, lt_nan x, lt_nan y) o
larger_below x y u v o (inl b) = go (lt x u) refl (lt y v) refl
  where
    key_of : (x u : Float) → Plain binary64 x → Plain binary64 u → lt x u ≡ ltb (k x) (k u)
    key_of x u X U = lt_key binary64 x u X.held U.held (unsigned_nonneg x X.sign) (unsigned_nonneg u U.sign)

    go : (d : Bool) → lt x u ≡ d → (e : Bool) → lt y v ≡ e → Ordered (cond d u x) (cond e v y)
    go true d true e = record { left = b.0; right = b.1; under = b.2 }
    go true d false e = let l = ltb-false (k y) (k v) (sym (key_of y v o.right b.1) ∙ e) in record { left = b.0; right = o.right; under = le_trans b.2 l }
    go false d true e = let l = ltb-true (k y) (k v) (sym (key_of y v o.right b.1) ∙ e) in record { left = o.left; right = b.1; under = le_trans o.under (le_of_lt l) }
    go false d false e = o

largest_below : (f g : Word → Float) (qs : List Word) → Every (λ p. Below (f p) (g p)) qs → (x y : Float) → Ordered x y → Ordered (largest_from x (map f qs)) (largest_from y (map g qs))
unfolding largest_from
largest_below f g [] h x y o = o
largest_below f g (p ∷ qs) h x y o = largest_below f g qs h.1 (larger_float x (f p)) (larger_float y (g p)) (larger_below x y (f p) (g p) o h.0)

nought_plain : Plain binary64 float0
unfolding of_bits fits
nought_plain = record { held = tt; sign = tt }

-- ---- the words of a basis are in it
among_at : (ps : List Word) (i : ℕ) → i < length ps → is_among (get_or ps i identity) ps ≡ true
unfolding is_among
among_at [] i h = absurd (omega (arith, h))
among_at (p ∷ ps) zero h = rw (same_self p)
among_at (p ∷ ps) (suc i) h = rw (among_at ps i (le_of_suc-le-suc h)) (or_true (same p (get_or ps i identity)))
  where
    or_true : (b : Bool) → (b || true) ≡ true
    or_true true = refl
    or_true false = refl

-- ---- a product with a number that is not below zero
zero_not : (t : Bool) (m : ℕ) (e : ℤ) → m * up e ≡ 0 → lt float0 (fin t m e) ≡ false
unfolding lt of_bits
zero_not true m e z = refl
zero_not false m e z = ap (λ (n : ℕ). ltb (0 * down e) (n * 1)) z ∙ no (λ h. let l = ltb→lt (0 * down e) (0 * 1) h in omega (arith, l))

zero_value : (x : Float) (s : Bool) (c : ℕ) → 0 < c → HasValue x s 0 c → lt float0 x ≡ false
zero_value nan s c C v = absurd v
zero_value (inf t) s c C v = absurd v
zero_value (fin t m e) s c C v = zero_not t m e (eq_of_mul-eq-mul_right c C (m * up e) 0 (v.1 ∙ zero-mul (down e) ∙ sym (zero-mul c)))

zero_round : (f : Format) (s : Bool) (a c : ℕ) → 0 < c → a ≡ 0 → lt float0 (round f s a c) ≡ false
zero_round f s a c C z =
    ap (λ (n : ℕ). lt float0 (round f s n c)) z
    ∙ zero_value (round f s 0 c) s c C (round_exact f s 0 c 0 0 C (pow_pos (prec f)) (pow_pos (low f + suc (emax f))) (zero-mul (2 ^ low f) ∙ sym (zero-mul c)))

-- where a product is above zero, so is each factor
factors : (s : Bool) (m : ℕ) (e : ℤ) (n : ℕ) (d : ℤ) → lt float0 (mul binary64 (fin s m e) (fin false n d)) ≡ true → (0 < m) × (0 < n)
unfolding mul
factors s m e n d h = (first (eq-zero-or-pos m), second (eq-zero-or-pos n))
  where
    c : 0 < down e * down d
    c = mul-pos (down_pos e) (down_pos d)

    never : m * up e * (n * up d) ≡ 0 → ⊥
    never z = true≢false (sym h ∙ zero_round binary64 (unlike s false) (m * up e * (n * up d)) (down e * down d) c z)

    first : (m ≡ 0) ⊎ (0 < m) → 0 < m
    first (inl z) = absurd (never (ap (λ (i : ℕ). i * up e * (n * up d)) z ∙ ap (λ (i : ℕ). i * (n * up d)) (zero-mul (up e)) ∙ zero-mul (n * up d)))
    first (inr l) = l

    second : (n ≡ 0) ⊎ (0 < n) → 0 < n
    second (inl z) = absurd (never (ap (λ (i : ℕ). m * up e * (i * up d)) z ∙ ap (λ (i : ℕ). m * up e * i) (zero-mul (up d)) ∙ mul-zero (m * up e)))
    second (inr l) = l

plain_le : (x y : Float) → Plain binary64 x → Plain binary64 y → k x ≤ k y → T (le x y)
plain_le x y X Y h = passes (le_key binary64 x y X.held Y.held (unsigned_nonneg x X.sign) (unsigned_nonneg y Y.sign)) (le→leb (k x) (k y) h)

inf_is : (m : ℕ) (e : ℤ) → eqb m 0 ≡ false → mul binary64 (fin false m e) (inf false) ≡ inf false
unfolding mul
inf_is m e z = rw z

times_plain : (m : ℕ) (e : ℤ) (n : ℕ) (d : ℤ) → Plain binary64 (mul binary64 (fin false m e) (fin false n d))
unfolding mul
times_plain m e n d = round_plain binary64 (m * up e * (n * up d)) (down e * down d)

not_zero : (m : ℕ) → 0 < m → m ≡ 0 → ⊥
not_zero m h z = omega arith

plain_self : (m : ℕ) (e : ℤ) → T (le (fin false m e) (fin false m e))
plain_self m e = le_of_values (fin false m e) (fin false m e) (m * up e) (down e) (m * up e) (down e) (down_pos e) (down_pos e) (refl, refl) (refl, refl) (le_refl (m * up e * down e))

-- infinity times a number, where it is above zero
inf_times : (s : Bool) (m : ℕ) (e : ℤ) → lt float0 (mul binary64 (fin s m e) (inf false)) ≡ true → T (le (mul binary64 (fin s m e) (inf false)) (mul binary64 (fin s m e) (inf false)))
unfolding mul lt le eq of_bits
inf_times s m e h = go (eqb m 0) (unlike s false) h
  where
    go : (b t : Bool) → lt (of_bits binary64 0) (cond b nan (inf t)) ≡ true → T (le (cond b nan (inf t)) (cond b nan (inf t)))
    go true t h = absurd (true≢false (sym h))
    go false true h = tt
    go false false h = tt

-- a product of numbers above zero is no larger than infinity times the same
under_inf : (s : Bool) (m : ℕ) (e : ℤ) (n : ℕ) (d : ℤ) → T (nonneg (fin s m e)) → (0 < m) × (0 < n) → T (le (mul binary64 (fin s m e) (fin false n d)) (mul binary64 (fin s m e) (inf false)))
under_inf true m e n d N f = absurd (not_zero m f.0 (eqb→eq m 0 N))
under_inf false m e n d N f =
    let z : m ≡ 0 → ⊥ = not_zero m f.0 in
    let i : mul binary64 (fin false m e) (inf false) ≡ inf false = inf_is m e (ne_eqb m 0 z) in
    rw i (plain_le (mul binary64 (fin false m e) (fin false n d)) (inf false) (times_plain m e n d) inf_plain (under_top binary64 (mul binary64 (fin false m e) (fin false n d)) (mul-fits binary64 (fin false m e) (fin false n d))))

step_mono : (a x y : Float) → T (finite a) → T (nonneg a) → Ordered x y → lt float0 (mul binary64 a x) ≡ true → T (le (mul binary64 a x) (mul binary64 a y))
step_mono nan x y E N o h = absurd E
step_mono (inf s) x y E N o h = absurd E
step_mono (fin s m e) nan y E N o h = absurd o.left.sign
step_mono (fin s m e) (inf true) y E N o h = absurd o.left.sign
step_mono (fin s m e) (inf false) nan E N o h = absurd o.right.sign
step_mono (fin s m e) (inf false) (inf true) E N o h = absurd o.right.sign
step_mono (fin s m e) (inf false) (inf false) E N o h = inf_times s m e h
step_mono (fin s m e) (inf false) (fin true n d) E N o h = absurd o.right.sign
step_mono (fin s m e) (inf false) (fin false n d) E N o h = absurd (inf_not binary64 n d o.right.held o.under)
step_mono (fin s m e) (fin true n d) y E N o h = absurd o.left.sign
step_mono (fin s m e) (fin false n d) nan E N o h = absurd o.right.sign
step_mono (fin s m e) (fin false n d) (inf true) E N o h = absurd o.right.sign
step_mono (fin s m e) (fin false n d) (inf false) E N o h = under_inf s m e n d N (factors s m e n d h)
step_mono (fin s m e) (fin false n d) (fin true j g) E N o h = absurd o.right.sign
step_mono (fin true m e) (fin false n d) (fin false j g) E N o h = absurd (not_zero m (factors true m e n d h).0 (eqb→eq m 0 N))
step_mono (fin false m e) (fin false n d) (fin false j g) E N o h =
    let f = factors false m e n d h in
    let M : T (positive (fin false m e)) = lt→ltb 0 m f.0 in
    let X : T (positive (fin false n d)) = lt→ltb 0 n f.1 in
    let l : T (le (fin false n d) (fin false j g)) = plain_le (fin false n d) (fin false j g) o.left o.right o.under in
    let Y : T (positive (fin false j g)) = above_of_le (fin false n d) (fin false j g) X l in
    mul_mono binary64 (fin false m e) (fin false m e) (fin false n d) (fin false j g) M M X Y (plain_self m e) l

module _ (m : Model) (t : ModelTables) (ok : test_model m t ≡ Ok tt) (ps : List Word) where
  column : (p : Word) → is_among p ps ≡ true → Below (column_norm (mu_of m t ps) (raw_by m t ps p) (diag_by m t p)) (column_norm (mu_of m t ps) (raw_of_all (action_of m t p)) (diag_by m t p))
  unfolding raw_of raw_of_all
  column p a =
      let L : List Term = action_of m t p in
      let g : Every Good (action_of m t p) = good m t ok p in
      let d = diag_good p (action_of m t p) g in
      column_below (mu_of m t ps) (total (sizes (inside_of ps (action_of m t p)))) (total (sizes (action_of m t p))) (diag_of p (action_of m t p))
      (sums_plain float0 nought_plain (inside_of ps (action_of m t p)) (inside_good ps (action_of m t p) g)) (sums_plain float0 nought_plain (action_of m t p) g)
      (fewer ps float0 float0 nought_plain nought_plain (le_refl (k float0)) (action_of m t p) g)
      (sized (diag_of p (action_of m t p)) d.0 d.1)
      (covered ps p a float0 nought_plain (action_of m t p) g)

  norms : Ordered (norm_of m t ps) (norm_of_all m t ps)
  unfolding norm_of norm_of_all
  norms =
      largest_below _ _ ps (every_of _ ps identity (λ i h. column (get_or ps i identity) (among_at ps i h)))
      float0 float0 (record { left = nought_plain; right = nought_plain; under = le_refl (k float0) })

  -- ---- the norm is not above
  pub norm_no_larger : T (le (norm_of m t ps) (norm_of_all m t ps))
  norm_no_larger =
      passes (le_key binary64 (norm_of m t ps) (norm_of_all m t ps) norms.left.held norms.right.held (unsigned_nonneg (norm_of m t ps) norms.left.sign) (unsigned_nonneg (norm_of_all m t ps) norms.right.sign))
      (le→leb (k (norm_of m t ps)) (k (norm_of_all m t ps)) norms.under)

  -- ---- nor are the products that a step asks for
  pub products_no_more : (dt dropTol : Float) → T (is_finite dt)
      → cost (degree_by (table_for dropTol) (mul binary64 (magnitude dt) (norm_of m t ps))) ≤ cost (degree_by (table_for dropTol) (mul binary64 (magnitude dt) (norm_of_all m t ps)))
  products_no_more dt dropTol e =
      products_mono dropTol (mul binary64 (magnitude dt) (norm_of m t ps)) (mul binary64 (magnitude dt) (norm_of_all m t ps))
      (step_mono (magnitude dt) (norm_of m t ps) (norm_of_all m t ps) (magnitude_ends dt e) (magnitude_nonneg dt (not_nan dt e)) norms)

  -- so a step that is accepted with the larger norm is not refused with this one
  pub still_accepted : (dt dropTol : Float) → T (is_finite dt) → (d : Degree) → chosen dropTol (mul binary64 (magnitude dt) (norm_of_all m t ps)) ≡ Ok d
      → chosen dropTol (mul binary64 (magnitude dt) (norm_of m t ps)) ≡ Ok (degree_by (table_for dropTol) (mul binary64 (magnitude dt) (norm_of m t ps)))
  still_accepted dt dropTol e d a =
      let b = answers dropTol (mul binary64 (magnitude dt) (norm_of_all m t ps)) d a in
      chosen_under dropTol (mul binary64 (magnitude dt) (norm_of m t ps))
      (le_trans (products_no_more dt dropTol e) (le_trans (le_of_eq (ap cost (sym b.unmoved))) b.under))
