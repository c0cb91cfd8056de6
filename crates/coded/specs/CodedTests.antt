-- The code's records of expressions lose nothing at valuations of as many parameters as they have, and numbers that are small are not
-- saturated. So values, sums, tests and opposites are those of the cutting, and so is what no valuation of a zone satisfies.
use Rattle.std.specs.Prelude.{◌≡◌, refl, Bool, true, false, ◌||◌, cond, ℕ, zero, suc, ◌+◌, ◌≤◌, ℤ, pos, negsuc, neg_ℤ, ◌+ℤ◌, ◌-ℤ◌, ◌*ℤ◌, nat_abs, length, get_or}
use Rattle.std.proofs.Common.{ap, ◌∙◌, arith}
use mathlib.Core.List.{List, [], ◌∷◌, ◌++◌, map, Memᴰ}
use Rattle.std.proofs.Math.Option.{Option}
use Rattle.std.proofs.Math.Option as option
use Rattle.std.proofs.Math.IntN.{zero-*ℤ, +ℤ_idl}
use Rattle.cutting.specs.Cutting.{never}
use Rattle.expr.specs.Bounds.{at_v, sum_b, ask, slack_e, tighter_b, saturated_b}
use Rattle.saturating.specs.Largest.{LARGEST}
use Rattle.expr.specs.Affine.{Affine, dot, value, plus_l, minus_l, plus, minus, less_one, opposite, saturated_e}
use Rattle.weight.specs.Upper.{Upper, none, upper, saturate}
use Rattle.weight.specs.Laws.{saturate_small}
use Rattle.expr.specs.Ranges.{Inside}
use Rattle.valuations.specs.SearchLaws.{valuations_inside, first_same, count_same}
use Rattle.expr.specs.Records.{PARAMETERS, places_from, four, affine, expr_of, bound_as, bound_of, test, range_list}
use Rattle.expr.specs.RecordLaws.{places_behind}
use Rattle.valuations.specs.Valuations.{valuations, satisfies, first, count}
use Rattle.expr.specs.declared.bound.Bound.{Bound}
use Rattle.expr.specs.declared.range.Range.{Range}
use Rattle.expr.specs.declared.range.Ranges.{Ranges}
use Rattle.integer.specs.Parts.{nat_abs_parts, pos_parts}
use Rattle.integer.specs.Split.{split, split-all}
use Rattle.sizes.specs.Sizes.{AtMostE, AtMostB, TEST}
use Rattle.timed.specs.Lists.{AllOf}
use Rattle.timed.specs.Right.{places_all}
use Rattle.constrain.specs.Rules.{sum_c, tighter_c}
use Rattle.zones.specs.Settled.{opposite_c, is_none}

-- the expression that the code's record stands for
abbrev pub pad : Affine → Affine
pad e = affine (expr_of e)

abbrev pub pad_b : Upper Affine → Upper Affine
pad_b b = bound_as (bound_of b)

-- ---- values
zero_step_lem : (q x : ℤ) → x ≡ pos 0 → (pos 0 *ℤ q) +ℤ x ≡ pos 0
zero_step_lem q x e = ap (λ (y : ℤ). y +ℤ x) (zero-*ℤ q) ∙ +ℤ_idl x ∙ e

-- coefficients filled up with zeros
pad_l : ℕ → List ℤ → List ℤ
pad_l zero cs = []
pad_l (suc n) [] = pos 0 ∷ pad_l n []
pad_l (suc n) (c ∷ cs) = c ∷ pad_l n cs

dot_none : (n : ℕ) (v : List ℤ) → dot (pad_l n []) v ≡ pos 0
unfolding dot pad_l
dot_none zero v = refl
dot_none (suc n) [] = refl
dot_none (suc n) (x ∷ v) = zero_step_lem x (dot (pad_l n []) v) (dot_none n v)

dot_pad : (n : ℕ) (cs v : List ℤ) → length v ≡ n → dot (pad_l n cs) v ≡ dot cs v
unfolding dot pad_l
dot_pad zero [] [] h = refl
dot_pad zero (c ∷ cs) [] h = refl
dot_pad zero cs (x ∷ v) h = absurd (omega arith)
dot_pad (suc n) [] v h = dot_none (suc n) v
dot_pad (suc n) (c ∷ cs) [] h = refl
dot_pad (suc n) (c ∷ cs) (x ∷ v) h = ap (λ (y : ℤ). (c *ℤ x) +ℤ y) (dot_pad n cs v (omega arith))

-- the code's places are these
places_none : (n i : ℕ) → places_from (pos 0) [] i n ≡ pad_l n []
unfolding pad_l
places_none zero i = refl
places_none (suc n) i = ap (λ (l : List ℤ). pos 0 ∷ l) (places_none n (suc i))

places_pad : (n : ℕ) (cs : List ℤ) → places_from (pos 0) cs 0 n ≡ pad_l n cs
unfolding pad_l
places_pad zero cs = refl
places_pad (suc n) [] = ap (λ (l : List ℤ). pos 0 ∷ l) (places_none n 1)
places_pad (suc n) (c ∷ cs) = ap (λ (l : List ℤ). c ∷ l) (places_behind (pos 0) c cs n 0 ∙ places_pad n cs)

pub pad_value : (e : Affine) (v : List ℤ) → length v ≡ PARAMETERS → value (pad e) v ≡ value e v
unfolding value
pad_value e v h =
    ap (λ (x : ℤ). e.constant +ℤ x)
    (ap (λ (l : List ℤ). dot l v) (places_pad PARAMETERS e.coefs) ∙ dot_pad PARAMETERS e.coefs v h)

pub pad_at : (b : Upper Affine) (v : List ℤ) → length v ≡ PARAMETERS → at_v v (pad_b b) ≡ at_v v b
unfolding at_v
pad_at none v h = refl
pad_at (upper s e) v h = ap (upper s) (pad_value e v h)

pub pad_satisfies : (es : List Affine) (v : List ℤ) → length v ≡ PARAMETERS → satisfies (map affine (map expr_of es)) v ≡ satisfies es v
unfolding satisfies
pad_satisfies [] v h = refl
pad_satisfies (e ∷ es) v h = rw (pad_value e v h, pad_satisfies es v h) refl

-- a valuation in ranges has as many numbers
pub inside_length : (v : List ℤ) (rs : List Range) → Inside v rs → length v ≡ length rs
inside_length [] [] i = refl
inside_length [] (r ∷ rs) i = absurd i
inside_length (x ∷ v) [] i = absurd i
inside_length (x ∷ v) (r ∷ rs) i = ap suc (inside_length v rs i.1)

-- ---- the valuations of ranges
module _ (b : Ranges) (es : List Affine) where
  at_valuations : (v : List ℤ) → Memᴰ v (valuations (range_list b)) → satisfies (map affine (map expr_of es)) v ≡ satisfies es v
  at_valuations v i = pad_satisfies es v (inside_length v (range_list b) (valuations_inside (range_list b) v i))

  pub pad_first : first (range_list b) (map affine (map expr_of es)) ≡ first (range_list b) es
  unfolding first
  pad_first = first_same (satisfies (map affine (map expr_of es))) (satisfies es) (valuations (range_list b)) at_valuations

  pub pad_count : count (range_list b) (map affine (map expr_of es)) ≡ count (range_list b) es
  unfolding count
  pad_count = count_same (satisfies (map affine (map expr_of es))) (satisfies es) (valuations (range_list b)) at_valuations

-- ---- sums and differences of expressions
plus_at : (cs ds : List ℤ) (k : ℕ) → get_or (plus_l cs ds) k (pos 0) ≡ get_or cs k (pos 0) +ℤ get_or ds k (pos 0)
unfolding plus_l
plus_at [] ds k = zero_plus (get_or ds k (pos 0))
  where
    zero_plus : (x : ℤ) → x ≡ pos 0 +ℤ x
    zero_plus x = rw (split x) (simp split-all (omega arith))
plus_at (c ∷ cs) [] k = plus_zero (get_or (c ∷ cs) k (pos 0))
  where
    plus_zero : (x : ℤ) → x ≡ x +ℤ pos 0
    plus_zero x = rw (split x) (simp split-all (omega arith))
plus_at (c ∷ cs) (d ∷ ds) zero = refl
plus_at (c ∷ cs) (d ∷ ds) (suc k) = plus_at cs ds k

neg_at : (ds : List ℤ) (k : ℕ) → get_or (map neg_ℤ ds) k (pos 0) ≡ neg_ℤ (get_or ds k (pos 0))
neg_at [] k = refl
neg_at (d ∷ ds) zero = refl
neg_at (d ∷ ds) (suc k) = neg_at ds k

minus_at : (cs ds : List ℤ) (k : ℕ) → get_or (minus_l cs ds) k (pos 0) ≡ get_or cs k (pos 0) -ℤ get_or ds k (pos 0)
unfolding minus_l
minus_at [] ds k = neg_at ds k ∙ zero_minus (get_or ds k (pos 0))
  where
    zero_minus : (x : ℤ) → neg_ℤ x ≡ pos 0 -ℤ x
    zero_minus x = rw (split x) (simp split-all (omega arith))
minus_at (c ∷ cs) [] k = minus_zero (get_or (c ∷ cs) k (pos 0))
  where
    minus_zero : (x : ℤ) → x ≡ x -ℤ pos 0
    minus_zero x = rw (split x) (simp split-all (omega arith))
minus_at (c ∷ cs) (d ∷ ds) zero = refl
minus_at (c ∷ cs) (d ∷ ds) (suc k) = minus_at cs ds k

-- place by place
plus_places : (cs ds : List ℤ) (n i : ℕ)
    → plus_l (places_from (pos 0) cs i n) (places_from (pos 0) ds i n) ≡ places_from (pos 0) (plus_l cs ds) i n
unfolding plus_l
plus_places cs ds zero i = refl
plus_places cs ds (suc n) i = rw (plus_at cs ds i, plus_places cs ds n (suc i)) refl

minus_places : (cs ds : List ℤ) (n i : ℕ)
    → minus_l (places_from (pos 0) cs i n) (places_from (pos 0) ds i n) ≡ places_from (pos 0) (minus_l cs ds) i n
unfolding minus_l
minus_places cs ds zero i = refl
minus_places cs ds (suc n) i = rw (minus_at cs ds i, minus_places cs ds n (suc i)) refl

neg_places : (ds : List ℤ) (n i : ℕ) → map neg_ℤ (places_from (pos 0) ds i n) ≡ places_from (pos 0) (map neg_ℤ ds) i n
neg_places ds zero i = refl
neg_places ds (suc n) i = rw (neg_at ds i, neg_places ds n (suc i)) refl

abbrev with_coefs : ℤ → List ℤ → Affine
with_coefs c l = record { constant = c; coefs = l }

pad_plus : (a b : Affine) → plus (pad a) (pad b) ≡ pad (plus a b)
unfolding plus
pad_plus a b = ap (with_coefs (a.constant +ℤ b.constant)) (plus_places a.coefs b.coefs PARAMETERS 0)

pad_minus : (a b : Affine) → minus (pad a) (pad b) ≡ pad (minus a b)
unfolding minus
pad_minus a b = ap (with_coefs (a.constant -ℤ b.constant)) (minus_places a.coefs b.coefs PARAMETERS 0)

pad_less : (e : Affine) → less_one (pad e) ≡ pad (less_one e)
unfolding less_one
pad_less e = refl

pad_slack : (s t : Bool) (a b : Affine) → slack_e s t (pad a) (pad b) ≡ pad (slack_e s t a b)
pad_slack true true a b = ap less_one (pad_minus b a) ∙ pad_less (minus b a)
pad_slack true false a b = pad_minus b a
pad_slack false t a b = ap less_one (pad_minus b a) ∙ pad_less (minus b a)

-- ---- sums and tests of bounds
pad_sum : (a b : Upper Affine) → bound_of (sum_b (pad_b a) (pad_b b)) ≡ bound_of (sum_b a b)
unfolding sum_b
pad_sum none b = refl
pad_sum (upper s a) none = refl
pad_sum (upper s a) (upper t b) = ap (λ (e : Affine). bound_of (upper (s || t) e)) (pad_plus a b)

pad_test : (a b : Upper Affine) → test (tighter_b (pad_b a) (pad_b b)) ≡ test (tighter_b a b)
unfolding tighter_b
pad_test none b = refl
pad_test (upper s a) none = refl
pad_test (upper s a) (upper t b) = ap (λ (e : Affine). test (ask e)) (pad_slack s t a b)

-- a bound of the code stands for itself
pub limit_pad : (x : Bound) → pad_b (bound_as x) ≡ bound_as x
limit_pad x = by x.none
  where
    by : (b : Bool) → pad_b (cond b none (upper x.strict (affine x.expr))) ≡ cond b none (upper x.strict (affine x.expr))
    by true = refl
    by false = refl

-- ---- numbers that are small are not saturated
number_same : (x : ℤ) → nat_abs x ≤ TEST → saturate LARGEST x ≡ x
number_same x h = saturate_small LARGEST x 1073741823 refl (omega arith)

each_at : (B : ℕ) (cs : List ℤ) (k : ℕ) → AllOf (λ (c : ℤ). nat_abs c ≤ B) cs → nat_abs (get_or cs k (pos 0)) ≤ B
each_at B [] k h = rw nat_abs_parts (omega (arith, pos_parts 0))
each_at B (c ∷ cs) zero h = h.0
each_at B (c ∷ cs) (suc k) h = each_at B cs k h.1

pub pad_size : (B : ℕ) (x : Upper Affine) → AtMostB B x → AtMostB B (pad_b x)
pad_size B none h = tt
pad_size B (upper s e) h =
    record {
      constant = h.constant;
      coefs =
          places_all (λ (c : ℤ). nat_abs c ≤ B) (pos 0) (four e.coefs) 0 PARAMETERS
          (λ k. each_at B (four e.coefs) k
          (places_all (λ (c : ℤ). nat_abs c ≤ B) (pos 0) e.coefs 0 PARAMETERS (λ j. each_at B e.coefs j h.coefs)));
    }

same_places : (cs : List ℤ) → AllOf (λ (c : ℤ). nat_abs c ≤ TEST) cs → (n i : ℕ)
    → map (saturate LARGEST) (places_from (pos 0) cs i n) ≡ places_from (pos 0) cs i n
same_places cs h zero i = refl
same_places cs h (suc n) i = rw (number_same (get_or cs i (pos 0)) (each_at TEST cs i h), same_places cs h n (suc i)) refl

pad_same : (e : Affine) → AtMostE TEST e → saturated_e (pad e) ≡ pad e
unfolding saturated_e
pad_same e h =
    ap (λ (c : ℤ). with_coefs c (map (saturate LARGEST) (four e.coefs))) (number_same e.constant h.constant)
    ∙ ap (with_coefs e.constant) (same_places e.coefs h.coefs PARAMETERS 0)

pad_b_same : (b : Upper Affine) → AtMostB TEST b → saturated_b (pad_b b) ≡ pad_b b
unfolding saturated_b
pad_b_same none h = refl
pad_b_same (upper s e) h = ap (upper s) (pad_same e h)

-- so the code's sums and tests are exact
module _ (a b : Upper Affine) (h : AtMostB TEST a) (k : AtMostB TEST b) where
  pub sum_coded : sum_c (bound_of a) (bound_of b) ≡ bound_of (sum_b a b)
  sum_coded = rw (pad_b_same a h, pad_b_same b k) (pad_sum a b)

  pub test_coded : tighter_c (bound_of a) (bound_of b) ≡ test (tighter_b a b)
  test_coded = rw (pad_b_same a h, pad_b_same b k) (pad_test a b)

-- ---- opposites
pub opposite_coded : (e : Affine) → AtMostE TEST e → opposite_c (expr_of e) ≡ expr_of (opposite e)
unfolding opposite_c opposite
opposite_coded e h =
    rw (pad_same e h)
    (ap (λ (l : List ℤ). expr_of (with_coefs (negsuc 0 -ℤ e.constant) l)) (neg_places e.coefs PARAMETERS 0))

-- ---- what no valuation satisfies
pub never_is : (b : Ranges) (es : List Affine) (e : Affine) → is_none (first (range_list b) (es ++ (e ∷ []))) ≡ never (range_list b) es e
unfolding never
never_is b es e = by (first (range_list b) (es ++ (e ∷ []))) refl
  where
    by : (o : Option (List ℤ)) → first (range_list b) (es ++ (e ∷ [])) ≡ o
        → is_none (first (range_list b) (es ++ (e ∷ []))) ≡ never (range_list b) es e
    by option.none q = rw q refl
    by (option.some v) q = rw q refl
