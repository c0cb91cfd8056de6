-- The laws of `Boxes`: over narrower ranges that lose no solution the first one and the count are the same; and where ranges before some
-- place have one number at most, both go over that place's range.
use Rattle.std.specs.Prelude.{◌≡◌, refl, ◌⊎◌, Bool, true, false, cond, ℕ, zero, suc, ◌+◌, ◌*◌, ◌≤◌, ◌<◌, min, ℤ, pos, ◌+ℤ◌, ◌*ℤ◌, ltb, length, get_or, set, ◌≤ℤ◌, ◌<ℤ◌}
use Rattle.std.proofs.Common.{sym, ap, ◌∙◌, inl, inr, arith, ltb-true, ltb-false}
use mathlib.Core.List.{List, [], ◌∷◌, ◌++◌, map, Memᴰ}
use Rattle.std.proofs.Math.Option.{Option, none, some}
use Rattle.std.proofs.Math.ListN.{get_or-eq_default}
use Rattle.std.specs.Int.Signed.{le_z, ≤ℤ_refl, clash_ℤ}
use Rattle.integer.specs.Bools.{and_left, and_right, and_both, same_test}
use Rattle.integer.specs.Order.{zts, le_z_true, le_z_false, true_le_z, +ℤ-mono, ≤ℤ-antisym, ≤ℤ-trans}
use Rattle.integer.specs.Product.{*ℤ-mono-nonneg, *ℤ-mono-nonpos}
use Rattle.integer.specs.Split.{split, split-all}
use Rattle.expr.specs.Affine.{Affine, dot, value}
use Rattle.expr.specs.Ranges.{In, Inside}
use Rattle.expr.specs.RecordLaws.{places_same}
use Rattle.expr.specs.Records.{PARAMETERS, places_from, range_list, blank_range}
use Rattle.expr.specs.declared.range.Range.{Range}
use Rattle.expr.specs.declared.range.Ranges.{Ranges}
use Rattle.narrowing.specs.Cut.{Within, Cut}
use Rattle.inequalities.specs.Flat.{expr_at, exprs_from, exprs_in}
use Rattle.narrowing.specs.Best.{best_sum, best_of, best_sum_most}
use Rattle.corners.specs.Boxes.{low_of, turn, point_of, Points}
use Rattle.opposites.specs.Opposite.{Apart}
use Rattle.systems.specs.Boxes.{Narrows, Never}
use Rattle.valuations.specs.First.{Earlier}
use Rattle.valuations.proofs.FirstProof.{search_right}
use Rattle.valuations.specs.SearchLaws.{total, first_over, or_else, lead, fix, satisfies_fix, width_in, width_zero, width_suc, total_skip}
use Rattle.valuations.specs.SearchLaws.{valuations_inside, valuations_length, count_whole, first_whole, first_none}
use Rattle.valuations.specs.SearchLaws.{first_same, count_same, count_few, count_zero, own_end, step_up, back_end}
use Rattle.valuations.specs.Valuations.{width, valuations, satisfies, count_in, first, count, widths}

-- ---- the inequalities of a flat list
-- each of them is met
satisfies_at : (l : List ℤ) (n j k : ℕ) (v : List ℤ) → satisfies (exprs_from l j n) v ≡ true → k < n → pos 0 ≤ℤ value (expr_at l (j + k)) v
unfolding satisfies exprs_from
satisfies_at l zero j k v h g = absurd (omega arith)
satisfies_at l (suc n) j zero v h g =
    let e : j + 0 ≡ j = omega arith in
    rw e (le_z_true (and_left (le_z (pos 0) (value (expr_at l j) v)) (satisfies (exprs_from l (suc j) n) v) h))
satisfies_at l (suc n) j (suc k) v h g =
    let e : j + suc k ≡ suc j + k = omega arith in
    rw e (satisfies_at l n (suc j) k v (and_right (le_z (pos 0) (value (expr_at l j) v)) (satisfies (exprs_from l (suc j) n) v) h)
    (omega arith))

pub met_at : (l : List ℤ) (n k : ℕ) (v : List ℤ) → satisfies (exprs_in l n) v ≡ true → k < n → pos 0 ≤ℤ value (expr_at l k) v
met_at l n k v h g =
    let e : 0 + k ≡ k = omega arith in
    rw e at (satisfies_at l n 0 k v h g)

satisfies_all : (l : List ℤ) (n j : ℕ) (v : List ℤ) → ((k : ℕ) → k < n → pos 0 ≤ℤ value (expr_at l (j + k)) v)
    → satisfies (exprs_from l j n) v ≡ true
unfolding satisfies exprs_from
satisfies_all l zero j v h = refl
satisfies_all l (suc n) j v h =
    let e : j + 0 ≡ j = omega arith in
    and_both (le_z (pos 0) (value (expr_at l j) v)) (satisfies (exprs_from l (suc j) n) v) (true_le_z (rw e at (h 0 (omega arith))))
    (satisfies_all l n (suc j) v (λ k g. later k (h (suc k) (omega arith))))
  where
    later : (k : ℕ) → pos 0 ≤ℤ value (expr_at l (j + suc k)) v → pos 0 ≤ℤ value (expr_at l (suc j + k)) v
    later k q =
        let e : j + suc k ≡ suc j + k = omega arith in
        rw e at q

-- past the end they say 0 ≥ 0
past_dot : (l : List ℤ) (n j : ℕ) (v : List ℤ) → length l ≤ j → dot (places_from (pos 0) l j n) v ≡ pos 0
unfolding dot
past_dot l zero j v h = refl
past_dot l (suc n) j [] h = refl
past_dot l (suc n) j (x ∷ v) h =
    rw (get_or-eq_default l (pos 0) {n = j} h, past_dot l n (suc j) v (omega arith)) (none_of x)
  where
    none_of : (x : ℤ) → (pos 0 *ℤ x) +ℤ pos 0 ≡ pos 0
    none_of x = rw (split x) (simp split-all (omega arith))

past_value : (l : List ℤ) (k : ℕ) (v : List ℤ) → length l ≤ k → pos 0 ≤ℤ value (expr_at l k) v
unfolding value expr_at
past_value l k v h =
    rw (get_or-eq_default l (pos 0) {n = 5 * k} (omega arith), past_dot l PARAMETERS (5 * k + 1) v (omega arith)) (≤ℤ_refl (pos 0))

within_reach : (l : List ℤ) (n k : ℕ) (v : List ℤ) → (b : Bool) → ltb k (length l) ≡ b → k < n
    → satisfies (exprs_in l (min n (length l))) v ≡ true → pos 0 ≤ℤ value (expr_at l (0 + k)) v
within_reach l n k v true e g h = satisfies_at l (min n (length l)) 0 k v h (omega (arith, ltb-true))
within_reach l n k v false e g h = past_value l (0 + k) v (omega (arith, ltb-false))

-- inequalities past the end of the list do not count
pub clamped : (l : List ℤ) (n : ℕ) (v : List ℤ) → satisfies (exprs_in l n) v ≡ satisfies (exprs_in l (min n (length l))) v
clamped l n v =
    same_test (satisfies (exprs_in l n) v) (satisfies (exprs_in l (min n (length l))) v)
    (λ h. satisfies_all l (min n (length l)) 0 v (λ k g. satisfies_at l n 0 k v h (omega arith)))
    (λ h. satisfies_all l n 0 v (λ k g. within_reach l n k v (ltb k (length l)) refl g h))

first_clamped : (rs : List Range) (l : List ℤ) (n : ℕ) → first rs (exprs_in l n) ≡ first rs (exprs_in l (min n (length l)))
unfolding first
first_clamped rs l n =
    first_same (satisfies (exprs_in l n)) (satisfies (exprs_in l (min n (length l)))) (valuations rs) (λ v m. clamped l n v)

count_clamped : (rs : List Range) (l : List ℤ) (n : ℕ) → count rs (exprs_in l n) ≡ count rs (exprs_in l (min n (length l)))
unfolding count
count_clamped rs l n =
    count_same (satisfies (exprs_in l n)) (satisfies (exprs_in l (min n (length l)))) (valuations rs) (λ v m. clamped l n v)

-- ---- narrower ranges
pub within_refl : (rs : List Range) → Within rs rs
within_refl [] = tt
within_refl (r ∷ rs) = (λ x h. h, within_refl rs)

-- a box with another range at w
pub within_set : (w : ℕ) (rs : List Range) (s : Range) → ((x : ℤ) → In x s → In x (get_or rs w blank_range)) → Within (set rs w s) rs
within_set w [] s h = tt
within_set zero (r ∷ rs) s h = (h, within_refl rs)
within_set (suc w) (r ∷ rs) s h = (λ x i. i, within_set w rs s h)

within_trans : (qs ss rs : List Range) → Within qs ss → Within ss rs → Within qs rs
within_trans [] [] [] h k = tt
within_trans [] [] (r ∷ rs) h k = k
within_trans [] (s ∷ ss) rs h k = absurd h
within_trans (q ∷ qs) [] rs h k = absurd h
within_trans (q ∷ qs) (s ∷ ss) [] h k = absurd k
within_trans (q ∷ qs) (s ∷ ss) (r ∷ rs) h k = (λ x i. k.0 x (h.0 x i), within_trans qs ss rs h.1 k.1)

pub within_inside : (v : List ℤ) (ss rs : List Range) → Within ss rs → Inside v ss → Inside v rs
within_inside [] [] [] h k = tt
within_inside [] [] (r ∷ rs) h k = h
within_inside [] (s ∷ ss) rs h k = absurd k
within_inside (x ∷ v) [] rs h k = absurd k
within_inside (x ∷ v) (s ∷ ss) [] h k = absurd h
within_inside (x ∷ v) (s ∷ ss) (r ∷ rs) h k = (h.0 x k.0, within_inside v ss rs h.1 k.1)

pub narrows_refl : (es : List Affine) (rs : List Range) → Narrows es rs rs
narrows_refl es rs = record { within = within_refl rs; keeps = λ v h k. h }

pub narrows_trans : (es : List Affine) (rs ss qs : List Range) → Narrows es rs ss → Narrows es ss qs → Narrows es rs qs
narrows_trans es rs ss qs h k = record {
  within = within_trans qs ss rs k.within h.within;
  keeps = λ v i m. k.keeps v (h.keeps v i m) m;
}

-- one more cut by one of the inequalities
pub narrows_cut : (l : List ℤ) (n k : ℕ) (rs ss qs : List Range) → k < n → Narrows (exprs_in l n) rs ss → Cut (expr_at l k) ss qs
    → Narrows (exprs_in l n) rs qs
narrows_cut l n k rs ss qs h g c = record {
  within = within_trans qs ss rs c.within g.within;
  keeps = λ v i m. c.keeps v (g.keeps v i m) (met_at l n k v m h);
}

-- ---- nothing meets the inequalities
not_true : (b : Bool) → (b ≡ true → ⊥) → b ≡ false
not_true true h = absurd (h refl)
not_true false h = refl

pub first_nothing : (rs : List Range) (es : List Affine) → ((v : List ℤ) → Inside v rs → satisfies es v ≡ false) → first rs es ≡ none
first_nothing rs es h = (search_right rs es).nothing.1 h

pub count_nothing : (rs : List Range) (es : List Affine) → ((v : List ℤ) → Inside v rs → satisfies es v ≡ false) → count rs es ≡ 0
count_nothing rs es h = (count_zero rs es).1 (first_nothing rs es h)

-- one of the inequalities is below 0 at its best
pub best_nothing : (l : List ℤ) (n k : ℕ) (rs : List Range) → k < n → best_of (expr_at l k) rs <ℤ pos 0 → first rs (exprs_in l n) ≡ none
unfolding best_of value
best_nothing l n k rs h g =
    first_nothing rs (exprs_in l n) (λ v i. not_true (satisfies (exprs_in l n) v)
    (λ m. below (dot (expr_at l k).coefs v) (best_sum (expr_at l k).coefs rs) (expr_at l k).constant
    (best_sum_most (expr_at l k).coefs v rs i) (met_at l n k v m h) g))
  where
    below : (d s c : ℤ) → d ≤ℤ s → pos 0 ≤ℤ (c +ℤ d) → (c +ℤ s) <ℤ pos 0 → ⊥
    below d s c = rw (split d, split s, split c) (simp split-all (omega arith))

-- ---- the first over narrower ranges
pub first_narrows : (es : List Affine) (rs ss : List Range) → Narrows es rs ss → first rs es ≡ first ss es
first_narrows es rs ss h = by (first rs es) refl
  where
    by : (o : Option (List ℤ)) → first rs es ≡ o → o ≡ first ss es
    by none e = sym (first_nothing ss es (λ v i. first_none rs es e v (within_inside v ss rs h.within i)))
    by (some v) e =
        let f = ((search_right rs es).found v).0 e in
        sym (((search_right ss es).found v).1 record {
          inside = h.keeps v f.inside f.meets;
          meets = f.meets;
          none_earlier = λ w i b. f.none_earlier w (within_inside w ss rs h.within i) b;
        })

-- ---- the count over narrower ranges
pub total_same : (f g : ℤ → ℕ) (n : ℕ) (x : ℤ) → ((y : ℤ) → x ≤ℤ y → y <ℤ (x +ℤ pos n) → f y ≡ g y) → total f x n ≡ total g x n
unfolding total
total_same f g zero x h = refl
total_same f g (suc n) x h =
    let e = h x (≤ℤ_refl x) (own_end x n) in
    let d = total_same f g n (x +ℤ pos 1) (λ y i j. h y (step_up x y i) (back_end x y n j)) in
    rw (e, d) refl

count_within : (es : List Affine) (rs ss : List Range) → Within ss rs
    → ((v : List ℤ) → Inside v rs → satisfies es v ≡ true → Inside v ss) → count rs es ≡ count ss es
count_within es [] [] h k = refl
count_within es [] (s ∷ ss) h k = absurd h
count_within es (r ∷ rs) [] h k = absurd h
count_within es (r ∷ rs) (s ∷ ss) h k =
    count_whole es r rs
    ∙ total_skip (λ (x : ℤ). count rs (map (fix x) es)) r s h.0 (λ y i o. count_nothing rs (map (fix y) es) (outside y i o))
    ∙ total_same (λ (x : ℤ). count rs (map (fix x) es)) (λ (x : ℤ). count ss (map (fix x) es)) (width s) s.low
    (λ y i j. count_within (map (fix y) es) rs ss h.1 (behind y ((width_in s y).1 (i, j))))
    ∙ sym (count_whole es s ss)
  where
    met : (y : ℤ) → In y r → (v : List ℤ) → Inside v rs → satisfies (map (fix y) es) v ≡ true → Inside (y ∷ v) (s ∷ ss)
    met y i v j m = k (y ∷ v) (i, j) (sym (satisfies_fix y es v) ∙ m)

    outside : (y : ℤ) → In y r → (In y s → ⊥) → (v : List ℤ) → Inside v rs → satisfies (map (fix y) es) v ≡ false
    outside y i o v j = not_true (satisfies (map (fix y) es) v) (λ m. o (met y i v j m).0)

    behind : (y : ℤ) → In y s → (v : List ℤ) → Inside v rs → satisfies (map (fix y) es) v ≡ true → Inside v ss
    behind y i v j m = (met y (h.0 y i) v j m).1

pub count_narrows : (es : List Affine) (rs ss : List Range) → Narrows es rs ss → count rs es ≡ count ss es
count_narrows es rs ss h = count_within es rs ss h.within h.keeps

-- ---- some inequalities narrow the ranges, and more are asked
satisfies_front : (es fs : List Affine) (v : List ℤ) → satisfies (es ++ fs) v ≡ true → satisfies es v ≡ true
unfolding satisfies
satisfies_front [] fs v h = refl
satisfies_front (e ∷ es) fs v h =
    let t = le_z (pos 0) (value e v) in
    and_both t (satisfies es v) (and_left t (satisfies (es ++ fs) v) h) (satisfies_front es fs v (and_right t (satisfies (es ++ fs) v) h))

pub narrows_more : (es fs : List Affine) (rs ss : List Range) → Narrows es rs ss → Narrows (es ++ fs) rs ss
narrows_more es fs rs ss h = record { within = h.within; keeps = λ v i m. h.keeps v i (satisfies_front es fs v m) }

-- the first solution of these and further inequalities is the same in the narrower ranges, and so is the count
pub first_in_narrower : (es fs : List Affine) (rs ss : List Range) → Narrows es rs ss → first ss (es ++ fs) ≡ first rs (es ++ fs)
first_in_narrower es fs rs ss h = sym (first_narrows (es ++ fs) rs ss (narrows_more es fs rs ss h))

pub count_in_narrower : (es fs : List Affine) (rs ss : List Range) → Narrows es rs ss → count ss (es ++ fs) ≡ count rs (es ++ fs)
count_in_narrower es fs rs ss h = sym (count_narrows (es ++ fs) rs ss (narrows_more es fs rs ss h))

-- the same of the places of lists, as contracts have them (`range_list`)
within_long : (ss rs : List Range) → Within ss rs → length ss ≡ length rs
within_long [] [] h = refl
within_long [] (r ∷ rs) h = absurd h
within_long (s ∷ ss) [] h = absurd h
within_long (s ∷ ss) (r ∷ rs) h = ap suc (within_long ss rs h.1)

-- narrower ranges are as many
pub narrows_long : (es : List Affine) (rs ss : List Range) (n : ℕ) → Narrows es rs ss → length rs ≡ n → length ss ≡ n
narrows_long es rs ss n h l = within_long ss rs h.within ∙ l

-- a list with a place for each parameter
pub places_all : {A : Type 0} (d : A) (l : List A) → length l ≡ PARAMETERS → places_from d l 0 PARAMETERS ≡ l
places_all d l h = ap (λ (n : ℕ). places_from d l 0 n) (sym h) ∙ places_same d l

-- the same first and the same count over the list that contracts have, with inequalities past the end of the flat list
module _ (rs : List Range) (l : List ℤ) (n m : ℕ) (e : m ≡ min n (length l)) (h : length rs ≡ PARAMETERS) where
  pub first_listed : first rs (exprs_in l m) ≡ first (places_from blank_range rs 0 PARAMETERS) (exprs_in l n)
  first_listed =
      ap (λ (k : ℕ). first rs (exprs_in l k)) e ∙ sym (first_clamped rs l n)
      ∙ ap (λ (z : List Range). first z (exprs_in l n)) (sym (places_all blank_range rs h))

  pub count_listed : count rs (exprs_in l m) ≡ count (places_from blank_range rs 0 PARAMETERS) (exprs_in l n)
  count_listed =
      ap (λ (k : ℕ). count rs (exprs_in l k)) e ∙ sym (count_clamped rs l n)
      ∙ ap (λ (z : List Range). count z (exprs_in l n)) (sym (places_all blank_range rs h))

pub narrows_listed : (es : List Affine) (b c : Ranges) → length b.list ≡ PARAMETERS → Narrows es b.list c.list
    → Narrows es (range_list b) (range_list c)
narrows_listed es b c l h =
    rw (places_all blank_range b.list l, places_all blank_range c.list (narrows_long es b.list c.list PARAMETERS h l)) h

-- ---- all of the box, or nothing of it
count_every : (t : List ℤ → Bool) (vs : List (List ℤ)) → ((v : List ℤ) → Memᴰ v vs → t v ≡ true) → count_in t vs ≡ length vs
unfolding count_in
count_every t [] h = refl
count_every t (v ∷ vs) h = rw (h v (Memᴰ.head refl), count_every t vs (λ w m. h w (Memᴰ.tail m))) refl

pub count_all : (rs : List Range) (es : List Affine) → ((v : List ℤ) → Inside v rs → satisfies es v ≡ true) → count rs es ≡ widths rs
unfolding count
count_all rs es h = count_every (satisfies es) (valuations rs) (λ v m. h v (valuations_inside rs v m)) ∙ valuations_length rs

pub count_empty : (rs : List Range) (es : List Affine) → widths rs ≡ 0 → count rs es ≡ 0
count_empty rs es h = omega (arith, count_few rs es)

-- ---- corners
pub corner_inside : (v : List ℤ) (rs : List Range) → Inside v rs → Inside (map low_of rs) rs
corner_inside [] [] h = tt
corner_inside [] (r ∷ rs) h = absurd h
corner_inside (x ∷ v) [] h = absurd h
corner_inside (x ∷ v) (r ∷ rs) h =
    (record { least = ≤ℤ_refl r.low; most = ≤ℤ-trans h.0.least h.0.most }, corner_inside v rs h.1)

-- nothing comes before the lowest corner
none_lower : (w : List ℤ) (rs : List Range) → Inside w rs → Earlier w (map low_of rs) → ⊥
none_lower [] rs h b = b
none_lower (x ∷ w) [] h b = h
none_lower (x ∷ w) (r ∷ rs) h (inl b) = clash_ℤ b h.0.least
none_lower (x ∷ w) (r ∷ rs) h (inr b) = none_lower w rs h.1 b.1

pub corner_first : (rs : List Range) (es : List Affine) → Inside (map low_of rs) rs → satisfies es (map low_of rs) ≡ true
    → first rs es ≡ some (map low_of rs)
corner_first rs es h k =
    ((search_right rs es).found (map low_of rs)).1 record {
      inside = h;
      meets = k;
      none_earlier = λ w i b. absurd (none_lower w rs i b);
    }

-- a box with the ends of its ranges exchanged
turn_least : (c x : ℤ) (r : Range) (b : Bool) → le_z (pos 0) c ≡ b → In x r → cond b (c *ℤ r.low) (c *ℤ r.high) ≤ℤ (c *ℤ x)
turn_least c x r true e h = *ℤ-mono-nonneg c (le_z_true e) h.least
turn_least c x r false e h = *ℤ-mono-nonpos c (omega zts) h.most

turn_sum : (cs v : List ℤ) (rs : List Range) → Inside v rs → best_sum cs (map turn rs) ≤ℤ dot cs v
unfolding best_sum dot
turn_sum [] v rs h = ≤ℤ_refl (pos 0)
turn_sum (c ∷ cs) [] [] h = ≤ℤ_refl (pos 0)
turn_sum (c ∷ cs) [] (r ∷ rs) h = absurd h
turn_sum (c ∷ cs) (x ∷ v) [] h = absurd h
turn_sum (c ∷ cs) (x ∷ v) (r ∷ rs) h = +ℤ-mono (turn_least c x r (le_z (pos 0) c) refl h.0) (turn_sum cs v rs h.1)

more_holds : (c d s : ℤ) → s ≤ℤ d → pos 0 ≤ℤ (c +ℤ s) → pos 0 ≤ℤ (c +ℤ d)
more_holds c d s = rw (split c, split d, split s) (simp split-all (omega arith))

-- an inequality that holds at its worst holds in all of the box
pub turned_one : (e : Affine) (rs : List Range) → pos 0 ≤ℤ best_of e (map turn rs) → (v : List ℤ) → Inside v rs → pos 0 ≤ℤ value e v
unfolding best_of value
turned_one e rs h v i =
    more_holds e.constant (dot e.coefs v) (best_sum e.coefs (map turn rs)) (turn_sum e.coefs v rs i) h

-- ---- ranges of one number at most
point_within : (r s : Range) → ((x : ℤ) → In x s → In x r) → r.high ≤ℤ r.low → (b : Bool) → le_z s.high s.low ≡ b → s.high ≤ℤ s.low
point_within r s h k true e = le_z_true e
point_within r s h k false e =
    let a = h s.low (record { least = ≤ℤ_refl s.low; most = omega zts }) in
    let b = h s.high (record { least = omega zts; most = ≤ℤ_refl s.high }) in
    omega zts

pub points_within : (k : ℕ) (rs ss : List Range) → Within ss rs → Points k rs → Points k ss
points_within zero rs ss h p = tt
points_within (suc k) [] [] h p = tt
points_within (suc k) [] (s ∷ ss) h p = absurd h
points_within (suc k) (r ∷ rs) [] h p = tt
points_within (suc k) (r ∷ rs) (s ∷ ss) h p =
    (point_within r s h.0 p.0 (le_z s.high s.low) refl, points_within k rs ss h.1 p.1)

pub points_set : (k : ℕ) (rs : List Range) (x : ℤ) → Points k rs → Points (suc k) (set rs k (point_of x))
points_set zero [] x p = tt
points_set zero (r ∷ rs) x p = (≤ℤ_refl x, tt)
points_set (suc k) [] x p = tt
points_set (suc k) (r ∷ rs) x p = (p.0, points_set k rs x p.1)

-- the one valuation of a box of such ranges
one_number : (r : Range) (x : ℤ) → r.high ≤ℤ r.low → In x r → (x ≡ r.low) × (x ≡ r.high)
one_number r x h i =
    let a = i.least in
    let b = i.most in
    (≤ℤ-antisym (≤ℤ-trans b h) a, ≤ℤ-antisym b (≤ℤ-trans h a))

pub one_corner : (k : ℕ) (rs : List Range) (v : List ℤ) → length rs ≤ k → Points k rs → Inside v rs → v ≡ map low_of rs
one_corner k [] [] h p i = refl
one_corner k [] (x ∷ v) h p i = absurd i
one_corner k (r ∷ rs) [] h p i = absurd i
one_corner zero (r ∷ rs) (x ∷ v) h p i = absurd (omega arith)
one_corner (suc k) (r ∷ rs) (x ∷ v) h p i = rw ((one_number r x p.0 i.0).0, one_corner k rs v (omega arith) p.1 i.1) refl

-- ---- over the range at a place, those before it having one number at most
pub one_or_none : (r : Range) → r.high ≤ℤ r.low → (b : Bool) → le_z r.low r.high ≡ b → (width r ≡ 0) ⊎ (width r ≡ 1)
one_or_none r h true e =
    let z : width (record { low = r.low +ℤ pos 1; high = r.high }) ≡ 0 = width_zero _ (past r.low r.high h) in
    inr (width_suc r.low r.high (le_z_true e) ∙ ap suc z)
  where
    past : (l h : ℤ) → h ≤ℤ l → h <ℤ (l +ℤ pos 1)
    past l h = rw (split l, split h) (simp split-all (omega arith))
one_or_none r h false e = inl (width_zero r (le_z_false e))

pub point_width : (x : ℤ) → width (point_of x) ≡ 1
point_width x = by (one_or_none (point_of x) (≤ℤ_refl x) (le_z x x) refl)
  where
    by : (width (point_of x) ≡ 0) ⊎ (width (point_of x) ≡ 1) → width (point_of x) ≡ 1
    by (inl e) = absurd (omega (arith, width_suc x x (≤ℤ_refl x)))
    by (inr e) = e

or_else_none : (o : Option (List ℤ)) → or_else o none ≡ o
or_else_none none = refl
or_else_none (some v) = refl

one_first : (r : Range) → width r ≡ 1 → (rs : List Range) (es : List Affine)
    → first (r ∷ rs) es ≡ lead r.low (first rs (map (fix r.low) es))
unfolding first_over
one_first r h rs es =
    first_whole es r rs ∙ ap (λ (n : ℕ). first_over (λ (x : ℤ). lead x (first rs (map (fix x) es))) r.low n) h
    ∙ or_else_none (lead r.low (first rs (map (fix r.low) es)))

no_first : (r : Range) → width r ≡ 0 → (rs : List Range) (es : List Affine) → first (r ∷ rs) es ≡ none
unfolding first_over
no_first r h rs es = first_whole es r rs ∙ ap (λ (n : ℕ). first_over (λ (x : ℤ). lead x (first rs (map (fix x) es))) r.low n) h

first_over_same : (f g : ℤ → Option (List ℤ)) (n : ℕ) (x : ℤ) → ((y : ℤ) → f y ≡ g y) → first_over f x n ≡ first_over g x n
unfolding first_over
first_over_same f g zero x h = refl
first_over_same f g (suc n) x h = rw (h x, first_over_same f g n (x +ℤ pos 1) h) refl

first_over_none : (f : ℤ → Option (List ℤ)) (n : ℕ) (x : ℤ) → ((y : ℤ) → f y ≡ none) → first_over f x n ≡ none
unfolding first_over
first_over_none f zero x h = refl
first_over_none f (suc n) x h = rw (h x) (first_over_none f n (x +ℤ pos 1) h)

lead_else : (x : ℤ) (a b : Option (List ℤ)) → lead x (or_else a b) ≡ or_else (lead x a) (lead x b)
lead_else x none b = refl
lead_else x (some v) b = refl

lead_over : (z : ℤ) (f : ℤ → Option (List ℤ)) (n : ℕ) (x : ℤ) → lead z (first_over f x n) ≡ first_over (λ (y : ℤ). lead z (f y)) x n
unfolding first_over
lead_over z f zero x = refl
lead_over z f (suc n) x = lead_else z (f x) (first_over f (x +ℤ pos 1) n) ∙ ap (or_else (lead z (f x))) (lead_over z f n (x +ℤ pos 1))

pub first_place : (k : ℕ) (rs : List Range) (es : List Affine) → Points k rs → k < length rs
    → first rs es ≡ first_over (λ (x : ℤ). first (set rs k (point_of x)) es) (get_or rs k blank_range).low (width (get_or rs k blank_range))
first_place k [] es p h = absurd (omega arith)
first_place zero (r ∷ rs) es p h =
    first_whole es r rs
    ∙ first_over_same (λ (x : ℤ). lead x (first rs (map (fix x) es))) (λ (x : ℤ). first (point_of x ∷ rs) es) (width r) r.low
    (λ y. sym (one_first (point_of y) (point_width y) rs es))
first_place (suc k) (r ∷ rs) es p h =
    by (one_or_none r p.0 (le_z r.low r.high) refl) (first_place k rs (map (fix r.low) es) p.1 (omega arith))
  where
    low : ℤ
    low = (get_or rs k blank_range).low

    n : ℕ
    n = width (get_or rs k blank_range)

    by : (width r ≡ 0) ⊎ (width r ≡ 1)
        → first rs (map (fix r.low) es) ≡ first_over (λ (x : ℤ). first (set rs k (point_of x)) (map (fix r.low) es)) low n
        → first (r ∷ rs) es ≡ first_over (λ (x : ℤ). first (r ∷ set rs k (point_of x)) es) low n
    by (inl e) ih =
        no_first r e rs es ∙ sym (first_over_none (λ (x : ℤ). first (r ∷ set rs k (point_of x)) es) n low
        (λ y. no_first r e (set rs k (point_of y)) es))
    by (inr e) ih =
        one_first r e rs es
        ∙ ap (lead r.low) ih
        ∙ lead_over r.low (λ (x : ℤ). first (set rs k (point_of x)) (map (fix r.low) es)) n low
        ∙ first_over_same (λ (x : ℤ). lead r.low (first (set rs k (point_of x)) (map (fix r.low) es)))
        (λ (x : ℤ). first (r ∷ set rs k (point_of x)) es) n low (λ y. sym (one_first r e (set rs k (point_of y)) es))

one_count : (r : Range) → width r ≡ 1 → (rs : List Range) (es : List Affine) → count (r ∷ rs) es ≡ count rs (map (fix r.low) es)
unfolding total
one_count r h rs es =
    count_whole es r rs ∙ ap (λ (n : ℕ). total (λ (x : ℤ). count rs (map (fix x) es)) r.low n) h ∙ no_more
    (count rs (map (fix r.low) es))
  where
    no_more : (n : ℕ) → n + 0 ≡ n
    no_more n = omega arith

no_count : (r : Range) → width r ≡ 0 → (rs : List Range) (es : List Affine) → count (r ∷ rs) es ≡ 0
unfolding total
no_count r h rs es = count_whole es r rs ∙ ap (λ (n : ℕ). total (λ (x : ℤ). count rs (map (fix x) es)) r.low n) h

total_none : (f : ℤ → ℕ) (n : ℕ) (x : ℤ) → ((y : ℤ) → f y ≡ 0) → total f x n ≡ 0
unfolding total
total_none f zero x h = refl
total_none f (suc n) x h = omega (arith, h x, total_none f n (x +ℤ pos 1) h)

pub count_place : (k : ℕ) (rs : List Range) (es : List Affine) → Points k rs → k < length rs
    → count rs es ≡ total (λ (x : ℤ). count (set rs k (point_of x)) es) (get_or rs k blank_range).low (width (get_or rs k blank_range))
count_place k [] es p h = absurd (omega arith)
count_place zero (r ∷ rs) es p h =
    count_whole es r rs
    ∙ total_same (λ (x : ℤ). count rs (map (fix x) es)) (λ (x : ℤ). count (point_of x ∷ rs) es) (width r) r.low
    (λ y i j. sym (one_count (point_of y) (point_width y) rs es))
count_place (suc k) (r ∷ rs) es p h =
    by (one_or_none r p.0 (le_z r.low r.high) refl) (count_place k rs (map (fix r.low) es) p.1 (omega arith))
  where
    low : ℤ
    low = (get_or rs k blank_range).low

    n : ℕ
    n = width (get_or rs k blank_range)

    by : (width r ≡ 0) ⊎ (width r ≡ 1)
        → count rs (map (fix r.low) es) ≡ total (λ (x : ℤ). count (set rs k (point_of x)) (map (fix r.low) es)) low n
        → count (r ∷ rs) es ≡ total (λ (x : ℤ). count (r ∷ set rs k (point_of x)) es) low n
    by (inl e) ih =
        no_count r e rs es ∙ sym (total_none (λ (x : ℤ). count (r ∷ set rs k (point_of x)) es) n low
        (λ y. no_count r e (set rs k (point_of y)) es))
    by (inr e) ih =
        one_count r e rs es
        ∙ ih
        ∙ total_same (λ (x : ℤ). count (set rs k (point_of x)) (map (fix r.low) es)) (λ (x : ℤ). count (r ∷ set rs k (point_of x)) es) n
        low
        (λ y i j. sym (one_count r e (set rs k (point_of y)) es))

-- ---- two inequalities of opposite coefficients
-- two of the inequalities that no valuation meets
pub apart_never : (l : List ℤ) (n j k : ℕ) → j < n → k < n → Apart (expr_at l j) (expr_at l k) → Never (exprs_in l n)
apart_never l n j k h g a = record {
  none = λ v. not_true (satisfies (exprs_in l n) v) (λ m. a.none v (met_at l n j v m h) (met_at l n k v m g));
}
