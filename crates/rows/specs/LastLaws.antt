-- A box in which no range but one has several numbers: the part of that range where all inequalities hold is exact, so that its width
-- counts.
use Rattle.std.specs.Prelude.{◌≡◌, true, ℕ, zero, suc, ◌<◌, ℤ, ◌+ℤ◌, ◌*ℤ◌, length, set, ◌≤ℤ◌}
use Rattle.std.proofs.Math.Path.{refl, subst}
use Rattle.std.proofs.Common.{sym, ap, ◌∙◌, arith}
use mathlib.Core.List.{List, [], ◌∷◌, map}
use Rattle.std.proofs.Math.IntN.{pos}
use Rattle.std.proofs.Math.ListN.{get_or}
use Rattle.std.specs.Int.Signed.{le_z}
use Rattle.integer.specs.Bools.{and_left, and_right, and_both}
use Rattle.integer.specs.Order.{le_z_true, true_le_z, ≤ℤ-antisym, ≤ℤ-trans}
use Rattle.integer.specs.Split.{split, split-all}
use Rattle.expr.specs.Affine.{Affine, dot, value}
use Rattle.expr.specs.Ranges.{In, Inside}
use Rattle.expr.specs.Records.{blank_range}
use Rattle.expr.specs.declared.range.Range.{Range}
use Rattle.corners.specs.Boxes.{low_of, Alone}
use Rattle.intervals.specs.Interval.{interval}
use Rattle.intervals.specs.IntervalLaws.{interval_exact}
use Rattle.rows.specs.Parts.{part_of}
use Rattle.systems.specs.BoxLaws.{within_set, within_inside, count_narrows, count_all}
use Rattle.valuations.specs.Valuations.{satisfies, count, widths}

-- ---- what an inequality is at a valuation of such a box
-- a range of one number
low_point : (x : ℤ) (r : Range) → r.high ≤ℤ r.low → In x r → r.low ≡ x
low_point x r h i = ≤ℤ-antisym i.least (≤ℤ-trans i.most h)

-- every range has one number at most
points_lows : (v : List ℤ) (rs : List Range)
    → ((j : ℕ) → j < length rs → (get_or rs j blank_range).high ≤ℤ (get_or rs j blank_range).low) → Inside v rs → map low_of rs ≡ v
points_lows [] [] h i = refl
points_lows [] (r ∷ rs) h i = absurd i
points_lows (x ∷ v) [] h i = absurd i
points_lows (x ∷ v) (r ∷ rs) h i =
    rw (low_point x r (h 0 (omega arith)) i.0, points_lows v rs (λ j k. h (suc j) (omega arith)) i.1) refl

-- the lowest corner is such a valuation, but for the number at w
alone_lows : (w : ℕ) (v : List ℤ) (rs : List Range) → Alone w rs → Inside v rs → set (map low_of rs) w (pos 0) ≡ set v w (pos 0)
alone_lows w [] [] h i = refl
alone_lows w [] (r ∷ rs) h i = absurd i
alone_lows w (x ∷ v) [] h i = absurd i
alone_lows zero (x ∷ v) (r ∷ rs) h i =
    ap (λ (u : List ℤ). pos 0 ∷ u) (points_lows v rs (λ j k. h (suc j) (omega arith) (λ e. omega arith)) i.1)
alone_lows (suc w) (x ∷ v) (r ∷ rs) h i =
    rw (
      low_point x r (h 0 (omega arith) (λ e. omega arith)) i.0,
      alone_lows w v rs (λ j k e. h (suc j) (omega arith) (λ q. e (omega arith))) i.1,
    ) refl

first_out : (c x y : ℤ) → (c *ℤ x) +ℤ y ≡ ((c *ℤ pos 0) +ℤ y) +ℤ (c *ℤ x)
first_out c x y = rw (split c, split x, split y) (simp split-all (omega arith))

pub later_out : (a b c : ℤ) → a +ℤ (b +ℤ c) ≡ (a +ℤ b) +ℤ c
later_out a b c = rw (split a, split b, split c) (simp split-all (omega arith))

zero_times : (x : ℤ) → pos 0 ≡ pos 0 +ℤ (pos 0 *ℤ x)
zero_times x = rw (split x) (simp split-all (omega arith))

no_number : (c : ℤ) → pos 0 ≡ pos 0 +ℤ (c *ℤ pos 0)
no_number c = rw (split c) (simp split-all (omega arith))

-- one product apart from the others
pub apart_dot : (w : ℕ) (cs v : List ℤ) → dot cs v ≡ dot cs (set v w (pos 0)) +ℤ (get_or cs w (pos 0) *ℤ get_or v w (pos 0))
unfolding dot
apart_dot w [] v = zero_times (get_or v w (pos 0))
apart_dot w (c ∷ cs) [] = no_number (get_or (c ∷ cs) w (pos 0))
apart_dot zero (c ∷ cs) (x ∷ v) = first_out c x (dot cs v)
apart_dot (suc w) (c ∷ cs) (x ∷ v) =
    rw (apart_dot w cs v) (later_out (c *ℤ x) (dot cs (set v w (pos 0))) (get_or cs w (pos 0) *ℤ get_or v w (pos 0)))

module _ (w : ℕ) (rs : List Range) (h : Alone w rs) where
  abbrev others : List ℤ
  others = set (map low_of rs) w (pos 0)

  alone_value : (e : Affine) (v : List ℤ) → Inside v rs → value e v ≡ value e others +ℤ (get_or e.coefs w (pos 0) *ℤ get_or v w (pos 0))
  unfolding value
  alone_value e v i =
      rw (alone_lows w v rs h i, apart_dot w e.coefs v)
      (later_out e.constant (dot e.coefs (set v w (pos 0))) (get_or e.coefs w (pos 0) *ℤ get_or v w (pos 0)))

  -- ---- the part at w
  part_in : (es : List Affine) (r : Range) (x : ℤ) → In x (part_of es others w r) → In x r
  unfolding part_of
  part_in [] r x i = i
  part_in (e ∷ es) r x i =
      ((interval_exact r (value e others) (get_or e.coefs w (pos 0)) x).0
      (part_in es (interval r (value e others) (get_or e.coefs w (pos 0))) x i)).0

  part_holds : (es : List Affine) (r : Range) (v : List ℤ) → Inside v rs → In (get_or v w (pos 0)) (part_of es others w r)
      → satisfies es v ≡ true
  unfolding part_of satisfies
  part_holds [] r v i k = refl
  part_holds (e ∷ es) r v i k =
      let s = interval r (value e others) (get_or e.coefs w (pos 0)) in
      let x = get_or v w (pos 0) in
      let here = ((interval_exact r (value e others) (get_or e.coefs w (pos 0)) x).0 (part_in es s x k)).1 in
      and_both (le_z (pos 0) (value e v)) (satisfies es v)
      (true_le_z (subst (λ (y : ℤ). pos 0 ≤ℤ y) (sym (alone_value e v i)) here)) (part_holds es s v i k)

  part_keeps : (es : List Affine) (r : Range) (v : List ℤ) → Inside v rs → satisfies es v ≡ true → In (get_or v w (pos 0)) r
      → In (get_or v w (pos 0)) (part_of es others w r)
  unfolding part_of satisfies
  part_keeps [] r v i m k = k
  part_keeps (e ∷ es) r v i m k =
      let here = le_z_true (and_left (le_z (pos 0) (value e v)) (satisfies es v) m) in
      part_keeps es (interval r (value e others) (get_or e.coefs w (pos 0))) v i
      (and_right (le_z (pos 0) (value e v)) (satisfies es v) m)
      ((interval_exact r (value e others) (get_or e.coefs w (pos 0)) (get_or v w (pos 0))).1
      (k, subst (λ (y : ℤ). pos 0 ≤ℤ y) (alone_value e v i) here))

-- ---- a box with another range at w
inside_put : (w : ℕ) (v : List ℤ) (rs : List Range) (s : Range) → Inside v rs → w < length rs → In (get_or v w (pos 0)) s
    → Inside v (set rs w s)
inside_put w v [] s i l k = absurd (omega arith)
inside_put w [] (r ∷ rs) s i l k = absurd i
inside_put zero (x ∷ v) (r ∷ rs) s i l k = (k, i.1)
inside_put (suc w) (x ∷ v) (r ∷ rs) s i l k = (i.0, inside_put w v rs s i.1 (omega arith) k)

inside_there : (w : ℕ) (v : List ℤ) (rs : List Range) (s : Range) → Inside v (set rs w s) → w < length rs → In (get_or v w (pos 0)) s
inside_there w v [] s i l = absurd (omega arith)
inside_there zero [] (r ∷ rs) s i l = absurd i
inside_there (suc w) [] (r ∷ rs) s i l = absurd i
inside_there zero (x ∷ v) (r ∷ rs) s i l = i.0
inside_there (suc w) (x ∷ v) (r ∷ rs) s i l = inside_there w v rs s i.1 (omega arith)

inside_at : (w : ℕ) (v : List ℤ) (rs : List Range) → Inside v rs → w < length rs → In (get_or v w (pos 0)) (get_or rs w blank_range)
inside_at w v [] i l = absurd (omega arith)
inside_at w [] (r ∷ rs) i l = absurd i
inside_at zero (x ∷ v) (r ∷ rs) i l = i.0
inside_at (suc w) (x ∷ v) (r ∷ rs) i l = inside_at w v rs i.1 (omega arith)

-- ---- the count
pub count_last : (w : ℕ) (rs : List Range) (es : List Affine) → Alone w rs → w < length rs
    → count rs es ≡ widths (set rs w (part_of es (set (map low_of rs) w (pos 0)) w (get_or rs w blank_range)))
count_last w rs es h l =
    let s = part_of es (set (map low_of rs) w (pos 0)) w (get_or rs w blank_range) in
    let inner = within_set w rs s (λ x i. part_in w rs h es (get_or rs w blank_range) x i) in
    count_narrows es rs (set rs w s) (record {
      within = inner;
      keeps = λ v i m. inside_put w v rs s i l (part_keeps w rs h es (get_or rs w blank_range) v i m (inside_at w v rs i l));
    })
    ∙ count_all (set rs w s) es (λ v i.
    part_holds w rs h es (get_or rs w blank_range) v (within_inside v (set rs w s) rs inner i) (inside_there w v rs s i l))
