-- A box of which two ranges have several numbers, row by row.
use Rattle.std.specs.Prelude.{◌≡◌, ◌⊎◌, Bool, true, false, List, [], ◌∷◌, map, eqb, ℤ, pos, ◌+ℤ◌, ◌*ℤ◌, length, get_or, set, ◌≤ℤ◌}
use Rattle.std.proofs.Math.Path.{refl, ap}
use Rattle.std.proofs.Common.{sym, ◌∙◌, inl, inr, arith, length-set, get_or-set_same, get_or-set_other, set-set, eqb-true}
use Prim.Native.Nat.{ℕ, zero, suc, ◌+◌, ◌*◌, ◌<◌}
use Rattle.std.proofs.lemmas.List.{length-map, set_comm}
use Rattle.std.specs.Int.Signed.{le_z, ≤ℤ_refl}
use Rattle.std.proofs.lemmas.Bool.{eqb-false}
use Rattle.expr.specs.Affine.{Affine, dot, value}
use Rattle.expr.specs.Records.{blank_range}
use Rattle.expr.specs.declared.range.Range.{Range}
use Rattle.corners.specs.Boxes.{low_of, point_of, Alone, Two}
use Rattle.inequalities.specs.Flat.{expr_at, exprs_from, exprs_in}
use Rattle.intervals.specs.Interval.{interval}
use Rattle.systems.specs.BoxLaws.{one_or_none, point_width, total_same}
use Rattle.picking.specs.AnyPlace.{count_any}
use Rattle.valuations.specs.SearchLaws.{total}
use Rattle.valuations.specs.Valuations.{count, width, widths}
use Rattle.rows.specs.LastLaws.{later_out, apart_dot, count_last}
use Rattle.rows.specs.Lines.{LineOf, row_from}
use Rattle.rows.specs.Parts.{part_of}
use Rattle.rows.specs.declared.lines.Line.{Line}

-- ---- the lines' row is the part where the inequalities hold
value_put : (e : Affine) (u : List ℤ) (w : ℕ) (x : ℤ) → w < length u
    → value e (set u w (pos 0)) +ℤ (get_or e.coefs w (pos 0) *ℤ x) ≡ value e (set u w x)
unfolding value
value_put e u w x h =
    sym (ap (λ (z : ℤ). e.constant +ℤ z)
    (apart_dot w e.coefs (set u w x)
    ∙ ap (λ (v : List ℤ). dot e.coefs v +ℤ (get_or e.coefs w (pos 0) *ℤ get_or (set u w x) w (pos 0))) (set-set u w x (pos 0))
    ∙ ap (λ (z : ℤ). dot e.coefs (set u w (pos 0)) +ℤ (get_or e.coefs w (pos 0) *ℤ z)) (get_or-set_same u w x (pos 0) h))
    ∙ later_out e.constant (dot e.coefs (set u w (pos 0))) (get_or e.coefs w (pos 0) *ℤ x))

module _ (flat : List ℤ) (l : ℕ → Line) (u : List ℤ) (w t : ℕ) (x : ℤ) (h : w < length u) where
  line_value : (k : ℕ) → LineOf (expr_at flat k) (set u w (pos 0)) w t (l k)
      → (l k).constant +ℤ ((l k).first *ℤ x) ≡ value (expr_at flat k) (set u w x)
  line_value k q =
      ap (λ (z : ℤ). z +ℤ ((l k).first *ℤ x)) q.constant
      ∙ ap (λ (z : ℤ). value (expr_at flat k) (set u w (pos 0)) +ℤ (z *ℤ x)) q.first
      ∙ value_put (expr_at flat k) u w x h

  pub row_part : (n k : ℕ) (r : Range) → ((j : ℕ) → j < k + n → LineOf (expr_at flat j) (set u w (pos 0)) w t (l j))
      → row_from l k n x r ≡ part_of (exprs_from flat k n) (set u w x) t r
  unfolding row_from part_of exprs_from
  row_part zero k r q = refl
  row_part (suc n) k r q =
      let e = q k (omega arith) in
      row_part n (suc k) (interval r ((l k).constant +ℤ ((l k).first *ℤ x)) (l k).second)
      (λ j g. q j (omega arith))
      ∙ ap (λ (z : ℤ). part_of (exprs_from flat (suc k) n) (set u w x) t (interval r z (l k).second)) (line_value k e)
      ∙ ap (λ (z : ℤ). part_of (exprs_from flat (suc k) n) (set u w x) t (interval r (value (expr_at flat k) (set u w x)) z)) e.second

-- ---- widths
all_one : (rs : List Range) → ((j : ℕ) → j < length rs → width (get_or rs j blank_range) ≡ 1) → widths rs ≡ 1
unfolding widths
all_one [] h = refl
all_one (r ∷ rs) h = rw (h 0 (omega arith), all_one rs (λ j g. h (suc j) (omega arith))) refl

but_one : (t : ℕ) (rs : List Range) (s : Range) → ((j : ℕ) → j < length rs → (j ≡ t → ⊥) → width (get_or rs j blank_range) ≡ 1)
    → t < length rs → widths (set rs t s) ≡ width s
unfolding widths
but_one t [] s h l = absurd (omega arith)
but_one zero (r ∷ rs) s h l =
    let e = all_one rs (λ j g. h (suc j) (omega arith) (λ q. omega arith)) in
    rw e (omega arith)
but_one (suc t) (r ∷ rs) s h l =
    let e = h 0 (omega arith) (λ q. omega arith) in
    let k = but_one t rs s (λ j g q. h (suc j) (omega arith) (λ z. q (omega arith))) (omega arith) in
    rw (e, k) (omega arith)

none_empty : (rs : List Range) (j : ℕ) → j < length rs → 0 < widths rs → 0 < width (get_or rs j blank_range)
unfolding widths
none_empty [] j h g = absurd (omega arith)
none_empty (r ∷ rs) zero h g = left (width r) (widths rs) g
  where
    left : (a b : ℕ) → 0 < a * b → 0 < a
    left zero b k = absurd (omega arith)
    left (suc a) b k = omega arith
none_empty (r ∷ rs) (suc j) h g = none_empty rs j (omega arith) (right (width r) (widths rs) g)
  where
    right : (a b : ℕ) → 0 < a * b → 0 < b
    right a zero k = absurd (omega arith)
    right a (suc b) k = omega arith

low_set : (rs : List Range) (w : ℕ) (x : ℤ) → map low_of (set rs w (point_of x)) ≡ set (map low_of rs) w x
low_set [] w x = refl
low_set (r ∷ rs) zero x = refl
low_set (r ∷ rs) (suc w) x = ap (λ (v : List ℤ). r.low ∷ v) (low_set rs w x)

-- ---- the count of a row
module _ (w t : ℕ) (rs : List Range) (two : Two w t rs) (some : 0 < widths rs) (ne : w ≡ t → ⊥) (lw : w < length rs) (l : t < length rs)
  where
    module _ (x : ℤ) where
      abbrev put : List Range
      put = set rs w (point_of x)

      at_place : (j : ℕ) → (eqb j w ≡ true → point_of x ≡ get_or put j blank_range) × (eqb j w ≡ false → get_or rs j blank_range ≡ get_or put j
          blank_range)
      at_place j = (
        λ e. let q : j ≡ w = eqb-true j w e in
            rw q (sym (get_or-set_same rs w (point_of x) blank_range (omega arith))),
        λ e. sym (get_or-set_other rs w j (point_of x) blank_range (eqb-false j w e)),
      )

      alone : Alone t put
      alone j h e = by (eqb j w) refl
        where
          by : (b : Bool) → eqb j w ≡ b → (get_or put j blank_range).high ≤ℤ (get_or put j blank_range).low
          by true q = rw (sym ((at_place j).0 q)) (≤ℤ_refl x)
          by false q = rw (sym ((at_place j).1 q)) (two j (rw (length-set rs w (point_of x)) at h) (eqb-false j w q) e)

      ones : (j : ℕ) → j < length put → (j ≡ t → ⊥) → width (get_or put j blank_range) ≡ 1
      ones j h e = by (eqb j w) refl
        where
          long : j < length rs
          long = rw (length-set rs w (point_of x)) at h

          one : (width (get_or rs j blank_range) ≡ 0) ⊎ (width (get_or rs j blank_range) ≡ 1) → width (get_or rs j blank_range) ≡ 1
          one (inl z) = absurd (omega (arith, none_empty rs j long some))
          one (inr z) = z

          by : (b : Bool) → eqb j w ≡ b → width (get_or put j blank_range) ≡ 1
          by true q = rw (sym ((at_place j).0 q)) (point_width x)
          by false q =
              rw (sym ((at_place j).1 q))
              (one (one_or_none (get_or rs j blank_range) (two j long (eqb-false j w q) e)
              (le_z (get_or rs j blank_range).low (get_or rs j blank_range).high) refl))

      pub row_count : (es : List Affine)
          → count (set rs w (point_of x)) es ≡ width (part_of es (set (set (map low_of rs) t (pos 0)) w x) t (get_or rs t blank_range))
      row_count es =
          let g : t < length put = rw (length-set rs w (point_of x)) l in
          let other : (t ≡ w) → ⊥ = λ e. ne (sym e) in
          count_last t put es alone g
          ∙ but_one t put (part_of es (set (map low_of put) t (pos 0)) t (get_or put t blank_range)) ones g
          ∙ ap (λ (v : List ℤ). width (part_of es (set v t (pos 0)) t (get_or put t blank_range))) (low_set rs w x)
          ∙ ap (λ (v : List ℤ). width (part_of es v t (get_or put t blank_range)))
          (set_comm (map low_of rs) w t x (pos 0) ne)
          ∙ ap (λ (r : Range). width (part_of es (set (set (map low_of rs) t (pos 0)) w x) t r))
          (get_or-set_other rs w t (point_of x) blank_range other)

    -- all rows
    pub rows_counted : (flat : List ℤ) (n : ℕ) (ls : ℕ → Line)
        → ((j : ℕ) → j < n → LineOf (expr_at flat j) (set (set (map low_of rs) t (pos 0)) w (pos 0)) w t (ls j))
        → total (λ (x : ℤ). width (row_from ls 0 n x (get_or rs t blank_range))) (get_or rs w blank_range).low (width (get_or rs w blank_range))
        ≡ count rs (exprs_in flat n)
    rows_counted flat n ls h =
        let long : w < length (set (map low_of rs) t (pos 0)) =
        rw (length-set (map low_of rs) t (pos 0), length-map rs low_of) (omega arith) in
        total_same (λ (x : ℤ). width (row_from ls 0 n x (get_or rs t blank_range))) (λ (x : ℤ). count (set rs w (point_of x)) (exprs_in flat n))
        (width (get_or rs w blank_range)) (get_or rs w blank_range).low
        (λ y i j. ap width (row_part flat ls (set (map low_of rs) t (pos 0)) w t y long n 0 (get_or rs t blank_range) (λ k g. h k (omega
        arith)))
        ∙ sym (row_count y (exprs_in flat n)))
        ∙ sym (count_any w rs (exprs_in flat n) lw)
