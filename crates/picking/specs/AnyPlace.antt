-- The count of a box is the sum of its counts with each number of one range put in, whichever range that is.
use Rattle.std.specs.Prelude.{◌≡◌, refl, List, [], ◌∷◌, map, ℕ, zero, suc, ◌+◌, ◌<◌, ℤ, pos, ◌+ℤ◌, length, get_or, set}
use Rattle.std.proofs.Common.{sym, ap, ◌∙◌, arith}
use Rattle.expr.specs.Affine.{Affine}
use Rattle.expr.specs.Records.{blank_range}
use Rattle.expr.specs.declared.range.Range.{Range}
use Rattle.corners.specs.Boxes.{point_of}
use Rattle.systems.specs.BoxLaws.{total_same, count_place}
use Rattle.valuations.specs.SearchLaws.{total, fix, count_whole}
use Rattle.valuations.specs.Valuations.{count, width}

-- ---- sums over two ranges, in either order
total_none : (n : ℕ) (x : ℤ) → total (λ (y : ℤ). 0) x n ≡ 0
unfolding total
total_none zero x = refl
total_none (suc n) x = omega (arith, total_none n (x +ℤ pos 1))

total_both : (f g : ℤ → ℕ) (n : ℕ) (x : ℤ) → total (λ (y : ℤ). f y + g y) x n ≡ total f x n + total g x n
unfolding total
total_both f g zero x = refl
total_both f g (suc n) x = omega (arith, total_both f g n (x +ℤ pos 1))

total_swap : (f : ℤ → ℤ → ℕ) (n m : ℕ) (x z : ℤ)
    → total (λ (a : ℤ). total (f a) z m) x n ≡ total (λ (b : ℤ). total (λ (a : ℤ). f a b) x n) z m
unfolding total
total_swap f zero m x z = sym (total_none m z)
total_swap f (suc n) m x z =
    ap (λ (k : ℕ). total (f x) z m + k) (total_swap f n m (x +ℤ pos 1) z)
    ∙ sym (total_both (f x) (λ (b : ℤ). total (λ (a : ℤ). f a b) (x +ℤ pos 1) n) m z)

-- ---- the count
pub count_any : (k : ℕ) (rs : List Range) (es : List Affine) → k < length rs
    → count rs es ≡ total (λ (x : ℤ). count (set rs k (point_of x)) es) (get_or rs k blank_range).low (width (get_or rs k blank_range))
count_any k [] es h = absurd (omega arith)
count_any zero (r ∷ rs) es h = count_place zero (r ∷ rs) es tt h
count_any (suc k) (r ∷ rs) es h =
    count_whole es r rs
    ∙ total_same (λ (x : ℤ). count rs (map (fix x) es)) (λ (x : ℤ). total (λ (y : ℤ). count (set rs k (point_of y)) (map (fix x) es)) low n)
    (width r) r.low (λ x i j. count_any k rs (map (fix x) es) (omega arith))
    ∙ total_swap (λ (x y : ℤ). count (set rs k (point_of y)) (map (fix x) es)) (width r) n r.low low
    ∙ total_same (λ (y : ℤ). total (λ (x : ℤ). count (set rs k (point_of y)) (map (fix x) es)) r.low (width r))
    (λ (y : ℤ). count (r ∷ set rs k (point_of y)) es) n low (λ y i j. sym (count_whole es r (set rs k (point_of y))))
  where
    low : ℤ
    low = (get_or rs k blank_range).low

    n : ℕ
    n = width (get_or rs k blank_range)
