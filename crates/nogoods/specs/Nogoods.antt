-- Expressions that are below 0 at a valuation, three of them.
use Rattle.std.specs.Prelude.{◌≡◌, refl, false, List, [], ◌∷◌, ℕ, zero, suc, ◌+◌, ◌%◌, ◌<◌, ℤ, pos, negsuc, ◌+ℤ◌, get_or, set, replicate}
use Rattle.std.specs.Prelude.{◌≤ℤ◌, ◌<ℤ◌}
use Rattle.std.proofs.Common.{ap, ◌∙◌, arith}
use Rattle.std.proofs.Math.IntN.{zero-*ℤ}
use Rattle.std.proofs.lemmas.List.{get_or-replicate}
use Rattle.std.specs.Int.Signed.{le_z}
use Rattle.integer.specs.Order.{le_z_false, false_le_z}
use Rattle.integer.specs.Split.{split, split-all}
use Rattle.expr.specs.Affine.{dot, value}
use Rattle.expr.specs.Records.{PARAMETERS, places_from, four, affine, expr_of, no_expr}
use Rattle.expr.specs.declared.number.Expr.{Expr}
use Rattle.nogoods.specs.declared.Nogoods.{Nogoods}

-- each of the three is below 0 at v
abbrev pub Below : List Expr → List ℤ → Type 0
Below es v = (k : ℕ) → k < 3 → le_z (pos 0) (value (affine (get_or es k no_expr)) v) ≡ false

-- one more, in the place of the oldest
unfoldable pub with_c : Nogoods → Expr → Nogoods
with_c g e = record { list = set g.list (g.next % 3) e; next = g.next % 3 + 1 }

-- -1, three times
abbrev pub below : Expr
below = expr_of (record { constant = negsuc 0; coefs = [] })

abbrev pub none_n : Nogoods
none_n = record { list = replicate 3 below; next = 0 }

-- ---- laws
-- the first n numbers of two lists are the same
abbrev pub Same : List ℤ → List ℤ → ℕ → Type 0
Same l k n = (m : ℕ) → m < n → get_or l m (pos 0) ≡ get_or k m (pos 0)

same_places : (l k : List ℤ) (n a : ℕ) → ((m : ℕ) → m < n → get_or l (a + m) (pos 0) ≡ get_or k (a + m) (pos 0))
    → places_from (pos 0) l a n ≡ places_from (pos 0) k a n
same_places l k zero a h = refl
same_places l k (suc n) a h =
    let i : a + 0 ≡ a = omega arith in
    λ j. (rw i at (h 0 (omega arith))) j ∷ same_places l k n (suc a) (λ m g. later m (h (suc m) (omega arith))) j
  where
    later : (m : ℕ) → get_or l (a + suc m) (pos 0) ≡ get_or k (a + suc m) (pos 0)
        → get_or l (suc a + m) (pos 0) ≡ get_or k (suc a + m) (pos 0)
    later m q =
        let i : a + suc m ≡ suc a + m = omega arith in
        rw i at q

pub same_less : (e f : Expr) → Same e.coefs f.coefs PARAMETERS → e.constant ≤ℤ f.constant → (v : List ℤ)
    → value (affine e) v ≤ℤ value (affine f) v
unfolding value
same_less e f h c v =
    let same : four e.coefs ≡ four f.coefs = same_places e.coefs f.coefs PARAMETERS 0 (λ m q. started m (h m q)) in
    rw same (more e.constant f.constant (dot (four f.coefs) v) c)
  where
    started : (m : ℕ) → get_or e.coefs m (pos 0) ≡ get_or f.coefs m (pos 0)
        → get_or e.coefs (0 + m) (pos 0) ≡ get_or f.coefs (0 + m) (pos 0)
    started m q =
        let i : 0 + m ≡ m = omega arith in
        rw i q

    more : (x y z : ℤ) → x ≤ℤ y → (x +ℤ z) ≤ℤ (y +ℤ z)
    more x y z = rw (split x, split y, split z) (simp split-all (omega arith))

-- what is nowhere more than something below 0 is below 0
pub less_below : (x y : ℤ) → x ≤ℤ y → le_z (pos 0) y ≡ false → le_z (pos 0) x ≡ false
less_below x y h g = false_le_z (by x y h (le_z_false g))
  where
    by : (x y : ℤ) → x ≤ℤ y → y <ℤ pos 0 → x <ℤ pos 0
    by x y = rw (split x, split y) (simp split-all (omega arith))

-- one more
set_either : (P : Expr → Type 0) (e d : Expr) → P e → (l : List Expr) (n k : ℕ) → P (get_or l k d) → P (get_or (set l n e) k d)
set_either P e d p [] n k q = q
set_either P e d p (x ∷ l) zero zero q = p
set_either P e d p (x ∷ l) zero (suc k) q = q
set_either P e d p (x ∷ l) (suc n) zero q = q
set_either P e d p (x ∷ l) (suc n) (suc k) q = set_either P e d p l n k q

pub below_with : (g : Nogoods) (e : Expr) (v : List ℤ) → Below g.list v → le_z (pos 0) (value (affine e) v) ≡ false
    → Below (with_c g e).list v
unfolding with_c
below_with g e v h b k q =
    set_either (λ (x : Expr). le_z (pos 0) (value (affine x) v) ≡ false) e no_expr b g.list (g.next % 3) k (h k q)

-- none that says anything
dot_zeros : (n a : ℕ) (v : List ℤ) → dot (places_from (pos 0) [] a n) v ≡ pos 0
unfolding dot
dot_zeros zero a v = refl
dot_zeros (suc n) a [] = refl
dot_zeros (suc n) a (x ∷ v) = ap (λ (y : ℤ). y +ℤ dot (places_from (pos 0) [] (suc a) n) v) (zero-*ℤ x) ∙ ap (λ (y : ℤ). pos 0 +ℤ y)
    (dot_zeros n (suc a) v)

below_zero : (v : List ℤ) → le_z (pos 0) (value (affine below) v) ≡ false
unfolding value
below_zero v = ap (λ (y : ℤ). le_z (pos 0) (negsuc 0 +ℤ y)) (dot_zeros PARAMETERS 0 v)

pub below_none : (v : List ℤ) → Below none_n.list v
below_none v k h =
    ap (λ (x : Expr). le_z (pos 0) (value (affine x) v)) (get_or-replicate 3 k below no_expr h) ∙ below_zero v
