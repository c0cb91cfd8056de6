-- A flat list of numbers with inequalities written one after another: with each there is one more.
use Rattle.std.specs.Prelude.{◌≡◌, List, [], ◌∷◌, ◌++◌, map, ℕ, zero, suc, ◌+◌, ◌<◌, ℤ, length}
use Rattle.std.proofs.Common.{refl, ap, sym, ◌∙◌, arith}
use Rattle.expr.specs.Affine.{Affine}
use Rattle.expr.specs.Records.{affine}
use Rattle.expr.specs.declared.number.Expr.{Expr}
use Rattle.inequalities.specs.Flat.{expr_at, exprs_from, put_in}
use Rattle.inequalities.specs.Put.{written_at, exprs_before}
pub use Rattle.inequalities.specs.Put.{put_before, put_after, put_there, put_room, put_past, put_short, written_length, written_keeps}

-- the last of some inequalities
exprs_last : (n j : ℕ) (l : List ℤ) → exprs_from l j (suc n) ≡ exprs_from l j n ++ (expr_at l (j + n) ∷ [])
unfolding exprs_from
exprs_last zero j l = ap (λ (i : ℕ). expr_at l i ∷ []) (omega arith)
exprs_last (suc n) j l =
    let same : suc j + n ≡ j + suc n = omega arith in
    ap (λ (es : List Affine). expr_at l j ∷ es)
    (exprs_last n (suc j) l ∙ ap (λ (i : ℕ). exprs_from l (suc j) n ++ (expr_at l i ∷ [])) same)

pub map_last : (xs : List Expr) (e : Expr) → map affine (xs ++ (e ∷ [])) ≡ map affine xs ++ (affine e ∷ [])
map_last [] e = refl
map_last (x ∷ xs) e = ap (λ (es : List Affine). affine x ∷ es) (map_last xs e)

-- with an inequality written behind them, one more than before
pub written_next : (l : List ℤ) (k : ℕ) (e : Expr) → k < 25 → length l ≡ 125 → (xs : List Expr) → exprs_from l 0 k ≡ map affine xs
    → exprs_from (put_in l k e) 0 (suc k) ≡ map affine (xs ++ (e ∷ []))
written_next l k e few long xs h =
    let w = put_in l k e in
    let same : 0 + k ≡ k = omega arith in
    exprs_last k 0 w
    ∙ ap (λ (j : ℕ). exprs_from w 0 k ++ (expr_at w j ∷ [])) same
    ∙ (λ i. exprs_before l k e few long k 0 (omega arith) i ++ (written_at l k e few long i ∷ []))
    ∙ ap (λ (es : List Affine). es ++ (affine e ∷ [])) h
    ∙ sym (map_last xs e)
