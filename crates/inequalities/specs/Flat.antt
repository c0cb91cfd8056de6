-- Inequalities in a flat list of numbers, 1 + PARAMETERS numbers each; what lies past its end is 0. The list with numbers or an
-- inequality written.
use Rattle.std.specs.Prelude.{cond, ltb, leb, List, [], ◌∷◌, ℕ, zero, suc, ◌+◌, ◌*◌, ℤ, pos, length, get_or, set}
use Rattle.expr.specs.Affine.{Affine}
use Rattle.expr.specs.Records.{PARAMETERS, places_from, four}
use Rattle.expr.specs.declared.number.Expr.{Expr}

-- the inequality whose numbers start at s: its constant, then its coefficients
unfoldable pub expr_from : List ℤ → ℕ → Affine
expr_from l s = record { constant = get_or l s (pos 0); coefs = places_from (pos 0) l (s + 1) PARAMETERS }

-- inequality k
unfoldable pub expr_at : List ℤ → ℕ → Affine
expr_at l k = record { constant = get_or l (5 * k) (pos 0); coefs = places_from (pos 0) l (5 * k + 1) PARAMETERS }

-- n inequalities of a flat list, from inequality k on
unfoldable pub exprs_from : List ℤ → ℕ → ℕ → List Affine
exprs_from l k zero = []
exprs_from l k (suc n) = expr_at l k ∷ exprs_from l (suc k) n

-- the first n inequalities of a flat list
abbrev pub exprs_in : List ℤ → ℕ → List Affine
exprs_in l n = exprs_from l 0 n

-- the list with numbers put in from place p on
unfoldable pub put_from : List ℤ → ℕ → List ℤ → List ℤ
put_from l p [] = l
put_from l p (x ∷ xs) = put_from (set l p x) (suc p) xs

-- the list with e as inequality k, where it has room for 25 and k is one of them
unfoldable pub put_in : List ℤ → ℕ → Expr → List ℤ
put_in l k e = cond (ltb k 25) (cond (leb 125 (length l)) (put_from l (5 * k) (e.constant ∷ four e.coefs)) l) l
