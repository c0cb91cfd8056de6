-- The code's records, as the lists that the definitions are about, and back. A list stands for an array; what is read past its end is 0.
use Rattle.std.specs.Prelude.{List, [], ◌∷◌, true, false, cond, ℕ, zero, suc, ℤ, pos, get_or}
use Rattle.expr.specs.Affine.{Affine}
use Rattle.weight.specs.Upper.{Upper, none, upper}
use Rattle.expr.specs.Bounds.{zero_b, Question, yes', no', ask}
use Rattle.expr.specs.declared.bound.Bound.{Bound}
use Rattle.expr.specs.declared.bound.Test.{Test}
use Rattle.expr.specs.declared.bound.Test.TheVariants.{Yes, No, Ask}
use Rattle.expr.specs.declared.range.Range.{Range}
use Rattle.expr.specs.declared.range.Ranges.{Ranges}
use Rattle.expr.specs.declared.number.Expr.{Expr}
use Rattle.expr.specs.declared.number.Valuation.{Valuation}

-- how many parameters (paper: allowances) the code's records have
abbrev pub PARAMETERS : ℕ
PARAMETERS = 4

-- n places of a list from place i on; what lies past its end is d
abbrev pub places_from : {A : Type 0} → A → List A → ℕ → ℕ → List A
places_from d l i zero = []
places_from d l i (suc n) = get_or l i d ∷ places_from d l (suc i) n

-- a number for each parameter
abbrev pub four : List ℤ → List ℤ
four l = places_from (pos 0) l 0 PARAMETERS

-- an expression of the code
abbrev pub affine : Expr → Affine
affine e = record { constant = e.constant; coefs = four e.coefs }

-- a valuation of the code
abbrev pub point : Valuation → List ℤ
point v = four v.numbers

-- the code's record of an expression
abbrev pub expr_of : Affine → Expr
expr_of e = record { constant = e.constant; coefs = four e.coefs }

abbrev pub zero_expr : Expr
zero_expr = expr_of (record { constant = pos 0; coefs = [] })

-- what is read past the end of a list of expressions, or of bounds
abbrev pub no_expr : Expr
no_expr = record { constant = pos 0; coefs = [] }

abbrev pub no_bound : Bound
no_bound = record { none = false; strict = false; expr = no_expr }

-- a bound of the code
abbrev pub bound_as : Bound → Upper Affine
bound_as b = cond b.none none (upper b.strict (affine b.expr))

-- the code's record of a bound; none has a zero expression and is not strict
abbrev pub bound_of : Upper Affine → Bound
bound_of none = record { none = true; strict = false; expr = zero_expr }
bound_of (upper s e) = record { none = false; strict = s; expr = expr_of e }

-- the code's none, and its zero, not strict
abbrev pub none_bound : Bound
none_bound = bound_of none

abbrev pub zero_bound : Bound
zero_bound = bound_of zero_b

-- the answer no, without a test
abbrev pub no_test : Test
no_test = No

-- what a comparison asks, in the code
abbrev pub test : Question → Test
test yes' = Yes
test no' = no_test
test (ask e) = Ask (expr_of e)

-- 0 to 0
abbrev pub blank_range : Range
blank_range = record { low = pos 0; high = pos 0 }

-- the ranges of the code
abbrev pub range_list : Ranges → List Range
range_list b = places_from blank_range b.list 0 PARAMETERS

-- 0 to 0 for each
abbrev pub zero_ranges : Ranges
zero_ranges = record { list = places_from blank_range [] 0 PARAMETERS }

-- a valuation of the code from its parameters
abbrev pub valuation_of : List ℤ → Valuation
valuation_of v = record { numbers = four v }

abbrev pub zero_valuation : Valuation
zero_valuation = valuation_of []
