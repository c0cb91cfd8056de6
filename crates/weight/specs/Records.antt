-- The code's record of a weight, as what the definitions are about, and back.
use Rattle.std.specs.Prelude.{true, false, cond, ℤ, pos}
use Rattle.weight.specs.Upper.{Upper, none, upper, zero_w}
use Rattle.weight.specs.declared.Weight.{Weight}

-- a weight of the code
abbrev pub weight_as : Weight → Upper ℤ
weight_as w = cond w.none none (upper w.strict w.value)

-- the code's record of a weight; none has the number 0 and is not strict
abbrev pub weight_of : Upper ℤ → Weight
weight_of none = record { none = true; strict = false; value = pos 0 }
weight_of (upper s x) = record { none = false; strict = s; value = x }

-- the code's none, and its zero, not strict
abbrev pub none_weight : Weight
none_weight = weight_of none

abbrev pub zero_weight : Weight
zero_weight = weight_of zero_w
