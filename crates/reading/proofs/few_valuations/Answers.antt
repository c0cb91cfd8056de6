-- `few_valuations` meets its contract: the count of all valuations is the product of the widths, and what counts as 2^64 - 1 is more than
-- 262,144 too.
use Prim.Native.Nat.{ℕ, min}
use mathlib.Core.Path.{◌≡◌, refl}
use mathlib.Core.List.{List, []}
use mathlib.Core.Bool.{Bool, true, false}
use native.Mathlib.Omega.{arith}
use lib.Dec.{leb}
use borrow.Author.Tests.{leb-true, leb-false, le-leb, lt-leb}
use Rattle.expr.specs.declared.range.Range.{Range}
use Rattle.valuations.specs.SearchLaws.{count_all}
use Rattle.valuations.specs.Valuations.{count, widths}
use Rattle.inequalities.specs.Flat.{exprs_from}
use Rattle.reading.proofs.few_valuations.Goals as goal

capped : (n : ℕ) (b : Bool) → leb n 262144 ≡ b → leb (min n 18446744073709551615) 262144 ≡ b
capped n true e =
    let h = leb-true n 262144 e in
    le-leb (min n 18446744073709551615) 262144 (omega arith)
capped n false e =
    let h = leb-false n 262144 e in
    lt-leb (min n 18446744073709551615) 262144 (omega arith)

few : (r : ℕ) (rs : List Range) → r ≡ min (count rs []) 18446744073709551615 → leb r 262144 ≡ leb (widths rs) 262144
few r rs e = rw (e, count_all rs) (capped (widths rs) (leb (widths rs) 262144) refl)

pub returns : goal.returns
unfolding exprs_from
returns c = few _ _ c.count.ensures
