-- What the search answers of a first valuation.
use Rattle.std.specs.Prelude.{◌≡◌, Bool, true, false, List, ℤ, IfSome}
use Rattle.std.specs.Prelude as code
use Rattle.std.proofs.Math.Option.{Option, none, some}

-- whether something was found
abbrev pub is_some : Option (List ℤ) → Bool
is_some none = false
is_some (some v) = true

-- what is seen of an answer, where it is seen: the answer
abbrev pub Glanced : Bool → code.Option Bool → Type 0
Glanced answer r = IfSome r (λ seen. seen ≡ answer)
