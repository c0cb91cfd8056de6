-- The same coefficients, and a constant that is no more.
use mathlib.Core.Path.{◌≡◌, ap}
use mathlib.Core.List.{List}
use native.Mathlib.Omega.{arith}
use lib.IntN.{ℤ, pos}
use lib.ListN.{get_or}
use Rattle.std.proofs.lemmas.Bool.Decides.{Decides-int_eq}
use Rattle.std.proofs.lemmas.Int.{ints}
use Rattle.std.proofs.lemmas.Slice.Eq.{slice_eq-Decides}
use Rattle.nogoods.specs.Nogoods.{same_less}
use Rattle.nogoods.proofs.at_most.Goals as goal

pub returns-then-eq : goal.returns-then-eq
returns-then-eq c =
    let s = c.args in
    let same : s.e.coefs ≡ s.f.coefs = (slice_eq-Decides Decides-int_eq _ _ _ c.eq.ensures).0 c.if-eq.true in
    λ no_more. same_less s.e s.f (λ m h. ap (λ (l : List ℤ). get_or l m (pos 0)) same) (grind (arith, ints))
