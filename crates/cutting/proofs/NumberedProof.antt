-- The proof of Numbered: nothing is asked of zones, and refusals are as in Every.
use Rattle.std.proofs.Common.{subst, inl, inr, arith}
use Rattle.std.specs.Prelude.{List, [], ◌∷◌, ℕ, ◌<◌}
use Rattle.expr.specs.Affine.{Affine}
use Rattle.expr.specs.Records.{range_list}
use Rattle.timed.specs.Automaton.{route_of}
use Rattle.timed.specs.Steps.{steps_of}
use Rattle.cutting.specs.Cutting.{start_zone, zones_along, zones_of, SevenOrEight}
use Rattle.cutting.specs.Every.{Right, Has, AnyMatrix}
use Rattle.cutting.proofs.Every.{any_lasting, parts_right}
use Rattle.cutting.specs.Numbered.{AlongNumbered, ZonesNumbered}

abbrev Any : List Affine → Type 0
Any is = Unit {0}

-- neither number is 0
pub some_number : (n : ℕ) → SevenOrEight n → 0 < n
some_number n (inl e) = omega arith
some_number n (inr e) = omega arith

pub along_numbered : AlongNumbered
unfolding zones_along
along_numbered s route m visit q = subst (Right (Has Any AnyMatrix)) q
    (parts_right (range_list s.ranges) Any AnyMatrix (λ is e i l p q. (tt, tt)) s.clocks (any_lasting s.clocks) (steps_of s route)
    (start_zone ∷ []) (omega arith, ((tt, tt), tt)))

pub zones_numbered : ZonesNumbered
unfolding zones_of
zones_numbered s m visit q = along_numbered s (route_of s) m visit q
