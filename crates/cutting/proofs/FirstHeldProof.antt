-- The proof of FirstHeld: the start holds every valuation of the ranges, a test that is settled changes nothing, and one that splits has
-- a valuation on each side.
use Rattle.std.specs.Prelude.{◌≡◌, refl, List, [], ◌∷◌, ◌++◌, true, false, ℤ}
use Rattle.std.proofs.Common.{sym, subst, arith}
use Rattle.std.proofs.Math.Option.{Option}
use Rattle.std.proofs.Math.Option as option
use Rattle.expr.specs.Affine.{Affine, opposite}
use Rattle.expr.specs.Ranges.{Inside}
use Rattle.expr.specs.Records.{range_list}
use Rattle.integer.specs.Apart.{apart}
use Rattle.valuations.specs.First.{IsFirst}
use Rattle.valuations.proofs.FirstProof.{search_right}
use Rattle.valuations.specs.SearchLaws.{first_none}
use Rattle.valuations.specs.Valuations.{satisfies, first, numbers_in}
use Rattle.expr.specs.declared.range.Range.{Range}
use Rattle.timed.specs.Automaton.{route_of}
use Rattle.timed.specs.Steps.{steps_of}
use Rattle.cutting.specs.Cutting.{Zone, start_zone, listed, never, zones_along, zones_of}
use Rattle.cutting.specs.Every.{Splits, Has, Right, one_of, AnyMatrix}
use Rattle.cutting.proofs.Every.{any_lasting, parts_right}
use Rattle.cutting.specs.FirstHeld.{first_held, AlongFirst, ZonesFirst}

-- the search finds a valuation that meets the inequalities
abbrev pub Met : List Range → List Affine → Type 0
Met rs is = (v : List ℤ) × (first rs is ≡ option.some v)

pub never_met : (rs : List Range) (is : List Affine) (e : Affine) → never rs is e ≡ false → Met rs (is ++ (e ∷ []))
unfolding never
never_met rs is e h = by (first rs (is ++ (e ∷ []))) refl
  where
    by : (o : Option (List ℤ)) → first rs (is ++ (e ∷ [])) ≡ o → Met rs (is ++ (e ∷ []))
    by option.none q = let k = rw q at h in apart cc
    by (option.some v) q = (v, q)

met_splits : (rs : List Range) → Splits rs (Met rs)
met_splits rs is e i l p q = (never_met rs is e p, never_met rs is (opposite e) q)

start_met : (rs : List Range) (v : List ℤ) → Inside v rs → Met rs []
unfolding satisfies
start_met rs v i = by (first rs []) refl
  where
    by : (o : Option (List ℤ)) → first rs [] ≡ o → Met rs []
    by option.none q = let f : true ≡ false = first_none rs [] q v i in apart cc
    by (option.some u) q = (u, q)

met_first : (rs : List Range) (z : Zone) → Met rs z.ineqs → IsFirst rs z.ineqs (first_held rs z)
unfolding first_held
met_first rs z m =
    let is-first = ((search_right rs z.ineqs).found m.0).0 m.1 in
    subst (λ (o : Option (List ℤ)). IsFirst rs z.ineqs (numbers_in o)) (sym m.1) is-first

pub along_first : AlongFirst
unfolding zones_along
along_first s v inside route zs q z i =
    let rs = range_list s.ranges in
    let start : Right (Has (Met rs) AnyMatrix) (listed (start_zone ∷ [])) = (omega arith, ((start_met rs v inside, tt), tt)) in
    let r = subst (Right (Has (Met rs) AnyMatrix)) q
    (parts_right rs (Met rs) AnyMatrix (met_splits rs) s.clocks (any_lasting s.clocks) (steps_of s route) (start_zone ∷ []) start) in
    met_first rs z (one_of (Has (Met rs) AnyMatrix) zs r.1 z i).0

pub zones_first : ZonesFirst
unfolding zones_of
zones_first s v inside zs q z i = along_first s v inside (route_of s) zs q z i
