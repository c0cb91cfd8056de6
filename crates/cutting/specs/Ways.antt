-- One guard (paper: limit) on one zone (paper: piece), with the tests counted (paper 02, request (j), "A ceiling on tests"), for any number
-- of parameters and clocks. A test is one that is asked of the zone, settled or split; an answer that comes with no test (against none)
-- is none. The count is along one way: from the guard's first test to the zone that is listed.
use Rattle.std.specs.Prelude.{List, [], ◌∷◌, ◌++◌, map, true, false, cond, ℕ, suc, ltb, length}
use Rattle.expr.specs.Affine.{Affine, opposite}
use Rattle.weight.specs.Upper.{Upper}
use Rattle.expr.specs.declared.range.Range.{Range}
use Rattle.cutting.specs.Cutting.{Zone, Tree, cut, keep, asks, guard_tree, Listing, listed, refused, INEQS, ZONES, never}

-- the end of a way: the zone that is listed, and how many tests were asked on the way to it
pub record Way : Type 0 where
  pub zone : Zone
  pub tests : ℕ

-- the ways so far in order; or refusal 7 or 8 at a visit
pub data Outcome : Type 0 where
  leads : List Way → Outcome
  refuses : ℕ → ℕ → Outcome

-- a way leads to a zone that is listed, unless that would be the 33rd
unfoldable pub list_way : ℕ → Way → List Way → Outcome
list_way visit w ws = cond (ltb (length ws) ZONES) (leads (ws ++ (w ∷ []))) (refuses 7 visit)

-- the tree of tests worked as Cutting's `worked` does, k tests having been asked before it: each test that the tree asks is one more on
-- the ways behind it
unfoldable pub counting : List Range → ℕ → Tree → ℕ → List Affine → Outcome → Outcome
counting rs visit cut k is (leads ws) = leads ws
counting rs visit (keep m) k is (leads ws) = list_way visit (record { zone = record { ineqs = is; bounds = m }; tests = k }) ws
counting rs visit (asks e f) k is (leads ws) =
    cond (never rs is e) (counting rs visit (f false) (suc k) is (leads ws))
    (cond (never rs is (opposite e)) (counting rs visit (f true) (suc k) is (leads ws))
    (cond (ltb (length is) INEQS)
    (counting rs visit (f false) (suc k) (is ++ (opposite e ∷ [])) (counting rs visit (f true) (suc k) (is ++ (e ∷ [])) (leads ws)))
    (refuses 8 visit)))
counting rs visit cut k is (refuses n v) = refuses n v
counting rs visit (keep m) k is (refuses n v) = refuses n v
counting rs visit (asks e f) k is (refuses n v) = refuses n v

-- one guard i - j with the bound e on one zone, for w clocks: no test has been asked before its first
unfoldable pub guard_ways : List Range → ℕ → ℕ → ℕ → ℕ → Upper Affine → Zone → Outcome
guard_ways rs visit w i j e z = counting rs visit (guard_tree w i j e z.bounds) 0 z.ineqs (leads [])

-- the same without the counts: the zones, or the refusal
abbrev pub without_counts : Outcome → Listing
without_counts (leads ws) = listed (map (λ w. w.zone) ws)
without_counts (refuses n v) = refused n v
