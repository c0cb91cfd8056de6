-- One guard over zones in order, on the code's records.
use Rattle.std.specs.Prelude.{cond, List, [], ◌∷◌, ℕ, ltb, take}
use Rattle.expr.specs.declared.range.Ranges.{Ranges}
use Rattle.guards.specs.declared.Guard.{Guard}
use Rattle.split.specs.Listed.{none_at}
use Rattle.split.specs.Trees.{tree_at, worked_c}
use Rattle.split.specs.declared.list.Counted.{Counted}
use Rattle.constrain.specs.declared.rule.Rule.{Rule}
use Rattle.zones.specs.declared.zone.Zone.{Zone}
use Rattle.zones.specs.declared.zone.Zones.{Zones}

-- the rule of a guard for a zone's matrix
abbrev pub rule_c : ℕ → Guard → Zone → Rule
rule_c clocks g z = record { clocks = clocks; left = g.left; right = g.right; bound = g.bound; old = z.bounds }

-- what was listed, and then the parts of a zone that a guard leaves, the tests counted from its first one on
unfoldable pub cut_c : Ranges → Rule → Zone → Counted → Counted
cut_c b r z out = worked_c b (tree_at r 0 z.bounds) 0 z out

-- what a guard leaves of one zone at a visit
unfoldable pub one_c : Ranges → ℕ → Guard → ℕ → Zone → Counted
one_c b clocks g visit z = cut_c b (rule_c clocks g z) z (none_at visit)

-- what was listed, and then the parts of zones in order
unfoldable pub cut_all : Ranges → ℕ → Guard → List Zone → Counted → Counted
cut_all b clocks g [] out = out
cut_all b clocks g (z ∷ zs) out = cut_all b clocks g zs (cut_c b (rule_c clocks g z) z out)

-- what a guard leaves of zones in order; zones that were refused stay so, and so do all where the guard has no such clock
unfoldable pub guarded_c : Ranges → ℕ → Guard → Zones → Zones
guarded_c b clocks g zs =
    cond (ltb 0 zs.refusal) zs
    (cond (ltb 4 g.left) zs
    (cond (ltb 4 g.right) zs (cut_all b clocks g (take zs.count zs.list) (none_at zs.visit)).zones))
