-- A step that leaves a zone as it is.
use Rattle.std.specs.Prelude.{◌≡◌, ℕ}
use Rattle.expr.specs.declared.bound.Test.{Test}
use Rattle.expr.specs.declared.range.Ranges.{Ranges}
use Rattle.passing.specs.Laws.{pass_one}
use Rattle.split.specs.Listed.{list_c}
use Rattle.split.specs.declared.list.Counted.{Counted}
use Rattle.steps.specs.declared.step.Step.{Step}
use Rattle.zones.specs.Hinted.{Hinted}
use Rattle.zones.specs.Settled.{settled_c}
use Rattle.zones.specs.declared.hint.Hint.{Hint}
use Rattle.zones.specs.declared.told.Told.TheVariants as kinds
use Rattle.zones.specs.declared.zone.Zone.{Zone}

-- the verdict on the test is no, on every zone that the hint is of
abbrev pub Fails : Hint → Test → Type 0
Fails h t = (b : Ranges) (z : Zone) → Hinted b z h → (settled_c b z t).kind ≡ kinds.No

-- what the step makes of zone z is zone y, listed with some count of tests
pub record Leaves (b : Ranges) (w : ℕ) (st : Step) (z y : Zone) : Type 0 where
  pub tests : ℕ
  pub same : (out : Counted) → pass_one b w st z out ≡ list_c y tests out

-- .. the zone as it is
abbrev pub Idle : Ranges → ℕ → Step → Zone → Type 0
Idle b w st z = Leaves b w st z z
