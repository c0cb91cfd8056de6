-- The loop's invariant: what the stack and the zones still to come hold together is what all zones hold.
use mathlib.Core.Path.{◌≡◌, refl, sym, ap}
use mathlib.Core.Bool.{true}
use Prim.Native.Nat.{◌<◌}
use native.Mathlib.Omega.{arith}
use lib.ListN.{length, get_or, length-take}
use Rattle.siblings.specs.Siblings.{Siblings}
use Rattle.zones.specs.declared.zone.Zone.{Zone}
use Rattle.kept.specs.Stacks.{no_zone, zones_in, zones_long, zones_at_lem}
use Rattle.kept.specs.declared.stack.Top.{Top}
use Rattle.kept.specs.StackLaws.{top_bound, step_keeps, step_less, stacked_start, stacked_end, sib_at}
use Rattle.kept.proofs.stack.stacked.Goals as goal
use Rattle.kept.proofs.stack.stacked.Goals.{After-siblings-joined}

pub loop-s-init : goal.loop-s-init
loop-s-init c =
    let a = c.args in
    let z = zones_in a.cells.now a.counts.now in
    let l : length z ≡ 32 = zones_long a.cells.now a.counts.now 32 0 in
    let e = c.min-m.ensures in
    (omega arith, omega (arith, length-take a.n z), stacked_start z a.n _ _ refl)

pub highest-t-requires : goal.highest-t-requires
highest-t-requires c =
    let v = c.loop-s.invariant in
    omega (arith, v.0, v.2.fits)

-- the two on top lie in the list
below_of : (t u : Top) → t ≡ u → u.below < 32 → t.below < 32
below_of t u e h = rw e h

top_in : (t u : Top) → t ≡ u → u.top < 32 → t.top < 32
top_in t u e h = rw e h

pub siblings-joined-requires : goal.siblings-joined-requires
siblings-joined-requires c =
    let fits = top_bound _ _ _ _ c.loop-s.invariant.2 in (
      c.requires.0,
      (
        omega (arith, below_of _ _ c.highest-t.ensures fits.0),
        omega (arith, top_in _ _ c.highest-t.ensures fits.1),
      ),
    )

pub bounds-counts-next : goal.bounds-counts-next
bounds-counts-next c =
    let v = c.loop-s.invariant in
    omega (arith, v.0, c.loop-s-test.true, c.requires.1)

pub step-s-requires : goal.step-s-requires
step-s-requires c =
    let v = c.loop-s.invariant in
    (v.2.fits, (v.0, c.loop-s-test.true))

-- two zones that are found to be halves
joined : (c : After-siblings-joined) →
    let a = c.args in
    let z = zones_in a.cells.now a.counts.now in
    let t = c.highest-t.result in
    c.siblings-joined.result ≡ true → Siblings (get_or z t.below no_zone).ineqs (get_or z t.top no_zone).ineqs t.level
joined c e =
    let a = c.args in
    let fits = top_bound _ _ _ _ c.loop-s.invariant.2 in
    sib_at a.cells.now a.counts.now _ _ _ (below_of _ _ c.highest-t.ensures fits.0)
    (top_in _ _ c.highest-t.ensures fits.1) (c.siblings-joined.ensures e)

pub loop-s-smaller : goal.loop-s-smaller
loop-s-smaller c =
    let loop = c.loop-s in
    let v = loop.invariant in
    rw c.step-s.ensures (step_less _ _ _ v.1 v.0 loop.s v.2 c.loop-s-test.true _ _ _
    c.highest-t.ensures (joined (goal.at.loop-s-smaller c).After-siblings-joined))

pub loop-s-preserved : goal.loop-s-preserved
loop-s-preserved c =
    let loop = c.loop-s in
    let v = loop.invariant in
    let a = c.args in (
      v.0,
      v.1,
      rw c.step-s.ensures (step_keeps _ _ _ v.1 v.0 loop.s v.2 c.loop-s-test.true _ _ _
          c.highest-t.ensures (joined (goal.at.loop-s-preserved c).After-siblings-joined)
          (λ h. ap (λ (z : Zone). z.count) (sym (zones_at_lem a.cells.now a.counts.now loop.s.next (omega (arith, v.0)))))),
    )

pub returns : goal.returns
returns c =
    let loop = c.loop-s in
    let v = loop.invariant in record {
      count_bound = (omega (arith, v.0, v.2.fits), v.2.bound);
      same = stacked_end _ _ _ loop.s v.1 v.2 (omega (arith, c.loop-s-test.false));
    }
