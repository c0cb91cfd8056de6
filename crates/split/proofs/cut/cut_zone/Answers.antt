-- The loop's invariant: the parts on the stack, worked from the top down, come to what the zone comes to.
use Prim.Native.Nat.{◌-◌}
use native.Mathlib.Omega.{arith}
use mathlib.Core.Path.{sym, ◌∙◌}
use Rattle.zones.specs.Fits.{hinted_new}
use lib.ListN.{get_or, replicate}
use Rattle.split.specs.Stack.{no_part, Turn, drained, cut_sticks, start_turned, ends_turned, refused_turned, room_turned}
use Rattle.split.specs.Stack.{splits_turned, splits_less, ends_less, all_turned, start_whole, top_live}
use Rattle.split.proofs.cut.cut_zone.Goals as goal
use Rattle.split.proofs.cut.cut_zone.Goals.{After-ended-next}

-- the turn that is made when `ended` has returned
abbrev TurnAt : After-ended-next → Type 0
TurnAt c =
    let a = c.args in
    Turn a.b a.r c.loop-n.stack c.loop-n.n c.loop-n.now c.ended-next.result
    (drained a.b a.r (replicate 25 c.start-stack.result) 1 a.out) c.run-p.result

turn : (c : After-ended-next) → TurnAt c
turn c =
    let a = c.args in
    let hinted = c.hint_of-hint in
    record {
      top = omega (arith, c.loop-n-test.true);
      turned = c.loop-n.invariant;
      ran = c.run-p.ensures a.b
          (hinted_new a.b _ hinted.result hinted.ensures.narrows hinted.ensures.held hinted.ensures.new);
      ended = c.ended-next.ensures;
    }

pub returns-then-out-gt0 : goal.returns-then-out-gt0
returns-then-out-gt0 c = let a = c.args in cut_sticks a.b a.r a.zone a.out c.if-out-gt0.true

pub loop-n-init : goal.loop-n-init
loop-n-init c =
    let a = c.args in
    start_turned a.b a.r a.zone a.out c.start-stack.result c.start-stack.ensures

pub overflow_sub-top : goal.overflow_sub-top
overflow_sub-top c = omega (arith, c.loop-n-test.true)

pub offset_bounds-stack-top : goal.offset_bounds-stack-top
offset_bounds-stack-top c = omega (arith, c.loop-n.invariant.few)

pub bounds-stack-top : goal.bounds-stack-top
bounds-stack-top c = omega (arith, c.loop-n-test.true, c.loop-n.invariant.few)

pub run-p-requires : goal.run-p-requires
run-p-requires c =
    let at-loop = c.loop-n in
    let a = c.args in (
      top_live at-loop.stack at-loop.n (at-loop.n - 1) (omega (arith, c.loop-n-test.true)) at-loop.invariant.waiting,
      (hinted_new a.b (get_or at-loop.stack (at-loop.n - 1) no_part).zone c.hint_of-hint.result c.hint_of-hint.ensures.narrows
          c.hint_of-hint.ensures.held c.hint_of-hint.ensures.new).trusted,
    )

pub returns-then-now-gt0 : goal.returns-then-now-gt0
returns-then-now-gt0 c =
    let after-ended = (goal.at.returns-then-now-gt0 c).After-ended-next in
    let a = c.args in
    refused_turned (turn after-ended) c.if-now-gt0.true
    ∙ start_whole a.b a.r a.zone a.out c.start-stack.result c.start-stack.ensures

pub offset_bounds-stack-top-then-is_split : goal.offset_bounds-stack-top-then-is_split
offset_bounds-stack-top-then-is_split c =
    let after-ended = (goal.at.offset_bounds-stack-top-then-is_split c).After-ended-next in
    omega (arith, (turn after-ended).turned.few)

pub bounds-stack-top-then-is_split : goal.bounds-stack-top-then-is_split
bounds-stack-top-then-is_split c =
    let after-ended = (goal.at.bounds-stack-top-then-is_split c).After-ended-next in
    omega (arith, (turn after-ended).top, (turn after-ended).turned.few)

pub offset_bounds-stack-n : goal.offset_bounds-stack-n
offset_bounds-stack-n c =
    let after-ended = (goal.at.offset_bounds-stack-n c).After-ended-next in
    omega (arith, (turn after-ended).turned.few)

pub bounds-stack-n : goal.bounds-stack-n
bounds-stack-n c =
    let after-ended = (goal.at.bounds-stack-n c).After-ended-next in
    room_turned (turn after-ended) (sym c.is_split.ensures ∙ c.if-is_split.true)

pub overflow_add-n : goal.overflow_add-n
overflow_add-n c =
    let after-ended = (goal.at.overflow_add-n c).After-ended-next in
    omega (arith, (turn after-ended).turned.few)

pub loop-n-smaller-then-is_split : goal.loop-n-smaller-then-is_split
loop-n-smaller-then-is_split c =
    let after-ended = (goal.at.loop-n-smaller-then-is_split c).After-ended-next in
    splits_less (turn after-ended) (sym c.is_split.ensures ∙ c.if-is_split.true) c.no_part-no.ensures c.yes_part-yes.ensures

pub loop-n-preserved-then-is_split : goal.loop-n-preserved-then-is_split
loop-n-preserved-then-is_split c =
    let after-ended = (goal.at.loop-n-preserved-then-is_split c).After-ended-next in
    splits_turned (turn after-ended) (sym c.is_split.ensures ∙ c.if-is_split.true) c.no_part-no.ensures c.yes_part-yes.ensures

pub loop-n-smaller : goal.loop-n-smaller
loop-n-smaller c =
    let after-ended = (goal.at.loop-n-smaller c).After-ended-next in
    let at-loop = after-ended.loop-n in
    ends_less at-loop.stack at-loop.n (at-loop.n - 1) (turn after-ended).top

pub loop-n-preserved : goal.loop-n-preserved
loop-n-preserved c = let after-ended = (goal.at.loop-n-preserved c).After-ended-next in ends_turned (turn after-ended) (sym c.is_split.ensures ∙ c.if-is_split.false)

pub returns : goal.returns
returns c =
    let at-loop = c.loop-n in
    let a = c.args in
    all_turned a.b a.r at-loop.stack at-loop.n at-loop.now _ c.loop-n-test.false at-loop.invariant
    ∙ start_whole a.b a.r a.zone a.out c.start-stack.result c.start-stack.ensures
