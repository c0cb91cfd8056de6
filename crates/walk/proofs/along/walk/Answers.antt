-- The loop's invariant: what is left of the route takes the matrix to where the whole route takes it.
use Prim.Native.Nat.{ℕ}
use Rattle.expr.specs.Records.{point}
use Rattle.sheet.specs.Lookup.{transition_c}
use Rattle.index.specs.SheetIn.{sheet_in}
use borrow.Author.Rules.{rules}
use lib.ListN.{length}
use mathlib.Core.Path.{◌≡◌, ap, ◌∙◌}
use native.Mathlib.Omega.{arith}
use Rattle.walk.proofs.Steps.{size_is, walk_begun, walk_turn, walk_done}
use Rattle.walk.proofs.along.walk.Goals as goal

pub loop-k-init : goal.loop-k-init
unfolding sheet_in
loop-k-init c =
    let a = c.args in
    let l : length a.ix.route ≡ 32 = search rules in
    let h = size_is _ a.ix.moves 32 a.ix.route c.min-n.ensures l in
    (h.0, h.1, (0, (c.location_at-here.ensures, walk_begun _ _ _ _ c.location_at-here.ensures c.start-m.ensures)))

pub bounds-ix-k : goal.bounds-ix-k
unfolding sheet_in
bounds-ix-k c = omega arith

pub loop-k-preserved : goal.loop-k-preserved
unfolding sheet_in
loop-k-preserved c =
    let at-stay = c.before in
    let at-location-at = at-stay.before in
    let at-transition-at = at-location-at.before in
    let at-index = at-transition-at.before in
    let at-loop = at-index.before.before.before in
    let a = at-loop.args in
    let i = at-loop.loop-k in
    let v = i.invariant in
    let s = sheet_in a.file.now a.ix in (
      v.0,
      v.1,
      (
        at-transition-at.transition_at-t.result.to,
        (
          at-location-at.location_at-there.ensures,
          walk_turn s (point a.v) i.k v.2.0 i.m _ _ _ _ _ _ (omega arith) v.2.1.1
              (at-transition-at.transition_at-t.ensures ∙ ap (λ (n : ℕ). transition_c s n) at-index.from.ensures)
              v.2.1.0 at-location-at.location_at-there.ensures at-stay.stay.ensures c.moved-next.ensures,
        ),
      ),
    )

pub returns : goal.returns
unfolding sheet_in
returns c =
    let at-loop = c.before.before in
    let a = at-loop.args in
    let i = at-loop.loop-k in
    walk_done (sheet_in a.file.now a.ix) (point a.v) i.k i.invariant.2.0 i.m _ _ _ (omega arith) i.invariant.2.1.1
    i.invariant.2.1.0 c.stay-2.ensures
