-- The loop's invariant: what is left of the guards takes the matrix to where all of them take it.
use Rattle.expr.specs.Records.{point}
use Rattle.guards.specs.Guards.{no_guard}
use Rattle.walk.specs.Walked.{guard_table}
use borrow.Author.Rules.{rules}
use lib.ListN.{length, get_or, take}
use mathlib.Core.List.{List}
use Prim.Native.Nat.{ℕ, ◌≤◌, ◌<◌}
use Rattle.std.proofs.lemmas.List.{length-take, get_or-take}
use Rattle.guards.specs.declared.Guard.{Guard}
use mathlib.Core.Path.{◌≡◌, refl, ap, ◌∙◌}
use native.Mathlib.Omega.{arith}
use Rattle.walk.proofs.Steps.{size_is, guard_made, guard_kept, guards_turn, guards_done}
use Rattle.walk.proofs.along.guards_of.Goals.{then-changes, else-changes}
use Rattle.walk.proofs.along.guards_of.Goals as goal

pub loop-g-init : goal.loop-g-init
loop-g-init c =
    let a = c.args in
    let l : length a.guards ≡ 6 = search rules in
    let h = size_is _ a.count 6 a.guards c.min-n.ensures l in
    (h.0, h.1, refl)

-- those that the loop goes over are n
goes_over : (n : ℕ) (xs : List Guard) → length xs ≡ 6 → n ≤ 6 → length (take n xs) ≡ n
goes_over n xs e h = length-take n xs ∙ omega arith

pub loop-g-preserved : goal.loop-g-preserved
loop-g-preserved c =
    let a = c.args in
    let i = c.loop-g in
    let v = i.invariant in
    let n = c.min-n.result in
    let g = get_or (take n a.guards) i.g-index no_guard in
    let l : length a.guards ≡ 6 = search rules in
    let few : i.g-index < n = omega (arith, goes_over n a.guards l v.0) in
    let next : c.if-changes.now ≡ guard_table i.now a.clocks (point a.v) g =
    elim c.if-changes.branch [
      | then-changes w ↦ w.now-is ∙ guard_made i.now a.clocks (point a.v) g _ c.bound_at-e.ensures _ w.guarded-next.ensures
      | else-changes w ↦
          w.now-is
          ∙ guard_kept i.now a.clocks (point a.v) g _ c.bound_at-e.ensures _ _ _ c.min-i.ensures c.min-j.ensures c.changes.ensures
          w.if-changes.false
    ] in (
      v.0,
      v.1,
      guards_turn a.clocks (point a.v) a.guards a.count i.g-index _ _ _ _ (omega arith) v.2
          (next ∙ ap (guard_table i.now a.clocks (point a.v)) (get_or-take n a.guards i.g-index no_guard few)),
    )

pub returns : goal.returns
returns c =
    let a = c.args in
    let l : length a.guards ≡ 6 = search rules in
    let v = c.loop-g.invariant in
    guards_done a.clocks (point a.v) a.guards a.count c.loop-g.g-index _ _
    (omega (arith, goes_over c.min-n.result a.guards l v.0, v.0, v.1)) v.2
