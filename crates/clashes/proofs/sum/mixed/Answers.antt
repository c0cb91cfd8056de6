-- The loop's invariant: the sum so far, with the most that the products still to come add, is the most of all.
use mathlib.Core.Path.{◌≡◌, ap, ◌∙◌}
use mathlib.Core.List.{List}
use Prim.Native.Nat.{ℕ, ◌+◌, ◌<◌}
use native.Mathlib.Omega.{arith}
use lib.IntN.{ℤ, pos, ◌+ℤ◌}
use lib.ListN.{length, get_or}
use mir.Syntax.{w32, w64}
use mir.Val.{SFits, to_z, of_z}
use mir.ValLaws.{to_z-of_z}
use Rattle.expr.specs.Records.{PARAMETERS, blank_range}
use Rattle.expr.specs.declared.number.Expr.{Expr}
use Rattle.expr.specs.declared.range.Range.{Range}
use Rattle.narrowing.specs.Best.{best}
use Rattle.clashes.specs.Sizes.{SizedCoef, SizedMost}
use Rattle.clashes.specs.Weighted.{weigh}
use Rattle.clashes.proofs.Sums.{SumTo, weigh_heard, coef_fits, most_fits, sum_start, sum_turn, sum_fits, sum_all}
use borrow.Author.Rules.{rules}
use Rattle.clashes.proofs.sum.mixed.Goals as goal

pub loop-i-init : goal.loop-i-init
loop-i-init c =
    let s = c.args in
    let f : SFits w32 s.e.constant = search rules in
    let g : SFits w32 s.f.constant = search rules in
    let l = to_z w64 (of_z w64 s.l) in
    let m = to_z w64 (of_z w64 s.m) in
    let w = c.weighed-sum in
    rw (to_z-of_z w64 w.result (coef_fits _ w.ensures.small))
    (sum_start l s.e m s.f s.b.list w.result (weigh_heard l _ m _ _ w.ensures.value f g) w.ensures.small)

-- the sum with one product more
sum-next : (l : ℤ) (e : Expr) (m : ℤ) (f : Expr) (rs : List Range) (i : ℕ) (sum w y : ℤ) → SumTo l e m f rs i sum → i < PARAMETERS
    → length rs ≡ PARAMETERS → SFits w32 (get_or e.coefs i (pos 0)) → SFits w32 (get_or f.coefs i (pos 0))
    → w ≡ weigh l (to_z w32 (of_z w32 (get_or e.coefs i (pos 0)))) m (to_z w32 (of_z w32 (get_or f.coefs i (pos 0)))) → SizedCoef w
    → y ≡ best (to_z w64 (of_z w64 w)) (get_or rs i blank_range) → SizedMost y
    → SumTo l e m f rs (i + 1) (sum +ℤ to_z w64 (of_z w64 y))
sum-next l e m f rs i sum w y t h k fx fy v s u z =
    let q = to_z-of_z w64 w (coef_fits _ s) ∙ weigh_heard l (get_or e.coefs i (pos 0)) m (get_or f.coefs i (pos 0)) w v fx fy in
    rw (to_z-of_z w64 y (most_fits _ z))
    (sum_turn l e m f rs i _ y t h k (u ∙ ap (λ (z : ℤ). best z (get_or rs i blank_range)) q) z)

pub overflow_add-sum : goal.overflow_add-sum
overflow_add-sum c =
    let s = sum-next _ c.args.e _ c.args.f c.args.b.list c.loop-i.i _ c.weighed-a.result c.most-sum.result c.loop-i.invariant
    (omega arith) (search rules) (search rules) (search rules) c.weighed-a.ensures.value c.weighed-a.ensures.small
    c.most-sum.ensures.value c.most-sum.ensures.small in
    sum_fits (c.loop-i.i + 1) _ (omega arith) s.size

pub loop-i-preserved : goal.loop-i-preserved
loop-i-preserved c =
    let s = sum-next _ c.args.e _ c.args.f c.args.b.list c.loop-i.i _ c.weighed-a.result c.most-sum.result c.loop-i.invariant
    (omega arith) (search rules) (search rules) (search rules) c.weighed-a.ensures.value c.weighed-a.ensures.small
    c.most-sum.ensures.value c.most-sum.ensures.small in
    rw (to_z-of_z w64 _ (sum_fits (c.loop-i.i + 1) _ (omega arith) s.size)) s

pub returns : goal.returns
returns c =
    let p = sum_all _ c.args.e _ c.args.f c.args.b.list c.loop-i.i _ c.loop-i.invariant (omega arith) (search rules) in
    let q = rw (to_z-of_z w64 _ c.ranges.l, to_z-of_z w64 _ c.ranges.m) at p.0 in
    record { value = q; small = p.1 }
