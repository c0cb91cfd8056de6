-- A range at whose ends the line holds stays; else its interval is left.
use mathlib.Core.Path.{◌≡◌, ◌∙◌}
use native.Mathlib.Omega.{arith}
use lib.IntN.{ℤ, ◌+ℤ◌, ◌*ℤ◌}
use mir.Facts.{sfits_widen}
use mir.Syntax.{w16, w32, w64}
use mir.Val.{SFits, to_z, of_z}
use mir.ValLaws.{to_z-of_z}
use Rattle.integer.specs.Bits.{held, heard, passed}
use Rattle.integer.specs.Product.{size_fits}
use Rattle.inequalities.specs.Sizes.{SizedTo}
use Rattle.intervals.specs.Interval.{interval}
use Rattle.intervals.specs.IntervalLaws.{interval_whole, slope_tame}
use Rattle.rows.proofs.Ends.{end_asks, end_holds, sized_tame}
use borrow.Author.Rules.{rules}
use Rattle.rows.proofs.lines.held.Goals as goal

pub overflow_add-c : goal.overflow_add-c
overflow_add-c c = end_asks 5 _ _ (omega arith) c.at-c.ensures.small c.term.ensures.small

pub overflow_add-c-then-c-term-ge0 : goal.overflow_add-c-then-c-term-ge0
overflow_add-c-then-c-term-ge0 c = end_asks 5 _ _ (omega arith) c.at-c.ensures.small c.term-then-c-term-ge0.ensures.small

-- what the line is at x
at-is : (v k f x : ℤ) → v ≡ k +ℤ (f *ℤ to_z w16 (of_z w16 x)) → SFits w16 x → v ≡ k +ℤ (f *ℤ x)
at-is v k f x e h = rw (to_z-of_z w16 x h) at e

pub returns-then-c-term-ge0-2 : goal.returns-then-c-term-ge0-2
returns-then-c-term-ge0-2 c =
    let v = c.at-c in
    let s = c.args in
    let c₀ = s.q.constant +ℤ (s.q.first *ℤ s.x) in
    let a = s.q.second in
    let f : SFits w32 a = search rules in
    let l : SFits w16 s.r.low = search rules in
    let h : SFits w16 s.r.high = search rules in
    let is = at-is v.result s.q.constant s.q.first s.x v.ensures.value c.ranges.x in
    interval_whole s.r c₀ a
    (end_holds 5 v.result c.term.result (omega arith) v.ensures.small c.term.ensures.small c₀ a s.r.low is
    (heard ◌*ℤ◌ w32 w16 _ a s.r.low c.term.ensures.value f l) c.if-c-term-ge0.true)
    (end_holds 5 v.result c.term-then-c-term-ge0.result (omega arith) v.ensures.small c.term-then-c-term-ge0.ensures.small c₀ a s.r.high is
    (heard ◌*ℤ◌ w32 w16 _ a s.r.high c.term-then-c-term-ge0.ensures.value f h) c.if-c-term-ge0-2.true)

-- what `interval` is asked, each held as its bits
value-is : (x : ℤ) → SizedTo 5 x → to_z w64 (of_z w64 x) ≡ x
value-is x h = to_z-of_z w64 x (size_fits w64 x (omega (arith, h)))

slope-is : (x a : ℤ) → x ≡ to_z w32 (of_z w32 a) → SFits w32 a → to_z w64 (of_z w64 x) ≡ a
slope-is x a e f = held w64 _ _ (passed w32 _ _ e f) (sfits_widen {w = w32} tt f)

pub interval-requires : goal.interval-requires
interval-requires c =
    let v = c.at-c in
    let f : SFits w32 c.args.q.second = search rules in
    rw (value-is v.result v.ensures.small, slope-is c.from.result c.args.q.second c.from.ensures f)
    (sized_tame _ v.ensures.small, slope_tame _ f)

pub returns : goal.returns
returns c =
    let s = c.args in
    let v = c.at-c in
    let f : SFits w32 s.q.second = search rules in
    let is = value-is v.result v.ensures.small ∙ at-is v.result s.q.constant s.q.first s.x v.ensures.value c.ranges.x in
    let slope = slope-is c.from.result s.q.second c.from.ensures f in
    c.interval.ensures ∙ (λ i. interval s.r (is i) (slope i))
