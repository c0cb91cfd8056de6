-- The tests are those of `outside`, in order; a number in its range fits 16 bits.
use mathlib.Core.Path.{◌≡◌, ap, ◌∙◌}
use mathlib.Core.Bool.{true, not}
use native.Mathlib.Omega.{arith}
use lib.IntN.{pos}
use lib.ListN.{get_or}
use mir.Syntax.{w16, w64}
use mir.Val.{SFits}
use mir.ValLaws.{to_z-of_z}
use Rattle.expr.specs.Records.{blank_range}
use Rattle.sweep.specs.Reply.{in_range}
use Rattle.sweep.proofs.Replies.{placing_start, placing_turn, placing_out, placing_all}
use Rattle.sweep.proofs.Replies.{told_inside, told_outside}
use borrow.Author.Rules.{rules}
use Rattle.sweep.proofs.reply.in_ranges.Goals.{Else-not-in_range}
use Rattle.sweep.proofs.reply.in_ranges.Goals as goal

pub loop-i-init : goal.loop-i-init
loop-i-init c = placing_start c.args.b.list c.args.numbers.list

pub returns-then-not-in_range : goal.returns-then-not-in_range
returns-then-not-in_range c =
    let turn = c.before.before.before.before in
    let loop = turn.loop-i in
    let a = turn.args in
    let l = a.b.list in
    let xs = a.numbers.list in
    placing_out l xs loop.i loop.v turn.loop-i-test.true loop.invariant
    (told_outside (get_or l loop.i blank_range) (get_or xs loop.i (pos 0)) _ (search rules)
    c.in_range.ensures (ap not c.if-not-in_range.true))

number-inside : (c : Else-not-in_range) →
    let turn = c.before.before.before.before in
    let i = turn.loop-i.i in
    let a = turn.args in
    in_range (get_or a.b.list i blank_range) (get_or a.numbers.list i (pos 0)) ≡ true
number-inside c =
    let turn = c.before.before.before.before in
    let i = turn.loop-i.i in
    let a = turn.args in
    told_inside (get_or a.b.list i blank_range) (get_or a.numbers.list i (pos 0)) _ (search rules)
    c.in_range.ensures (ap not c.if-not-in_range.false)

pub loop-i-preserved : goal.loop-i-preserved
loop-i-preserved c =
    let turn = c.before.before.before.before.before in
    let loop = turn.loop-i in
    let a = turn.args in
    let x = get_or a.numbers.list loop.i (pos 0) in
    let f : SFits w64 x = search rules in
    placing_turn a.b.list a.numbers.list loop.i loop.v _ turn.loop-i-test.true loop.invariant (number-inside c.before)
    (to_z-of_z w16 c.value_in.result (search rules) ∙ c.value_in.ensures ∙ to_z-of_z w64 x f)

pub returns : goal.returns
returns c =
    let loop = c.loop-i in
    let a = c.args in
    placing_all a.b.list a.numbers.list loop.i loop.v (omega arith) loop.invariant
