-- The loop's invariant: what is cut so far loses no valuation at which the inequality holds.
use mathlib.Core.Path.{◌≡◌}
use native.Mathlib.Omega.{arith}
use lib.IntN.{pos}
use lib.ListN.{length, get_or}
use mir.Syntax.{w32, w64}
use mir.Val.{SFits, to_z, of_z}
use mir.ValLaws.{to_z-of_z}
use Rattle.std.proofs.lemmas.Int.{ints}
use Rattle.expr.specs.Records.{PARAMETERS}
use Rattle.narrowing.proofs.Terms.{cut_start, cut_turn, cut_none}
use borrow.Author.Rules.{rules}
use Rattle.narrowing.proofs.boxes.narrowed_by.Goals as goal

pub returns-then-s-lt0 : goal.returns-then-s-lt0
returns-then-s-lt0 g c =
    let l : length c.args.b.list ≡ PARAMETERS = search rules in
    cut_none c.args.e c.args.b.list c.best-s.result l c.best-s.ensures.value (grind (arith, ints))

pub loop-i-init : goal.loop-i-init
loop-i-init g c = cut_start c.args.e c.args.b.list

pub loop-i-preserved : goal.loop-i-preserved
loop-i-preserved g c =
    let loop = c.loop-i in
    let l : length c.args.b.list ≡ PARAMETERS = search rules in
    let m = c.best-s.result in
    let s : to_z w64 (of_z w64 m) ≡ m = omega (arith, ints) in
    let a = get_or c.args.e.coefs loop.i (pos 0) in
    let f : SFits w32 a = search rules in
    cut_turn c.args.e c.args.b.list loop.i m loop.c.list c.part.result (omega arith) l c.best-s.ensures.value
    (rw (s, to_z-of_z w32 a f) at (c.requires.given _ _ _ _ (rw s c.best-s.ensures.small) c.part.ensures)) loop.invariant
